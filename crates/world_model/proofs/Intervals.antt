-- The part intervals: what a message left out comes later, so a message sent stays exact.
use Rattle.std.proofs.Common.{◌≡◌, ◌⊎◌, ⊎_elim, inl, inr, ℕ, ◌+◌, ◌<◌, ◌≤◌, max, min, cond, leb, ltb, Bool, true, false, ◌&&◌, List, [], ◌∷◌, Option, refl, sym, ap, ◌∙◌, subst, subst₂, arith, le_refl, le_trans}
use Rattle.std.proofs.lemmas.Bool.{cases_Bool, or_right, and_left, and_parts, leb-true, cond-true, cond-false, cond_both}
use Rattle.site_vector.specs.declared.ids.PartId.{PartId}
use Rattle.site_vector.specs.declared.ids.TxId.{TxId}
use Rattle.site_vector.specs.Ids.{same_part}
use Rattle.site_vector.specs.Order.{same_part_refl}
use Rattle.site_vector.specs.Vector.{entry}
use Rattle.crdt_core.specs.declared.record.Message.{Message}
use Rattle.crdt_core.specs.declared.record.Record.{Record}
use Rattle.crdt_core.specs.declared.record.Record.TheVariants.{Lease}
use Rattle.crdt_core.specs.Log.{committed_at, prepared, prepare_time, prepared_changes, committed, aborted, pending, ceiling, end_of_time, grown, lease_for}
use Rattle.world_model.specs.rules.Event.{Event, Began, Sent, Reported, Entry, is_decided, time_of, WasShown, WasNumbered, EventsAre}
use Rattle.world_model.proofs.Runs.{begin_told, sent_after, sent}
use Rattle.crdt_core.specs.KindsOf.{Kinds}
use Rattle.world_model.specs.rules.Partition.{PartState, Finds, PartStep, IsMessage, IsOwnBound, OwnEntry}
use Rattle.world_model.specs.lines.Lines.{Wish}
use Rattle.world_model.specs.rules.Plan.{Plan, takes_part, vector_at, commit_vector}
use Rattle.world_model.specs.events.Reads.{IsExact}
use Rattle.world_model.proofs.Names.{clash, part_cases, part_same, part_other}
use Rattle.world_model.proofs.Parts.{parts_map}
use Rattle.world_model.proofs.Moves.{Move, image_log}
use Rattle.world_model.proofs.Fate.{Fate, full_same_time, pending_parts}
use Rattle.world_model.proofs.Later.{IsLater, Later, full_now, later_now, waited, in_log, takes, own_time, later_step, too_late}

-- none of three, where one is false
pub none : (x y z : Bool) → (x ≡ true → y ≡ true → z ≡ true → ⊥) → false ≡ (x && (y && z))
none true true true h = absurd (h refl refl refl)
none true true false h = refl
none true false z h = refl
none false y z h = refl

told_grows : (b : Bool) (n old : ℕ) → old ≤ begin_told b n old
told_grows true n old = omega arith
told_grows false n old = le_refl old

module _ {E : Type 0} where
  pub record Intervals (plan : Plan E) (run : List (Entry E)) (parts : PartId → PartState E) : Type 0 where
    pub seen : (q : PartId) → sent run q ≤ (parts q).now
    pub later : (q : PartId) (t : TxId) → Later run parts q (sent run q) t

  sent_grows : (site old : ℕ) (event : Event E) → old ≤ sent_after site old event
  sent_grows site old (Sent asked m) = omega arith
  sent_grows site old (Reported b) = omega arith
  sent_grows site old (Began who wish t s) = told_grows wish.stable (entry s site) old
  sent_grows site old event = le_refl old

  pub sent_more : (run : List (Entry E)) (e : Entry E) (q : PartId) → sent run q ≤ sent (e ∷ run) q
  sent_more run e q = cond_both (same_part e.at q) (sent_after q.site (sent run q) e.event) (sent run q) (λ x. sent run q ≤ x) (λ _. sent_grows q.site (sent run q) e.event) (λ _. le_refl _)

  pub shown_sent : (run : List (Entry E)) (p : PartId) (asked : Option ℕ) (m : Message E) → WasShown run p (Sent asked m) → m.hi ≤ sent run p
  shown_sent [] p asked m w = absurd w
  shown_sent (e ∷ run) p asked m w = ⊎_elim
      (λ (x : (e.at ≡ p) × (e.event ≡ Sent asked m)).
      let h : m.hi ≤ sent_after p.site (sent run p) (Sent asked m) = omega arith in
      subst (λ y. m.hi ≤ y) (sym (cond-true (same_part e.at p) _ _ (part_same e.at p x.0) ∙ ap (sent_after p.site (sent run p)) x.1)) h)
      (λ (x : WasShown run p (Sent asked m)). le_trans (shown_sent run p asked m x) (sent_more run e p))
      w

  pub shown_reported : (run : List (Entry E)) (p : PartId) (b : List ℕ) → WasShown run p (Reported b) → entry b p.site ≤ sent run p
  shown_reported [] p b w = absurd w
  shown_reported (e ∷ run) p b w = ⊎_elim
      (λ (x : (e.at ≡ p) × (e.event ≡ Reported b)).
      let h : entry b p.site ≤ sent_after {E = E} p.site (sent run p) (Reported b) = omega arith in
      subst (λ y. entry b p.site ≤ y) (sym (cond-true (same_part e.at p) _ _ (part_same e.at p x.0) ∙ ap (sent_after p.site (sent run p)) x.1)) h)
      (λ (x : WasShown run p (Reported b)). le_trans (shown_reported run p b x) (sent_more run e p))
      w

  pub numbered_shown : (count : List (Entry E) → PartId → ℕ) (run : List (Entry E)) (number : ℕ) (p : PartId) (event : Event E) → WasNumbered count run number p event → WasShown run p event
  numbered_shown count [] number p event w = absurd w
  numbered_shown count (e ∷ run) number p event w = ⊎_elim (λ (x : (e.at ≡ p) × (e.event ≡ event) × (number ≡ count run p + 1)). inl (x.0, x.1)) (λ (x : WasNumbered count run number p event). inr (numbered_shown count run number p event x)) w

  pub shown_has : (Q : PartId → Event E → Type 0) (run : List (Entry E)) (p : PartId) (event : Event E) → EventsAre Q run → WasShown run p event → Q p event
  shown_has Q [] p event h w = absurd w
  shown_has Q (e ∷ run) p event h w = ⊎_elim (λ (x : (e.at ≡ p) × (e.event ≡ event)). subst₂ Q x.0 x.1 h.0) (λ (x : WasShown run p event). shown_has Q run p event h.1 x) w

  pub events_map : (P Q : PartId → Event E → Type 0) → ((p : PartId) (a : Event E) → P p a → Q p a) → (run : List (Entry E)) → EventsAre P run → EventsAre Q run
  events_map P Q h [] r = tt
  events_map P Q h (e ∷ run) r = (h e.at e.event r.0, events_map P Q h run r.1)

  module _ {S : Type 0} (kinds : Kinds S E) (plan : Plan E) (run : List (Entry E)) (before after : PartId → PartState E) (at : PartId) (event : Event E) (s : PartStep kinds plan.sites plan.parts at (before at) event (after at)) (mv : Move plan run before after at event) (f : Fate plan run before) (f' : Fate plan ((record { at = at; event = event }) ∷ run) after) (rise : (q : PartId) → (before q).now ≤ (after q).now) (v : Intervals plan run before) where
    abbrev next : List (Entry E)
    next = (record { at = at; event = event }) ∷ run

    seen_begin : (wish : Wish) (time n : ℕ) (b : Bool) → OwnEntry plan.parts at (before at) wish time n b → begin_told b n (sent run at) ≤ (after at).now
    seen_begin wish time n true o = let h = v.seen at in let k = rise at in let m = o.0.most in let c = o.0.own.most in omega arith
    seen_begin wish time n false o = le_trans (v.seen at) (rise at)

    seen_here : (a : Event E) → PartStep kinds plan.sites plan.parts at (before at) a (after at) → sent_after at.site (sent run at) a ≤ (after at).now
    seen_here (Sent asked m) st = let h = v.seen at in let k = rise at in let b = st.1.hi.most in let e : (after at).now ≡ (before at).now = ap (λ p. p.now) st.2 in omega arith
    seen_here (Reported b) st = let h = v.seen at in let k = rise at in let c = st.1.own.most in let e : (after at).now ≡ (before at).now = ap (λ p. p.now) st.2 in omega arith
    seen_here (Began who wish t c) st = seen_begin wish t.time (entry c at.site) wish.stable st.1.own
    seen_here a st = le_trans (v.seen at) (rise at)

    seen_step : (q : PartId) → sent next q ≤ (after q).now
    seen_step q = ⊎_elim
        (λ (e : at ≡ q). subst (λ x. sent next x ≤ (after x).now) e (subst (λ x. x ≤ (after at).now) (sym (cond-true (same_part at at) _ _ (same_part_refl at))) (seen_here event s)))
        (λ (ne : at ≡ q → ⊥). subst (λ x. x ≤ (after q).now) (sym (cond-false (same_part at q) _ _ (part_other at q ne))) (le_trans (v.seen q) (rise q)))
        (part_cases at q)

    -- later, against the history before and the bound before
    pub later_before : (q : PartId) (t : TxId) (m : List (Record E)) → Finds (after q) m → prepared m t ≡ true → IsLater run t (sent run q) m
    later_before q t m i h = later_step plan run before after at event mv f f' q (sent run q) t (v.seen q) (v.later q t) m i h

    -- later than both is later than the greater
    later_max : (n : ℕ) (t : TxId) (m : List (Record E)) → IsLater run t n m → IsLater run t (sent run at) m → IsLater run t (max n (sent run at)) m
    later_max n t m now old = ⊎_elim
        (λ (y : aborted m t ≡ true). inl y)
        (λ (y : (n < prepare_time m t) ⊎ ((is_decided run t ≡ true) × (committed m t ≡ true))). ⊎_elim
        (λ (k : n < prepare_time m t). ⊎_elim
        (λ (z : aborted m t ≡ true). inl z)
        (λ (z : (sent run at < prepare_time m t) ⊎ ((is_decided run t ≡ true) × (committed m t ≡ true))). ⊎_elim (λ (c : sent run at < prepare_time m t). inr (inl (omega arith))) (λ (c : (is_decided run t ≡ true) × (committed m t ≡ true)). inr (inr c)) z)
        old)
        (λ (k : (is_decided run t ≡ true) × (committed m t ≡ true)). inr (inr k))
        y)
        now

    -- above an own bound that is told now, and above what was told before
    later_bound : (n : ℕ) → (before at).up ≡ true → IsOwnBound (before at).now (before at).log n → (t : TxId) (m : List (Record E)) → m ≡ (before at).log → Finds (after at) m → prepared m t ≡ true → IsLater run t (max n (sent run at)) m
    later_bound n up own t m same i h = later_max n t m (subst (IsLater run t n) (sym same) (later_now plan run before f at n up t (λ w. own.below t w) (subst (λ y. prepared y t ≡ true) same h))) (later_before at t m i h)

    -- a lease tells nothing of transactions
    leased : {A : Type 0} (tell : List (Record E) → A) → ((k : ℕ) (l : List (Record E)) → tell (Lease k ∷ l) ≡ tell l) → (log : List (Record E)) (n : ℕ) → tell (grown log (lease_for log n)) ≡ tell log
    leased tell h log n = elim (leb n (ceiling log)) as (λ b. tell (grown log (cond b [] (Lease (min (n + 1000) end_of_time) ∷ []))) ≡ tell log) [ true ↦ refl | false ↦ h (min (n + 1000) end_of_time) log ]

    later_begin : (wish : Wish) (time n : ℕ) (b : Bool) → OwnEntry plan.parts at (before at) wish time n b → (before at).up ≡ true → (t : TxId) (m : List (Record E)) → m ≡ grown (before at).log (lease_for (before at).log time) → Finds (after at) m → prepared m t ≡ true → IsLater run t (begin_told b n (sent run at)) m
    later_begin wish time n false o up t m same i h = later_before at t m i h
    later_begin wish time n true o up t m same i h =
        let log = (before at).log in
        let was : prepared log t ≡ true = sym (leased (λ l. prepared l t) (λ k l. refl) log time) ∙ (sym (ap (λ l. prepared l t) same) ∙ h) in
        let least = o.0.most in
        let now : IsLater run t n log = later_now plan run before f at n up t (λ w. let x = o.0.own.below t w in omega arith) was in
        let ea : aborted m t ≡ aborted log t = ap (λ l. aborted l t) same ∙ leased (λ l. aborted l t) (λ k l. refl) log time in
        let ec : committed m t ≡ committed log t = ap (λ l. committed l t) same ∙ leased (λ l. committed l t) (λ k l. refl) log time in
        let et : prepare_time m t ≡ prepare_time log t = ap (λ l. prepare_time l t) same ∙ leased (λ l. prepare_time l t) (λ k l. refl) log time in
        later_max n t m
        (⊎_elim
        (λ (y : aborted log t ≡ true). inl (ea ∙ y))
        (λ (y : (n < prepare_time log t) ⊎ ((is_decided run t ≡ true) × (committed log t ≡ true))). inr (⊎_elim (λ (z : n < prepare_time log t). inl (subst (λ x. n < x) (sym et) z)) (λ (z : (is_decided run t ≡ true) × (committed log t ≡ true)). inr (z.0, ec ∙ z.1)) y))
        now)
        (later_before at t m i h)

    later_here : (a : Event E) → PartStep kinds plan.sites plan.parts at (before at) a (after at) → (t : TxId) (m : List (Record E)) → Finds (after at) m → prepared m t ≡ true → IsLater run t (sent_after at.site (sent run at) a) m
    later_here (Sent asked x) st t m i h = later_bound x.hi st.0 st.1.hi t m (subst (λ p. Finds p m) st.2 i) i h
    later_here (Reported b) st t m i h = later_bound (entry b at.site) st.0 st.1.own t m (subst (λ p. Finds p m) st.2 i) i h
    later_here (Began who wish u c) st t m i h = later_begin wish u.time (entry c at.site) wish.stable st.1.own st.0 t m (subst (λ p. Finds p m) st.2 i) i h
    later_here a st t m i h = later_before at t m i h

    history_more : (t : TxId) (b : ℕ) (m : List (Record E)) → IsLater run t b m → IsLater next t b m
    history_more t b m x = ⊎_elim
        (λ (y : aborted m t ≡ true). inl y)
        (λ (y : (b < prepare_time m t) ⊎ ((is_decided run t ≡ true) × (committed m t ≡ true))). inr (⊎_elim (λ (z : b < prepare_time m t). inl z) (λ (z : (is_decided run t ≡ true) × (committed m t ≡ true)). inr (or_right _ _ z.0, z.1)) y))
        x

    intervals_later : (q : PartId) (t : TxId) → Later next after q (sent next q) t
    intervals_later q t m i h = history_more t (sent next q) m (⊎_elim
        (λ (e : at ≡ q). subst (λ x. IsLater run t (sent next x) m) e (subst (λ b. IsLater run t b m) (sym (cond-true (same_part at at) _ _ (same_part_refl at))) (later_here event s t m (subst (λ x. Finds (after x) m) (sym e) i) h)))
        (λ (ne : at ≡ q → ⊥). subst (λ b. IsLater run t b m) (sym (cond-false (same_part at q) _ _ (part_other at q ne))) (later_before q t m i h))
        (part_cases at q))

    pub intervals_step : Intervals plan next after
    intervals_step = record { seen = seen_step; later = intervals_later }

    -- who comes into the history now is above all that was sent
    pub above_sent : (q : PartId) (t : TxId) → is_decided run t ≡ false → is_decided next t ≡ true → takes_part plan t q ≡ true → sent run q < time_of next t
    above_sent q t out now u = too_late plan run before after at event mv f f' q (sent run q) t (v.seen q) (v.later q t) out now u

    pub same_time : (t : TxId) → is_decided run t ≡ true → time_of next t ≡ time_of run t
    same_time t h = full_same_time plan run before after at event mv f t (full_now plan run before f t h)

    pub same_commit : (t : TxId) → is_decided run t ≡ true → commit_vector plan run t ≡ commit_vector plan next t
    same_commit t h = ap (λ c. vector_at plan t c) (sym (same_time t h))

    pub in_more : (t : TxId) → is_decided run t ≡ true → is_decided next t ≡ true
    in_more t h = or_right _ _ h

    -- a message that was sent stays exact
    pub exact_step : (q : PartId) (m : Message E) → m.hi ≤ sent run q → IsExact plan run q m → IsExact plan next q m
    exact_step q m b x = record {
      order = x.order;
      members = λ u. ⊎_elim
          (λ (k : is_decided run u ≡ true). x.members u ∙ rw (in_more u k, k, same_time u k) refl)
          (λ (k : is_decided run u ≡ false). x.members u ∙ and_left _ _ k ∙ none _ _ _ (λ c p r.
          let a = above_sent q u k c p in
          let d = leb-true _ _ (and_parts (ltb m.lo (time_of next u)) (leb (time_of next u) m.hi) r).1 in
          absurd (omega arith)))
          (cases_Bool (is_decided run u));
      exact = parts_map (commit_vector plan run) (commit_vector plan next) (λ u. plan.updates u q) (λ u. plan.updates u q) m.parts (λ t h. (same_commit t (and_parts _ _ (sym (x.members t) ∙ h)).0, refl)) x.exact;
    }

  -- up to an own bound that a partition ever told, its clock has come, and nothing that is pending lies: so no read under such a snapshot waits
  pub never_waits : (plan : Plan E) (run : List (Entry E)) (parts : PartId → PartState E) → Intervals plan run parts → (p : PartId) (c : ℕ) → c ≤ sent run p → (c ≤ (parts p).now) × ((u : TxId) → pending (parts p).log u ≡ true → c < prepare_time (parts p).log u)
  never_waits plan run parts v p c told = (
    le_trans told (v.seen p),
    λ u w.
        let l = (parts p).log in
        let x = pending_parts l u w in ⊎_elim
        (λ (a : aborted l u ≡ true). clash a x.aborted)
        (λ (y : (sent run p < prepare_time l u) ⊎ ((is_decided run u ≡ true) × (committed l u ≡ true))). ⊎_elim
        (λ (z : sent run p < prepare_time l u). let t = told in omega arith)
        (λ (z : (is_decided run u ≡ true) × (committed l u ≡ true)). clash z.1 x.committed)
        y)
        (v.later p u l (image_log (parts p)) x.prepared),
  )

  -- a message that is sent now is exact
  pub exact_now : (plan : Plan E) (run : List (Entry E)) (before : PartId → PartState E) (f : Fate plan run before) (at : PartId) (asked : Option ℕ) (m : Message E) → (before at).up ≡ true → IsMessage plan.sites at (before at) asked m → IsExact plan run at m
  exact_now plan run before f at asked m up s =
      let log = (before at).log in record {
        order = s.order;
        members = λ u. ⊎_elim
            (λ (c : committed log u ≡ true).
            let t : entry (committed_at log u) at.site ≡ time_of run u = own_time plan run before f at u c in
            s.members u ∙ rw (c, in_log plan run before f at m.hi up u c, t, takes plan run before f at u c) refl)
            (λ (c : committed log u ≡ false). s.members u ∙ and_left _ _ c ∙ none _ _ _ (λ k p r.
            let w = waited plan run before f at m.hi up u (λ x. s.hi.below u x) c k p in
            let d = leb-true _ _ (and_parts (ltb m.lo (time_of run u)) (leb (time_of run u) m.hi) r).1 in
            absurd (omega arith)))
            (cases_Bool (committed log u));
        exact = parts_map (committed_at log) (commit_vector plan run) (prepared_changes log) (λ u. plan.updates u at) m.parts (λ u h.
            let c = (and_parts _ _ (sym (s.members u) ∙ h)).0 in
            let i = image_log (before at) in
            (f.time at log u i c, f.wrote at log u i (f.first at log u i c))) s.exact;
      }
