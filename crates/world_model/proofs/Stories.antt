-- Every update of a run was generated on what it has seen, and every value is the meaning of what is read.
use Rattle.std.proofs.Common.{◌≡◌, ⊎_elim, ℕ, ◌+◌, ◌≤◌, cond, Bool, true, false, not, ◌&&◌, ◌||◌, List, [], ◌∷◌, ◌++◌, length, refl, sym, ap, ◌∙◌, subst, arith, append-nil, append_assoc}
use Rattle.std.specs.Prelude.{◌==◌, filter, map, Option}
use Rattle.std.proofs.lemmas.List.{map-append}
use Rattle.std.proofs.lemmas.List.Folds.{list_any-append}
use Rattle.std.proofs.lemmas.Bool.{cases_Bool, or_cases, and_from, cond-true, cond-false, eqb-true}
use Rattle.site_vector.specs.declared.ids.PartId.{PartId}
use Rattle.site_vector.specs.declared.ids.TxId.{TxId}
use Rattle.site_vector.specs.declared.ids.Dot.{Dot}
use Rattle.site_vector.specs.Ids.{same_part, same_tx}
use Rattle.site_vector.specs.Order.{same_part_is, same_tx_is}
use Rattle.crdt_core.specs.declared.object.ObjectId.{ObjectId}
use Rattle.crdt_core.specs.declared.operation.Op.{Op}
use Rattle.crdt_core.specs.declared.record.Upd.{Upd}
use Rattle.crdt_core.specs.declared.record.Part.{Part}
use Rattle.crdt_core.specs.Kinds.{reads_state}
use Rattle.crdt_core.specs.Fits.{fits}
use Rattle.crdt_core.specs.Objects.{same_object}
use Rattle.crdt_core.specs.History.{folded}
use Rattle.crdt_core.specs.Parts.{touches}
use Rattle.world_model.specs.rules.Event.{Event, Updated, Read, Entry, shown, EventsAre, attempt}
use Rattle.crdt_core.specs.KindsOf.{Kinds}
use Rattle.world_model.specs.rules.Partition.{PartState, PartStep}
use Rattle.crdt_core.specs.Folds.{effects_from, effects_of, state_read}
use Rattle.world_model.specs.rules.Plan.{Plan, is_some_update, takes_part, IsAllowed, change_by, updates_at, update_count, IsNew}
use Rattle.world_model.specs.events.Reads.{IsRightFold, IsRight, Asked, asked_by, asked_at, read_by, HasMeaning, HaveMeaning}
use Rattle.world_model.specs.rules.World.{plan_of, own_parts, is_own, changes_of, IsWorldRun}
use Rattle.world_model.proofs.Names.{off}
use Rattle.world_model.proofs.Leases.{Leases}
use Rattle.world_model.proofs.Histories.{Facts, IsMade, AreMade, has_index}
use Rattle.world_model.proofs.Meanings.{told_read, value_is, stamp_is, stamp_unread}

module _ {E : Type 0} where
  -- the changes of what was asked are the updates
  by_event : (now : ℕ) (event : Event E) (t : TxId) → map (λ a. a.change) (asked_by now event t) ≡ change_by event t
  by_event now (Updated u s o own op read x stamp) t = go (same_tx u t)
    where
      go : (b : Bool) → map (λ (a : Asked E). a.change) (cond b (record { change = x; op = op; stamp = stamp; now = now } ∷ []) []) ≡ cond b (x ∷ []) []
      go true = refl
      go false = refl
  by_event now event t = refl

  pub asked_changes : (run : List (Entry E)) (t : TxId) (p : PartId) → map (λ a. a.change) (asked_at run t p) ≡ updates_at run t p
  asked_changes [] t p = refl
  asked_changes (e ∷ run) t p =
      map-append (λ (a : Asked E). a.change) (asked_at run t p) (cond (same_part e.at p) (asked_by (shown run p) e.event t) [])
      ∙ (λ i. asked_changes run t p i ++ go (same_part e.at p) i)
    where
      go : (b : Bool) → map (λ (a : Asked E). a.change) (cond b (asked_by (shown run p) e.event t) []) ≡ cond b (change_by e.event t) []
      go true = by_event (shown run p) e.event t
      go false = refl

  -- updates of other objects change nothing of a read
  own_only : (o : ObjectId) (t : TxId) (us : List (Upd E)) (older : List (Dot × E)) → effects_from o t older (filter (λ u. same_object u.object o) us) ≡ effects_from o t older us
  own_only o t [] older = refl
  own_only o t (u ∷ us) older = ⊎_elim
      (λ (k : same_object u.object o ≡ true). ap (effects_from o t older) (cond-true _ (u ∷ filter (λ x. same_object x.object o) us) _ k) ∙ own_only o t us (cond (same_object u.object o) ((record { tx = t; index = u.index }, u.effect) ∷ older) older))
      (λ (k : same_object u.object o ≡ false). ap (effects_from o t older) (cond-false _ (u ∷ filter (λ x. same_object x.object o) us) _ k) ∙ own_only o t us older ∙ ap (λ l. effects_from o t l us) (sym (cond-false _ ((record { tx = t; index = u.index }, u.effect) ∷ older) older k)))
      (cases_Bool (same_object u.object o))

  made_snoc : {S : Type 0} (kinds : Kinds S E) (plan : Plan E) (run : List (Entry E)) (p : PartId) (t : TxId) (asks : List (Asked E)) (earlier : List (Upd E)) (a : Asked E) → AreMade kinds plan run p t earlier asks → IsMade kinds plan run p t (earlier ++ map (λ x. x.change) asks) a → AreMade kinds plan run p t earlier (asks ++ a ∷ [])
  made_snoc kinds plan run p t [] earlier a m n = (subst (λ l. IsMade kinds plan run p t l a) (append-nil earlier) n, tt)
  made_snoc kinds plan run p t (b ∷ asks) earlier a m n = (m.0, made_snoc kinds plan run p t asks (earlier ++ b.change ∷ []) a m.1 (subst (λ l. IsMade kinds plan run p t l a) (sym (append_assoc earlier (b.change ∷ []) (map (λ x. x.change) asks))) n))

  -- numbers so far are at most the count so far
  count_grows : (event : Event E) (t : TxId) (n c : ℕ) → n ≤ c → n ≤ c + length (change_by event t)
  count_grows event t n c h = omega arith

  counted_event : (run : List (Entry E)) (event : Event E) (t : TxId) (n : ℕ) → IsNew run event → has_index (change_by event t) n ≡ true → n ≤ update_count run t + length (change_by event t)
  counted_event run (Updated u s o own op read x stamp) t n w h = ⊎_elim
      (λ (k : same_tx u t ≡ true).
      let e : change_by (Updated u s o own op read x stamp) t ≡ x ∷ [] = cond-true _ (x ∷ []) [] k in
      let l : length (change_by (Updated u s o own op read x stamp) t) ≡ 1 = ap length e in
      let i : (x.index == n || false) ≡ true = sym (ap (λ us. has_index us n) e) ∙ h in
      let j : x.index ≡ n = ⊎_elim (λ (y : (x.index == n) ≡ true). eqb-true x.index n y) (λ (y : false ≡ true). off y) (or_cases _ _ i) in
      let c : x.index ≡ update_count run t + 1 = subst (λ y. x.index ≡ update_count run y + 1) (same_tx_is u t k) w.number in
      omega arith)
      (λ (k : same_tx u t ≡ false). off (sym (ap (λ us. has_index us n) (cond-false _ (x ∷ []) [] k)) ∙ h))
      (cases_Bool (same_tx u t))
  counted_event run event t n w h = off h

  counted : {S : Type 0} (kinds : Kinds S E) (sites parts : ℕ) (run : List (Entry E)) (state : PartId → PartState E) → IsWorldRun kinds sites parts run state → (t : TxId) (p : PartId) (n : ℕ) → has_index (updates_at run t p) n ≡ true → n ≤ update_count run t
  counted kinds sites parts [] state r t p n h = off h
  counted kinds sites parts (e ∷ run) state r t p n h = ⊎_elim
      (λ (k : has_index (updates_at run t p) n ≡ true). count_grows e.event t n (update_count run t) (counted kinds sites parts run r.0 r.1 t p n k))
      (λ (k : has_index (cond (same_part e.at p) (change_by e.event t) []) n ≡ true). counted_event run e.event t n r.3 (some (same_part e.at p) k))
      (or_cases _ _ (sym (list_any-append _ (updates_at run t p) (cond (same_part e.at p) (change_by e.event t) [])) ∙ h))
    where
      some : (b : Bool) → has_index (cond b (change_by e.event t) []) n ≡ true → has_index (change_by e.event t) n ≡ true
      some true k = k
      some false k = off k

  module _ {S : Type 0} (kinds : Kinds S E) (plan : Plan E) (whole : List (Entry E)) where
    -- an update that is made now
    made_now : (sites parts : ℕ) (run : List (Entry E)) (before : PartId → PartState E) (at : PartId) (q : PartState E) (u : TxId) (s : List ℕ) (o : ObjectId) (own : List (Upd E)) (op : Op) (read : List (Part E)) (x : Upd E) (stamp : Option ℕ) (near : Plan E) → Leases run before → IsWorldRun kinds sites parts run before → IsAllowed near run before at (Updated u s o own op read x stamp) → PartStep kinds sites parts at (before at) (Updated u s o own op read x stamp) q → IsNew run (Updated u s o own op read x stamp) → IsRight kinds plan whole at (Updated u s o own op read x stamp) → IsMade kinds plan whole at u (map (λ a. a.change) (asked_at run u at)) (record { change = x; op = op; stamp = stamp; now = shown run at })
    made_now sites parts run before at q u s o own op read x stamp near l w al st new right =
        let e : o ≡ x.object = sym st.1.object in
        let same : state_read kinds o u own read ≡ state_read kinds o u (map (λ a. a.change) (asked_at run u at)) read =
        ap (λ us. state_read kinds o u us read) al.earlier ∙ ap (λ es. folded (kinds.initial o.kind) kinds.applied es) (own_only o u (updates_at run u at) (effects_of o [] read)) ∙ ap (λ us. state_read kinds o u us read) (sym (asked_changes run u at)) in record {
          known = subst (λ y. kinds.has y.kind ≡ true) e st.1.known;
          fits = subst (λ y. (fits y.kind op.path op.act && not (kinds.too_deep y.kind op.path)) ≡ true) e st.1.fits;
          stamped = st.1.stamped;
          read = read;
          fold = subst (λ y. reads_state y.kind ≡ true → IsRightFold plan whole at (plan.snapshot u) y read) e (λ h. subst (λ v. IsRightFold plan whole at v o read) right.0 (right.1 h));
          effect = subst (λ y. x.effect ≡ kinds.generated y.kind (state_read kinds y u (map (λ a. a.change) (asked_at run u at)) read) op.path op.act (shown run at)) e
              (st.1.effect ∙ (λ i. kinds.generated o.kind (same i) op.path op.act ((l.clock at).now i)));
          above = λ n h. let c = counted kinds sites parts run before w u at n (ap (λ us. has_index us n) (sym (asked_changes run u at)) ∙ h) in let k = new.number in omega arith;
        }

    made_event : (sites parts : ℕ) (run : List (Entry E)) (before : PartId → PartState E) (at : PartId) (q : PartState E) (event : Event E) (near : Plan E) → Leases run before → IsWorldRun kinds sites parts run before → IsAllowed near run before at (attempt event) → PartStep kinds sites parts at (before at) event q → IsNew run event → IsRight kinds plan whole at event → (t : TxId) → AreMade kinds plan whole at t [] (asked_at run t at) → AreMade kinds plan whole at t [] (asked_at run t at ++ asked_by (shown run at) event t)
    made_event sites parts run before at q (Updated u s o own op read x stamp) near l w al st new right t m = ⊎_elim
        (λ (k : same_tx u t ≡ true).
        let y : Asked E = record { change = x; op = op; stamp = stamp; now = shown run at } in
        subst (λ rest. AreMade kinds plan whole at t [] (asked_at run t at ++ rest)) (sym (cond-true _ (y ∷ []) [] k))
        (made_snoc kinds plan whole at t (asked_at run t at) [] y m (subst (λ v. IsMade kinds plan whole at v (map (λ a. a.change) (asked_at run v at)) y) (same_tx_is u t k) (made_now sites parts run before at q u s o own op read x stamp near l w al st new right))))
        (λ (k : same_tx u t ≡ false). subst (λ rest. AreMade kinds plan whole at t [] (asked_at run t at ++ rest)) (sym (cond-false _ (record { change = x; op = op; stamp = stamp; now = shown run at } ∷ []) [] k)) (subst (AreMade kinds plan whole at t []) (sym (append-nil (asked_at run t at))) m))
        (cases_Bool (same_tx u t))
    made_event sites parts run before at q event near l w al st new right t m = subst (AreMade kinds plan whole at t []) (sym (append-nil (asked_at run t at))) m

    pub stories : (sites parts : ℕ) → ((run : List (Entry E)) (state : PartId → PartState E) → IsWorldRun kinds sites parts run state → Leases run state) → (run : List (Entry E)) (state : PartId → PartState E) → IsWorldRun kinds sites parts run state → EventsAre (IsRight kinds plan whole) run → (t : TxId) (q : PartId) → AreMade kinds plan whole q t [] (asked_at run t q)
    stories sites parts leases [] state r right t q = tt
    stories sites parts leases (e ∷ run) state r right t q =
        let m = stories sites parts leases run r.0 r.1 right.1 t q in ⊎_elim
        (λ (k : same_part e.at q ≡ true).
        let s = same_part_is e.at q k in
        subst (λ rest. AreMade kinds plan whole q t [] (asked_at run t q ++ rest)) (sym (cond-true _ (asked_by (shown run q) e.event t) [] k))
        (subst (λ x. AreMade kinds plan whole x t [] (asked_at run t x) → AreMade kinds plan whole x t [] (asked_at run t x ++ asked_by (shown run x) e.event t)) s
        (made_event sites parts run r.0 e.at (state e.at) e.event (plan_of sites parts (e ∷ run)) (leases run r.0 r.1) r.1 r.2.allowed r.2.step r.3 right.0 t) m))
        (λ (k : same_part e.at q ≡ false). subst (λ rest. AreMade kinds plan whole q t [] (asked_at run t q ++ rest)) (sym (cond-false _ (asked_by (shown run q) e.event t) [] k)) (subst (AreMade kinds plan whole q t []) (sym (append-nil (asked_at run t q))) m))
        (cases_Bool (same_part e.at q))

    module _ (facts : Facts plan whole) (made : (t : TxId) (q : PartId) → AreMade kinds plan whole q t [] (asked_at whole t q)) (all : (t : TxId) (q : PartId) → takes_part plan t q ≡ true → map (λ a. a.change) (asked_at whole t q) ≡ plan.updates t q) where
      touching : (o : ObjectId) (us : List (Upd E)) → touches us o ≡ true → is_some_update us ≡ true
      touching o [] h = h
      touching o (u ∷ us) h = refl

      -- the own updates that a read is handed are those so far
      own_read : (near : Plan E) (run : List (Entry E)) (at : PartId) (t : TxId) (s : List ℕ) (o : ObjectId) (own : List (Upd E)) (read : List (Part E)) → own ≡ filter (λ u. same_object u.object o) (updates_at run t at) → state_read kinds o t own read ≡ state_read kinds o t (map (λ a. a.change) (asked_at run t at)) read
      own_read near run at t s o own read e = ap (λ us. state_read kinds o t us read) e ∙ ap (λ es. folded (kinds.initial o.kind) kinds.applied es) (own_only o t (updates_at run t at) (effects_of o [] read)) ∙ ap (λ us. state_read kinds o t us read) (sym (asked_changes run t at))

      meaning_event : (sites parts : ℕ) (run : List (Entry E)) (before : PartId → PartState E) (at : PartId) (q : PartState E) (event : Event E) (near : Plan E) → Leases run before → IsWorldRun kinds sites parts run before → IsAllowed near run before at (attempt event) → PartStep kinds sites parts at (before at) event q → IsNew run event → IsRight kinds plan whole at event → ((t : TxId) → AreMade kinds plan whole at t [] (asked_at run t at)) → HasMeaning kinds plan whole run at event
      meaning_event sites parts run before at q (Read t s o own read value) near l w al st new right m =
          let r = subst (λ v. IsRightFold plan whole at v o read) right.0 right.1 in
          right.2 ∙ ap kinds.value_of (own_read near run at t s o own read al.earlier)
          ∙ value_is kinds plan whole facts at o t read (map (λ a. a.change) (asked_at run t at)) (read_by plan whole run at o t read) st.1.2 (told_read kinds plan whole facts at o made all (touching o) t read r (asked_at run t at) (m t))
      meaning_event sites parts run before at q (Updated t s o own op read x stamp) near l w al st new right m =
          let a : Asked E = record { change = x; op = op; stamp = stamp; now = shown run at } in
          let earlier = map (λ b. b.change) (asked_at run t at) in
          let us = read_by plan whole run at o t read in
          let now = made_now sites parts run before at q t s o own op read x stamp near l w al st new right in ⊎_elim
          (λ (h : reads_state o.kind ≡ true).
          let r = subst (λ v. IsRightFold plan whole at v o read) right.0 (right.1 h) in
          stamp_is kinds plan whole facts at o t read earlier us a r st.1.known now st.1.object (told_read kinds plan whole facts at o made all (touching o) t read r (asked_at run t at) (m t)))
          (λ (h : reads_state o.kind ≡ false). stamp_unread kinds plan whole facts at o t earlier us a h st.1.known now st.1.object)
          (cases_Bool (reads_state o.kind))
      meaning_event sites parts run before at q event near l w al st new right m = tt

      pub meanings : (sites parts : ℕ) → ((run : List (Entry E)) (state : PartId → PartState E) → IsWorldRun kinds sites parts run state → Leases run state) → (run : List (Entry E)) (state : PartId → PartState E) → IsWorldRun kinds sites parts run state → EventsAre (IsRight kinds plan whole) run → HaveMeaning kinds plan whole run
      meanings sites parts leases [] state r right = tt
      meanings sites parts leases (e ∷ run) state r right = (
        meaning_event sites parts run r.0 e.at (state e.at) e.event (plan_of sites parts (e ∷ run)) (leases run r.0 r.1) r.1 r.2.allowed r.2.step r.3 right.0 (λ t. stories sites parts leases run r.0 r.1 right.1 t e.at),
        meanings sites parts leases run r.0 r.1 right.1,
      )

  -- where it takes part, the plan's updates of t are those of the whole run
  pub planned_changes : (sites parts : ℕ) (whole : List (Entry E)) (t : TxId) (q : PartId) → takes_part (plan_of sites parts whole) t q ≡ true → map (λ a. a.change) (asked_at whole t q) ≡ changes_of sites whole t q
  planned_changes sites parts whole t q h =
      let o = own_parts sites whole t q h in
      asked_changes whole t q ∙ sym (cond-true (is_own sites whole t q) (updates_at whole t q) [] (and_from _ _ o.0 (and_from _ _ o.1 (and_from _ _ o.2 o.3))))
