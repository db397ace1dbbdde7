-- A run by what its own events say is one under the plan of the whole run.
use Rattle.std.proofs.Common.{◌≡◌, ◌⊎◌, ⊎_elim, inl, inr, ℕ, ◌+◌, ◌≤◌, cond, leb, Bool, true, false, ◌&&◌, ◌||◌, List, [], ◌∷◌, ◌++◌, length, refl, sym, ap, ◌∙◌, subst, subst₂, arith, le_trans, le_of_eq, append-nil}
use Rattle.std.specs.Prelude.{⊤, ◌==◌, filter}
use Rattle.std.proofs.lemmas.Bool.{cases_Bool, or_left, or_right, or_cases, and_from, and_parts, cond-true, cond-false, false_from_ne_true, leb-true}
use Rattle.site_vector.specs.declared.ids.PartId.{PartId}
use Rattle.site_vector.specs.declared.ids.TxId.{TxId}
use Rattle.site_vector.specs.Ids.{same_part, same_tx}
use Rattle.site_vector.specs.Order.{same_part_refl, same_tx_is, same_tx_refl}
use Rattle.site_vector.specs.Vector.{replaced}
use Rattle.crdt_core.specs.declared.record.Upd.{Upd}
use Rattle.world_model.specs.lines.Places.{partitions, first_of, home}
use Rattle.crdt_core.specs.Log.{end_of_time, ceiling, prepared, pending, committed}
use Rattle.world_model.specs.rules.Event.{AskPrepare, AskFinish, AskTake, Refused, Event, Began, Updated, Read, Prepared, Decided, Finished, Aborted, Took, Heard, Cut, Entry, attempt, is_prepare, tried, voted, shown, shown_after, time_of, was_aborted, is_decided, WasShown}
use Rattle.crdt_core.specs.KindsOf.{Kinds}
use Rattle.world_model.specs.lines.Lines.{Wish}
use Rattle.world_model.specs.rules.Partition.{PartState, PartStep, MayDo}
use Rattle.world_model.specs.rules.Plan.{Plan, is_some_update, takes_part, commit_vector, updates_at, change_by, IsAllowed, TellsAborted, IsNew}
use Rattle.world_model.proofs.Runs.{IsPlanned, IsRun}
use Rattle.world_model.specs.rules.World.{is_begin, begin_vector, begun, snapshot_of, is_own, changes_of, lead_of, own_parts, plan_of, IsWorldRun}
use Rattle.world_model.proofs.Names.{clash, off}
use Rattle.world_model.proofs.Moves.{image_log}
use Rattle.world_model.proofs.Fate.{pending_parts, voted_tried}
use Rattle.world_model.proofs.Later.{full_now}
use Rattle.world_model.proofs.Leases.{Clock, Leases, leases_step, rises}
use Rattle.world_model.proofs.Upheld.{Upheld, law_plan}

module _ {E : Type 0} where
  abbrev pub IsSuffix : List (Entry E) → List (Entry E) → Type 0
  IsSuffix run [] = run ≡ []
  IsSuffix run (e ∷ whole) = (run ≡ e ∷ whole) ⊎ IsSuffix run whole

  same_suffix : (run whole : List (Entry E)) → run ≡ whole → IsSuffix run whole
  same_suffix run [] k = k
  same_suffix run (y ∷ whole) k = inl k

  suffix_tail : (e : Entry E) (run whole : List (Entry E)) → IsSuffix (e ∷ run) whole → IsSuffix run whole
  suffix_tail e run [] h = absurd (cc h)
  suffix_tail e run (x ∷ whole) h = inr (⊎_elim (λ (k : (e ∷ run) ≡ (x ∷ whole)). same_suffix run whole (cc k)) (λ (k : IsSuffix (e ∷ run) whole). suffix_tail e run whole k) h)

  pub suffix_all : (run : List (Entry E)) → IsSuffix run run
  suffix_all [] = refl
  suffix_all (e ∷ run) = inl refl

  -- clocks, first of all: no id is drawn twice
  pub world_leases : {S : Type 0} (kinds : Kinds S E) (sites parts : ℕ) (run : List (Entry E)) (state : PartId → PartState E) → IsWorldRun kinds sites parts run state → Leases run state
  world_leases kinds sites parts [] state r = record { clock = λ q. subst (λ x. Clock x 0 0) (sym (r q)) (record { whole = λ u. refl; now = refl; below = λ m i. omega arith; room = λ m i. subst (λ x. ceiling x ≤ 1000) (sym i) (omega arith); capped = λ m i. subst (λ x. ceiling x ≤ end_of_time) (sym i) (omega arith) }) }
  world_leases kinds sites parts (e ∷ run) state r = leases_step kinds sites parts run r.0 state e.at e.event r.2.step r.2.others (world_leases kinds sites parts run r.0 r.1)

  shown_rises : {S : Type 0} (kinds : Kinds S E) (sites parts : ℕ) (e : Entry E) (run : List (Entry E)) (state : PartId → PartState E) → IsWorldRun kinds sites parts (e ∷ run) state → (p : PartId) → shown run p ≤ shown (e ∷ run) p
  shown_rises kinds sites parts e run state r p =
      let l = world_leases kinds sites parts run r.0 r.1 in
      let m = world_leases kinds sites parts (e ∷ run) state r in
      subst₂ (λ x y. x ≤ y) ((l.clock p).now) ((m.clock p).now) (rises kinds sites parts run r.0 state e.at e.event r.2.step r.2.others l p)

  begin_shown : {S : Type 0} (kinds : Kinds S E) (sites parts : ℕ) (run : List (Entry E)) (at : PartId) (p q : PartState E) (event : Event E) (t : TxId) → PartStep kinds sites parts at p event q → is_begin event t ≡ true → (home t ≡ at) × (t.time ≡ p.now + 1)
  begin_shown kinds sites parts run at p q (Began who dep u s) t st h = subst (λ x. (home x ≡ at) × (x.time ≡ p.now + 1)) (same_tx_is u t h) (ap home st.1.named, ap (λ x. x.time) st.1.named)
  begin_shown kinds sites parts run at p q event t st h = off h

  begin_time : (event : Event E) (t : TxId) (old : ℕ) → is_begin event t ≡ true → shown_after old event ≡ t.time
  begin_time (Began who dep u s) t old h = ap (λ x. x.time) (same_tx_is u t h)
  begin_time event t old h = off h

  pub begun_time : {S : Type 0} (kinds : Kinds S E) (sites parts : ℕ) (run : List (Entry E)) (state : PartId → PartState E) → IsWorldRun kinds sites parts run state → (t : TxId) → begun run t ≡ true → t.time ≤ shown run (home t)
  begun_time kinds sites parts [] state r t h = off h
  begun_time kinds sites parts (e ∷ run) state r t h = ⊎_elim
      (λ (k : is_begin e.event t ≡ true).
      let x = begin_shown kinds sites parts run e.at (r.0 e.at) (state e.at) e.event t r.2.step k in
      let same : same_part e.at (home t) ≡ true = subst (λ p. same_part p (home t) ≡ true) x.0 (same_part_refl (home t)) in
      le_of_eq (sym (cond-true _ _ _ same ∙ begin_time e.event t (shown run (home t)) k)))
      (λ (k : begun run t ≡ true). le_trans (begun_time kinds sites parts run r.0 r.1 t k) (shown_rises kinds sites parts e run state r (home t)))
      (or_cases _ _ h)

  -- an id begins once, and is updated after that and before any prepare
  abbrev pub IsFresh : List (Entry E) → Event E → Type 0
  IsFresh run (Began who dep t s) = begun run t ≡ false
  IsFresh run (Updated t s o own op read u stamp) = (begun run t ≡ true) × ((p : PartId) → tried run t p ≡ false)
  IsFresh run event = ⊤

  pub shown_begun : (run : List (Entry E)) (p : PartId) (who : List ℕ) (dep : Wish) (t : TxId) (s : List ℕ) → WasShown run p (Began who dep t s) → begun run t ≡ true
  shown_begun [] p who dep t s w = absurd w
  shown_begun (e ∷ run) p who dep t s w = ⊎_elim
      (λ (x : (e.at ≡ p) × (e.event ≡ Began who dep t s)). or_left _ _ (ap (λ a. is_begin a t) x.1 ∙ same_tx_refl t))
      (λ (x : WasShown run p (Began who dep t s)). or_right _ _ (shown_begun run p who dep t s x))
      w

  pub AllFresh : List (Entry E) → Type 0
  AllFresh [] = ⊤
  AllFresh (e ∷ run) = IsFresh run e.event × AllFresh run

  fresh_event : {S : Type 0} (kinds : Kinds S E) (sites parts : ℕ) (plan : Plan E) (run : List (Entry E)) (before : PartId → PartState E) (at : PartId) (q : PartState E) (event : Event E) → IsWorldRun kinds sites parts run before → IsAllowed plan run before at (attempt event) → PartStep kinds sites parts at (before at) event q → IsNew run event → IsFresh run event
  fresh_event kinds sites parts plan run before at q (Began who dep t s) r al st n = false_from_ne_true _ (λ b.
      let x = begin_shown kinds sites parts run at (before at) q (Began who dep t s) t st (same_tx_refl t) in
      let l = ((world_leases kinds sites parts run before r).clock at).now in
      let k : t.time ≤ shown run at = subst (λ p. t.time ≤ shown run p) x.0 (begun_time kinds sites parts run before r t b) in
      let e = x.1 in
      absurd (omega arith))
  fresh_event kinds sites parts plan run before at q (Updated t s o own op read u stamp) r al st n = (shown_begun run (home t) al.who al.dependency t s al.begun, n.early)
  fresh_event kinds sites parts plan run before at q event r al st n = tt

  pub all_fresh : {S : Type 0} (kinds : Kinds S E) (sites parts : ℕ) (run : List (Entry E)) (state : PartId → PartState E) → IsWorldRun kinds sites parts run state → AllFresh run
  unfolding AllFresh
  all_fresh kinds sites parts [] state r = tt
  all_fresh kinds sites parts (e ∷ run) state r = (fresh_event kinds sites parts (plan_of sites parts (e ∷ run)) run r.0 e.at (state e.at) e.event r.1 r.2.allowed r.2.step r.3, all_fresh kinds sites parts run r.0 r.1)

  fresh_begin : (run : List (Entry E)) (a : Event E) (t : TxId) → IsFresh run a → begun run t ≡ true → is_begin a t ≡ false
  fresh_begin run (Began who dep u s) t f b = false_from_ne_true _ (λ e. clash b (subst (λ x. begun run x ≡ false) (same_tx_is u t e) f))
  fresh_begin run a t f b = refl

  fresh_update : (run : List (Entry E)) (a : Event E) (t : TxId) (q : PartId) → IsFresh run a → tried run t q ≡ true → change_by a t ≡ []
  fresh_update run (Updated u s o own op read x stamp) t q f b = cond-false _ _ _ (false_from_ne_true _ (λ e. clash b (subst (λ y. tried run y q ≡ false) (same_tx_is u t e) (f.1 q))))
  fresh_update run a t q f b = refl

  record SameBegin (run whole : List (Entry E)) (t : TxId) : Type 0 where
    pub begun : begun whole t ≡ true
    pub snapshot : snapshot_of whole t ≡ snapshot_of run t

  same_begin : (run whole : List (Entry E)) (t : TxId) → AllFresh whole → IsSuffix run whole → begun run t ≡ true → SameBegin run whole t
  unfolding AllFresh
  same_begin run [] t f s b = off (subst (λ x. begun x t ≡ true) s b)
  same_begin run (e ∷ whole) t f s b = ⊎_elim
      (λ (k : run ≡ e ∷ whole). subst (λ x. SameBegin run x t) k (record { begun = b; snapshot = refl }))
      (λ (k : IsSuffix run whole).
      let i = same_begin run whole t f.1 k b in
      let n = fresh_begin whole e.event t f.0 i.begun in record {
        begun = or_right _ _ i.begun;
        snapshot = cond-false _ _ _ n ∙ i.snapshot;
      })
      s

  record SameUpdates (run whole : List (Entry E)) (t : TxId) (q : PartId) : Type 0 where
    pub tried : tried whole t q ≡ true
    pub updates : (p : PartId) → updates_at whole t p ≡ updates_at run t p

  pub no_more : (b : Bool) (xs ys : List (Upd E)) → ys ≡ [] → xs ++ cond b ys [] ≡ xs
  no_more true xs ys e = ap (λ l. xs ++ l) e ∙ append-nil xs
  no_more false xs ys e = append-nil xs

  same_updates : (run whole : List (Entry E)) (t : TxId) (q : PartId) → AllFresh whole → IsSuffix run whole → tried run t q ≡ true → SameUpdates run whole t q
  unfolding AllFresh
  same_updates run [] t q f s b = off (subst (λ x. tried x t q ≡ true) s b)
  same_updates run (e ∷ whole) t q f s b = ⊎_elim
      (λ (k : run ≡ e ∷ whole). subst (λ x. SameUpdates run x t q) k (record { tried = b; updates = λ p. refl }))
      (λ (k : IsSuffix run whole).
      let i = same_updates run whole t q f.1 k b in
      let n = fresh_update whole e.event t q f.0 i.tried in record {
        tried = or_right _ _ i.tried;
        updates = λ p. no_more (same_part e.at p) (updates_at whole t p) (change_by e.event t) n ∙ i.updates p;
      })
      s

  -- who has a snapshot has begun
  snapshot_begun : (run : List (Entry E)) (t : TxId) → 1 ≤ length (snapshot_of run t) → begun run t ≡ true
  snapshot_begun [] t h = absurd (omega arith)
  snapshot_begun (e ∷ run) t h = ⊎_elim
      (λ (k : is_begin e.event t ≡ true). or_left _ _ k)
      (λ (k : is_begin e.event t ≡ false). or_right _ _ (snapshot_begun run t (subst (λ l. 1 ≤ length l) (cond-false _ (begin_vector e.event) (snapshot_of run t) k) h)))
      (cases_Bool (is_begin e.event t))

  pub part_begun : (sites : ℕ) (run : List (Entry E)) (t : TxId) (p : PartId) → is_some_update (changes_of sites run t p) ≡ true → begun run t ≡ true
  part_begun sites run t p h = let o = own_parts sites run t p h in snapshot_begun run t (le_trans (leb-true _ _ o.1) (leb-true _ _ o.3))

  prepare_takes : (plan : Plan E) (run : List (Entry E)) (parts : PartId → PartState E) (at : PartId) (a : Event E) (t : TxId) → IsAllowed plan run parts at a → is_prepare a t ≡ true → takes_part plan t at ≡ true
  prepare_takes plan run parts at (Prepared u s l w n) t al h = subst (λ x. takes_part plan x at ≡ true) (same_tx_is u t h) al.takes
  prepare_takes plan run parts at a t al h = off h

  pub tried_begun : {S : Type 0} (kinds : Kinds S E) (sites parts : ℕ) (run : List (Entry E)) (state : PartId → PartState E) (t : TxId) (q : PartId) → IsWorldRun kinds sites parts run state → tried run t q ≡ true → begun run t ≡ true
  tried_begun kinds sites parts [] state t q r h = off h
  tried_begun kinds sites parts (e ∷ run) state t q r h = ⊎_elim
      (λ (k : (same_part e.at q && is_prepare (attempt e.event) t) ≡ true).
      part_begun sites (e ∷ run) t e.at (prepare_takes (plan_of sites parts (e ∷ run)) run r.0 e.at (attempt e.event) t r.2.allowed (and_parts (same_part e.at q) _ k).1))
      (λ (k : tried run t q ≡ true). or_right _ _ (tried_begun kinds sites parts run r.0 t q r.1 k))
      (or_cases _ _ h)

  -- the two plans agree on t
  pub record Agree (p w : Plan E) (t : TxId) : Type 0 where
    pub snapshot : w.snapshot t ≡ p.snapshot t
    pub updates : (q : PartId) → w.updates t q ≡ p.updates t q
    pub lead : w.lead t ≡ p.lead t

  pub agree_by : (sites parts : ℕ) (run whole : List (Entry E)) (t : TxId) → snapshot_of whole t ≡ snapshot_of run t → ((p : PartId) → updates_at whole t p ≡ updates_at run t p) → Agree (plan_of sites parts run) (plan_of sites parts whole) t
  agree_by sites parts run whole t x y =
      let same : (p : PartId) → changes_of sites whole t p ≡ changes_of sites run t p = λ p. λ i. cond (p.site == t.site && (leb 1 t.site && (leb t.site sites && leb t.site (length (x i))))) (y p i) [] in record {
        snapshot = x;
        updates = same;
        lead = λ i. first_of (home t) (filter (λ p. is_some_update (same p i)) (partitions t.site 1 parts));
      }

  agree : (sites parts : ℕ) (run whole : List (Entry E)) (t : TxId) (q : PartId) → AllFresh whole → IsSuffix run whole → begun run t ≡ true → tried run t q ≡ true → Agree (plan_of sites parts run) (plan_of sites parts whole) t
  agree sites parts run whole t q f s b h =
      let x = same_begin run whole t f s b in
      let y = same_updates run whole t q f s h in
      agree_by sites parts run whole t x.snapshot y.updates

  agree_vector : (p w : Plan E) (run : List (Entry E)) (t : TxId) → Agree p w t → commit_vector p run t ≡ commit_vector w run t
  agree_vector p w run t a = ap (λ v. replaced v t.site (time_of run t)) (sym a.snapshot)

  abbrev is_end : Event E → TxId → Bool
  is_end (Decided u c) t = same_tx u t
  is_end (Finished u c) t = same_tx u t
  is_end (Aborted u own) t = same_tx u t
  is_end other t = false

  may_known : {S : Type 0} (kinds : Kinds S E) (sites parts : ℕ) (id : PartId) (p : PartState E) (a : Event E) (t : TxId) → MayDo kinds sites parts id p a → is_end a t ≡ true → (pending p.log t || committed p.log t) ≡ true
  may_known kinds sites parts id p (Decided u c) t m h = subst (λ x. (pending p.log x || committed p.log x) ≡ true) (same_tx_is u t h) m
  may_known kinds sites parts id p (Finished u c) t m h = subst (λ x. (pending p.log x || committed p.log x) ≡ true) (same_tx_is u t h) m
  may_known kinds sites parts id p (Aborted u own) t m h = or_left _ _ (subst (λ x. pending p.log x ≡ true) (same_tx_is u t h) m)
  may_known kinds sites parts id p a t m h = off h

  end_known : {S : Type 0} (kinds : Kinds S E) (sites parts : ℕ) (id : PartId) (p q : PartState E) (a : Event E) (t : TxId) → PartStep kinds sites parts id p a q → is_end (attempt a) t ≡ true → (pending p.log t || committed p.log t) ≡ true
  end_known kinds sites parts id p q (Decided u c) t s h = may_known kinds sites parts id p (Decided u c) t s.1 h
  end_known kinds sites parts id p q (Finished u c) t s h = may_known kinds sites parts id p (Finished u c) t s.1 h
  end_known kinds sites parts id p q (Aborted u own) t s h = may_known kinds sites parts id p (Aborted u own) t s.1 h
  end_known kinds sites parts id p q (Cut a) t s h = may_known kinds sites parts id p a t s.1 h
  end_known kinds sites parts id p q a t s h = off h

  some_front : (xs ys : List (Upd E)) → is_some_update xs ≡ true → is_some_update (xs ++ ys) ≡ true
  some_front [] ys h = off h
  some_front (x ∷ xs) ys h = refl

  more_updates : (run whole : List (Entry E)) (t : TxId) (p : PartId) → IsSuffix run whole → is_some_update (updates_at run t p) ≡ true → is_some_update (updates_at whole t p) ≡ true
  more_updates run [] t p s h = subst (λ x. is_some_update (updates_at x t p) ≡ true) s h
  more_updates run (e ∷ whole) t p s h = ⊎_elim
      (λ (k : run ≡ e ∷ whole). subst (λ x. is_some_update (updates_at x t p) ≡ true) k h)
      (λ (k : IsSuffix run whole). some_front (updates_at whole t p) (cond (same_part e.at p) (change_by e.event t) []) (more_updates run whole t p k h))
      s

  some_of : (b : Bool) (us : List (Upd E)) → is_some_update (cond b us []) ≡ true → is_some_update us ≡ true
  some_of true us h = h
  some_of false us h = off h

  -- who takes part takes part in all that comes after
  takes_later : (sites parts : ℕ) (run whole : List (Entry E)) (t : TxId) (p : PartId) → AllFresh whole → IsSuffix run whole → takes_part (plan_of sites parts run) t p ≡ true → takes_part (plan_of sites parts whole) t p ≡ true
  takes_later sites parts run whole t p f s h =
      let x = same_begin run whole t f s (part_begun sites run t p h) in
      let o = own_parts sites run t p h in
      let own : is_own sites whole t p ≡ true = and_from (p.site == t.site) _ o.0 (and_from (leb 1 t.site) _ o.1 (and_from (leb t.site sites) _ o.2 (subst (λ v. leb t.site (length v) ≡ true) (sym x.snapshot) o.3))) in
      ap is_some_update (cond-true (is_own sites whole t p) (updates_at whole t p) [] own) ∙ more_updates run whole t p s (some_of (is_own sites run t p) (updates_at run t p) h)

  pub allowed_too : (sites parts : ℕ) (run old whole : List (Entry E)) (at : PartId) (state : PartId → PartState E) (a : Event E) → ((t : TxId) → (is_prepare a t || is_end a t) ≡ true → Agree (plan_of sites parts old) (plan_of sites parts whole) t) → ((t : TxId) → is_decided run t ≡ true → Agree (plan_of sites parts old) (plan_of sites parts whole) t) → ((t : TxId) → takes_part (plan_of sites parts old) t at ≡ true → takes_part (plan_of sites parts whole) t at ≡ true) → IsAllowed (plan_of sites parts old) run state at a → IsAllowed (plan_of sites parts whole) run state at a
  allowed_too sites parts run old whole at state (Prepared t s l w n) agr past later al =
      let g = agr t (or_left (same_tx t t) false (same_tx_refl t)) in record {
        fresh = al.fresh;
        after_lead = λ ne. subst (λ x. voted run t x ≡ true) (sym g.lead) (al.after_lead (λ k. ne (k ∙ sym g.lead)));
        takes = ap is_some_update (g.updates at) ∙ al.takes;
        snapshot = al.snapshot ∙ sym g.snapshot;
        lead = al.lead ∙ ap (λ p. p.part) (sym g.lead);
        changes = al.changes ∙ sym (g.updates at);
      }
  allowed_too sites parts run old whole at state (Decided t c) agr past later al =
      let g = agr t (same_tx_refl t) in record {
        lead = al.lead ∙ sym g.lead;
        here = al.here;
        all = λ q h. al.all q (ap is_some_update (sym (g.updates q)) ∙ h);
        ungiven = al.ungiven;
        once = al.once;
        vector = al.vector ∙ agree_vector (plan_of sites parts old) (plan_of sites parts whole) run t g;
      }
  allowed_too sites parts run old whole at state (Finished t c) agr past later al =
      let g = agr t (same_tx_refl t) in record {
        decided = al.decided;
        vector = al.vector ∙ agree_vector (plan_of sites parts old) (plan_of sites parts whole) run t g;
      }
  allowed_too sites parts run old whole at state (Aborted t true) agr past later al = al
  allowed_too sites parts run old whole at state (Aborted t false) agr past later al =
      let g = agr t (same_tx_refl t) in
      ⊎_elim (λ (k : at ≡ lead_of sites parts old t). inl (k ∙ sym g.lead)) (λ (k : TellsAborted (state (lead_of sites parts old t)) t ⊎ (was_aborted run t (lead_of sites parts old t) ≡ true)). ⊎_elim (λ (y : TellsAborted (state (lead_of sites parts old t)) t). inr (inl (subst (λ x. TellsAborted (state x) t) (sym g.lead) y))) (λ (y : was_aborted run t (lead_of sites parts old t) ≡ true). inr (inr (subst (λ x. was_aborted run t x ≡ true) (sym g.lead) y))) k) al
  allowed_too sites parts run old whole at state (Read t s o own read value) agr past later al = record { site = al.site; who = al.who; dependency = al.dependency; begun = al.begun; place = al.place; earlier = al.earlier }
  allowed_too sites parts run old whole at state (Updated t s o own op read u stamp) agr past later al = record { site = al.site; who = al.who; dependency = al.dependency; begun = al.begun; place = al.place; earlier = al.earlier }
  allowed_too sites parts run old whole at state (Took number m) agr past later al = record { from = al.from; to = al.to; part = al.part; asked = al.asked; shown = al.shown }
  allowed_too sites parts run old whole at state (Heard number q b stable) agr past later al = record { least = al.least; most = al.most; shown = al.shown }
  allowed_too sites parts run old whole at state (Refused (AskFinish t c) why) agr past later al = (al.0, ap is_some_update ((past t al.0).updates at) ∙ al.1)
  allowed_too sites parts run old whole at state (Refused (AskPrepare t s l w) why) agr past later al = (al.0, later t al.1)
  allowed_too sites parts run old whole at state (Refused (AskTake number m) why) agr past later al = record { from = al.from; to = al.to; part = al.part; asked = al.asked; shown = al.shown }
  allowed_too sites parts run old whole at state a agr past later al = al

  planned_too : (sites parts : ℕ) (run whole : List (Entry E)) (at : PartId) (a : Event E) → AllFresh whole → IsSuffix ((record { at = at; event = a }) ∷ run) whole → IsPlanned (plan_of sites parts whole) at a
  planned_too sites parts run whole at (Began who dep t s) f suf =
      let x = same_begin ((record { at = at; event = Began who dep t s }) ∷ run) whole t f suf (or_left (same_tx t t) (begun run t) (same_tx_refl t)) in
      sym (x.snapshot ∙ cond-true (same_tx t t) s (snapshot_of run t) (same_tx_refl t))
  planned_too sites parts run whole at a f suf = tt

  -- a run by the rules on what came before is a run under the plan of the whole
  pub fits : {S : Type 0} (kinds : Kinds S E) (sites parts : ℕ) (run : List (Entry E)) (state : PartId → PartState E) → IsWorldRun kinds sites parts run state → (whole : List (Entry E)) → AllFresh whole → IsSuffix run whole → IsRun kinds (plan_of sites parts whole) run state
  fits kinds sites parts [] state r whole f s = r
  fits kinds sites parts (e ∷ run) state r whole f s =
      let before = r.0 in
      let k : Upheld kinds (plan_of sites parts run) run before = law_plan kinds (plan_of sites parts run) run before (fits kinds sites parts run before r.1 run (all_fresh kinds sites parts run before r.1) (suffix_all run)) in
      let log = (before e.at).log in
      let of_tried : (t : TxId) → tried (e ∷ run) t e.at ≡ true → Agree (plan_of sites parts (e ∷ run)) (plan_of sites parts whole) t = λ t h. agree sites parts (e ∷ run) whole t e.at f s (tried_begun kinds sites parts (e ∷ run) state t e.at r h) h in
      let known : (t : TxId) → (pending log t || committed log t) ≡ true → prepared log t ≡ true = λ t h. ⊎_elim
      (λ (x : pending log t ≡ true). (pending_parts log t x).prepared)
      (λ (x : committed log t ≡ true). k.fate.first e.at log t (image_log (before e.at)) x)
      (or_cases _ _ h) in
      let lead_tried : (t : TxId) → is_decided run t ≡ true → tried run t (lead_of sites parts run t) ≡ true = λ t d. voted_tried run t (lead_of sites parts run t) (full_now (plan_of sites parts run) run before k.fate t d).lead in (
        before,
        fits kinds sites parts run before r.1 whole f (suffix_tail e run whole s),
        record {
          place = record { least_site = r.2.place.least_site; most_site = r.2.place.most_site; least_part = r.2.place.least_part; most_part = r.2.place.most_part };
          allowed = allowed_too sites parts run (e ∷ run) whole e.at before (attempt e.event)
              (λ t h. of_tried t (⊎_elim
              (λ (x : is_prepare (attempt e.event) t ≡ true). or_left _ _ (and_from _ _ (same_part_refl e.at) x))
              (λ (x : is_end (attempt e.event) t ≡ true). or_right _ _ (k.fate.was_tried e.at log t (image_log (before e.at)) (known t (end_known kinds sites parts e.at (before e.at) (state e.at) e.event t r.2.step x))))
              (or_cases _ _ h)))
              (λ t d. agree sites parts (e ∷ run) whole t (lead_of sites parts run t) f s
              (or_right _ _ (tried_begun kinds sites parts run before t (lead_of sites parts run t) r.1 (lead_tried t d)))
              (or_right _ _ (lead_tried t d)))
              (λ t h. takes_later sites parts (e ∷ run) whole t e.at f s h)
              r.2.allowed;
          fit = r.2.fit;
          step = r.2.step;
          others = r.2.others;
        },
        planned_too sites parts run whole e.at e.event f s,
      )
