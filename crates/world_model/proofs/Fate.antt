-- The part fate: what is kept of a transaction from its first prepare to its end, at each partition and in each image.
use Rattle.std.proofs.Common.{◌≡◌, ◌≢◌, ◌⊎◌, ⊎_elim, inl, inr, ℕ, ◌<◌, cond, Bool, true, false, ◌&&◌, ◌||◌, not, List, [], ◌∷◌, Some, refl, sym, ap, ◌∙◌, subst, subst₂}
use Rattle.std.proofs.lemmas.Bool.{cases_Bool, or_left, or_right, or_cases, or_from, and_from, and_parts, cond-true, cond-false, false_from_ne_true}
use Rattle.site_vector.specs.declared.ids.PartId.{PartId}
use Rattle.site_vector.specs.declared.ids.TxId.{TxId}
use Rattle.site_vector.specs.Ids.{same_part, same_tx}
use Rattle.site_vector.specs.Order.{same_part_is, same_tx_is, same_tx_refl}
use Rattle.site_vector.specs.Vector.{entry}
use Rattle.crdt_core.specs.declared.record.Upd.{Upd}
use Rattle.crdt_core.specs.declared.record.Record.{Record}
use Rattle.crdt_core.specs.declared.record.Record.TheVariants.{Lease, Prepare, Decide, Finish, Abort, Batch}
use Rattle.crdt_core.specs.Log.{prepared, prepare_time, prepared_changes, decided, committed, committed_at, aborted, pending, last_decided}
use Rattle.world_model.specs.rules.Event.{Ballot, led_by, Event, Prepared, Aborted, Entry, attempt, is_prepare, is_decide, is_abort, is_own_abort, shows_decided, tried, voted, decide_tried, gave_up, was_aborted, is_decided, time_of}
use Rattle.world_model.proofs.Runs.{vote}
use Rattle.world_model.specs.rules.Partition.{PartState, Finds, ToldAborted, fate_of}
use Rattle.world_model.specs.rules.Plan.{Plan, takes_part, vector_at, commit_vector, IsAllowed, MayPrepare, MayAbort, TellsAborted}
use Rattle.world_model.proofs.Names.{clash, off, part_same}
use Rattle.world_model.proofs.Moves.{Because, Move, image_log, last_is_decided, named_by}

module _ {E : Type 0} where
  -- all that a decide asks for was given, and nobody may take it back
  pub record Full (plan : Plan E) (run : List (Entry E)) (t : TxId) : Type 0 where
    pub asked : decide_tried run t ≡ true
    pub ungiven : gave_up run t ≡ false
    pub lead : voted run t (plan.lead t) ≡ true
    pub all : (p : PartId) → takes_part plan t p ≡ true → voted run t p ≡ true

  pub record Fate (plan : Plan E) (run : List (Entry E)) (parts : PartId → PartState E) : Type 0 where
    pub was_tried : (q : PartId) (m : List (Record E)) (t : TxId) → Finds (parts q) m → prepared m t ≡ true → tried run t q ≡ true
    pub held : (q : PartId) (m : List (Record E)) (t : TxId) → Finds (parts q) m → voted run t q ≡ true → (prepared m t ≡ true) × (prepare_time m t ≡ vote run t q)
    pub lead_first : (q : PartId) (t : TxId) → q ≢ plan.lead t → tried run t q ≡ true → voted run t (plan.lead t) ≡ true
    pub full : (m : List (Record E)) (t : TxId) → Finds (parts (plan.lead t)) m → committed m t ≡ true → Full plan run t
    pub lost : (q : PartId) (m : List (Record E)) (t : TxId) → q ≢ plan.lead t → Finds (parts q) m → aborted m t ≡ true → (gave_up run t ≡ true) ⊎ ((l : List (Record E)) → Finds (parts (plan.lead t)) l → aborted l t ≡ true)
    pub stays : (m : List (Record E)) (t : TxId) → Finds (parts (plan.lead t)) m → is_decided run t ≡ true → committed m t ≡ true
    pub known : (q : PartId) (m : List (Record E)) (t : TxId) → Finds (parts q) m → committed m t ≡ true → (is_decided run t ≡ true) ⊎ (((parts q).up ≡ false) × (last_decided m ≡ Some t))
    pub apart : (q : PartId) (m : List (Record E)) (t : TxId) → Finds (parts q) m → committed m t ≡ true → aborted m t ≡ false
    pub aborted_stays : (q : PartId) (m : List (Record E)) (t : TxId) → Finds (parts q) m → was_aborted run t q ≡ true → aborted m t ≡ true
    pub at_lead : (q : PartId) (m : List (Record E)) (t : TxId) → Finds (parts q) m → decided m t ≡ true → q ≡ plan.lead t
    pub time : (q : PartId) (m : List (Record E)) (t : TxId) → Finds (parts q) m → committed m t ≡ true → committed_at m t ≡ commit_vector plan run t
    pub first : (q : PartId) (m : List (Record E)) (t : TxId) → Finds (parts q) m → committed m t ≡ true → prepared m t ≡ true
    pub wrote : (q : PartId) (m : List (Record E)) (t : TxId) → Finds (parts q) m → prepared m t ≡ true → prepared_changes m t ≡ plan.updates t q
    pub part : (q : PartId) (t : TxId) → tried run t q ≡ true → takes_part plan t q ≡ true
    pub late : (q : PartId) (t : TxId) → voted run t q ≡ true → entry (plan.snapshot t) t.site < vote run t q

  pub attempt_prepare : (a : Event E) (t : TxId) → is_prepare a t ≡ true → is_prepare (attempt a) t ≡ true
  attempt_prepare (Prepared u s l w n) t h = h
  attempt_prepare a t h = off h

  pub voted_tried : (run : List (Entry E)) (t : TxId) (q : PartId) → voted run t q ≡ true → tried run t q ≡ true
  voted_tried [] t q h = h
  voted_tried (e ∷ run) t q h = ⊎_elim
      (λ (k : (same_part e.at q && is_prepare e.event t) ≡ true). let ps = and_parts (same_part e.at q) (is_prepare e.event t) k in or_left _ _ (and_from _ _ ps.0 (attempt_prepare e.event t ps.1)))
      (λ (k : voted run t q ≡ true). or_right _ _ (voted_tried run t q k))
      (or_cases _ _ h)

  pub decided_committed : (log : List (Record E)) (t : TxId) → decided log t ≡ true → committed log t ≡ true
  decided_committed [] t h = h
  decided_committed (Lease n ∷ log) t h = decided_committed log t h
  decided_committed (Batch x ∷ log) t h = decided_committed log t h
  decided_committed (Prepare u l n s w ∷ log) t h = decided_committed log t h
  decided_committed (Decide u c ∷ log) t h = ⊎_elim (λ k. or_left _ _ k) (λ k. or_right _ _ (decided_committed log t k)) (or_cases (same_tx u t) (decided log t) h)
  decided_committed (Finish u c ∷ log) t h = or_right _ _ (decided_committed log t h)
  decided_committed (Abort u ∷ log) t h = decided_committed log t h

  pub more_prepared : (r : Record E) (old : List (Record E)) (t : TxId) → prepared old t ≡ true → prepared (r ∷ old) t ≡ true
  more_prepared (Lease n) old t h = h
  more_prepared (Batch x) old t h = h
  more_prepared (Prepare u l n s w) old t h = or_right _ _ h
  more_prepared (Decide u c) old t h = h
  more_prepared (Finish u c) old t h = h
  more_prepared (Abort u) old t h = h

  pub more_committed : (r : Record E) (old : List (Record E)) (t : TxId) → committed old t ≡ true → committed (r ∷ old) t ≡ true
  more_committed (Lease n) old t h = h
  more_committed (Batch x) old t h = h
  more_committed (Prepare u l n s w) old t h = h
  more_committed (Decide u c) old t h = or_right _ _ h
  more_committed (Finish u c) old t h = or_right _ _ h
  more_committed (Abort u) old t h = h

  pub more_aborted : (r : Record E) (old : List (Record E)) (t : TxId) → aborted old t ≡ true → aborted (r ∷ old) t ≡ true
  more_aborted (Lease n) old t h = h
  more_aborted (Batch x) old t h = h
  more_aborted (Prepare u l n s w) old t h = h
  more_aborted (Decide u c) old t h = h
  more_aborted (Finish u c) old t h = h
  more_aborted (Abort u) old t h = or_right _ _ h

  pub record IsPending (log : List (Record E)) (t : TxId) : Type 0 where
    pub prepared : prepared log t ≡ true
    pub committed : committed log t ≡ false
    pub aborted : aborted log t ≡ false

  pub pending_parts : (log : List (Record E)) (t : TxId) → pending log t ≡ true → IsPending log t
  pending_parts log t h = go (prepared log t) (committed log t) (aborted log t) refl refl refl h
    where
      go : (p c a : Bool) → prepared log t ≡ p → committed log t ≡ c → aborted log t ≡ a → (p && not (c || a)) ≡ true → IsPending log t
      go true false false e f g h = record { prepared = e; committed = f; aborted = g }
      go true false true e f g h = off h
      go true true a e f g h = off h
      go false c a e f g h = off h

  pub record IsToldAborted (p : PartState E) (t : TxId) : Type 0 where
    pub up : p.up ≡ true
    pub idle : pending p.log t ≡ false
    pub uncommitted : committed p.log t ≡ false

  -- who tells that t is aborted is up, and has it neither pending nor committed
  pub told_aborted : (p : PartState E) (t : TxId) → fate_of p t ≡ ToldAborted → IsToldAborted p t
  told_aborted p t h = ⊎_elim
      (λ (u : p.up ≡ true). ⊎_elim
      (λ (w : pending p.log t ≡ true). absurd (cc (rw (u, w) at h)))
      (λ (w : pending p.log t ≡ false). ⊎_elim
      (λ (c : committed p.log t ≡ true). absurd (cc (rw (u, w, c) at h)))
      (λ (c : committed p.log t ≡ false). record { up = u; idle = w; uncommitted = c })
      (cases_Bool (committed p.log t)))
      (cases_Bool (pending p.log t)))
      (λ (u : p.up ≡ false). absurd (cc (rw u at h)))
      (cases_Bool p.up)

  may_prepare : (plan : Plan E) (run : List (Entry E)) (before : PartId → PartState E) (at : PartId) (a : Event E) (t : TxId) → IsAllowed plan run before at a → is_prepare a t ≡ true → (s : List ℕ) × (l : Ballot) × (w : List (Upd E)) × MayPrepare plan run at t s l w
  may_prepare plan run before at (Prepared u s l w n) t al h = (s, l, w, subst (λ x. MayPrepare plan run at x s l w) (same_tx_is u t h) al)
  may_prepare plan run before at a t al h = off h

  may_give_up : (plan : Plan E) (run : List (Entry E)) (before : PartId → PartState E) (at : PartId) (a : Event E) (t : TxId) → IsAllowed plan run before at a → is_own_abort a t ≡ true → decide_tried run t ≡ false
  may_give_up plan run before at (Aborted u true) t al h = subst (λ x. decide_tried run x ≡ false) (same_tx_is u t (and_parts _ _ h).0) al
  may_give_up plan run before at (Aborted u false) t al h = off (and_parts (same_tx u t) false h).1
  may_give_up plan run before at a t al h = off h

  ended_by_now : (log : List (Record E)) (t : TxId) → prepared log t ≡ true → pending log t ≡ false → committed log t ≡ false → aborted log t ≡ true
  ended_by_now log t p h c = go (prepared log t) (committed log t) (aborted log t) refl p c h
    where
      go : (x y z : Bool) → aborted log t ≡ z → x ≡ true → y ≡ false → (x && not (y || z)) ≡ false → aborted log t ≡ true
      go x y true e a b h = e
      go x true false e a b h = absurd (clash refl b)
      go true false false e a b h = absurd (clash refl h)
      go false false false e a b h = off a

  module _ (plan : Plan E) (run : List (Entry E)) (before after : PartId → PartState E) (at : PartId) (event : Event E) (mv : Move plan run before after at event) (f : Fate plan run before) where
    -- the run with the step's event
    abbrev next : List (Entry E)
    next = (record { at = at; event = event }) ∷ run

    pub full_in_history : (t : TxId) → is_decided run t ≡ true → Full plan run t
    full_in_history t k = let p = before (plan.lead t) in f.full p.log t (image_log p) (f.stays p.log t (image_log p) k)

    full_of : (q : PartId) (m : List (Record E)) (t : TxId) → Finds (before q) m → committed m t ≡ true → Full plan run t
    full_of q m t i h = ⊎_elim
        (λ (k : is_decided run t ≡ true). full_in_history t k)
        (λ (k : ((before q).up ≡ false) × (last_decided m ≡ Some t)). f.full m t (subst (λ x. Finds (before x) m) (f.at_lead q m t i (last_is_decided m t (named_by _ t k.1))) i) h)
        (f.known q m t i h)

    -- who is full is prepared no more
    full_no_prepare : (t : TxId) → Full plan run t → is_prepare (attempt event) t ≡ false
    full_no_prepare t u = false_from_ne_true _ (λ h. let m = may_prepare plan run before at (attempt event) t mv.allowed h in clash (voted_tried run t at (u.all at m.3.takes)) m.3.fresh)

    full_stays : (t : TxId) → Full plan run t → Full plan next t
    full_stays t u = record {
      asked = or_right _ _ u.asked;
      ungiven = or_from _ _ (false_from_ne_true _ (λ h. clash u.asked (may_give_up plan run before at (attempt event) t mv.allowed h))) u.ungiven;
      lead = or_right _ _ u.lead;
      all = λ p h. or_right _ _ (u.all p h);
    }

    was_tried_step : (q : PartId) (new : List (Record E)) (t : TxId) → Finds (after q) new → prepared new t ≡ true → tried next t q ≡ true
    was_tried_step q new t i h = let c = mv.changed q new i in go c.old c.more c.because (f.was_tried q c.old t c.was) (sym (c.told.prepared t) ∙ h)
      where
        go : (old : List (Record E)) (r : Record E) → Because plan run before (after q).up at event q old r → (prepared old t ≡ true → tried run t q ≡ true) → prepared (r ∷ old) t ≡ true → tried next t q ≡ true
        go old (Prepare u l n s w) b ih k = ⊎_elim
            (λ (e : same_tx u t ≡ true). or_left _ _ (and_from _ _ (part_same at q (sym b.0)) (ap (λ a. is_prepare a t) b.1 ∙ e)))
            (λ (e : prepared old t ≡ true). or_right _ _ (ih e))
            (or_cases _ _ k)
        go old (Lease n) b ih k = or_right _ _ (ih k)
        go old (Batch x) b ih k = or_right _ _ (ih k)
        go old (Decide u c) b ih k = or_right _ _ (ih k)
        go old (Finish u c) b ih k = or_right _ _ (ih k)
        go old (Abort u) b ih k = or_right _ _ (ih k)

    -- a prepare that was tried is not prepared now
    pub not_again : (q : PartId) (u t : TxId) (s : List ℕ) (l : Ballot) (w : List (Upd E)) → q ≡ at → MayPrepare plan run at u s l w → tried run t q ≡ true → same_tx u t ≡ false
    not_again q u t s l w e m h = false_from_ne_true _ (λ k. clash h (subst₂ (λ x y. tried run x y ≡ false) (same_tx_is u t k) (sym e) m.fresh))

    same_time : (q : PartId) (old : List (Record E)) (r : Record E) (t : TxId) → Because plan run before (after q).up at event q old r → voted run t q ≡ true → prepare_time (r ∷ old) t ≡ prepare_time old t
    same_time q old (Prepare u l n s w) t b h = cond-false (same_tx u t) n (prepare_time old t) (not_again q u t s (led_by l) w b.0 b.3 (voted_tried run t q h))
    same_time q old (Lease n) t b h = refl
    same_time q old (Batch x) t b h = refl
    same_time q old (Decide u c) t b h = refl
    same_time q old (Finish u c) t b h = refl
    same_time q old (Abort u) t b h = refl

    held_step : (q : PartId) (new : List (Record E)) (t : TxId) → Finds (after q) new → voted next t q ≡ true → (prepared new t ≡ true) × (prepare_time new t ≡ vote next t q)
    held_step q new t i h = ⊎_elim
        (λ (k : (same_part at q && is_prepare event t) ≡ true).
        let ps = and_parts (same_part at q) (is_prepare event t) k in
        let v = mv.votes t ps.1 new (subst (λ x. Finds (after x) new) (sym (same_part_is at q ps.0)) i) in (v.0, v.1 ∙ sym (cond-true _ _ _ k)))
        (λ (k : (same_part at q && is_prepare event t) ≡ false).
        let was : voted run t q ≡ true = ⊎_elim (λ (e : (same_part at q && is_prepare event t) ≡ true). clash e k) (λ (e : voted run t q ≡ true). e) (or_cases _ _ h) in
        let c = mv.changed q new i in
        let o = f.held q c.old t c.was was in (
          c.told.prepared t ∙ more_prepared c.more c.old t o.0,
          c.told.time t ∙ same_time q c.old c.more t c.because was ∙ o.1 ∙ sym (cond-false _ _ _ k),
        ))
        (cases_Bool (same_part at q && is_prepare event t))

    lead_first_step : (q : PartId) (t : TxId) → q ≢ plan.lead t → tried next t q ≡ true → voted next t (plan.lead t) ≡ true
    lead_first_step q t ne h = ⊎_elim
        (λ (k : (same_part at q && is_prepare (attempt event) t) ≡ true).
        let ps = and_parts (same_part at q) (is_prepare (attempt event) t) k in
        or_right _ _ ((may_prepare plan run before at (attempt event) t mv.allowed ps.1).3.after_lead (λ e. ne (sym (same_part_is at q ps.0) ∙ e))))
        (λ (k : tried run t q ≡ true). or_right _ _ (f.lead_first q t ne k))
        (or_cases _ _ h)

    full_step : (new : List (Record E)) (t : TxId) → Finds (after (plan.lead t)) new → committed new t ≡ true → Full plan next t
    full_step new t i h = let c = mv.changed (plan.lead t) new i in go c.old c.more c.because (λ k. full_stays t (f.full c.old t c.was k)) (sym (c.told.committed t) ∙ h)
      where
        go : (old : List (Record E)) (r : Record E) → Because plan run before (after (plan.lead t)).up at event (plan.lead t) old r → (committed old t ≡ true → Full plan next t) → committed (r ∷ old) t ≡ true → Full plan next t
        go old (Decide u c) b ih k = ⊎_elim
            (λ (e : same_tx u t ≡ true). subst (λ x. Full plan next x) (same_tx_is u t e) (record {
              asked = or_left _ _ (ap (λ a. is_decide a u) b.1 ∙ same_tx_refl u);
              ungiven = or_from _ _ (ap (λ a. is_own_abort a u) b.1) b.3.ungiven;
              lead = or_right _ _ (subst (λ x. voted run u x ≡ true) b.3.lead b.3.here);
              all = λ p l. or_right _ _ (b.3.all p l);
            }))
            (λ (e : committed old t ≡ true). ih e)
            (or_cases _ _ k)
        go old (Finish u c) b ih k = ⊎_elim
            (λ (e : same_tx u t ≡ true). full_stays t (full_in_history t (subst (λ x. is_decided run x ≡ true) (same_tx_is u t e) b.2.decided)))
            (λ (e : committed old t ≡ true). ih e)
            (or_cases _ _ k)
        go old (Lease n) b ih k = ih k
        go old (Batch x) b ih k = ih k
        go old (Prepare u l n s w) b ih k = ih k
        go old (Abort u) b ih k = ih k

    -- at the lead of what a partition holds, t is prepared
    at_its_lead : (q : PartId) (m : List (Record E)) (t : TxId) → q ≢ plan.lead t → Finds (before q) m → prepared m t ≡ true → (l : List (Record E)) → Finds (before (plan.lead t)) l → prepared l t ≡ true
    at_its_lead q m t ne i h l j = (f.held (plan.lead t) l t j (f.lead_first q t ne (f.was_tried q m t i h))).0

    Lost : TxId → Type 0
    Lost t = (gave_up next t ≡ true) ⊎ ((l : List (Record E)) → Finds (after (plan.lead t)) l → aborted l t ≡ true)

    -- what each image of a partition has aborted, each image after the step has
    lost_stays : (p : PartId) (t : TxId) → ((l : List (Record E)) → Finds (before p) l → aborted l t ≡ true) → (l : List (Record E)) → Finds (after p) l → aborted l t ≡ true
    lost_stays p t all l j = let c = mv.changed p l j in c.told.aborted t ∙ more_aborted c.more c.old t (all c.old c.was)

    told_by_lead : ((p : PartId) (l : List (Record E)) → (before p).up ≡ true → Finds (before p) l → l ≡ (before p).log) → (t : TxId) → TellsAborted (before (plan.lead t)) t → prepared (before (plan.lead t)).log t ≡ true → (l : List (Record E)) → Finds (before (plan.lead t)) l → aborted l t ≡ true
    told_by_lead one t a p l j = let w = told_aborted (before (plan.lead t)) t a in ap (λ x. aborted x t) (one (plan.lead t) l w.up j) ∙ ended_by_now (before (plan.lead t)).log t p w.idle w.uncommitted

    lost_step : ((p : PartId) (l : List (Record E)) → (before p).up ≡ true → Finds (before p) l → l ≡ (before p).log) → (q : PartId) (new : List (Record E)) (t : TxId) → q ≢ plan.lead t → Finds (after q) new → aborted new t ≡ true → Lost t
    unfolding Lost
    lost_step one q new t ne i h = let c = mv.changed q new i in go c.old c.more c.was c.because (λ k. was_lost (f.lost q c.old t ne c.was k)) (sym (c.told.aborted t) ∙ h)
      where
        was_lost : (gave_up run t ≡ true) ⊎ ((l : List (Record E)) → Finds (before (plan.lead t)) l → aborted l t ≡ true) → Lost t
        was_lost w = ⊎_elim (λ (k : gave_up run t ≡ true). inl (or_right _ _ k)) (λ (k : (l : List (Record E)) → Finds (before (plan.lead t)) l → aborted l t ≡ true). inr (lost_stays (plan.lead t) t k)) w

        by_word : (old : List (Record E)) (own : Bool) → q ≡ at → Finds (before q) old → pending old t ≡ true → attempt event ≡ Aborted t own → MayAbort plan run before at t own → Lost t
        by_word old true e w p s al = inl (or_left _ _ (ap (λ a. is_own_abort a t) s ∙ and_from _ _ (same_tx_refl t) refl))
        by_word old false e w p s al = inr (lost_stays (plan.lead t) t (⊎_elim
            (λ (k : at ≡ plan.lead t). absurd (ne (e ∙ k)))
            (λ (k : TellsAborted (before (plan.lead t)) t ⊎ (was_aborted run t (plan.lead t) ≡ true)). ⊎_elim
            (λ (x : TellsAborted (before (plan.lead t)) t). told_by_lead one t x (at_its_lead q old t ne w (pending_parts old t p).prepared (before (plan.lead t)).log (image_log (before (plan.lead t)))))
            (λ (x : was_aborted run t (plan.lead t) ≡ true) (l : List (Record E)) (j : Finds (before (plan.lead t)) l). f.aborted_stays (plan.lead t) l t j x)
            k)
            al))

        go : (old : List (Record E)) (r : Record E) → Finds (before q) old → Because plan run before (after q).up at event q old r → (aborted old t ≡ true → Lost t) → aborted (r ∷ old) t ≡ true → Lost t
        go old (Abort u) w b ih k = ⊎_elim
            (λ (e : same_tx u t ≡ true). (subst (λ x. (q ≡ at) × (pending old x ≡ true) × ((own : Bool) × (attempt event ≡ Aborted x own) × MayAbort plan run before at x own) → Lost t) (sym (same_tx_is u t e)) (λ b'. by_word old b'.2.0 b'.0 w b'.1 b'.2.1 b'.2.2)) b)
            (λ (e : aborted old t ≡ true). ih e)
            (or_cases _ _ k)
        go old (Lease n) w b ih k = ih k
        go old (Batch x) w b ih k = ih k
        go old (Prepare u l n s os) w b ih k = ih k
        go old (Decide u c) w b ih k = ih k
        go old (Finish u c) w b ih k = ih k

    at_lead_step : (q : PartId) (new : List (Record E)) (t : TxId) → Finds (after q) new → decided new t ≡ true → q ≡ plan.lead t
    at_lead_step q new t i h = let c = mv.changed q new i in go c.old c.more c.because (λ k. f.at_lead q c.old t c.was k) (sym (c.told.decided t) ∙ h)
      where
        go : (old : List (Record E)) (r : Record E) → Because plan run before (after q).up at event q old r → (decided old t ≡ true → q ≡ plan.lead t) → decided (r ∷ old) t ≡ true → q ≡ plan.lead t
        go old (Decide u c) b ih k = ⊎_elim (λ (e : same_tx u t ≡ true). b.0 ∙ b.3.lead ∙ ap (λ x. plan.lead x) (same_tx_is u t e)) (λ (e : decided old t ≡ true). ih e) (or_cases _ _ k)
        go old (Lease n) b ih k = ih k
        go old (Batch x) b ih k = ih k
        go old (Prepare u l n s w) b ih k = ih k
        go old (Finish u c) b ih k = ih k
        go old (Abort u) b ih k = ih k

    stays_step : (new : List (Record E)) (t : TxId) → Finds (after (plan.lead t)) new → is_decided next t ≡ true → committed new t ≡ true
    stays_step new t i h = ⊎_elim
        (λ (k : shows_decided event t ≡ true). shown k (⊎_elim
        (λ (d : decided (after at).log t ≡ true). at_lead_step at (after at).log t (image_log (after at)) d)
        (λ (d : (at ≡ plan.lead t) × (committed (after at).log t ≡ true)). d.0)
        (mv.decides t k (after at).log (image_log (after at)))))
        (λ (k : is_decided run t ≡ true). let c = mv.changed (plan.lead t) new i in c.told.committed t ∙ more_committed c.more c.old t (f.stays c.old t c.was k))
        (or_cases _ _ h)
      where
        shown : shows_decided event t ≡ true → at ≡ plan.lead t → committed new t ≡ true
        shown k e = ⊎_elim
            (λ (d : decided new t ≡ true). decided_committed new t d)
            (λ (d : (at ≡ plan.lead t) × (committed new t ≡ true)). d.1)
            (mv.decides t k new (subst (λ x. Finds (after x) new) (sym e) i))

    known_step : (q : PartId) (new : List (Record E)) (t : TxId) → Finds (after q) new → committed new t ≡ true → (is_decided next t ≡ true) ⊎ (((after q).up ≡ false) × (last_decided new ≡ Some t))
    known_step q new t i h = let c = mv.changed q new i in go c.old c.more c.because c.told.last (λ k. was_known c.old (λ u l. c.downs t u l) (f.known q c.old t c.was k)) (sym (c.told.committed t) ∙ h)
      where
        was_known : (old : List (Record E)) → ((before q).up ≡ false → last_decided old ≡ Some t → (shows_decided event t ≡ true) ⊎ (((after q).up ≡ false) × (last_decided new ≡ Some t))) → (is_decided run t ≡ true) ⊎ (((before q).up ≡ false) × (last_decided old ≡ Some t)) → (is_decided next t ≡ true) ⊎ (((after q).up ≡ false) × (last_decided new ≡ Some t))
        was_known old d w = ⊎_elim
            (λ (k : is_decided run t ≡ true). inl (or_right _ _ k))
            (λ (k : ((before q).up ≡ false) × (last_decided old ≡ Some t)). ⊎_elim (λ (s : shows_decided event t ≡ true). inl (or_left _ _ s)) (λ (s : ((after q).up ≡ false) × (last_decided new ≡ Some t)). inr s) (d k.0 k.1))
            w

        go : (old : List (Record E)) (r : Record E) → Because plan run before (after q).up at event q old r → last_decided new ≡ last_decided (r ∷ old) → (committed old t ≡ true → (is_decided next t ≡ true) ⊎ (((after q).up ≡ false) × (last_decided new ≡ Some t))) → committed (r ∷ old) t ≡ true → (is_decided next t ≡ true) ⊎ (((after q).up ≡ false) × (last_decided new ≡ Some t))
        go old (Decide u c) b l ih k = ⊎_elim
            (λ (e : same_tx u t ≡ true). ⊎_elim
            (λ (s : shows_decided event u ≡ true). inl (or_left _ _ (subst (λ x. shows_decided event x ≡ true) (same_tx_is u t e) s)))
            (λ (s : (after q).up ≡ false). inr (s, l ∙ ap Some (same_tx_is u t e)))
            b.4)
            (λ (e : committed old t ≡ true). ih e)
            (or_cases _ _ k)
        go old (Finish u c) b l ih k = ⊎_elim (λ (e : same_tx u t ≡ true). inl (or_right _ _ (subst (λ x. is_decided run x ≡ true) (same_tx_is u t e) b.2.decided))) (λ (e : committed old t ≡ true). ih e) (or_cases _ _ k)
        go old (Lease n) b l ih k = ih k
        go old (Batch x) b l ih k = ih k
        go old (Prepare u y n s w) b l ih k = ih k
        go old (Abort u) b l ih k = ih k

    apart_step : (q : PartId) (new : List (Record E)) (t : TxId) → Finds (after q) new → committed new t ≡ true → aborted new t ≡ false
    apart_step q new t i h = let c = mv.changed q new i in c.told.aborted t ∙ go c.old c.more c.because (λ k. f.apart q c.old t c.was k) (sym (c.told.committed t) ∙ h)
      where
        go : (old : List (Record E)) (r : Record E) → Because plan run before (after q).up at event q old r → (committed old t ≡ true → aborted old t ≡ false) → committed (r ∷ old) t ≡ true → aborted (r ∷ old) t ≡ false
        go old (Decide u c) b ih k = ⊎_elim (λ (e : same_tx u t ≡ true). subst (λ x. aborted old x ≡ false) (same_tx_is u t e) (pending_parts old u b.2).aborted) (λ (e : committed old t ≡ true). ih e) (or_cases _ _ k)
        go old (Finish u c) b ih k = ⊎_elim (λ (e : same_tx u t ≡ true). subst (λ x. aborted old x ≡ false) (same_tx_is u t e) (pending_parts old u b.1).aborted) (λ (e : committed old t ≡ true). ih e) (or_cases _ _ k)
        go old (Abort u) b ih k = or_from _ _ (false_from_ne_true _ (λ e. clash (subst (λ x. committed old x ≡ true) (sym (same_tx_is u t e)) k) (pending_parts old u b.1).committed)) (ih k)
        go old (Lease n) b ih k = ih k
        go old (Batch x) b ih k = ih k
        go old (Prepare u l n s w) b ih k = ih k

    aborted_stays_step : (q : PartId) (new : List (Record E)) (t : TxId) → Finds (after q) new → was_aborted next t q ≡ true → aborted new t ≡ true
    aborted_stays_step q new t i h = ⊎_elim
        (λ (k : (same_part at q && is_abort event t) ≡ true). let ps = and_parts (same_part at q) (is_abort event t) k in mv.aborts t ps.1 new (subst (λ x. Finds (after x) new) (sym (same_part_is at q ps.0)) i))
        (λ (k : was_aborted run t q ≡ true). lost_stays q t (λ l j. f.aborted_stays q l t j k) new i)
        (or_cases _ _ h)

    pub full_same_time : (t : TxId) → Full plan run t → time_of next t ≡ time_of run t
    full_same_time t u = cond-false _ _ _ (false_from_ne_true _ (λ h. clash (attempt_prepare event t h) (full_no_prepare t u)))

    same_vector : (t : TxId) → time_of next t ≡ time_of run t → commit_vector plan run t ≡ commit_vector plan next t
    same_vector t e = ap (λ c. vector_at plan t c) (sym e)

    time_step : (q : PartId) (new : List (Record E)) (t : TxId) → Finds (after q) new → committed new t ≡ true → committed_at new t ≡ commit_vector plan next t
    time_step q new t i h = let c = mv.changed q new i in c.told.committed_at t ∙ go c.old c.more c.because (λ k. f.time q c.old t c.was k ∙ same_vector t (full_same_time t (full_of q c.old t c.was k))) (sym (c.told.committed t) ∙ h)
      where
        now : (old : List (Record E)) (u : TxId) (c : List ℕ) → (committed old t ≡ true → committed_at old t ≡ commit_vector plan next t) → (same_tx u t || committed old t) ≡ true → (same_tx u t ≡ true → c ≡ commit_vector plan next t) → cond (same_tx u t) c (committed_at old t) ≡ commit_vector plan next t
        now old u c ih k mine = ⊎_elim
            (λ (e : same_tx u t ≡ true). cond-true _ c (committed_at old t) e ∙ mine e)
            (λ (e : same_tx u t ≡ false). cond-false _ c (committed_at old t) e ∙ ih (⊎_elim (λ (x : same_tx u t ≡ true). clash x e) (λ (x : committed old t ≡ true). x) (or_cases _ _ k)))
            (cases_Bool (same_tx u t))

        go : (old : List (Record E)) (r : Record E) → Because plan run before (after q).up at event q old r → (committed old t ≡ true → committed_at old t ≡ commit_vector plan next t) → committed (r ∷ old) t ≡ true → committed_at (r ∷ old) t ≡ commit_vector plan next t
        go old (Decide u c) b ih k = now old u c ih k (λ e. b.3.vector ∙ ap (λ x. commit_vector plan run x) (same_tx_is u t e) ∙ same_vector t (cond-false _ _ _ (false_from_ne_true _ (λ x. off (sym (ap (λ a. is_prepare a t) b.1) ∙ attempt_prepare event t x)))))
        go old (Finish u c) b ih k = now old u c ih k (λ e. b.2.vector ∙ ap (λ x. commit_vector plan run x) (same_tx_is u t e) ∙ same_vector t (full_same_time t (full_in_history t (subst (λ x. is_decided run x ≡ true) (same_tx_is u t e) b.2.decided))))
        go old (Lease n) b ih k = ih k
        go old (Prepare u l n s w) b ih k = ih k
        go old (Abort u) b ih k = ih k
        go old (Batch x) b ih k = ih k

    first_step : (q : PartId) (new : List (Record E)) (t : TxId) → Finds (after q) new → committed new t ≡ true → prepared new t ≡ true
    first_step q new t i h = let c = mv.changed q new i in c.told.prepared t ∙ more_prepared c.more c.old t (go c.old c.more c.because (λ k. f.first q c.old t c.was k) (sym (c.told.committed t) ∙ h))
      where
        go : (old : List (Record E)) (r : Record E) → Because plan run before (after q).up at event q old r → (committed old t ≡ true → prepared old t ≡ true) → committed (r ∷ old) t ≡ true → prepared old t ≡ true
        go old (Decide u c) b ih k = ⊎_elim (λ (e : same_tx u t ≡ true). subst (λ x. prepared old x ≡ true) (same_tx_is u t e) (pending_parts old u b.2).prepared) (λ (e : committed old t ≡ true). ih e) (or_cases _ _ k)
        go old (Finish u c) b ih k = ⊎_elim (λ (e : same_tx u t ≡ true). subst (λ x. prepared old x ≡ true) (same_tx_is u t e) (pending_parts old u b.1).prepared) (λ (e : committed old t ≡ true). ih e) (or_cases _ _ k)
        go old (Lease n) b ih k = ih k
        go old (Prepare u l n s w) b ih k = ih k
        go old (Abort u) b ih k = ih k
        go old (Batch x) b ih k = ih k

    wrote_step : (q : PartId) (new : List (Record E)) (t : TxId) → Finds (after q) new → prepared new t ≡ true → prepared_changes new t ≡ plan.updates t q
    wrote_step q new t i h = let c = mv.changed q new i in c.told.changes t ∙ go c.old c.more c.because (λ k. f.wrote q c.old t c.was k) (sym (c.told.prepared t) ∙ h)
      where
        go : (old : List (Record E)) (r : Record E) → Because plan run before (after q).up at event q old r → (prepared old t ≡ true → prepared_changes old t ≡ plan.updates t q) → prepared (r ∷ old) t ≡ true → prepared_changes (r ∷ old) t ≡ plan.updates t q
        go old (Prepare u l n s w) b ih k = ⊎_elim
            (λ (e : same_tx u t ≡ true). cond-true _ w (prepared_changes old t) e ∙ b.3.changes ∙ ap (λ x. plan.updates x at) (same_tx_is u t e) ∙ ap (λ p. plan.updates t p) (sym b.0))
            (λ (e : same_tx u t ≡ false). cond-false _ w (prepared_changes old t) e ∙ ih (⊎_elim (λ (x : same_tx u t ≡ true). clash x e) (λ (x : prepared old t ≡ true). x) (or_cases _ _ k)))
            (cases_Bool (same_tx u t))
        go old (Lease n) b ih k = ih k
        go old (Decide u c) b ih k = ih k
        go old (Finish u c) b ih k = ih k
        go old (Abort u) b ih k = ih k
        go old (Batch x) b ih k = ih k

    part_step : (q : PartId) (t : TxId) → tried next t q ≡ true → takes_part plan t q ≡ true
    part_step q t h = ⊎_elim
        (λ (k : (same_part at q && is_prepare (attempt event) t) ≡ true).
        let ps = and_parts (same_part at q) (is_prepare (attempt event) t) k in
        subst (λ x. takes_part plan t x ≡ true) (same_part_is at q ps.0) (may_prepare plan run before at (attempt event) t mv.allowed ps.1).3.takes)
        (λ (k : tried run t q ≡ true). f.part q t k)
        (or_cases _ _ h)

    late_step : (q : PartId) (t : TxId) → voted next t q ≡ true → entry (plan.snapshot t) t.site < vote next t q
    late_step q t h = ⊎_elim
        (λ (k : (same_part at q && is_prepare event t) ≡ true).
        let h' = (and_parts (same_part at q) (is_prepare event t) k).1 in
        let m = may_prepare plan run before at (attempt event) t mv.allowed (attempt_prepare event t h') in
        subst₂ (λ x y. entry (plan.snapshot t) x < y) (plan.at_home t at m.3.takes) (sym (cond-true _ _ _ k)) (mv.late t h'))
        (λ (k : (same_part at q && is_prepare event t) ≡ false). subst (λ x. entry (plan.snapshot t) t.site < x) (sym (cond-false _ _ _ k)) (f.late q t (⊎_elim (λ (x : (same_part at q && is_prepare event t) ≡ true). clash x k) (λ (x : voted run t q ≡ true). x) (or_cases _ _ h))))
        (cases_Bool (same_part at q && is_prepare event t))

    pub fate_step : ((p : PartId) (l : List (Record E)) → (before p).up ≡ true → Finds (before p) l → l ≡ (before p).log) → Fate plan next after
    unfolding Lost
    fate_step one = record {
      was_tried = was_tried_step;
      held = held_step;
      lead_first = lead_first_step;
      full = full_step;
      lost = lost_step one;
      stays = stays_step;
      known = known_step;
      apart = apart_step;
      aborted_stays = aborted_stays_step;
      at_lead = at_lead_step;
      time = time_step;
      first = first_step;
      wrote = wrote_step;
      part = part_step;
      late = late_step;
    }
