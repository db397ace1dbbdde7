-- The events of a run show the bounds of each partition that is up, and what is pending there.
use Rattle.std.proofs.Common.{◌≡◌, ◌≢◌, ◌⊎◌, ⊎_elim, inl, inr, ℕ, ◌+◌, ◌-◌, ◌<◌, ◌≤◌, cond, leb, min, Bool, true, false, not, ◌&&◌, ◌||◌, List, [], ◌∷◌, length, refl, sym, ap, ◌∙◌, subst, arith}
use Rattle.std.specs.Prelude.{◌==◌}
use Rattle.std.proofs.lemmas.Bool.{cases_Bool, or_cases, or_from, and_from, and_right, and_parts, not-true, cond_both, cond-true, cond-false, eqb-true, eq-eqb, false_from_ne_true}
use Rattle.std.proofs.lemmas.List.{length-replicate}
use Rattle.site_vector.specs.declared.ids.PartId.{PartId}
use Rattle.site_vector.specs.declared.ids.TxId.{TxId}
use Rattle.site_vector.specs.Ids.{same_part, same_tx}
use Rattle.site_vector.specs.Order.{same_part_refl, same_tx_is}
use Rattle.site_vector.specs.Vector.{entry, replaced}
use Rattle.site_vector.specs.VectorLaws.{length_replaced}
use Rattle.crdt_core.specs.declared.object.ObjectId.{ObjectId}
use Rattle.crdt_core.specs.declared.record.Upd.{Upd}
use Rattle.crdt_core.specs.declared.record.Record.{Record}
use Rattle.crdt_core.specs.declared.record.Record.TheVariants.{Lease, Prepare, Decide, Finish, Abort, Batch}
use Rattle.crdt_core.specs.declared.record.Part.{Part}
use Rattle.crdt_core.specs.declared.record.Message.{Message}
use Rattle.crdt_core.specs.Log.{end_of_time, prepared, prepare_time, prepared_changes, committed, aborted, pending, ceiling, grown}
use Rattle.crdt_core.specs.Parts.{touches}
use Rattle.world_model.specs.rules.Event.{Ballot, AskRead, AskUpdate, AskDecide, AskAbort, AskTake, TxPending, IsGone, HasGap, IsRepeat, Event, Ticked, Began, Updated, Read, Prepared, Decided, Finished, Aborted, Sent, Took, Reported, Heard, Crashed, RestartCut, Restarted, Refused, Opened, Cut, Entry, attempt, tried, was_aborted, is_decided}
use Rattle.crdt_core.specs.KindsOf.{Kinds}
use Rattle.world_model.specs.rules.Partition.{PartState, Finds, IsOwnBound, IsReady, IsTxPending, AreTimed, batch_of, new_part, PartStep}
use Rattle.world_model.specs.lines.Places.{IsOther}
use Rattle.world_model.specs.lines.Listed.{names_pending, listed_time, IsBefore}
use Rattle.crdt_core.specs.Log.{lease_for}
use Rattle.crdt_core.specs.Parts.{above}
use Rattle.world_model.specs.rules.Plan.{Plan, TellsAborted, MayAbort, takes_part, IsAllowed}
use Rattle.world_model.proofs.Runs.{IsRun}
use Rattle.world_model.specs.events.Pending.{is_down, pending_after, pending_shown, time_after, pending_time}
use Rattle.world_model.specs.events.Bounds.{bound_after, bound_shown, IsOwnBoundAt}
use Rattle.world_model.specs.events.Fate.{committed_shown, MayAbortAt}
use Rattle.world_model.specs.events.Causes.{IsFirstPending, IsReadyAt, ShowsAt, ShowAt}
use Rattle.world_model.proofs.Queue.{first_is, in_order}
use Rattle.world_model.proofs.Names.{clash, off, part_cases, part_other, entry_same, entry_cases}
use Rattle.world_model.proofs.Moves.{Because, Move, moved, image_log, grown_last}
use Rattle.world_model.proofs.Leases.{Leases}
use Rattle.world_model.proofs.Fate.{Fate, pending_parts, more_prepared, told_aborted}
use Rattle.world_model.proofs.Later.{in_log, once_pending, takes, prepared_now, never_aborted, pending_from}
use Rattle.world_model.proofs.Completeness.{zeros_at}
use Rattle.world_model.proofs.Upheld.{law_plan}
use Rattle.world_model.proofs.Ups.{ups}

new_pending : (s p c a : Bool) → (s ≡ true → p ≡ false) → (c ≡ true → p ≡ true) → (a ≡ true → p ≡ true) → ((s || p) && not (c || a)) ≡ (s || (p && not (c || a)))
new_pending true true c a h k l = clash refl (h refl)
new_pending true false true a h k l = off (k refl)
new_pending true false false true h k l = off (l refl)
new_pending true false false false h k l = refl
new_pending false p c a h k l = refl

pub less_pending : (s p c a : Bool) → (p && not ((s || c) || a)) ≡ (not s && (p && not (c || a)))
less_pending true p c a = and_right p false refl
less_pending false p c a = refl

less_aborted : (s p c a : Bool) → (p && not (c || (s || a))) ≡ (not s && (p && not (c || a)))
less_aborted true p true a = and_right p false refl
less_aborted true p false a = and_right p false refl
less_aborted false p c a = refl

not_pending : (s p : Bool) → (s ≡ true → p ≡ false) → p ≡ (not s && p)
not_pending true p h = h refl
not_pending false p h = refl

pub listed_is : {E : Type 0} (log : List (Record E)) (xs : List (TxId × ℕ)) (t : TxId) → AreTimed log xs → names_pending xs t ≡ true → listed_time xs t ≡ prepare_time log t
listed_is log [] t a h = off h
listed_is log (x ∷ xs) t a h = ⊎_elim
    (λ (e : same_tx x.0 t ≡ true). cond-true _ x.1 (listed_time xs t) e ∙ a.0 ∙ ap (prepare_time log) (same_tx_is x.0 t e))
    (λ (e : same_tx x.0 t ≡ false). cond-false _ x.1 (listed_time xs t) e ∙ listed_is log xs t a.1 (⊎_elim (λ (k : same_tx x.0 t ≡ true). clash k e) (λ (k : names_pending xs t ≡ true). k) (or_cases _ _ h)))
    (cases_Bool (same_tx x.0 t))

module _ {E : Type 0} where
  -- leases tell nothing of transactions
  leased_pending : (log : List (Record E)) (n : ℕ) (t : TxId) → pending (grown log (lease_for log n)) t ≡ pending log t
  leased_pending log n t = cond_both (leb n (ceiling log)) [] (Lease (min (n + 1000) end_of_time) ∷ []) (λ rs. pending (grown log rs) t ≡ pending log t) (λ e. refl) (λ e. refl)

  leased_time : (log : List (Record E)) (n : ℕ) (t : TxId) → prepare_time (grown log (lease_for log n)) t ≡ prepare_time log t
  leased_time log n t = cond_both (leb n (ceiling log)) [] (Lease (min (n + 1000) end_of_time) ∷ []) (λ rs. prepare_time (grown log rs) t ≡ prepare_time log t) (λ e. refl) (λ e. refl)

  batch_pending : (log : List (Record E)) (m : Message E) (b : ℕ) (xs : List (Part E)) (t : TxId) → pending (grown log (batch_of m b xs)) t ≡ pending log t
  batch_pending log m b [] t = refl
  batch_pending log m b (x ∷ xs) t = refl

  batch_time : (log : List (Record E)) (m : Message E) (b : ℕ) (xs : List (Part E)) (t : TxId) → prepare_time (grown log (batch_of m b xs)) t ≡ prepare_time log t
  batch_time log m b [] t = refl
  batch_time log m b (x ∷ xs) t = refl

  ended_pending : (log : List (Record E)) (u t : TxId) (r : Record E) → (pending log u ≡ true → pending (r ∷ log) t ≡ (not (same_tx u t) && pending log t)) → pending (grown log (cond (pending log u) (r ∷ []) [])) t ≡ (not (same_tx u t) && pending log t)
  ended_pending log u t r h = ⊎_elim
      (λ (k : pending log u ≡ true). subst (λ b. pending (grown log (cond b (r ∷ []) [])) t ≡ (not (same_tx u t) && pending log t)) (sym k) (h k))
      (λ (k : pending log u ≡ false). subst (λ b. pending (grown log (cond b (r ∷ []) [])) t ≡ (not (same_tx u t) && pending log t)) (sym k) (not_pending (same_tx u t) (pending log t) (λ s. subst (λ y. pending log y ≡ false) (same_tx_is u t s) k)))
      (cases_Bool (pending log u))

  ended_time : (log : List (Record E)) (b : Bool) (r : Record E) (t : TxId) → prepare_time (r ∷ log) t ≡ prepare_time log t → prepare_time (grown log (cond b (r ∷ []) [])) t ≡ prepare_time log t
  ended_time log true r t h = h
  ended_time log false r t h = refl

  pub record Shown (plan : Plan E) (run : List (Entry E)) (parts : PartId → PartState E) : Type 0 where
    pub first : (q : PartId) (m : List (Record E)) (t : TxId) → Finds (parts q) m → aborted m t ≡ true → prepared m t ≡ true
    pub width : (q : PartId) → (parts q).up ≡ true → length (parts q).bounds ≡ plan.sites
    pub bounds : (q : PartId) (j : ℕ) → (parts q).up ≡ true → IsOther plan.sites q.site j → entry (parts q).bounds j ≡ bound_shown run q j
    pub waiting : (q : PartId) (t : TxId) → (parts q).up ≡ true → pending (parts q).log t ≡ pending_shown run q t
    pub time : (q : PartId) (t : TxId) → (parts q).up ≡ true → pending (parts q).log t ≡ true → prepare_time (parts q).log t ≡ pending_time run q t

  -- what is shown at the partition of a step
  pub record Here (plan : Plan E) (run : List (Entry E)) (at : PartId) (event : Event E) (p : PartState E) : Type 0 where
    pub width : p.up ≡ true → length p.bounds ≡ plan.sites
    pub bounds : (j : ℕ) → p.up ≡ true → IsOther plan.sites at.site j → entry p.bounds j ≡ bound_after j (bound_shown run at j) event
    pub waiting : (t : TxId) → p.up ≡ true → pending p.log t ≡ pending_after t (pending_shown run at t) event
    pub time : (t : TxId) → p.up ≡ true → pending p.log t ≡ true → prepare_time p.log t ≡ time_after t (pending_time run at t) event

  -- what is committed at a partition that is up is shown to be
  module _ (plan : Plan E) (run : List (Entry E)) (parts : PartId → PartState E) (f : Fate plan run parts) (h : Shown plan run parts) (q : PartId) (up : (parts q).up ≡ true) (t : TxId) where
    pub committed_is : committed (parts q).log t ≡ committed_shown plan run q t
    committed_is =
        let log = (parts q).log in ⊎_elim
        (λ (c : committed log t ≡ true).
        let gone : pending_shown run q t ≡ false = sym (h.waiting q t up) ∙ and_right (prepared log t) _ (ap (λ b. not (b || aborted log t)) c) in
        c ∙ sym (and_from _ _ (takes plan run parts f q t c) (and_from _ _ (in_log plan run parts f q 0 up t c) (ap not gone))))
        (λ (c : committed log t ≡ false). c ∙ sym (false_from_ne_true _ (λ k.
        let a = and_parts (takes_part plan t q) _ k in
        let b = and_parts (is_decided run t) _ a.1 in
        let i = image_log (parts q) in
        let w = pending_from log t (prepared_now plan run parts f q log t i b.0 a.0).0 c (never_aborted plan run parts f q log t i b.0) in
        clash (sym (h.waiting q t up) ∙ w) (not-true (pending_shown run q t) b.1))))
        (cases_Bool (committed log t))

    pub known_is : (pending (parts q).log t || committed (parts q).log t) ≡ (pending_shown run q t || committed_shown plan run q t)
    known_is = λ i. (h.waiting q t up i || committed_is i)

  module _ {S : Type 0} (kinds : Kinds S E) (plan : Plan E) (run : List (Entry E)) (before after : PartId → PartState E) (at : PartId) (f : Fate plan run before) (h : Shown plan run before) where
    -- an event that shows nothing of these
    plain : (event : Event E) → (before at).up ≡ true → ((j : ℕ) → bound_after j (bound_shown run at j) event ≡ bound_shown run at j) → ((t : TxId) → pending_after t (pending_shown run at t) event ≡ pending_shown run at t) → ((t : TxId) → time_after t (pending_time run at t) event ≡ pending_time run at t) → (after at).bounds ≡ (before at).bounds → ((t : TxId) → pending (after at).log t ≡ pending (before at).log t) → ((t : TxId) → prepare_time (after at).log t ≡ prepare_time (before at).log t) → Here plan run at event (after at)
    plain event up eb ep et b p t = record {
      width = λ u. ap length b ∙ h.width at up;
      bounds = λ j u o. ap (λ v. entry v j) b ∙ h.bounds at j up o ∙ sym (eb j);
      waiting = λ x u. p x ∙ h.waiting at x up ∙ sym (ep x);
      time = λ x u k. t x ∙ h.time at x up (sym (p x) ∙ k) ∙ sym (et x);
    }

    gone_down : (event : Event E) → (after at).up ≡ false → Here plan run at event (after at)
    gone_down event d = record { width = λ u. clash u d; bounds = λ j u o. clash u d; waiting = λ t u. clash u d; time = λ t u k. clash u d }

    prepared_here : (u : TxId) (s : List ℕ) (l : Ballot) (n : ℕ) (w : List (Upd E)) → IsAllowed plan run before at (Prepared u s l w n) → PartStep kinds plan.sites plan.parts at (before at) (Prepared u s l w n) (after at) → Here plan run at (Prepared u s l w n) (after at)
    prepared_here u s l n w al st =
        let log = (before at).log in
        let old = grown log (lease_for log n) in
        let e : (after at).log ≡ Prepare u l.lead n s w ∷ old = ap (λ p. p.log) st.2 ∙ grown_last log (lease_for log n) (Prepare u l.lead n s w) in
        let fresh : (t : TxId) → same_tx u t ≡ true → prepared log t ≡ false = λ t k. false_from_ne_true _ (λ p. clash (subst (λ y. tried run y at ≡ true) (sym (same_tx_is u t k)) (f.was_tried at log t (image_log (before at)) p)) al.fresh) in
        let told : (t : TxId) → pending (Prepare u l.lead n s w ∷ old) t ≡ (same_tx u t || pending log t) = λ t.
        cond_both (leb n (ceiling log)) [] (Lease (min (n + 1000) end_of_time) ∷ []) (λ rs. pending (Prepare u l.lead n s w ∷ grown log rs) t ≡ (same_tx u t || pending log t))
        (λ x. new_pending (same_tx u t) (prepared log t) (committed log t) (aborted log t) (fresh t) (λ c. f.first at log t (image_log (before at)) c) (λ a. h.first at log t (image_log (before at)) a))
        (λ x. new_pending (same_tx u t) (prepared log t) (committed log t) (aborted log t) (fresh t) (λ c. f.first at log t (image_log (before at)) c) (λ a. h.first at log t (image_log (before at)) a)) in record {
          width = λ x. ap (λ p. length p.bounds) st.2 ∙ h.width at st.0;
          bounds = λ j x o. ap (λ p. entry p.bounds j) st.2 ∙ h.bounds at j st.0 o;
          waiting = λ t x. ap (λ y. pending y t) e ∙ told t ∙ ap (λ b. same_tx u t || b) (h.waiting at t st.0);
          time = λ t x k. ap (λ y. prepare_time y t) e ∙ ⊎_elim
              (λ (y : same_tx u t ≡ true). cond-true _ n (prepare_time old t) y ∙ sym (cond-true _ n (pending_time run at t) y))
              (λ (y : same_tx u t ≡ false). cond-false _ n (prepare_time old t) y ∙ leased_time log n t ∙ h.time at t st.0 (⊎_elim (λ (z : same_tx u t ≡ true). clash z y) (λ (z : pending log t ≡ true). z) (or_cases _ _ (sym (told t) ∙ (ap (λ z. pending z t) (sym e) ∙ k)))) ∙ sym (cond-false _ n (pending_time run at t) y))
              (cases_Bool (same_tx u t));
        }

    -- an event that ends a transaction
    ended_here : (event : Event E) (u : TxId) → (before at).up ≡ true → (after at).bounds ≡ (before at).bounds → ((j : ℕ) → bound_after j (bound_shown run at j) event ≡ bound_shown run at j) → ((t : TxId) → pending_after t (pending_shown run at t) event ≡ (not (same_tx u t) && pending_shown run at t)) → ((t : TxId) → time_after t (pending_time run at t) event ≡ pending_time run at t) → ((t : TxId) → pending (after at).log t ≡ (not (same_tx u t) && pending (before at).log t)) → ((t : TxId) → prepare_time (after at).log t ≡ prepare_time (before at).log t) → Here plan run at event (after at)
    ended_here event u up b eb ep et p t = record {
      width = λ x. ap length b ∙ h.width at up;
      bounds = λ j x o. ap (λ v. entry v j) b ∙ h.bounds at j up o ∙ sym (eb j);
      waiting = λ x y. p x ∙ ap (λ z. not (same_tx u x) && z) (h.waiting at x up) ∙ sym (ep x);
      time = λ x y k. t x ∙ h.time at x up ((and_parts _ _ (sym (p x) ∙ k)).1) ∙ sym (et x);
    }

    took_here : (number : ℕ) (m : Message E) → PartStep kinds plan.sites plan.parts at (before at) (Took number m) (after at) → IsAllowed plan run before at (Took number m) → Here plan run at (Took number m) (after at)
    took_here number m st al =
        let b = entry (before at).bounds m.from in record {
          width = λ x. ap (λ p. length p.bounds) st.2 ∙ length_replaced (before at).bounds m.from m.hi ∙ h.width at st.0;
          bounds = λ j x o. ap (λ p. entry p.bounds j) st.2 ∙ ⊎_elim
              (λ (e : (m.from == j) ≡ true). let same = eqb-true m.from j e in
              subst (λ i. entry (replaced (before at).bounds m.from m.hi) i ≡ m.hi) same (entry_same (before at).bounds m.from m.hi al.from.least (subst (λ n. m.from ≤ n) (sym (h.width at st.0)) al.from.most)) ∙ sym (cond-true _ m.hi (bound_shown run at j) e))
              (λ (e : (m.from == j) ≡ false). ⊎_elim
              (λ (y : entry (replaced (before at).bounds m.from m.hi) j ≡ entry (before at).bounds j). y)
              (λ (y : (j - 1 ≡ m.from - 1) × (entry (replaced (before at).bounds m.from m.hi) j ≡ m.hi)). let a = y.0 in let c = o.least in let d = al.from.least in let same : m.from ≡ j = omega arith in clash (eq-eqb m.from j same) e)
              (entry_cases (before at).bounds m.from m.hi j) ∙ h.bounds at j st.0 o ∙ sym (cond-false _ m.hi (bound_shown run at j) e))
              (cases_Bool (m.from == j));
          waiting = λ t x. ap (λ p. pending p.log t) st.2 ∙ batch_pending (before at).log m b (above m.from b m.parts) t ∙ h.waiting at t st.0;
          time = λ t x k. ap (λ p. prepare_time p.log t) st.2 ∙ batch_time (before at).log m b (above m.from b m.parts) t ∙ h.time at t st.0 (sym (batch_pending (before at).log m b (above m.from b m.parts) t) ∙ (ap (λ p. pending p.log t) (sym st.2) ∙ k));
        }

    pub here : (event : Event E) → IsAllowed plan run before at (attempt event) → PartStep kinds plan.sites plan.parts at (before at) event (after at) → Here plan run at event (after at)
    here (Ticked r n) al st = plain (Ticked r n) st.0 (λ j. refl) (λ t. refl) (λ t. refl) (ap (λ p. p.bounds) st.2) (λ t. ap (λ p. pending p.log t) st.2 ∙ leased_pending (before at).log n t) (λ t. ap (λ p. prepare_time p.log t) st.2 ∙ leased_time (before at).log n t)
    here (Began who dep u s) al st = plain (Began who dep u s) st.0 (λ j. refl) (λ t. refl) (λ t. refl) (ap (λ p. p.bounds) st.2) (λ t. ap (λ p. pending p.log t) st.2 ∙ leased_pending (before at).log u.time t) (λ t. ap (λ p. prepare_time p.log t) st.2 ∙ leased_time (before at).log u.time t)
    here (Updated u s o own op read x stamp) al st = plain (Updated u s o own op read x stamp) st.0 (λ j. refl) (λ t. refl) (λ t. refl) (ap (λ p. p.bounds) st.2) (λ t. ap (λ p. pending p.log t) st.2) (λ t. ap (λ p. prepare_time p.log t) st.2)
    here (Read u s o own read value) al st = plain (Read u s o own read value) st.0 (λ j. refl) (λ t. refl) (λ t. refl) (ap (λ p. p.bounds) st.2) (λ t. ap (λ p. pending p.log t) st.2) (λ t. ap (λ p. prepare_time p.log t) st.2)
    here (Prepared u s l w n) al st = prepared_here u s l n w al st
    here (Decided u c) al st = ended_here (Decided u c) u st.0 (ap (λ p. p.bounds) st.2) (λ j. refl) (λ t. refl) (λ t. refl) (λ t. ap (λ p. pending p.log t) st.2 ∙ ended_pending (before at).log u t (Decide u c) (λ k. less_pending (same_tx u t) (prepared (before at).log t) (committed (before at).log t) (aborted (before at).log t))) (λ t. ap (λ p. prepare_time p.log t) st.2 ∙ ended_time (before at).log (pending (before at).log u) (Decide u c) t refl)
    here (Finished u c) al st = ended_here (Finished u c) u st.0 (ap (λ p. p.bounds) st.2) (λ j. refl) (λ t. refl) (λ t. refl) (λ t. ap (λ p. pending p.log t) st.2 ∙ ended_pending (before at).log u t (Finish u c) (λ k. less_pending (same_tx u t) (prepared (before at).log t) (committed (before at).log t) (aborted (before at).log t))) (λ t. ap (λ p. prepare_time p.log t) st.2 ∙ ended_time (before at).log (pending (before at).log u) (Finish u c) t refl)
    here (Aborted u own) al st = ended_here (Aborted u own) u st.0 (ap (λ p. p.bounds) st.2) (λ j. refl) (λ t. refl) (λ t. refl) (λ t. ap (λ p. pending p.log t) st.2 ∙ less_aborted (same_tx u t) (prepared (before at).log t) (committed (before at).log t) (aborted (before at).log t)) (λ t. ap (λ p. prepare_time p.log t) st.2)
    here (Sent asked m) al st = plain (Sent asked m) st.0 (λ j. refl) (λ t. refl) (λ t. refl) (ap (λ p. p.bounds) st.2) (λ t. ap (λ p. pending p.log t) st.2) (λ t. ap (λ p. prepare_time p.log t) st.2)
    here (Took number m) al st = took_here number m st al
    here (Reported b) al st = plain (Reported b) st.0 (λ j. refl) (λ t. refl) (λ t. refl) (ap (λ p. p.bounds) st.2) (λ t. ap (λ p. pending p.log t) st.2) (λ t. ap (λ p. prepare_time p.log t) st.2)
    here (Heard number q b stable) al st = plain (Heard number q b stable) st.0 (λ j. refl) (λ t. refl) (λ t. refl) (ap (λ p. p.bounds) st.2) (λ t. ap (λ p. pending p.log t) st.2) (λ t. ap (λ p. prepare_time p.log t) st.2)
    here (Cut a) al st = gone_down (Cut a) (ap (λ p. p.up) st.2)
    here Crashed al st = gone_down Crashed (ap (λ p. p.up) st)
    here RestartCut al st = gone_down RestartCut (ap (λ p. p.up) st)
    here (Restarted n b named listed) al st = record {
      width = λ x. st.width;
      bounds = λ j x o. sym (st.shown_bounds.others j o);
      waiting = λ t x. sym (st.members t);
      time = λ t x k. sym (listed_is (after at).log listed t st.timed (st.members t ∙ k));
    }
    here (Refused asked why) al st = record {
      width = λ x. ap (λ p. length p.bounds) st.1 ∙ h.width at (sym (ap (λ p. p.up) st.1) ∙ x);
      bounds = λ j x o. ap (λ p. entry p.bounds j) st.1 ∙ h.bounds at j (sym (ap (λ p. p.up) st.1) ∙ x) o;
      waiting = λ t x. ap (λ p. pending p.log t) st.1 ∙ h.waiting at t (sym (ap (λ p. p.up) st.1) ∙ x);
      time = λ t x k. ap (λ p. prepare_time p.log t) st.1 ∙ h.time at t (sym (ap (λ p. p.up) st.1) ∙ x) (ap (λ p. pending p.log t) (sym st.1) ∙ k);
    }
    here (Opened who) al st = record {
      width = λ x. ap (λ p. length p.bounds) st ∙ h.width at (sym (ap (λ p. p.up) st) ∙ x);
      bounds = λ j x o. ap (λ p. entry p.bounds j) st ∙ h.bounds at j (sym (ap (λ p. p.up) st) ∙ x) o;
      waiting = λ t x. ap (λ p. pending p.log t) st ∙ h.waiting at t (sym (ap (λ p. p.up) st) ∙ x);
      time = λ t x k. ap (λ p. prepare_time p.log t) st ∙ h.time at t (sym (ap (λ p. p.up) st) ∙ x) (ap (λ p. pending p.log t) (sym st) ∙ k);
    }

    first_step : (event : Event E) → Move plan run before after at event → (q : PartId) (new : List (Record E)) (t : TxId) → Finds (after q) new → aborted new t ≡ true → prepared new t ≡ true
    first_step event mv q new t i k = let c = mv.changed q new i in c.told.prepared t ∙ more_prepared c.more c.old t (go c.old c.more c.because (λ x. h.first q c.old t c.was x) (sym (c.told.aborted t) ∙ k))
      where
        go : (old : List (Record E)) (r : Record E) → Because plan run before (after q).up at event q old r → (aborted old t ≡ true → prepared old t ≡ true) → aborted (r ∷ old) t ≡ true → prepared old t ≡ true
        go old (Abort u) b ih x = ⊎_elim (λ (e : same_tx u t ≡ true). subst (λ y. prepared old y ≡ true) (same_tx_is u t e) (pending_parts old u b.1).prepared) (λ (e : aborted old t ≡ true). ih e) (or_cases _ _ x)
        go old (Decide u c) b ih x = ih x
        go old (Finish u c) b ih x = ih x
        go old (Lease n) b ih x = ih x
        go old (Prepare u l n s w) b ih x = ih x
        go old (Batch m) b ih x = ih x

    shown_step : (event : Event E) → Move plan run before after at event → IsAllowed plan run before at (attempt event) → PartStep kinds plan.sites plan.parts at (before at) event (after at) → ((q : PartId) → q ≢ at → after q ≡ before q) → Shown plan ((record { at = at; event = event }) ∷ run) after
    shown_step event mv al st others =
        let x = here event al st in
        let yes = λ (q : PartId) (e : at ≡ q). subst (λ y. same_part at y ≡ true) e (same_part_refl at) in
        let not_here = λ (q : PartId) (ne : at ≡ q → ⊥). part_other at q ne in
        let old = λ (q : PartId) (ne : at ≡ q → ⊥). others q (λ e. ne (sym e)) in record {
          first = first_step event mv;
          width = λ q u. ⊎_elim
              (λ (e : at ≡ q). subst (λ y. (after y).up ≡ true → length (after y).bounds ≡ plan.sites) e x.width u)
              (λ (ne : at ≡ q → ⊥). ap (λ p. length p.bounds) (old q ne) ∙ h.width q (ap (λ p. p.up) (sym (old q ne)) ∙ u))
              (part_cases at q);
          bounds = λ q j u o. ⊎_elim
              (λ (e : at ≡ q). subst (λ y. (after y).up ≡ true → IsOther plan.sites y.site j → entry (after y).bounds j ≡ bound_after j (bound_shown run y j) event) e (x.bounds j) u o ∙ sym (cond-true _ _ _ (yes q e)))
              (λ (ne : at ≡ q → ⊥). ap (λ p. entry p.bounds j) (old q ne) ∙ h.bounds q j (ap (λ p. p.up) (sym (old q ne)) ∙ u) o ∙ sym (cond-false _ _ _ (not_here q ne)))
              (part_cases at q);
          waiting = λ q t u. ⊎_elim
              (λ (e : at ≡ q). subst (λ y. (after y).up ≡ true → pending (after y).log t ≡ pending_after t (pending_shown run y t) event) e (x.waiting t) u ∙ sym (cond-true _ _ _ (yes q e)))
              (λ (ne : at ≡ q → ⊥). ap (λ p. pending p.log t) (old q ne) ∙ h.waiting q t (ap (λ p. p.up) (sym (old q ne)) ∙ u) ∙ sym (cond-false _ _ _ (not_here q ne)))
              (part_cases at q);
          time = λ q t u k. ⊎_elim
              (λ (e : at ≡ q). subst (λ y. (after y).up ≡ true → pending (after y).log t ≡ true → prepare_time (after y).log t ≡ time_after t (pending_time run y t) event) e (x.time t) u k ∙ sym (cond-true _ _ _ (yes q e)))
              (λ (ne : at ≡ q → ⊥). ap (λ p. prepare_time p.log t) (old q ne) ∙ h.time q t (ap (λ p. p.up) (sym (old q ne)) ∙ u) (ap (λ p. pending p.log t) (sym (old q ne)) ∙ k) ∙ sym (cond-false _ _ _ (not_here q ne)))
              (part_cases at q);
        }

    module _ (up : (before at).up ≡ true) (l : Leases run before) where
      seen : (u : TxId) → pending_shown run at u ≡ true → pending (before at).log u ≡ true
      seen u k = h.waiting at u up ∙ k

      pub own_bound : (b : ℕ) → IsOwnBound (before at).now (before at).log b → IsOwnBoundAt run at b
      own_bound b o = record {
        most = subst (λ n. b ≤ n) (l.clock at).now o.most;
        below = λ u k. subst (λ n. b < n) (h.time at u up (seen u k)) (o.below u (seen u k));
        reached = ⊎_elim
            (λ (e : b ≡ (before at).now). inl (e ∙ (l.clock at).now))
            (λ (e : (u : TxId) × (pending (before at).log u ≡ true) × (prepare_time (before at).log u ≡ b + 1)). inr (e.0, sym (h.waiting at e.0 up) ∙ e.1, sym (h.time at e.0 up e.1) ∙ e.2))
            o.reached;
      }

      first_pending : (s : List ℕ) (o : ObjectId) (u : TxId) (n : ℕ) → IsTxPending at (before at) s o u n → IsFirstPending plan run at s o u n
      first_pending s o u n x =
          let log = (before at).log in
          let same : (w : TxId) → pending log w ≡ true → prepared_changes log w ≡ plan.updates w at = λ w k. f.wrote at log w (image_log (before at)) (pending_parts log w k).prepared in record {
            clock = subst (λ m. entry s at.site ≤ m) (l.clock at).now x.clock;
            waiting = sym (h.waiting at u up) ∙ x.waiting;
            changes = subst (λ y. touches y o ≡ true) (same u x.waiting) x.changes;
            time = x.time ∙ h.time at u up x.waiting;
            early = x.early;
            first = λ w ne k y. let q = seen w k in subst (λ m. IsBefore (u, n) (w, m)) (h.time at w up q) (first_is (u, n) (w, prepare_time log w) (x.first w q (subst (λ z. touches z o ≡ true) (sym (same w q)) y)) ne);
          }

    -- a read that was ready is shown to be
    pub ready_is : (up : (before at).up ≡ true) (l : Leases run before) (s : List ℕ) (o : ObjectId) → IsReady at (before at) s o → IsReadyAt plan run at s o
    ready_is up l s o x =
        let log = (before at).log in record {
          clock = subst (λ n. entry s at.site ≤ n) (l.clock at).now x.clock;
          free = λ u k y.
              let w : pending log u ≡ true = h.waiting at u up ∙ k in
              let same : prepared_changes log u ≡ plan.updates u at = f.wrote at log u (image_log (before at)) (pending_parts log u w).prepared in
              subst (λ n. entry s at.site < n) (h.time at u up w) (x.free u w (subst (λ z. touches z o ≡ true) (sym same) y));
        }

    -- whose word an abort rests on is shown
    may_abort : ((p : PartId) → (before p).up ≡ not (is_down run p)) → (t : TxId) (own : Bool) → MayAbort plan run before at t own → MayAbortAt plan run at t own
    may_abort u t true m = m
    may_abort u t false m = ⊎_elim
        (λ (e : at ≡ plan.lead t). inl e)
        (λ (y : TellsAborted (before (plan.lead t)) t ⊎ (was_aborted run t (plan.lead t) ≡ true)). ⊎_elim (λ (x : TellsAborted (before (plan.lead t)) t). let w = told_aborted (before (plan.lead t)) t x in inr (inl (record {
          up = not-true (is_down run (plan.lead t)) (sym (u (plan.lead t)) ∙ w.up);
          unknown = sym (known_is plan run before f h (plan.lead t) w.up t) ∙ or_from _ _ w.idle w.uncommitted;
        }))) (λ (x : was_aborted run t (plan.lead t) ≡ true). inr (inr x)) y)
        m

    shows_event : (event : Event E) (q : PartState E) → ((p : PartId) → (before p).up ≡ not (is_down run p)) → Leases run before → IsAllowed plan run before at (attempt event) → PartStep kinds plan.sites plan.parts at (before at) event q → ShowsAt plan run at event
    shows_event (Began who dep t s) q u l al st = subst (λ n. n < end_of_time) (l.clock at).now st.1.early
    shows_event (Read t s o own read value) q u l al st = ready_is st.0 l s o st.1.0
    shows_event (Updated t s o own op read x stamp) q u l al st = λ k. ready_is st.0 l s o (st.1.ready k)
    shows_event (Prepared t s y w n) q u l al st = let e = (l.clock at).now in (al.snapshot, subst (λ k. entry s at.site ≤ k) e st.1.0, subst (λ k. k < end_of_time) e st.1.2)
    shows_event (Sent asked m) q u l al st = own_bound st.0 l m.hi st.1.hi
    shows_event (Took number m) q u l al st = let e = h.bounds at m.from st.0 al.from in (subst (λ n. m.lo ≤ n) e st.1.0, subst (λ n. n < m.hi) e st.1.1)
    shows_event (Reported b) q u l al st = (st.1.width, own_bound st.0 l (entry b at.site) st.1.own, λ j o. st.1.others j o ∙ h.bounds at j st.0 o)
    shows_event (Restarted n b named listed) q u l al st =
        let o = st.shown_bounds.own in
        let since : (u : TxId) → names_pending listed u ≡ true → prepare_time q.log u ≡ listed_time listed u = λ u k. sym (listed_is q.log listed u st.timed k) in (
          st.shown_bounds.width,
          in_order listed st.order,
          record {
            most = subst (λ m. entry b at.site ≤ m) (sym st.shown) o.most;
            below = λ u k. subst (λ m. entry b at.site < m) (since u k) (o.below u (sym (st.members u) ∙ k));
            reached = ⊎_elim
                (λ (e : entry b at.site ≡ q.now). inl (e ∙ sym st.shown))
                (λ (e : (u : TxId) × (pending q.log u ≡ true) × (prepare_time q.log u ≡ entry b at.site + 1)). let k = st.members e.0 ∙ e.1 in inr (e.0, k, sym (since e.0 k) ∙ e.2))
                o.reached;
          },
        )
    shows_event (Decided t c) q u l al st = sym (h.waiting at t st.0) ∙ (once_pending plan run before f at 0 st.0 t al.once st.1).0
    shows_event (Finished t c) q u l al st = sym (known_is plan run before f h at st.0 t) ∙ st.1
    shows_event (Aborted t own) q u l al st = (sym (h.waiting at t st.0) ∙ st.1, may_abort u t own al)
    shows_event (Refused (AskDecide t c) IsGone) q u l al st = sym (known_is plan run before f h at st.0.0 t) ∙ st.0.1
    shows_event (Refused (AskAbort t) IsGone) q u l al st = sym (h.waiting at t st.0.0) ∙ st.0.1
    shows_event (Refused (AskRead t s o own) (TxPending x n)) q u l al st = first_pending st.0.0 l s o x n st.0.1
    shows_event (Refused (AskUpdate t s o own op) (TxPending x n)) q u l al st = (st.0.1.0, first_pending st.0.0 l s o x n st.0.1.1)
    shows_event (Refused (AskTake number m) (HasGap n)) q u l al st = (st.0.1.0 ∙ h.bounds at m.from st.0.0 al.from, st.0.1.1)
    shows_event (Refused (AskTake number m) (IsRepeat n)) q u l al st = (st.0.1.0 ∙ h.bounds at m.from st.0.0 al.from, st.0.1.1, st.0.1.2)
    shows_event event q u l al st = tt

  shown_start : (plan : Plan E) (parts : PartId → PartState E) → ((p : PartId) → parts p ≡ new_part plan.sites plan.parts) → Shown plan [] parts
  shown_start plan parts r = record {
    first = λ q m t i k. off (subst (λ x. aborted x t ≡ true) (subst (λ x. Finds x m) (r q) i) k);
    width = λ q u. ap (λ p. length p.bounds) (r q) ∙ length-replicate plan.sites 0;
    bounds = λ q j u o. ap (λ p. entry p.bounds j) (r q) ∙ zeros_at plan.sites (j - 1);
    waiting = λ q t u. ap (λ p. pending p.log t) (r q);
    time = λ q t u k. ap (λ p. prepare_time p.log t) (r q);
  }

  pub shown_run : {S : Type 0} (kinds : Kinds S E) (plan : Plan E) (run : List (Entry E)) (parts : PartId → PartState E) → IsRun kinds plan run parts → Shown plan run parts
  shown_run kinds plan [] parts r = shown_start plan parts r
  shown_run kinds plan (e ∷ run) parts r =
      let w = r.2 in
      shown_step kinds plan run r.0 parts e.at (law_plan kinds plan run r.0 r.1).fate (shown_run kinds plan run r.0 r.1) e.event (moved kinds plan run r.0 parts e.at e.event w.allowed w.step w.others) w.allowed w.step w.others

  pub show_events : {S : Type 0} (kinds : Kinds S E) (plan : Plan E) (run : List (Entry E)) (parts : PartId → PartState E) → IsRun kinds plan run parts → ShowAt plan run
  show_events kinds plan [] parts r = tt
  show_events kinds plan (e ∷ run) parts r =
      let k = law_plan kinds plan run r.0 r.1 in (
        shows_event kinds plan run r.0 parts e.at k.fate (shown_run kinds plan run r.0 r.1) e.event (parts e.at) (ups kinds plan run r.0 r.1) k.leases r.2.allowed r.2.step,
        show_events kinds plan run r.0 r.1,
      )
