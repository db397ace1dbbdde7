-- The call that lines say a fault ended is the one that was cut off.
use Rattle.std.specs.Prelude.{⊤}
use Rattle.std.proofs.Common.{◌≡◌, ⊎_elim, ℕ, ◌+◌, cond, Bool, true, false, List, [], ◌∷◌, Option, Some, refl, sym, ap, ◌∙◌, subst}
use Rattle.std.proofs.lemmas.Bool.{cases_Bool, cond-true, cond-false}
use Rattle.site_vector.specs.declared.ids.PartId.{PartId}
use Rattle.site_vector.specs.declared.ids.TxId.{TxId}
use Rattle.site_vector.specs.Ids.{same_part, same_tx}
use Rattle.site_vector.specs.Order.{same_part_is}
use Rattle.world_model.specs.rules.Event.{IsDown, Event, Prepared, Decided, Finished, Aborted, Took, Crashed, RestartCut, Restarted, Refused, Opened, Cut, Entry}
use Rattle.world_model.specs.events.Pending.{pending_shown, pending_time}
use Rattle.world_model.specs.events.Clock.{ClockIs, ClocksAre}
use Rattle.world_model.specs.events.Restarts.{is_call, last_shown, cut_after, cut_call}
use Rattle.world_model.specs.lines.Lines.{Call}
use Rattle.world_model.specs.rules.Lines.{call_cut, call_of, step_shown, shown_lines}
use Rattle.world_model.specs.lines.Clock.{now}
use Rattle.world_model.specs.lines.Pending.{pending, prepare_time}
use Rattle.world_model.specs.lines.Restarts.{last_decided, with_done, fault_after, faulted}
use Rattle.world_model.proofs.Names.{off}
use Rattle.world_model.proofs.LineViews.{now_is, pending_is, prepare_time_is, last_is}

pub either_way : {A : Type 0} (b : Bool) (x : A) → cond b x x ≡ x
either_way true x = refl
either_way false x = refl

module _ {E : Type 0} where
  -- a prepare that was cut off would have drawn this time
  abbrev IsDrawn : Event E → ℕ → Type 0
  IsDrawn (Prepared u s l w n) drawn = drawn ≡ n
  IsDrawn what drawn = ⊤

  pub record IsFault (fault : Option (Call × ℕ)) (what : Event E) : Type 0 where
    pub drawn : ℕ
    pub is : fault ≡ Some (call_cut what, drawn)
    pub time : IsDrawn what drawn

  -- the run with a call done, which lines say too
  abbrev pub done_at : PartId → Event E → List (Entry E) → List (Entry E)
  done_at p what run = (record { at = p; event = what }) ∷ run

  pub pend_done : (run : List (Entry E)) (p : PartId) (what : Event E) (drawn : ℕ) (t : TxId) → is_call what ≡ true → pending (with_done (call_cut what) drawn p (shown_lines run)) p t ≡ pending_shown (done_at p what run) p t
  pend_done run p (Prepared u s l w n) drawn t k = pending_is (done_at p (Prepared u s l w n) run) p t
  pend_done run p (Decided u c) drawn t k = pending_is (done_at p (Decided u c) run) p t
  pend_done run p (Finished u c) drawn t k = pending_is (done_at p (Finished u c) run) p t
  pend_done run p (Aborted u own) drawn t k = pending_is (done_at p (Aborted u own) run) p t
  pend_done run p (Took number m) drawn t k = pending_is (done_at p (Took number m) run) p t
  pend_done run p (Restarted n b named listed) drawn t k = off k
  pend_done run p what drawn t k = pending_is run p t ∙ sym (either_way (same_part p p) (pending_shown run p t))

  pub since_done : (run : List (Entry E)) (p : PartId) (what : Event E) (drawn : ℕ) (t : TxId) → is_call what ≡ true → IsDrawn what drawn → prepare_time (with_done (call_cut what) drawn p (shown_lines run)) p t ≡ pending_time (done_at p what run) p t
  since_done run p (Prepared u s l w n) drawn t k d = λ i. cond (same_part p p) (cond (same_tx u t) (d i) (prepare_time_is run p t i)) (prepare_time_is run p t i)
  since_done run p (Decided u c) drawn t k d = prepare_time_is (done_at p (Decided u c) run) p t
  since_done run p (Finished u c) drawn t k d = prepare_time_is (done_at p (Finished u c) run) p t
  since_done run p (Aborted u own) drawn t k d = prepare_time_is (done_at p (Aborted u own) run) p t
  since_done run p (Took number m) drawn t k d = prepare_time_is (done_at p (Took number m) run) p t
  since_done run p (Restarted n b named listed) drawn t k d = off k
  since_done run p what drawn t k d = prepare_time_is run p t ∙ sym (either_way (same_part p p) (pending_time run p t))

  pub last_done : (run : List (Entry E)) (p : PartId) (what : Event E) (drawn : ℕ) → is_call what ≡ true → last_decided (with_done (call_cut what) drawn p (shown_lines run)) p ≡ last_shown (done_at p what run) p
  last_done run p (Prepared u s l w n) drawn k = last_is (done_at p (Prepared u s l w n) run) p
  last_done run p (Decided u c) drawn k = last_is (done_at p (Decided u c) run) p
  last_done run p (Finished u c) drawn k = last_is (done_at p (Finished u c) run) p
  last_done run p (Aborted u own) drawn k = last_is (done_at p (Aborted u own) run) p
  last_done run p (Took number m) drawn k = last_is (done_at p (Took number m) run) p
  last_done run p (Restarted n b named listed) drawn k = off k
  last_done run p what drawn k = last_is run p ∙ sym (either_way (same_part p p) (last_shown run p))

  time_same : (run : List (Entry E)) (p : PartId) (what : Event E) → ClockIs run p (Cut what) → IsDrawn what (now (shown_lines run) p + 1)
  time_same run p (Prepared u s l w n) h = ap (λ x. x + 1) (now_is run p) ∙ sym h
  time_same run p what h = tt

  cut_is : (run : List (Entry E)) (p : PartId) (old : Option (Call × ℕ)) (what : Event E) → is_call what ≡ true → fault_after (now (shown_lines run) p) old (call_of (Cut what)) (step_shown run p (Cut what)) ≡ Some (call_cut what, now (shown_lines run) p + 1)
  cut_is run p old (Decided t c) k = refl
  cut_is run p old Crashed k = off k
  cut_is run p old RestartCut k = off k
  cut_is run p old (Restarted n b named listed) k = off k
  cut_is run p old (Refused asked why) k = off k
  cut_is run p old (Opened who) k = off k
  cut_is run p old (Cut a) k = off k
  cut_is run p old what k = refl

  fault_here : (run : List (Entry E)) (p : PartId) (event what : Event E) → ClockIs run p event → is_call what ≡ true → cut_after (cut_call run p) event ≡ Some what → (cut_call run p ≡ Some what → IsFault (faulted (shown_lines run) p) what) → IsFault (fault_after (now (shown_lines run) p) (faulted (shown_lines run) p) (call_of event) (step_shown run p event)) what
  fault_here run p (Cut a) what h k c ih =
      let e : a ≡ what = cc c in
      subst (λ x. IsFault (fault_after (now (shown_lines run) p) (faulted (shown_lines run) p) (call_of (Cut a)) (step_shown run p (Cut a))) x) e
      (record { drawn = now (shown_lines run) p + 1; is = cut_is run p (faulted (shown_lines run) p) a (ap is_call e ∙ k); time = time_same run p a h })
  fault_here run p (Restarted n b named listed) what h k c ih = absurd (cc c)
  fault_here run p (Refused asked IsDown) what h k c ih = ih c
  fault_here run p (Refused asked why) what h k c ih = ih c
  fault_here run p event what h k c ih = ih c

  pub fault_is : (run : List (Entry E)) → ClocksAre run → (p : PartId) (what : Event E) → is_call what ≡ true → cut_call run p ≡ Some what → IsFault (faulted (shown_lines run) p) what
  fault_is [] h p what k c = absurd (cc c)
  fault_is (e ∷ run) h p what k c = ⊎_elim
      (λ (y : same_part e.at p ≡ true).
      let s = same_part_is e.at p y in
      subst (λ f. IsFault f what) (sym (cond-true _ _ _ y))
      (subst (λ q. IsFault (fault_after (now (shown_lines run) p) (faulted (shown_lines run) p) (call_of e.event) (step_shown run q e.event)) what) (sym s)
      (fault_here run p e.event what (subst (λ q. ClockIs run q e.event) s h.0) k (sym (cond-true _ _ _ y) ∙ c) (fault_is run h.1 p what k))))
      (λ (y : same_part e.at p ≡ false). subst (λ f. IsFault f what) (sym (cond-false _ _ _ y)) (fault_is run h.1 p what k (sym (cond-false _ _ _ y) ∙ c)))
      (cases_Bool (same_part e.at p))
