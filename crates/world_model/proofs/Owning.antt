-- Whose transaction a step is has begun.
use Rattle.std.proofs.Common.{◌≡◌, ◌⊎◌, ⊎_elim, inl, inr, ℕ, cond, Bool, true, false, ◌&&◌, List, [], ◌∷◌, ◌++◌, sym, ap, ◌∙◌, subst}
use Rattle.std.proofs.lemmas.Bool.{and_parts, or_cases, or_left, or_right, cond-false}
use Rattle.site_vector.specs.declared.ids.PartId.{PartId}
use Rattle.site_vector.specs.declared.ids.TxId.{TxId}
use Rattle.site_vector.specs.Ids.{same_part, same_tx}
use Rattle.site_vector.specs.Order.{same_tx_is, same_tx_refl}
use Rattle.crdt_core.specs.KindsOf.{Kinds}
use Rattle.world_model.specs.lines.Places.{home}
use Rattle.world_model.specs.rules.Event.{Ask, AskRead, AskUpdate, AskPrepare, AskDecide, AskAbort, Event, Began, Updated, Prepared, Decided, Aborted, Cut, Entry, attempt}
use Rattle.world_model.specs.rules.Partition.{PartState, PartStep}
use Rattle.world_model.specs.rules.World.{is_begin, begun, IsWorldRun}
use Rattle.world_model.specs.rules.Asking.{MayCall, asked_by}
use Rattle.world_model.proofs.Names.{off}
use Rattle.world_model.proofs.Fate.{voted_tried}
use Rattle.world_model.proofs.Whole.{shown_begun, tried_begun}
use Rattle.world_model.specs.threads.Calls.{touches}
use Rattle.world_model.specs.threads.Marks.{Mark, Stands, entries_of, events, made_at}
use Rattle.world_model.specs.threads.Merging.{all_places, merged}
use Rattle.world_model.specs.threads.Callers.{IsCallers, IsCallersStep}
use Rattle.world_model.specs.threads.Allowed.{HasBegun, MayStand, WasAllowed}
use Rattle.world_model.specs.threads.AreTraces.{AreTraces}
use Rattle.world_model.specs.threads.Steps.{IsStep, caller_with, with_step}
use Rattle.world_model.proofs.Silent.{Grown}
use Rattle.world_model.proofs.Larger.{began_as, begins_once}
use Rattle.world_model.proofs.Carrying.{shown_grown}
use Rattle.world_model.proofs.Standing.{first_parts, Is, stands_is, is_made}
use Rattle.world_model.proofs.Merging.{events_both, trace_made, law_merged}
use Rattle.world_model.proofs.Growing.{more_traces}

and_left : (a b : Bool) → (a && b) ≡ true → a ≡ true
and_left a b h = (and_parts a b h).0

module _ {E : Type 0} where
  abbrev pub is_of : Ask E → TxId → Bool
  is_of (AskRead u s o own) t = same_tx u t
  is_of (AskUpdate u s o own op) t = same_tx u t
  is_of (AskPrepare u s l w) t = same_tx u t
  is_of (AskDecide u c) t = same_tx u t
  is_of (AskAbort u) t = same_tx u t
  is_of other t = false

  -- what is asked for has begun
  call_begun : {S : Type 0} (kinds : Kinds S E) (sites parts : ℕ) (run : List (Entry E)) (state : PartId → PartState E) → IsWorldRun kinds sites parts run state → (p : PartId) (ask : Ask E) → MayCall sites parts run p ask → HasBegun run ask → (t : TxId) → is_of ask t ≡ true → begun run t ≡ true
  call_begun kinds sites parts run state r p (AskRead u s o own) h b t e = subst (λ x. begun run x ≡ true) (same_tx_is u t e) (shown_begun run (home u) h.who h.dependency u s h.begun)
  call_begun kinds sites parts run state r p (AskUpdate u s o own op) h b t e = subst (λ x. begun run x ≡ true) (same_tx_is u t e) (shown_begun run (home u) h.0.who h.0.dependency u s h.0.begun)
  call_begun kinds sites parts run state r p (AskPrepare u s l w) h b t e = subst (λ x. begun run x ≡ true) (same_tx_is u t e) (shown_begun run (home u) h.0.who h.0.dependency u s h.0.begun)
  call_begun kinds sites parts run state r p (AskDecide u c) h b t e = subst (λ x. begun run x ≡ true) (same_tx_is u t e) (tried_begun kinds sites parts run state u p r (voted_tried run u p h.here))
  call_begun kinds sites parts run state r p (AskAbort u) h b t e = subst (λ x. begun run x ≡ true) (same_tx_is u t e) b
  call_begun kinds sites parts run state r p ask h b t e = off e

  new_caller : (caller next : TxId → ℕ) (by : ℕ) (ask : Ask E) → ((t : TxId) → is_of ask t ≡ true → next t ≡ caller t) → IsCallers caller by ask → IsCallers next by ask
  new_caller caller next by (AskRead u s o own) k h = h ∙ sym (k u (same_tx_refl u))
  new_caller caller next by (AskUpdate u s o own op) k h = h ∙ sym (k u (same_tx_refl u))
  new_caller caller next by (AskPrepare u s l w) k h = h ∙ sym (k u (same_tx_refl u))
  new_caller caller next by (AskDecide u c) k h = h ∙ sym (k u (same_tx_refl u))
  new_caller caller next by (AskAbort u) k h = h ∙ sym (k u (same_tx_refl u))
  new_caller caller next by ask k h = tt

  -- of which transaction a step is that is its caller's alone
  abbrev pub is_step_of : Event E → TxId → Bool
  is_step_of (Aborted u false) t = false
  is_step_of event t = is_of (asked_by event) t

  step_begun : {S : Type 0} (kinds : Kinds S E) (sites parts : ℕ) (run : List (Entry E)) (state : PartId → PartState E) → IsWorldRun kinds sites parts run state → (p : PartId) (event : Event E) → MayStand sites parts run p event → (t : TxId) → is_step_of event t ≡ true → begun run t ≡ true
  step_begun kinds sites parts run state r p (Aborted u false) h t e = off e
  step_begun kinds sites parts run state r p event h t e = call_begun kinds sites parts run state r p (asked_by event) h.0 h.1 t e

  new_step_caller : (caller next : TxId → ℕ) (by : ℕ) (event : Event E) → ((t : TxId) → is_step_of event t ≡ true → next t ≡ caller t) → IsCallersStep caller by event → IsCallersStep next by event
  new_step_caller caller next by (Aborted u false) k h = tt
  new_step_caller caller next by event k h = new_caller caller next by (asked_by event) k h

  -- what touches begins, or is such a step
  pub touch_of : (event : Event E) (t : TxId) → touches event t ≡ true → (is_begin event t ≡ true) ⊎ (is_step_of (attempt event) t ≡ true)
  touch_of (Began who dep u s) t h = ⊎_elim (λ x. inl x) (λ x. off x) (or_cases (same_tx u t) _ h)
  touch_of (Updated u s o own op read x stamp) t h = inr (⊎_elim (λ k. k) (λ k. off k) (or_cases (same_tx u t) _ h))
  touch_of (Prepared u s l w n) t h = inr (⊎_elim (λ k. k) (λ k. off k) (or_cases (same_tx u t) _ h))
  touch_of (Cut (Prepared u s l w n)) t h = inr (⊎_elim (λ k. k) (λ k. off k) (or_cases (same_tx u t) _ h))
  touch_of (Decided u c) t h = inr (⊎_elim (λ k. k) (λ k. off k) (or_cases (same_tx u t) _ h))
  touch_of (Cut (Decided u c)) t h = inr (⊎_elim (λ k. k) (λ k. off k) (or_cases (same_tx u t) _ h))
  touch_of (Aborted u true) t h = inr (and_left (same_tx u t) true h)
  touch_of (Aborted u false) t h = off ((and_parts (same_tx u t) false h).1)
  touch_of (Cut (Aborted u true)) t h = inr (and_left (same_tx u t) true h)
  touch_of (Cut (Aborted u false)) t h = off ((and_parts (same_tx u t) false h).1)
  touch_of event t h = off h

  is_begun : (ms : List (Mark E)) (f : Mark E) (t : TxId) → Is f ms → is_begin f.event t ≡ true → begun (entries_of ms) t ≡ true
  is_begun [] f t i h = absurd i
  is_begun (x ∷ ms) f t i h = ⊎_elim (λ (k : x ≡ f). or_left _ _ (ap (λ y. is_begin y.event t) k ∙ h)) (λ (k : Is f ms). or_right _ _ (is_begun ms f t k h)) i

  module _ {S : Type 0} (kinds : Kinds S E) (sites parts : ℕ) (traces : PartId → List (Mark E)) (state : PartId → PartState E) (a : AreTraces kinds sites parts traces state) where
    abbrev all : List (Mark E)
    all = merged (all_places sites parts) traces

    -- what was begun in a step's view was begun in all
    view_begun : (p : PartId) (n : ℕ) (f : Mark E) → Stands (traces p) n f → (t : TxId) → is_step_of (attempt f.event) t ≡ true → begun (entries_of all) t ≡ true
    view_begun p n f s t e =
        let w = a.allowed p n f s in
        let b = began_as (entries_of w.run) t (step_begun kinds sites parts (entries_of w.run) w.state w.is_run f.at (attempt f.event) w.may t e) in
        let law = law_merged kinds sites parts traces state a in
        let g : Grown (entries_of all) (entries_of w.run) = record {
          more = λ q. events (first_parts (f.seen q) (traces q) (a.within p n f s q)).0;
          is = λ q. trace_made q all ∙ ap events (law.1.all q ∙ (first_parts (f.seen q) (traces q) (a.within p n f s q)).1.0 ∙ ap (λ l. (first_parts (f.seen q) (traces q) (a.within p n f s q)).0 ++ l) (sym (w.seen q))) ∙ events_both (first_parts (f.seen q) (traces q) (a.within p n f s q)).0 (made_at q w.run) ∙ ap (λ l. events (first_parts (f.seen q) (traces q) (a.within p n f s q)).0 ++ l) (sym (trace_made q w.run));
        } in
        shown_begun (entries_of all) b.at b.who b.dependency t _ (shown_grown (entries_of all) (entries_of w.run) g b.at _ b.shown)

    begins_anew : (m : Mark E) (later : PartState E) → PartStep kinds sites parts m.at (state m.at) m.event later → (t : TxId) → begun (entries_of all) t ≡ true → caller_with m a.caller t ≡ a.caller t
    begins_anew m later st t b = cond-false (is_begin m.event t) m.by (a.caller t) (begins_once kinds sites parts (entries_of all) state m.at later m.event t (law_merged kinds sites parts traces state a).0 st b)

    kept : (m : Mark E) (later : PartState E) → PartStep kinds sites parts m.at (state m.at) m.event later → (p : PartId) (n : ℕ) (f : Mark E) → Stands (traces p) n f → (t : TxId) → touches f.event t ≡ true → caller_with m a.caller t ≡ a.caller t
    kept m later st p n f s t h = begins_anew m later st t (⊎_elim
        (λ (k : is_begin f.event t ≡ true). is_begun all f t (is_made p all f (subst (λ l. Is f l) (sym ((law_merged kinds sites parts traces state a).1.all p)) (stands_is (traces p) n f s))) k)
        (λ (k : is_step_of (attempt f.event) t ≡ true). view_begun p n f s t k)
        (touch_of f.event t h))

    still : (m : Mark E) (later : PartState E) → PartStep kinds sites parts m.at (state m.at) m.event later → (p : PartId) (n : ℕ) (f : Mark E) → Stands (traces p) n f → WasAllowed kinds sites parts traces (caller_with m a.caller) f
    still m later st p n f s = let w = a.allowed p n f s in record {
      run = w.run;
      seen = w.seen;
      state = w.state;
      is_run = w.is_run;
      may = w.may;
      new = w.new;
      fit = w.fit;
      mine = new_step_caller a.caller (caller_with m a.caller) f.by (attempt f.event) (λ t e. begins_anew m later st t (view_begun p n f s t e)) w.mine;
    }

    pub grows : (view : PartId → List (Mark E)) (m : Mark E) (later : PartState E) → IsStep kinds sites parts traces view state (caller_with m a.caller) m later → AreTraces kinds sites parts (with_step m traces) (λ q. cond (same_part m.at q) later (state q))
    grows view m later s = more_traces kinds sites parts traces view state a (caller_with m a.caller) m later s (kept m later s.step) (still m later s.step)
