-- A step that was allowed by what its caller had seen is allowed in a larger run.
use Rattle.std.proofs.Common.{◌≡◌, ⊎_elim, inl, inr, ℕ, true, false, List, [], ◌∷◌, refl, sym, ap, ◌∙◌, subst}
use Rattle.site_vector.specs.declared.ids.PartId.{PartId}
use Rattle.site_vector.specs.declared.ids.TxId.{TxId}
use Rattle.site_vector.specs.Ids.{same_part}
use Rattle.crdt_core.specs.KindsOf.{Kinds}
use Rattle.crdt_core.specs.Log.{pending, prepared_lead}
use Rattle.world_model.specs.rules.Event.{Event, Aborted, Crashed, RestartCut, Restarted, Opened, Refused, Cut, Entry, attempt, is_abort, was_aborted}
use Rattle.world_model.specs.rules.Partition.{PartState, PartStep}
use Rattle.world_model.specs.rules.Plan.{IsAllowed}
use Rattle.world_model.specs.rules.Traces.{trace_of, IsTrace}
use Rattle.world_model.specs.rules.World.{lead_of, plan_of, IsWorldRun}
use Rattle.world_model.specs.rules.Asking.{asked_by}
use Rattle.world_model.proofs.Names.{clash}
use Rattle.world_model.proofs.Asks as allows
use Rattle.world_model.proofs.LineLaws.{lead_eq}
use Rattle.world_model.proofs.Law.{law_world}
use Rattle.world_model.proofs.Told.{told}
use Rattle.world_model.proofs.Traces.{traces}
use Rattle.world_model.specs.threads.Marks.{is_restarted}
use Rattle.world_model.specs.threads.Allowed.{MayStand}
use Rattle.world_model.proofs.Silent.{Grown, IsSilentFor}
use Rattle.world_model.proofs.Carrying.{any_in, any_keep, at_step, or_none}
use Rattle.world_model.proofs.Larger.{may_call, cited_end}

module _ {E : Type 0} where
  -- but for a restart a step leaves one state
  one_step : {S : Type 0} (kinds : Kinds S E) (sites parts : ℕ) (at : PartId) (p q o : PartState E) (event : Event E) → is_restarted event ≡ false → PartStep kinds sites parts at p event q → PartStep kinds sites parts at p event o → q ≡ o
  one_step kinds sites parts at p q o (Cut a) n x y = x.2 ∙ sym y.2
  one_step kinds sites parts at p q o Crashed n x y = x ∙ sym y
  one_step kinds sites parts at p q o RestartCut n x y = x ∙ sym y
  one_step kinds sites parts at p q o (Restarted a b named listed) n x y = clash refl n
  one_step kinds sites parts at p q o (Opened who) n x y = x ∙ sym y
  one_step kinds sites parts at p q o (Refused asked why) n x y = x.1 ∙ sym y.1
  one_step kinds sites parts at p q o event n x y = x.2 ∙ sym y.2

  one_state : {S : Type 0} (kinds : Kinds S E) (sites parts : ℕ) (at : PartId) (trace : List (Event E)) (q o : PartState E) → any_in is_restarted trace ≡ false → IsTrace kinds sites parts at trace q → IsTrace kinds sites parts at trace o → q ≡ o
  one_state kinds sites parts at [] q o n x y = x ∙ sym y
  one_state kinds sites parts at (event ∷ trace) q o n x y =
      let k = or_none (is_restarted event) (any_in is_restarted trace) n in
      let i = one_state kinds sites parts at trace x.0 y.0 k.1 x.1 y.1 in
      one_step kinds sites parts at y.0 q o event k.0 (subst (λ s. PartStep kinds sites parts at s event q) i x.2) y.2

  aborted_in : (run : List (Entry E)) (t : TxId) (p : PartId) → was_aborted run t p ≡ any_in (λ a. is_abort a t) (trace_of p run)
  aborted_in [] t p = refl
  aborted_in (e ∷ run) t p = at_step (λ a. is_abort a t) (same_part e.at p) e.event (trace_of p run) (was_aborted run t p) (aborted_in run t p)

  aborted_grown : (t : TxId) (large small : List (Entry E)) (g : Grown large small) (p : PartId) → was_aborted small t p ≡ true → was_aborted large t p ≡ true
  aborted_grown t large small g p h = aborted_in large t p ∙ ap (any_in (λ a. is_abort a t)) (g.is p) ∙ any_keep (λ a. is_abort a t) (g.more p) (trace_of p small) (sym (aborted_in small t p) ∙ h)

  module _ {S : Type 0} (kinds : Kinds S E) (sites parts : ℕ) (large small : List (Entry E)) (after before : PartId → PartState E) (r : IsWorldRun kinds sites parts large after) (q : IsWorldRun kinds sites parts small before) (g : Grown large small) (n : (p : PartId) → any_in is_restarted (trace_of p small) ≡ false) (at : PartId) (same : trace_of at large ≡ trace_of at small) where
    here : after at ≡ before at
    here = one_state kinds sites parts at (trace_of at small) (after at) (before at) (n at) (subst (λ l. IsTrace kinds sites parts at l (after at)) same (traces kinds sites parts large after r at)) (traces kinds sites parts small before q at)

    -- who leads what is pending here is told by the log
    same_lead : (t : TxId) → pending (after at).log t ≡ true → lead_of sites parts large t ≡ lead_of sites parts small t
    same_lead t h =
        let a = sym (lead_eq kinds sites parts large (law_world kinds sites parts large after r).0 t) ∙ (told kinds sites parts large after r at).leads t h in
        let b = sym (lead_eq kinds sites parts small (law_world kinds sites parts small before q).0 t) ∙ (told kinds sites parts small before q at).leads t (subst (λ s. pending s.log t ≡ true) here h) in
        a ∙ ap (λ s. record { site = at.site; part = prepared_lead s.log t }) here ∙ sym b

    on_word : (t : TxId) → pending (after at).log t ≡ true → MayStand sites parts small at (Aborted t false) → IsAllowed (plan_of sites parts ((record { at = at; event = Aborted t false }) ∷ large)) large after at (Aborted t false)
    on_word t p h = allows.aborts sites parts large after at t (⊎_elim
        (λ (k : at ≡ lead_of sites parts small t). inl (k ∙ sym (same_lead t p)))
        (λ (k : was_aborted small t (lead_of sites parts small t) ≡ true). inr (inr (subst (λ x. was_aborted large t x ≡ true) (sym (same_lead t p)) (aborted_grown t large small g (lead_of sites parts small t) k))))
        h)

    pub allowed_grown : (event : Event E) (later : PartState E) → PartStep kinds sites parts at (after at) event later → IsSilentFor g.more (attempt event) → MayStand sites parts small at (attempt event) → IsAllowed (plan_of sites parts ((record { at = at; event = event }) ∷ large)) large after at (attempt event)
    allowed_grown (Aborted t false) later st s h = on_word t st.1 h
    allowed_grown (Cut (Aborted t false)) later st s h = on_word t st.1 h
    allowed_grown event later st s h = allows.asks sites parts large after at event (may_call kinds sites parts large small after before r q g at (asked_by (attempt event)) s (cited_end kinds sites parts small before q n at (asked_by (attempt event)) h.0) h.0) refl
