-- A partition is up where the run shows it.
use Rattle.std.proofs.Common.{◌≡◌, ⊎_elim, Bool, true, not, List, [], ◌∷◌, sym, ap, ◌∙◌, subst}
use Rattle.std.proofs.lemmas.Bool.{cond-true, cond-false, not-true, not-false}
use Rattle.site_vector.specs.declared.ids.PartId.{PartId}
use Rattle.site_vector.specs.Ids.{same_part}
use Rattle.site_vector.specs.Order.{same_part_refl}
use Rattle.world_model.specs.rules.Event.{AskRestart, IsDown, IsDamaged, Event, Crashed, RestartCut, Restarted, Refused, Opened, Cut, Entry}
use Rattle.crdt_core.specs.KindsOf.{Kinds}
use Rattle.world_model.specs.rules.Partition.{PartState, PartStep}
use Rattle.world_model.specs.rules.Plan.{Plan}
use Rattle.world_model.proofs.Runs.{IsRun}
use Rattle.world_model.specs.events.Pending.{down_after, is_down}
use Rattle.world_model.specs.events.Causes.{AnswersAsUp, AnswerAsUp}
use Rattle.world_model.proofs.Names.{part_cases, part_other}

module _ {E : Type 0} {S : Type 0} (kinds : Kinds S E) (plan : Plan E) where
  up_after : (at : PartId) (p q : PartState E) (old : Bool) (event : Event E) → p.up ≡ not old → PartStep kinds plan.sites plan.parts at p event q → q.up ≡ not (down_after old event)
  up_after at p q old (Cut what) u st = ap (λ x. x.up) st.2
  up_after at p q old Crashed u st = ap (λ x. x.up) st
  up_after at p q old RestartCut u st = ap (λ x. x.up) st
  up_after at p q old (Restarted n b named listed) u st = st.up
  up_after at p q old (Refused asked why) u st = ap (λ x. x.up) st.1 ∙ u
  up_after at p q old (Opened who) u st = ap (λ x. x.up) st ∙ u
  up_after at p q old event u st = ap (λ x. x.up) st.2 ∙ sym (sym u ∙ st.0)

  answers_up : (run : List (Entry E)) (at : PartId) (p q : PartState E) (event : Event E) → p.up ≡ not (is_down run at) → PartStep kinds plan.sites plan.parts at p event q → AnswersAsUp run at event
  answers_up run at p q (Restarted n b named listed) u st = tt
  answers_up run at p q Crashed u st = tt
  answers_up run at p q RestartCut u st = tt
  answers_up run at p q (Refused asked IsDown) u st = not-false (is_down run at) (sym u ∙ st.0.0)
  answers_up run at p q (Refused AskRestart (IsDamaged k)) u st = not-false (is_down run at) (sym u ∙ st.0.down)
  answers_up run at p q (Opened who) u st = tt
  answers_up run at p q (Refused asked why) u st = not-true (is_down run at) (sym u ∙ st.0.0)
  answers_up run at p q event u st = not-true (is_down run at) (sym u ∙ st.0)

  pub ups : (run : List (Entry E)) (parts : PartId → PartState E) → IsRun kinds plan run parts → (p : PartId) → (parts p).up ≡ not (is_down run p)
  ups [] parts r p = ap (λ x. x.up) (r p)
  ups (e ∷ run) parts r p = ⊎_elim
      (λ (k : e.at ≡ p). subst (λ y. (parts y).up ≡ not (down_after (is_down run y) e.event)) k (up_after e.at (r.0 e.at) (parts e.at) (is_down run e.at) e.event (ups run r.0 r.1 e.at) r.2.step) ∙ ap not (sym (cond-true _ _ _ (subst (λ y. same_part e.at y ≡ true) k (same_part_refl e.at)))))
      (λ (ne : e.at ≡ p → ⊥). ap (λ x. x.up) (r.2.others p (λ k. ne (sym k))) ∙ ups run r.0 r.1 p ∙ ap not (sym (cond-false _ _ _ (part_other e.at p ne))))
      (part_cases e.at p)

  pub answer_up : (run : List (Entry E)) (parts : PartId → PartState E) → IsRun kinds plan run parts → AnswerAsUp run
  answer_up [] parts r = tt
  answer_up (e ∷ run) parts r = (answers_up run e.at (r.0 e.at) (parts e.at) e.event (ups run r.0 r.1 e.at) r.2.step, answer_up run r.0 r.1)
