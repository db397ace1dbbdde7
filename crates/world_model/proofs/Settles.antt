-- A settle ends with the first end that its partition can't write.
use Rattle.std.proofs.Common.{◌≡◌, ⊎_elim, ℕ, Bool, true, false, cond, List, [], ◌∷◌, refl, ap, ◌∙◌}
use Rattle.site_vector.specs.declared.ids.PartId.{PartId}
use Rattle.site_vector.specs.declared.ids.TxId.{TxId}
use Rattle.world_model.specs.declared.step.Step.{Step}
use Rattle.world_model.specs.declared.step.Step.TheVariants as step
use Rattle.world_model.specs.lines.History.{in_history}
use Rattle.world_model.specs.lines.Lines.{Line}
use Rattle.world_model.specs.commands.Settling.{stays, settled, is_unwritten, SettlesAll}
use Rattle.world_model.proofs.Names.{clash}

written_if : (p : PartId) (t : TxId) (b d : Bool) → is_unwritten (cond b (step.Pending p t) (cond d (step.Finished p t) (step.Aborted p t))) ≡ false
written_if p t true d = refl
written_if p t false true = refl
written_if p t false false = refl

pub ends_unwritten : (parts : ℕ) (ls : List Line) (p : PartId) (waits : List (TxId × ℕ)) (s : Step) (rest : List Step) → SettlesAll parts ls p waits (s ∷ rest) → is_unwritten s ≡ true → rest ≡ []
ends_unwritten parts ls p [] s rest h k = h.1
ends_unwritten parts ls p (x ∷ waits) s rest h k = ⊎_elim
    (λ (a : (s ≡ settled parts ls p x.0) × SettlesAll parts ls p waits rest). clash k (ap is_unwritten a.0 ∙ written_if p x.0 (stays parts ls p x.0) (in_history ls x.0)))
    (λ (b : (stays parts ls p x.0 ≡ false) × (is_unwritten s ≡ true) × (rest ≡ [])). b.2)
    h
