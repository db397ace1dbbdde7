-- The time of a restart by the lines before it, where none of them tells of a disk.
use Rattle.std.specs.Prelude.{◌≡◌, ℕ, Bool, List, ⊤}
use Rattle.site_vector.specs.declared.ids.PartId.{PartId}
use Rattle.crdt_core.specs.declared.kind.Kind.{Kind}
use Rattle.crdt_core.specs.declared.object.Field.{Field}
use Rattle.crdt_core.specs.declared.value.Value.{Value}
use Rattle.crdt_core.specs.Seen.{Update}
use Rattle.world_model.specs.declared.step.Step.{Step}
use Rattle.world_model.specs.declared.step.Step.TheVariants as step
use Rattle.world_model.specs.lines.Lawful.{IsLawful}
use Rattle.world_model.specs.lines.Leases.{kept}
use Rattle.world_model.specs.lines.Lines.{Call, Line, EachLine}
use Rattle.one_run.specs.Unfailing.{AreUnfailing}

abbrev pub ShowsLease : List Line → PartId → Call → Step → Type 0
ShowsLease ls p call (step.Restarted q n bounds named listed) = n ≡ kept ls p
ShowsLease ls p call other = ⊤

-- of lawful lines each restart shows the time of the last lease
abbrev pub LawLeases : Type 0
LawLeases = (too_deep : Kind → List Field → Bool) (meaning : Kind → List Update → Value) (sites parts : ℕ) (ls : List Line) → IsLawful too_deep meaning sites parts ls → EachLine (λ before p call s. AreUnfailing before → ShowsLease before p call s) ls
