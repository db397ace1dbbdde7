-- Lines that are lawful at each moment.
use Rattle.std.specs.Prelude.{ℕ, Bool, List, [], ◌∷◌, ⊤}
use Rattle.crdt_core.specs.declared.kind.Kind.{Kind}
use Rattle.crdt_core.specs.declared.object.Field.{Field}
use Rattle.crdt_core.specs.declared.value.Value.{Value}
use Rattle.crdt_core.specs.Seen.{Update}
use Rattle.world_model.specs.lines.Lawful.{IsLawful}
use Rattle.world_model.specs.lines.Lines.{Line}

abbrev pub Tells : (Kind → List Field → Bool) → (Kind → List Update → Value) → ℕ → ℕ → List Line → Type 0
Tells too_deep meaning sites parts [] = ⊤
Tells too_deep meaning sites parts (l ∷ ls) = IsLawful too_deep meaning sites parts (l ∷ ls) × Tells too_deep meaning sites parts ls
