-- The refusal of a command: the first that is due.
use Rattle.std.specs.Prelude.{Bool, List, [], ◌∷◌, Option, None, Some, if◌then◌else◌}
use Rattle.world_model.specs.declared.step.Step.{Step}

abbrev pub first_due : List (Bool × Step) → Option Step
first_due [] = None
first_due (r ∷ rs) = if r.0 then Some r.1 else first_due rs
