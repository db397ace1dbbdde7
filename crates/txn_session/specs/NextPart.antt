-- Which partition a step asks.
use Rattle.std.specs.Prelude.{ℕ, List, [], ◌∷◌, Option, None, Some}
use Rattle.world_model.specs.declared.commit.What.{What}
use Rattle.world_model.specs.declared.commit.What.TheVariants as what

-- its number, if it asks one
abbrev pub part_asked : What → Option ℕ
part_asked (what.Prepare p) = Some p
part_asked (what.Decide p c) = Some p
part_asked (what.Finish p c) = Some p
part_asked (what.Abort p) = Some p
part_asked what.Done = None

abbrev pub first_part : List ℕ → Option ℕ
first_part [] = None
first_part (p ∷ ps) = Some p
