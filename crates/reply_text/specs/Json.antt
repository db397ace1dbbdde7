-- The text of a step as a JSON object on a line.
use Rattle.std.specs.Prelude.{ℕ, List, [], ◌∷◌, ◌++◌, codes, decimal}
use Rattle.std.specs.List.{join_by}
use Rattle.world_model.specs.declared.step.Step.{Step}
use Rattle.world_model.specs.declared.step.Step.TheVariants as step
use Rattle.json.specs.Print.{quoted}
use Rattle.reply_text.specs.Text.{words_of, line_feed}
use Rattle.reply_text.specs.Values.{value_text}

-- the text of the step, without the line feed that ends it
abbrev pub reply_of : Step → List ℕ
reply_of st = join_by (λ w. w) (codes " ") (words_of st)

-- what a read shows is a member of its own besides
abbrev pub shown_of : Step → List ℕ
shown_of (step.Value name object value) = codes ",\"value\":" ++ value_text value
shown_of other = []

-- the number of the script's line, the reply to it, and the value that it shows
abbrev pub json_of : ℕ → Step → List ℕ
json_of number st = codes "{\"line\":" ++ decimal number ++ codes ",\"reply\":" ++ quoted (reply_of st) ++ shown_of st ++ codes "}" ++ line_feed ∷ []
