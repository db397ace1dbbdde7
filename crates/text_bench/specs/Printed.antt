-- What the program prints and counts.
use Rattle.std.specs.Prelude.{ℕ, ◌*◌, ◌-◌, ◌^◌, List, min, flat_map}
use Rattle.world_model.specs.declared.step.Step.{Step}
use Rattle.reply_text.specs.Text.{text_of}

-- the lines of the steps, one after another
abbrev pub lines : List Step → List ℕ
lines = flat_map text_of

-- so many times n, or the greatest number where that is less
abbrev pub times_over : ℕ → ℕ → ℕ
times_over times n = min (times * n) (2 ^ 64 - 1)
