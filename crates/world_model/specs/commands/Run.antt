-- A run: the reply lines that were written, the newest first.
use Rattle.std.specs.Prelude.{ℕ, List, [], ◌∷◌, ◌++◌, Option}
use Rattle.world_model.specs.declared.command.Command.{Command}
use Rattle.world_model.specs.declared.step.Step.{Step}

-- a reply line, and what it answers
pub record Line : Type 0 where
  -- the number of the script's line, from 1; 0 where there is no script
  pub number : ℕ
  -- the command there; none where that line is outside the grammar
  pub command : Option Command
  pub step : Step

abbrev pub Run : Type 0
Run = List Line

-- the bytes of the lines, in the order in which they were written; `text` spells one of them
abbrev pub written_lines : (ℕ → Step → List ℕ) → Run → List ℕ
written_lines text [] = []
written_lines text (e ∷ run) = written_lines text run ++ text e.number e.step
