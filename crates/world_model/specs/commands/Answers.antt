-- What a line of a script asks for, and the run with its answer.
use Rattle.std.specs.Prelude.{ℕ, List, [], ◌∷◌, Option}
use Rattle.world_model.specs.declared.command.Command.{Command}
use Rattle.world_model.specs.declared.step.Step.{Step}
use Rattle.world_model.specs.commands.Run.{Run}

-- what a line of a script asks for
pub data Asked : Type 0 where
  -- nothing: no word stands there, or a comment
  nothing : Asked
  -- the line isn't in the grammar
  unreadable : Asked
  asks : Command → Asked

-- the run with these lines, the first first
abbrev pub answered : ℕ → Option Command → List Step → Run → Run
answered number asked [] run = run
answered number asked (s ∷ steps) run = answered number asked steps ((record { number = number; command = asked; step = s }) ∷ run)
