-- The order of refusals by their numbers: the law of what a command meets, in other words.
use Rattle.std.specs.Prelude.{◌≡◌, ℕ, Bool, true, false, ◌==◌, if◌then◌else◌, List, [], ◌∷◌, map}
use Rattle.world_model.specs.declared.command.Command.{Command}
use Rattle.world_model.specs.declared.step.Step.{Step}
use Rattle.world_model.specs.declared.step.Step.TheVariants as step
use Rattle.world_model.specs.commands.Run.{Run}
use Rattle.world_model.specs.commands.Meeting.{meets}

-- the number of a refusal in the table of docs/SCRIPT.md; 0 of what no command meets before a partition is asked
abbrev pub number_of : Step → ℕ
number_of step.NoCluster = 2
number_of step.HasCluster = 2
number_of step.NoPart = 3
number_of step.NoSession = 4
number_of step.HasSession = 4
number_of step.NoTxn = 5
number_of step.HasTxn = 5
number_of step.NoMessage = 6
number_of step.BadOp = 7
number_of step.LimitSessions = 8
number_of step.LimitUpdates = 8
number_of step.LimitMessages = 8
number_of step.LimitReports = 8
number_of other = 0

abbrev pub numbers : List (Bool × Step) → List ℕ
numbers met = map (λ r. number_of r.1) met

-- the first list is the second with some left out
abbrev pub is_sublist : List ℕ → List ℕ → Bool
is_sublist [] ns = true
is_sublist (m ∷ ms) [] = false
is_sublist (m ∷ ms) (n ∷ ns) = if m == n then is_sublist ms ns else is_sublist (m ∷ ms) ns

-- by number, but for a place that may not be named for the sake of a session or a report: that comes right after these
abbrev pub refusal_order : List ℕ
refusal_order = 2 ∷ 3 ∷ 4 ∷ 3 ∷ 5 ∷ 6 ∷ 3 ∷ 7 ∷ 8 ∷ []

-- each command meets its refusals in this order
abbrev pub LawOrder : Type 0
LawOrder = (run : Run) (c : Command) → is_sublist (numbers (meets run c)) refusal_order ≡ true
