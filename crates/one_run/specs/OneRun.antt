-- The replies are a function of the script: of two runs that answer it, which the world shows, where no line tells of a fault or of
-- want of room of a disk, the one is the other.
use Rattle.std.specs.Prelude.{◌≡◌, Bool, true, false, not, ◌&&◌, ◌||◌, if◌then◌else◌, List, [], ◌∷◌, Option, None, Some, ⊤}
use Rattle.crdt_core.specs.declared.kind.Kind.{Kind}
use Rattle.crdt_core.specs.declared.object.Field.{Field}
use Rattle.crdt_core.specs.declared.value.Value.{Value}
use Rattle.crdt_core.specs.Seen.{Update}
use Rattle.crdt_core.specs.KindsOf.{Kinds}
use Rattle.world_model.specs.declared.command.Command.{Command}
use Rattle.world_model.specs.declared.command.Command.TheVariants as command
use Rattle.world_model.specs.declared.step.Step.{Step}
use Rattle.world_model.specs.commands.Run.{Run}
use Rattle.world_model.specs.commands.Answers.{Asked}
use Rattle.world_model.specs.commands.Cluster.{sites_of, parts_of}
use Rattle.world_model.specs.commands.ScriptAnswers.{Answers}
use Rattle.world_model.specs.commands.ScriptCalls.{calls_of}
use Rattle.one_run.specs.Unfailing.{is_of_disk}
use Rattle.one_run.specs.Shows.{Shows}
use Rattle.one_run.specs.Tells.{Tells}

abbrev pub IsCalm : Run → Type 0
IsCalm [] = ⊤
IsCalm (l ∷ run) = (is_of_disk l.step ≡ false) × IsCalm run

-- no line tells of a disk
abbrev pub is_calm : Run → Bool
is_calm [] = true
is_calm (l ∷ run) = not (is_of_disk l.step) && is_calm run

abbrev pub is_restart_of : Option Command → Bool
is_restart_of (Some (command.Restart p)) = true
is_restart_of other = false

-- the line hangs on a disk: it tells of one, or answers a restart where a line before did
abbrev pub is_free : Run → Option Command → Step → Bool
is_free run c s = is_of_disk s || (is_restart_of c && not (is_calm run))

abbrev pub told_at : Run → Option Command → Step → Option Step
told_at run c s = if is_free run c s then Some s else None

-- the lines that hang on disks are these, each told by the run before it, and there are no others
abbrev pub IsTold : (Run → Option Step) → Run → Type 0
IsTold told [] = ⊤
IsTold told (l ∷ run) = (told run ≡ told_at run l.command l.step) × IsTold told run

-- the replies are a function of the script and of what the disks tell
abbrev pub LawOneTold : Type 0
LawOneTold = (too_deep : Kind → List Field → Bool) (meaning : Kind → List Update → Value) (is_built : Command → Bool) (script : List Asked) (told : Run → Option Step) (one two : Run) → Answers is_built script one → Answers is_built script two → Tells too_deep meaning (sites_of one) (parts_of one) (calls_of one) → Tells too_deep meaning (sites_of two) (parts_of two) (calls_of two) → IsTold told one → IsTold told two → one ≡ two

-- where no disk tells anything, of the script alone: by the lines, where they are lawful at each moment
abbrev pub LawOneLawful : Type 0
LawOneLawful = (too_deep : Kind → List Field → Bool) (meaning : Kind → List Update → Value) (is_built : Command → Bool) (script : List Asked) (one two : Run) → Answers is_built script one → Answers is_built script two → Tells too_deep meaning (sites_of one) (parts_of one) (calls_of one) → Tells too_deep meaning (sites_of two) (parts_of two) (calls_of two) → IsCalm one → IsCalm two → one ≡ two

-- and so where some run of the world shows them
abbrev pub LawOneRun : (S E : Type 0) → Type 0
LawOneRun S E = (kinds : Kinds S E) (is_built : Command → Bool) (script : List Asked) (one two : Run) → Answers is_built script one → Answers is_built script two → Shows kinds (sites_of one) (parts_of one) (calls_of one) → Shows kinds (sites_of two) (parts_of two) (calls_of two) → IsCalm one → IsCalm two → one ≡ two
