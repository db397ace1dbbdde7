-- The run of a cluster answers its script. What a command meets before any partition is asked is told by the run before; what a
-- partition answers is exact by the law of lines, over the calls of the run.
use Rattle.std.specs.Prelude.{◌≡◌, ◌≢◌, ◌⊎◌, ℕ, ◌+◌, ◌-◌, Bool, true, false, List, [], ◌∷◌, length, Option, None, Some, ⊤}
use Rattle.site_vector.specs.declared.ids.PartId.{PartId}
use Rattle.site_vector.specs.declared.ids.TxId.{TxId}
use Rattle.world_model.specs.declared.command.Command.{Command}
use Rattle.world_model.specs.declared.command.Command.TheVariants as command
use Rattle.world_model.specs.declared.commit.Next.{Next}
use Rattle.world_model.specs.declared.commit.Next.TheVariants as next
use Rattle.world_model.specs.declared.step.Step.{Step}
use Rattle.world_model.specs.declared.step.Step.TheVariants as step
use Rattle.world_model.specs.commands.Run.{Run}
use Rattle.world_model.specs.commands.Answers.{answered, Asked, nothing, unreadable, asks}
use Rattle.world_model.specs.commands.Cluster.{parts_of}
use Rattle.world_model.specs.commands.CommitSteps.{Going, given_up, is_done, after}
use Rattle.world_model.specs.commands.Phases.{going_of, phase}
use Rattle.world_model.specs.commands.Messages.{messages, reports}
use Rattle.world_model.specs.commands.Meeting.{met}
use Rattle.world_model.specs.lines.Pending.{is_down}
use Rattle.world_model.specs.lines.Places.{IsPlace}
use Rattle.world_model.specs.commands.ScriptCalls.{is_answer, is_called, calls_of}
use Rattle.world_model.specs.commands.Settling.{asks_abort, looked_up, SettlesAll}
use Rattle.world_model.specs.lines.Waiting.{waiting}

-- the line names the session, the message or the report of its command; a new message or report has the next number
abbrev pub Bears : Run → Command → Step → Type 0
Bears run (command.Begin name part mode) (step.Began who t s) = who ≡ name
Bears run (command.Read name o) (step.Value who object value) = (who ≡ name) × (object ≡ o)
Bears run (command.Update name o op) (step.Updated who object stamp) = (who ≡ name) × (object ≡ o)
Bears run (command.Send p site from) (step.Sent number q to lo hi count) = number ≡ (messages run).made + 1
Bears run (command.Report p) (step.Reported number q bounds) = number ≡ (reports run).made + 1
Bears run (command.Deliver k) (step.Took number hi) = number ≡ k
Bears run (command.Deliver k) (step.Dup number have) = number ≡ k
Bears run (command.Deliver k) (step.Gap number have) = number ≡ k
Bears run (command.Hear k p) (step.Heard number q stable) = number ≡ k
Bears run c other = ⊤

-- one line, for which the partition was asked
abbrev pub IsOneAnswer : Run → Command → List Step → Type 0
IsOneAnswer run c steps = (s : Step) × (steps ≡ s ∷ []) × (is_called (Some c) s ≡ true) × Bears run c s

abbrev pub fewer : Option ℕ → Option ℕ
fewer None = None
fewer (Some k) = Some (k - 1)

abbrev pub Either : Bool → Type 0 → Type 0 → Type 0
Either true A B = A
Either false A B = B

-- the command ends, or goes on
abbrev pub Then : Next → Type 0 → Type 0 → Type 0
Then next.Stay A B = A
Then next.Go A B = B

-- the lines of at most k steps of a commit that stands so, each the answer to the next step: it ends once nothing is left to do, and
-- the command ends where an answer bids it stay
abbrev pub Steps : List ℕ → Going → Option ℕ → List Step → Type 0
Steps name g k [] = (is_done g ≡ false) × (k ≡ Some 0)
Steps name g k (s ∷ rest) = Either (is_done g)
    ((s ≡ step.Ended name) × (rest ≡ []))
    ((k ≢ Some 0) × (is_answer s ≡ true) × Then (after g s).1 (rest ≡ []) (Steps name (after g s).0 (fewer k) rest))

abbrev pub StepsOf : List ℕ → Option Going → (Going → Going) → Option ℕ → List Step → Type 0
StepsOf name None f k steps = ⊥
StepsOf name (Some g) f k steps = Steps name (f g) k steps

-- an expire asks the lead of what is pending there for an abort, and else only looks up; a partition that is down says so
abbrev pub IsExpired : Run → PartId → TxId → List Step → Type 0
IsExpired run p t steps = Either (is_down (calls_of run) p)
    (steps ≡ step.Down p ∷ [])
    (Either (asks_abort (parts_of run) (calls_of run) p t) (IsOneAnswer run (command.Expire p t) steps) (steps ≡ looked_up (calls_of run) p t ∷ []))

-- a settle ends what waits at p as its leads did; a partition that is down says so
abbrev pub IsSettled : Run → PartId → List Step → Type 0
IsSettled run p steps = Either (is_down (calls_of run) p)
    (steps ≡ step.Down p ∷ [])
    (SettlesAll (parts_of run) (calls_of run) p (waiting (calls_of run) p) steps)

-- a cluster is made; or the disk of one of its partitions failed, and none is
abbrev pub IsMade : ℕ → ℕ → List Step → Type 0
IsMade sites parts steps = (steps ≡ step.MadeCluster sites parts ∷ []) ⊎ ((at : PartId) × IsPlace sites parts at × (steps ≡ step.Disk at ∷ []))

-- the lines of a command that meets no refusal
abbrev pub Replies : Run → Command → List Step → Type 0
Replies run (command.Cluster sites parts) steps = IsMade sites parts steps
Replies run (command.Session name site) steps = steps ≡ step.MadeSession name site ∷ []
Replies run (command.Move name site) steps = steps ≡ step.Moved name site ∷ []
Replies run (command.Lose name) steps = steps ≡ step.Lost name ∷ []
Replies run (command.DropMessage number) steps = steps ≡ step.DroppedMessage number ∷ []
Replies run (command.DropReport number) steps = steps ≡ step.DroppedReport number ∷ []
Replies run (command.Commit name k) steps = StepsOf name (going_of (parts_of run) (phase run name)) (λ g. g) k steps
Replies run (command.Abort name) steps = StepsOf name (going_of (parts_of run) (phase run name)) given_up None steps
Replies run (command.Expire p t) steps = IsExpired run p t steps
Replies run (command.Settle p) steps = IsSettled run p steps
Replies run (command.Crash p) steps = steps ≡ step.Crashed p ∷ []
Replies run (command.Fuse p k n) steps = steps ≡ step.Fused p k n ∷ []
Replies run c steps = IsOneAnswer run c steps

abbrev pub AnswersBy : Run → Command → List Step → Option Step → Type 0
AnswersBy run c steps None = Replies run c steps
AnswersBy run c steps (Some refused) = steps ≡ refused ∷ []

-- these lines, the first first, answer a command after this run, where these commands are built
abbrev pub IsAnswer : (Command → Bool) → Run → Command → List Step → Type 0
IsAnswer is_built run c steps = AnswersBy run c steps (met is_built run c)

-- the run goes on with the answer to the line of this number
abbrev pub GoesOn : (Command → Bool) → ℕ → Run → Asked → Run → Type 0
GoesOn is_built number before nothing run = run ≡ before
GoesOn is_built number before unreadable run = run ≡ answered number None (step.Bad ∷ []) before
GoesOn is_built number before (asks c) run = (steps : List Step) × IsAnswer is_built before c steps × (run ≡ answered number (Some c) steps before)

-- the run answers these lines of a script, the last first, which are numbered from 1
abbrev pub Answers : (Command → Bool) → List Asked → Run → Type 0
Answers is_built [] run = run ≡ []
Answers is_built (a ∷ script) run = (before : Run) × Answers is_built script before × GoesOn is_built (length script + 1) before a run
