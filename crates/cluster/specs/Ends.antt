-- How the transaction of a session in a cluster comes to its end: step by step, as it is committed or given up.
use Rattle.std.specs.Prelude.{◌≡◌, ◌≢◌, ℕ, zero, Bool, true, false, not, List, [], ◌∷◌, ◌++◌, Option, None, Some}
use Rattle.site_vector.specs.declared.ids.TxId.{TxId}
use Rattle.world_model.specs.declared.command.Command.{Command}
use Rattle.world_model.specs.declared.command.Command.TheVariants as command
use Rattle.world_model.specs.declared.commit.Next.{Next}
use Rattle.world_model.specs.declared.commit.Next.TheVariants as next
use Rattle.world_model.specs.declared.step.Step.{Step}
use Rattle.world_model.specs.commands.Answers.{answered}
use Rattle.world_model.specs.commands.Cluster.{parts_of}
use Rattle.world_model.specs.commands.CommitSteps.{Going, given_up}
use Rattle.world_model.specs.commands.Phases as phases
use Rattle.world_model.specs.commands.Phases.{going_of}
use Rattle.world_model.specs.commands.Run.{Run}
use Rattle.world_model.specs.commands.ScriptCalls.{calls_of}
use Rattle.world_model.specs.lines.Updates.{lead}
use Rattle.world_model.specs.commands.ScriptAnswers.{StepsOf}
use Rattle.txn_session.specs.declared.phase.Phase.{Phase}
use Rattle.txn_session.specs.declared.phase.Phase.TheVariants as phase
use Rattle.txn_session.specs.Calls.{Call}
use Rattle.txn_session.specs.Holds.{MakesStep, TellsStep, next_of}
use Rattle.txn_session.specs.Opens.{EndsAs, next_said, stepped}
use Rattle.txn_session.specs.Session.{Doing, SessionState, ending, giving_up, is_idle, can_abort, has_step, doing_so, phase_of}
use Rattle.cluster.specs.declared.commits.Way.{Way}
use Rattle.cluster.specs.declared.commits.Way.TheVariants as way
use Rattle.site_partitions.specs.Held.{Held}
use Rattle.site_partitions.specs.Reaches.{Types}
use Rattle.cluster.specs.Faults.{ShowFaults}
use Rattle.cluster.specs.Fuel.{TellsCall}
use Rattle.cluster.specs.Live.{LiveState}
use Rattle.cluster.specs.Reached.{ReachedLive, GoesTo}
use Rattle.cluster.specs.Sees.{Sees}

-- what asks for it
abbrev pub command_of : Way → List ℕ → Option ℕ → Command
command_of way.Commits name steps = command.Commit name steps
command_of way.GivesUp name steps = command.Abort name

-- what the command makes of how far a commit has come
abbrev pub turned_to : Way → Going → Going
turned_to way.Commits g = g
turned_to way.GivesUp g = given_up g

-- such lines may follow this run, of at most so many steps
abbrev pub MayFollow : Way → List ℕ → Run → Option ℕ → List Step → Type 0
MayFollow w name run steps lines = StepsOf name (going_of (parts_of run) (phases.phase run name)) (turned_to w) steps lines

-- at most so many steps, if the command gives their number
abbrev pub MayMake : Way → Option ℕ → Type 0
MayMake way.Commits steps = steps ≢ Some 0
MayMake way.GivesUp steps = steps ≡ None

-- whether it goes on after a step
abbrev pub goes_on : Phase → Next → Bool
goes_on phase.Idle n = false
goes_on p next.Go = true
goes_on p next.Stay = false

-- one line was added, of which this holds
pub record AddsLine (old new : List Step) (IsSo : Step → Type 0) : Type 0 where
  pub line : Step
  pub added : new ≡ old ++ line ∷ []
  pub is_so : IsSo line

-- there is a transaction that isn't decided
abbrev pub is_undecided_phase : Phase → Bool
is_undecided_phase phase.Open = true
is_undecided_phase phase.Committing = true
is_undecided_phase other = false

module _ {E : Type 0} where
  abbrev pub doing_on : Way → ℕ → ℕ → Doing E → Doing E
  doing_on way.Commits site parts d = ending site parts d
  doing_on way.GivesUp site parts d = giving_up d

  -- its commit has begun, or is given up
  abbrev pub on_way : Way → SessionState E → SessionState E
  on_way w s = doing_so s (doing_on w s.site s.parts s.doing)

  abbrev pub can_go : Way → Doing E → Bool
  can_go way.Commits d = not (is_idle d)
  can_go way.GivesUp d = can_abort d

  -- the session of this name is there, and its transaction can come to its end so
  abbrev pub can_end : Way → Option (SessionState E) → Bool
  can_end w None = false
  can_end w (Some s) = can_go w s.doing

  -- no more steps may be made, and one is left
  abbrev pub stops : Option ℕ → Option (SessionState E) → Bool
  stops (Some zero) (Some s) = has_step s.doing
  stops steps other = false

module _ {S E D : Type 0} (types : Types S E D) where
  -- a step of its end was made
  pub record MadeStep (held later : Held E D) (start : SessionState E) (answer : Step) (new : SessionState E) (calls : List (Call E)) : Type 0 where
    pub is : new ≡ stepped start answer
    pub ended : EndsAs start.name (next_of start.doing) answer
    pub tells : TellsStep (TellsCall types) held later start answer (next_of start.doing)
    pub made : MakesStep (λ h (p : Unit {0}) l. Sees types h l) (λ (p : Unit {0}) n. true) later tt calls start new answer start.doing (next_of start.doing)

  -- and so the command goes on, or ends
  abbrev pub TakesStep : Held E D → Held E D → Way → Step → Bool → SessionState E → SessionState E → List (Call E) → Type 0
  TakesStep held later w answer goes s new calls = (goes ≡ goes_on (phase_of new.doing) (next_said (on_way w s).doing answer)) × MadeStep held later (on_way w s) answer new calls

  -- these lines led from the old cluster to this one, and with any that may follow them they may follow what was before
  pub record LedTo (old now : LiveState E D) (w : Way) (name : List ℕ) (steps left : Option ℕ) (lines : List Step) (number : ℕ) (run : Run) (r : ReachedLive types old run) : Type 0 where
    pub goes : GoesTo types old run r now (answered number (Some (command_of w name steps)) lines run)
    pub tells : ShowFaults types.state run old.sites now.sites lines
    pub leads : (t : TxId) → lead (parts_of (answered number (Some (command_of w name steps)) lines run)) (calls_of (answered number (Some (command_of w name steps)) lines run)) t ≡ lead (parts_of run) (calls_of run) t
    pub follow : (rest : List Step) → MayFollow w name (answered number (Some (command_of w name steps)) lines run) left rest → MayFollow w name run steps (lines ++ rest)

  -- whatever run had left the old cluster
  abbrev pub Leads : LiveState E D → LiveState E D → Way → List ℕ → Option ℕ → Option ℕ → List Step → Type 0
  Leads old now w name steps left lines = (number : ℕ) (run : Run) (r : ReachedLive types old run) → LedTo old now w name steps left lines number run r
