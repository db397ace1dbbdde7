-- Where each session of a script stands: it is absent, idle, open, or in the steps of a commit.
use Rattle.std.specs.Prelude.{ℕ, zero, suc, ◌+◌, Bool, true, false, ◌==◌, if◌then◌else◌, List, [], ◌∷◌, ◌++◌, length, filter, Option, None, Some}
use Rattle.std.specs.List.{list_any}
use Rattle.std.specs.Str.{bytes_eq}
use Rattle.site_vector.specs.declared.ids.TxId.{TxId}
use Rattle.crdt_core.specs.declared.object.ObjectId.{ObjectId}
use Rattle.crdt_core.specs.Placing.{place_of}
use Rattle.world_model.specs.declared.command.Command.{Command}
use Rattle.world_model.specs.declared.command.Command.TheVariants as command
use Rattle.world_model.specs.declared.step.Step.{Step}
use Rattle.world_model.specs.declared.step.Step.TheVariants as step
use Rattle.world_model.specs.commands.Run.{Run}
use Rattle.world_model.specs.commands.Cluster.{parts_of}
use Rattle.world_model.specs.commands.CommitSteps.{Going, Finishing, starting, given_up, after}

pub data Phase : Type 0 where
  Absent : Phase
  Idle : Phase
  -- its transaction, the snapshot, and the objects that it updated, in order
  Open : (tx : TxId) (s : List ℕ) (objects : List ObjectId) → Phase
  -- its commit has begun, or it is given up
  Ending : (tx : TxId) (s : List ℕ) (going : Going) → Phase

-- the numbers from `first` on, so many
abbrev pub numbers_from : ℕ → ℕ → List ℕ
numbers_from first zero = []
numbers_from first (suc n) = first ∷ numbers_from (first + 1) n

-- the participants: the numbers of the partitions where these objects stand, ascending; the first is the lead
abbrev pub holders : ℕ → List ObjectId → List ℕ
holders parts objects = filter (λ n. list_any (λ o. place_of o.bucket o.key parts == n) objects) (numbers_from 1 parts)

-- after an answer to a step of its commit
abbrev pub committing : ℕ → Phase → Step → Phase
committing parts (Open t s objects) answer = Ending t s (after (starting (holders parts objects)) answer).0
committing parts (Ending t s g) answer = Ending t s (after g answer).0
committing parts other answer = other

-- after an answer to a step by which it is given up
abbrev pub aborting : Phase → Step → Phase
aborting (Ending t s (Finishing left n)) answer = Ending t s (Finishing left n)
aborting (Ending t s g) answer = Ending t s (after (given_up g) answer).0
aborting other answer = other

abbrev pub with_object : ObjectId → Phase → Phase
with_object o (Open t s objects) = Open t s (objects ++ o ∷ [])
with_object o other = other

-- after a line that answers a command
abbrev pub by_command : ℕ → List ℕ → Phase → Option Command → Step → Phase
by_command parts who old (Some (command.Commit name k)) answer = if bytes_eq name who then committing parts old answer else old
by_command parts who old (Some (command.Abort name)) answer = if bytes_eq name who then aborting old answer else old
by_command parts who old other answer = old

abbrev pub phase_after : ℕ → List ℕ → Phase → Option Command → Step → Phase
phase_after parts who old asked (step.MadeSession name site) = if bytes_eq name who then Idle else old
phase_after parts who old asked (step.Lost name) = if bytes_eq name who then Absent else old
phase_after parts who old asked (step.Began name t s) = if bytes_eq name who then Open t s [] else old
phase_after parts who old asked (step.Updated name o stamp) = if bytes_eq name who then with_object o old else old
phase_after parts who old asked (step.Ended name) = if bytes_eq name who then Idle else old
phase_after parts who old asked other = by_command parts who old asked other

abbrev pub phase : Run → List ℕ → Phase
phase [] who = Absent
phase (e ∷ run) who = phase_after (parts_of run) who (phase run who) e.command e.step

abbrev pub is_there : Phase → Bool
is_there Absent = false
is_there other = true

abbrev pub is_idle : Phase → Bool
is_idle Idle = true
is_idle other = false

abbrev pub is_open : Phase → Bool
is_open (Open t s objects) = true
is_open other = false

-- it may be given up: it is open, or committing
abbrev pub is_undecided : Phase → Bool
is_undecided (Open t s objects) = true
is_undecided (Ending t s (Finishing left n)) = false
is_undecided (Ending t s g) = true
is_undecided other = false

-- how its commit stands, which a commit begins and an abort gives up
abbrev pub going_of : ℕ → Phase → Option Going
going_of parts (Open t s objects) = Some (starting (holders parts objects))
going_of parts (Ending t s g) = Some g
going_of parts other = None

-- how many updates its transaction has
abbrev pub update_total : Phase → ℕ
update_total (Open t s objects) = length objects
update_total other = 0
