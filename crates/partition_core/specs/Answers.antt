-- The events that answers of calls show.
use Rattle.std.specs.Prelude.{◌≡◌, Result, Ok, Err}
use Rattle.world_model.specs.rules.Event.{Event, Ask, Refused}
use Rattle.world_model.specs.rules.Event as event
use Rattle.world_model.specs.rules.Partition.{PartState}
use Rattle.world_model.specs.rules.Partition as state
use Rattle.crdt_core.specs.KindsOf.{Kinds}
use Rattle.partition_core.specs.declared.answers.Refusal.{Refusal}
use Rattle.partition_core.specs.declared.answers.Refusal.TheVariants as answer
use Rattle.partition_core.specs.declared.answers.CallError.{CallError}
use Rattle.partition_core.specs.declared.answers.CallError.TheVariants as call
use Rattle.partition_core.specs.declared.answers.Fate.{Fate}
use Rattle.partition_core.specs.declared.answers.Fate.TheVariants as fate
use Rattle.partition_core.specs.Tables.{Tables}
use Rattle.partition_core.specs.Steps.{Steps}

-- the refusal of the rules
abbrev pub cause : Refusal → event.Refusal
cause (answer.ClockBehind n) = event.ClockBehind n
cause (answer.TxPending u n) = event.TxPending u n
cause (answer.StableBehind j n) = event.StableBehind j n
cause answer.ClockAtEnd = event.ClockAtEnd
cause answer.BadOp = event.IsBadOp
cause answer.Gone = event.IsGone
cause (answer.Gap n) = event.HasGap n
cause (answer.Repeat n) = event.IsRepeat n

-- a call that takes no memory: it is answered or refused, either way by a step
abbrev pub Answered : {S E A : Type 0} → Kinds S E → Tables E → (PartState E → Type 0) → Ask E → (A → Event E → Type 0) → Result A Refusal → Tables E → Type 0
Answered kinds old Given asked Shows (Ok x) new = Steps kinds old Given (Shows x) new
Answered kinds old Given asked Shows (Err why) new = Steps kinds old Given (λ e. e ≡ Refused asked (cause why)) new

-- a call that takes memory: where it runs out, nothing happened
abbrev pub Called : {S E A : Type 0} → Kinds S E → Tables E → (PartState E → Type 0) → Ask E → (A → Event E → Type 0) → Result A CallError → Tables E → Type 0
Called kinds old Given asked Shows (Ok x) new = Steps kinds old Given (Shows x) new
Called kinds old Given asked Shows (Err call.NoMemory) new = new ≡ old
Called kinds old Given asked Shows (Err (call.Refused why)) new = Steps kinds old Given (λ e. e ≡ Refused asked (cause why)) new

-- what a fate tells
abbrev pub fate_told : Fate → state.Fate
fate_told fate.Pending = state.ToldPending
fate_told (fate.Committed c) = state.ToldCommitted c
fate_told fate.Aborted = state.ToldAborted
fate_told fate.Down = state.ToldDown
