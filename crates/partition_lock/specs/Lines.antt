-- The line of a call that isn't answered.
use Rattle.std.specs.Prelude.{◌≡◌, ℕ, Result, Ok, Err, ⊤}
use Rattle.site_vector.specs.declared.ids.PartId.{PartId}
use Rattle.site_vector.specs.declared.ids.TxId.{TxId}
use Rattle.world_model.specs.declared.step.Step.{Step}
use Rattle.world_model.specs.declared.step.Step.TheVariants as step
use Rattle.world_model.specs.rules.Event.{Refusal, IsDown, ClockBehind, TxPending, StableBehind, ClockAtEnd, IsGone, HasGap, IsRepeat, IsBadOp, HasNoRoom, IsDamaged}
use Rattle.partition_core.specs.Answers.{cause}
use Rattle.partition_core.specs.declared.durable.DurableError.{DurableError}
use Rattle.partition_core.specs.declared.durable.DurableError.TheVariants as call

-- of a refusal, where the call names this transaction or message
abbrev pub refusal_line : PartId → TxId → ℕ → Refusal → Step
refusal_line p tx number IsDown = step.Down p
refusal_line p tx number (ClockBehind n) = step.WaitClock p n
refusal_line p tx number (TxPending t n) = step.WaitTxn p t n
refusal_line p tx number (StableBehind j n) = step.WaitStable j n
refusal_line p tx number ClockAtEnd = step.TimeEnd
refusal_line p tx number IsGone = step.Gone p tx
refusal_line p tx number (HasGap n) = step.Gap number n
refusal_line p tx number (IsRepeat n) = step.Dup number n
refusal_line p tx number IsBadOp = step.BadOp
refusal_line p tx number (HasNoRoom n) = step.Full n
refusal_line p tx number (IsDamaged k) = step.Damaged p k

-- of an error, where a call that the disk cut off has this line; want of memory has none
abbrev pub FailsAs : {X : Type 0} → PartId → TxId → ℕ → Step → DurableError → Result Step X → Type 0
FailsAs p tx number cut call.NoMemory (Ok line) = ⊥
FailsAs p tx number cut call.NoMemory (Err x) = ⊤
FailsAs p tx number cut call.Down (Ok line) = line ≡ step.Down p
FailsAs p tx number cut call.Disk (Ok line) = line ≡ cut
FailsAs p tx number cut (call.Full room) (Ok line) = line ≡ step.Full room
FailsAs p tx number cut (call.Refused why) (Ok line) = line ≡ refusal_line p tx number (cause why)
FailsAs p tx number cut other (Err x) = ⊥
