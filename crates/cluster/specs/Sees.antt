-- What calls have made of a cluster on one thread: all are of one caller.
use Rattle.std.specs.Prelude.{◌≡◌, ℕ, true, false, cond, List, [], ◌∷◌, Result, Ok, Err, ⊤}
use Rattle.std.proofs.Common.{refl, sym, ◌∙◌, inr}
use Rattle.site_vector.specs.declared.ids.TxId.{TxId}
use Rattle.world_model.specs.rules.Event.{Refusal, IsDown, ClockBehind, TxPending, StableBehind, ClockAtEnd, IsGone, HasGap, IsRepeat, IsBadOp, HasNoRoom, IsDamaged}
use Rattle.world_model.specs.declared.step.Step.{Step}
use Rattle.world_model.specs.declared.step.Step.TheVariants as step
use Rattle.world_model.specs.rules.World.{is_begin}
use Rattle.partition_core.specs.declared.durable.DurableError.{DurableError}
use Rattle.partition_core.specs.declared.durable.DurableError.TheVariants as call
use Rattle.partition_core.specs.Answers.{cause}
use Rattle.site_vector.specs.declared.ids.PartId.{PartId}
use Rattle.txn_session.specs.Calls.{Call, entries, caller_of, AreOwned, IsLegal}
use Rattle.site_partitions.specs.Held.{Held}
use Rattle.site_partitions.specs.Reaches.{Types, Reaches}
use Rattle.cluster.specs.Rooms.{FoundRooms}

-- the line of a refusal at a partition, of a call that names this transaction or message
abbrev pub refusal_line : PartId → TxId → ℕ → Refusal → Step
refusal_line p tx number IsDown = step.Down p
refusal_line p tx number (ClockBehind n) = step.WaitClock p n
refusal_line p tx number (TxPending t n) = step.WaitTxn p t n
refusal_line p tx number (StableBehind j n) = step.WaitStable j n
refusal_line p tx number ClockAtEnd = step.TimeEnd
refusal_line p tx number IsGone = step.Gone p tx
refusal_line p tx number (HasGap n) = step.Gap number n
refusal_line p tx number (IsRepeat n) = step.Dup number n
refusal_line p tx number IsBadOp = step.BadOp
refusal_line p tx number (HasNoRoom n) = step.Full n
refusal_line p tx number (IsDamaged k) = step.Damaged p k

-- what a call that isn't answered comes to, if a fault of its disk has this line
abbrev pub FailedAs : {X : Type 0} → PartId → TxId → ℕ → Step → DurableError → Result Step X → Type 0
FailedAs p tx number fault call.NoMemory (Ok s) = ⊥
FailedAs p tx number fault call.NoMemory (Err x) = ⊤
FailedAs p tx number fault call.Down (Ok s) = s ≡ step.Down p
FailedAs p tx number fault call.Disk (Ok s) = s ≡ fault
FailedAs p tx number fault (call.Full room) (Ok s) = s ≡ step.Full room
FailedAs p tx number fault (call.Refused why) (Ok s) = s ≡ refusal_line p tx number (cause why)
FailedAs p tx number fault other (Err x) = ⊥

module _ {E : Type 0} where
  -- each call bears this number
  abbrev pub AllBear : ℕ → List (Call E) → Type 0
  AllBear n [] = ⊤
  AllBear n (c ∷ calls) = (c.by ≡ n) × AllBear n calls

  -- so whoever acts for a transaction bears the number of its begin
  caller_is : (n : ℕ) (c : Call E) (calls : List (Call E)) (t : TxId) → c.by ≡ n → caller_of calls t ≡ n → caller_of (c ∷ calls) t ≡ n
  caller_is n c calls t h k = elim (is_begin c.entry.event t) as (λ b. cond b c.by (caller_of calls t) ≡ n) [ true ↦ h | false ↦ k ]

  pub no_number : (calls : List (Call E)) → AllBear 0 calls → (t : TxId) → caller_of calls t ≡ 0
  no_number [] a t = refl
  no_number (c ∷ calls) a t = caller_is 0 c calls t a.0 (no_number calls a.1 t)

  pub all_owned : (calls : List (Call E)) → AllBear 0 calls → AreOwned calls
  all_owned [] a = tt
  all_owned (c ∷ calls) a = (all_owned calls a.1, λ t h. inr (a.0 ∙ sym (no_number calls a.1 t)))

-- the partitions stand where these calls left them
pub record Sees {S E D : Type 0} (types : Types S E D) (c : Held E D) (calls : List (Call E)) : Type 0 where
  pub reached : Reaches types c (entries calls)
  pub one_caller : AllBear 0 calls
  -- and where one found no room, there was none
  pub rooms : FoundRooms types c (entries calls)

-- which is a run of the world
pub sees_legal : {S E D : Type 0} (types : Types S E D) (c : Held E D) (calls : List (Call E)) → Sees types c calls → IsLegal types.kinds c.sites c.parts calls
sees_legal types c calls s = record { state = s.reached.state; is_run = s.reached.is_run; owned = all_owned calls s.one_caller }
