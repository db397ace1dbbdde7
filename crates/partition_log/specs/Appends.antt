-- What a call says that appends records to a log.
use Rattle.std.specs.Prelude.{◌≡◌, ◌≢◌, ℕ, ◌+◌, ◌*◌, ◌<◌, true, false, List, length, Result, Err, OnOk, IfErr}
use Rattle.disk_core.specs.States.{DiskState, GoesOn, Fails, fewer, Spared}
use Rattle.disk_core.specs.Moments.{EachImage, AtEachMoment}
use Rattle.gate_log.specs.Logs.{disk_of, gate_of, is_closed, read_at_opening, IsReady}
use Rattle.gate_log.specs.Rest.{Lowers}
use Rattle.gate_log.specs.declared.log.GateLog.{GateLog}
use Rattle.gate_log.specs.declared.error.AppendError.{AppendError}
use Rattle.gate_log.specs.declared.error.AppendError.TheVariants.{Failed, Full, Closed, NoMemory}
use Rattle.crdt_core.specs.declared.record.Record.{Record}
use Rattle.crdt_core.specs.Log.{grown}
use Rattle.partition_log.specs.Codec.{Codec}
use Rattle.partition_log.specs.Logs.{HoldsLog, HoldsFront, HasRecords, size}

-- By the log before and after the call, and the records, the oldest first.
pub record Appends {E D T : Type 0} (codec : Codec E) (state : D → DiskState) (result : Result T AppendError) (old new : GateLog D) (records : List (Record E)) : Type 0 where
  -- once it answers Ok the log has them, and every crash leaves them
  pub appended : OnOk result ((log : List (Record E)) → HasRecords codec state old log → HasRecords codec state new (grown log records))
  pub durable : OnOk result ((log : List (Record E)) → HasRecords codec state old log → EachImage (λ image. HoldsLog codec image (grown log records)) (state (disk_of new)).story.now)
  -- a crash at any moment leaves the log before with the first of them, or none, or all
  pub any_moment : (log : List (Record E)) → HasRecords codec state old log → AtEachMoment (state (disk_of old)).story (state (disk_of new)).story (HoldsFront codec log records)
  -- refused as closed exactly where the log is closed, but for memory
  pub was_closed : result ≡ Err Closed → is_closed old ≡ true
  pub closed : is_closed old ≡ true → result ≢ Err NoMemory → result ≡ Err Closed
  -- refused as full exactly where all of them together would pass the room, but for memory
  pub is_full : (room : ℕ) → result ≡ Err (Full room) → (room ≡ (state (disk_of old)).room) × (is_closed old ≡ false) × (room < gate_of old + size codec records + 1)
  pub full : is_closed old ≡ false → (state (disk_of old)).room < gate_of old + size codec records + 1 → result ≢ Err NoMemory → result ≡ Err (Full (state (disk_of old)).room)
  -- a fault is the disk's, and closes the log; every other refusal leaves it as it was
  pub failed : result ≡ Err Failed → Fails (state (disk_of old)) (state (disk_of new)) × (is_closed new ≡ true)
  pub refused : IfErr result (λ e. e ≢ Failed → new ≡ old)
  pub gate : OnOk result (gate_of new ≡ gate_of old + size codec records)
  pub stays_open : OnOk result (is_closed new ≡ false)
  pub read : read_at_opening new ≡ read_at_opening old
  pub ready : IsReady state new
  -- four calls of the disk for each record
  pub goes_on : GoesOn (state (disk_of old)) (state (disk_of new))
  pub left : Lowers (4 * length records) (state (disk_of old)).left (state (disk_of new)).left
  pub left_ok : OnOk result ((state (disk_of new)).left ≡ fewer (4 * length records) (state (disk_of old)).left)
  pub spared : OnOk result (Spared (4 * length records) (state (disk_of old)).left)
