-- A call that appends records and refuses before it writes.
use Rattle.std.proofs.Common.{◌≡◌, ◌≢◌, inl, ℕ, ◌+◌, ◌-◌, ◌<◌, true, false, List, [], ◌∷◌, Option, None, Some, Result, Err, refl, ap, arith}
use Rattle.disk_core.specs.States.{DiskState, fewer}
use Rattle.disk_core.specs.Moments.{EachImage, AtEachMoment}
use Rattle.disk_core.proofs.Moments.{at_first}
use Rattle.gate_log.specs.Logs.{disk_of, gate_of, is_closed, IsReady}
use Rattle.gate_log.specs.declared.log.GateLog.{GateLog}
use Rattle.gate_log.specs.declared.error.AppendError.{AppendError}
use Rattle.gate_log.specs.declared.error.AppendError.TheVariants.{Failed, Full, Closed, NoMemory}
use Rattle.gate_log.proofs.Steps.{is_log}
use Rattle.crdt_core.specs.declared.record.Record.{Record}
use Rattle.crdt_core.specs.Log.{MayFind}
use Rattle.partition_log.specs.Codec.{Codec}
use Rattle.partition_log.specs.Logs.{payloads_of, HoldsFront, HasRecords, size}
use Rattle.partition_log.specs.Appends.{Appends}

abbrev refusal : {T : Type 0} → AppendError → Result T AppendError
refusal e = Err e

none_fewer : (left : Option ℕ) → left ≡ fewer 0 left
none_fewer None = refl
none_fewer (Some n) = let same : n ≡ n - 0 = omega arith in ap Some same

-- before any record is found, what is found is the log
pub found_itself : {E : Type 0} (log records : List (Record E)) → MayFind log records log
found_itself log [] = refl
found_itself log (r ∷ records) = inl refl

module _ {E D : Type 0} (codec : Codec E) (state : D → DiskState) (old : GateLog D) (records : List (Record E)) where
  -- each crash between two calls leaves the log
  pub image_at_rest : (log : List (Record E)) → HasRecords codec state old log → EachImage (HoldsFront codec log records) (state (disk_of old)).story.now
  image_at_rest log has = λ image left.
      let rest = has.is_open.at_rest in
      (log, found_itself log records, record { is_log = is_log (state (disk_of old)).story.now (payloads_of codec log) image rest.settled rest.log left; spelled = has.spelled })

module _ {E D : Type 0} (T : Type 0) (codec : Codec E) (state : D → DiskState) (old : GateLog D) (ready : IsReady state old) (records : List (Record E)) where
  at_rest : (log : List (Record E)) → HasRecords codec state old log → AtEachMoment (state (disk_of old)).story (state (disk_of old)).story (HoldsFront codec log records)
  at_rest log has = at_first (state (disk_of old)).story (HoldsFront codec log records) (image_at_rest codec state old records log has)

  unchanged : (e : AppendError) → e ≢ Failed → (refusal {T = T} e ≡ Err Closed → is_closed old ≡ true) → (is_closed old ≡ true → refusal {T = T} e ≢ Err NoMemory → refusal {T = T} e ≡ Err Closed)
      → ((room : ℕ) → refusal {T = T} e ≡ Err (Full room) → (room ≡ (state (disk_of old)).room) × (is_closed old ≡ false) × (room < gate_of old + size codec records + 1))
      → (is_closed old ≡ false → (state (disk_of old)).room < gate_of old + size codec records + 1 → refusal {T = T} e ≢ Err NoMemory → refusal {T = T} e ≡ Err (Full (state (disk_of old)).room))
      → Appends {T = T} codec state (Err e) old old records
  unchanged e no_fault was_closed closed is_full full = record {
    appended = tt;
    durable = tt;
    any_moment = at_rest;
    was_closed = was_closed;
    closed = closed;
    is_full = is_full;
    full = full;
    failed = λ h. absurd (no_fault (same_error e Failed h));
    refused = λ _. refl;
    gate = tt;
    stays_open = tt;
    read = refl;
    ready = ready;
    goes_on = record { tells = refl; room = refl; sound = refl; later = omega arith; starved = λ h. h };
    left = record { count = 0; less = omega arith; left = none_fewer (state (disk_of old)).left };
    left_ok = tt;
    spared = tt;
  }
    where
      same_error : (d e : AppendError) → refusal {T = T} d ≡ refusal e → d ≡ e
      same_error d e h = cc

  no_fault_closed : Closed ≢ Failed
  no_fault_closed h = cc

  no_fault_full : (room : ℕ) → Full room ≢ Failed
  no_fault_full room h = cc

  no_fault_memory : NoMemory ≢ Failed
  no_fault_memory h = cc

  full_not_closed : (room : ℕ) → refusal {T = T} (Full room) ≡ Err Closed → ⊥
  full_not_closed room h = cc

  closed_not_full : (room : ℕ) → refusal {T = T} Closed ≡ Err (Full room) → ⊥
  closed_not_full room h = cc

  memory_not_closed : refusal {T = T} NoMemory ≡ Err Closed → ⊥
  memory_not_closed h = cc

  memory_not_full : (room : ℕ) → refusal {T = T} NoMemory ≡ Err (Full room) → ⊥
  memory_not_full room h = cc

  same_room : (n m : ℕ) → refusal {T = T} (Full n) ≡ Err (Full m) → n ≡ m
  same_room n m h = cc

  both : {P : Type 0} → is_closed old ≡ true → is_closed old ≡ false → P
  both h k = absurd cc

  pub refused_closed : is_closed old ≡ true → Appends {T = T} codec state (Err Closed) old old records
  refused_closed h = unchanged Closed no_fault_closed (λ _. h) (λ _ _. refl) (λ room g. absurd (closed_not_full room g)) (λ k _ _. both h k)

  pub refused_full : (room : ℕ) → room ≡ (state (disk_of old)).room → is_closed old ≡ false → room < gate_of old + size codec records + 1 → Appends {T = T} codec state (Err (Full room)) old old records
  refused_full room same open_still past =
      unchanged (Full room) (no_fault_full room) (λ h. absurd (full_not_closed room h)) (λ h _. both h open_still)
      (λ n h. let e = same_room room n h in (omega (arith, e, same), open_still, omega (arith, e, past))) (λ _ _ _. ap (λ n. refusal (Full n)) same)

  pub refused_memory : Appends {T = T} codec state (Err NoMemory) old old records
  refused_memory = unchanged NoMemory no_fault_memory (λ h. absurd (memory_not_closed h)) (λ _ more. absurd (more refl)) (λ room h. absurd (memory_not_full room h)) (λ _ _ more. absurd (more refl))
