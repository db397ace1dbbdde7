-- An append of the payload of one record.
use Rattle.std.proofs.Common.{◌≡◌, inl, inr, ⊎_elim, ℕ, ◌+◌, ◌<◌, Bool, true, false, List, [], ◌∷◌, ◌++◌, length, Result, Ok, Err, OnOk, refl, ap, ◌∙◌, subst, arith}
use Rattle.std.specs.Prelude.{◌↔◌}
use Rattle.disk_core.specs.States.{DiskState}
use Rattle.disk_core.specs.Moments.{EachImage, AtEachMoment}
use Rattle.disk_core.proofs.Moments.{weaker}
use Rattle.gate_log.specs.Log.{IsLog, IsBeforeOrAfter}
use Rattle.gate_log.specs.Logs.{disk_of, gate_of, is_closed, IsOpen}
use Rattle.gate_log.specs.declared.log.GateLog.{GateLog}
use Rattle.gate_log.specs.declared.error.AppendError.{AppendError}
use Rattle.gate_log.specs.declared.error.AppendError.TheVariants.{Full, Closed}
use Rattle.field_codec.specs.FormLaws.{and_true}
use Rattle.crdt_core.specs.declared.record.Record.{Record}
use Rattle.partition_log.specs.Codec.{Codec}
use Rattle.partition_log.specs.Logs.{payloads_of, are_spelled, HoldsLog, HoldsFront, HasRecords, size}

pub on_ok : {T E P Q : Type 0} (r : Result T E) → (P → Q) → OnOk r P → OnOk r Q
on_ok (Ok x) f h = f h
on_ok (Err e) f h = tt

abbrev refusal : {T : Type 0} → AppendError → Result T AppendError
refusal e = Err e

pub closed_not_full : {T : Type 0} (r : Result T AppendError) (room : ℕ) → r ≡ Err Closed → r ≡ Err (Full room) → ⊥
closed_not_full r room p q = cc

pub not_true : (b : Bool) → (b ≡ true → ⊥) → b ≡ false
not_true true h = absurd (h refl)
not_true false h = refl

module _ {E D : Type 0} (codec : Codec E) (state : D → DiskState) (old new : GateLog D) (payload : List ℕ) (r : Record E) (spelled : codec.spelled r ≡ true) (is : payload ≡ codec.bytes r) where
  with_one : (log : List (Record E)) → are_spelled codec log ≡ true → are_spelled codec (r ∷ log) ≡ true
  with_one log all = and_true (codec.spelled r) (are_spelled codec log) spelled all

  pub has_one : ((payloads : List (List ℕ)) → IsOpen state old payloads → IsOpen state new (payloads ++ payload ∷ []))
      → (log : List (Record E)) → HasRecords codec state old log → HasRecords codec state new (r ∷ log)
  has_one appended log has = record {
    is_open = subst (λ p. IsOpen state new (payloads_of codec log ++ p ∷ [])) is (appended (payloads_of codec log) has.is_open);
    spelled = with_one log has.spelled;
  }

  log_of_one : (log : List (Record E)) (image : List ℕ) → are_spelled codec log ≡ true → IsLog image (payloads_of codec log ++ payload ∷ []) → HoldsLog codec image (r ∷ log)
  log_of_one log image all h = record { is_log = subst (λ p. IsLog image (payloads_of codec log ++ p ∷ [])) is h; spelled = with_one log all }

  pub keeps_one : ((payloads : List (List ℕ)) → IsOpen state old payloads → EachImage (λ image. IsLog image (payloads ++ payload ∷ [])) (state (disk_of new)).story.now)
      → (log : List (Record E)) → HasRecords codec state old log → EachImage (λ image. HoldsLog codec image (r ∷ log)) (state (disk_of new)).story.now
  keeps_one durable log has = λ image left. log_of_one log image has.spelled (durable (payloads_of codec log) has.is_open image left)

  pub moments_of_one : ((payloads : List (List ℕ)) → IsOpen state old payloads → AtEachMoment (state (disk_of old)).story (state (disk_of new)).story (IsBeforeOrAfter payloads payload))
      → (log : List (Record E)) → HasRecords codec state old log → AtEachMoment (state (disk_of old)).story (state (disk_of new)).story (HoldsFront codec log (r ∷ []))
  moments_of_one moments log has =
      weaker (state (disk_of old)).story (state (disk_of new)).story (IsBeforeOrAfter (payloads_of codec log) payload) (HoldsFront codec log (r ∷ []))
      (λ image. ⊎_elim (λ before. (log, inl refl, record { is_log = before; spelled = has.spelled })) (λ after. (r ∷ log, inr refl, log_of_one log image has.spelled after)))
      (moments (payloads_of codec log) has.is_open)

  long : length payload ≡ length (codec.bytes r)
  long = ap length is

  pub full_at_one : {T : Type 0} (result : Result T AppendError) (room : ℕ) → ((result ≡ Err Closed) ↔ (is_closed old ≡ true))
      → (is_closed old ≡ false → (result ≡ Err (Full (state (disk_of old)).room)) ↔ ((state (disk_of old)).room < gate_of old + 5 + length payload + 1))
      → ((n : ℕ) → result ≡ Err (Full n) → n ≡ (state (disk_of old)).room)
      → result ≡ Err (Full room) → (room ≡ (state (disk_of old)).room) × (is_closed old ≡ false) × (room < gate_of old + size codec (r ∷ []) + 1)
  full_at_one result room closed full told h =
      let same = told room h in
      let open_still = not_true (is_closed old) (λ c. closed_not_full result room (closed.1 c) h) in
      let past = (full open_still).0 (h ∙ ap (λ n. refusal (Full n)) same) in
      (same, open_still, omega (arith, same, past, long))

  pub one_is_full : {T : Type 0} (result : Result T AppendError)
      → (is_closed old ≡ false → (result ≡ Err (Full (state (disk_of old)).room)) ↔ ((state (disk_of old)).room < gate_of old + 5 + length payload + 1))
      → is_closed old ≡ false → (state (disk_of old)).room < gate_of old + size codec (r ∷ []) + 1 → result ≡ Err (Full (state (disk_of old)).room)
  one_is_full result full open_still past = (full open_still).1 (omega (arith, past, long))

  pub gate_at_one : {T : Type 0} (result : Result T AppendError) → OnOk result (gate_of new ≡ gate_of old + 5 + length payload) → OnOk result (gate_of new ≡ gate_of old + size codec (r ∷ []))
  gate_at_one result = on_ok result (λ h. omega (arith, h, long))
