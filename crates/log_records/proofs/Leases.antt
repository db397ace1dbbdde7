-- The bytes of a record tell whether it is a lease.
use Rattle.std.proofs.Common.{◌≡◌, ℕ, Bool, true, List, ◌++◌, Ok, refl, sym, ap, ◌∙◌, arith}
use Rattle.std.proofs.lemmas.List.{append-nil}
use Rattle.field_codec.specs.Spelling.{number, is_number}
use Rattle.field_codec.specs.Reading.{number_at}
use Rattle.field_codec.specs.FormLaws.{width1, width8, number_form}
use Rattle.crdt_core.specs.declared.kind.Kind.{Kind}
use Rattle.crdt_core.specs.declared.record.Record.{Record}
use Rattle.crdt_core.specs.declared.record.Record.TheVariants.{Lease, Prepare, Decide, Finish, Abort, Batch}
use Rattle.log_records.specs.Records.{code, behind_code, record_bytes, is_record_spelled}
use Rattle.log_records.specs.Leases.{lease_in, lease_at, behind_lease, value_read}

-- one byte in front is read as it is
first_byte : (n : ℕ) (rest : List ℕ) → is_number 1 n ≡ true → number_at 1 (number 1 n ++ rest) 0 ≡ Ok (n, 1)
first_byte n rest small = (number_form 1 width1).again (number 1 n ++ rest) 0 n 1 small (record { lies = refl; long = refl; within = omega arith })

-- and so are the eight behind it
behind_byte : (n m : ℕ) → is_number 8 m ≡ true → number_at 8 (number 1 n ++ number 8 m) 1 ≡ Ok (m, 9)
behind_byte n m small = (number_form 8 width8).again (number 1 n ++ number 8 m) 1 m 9 small (record { lies = sym (append-nil (number 8 m)); long = refl; within = omega arith })

by_code : {E : Type 0} (spelling : E → List ℕ) (r : Record E) → is_number 1 (code r) ≡ true → lease_at (record_bytes spelling r) ≡ behind_lease (Ok (code r, 1)) (record_bytes spelling r)
by_code spelling r small = ap (λ x. behind_lease x (record_bytes spelling r)) (first_byte (code r) (behind_code spelling r) small)

module _ {E : Type 0} (has : Kind → Bool) (is_of : Kind → E → Bool) (is_spelled : E → Bool) (spelling : E → List ℕ) where
  pub lease_told : (r : Record E) → is_record_spelled has is_of is_spelled r ≡ true → lease_at (record_bytes spelling r) ≡ lease_in r
  lease_told (Lease n) h = by_code spelling (Lease n) refl ∙ ap value_read (behind_byte 1 n h)
  lease_told (Prepare t l n s w) h = by_code spelling (Prepare t l n s w) refl
  lease_told (Decide t c) h = by_code spelling (Decide t c) refl
  lease_told (Finish t c) h = by_code spelling (Finish t c) refl
  lease_told (Abort t) h = by_code spelling (Abort t) refl
  lease_told (Batch m) h = by_code spelling (Batch m) refl
