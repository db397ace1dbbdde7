-- The lease that bytes are, and the last one of many payloads.
use Rattle.std.specs.Prelude.{ℕ, ◌==◌, List, [], ◌∷◌, Option, Some, None, Ok, Err, if◌then◌else◌}
use Rattle.field_codec.specs.Reading.{Read, number_at}
use Rattle.crdt_core.specs.declared.record.Record.{Record}
use Rattle.crdt_core.specs.declared.record.Record.TheVariants.{Lease}

-- the ceiling of a record that is a lease
abbrev pub lease_in : {E : Type 0} → Record E → Option ℕ
lease_in (Lease n) = Some n
lease_in other = None

abbrev pub value_read : Read ℕ → Option ℕ
value_read (Ok x) = Some x.0
value_read (Err e) = None

abbrev pub behind_lease : Read ℕ → List ℕ → Option ℕ
behind_lease (Ok x) bytes = if x.0 == 1 then value_read (number_at 8 bytes x.1) else None
behind_lease (Err e) bytes = None

-- the ceiling of the lease that these bytes begin with
abbrev pub lease_at : List ℕ → Option ℕ
lease_at bytes = behind_lease (number_at 1 bytes 0) bytes

abbrev pub or_before : Option ℕ → ℕ → ℕ
or_before (Some n) before = n
or_before None before = before

-- that of the last payload that is one, or this one where none is
abbrev pub latest : ℕ → List (List ℕ) → ℕ
latest before [] = before
latest before (payload ∷ payloads) = latest (or_before (lease_at payload) before) payloads
