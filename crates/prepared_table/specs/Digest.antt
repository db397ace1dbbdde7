-- A word for each entry, with a bit for each object that it changes: where an object's bit isn't set, the entry
-- doesn't change it.
use Rattle.std.specs.Prelude.{ℕ, ◌+◌, ◌*◌, ◌/◌, ◌%◌, ◌^◌, bit_or, List, [], ◌∷◌}
use Rattle.std.specs.List.{fold}
use Rattle.crdt_core.specs.declared.object.ObjectId.{ObjectId}
use Rattle.crdt_core.specs.declared.record.Upd.{Upd}
use Rattle.prepared_table.specs.declared.entry.Entry.{Entry}

abbrev pub one_byte : ℕ → ℕ → ℕ
one_byte h b = ((h + b) * 16777619) % 4294967296

abbrev pub hashed : ℕ → List ℕ → ℕ
hashed h bytes = fold one_byte h bytes

-- the bit of an object, from 0 to 127
abbrev pub bit_of : ObjectId → ℕ
bit_of o = hashed (hashed 2166136261 o.bucket) o.key / 33554432

module _ {E : Type 0} where
  abbrev pub marked : ℕ → List (Upd E) → ℕ
  marked m [] = m
  marked m (u ∷ us) = marked (bit_or m (2 ^ bit_of u.object)) us

  abbrev pub digest_of : Entry E → ℕ
  digest_of x = marked 0 x.updates
