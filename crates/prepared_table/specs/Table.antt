-- How entries lie in memory: in order, each with its digest beside it.
use Rattle.std.specs.Prelude.{◌≡◌, ℕ, ◌+◌, ◌≤◌, List, map}
use Rattle.crdt_core.specs.Orders.{Ascends}
use Rattle.prepared_table.specs.declared.entry.Entry.{Entry}
use Rattle.prepared_table.specs.Entries.{entry_cmp}
use Rattle.prepared_table.specs.Digest.{digest_of}

-- there is memory for so many more entries and their digests
pub record HasRoom (entries digests room entry_places digest_places : ℕ) : Type 0 where
  pub of_entries : entries + room ≤ entry_places
  pub of_digests : digests + room ≤ digest_places

pub record IsTable {E : Type 0} (entries : List (Entry E)) (digests : List ℕ) : Type 0 where
  pub ascends : Ascends entry_cmp entries
  pub told : digests ≡ map digest_of entries
