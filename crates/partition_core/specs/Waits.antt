-- When a read has to wait, and when it may go on.
use Rattle.std.specs.Prelude.{◌≡◌, ℕ, ◌<◌, ◌≤◌, List, None, Some}
use Rattle.site_vector.specs.Vector.{entry}
use Rattle.crdt_core.specs.declared.object.ObjectId.{ObjectId}
use Rattle.prepared_table.specs.declared.entry.Entry.{Entry}
use Rattle.prepared_table.specs.Entries.{first_on}
use Rattle.partition_core.specs.declared.answers.Refusal.{Refusal}
use Rattle.partition_core.specs.declared.answers.Refusal.TheVariants as answer

module _ {E : Type 0} (clock : ℕ) (pending : List (Entry E)) (site : ℕ) (s : List ℕ) (o : ObjectId) where
  -- the clock has reached the snapshot, and nothing that is pending may belong to it
  pub record MayRead : Type 0 where
    pub reached : entry s site ≤ clock
    pub free : first_on o (entry s site) pending ≡ None

  -- this is what it waits for
  abbrev pub IsWait : Refusal → Type 0
  IsWait (answer.ClockBehind n) = (n ≡ clock) × (n < entry s site)
  IsWait (answer.TxPending u n) = (entry s site ≤ clock) × (first_on o (entry s site) pending ≡ Some (u, n))
  IsWait other = ⊥
