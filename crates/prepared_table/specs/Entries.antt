-- The entries of pending transactions.
use Rattle.std.specs.Prelude.{◌≡◌, ℕ, Bool, false, ◌&&◌, ◌||◌, leb, if◌then◌else◌, List, [], ◌∷◌, ◌++◌, Option, None, Some}
use Rattle.std.specs.declared.cmp.Ordering.{Ordering}
use Rattle.site_vector.specs.declared.ids.TxId.{TxId}
use Rattle.site_vector.specs.Ids.{same_tx}
use Rattle.crdt_core.specs.declared.object.ObjectId.{ObjectId}
use Rattle.crdt_core.specs.Orders.{pending_cmp}
use Rattle.crdt_core.specs.Parts.{touches}
use Rattle.prepared_table.specs.declared.entry.Entry.{Entry}

-- the entries in order, and for how many more there is memory
pub record Pending (E : Type 0) : Type 0 where
  pub entries : List (Entry E)
  pub room : ℕ

module _ {E : Type 0} where
  -- by prepare time, and then by transaction
  abbrev pub entry_cmp : Entry E → Entry E → Ordering
  entry_cmp x y = pending_cmp (x.tx, x.time) (y.tx, y.time)

  -- an entry of t is among these
  abbrev pub has_entry : List (Entry E) → TxId → Bool
  has_entry [] t = false
  has_entry (x ∷ xs) t = same_tx x.tx t || has_entry xs t

  -- the first entry of t
  abbrev pub found : TxId → List (Entry E) → Option (Entry E)
  found t [] = None
  found t (x ∷ xs) = if same_tx x.tx t then Some x else found t xs

  -- the time of the first entry
  abbrev pub first_time : List (Entry E) → Option ℕ
  first_time [] = None
  first_time (x ∷ xs) = Some x.time

  -- the first entry that changes the object and has a time of at most n
  abbrev pub first_on : ObjectId → ℕ → List (Entry E) → Option (TxId × ℕ)
  first_on o n [] = None
  first_on o n (x ∷ xs) = if touches x.updates o && leb x.time n then Some (x.tx, x.time) else first_on o n xs

  -- x was taken out, and the others keep their order
  pub record IsTakenOut (x : Entry E) (old new : List (Entry E)) : Type 0 where
    pub front : List (Entry E)
    pub back : List (Entry E)
    pub before : old ≡ front ++ x ∷ back
    pub after : new ≡ front ++ back
