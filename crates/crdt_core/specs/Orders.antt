-- The orders in which parts and pending transactions are listed.
use Rattle.std.specs.Prelude.{◌≡◌, ℕ, Bool, true, false, if◌then◌else◌, List, [], ◌∷◌, ⊤}
use Rattle.std.specs.Ordering.{nat_cmp, ordering_then}
use Rattle.std.specs.declared.cmp.Ordering.{Ordering}
use Rattle.std.specs.declared.cmp.Ordering.TheVariants.{Less}
use Rattle.site_vector.specs.declared.ids.TxId.{TxId}
use Rattle.site_vector.specs.Order.{tx_cmp}
use Rattle.site_vector.specs.Vector.{entry, sum}
use Rattle.crdt_core.specs.declared.record.Part.{Part}

-- each comes before all that follow
abbrev pub Precede : {A : Type 0} → (A → A → Ordering) → A → List A → Type 0
Precede cmp x [] = ⊤
Precede cmp x (y ∷ ys) = (cmp x y ≡ Less) × Precede cmp x ys

abbrev pub Ascends : {A : Type 0} → (A → A → Ordering) → List A → Type 0
Ascends cmp [] = ⊤
Ascends cmp (x ∷ xs) = Precede cmp x xs × Ascends cmp xs

abbrev pub is_less : Ordering → Bool
is_less Less = true
is_less other = false

-- the list with x in front of the first that it comes before
abbrev pub insert_by : {A : Type 0} → (A → A → Ordering) → A → List A → List A
insert_by cmp x [] = x ∷ []
insert_by cmp x (y ∷ ys) = if is_less (cmp x y) then x ∷ y ∷ ys else y ∷ insert_by cmp x ys

abbrev pub sorted_by : {A : Type 0} → (A → A → Ordering) → List A → List A
sorted_by cmp [] = []
sorted_by cmp (x ∷ xs) = insert_by cmp x (sorted_by cmp xs)

-- the pending transactions with their prepare times, in the order of time and transaction
abbrev pub pending_cmp : TxId × ℕ → TxId × ℕ → Ordering
pending_cmp x y = ordering_then (nat_cmp x.1 y.1) (tx_cmp x.0 y.0)

module _ {E : Type 0} where
  -- by the sum of the commit vector, and then by transaction
  abbrev pub fold_cmp : Part E → Part E → Ordering
  fold_cmp x y = ordering_then (nat_cmp (sum x.c) (sum y.c)) (tx_cmp x.tx y.tx)

  -- by commit time, and then by transaction
  abbrev pub stream_cmp : ℕ → Part E → Part E → Ordering
  stream_cmp site x y = ordering_then (nat_cmp (entry x.c site) (entry y.c site)) (tx_cmp x.tx y.tx)
