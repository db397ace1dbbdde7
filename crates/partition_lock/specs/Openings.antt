-- A table before any call, and the seats that its traces are given to.
use Rattle.std.specs.Prelude.{◌≡◌, ℕ, zero, suc, ◌+◌, ◌*◌, ◌/◌, ◌%◌, List, [], ◌∷◌}
use Rattle.atomic_table.specs.Seated.{TableId}
use Rattle.site_vector.specs.declared.ids.PartId.{PartId}
use Rattle.seat_rule.specs.declared.rule.Size.{Size}
use Rattle.seat_rule.specs.declared.view.View.{View}
use Rattle.seat_rule.specs.Sizes.{places, size}
use Rattle.seat_rule.specs.Views.{past, settled, opened}
use Rattle.partition_lock.specs.declared.told.Told.{Told}

-- the words below n, the last first
abbrev pub words_below : ℕ → List ℕ
words_below zero = []
words_below (suc n) = n ∷ words_below n

-- the partition with this word
abbrev pub place_at : ℕ → ℕ → PartId
place_at parts word = record { site = word / parts + 1; part = word % parts + 1 }

module _ {E : Type 0} where
  -- the seat has seen nothing, and writes these words
  abbrev pub unused : List ℕ → View (Told E) × List (ℕ × ℕ)
  unused words = (settled (past [] [] words) 0, [])

  -- a table of so many partitions, and its first seat
  pub record IsOpen (sites parts : ℕ) (table : TableId) (key : Size) (seat : TableId) (me : View (Told E) × List (ℕ × ℕ)) : Type 0 where
    pub same : seat ≡ table
    pub words : table.words ≡ places key + 1
    pub key_is : key ≡ size sites parts
    pub whole : me ≡ (opened (sites * parts), [])
