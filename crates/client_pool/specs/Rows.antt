-- What stands by the numbers of callers, in what a pass has seen.
use Rattle.std.specs.Prelude.{◌≡◌, ◌≢◌, ℕ, Bool, true, List, [], ◌∷◌, ⊤}
use Rattle.txn_session.specs.Calls.{Call}
use Rattle.txn_session.specs.Numbers.{made_by}
use Rattle.client_pool.specs.Deeds.{Deed, Follows}

-- a caller's number, with what is done by it, the newest first
pub record Row : Type 0 where
  pub number : ℕ
  pub done : List Deed

abbrev pub row_of : ℕ → List Deed → Row
row_of number done = record { number = number; done = done }

-- none of these rows has this number
abbrev pub AreApart : ℕ → List Row → Type 0
AreApart k [] = ⊤
AreApart k (row ∷ rows) = (row.number ≢ k) × AreApart k rows

module _ {E : Type 0} where
  -- the numbers are held, and the calls of each follow what its row says
  abbrev pub AreRows : (ℕ → Bool) → List (Call E) → List Row → Type 0
  AreRows numbers run [] = ⊤
  AreRows numbers run (row ∷ rows) = (numbers row.number ≡ true) × Follows row.done (made_by row.number run) × AreRows numbers run rows

  module _ {S P : Type 0} (sees : S → P → List (Call E) → Type 0) (numbers : P → ℕ → Bool) where
    -- some run that the pass has seen has these rows
    pub record Stands (store : S) (pass : P) (rows : List Row) : Type 0 where
      pub run : List (Call E)
      pub seen : sees store pass run
      pub stand : AreRows (numbers pass) run rows
