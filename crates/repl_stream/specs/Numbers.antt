-- Messages that are kept under numbers.
use Rattle.std.specs.Prelude.{ℕ, ◌≤◌, ◌<◌, ◌==◌, if◌then◌else◌, List, [], ◌∷◌, length, Option, None, Some, ⊤}
use Rattle.crdt_core.specs.declared.record.Message.{Message}

-- the messages with their numbers, and the next number
pub record Numbered (E : Type 0) : Type 0 where
  pub messages : List (ℕ × Message E)
  pub next : ℕ

module _ {A : Type 0} where
  -- what is kept under a number
  abbrev pub item_at : List (ℕ × A) → ℕ → Option A
  item_at [] k = None
  item_at (x ∷ xs) k = if x.0 == k then Some x.1 else item_at xs k

  -- the others
  abbrev pub without : List (ℕ × A) → ℕ → List (ℕ × A)
  without [] k = []
  without (x ∷ xs) k = if x.0 == k then xs else x ∷ without xs k

  -- each number is above n
  abbrev pub AreAbove : ℕ → List (ℕ × A) → Type 0
  AreAbove n [] = ⊤
  AreAbove n (x ∷ xs) = (n < x.0) × AreAbove n xs

  -- each number is below n
  abbrev pub AreBelow : ℕ → List (ℕ × A) → Type 0
  AreBelow n [] = ⊤
  AreBelow n (x ∷ xs) = (x.0 < n) × AreBelow n xs

  -- the numbers ascend
  abbrev pub NumbersAscend : List (ℕ × A) → Type 0
  NumbersAscend [] = ⊤
  NumbersAscend (x ∷ xs) = AreAbove x.0 xs × NumbersAscend xs

  -- each message has a number of its own, from 1, that was given before; there are at most 4,096
  pub record IsOutbox (messages : List (ℕ × A)) (next : ℕ) : Type 0 where
    pub first : AreAbove 0 messages
    pub given : AreBelow next messages
    pub ascend : NumbersAscend messages
    pub some : 1 ≤ next
    pub few : length messages ≤ 4096
