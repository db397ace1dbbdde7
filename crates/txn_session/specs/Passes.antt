-- What passes have seen: of a split, of a meeting, at first, and where many call a store.
use Rattle.std.specs.Prelude.{◌≡◌, ℕ, Bool, true, List, []}
use Rattle.txn_session.specs.Calls.{Call, NoneBears, Within}
use Rattle.txn_session.specs.Numbers.{IsLeast, made_by}

module _ {E S P : Type 0} (sees : S → P → List (Call E) → Type 0) where
  -- what a pass with these numbers had seen, another has, and no call more that bears one of them
  pub record SeesStill (held : ℕ → Bool) (store : S) (pass : P) (run : List (Call E)) : Type 0 where
    pub whole : List (Call E)
    pub within : Within run whole
    pub same : (n : ℕ) → held n ≡ true → made_by n whole ≡ made_by n run
    pub seen : sees store pass whole

  -- no call that the pass has seen bears one of these numbers
  abbrev pub IsUnborne : (ℕ → Bool) → S → P → Type 0
  IsUnborne held store pass = (run : List (Call E)) → sees store pass run → NoneBears held run

  -- nothing was done on the store, and the pass has a number to begin with
  pub record Begins (numbers : P → ℕ → Bool) (store : S) (pass : P) : Type 0 where
    pub number : ℕ
    pub least : IsLeast (numbers pass) number
    pub seen : sees store pass []

  -- many may call the store: a call leaves it the same, and all runs that a pass has seen show the same calls of its numbers
  pub record IsShared (numbers : P → ℕ → Bool) (stays : S → S → Type 0) : Type 0 where
    pub same : (a b : S) → stays a b → b ≡ a
    pub agrees : (store : S) (pass : P) (run other : List (Call E)) → sees store pass run → sees store pass other → (n : ℕ) → numbers pass n ≡ true → made_by n run ≡ made_by n other
