-- Links that tell, of each element, the next in the order among those with its tag.
use Rattle.std.specs.Prelude.{◌≡◌, ℕ, Bool, ◌&&◌, ◌||◌, List, [], ◌∷◌, Option, Some, None, ◌≢◌, true}
use Rattle.std.proofs.Common.{eqb, get_or}
use Rattle.std.specs.List.{filter, slice_get}
use Rattle.effect_store.specs.Arranged.{arranged, Rises}

-- the link of the last of a tag, and the place that is none: the greatest number of 32 bits
abbrev pub none : ℕ
none = 4294967295

-- a number is the place of the first of a list, if it has one
abbrev pub Points : {X : Type 0} → List X → ℕ → List X → Type 0
Points xs k [] = k ≡ none
Points xs k (p ∷ ps) = slice_get xs k ≡ Some p

-- y has the tag of p and comes after it
abbrev pub after : {X : Type 0} → (X → ℕ) → (X → X → Bool) → X → X → Bool
after tag lt p y = eqb (tag p) (tag y) && lt p y

abbrev pub has_tag : {X : Type 0} → (X → ℕ) → ℕ → X → Bool
has_tag tag o y = eqb o (tag y)

-- each link names the next of its element's tag, and each head the first of its tag
pub record IsChain {X : Type 0} (tag : X → ℕ) (lt : X → X → Bool) (xs : List X) (links : List ℕ) (heads : ℕ → ℕ) : Type 0 where
  pub ordered : Rises lt (arranged lt xs)
  pub linked : (k : ℕ) (p : X) → slice_get xs k ≡ Some p → Points xs (get_or links k none) (filter (after tag lt p) (arranged lt xs))
  pub headed : (o : ℕ) → Points xs (heads o) (filter (has_tag tag o) (arranged lt xs))

-- of two places one comes before the other
abbrev pub IsApart : {X : Type 0} → (X → X → Bool) → List X → Type 0
IsApart {X} lt xs = (k j : ℕ) (p q : X) → slice_get xs k ≡ Some p → slice_get xs j ≡ Some q → k ≢ j → lt p q || lt q p ≡ true

-- what a walk along the links reads from a place on
abbrev pub chain_of : {X : Type 0} → (X → ℕ) → (X → X → Bool) → List X → Option X → List X
chain_of tag lt xs None = []
chain_of tag lt xs (Some p) = p ∷ filter (after tag lt p) (arranged lt xs)

abbrev pub chain : {X : Type 0} → (X → ℕ) → (X → X → Bool) → List X → ℕ → List X
chain tag lt xs a = chain_of tag lt xs (slice_get xs a)
