-- Lists of traces, by the partition's word, the oldest step of each first.
use Rattle.std.specs.Prelude.{ℕ, zero, suc, ◌+◌, List, [], ◌∷◌, ◌++◌, map, length, Bool, ◌==◌}
use Rattle.std.specs.List.{list_any}

abbrev pub has : List ℕ → ℕ → Bool
has ns k = list_any (λ j. j == k) ns

-- how many steps of p are cited
abbrev pub cite : List ℕ → ℕ → ℕ
cite [] p = 0
cite (n ∷ ns) zero = n
cite (n ∷ ns) (suc p) = cite ns p

-- the numbers from n down to 0
abbrev pub down_from : ℕ → List ℕ
down_from zero = 0 ∷ []
down_from (suc n) = suc n ∷ down_from n

module _ {X : Type 0} where
  -- the function with another value at one number
  abbrev pub put : (ℕ → X) → ℕ → X → ℕ → X
  put f zero x zero = x
  put f zero x (suc q) = f (suc q)
  put f (suc p) x zero = f zero
  put f (suc p) x (suc q) = put (λ k. f (suc k)) p x q

module _ {A : Type 0} where
  -- the trace of p
  abbrev pub at : List (List A) → ℕ → List A
  at [] p = []
  at (l ∷ ls) zero = l
  at (l ∷ ls) (suc p) = at ls p

  -- with one step of p more
  abbrev pub grown : List (List A) → ℕ → A → List (List A)
  grown [] zero e = (e ∷ []) ∷ []
  grown [] (suc p) e = [] ∷ grown [] p e
  grown (l ∷ ls) zero e = (l ++ e ∷ []) ∷ ls
  grown (l ∷ ls) (suc p) e = l ∷ grown ls p e

  abbrev pub lens : List (List A) → List ℕ
  lens ls = map length ls

  -- how many steps there are
  abbrev pub total : List (List A) → ℕ
  total [] = 0
  total (l ∷ ls) = length l + total ls

  -- of two fronts of one list the longer
  abbrev pub longer : List A → List A → List A
  longer [] ys = ys
  longer (x ∷ xs) [] = x ∷ xs
  longer (x ∷ xs) (y ∷ ys) = x ∷ longer xs ys

  -- of each trace the longer front
  abbrev pub longest : List (List A) → List (List A) → List (List A)
  longest [] ys = ys
  longest (x ∷ xs) [] = x ∷ xs
  longest (x ∷ xs) (y ∷ ys) = longer x y ∷ longest xs ys

  abbrev pub front_of : List A → List A
  front_of [] = []
  front_of (x ∷ xs) = x ∷ []

  abbrev pub behind : List A → List A
  behind [] = []
  behind (x ∷ xs) = xs
