-- Lists in an order: what comes before what is told by a test.
use Rattle.std.specs.Prelude.{◌≡◌, Bool, true, false, cond, List, [], ◌∷◌, ◌++◌}

-- the list with x in front of the first that it comes before
abbrev pub added : {X : Type 0} → (X → X → Bool) → X → List X → List X
added lt x [] = x ∷ []
added lt x (y ∷ ys) = cond (lt x y) (x ∷ (y ∷ ys)) (y ∷ added lt x ys)

abbrev pub added_all : {X : Type 0} → (X → X → Bool) → List X → List X → List X
added_all lt acc [] = acc
added_all lt acc (x ∷ xs) = added_all lt (added lt x acc) xs

-- the list in its order, made by adding one after another
abbrev pub arranged : {X : Type 0} → (X → X → Bool) → List X → List X
arranged lt xs = added_all lt [] xs

-- each passes a test
abbrev pub Each : {X : Type 0} → (X → Bool) → List X → Type 0
Each p [] = Unit {0}
Each p (x ∷ xs) = (p x ≡ true) × Each p xs

-- each comes before all that follow
abbrev pub Rises : {X : Type 0} → (X → X → Bool) → List X → Type 0
Rises lt [] = Unit {0}
Rises lt (x ∷ xs) = Each (lt x) xs × Rises lt xs

pub record IsOrder {X : Type 0} (lt : X → X → Bool) : Type 0 where
  pub strict : (x : X) → lt x x ≡ false
  pub follows : (x y z : X) → lt x y ≡ true → lt y z ≡ true → lt x z ≡ true

-- what each has, one after another
abbrev pub flat : {X Y : Type 0} → (X → List Y) → List X → List Y
flat f [] = []
flat f (x ∷ xs) = f x ++ flat f xs
