-- Lists with the same members, in any order.
use Rattle.std.specs.Prelude.{◌≡◌, List, [], ◌∷◌, ◌++◌}

abbrev pub Same : {A : Type 0} → List A → List A → Type 0
Same [] k = k ≡ []
Same {A} (x ∷ xs) k = (front : List A) × (back : List A) × (k ≡ front ++ x ∷ back) × Same xs (front ++ back)
