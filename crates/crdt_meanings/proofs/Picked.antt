-- What is picked of a list.
use Rattle.std.proofs.Common.{◌≡◌, List, [], ◌∷◌, ◌++◌, Option, Some, None, refl, sym, ap, ◌∙◌, subst}
use Rattle.crdt_core.specs.Same.{Same}
use Rattle.crdt_meanings.specs.MapMeaning.{with_some, picked}

some_append : {B : Type 0} (o : Option B) (xs ys : List B) → with_some o (xs ++ ys) ≡ with_some o xs ++ ys
some_append None xs ys = refl
some_append (Some x) xs ys = refl

pub picked_append : {A B : Type 0} (g : A → Option B) (xs ys : List A) → picked g (xs ++ ys) ≡ picked g xs ++ picked g ys
picked_append g [] ys = refl
picked_append g (x ∷ xs) ys = ap (with_some (g x)) (picked_append g xs ys) ∙ some_append (g x) (picked g xs) (picked g ys)

same_some : {B : Type 0} (o : Option B) (front back rest whole : List B) → Same rest (front ++ back) → whole ≡ front ++ with_some o back → Same (with_some o rest) whole
same_some None front back rest whole s w = subst (Same rest) (sym w) s
same_some (Some x) front back rest whole s w = (front, back, w, s)

-- the same members are picked of lists with the same members
pub picked_same : {A B : Type 0} (g : A → Option B) (xs ys : List A) → Same xs ys → Same (picked g xs) (picked g ys)
picked_same g [] ys s = ap (picked g) s
picked_same g (x ∷ xs) ys s =
    let front = s.0 in
    let back = s.1 in
    same_some (g x) (picked g front) (picked g back) (picked g xs) (picked g ys)
    (subst (Same (picked g xs)) (picked_append g front back) (picked_same g xs (front ++ back) s.3))
    (ap (picked g) s.2 ∙ picked_append g front (x ∷ back))
