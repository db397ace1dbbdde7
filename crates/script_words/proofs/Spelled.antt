-- Words that are compared byte by byte.
use Rattle.std.proofs.Common.{◌≡◌, ◌≢◌, ℕ, suc, ◌+◌, ◌<◌, Bool, true, false, ◌&&◌, ◌==◌, List, [], ◌∷◌, length, drop, get_or, refl, ap, ◌∙◌, eq-eqb, ne_eqb}
use Rattle.std.specs.Str.{bytes_eq}
use Rattle.std.proofs.lemmas.List.{drop_more}

pub same_byte : (xs ys : List ℕ) (i : ℕ) → i < length xs → i < length ys → get_or xs i 0 ≡ get_or ys i 0 → bytes_eq (drop i xs) (drop i ys) ≡ bytes_eq (drop (i + 1) xs) (drop (i + 1) ys)
same_byte xs ys i a b e =
    (λ k. bytes_eq (drop_more xs i 0 a k) (drop_more ys i 0 b k)) ∙ ap (λ t. t && bytes_eq (drop (i + 1) xs) (drop (i + 1) ys)) (eq-eqb (get_or xs i 0) (get_or ys i 0) e)

pub other_byte : (xs ys : List ℕ) (i : ℕ) → i < length xs → i < length ys → (get_or xs i 0 ≢ get_or ys i 0) → bytes_eq (drop i xs) (drop i ys) ≡ false
other_byte xs ys i a b n =
    (λ k. bytes_eq (drop_more xs i 0 a k) (drop_more ys i 0 b k)) ∙ ap (λ t. t && bytes_eq (drop (i + 1) xs) (drop (i + 1) ys)) (ne_eqb (get_or xs i 0) (get_or ys i 0) n)

never : (b : Bool) → b && false ≡ false
never true = refl
never false = refl

pub other_length : (xs ys : List ℕ) → (length xs ≢ length ys) → bytes_eq xs ys ≡ false
other_length [] [] n = absurd (n refl)
other_length [] (y ∷ ys) n = refl
other_length (x ∷ xs) [] n = refl
other_length (x ∷ xs) (y ∷ ys) n = ap (λ t. (x == y) && t) (other_length xs ys (λ e. n (ap suc e))) ∙ never (x == y)
