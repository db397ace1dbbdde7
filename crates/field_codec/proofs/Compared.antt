-- Texts that are compared byte by byte.
use Rattle.std.proofs.Common.{◌≡◌, ◌≢◌, ℕ, suc, ◌+◌, ◌<◌, min, Bool, true, false, ◌&&◌, ◌==◌, List, [], ◌∷◌, length, drop, get_or, refl, ap, ◌∙◌, eq-eqb, ne_eqb, arith}
use Rattle.std.specs.Str.{bytes_eq}
use Rattle.std.specs.Ordering.{nat_cmp}
use Rattle.std.specs.Cmp.Lexicographic.{slice_cmp}
use Rattle.std.proofs.lemmas.Bool.Decides.{nat_tests}
use Rattle.std.proofs.lemmas.List.{drop_more}

pub same_byte : (xs ys : List ℕ) (i : ℕ) → i < length xs → i < length ys → get_or xs i 0 ≡ get_or ys i 0 → bytes_eq (drop i xs) (drop i ys) ≡ bytes_eq (drop (i + 1) xs) (drop (i + 1) ys)
same_byte xs ys i a b e =
    (λ k. bytes_eq (drop_more xs i 0 a k) (drop_more ys i 0 b k)) ∙ ap (λ t. t && bytes_eq (drop (i + 1) xs) (drop (i + 1) ys)) (eq-eqb (get_or xs i 0) (get_or ys i 0) e)

pub other_byte : (xs ys : List ℕ) (i : ℕ) → i < length xs → i < length ys → (get_or xs i 0 ≢ get_or ys i 0) → bytes_eq (drop i xs) (drop i ys) ≡ false
other_byte xs ys i a b n =
    (λ k. bytes_eq (drop_more xs i 0 a k) (drop_more ys i 0 b k)) ∙ ap (λ t. t && bytes_eq (drop (i + 1) xs) (drop (i + 1) ys)) (ne_eqb (get_or xs i 0) (get_or ys i 0) n)

never : (b : Bool) → b && false ≡ false
never true = refl
never false = refl

pub other_length : (xs ys : List ℕ) → (length xs ≢ length ys) → bytes_eq xs ys ≡ false
other_length [] [] n = absurd (n refl)
other_length [] (y ∷ ys) n = refl
other_length (x ∷ xs) [] n = refl
other_length (x ∷ xs) (y ∷ ys) n = ap (λ t. (x == y) && t) (other_length xs ys (λ e. n (ap suc e))) ∙ never (x == y)

equal_then : (x y : ℕ) (xs ys : List ℕ) → x ≡ y → slice_cmp nat_cmp (x ∷ xs) (y ∷ ys) ≡ slice_cmp nat_cmp xs ys
equal_then x y xs ys e = grind (arith, nat_tests)

other_then : (x y : ℕ) (xs ys : List ℕ) → (x ≢ y) → slice_cmp nat_cmp (x ∷ xs) (y ∷ ys) ≡ nat_cmp x y
other_then x y xs ys n = grind (arith, nat_tests)

pub same_front : (xs ys : List ℕ) (i : ℕ) → i < length xs → i < length ys → get_or xs i 0 ≡ get_or ys i 0 → slice_cmp nat_cmp (drop i xs) (drop i ys) ≡ slice_cmp nat_cmp (drop (i + 1) xs) (drop (i + 1) ys)
same_front xs ys i a b e = (λ k. slice_cmp nat_cmp (drop_more xs i 0 a k) (drop_more ys i 0 b k)) ∙ equal_then (get_or xs i 0) (get_or ys i 0) (drop (i + 1) xs) (drop (i + 1) ys) e

pub first_other : (xs ys : List ℕ) (i : ℕ) → i < length xs → i < length ys → (get_or xs i 0 ≢ get_or ys i 0) → slice_cmp nat_cmp (drop i xs) (drop i ys) ≡ nat_cmp (get_or xs i 0) (get_or ys i 0)
first_other xs ys i a b n = (λ k. slice_cmp nat_cmp (drop_more xs i 0 a k) (drop_more ys i 0 b k)) ∙ other_then (get_or xs i 0) (get_or ys i 0) (drop (i + 1) xs) (drop (i + 1) ys) n

-- where one of them ends, the lengths decide
pub at_an_end : (xs ys : List ℕ) (i : ℕ) → i ≡ min (length xs) (length ys) → slice_cmp nat_cmp (drop i xs) (drop i ys) ≡ nat_cmp (length xs) (length ys)
at_an_end [] [] i e = grind (arith, nat_tests)
at_an_end [] (y ∷ ys) i e = grind (arith, nat_tests)
at_an_end (x ∷ xs) [] i e = grind (arith, nat_tests)
at_an_end (x ∷ xs) (y ∷ ys) i e = grind (arith, nat_tests, at_an_end xs ys)
