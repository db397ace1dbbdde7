-- A number of one digit.
use Rattle.std.proofs.Common.{◌≡◌, ℕ, ◌+◌, ◌/◌, ◌%◌, ◌<◌, false, if◌then◌else◌, List, [], ◌∷◌, ◌++◌, decimal, sym, ap, ◌∙◌, arith, eq-eqb, lt-ltb}
use Rattle.std.specs.Fmt.{digits, digits_onto, digit_glyph}

digit_of : (n : ℕ) → n < 10 → digit_glyph false (n % 10) ≡ 48 + n
digit_of n h = ap (λ b. if b then 48 + n % 10 else 87 + n % 10) (lt-ltb (n % 10) 10 (omega arith)) ∙ omega arith

decimal_of : (n : ℕ) → n < 10 → decimal n ≡ (48 + n) ∷ []
unfolding digits
decimal_of n h =
    let d : ℕ = digit_glyph false (n % 10) in
    ap (λ b. if b then d ∷ [] else digits_onto 63 10 false (n / 10) (d ∷ [])) (eq-eqb (n / 10) 0 (omega arith)) ∙ ap (λ c. c ∷ []) (digit_of n h)

pub one_digit : (old new : List ℕ) (n c : ℕ) → n < 10 → c ≡ 48 + n → new ≡ old ++ c ∷ [] → new ≡ old ++ decimal n
one_digit old new n c h is e = e ∙ ap (λ d. old ++ d) (ap (λ b. b ∷ []) is ∙ sym (decimal_of n h))
