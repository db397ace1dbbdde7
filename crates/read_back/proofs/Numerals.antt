-- Numbers as they are printed are one word, and are read as the same numbers.
use Rattle.std.proofs.Common.{◌≡◌, ℕ, zero, suc, ◌+◌, ◌-◌, ◌*◌, ◌/◌, ◌%◌, ◌^◌, ◌<◌, ◌≤◌, true, false, true≢false, ◌&&◌, ◌==◌, nat_le, if◌then◌else◌, ℤ, pos, negsuc, List, [], ◌∷◌, ◌++◌, get_or, decimal, Some, None, option_map, option_and_then, refl, sym, ap, ◌∙◌, subst, arith, rules, inl, inr, ne_eqb, le-leb, lt-ltb}
use Rattle.std.proofs.lemmas.Bool.{cases_lt, and_parts}
use Rattle.std.proofs.lemmas.Bool.Decides.{nat_tests}
use Rattle.std.proofs.lemmas.Fmt.{decimal_by_steps, decimal_digit, first_decimal}
use Rattle.std.proofs.lemmas.List.Sums.{fold-append}
use Rattle.std.specs.Char.{is_ascii_digit}
use Rattle.std.specs.Fmt.{digits, digits_onto, digit_glyph, signed_decimal}
use Rattle.std.specs.List.{list_all}
use Rattle.crdt_core.specs.declared.value.Value.{Int, the_lemmas}
use Rattle.reply_text.specs.Values.{value_text}
use Rattle.script_text.specs.Numbers.{with_digit, value_of, digits_of, numeral, ranged, minus, integer}
use Rattle.script_text.specs.Split.{is_some_bytes}
use Rattle.read_back.proofs.Cutting.{IsUncut, is_plain, each_plain, plain_uncut, uncut_both, one_word}
use Rattle.read_back.specs.ReadBack.{IsOneWord, ReadsBack, IsAmount}

-- ---- the digits

digit : (n : ℕ) → n < 10 → is_ascii_digit (48 + n) ≡ true
digit n h = grind (arith, nat_tests)

last_digit : (n : ℕ) → is_ascii_digit (digit_glyph false (n % 10)) ≡ true
last_digit n = ap (λ b. is_ascii_digit (if b then 48 + n % 10 else 87 + n % 10)) (lt-ltb (n % 10) 10 (omega arith)) ∙ digit (n % 10) (omega arith)

digits_before : (k n : ℕ) (after : List ℕ) → list_all is_ascii_digit after ≡ true → list_all is_ascii_digit (digits_onto k 10 false n after) ≡ true
digits_before zero n after h = h
digits_before (suc k) n after h =
    let all : List ℕ = digit_glyph false (n % 10) ∷ after in
    let are : list_all is_ascii_digit all ≡ true = λ i. last_digit n i && h i in
    elim (n / 10 == 0) as (λ b. list_all is_ascii_digit (if b then all else digits_onto k 10 false (n / 10) all) ≡ true) [ true ↦ are | false ↦ digits_before k (n / 10) all are ]

pub all_digits : (n : ℕ) → list_all is_ascii_digit (decimal n) ≡ true
unfolding digits
all_digits n = digits_before 64 n [] refl

some_before : (k n c : ℕ) (after : List ℕ) → is_some_bytes (digits_onto k 10 false n (c ∷ after)) ≡ true
some_before zero n c after = refl
some_before (suc k) n c after =
    let d : ℕ = digit_glyph false (n % 10) in
    elim (n / 10 == 0) as (λ b. is_some_bytes (if b then d ∷ c ∷ after else digits_onto k 10 false (n / 10) (d ∷ c ∷ after)) ≡ true)
    [ true ↦ refl | false ↦ some_before k (n / 10) d (c ∷ after) ]

pub decimal_some : (n : ℕ) → is_some_bytes (decimal n) ≡ true
unfolding digits
decimal_some n =
    let d : ℕ = digit_glyph false (n % 10) in
    elim (n / 10 == 0) as (λ b. is_some_bytes (if b then d ∷ [] else digits_onto 63 10 false (n / 10) (d ∷ [])) ≡ true) [ true ↦ refl | false ↦ some_before 63 (n / 10) d [] ]

digit_is_plain : (c : ℕ) → is_ascii_digit c ≡ true → is_plain c ≡ true
digit_is_plain c h = grind (arith, nat_tests)

pub decimal_uncut : (n : ℕ) → IsUncut (decimal n)
decimal_uncut n = plain_uncut (decimal n) (each_plain is_ascii_digit digit_is_plain (decimal n) (all_digits n))

pub decimal_is_one_word : (n : ℕ) → IsOneWord (decimal n)
decimal_is_one_word n = one_word (decimal n) (decimal_uncut n) (decimal_some n)

-- ---- the number

value-more : (n : ℕ) (ds : List ℕ) → value_of ds ≡ n / 10 → value_of (ds ++ (48 + n % 10) ∷ []) ≡ n
value-more n ds h =
    let whole : value_of ds * 10 + (48 + n % 10 - 48) ≡ n = omega (arith, h) in
    fold-append with_digit 0 ds ((48 + n % 10) ∷ []) ∙ whole

value-decimal : (n : ℕ) → n < 2 ^ 64 → value_of (decimal n) ≡ n
value-decimal n small = decimal_by_steps (λ m ds. value_of ds ≡ m) (λ m l. omega arith) (λ m ds l h. value-more m ds h) n small

digits_of-decimal : (top n : ℕ) → n ≤ top → n < 2 ^ 64 → digits_of top (decimal n) ≡ Some n
digits_of-decimal top n h small =
    let v = value-decimal n small in
    (λ i. if all_digits n i && nat_le (v i) top then Some (v i) else None) ∙ ap (λ b. if b then Some n else None) (le-leb n top h)

no_zero : (top : ℕ) (ds : List ℕ) → 48 < get_or ds 0 0 → numeral top ds ≡ digits_of top ds
no_zero top [] h = absurd (omega arith)
no_zero top (c ∷ []) h = refl
no_zero top (c ∷ d ∷ w) h = ap (λ b. if b then None else digits_of top (c ∷ d ∷ w)) (ne_eqb c 48 (λ e. omega arith))

pub numeral-decimal : (top n : ℕ) → n ≤ top → n < 2 ^ 64 → numeral top (decimal n) ≡ Some n
numeral-decimal top n h small = elim (cases_lt 0 n) [
  | inl some ↦ no_zero top (decimal n) (first_decimal n some small) ∙ digits_of-decimal top n h small
  | inr none ↦
      let zero : n ≡ 0 = omega arith in
      let one : decimal n ≡ 48 ∷ [] = ap decimal zero ∙ decimal_digit 0 (omega arith) in
      ap (numeral top) one ∙ ap (digits_of top) (sym one) ∙ digits_of-decimal top n h small
]

pub ranged-decimal : (lo hi n : ℕ) → lo ≤ n → n ≤ hi → n < 2 ^ 64 → ranged lo hi (decimal n) ≡ Some n
ranged-decimal lo hi n low high small =
    ap (option_and_then (λ m. if nat_le lo m then Some m else None)) (numeral-decimal hi n high small) ∙ ap (λ b. if b then Some n else None) (le-leb lo n low)

pub reads_back_numeral : (top n : ℕ) → n ≤ top → n < 2 ^ 64 → ReadsBack (numeral top) (decimal n) n
reads_back_numeral top n h small = record { one_word = decimal_is_one_word n; same = numeral-decimal top n h small }

pub reads_back_ranged : (lo hi n : ℕ) → lo ≤ n → n ≤ hi → n < 2 ^ 64 → ReadsBack (ranged lo hi) (decimal n) n
reads_back_ranged lo hi n low high small = record { one_word = decimal_is_one_word n; same = ranged-decimal lo hi n low high small }

-- ---- with a sign

not_minus : (c : ℕ) → is_ascii_digit c ≡ true → (c == 45) ≡ false
not_minus c h = grind (arith, nat_tests)

unsigned : (w : List ℕ) → is_some_bytes w ≡ true → list_all is_ascii_digit w ≡ true → integer w ≡ option_map pos (numeral (2 ^ 31 - 1) w)
unsigned [] some h = absurd (true≢false (sym some))
unsigned (c ∷ w) some h = ap (λ b. if b then option_map minus (ranged 1 (2 ^ 31) w) else option_map pos (numeral (2 ^ 31 - 1) (c ∷ w))) (not_minus c (and_parts _ _ h).0)

integer-decimal : (z : ℤ) → IsAmount z → integer (signed_decimal z) ≡ Some z
integer-decimal (pos n) h = unsigned (decimal n) (decimal_some n) (all_digits n) ∙ ap (option_map pos) (numeral-decimal (2 ^ 31 - 1) n (omega (arith, h)) (omega (arith, h)))
integer-decimal (negsuc n) h =
    ap (option_map minus) (ranged-decimal 1 (2 ^ 31) (suc n) (omega arith) (omega (arith, h)) (omega (arith, h))) ∙ ap (λ m. Some (negsuc m)) (omega arith)

pub signed_uncut : (z : ℤ) → IsUncut (signed_decimal z)
signed_uncut (pos n) = decimal_uncut n
signed_uncut (negsuc n) = uncut_both (45 ∷ []) (decimal (suc n)) (plain_uncut (45 ∷ []) refl) (decimal_uncut (suc n))

pub signed_some : (z : ℤ) → is_some_bytes (signed_decimal z) ≡ true
signed_some (pos n) = decimal_some n
signed_some (negsuc n) = refl

value_text-Int : (z : ℤ) → value_text (Int z) ≡ signed_decimal z
value_text-Int z = search (rules, the_lemmas)

pub reads_back_counter : (z : ℤ) → IsAmount z → ReadsBack integer (value_text (Int z)) z
reads_back_counter z h =
    subst (λ w. ReadsBack integer w z) (sym (value_text-Int z)) record { one_word = one_word (signed_decimal z) (signed_uncut z) (signed_some z); same = integer-decimal z h }
