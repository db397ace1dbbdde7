-- What stands in a JSON string for a byte, and an object in the parts that the code adds.
use Rattle.std.proofs.Common.{◌≡◌, ◌≢◌, ℕ, ◌<◌, ◌≤◌, ◌/◌, ◌%◌, true, false, cond, ◌||◌, nat_lt, List, [], ◌∷◌, ◌++◌, codes, decimal, sym, ap, ◌∙◌, append_assoc}
use Rattle.std.proofs.lemmas.Bool.{ne_eqb, lt-ltb, le-ltb}
use Rattle.std.specs.Char.{digit_char}
use Rattle.json.specs.Print.{escape_letter, escape_byte, quoted}
use Rattle.world_model.specs.declared.step.Step.{Step}
use Rattle.reply_text.specs.Json.{reply_of, shown_of, json_of}

no_letter : (x : ℕ) → x ≢ 34 → x ≢ 92 → x ≢ 8 → x ≢ 9 → x ≢ 10 → x ≢ 12 → x ≢ 13 → escape_letter x ≡ 0
no_letter x a b c d e f g = λ i.
    cond (ne_eqb x 34 a i || ne_eqb x 92 b i) x
    (cond (ne_eqb x 8 c i) 98 (cond (ne_eqb x 12 f i) 102 (cond (ne_eqb x 10 e i) 110 (cond (ne_eqb x 13 g i) 114 (cond (ne_eqb x 9 d i) 116 0)))))

-- a byte below 32 that has no letter stands by its number
pub numbered : (x : ℕ) → x ≢ 34 → x ≢ 92 → x ≢ 8 → x ≢ 9 → x ≢ 10 → x ≢ 12 → x ≢ 13 → x < 32 → 92 ∷ 117 ∷ 48 ∷ 48 ∷ digit_char (x / 16) ∷ digit_char (x % 16) ∷ [] ≡ escape_byte x
unfolding escape_byte
numbered x a b c d e f g h =
    let none = no_letter x a b c d e f g in
    sym (λ i. cond (nat_lt 0 (none i)) (92 ∷ none i ∷ []) (cond (lt-ltb x 32 h i) (92 ∷ 117 ∷ 48 ∷ 48 ∷ digit_char (x / 16) ∷ digit_char (x % 16) ∷ []) (x ∷ [])))

-- and one above stands as it is
pub itself : (x : ℕ) → x ≢ 34 → x ≢ 92 → x ≢ 8 → x ≢ 9 → x ≢ 10 → x ≢ 12 → x ≢ 13 → 32 ≤ x → x ∷ [] ≡ escape_byte x
unfolding escape_byte
itself x a b c d e f g h =
    let none = no_letter x a b c d e f g in
    sym (λ i. cond (nat_lt 0 (none i)) (92 ∷ none i ∷ []) (cond (le-ltb x 32 h i) (92 ∷ 117 ∷ 48 ∷ 48 ∷ digit_char (x / 16) ∷ digit_char (x % 16) ∷ []) (x ∷ [])))

joined : (old line n reply q s close feed : List ℕ) → ((((old ++ (line ++ n)) ++ reply) ++ q) ++ s) ++ (close ++ feed) ≡ old ++ (line ++ n ++ reply ++ q ++ s ++ close ++ feed)
joined old line n reply q s close feed = simp append_assoc

pub json_is : (number : ℕ) (st : Step) (old a b c d new r : List ℕ) → r ≡ reply_of st
    → a ≡ old ++ (codes "{\"line\":" ++ decimal number) → b ≡ a ++ codes ",\"reply\":" → c ≡ b ++ quoted r → d ≡ c ++ shown_of st → new ≡ d ++ codes "}\n"
    → new ≡ old ++ json_of number st
json_is number st old a b c d new r is is_a is_b is_c is_d is_new =
    is_new ∙ ap (λ s. s ++ codes "}\n") (is_d ∙ ap (λ s. s ++ shown_of st) (is_c ∙ (λ i. is_b i ++ quoted (is i)) ∙ ap (λ s. (s ++ codes ",\"reply\":") ++ quoted (reply_of st)) is_a))
    ∙ joined old (codes "{\"line\":") (decimal number) (codes ",\"reply\":") (quoted (reply_of st)) (shown_of st) (codes "}") (10 ∷ [])
