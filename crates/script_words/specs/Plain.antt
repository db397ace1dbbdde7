-- Which texts JSON writes between quotes as they are.
use Rattle.std.specs.Prelude.{◌≡◌, ℕ, Bool, true, ◌||◌, ◌==◌, nat_lt, not, List, [], ◌∷◌, ◌++◌}
use Rattle.std.specs.List.{list_all}
use Rattle.std.proofs.Common.{refl, ap}
use Rattle.std.proofs.lemmas.Bool.{and_parts, or_parts, not-true, eqb-false, ltb-false}
use Rattle.json.proofs.Printed.Strings.{escape_byte_plain}
use Rattle.json.specs.Print.{escape, escape_byte, quoted}

-- no quote, no backslash and no control character
abbrev pub is_plain_byte : ℕ → Bool
is_plain_byte c = not (c == 34 || (c == 92 || nat_lt c 32))

abbrev pub is_plain : List ℕ → Bool
is_plain w = list_all is_plain_byte w

same_byte : (c : ℕ) → is_plain_byte c ≡ true → escape_byte c ≡ c ∷ []
same_byte c h =
    let none = or_parts (c == 34) (c == 92 || nat_lt c 32) (not-true (c == 34 || (c == 92 || nat_lt c 32)) h) in
    let others = or_parts (c == 92) (nat_lt c 32) none.1 in
    escape_byte_plain c (eqb-false c 34 none.0) (eqb-false c 92 others.0) (ltb-false c 32 others.1)

same_text : (t : List ℕ) → is_plain t ≡ true → escape t ≡ t
same_text [] h = refl
same_text (c ∷ cs) h = let p = and_parts (is_plain_byte c) (is_plain cs) h in λ i. same_byte c p.0 i ++ same_text cs p.1 i

-- such a text stands between quotes as it is
pub quoted_plain : (t : List ℕ) → is_plain t ≡ true → quoted t ≡ 34 ∷ (t ++ 34 ∷ [])
quoted_plain t h = ap (λ s. 34 ∷ (s ++ 34 ∷ [])) (same_text t h)
