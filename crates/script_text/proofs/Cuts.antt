-- Where a line may be cut: where it begins or ends, and at either side of a byte of ASCII.
use Rattle.std.proofs.Common.{◌≡◌, ℕ, suc, ◌+◌, ◌-◌, ◌==◌, ◌<◌, ◌≤◌, true, true≢false, false, Some, if◌then◌else◌, List, [], ◌∷◌, length, get_or, refl, sym, subst, arith, IsUtf8}
use Rattle.std.specs.Str.{IsCharBoundary}
use Rattle.std.proofs.lemmas.Bool.{eqb-true}
use Rattle.std.proofs.lemmas.Str.{IsUtf8-drop, IsCharBoundary-start, IsCharBoundary-before_ascii, IsCharBoundary-after_ascii, lead_after_ascii}
use Rattle.script_text.specs.Front.{word_end, spaces}
use Rattle.std.specs.List.{position}
use Rattle.std.proofs.lemmas.List.Quantifiers.{position-Some}
use Rattle.script_text.specs.Texts.{is_quoted}
use Rattle.script_text.proofs.Quoted.{quotes}
use Rattle.script_text.specs.Split.{Where, outside, within, after_backslash, after, space}

one_on : (c : ℕ) (cs : List ℕ) (n : ℕ) → IsCharBoundary cs n → IsCharBoundary (c ∷ cs) (suc n)
one_on c cs n h = (omega (arith, h.0), λ less high. h.1 (omega arith) high)

-- the spaces at the front end where the line does, or a character begins
pub end_of_spaces : (bytes : List ℕ) → IsUtf8 bytes → IsCharBoundary bytes (spaces bytes)
end_of_spaces [] h = IsCharBoundary-start [] h
end_of_spaces (c ∷ cs) h =
    elim (c == space) as (λ b. (c == space) ≡ b → IsCharBoundary (c ∷ cs) (if b then suc (spaces cs) else 0))
    [ true ↦ λ e. one_on c cs _ (end_of_spaces cs (IsUtf8-drop (c ∷ cs) 1 h (IsCharBoundary-after_ascii (c ∷ cs) 0 h (omega arith) (omega (arith, eqb-true c 32 e))))) | false ↦ λ e. IsCharBoundary-start (c ∷ cs) h ] refl

-- a word ends where the line does, or before a space
end_of_word : (at : Where) (bytes : List ℕ) → IsCharBoundary bytes (word_end at bytes)
end_of_word at [] = (omega arith, λ less. absurd (omega arith))
end_of_word outside (c ∷ cs) =
    elim (c == space) as (λ b. (c == space) ≡ b → IsCharBoundary (c ∷ cs) (if b then 0 else suc (word_end (after outside c) cs)))
    [ true ↦ λ e. IsCharBoundary-before_ascii (c ∷ cs) 0 (omega arith) (omega (arith, eqb-true c 32 e)) | false ↦ λ e. one_on c cs _ (end_of_word (after outside c) cs) ] refl
end_of_word within (c ∷ cs) = one_on c cs _ (end_of_word (after within c) cs)
end_of_word after_backslash (c ∷ cs) = one_on c cs _ (end_of_word within cs)

pub at_end_of_word : (bytes : List ℕ) (n : ℕ) → n ≡ word_end outside bytes → IsCharBoundary bytes n
at_end_of_word bytes n is = subst (IsCharBoundary bytes) (sym is) (end_of_word outside bytes)

-- at either side of a byte that was looked for
pub before_found : (w : List ℕ) (i b : ℕ) → b < 128 → Some i ≡ position (λ c. c == b) w → IsCharBoundary w i
before_found w i b ascii found =
    let at = position-Some (λ c. c == b) w i 0 (sym found) in
    IsCharBoundary-before_ascii w i at.0 (omega (arith, eqb-true (get_or w i 0) b at.1))

pub after_found : (w : List ℕ) (i b : ℕ) → IsUtf8 w → b < 128 → Some i ≡ position (λ c. c == b) w → IsCharBoundary w (i + 1)
after_found w i b h ascii found =
    let at = position-Some (λ c. c == b) w i 0 (sym found) in
    IsCharBoundary-after_ascii w i h at.0 (omega (arith, eqb-true (get_or w i 0) b at.1))

some_byte : (w : List ℕ) → is_quoted w ≡ true → 0 < length w
some_byte [] quoted = absurd (true≢false (sym quoted))
some_byte (c ∷ cs) quoted = omega arith

-- inside of quotes
pub after_quote : (w : List ℕ) → IsUtf8 w → is_quoted w ≡ true → IsCharBoundary w 1
after_quote w h quoted = IsCharBoundary-after_ascii w 0 h (some_byte w quoted) (omega (arith, (quotes w quoted).0))

pub before_quote : (w : List ℕ) → is_quoted w ≡ true → IsCharBoundary w (length w - 1)
before_quote w quoted = IsCharBoundary-before_ascii w (length w - 1) (omega (arith, some_byte w quoted)) (omega (arith, (quotes w quoted).1))

-- behind the first byte, the third or the seventh
pub after_first : (w : List ℕ) → IsUtf8 w → get_or w 0 0 < 128 → 1 < length w → 128 ≤ get_or w 1 0 → 192 ≤ get_or w 1 0
after_first w h ascii more high = lead_after_ascii w 0 h ascii more high

pub after_third : (w : List ℕ) → IsUtf8 w → get_or w 2 0 < 128 → 3 < length w → 128 ≤ get_or w 3 0 → 192 ≤ get_or w 3 0
after_third w h ascii more high = lead_after_ascii w 2 h ascii more high

pub after_seventh : (w : List ℕ) → IsUtf8 w → get_or w 6 0 < 128 → 7 < length w → 128 ≤ get_or w 7 0 → 192 ≤ get_or w 7 0
after_seventh w h ascii more high = lead_after_ascii w 6 h ascii more high
