-- A text in quotes in which each byte stands for itself.
use Rattle.std.proofs.Common.{◌≡◌, ℕ, suc, ◌+◌, ◌-◌, true, true≢false, ◌&&◌, ◌==◌, nat_le, if◌then◌else◌, List, [], ◌∷◌, ◌++◌, length, take, get_or, slice_index, Some, None, sym, ap, ◌∙◌, arith, append-nil, eq-eqb, IsUtf8}
use Rattle.std.specs.Prelude.{option_and_then, slice_range}
use Rattle.std.proofs.lemmas.Bool.{and_parts, eqb-true}
use Rattle.std.proofs.lemmas.List.{take_all, take_more}
use Rattle.std.proofs.lemmas.Str.{utf8_valid_len-IsUtf8}
use Rattle.json.proofs.Printed.Tokens.{tokens-print}
use Rattle.json.proofs.Printed.Utf8.{IsUtf8-quoted}
use Rattle.json.specs.Json.{if_last, value}
use Rattle.json.specs.Lex.{tokens}
use Rattle.json.specs.Print.{quoted, print_from, ArePrintable}
use Rattle.json.specs.Token as token
use Rattle.serde_json.specs.Data.{string}
use Rattle.serde_json.specs.Find.{as_str}
use Rattle.serde_json.specs.Read.{read, of_json, max_depth}
use Rattle.script_words.specs.Plain.{is_plain, quoted_plain}
use Rattle.script_text.specs.Texts.{is_quoted, string_of}

-- the first byte and the last
pub quotes : (w : List ℕ) → is_quoted w ≡ true → (slice_index w 0 ≡ 34) × (slice_index w (length w - 1) ≡ 34)
quotes w h =
    let p = and_parts (nat_le 2 (length w)) (slice_index w 0 == 34 && slice_index w (length w - 1) == 34) h in
    let q = and_parts (slice_index w 0 == 34) (slice_index w (length w - 1) == 34) p.1 in
    (eqb-true (slice_index w 0) 34 q.0, eqb-true (slice_index w (length w - 1)) 34 q.1)

-- what stands between the quotes
pub between : (w t : List ℕ) → is_quoted w ≡ true → t ≡ slice_range w 1 (length w - 1) → w ≡ 34 ∷ (t ++ 34 ∷ [])
between [] t h is = absurd (true≢false (sym h))
between (c ∷ []) t h is = absurd (true≢false (sym h))
between (c ∷ d ∷ ds) t h is =
    let q = quotes (c ∷ d ∷ ds) h in
    let first : c ≡ 34 = q.0 in
    let at : length (c ∷ d ∷ ds) - 1 ≡ suc (length ds) = omega arith in
    let less : length (c ∷ d ∷ ds) - 1 - 1 ≡ length ds = omega arith in
    let last : get_or (d ∷ ds) (length ds) 0 ≡ 34 = sym (ap (λ k. slice_index (c ∷ d ∷ ds) k) at) ∙ q.1 in
    let text : t ≡ take (length ds) (d ∷ ds) = is ∙ ap (λ k. take k (d ∷ ds)) less in
    let whole : d ∷ ds ≡ take (length ds) (d ∷ ds) ++ get_or (d ∷ ds) (length ds) 0 ∷ [] = sym (take_all (length ds + 1) (d ∷ ds) (omega arith)) ∙ take_more (d ∷ ds) (length ds) 0 (omega arith) in
    (λ i. first i ∷ whole i) ∙ (λ i. 34 ∷ (sym text i ++ last i ∷ []))

tokens-quoted : (t : List ℕ) → tokens (quoted t) ≡ token.string t ∷ []
unfolding ArePrintable print_from
tokens-quoted t = ap tokens (sym (append-nil (quoted t))) ∙ tokens-print (token.string t ∷ []) (tt, tt)

read-quoted : (t : List ℕ) → read (quoted t) ≡ Some (string t)
unfolding value
read-quoted t = ap (λ ts. option_and_then of_json (option_and_then (λ p. if_last p.0 p.1) (value max_depth ts))) (tokens-quoted t)

pub string_of-quoted : (t : List ℕ) → IsUtf8 t → string_of (quoted t) ≡ Some t
string_of-quoted t h =
    ap (λ b. if b then option_and_then as_str (read (quoted t)) else None) (eq-eqb _ _ (utf8_valid_len-IsUtf8 (quoted t) (IsUtf8-quoted t h))) ∙ ap (option_and_then as_str) (read-quoted t)

pub string_plain : (w t : List ℕ) → w ≡ 34 ∷ (t ++ 34 ∷ []) → is_plain t ≡ true → IsUtf8 t → string_of w ≡ Some t
string_plain w t is plain h = ap string_of (is ∙ sym (quoted_plain t plain)) ∙ string_of-quoted t h
