-- A text as it is printed is read as the same text.
use Rattle.std.proofs.Common.{◌≡◌, ℕ, ◌-◌, ◌≤◌, Bool, true, false, ◌&&◌, ◌==◌, not, nat_le, if◌then◌else◌, List, [], ◌∷◌, length, slice_index, Some, None, option_and_then, refl, sym, ap, ◌∙◌, subst, arith, rules, append-nil, length-append, le-leb, eq-eqb, IsUtf8}
use Rattle.std.proofs.Math.Seq.{get_or-append_seam}
use Rattle.std.proofs.lemmas.Bool.{and_parts}
use Rattle.std.proofs.lemmas.Str.{utf8_valid_len-IsUtf8, IsUtf8-from_is_utf8}
use Rattle.std.specs.Str.{is_utf8}
use Rattle.json.proofs.Printed.Tokens.{tokens-print}
use Rattle.json.proofs.Printed.Utf8.{IsUtf8-quoted}
use Rattle.json.specs.Json.{if_last, value}
use Rattle.json.specs.Lex.{tokens}
use Rattle.json.specs.Print.{escape, quoted, print_from, ArePrintable}
use Rattle.json.specs.Token as token
use Rattle.serde_json.specs.Data.{string}
use Rattle.serde_json.specs.Find.{as_str}
use Rattle.serde_json.specs.Read.{read, of_json, max_depth}
use Rattle.crdt_core.specs.declared.value.Value.{Word, the_lemmas}
use Rattle.field_codec.specs.Spelling.{is_text}
use Rattle.script_words.specs.Bare.{is_bare}
use Rattle.script_text.specs.Texts.{text, is_quoted, string_of, at_most_256}
use Rattle.reply_text.specs.Places.{word_text}
use Rattle.reply_text.specs.Values.{value_text}
use Rattle.read_back.proofs.Cutting.{one_word, quoted_uncut}
use Rattle.read_back.specs.ReadBack.{ReadsBack}

-- its tokens are one string
tokens-quoted : (t : List ℕ) → tokens (quoted t) ≡ token.string t ∷ []
unfolding ArePrintable print_from
tokens-quoted t = ap tokens (sym (append-nil (quoted t))) ∙ tokens-print (token.string t ∷ []) (tt, tt)

read-quoted : (t : List ℕ) → read (quoted t) ≡ Some (string t)
unfolding value
read-quoted t = ap (λ ts. option_and_then of_json (option_and_then (λ p. if_last p.0 p.1) (value max_depth ts))) (tokens-quoted t)

string_of-quoted : (t : List ℕ) → IsUtf8 t → string_of (quoted t) ≡ Some t
string_of-quoted t h =
    ap (λ b. if b then option_and_then as_str (read (quoted t)) else None) (eq-eqb _ _ (utf8_valid_len-IsUtf8 (quoted t) (IsUtf8-quoted t h))) ∙ ap (option_and_then as_str) (read-quoted t)

last_byte : (t : List ℕ) → slice_index (quoted t) (length (quoted t) - 1) ≡ 34
last_byte t =
    let k : length (quoted t) - 1 ≡ length (34 ∷ escape t) = omega (arith, length-append (escape t) (34 ∷ [])) in
    ap (slice_index (quoted t)) k ∙ get_or-append_seam (34 ∷ escape t) 34 [] 0

is_quoted-quoted : (t : List ℕ) → is_quoted (quoted t) ≡ true
is_quoted-quoted t = let long : 2 ≤ length (quoted t) = omega (arith, length-append (escape t) (34 ∷ [])) in rw (le-leb 2 (length (quoted t)) long, last_byte t)

never : (b : Bool) → b && false ≡ false
never true = refl
never false = refl

-- a quote is no byte of a bare word
not_bare : (t : List ℕ) → is_bare (quoted t) ≡ false
not_bare t = never (not (length (quoted t) == 0))

short : (t : List ℕ) → nat_le (length t) 256 ≡ true → at_most_256 t ≡ Some t
short t h = ap (λ b. if b then Some t else None) h

text-quoted : (t : List ℕ) → is_text t ≡ true → text (quoted t) ≡ Some t
text-quoted t h =
    let p = and_parts (nat_le (length t) 256) (is_utf8 t) h in
    ap (λ b. if b then at_most_256 (quoted t) else (if is_quoted (quoted t) then option_and_then at_most_256 (string_of (quoted t)) else None)) (not_bare t)
    ∙ ap (λ b. if b then option_and_then at_most_256 (string_of (quoted t)) else None) (is_quoted-quoted t) ∙ ap (option_and_then at_most_256) (string_of-quoted t (IsUtf8-from_is_utf8 t p.1))
    ∙ short t p.0

text-bare : (t : List ℕ) → is_text t ≡ true → is_bare t ≡ true → text t ≡ Some t
text-bare t h bare =
    ap (λ b. if b then at_most_256 t else (if is_quoted t then option_and_then at_most_256 (string_of t) else None)) bare ∙ short t (and_parts (nat_le (length t) 256) (is_utf8 t) h).0

pub text-word_text : (t : List ℕ) → is_text t ≡ true → text (word_text t) ≡ Some t
text-word_text t h = elim (is_bare t) as (λ b. is_bare t ≡ b → text (if b then t else quoted t) ≡ Some t) [ true ↦ λ bare. text-bare t h bare | false ↦ λ other. text-quoted t h ] refl

value_text-Word : (t : List ℕ) → value_text (Word t) ≡ quoted t
value_text-Word t = search (rules, the_lemmas)

pub reads_back_register : (t : List ℕ) → is_text t ≡ true → ReadsBack text (value_text (Word t)) t
reads_back_register t h = subst (λ w. ReadsBack text w t) (sym (value_text-Word t)) record { one_word = one_word (quoted t) (quoted_uncut t) refl; same = text-quoted t h }
