-- What the bytes at the front of a line say of its first word.
use Rattle.std.proofs.Common.{◌≡◌, ℕ, zero, suc, ◌&&◌, ◌==◌, Bool, true, false, if◌then◌else◌, List, [], ◌∷◌, take, drop, Option, Some, None, refl, sym, ap, subst, ◌∙◌, arith}
use Rattle.std.specs.Prelude.{codes, option_map, option_and_then}
use Rattle.std.specs.Str.{bytes_eq}
use Rattle.std.proofs.lemmas.Bool.{eqb-true}
use Rattle.std.proofs.lemmas.Option.{none-some}
use Rattle.script_text.specs.Front.{word_end, spaces, IsTrimmed, words_front, words-space, after_in, after_at, after_space, after_update}
use Rattle.script_text.specs.Grammar.{update}
use Rattle.script_text.specs.Line.{command_as, line_as}
use Rattle.script_text.specs.Objects.{path, bucket, field}
use Rattle.script_text.specs.Split.{outside, after, words, space}
use Rattle.script_text.specs.Texts.{text}

-- the first word of a line that begins with this byte
first : (c : ℕ) (cs : List ℕ) → (c == space) ≡ false → words (c ∷ cs) ≡ (c ∷ take (word_end (after outside c) cs) cs) ∷ words (drop (word_end (after outside c) cs) cs)
first c cs trimmed =
    let k : ℕ = word_end (after outside c) cs in
    words_front (c ∷ cs) (c ∷ take k cs) (drop k cs) (suc k) trimmed (omega arith) (sym (ap (λ b. if b then 0 else suc k) trimmed)) refl refl

-- the line leads into no field
abbrev Stays : List (List ℕ) → Type 0
Stays ws = path ws ≡ Some ([], ws)

other_word : (w : List ℕ) (ws : List (List ℕ)) → bytes_eq w (codes "in") ≡ false → Stays (w ∷ ws)
other_word w [] h = refl
other_word w (n ∷ []) h = refl
other_word w (n ∷ k ∷ ws) h = ap (λ b. if b then option_and_then (λ f. option_map (λ p. (f ∷ p.0, p.1)) (path ws)) (field n k) else Some ([], w ∷ n ∷ k ∷ ws)) h

other_first : (c : ℕ) (cs : List ℕ) → (c == space) ≡ false → bytes_eq (c ∷ take (word_end (after outside c) cs) cs) (codes "in") ≡ false → Stays (words (c ∷ cs))
other_first c cs trimmed h = subst Stays (sym (first c cs trimmed)) (other_word _ _ h)

other_second : (k d : ℕ) (ds : List ℕ) → (d == 110) ≡ false → bytes_eq (take k (d ∷ ds)) (110 ∷ []) ≡ false
other_second zero d ds h = refl
other_second (suc k) d ds h = ap (λ b. b && bytes_eq (take k ds) []) h

-- `in` stands at the front, and no space after it
no_end : (cs : List ℕ) → after_in (105 ∷ 110 ∷ cs) ≡ None → Stays (words (105 ∷ 110 ∷ cs))
no_end [] h = refl
no_end (c ∷ cs) h =
    elim (c == space) as (λ b. (c == space) ≡ b → (if b then Some cs else None) ≡ None → Stays (words (105 ∷ 110 ∷ c ∷ cs)))
    [ true ↦ λ e n. absurd (none-some cs (sym n)) | false ↦ λ e n. other_first 105 (110 ∷ c ∷ cs) refl (ap (λ b. bytes_eq (take (if b then 0 else suc (word_end (after outside c) cs)) (c ∷ cs)) []) e) ] refl h

no_second : (cs : List ℕ) → after_in (105 ∷ cs) ≡ None → Stays (words (105 ∷ cs))
no_second [] h = refl
no_second (d ∷ ds) h =
    elim (d == 110) as (λ b. (d == 110) ≡ b → Stays (words (105 ∷ d ∷ ds)))
    [ true ↦ λ e. subst (λ x. after_in (105 ∷ x ∷ ds) ≡ None → Stays (words (105 ∷ x ∷ ds))) (sym (eqb-true d 110 e)) (no_end ds) h | false ↦ λ e. other_first 105 (d ∷ ds) refl (other_second _ d ds e) ] refl

no_first : (bytes : List ℕ) → IsTrimmed bytes → after_in bytes ≡ None → Stays (words bytes)
no_first [] trimmed h = refl
no_first (c ∷ cs) trimmed h =
    elim (c == 105) as (λ b. (c == 105) ≡ b → Stays (words (c ∷ cs)))
    [ true ↦ λ e. subst (λ x. after_in (x ∷ cs) ≡ None → Stays (words (x ∷ cs))) (sym (eqb-true c 105 e)) (no_second cs) h | false ↦ λ e. other_first c cs trimmed (ap (λ b. b && bytes_eq (take (word_end (after outside c) cs) cs) (110 ∷ [])) e) ] refl

pub not_in : (line bytes : List ℕ) → words bytes ≡ words line → IsTrimmed bytes → after_in bytes ≡ None → path (words line) ≡ Some ([], words line)
not_in line bytes same trimmed h = subst Stays same (no_first bytes trimmed h)

some_if : (b : Bool) (x : Option (List ℕ)) (r : List ℕ) → (if b then x else None) ≡ Some r → (b ≡ true) × (x ≡ Some r)
some_if true x r h = (refl, h)
some_if false x r h = absurd (none-some r h)

abbrev held : Option (List ℕ) → List ℕ
held None = []
held (Some x) = x

in_first : (bytes r : List ℕ) → after_in bytes ≡ Some r → words bytes ≡ codes "in" ∷ words r
in_first [] r h = absurd (none-some r h)
in_first (a ∷ []) r h = absurd (none-some r h)
in_first (a ∷ b ∷ []) r h = absurd (none-some r h)
in_first (a ∷ b ∷ c ∷ cs) r h =
    let p = some_if (a == 105) (if b == 110 then (if c == space then Some cs else None) else None) r h in
    let q = some_if (b == 110) (if c == space then Some cs else None) r p.1 in
    let s = some_if (c == space) (Some cs) r q.1 in
    λ i. words (eqb-true a 105 p.0 i ∷ eqb-true b 110 q.0 i ∷ eqb-true c 32 s.0 i ∷ ap held s.1 i)

pub in_front : (line bytes r : List ℕ) → words bytes ≡ words line → after_in bytes ≡ Some r → words line ≡ codes "in" ∷ words r
in_front line bytes r same h = sym same ∙ in_first bytes r h

-- a line that begins so is an update
pub updates : (bytes r : List ℕ) → after_update bytes ≡ Some r → line_as (words bytes) ≡ command_as (update (words r))
updates [] r h = absurd (none-some r h)
updates (a ∷ []) r h = absurd (none-some r h)
updates (a ∷ b ∷ []) r h = absurd (none-some r h)
updates (a ∷ b ∷ c ∷ []) r h = absurd (none-some r h)
updates (a ∷ b ∷ c ∷ d ∷ []) r h = absurd (none-some r h)
updates (a ∷ b ∷ c ∷ d ∷ e ∷ []) r h = absurd (none-some r h)
updates (a ∷ b ∷ c ∷ d ∷ e ∷ f ∷ []) r h = absurd (none-some r h)
updates (a ∷ b ∷ c ∷ d ∷ e ∷ f ∷ g ∷ cs) r h =
    let p = some_if (a == 117) _ r h in
    let q = some_if (b == 112) _ r p.1 in
    let s = some_if (c == 100) _ r q.1 in
    let t = some_if (d == 97) _ r s.1 in
    let u = some_if (e == 116) _ r t.1 in
    let v = some_if (f == 101) _ r u.1 in
    let w = some_if (g == space) (Some cs) r v.1 in
    λ i. line_as (words (eqb-true a 117 p.0 i ∷ eqb-true b 112 q.0 i ∷ eqb-true c 100 s.0 i ∷ eqb-true d 97 t.0 i ∷ eqb-true e 116 u.0 i ∷ eqb-true f 101 v.0 i ∷ eqb-true g 32 w.0 i ∷ ap held w.1 i))

at_first : (bytes r : List ℕ) → after_at bytes ≡ Some r → bytes ≡ 64 ∷ r
at_first [] r h = absurd (none-some r h)
at_first (c ∷ cs) r h =
    let p = some_if (c == 64) (Some cs) r h in
    λ i. eqb-true c 64 p.0 i ∷ ap held p.1 i

-- the bucket of this name, and the words after it
abbrev found : List (List ℕ) → Option (List ℕ) → Option (List ℕ × List (List ℕ))
found ws x = option_map (λ t. (t, ws)) x

-- the bucket is named by the bytes up to the end of the word
pub at_front : (line bytes r name rest : List ℕ) (n : ℕ) → words bytes ≡ words line → after_at bytes ≡ Some r → n ≡ word_end outside r → name ≡ take n r → rest ≡ drop n r → bucket (words line) ≡ option_map (λ t. (t, words rest)) (text name)
at_front line bytes r name rest n same h is_n is_name is_rest =
    let whole : words line ≡ (64 ∷ take (word_end outside r) r) ∷ words (drop (word_end outside r) r) = sym same ∙ ap words (at_first bytes r h) ∙ first 64 r refl in
    let front : name ≡ take (word_end outside r) r = is_name ∙ ap (λ m. take m r) is_n in
    let others : rest ≡ drop (word_end outside r) r = is_rest ∙ ap (λ m. drop m r) is_n in
    ap bucket whole ∙ (λ i. found (words (sym others i)) (text (sym front i)))

-- what is found where this tells whether an at sign stands before the name
abbrev found_if : Bool → ℕ → List ℕ → List (List ℕ) → Option (List ℕ × List (List ℕ))
found_if b c w ws = if b then found ws (text w) else Some ([], (c ∷ w) ∷ ws)

no_at : (bytes : List ℕ) → IsTrimmed bytes → after_at bytes ≡ None → bucket (words bytes) ≡ Some ([], words bytes)
no_at [] trimmed h = refl
no_at (c ∷ cs) trimmed h =
    let w : List ℕ = take (word_end (after outside c) cs) cs in
    let ws : List (List ℕ) = words (drop (word_end (after outside c) cs) cs) in
    subst (λ all. bucket all ≡ Some ([], all)) (sym (first c cs trimmed))
    (elim (c == 64) as (λ b. (if b then Some cs else None) ≡ None → found_if b c w ws ≡ Some ([], (c ∷ w) ∷ ws))
    [ true ↦ λ n. absurd (none-some cs (sym n)) | false ↦ λ n. refl ] h)

pub not_at : (line bytes : List ℕ) → words bytes ≡ words line → IsTrimmed bytes → after_at bytes ≡ None → bucket (words line) ≡ Some ([], words line)
not_at line bytes same trimmed h = subst (λ ws. bucket ws ≡ Some ([], ws)) same (no_at bytes trimmed h)

-- what follows the spaces at the front
words_after : (bytes : List ℕ) → words (drop (spaces bytes) bytes) ≡ words bytes
words_after [] = refl
words_after (c ∷ cs) =
    elim (c == space) as (λ b. (c == space) ≡ b → words (drop (if b then suc (spaces cs) else 0) (c ∷ cs)) ≡ words (c ∷ cs))
    [ true ↦ λ e. words_after cs ∙ sym (words-space c cs e) | false ↦ λ e. refl ] refl

pub words_trimmed : (bytes rest : List ℕ) (n : ℕ) → n ≡ spaces bytes → rest ≡ drop n bytes → words rest ≡ words bytes
words_trimmed bytes rest n is is_rest = ap words (is_rest ∙ ap (λ m. drop m bytes) is) ∙ words_after bytes

trimmed_after : (bytes : List ℕ) → IsTrimmed (drop (spaces bytes) bytes)
trimmed_after [] = tt
trimmed_after (c ∷ cs) =
    elim (c == space) as (λ b. (c == space) ≡ b → IsTrimmed (drop (if b then suc (spaces cs) else 0) (c ∷ cs)))
    [ true ↦ λ e. trimmed_after cs | false ↦ λ e. e ] refl

pub is_trimmed : (bytes rest : List ℕ) (n : ℕ) → n ≡ spaces bytes → rest ≡ drop n bytes → IsTrimmed rest
is_trimmed bytes rest n is is_rest = subst IsTrimmed (sym (is_rest ∙ ap (λ m. drop m bytes) is)) (trimmed_after bytes)

-- one space stands at the front
single : (a b : Bool) (x r : List ℕ) → (if a then (if b then None else Some x) else None) ≡ Some r → (a ≡ true) × (b ≡ false) × (x ≡ r)
single true false x r h = (refl, refl, ap held h)
single true true x r h = absurd (none-some r h)
single false b x r h = absurd (none-some r h)

pub words_single : (line r : List ℕ) → after_space line ≡ Some r → words r ≡ words line
words_single [] r h = absurd (none-some r h)
words_single (a ∷ []) r h = absurd (none-some r h)
words_single (a ∷ b ∷ cs) r h =
    let p = single (a == space) (b == space) (b ∷ cs) r h in
    ap words (sym p.2) ∙ sym (words-space a (b ∷ cs) p.0)

pub is_single : (line r : List ℕ) → after_space line ≡ Some r → IsTrimmed r
is_single [] r h = absurd (none-some r h)
is_single (a ∷ []) r h = absurd (none-some r h)
is_single (a ∷ b ∷ cs) r h =
    let p = single (a == space) (b == space) (b ∷ cs) r h in
    subst IsTrimmed p.2 p.1
