-- The word at the front of a line, as the code finds it.
use Rattle.std.specs.Prelude.{◌≡◌, ℕ, suc, ◌<◌, true, false, ◌==◌, List, [], ◌∷◌, length, take, drop, Option, Some, None, if◌then◌else◌}
use Rattle.std.specs.List.{filter}
use Rattle.std.proofs.Common.{refl, sym, ap, ◌∙◌, arith}
use Rattle.script_text.specs.Split.{Where, outside, within, after_backslash, after, ends_word, onto_first, pieces, is_some_bytes, words, space}
use Rattle.script_text.specs.declared.split.Place.{Place}
use Rattle.script_text.specs.declared.split.Place.TheVariants as place

abbrev pub where_of : Place → Where
where_of place.Outside = outside
where_of place.Within = within
where_of place.AfterBackslash = after_backslash

-- the bytes before the one that ends the word
abbrev pub word_end : Where → List ℕ → ℕ
word_end at [] = 0
word_end at (c ∷ cs) = if ends_word at c then 0 else suc (word_end (after at c) cs)

-- the spaces at the front
abbrev pub spaces : List ℕ → ℕ
spaces [] = 0
spaces (c ∷ cs) = if c == space then suc (spaces cs) else 0

abbrev pub IsTrimmed : List ℕ → Type 0
IsTrimmed [] = Unit {0}
IsTrimmed (c ∷ cs) = (c == space) ≡ false

-- what follows `in` and the space after it, where they stand at the front
abbrev pub after_in : List ℕ → Option (List ℕ)
after_in (a ∷ b ∷ c ∷ cs) = if a == 105 then (if b == 110 then (if c == space then Some cs else None) else None) else None
after_in bytes = None

-- what follows `update` and the space after it, where they stand at the front
abbrev pub after_update : List ℕ → Option (List ℕ)
after_update (a ∷ b ∷ c ∷ d ∷ e ∷ f ∷ g ∷ cs) =
    if a == 117 then (if b == 112 then (if c == 100 then (if d == 97 then (if e == 116 then (if f == 101 then (if g == space then Some cs
    else None) else None) else None) else None) else None) else None) else None
after_update bytes = None

-- what follows the one space at the front, where no other does
abbrev pub after_space : List ℕ → Option (List ℕ)
after_space (a ∷ b ∷ cs) = if a == space then (if b == space then None else Some (b ∷ cs)) else None
after_space bytes = None

-- what follows an at sign at the front
abbrev pub after_at : List ℕ → Option (List ℕ)
after_at [] = None
after_at (c ∷ cs) = if c == 64 then Some cs else None

-- the pieces after the first, where a space stands at the front
abbrev pub further : List ℕ → List (List ℕ)
further [] = []
further (c ∷ cs) = pieces outside cs

pub pieces-front : (at : Where) (bytes : List ℕ) → pieces at bytes ≡ take (word_end at bytes) bytes ∷ further (drop (word_end at bytes) bytes)
pieces-front at [] = refl
pieces-front at (c ∷ cs) =
    elim (ends_word at c) as (λ b. (if b then [] ∷ pieces outside cs else onto_first c (pieces (after at c) cs))
    ≡ take (if b then 0 else suc (word_end (after at c) cs)) (c ∷ cs) ∷ further (drop (if b then 0 else suc (word_end (after at c) cs)) (c ∷ cs)))
    [ true ↦ refl | false ↦ ap (onto_first c) (pieces-front (after at c) cs) ]

-- the line is at its end, or a space stands at the front
abbrev IsStop : List ℕ → Type 0
IsStop [] = Unit {0}
IsStop (c ∷ cs) = (c == space) ≡ true

stops : (at : Where) (bytes : List ℕ) → IsStop (drop (word_end at bytes) bytes)
stops at [] = tt
stops outside (c ∷ cs) =
    elim (c == space) as (λ b. (c == space) ≡ b → IsStop (drop (if b then 0 else suc (word_end (after outside c) cs)) (c ∷ cs)))
    [ true ↦ λ e. e | false ↦ λ e. stops (after outside c) cs ] refl
stops within (c ∷ cs) = stops (after within c) cs
stops after_backslash (c ∷ cs) = stops within cs

further-words : (r : List ℕ) → IsStop r → filter is_some_bytes (further r) ≡ words r
further-words [] h = refl
further-words (c ∷ cs) h = ap (λ b. filter is_some_bytes (if b then [] ∷ pieces outside cs else onto_first c (pieces (after outside c) cs))) (sym h)

-- the first word of a line that doesn't begin with a space, and the words of what follows it
pub words_front : (bytes w rest : List ℕ) (n : ℕ) → IsTrimmed bytes → 0 < length bytes → n ≡ word_end outside bytes → w ≡ take n bytes → rest ≡ drop n bytes → words bytes ≡ w ∷ words rest
words_front [] w rest n trimmed some is is_w is_rest = absurd (omega arith)
words_front (c ∷ cs) w rest n trimmed some is is_w is_rest =
    let k : ℕ = word_end (after outside c) cs in
    let count : n ≡ suc k = is ∙ ap (λ b. if b then 0 else suc k) trimmed in
    let front : words (c ∷ cs) ≡ (c ∷ take k cs) ∷ words (drop k cs) =
    ap (λ b. filter is_some_bytes (if b then [] ∷ pieces outside cs else onto_first c (pieces (after outside c) cs))) trimmed
    ∙ ap (λ ps. filter is_some_bytes (onto_first c ps)) (pieces-front (after outside c) cs) ∙ ap (λ ws. (c ∷ take k cs) ∷ ws) (further-words (drop k cs) (stops (after outside c) cs)) in
    let first : w ≡ c ∷ take k cs = is_w ∙ ap (λ m. take m (c ∷ cs)) count in
    let others : rest ≡ drop k cs = is_rest ∙ ap (λ m. drop m (c ∷ cs)) count in
    front ∙ ap (λ v. v ∷ words (drop k cs)) (sym first) ∙ ap (λ r. w ∷ words r) (sym others)

-- a space at the front is skipped
pub words-space : (c : ℕ) (cs : List ℕ) → (c == space) ≡ true → words (c ∷ cs) ≡ words cs
words-space c cs h = ap (λ b. filter is_some_bytes (if b then [] ∷ pieces outside cs else onto_first c (pieces (after outside c) cs))) h
