-- How a line is cut: what is printed without spaces, or in quotes, stays in one piece.
use Rattle.std.proofs.Common.{◌≡◌, ℕ, zero, suc, ◌<◌, Bool, true, false, true≢false, ◌&&◌, ◌==◌, not, if◌then◌else◌, List, [], ◌∷◌, ◌++◌, Option, Some, None, refl, sym, ap, ◌∙◌, arith, append_assoc, append-nil, inl, inr}
use Rattle.std.proofs.lemmas.Bool.{and_parts, cases_eq, cases_lt, ne_eqb, not-true, eqb-false}
use Rattle.std.proofs.lemmas.Bool.Decides.{nat_tests}
use Rattle.std.proofs.lemmas.List.Folds.{list_all-append}
use Rattle.std.specs.List.{filter, list_all}
use Rattle.json.proofs.Printed.Strings.{escape_byte_plain}
use Rattle.json.specs.Print.{escape_byte, escape, quoted}
use Rattle.script_words.specs.Bare.{is_bare, is_bare_byte}
use Rattle.script_text.specs.Split.{Where, outside, within, after_backslash, after, onto_first, pieces, is_some_bytes, words, space, quote, backslash}
use Rattle.script_text.specs.Ends.{HasNoEnd}
use Rattle.reply_text.specs.Places.{word_text}
use Rattle.read_back.specs.ReadBack.{IsOneWord}

-- the bytes stand in front of the first piece
abbrev pub onto : List ℕ → List (List ℕ) → List (List ℕ)
onto [] ps = ps
onto (c ∷ cs) ps = onto_first c (onto cs ps)

onto-piece : (xs ys : List ℕ) (ps : List (List ℕ)) → onto xs (ys ∷ ps) ≡ (xs ++ ys) ∷ ps
onto-piece [] ys ps = refl
onto-piece (c ∷ cs) ys ps = ap (onto_first c) (onto-piece cs ys ps)

onto-append : (xs ys : List ℕ) (ps : List (List ℕ)) → onto (xs ++ ys) ps ≡ onto xs (onto ys ps)
onto-append [] ys ps = refl
onto-append (c ∷ cs) ys ps = ap (onto_first c) (onto-append cs ys ps)

-- the byte doesn't end a line
abbrev pub is_inner : ℕ → Bool
is_inner c = not (c == 10)

pub inner_both : (v w : List ℕ) → list_all is_inner v ≡ true → list_all is_inner w ≡ true → list_all is_inner (v ++ w) ≡ true
inner_both v w h k = list_all-append is_inner v w ∙ (λ i. h i && k i)

pub no_end : (w : List ℕ) → list_all is_inner w ≡ true → HasNoEnd w
no_end [] h = tt
no_end (c ∷ cs) h = let p = and_parts (is_inner c) (list_all is_inner cs) h in (eqb-false c 10 (not-true (c == 10) p.0), no_end cs p.1)

-- all of it goes to the first piece, whatever follows, and it ends no line
pub record IsUncut (w : List ℕ) : Type 0 where
  pub piece : (rest : List ℕ) → pieces outside (w ++ rest) ≡ onto w (pieces outside rest)
  pub inner : list_all is_inner w ≡ true

pub uncut_both : (v w : List ℕ) → IsUncut v → IsUncut w → IsUncut (v ++ w)
uncut_both v w h k = record {
  piece = λ rest. ap (pieces outside) (append_assoc v w rest) ∙ h.piece (w ++ rest) ∙ ap (onto v) (k.piece rest) ∙ sym (onto-append v w (pieces outside rest));
  inner = inner_both v w h.inner k.inner;
}

-- what stands behind a word: nothing, or a space and more
abbrev pub ending : Option (List ℕ) → List ℕ
ending None = []
ending (Some rest) = space ∷ rest

pieces-ending : (e : Option (List ℕ)) → (ps : List (List ℕ)) × (pieces outside (ending e) ≡ [] ∷ ps) × (filter is_some_bytes ps ≡ words (ending e))
pieces-ending None = ([], refl, refl)
pieces-ending (Some rest) = (pieces outside rest, refl, refl)

pub words-uncut : (w : List ℕ) (e : Option (List ℕ)) → IsUncut w → is_some_bytes w ≡ true → words (w ++ ending e) ≡ w ∷ words (ending e)
words-uncut w e h some =
    let p = pieces-ending e in
    ap (filter is_some_bytes) (h.piece (ending e) ∙ ap (onto w) p.1 ∙ onto-piece w [] p.0 ∙ ap (λ v. v ∷ p.0) (append-nil w)) ∙ (λ i. if some i then w ∷ p.2 i else p.2 i)

pub one_word : (w : List ℕ) → IsUncut w → is_some_bytes w ≡ true → IsOneWord w
one_word w h some = record {
  unbroken = no_end w h.inner;
  followed = λ rest. words-uncut w (Some rest) h some;
  last = ap words (sym (append-nil w)) ∙ words-uncut w None h some;
}

-- ---- bytes other than spaces, quotes and line feeds

abbrev pub is_plain : ℕ → Bool
is_plain c = not (c == space) && (not (c == quote) && is_inner c)

pub each_plain : (p : ℕ → Bool) → ((c : ℕ) → p c ≡ true → is_plain c ≡ true) → (w : List ℕ) → list_all p w ≡ true → list_all is_plain w ≡ true
each_plain p plain [] h = refl
each_plain p plain (c ∷ cs) h = let both = and_parts (p c) (list_all p cs) h in λ i. plain c both.0 i && each_plain p plain cs both.1 i

plain_byte : (c : ℕ) → is_plain c ≡ true → IsUncut (c ∷ [])
plain_byte c h =
    let p = and_parts (not (c == space)) (not (c == quote) && is_inner c) h in
    let q = and_parts (not (c == quote)) (is_inner c) p.1 in
    record {
      piece = λ rest. ap (λ b. if b then [] ∷ pieces outside rest else onto_first c (pieces (after outside c) rest)) (not-true (c == space) p.0)
          ∙ ap (λ b. onto_first c (pieces (if b then within else outside) rest)) (not-true (c == quote) q.0);
      inner = ap (λ b. b && true) q.1;
    }

pub plain_uncut : (w : List ℕ) → list_all is_plain w ≡ true → IsUncut w
plain_uncut [] h = record { piece = λ rest. refl; inner = refl }
plain_uncut (c ∷ cs) h = let p = and_parts (is_plain c) (list_all is_plain cs) h in uncut_both (c ∷ []) cs (plain_byte c p.0) (plain_uncut cs p.1)

bare_is_plain : (c : ℕ) → is_bare_byte c ≡ true → is_plain c ≡ true
bare_is_plain c h = grind (arith, nat_tests)

-- ---- quoted words

-- from within quotes the bytes lead back to within them, and no quote ends them
abbrev stays : Where → List ℕ → Bool
stays outside cs = false
stays within [] = true
stays within (c ∷ cs) = stays (after within c) cs
stays after_backslash [] = false
stays after_backslash (c ∷ cs) = stays within cs

pieces-stays : (at : Where) (xs rest : List ℕ) → stays at xs ≡ true → pieces at (xs ++ rest) ≡ onto xs (pieces within rest)
pieces-stays outside xs rest h = absurd (true≢false (sym h))
pieces-stays within [] rest h = refl
pieces-stays within (c ∷ cs) rest h = ap (onto_first c) (pieces-stays (after within c) cs rest h)
pieces-stays after_backslash [] rest h = absurd (true≢false (sym h))
pieces-stays after_backslash (c ∷ cs) rest h = ap (onto_first c) (pieces-stays within cs rest h)

-- such bytes, none of which ends the line
abbrev is_escape : List ℕ → Bool
is_escape xs = stays within xs && list_all is_inner xs

-- the bytes below n have such escapes
abbrev escapes_below : ℕ → Bool
escapes_below zero = true
escapes_below (suc n) = is_escape (escape_byte n) && escapes_below n

escape_below : (n : ℕ) → escapes_below n ≡ true → (x : ℕ) → x < n → is_escape (escape_byte x) ≡ true
escape_below zero e x h = absurd (omega arith)
escape_below (suc n) e x h =
    let p = and_parts (is_escape (escape_byte n)) (escapes_below n) e in
    elim (cases_eq x n) [ inl same ↦ rw same p.0 | inr other ↦ escape_below n p.1 x (omega arith) ]

-- up to the backslash
up_to_backslash : escapes_below 93 ≡ true
unfolding escape_byte
up_to_backslash = refl

other_byte : (x : ℕ) → (x ≡ quote → ⊥) → (x ≡ backslash → ⊥) → (x ≡ 10 → ⊥) → is_escape (x ∷ []) ≡ true
other_byte x q b f =
    (λ i. stays (if ne_eqb x quote q i then outside else (if x == backslash then after_backslash else within)) [] && (not (ne_eqb x 10 f i) && true))
    ∙ ap (λ e. stays (if e then after_backslash else within) [] && true) (ne_eqb x backslash b)

is_escape_byte : (x : ℕ) → is_escape (escape_byte x) ≡ true
is_escape_byte x = elim (cases_lt x 93) [
  | inl small ↦ escape_below 93 up_to_backslash x small
  | inr large ↦ rw (escape_byte_plain x (λ e. omega arith) (λ e. omega arith) (omega arith)) (other_byte x (λ e. omega arith) (λ e. omega arith) (λ e. omega arith))
]

escape_parts : (x : ℕ) → (stays within (escape_byte x) ≡ true) × (list_all is_inner (escape_byte x) ≡ true)
escape_parts x = and_parts (stays within (escape_byte x)) (list_all is_inner (escape_byte x)) (is_escape_byte x)

pieces-escape : (t rest : List ℕ) → pieces within (escape t ++ rest) ≡ onto (escape t) (pieces within rest)
pieces-escape [] rest = refl
pieces-escape (x ∷ t) rest =
    ap (pieces within) (append_assoc (escape_byte x) (escape t) rest) ∙ pieces-stays within (escape_byte x) (escape t ++ rest) (escape_parts x).0
    ∙ ap (onto (escape_byte x)) (pieces-escape t rest) ∙ sym (onto-append (escape_byte x) (escape t) (pieces within rest))

inner_escape : (t : List ℕ) → list_all is_inner (escape t) ≡ true
inner_escape [] = refl
inner_escape (x ∷ t) = inner_both (escape_byte x) (escape t) (escape_parts x).1 (inner_escape t)

pub quoted_uncut : (t : List ℕ) → IsUncut (quoted t)
quoted_uncut t = record {
  piece = λ rest. ap (λ l. onto_first quote (pieces within l)) (append_assoc (escape t) (quote ∷ []) rest)
      ∙ ap (onto_first quote) (pieces-escape t (quote ∷ rest) ∙ sym (onto-append (escape t) (quote ∷ []) (pieces outside rest)));
  inner = inner_both (escape t) (quote ∷ []) (inner_escape t) refl;
}

-- ---- printed texts

bare_some : (w : List ℕ) → is_bare w ≡ true → is_some_bytes w ≡ true
bare_some [] h = h
bare_some (c ∷ cs) h = refl

pub text_uncut : (t : List ℕ) → IsUncut (word_text t)
text_uncut t =
    elim (is_bare t) as (λ b. is_bare t ≡ b → IsUncut (if b then t else quoted t))
    [ true ↦ λ e. plain_uncut t (each_plain is_bare_byte bare_is_plain t (and_parts _ _ e).1) | false ↦ λ e. quoted_uncut t ] refl

pub text_some : (t : List ℕ) → is_some_bytes (word_text t) ≡ true
text_some t = elim (is_bare t) as (λ b. is_bare t ≡ b → is_some_bytes (if b then t else quoted t) ≡ true) [ true ↦ λ e. bare_some t e | false ↦ λ e. refl ] refl

pub text_is_one_word : (t : List ℕ) → IsOneWord (word_text t)
text_is_one_word t = one_word (word_text t) (text_uncut t) (text_some t)
