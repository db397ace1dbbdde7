-- What words ask for.
use Rattle.std.proofs.Common.{◌≡◌, ℕ, ◌+◌, ◌<◌, List, [], ◌∷◌, ◌++◌, Option, None, Some, option_and_then, map, length, take, drop, slice_index_or, refl, sym, ap, ◌∙◌, subst, add-one, drop-cons}
use Rattle.std.specs.Prelude.{IfSome, IfNone}
use Rattle.std.proofs.lemmas.List.{map-append, take_more, take-append-drop}
use Rattle.dc_engine.specs.Words.{Asking, whole, with_word, with_words}

-- what holds of what is asked for holds of the same, told otherwise
pub if_some_along : {A : Type 0} (o p : Option A) (P : A → Type 0) → o ≡ p → IfSome o P → IfSome p P
if_some_along o p P e h = subst (λ q. IfSome q P) e h

pub if_none_along : {A : Type 0} (o p : Option A) (P : Type 0) → o ≡ p → IfNone o P → IfNone p P
if_none_along o p P e h = subst (λ q. IfNone q P) e h

-- words behind others
words_more : (a : Asking) (first more : List (List ℕ)) → with_words a (first ++ more) ≡ option_and_then (λ b. with_words b more) (with_words a first)
words_more a [] more = refl
words_more a (word ∷ first) more = behind (with_word a word) (λ b. words_more b first more)
  where
    behind : (o : Option Asking) → ((b : Asking) → with_words b (first ++ more) ≡ option_and_then (λ c. with_words c more) (with_words b first)) → option_and_then (λ b. with_words b (first ++ more)) o ≡ option_and_then (λ b. with_words b more) (option_and_then (λ b. with_words b first) o)
    behind None h = refl
    behind (Some b) h = h b

last_only : (o : Option Asking) → option_and_then (λ b. with_words b []) o ≡ o
last_only None = refl
last_only (Some b) = refl

module _ {W : Type 0} (bytes : W → List ℕ) (words : List W) (at : ℕ) (other : W) (within : at < length words) where
  one_more : take (at + 1) words ≡ take at words ++ slice_index_or words at other ∷ []
  one_more = take_more words at other within

  taken : map bytes (take (at + 1) words) ≡ map bytes (take at words) ++ bytes (slice_index_or words at other) ∷ []
  taken = ap (map bytes) one_more ∙ map-append bytes (take at words) (slice_index_or words at other ∷ [])

  -- as the loop goes on
  pub words_on : (start a b : Asking) → with_words start (map bytes (take at words)) ≡ Some a → Some b ≡ with_word a (bytes (slice_index_or words at other)) → with_words start (map bytes (take (at + 1) words)) ≡ Some b
  words_on start a b h e =
      ap (with_words start) taken ∙ words_more start (map bytes (take at words)) (bytes (slice_index_or words at other) ∷ []) ∙ ap (option_and_then (λ c. with_words c (bytes (slice_index_or words at other) ∷ []))) h
      ∙ last_only (with_word a (bytes (slice_index_or words at other))) ∙ sym e

  -- where a word is no option, or one that was there
  pub words_end : (start a : Asking) → with_words start (map bytes (take at words)) ≡ Some a → None ≡ with_word a (bytes (slice_index_or words at other)) → None ≡ option_and_then whole (with_words start (map bytes words))
  words_end start a h e =
      let word = bytes (slice_index_or words at other) in
      let all : map bytes words ≡ map bytes (take at words) ++ (word ∷ map bytes (drop (at + 1) words)) =
      ap (map bytes) (sym (take-append-drop at words) ∙ ap (λ l. take at words ++ l) (drop-cons words at other within ∙ ap (λ n. slice_index_or words at other ∷ drop n words) (sym (add-one at)))) ∙ map-append bytes (take at words) (slice_index_or words at other ∷ drop (at + 1) words) in
      let none : with_words start (map bytes words) ≡ None =
      ap (with_words start) all ∙ words_more start (map bytes (take at words)) (word ∷ map bytes (drop (at + 1) words)) ∙ ap (option_and_then (λ c. with_words c (word ∷ map bytes (drop (at + 1) words)))) h
      ∙ ap (option_and_then (λ c. with_words c (map bytes (drop (at + 1) words)))) (sym e) in
      sym (ap (option_and_then whole) none)
