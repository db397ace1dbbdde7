-- Going along two vectors entry by entry, and the zeros past their width.
use Rattle.std.proofs.Common.{◌≡◌, ℕ, zero, suc, ◌+◌, ◌-◌, ◌<◌, ◌≤◌, max, min, List, [], ◌∷◌, ◌++◌, length, get_or, set, take, drop, replicate, refl, sym, ap, ◌∙◌, add-one, take_all, arith}
use Rattle.std.proofs.lemmas.List.{length-take-le, take_more_set}
use Rattle.site_vector.specs.Vector.{join, meet}
use Rattle.site_vector.specs.Entries.{IsPadded}

-- f of each two entries, as far as both vectors go
abbrev pub along : (ℕ → ℕ → ℕ) → List ℕ → List ℕ → List ℕ
along f [] v = []
along f (n ∷ u) [] = []
along f (n ∷ u) (m ∷ v) = f n m ∷ along f u v

pub join_along : (u v : List ℕ) → join u v ≡ along max u v
join_along [] v = refl
join_along (n ∷ u) [] = refl
join_along (n ∷ u) (m ∷ v) = ap (λ l. max n m ∷ l) (join_along u v)

pub meet_along : (u v : List ℕ) → meet u v ≡ along min u v
meet_along [] v = refl
meet_along (n ∷ u) [] = refl
meet_along (n ∷ u) (m ∷ v) = ap (λ l. min n m ∷ l) (meet_along u v)

module _ (f : ℕ → ℕ → ℕ) where
  along_suc : (u v : List ℕ) (i : ℕ) → i < length u → i < length v → along f (take (suc i) u) (take (suc i) v) ≡ along f (take i u) (take i v) ++ f (get_or u i 0) (get_or v i 0) ∷ []
  along_suc [] v i lt e = absurd (omega arith)
  along_suc (n ∷ u) [] i lt e = absurd (omega arith)
  along_suc (n ∷ u) (m ∷ v) zero lt e = refl
  along_suc (n ∷ u) (m ∷ v) (suc i) lt e = ap (λ l. f n m ∷ l) (along_suc u v i (omega arith) (omega arith))

  -- one entry more of a loop that writes f of the two entries
  pub along_set : (u v w : List ℕ) (i : ℕ) → i < length u → i < length v → i < length w → take i w ≡ along f (take i u) (take i v)
      → take (i + 1) (set w i (f (get_or u i 0) (get_or v i 0))) ≡ along f (take (i + 1) u) (take (i + 1) v)
  along_set u v w i lu lv lw e =
      take_more_set w i (f (get_or u i 0) (get_or v i 0)) lw ∙ ap (λ l. l ++ f (get_or u i 0) (get_or v i 0) ∷ []) e ∙ sym (rw add-one (along_suc u v i lu lv))

  -- the loop's end
  pub along_whole : (u v w : List ℕ) (i : ℕ) → length u ≤ i → length v ≤ i → length w ≤ i → take i w ≡ along f (take i u) (take i v) → w ≡ along f u v
  along_whole u v w i lu lv lw e = sym (take_all i w lw) ∙ e ∙ ap (λ l. along f l (take i v)) (take_all i u lu) ∙ ap (along f u) (take_all i v lv)

  pub along_take : (n : ℕ) (u v : List ℕ) → take n (along f u v) ≡ along f (take n u) (take n v)
  along_take zero u v = refl
  along_take (suc n) [] v = refl
  along_take (suc n) (x ∷ u) [] = refl
  along_take (suc n) (x ∷ u) (y ∷ v) = ap (λ l. f x y ∷ l) (along_take n u v)

  pub along_drop : (n : ℕ) (u v : List ℕ) → length u ≡ length v → drop n (along f u v) ≡ along f (drop n u) (drop n v)
  along_drop zero u v e = refl
  along_drop (suc n) [] [] e = refl
  along_drop (suc n) [] (y ∷ v) e = absurd (omega arith)
  along_drop (suc n) (x ∷ u) [] e = absurd (omega arith)
  along_drop (suc n) (x ∷ u) (y ∷ v) e = along_drop n u v (omega arith)

  pub along_length : (u v : List ℕ) → length u ≡ length v → length (along f u v) ≡ length u
  along_length [] v e = refl
  along_length (x ∷ u) [] e = absurd (omega arith)
  along_length (x ∷ u) (y ∷ v) e = ap suc (along_length u v (omega arith))

  along_zeros : f 0 0 ≡ 0 → (n : ℕ) → along f (replicate n 0) (replicate n 0) ≡ replicate n 0
  along_zeros z zero = refl
  along_zeros z (suc n) = λ i. z i ∷ along_zeros z n i

  -- the zeros past the width stay zeros
  pub along_padded : f 0 0 ≡ 0 → (n m : ℕ) (u v : List ℕ) → IsPadded n u → IsPadded m v → n ≡ m → IsPadded n (along f u v)
  along_padded z n m u v p q e = record {
    least = p.least;
    most = p.most;
    whole = along_length u v (p.whole ∙ sym q.whole) ∙ p.whole;
    rest = along_drop n u v (p.whole ∙ sym q.whole) ∙ ap (λ l. along f l (drop n v)) p.rest ∙ ap (λ k. along f (replicate (8 - n) 0) (drop k v)) e ∙ ap (along f (replicate (8 - n) 0)) q.rest ∙ ap (λ k. along f (replicate (8 - n) 0) (replicate (8 - k) 0)) (sym e) ∙ along_zeros z (8 - n);
  }

  -- the entries within the width
  pub along_view : (n m : ℕ) (u v : List ℕ) → n ≡ m → take n (along f u v) ≡ along f (take n u) (take m v)
  along_view n m u v e = along_take n u v ∙ ap (λ k. along f (take n u) (take k v)) e

-- two vectors as wide are in arrays of one width
pub same_width : (n m : ℕ) (u v : List ℕ) → IsPadded n u → IsPadded m v → length (take n u) ≡ length (take m v) → n ≡ m
same_width n m u v p q e = omega (arith, length-take-le n u (omega (arith, p.most, p.whole)), length-take-le m v (omega (arith, q.most, q.whole)))
