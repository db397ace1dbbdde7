-- Fronts of lists.
use Rattle.std.proofs.Common.{◌≡◌, ℕ, zero, suc, ◌+◌, ◌-◌, ◌≤◌, List, [], ◌∷◌, ◌++◌, ◌==◌, true, length, take, drop, min, refl, sym, ap, ◌∙◌, arith}
use Rattle.std.proofs.lemmas.List.{take_min, take_rest, drop-drop}
use Rattle.std.proofs.lemmas.Bool.{eqb-true}
use Rattle.std.proofs.Math.Seq.{take-append-add}

-- a front of a list whose own front was cut already
pub take-cut : (n : ℕ) (xs ys : List ℕ) → take n (take n xs ++ ys) ≡ take n (xs ++ ys)
take-cut zero xs ys = refl
take-cut (suc n) [] ys = refl
take-cut (suc n) (x ∷ xs) ys = ap (λ l. x ∷ l) (take-cut n xs ys)

pub take_extended : (bytes piece : List ℕ) → length bytes ≤ 4099 → bytes ++ take (min (4099 - length bytes) (length piece)) piece ≡ take 4099 (bytes ++ piece)
take_extended bytes piece h =
    ap (λ l. bytes ++ l) (take_min (4099 - length bytes) piece) ∙ sym (take-append-add bytes piece (4099 - length bytes)) ∙ ap (λ n. take n (bytes ++ piece)) (let e : length bytes + (4099 - length bytes) ≡ 4099 = omega arith in e)

pub extended : (bytes piece new : List ℕ) (n : ℕ) → length bytes ≤ 4099 → n ≡ min (4099 - length bytes) (length piece) → new ≡ bytes ++ take n piece → new ≡ take 4099 (bytes ++ piece)
extended bytes piece new n h e f = f ∙ ap (λ k. bytes ++ take k piece) e ∙ take_extended bytes piece h

pub front_of : (begun piece : List ℕ) (n : ℕ) → (length begun == 0) ≡ true → n ≡ min 4099 (length piece) → take n piece ≡ take 4099 (begun ++ piece)
front_of [] piece n h e = ap (λ k. take k piece) e ∙ take_min 4099 piece
front_of (b ∷ begun) piece n h e = absurd (omega (arith, eqb-true _ _ h))

pub rest_of : (rest more : List ℕ) (at : ℕ) → more ≡ drop at rest → take (length more - 1) (drop 1 more) ≡ drop (at + 1) rest
rest_of rest more at e = take_rest more 1 ∙ ap (drop 1) e ∙ drop-drop 1 at rest
