-- Digits that make a number greater.
use Rattle.std.proofs.Common.{◌≡◌, ℕ, ◌≤◌, ◌<◌, ◌+◌, ◌*◌, ◌-◌, List, [], ◌∷◌, false, ◌&&◌, nat_le, None, Some, arith, suc, length, drop, get_or, refl, sym, ap, ◌∙◌, if◌then◌else◌}
use Rattle.std.proofs.Math.Seq.{drop-cons}
use Rattle.std.specs.List.{list_all}
use Rattle.std.specs.Char.{is_ascii_digit}
use Rattle.std.specs.Prelude.{fold}
use Rattle.std.proofs.lemmas.Bool.{and_right}
use Rattle.std.proofs.lemmas.Bool.Decides.{nat_tests}
use Rattle.script_text.specs.Numbers.{with_digit, value_of, digits_of}

pub fold_least : (n : ℕ) (w : List ℕ) → n ≤ fold with_digit n w
fold_least n [] = omega arith
fold_least n (c ∷ w) = let more : n * 10 + (c - 48) ≤ fold with_digit (n * 10 + (c - 48)) w = fold_least (n * 10 + (c - 48)) w in omega arith

-- what is too great with the next digit stays so
pub too_great : (top n i d : ℕ) (w : List ℕ) → i < length w → value_of w ≡ fold with_digit n (drop i w) → top < n * 10 + (get_or w i d - 48) → None ≡ digits_of top w
too_great top n i d w within is great =
    let further : fold with_digit n (drop i w) ≡ fold with_digit (n * 10 + (get_or w i d - 48)) (drop (suc i) w) = ap (λ s. fold with_digit n s) (drop-cons w i d within) in
    let least : n * 10 + (get_or w i d - 48) ≤ fold with_digit (n * 10 + (get_or w i d - 48)) (drop (suc i) w) = fold_least (n * 10 + (get_or w i d - 48)) (drop (suc i) w) in
    let far : top < value_of w = rw (is, further) (omega arith) in
    let past : nat_le (value_of w) top ≡ false = grind (arith, nat_tests) in
    sym (ap (λ b. if list_all is_ascii_digit w && b then Some (value_of w) else None) past ∙ ap (λ b. if b then Some (value_of w) else None) (and_right (list_all is_ascii_digit w) false refl))
