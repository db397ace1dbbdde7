-- Parts of lists of bytes.
use Rattle.std.proofs.Common.{◌≡◌, ℕ, ◌+◌, ◌<◌, ◌≤◌, List, [], ◌∷◌, ◌++◌, length, get_or, take, drop, refl, sym, ap, ◌∙◌, arith, append_assoc, length-take, length-drop}
use Rattle.std.proofs.lemmas.List.{get_or-drop, take_at, drop_at}
use Rattle.disk_core.specs.Images.{overwritten}
use Rattle.gate_log.proofs.Kept.{same_take}

pub append_none : {A : Type 0} (xs : List A) → xs ++ [] ≡ xs
append_none [] = refl
append_none (x ∷ xs) = ap (λ l. x ∷ l) (append_none xs)

-- the same bytes in a range
pub same_slice : (at n : ℕ) (a b : List ℕ) → at + n ≤ length a → at + n ≤ length b → ((i : ℕ) → at ≤ i → i < at + n → get_or a i 0 ≡ get_or b i 0) → take n (drop at a) ≡ take n (drop at b)
same_slice at n a b in_a in_b each =
    same_take n (drop at a) (drop at b) (omega (arith, length-drop at a, in_a)) (omega (arith, length-drop at b, in_b)) (λ i below.
    get_or-drop at a i 0 ∙ each (at + i) (omega arith) (omega (arith, below)) ∙ sym (get_or-drop at b i 0))

-- what was written stands there
pub written_there : (at : ℕ) (new old : List ℕ) → at ≤ length old → take (length new) (drop at (overwritten at new old)) ≡ new
written_there at new old within =
    let front = take at old in
    let rest = drop (at + length new) old in
    let long : length front ≡ at = simp length-take (omega (arith, within)) in
    ap (λ (l : List ℕ). take (length new) (drop at l)) (append_assoc front new rest) ∙ ap (take (length new)) (drop_at front (new ++ rest) at long) ∙ take_at new rest (length new) refl
