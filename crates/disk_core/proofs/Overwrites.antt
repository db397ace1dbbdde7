-- Pieces that are written one behind the other are one write of their bytes.
use Rattle.std.proofs.Common.{◌≡◌, inl, inr, ℕ, ◌+◌, ◌-◌, ◌≤◌, List, ◌++◌, length, take, drop, replicate, sym, ap, ◌∙◌, arith, append_assoc, length-append, length-take}
use Rattle.std.proofs.lemmas.List.{take_at, drop_at, drop-drop, drop_all, append-nil, take-append-le, length-replicate}
use Rattle.std.proofs.lemmas.Bool.{cases_lt}
use Rattle.disk_core.specs.Images.{overwritten, padded}

-- the second begins where the first ends
pub overwritten_twice : (at : ℕ) (a b old : List ℕ) → at ≤ length old → overwritten (at + length a) b (overwritten at a old) ≡ overwritten at (a ++ b) old
overwritten_twice at a b old within =
    let front = take at old ++ a in
    let rest = drop (at + length a) old in
    let reach : length front ≡ at + length a = length-append (take at old) a ∙ ap (λ (n : ℕ). n + length a) (simp length-take (omega arith)) in
    let end : at + length a + length b ≡ at + length (a ++ b) = omega (arith, length-append a b) in
    let behind : drop (at + length a + length b) (front ++ rest) ≡ drop (at + length (a ++ b)) old =
    sym (drop-drop (length b) (at + length a) (front ++ rest)) ∙ ap (drop (length b)) (drop_at front rest (at + length a) reach) ∙ drop-drop (length b) (at + length a) old ∙ ap (λ (n : ℕ). drop n old) end in
    ap (λ (l : List ℕ). l ++ b ++ drop (at + length a + length b) (front ++ rest)) (take_at front rest (at + length a) reach)
    ∙ ap (λ (l : List ℕ). front ++ b ++ l) behind
    ∙ ap (λ (l : List ℕ). l ++ drop (at + length (a ++ b)) old) (append_assoc (take at old) a b)

-- zeros up to the end of a write are written over
overwritten_padded : (at end : ℕ) (new old : List ℕ) → at ≤ length old → at + length new ≡ end → overwritten at new (padded end old) ≡ overwritten at new old
overwritten_padded at end new old within is = elim (cases_lt (length old) end) [
  | inl grows ↦
      let zeros : List ℕ = replicate (end - length old) 0 in
      let count : length zeros ≡ end - length old = length-replicate {A = ℕ} (end - length old) 0 in
      let long : length (padded end old) ≡ end = omega (arith, length-append old zeros, count, grows) in
      let nothing : drop (at + length new) (padded end old) ≡ drop (at + length new) old =
      drop_all (at + length new) (padded end old) (omega (arith, long, is)) ∙ sym (drop_all (at + length new) old (omega (arith, is, grows))) in
      ap (λ (l : List ℕ). l ++ new ++ drop (at + length new) (padded end old)) (take-append-le at old zeros within) ∙ ap (λ (l : List ℕ). take at old ++ new ++ l) nothing
  | inr stays ↦
      let none : end - length old ≡ 0 = omega arith in
      ap (overwritten at new) (ap (λ (n : ℕ). old ++ replicate n 0) none ∙ append-nil old)
]

pub three_pieces : (at : ℕ) (a b c old : List ℕ) → at ≤ length old
    → overwritten (at + length a + length b) c (overwritten (at + length a) b (overwritten at a (padded (at + (length a + length b + length c)) old))) ≡ overwritten at (a ++ b ++ c) old
three_pieces at a b c old within =
    let end = at + (length a + length b + length c) in
    let grown = padded end old in
    let inside : at ≤ length grown = omega (arith, within, length-append old (replicate (end - length old) 0)) in
    let third : at + length a + length b ≡ at + length (a ++ b) = omega (arith, length-append a b) in
    let whole : at + length (a ++ b ++ c) ≡ end = omega (arith, length-append (a ++ b) c, length-append a b) in
    ap (overwritten (at + length a + length b) c) (overwritten_twice at a b grown inside)
    ∙ ap (λ (n : ℕ). overwritten n c (overwritten at (a ++ b) grown)) third
    ∙ overwritten_twice at (a ++ b) c grown inside
    ∙ overwritten_padded at end (a ++ b ++ c) old within whole
