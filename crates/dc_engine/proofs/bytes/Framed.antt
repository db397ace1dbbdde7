-- A reply that is written as a frame.
use Rattle.std.proofs.Common.{◌≡◌, ℕ, ◌+◌, ◌-◌, ◌≤◌, List, [], ◌++◌, length, take, drop, sym, ap, ◌∙◌, subst, arith, append_assoc, length-append, length-take, length-drop}
use Rattle.std.proofs.lemmas.List.{append-nil, take_all, drop_all, drop-drop}
use Rattle.std.proofs.Math.Seq.{take-append_seam, drop-append_seam, take-append-add}
use Rattle.byteorder.specs.Endian.{big_bytes}
use Rattle.dc_engine.specs.Format.{unended, in_frame}

-- bytes in place of as many, as a slice of them is given back
module _ (items head : List ℕ) (start : ℕ) (few : start + 4 ≤ length items) (four : length head ≡ 4) where
  abbrev as_given : List ℕ → List ℕ → List ℕ
  as_given buf post = take (length items) (take start items ++ (buf ++ post) ++ drop (length (take start items ++ (buf ++ post))) items)

  patched_same : (buf : List ℕ) → buf ≡ head ++ drop 4 (take (length items - start) (drop start items)) → as_given buf (drop (length items - start) (drop start items)) ≡ take start items ++ (head ++ drop (start + 4) items)
  patched_same buf e =
      let back : take (length items - start) (drop start items) ≡ drop start items = take_all (length items - start) (drop start items) (omega (arith, length-drop start items)) in
      let none : drop (length items - start) (drop start items) ≡ [] = drop_all (length items - start) (drop start items) (omega (arith, length-drop start items)) in
      let new = head ++ drop (start + 4) items in
      let is : buf ≡ new = e ∙ ap (λ l. head ++ drop 4 l) back ∙ ap (λ l. head ++ l) (drop-drop 4 start items) in
      let count : length (take start items ++ (new ++ [])) ≡ length items = omega (arith, length-append (take start items) (new ++ []), length-append new [], length-append head (drop (start + 4) items), length-take start items, length-drop (start + 4) items, four, few) in
      let end : drop (length (take start items ++ (new ++ []))) items ≡ [] = drop_all (length (take start items ++ (new ++ []))) items (omega (arith, count)) in
      (λ i. as_given (is i) (none i))
      ∙ ap (λ l. take (length items) (take start items ++ (new ++ []) ++ l)) end
      ∙ ap (take (length items)) (append-nil (take start items ++ (new ++ [])) ∙ ap (λ l. take start items ++ l) (append-nil new))
      ∙ take_all (length items) (take start items ++ new) (omega (arith, length-append (take start items) new, length-append new [], length-append (take start items) (new ++ []), count))

pub patched : (items o buf head : List ℕ) (count start : ℕ) → count ≡ length items → o ≡ items → start + 4 ≤ length items → length head ≡ 4 → buf ≡ head ++ drop 4 (take (length o - start) (drop start o)) →
    take count (take start o ++ (buf ++ drop (length o - start) (drop start o)) ++ drop (length (take start o ++ (buf ++ drop (length o - start) (drop start o)))) items) ≡ take start items ++ (head ++ drop (start + 4) items)
patched items o buf head count start n e few four b =
    ap (λ n. take n (take start o ++ (buf ++ drop (length o - start) (drop start o)) ++ drop (length (take start o ++ (buf ++ drop (length o - start) (drop start o)))) items)) n
    ∙ subst (λ o. (buf ≡ head ++ drop 4 (take (length o - start) (drop start o))) → take (length items) (take start o ++ (buf ++ drop (length o - start) (drop start o)) ++ drop (length (take start o ++ (buf ++ drop (length o - start) (drop start o)))) items) ≡ take start items ++ (head ++ drop (start + 4) items))
    (sym e) (patched_same items head start few four buf) b

-- the four bytes of a head, and behind them a line of which all but the last byte is kept
pub framed : (old zeros first second third new line : List ℕ) (size : ℕ) → length zeros ≡ 4 → first ≡ old ++ zeros → second ≡ first ++ line → size ≡ length second - length first - 1 → third ≡ take (length first + size) second
    → new ≡ take (length old) third ++ (big_bytes 4 size ++ drop (length old + 4) third) → new ≡ old ++ in_frame line
framed old zeros first second third new line size four f s n t w =
    let long : length first ≡ length old + 4 = omega (arith, ap length f, length-append old zeros, four) in
    let is : size ≡ length line - 1 = omega (arith, n, ap length s, length-append first line) in
    let all : third ≡ old ++ (zeros ++ take size line) = t ∙ ap (take (length first + size)) s ∙ take-append-add first line size ∙ ap (λ l. l ++ take size line) f ∙ append_assoc old zeros (take size line) in
    let front : take (length old) third ≡ old = ap (take (length old)) all ∙ take-append_seam old (zeros ++ take size line) in
    let both : third ≡ first ++ take size line = t ∙ ap (take (length first + size)) s ∙ take-append-add first line size in
    let back : drop (length old + 4) third ≡ take size line = (λ i. drop (sym long i) (both i)) ∙ drop-append_seam first (take size line) in
    let text : take size line ≡ unended line = ap (λ k. take k line) is in
    let count : size ≡ length (unended line) = omega (arith, is, length-take (length line - 1) line) in
    w ∙ (λ i. front i ++ (big_bytes 4 (count i) ++ (back ∙ text) i))
