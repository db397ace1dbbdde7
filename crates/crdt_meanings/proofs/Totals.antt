-- A sum of amounts depends on no order.
use Rattle.std.proofs.Common.{◌≡◌, List, [], ◌∷◌, ◌++◌, refl, sym, ap, ◌∙◌, arith}
use Rattle.std.specs.Prelude.{ℤ, pos, ◌+ℤ◌}
use Rattle.std.specs.Int.{int_wrap, w128}
use Rattle.std.proofs.lemmas.Int.{ints}
use Rattle.crdt_core.specs.declared.kind.Kind.{Kind}
use Rattle.crdt_core.specs.declared.value.Value.TheVariants.{Int}
use Rattle.crdt_core.specs.Same.{Same}
use Rattle.crdt_core.specs.Seen.{Update}
use Rattle.crdt_core.proofs.Live.{lives_same}
use Rattle.crdt_meanings.specs.CounterMeaning.{amount, total_by, counter_meaning}

add_last : (a b c : ℤ) → ((a +ℤ b) +ℤ c) ≡ ((a +ℤ c) +ℤ b)
add_last a b c = omega (arith, ints)

add_both : (a b c : ℤ) → (a +ℤ (b +ℤ c)) ≡ ((a +ℤ b) +ℤ c)
add_both a b c = omega (arith, ints)

pub add_none : (a : ℤ) → a ≡ (a +ℤ pos 0)
add_none a = omega (arith, ints)

module _ {A : Type 0} (f : A → ℤ) where
  pub total_append : (xs ys : List A) → total_by f (xs ++ ys) ≡ total_by f ys +ℤ total_by f xs
  total_append [] ys = add_none (total_by f ys)
  total_append (x ∷ xs) ys = ap (λ z. z +ℤ f x) (total_append xs ys) ∙ sym (add_both (total_by f ys) (total_by f xs) (f x))

  pub total_same : (xs ys : List A) → Same xs ys → total_by f xs ≡ total_by f ys
  total_same [] ys s = ap (total_by f) (sym s)
  total_same (x ∷ xs) ys s =
      ap (λ z. z +ℤ f x) (total_same xs (s.0 ++ s.1) s.3 ∙ total_append s.0 s.1)
      ∙ add_last (total_by f s.1) (total_by f s.0) (f x)
      ∙ sym (ap (total_by f) s.2 ∙ total_append s.0 (x ∷ s.1))

pub nothing_wraps : int_wrap w128 (pos 0) ≡ pos 0
unfolding int_wrap
nothing_wraps = refl

pub counter_orderless : (k : Kind) (us vs : List Update) → Same us vs → counter_meaning k us ≡ counter_meaning k vs
counter_orderless k us vs s = ap (λ z. Int (int_wrap w128 z)) (total_same (λ u. amount u.act) _ _ (lives_same us vs s))
