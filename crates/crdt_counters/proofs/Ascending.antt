-- Keys that come in their order.
use Rattle.std.proofs.Common.{◌≡◌, List, [], ◌∷◌, ◌++◌, refl, sym, ap, ◌∙◌, subst, append_assoc}
use Rattle.std.specs.List.{AllByRecursion}
use Rattle.std.specs.List.Sorted.{IsStrictlySortedBy}
use Rattle.std.specs.declared.cmp.Ordering.{Ordering}
use Rattle.std.specs.Ordering.{ordering_reverse, match_ordering}
use Rattle.std.specs.Cmp.{IsTotalOrder}
use Rattle.std.specs.BTreeSet.{insert_key}

module _ {K : Type 0} where
  one_of : (P : K → Type 0) (ks : List K) (k : K) (rest : List K) → AllByRecursion P (ks ++ k ∷ rest) → P k
  one_of P [] k rest a = a.0
  one_of P (x ∷ ks) k rest a = one_of P ks k rest a.1

module _ {K : Type 0} {R : K → K → Ordering} (o : IsTotalOrder R) where
  -- a key above all others comes last
  last : (ks : List K) (k : K) (rest : List K) → IsStrictlySortedBy R (ks ++ k ∷ rest)
      → insert_key R ks k ≡ ks ++ k ∷ []
  unfolding IsStrictlySortedBy
  last [] k rest s = refl
  last (x ∷ ks) k rest s =
      let above = o.antisymm k x ∙ ap ordering_reverse (one_of _ ks k rest s.0) in
      ap (λ r. match_ordering r (k ∷ x ∷ ks) (x ∷ ks) (x ∷ insert_key R ks k)) above
      ∙ ap (λ l. x ∷ l) (last ks k rest s.1)

  -- with one key more put in, the keys so far and those of the rest are all
  pub one_more : (all so_far it : List K) (k : K) (rest new : List K) → IsStrictlySortedBy R all
      → it ≡ k ∷ rest → so_far ++ it ≡ all → new ≡ insert_key R so_far k → new ++ rest ≡ all
  one_more all so_far it k rest new s e h n =
      let split = ap (λ l. so_far ++ l) (sym e) ∙ h in
      let placed = n ∙ last so_far k rest (subst (IsStrictlySortedBy R) (sym split) s) in
      ap (λ l. l ++ rest) placed ∙ append_assoc so_far (k ∷ []) rest ∙ split
