-- A finite map without entries.
use Rattle.std.proofs.Common.{◌≡◌, true, false, List, [], ◌∷◌, refl, sym, ap, ◌∙◌, length, arith}
use Rattle.std.specs.Prelude.{map, ◌==◌}
use Rattle.std.specs.declared.cmp.Ordering.{Ordering}
use Rattle.std.proofs.lemmas.Bool.{eqb-true}
use Rattle.std.specs.FinMap.{FinMap, empty, keys, entries, len, len-entries, len-empty}
use Rattle.site_vector.specs.Order.{dot_cmp}
use Rattle.crdt_core.specs.declared.kind.Kind.{Kind}
use Rattle.crdt_core.specs.declared.kind.Kind.TheVariants.{MapRr}
use Rattle.crdt_core.specs.Kinds.{same_kind}
use Rattle.crdt_core.specs.Fits.{nests_in}
use Rattle.crdt_core.specs.KindCodes.{same_kind_is}
use Rattle.crdt_core.specs.Kept.{KeptAt, without, keeps_none}
use Rattle.crdt_core.proofs.KeptSteps.{without_none}

no_length : {A : Type 0} (xs : List A) → length xs ≡ 0 → xs ≡ []
no_length [] h = refl
no_length (x ∷ xs) h = absurd (omega arith)

pub empty_none : {K : Type 0} (R : K → K → Ordering) (X : Type 0) → (len (empty {X = X} {R = R}) == 0) ≡ true
empty_none R X = ap (λ n. n == 0) (len-empty R X)

module _ {K X : Type 0} {R : K → K → Ordering} where
  pub no_entries : (m : FinMap R X) → (len m == 0) ≡ true → entries m ≡ []
  no_entries m h = no_length (entries m) (sym (len-entries m) ∙ eqb-true (len m) 0 h)

  pub no_keys : (m : FinMap R X) → (len m == 0) ≡ true → keys m ≡ []
  no_keys m h = ap (map (λ e. e.0)) (no_entries m h)

-- to take out the dots of nothing leaves all
pub without_blank : {V : Type 0} (s t : KeptAt V) → keeps_none s ≡ true → without t (keys s) ≡ t
without_blank s t h = ap (without t) (no_keys s h) ∙ without_none t

pub empty_kept : (V : Type 0) → keeps_none {V = V} empty ≡ true
empty_kept V = empty_none dot_cmp V

-- a kind that may not stand in a map that resets
pub never_reset : (k l : Kind) → same_kind k l ≡ true → nests_in MapRr l ≡ false → nests_in MapRr k ≡ true → true ≡ false
never_reset k l is out h = sym h ∙ ap (nests_in MapRr) (same_kind_is k l is) ∙ out
