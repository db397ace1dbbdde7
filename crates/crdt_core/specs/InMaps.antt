-- What a kind owes to a map around it.
use Rattle.std.specs.Prelude.{◌≡◌, ℕ, Bool, true, false, List, []}
use Rattle.site_vector.specs.declared.ids.Dot.{Dot}
use Rattle.crdt_core.specs.declared.kind.Kind.{Kind}
use Rattle.crdt_core.specs.declared.kind.Kind.TheVariants.{MapRr}
use Rattle.crdt_core.specs.declared.object.Field.{Field}
use Rattle.crdt_core.specs.declared.operation.Act.{Act}
use Rattle.crdt_core.specs.declared.operation.Act.TheVariants.{Reset}
use Rattle.crdt_core.specs.Fits.{nests_in, is_map}

pub record KeepsInMaps {S E : Type 0} (has : Kind → Bool) (too_deep : Kind → List Field → Bool) (initial : Kind → S) (applied : S → Dot → E → S) (generated : Kind → S → List Field → Act → ℕ → E) (is_blank : S → Bool) : Type 0 where
  -- the state of no update is blank
  pub first_blank : (k : Kind) → has k ≡ true → is_blank (initial k) ≡ true
  -- a reset of what is blank undoes nothing
  pub undoes_none : (k : Kind) (s t : S) (d : Dot) (n : ℕ) → has k ≡ true → nests_in MapRr k ≡ true → is_blank s ≡ true → applied t d (generated k s [] Reset n) ≡ t
  -- a path without fields leads to the object itself
  pub shallow : (k : Kind) → too_deep k [] ≡ false
  -- a kind without fields is never too deep
  pub flat : (k : Kind) (p : List Field) → has k ≡ true → is_map k ≡ false → too_deep k p ≡ false
