-- A tree of std, seen as a finite map.
use Rattle.std.proofs.Common.{◌≡◌, List, length, ap, ◌∙◌}
use Rattle.std.specs.Prelude.{map}
use Rattle.std.specs.declared.cmp.Ordering.{Ordering}
use Rattle.std.specs.Cmp.{IsTotalOrder}
use Rattle.std.specs.List.Sorted.{IsStrictlySortedBy}
use Rattle.std.specs.Map.{keys_of}
use Rattle.std.specs.FinMap.{IsAntisymmetric, from_entries, keys, len, len-entries}
use Rattle.crdt_core.specs.MapLists.{entries_again}

module _ {K X : Type 0} {R : K → K → Ordering} (o : IsTotalOrder R) (same : IsAntisymmetric R) where
  pub keys_again : (es : List (K × X)) → IsStrictlySortedBy R (keys_of es) → keys (from_entries {R = R} es) ≡ keys_of es
  keys_again es h = ap (map (λ e. e.0)) (entries_again o same es h)

  pub len_again : (es : List (K × X)) → IsStrictlySortedBy R (keys_of es) → len (from_entries {R = R} es) ≡ length es
  len_again es h = len-entries (from_entries es) ∙ ap length (entries_again o same es h)
