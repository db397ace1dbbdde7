-- What a state holds is what its generated effects name, so these can be put where all that it holds has a spelling.
use Rattle.std.proofs.Common.{◌≡◌, Bool, true, false, List, [], ◌∷◌, refl, sym, ◌∙◌, subst, T, None}
use Rattle.std.specs.Prelude.{map}
use Rattle.std.specs.declared.cmp.Ordering.{Ordering}
use Rattle.std.specs.FinMap.{FinMap, keys, entries, entries_sorted, is_sorted}
use Rattle.std.specs.FinMap.Entries.{below_all}
use Rattle.std.proofs.lemmas.Bool.{or_left, or_right}
use Rattle.site_vector.specs.declared.ids.Dot.{Dot}
use Rattle.site_vector.specs.Ids.{same_dot}
use Rattle.site_vector.specs.Order.{same_dot_refl}
use Rattle.field_codec.specs.Spelling.{are_in_order, is_below}
use Rattle.field_codec.specs.FormLaws.{both_true, and_true}
use Rattle.crdt_core.specs.DotSet.{has_dot}
use Rattle.crdt_core.specs.Kept.{KeptAt, dots_of, is_kept}
use Rattle.crdt_core.proofs.KeptSteps.{has_dots_of}
use Rattle.crdt_core.specs.Spelled.{is_dot, are_dots, ascend}
use Rattle.crdt_core.specs.EffectForm.{HoldsSpelled}

is_true : (b : Bool) → T b → b ≡ true
is_true true h = refl
is_true false h = absurd h

-- the keys of a map ascend
keys_ordered : {K X : Type 0} (R : K → K → Ordering) (es : List (K × X)) → T (is_sorted R es) → are_in_order (is_below R) None (map (λ e. e.0) es) ≡ true
keys_ordered R [] h = refl
keys_ordered R (e ∷ []) h = refl
keys_ordered R (e ∷ f ∷ es) h =
    let p = both_true (below_all R e.0 (f ∷ es)) (is_sorted R (f ∷ es)) (is_true (is_sorted R (e ∷ f ∷ es)) h) in
    let first = (both_true (is_below R e.0 f.0) (below_all R e.0 es) p.0).0 in
    and_true (is_below R e.0 f.0) _ first (keys_ordered R (f ∷ es) (subst T (sym p.1) tt))

pub keys_in_order : {K X : Type 0} {R : K → K → Ordering} (m : FinMap R X) → are_in_order (is_below R) None (keys m) ≡ true
keys_in_order {R = R} m = keys_ordered R (entries m) (entries_sorted m)

members_spelled : (ds : List Dot) → ((d : Dot) → has_dot ds d ≡ true → is_dot d ≡ true) → are_dots ds ≡ true
members_spelled [] h = refl
members_spelled (d ∷ ds) h = and_true (is_dot d) (are_dots ds) (h d (or_left (same_dot d d) (has_dot ds d) (same_dot_refl d))) (members_spelled ds (λ x m. h x (or_right (same_dot x d) (has_dot ds x) m)))

pub kept_spelled : {V : Type 0} (s : KeptAt V) → HoldsSpelled is_kept s → are_dots (dots_of s) ≡ true
kept_spelled s h = members_spelled (dots_of s) (λ d m. h d (sym (has_dots_of s d) ∙ m))

pub kept_ascend : {V : Type 0} (s : KeptAt V) → ascend (dots_of s) ≡ true
kept_ascend s = keys_in_order s
