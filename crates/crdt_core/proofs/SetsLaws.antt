-- The sets of several parts, one behind the other.
use Rattle.std.proofs.Common.{◌≡◌, Bool, true, false, ◌||◌, List, [], ◌∷◌, ◌++◌, refl, ap, ◌∙◌}
use Rattle.std.specs.List.{flat_map, list_any}
use Rattle.field_codec.specs.FormLaws.{both_true, and_true}
use Rattle.site_vector.specs.declared.ids.Dot.{Dot}
use Rattle.crdt_core.specs.DotSet.{has_dot}
use Rattle.crdt_core.specs.Spelled.{ascend}
use Rattle.crdt_core.specs.EffectForm.{sets_ascend}
use Rattle.crdt_core.specs.NamedDots.{have_update}

pub or_none : (b : Bool) → (b || false) ≡ b
or_none true = refl
or_none false = refl

or_both : (a b c : Bool) → (a || (b || c)) ≡ ((a || b) || c)
or_both true b c = refl
or_both false b c = refl

update_joined : (front back : List (List Dot)) (d : Dot) → have_update (front ++ back) d ≡ (have_update front d || have_update back d)
update_joined [] back d = refl
update_joined (ds ∷ front) back d = ap (λ b. has_dot ds d || b) (update_joined front back d) ∙ or_both (has_dot ds d) (have_update front d) (have_update back d)

pub ascend_joined : (front back : List (List Dot)) → sets_ascend front ≡ true → sets_ascend back ≡ true → sets_ascend (front ++ back) ≡ true
ascend_joined [] back h k = k
ascend_joined (ds ∷ front) back h k = let p = both_true (ascend ds) (sets_ascend front) h in and_true (ascend ds) (sets_ascend (front ++ back)) p.0 (ascend_joined front back p.1 k)

-- of a list
pub update_of_list : {A : Type 0} (sets : A → List (List Dot)) (xs : List A) (d : Dot) → have_update (flat_map sets xs) d ≡ list_any (λ x. have_update (sets x) d) xs
update_of_list sets [] d = refl
update_of_list sets (x ∷ xs) d = update_joined (sets x) (flat_map sets xs) d ∙ ap (λ b. have_update (sets x) d || b) (update_of_list sets xs d)
