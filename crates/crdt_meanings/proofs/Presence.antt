-- The fields that stand in a map are those that were updated.
use Rattle.std.proofs.Common.{◌≡◌, ℕ, Bool, true, false, cond, not, ◌&&◌, ◌||◌, List, [], ◌∷◌, Option, Some, None, refl, sym, ap, ◌∙◌, subst, ⊎_elim}
use Rattle.std.specs.Prelude.{map, filter, is_some, unwrap_or}
use Rattle.std.specs.List.{list_any}
use Rattle.std.specs.FinMap.{get, entries, get-empty, get-entries}
use Rattle.std.proofs.lemmas.Bool.{true≢false, and_parts, or_cases, or_left, or_right}
use Rattle.site_vector.specs.declared.ids.Dot.{Dot}
use Rattle.crdt_core.specs.declared.kind.Kind.{Kind}
use Rattle.crdt_core.specs.declared.kind.Kind.TheVariants.{MapRr}
use Rattle.crdt_core.specs.declared.object.Field.{Field}
use Rattle.crdt_core.specs.declared.operation.Act.{Act}
use Rattle.crdt_core.specs.declared.operation.Act.TheVariants as act
use Rattle.crdt_core.specs.Kinds.{same_field}
use Rattle.crdt_core.specs.Fits.{nests_in}
use Rattle.crdt_core.specs.Seen.{Update, sees}
use Rattle.crdt_core.specs.Law.{all_fit}
use Rattle.crdt_core.specs.InMaps.{KeepsInMaps}
use Rattle.crdt_core.specs.FieldOrder.{field_cmp, field_ties, same_field_is}
use Rattle.crdt_meanings.specs.Maps.{FieldMap, at, listed, is_undone, resets_of, reset_by, map_step, map_made, map_too_deep}
use Rattle.crdt_meanings.specs.MapMeaning.{with_some, entered, updated}
use Rattle.crdt_meanings.proofs.FieldSteps.{found, present_each}
use Rattle.crdt_meanings.proofs.FieldHistory.{outer_fits, enters}
use Rattle.crdt_meanings.proofs.FieldFold.{outer, outer_more}

-- a field among these
abbrev pub among : Field → List Field → Bool
among f gs = list_any (same_field f) gs

-- one more update, and the fields that were updated
among_entered : (has : Kind → Bool) (f g : Field) (p : List Field) (gs : List Field) → among f (with_some (entered has (g ∷ p)) gs) ≡ ((has g.kind && same_field f g) || among f gs)
among_entered has f g p gs = elim (has g.kind) as (λ b. among f (with_some (cond b (Some g) None) gs) ≡ ((b && same_field f g) || among f gs)) [ true ↦ refl | false ↦ refl ]

both_so : (a b : Bool) → (a ≡ true → b ≡ true) → (b ≡ true → a ≡ true) → a ≡ b
both_so true b f g = sym (f refl)
both_so false true f g = g refl
both_so false false f g = refl

drop_false : (a : Bool) → (a || false) ≡ a
drop_false true = refl
drop_false false = refl

-- the updated fields are of kinds that the inner type has, and may stand in the map
module _ (has : Kind → Bool) (too_deep : Kind → List Field → Bool) (k : Kind) (f : Field) where
  may_enter : (p : List Field) (a : Act) (gs : List Field) → outer_fits has too_deep k p a ≡ true → (among f gs ≡ true → (has f.kind ≡ true) × (nests_in k f.kind ≡ true)) → among f (with_some (entered has p) gs) ≡ true → (has f.kind ≡ true) × (nests_in k f.kind ≡ true)
  may_enter [] a gs fit rest h = rest h
  may_enter (g ∷ p) a gs fit rest h = ⊎_elim
      (λ here. let two = and_parts (has g.kind) _ here in subst (λ l. (has l.kind ≡ true) × (nests_in k l.kind ≡ true)) (sym (same_field_is f g two.1)) (two.0, (enters has too_deep k g p a fit).nests))
      rest
      (or_cases (has g.kind && same_field f g) (among f gs) (sym (among_entered has f g p gs) ∙ h))

  pub may_nest : (us : List Update) → all_fit (map_too_deep has too_deep) k us ≡ true → among f (updated has us) ≡ true → (has f.kind ≡ true) × (nests_in k f.kind ≡ true)
  may_nest [] fit h = absurd (true≢false (sym h))
  may_nest (u ∷ us) fit h = let two = and_parts (outer_fits has too_deep k u.path u.act) _ fit in may_enter u.path u.act (updated has us) two.0 (may_nest us two.1) h

module _ {S E : Type 0} {has : Kind → Bool} {too_deep : Kind → List Field → Bool} {initial : Kind → S} {step : S → Dot → E → S} {made : Kind → S → List Field → Act → ℕ → E} {is_blank : S → Bool} (owed : KeepsInMaps has too_deep initial step made is_blank) (k : Kind) (f : Field) where
  abbrev names_field : List (Field × E) → Bool
  names_field xs = list_any (λ x. has x.0.kind && same_field f x.0) xs

  -- a reset names only fields that stand
  resets_found : (n : ℕ) (es : List (Field × S)) → names_field (resets_of has made is_blank n es) ≡ true → is_some (found f es) ≡ true
  resets_found n [] h = h
  resets_found n (e ∷ es) h =
      let reset : Field × S → Field × E = λ e. (e.0, made e.0.kind e.1 [] act.Reset n) in
      let later : is_some (found f es) ≡ true → is_some (found f (e ∷ es)) ≡ true = λ r. ap is_some (ap (λ b. cond b (Some e.1) (found f es)) (sym (field_ties f e.0))) ∙ elim (same_field f e.0) as (λ b. is_some (cond b (Some e.1) (found f es)) ≡ true) [ true ↦ refl | false ↦ r ] in
      let first : same_field f e.0 ≡ true → is_some (found f (e ∷ es)) ≡ true = λ t. ap is_some (ap (λ b. cond b (Some e.1) (found f es)) (sym (field_ties f e.0) ∙ t)) in
      elim (is_undone has is_blank e) as (λ b. names_field (map reset (cond b (e ∷ filter (is_undone has is_blank) es) (filter (is_undone has is_blank) es))) ≡ true → is_some (found f (e ∷ es)) ≡ true) [
        | true ↦ λ k. ⊎_elim (λ one. first (and_parts (has e.0.kind) _ one).1) (λ rest. later (resets_found n es rest)) (or_cases (has e.0.kind && same_field f e.0) _ k)
        | false ↦ λ k. later (resets_found n es k)
      ] h

  not_blank : (g : Field) (o : Option S) → is_undone has is_blank (g, unwrap_or o (initial g.kind)) ≡ true → is_some o ≡ true
  not_blank g (Some x) h = refl
  not_blank g None h =
      let one = and_parts (has g.kind) _ h in
      let two = and_parts (nests_in MapRr g.kind) _ one.1 in
      absurd (true≢false (sym two.1 ∙ ap not (owed.first_blank g.kind one.0)))

  drop_found : (n : ℕ) (g : Field) (m : FieldMap S) → names_field (resets_of has made is_blank n ((g, at initial m g) ∷ [])) ≡ true → is_some (get m f) ≡ true
  drop_found n g m h =
      let reset : Field × S → Field × E = λ e. (e.0, made e.0.kind e.1 [] act.Reset n) in
      elim (is_undone has is_blank (g, at initial m g)) as (λ b. is_undone has is_blank (g, at initial m g) ≡ b → names_field (map reset (cond b ((g, at initial m g) ∷ []) [])) ≡ true → is_some (get m f) ≡ true) [
        | true ↦ λ e k. let one = and_parts (has g.kind) _ (sym (drop_false (has g.kind && same_field f g)) ∙ k) in ap (λ l. is_some (get m l)) (same_field_is f g one.1) ∙ not_blank g (get m g) e
        | false ↦ λ e k. absurd (true≢false (sym k))
      ] refl h

  acts_found : (n : ℕ) (m : FieldMap S) (a : Act) → names_field (resets_of has made is_blank n (reset_by initial m a)) ≡ true → is_some (get m f) ≡ true
  acts_found n m act.Reset h = ap is_some (get-entries m f) ∙ resets_found n (entries m) h
  acts_found n m (act.DropField g) h = drop_found n g m h
  acts_found n m _ h = absurd (true≢false (sym h))

  -- what an update names was updated, or stood in what it has seen
  named_before : (n : ℕ) (m : FieldMap S) (p : List Field) (a : Act) (gs : List Field) → (is_some (get m f) ≡ true → among f gs ≡ true) → names_field (listed (map_made has initial made is_blank k m p a n)) ≡ true → among f (with_some (entered has p) gs) ≡ true
  named_before n m [] a gs saw h = saw (acts_found n m a h)
  named_before n m (g ∷ p) a gs saw h = among_entered has f g p gs ∙ or_left _ (among f gs) (sym (drop_false (has g.kind && same_field f g)) ∙ h)

  was_before : (p : List Field) (gs : List Field) → among f gs ≡ true → among f (with_some (entered has p) gs) ≡ true
  was_before [] gs h = h
  was_before (g ∷ p) gs h = among_entered has f g p gs ∙ or_right (has g.kind && same_field f g) _ h

  present_if : (us : List Update) (p : Dot → Bool) → is_some (get (outer owed k p us) f) ≡ true → among f (updated has us) ≡ true
  present_if [] p h = absurd (true≢false (sym h ∙ ap is_some (get-empty field_cmp f)))
  present_if (u ∷ us) p h =
      let before = outer owed k p us in
      let saw = outer owed k (sees u) us in
      let e = map_made has initial made is_blank k saw u.path u.act u.now in
      elim (p u.dot) as (λ b. is_some (get (cond b (map_step has initial step before u.dot e) before) f) ≡ true → among f (with_some (entered has u.path) (updated has us)) ≡ true) [
        | true ↦ λ s. ⊎_elim
            (named_before u.now saw u.path u.act (updated has us) (present_if us (sees u)))
            (λ old. was_before u.path (updated has us) (present_if us p old))
            (or_cases (names_field (listed e)) _ (sym (present_each has initial step (listed e) before u.dot f) ∙ s))
        | false ↦ λ s. was_before u.path (updated has us) (present_if us p s)
      ] (sym (ap (λ m. is_some (get m f)) (outer_more owed k p u us)) ∙ h)

  enters_now : (n : ℕ) (m : FieldMap S) (p : List Field) (a : Act) (gs : List Field) (b : Bool) → (among f gs ≡ true → b ≡ true) → among f (with_some (entered has p) gs) ≡ true → (names_field (listed (map_made has initial made is_blank k m p a n)) || b) ≡ true
  enters_now n m [] a gs b rest h = or_right (names_field (listed (map_made has initial made is_blank k m [] a n))) b (rest h)
  enters_now n m (g ∷ p) a gs b rest h = ⊎_elim
      (λ here. or_left _ b (drop_false (has g.kind && same_field f g) ∙ here))
      (λ old. or_right (names_field (listed (map_made has initial made is_blank k m (g ∷ p) a n))) b (rest old))
      (or_cases (has g.kind && same_field f g) (among f gs) (sym (among_entered has f g p gs) ∙ h))

  abbrev all : Dot → Bool
  all d = true

  present_then : (us : List Update) → among f (updated has us) ≡ true → is_some (get (outer owed k all us) f) ≡ true
  present_then [] h = absurd (true≢false (sym h))
  present_then (u ∷ us) h =
      let saw = outer owed k (sees u) us in
      let e = map_made has initial made is_blank k saw u.path u.act u.now in
      present_each has initial step (listed e) (outer owed k all us) u.dot f ∙ enters_now u.now saw u.path u.act (updated has us) _ (present_then us) h

  pub present_updated : (us : List Update) → is_some (get (outer owed k all us) f) ≡ among f (updated has us)
  present_updated us = both_so _ _ (present_if us all) (present_then us)
