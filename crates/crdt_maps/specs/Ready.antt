-- The effects that are generated of maps can be put, where those of the inner type can.
use Rattle.std.proofs.Common.{◌≡◌, Bool, true, false, cond, not, ◌&&◌, ℕ, List, [], ◌∷◌, ◌++◌, refl, sym, ◌∙◌, ap, subst, T, Option, Some, None}
use Rattle.std.specs.Prelude.{map, filter, Result, Ok, Err, IfOk}
use Rattle.std.specs.List.{flat_map, list_any, list_all}
use Rattle.std.specs.Ordering.{is_lt}
use Rattle.std.specs.FinMap.{get, get-entries, entries, entries_sorted, is_sorted}
use Rattle.std.specs.FinMap.Entries.{below_all}
use Rattle.std.proofs.lemmas.Bool.{false≢true, and_parts, and_from, or_left, or_right}
use Rattle.site_vector.specs.declared.ids.Dot.{Dot}
use Rattle.field_codec.specs.Spelling.{are_in_order}
use Rattle.crdt_core.specs.declared.kind.Kind.{Kind}
use Rattle.crdt_core.specs.declared.kind.Kind.TheVariants as kinds
use Rattle.crdt_core.specs.declared.object.Field.{Field}
use Rattle.crdt_core.specs.declared.operation.Act.{Act}
use Rattle.crdt_core.specs.declared.operation.Act.TheVariants as act
use Rattle.crdt_core.specs.declared.value.Value.{Value}
use Rattle.crdt_core.specs.Fits.{nests_in, fits}
use Rattle.crdt_core.specs.KindCodes.{same_kind_is}
use Rattle.crdt_core.specs.FieldOrder.{field_cmp}
use Rattle.crdt_core.specs.Seen.{Update}
use Rattle.crdt_core.specs.Law.{KeepsLaw}
use Rattle.crdt_core.specs.Spelled.{is_dot}
use Rattle.crdt_core.proofs.SetsLaws.{ascend_joined}
use Rattle.crdt_core.specs.EffectForm.{HoldsSpelled, IsReady, reset_tag, begins_with, sets_ascend}
use Rattle.crdt_meanings.specs.declared.maps.MapEffect.{MapEffect}
use Rattle.crdt_meanings.specs.declared.maps.MapEffect.TheVariants.{At, Resets}
use Rattle.crdt_meanings.specs.Maps.{FieldMap, at, map_kind, map_has, is_undone, resets_of, reset_by, map_made, map_too_deep, map_holds}
use Rattle.crdt_meanings.proofs.FieldHistory.{outer_fits, enters, own_act}
use Rattle.crdt_meanings.proofs.MapSteps.{some_found, held_here}
use Rattle.crdt_maps.specs.EffectForm.{may_nest, entry_below, map_can_put, map_sets, map_spelling, is_of_map}

-- an effect of a field that can be put, whose sets of updates ascend
abbrev pub is_ready_at : {E : Type 0} → (Kind → E → Bool) → (E → Bool) → (E → List (List Dot)) → Kind → E → Bool
is_ready_at is_of can_put sets k e = (is_of k e && can_put e) && sets_ascend (sets e)

-- the same of a reset, which begins as those of its kind do
abbrev pub is_reset_ready : {E : Type 0} → (Kind → E → Bool) → (E → Bool) → (E → List (List Dot)) → (E → List ℕ) → Field × E → Bool
is_reset_ready is_of can_put sets spelling x = begins_with (reset_tag x.0.kind) (spelling x.1) && is_ready_at is_of can_put sets x.0.kind x.1

-- so for each part of a map's effect
abbrev pub parts_ready : {E : Type 0} → (Kind → E → Bool) → (E → Bool) → (E → List (List Dot)) → (E → List ℕ) → MapEffect E → Bool
parts_ready is_of can_put sets spelling (At f e) = is_ready_at is_of can_put sets f.kind e
parts_ready is_of can_put sets spelling (Resets xs) = list_all (is_reset_ready is_of can_put sets spelling) xs

-- all that these fields hold has spellings
abbrev pub AllSpelled : {S : Type 0} → (S → Dot → Bool) → List (Field × S) → Type 0
AllSpelled holds es = (d : Dot) → list_any (λ e. holds e.1 d) es ≡ true → is_dot d ≡ true

pub first_spelled : {S : Type 0} (holds : S → Dot → Bool) (e : Field × S) (it es : List (Field × S)) → AllSpelled holds it → it ≡ e ∷ es → HoldsSpelled holds e.1
first_spelled holds e it es h i d k = h d (ap (list_any (λ e. holds e.1 d)) i ∙ or_left (holds e.1 d) _ k)

pub rest_spelled : {S : Type 0} (holds : S → Dot → Bool) (e : Field × S) (it es : List (Field × S)) → AllSpelled holds it → it ≡ e ∷ es → AllSpelled holds es
rest_spelled holds e it es h i d k = h d (ap (list_any (λ e. holds e.1 d)) i ∙ or_right (holds e.1 d) _ k)

pub field_spelled : {S E : Type 0} {has : Kind → Bool} {too_deep : Kind → List Field → Bool} {initial : Kind → S} {step : S → Dot → E → S} {made : Kind → S → List Field → Act → ℕ → E} {value_of : S → Value} {stamp_of : E → Option ℕ} {meaning : Kind → List Update → Value} {names : E → Dot → Bool} {holds : S → Dot → Bool} → KeepsLaw has too_deep initial step made value_of stamp_of meaning names holds
    → (m : FieldMap S) (f : Field) → has f.kind ≡ true → HoldsSpelled (map_holds holds) m → HoldsSpelled holds (at initial m f)
field_spelled inner m f known h d k = h d (held_here inner m f d known k)

-- of what stands at a field
pub found_spelled : {S : Type 0} (holds : S → Dot → Bool) (m : FieldMap S) (f : Field) (s : S) → get m f ≡ Some s → HoldsSpelled (map_holds holds) m → HoldsSpelled holds s
found_spelled holds m f s e h d k = h d (some_found field_cmp (λ s. holds s d) f s (entries m) (sym (get-entries m f) ∙ e) k)

-- what is ready of a whole object is so of a field
pub ready_at : {E X : Type 0} (is_of : Kind → E → Bool) (can_put : E → Bool) (sets : E → List (List Dot)) (spelling : E → List ℕ) (k : Kind) (p : List Field) (a : Act) (r : Result E X)
    → IfOk r (λ e. IsReady is_of can_put sets spelling k p a e) → IfOk r (λ e. is_ready_at is_of can_put sets k e ≡ true)
ready_at is_of can_put sets spelling k p a (Ok e) h = and_from _ _ (and_from _ _ h.kind h.fit) h.sets
ready_at is_of can_put sets spelling k p a (Err x) h = tt

all_end : {A : Type 0} (p : A → Bool) (xs : List A) (x : A) → list_all p xs ≡ true → p x ≡ true → list_all p (xs ++ x ∷ []) ≡ true
all_end p [] x h k = and_from _ _ k refl
all_end p (y ∷ ys) x h k = let two = and_parts (p y) (list_all p ys) h in and_from _ _ two.0 (all_end p ys x two.1 k)

-- a reset that is ready, at the end of a list of such
pub reset_pushed : {E : Type 0} (is_of : Kind → E → Bool) (can_put : E → Bool) (sets : E → List (List Dot)) (spelling : E → List ℕ) (f g : Field) (e : E) → g ≡ f → IsReady is_of can_put sets spelling f.kind [] act.Reset e
    → (xs ys : List (Field × E)) → ys ≡ xs ++ (g, e) ∷ [] → list_all (is_reset_ready is_of can_put sets spelling) xs ≡ true → list_all (is_reset_ready is_of can_put sets spelling) ys ≡ true
reset_pushed is_of can_put sets spelling f g e same r xs ys put all =
    let own = subst (λ x. is_reset_ready is_of can_put sets spelling (x, e) ≡ true) (sym same) (and_from _ _ (r.opened refl) (and_from _ _ (and_from _ _ r.kind r.fit) r.sets)) in
    ap (list_all (is_reset_ready is_of can_put sets spelling)) put ∙ all_end (is_reset_ready is_of can_put sets spelling) xs (g, e) all own

all_both : {A : Type 0} (p q : A → Bool) (xs : List A) → list_all p xs ≡ true → list_all q xs ≡ true → list_all (λ x. p x && q x) xs ≡ true
all_both p q [] h k = refl
all_both p q (x ∷ xs) h k =
    let a = and_parts (p x) (list_all p xs) h in
    let b = and_parts (q x) (list_all q xs) k in
    and_from _ _ (and_from _ _ a.0 b.0) (all_both p q xs a.1 b.1)

-- resets that can be put
abbrev resets_put : {E : Type 0} → (Kind → E → Bool) → (E → Bool) → (E → List ℕ) → Field × E → Bool
resets_put is_of can_put spelling x = begins_with (reset_tag x.0.kind) (spelling x.1) && (is_of x.0.kind x.1 && can_put x.1)

resets_ready : {E : Type 0} (is_of : Kind → E → Bool) (can_put : E → Bool) (sets : E → List (List Dot)) (spelling : E → List ℕ) (xs : List (Field × E)) → list_all (is_reset_ready is_of can_put sets spelling) xs ≡ true
    → (list_all (resets_put is_of can_put spelling) xs ≡ true) × (sets_ascend (flat_map (λ x. sets x.1) xs) ≡ true)
resets_ready is_of can_put sets spelling [] h = (refl, refl)
resets_ready is_of can_put sets spelling (x ∷ xs) h =
    let all = and_parts (is_reset_ready is_of can_put sets spelling x) _ h in
    let one = and_parts (begins_with (reset_tag x.0.kind) (spelling x.1)) _ all.0 in
    let two = and_parts (is_of x.0.kind x.1 && can_put x.1) (sets_ascend (sets x.1)) one.1 in
    let others = resets_ready is_of can_put sets spelling xs all.1 in
    (and_from _ _ (and_from _ _ one.0 two.0) others.0, ascend_joined (sets x.1) (flat_map (λ x. sets x.1) xs) two.1 others.1)

is_so : (b : Bool) → T b → b ≡ true
is_so true h = refl
is_so false h = absurd h

so_is : (b : Bool) → b ≡ true → T b
so_is b h = subst T (sym h) tt

turned : (a b c : Bool) → (a && (b && c)) ≡ true → (b && a) ≡ true
turned true true c h = refl
turned true false c h = h
turned false b c h = absurd (false≢true h)

module _ {S E : Type 0} (has : Kind → Bool) (initial : Kind → S) (made : Kind → S → List Field → Act → ℕ → E) (is_blank : S → Bool) where
  abbrev resets : ℕ → List (Field × S) → List (Field × E)
  resets n es = resets_of has made is_blank n es

  abbrev reset_made : ℕ → Field × S → Field × E
  reset_made n e = (e.0, made e.0.kind e.1 [] act.Reset n)

  -- resets stand in the order of their fields
  in_order : (n : ℕ) (before : Field × E) (es : List (Field × S)) → below_all field_cmp before.0 es ≡ true → is_sorted field_cmp es ≡ true → are_in_order entry_below (Some before) (resets n es) ≡ true
  in_order n before [] below sorted = refl
  in_order n before (e ∷ es) below sorted =
      let low = and_parts (is_lt (field_cmp before.0 e.0)) _ below in
      let two = and_parts (below_all field_cmp e.0 es) _ sorted in
      elim (is_undone has is_blank e) as (λ b. are_in_order entry_below (Some before) (map (reset_made n) (cond b (e ∷ filter (is_undone has is_blank) es) (filter (is_undone has is_blank) es))) ≡ true) [
        | true ↦ and_from _ _ low.0 (in_order n (reset_made n e) es two.0 two.1)
        | false ↦ in_order n before es low.1 two.1
      ]

  all_in_order : (n : ℕ) (es : List (Field × S)) → is_sorted field_cmp es ≡ true → are_in_order entry_below None (resets n es) ≡ true
  all_in_order n [] sorted = refl
  all_in_order n (e ∷ es) sorted =
      let two = and_parts (below_all field_cmp e.0 es) _ sorted in
      elim (is_undone has is_blank e) as (λ b. are_in_order entry_below None (map (reset_made n) (cond b (e ∷ filter (is_undone has is_blank) es) (filter (is_undone has is_blank) es))) ≡ true) [
        | true ↦ in_order n (reset_made n e) es two.0 two.1
        | false ↦ all_in_order n es two.1
      ]

  -- and are of kinds that may stand there
  all_may_nest : (n : ℕ) (es : List (Field × S)) → list_all (λ x. may_nest kinds.MapRr has x.0.kind) (resets n es) ≡ true
  all_may_nest n [] = refl
  all_may_nest n (e ∷ es) =
      elim (is_undone has is_blank e) as (λ b. is_undone has is_blank e ≡ b → list_all (λ x. may_nest kinds.MapRr has x.0.kind) (map (reset_made n) (cond b (e ∷ filter (is_undone has is_blank) es) (filter (is_undone has is_blank) es))) ≡ true) [
        | true ↦ λ t. and_from _ _ (turned (has e.0.kind) (nests_in kinds.MapRr e.0.kind) (not (is_blank e.1)) t) (all_may_nest n es)
        | false ↦ λ t. all_may_nest n es
      ] refl

  acts_sorted : (m : FieldMap S) (a : Act) → is_sorted field_cmp (reset_by initial m a) ≡ true
  acts_sorted m act.Reset = is_so _ (entries_sorted m)
  acts_sorted m (act.DropField f) = refl
  acts_sorted m _ = refl

  module _ (too_deep : Kind → List Field → Bool) (is_of : Kind → E → Bool) (can_put : E → Bool) (sets : E → List (List Dot)) (spelling : E → List ℕ) where
    abbrev effect : Kind → FieldMap S → List Field → Act → ℕ → MapEffect E
    effect k m p a n = map_made has initial made is_blank k m p a n

    entered_ready : (k : Kind) (m : FieldMap S) (f : Field) (p : List Field) (a : Act) (n : ℕ) → outer_fits has too_deep k (f ∷ p) a ≡ true → (is_of f.kind (made f.kind (at initial m f) p a n) && can_put (made f.kind (at initial m f) p a n)) ≡ true
        → (may_nest k has f.kind && (is_of f.kind (made f.kind (at initial m f) p a n) && can_put (made f.kind (at initial m f) p a n))) ≡ true
    entered_ready k m f p a n fit h = let e = enters has too_deep k f p a fit in and_from _ _ (and_from _ _ e.nests e.known) h

    abbrev Ready : Bool → Kind → List Field → Act → MapEffect E → Type 0
    Ready drops k p a e = IsReady is_of_map (map_can_put drops has is_of can_put spelling) (map_sets sets) (map_spelling drops spelling) k p a e

    at_ready : (drops : Bool) (m : FieldMap S) (p : List Field) (a : Act) (n : ℕ) → outer_fits has too_deep (map_kind drops) p a ≡ true → parts_ready is_of can_put sets spelling (effect (map_kind drops) m p a n) ≡ true
        → Ready drops (map_kind drops) p a (effect (map_kind drops) m p a n)
    at_ready false m [] a n fit h = absurd (false≢true (own_act has too_deep kinds.MapGo a fit))
    at_ready true m [] a n fit h =
        let es = reset_by initial m a in
        let ready = resets_ready is_of can_put sets spelling (resets n es) h in
        record {
          kind = refl;
          fit = and_from _ _ (all_in_order n es (acts_sorted m a)) (all_both (λ x. may_nest kinds.MapRr has x.0.kind) (resets_put is_of can_put spelling) (resets n es) (all_may_nest n es) ready.0);
          sets = ready.1;
          opened = λ asked. refl;
        }
    at_ready drops m (f ∷ p) a n fit h =
        let two = and_parts _ (sets_ascend (sets (made f.kind (at initial m f) p a n))) h in
        record { kind = refl; fit = entered_ready (map_kind drops) m f p a n fit two.0; sets = two.1; opened = λ asked. absurd (false≢true asked) }

    abbrev IsReadyAt : Bool → Kind → FieldMap S → List Field → Act → ℕ → Type 0
    IsReadyAt drops k m p a n = outer_fits has too_deep k p a ≡ true → parts_ready is_of can_put sets spelling (effect k m p a n) ≡ true → Ready drops k p a (effect k m p a n)

    -- what is generated of a map can be put
    pub map_ready : {X : Type 0} (drops : Bool) (k : Kind) → map_has drops k ≡ true → (m : FieldMap S) (p : List Field) (a : Act) (n : ℕ) → fits k p a ≡ true → map_too_deep has too_deep k p ≡ false → (r : Result (MapEffect E) X)
        → IfOk r (λ e. e ≡ effect k m p a n) → IfOk r (λ e. parts_ready is_of can_put sets spelling e ≡ true)
        → IfOk r (λ e. IsReady is_of_map (map_can_put drops has is_of can_put spelling) (map_sets sets) (map_spelling drops spelling) k p a e)
    map_ready drops k is m p a n fit shallow (Ok e) same h =
        subst (Ready drops k p a) (sym same)
        (subst (λ l. IsReadyAt drops l m p a n) (sym (same_kind_is k (map_kind drops) is)) (at_ready drops m p a n) (and_from _ _ fit (ap not shallow)) (ap (parts_ready is_of can_put sets spelling) (sym same) ∙ h))
    map_ready drops k is m p a n fit shallow (Err x) same h = tt
