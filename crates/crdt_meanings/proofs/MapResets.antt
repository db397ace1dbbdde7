-- A reset of a map names an update wherever something is left of a field.
use Rattle.std.proofs.Common.{◌≡◌, ℕ, Bool, true, false, cond, not, ◌&&◌, List, [], ◌∷◌, Option, Some, None, refl, sym, ap, ◌∙◌, subst, inl, inr, ⊎_elim}
use Rattle.std.specs.Prelude.{map, filter, is_some, unwrap_or}
use Rattle.std.specs.List.{list_any, list_all}
use Rattle.std.specs.FinMap.{empty, get, entries, get-entries}
use Rattle.std.proofs.lemmas.Bool.{true≢false, and_from, and_parts, not-true, or_left, or_right}
use Rattle.site_vector.specs.declared.ids.Dot.{Dot}
use Rattle.crdt_core.specs.declared.kind.Kind.{Kind}
use Rattle.crdt_core.specs.declared.kind.Kind.TheVariants.{MapGo, MapRr}
use Rattle.crdt_core.specs.declared.object.Field.{Field}
use Rattle.crdt_core.specs.declared.operation.Act.{Act}
use Rattle.crdt_core.specs.declared.operation.Act.TheVariants as act
use Rattle.crdt_core.specs.declared.value.Value.{Value}
use Rattle.crdt_core.specs.Fits.{nests_in}
use Rattle.crdt_core.specs.Seen.{Update}
use Rattle.crdt_core.specs.History.{IsHistory, state_after}
use Rattle.crdt_core.specs.Law.{KeepsLaw, made_by, all_fit}
use Rattle.crdt_core.specs.InMaps.{KeepsInMaps}
use Rattle.crdt_core.specs.Resets.{ResetsWhatIsLeft}
use Rattle.crdt_core.proofs.ResetsLaws.{never_resets}
use Rattle.crdt_core.specs.KindCodes.{same_kind_is}
use Rattle.crdt_core.specs.MapLists.{distinct_entries}
use Rattle.crdt_core.proofs.Members.{In}
use Rattle.crdt_meanings.specs.Maps.{EachNames, FieldMap, at, map_has, map_step, is_undone, resets_of, reset_by, map_made, map_too_deep, map_names, map_blank}
use Rattle.crdt_meanings.specs.MapMeaning.{of_field, updated}
use Rattle.crdt_meanings.proofs.FieldSteps.{found_entry}
use Rattle.crdt_meanings.proofs.FieldHistory.{history_of_field, fits_of_field}
use Rattle.crdt_meanings.proofs.FieldFold.{outer}
use Rattle.crdt_meanings.proofs.Presence.{among, may_nest, present_updated}
use Rattle.crdt_meanings.proofs.MapLaws.{state_at, all_outer, own, undoes_nothing}

-- where not all pass, one doesn't
not_all : {A : Type 0} (p : A → Bool) (xs : List A) → list_all p xs ≡ false → (x : A) × In x xs × (p x ≡ false)
not_all p [] h = absurd (true≢false h)
not_all {A} p (x ∷ xs) h = elim (p x) as (λ b. p x ≡ b → (b && list_all p xs) ≡ false → (y : A) × In y (x ∷ xs) × (p y ≡ false)) [
  | true ↦ λ e h. let w = not_all p xs h in (w.0, inr w.1, w.2)
  | false ↦ λ e h. (x, inl refl, e)
] refl h

module _ {S E : Type 0} {has : Kind → Bool} {too_deep : Kind → List Field → Bool} {initial : Kind → S} {step : S → Dot → E → S} {made : Kind → S → List Field → Act → ℕ → E} {value_of : S → Value} {stamp_of : E → Option ℕ} {meaning : Kind → List Update → Value} {names : E → Dot → Bool} {holds : S → Dot → Bool} {is_blank : S → Bool} (inner : KeepsLaw has too_deep initial step made value_of stamp_of meaning names holds) (owed : KeepsInMaps has too_deep initial step made is_blank)
    (fields : ResetsWhatIsLeft has too_deep initial step made is_blank names) where
  abbrev NamesOne : Field × E → Type 0
  NamesOne x = (d : Dot) × (names x.1 d ≡ true)

  abbrev names_at : Dot → Field × E → Bool
  names_at d x = has x.0.kind && names x.1 d

  abbrev reset : ℕ → Field × S → Field × E
  reset n e = (e.0, made e.0.kind e.1 [] act.Reset n)

  -- what the reset of one field names, the reset of all names
  one_named : (n : ℕ) (d : Dot) (es : List (Field × S)) (e : Field × S) → In e es → is_undone has is_blank e ≡ true → names_at d (reset n e) ≡ true → list_any (names_at d) (resets_of has made is_blank n es) ≡ true
  one_named n d [] e i undone named = absurd i
  one_named n d (x ∷ es) e i undone named = elim (is_undone has is_blank x) as (λ b. is_undone has is_blank x ≡ b → list_any (names_at d) (map (reset n) (cond b (x ∷ filter (is_undone has is_blank) es) (filter (is_undone has is_blank) es))) ≡ true) [
    | true ↦ λ t. ⊎_elim (λ here. or_left (names_at d (reset n x)) _ (ap (λ y. names_at d (reset n y)) here ∙ named)) (λ later. or_right (names_at d (reset n x)) _ (one_named n d es e later undone named)) i
    | false ↦ λ t. ⊎_elim (λ here. absurd (true≢false (sym undone ∙ sym (ap (is_undone has is_blank) here) ∙ t))) (λ later. one_named n d es e later undone named) i
  ] refl

  abbrev Names : Kind → ℕ → FieldMap S → Type 0
  Names k n m = (d : Dot) × (map_names has names (map_made has initial made is_blank k m [] act.Reset n) d ≡ true)

  module _ (k : Kind) (is : map_has true k ≡ true) (us : List Update) (n : ℕ) (h : IsHistory us) (fit : all_fit (map_too_deep has too_deep) k us ≡ true) where
    abbrev whole : FieldMap S
    whole = outer owed k (λ d. true) us

    -- the kind of a field that stands may stand in a map that resets, and where something is left there, a reset of the field names an update
    left_at : (f : Field) (s : S) → get whole f ≡ Some s → is_blank s ≡ false → (has f.kind ≡ true) × (nests_in MapRr f.kind ≡ true) × NamesOne (reset n (f, s))
    left_at f s there left =
        let up : among f (updated has us) ≡ true = sym (present_updated owed k f us) ∙ ap is_some there in
        let may = may_nest has too_deep k f us fit up in
        let nests : nests_in MapRr f.kind ≡ true = sym (ap (λ l. nests_in l f.kind) (same_kind_is k MapRr is)) ∙ may.1 in
        let same : s ≡ state_after (initial f.kind) step (made_by made f.kind) (of_field f us) = sym (ap (λ o. unwrap_or o (initial f.kind)) there) ∙ state_at inner owed k (own inner owed true k is) us fit f up in
        let d = fields.some_left f.kind (of_field f us) n may.0 nests (history_of_field f us h) (fits_of_field has too_deep owed.shallow k f (own inner owed true k is f may.1) us fit) (sym (ap is_blank same) ∙ left) in
        (may.0, nests, (d.0, ap (λ t. names (made f.kind t [] act.Reset n) d.0) same ∙ d.1))

    entry_at : (e : Field × S) → In e (entries whole) → get whole e.0 ≡ Some e.1
    entry_at e i = get-entries whole e.0 ∙ found_entry (entries whole) (distinct_entries whole) e i

    -- a map that isn't blank has a field that isn't
    left_of_field : map_blank true is_blank whole ≡ false → Names k n whole
    left_of_field left =
        let w = not_all (λ e. is_blank e.1) (entries whole) left in
        let l = left_at w.0.0 w.0.1 (entry_at w.0 w.1) w.2 in
        (l.2.0, one_named n l.2.0 (entries whole) w.0 w.1 (and_from _ _ l.0 (and_from _ _ l.1 (ap not w.2))) (and_from _ _ l.0 l.2.1))

    still_left : (e : Field × S) → is_undone has is_blank e ≡ true → is_blank e.1 ≡ false
    still_left e t = not-true _ (and_parts (nests_in MapRr e.0.kind) _ (and_parts (has e.0.kind) _ t).1).1

    undone_at : (f : Field) → is_undone has is_blank (f, at initial whole f) ≡ true → (o : Option S) → get whole f ≡ o → get whole f ≡ Some (at initial whole f)
    undone_at f t (Some s) e = e ∙ ap Some (sym (ap (λ o. unwrap_or o (initial f.kind)) e))
    undone_at f t None e =
        let blank = ap (λ o. is_blank (unwrap_or o (initial f.kind))) e ∙ owed.first_blank f.kind (and_parts (has f.kind) _ t).0 in
        absurd (true≢false (sym blank ∙ still_left (f, at initial whole f) t))

    -- what is listed names an update, where each field does that is undone
    listed_name : (es : List (Field × S)) → ((e : Field × S) → In e es → is_undone has is_blank e ≡ true → get whole e.0 ≡ Some e.1) → (x : Field × E) → In x (resets_of has made is_blank n es) → NamesOne x
    listed_name [] each x i = absurd i
    listed_name (e ∷ es) each x i = elim (is_undone has is_blank e) as (λ b. is_undone has is_blank e ≡ b → In x (map (reset n) (cond b (e ∷ filter (is_undone has is_blank) es) (filter (is_undone has is_blank) es))) → NamesOne x) [
      | true ↦ λ t i. ⊎_elim (λ here. subst NamesOne here (left_at e.0 e.1 (each e (inl refl) t) (still_left e t)).2) (λ later. listed_name es (λ e i. each e (inr i)) x later) i
      | false ↦ λ t i. listed_name es (λ e i. each e (inr i)) x i
    ] refl i

    acts_name : (a : Act) (x : Field × E) → In x (resets_of has made is_blank n (reset_by initial whole a)) → NamesOne x
    acts_name act.Reset x i = listed_name (entries whole) (λ e j t. entry_at e j) x i
    acts_name (act.DropField f) x i = listed_name ((f, at initial whole f) ∷ [])
        (λ e j t. ⊎_elim (λ here. subst (λ e. is_undone has is_blank e ≡ true → get whole e.0 ≡ Some e.1) here (λ t. undone_at f t (get whole f) refl) t) (λ none. absurd none) j) x i
    acts_name _ x i = absurd i

  -- what a drop or a reset lists names an update, field by field
  pub each_names : (k : Kind) (us : List Update) (a : Act) (n : ℕ) → map_has true k ≡ true → IsHistory us → all_fit (map_too_deep has too_deep) k us ≡ true
      → EachNames names (map_made has initial made is_blank k (state_after empty (map_step has initial step) (made_by (map_made has initial made is_blank) k) us) [] a n)
  each_names k us a n is h fit x =
      subst (λ m. In x (resets_of has made is_blank n (reset_by initial m a)) → NamesOne x) (all_outer inner owed k (own inner owed true k is) us) (acts_name k is us n h fit a x)

  pub map_resets : (drops : Bool) → ResetsWhatIsLeft (map_has drops) (map_too_deep has too_deep) (λ k. empty) (map_step has initial step) (map_made has initial made is_blank) (map_blank drops is_blank) (map_names has names)
  map_resets false = never_resets MapGo refl
  map_resets true = record {
    none_left = λ k s n d is resets blank. ap (list_any (names_at d)) (undoes_nothing inner owed n (entries s) blank);
    some_left = λ k us n is resets h fit left.
        subst (λ m. map_blank true is_blank m ≡ false → Names k n m) (all_outer inner owed k (own inner owed true k is) us) (left_of_field k is us n h fit) left;
  }
