-- The states and effects of maps, over the states and effects of their fields' kinds.
use Rattle.std.specs.Prelude.{ℕ, Bool, true, false, cond, not, ◌&&◌, ◌||◌, ◌≡◌, ◌==◌, List, [], ◌∷◌, map, filter, Option, None, unwrap_or, ℤ, pos, negsuc}
use Rattle.std.specs.List.{list_any, list_all}
use Rattle.std.specs.FinMap.{FinMap, insert, get, entries, len}
use Rattle.site_vector.specs.declared.ids.Dot.{Dot}
use Rattle.crdt_core.specs.declared.kind.Kind.{Kind}
use Rattle.crdt_core.specs.declared.kind.Kind.TheVariants.{MapGo, MapRr}
use Rattle.crdt_core.specs.declared.object.Field.{Field}
use Rattle.crdt_core.specs.declared.operation.Act.{Act}
use Rattle.crdt_core.specs.declared.operation.Act.TheVariants.{Reset, DropField}
use Rattle.crdt_core.specs.declared.value.Value.{Value, fold-Value}
use Rattle.crdt_core.specs.declared.value.Value.TheOpen.{Value-F}
use Rattle.crdt_core.specs.declared.value.Value.TheVariants.{Fields}
use Rattle.crdt_core.specs.Kinds.{same_kind}
use Rattle.crdt_core.specs.Fits.{nests_in}
use Rattle.crdt_core.specs.FieldOrder.{field_cmp}
use Rattle.crdt_core.proofs.Members.{In}
use Rattle.crdt_meanings.specs.declared.maps.MapEffect.{MapEffect}
use Rattle.crdt_meanings.specs.declared.maps.MapEffect.TheVariants.{At, Resets}

abbrev pub FieldMap : Type 0 → Type 0
FieldMap S = FinMap field_cmp S

-- the kind of the maps whose fields can be dropped, or stay
abbrev pub map_kind : Bool → Kind
map_kind drops = cond drops MapRr MapGo

abbrev pub map_has : Bool → Kind → Bool
map_has drops k = same_kind k (map_kind drops)

-- the state of a field, that of no update where it has none
abbrev pub at : {S : Type 0} → (Kind → S) → FieldMap S → Field → S
at initial m f = unwrap_or (get m f) (initial f.kind)

-- with one effect applied at a field; a field of a kind that the inner type lacks stays as it is
abbrev pub step_at : {S E : Type 0} → (Kind → Bool) → (Kind → S) → (S → Dot → E → S) → FieldMap S → Dot → Field → E → FieldMap S
step_at has initial step m d f e = cond (has f.kind) (insert m f (step (at initial m f) d e)) m

-- each in turn
abbrev pub step_each : {S E : Type 0} → (Kind → Bool) → (Kind → S) → (S → Dot → E → S) → FieldMap S → Dot → List (Field × E) → FieldMap S
step_each has initial step m d [] = m
step_each has initial step m d (x ∷ xs) = step_each has initial step (step_at has initial step m d x.0 x.1) d xs

-- what an effect does, field by field
abbrev pub listed : {E : Type 0} → MapEffect E → List (Field × E)
listed (At f e) = (f, e) ∷ []
listed (Resets xs) = xs

abbrev pub map_step : {S E : Type 0} → (Kind → Bool) → (Kind → S) → (S → Dot → E → S) → FieldMap S → Dot → MapEffect E → FieldMap S
map_step has initial step m d e = step_each has initial step m d (listed e)

-- whether a reset of the field undoes something
abbrev pub is_undone : {S : Type 0} → (Kind → Bool) → (S → Bool) → Field × S → Bool
is_undone has is_blank e = has e.0.kind && (nests_in MapRr e.0.kind && not (is_blank e.1))

-- the reset of each of these fields, where it undoes something
abbrev pub resets_of : {S E : Type 0} → (Kind → Bool) → (Kind → S → List Field → Act → ℕ → E) → (S → Bool) → ℕ → List (Field × S) → List (Field × E)
resets_of has made is_blank now es = map (λ e. (e.0, made e.0.kind e.1 [] Reset now)) (filter (is_undone has is_blank) es)

-- the fields that an act of the map itself resets
abbrev pub reset_by : {S : Type 0} → (Kind → S) → FieldMap S → Act → List (Field × S)
reset_by initial m Reset = entries m
reset_by initial m (DropField f) = (f, at initial m f) ∷ []
reset_by initial m _ = []

abbrev pub map_made : {S E : Type 0} → (Kind → Bool) → (Kind → S) → (Kind → S → List Field → Act → ℕ → E) → (S → Bool) → Kind → FieldMap S → List Field → Act → ℕ → MapEffect E
map_made has initial made is_blank k m [] a now = Resets (resets_of has made is_blank now (reset_by initial m a))
map_made has initial made is_blank k m (f ∷ p) a now = At f (made f.kind (at initial m f) p a now)

abbrev pub map_stamp : {E : Type 0} → (E → Option ℕ) → MapEffect E → Option ℕ
map_stamp stamp_of (At f e) = stamp_of e
map_stamp stamp_of (Resets xs) = None

-- some field of the path is of a kind that the map around it has no room for
abbrev pub map_too_deep : (Kind → Bool) → (Kind → List Field → Bool) → Kind → List Field → Bool
map_too_deep has too_deep k [] = false
map_too_deep has too_deep k (f ∷ p) = not (has f.kind) || too_deep f.kind p

abbrev pub map_names : {E : Type 0} → (Kind → Bool) → (E → Dot → Bool) → MapEffect E → Dot → Bool
map_names has names e d = list_any (λ x. has x.0.kind && names x.1 d) (listed e)

abbrev pub map_holds : {S : Type 0} → (S → Dot → Bool) → FieldMap S → Dot → Bool
map_holds holds m d = list_any (λ e. holds e.1 d) (entries m)

-- the fields with their values, in order
abbrev pub members : {S : Type 0} → (S → Value) → FieldMap S → List (Field × Value)
members value_of m = map (λ e. (e.0, value_of e.1)) (entries m)

abbrev pub has_none : {A : Type 0} → List A → Bool
has_none [] = true
has_none (x ∷ xs) = false

-- the values of kinds that nothing updated
abbrev pub is_zero : ℤ → Bool
is_zero (pos n) = n == 0
is_zero (negsuc n) = false

abbrev pub empty_step : Value-F Bool → Bool
empty_step (Value-F.Int n) = is_zero n
empty_step (Value-F.Flag b) = not b
empty_step (Value-F.Word x) = has_none x
empty_step (Value-F.Words xs) = has_none xs
empty_step (Value-F.Fields ms) = has_none ms

abbrev pub is_empty : Value → Bool
is_empty = fold-Value Bool empty_step

-- whether a field with this value is shown: where fields can be dropped, only if the value isn't empty
abbrev pub is_shown : Bool → Value → Bool
is_shown drops v = not (drops && is_empty v)

abbrev pub shown : Bool → List (Field × Value) → List (Field × Value)
shown drops ms = filter (λ m. is_shown drops m.1) ms

abbrev pub map_value : {S : Type 0} → Bool → (S → Value) → FieldMap S → Value
map_value drops value_of m = Fields (shown drops (members value_of m))

-- no field was updated, or, where fields can be dropped, nothing is left of any
abbrev pub map_blank : {S : Type 0} → Bool → (S → Bool) → FieldMap S → Bool
map_blank false is_blank m = len m == 0
map_blank true is_blank m = list_all (λ e. is_blank e.1) (entries m)

-- each effect of a field that an effect of a map lists names an update
abbrev pub EachNames : {E : Type 0} → (E → Dot → Bool) → MapEffect E → Type 0
EachNames {E} names e = (x : Field × E) → In x (listed e) → (d : Dot) × (names x.1 d ≡ true)
