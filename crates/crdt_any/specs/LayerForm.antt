-- The bytes of a layer's effects are those of its kinds.
use Rattle.std.proofs.Common.{◌≡◌, ℕ, Bool, true, false, ◌&&◌, ◌||◌, List, refl}
use Rattle.std.specs.Prelude.{is_some}
use Rattle.std.proofs.lemmas.Bool.{false≢true}
use Rattle.field_codec.specs.Reading.{Read, mapped_at}
use Rattle.field_codec.specs.Lawful.{IsForm}
use Rattle.field_codec.specs.Tagged.{shape_form}
use Rattle.site_vector.specs.declared.ids.Dot.{Dot}
use Rattle.crdt_core.specs.declared.kind.Kind.{Kind}
use Rattle.crdt_core.specs.declared.kind.Kind.TheVariants as kinds
use Rattle.crdt_core.specs.EffectForm.{SpellsEffects}
use Rattle.crdt_core.specs.NamedDots.{NamesAreSpelled}
use Rattle.crdt_meanings.specs.declared.maps.MapEffect.{MapEffect}
use Rattle.crdt_meanings.specs.Maps.{map_has}
use Rattle.crdt_maps.specs.EffectForm.{map_can_put, map_keeps, map_is_spelled, map_spelling, map_at, map_spells, map_sets, map_named}
use Rattle.crdt_any.specs.declared.simple_effect.SimpleEffect.{SimpleEffect}
use Rattle.crdt_any.specs.declared.effect.LayerEffect.{LayerEffect}
use Rattle.crdt_any.specs.declared.effect.LayerEffect.TheVariants as effect
use Rattle.crdt_any.specs.Simple.{simple_has}
use Rattle.crdt_any.specs.SimpleForm.{simple_is_of, simple_can_put, simple_keeps, simple_is_spelled, simple_sets, simple_spelling, simple_reading, simple_spells, simple_named, Named, named}
use Rattle.crdt_any.specs.Layer.{layer_has, layer_names, map_go_effect, map_rr_effect}

abbrev pub layer_is_of : {E : Type 0} → Kind → LayerEffect E → Bool
layer_is_of kinds.MapGo e = is_some (map_go_effect e)
layer_is_of kinds.MapRr e = is_some (map_rr_effect e)
layer_is_of k (effect.Simple e) = simple_is_of k e
layer_is_of _ _ = false

abbrev pub layer_can_put : {E : Type 0} → (Kind → Bool) → (Kind → E → Bool) → (E → Bool) → (E → List ℕ) → LayerEffect E → Bool
layer_can_put has is_of can_put spelling (effect.Simple e) = simple_can_put e
layer_can_put has is_of can_put spelling (effect.MapGo e) = (map_can_put false has is_of can_put spelling) e
layer_can_put has is_of can_put spelling (effect.MapRr e) = (map_can_put true has is_of can_put spelling) e

abbrev pub layer_is_spelled : {E : Type 0} → (Kind → Bool) → (Kind → E → Bool) → (E → Bool) → (E → List ℕ) → LayerEffect E → Bool
layer_is_spelled has is_of is_spelled spelling (effect.Simple e) = simple_is_spelled e
layer_is_spelled has is_of is_spelled spelling (effect.MapGo e) = (map_is_spelled false has is_of is_spelled spelling) e
layer_is_spelled has is_of is_spelled spelling (effect.MapRr e) = (map_is_spelled true has is_of is_spelled spelling) e

abbrev pub layer_spelling : {E : Type 0} → (E → List ℕ) → LayerEffect E → List ℕ
layer_spelling spelling (effect.Simple e) = simple_spelling e
layer_spelling spelling (effect.MapGo e) = (map_spelling false spelling) e
layer_spelling spelling (effect.MapRr e) = (map_spelling true spelling) e

-- the sets of updates in the bytes of an effect
abbrev pub layer_sets : {E : Type 0} → (E → List (List Dot)) → LayerEffect E → List (List Dot)
layer_sets sets (effect.Simple e) = simple_sets e
layer_sets sets (effect.MapGo e) = map_sets sets e
layer_sets sets (effect.MapRr e) = map_sets sets e

abbrev pub layer_keeps : {E : Type 0} → (E → Bool) → LayerEffect E → Bool
layer_keeps keeps (effect.Simple e) = simple_keeps e
layer_keeps keeps (effect.MapGo e) = map_keeps keeps e
layer_keeps keeps (effect.MapRr e) = map_keeps keeps e

abbrev pub layer_reading : {E : Type 0} → (Kind → Bool) → (Kind → List ℕ → ℕ → Read E) → Kind → List ℕ → ℕ → Read (LayerEffect E)
layer_reading has reading kinds.MapGo = mapped_at effect.MapGo (map_at false has reading)
layer_reading has reading kinds.MapRr = mapped_at effect.MapRr (map_at true has reading)
layer_reading has reading k = mapped_at effect.Simple (simple_reading k)

module _ {E : Type 0} {has : Kind → Bool} {is_of : Kind → E → Bool} {can_put keeps is_spelled : E → Bool} {spelling : E → List ℕ} {reading : Kind → List ℕ → ℕ → Read E}
    (forms : SpellsEffects has is_of can_put keeps is_spelled spelling reading) where
  abbrev fits_at : Kind → LayerEffect E → Bool
  fits_at k e = layer_is_of k e && layer_can_put has is_of can_put spelling e

  abbrev spelled_at : Kind → LayerEffect E → Bool
  spelled_at k e = layer_is_of k e && layer_is_spelled has is_of is_spelled spelling e

  abbrev told_at : Kind → LayerEffect E → Bool
  told_at k e = layer_is_of k e && (layer_can_put has is_of can_put spelling e || layer_is_spelled has is_of is_spelled spelling e)

  simple_shape : (k : Kind) → simple_has k ≡ true → (e : LayerEffect E) → told_at k e ≡ true → (v : SimpleEffect) × (effect.Simple v ≡ e)
  simple_shape kinds.MapGo is e h = absurd (false≢true is)
  simple_shape kinds.MapRr is e h = absurd (false≢true is)
  simple_shape k is (effect.Simple v) h = (v, refl)
  simple_shape k is _ h = absurd (false≢true h)

  map_go_shape : (e : LayerEffect E) → told_at kinds.MapGo e ≡ true → (v : MapEffect E) × (effect.MapGo v ≡ e)
  map_go_shape (effect.MapGo v) h = (v, refl)
  map_go_shape _ h = absurd (false≢true h)

  map_rr_shape : (e : LayerEffect E) → told_at kinds.MapRr e ≡ true → (v : MapEffect E) × (effect.MapRr v ≡ e)
  map_rr_shape (effect.MapRr v) h = (v, refl)
  map_rr_shape _ h = absurd (false≢true h)

  pub form_at : (k : Kind) → IsForm (fits_at k) (layer_keeps keeps) (spelled_at k) (layer_spelling spelling) (layer_reading has reading k)
  form_at kinds.MapGo = shape_form (layer_is_of kinds.MapGo) effect.MapGo (map_can_put false has is_of can_put spelling) (map_is_spelled false has is_of is_spelled spelling) (map_spelling false spelling) (map_at false has reading) (layer_can_put has is_of can_put spelling) (layer_is_spelled has is_of is_spelled spelling) (layer_spelling spelling) (λ v. refl) (λ v. refl) (λ v. refl) (λ v. refl) map_go_shape ((map_spells forms false (map_has false)).form kinds.MapGo refl)
  form_at kinds.MapRr = shape_form (layer_is_of kinds.MapRr) effect.MapRr (map_can_put true has is_of can_put spelling) (map_is_spelled true has is_of is_spelled spelling) (map_spelling true spelling) (map_at true has reading) (layer_can_put has is_of can_put spelling) (layer_is_spelled has is_of is_spelled spelling) (layer_spelling spelling) (λ v. refl) (λ v. refl) (λ v. refl) (λ v. refl) map_rr_shape ((map_spells forms true (map_has true)).form kinds.MapRr refl)
  form_at k = shape_form (layer_is_of k) effect.Simple (λ v. simple_is_of k v && simple_can_put v) (λ v. simple_is_of k v && simple_is_spelled v) simple_spelling (simple_reading k) (layer_can_put has is_of can_put spelling) (layer_is_spelled has is_of is_spelled spelling) (layer_spelling spelling) (λ v. refl) (λ v. refl) (λ v. refl) (λ v. refl) (simple_shape k refl) (simple_spells.form k refl)

  abbrev pub layer_spells : SpellsEffects layer_has layer_is_of (layer_can_put has is_of can_put spelling) (layer_keeps keeps) (layer_is_spelled has is_of is_spelled spelling) (layer_spelling spelling) (layer_reading has reading)
  layer_spells = record { form = λ k is. form_at k }

module _ {E : Type 0} (has : Kind → Bool) (is_of : Kind → E → Bool) {can_put : E → Bool} {names : E → Dot → Bool} {sets : E → List (List Dot)} {spelling : E → List ℕ} (inner : NamesAreSpelled can_put names sets spelling) where
  layer_both : (e : LayerEffect E) (d : Dot) → layer_can_put has is_of can_put spelling e ≡ true → Named (layer_names has names) (layer_sets sets) (layer_spelling spelling) e d
  layer_both (effect.Simple e) d can = named simple_named e d can
  layer_both (effect.MapGo e) d can = named (map_named has is_of inner false) e d can
  layer_both (effect.MapRr e) d can = named (map_named has is_of inner true) e d can

  pub layer_named : NamesAreSpelled (layer_can_put has is_of can_put spelling) (layer_names has names) (layer_sets sets) (layer_spelling spelling)
  layer_named = record { exact = λ e d can. (layer_both e d can).0; lies = λ e d can. (layer_both e d can).1 }
