-- A layer of kinds: those without fields, and the two maps over the kinds of the layer within.
use Rattle.std.proofs.Common.{ℕ, Bool, true, false, List, Option, Some, None}
use Rattle.std.specs.Prelude.{unwrap_or}
use Rattle.std.specs.FinMap.{empty}
use Rattle.site_vector.specs.declared.ids.Dot.{Dot}
use Rattle.crdt_core.specs.declared.kind.Kind.{Kind}
use Rattle.crdt_core.specs.declared.kind.Kind.TheVariants as kinds
use Rattle.crdt_core.specs.declared.object.Field.{Field}
use Rattle.crdt_core.specs.declared.operation.Act.{Act}
use Rattle.crdt_core.specs.declared.value.Value.{Value}
use Rattle.crdt_core.specs.Seen.{Update}
use Rattle.crdt_meanings.specs.declared.maps.MapEffect.{MapEffect}
use Rattle.crdt_meanings.specs.Maps.{FieldMap, map_step, map_made, map_stamp, map_too_deep, map_names, map_holds, map_value, map_blank}
use Rattle.crdt_meanings.specs.MapMeaning.{go_meaning, rr_meaning}
use Rattle.crdt_any.specs.declared.simple_state.SimpleState.{SimpleState}
use Rattle.crdt_any.specs.declared.simple_effect.SimpleEffect.{SimpleEffect}
use Rattle.crdt_any.specs.declared.state.LayerState.{LayerState}
use Rattle.crdt_any.specs.declared.state.LayerState.TheVariants as state
use Rattle.crdt_any.specs.declared.effect.LayerEffect.{LayerEffect}
use Rattle.crdt_any.specs.declared.effect.LayerEffect.TheVariants as effect
use Rattle.crdt_any.specs.Simple.{moved, simple_initial, simple_step, simple_made, simple_value, simple_stamp, simple_meaning, simple_names, simple_holds, simple_blank}

abbrev pub simple_state : {S : Type 0} → LayerState S → Option SimpleState
simple_state (state.Simple s) = Some s
simple_state _ = None

abbrev pub simple_effect : {E : Type 0} → LayerEffect E → Option SimpleEffect
simple_effect (effect.Simple e) = Some e
simple_effect _ = None

abbrev pub map_go_state : {S : Type 0} → LayerState S → Option (FieldMap S)
map_go_state (state.MapGo s) = Some s
map_go_state _ = None

abbrev pub map_go_effect : {E : Type 0} → LayerEffect E → Option (MapEffect E)
map_go_effect (effect.MapGo e) = Some e
map_go_effect _ = None

abbrev pub map_rr_state : {S : Type 0} → LayerState S → Option (FieldMap S)
map_rr_state (state.MapRr s) = Some s
map_rr_state _ = None

abbrev pub map_rr_effect : {E : Type 0} → LayerEffect E → Option (MapEffect E)
map_rr_effect (effect.MapRr e) = Some e
map_rr_effect _ = None

-- the layer has every kind
abbrev pub layer_has : Kind → Bool
layer_has k = true

abbrev pub layer_too_deep : (Kind → Bool) → (Kind → List Field → Bool) → Kind → List Field → Bool
layer_too_deep has too_deep kinds.MapGo p = map_too_deep has too_deep kinds.MapGo p
layer_too_deep has too_deep kinds.MapRr p = map_too_deep has too_deep kinds.MapRr p
layer_too_deep has too_deep _ p = false

abbrev pub layer_initial : {S : Type 0} → Kind → LayerState S
layer_initial kinds.MapGo = state.MapGo empty
layer_initial kinds.MapRr = state.MapRr empty
layer_initial k = state.Simple (simple_initial k)

abbrev pub layer_step : {S E : Type 0} → (Kind → Bool) → (Kind → S) → (S → Dot → E → S) → LayerState S → Dot → LayerEffect E → LayerState S
layer_step has initial step (state.Simple s) d e = state.Simple (moved simple_step s d (simple_effect e))
layer_step has initial step (state.MapGo s) d e = state.MapGo (moved (map_step has initial step) s d (map_go_effect e))
layer_step has initial step (state.MapRr s) d e = state.MapRr (moved (map_step has initial step) s d (map_rr_effect e))

abbrev pub layer_made : {S E : Type 0} → (Kind → Bool) → (Kind → S) → (Kind → S → List Field → Act → ℕ → E) → (S → Bool) → Kind → LayerState S → List Field → Act → ℕ → LayerEffect E
layer_made has initial made is_blank kinds.MapGo s p a now = effect.MapGo ((map_made has initial made is_blank) kinds.MapGo (unwrap_or (map_go_state s) empty) p a now)
layer_made has initial made is_blank kinds.MapRr s p a now = effect.MapRr ((map_made has initial made is_blank) kinds.MapRr (unwrap_or (map_rr_state s) empty) p a now)
layer_made has initial made is_blank k s p a now = effect.Simple (simple_made k (unwrap_or (simple_state s) (simple_initial k)) p a now)

abbrev pub layer_value : {S : Type 0} → (S → Value) → LayerState S → Value
layer_value value_of (state.Simple s) = simple_value s
layer_value value_of (state.MapGo s) = (map_value false value_of) s
layer_value value_of (state.MapRr s) = (map_value true value_of) s

abbrev pub layer_stamp : {E : Type 0} → (E → Option ℕ) → LayerEffect E → Option ℕ
layer_stamp stamp_of (effect.Simple e) = simple_stamp e
layer_stamp stamp_of (effect.MapGo e) = (map_stamp stamp_of) e
layer_stamp stamp_of (effect.MapRr e) = (map_stamp stamp_of) e

abbrev pub layer_meaning : (Kind → Bool) → (Kind → List Update → Value) → Kind → List Update → Value
layer_meaning has meaning kinds.MapGo us = (go_meaning has meaning) kinds.MapGo us
layer_meaning has meaning kinds.MapRr us = (rr_meaning has meaning) kinds.MapRr us
layer_meaning has meaning k us = simple_meaning k us

abbrev pub layer_names : {E : Type 0} → (Kind → Bool) → (E → Dot → Bool) → LayerEffect E → Dot → Bool
layer_names has names (effect.Simple e) d = simple_names e d
layer_names has names (effect.MapGo e) d = (map_names has names) e d
layer_names has names (effect.MapRr e) d = (map_names has names) e d

abbrev pub layer_holds : {S : Type 0} → (S → Dot → Bool) → LayerState S → Dot → Bool
layer_holds holds (state.Simple s) d = simple_holds s d
layer_holds holds (state.MapGo s) d = (map_holds holds) s d
layer_holds holds (state.MapRr s) d = (map_holds holds) s d

abbrev pub layer_blank : {S : Type 0} → (S → Bool) → LayerState S → Bool
layer_blank is_blank (state.Simple s) = simple_blank s
layer_blank is_blank (state.MapGo s) = (map_blank false is_blank) s
layer_blank is_blank (state.MapRr s) = (map_blank true is_blank) s
