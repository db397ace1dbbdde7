-- All that a state of the layer holds has spellings, so all that it holds as a state of its kind has.
use Rattle.std.proofs.Common.{◌≡◌, ℕ, Bool, true, List, Option, refl, sym, ap, ◌∙◌}
use Rattle.std.specs.Prelude.{unwrap_or}
use Rattle.std.proofs.lemmas.Bool.{true≢false, false≢true}
use Rattle.site_vector.specs.declared.ids.Dot.{Dot}
use Rattle.crdt_core.specs.declared.kind.Kind.{Kind}
use Rattle.crdt_core.specs.declared.kind.Kind.TheVariants as kinds
use Rattle.crdt_core.specs.declared.object.Field.{Field}
use Rattle.crdt_core.specs.declared.operation.Act.{Act}
use Rattle.crdt_core.specs.EffectForm.{HoldsSpelled}
use Rattle.crdt_any.specs.declared.simple_effect.SimpleEffect.{SimpleEffect}
use Rattle.crdt_any.specs.declared.state.LayerState.{LayerState}
use Rattle.crdt_any.specs.declared.state.LayerState.TheVariants as state
use Rattle.crdt_any.specs.declared.effect.LayerEffect.TheVariants as effect
use Rattle.crdt_any.specs.Simple.{simple_has, simple_initial, simple_made, simple_holds}
use Rattle.crdt_any.specs.SimpleForm.{simple_is_of}
use Rattle.crdt_any.specs.SimpleLaws.{simple_law}
use Rattle.crdt_any.specs.Layer.{layer_made, layer_holds, simple_state}
use Rattle.crdt_any.specs.LayerForm.{layer_is_of}

pub inner_spelled : {S R : Type 0} (holds : S → Dot → Bool) (part : R → Dot → Bool) (s : S) (o p : Option R) (start : R) → ((d : Dot) → part (unwrap_or p start) d ≡ true → holds s d ≡ true) → o ≡ p → HoldsSpelled holds s → HoldsSpelled part (unwrap_or o start)
inner_spelled holds part s o p start inside e h d k = h d (inside d (sym (ap (λ q. part (unwrap_or q start) d) e) ∙ k))

-- of a kind without fields
pub holds_simple : {S : Type 0} (holds : S → Dot → Bool) (k : Kind) → simple_has k ≡ true → (s : LayerState S) (d : Dot) → simple_holds (unwrap_or (simple_state s) (simple_initial k)) d ≡ true → layer_holds holds s d ≡ true
holds_simple holds k is (state.Simple s) d h = h
holds_simple holds k is _ d h = absurd (true≢false (sym h ∙ (simple_law.steps k is).none_held d))

pub made_simple : {S E : Type 0} (has : Kind → Bool) (initial : Kind → S) (made : Kind → S → List Field → Act → ℕ → E) (is_blank : S → Bool) (k : Kind) (s : LayerState S) (p : List Field) (a : Act) (n : ℕ) → simple_has k ≡ true → effect.Simple (simple_made k (unwrap_or (simple_state s) (simple_initial k)) p a n) ≡ layer_made has initial made is_blank k s p a n
made_simple has initial made is_blank kinds.MapGo s p a n is = absurd (false≢true is)
made_simple has initial made is_blank kinds.MapRr s p a n is = absurd (false≢true is)
made_simple has initial made is_blank k s p a n is = refl

pub is_of_simple : (E : Type 0) (k : Kind) (e : SimpleEffect) → simple_has k ≡ true → simple_is_of k e ≡ true → layer_is_of {E = E} k (effect.Simple e) ≡ true
is_of_simple E kinds.MapGo e is h = absurd (false≢true is)
is_of_simple E kinds.MapRr e is h = absurd (false≢true is)
is_of_simple E k e is h = h

-- what isn't a map is one
pub not_map : (k : Kind) → (k ≡ kinds.MapGo → ⊥) → (k ≡ kinds.MapRr → ⊥) → simple_has k ≡ true
not_map kinds.MapGo go rr = absurd (go refl)
not_map kinds.MapRr go rr = absurd (rr refl)
not_map k go rr = refl
