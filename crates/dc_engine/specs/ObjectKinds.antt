-- The kinds of objects that the program has: all, with maps to the fourth depth.
use Rattle.std.proofs.Common.{◌≡◌, ◌≤◌, ℕ, suc, Bool, true, false, List, [], ◌∷◌, length, refl, arith}
use Rattle.std.specs.Prelude.{Err}
use Rattle.std.proofs.lemmas.Bool.{and_parts, leb-true}
use Rattle.field_codec.specs.Reading.{Read}
use Rattle.field_codec.specs.declared.error.TakeError.TheVariants.{Bad}
use Rattle.crdt_core.specs.declared.kind.Kind.{Kind}
use Rattle.crdt_core.specs.declared.kind.Kind.TheVariants as kind
use Rattle.crdt_core.specs.declared.object.Field.{Field}
use Rattle.crdt_core.specs.declared.operation.Act.{Act}
use Rattle.crdt_core.specs.EffectForm.{SpellsEffects}
use Rattle.crdt_core.specs.Fits.{fits, leads_to}
use Rattle.crdt_core.specs.InMaps.{KeepsInMaps}
use Rattle.crdt_any.specs.declared.state.LayerState.{LayerState}
use Rattle.crdt_any.specs.declared.effect.LayerEffect.{LayerEffect}
use Rattle.crdt_any.specs.Layer.{layer_has, layer_too_deep, layer_blank}
use Rattle.crdt_any.specs.LayerForm.{layer_is_of, layer_can_put, layer_keeps, layer_is_spelled, layer_spelling, layer_reading, layer_spells}
use Rattle.crdt_any.specs.LayerLaws.{layer_law, layer_in_maps}
use Rattle.crdt_any.specs.NothingLaws.{nothing_law, nothing_in_maps, nothing_spells}
use Rattle.crdt_core.specs.KindsOf.{Kinds, kinds_of}
use Rattle.disk_core.specs.States.{DiskState}
use Rattle.partition_log.specs.Codec.{Codec, codec_of}
use Rattle.site_partitions.specs.Reaches.{Types, types_of}

-- kinds, what they owe to a map around them, and the bytes of their effects
pub record Layered (S E : Type 0) : Type 0 where
  pub kinds : Kinds S E
  pub is_blank : S → Bool
  pub in_maps : KeepsInMaps kinds.has kinds.too_deep kinds.initial kinds.applied kinds.generated is_blank
  pub is_of : Kind → E → Bool
  pub can_put : E → Bool
  pub keeps : E → Bool
  pub is_spelled : E → Bool
  pub spelling : E → List ℕ
  pub reading : Kind → List ℕ → ℕ → Read E
  pub spells : SpellsEffects kinds.has is_of can_put keeps is_spelled spelling reading

-- no kind
abbrev pub nothing : Layered (Unit {0}) (Unit {0})
nothing = record {
  kinds = kinds_of nothing_law;
  is_blank = λ s. true;
  in_maps = nothing_in_maps;
  is_of = λ k e. true;
  can_put = λ e. true;
  keeps = λ e. true;
  is_spelled = λ e. true;
  spelling = λ e. [];
  reading = λ k bytes at. Err (Bad at);
  spells = nothing_spells;
}

-- all kinds, whose maps have fields of those within
abbrev pub layer : {S E : Type 0} → Layered S E → Layered (LayerState S) (LayerEffect E)
layer l = record {
  kinds = kinds_of (layer_law l.kinds.laws l.in_maps);
  is_blank = layer_blank l.is_blank;
  in_maps = layer_in_maps l.kinds.laws l.in_maps;
  is_of = layer_is_of;
  can_put = layer_can_put l.kinds.has l.is_of l.can_put l.spelling;
  keeps = layer_keeps l.keeps;
  is_spelled = layer_is_spelled l.kinds.has l.is_of l.is_spelled l.spelling;
  spelling = layer_spelling l.spelling;
  reading = layer_reading l.kinds.has l.reading;
  spells = layer_spells l.spells;
}

abbrev pub ObjectState : Type 0
ObjectState = LayerState (LayerState (LayerState (LayerState (Unit {0}))))

abbrev pub Effect : Type 0
Effect = LayerEffect (LayerEffect (LayerEffect (LayerEffect (Unit {0}))))

abbrev pub all_kinds : Layered ObjectState Effect
all_kinds = layer (layer (layer (layer nothing)))

abbrev pub kinds : Kinds ObjectState Effect
kinds = all_kinds.kinds

-- the bytes of records of such effects
abbrev pub codec : Codec Effect
codec = codec_of all_kinds.spells

-- over disks of this state
abbrev pub types : {D : Type 0} → (D → DiskState) → Types ObjectState Effect D
types state = types_of all_kinds.kinds.laws all_kinds.spells state

-- a path of no field is not too deep, and a layer has room for one more
first_deep : (k : Kind) (p : List Field) → length p ≤ 0 → layer_too_deep (λ k. false) (λ k p. false) k p ≡ false
first_deep kind.MapGo [] h = refl
first_deep kind.MapGo (f ∷ p) h = absurd (omega arith)
first_deep kind.MapRr [] h = refl
first_deep kind.MapRr (f ∷ p) h = absurd (omega arith)
first_deep k p h = refl

more_deep : (deep : Kind → List Field → Bool) (n : ℕ) → ((k : Kind) (p : List Field) → length p ≤ n → deep k p ≡ false) → (k : Kind) (p : List Field) → length p ≤ suc n → layer_too_deep layer_has deep k p ≡ false
more_deep deep n f kind.MapGo [] h = refl
more_deep deep n f kind.MapGo (g ∷ p) h = f g.kind p (omega arith)
more_deep deep n f kind.MapRr [] h = refl
more_deep deep n f kind.MapRr (g ∷ p) h = f g.kind p (omega arith)
more_deep deep n f k p h = refl

-- so an operation of a kind leads to no field that the type has no room for
pub shallow : (k : Kind) (p : List Field) (a : Act) → fits k p a ≡ true → kinds.too_deep k p ≡ false
shallow k p a h =
    let one = (layer nothing).kinds.too_deep in
    let two = (layer (layer nothing)).kinds.too_deep in
    let three = (layer (layer (layer nothing))).kinds.too_deep in
    more_deep three 2 (more_deep two 1 (more_deep one 0 first_deep)) k p (leb-true (length p) 3 (and_parts _ (leads_to k p a) h).0)
