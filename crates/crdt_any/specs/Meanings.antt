-- What the kinds of a layer mean, each in the words of its crate.
use Rattle.std.proofs.Common.{◌≡◌, Bool, false, List, refl}
use Rattle.std.proofs.lemmas.Bool.{true≢false}
use Rattle.crdt_core.specs.declared.kind.Kind.{Kind}
use Rattle.crdt_core.specs.declared.kind.Kind.TheVariants as kinds
use Rattle.crdt_core.specs.declared.value.Value.{Value}
use Rattle.crdt_core.specs.Fits.{is_map}
use Rattle.crdt_core.specs.Seen.{Update}
use Rattle.crdt_meanings.specs.CounterMeaning.{counter_meaning}
use Rattle.crdt_meanings.specs.SetMeaning.{go_meaning as set_go_meaning, aw_meaning, rw_meaning}
use Rattle.crdt_meanings.specs.FlagMeaning.{ew_meaning, dw_meaning}
use Rattle.crdt_meanings.specs.RegisterMeaning.{lww_meaning, mv_meaning}
use Rattle.crdt_meanings.specs.MapMeaning.{go_meaning, rr_meaning}
use Rattle.crdt_meanings.specs.Shows.{plain_meaning}
use Rattle.crdt_any.specs.Layer.{layer_meaning}

-- the fields of a map mean what they mean in the layer within
pub record HasMeanings (has : Kind → Bool) (within meaning : Kind → List Update → Value) : Type 0 where
  pub counter_pn : (us : List Update) → meaning kinds.CounterPn us ≡ counter_meaning kinds.CounterPn us
  pub counter_fat : (us : List Update) → meaning kinds.CounterFat us ≡ counter_meaning kinds.CounterFat us
  pub set_go : (us : List Update) → meaning kinds.SetGo us ≡ set_go_meaning kinds.SetGo us
  pub set_aw : (us : List Update) → meaning kinds.SetAw us ≡ aw_meaning kinds.SetAw us
  pub set_rw : (us : List Update) → meaning kinds.SetRw us ≡ rw_meaning kinds.SetRw us
  pub flag_ew : (us : List Update) → meaning kinds.FlagEw us ≡ ew_meaning kinds.FlagEw us
  pub flag_dw : (us : List Update) → meaning kinds.FlagDw us ≡ dw_meaning kinds.FlagDw us
  pub register_lww : (us : List Update) → meaning kinds.RegisterLww us ≡ lww_meaning kinds.RegisterLww us
  pub register_mv : (us : List Update) → meaning kinds.RegisterMv us ≡ mv_meaning kinds.RegisterMv us
  pub map_go : (us : List Update) → meaning kinds.MapGo us ≡ go_meaning has within kinds.MapGo us
  pub map_rr : (us : List Update) → meaning kinds.MapRr us ≡ rr_meaning has within kinds.MapRr us

pub layer_meanings : (has : Kind → Bool) (within : Kind → List Update → Value) → HasMeanings has within (layer_meaning has within)
layer_meanings has within = record {
  counter_pn = λ us. refl;
  counter_fat = λ us. refl;
  set_go = λ us. refl;
  set_aw = λ us. refl;
  set_rw = λ us. refl;
  flag_ew = λ us. refl;
  flag_dw = λ us. refl;
  register_lww = λ us. refl;
  register_mv = λ us. refl;
  map_go = λ us. refl;
  map_rr = λ us. refl;
}

pub layer_plain : (has : Kind → Bool) (within : Kind → List Update → Value) (k : Kind) (us : List Update) → is_map k ≡ false → layer_meaning has within k us ≡ plain_meaning k us
layer_plain has within kinds.MapGo us is = absurd (true≢false is)
layer_plain has within kinds.MapRr us is = absurd (true≢false is)
layer_plain has within k us is = refl
