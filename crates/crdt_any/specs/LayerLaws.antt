-- A layer keeps the law of a kind, as the kinds in it do.
use Rattle.std.proofs.Common.{◌≡◌, ℕ, Bool, true, false, ◌||◌, List, [], Option, refl, sym, ap, ◌∙◌}
use Rattle.std.specs.Prelude.{unwrap_or}
use Rattle.std.specs.FinMap.{empty}
use Rattle.std.proofs.lemmas.Bool.{true≢false}
use Rattle.site_vector.specs.Ids.{same_dot}
use Rattle.site_vector.specs.declared.ids.Dot.{Dot}
use Rattle.crdt_core.specs.declared.kind.Kind.{Kind}
use Rattle.crdt_core.specs.declared.kind.Kind.TheVariants as kinds
use Rattle.crdt_core.specs.declared.object.Field.{Field}
use Rattle.crdt_core.specs.declared.operation.Act.{Act}
use Rattle.crdt_core.specs.declared.operation.Act.TheVariants as act
use Rattle.crdt_core.specs.declared.value.Value.{Value}
use Rattle.crdt_core.specs.Fits.{nests_in, is_map}
use Rattle.crdt_core.specs.Seen.{Update}
use Rattle.crdt_core.specs.History.{IsHistory, state_after}
use Rattle.crdt_core.specs.Law.{KeepsSteps, KeepsLaw, made_by, all_fit}
use Rattle.crdt_core.specs.InMaps.{KeepsInMaps}
use Rattle.crdt_core.specs.Resets.{ResetsWhatIsLeft}
use Rattle.crdt_core.proofs.Confluence.{confluence}
use Rattle.crdt_meanings.specs.Maps.{map_step, map_holds}
use Rattle.crdt_meanings.proofs.MapLaws.{map_law, map_in_maps}
use Rattle.crdt_meanings.proofs.MapResets.{map_resets}
use Rattle.crdt_any.specs.declared.state.LayerState.{LayerState}
use Rattle.crdt_any.specs.declared.state.LayerState.TheVariants as state
use Rattle.crdt_any.specs.declared.effect.LayerEffect.{LayerEffect}
use Rattle.crdt_any.specs.declared.effect.LayerEffect.TheVariants as effect
use Rattle.crdt_any.specs.Simple.{simple_initial, simple_step, simple_holds}
use Rattle.crdt_any.specs.SimpleLaws.{simple_law, simple_in_maps, simple_resets}
use Rattle.crdt_any.specs.Layer.{layer_has, layer_too_deep, layer_initial, layer_step, layer_made, layer_value, layer_stamp, layer_meaning, layer_names, layer_holds, layer_blank, simple_state, simple_effect, map_go_state, map_go_effect, map_rr_state, map_rr_effect}
use Rattle.crdt_any.specs.Wrapped.{LawAt, inner_law, inner_left, moved_held}

module _ {S E : Type 0} {has : Kind → Bool} {too_deep : Kind → List Field → Bool} {initial : Kind → S} {step : S → Dot → E → S} {made : Kind → S → List Field → Act → ℕ → E} {value_of : S → Value} {stamp_of : E → Option ℕ} {meaning : Kind → List Update → Value} {names : E → Dot → Bool} {holds : S → Dot → Bool} {is_blank : S → Bool} (inner : KeepsLaw has too_deep initial step made value_of stamp_of meaning names holds) (owed : KeepsInMaps has too_deep initial step made is_blank) where
  abbrev moves : LayerState S → Dot → LayerEffect E → LayerState S
  moves s d e = layer_step has initial step s d e

  abbrev makes : Kind → LayerState S → List Field → Act → ℕ → LayerEffect E
  makes k s p a n = layer_made has initial made is_blank k s p a n

  -- the state as one of a kind: that of no update where it is of another
  abbrev as_kind : Kind → LayerState S → LayerState S
  as_kind kinds.MapGo s = state.MapGo (unwrap_or (map_go_state s) empty)
  as_kind kinds.MapRr s = state.MapRr (unwrap_or (map_rr_state s) empty)
  as_kind k s = state.Simple (unwrap_or (simple_state s) (simple_initial k))

  as_one : (P : LayerState S → Type 0) (k : Kind) (s : LayerState S) → P s → P (layer_initial k) → P (as_kind k s)
  as_one P kinds.MapGo (state.MapGo s) it new = it
  as_one P kinds.MapGo _ it new = new
  as_one P kinds.MapRr (state.MapRr s) it new = it
  as_one P kinds.MapRr _ it new = new
  as_one P k (state.Simple s) it new = it
  as_one P k _ it new = new

  none_at : (k : Kind) (x : Dot) → layer_holds holds (layer_initial {S = S} k) x ≡ false
  none_at kinds.MapGo x = ((map_law inner owed false).steps kinds.MapGo refl).none_held x
  none_at kinds.MapRr x = ((map_law inner owed true).steps kinds.MapRr refl).none_held x
  none_at k x = (simple_law.steps k refl).none_held x

  -- what it holds as one of the kind, it holds
  pub holds_as : (k : Kind) (s : LayerState S) (d : Dot) → layer_holds holds (as_kind k s) d ≡ true → layer_holds holds s d ≡ true
  holds_as k s d = as_one (λ t. layer_holds holds t d ≡ true → layer_holds holds s d ≡ true) k s (λ h. h) (λ h. absurd (true≢false (sym h ∙ none_at k d)))

  at : (k : Kind) → LawAt k (λ p. layer_too_deep has too_deep k p) (layer_initial {S = S} k) moves (makes k) (layer_value value_of) (layer_stamp stamp_of) (layer_meaning has meaning k) (layer_names has names) (layer_holds holds)
  at kinds.MapGo = inner_law (map_law inner owed false) kinds.MapGo refl state.MapGo effect.MapGo (λ s. unwrap_or (map_go_state s) empty) moves (makes kinds.MapGo) (layer_value value_of) (layer_stamp stamp_of) (layer_names has names) (layer_holds holds) (λ _ _ _. refl) (λ _ _ _ _. refl) (λ _ _ _ _. refl) (λ _. refl) (λ _. refl) (λ _ _. refl) (λ _ _. refl) (holds_as kinds.MapGo)
  at kinds.MapRr = inner_law (map_law inner owed true) kinds.MapRr refl state.MapRr effect.MapRr (λ s. unwrap_or (map_rr_state s) empty) moves (makes kinds.MapRr) (layer_value value_of) (layer_stamp stamp_of) (layer_names has names) (layer_holds holds) (λ _ _ _. refl) (λ _ _ _ _. refl) (λ _ _ _ _. refl) (λ _. refl) (λ _. refl) (λ _ _. refl) (λ _ _. refl) (holds_as kinds.MapRr)
  at k = inner_law simple_law k refl state.Simple effect.Simple (λ s. unwrap_or (simple_state s) (simple_initial k)) moves (makes k) (layer_value value_of) (layer_stamp stamp_of) (layer_names has names) (layer_holds holds) (λ _ _ _. refl) (λ _ _ _ _. refl) (λ _ _ _ _. refl) (λ _. refl) (λ _. refl) (λ _ _. refl) (λ _ _. refl) (holds_as k)

  -- an effect changes only a state of its own case
  swaps_at : (s : LayerState S) (a b : LayerEffect E) (d e : Dot) → same_dot d e ≡ false → layer_names has names a e ≡ false → layer_names has names b d ≡ false → moves (moves s d a) e b ≡ moves (moves s e b) d a
  swaps_at (state.Simple s) (effect.Simple a) (effect.Simple b) d e apart na nb = ap state.Simple ((simple_law.steps kinds.CounterPn refl).swaps s a b d e apart na nb)
  swaps_at (state.MapGo s) (effect.MapGo a) (effect.MapGo b) d e apart na nb = ap state.MapGo (((map_law inner owed false).steps kinds.MapGo refl).swaps s a b d e apart na nb)
  swaps_at (state.MapRr s) (effect.MapRr a) (effect.MapRr b) d e apart na nb = ap state.MapRr (((map_law inner owed true).steps kinds.MapRr refl).swaps s a b d e apart na nb)
  swaps_at s a b d e apart na nb = refl

  held_at : (s : LayerState S) (d : Dot) (e : LayerEffect E) (x : Dot) → layer_holds holds (moves s d e) x ≡ true → (layer_holds holds s x || same_dot d x) ≡ true
  held_at (state.Simple s) d e x h = moved_held simple_step simple_holds (simple_law.steps kinds.CounterPn refl).held s d (simple_effect e) x h
  held_at (state.MapGo s) d e x h = moved_held (map_step has initial step) (map_holds holds) ((map_law inner owed false).steps kinds.MapGo refl).held s d (map_go_effect e) x h
  held_at (state.MapRr s) d e x h = moved_held (map_step has initial step) (map_holds holds) ((map_law inner owed true).steps kinds.MapRr refl).held s d (map_rr_effect e) x h

  layer_steps : (k : Kind) → KeepsSteps (layer_initial {S = S} k) moves (made_by makes k) (layer_names has names) (layer_holds holds)
  layer_steps k = record { swaps = swaps_at; named = (at k).named; held = held_at; none_held = none_at k }

  pub layer_law : KeepsLaw layer_has (layer_too_deep has too_deep) (layer_initial {S = S}) (layer_step has initial step) (layer_made has initial made is_blank) (layer_value value_of) (layer_stamp stamp_of) (layer_meaning has meaning) (layer_names has names) (layer_holds holds)
  layer_law = record {
    means = λ k us is. (at k).means us;
    stamps = λ k u us is. (at k).stamps u us;
    confluent = λ k us vs is. confluence (layer_initial {S = S} k) moves (layer_made has initial made is_blank) k (layer_names has names) (layer_holds holds) (layer_steps k) us vs;
    orderless = λ k us vs is. (at k).orderless us vs;
    unread = λ k s t p a n is. (at k).unread s t p a n;
    steps = λ k is. layer_steps k;
    nameable = λ k us d is. (at k).nameable us d;
  }

  first_at : (k : Kind) → layer_blank is_blank (layer_initial {S = S} k) ≡ true
  first_at kinds.MapGo = (map_in_maps inner owed false).first_blank kinds.MapGo refl
  first_at kinds.MapRr = (map_in_maps inner owed true).first_blank kinds.MapRr refl
  first_at k = simple_in_maps.first_blank k refl

  blank_as : (k : Kind) (s : LayerState S) → layer_blank is_blank s ≡ true → layer_blank is_blank (as_kind k s) ≡ true
  blank_as k s h = as_one (λ t. layer_blank is_blank t ≡ true) k s h (first_at k)

  undoes_at : (k : Kind) (s t : LayerState S) (d : Dot) (n : ℕ) → nests_in kinds.MapRr k ≡ true → layer_blank is_blank s ≡ true → moves t d (makes k s [] act.Reset n) ≡ t
  undoes_at kinds.MapGo s t d n nests h = absurd (true≢false (sym nests))
  undoes_at kinds.MapRr s (state.MapRr t) d n nests h = ap state.MapRr ((map_in_maps inner owed true).undoes_none kinds.MapRr (unwrap_or (map_rr_state s) empty) t d n refl nests (blank_as kinds.MapRr s h))
  undoes_at kinds.MapRr s _ d n nests h = refl
  undoes_at k s (state.Simple t) d n nests h = ap state.Simple (simple_in_maps.undoes_none k (unwrap_or (simple_state s) (simple_initial k)) t d n refl nests (blank_as k s h))
  undoes_at k s _ d n nests h = refl

  shallow_at : (k : Kind) → layer_too_deep has too_deep k [] ≡ false
  shallow_at kinds.MapGo = refl
  shallow_at kinds.MapRr = refl
  shallow_at k = refl

  flat_at : (k : Kind) (p : List Field) → is_map k ≡ false → layer_too_deep has too_deep k p ≡ false
  flat_at kinds.MapGo p out = absurd (true≢false out)
  flat_at kinds.MapRr p out = absurd (true≢false out)
  flat_at k p out = refl

  pub layer_in_maps : KeepsInMaps layer_has (layer_too_deep has too_deep) (layer_initial {S = S}) (layer_step has initial step) (layer_made has initial made is_blank) (layer_blank is_blank)
  layer_in_maps = record { first_blank = λ k is. first_at k; undoes_none = λ k s t d n is. undoes_at k s t d n; shallow = shallow_at; flat = λ k p is. flat_at k p }

  module _ (fields : ResetsWhatIsLeft has too_deep initial step made is_blank names) where
    abbrev after : Kind → List Update → LayerState S
    after k us = state_after (layer_initial {S = S} k) moves (made_by makes k) us

    none_left_at : (k : Kind) (s : LayerState S) (n : ℕ) (d : Dot) → nests_in kinds.MapRr k ≡ true → layer_blank is_blank s ≡ true → layer_names has names (makes k s [] act.Reset n) d ≡ false
    none_left_at kinds.MapRr s n d resets h = (map_resets inner owed fields true).none_left kinds.MapRr (unwrap_or (map_rr_state s) empty) n d refl resets (blank_as kinds.MapRr s h)
    none_left_at kinds.MapGo s n d resets h = absurd (true≢false (sym resets))
    none_left_at k s n d resets h = simple_resets.none_left k (unwrap_or (simple_state s) (simple_initial k)) n d refl resets (blank_as k s h)

    some_left_at : (k : Kind) (us : List Update) (n : ℕ) → nests_in kinds.MapRr k ≡ true → IsHistory us → all_fit (layer_too_deep has too_deep) k us ≡ true → layer_blank is_blank (after k us) ≡ false → (d : Dot) × (layer_names has names (makes k (after k us) [] act.Reset n) d ≡ true)
    some_left_at kinds.MapRr us n resets h fit left = inner_left (map_resets inner owed fields true) kinds.MapRr refl state.MapRr effect.MapRr moves makes (layer_blank is_blank) (layer_names has names) (λ _ _ _. refl) (λ _ _ _ _. refl) (λ _. refl) (λ _ _. refl) us n resets h fit left
    some_left_at kinds.MapGo us n resets h fit left = absurd (true≢false (sym resets))
    some_left_at k us n resets h fit left = inner_left simple_resets k refl state.Simple effect.Simple moves makes (layer_blank is_blank) (layer_names has names) (λ _ _ _. refl) (λ _ _ _ _. refl) (λ _. refl) (λ _ _. refl) us n resets h fit left

    pub layer_resets : ResetsWhatIsLeft layer_has (layer_too_deep has too_deep) (layer_initial {S = S}) (layer_step has initial step) (layer_made has initial made is_blank) (layer_blank is_blank) (layer_names has names)
    layer_resets = record { none_left = λ k s n d is. none_left_at k s n d; some_left = λ k us n is. some_left_at k us n }
