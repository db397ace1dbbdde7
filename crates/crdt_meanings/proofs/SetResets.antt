-- A reset of a set names an update wherever an element stands.
use Rattle.std.proofs.Common.{◌≡◌, ℕ, Bool, true, false, cond, List, [], ◌∷◌, Option, Some, None, refl, sym, ap, ◌∙◌}
use Rattle.std.specs.Prelude.{map, is_some, unwrap_or, ◌==◌}
use Rattle.std.proofs.lemmas.Bool.{true≢false, or_left}
use Rattle.std.specs.FinMap.{empty, get, find, keys, len, get-empty, get-entries}
use Rattle.site_vector.specs.declared.ids.Dot.{Dot}
use Rattle.crdt_core.specs.DotSet.{has_dot}
use Rattle.crdt_core.specs.History.{folded, effects}
use Rattle.crdt_core.specs.Law.{made_by}
use Rattle.crdt_core.specs.Texts.{text_cmp, same_text_itself}
use Rattle.crdt_core.specs.Kept.{KeptAt, kept_step, dots_of, keeps_none}
use Rattle.crdt_core.proofs.Blank.{no_keys, empty_kept}
use Rattle.crdt_core.specs.Resets.{ResetsWhatIsLeft}
use Rattle.crdt_core.proofs.ResetsLaws.{first_entry, some_dot}
use Rattle.crdt_meanings.specs.declared.sets.Named.{Named}
use Rattle.crdt_meanings.specs.declared.sets.SetEffect.{SetEffect}
use Rattle.crdt_meanings.specs.Elements.{Elements, lacks_all, at, take_named, named_at, names_dot}
use Rattle.crdt_meanings.proofs.ElementSteps.{standing, lists, dots_at, at_none, get-take_named, at-take_named}
use Rattle.crdt_meanings.specs.Sets.{set_has, named_of, set_own, set_step, kind_made, set_names}

-- an element stands only where something is kept of it
abbrev IsTidy : Elements → Type 0
IsTidy m = (x : List ℕ) → get m x ≡ standing (at m x)

tidy_none : IsTidy empty
tidy_none x = get-empty text_cmp x ∙ sym (ap standing (at_none x) ∙ ap (λ b. cond b None (Some empty)) (empty_kept Bool))

tidy_named : (ns : List Named) (m : Elements) (d : Dot) (own : Option Bool) → IsTidy m → IsTidy (take_named m d own ns)
tidy_named ns m d own h x =
    let k = kept_step (at m x) d (dots_at ns x) own in
    get-take_named ns m d own x
    ∙ elim (lists ns x) as (λ b. cond b (standing k) (get m x) ≡ standing (cond b k (at m x))) [ true ↦ refl | false ↦ h x ]
    ∙ ap standing (sym (at-take_named ns m d own x))

standing_keeps : (k : KeptAt Bool) → Some k ≡ standing k → keeps_none k ≡ false
standing_keeps k h = elim (len k == 0) as (λ b. Some k ≡ cond b None (Some k) → b ≡ false) [ true ↦ λ h. absurd (true≢false (ap is_some h)) | false ↦ λ h. refl ] h

-- a reset lists the dots of each element that stands
some_named : (m : Elements) → IsTidy m → lacks_all m ≡ false → (d : Dot) × (names_dot (named_at m (keys m)) d ≡ true)
some_named m tidy h =
    let w = first_entry m h in
    let x = w.0.0 in
    let k = w.0.1 in
    let there : get m x ≡ Some k = get-entries m x ∙ ap (find text_cmp x) w.2 ∙ ap (λ b. cond b (Some k) (find text_cmp x w.1)) (same_text_itself x) in
    let same : at m x ≡ k = ap (λ o. unwrap_or o empty) there in
    let dot = some_dot k (standing_keeps k (sym there ∙ tidy x ∙ ap standing same)) in
    (dot.0, ap (λ es. names_dot (named_at m (map (λ e. e.0) es)) dot.0) w.2 ∙ or_left (has_dot (dots_of (at m x)) dot.0) _ (ap (λ j. has_dot (dots_of j) dot.0) same ∙ dot.1))

tidy_after : (w : Bool) (es : List (Dot × SetEffect)) → IsTidy (folded empty (set_step w) es)
tidy_after w [] = tidy_none
tidy_after w (e ∷ es) = tidy_named (named_of e.1) (folded empty (set_step w) es) e.0 (set_own w e.1) (tidy_after w es)

pub set_resets : (w : Bool) → ResetsWhatIsLeft (set_has w) (λ k p. false) (λ k. empty) (set_step w) kind_made lacks_all set_names
set_resets w = record {
  none_left = λ k s n d is resets blank. ap (λ xs. names_dot (named_at s xs) d) (no_keys s blank);
  some_left = λ k us n is resets h fit left. some_named _ (tidy_after w (effects empty (set_step w) (made_by kind_made k) us)) left;
}
