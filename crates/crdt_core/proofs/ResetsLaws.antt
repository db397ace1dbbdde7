-- Where something is left, a reset that lists the dots of what is kept names an update.
use Rattle.std.proofs.Common.{◌≡◌, ℕ, Bool, true, false, List, [], ◌∷◌, refl, sym, ap, ◌∙◌, length}
use Rattle.std.specs.Prelude.{map, ◌==◌}
use Rattle.std.specs.declared.cmp.Ordering.{Ordering}
use Rattle.std.proofs.lemmas.Bool.{true≢false, or_left}
use Rattle.std.specs.FinMap.{FinMap, entries, len, len-entries}
use Rattle.site_vector.specs.declared.ids.Dot.{Dot}
use Rattle.site_vector.specs.Ids.{same_dot}
use Rattle.site_vector.specs.Order.{same_dot_refl}
use Rattle.crdt_core.specs.declared.kind.Kind.{Kind}
use Rattle.crdt_core.specs.declared.kind.Kind.TheVariants.{MapRr}
use Rattle.crdt_core.specs.declared.object.Field.{Field}
use Rattle.crdt_core.specs.declared.operation.Act.{Act}
use Rattle.crdt_core.specs.declared.operation.Act.TheVariants.{Reset}
use Rattle.crdt_core.specs.Kinds.{same_kind}
use Rattle.crdt_core.specs.Fits.{nests_in, allows}
use Rattle.crdt_core.specs.DotSet.{has_dot}
use Rattle.crdt_core.specs.Kept.{KeptAt, dots_of, is_kept, keeps_none}
use Rattle.crdt_core.specs.Law.{CanBeNamed}
use Rattle.crdt_core.proofs.KeptSteps.{has_dots_of}
use Rattle.crdt_core.proofs.Blank.{no_keys, never_reset}
use Rattle.crdt_core.specs.Resets.{ResetsWhatIsLeft}

first_of : {A : Type 0} (xs : List A) → (length xs == 0) ≡ false → (x : A) × (rest : List A) × (xs ≡ x ∷ rest)
first_of [] h = absurd (true≢false h)
first_of (x ∷ xs) h = (x, xs, refl)

-- a finite map that isn't empty has a first entry
pub first_entry : {K X : Type 0} {R : K → K → Ordering} (m : FinMap R X) → (len m == 0) ≡ false → (e : K × X) × (rest : List (K × X)) × (entries m ≡ e ∷ rest)
first_entry m h = first_of (entries m) (sym (ap (λ n. n == 0) (len-entries m)) ∙ h)

pub some_dot : {V : Type 0} (m : KeptAt V) → keeps_none m ≡ false → (d : Dot) × (has_dot (dots_of m) d ≡ true)
some_dot m h = let w = first_entry m h in let d = w.0.0 in (d, ap (λ es. has_dot (map (λ e. e.0) es) d) w.2 ∙ or_left (same_dot d d) _ (same_dot_refl d))

-- a kind that keeps values at dots, and whose reset lists the dots of all that is kept
pub kept_resets : {V E : Type 0} {has : Kind → Bool} {too_deep : Kind → List Field → Bool} {initial : Kind → KeptAt V} {step : KeptAt V → Dot → E → KeptAt V} {made : Kind → KeptAt V → List Field → Act → ℕ → E} {names : E → Dot → Bool}
    → ((k : Kind) (s : KeptAt V) (n : ℕ) (d : Dot) → names (made k s [] Reset n) d ≡ has_dot (dots_of s) d) → ResetsWhatIsLeft has too_deep initial step made keeps_none names
kept_resets lists = record {
  none_left = λ k s n d is resets blank. lists k s n d ∙ ap (λ ds. has_dot ds d) (no_keys s blank);
  some_left = λ k us n is resets h fit left. let w = some_dot _ left in (w.0, lists k _ n w.0 ∙ w.1);
}

-- a kind that may not stand in a map that resets
pub never_resets : {S E : Type 0} {too_deep : Kind → List Field → Bool} {initial : Kind → S} {step : S → Dot → E → S} {made : Kind → S → List Field → Act → ℕ → E} {is_blank : S → Bool} {names : E → Dot → Bool} (l : Kind)
    → nests_in MapRr l ≡ false → ResetsWhatIsLeft (λ k. same_kind k l) too_deep initial step made is_blank names
never_resets l out = record {
  none_left = λ k s n d is resets blank. absurd (true≢false (never_reset k l is out resets));
  some_left = λ k us n is resets h fit left. absurd (true≢false (never_reset k l is out resets));
}

-- what such a kind holds, its reset names
pub named_by_reset : {V E : Type 0} (made : Kind → KeptAt V → List Field → Act → ℕ → E) (names : E → Dot → Bool)
    → ((k : Kind) (s : KeptAt V) (n : ℕ) (d : Dot) → names (made k s [] Reset n) d ≡ has_dot (dots_of s) d) → (k : Kind) (s : KeptAt V) (d : Dot) → allows k Reset ≡ true → is_kept s d ≡ true → CanBeNamed (λ k p. false) made names k s d
named_by_reset made names lists k s d resets h = ([], Reset, resets, refl, λ n. lists k s n d ∙ has_dots_of s d ∙ h)
