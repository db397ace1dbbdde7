-- The bytes of counters' effects: an amount in two's complement, and for a counter that can be reset what it is before it.
use Rattle.std.specs.Prelude.{◌≡◌, ℕ, zero, suc, ◌^◌, ◌==◌, Bool, true, ◌&&◌, ◌||◌, not, eqb, nat_le, int_lt, List, [], ◌∷◌, ◌++◌, ℤ, pos, neg_ℤ, if◌then◌else◌, refl}
use Rattle.std.proofs.Common.{sym, arith, FitsSigned}
use Rattle.std.specs.Int.{cast_unsigned, cast_signed, w64}
use Rattle.std.proofs.Math.Facts.{Fits-of_z, Fits-lt-pow}
use Rattle.std.proofs.lemmas.Int.{ints, fits_signed_from_abs, to_z-of_z, of_z-to_z}
use Rattle.std.proofs.lemmas.Bool.{false≢true}
use Rattle.field_codec.specs.Spelling.{number, is_number}
use Rattle.field_codec.specs.Reading.{Read, number_at, checked_at, mapped_at}
use Rattle.field_codec.specs.Lawful.{IsForm}
use Rattle.field_codec.specs.FormLaws.{number_form, width8, lt_holds, lt_from, le_from, both_true}
use Rattle.field_codec.specs.Tagged.{tagged_at, tagged_form, shape_form, within_form}
use Rattle.site_vector.specs.declared.ids.Dot.{Dot}
use Rattle.crdt_core.specs.declared.kind.Kind.{Kind}
use Rattle.crdt_core.specs.DotSet.{has_dot}
use Rattle.crdt_core.specs.Spelled.{is_between, are_dots, ascend, is_dots, dots, dots_at}
use Rattle.crdt_core.specs.SpelledLaws.{dots_held_form}
use Rattle.crdt_core.proofs.SetsLaws.{or_none}
use Rattle.crdt_core.specs.EffectForm.{SpellsEffects}
use Rattle.crdt_core.specs.NamedDots.{LiesIn, have_update, NamesAreSpelled}
use Rattle.crdt_core.proofs.NamedDotsLaws.{lies_behind, dots_lie}
use Rattle.crdt_meanings.specs.CounterFat.{fat_names}
use Rattle.crdt_meanings.specs.declared.counters.FatEffect.{FatEffect}
use Rattle.crdt_meanings.specs.declared.counters.FatEffect.TheVariants.{Amount, Reset}
use Rattle.crdt_meanings.specs.Without.{no_dot}

-- from -2^31 to 2^31
abbrev pub is_amount_number : ℤ → Bool
is_amount_number z = not (int_lt z (neg_ℤ (pos 2147483648))) && not (int_lt (pos 2147483648) z)

abbrev pub amount_spelling : ℤ → List ℕ
amount_spelling z = number 8 (cast_unsigned w64 z)

unfoldable pub amount_at : List ℕ → ℕ → Read ℤ
amount_at = checked_at is_amount_number (mapped_at (cast_signed w64) (number_at 8))

fits : (z : ℤ) → is_amount_number z ≡ true → FitsSigned w64 z
fits z h = fits_signed_from_abs w64 z (grind (arith, ints))

back : (z : ℤ) → is_amount_number z ≡ true → cast_signed w64 (cast_unsigned w64 z) ≡ z
back z h = to_z-of_z w64 z (fits z h)

below : (z : ℤ) → is_amount_number z ≡ true → is_number 8 (cast_unsigned w64 z) ≡ true
below z h = let f = Fits-lt-pow {w = w64} (Fits-of_z {w = w64} (fits z h)) in lt_holds (cast_unsigned w64 z) (256 ^ 8) f

forth : (n : ℕ) → is_number 8 n ≡ true → cast_unsigned w64 (cast_signed w64 n) ≡ n
forth n h = of_z-to_z w64 n (lt_from n (256 ^ 8) h)

pub amount_form : IsForm is_amount_number (λ _. true) is_amount_number amount_spelling amount_at
unfolding amount_at
amount_form = within_form (cast_signed w64) (cast_unsigned w64) is_amount_number (is_number 8) (is_number 8) (number 8) (number_at 8) back below forth (number_form 8 width8)

-- ---- the counter that can be reset

abbrev pub fat_mark : FatEffect → ℕ
fat_mark (Amount n) = 0
fat_mark (Reset ds) = 1

abbrev pub can_put_fat : FatEffect → Bool
can_put_fat (Amount n) = is_amount_number n
can_put_fat (Reset ds) = are_dots ds

abbrev pub keeps_fat : FatEffect → Bool
keeps_fat (Amount n) = true
keeps_fat (Reset ds) = ascend ds

abbrev pub fat_sets : FatEffect → List (List Dot)
fat_sets (Amount n) = []
fat_sets (Reset ds) = ds ∷ []

abbrev pub is_fat_spelled : FatEffect → Bool
is_fat_spelled (Amount n) = is_amount_number n
is_fat_spelled (Reset ds) = is_dots ds

abbrev pub fat_rest : FatEffect → List ℕ
fat_rest (Amount n) = amount_spelling n
fat_rest (Reset ds) = dots ds

abbrev pub fat_spelling : FatEffect → List ℕ
fat_spelling e = number 1 (fat_mark e) ++ fat_rest e

unfoldable pub fat_rest_at : ℕ → List ℕ → ℕ → Read FatEffect
fat_rest_at mark = if mark == 0 then mapped_at Amount amount_at else mapped_at Reset dots_at

unfoldable pub fat_at : List ℕ → ℕ → Read FatEffect
fat_at = tagged_at (is_between 0 1) fat_rest_at

amount_shape : (e : FatEffect) → (eqb (fat_mark e) 0 && (can_put_fat e || is_fat_spelled e)) ≡ true → (n : ℤ) × (Amount n ≡ e)
amount_shape (Amount n) h = (n, refl)
amount_shape (Reset ds) h = absurd (false≢true h)

reset_shape : (e : FatEffect) → (eqb (fat_mark e) 1 && (can_put_fat e || is_fat_spelled e)) ≡ true → (ds : List Dot) × (Reset ds ≡ e)
reset_shape (Amount n) h = absurd (false≢true h)
reset_shape (Reset ds) h = (ds, refl)

rest_form : (n : ℕ) → is_between 0 1 n ≡ true → IsForm (λ e. eqb (fat_mark e) n && can_put_fat e) keeps_fat (λ e. eqb (fat_mark e) n && is_fat_spelled e) fat_rest (fat_rest_at n)
unfolding fat_rest_at
rest_form zero h = shape_form (λ e. eqb (fat_mark e) 0) Amount is_amount_number is_amount_number amount_spelling amount_at can_put_fat is_fat_spelled _ (λ n. refl) (λ n. refl) (λ n. refl) (λ n. refl) amount_shape amount_form
rest_form (suc zero) h = shape_form (λ e. eqb (fat_mark e) 1) Reset are_dots is_dots dots dots_at can_put_fat is_fat_spelled _ (λ ds. refl) (λ ds. refl) (λ ds. refl) (λ ds. refl) reset_shape dots_held_form
rest_form (suc (suc n)) h = let le = le_from (suc (suc n)) 1 (both_true (nat_le 0 (suc (suc n))) _ h).1 in absurd (omega arith)

known : (e : FatEffect) → is_between 0 1 (fat_mark e) ≡ true
known (Amount n) = refl
known (Reset ds) = refl

small : (n : ℕ) → is_between 0 1 n ≡ true → is_number 1 n ≡ true
small n h = let le = le_from n 1 (both_true (nat_le 0 n) _ h).1 in lt_holds n (256 ^ 1) (omega (arith, le))

pub fat_form : IsForm can_put_fat keeps_fat is_fat_spelled fat_spelling fat_at
unfolding fat_at
fat_form = tagged_form (is_between 0 1) fat_mark can_put_fat is_fat_spelled fat_rest fat_rest_at known small rest_form

-- every effect is one of the kind
abbrev pub is_of_kind : {E : Type 0} → Kind → E → Bool
is_of_kind k e = true

-- an amount holds no update
abbrev pub amount_sets : ℤ → List (List Dot)
amount_sets z = []

abbrev pub pn_spells : (has : Kind → Bool) → SpellsEffects has is_of_kind is_amount_number (λ _. true) is_amount_number amount_spelling (λ k. amount_at)
pn_spells has = record { form = λ k h. amount_form }

abbrev pub fat_spells : (has : Kind → Bool) → SpellsEffects has is_of_kind can_put_fat keeps_fat is_fat_spelled fat_spelling (λ k. fat_at)
fat_spells has = record { form = λ k h. fat_form }

pub pn_named : NamesAreSpelled is_amount_number no_dot amount_sets amount_spelling
pn_named = record { exact = λ e d can. refl; lies = λ e d can h. absurd (false≢true h) }

fat_exact : (e : FatEffect) (d : Dot) → fat_names e d ≡ have_update (fat_sets e) d
fat_exact (Amount n) d = refl
fat_exact (Reset ds) d = sym (or_none (has_dot ds d))

fat_lies : (e : FatEffect) (d : Dot) → can_put_fat e ≡ true → fat_names e d ≡ true → LiesIn d (fat_spelling e)
fat_lies (Amount n) d can h = absurd (false≢true h)
fat_lies (Reset ds) d can h = lies_behind (number 1 1) (dots_lie ds d can h)

pub fat_named : NamesAreSpelled can_put_fat fat_names fat_sets fat_spelling
fat_named = record { exact = λ e d can. fat_exact e d; lies = fat_lies }
