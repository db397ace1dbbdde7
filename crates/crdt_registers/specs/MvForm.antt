-- The bytes of an effect of the register that keeps the texts of concurrent assigns: what it does, the text that it puts, and
-- the dots that it takes out.
use Rattle.std.specs.Prelude.{◌≡◌, ℕ, ◌==◌, eqb, Bool, true, ◌&&◌, ◌||◌, List, [], ◌∷◌, ◌++◌, if◌then◌else◌, refl}
use Rattle.std.proofs.Common.{sym, subst, ⊎_elim}
use Rattle.std.proofs.lemmas.Bool.{false≢true, eqb-true, or_cases}
use Rattle.field_codec.specs.Spelling.{number, is_number, text, is_text}
use Rattle.field_codec.specs.Reading.{Read, text_at, then_at, mapped_at}
use Rattle.field_codec.specs.Lawful.{IsForm}
use Rattle.field_codec.specs.FormLaws.{any_text_form, then_form}
use Rattle.field_codec.specs.Tagged.{tagged_at, tagged_form, shape_form}
use Rattle.site_vector.specs.declared.ids.Dot.{Dot}
use Rattle.crdt_core.specs.declared.kind.Kind.{Kind}
use Rattle.crdt_core.specs.Spelled.{are_dots, ascend, is_dots, dots, dots_at}
use Rattle.crdt_core.specs.SpelledLaws.{dots_held_form}
use Rattle.crdt_core.specs.EffectForm.{SpellsEffects}
use Rattle.crdt_core.proofs.SetsLaws.{or_none}
use Rattle.crdt_core.specs.DotSet.{has_dot}
use Rattle.crdt_core.specs.NamedDots.{LiesIn, NamesAreSpelled}
use Rattle.crdt_core.proofs.NamedDotsLaws.{lies_behind, dots_lie}
use Rattle.crdt_registers.specs.EffectForm.{is_of_kind}
use Rattle.crdt_meanings.specs.RegisterMv.{mv_out, mv_names}
use Rattle.crdt_meanings.specs.declared.registers.MvEffect.{MvEffect}
use Rattle.crdt_meanings.specs.declared.registers.MvEffect.TheVariants.{Assign, Reset}

abbrev pub mv_mark : MvEffect → ℕ
mv_mark (Assign x ds) = 0
mv_mark (Reset ds) = 2

abbrev pub is_mv_mark : ℕ → Bool
is_mv_mark n = n == 0 || n == 2

abbrev pub can_put_mv : MvEffect → Bool
can_put_mv e = are_dots (mv_out e)

abbrev pub mv_sets : MvEffect → List (List Dot)
mv_sets e = mv_out e ∷ []

abbrev pub keeps_mv : MvEffect → Bool
keeps_mv (Assign x ds) = is_text x && ascend ds
keeps_mv (Reset ds) = ascend ds

abbrev pub is_mv_spelled : MvEffect → Bool
is_mv_spelled (Assign x ds) = is_text x && is_dots ds
is_mv_spelled (Reset ds) = is_dots ds

abbrev pub mv_rest : MvEffect → List ℕ
mv_rest (Assign x ds) = text x ++ dots ds
mv_rest (Reset ds) = dots ds

abbrev pub mv_spelling : MvEffect → List ℕ
mv_spelling e = number 1 (mv_mark e) ++ mv_rest e

abbrev pub assign_of : List ℕ × List Dot → MvEffect
assign_of p = Assign p.0 p.1

abbrev pub mv_rest_at : ℕ → List ℕ → ℕ → Read MvEffect
mv_rest_at mark = if mark == 0 then mapped_at assign_of (then_at text_at (λ _. dots_at)) else mapped_at Reset dots_at

unfoldable pub mv_at : List ℕ → ℕ → Read MvEffect
mv_at = tagged_at is_mv_mark mv_rest_at

assign_shape : (e : MvEffect) → (eqb (mv_mark e) 0 && (can_put_mv e || is_mv_spelled e)) ≡ true → (p : List ℕ × List Dot) × (assign_of p ≡ e)
assign_shape (Assign x ds) h = ((x, ds), refl)
assign_shape (Reset ds) h = absurd (false≢true h)

reset_shape : (e : MvEffect) → (eqb (mv_mark e) 2 && (can_put_mv e || is_mv_spelled e)) ≡ true → (ds : List Dot) × (Reset ds ≡ e)
reset_shape (Assign x ds) h = absurd (false≢true h)
reset_shape (Reset ds) h = (ds, refl)

abbrev HasForm : ℕ → Type 0
HasForm n = IsForm (λ e. eqb (mv_mark e) n && can_put_mv e) keeps_mv (λ e. eqb (mv_mark e) n && is_mv_spelled e) mv_rest (mv_rest_at n)

assign_form : HasForm 0
assign_form =
    let whole = then_form (λ _. true) is_text text text_at (λ _. are_dots) (λ _. is_dots) (λ _. dots) (λ _. dots_at) any_text_form (λ _ _. dots_held_form) in
    shape_form (λ e. eqb (mv_mark e) 0) assign_of (λ p. are_dots p.1) (λ p. is_text p.0 && is_dots p.1) (λ p. text p.0 ++ dots p.1) (then_at text_at (λ _. dots_at)) can_put_mv is_mv_spelled _ (λ p. refl) (λ p. refl) (λ p. refl) (λ p. refl) assign_shape whole

reset_form : HasForm 2
reset_form = shape_form (λ e. eqb (mv_mark e) 2) Reset are_dots is_dots dots dots_at can_put_mv is_mv_spelled _ (λ ds. refl) (λ ds. refl) (λ ds. refl) (λ ds. refl) reset_shape dots_held_form

rest_form : (n : ℕ) → is_mv_mark n ≡ true → HasForm n
rest_form n h = ⊎_elim (λ e. subst HasForm (sym (eqb-true n 0 e)) assign_form) (λ e. subst HasForm (sym (eqb-true n 2 e)) reset_form) (or_cases (n == 0) (n == 2) h)

known : (e : MvEffect) → is_mv_mark (mv_mark e) ≡ true
known (Assign x ds) = refl
known (Reset ds) = refl

small : (n : ℕ) → is_mv_mark n ≡ true → is_number 1 n ≡ true
small n h = ⊎_elim (λ e. subst (λ k. is_number 1 k ≡ true) (sym (eqb-true n 0 e)) refl) (λ e. subst (λ k. is_number 1 k ≡ true) (sym (eqb-true n 2 e)) refl) (or_cases (n == 0) (n == 2) h)

pub mv_form : IsForm can_put_mv keeps_mv is_mv_spelled mv_spelling mv_at
unfolding mv_at
mv_form = tagged_form is_mv_mark mv_mark can_put_mv is_mv_spelled mv_rest mv_rest_at known small rest_form

abbrev pub mv_spells : (has : Kind → Bool) → SpellsEffects has is_of_kind can_put_mv keeps_mv is_mv_spelled mv_spelling (λ k. mv_at)
mv_spells has = record { form = λ k h. mv_form }

mv_lies : (e : MvEffect) (d : Dot) → can_put_mv e ≡ true → mv_names e d ≡ true → LiesIn d (mv_spelling e)
mv_lies (Assign x ds) d can h = lies_behind (number 1 0) (lies_behind (text x) (dots_lie ds d can h))
mv_lies (Reset ds) d can h = lies_behind (number 1 2) (dots_lie ds d can h)

pub mv_named : NamesAreSpelled can_put_mv mv_names mv_sets mv_spelling
mv_named = record { exact = λ e d can. sym (or_none (has_dot (mv_out e) d)); lies = mv_lies }
