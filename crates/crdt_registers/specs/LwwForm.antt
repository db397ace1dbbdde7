-- The bytes of an assign to the register that the last writer wins: its stamp, and its text.
use Rattle.std.specs.Prelude.{ℕ, Bool, true, ◌&&◌, List, [], ◌++◌, refl}
use Rattle.std.proofs.Common.{arith}
use Rattle.std.proofs.lemmas.Bool.{false≢true}
use Rattle.field_codec.specs.Spelling.{number, text, is_text}
use Rattle.field_codec.specs.Reading.{Read, text_at, then_at, mapped_at}
use Rattle.field_codec.specs.Lawful.{IsForm}
use Rattle.field_codec.specs.FormLaws.{any_text_form, width8, then_form, mapped_form, both_true, and_true}
use Rattle.site_vector.specs.declared.ids.Dot.{Dot}
use Rattle.crdt_core.specs.declared.kind.Kind.{Kind}
use Rattle.crdt_core.specs.Spelled.{is_between, between_at}
use Rattle.crdt_core.specs.SpelledLaws.{between_form}
use Rattle.crdt_core.specs.EffectForm.{SpellsEffects}
use Rattle.crdt_core.specs.NamedDots.{NamesAreSpelled}
use Rattle.crdt_core.specs.Stamps.{last_stamp}
use Rattle.crdt_registers.specs.EffectForm.{is_of_kind}
use Rattle.crdt_meanings.specs.Without.{no_dot}
use Rattle.crdt_meanings.specs.declared.registers.Assigned.{Assigned}

abbrev pub can_put_lww : Assigned → Bool
can_put_lww e = is_between 0 last_stamp e.stamp

abbrev pub keeps_lww : Assigned → Bool
keeps_lww e = is_text e.text

abbrev pub lww_sets : Assigned → List (List Dot)
lww_sets e = []

abbrev pub is_lww_spelled : Assigned → Bool
is_lww_spelled e = is_between 0 last_stamp e.stamp && is_text e.text

abbrev pub lww_spelling : Assigned → List ℕ
lww_spelling e = number 8 e.stamp ++ text e.text

abbrev pub assigned_of : ℕ × List ℕ → Assigned
assigned_of p = record { stamp = p.0; text = p.1 }

unfoldable pub lww_at : List ℕ → ℕ → Read Assigned
lww_at = mapped_at assigned_of (then_at (between_at 8 0 last_stamp) (λ _. text_at))

pub lww_form : IsForm can_put_lww keeps_lww is_lww_spelled lww_spelling lww_at
unfolding lww_at
lww_form =
    let stamps = is_between 0 last_stamp in
    let whole = then_form stamps stamps (number 8) (between_at 8 0 last_stamp) (λ _ _. true) (λ _. is_text) (λ _. text) (λ _. text_at) (between_form 8 0 last_stamp width8 (omega arith)) (λ _ _. any_text_form) in
    let law = mapped_form assigned_of (λ e. (e.stamp, e.text)) _ _ _ _ (λ _. refl) (λ _ _. refl) whole in
    record { found = law.found; again = law.again; fit = λ e good. (both_true (stamps e.stamp) (is_text e.text) good).0; all = λ e can kept short. and_true (stamps e.stamp) (is_text e.text) can kept; ends = law.ends; tells = law.tells }

abbrev pub lww_spells : (has : Kind → Bool) → SpellsEffects has is_of_kind can_put_lww keeps_lww is_lww_spelled lww_spelling (λ k. lww_at)
lww_spells has = record { form = λ k h. lww_form }

pub lww_named : NamesAreSpelled can_put_lww no_dot lww_sets lww_spelling
lww_named = record { exact = λ e d can. refl; lies = λ e d can h. absurd (false≢true h) }
