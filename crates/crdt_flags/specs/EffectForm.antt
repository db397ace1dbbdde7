-- The bytes of a flag's effect: what it does, and the dots that it takes out.
use Rattle.std.specs.Prelude.{◌≡◌, ℕ, zero, suc, ◌≤◌, ◌==◌, Bool, true, List, [], ◌∷◌, ◌++◌, if◌then◌else◌, refl}
use Rattle.std.proofs.Common.{sym, arith}
use Rattle.field_codec.specs.Spelling.{number}
use Rattle.field_codec.specs.Reading.{Read}
use Rattle.field_codec.specs.Lawful.{IsForm}
use Rattle.site_vector.specs.declared.ids.Dot.{Dot}
use Rattle.crdt_core.specs.declared.kind.Kind.{Kind}
use Rattle.crdt_core.specs.DotSet.{has_dot}
use Rattle.crdt_core.specs.Spelled.{are_dots, ascend, is_dots, dots, dots_at}
use Rattle.crdt_core.specs.SpelledLaws.{marked_at, marked_form, dots_held_form}
use Rattle.crdt_core.proofs.SetsLaws.{or_none}
use Rattle.crdt_core.specs.EffectForm.{SpellsEffects}
use Rattle.crdt_core.specs.NamedDots.{NamesAreSpelled}
use Rattle.crdt_core.proofs.NamedDotsLaws.{lies_behind, dots_lie}
use Rattle.crdt_meanings.specs.Flags.{flag_out, flag_names}
use Rattle.crdt_meanings.specs.declared.flags.FlagEffect.{FlagEffect}
use Rattle.crdt_meanings.specs.declared.flags.FlagEffect.TheVariants.{Enable, Disable, Reset}

abbrev pub flag_mark : FlagEffect → ℕ
flag_mark (Enable ds) = 0
flag_mark (Disable ds) = 1
flag_mark (Reset ds) = 2

abbrev pub marked_flag : ℕ × List Dot → FlagEffect
marked_flag x = if x.0 == 0 then Enable x.1 else if x.0 == 1 then Disable x.1 else Reset x.1

abbrev pub can_put_flag : FlagEffect → Bool
can_put_flag e = are_dots (flag_out e)

abbrev pub keeps_flag : FlagEffect → Bool
keeps_flag e = ascend (flag_out e)

abbrev pub flag_sets : FlagEffect → List (List Dot)
flag_sets e = flag_out e ∷ []

abbrev pub is_flag_spelled : FlagEffect → Bool
is_flag_spelled e = is_dots (flag_out e)

abbrev pub flag_spelling : FlagEffect → List ℕ
flag_spelling e = number 1 (flag_mark e) ++ dots (flag_out e)

unfoldable pub flag_at : List ℕ → ℕ → Read FlagEffect
flag_at = marked_at 2 marked_flag dots_at

back : (e : FlagEffect) → marked_flag (flag_mark e, flag_out e) ≡ e
back (Enable ds) = refl
back (Disable ds) = refl
back (Reset ds) = refl

forth : (n : ℕ) (ds : List Dot) → n ≤ 2 → (flag_mark (marked_flag (n, ds)) ≡ n) × (flag_out (marked_flag (n, ds)) ≡ ds)
forth zero ds le = (refl, refl)
forth (suc zero) ds le = (refl, refl)
forth (suc (suc zero)) ds le = (refl, refl)
forth (suc (suc (suc n))) ds le = absurd (omega (arith, le))

few : (e : FlagEffect) → flag_mark e ≤ 2
few (Enable ds) = omega arith
few (Disable ds) = omega arith
few (Reset ds) = omega arith

pub flag_form : IsForm can_put_flag keeps_flag is_flag_spelled flag_spelling flag_at
unfolding flag_at
flag_form = marked_form 2 (omega arith) marked_flag flag_mark flag_out are_dots is_dots dots dots_at back forth few dots_held_form

-- every effect is one of the kind
abbrev pub is_of_kind : Kind → FlagEffect → Bool
is_of_kind k e = true

abbrev pub flag_spells : (has : Kind → Bool) → SpellsEffects has is_of_kind can_put_flag keeps_flag is_flag_spelled flag_spelling (λ k. flag_at)
flag_spells has = record { form = λ k h. flag_form }

pub flag_named : NamesAreSpelled can_put_flag flag_names flag_sets flag_spelling
flag_named = record {
  exact = λ e d can. sym (or_none (has_dot (flag_out e) d));
  lies = λ e d can h. lies_behind (number 1 (flag_mark e)) (dots_lie (flag_out e) d can h);
}
