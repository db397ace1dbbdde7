-- The bytes that stand before the parts of a message.
use Rattle.std.specs.Prelude.{ℕ, Bool, true, ◌&&◌, List, ◌++◌, refl}
use Rattle.field_codec.specs.Spelling.{number, is_number}
use Rattle.field_codec.specs.Reading.{Read, number_at, then_at, mapped_at}
use Rattle.field_codec.specs.Lawful.{IsForm}
use Rattle.field_codec.specs.FormLaws.{width1, width8, then_form, mapped_form}
use Rattle.log_records.specs.declared.head.Head.{Head}
use Rattle.log_records.specs.Fields.{any_number_form}

abbrev pub is_head : Head → Bool
is_head h = is_number 1 h.from && (is_number 1 h.to && (is_number 1 h.part && (is_number 8 h.lo && is_number 8 h.hi)))

abbrev pub head : Head → List ℕ
head h = number 1 h.from ++ (number 1 h.to ++ (number 1 h.part ++ (number 8 h.lo ++ number 8 h.hi)))

abbrev pub head_of : ℕ × (ℕ × (ℕ × (ℕ × ℕ))) → Head
head_of p = record { from = p.0; to = p.1.0; part = p.1.1.0; lo = p.1.1.1.0; hi = p.1.1.1.1 }

unfoldable pub head_at : List ℕ → ℕ → Read Head
head_at = mapped_at head_of (then_at (number_at 1) (λ _. then_at (number_at 1) (λ _. then_at (number_at 1) (λ _. then_at (number_at 8) (λ _. number_at 8)))))

pub head_form : IsForm (λ h. true) is_head is_head head head_at
unfolding head_at
head_form =
    let one = any_number_form 1 width1 in
    let eight = any_number_form 8 width8 in
    let bounds = then_form (λ n. true) (is_number 8) (number 8) (number_at 8) _ _ _ _ eight (λ _ _. eight) in
    let of_part = then_form (λ n. true) (is_number 1) (number 1) (number_at 1) _ _ _ _ one (λ _ _. bounds) in
    let receiver = then_form (λ n. true) (is_number 1) (number 1) (number_at 1) _ _ _ _ one (λ _ _. of_part) in
    let whole = then_form (λ n. true) (is_number 1) (number 1) (number_at 1) _ _ _ _ one (λ _ _. receiver) in
    mapped_form head_of (λ h. (h.from, (h.to, (h.part, (h.lo, h.hi))))) _ _ _ _ (λ _. refl) (λ _ _. refl) whole
