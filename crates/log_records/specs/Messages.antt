-- The bytes of messages: both sites, the number of the partitions, the bounds, and the parts. Those of a Batch are not none.
use Rattle.std.specs.Prelude.{ℕ, Bool, true, ◌&&◌, List, ◌++◌, refl}
use Rattle.std.specs.List.{list_all}
use Rattle.field_codec.specs.Reading.{Read, checked_at, then_at, mapped_at}
use Rattle.field_codec.specs.Lawful.{IsForm}
use Rattle.field_codec.specs.FormLaws.{checked_form, then_form, mapped_form}
use Rattle.crdt_core.specs.declared.kind.Kind.{Kind}
use Rattle.crdt_core.specs.declared.record.Part.{Part}
use Rattle.crdt_core.specs.declared.record.Message.{Message}
use Rattle.crdt_core.specs.EffectForm.{SpellsEffects}
use Rattle.log_records.specs.declared.head.Head.{Head}
use Rattle.log_records.specs.Heads.{is_head, head, head_at, head_form}
use Rattle.log_records.specs.Updates.{has_some}
use Rattle.log_records.specs.Parts.{can_put_parts, are_parts_spelled, keeps_part, parts, parts_at, parts_form}

module _ {E : Type 0} where
  abbrev pub head_in : Message E → Head
  head_in m = record { from = m.from; to = m.to; part = m.part; lo = m.lo; hi = m.hi }

  abbrev pub message_of : Head × List (Part E) → Message E
  message_of p = record { from = p.0.from; to = p.0.to; part = p.0.part; lo = p.0.lo; hi = p.0.hi; parts = p.1 }

  abbrev pub can_put_message : (Kind → Bool) → (Kind → E → Bool) → (E → Bool) → Message E → Bool
  can_put_message has is_of can_put m = can_put_parts has is_of can_put m.from m.parts

  abbrev pub is_message_spelled : (Kind → Bool) → (Kind → E → Bool) → (E → Bool) → Message E → Bool
  is_message_spelled has is_of is_spelled m = is_head (head_in m) && are_parts_spelled has is_of is_spelled m.from m.parts

  abbrev pub keeps_message : (E → Bool) → Message E → Bool
  keeps_message keeps m = is_head (head_in m) && list_all (keeps_part keeps) m.parts

  abbrev pub message : (E → List ℕ) → Message E → List ℕ
  message spelling m = head (head_in m) ++ parts spelling m.parts

  unfoldable pub message_at : (Kind → Bool) → (Kind → List ℕ → ℕ → Read E) → List ℕ → ℕ → Read (Message E)
  message_at has reading = mapped_at message_of (then_at head_at (λ h. parts_at has reading h.from))

  -- ---- that of a Batch

  abbrev pub can_put_batch : (Kind → Bool) → (Kind → E → Bool) → (E → Bool) → Message E → Bool
  can_put_batch has is_of can_put m = has_some m.parts && can_put_message has is_of can_put m

  abbrev pub is_batch_spelled : (Kind → Bool) → (Kind → E → Bool) → (E → Bool) → Message E → Bool
  is_batch_spelled has is_of is_spelled m = is_head (head_in m) && (has_some m.parts && are_parts_spelled has is_of is_spelled m.from m.parts)

  unfoldable pub batch_at : (Kind → Bool) → (Kind → List ℕ → ℕ → Read E) → List ℕ → ℕ → Read (Message E)
  batch_at has reading = mapped_at message_of (then_at head_at (λ h. checked_at has_some (parts_at has reading h.from)))

module _ {E : Type 0} {has : Kind → Bool} {is_of : Kind → E → Bool} {can_put keeps is_spelled : E → Bool} {spelling : E → List ℕ} {reading : Kind → List ℕ → ℕ → Read E}
    (spells : SpellsEffects has is_of can_put keeps is_spelled spelling reading) where
  pub message_form : IsForm (can_put_message has is_of can_put) (keeps_message keeps) (is_message_spelled has is_of is_spelled) (message spelling) (message_at has reading)
  unfolding message_at
  message_form =
      let whole = then_form (λ h. true) is_head head head_at (λ h. can_put_parts has is_of can_put h.from) (λ h. are_parts_spelled has is_of is_spelled h.from) (λ _. parts spelling) (λ h. parts_at has reading h.from) head_form (λ h _. parts_form spells h.from) in
      mapped_form message_of (λ m. (head_in m, m.parts)) _ _ _ _ (λ _. refl) (λ _ _. refl) whole

  pub batch_form : IsForm (can_put_batch has is_of can_put) (keeps_message keeps) (is_batch_spelled has is_of is_spelled) (message spelling) (batch_at has reading)
  unfolding batch_at
  batch_form =
      let some : (site : ℕ) → IsForm (λ ps. has_some ps && can_put_parts has is_of can_put site ps) (list_all (keeps_part keeps)) (λ ps. has_some ps && are_parts_spelled has is_of is_spelled site ps) (parts spelling) (checked_at has_some (parts_at has reading site)) =
      λ site. checked_form has_some (can_put_parts has is_of can_put site) (are_parts_spelled has is_of is_spelled site) (parts spelling) (parts_at has reading site) (parts_form spells site) in
      let whole = then_form (λ h. true) is_head head head_at (λ h ps. has_some ps && can_put_parts has is_of can_put h.from ps) (λ h ps. has_some ps && are_parts_spelled has is_of is_spelled h.from ps) (λ _. parts spelling) (λ h. checked_at has_some (parts_at has reading h.from)) head_form (λ h _. some h.from) in
      mapped_form message_of (λ m. (head_in m, m.parts)) _ _ _ _ (λ _. refl) (λ _ _. refl) whole
