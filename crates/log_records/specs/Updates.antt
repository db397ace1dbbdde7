-- The bytes of updates: the number, the object, the effect. Those of a transaction ascend by number, and there is one at least.
use Rattle.std.specs.Prelude.{◌≡◌, ℕ, Bool, true, false, ◌&&◌, nat_lt, List, [], ◌∷◌, ◌++◌, refl}
use Rattle.std.proofs.Common.{arith}
use Rattle.std.specs.List.{list_all}
use Rattle.field_codec.specs.Spelling.{number, is_text, list, are_members, is_list}
use Rattle.field_codec.specs.Reading.{Read, list_at, checked_at, then_at, mapped_at}
use Rattle.field_codec.specs.Lawful.{IsForm}
use Rattle.field_codec.specs.FormLaws.{width2, list_form, checked_form, then_form, mapped_form, both_true}
use Rattle.crdt_core.specs.declared.kind.Kind.{Kind}
use Rattle.crdt_core.specs.declared.object.ObjectId.{ObjectId}
use Rattle.crdt_core.specs.declared.record.Upd.{Upd}
use Rattle.crdt_core.specs.Spelled.{is_between, between_at, is_object, object, object_at}
use Rattle.crdt_core.specs.SpelledLaws.{between_form}
use Rattle.crdt_core.specs.EffectForm.{SpellsEffects}
use Rattle.log_records.specs.Fields.{any_object_form}

abbrev pub has_some : {A : Type 0} → List A → Bool
has_some [] = false
has_some (x ∷ xs) = true

module _ {E : Type 0} where
  abbrev pub can_put_update : (Kind → Bool) → (Kind → E → Bool) → (E → Bool) → Upd E → Bool
  can_put_update has is_of can_put u = is_between 1 256 u.index && (has u.object.kind && (is_of u.object.kind u.effect && can_put u.effect))

  abbrev pub is_update_spelled : (Kind → Bool) → (Kind → E → Bool) → (E → Bool) → Upd E → Bool
  is_update_spelled has is_of is_spelled u = is_between 1 256 u.index && (is_object has u.object && (is_of u.object.kind u.effect && is_spelled u.effect))

  abbrev pub keeps_update : (E → Bool) → Upd E → Bool
  keeps_update keeps u = (is_text u.object.bucket && is_text u.object.key) && keeps u.effect

  abbrev pub update : (E → List ℕ) → Upd E → List ℕ
  update spelling u = number 2 u.index ++ (object u.object ++ spelling u.effect)

  abbrev pub update_of : ℕ × (ObjectId × E) → Upd E
  update_of p = record { object = p.1.0; index = p.0; effect = p.1.1 }

  unfoldable pub update_at : (Kind → Bool) → (Kind → List ℕ → ℕ → Read E) → List ℕ → ℕ → Read (Upd E)
  update_at has reading = mapped_at update_of (then_at (between_at 2 1 256) (λ _. then_at (object_at has) (λ o. reading o.kind)))

  abbrev pub index_below : Upd E → Upd E → Bool
  index_below u w = nat_lt u.index w.index

  -- ---- those of a transaction

  abbrev pub can_put_updates : (Kind → Bool) → (Kind → E → Bool) → (E → Bool) → List (Upd E) → Bool
  can_put_updates has is_of can_put us = has_some us && are_members index_below (can_put_update has is_of can_put) us

  abbrev pub are_updates_spelled : (Kind → Bool) → (Kind → E → Bool) → (E → Bool) → List (Upd E) → Bool
  are_updates_spelled has is_of is_spelled us = has_some us && is_list index_below (is_update_spelled has is_of is_spelled) us

  abbrev pub updates : (E → List ℕ) → List (Upd E) → List ℕ
  updates spelling us = list (update spelling) us

  unfoldable pub updates_at : (Kind → Bool) → (Kind → List ℕ → ℕ → Read E) → List ℕ → ℕ → Read (List (Upd E))
  updates_at has reading = checked_at has_some (list_at index_below (update_at has reading))

module _ {E : Type 0} {has : Kind → Bool} {is_of : Kind → E → Bool} {can_put keeps is_spelled : E → Bool} {spelling : E → List ℕ} {reading : Kind → List ℕ → ℕ → Read E}
    (spells : SpellsEffects has is_of can_put keeps is_spelled spelling reading) where
  has_kind : (o : ObjectId) → is_object has o ≡ true → has o.kind ≡ true
  has_kind o h = (both_true (is_text o.key) (has o.kind) (both_true (is_text o.bucket) (is_text o.key && has o.kind) h).1).1

  pub update_form : IsForm (can_put_update has is_of can_put) (keeps_update keeps) (is_update_spelled has is_of is_spelled) (update spelling) (update_at has reading)
  unfolding update_at
  update_form =
      let effect = then_form (λ o. has o.kind) (is_object has) object (object_at has) (λ o e. is_of o.kind e && can_put e) (λ o e. is_of o.kind e && is_spelled e) (λ _. spelling) (λ o. reading o.kind) (any_object_form has) (λ o h. spells.form o.kind (has_kind o h)) in
      let whole = then_form (is_between 1 256) (is_between 1 256) (number 2) (between_at 2 1 256) _ _ _ _ (between_form 2 1 256 width2 (omega arith)) (λ _ _. effect) in
      mapped_form update_of (λ u. (u.index, (u.object, u.effect))) _ _ _ _ (λ _. refl) (λ _ _. refl) whole

  pub updates_form : IsForm (can_put_updates has is_of can_put) (list_all (keeps_update keeps)) (are_updates_spelled has is_of is_spelled) (updates spelling) (updates_at has reading)
  unfolding updates_at
  updates_form = checked_form has_some _ _ _ _ (list_form index_below _ _ (update spelling) (update_at has reading) update_form)
