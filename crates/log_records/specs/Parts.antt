-- The bytes of parts: the transaction, the commit vector, the updates. Those of a message ascend by commit time, and then by transaction.
use Rattle.std.specs.Prelude.{ℕ, ◌==◌, Bool, true, ◌&&◌, List, ◌++◌, if◌then◌else◌, refl}
use Rattle.std.specs.List.{list_all}
use Rattle.std.specs.Ordering.{nat_cmp, ordering_then}
use Rattle.std.specs.declared.cmp.Ordering.{Ordering}
use Rattle.field_codec.specs.Spelling.{list, are_members, is_list, is_below}
use Rattle.field_codec.specs.Reading.{Read, list_at, then_at, mapped_at}
use Rattle.field_codec.specs.Lawful.{IsForm}
use Rattle.field_codec.specs.FormLaws.{list_form, then_form, mapped_form}
use Rattle.site_vector.specs.declared.ids.TxId.{TxId}
use Rattle.site_vector.specs.Order.{tx_cmp}
use Rattle.site_vector.specs.Vector.{entry}
use Rattle.crdt_core.specs.declared.kind.Kind.{Kind}
use Rattle.crdt_core.specs.declared.record.Upd.{Upd}
use Rattle.crdt_core.specs.declared.record.Part.{Part}
use Rattle.crdt_core.specs.Spelled.{is_tx, tx, tx_at, vector, is_vector, vector_at}
use Rattle.crdt_core.specs.SpelledLaws.{tx_form}
use Rattle.crdt_core.specs.EffectForm.{SpellsEffects}
use Rattle.log_records.specs.Fields.{any_vector_form}
use Rattle.log_records.specs.Updates.{can_put_updates, are_updates_spelled, keeps_update, updates, updates_at, updates_form}

-- the commit time at a site: 0 where the vector has no entry for it. There is no site 0.
abbrev pub time_at : ℕ → List ℕ → ℕ
time_at site c = if site == 0 then 0 else entry c site

module _ {E : Type 0} where
  abbrev pub can_put_part : (Kind → Bool) → (Kind → E → Bool) → (E → Bool) → Part E → Bool
  can_put_part has is_of can_put p = is_tx p.tx && can_put_updates has is_of can_put p.updates

  abbrev pub is_part_spelled : (Kind → Bool) → (Kind → E → Bool) → (E → Bool) → Part E → Bool
  is_part_spelled has is_of is_spelled p = is_tx p.tx && (is_vector p.c && are_updates_spelled has is_of is_spelled p.updates)

  abbrev pub keeps_part : (E → Bool) → Part E → Bool
  keeps_part keeps p = is_vector p.c && list_all (keeps_update keeps) p.updates

  abbrev pub part : (E → List ℕ) → Part E → List ℕ
  part spelling p = tx p.tx ++ (vector p.c ++ updates spelling p.updates)

  abbrev pub part_of : TxId × (List ℕ × List (Upd E)) → Part E
  part_of p = record { tx = p.0; c = p.1.0; updates = p.1.1 }

  unfoldable pub part_at : (Kind → Bool) → (Kind → List ℕ → ℕ → Read E) → List ℕ → ℕ → Read (Part E)
  part_at has reading = mapped_at part_of (then_at tx_at (λ _. then_at vector_at (λ _. updates_at has reading)))

  -- by commit time at the sender's site, and then by transaction
  abbrev pub part_cmp : ℕ → Part E → Part E → Ordering
  part_cmp site p q = ordering_then (nat_cmp (time_at site p.c) (time_at site q.c)) (tx_cmp p.tx q.tx)

  -- ---- those of a message from a site

  abbrev pub can_put_parts : (Kind → Bool) → (Kind → E → Bool) → (E → Bool) → ℕ → List (Part E) → Bool
  can_put_parts has is_of can_put site ps = are_members (is_below (part_cmp site)) (can_put_part has is_of can_put) ps

  abbrev pub are_parts_spelled : (Kind → Bool) → (Kind → E → Bool) → (E → Bool) → ℕ → List (Part E) → Bool
  are_parts_spelled has is_of is_spelled site ps = is_list (is_below (part_cmp site)) (is_part_spelled has is_of is_spelled) ps

  abbrev pub parts : (E → List ℕ) → List (Part E) → List ℕ
  parts spelling ps = list (part spelling) ps

  abbrev pub parts_at : (Kind → Bool) → (Kind → List ℕ → ℕ → Read E) → ℕ → List ℕ → ℕ → Read (List (Part E))
  parts_at has reading site = list_at (is_below (part_cmp site)) (part_at has reading)

module _ {E : Type 0} {has : Kind → Bool} {is_of : Kind → E → Bool} {can_put keeps is_spelled : E → Bool} {spelling : E → List ℕ} {reading : Kind → List ℕ → ℕ → Read E}
    (spells : SpellsEffects has is_of can_put keeps is_spelled spelling reading) where
  pub part_form : IsForm (can_put_part has is_of can_put) (keeps_part keeps) (is_part_spelled has is_of is_spelled) (part spelling) (part_at has reading)
  unfolding part_at
  part_form =
      let rest = then_form (λ v. true) is_vector vector vector_at _ _ _ _ any_vector_form (λ _ _. updates_form spells) in
      let whole = then_form is_tx is_tx tx tx_at _ _ _ _ tx_form (λ _ _. rest) in
      mapped_form part_of (λ p. (p.tx, (p.c, p.updates))) _ _ _ _ (λ _. refl) (λ _ _. refl) whole

  pub parts_form : (site : ℕ) → IsForm (can_put_parts has is_of can_put site) (list_all (keeps_part keeps)) (are_parts_spelled has is_of is_spelled site) (parts spelling) (parts_at has reading site)
  parts_form site = list_form (is_below (part_cmp site)) _ _ (part spelling) (part_at has reading) part_form
