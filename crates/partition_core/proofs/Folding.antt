-- What a read folds, and what its code applies.
use Rattle.std.proofs.Common.{◌≡◌, ℕ, true, false, ◌&&◌, List, [], ◌∷◌, refl, ap, ◌∙◌}
use Rattle.std.specs.Prelude.{if◌then◌else◌}
use Rattle.site_vector.specs.declared.ids.TxId.{TxId}
use Rattle.site_vector.specs.declared.ids.Dot.{Dot}
use Rattle.site_vector.specs.Vector.{le}
use Rattle.crdt_core.specs.declared.object.ObjectId.{ObjectId}
use Rattle.crdt_core.specs.declared.record.Upd.{Upd}
use Rattle.crdt_core.specs.declared.record.Part.{Part}
use Rattle.crdt_core.specs.declared.record.Record.{Record}
use Rattle.crdt_core.specs.Objects.{same_object}
use Rattle.crdt_core.specs.History.{folded}
use Rattle.crdt_core.specs.Log.{held_at, held_changes}
use Rattle.crdt_core.specs.Orders.{fold_cmp}
use Rattle.crdt_core.specs.Parts.{touches, seen_parts}
use Rattle.crdt_core.specs.Folds.{IsFold, effects_from}
use Rattle.partition_core.specs.Reads.{applied}
use Rattle.partition_core.specs.Stands.{IsStore}
use Rattle.partition_core.proofs.Sorting.{ascends_filter}
use Rattle.partition_core.proofs.PartLists.{lists_filter, parts_filter}

module _ {E : Type 0} where
  -- what a snapshot shows of what is held is what a read folds
  pub seen_fold : (log : List (Record E)) (o : ObjectId) (s : List ℕ) (xs : List (Part E)) → IsStore log xs → IsFold log s o (seen_parts o s xs)
  seen_fold log o s xs h = record {
    order = ascends_filter fold_cmp (λ x. touches x.updates o && le x.c s) xs h.order;
    members = λ u. lists_filter (held_at log) (held_changes log) (λ x. touches x.updates o && le x.c s) (λ w. touches (held_changes log w) o && le (held_at log w) s) xs h.exact (λ x e f. λ i. touches (f i) o && le (e i) s) u ∙ ap (λ b. b && (touches (held_changes log u) o && le (held_at log u) s)) (h.members u);
    exact = parts_filter (held_at log) (held_changes log) (λ x. touches x.updates o && le x.c s) xs h.exact;
  }

-- updates that are applied one by one
pub applied_folds : {S E : Type 0} (initial : S) (step : S → Dot → E → S) (o : ObjectId) (t : TxId) (older : List (Dot × E)) (us : List (Upd E)) → applied step o t (folded initial step older) us ≡ folded initial step (effects_from o t older us)
applied_folds initial step o t older [] = refl
applied_folds initial step o t older (u ∷ us) =
    elim (same_object u.object o) as (λ b. applied step o t (if b then step (folded initial step older) (record { tx = t; index = u.index }) u.effect else folded initial step older) us ≡ folded initial step (effects_from o t (if b then ((record { tx = t; index = u.index }), u.effect) ∷ older else older) us)) [
      | true ↦ applied_folds initial step o t (((record { tx = t; index = u.index }), u.effect) ∷ older) us
      | false ↦ applied_folds initial step o t older us
    ]
