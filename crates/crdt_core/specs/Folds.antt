-- What a read folds: the parts that a snapshot shows of an object, in fold order, and then the transaction's own updates.
use Rattle.std.specs.Prelude.{◌≡◌, ℕ, ◌&&◌, if◌then◌else◌, List, [], ◌∷◌}
use Rattle.site_vector.specs.declared.ids.TxId.{TxId}
use Rattle.site_vector.specs.declared.ids.Dot.{Dot}
use Rattle.site_vector.specs.Vector.{le}
use Rattle.crdt_core.specs.declared.object.ObjectId.{ObjectId}
use Rattle.crdt_core.specs.declared.record.Upd.{Upd}
use Rattle.crdt_core.specs.declared.record.Part.{Part}
use Rattle.crdt_core.specs.declared.record.Record.{Record}
use Rattle.crdt_core.specs.Objects.{same_object}
use Rattle.crdt_core.specs.History.{folded}
use Rattle.crdt_core.specs.KindsOf.{Kinds}
use Rattle.crdt_core.specs.Log.{holds, held_at, held_changes}
use Rattle.crdt_core.specs.Parts.{touches, lists, AreParts}
use Rattle.crdt_core.specs.Orders.{Ascends, fold_cmp}

module _ {E : Type 0} where
  -- the parts that a read of the object under s folds: those held with an update of it and a commit vector at most s, in fold order
  pub record IsFold (log : List (Record E)) (s : List ℕ) (o : ObjectId) (read : List (Part E)) : Type 0 where
    pub order : Ascends fold_cmp read
    pub members : (u : TxId) → lists read u ≡ (holds log u && (touches (held_changes log u) o && le (held_at log u) s))
    pub exact : AreParts (held_at log) (held_changes log) read

  -- the effects of updates of the object, after these, the newest first
  abbrev pub effects_from : ObjectId → TxId → List (Dot × E) → List (Upd E) → List (Dot × E)
  effects_from o t older [] = older
  effects_from o t older (u ∷ us) = effects_from o t (if same_object u.object o then ((record { tx = t; index = u.index }), u.effect) ∷ older else older) us

  abbrev pub effects_of : ObjectId → List (Dot × E) → List (Part E) → List (Dot × E)
  effects_of o older [] = older
  effects_of o older (x ∷ xs) = effects_of o (effects_from o x.tx older x.updates) xs

  -- the state that a read finds: the parts' updates of the object, and then the transaction's own
  abbrev pub state_read : {S : Type 0} → Kinds S E → ObjectId → TxId → List (Upd E) → List (Part E) → S
  state_read kinds o t own read = folded (kinds.initial o.kind) kinds.applied (effects_from o t (effects_of o [] read) own)
