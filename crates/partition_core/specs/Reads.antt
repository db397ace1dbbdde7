-- What updates that are applied one by one make of a state.
use Rattle.std.specs.Prelude.{if◌then◌else◌, List, [], ◌∷◌}
use Rattle.site_vector.specs.declared.ids.TxId.{TxId}
use Rattle.site_vector.specs.declared.ids.Dot.{Dot}
use Rattle.crdt_core.specs.declared.object.ObjectId.{ObjectId}
use Rattle.crdt_core.specs.declared.record.Upd.{Upd}
use Rattle.crdt_core.specs.Objects.{same_object}

-- the state once those of these updates of t are applied that are of the object
abbrev pub applied : {S E : Type 0} → (S → Dot → E → S) → ObjectId → TxId → S → List (Upd E) → S
applied step o t state [] = state
applied step o t state (u ∷ us) = applied step o t (if same_object u.object o then step state (record { tx = t; index = u.index }) u.effect else state) us
