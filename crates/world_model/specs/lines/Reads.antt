-- Right reads, over the lines of a run.
use Rattle.std.specs.Prelude.{◌≡◌, ℕ, ◌+◌, Bool, ◌&&◌, ◌||◌, nat_lt, List, ◌++◌, length, filter, map, ⊤}
use Rattle.std.specs.List.{flat_map}
use Rattle.site_vector.specs.declared.ids.PartId.{PartId}
use Rattle.site_vector.specs.declared.ids.TxId.{TxId}
use Rattle.site_vector.specs.declared.ids.Dot.{Dot}
use Rattle.site_vector.specs.Ids.{same_tx}
use Rattle.crdt_core.specs.declared.kind.Kind.{Kind}
use Rattle.crdt_core.specs.declared.object.ObjectId.{ObjectId}
use Rattle.crdt_core.specs.declared.value.Value.{Value}
use Rattle.crdt_core.specs.Objects.{same_object}
use Rattle.crdt_core.specs.Seen.{Update}
use Rattle.crdt_core.specs.Stamps.{stamp_due}
use Rattle.world_model.specs.declared.step.Step.{Step}
use Rattle.world_model.specs.declared.step.Step.TheVariants as step
use Rattle.world_model.specs.lines.Lines.{Call, ReadOf, UpdateOf, Line}
use Rattle.world_model.specs.lines.Clock.{now}
use Rattle.world_model.specs.lines.History.{history, visible, snapshot, precedes}
use Rattle.world_model.specs.lines.Updates.{Change, changes}

-- an update of t with this number has seen those of transactions that precede t, and the earlier ones of t
abbrev pub has_seen : (TxId → Bool) → TxId → ℕ → Dot → Bool
has_seen precedes t index d = precedes d.tx || (same_tx d.tx t && nat_lt d.index index)

-- an update as the kinds see it
abbrev pub update_of : List Line → TxId → Change → Update
update_of ls t c = record {
  dot = record { tx = t; index = c.index };
  path = c.op.path;
  act = c.op.act;
  stamp = c.stamp;
  now = c.now;
  saw = λ d. has_seen (λ u. precedes ls u t) t c.index d;
}

-- the updates of an object among these of t
abbrev pub updates_in : List Line → ObjectId → TxId → List Change → List Update
updates_in ls o t cs = map (λ c. update_of ls t c) (filter (λ c. same_object c.object o) cs)

-- the updates of an object by the transactions of a set
abbrev pub updates_of : List Line → ObjectId → (TxId → Bool) → List Update
updates_of ls o members = flat_map (λ t. updates_in ls o t (changes ls t)) (filter members (history ls))

-- what t reads of o: the updates in its visible set of the whole run, and its own before that line
abbrev pub read_by : List Line → List Line → TxId → ObjectId → List Update
read_by whole before t o = updates_of whole o (visible whole (snapshot whole t)) ++ updates_in whole o t (changes before t)

-- a value is the meaning of what is read, and a stamp is due by it
abbrev pub IsRightRead : (Kind → List Update → Value) → List Line → List Line → PartId → Call → Step → Type 0
IsRightRead meaning whole before p call (step.Crashed q) = ⊤
IsRightRead meaning whole before p (ReadOf t o) (step.Value name object value) = value ≡ meaning o.kind (read_by whole before t o)
IsRightRead meaning whole before p (UpdateOf t o op) (step.Updated name object stamp) =
    stamp ≡ stamp_due o.kind (read_by whole before t o) (update_of whole t (record { at = p; now = now before p; object = o; op = op; stamp = stamp; index = length (changes before t) + 1 }))
IsRightRead meaning whole before p call other = ⊤
