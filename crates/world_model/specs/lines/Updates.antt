-- The updates of a run's transactions, over its lines.
use Rattle.std.specs.Prelude.{◌≡◌, ℕ, ◌+◌, Bool, ◌&&◌, List, [], ◌∷◌, ◌++◌, length, filter, Option, if◌then◌else◌, ⊤}
use Rattle.std.specs.List.{list_any}
use Rattle.site_vector.specs.declared.ids.PartId.{PartId}
use Rattle.site_vector.specs.declared.ids.TxId.{TxId}
use Rattle.site_vector.specs.Ids.{same_part, same_tx}
use Rattle.crdt_core.specs.declared.object.ObjectId.{ObjectId}
use Rattle.crdt_core.specs.declared.operation.Op.{Op}
use Rattle.crdt_core.specs.Objects.{same_object}
use Rattle.crdt_core.specs.Placing.{place_of}
use Rattle.world_model.specs.declared.step.Step.{Step}
use Rattle.world_model.specs.declared.step.Step.TheVariants as step
use Rattle.world_model.specs.lines.Places.{partitions, first_of, home}
use Rattle.world_model.specs.lines.Lines.{Call, ReadOf, UpdateOf, Line}
use Rattle.world_model.specs.lines.Clock.{now}

-- what an `updated` line shows of its update
pub record Change : Type 0 where
  -- where it was made, and at what time
  pub at : PartId
  pub now : ℕ
  pub object : ObjectId
  pub op : Op
  pub stamp : Option ℕ
  -- among the updates of its transaction, from 1
  pub index : ℕ

abbrev pub updated_by : PartId → ℕ → ℕ → Call → ObjectId → Option ℕ → TxId → List Change
updated_by p time index (UpdateOf u o op) object stamp t = if same_tx u t then (record { at = p; now = time; object = object; op = op; stamp = stamp; index = index }) ∷ [] else []
updated_by p time index other object stamp t = []

-- the update of t that a line shows
abbrev pub change_of : PartId → ℕ → ℕ → Call → Step → TxId → List Change
change_of p time index call (step.Updated name object stamp) t = updated_by p time index call object stamp t
change_of p time index call other t = []

-- the updates of t, in order
abbrev pub changes : List Line → TxId → List Change
changes [] t = []
changes (l ∷ ls) t = changes ls t ++ change_of l.at (now ls l.at) (length (changes ls t) + 1) l.call l.step t

-- t updated something at p
abbrev pub takes_part : List Line → TxId → PartId → Bool
takes_part ls t p = list_any (λ c. same_part c.at p) (changes ls t)

-- t updated this object at p
abbrev pub touches : List Line → TxId → PartId → ObjectId → Bool
touches ls t p o = list_any (λ c. same_part c.at p && same_object c.object o) (changes ls t)

-- the partitions of its site where t updated something, in ascending order; the first is the lead. What t is gets fixed so: its
-- snapshot by the line that shows its begin; its updates, who takes part and the lead before its first vote (`IsEarly` of Commit);
-- its commit time, and so its vector, by its last vote
abbrev pub participants : ℕ → List Line → TxId → List PartId
participants parts ls t = filter (λ p. takes_part ls t p) (partitions t.site 1 parts)

abbrev pub lead : ℕ → List Line → TxId → PartId
lead parts ls t = first_of (home t) (participants parts ls t)

-- t reads and updates an object where it stands, at its own site
abbrev pub ObjectIsAt : ℕ → PartId → TxId → ObjectId → Type 0
ObjectIsAt parts p t o = (p.site ≡ t.site) × (place_of o.bucket o.key parts ≡ p.part)

-- a begin names its partition; whatever answers a read or an update, it was asked where the object stands
abbrev pub IsPlaced : ℕ → List Line → PartId → Call → Step → Type 0
IsPlaced parts ls p (ReadOf t o) step = ObjectIsAt parts p t o
IsPlaced parts ls p (UpdateOf t o op) step = ObjectIsAt parts p t o
IsPlaced parts ls p call (step.Began name t s) = home t ≡ p
IsPlaced parts ls p call other = ⊤
