-- Right reads and messages, by what a run shows, and what reads mean to the kinds.
use Rattle.std.specs.Prelude.{◌≡◌, ℕ, leb, ltb, Bool, true, ◌&&◌, List, [], ◌∷◌, ⊤, ◌||◌, ◌++◌, if◌then◌else◌, Option}
use Rattle.site_vector.specs.declared.ids.PartId.{PartId}
use Rattle.site_vector.specs.declared.ids.TxId.{TxId}
use Rattle.site_vector.specs.Vector.{le}
use Rattle.crdt_core.specs.declared.object.ObjectId.{ObjectId}
use Rattle.crdt_core.specs.Kinds.{reads_state}
use Rattle.crdt_core.specs.declared.record.Part.{Part}
use Rattle.crdt_core.specs.declared.record.Message.{Message}
use Rattle.crdt_core.specs.Parts.{touches, lists, AreParts}
use Rattle.world_model.specs.rules.Event.{Event, Updated, Read, Sent, Entry, is_decided, time_of, shown}
use Rattle.crdt_core.specs.KindsOf.{Kinds}
use Rattle.crdt_core.specs.Folds.{state_read}
use Rattle.crdt_core.specs.Orders.{Ascends, fold_cmp, stream_cmp}
use Rattle.world_model.specs.rules.Plan.{Plan, takes_part, changes_at, commit_vector}
use Rattle.site_vector.specs.declared.ids.Dot.{Dot}
use Rattle.site_vector.specs.Ids.{same_part, same_tx}
use Rattle.crdt_core.specs.declared.operation.Op.{Op}
use Rattle.crdt_core.specs.declared.record.Upd.{Upd}
use Rattle.crdt_core.specs.Objects.{same_object}
use Rattle.crdt_core.specs.Seen.{Update}
use Rattle.crdt_core.specs.Stamps.{stamp_due}
use Rattle.world_model.specs.lines.Places.{twin}
use Rattle.world_model.specs.lines.Reads.{has_seen}

-- an update as it was asked for and answered, and the clock value where it was
pub record Asked (E : Type 0) : Type 0 where
  pub change : Upd E
  pub op : Op
  pub stamp : Option ℕ
  pub now : ℕ

module _ {E : Type 0} where
  -- the visible set of a vector: t is in it
  abbrev pub sees_tx : Plan E → List (Entry E) → List ℕ → TxId → Bool
  sees_tx plan run s t = is_decided run t && le (commit_vector plan run t) s

  -- a read at p of o under s folded exactly the parts of the whole run's visible set that update o, in fold order
  pub record IsRightFold (plan : Plan E) (run : List (Entry E)) (p : PartId) (s : List ℕ) (o : ObjectId) (read : List (Part E)) : Type 0 where
    pub order : Ascends fold_cmp read
    pub members : (u : TxId) → lists read u ≡ (is_decided run u && (touches (changes_at plan p u) o && le (commit_vector plan run u) s))
    pub exact : AreParts (commit_vector plan run) (changes_at plan p) read

  -- a message from p has exactly the parts of the whole run with a commit time in its stretch, as they are
  pub record IsExact (plan : Plan E) (run : List (Entry E)) (p : PartId) (m : Message E) : Type 0 where
    pub order : Ascends (stream_cmp p.site) m.parts
    pub members : (u : TxId) → lists m.parts u ≡ (is_decided run u && (takes_part plan u p && (ltb m.lo (time_of run u) && leb (time_of run u) m.hi)))
    pub exact : AreParts (commit_vector plan run) (λ u. plan.updates u p) m.parts

  -- reads are under the transaction's snapshot, and a value is that of the parts that were read and of its own updates
  abbrev pub IsRight : {S : Type 0} → Kinds S E → Plan E → List (Entry E) → PartId → Event E → Type 0
  IsRight kinds plan run p (Read t s o own read value) = (s ≡ plan.snapshot t) × IsRightFold plan run p s o read × (value ≡ kinds.value_of (state_read kinds o t own read))
  IsRight kinds plan run p (Updated t s o own op read u stamp) = (s ≡ plan.snapshot t) × (reads_state o.kind ≡ true → IsRightFold plan run p s o read)
  IsRight kinds plan run p (Sent asked m) = IsExact plan run p m
  IsRight kinds plan run p other = ⊤

  abbrev pub asked_by : ℕ → Event E → TxId → List (Asked E)
  asked_by now (Updated u s o own op read x stamp) t = if same_tx u t then (record { change = x; op = op; stamp = stamp; now = now }) ∷ [] else []
  asked_by now other t = []

  -- the updates of t at p so far, in order
  abbrev pub asked_at : List (Entry E) → TxId → PartId → List (Asked E)
  asked_at [] t p = []
  asked_at (e ∷ run) t p = asked_at run t p ++ (if same_part e.at p then asked_by (shown run p) e.event t else [])

  abbrev pub update_of : Plan E → List (Entry E) → TxId → Asked E → Update
  update_of plan run t a = record {
    dot = record { tx = t; index = a.change.index };
    path = a.op.path;
    act = a.op.act;
    stamp = a.stamp;
    now = a.now;
    saw = λ d. has_seen (sees_tx plan run (plan.snapshot t)) t a.change.index d;
  }

  -- the updates of the object among these of t, after those, the newest first
  abbrev pub updates_from : Plan E → List (Entry E) → ObjectId → TxId → List Update → List (Asked E) → List Update
  updates_from plan run o t older [] = older
  updates_from plan run o t older (a ∷ rest) = updates_from plan run o t (if same_object a.change.object o then update_of plan run t a ∷ older else older) rest

  -- the updates of the object by the transactions of these parts
  abbrev pub updates_of : Plan E → List (Entry E) → PartId → ObjectId → List Update → List (Part E) → List Update
  updates_of plan run p o older [] = older
  updates_of plan run p o older (x ∷ xs) = updates_of plan run p o (updates_from plan run o x.tx older (asked_at run x.tx (twin x.tx.site p))) xs

  -- what t reads of the object at p after `before` in the whole run: those of the visible set, and its own
  abbrev pub read_by : Plan E → List (Entry E) → List (Entry E) → PartId → ObjectId → TxId → List (Part E) → List Update
  read_by plan run before p o t read = updates_from plan run o t (updates_of plan run p o [] read) (asked_at before t p)

  -- a value is the meaning of what is read, and a stamp is due by it; a kind that reads no state has no stamps, whatever is read
  abbrev pub HasMeaning : {S : Type 0} → Kinds S E → Plan E → List (Entry E) → List (Entry E) → PartId → Event E → Type 0
  HasMeaning kinds plan run before p (Read t s o own read value) = value ≡ kinds.meaning o.kind (read_by plan run before p o t read)
  HasMeaning kinds plan run before p (Updated t s o own op read u stamp) = stamp ≡ stamp_due o.kind (read_by plan run before p o t read) (update_of plan run t (record { change = u; op = op; stamp = stamp; now = shown before p }))
  HasMeaning kinds plan run before p other = ⊤

  abbrev pub HaveMeaning : {S : Type 0} → Kinds S E → Plan E → List (Entry E) → List (Entry E) → Type 0
  HaveMeaning kinds plan whole [] = ⊤
  HaveMeaning kinds plan whole (e ∷ run) = HasMeaning kinds plan whole run e.at e.event × HaveMeaning kinds plan whole run

  -- the effects of t name only updates of transactions that precede it, and its own
  abbrev pub AreCausal : {S : Type 0} → Kinds S E → Plan E → List (Entry E) → TxId → List (Upd E) → Type 0
  AreCausal kinds plan run t [] = ⊤
  AreCausal kinds plan run t (u ∷ us) = ((d : Dot) → kinds.names u.effect d ≡ true → (sees_tx plan run (plan.snapshot t) d.tx || same_tx d.tx t) ≡ true) × AreCausal kinds plan run t us
