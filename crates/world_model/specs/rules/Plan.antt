-- What the transactions of a run are, and which events sessions, leads, messages and reports allow.
use Rattle.std.specs.Prelude.{◌≡◌, ◌≢◌, ◌⊎◌, ℕ, ◌+◌, ◌≤◌, Bool, true, false, if◌then◌else◌, List, [], ◌∷◌, ◌++◌, length, filter, Option, ⊤}
use Rattle.site_vector.specs.declared.ids.PartId.{PartId}
use Rattle.site_vector.specs.declared.ids.TxId.{TxId}
use Rattle.site_vector.specs.Ids.{same_part, same_tx}
use Rattle.site_vector.specs.Vector.{replaced}
use Rattle.crdt_core.specs.declared.object.ObjectId.{ObjectId}
use Rattle.crdt_core.specs.declared.record.Upd.{Upd}
use Rattle.crdt_core.specs.declared.record.Message.{Message}
use Rattle.crdt_core.specs.Objects.{same_object}
use Rattle.crdt_core.specs.Placing.{place_of}
use Rattle.world_model.specs.rules.Event.{Ballot, Ask, AskBegin, AskRead, AskUpdate, AskPrepare, AskDecide, AskFinish, AskTake, Refused, Event, Began, Updated, Read, Prepared, Decided, Finished, Aborted, Sent, Took, Reported, Heard, Entry, attempt, tried, voted, decide_tried, gave_up, was_aborted, is_decided, time_of, WasShown, sent_count, report_count, WasNumbered}
use Rattle.world_model.specs.rules.Dependency.{IsKnownJoin}
use Rattle.crdt_core.specs.KindsOf.{Kinds, fits_kind}
use Rattle.world_model.specs.rules.Partition.{PartState, ToldAborted, fate_of, PartStep}
use Rattle.world_model.specs.lines.Places.{IsOther, IsPlace, twin, home}
use Rattle.world_model.specs.lines.Lines.{Wish}

abbrev pub is_some_update : {E : Type 0} → List (Upd E) → Bool
is_some_update [] = false
is_some_update (u ∷ us) = true

-- the cluster, and what the transactions of a run are
pub record Plan (E : Type 0) : Type 0 where
  pub sites : ℕ
  -- of each site
  pub parts : ℕ
  pub snapshot : TxId → List ℕ
  pub lead : TxId → PartId
  -- in order
  pub updates : TxId → PartId → List (Upd E)
  -- a transaction updates at its own site, which its snapshot has an entry for
  pub at_home : (t : TxId) (p : PartId) → is_some_update (updates t p) ≡ true → p.site ≡ t.site
  pub least : (t : TxId) (p : PartId) → is_some_update (updates t p) ≡ true → 1 ≤ t.site
  pub most : (t : TxId) (p : PartId) → is_some_update (updates t p) ≡ true → t.site ≤ sites
  pub entered : (t : TxId) (p : PartId) → is_some_update (updates t p) ≡ true → t.site ≤ length (snapshot t)

module _ {E : Type 0} where
  abbrev pub takes_part : Plan E → TxId → PartId → Bool
  takes_part plan t p = is_some_update (plan.updates t p)

  -- what t changed at the partition of its site with p's number
  abbrev pub changes_at : Plan E → PartId → TxId → List (Upd E)
  changes_at plan p t = plan.updates t (twin t.site p)

  -- the snapshot with this time as the entry of its site
  abbrev pub vector_at : Plan E → TxId → ℕ → List ℕ
  vector_at plan t n = replaced (plan.snapshot t) t.site n

  abbrev pub commit_vector : Plan E → List (Entry E) → TxId → List ℕ
  commit_vector plan run t = vector_at plan t (time_of run t)

  -- the lead tells that t is aborted
  abbrev pub TellsAborted : PartState E → TxId → Type 0
  TellsAborted p t = fate_of p t ≡ ToldAborted

  -- the update of t that an event made
  abbrev pub change_by : Event E → TxId → List (Upd E)
  change_by (Updated u s o own op read x stamp) t = if same_tx u t then x ∷ [] else []
  change_by other t = []

  -- the updates of t at p so far, in order, and how many t made in all
  abbrev pub updates_at : List (Entry E) → TxId → PartId → List (Upd E)
  updates_at [] t p = []
  updates_at (e ∷ run) t p = updates_at run t p ++ (if same_part e.at p then change_by e.event t else [])

  abbrev pub update_count : List (Entry E) → TxId → ℕ
  update_count [] t = 0
  update_count (e ∷ run) t = update_count run t + length (change_by e.event t)

  -- a session's read or update at p: under its transaction's snapshot, with its own earlier updates of the object, where the object stands
  pub record IsAsked (plan : Plan E) (run : List (Entry E)) (p : PartId) (t : TxId) (s : List ℕ) (o : ObjectId) (own : List (Upd E)) : Type 0 where
    pub site : p.site ≡ t.site
    pub who : List ℕ
    pub dependency : Wish
    pub begun : WasShown run (home t) (Began who dependency t s)
    pub place : place_of o.bucket o.key plan.parts ≡ p.part
    pub earlier : own ≡ filter (λ u. same_object u.object o) (updates_at run t p)

  -- a prepare is asked once of each participant, the lead first, with all that the transaction changed there
  pub record MayPrepare (plan : Plan E) (run : List (Entry E)) (p : PartId) (t : TxId) (s : List ℕ) (l : Ballot) (w : List (Upd E)) : Type 0 where
    pub fresh : tried run t p ≡ false
    pub after_lead : p ≢ plan.lead t → voted run t (plan.lead t) ≡ true
    pub takes : takes_part plan t p ≡ true
    pub snapshot : s ≡ plan.snapshot t
    pub lead : l.lead ≡ (plan.lead t).part
    pub changes : w ≡ plan.updates t p

  -- a session asks once to decide: the lead, when all have voted, and not where it gave up
  pub record MayDecide (plan : Plan E) (run : List (Entry E)) (p : PartId) (t : TxId) (c : List ℕ) : Type 0 where
    pub lead : p ≡ plan.lead t
    pub here : voted run t p ≡ true
    pub all : (q : PartId) → takes_part plan t q ≡ true → voted run t q ≡ true
    pub ungiven : gave_up run t ≡ false
    pub once : decide_tried run t ≡ false
    pub vector : c ≡ commit_vector plan run t

  -- a finish is of a decided transaction
  pub record MayFinish (plan : Plan E) (run : List (Entry E)) (p : PartId) (t : TxId) (c : List ℕ) : Type 0 where
    pub decided : is_decided run t ≡ true
    pub vector : c ≡ commit_vector plan run t

  -- a session aborts unless it asked to decide; else the lead aborts, or others on its word, as it is told or as it was shown
  abbrev pub MayAbort : Plan E → List (Entry E) → (PartId → PartState E) → PartId → TxId → Bool → Type 0
  MayAbort plan run parts p t true = decide_tried run t ≡ false
  MayAbort plan run parts p t false = (p ≡ plan.lead t) ⊎ (TellsAborted (parts (plan.lead t)) t ⊎ (was_aborted run t (plan.lead t) ≡ true))

  -- a message is taken that was sent to here, as the one with this number among its sender's
  pub record MayTake (plan : Plan E) (run : List (Entry E)) (p : PartId) (number : ℕ) (m : Message E) : Type 0 where
    pub from : IsOther plan.sites p.site m.from
    pub to : m.to ≡ p.site
    pub part : m.part ≡ p.part
    pub asked : Option ℕ
    pub shown : WasNumbered sent_count run number (twin m.from p) (Sent asked m)

  -- a report is heard that a partition of the site made, as the one with this number among its own
  pub record MayHear (plan : Plan E) (run : List (Entry E)) (p : PartId) (number q : ℕ) (b : List ℕ) : Type 0 where
    pub least : 1 ≤ q
    pub most : q ≤ plan.parts
    pub shown : WasNumbered report_count run number (record { site = p.site; part = q }) (Reported b)

  -- a session asks for t under the snapshot that t began with
  pub record IsSession (run : List (Entry E)) (p : PartId) (t : TxId) (s : List ℕ) : Type 0 where
    pub site : p.site ≡ t.site
    pub who : List ℕ
    pub dependency : Wish
    pub begun : WasShown run (home t) (Began who dependency t s)

  -- who asks for what is refused, and where: at the place of the object, or at a participant; a transaction is decided at its own site
  abbrev pub MayAsk : Plan E → List (Entry E) → PartId → Ask E → Type 0
  MayAsk plan run p (AskBegin who dep) = IsKnownJoin plan.sites run dep.past
  MayAsk plan run p (AskRead t s o own) = IsSession run p t s × (place_of o.bucket o.key plan.parts ≡ p.part)
  MayAsk plan run p (AskUpdate t s o own op) = IsSession run p t s × (place_of o.bucket o.key plan.parts ≡ p.part)
  MayAsk plan run p (AskPrepare t s l w) = IsSession run p t s × (takes_part plan t p ≡ true)
  MayAsk plan run p (AskDecide t c) = p.site ≡ t.site
  MayAsk plan run p (AskFinish t c) = (is_decided run t ≡ true) × (takes_part plan t p ≡ true)
  MayAsk plan run p (AskTake number m) = MayTake plan run p number m
  MayAsk plan run p other = ⊤

  -- what sessions hold, the lead tells, and messages and reports bring
  abbrev pub IsAllowed : Plan E → List (Entry E) → (PartId → PartState E) → PartId → Event E → Type 0
  IsAllowed plan run parts at (Began who dep t s) = IsKnownJoin plan.sites run dep.past
  IsAllowed plan run parts at (Updated t s o own op read u stamp) = IsAsked plan run at t s o own
  IsAllowed plan run parts at (Read t s o own read value) = IsAsked plan run at t s o own
  IsAllowed plan run parts at (Prepared t s l w n) = MayPrepare plan run at t s l w
  IsAllowed plan run parts at (Decided t c) = MayDecide plan run at t c
  IsAllowed plan run parts at (Finished t c) = MayFinish plan run at t c
  IsAllowed plan run parts at (Aborted t own) = MayAbort plan run parts at t own
  IsAllowed plan run parts at (Took number m) = MayTake plan run at number m
  IsAllowed plan run parts at (Heard number q b stable) = MayHear plan run at number q b
  IsAllowed plan run parts at (Refused asked why) = MayAsk plan run at asked
  IsAllowed plan run parts at other = ⊤

  -- an update comes before any prepare, and bears the next number
  pub record IsNewUpdate (run : List (Entry E)) (t : TxId) (u : Upd E) : Type 0 where
    pub early : (p : PartId) → tried run t p ≡ false
    pub number : u.index ≡ update_count run t + 1

  abbrev pub IsNew : List (Entry E) → Event E → Type 0
  IsNew run (Updated t s o own op read u stamp) = IsNewUpdate run t u
  IsNew run other = ⊤

  -- a session hands a partition no operation that isn't one of the kind
  abbrev pub IsFit : {S : Type 0} → Kinds S E → Event E → Type 0
  IsFit kinds (Refused (AskUpdate t s o own op) why) = fits_kind kinds.too_deep o op ≡ true
  IsFit kinds other = ⊤

  -- one step of the world: a step of one partition
  pub record WorldStep {S : Type 0} (kinds : Kinds S E) (plan : Plan E) (run : List (Entry E)) (before : PartId → PartState E) (e : Entry E) (after : PartId → PartState E) : Type 0 where
    pub place : IsPlace plan.sites plan.parts e.at
    pub allowed : IsAllowed plan run before e.at (attempt e.event)
    pub fit : IsFit kinds e.event
    pub step : PartStep kinds plan.sites plan.parts e.at (before e.at) e.event (after e.at)
    pub others : (q : PartId) → q ≢ e.at → after q ≡ before q
