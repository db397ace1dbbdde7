-- The state of a partition, and what each of its calls may answer and leave.
use Rattle.std.specs.Prelude.{◌≡◌, ◌≢◌, ◌⊎◌, ℕ, ◌+◌, ◌-◌, ◌<◌, ◌≤◌, max, leb, ltb, Bool, true, false, ◌&&◌, ◌||◌, ◌==◌, if◌then◌else◌, List, [], ◌∷◌, ◌++◌, length, replicate, Option, None, Some, slice_set, ⊤}
use Rattle.std.specs.declared.cmp.Ordering.TheVariants.{Less}
use Rattle.site_vector.specs.declared.ids.PartId.{PartId}
use Rattle.site_vector.specs.declared.ids.TxId.{TxId}
use Rattle.site_vector.specs.Known.{vector_of, lowest}
use Rattle.site_vector.specs.Vector.{entry, join, replaced}
use Rattle.crdt_core.specs.declared.object.ObjectId.{ObjectId}
use Rattle.crdt_core.specs.declared.operation.Op.{Op}
use Rattle.crdt_core.specs.declared.record.Upd.{Upd}
use Rattle.crdt_core.specs.declared.record.Part.{Part}
use Rattle.crdt_core.specs.declared.record.Message.{Message}
use Rattle.crdt_core.specs.declared.record.Record.{Record}
use Rattle.crdt_core.specs.declared.record.Record.TheVariants.{Prepare, Decide, Finish, Abort, Batch}
use Rattle.crdt_core.specs.Kinds.{reads_state}
use Rattle.crdt_core.specs.KindsOf.{Kinds, fits_kind}
use Rattle.crdt_core.specs.Folds.{IsFold, state_read}
use Rattle.crdt_core.specs.Orders.{Ascends, pending_cmp, stream_cmp}
use Rattle.crdt_core.specs.Log.{end_of_time, ceiling, lease_for, prepare_time, prepared_changes, committed, committed_at, pending, last_decided, logged_bound, grown, MayFind}
use Rattle.crdt_core.specs.Parts.{touches, lists, AreParts, above}
use Rattle.world_model.specs.rules.Event.{Ask, AskBegin, AskRead, AskUpdate, AskPrepare, AskDecide, AskFinish, AskAbort, AskTake, AskTick, AskRestart, is_restart, Refusal, IsDown, ClockBehind, TxPending, StableBehind, ClockAtEnd, IsGone, HasGap, IsRepeat, IsBadOp, HasNoRoom, IsDamaged, Event, Refused, Ticked, Began, Updated, Read, Prepared, Decided, Finished, Aborted, Sent, Took, Reported, Heard, Crashed, RestartCut, Restarted, Opened, Cut}
use Rattle.crdt_core.specs.Fitting.{unfit}
use Rattle.world_model.specs.lines.Places.{IsOther}
use Rattle.world_model.specs.lines.Lines.{Wish}
use Rattle.world_model.specs.lines.Listed.{names_pending}

-- all else is told by the log. While it is up, `torn` is empty; while it is down, a restart finds what `MayFind` says of both
pub record PartState (E : Type 0) : Type 0 where
  pub up : Bool
  pub now : ℕ
  pub log : List (Record E)
  -- the records of the call that a crash cut off, oldest first
  pub torn : List (Record E)
  -- up to where the messages of each other site were taken
  pub bounds : List ℕ
  -- the bounds that it heard of each partition of its site
  pub heard : List (List ℕ)
  -- the last `hi` sent to each site
  pub sent : List ℕ

-- what a partition answers when it is asked for the fate of a transaction
pub data Fate : Type 0 where
  ToldPending : Fate
  ToldCommitted : (c : List ℕ) → Fate
  ToldAborted : Fate
  ToldDown : Fate

module _ {E : Type 0} where
  -- a restart of the partition may find this log
  abbrev pub Finds : PartState E → List (Record E) → Type 0
  Finds p found = MayFind p.log p.torn found

  -- what a partition knows of how far partition q of its site has come with site j: its own bounds, or what it heard
  abbrev pub known : PartId → PartState E → ℕ → ℕ → ℕ
  known id p j q = if id.part == q then entry p.bounds j else entry (vector_of p.heard q) j

  -- the least of them over the partitions of its site
  abbrev pub stable_entry : ℕ → PartId → PartState E → ℕ → ℕ
  stable_entry parts id p j = lowest (known id p j) parts

  -- the own bound: the lesser of the clock value and one below the least pending prepare time
  pub record IsOwnBound (now : ℕ) (log : List (Record E)) (b : ℕ) : Type 0 where
    pub most : b ≤ now
    pub below : (u : TxId) → pending log u ≡ true → b < prepare_time log u
    pub reached : (b ≡ now) ⊎ ((u : TxId) × (pending log u ≡ true) × (prepare_time log u ≡ b + 1))

  -- the bounds of a partition, as a vector
  pub record IsBounds (sites : ℕ) (id : PartId) (now : ℕ) (log : List (Record E)) (bounds b : List ℕ) : Type 0 where
    pub width : length b ≡ sites
    pub own : IsOwnBound now log (entry b id.site)
    pub others : (j : ℕ) → IsOther sites id.site j → entry b j ≡ entry bounds j

  -- what is stable of the own site: the least of the own bound and of what was heard of the others
  pub record IsOwnStable (parts : ℕ) (id : PartId) (p : PartState E) (n : ℕ) : Type 0 where
    pub bound : ℕ
    pub own : IsOwnBound p.now p.log bound
    pub most : n ≤ bound
    pub least : n ≡ lowest (λ q. if id.part == q then bound else entry (vector_of p.heard q) id.site) parts

  -- the own entry of a snapshot: a present one, or where it is to be stable what is stable, as its session's past is too
  abbrev pub OwnEntry : ℕ → PartId → PartState E → Wish → ℕ → ℕ → Bool → Type 0
  OwnEntry parts id p wish time n false = n ≡ max time (entry wish.past id.site)
  OwnEntry parts id p wish time n true = IsOwnStable parts id p n × (entry wish.past id.site ≤ n)

  -- a begin draws its id; its snapshot has the stable entries, which its session's past doesn't exceed, and a present own entry
  pub record IsBegin (sites parts : ℕ) (id : PartId) (p : PartState E) (wish : Wish) (t : TxId) (s : List ℕ) : Type 0 where
    pub early : p.now < end_of_time
    pub named : t ≡ record { site = id.site; part = id.part; time = p.now + 1 }
    pub handed : length wish.past ≡ sites
    pub width : length s ≡ sites
    pub own : OwnEntry parts id p wish t.time (entry s id.site) wish.stable
    pub stable : (j : ℕ) → IsOther sites id.site j → entry s j ≡ stable_entry parts id p j
    pub waited : (j : ℕ) → IsOther sites id.site j → entry wish.past j ≤ entry s j

  -- no wait is due for a read of the object under s
  pub record IsReady (id : PartId) (p : PartState E) (s : List ℕ) (o : ObjectId) : Type 0 where
    pub clock : entry s id.site ≤ p.now
    pub free : (u : TxId) → pending p.log u ≡ true → touches (prepared_changes p.log u) o ≡ true → entry s id.site < prepare_time p.log u

  pub record IsUpdate {S : Type 0} (kinds : Kinds S E) (id : PartId) (p : PartState E) (t : TxId) (s : List ℕ) (o : ObjectId) (own : List (Upd E)) (op : Op) (read : List (Part E)) (u : Upd E) (stamp : Option ℕ) : Type 0 where
    pub ready : reads_state o.kind ≡ true → IsReady id p s o
    pub fold : reads_state o.kind ≡ true → IsFold p.log s o read
    pub known : kinds.has o.kind ≡ true
    pub fits : fits_kind kinds.too_deep o op ≡ true
    pub object : u.object ≡ o
    pub effect : u.effect ≡ kinds.generated o.kind (state_read kinds o t own read) op.path op.act p.now
    pub stamped : stamp ≡ kinds.stamp_of u.effect

  -- a message to another site: up to the own bound, from what was asked or sent before, all that was committed here between
  pub record IsMessage (sites : ℕ) (id : PartId) (p : PartState E) (asked : Option ℕ) (m : Message E) : Type 0 where
    pub from : m.from ≡ id.site
    pub part : m.part ≡ id.part
    pub to : IsOther sites id.site m.to
    pub lo : m.lo ≡ (elim asked [ None ↦ entry p.sent m.to | Some n ↦ n ])
    pub hi : IsOwnBound p.now p.log m.hi
    pub order : Ascends (stream_cmp id.site) m.parts
    pub members : (u : TxId) → lists m.parts u ≡ (committed p.log u && (ltb m.lo (entry (committed_at p.log u) id.site) && leb (entry (committed_at p.log u) id.site) m.hi))
    pub exact : AreParts (committed_at p.log) (prepared_changes p.log) m.parts

  -- the record of a message cut at the bound; none where it brings nothing
  abbrev pub batch_of : Message E → ℕ → List (Part E) → List (Record E)
  batch_of m b [] = []
  batch_of m b (x ∷ xs) = Batch (record { from = m.from; to = m.to; part = m.part; lo = b; hi = m.hi; parts = x ∷ xs }) ∷ []

  -- the records that an event adds to a log, where its partition has these bounds
  abbrev pub written : List (Record E) → (ℕ → ℕ) → Event E → List (Record E)
  written log bounds (Ticked r n) = lease_for log n
  written log bounds (Began who dep t s) = lease_for log t.time
  written log bounds (Prepared t s l w n) = lease_for log n ++ Prepare t l.lead n s w ∷ []
  written log bounds (Decided t c) = if pending log t then Decide t c ∷ [] else []
  written log bounds (Finished t c) = if pending log t then Finish t c ∷ [] else []
  written log bounds (Aborted t own) = Abort t ∷ []
  written log bounds (Took number m) = batch_of m (bounds m.from) (above m.from (bounds m.from) m.parts)
  written log bounds other = []

  abbrev pub records : PartState E → Event E → List (Record E)
  records p e = written p.log (λ j. entry p.bounds j) e

  abbrev pub now_after : ℕ → Event E → ℕ
  now_after now (Ticked r n) = n
  now_after now (Began who dep t s) = t.time
  now_after now (Prepared t s l w n) = n
  now_after now other = now

  abbrev pub bounds_after : List ℕ → Event E → List ℕ
  bounds_after bounds (Took number m) = replaced bounds m.from m.hi
  bounds_after bounds other = bounds

  -- the entrywise greatest of what was heard of each partition
  abbrev pub heard_after : List (List ℕ) → Event E → List (List ℕ)
  heard_after heard (Heard number q b stable) = slice_set heard (q - 1) (join (vector_of heard q) b)
  heard_after heard other = heard

  abbrev pub sends_after : List ℕ → Event E → List ℕ
  sends_after sent (Sent asked m) = replaced sent m.to m.hi
  sends_after sent other = sent

  abbrev pub done : PartState E → Event E → PartState E
  done p e = record {
    up = true;
    now = now_after p.now e;
    log = grown p.log (records p e);
    torn = [];
    bounds = bounds_after p.bounds e;
    heard = heard_after p.heard e;
    sent = sends_after p.sent e;
  }

  abbrev pub down : PartState E → List (Record E) → PartState E
  down p torn = record { up = false; now = p.now; log = p.log; torn = torn; bounds = p.bounds; heard = p.heard; sent = p.sent }

  abbrev pub cut : PartState E → Event E → PartState E
  cut p e = down p (records p e)

  -- what a partition tells of a transaction of its site: its lead's word is its fate
  abbrev pub fate_of : PartState E → TxId → Fate
  fate_of p t = if p.up then (if pending p.log t then ToldPending else (if committed p.log t then ToldCommitted (committed_at p.log t) else ToldAborted)) else ToldDown

  -- the stable entries that a partition tells when it has heard a report
  pub record IsStable (sites parts : ℕ) (id : PartId) (p : PartState E) (stable : List ℕ) : Type 0 where
    pub width : length stable ≡ sites
    pub others : (j : ℕ) → IsOther sites id.site j → entry stable j ≡ stable_entry parts id p j
    -- of its own site it knows its own bound, and what it heard of the others
    pub own : (b : ℕ) × IsOwnBound p.now p.log b × (entry stable id.site ≡ lowest (λ q. if id.part == q then b else entry (vector_of p.heard q) id.site) parts)

  -- when a call of a partition answers this
  abbrev pub MayDo : {S : Type 0} → Kinds S E → ℕ → ℕ → PartId → PartState E → Event E → Type 0
  MayDo kinds sites parts id p (Ticked r n) = (n ≡ max r p.now) × (r ≤ end_of_time)
  MayDo kinds sites parts id p (Began who dep t s) = IsBegin sites parts id p dep t s
  MayDo kinds sites parts id p (Updated t s o own op read u stamp) = IsUpdate kinds id p t s o own op read u stamp
  MayDo kinds sites parts id p (Read t s o own read value) = IsReady id p s o × IsFold p.log s o read × (kinds.has o.kind ≡ true) × (value ≡ kinds.value_of (state_read kinds o t own read))
  MayDo kinds sites parts id p (Prepared t s l w n) = (entry s id.site ≤ p.now) × (n ≡ p.now + 1) × (p.now < end_of_time)
  MayDo kinds sites parts id p (Decided t c) = (pending p.log t || committed p.log t) ≡ true
  MayDo kinds sites parts id p (Finished t c) = (pending p.log t || committed p.log t) ≡ true
  MayDo kinds sites parts id p (Aborted t own) = pending p.log t ≡ true
  MayDo kinds sites parts id p (Sent asked m) = IsMessage sites id p asked m
  MayDo kinds sites parts id p (Took number m) = (m.lo ≤ entry p.bounds m.from) × (entry p.bounds m.from < m.hi)
  MayDo kinds sites parts id p (Reported b) = IsBounds sites id p.now p.log p.bounds b
  MayDo kinds sites parts id p (Heard number q b stable) = IsStable sites parts id (done p (Heard number q b stable)) stable
  MayDo kinds sites parts id p other = ⊥

  abbrev pub AreTimed : List (Record E) → List (TxId × ℕ) → Type 0
  AreTimed log [] = ⊤
  AreTimed log (x ∷ xs) = (x.1 ≡ prepare_time log x.0) × AreTimed log xs

  -- so much is stable of a site that a begin asks about: another one, and where it is to read what is stable alone the own one too
  abbrev pub IsStableOf : ℕ → ℕ → PartId → PartState E → Wish → ℕ → ℕ → Type 0
  IsStableOf sites parts id p wish j n = (IsOther sites id.site j × (n ≡ stable_entry parts id p j)) ⊎ ((wish.stable ≡ true) × (j ≡ id.site) × IsOwnStable parts id p n)

  -- where the own site is asked about, as much of it is stable as the session depends on
  abbrev pub IsOwnEnough : ℕ → PartId → PartState E → Wish → Type 0
  IsOwnEnough parts id p wish = wish.stable ≡ true → (n : ℕ) × IsOwnStable parts id p n × (entry wish.past id.site ≤ n)

  -- the least site that is asked about whose stable entry is below what the session depends on
  pub record IsStableBehind (sites parts : ℕ) (id : PartId) (p : PartState E) (wish : Wish) (j n : ℕ) : Type 0 where
    pub have : IsStableOf sites parts id p wish j n
    pub behind : n < entry wish.past j
    pub least : (i : ℕ) → IsOther sites id.site i → stable_entry parts id p i < entry wish.past i → j ≤ i
    pub own : id.site < j → IsOwnEnough parts id p wish

  -- no such site's stable entry is
  abbrev pub IsStableEnough : ℕ → ℕ → PartId → PartState E → Wish → Type 0
  IsStableEnough sites parts id p wish = ((j : ℕ) → IsOther sites id.site j → entry wish.past j ≤ stable_entry parts id p j) × IsOwnEnough parts id p wish

  -- the first pending transaction, by prepare time and id, that changes the object and may belong to the snapshot
  pub record IsTxPending (id : PartId) (p : PartState E) (s : List ℕ) (o : ObjectId) (u : TxId) (n : ℕ) : Type 0 where
    pub clock : entry s id.site ≤ p.now
    pub waiting : pending p.log u ≡ true
    pub changes : touches (prepared_changes p.log u) o ≡ true
    pub time : n ≡ prepare_time p.log u
    pub early : n ≤ entry s id.site
    pub first : (w : TxId) → pending p.log w ≡ true → touches (prepared_changes p.log w) o ≡ true → pending_cmp (w, prepare_time p.log w) (u, n) ≢ Less

  -- exactly when a call of a partition that is up is refused, and why
  abbrev pub IsDue : {S : Type 0} → Kinds S E → ℕ → ℕ → PartId → PartState E → Ask E → Refusal → Type 0
  IsDue kinds sites parts id p (AskBegin who dep) (StableBehind j n) = IsStableBehind sites parts id p dep j n
  IsDue kinds sites parts id p (AskBegin who dep) ClockAtEnd = IsStableEnough sites parts id p dep × (p.now ≡ end_of_time)
  IsDue kinds sites parts id p (AskRead t s o own) (ClockBehind n) = (n ≡ p.now) × (n < entry s id.site)
  IsDue kinds sites parts id p (AskRead t s o own) (TxPending u n) = IsTxPending id p s o u n
  IsDue kinds sites parts id p (AskUpdate t s o own op) IsBadOp = fits_kind kinds.too_deep o op ≡ false
  IsDue kinds sites parts id p (AskUpdate t s o own op) (ClockBehind n) = (reads_state o.kind ≡ true) × (n ≡ p.now) × (n < entry s id.site) × (fits_kind kinds.too_deep o op ≡ true)
  IsDue kinds sites parts id p (AskUpdate t s o own op) (TxPending u n) = (reads_state o.kind ≡ true) × IsTxPending id p s o u n × (fits_kind kinds.too_deep o op ≡ true)
  IsDue kinds sites parts id p (AskPrepare t s l w) (ClockBehind n) = (n ≡ p.now) × (n < entry s id.site)
  IsDue kinds sites parts id p (AskPrepare t s l w) ClockAtEnd = (entry s id.site ≤ p.now) × (p.now ≡ end_of_time)
  IsDue kinds sites parts id p (AskDecide t c) IsGone = (pending p.log t || committed p.log t) ≡ false
  IsDue kinds sites parts id p (AskFinish t c) IsGone = (pending p.log t || committed p.log t) ≡ false
  IsDue kinds sites parts id p (AskAbort t) IsGone = pending p.log t ≡ false
  IsDue kinds sites parts id p (AskTake number m) (HasGap n) = (n ≡ entry p.bounds m.from) × (n < m.lo)
  IsDue kinds sites parts id p (AskTake number m) (IsRepeat n) = (n ≡ entry p.bounds m.from) × (m.lo ≤ n) × (m.hi ≤ n)
  -- no room: every other cause is absent, and there is something to write
  IsDue kinds sites parts id p (AskTick r) (HasNoRoom n) = r ≤ end_of_time
  IsDue kinds sites parts id p (AskBegin who dep) (HasNoRoom n) = IsStableEnough sites parts id p dep × (p.now < end_of_time)
  IsDue kinds sites parts id p (AskPrepare t s l w) (HasNoRoom n) = (entry s id.site ≤ p.now) × (p.now < end_of_time)
  IsDue kinds sites parts id p (AskDecide t c) (HasNoRoom n) = pending p.log t ≡ true
  IsDue kinds sites parts id p (AskFinish t c) (HasNoRoom n) = pending p.log t ≡ true
  IsDue kinds sites parts id p (AskAbort t) (HasNoRoom n) = pending p.log t ≡ true
  IsDue kinds sites parts id p (AskTake number m) (HasNoRoom n) = (m.lo ≤ entry p.bounds m.from) × (entry p.bounds m.from < m.hi)
  IsDue kinds sites parts id p asked why = ⊥

  -- what a restart found isn't the partition's
  pub record IsUnfit (sites parts : ℕ) (id : PartId) (p : PartState E) (at : ℕ) : Type 0 where
    pub down : p.up ≡ false
    pub log : List (Record E)
    pub found : Finds p log
    pub first : unfit sites parts id log ≡ Some at

  -- down is first of all, but a restart is never refused so
  abbrev pub IsRefused : {S : Type 0} → Kinds S E → ℕ → ℕ → PartId → PartState E → Ask E → Refusal → Type 0
  IsRefused kinds sites parts id p asked IsDown = (p.up ≡ false) × (is_restart asked ≡ false)
  IsRefused kinds sites parts id p AskRestart (IsDamaged at) = IsUnfit sites parts id p at
  IsRefused kinds sites parts id p asked why = (p.up ≡ true) × IsDue kinds sites parts id p asked why

  -- a restart reads the log again and forgets the rest; one that is up acts as if it had crashed
  pub record IsRestart (sites parts : ℕ) (id : PartId) (p : PartState E) (n : ℕ) (b : List ℕ) (named : Option TxId) (listed : List (TxId × ℕ)) (q : PartState E) : Type 0 where
    pub found : Finds p q.log
    pub fits : unfit sites parts id q.log ≡ None
    pub up : q.up ≡ true
    pub whole : q.torn ≡ []
    pub clock : q.now ≡ ceiling q.log
    pub width : length q.bounds ≡ sites
    pub bounds : (j : ℕ) → IsOther sites id.site j → entry q.bounds j ≡ logged_bound q.log j
    pub heard : q.heard ≡ replicate parts (replicate sites 0)
    pub sent : q.sent ≡ replicate sites 0
    pub shown : n ≡ q.now
    pub shown_bounds : IsBounds sites id q.now q.log q.bounds b
    pub last : named ≡ last_decided q.log
    pub members : (t : TxId) → names_pending listed t ≡ pending q.log t
    pub timed : AreTimed q.log listed
    pub order : Ascends pending_cmp listed

  -- a step of one partition: the relation of its calls
  abbrev pub PartStep : {S : Type 0} → Kinds S E → ℕ → ℕ → PartId → PartState E → Event E → PartState E → Type 0
  PartStep kinds sites parts id p (Cut what) q = (p.up ≡ true) × MayDo kinds sites parts id p what × (q ≡ cut p what)
  -- also where it is down already
  PartStep kinds sites parts id p Crashed q = q ≡ down p p.torn
  PartStep kinds sites parts id p RestartCut q = q ≡ down p p.torn
  PartStep kinds sites parts id p (Restarted n b named listed) q = IsRestart sites parts id p n b named listed q
  PartStep kinds sites parts id p (Opened who) q = q ≡ p
  PartStep kinds sites parts id p (Refused asked why) q = IsRefused kinds sites parts id p asked why × (q ≡ p)
  PartStep kinds sites parts id p e q = (p.up ≡ true) × MayDo kinds sites parts id p e × (q ≡ done p e)

abbrev pub new_part : {E : Type 0} → ℕ → ℕ → PartState E
new_part sites parts = record { up = true; now = 0; log = []; torn = []; bounds = replicate sites 0; heard = replicate parts (replicate sites 0); sent = replicate sites 0 }
