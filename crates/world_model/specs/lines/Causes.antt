-- The causes of refusals, over the lines of a run: each stands exactly where its cause holds.
use Rattle.std.specs.Prelude.{◌≡◌, ℕ, ◌^◌, ◌<◌, ◌≤◌, true, false, List, ⊤}
use Rattle.site_vector.specs.declared.ids.PartId.{PartId}
use Rattle.site_vector.specs.declared.ids.TxId.{TxId}
use Rattle.site_vector.specs.Vector.{entry}
use Rattle.crdt_core.specs.declared.object.ObjectId.{ObjectId}
use Rattle.crdt_core.specs.Kinds.{reads_state}
use Rattle.world_model.specs.declared.step.Step.{Step}
use Rattle.world_model.specs.declared.step.Step.TheVariants as step
use Rattle.world_model.specs.lines.Listed.{IsReadyBy, IsFirstBy}
use Rattle.world_model.specs.lines.Lines.{Call, Begin, ReadOf, UpdateOf, PrepareOf, DecideOf, FinishOf, AbortOf, TakeOf, Restart, Line, Wish}
use Rattle.world_model.specs.lines.Clock.{now}
use Rattle.world_model.specs.lines.History.{snapshot}
use Rattle.world_model.specs.lines.Updates.{touches}
use Rattle.world_model.specs.lines.Pending.{pending, prepare_time, is_down}
use Rattle.world_model.specs.lines.Fate.{is_known_at}
use Rattle.world_model.specs.lines.Bounds.{IsLeastBehind, AreEnough, bound, known, IsOwnStable}

-- no wait is due for what reads the object
abbrev pub IsReady : List Line → List Line → PartId → TxId → ObjectId → Type 0
IsReady whole before p t o = IsReadyBy (now before p) (pending before p) (prepare_time before p) (entry (snapshot whole t) p.site) (λ u. touches whole u p o)

-- the clock has not reached the snapshot
abbrev pub IsBehind : List Line → List Line → PartId → TxId → ℕ → Type 0
IsBehind whole before p t n = (n ≡ now before p) × (n < entry (snapshot whole t) p.site)

-- the first of all that are pending and update the object
abbrev pub IsFirstPending : List Line → List Line → PartId → TxId → ObjectId → TxId → ℕ → Type 0
IsFirstPending whole before p t o u n = IsFirstBy (now before p) (pending before p) (prepare_time before p) (entry (snapshot whole t) p.site) (λ w. touches whole w p o) u n

-- a wait for the clock, by the call that it answers
abbrev pub ClockCause : List Line → List Line → PartId → Call → ℕ → Type 0
ClockCause whole before p (ReadOf t o) n = IsBehind whole before p t n
ClockCause whole before p (UpdateOf t o op) n = (reads_state o.kind ≡ true) × IsBehind whole before p t n
ClockCause whole before p (PrepareOf t) n = IsBehind whole before p t n
ClockCause whole before p other n = ⊥

abbrev pub PendingCause : List Line → List Line → PartId → Call → TxId → ℕ → Type 0
PendingCause whole before p (ReadOf t o) u n = IsFirstPending whole before p t o u n
PendingCause whole before p (UpdateOf t o op) u n = (reads_state o.kind ≡ true) × IsFirstPending whole before p t o u n
PendingCause whole before p other u n = ⊥

-- a wait for the least site that lags behind what the session depends on shows its stable entry; one that reads what is stable alone
-- waits for its own site too
abbrev pub StableCause : ℕ → ℕ → List Line → PartId → Call → ℕ → ℕ → Type 0
StableCause sites parts before p (Begin who wish) j n = IsLeastBehind sites parts p.site (known before p) wish.stable (IsOwnStable parts before p) wish.past j n
StableCause sites parts before p other j n = ⊥

-- no site's stable entry is below what the begin depends on: every partition is known to have come so far
abbrev pub IsStableEnough : ℕ → ℕ → List Line → PartId → Wish → Type 0
IsStableEnough sites parts before p wish = AreEnough sites parts p.site (known before p) wish.stable (IsOwnStable parts before p) wish.past

-- the end of time, where nothing else is due, of a begin and of a prepare: the clock can show no later time
abbrev pub TimeCause : ℕ → ℕ → List Line → List Line → PartId → Call → Type 0
TimeCause sites parts whole before p (Begin who dep) = (now before p ≡ 2 ^ 62) × IsStableEnough sites parts before p dep
TimeCause sites parts whole before p (PrepareOf t) = (now before p ≡ 2 ^ 62) × (entry (snapshot whole t) p.site ≤ now before p)
TimeCause sites parts whole before p other = ⊥

-- a finish is never refused so
abbrev pub GoneCause : List Line → List Line → PartId → Call → TxId → Type 0
GoneCause whole before p (DecideOf u) t = (t ≡ u) × (is_known_at whole before p u ≡ false)
GoneCause whole before p (AbortOf u) t = (t ≡ u) × (pending before p u ≡ false)
GoneCause whole before p other t = ⊥

-- no cause is there that comes before want of room and a fault of the disk
abbrev pub NoneDue : ℕ → ℕ → List Line → List Line → PartId → Call → Type 0
NoneDue sites parts whole before p (Begin who dep) = (now before p < 2 ^ 62) × IsStableEnough sites parts before p dep
NoneDue sites parts whole before p (ReadOf t o) = IsReady whole before p t o
NoneDue sites parts whole before p (UpdateOf t o op) = reads_state o.kind ≡ true → IsReady whole before p t o
NoneDue sites parts whole before p (PrepareOf t) = (entry (snapshot whole t) p.site ≤ now before p) × (now before p < 2 ^ 62)
NoneDue sites parts whole before p (DecideOf t) = pending before p t ≡ true
NoneDue sites parts whole before p (FinishOf t) = is_known_at whole before p t ≡ true
NoneDue sites parts whole before p (AbortOf t) = pending before p t ≡ true
NoneDue sites parts whole before p (TakeOf number site lo hi) = (lo ≤ bound before p site) × (bound before p site < hi)
NoneDue sites parts whole before p other = ⊤

-- a log is never damaged that the run wrote; what each refusal, and each answer that isn't one, tells of causes
abbrev pub HasCause : ℕ → ℕ → List Line → List Line → PartId → Call → Step → Type 0
HasCause sites parts whole before p call (step.WaitClock q n) = ClockCause whole before p call n
HasCause sites parts whole before p call (step.WaitTxn q u n) = PendingCause whole before p call u n
HasCause sites parts whole before p call (step.WaitStable j n) = StableCause sites parts before p call j n
HasCause sites parts whole before p call step.TimeEnd = TimeCause sites parts whole before p call
HasCause sites parts whole before p call (step.Damaged q at) = ⊥
HasCause sites parts whole before p call (step.Gone q t) = GoneCause whole before p call t
-- what a room or a disk's count says is said where there are disks
HasCause sites parts whole before p call (step.Full room) = NoneDue sites parts whole before p call
HasCause sites parts whole before p call (step.Disk q) = NoneDue sites parts whole before p call
HasCause sites parts whole before p call (step.Unsure t) = NoneDue sites parts whole before p call
HasCause sites parts whole before p (ReadOf t o) (step.Value name object value) = IsReady whole before p t o
HasCause sites parts whole before p (UpdateOf t o op) (step.Updated name object stamp) = reads_state o.kind ≡ true → IsReady whole before p t o
HasCause sites parts whole before p call (step.Prepared q t n) = (entry (snapshot whole t) p.site ≤ now before p) × (now before p < 2 ^ 62)
HasCause sites parts whole before p call (step.Began name t s) = now before p < 2 ^ 62
HasCause sites parts whole before p call (step.Decided q t c) = pending before p t ≡ true
HasCause sites parts whole before p call (step.Finished q t) = is_known_at whole before p t ≡ true
HasCause sites parts whole before p call other = ⊤

-- a partition that crashed says that it is down until it restarts; one that is up never does. Both may crash and restart, and to
-- make a session needs none
abbrev pub AnswersAsUp : List Line → PartId → Call → Step → Type 0
AnswersAsUp before p call (step.Restarted q n bounds named listed) = ⊤
AnswersAsUp before p call (step.Crashed q) = ⊤
AnswersAsUp before p Restart (step.Disk q) = ⊤
AnswersAsUp before p call (step.Down q) = is_down before p ≡ true
AnswersAsUp before p call (step.Damaged q at) = is_down before p ≡ true
AnswersAsUp before p call (step.MadeSession name site) = ⊤
AnswersAsUp before p call other = is_down before p ≡ false
