-- Each line answers its call, at its place.
use Rattle.std.specs.Prelude.{◌≡◌, Bool, true, false, List, ⊤}
use Rattle.site_vector.specs.declared.ids.PartId.{PartId}
use Rattle.world_model.specs.declared.step.Step.{Step}
use Rattle.world_model.specs.declared.step.Step.TheVariants as step
use Rattle.world_model.specs.lines.Lines.{Call, Tick, Begin, ReadOf, UpdateOf, PrepareOf, DecideOf, FinishOf, AbortOf, SendTo, TakeOf, Report, HearOf, Crash, Restart, Open, Line}
use Rattle.world_model.specs.lines.Dependency.{is_of}

-- which calls a partition that is down refuses
abbrev pub needs_up : Call → Bool
needs_up Crash = false
needs_up Restart = false
needs_up Open = false
needs_up other = true

-- which calls a fault of the disk may end
abbrev pub may_fail : Call → Bool
may_fail Crash = false
may_fail Open = false
may_fail other = true

-- which calls write to the log, and so may find no room there
abbrev pub may_write : Call → Bool
may_write (Tick clock_time) = true
may_write (Begin who dep) = true
may_write (PrepareOf t) = true
may_write (DecideOf t) = true
may_write (FinishOf t) = true
may_write (AbortOf t) = true
may_write (TakeOf number site lo hi) = true
may_write other = false

-- a value and an update bear the name of the session that began the transaction; a decide that a fault ended leaves its
-- transaction in doubt, and every other call shows that its disk failed
abbrev pub IsAnswer : List Line → PartId → Call → Step → Type 0
IsAnswer before p call (step.Down q) = (q ≡ p) × (needs_up call ≡ true)
IsAnswer before p (Tick clock_time) (step.Ticked q n) = q ≡ p
IsAnswer before p (Begin who dep) (step.Began name t s) = name ≡ who
IsAnswer before p (ReadOf t o) (step.Value name object value) = (object ≡ o) × (is_of before name t ≡ true)
IsAnswer before p (UpdateOf t o op) (step.Updated name object stamp) = (object ≡ o) × (is_of before name t ≡ true)
IsAnswer before p (PrepareOf t) (step.Prepared q u n) = (q ≡ p) × (u ≡ t)
IsAnswer before p (DecideOf t) (step.Decided q u c) = (q ≡ p) × (u ≡ t)
IsAnswer before p (FinishOf t) (step.Finished q u) = (q ≡ p) × (u ≡ t)
IsAnswer before p (AbortOf t) (step.Aborted q u) = (q ≡ p) × (u ≡ t)
IsAnswer before p (SendTo site asked) (step.Sent number q to lo hi count) = (q ≡ p) × (to ≡ site)
IsAnswer before p (TakeOf number site lo hi) (step.Took shown end) = ⊤
IsAnswer before p (TakeOf number site lo hi) (step.Gap shown n) = ⊤
IsAnswer before p (TakeOf number site lo hi) (step.Dup shown n) = ⊤
IsAnswer before p Report (step.Reported number q bounds) = q ≡ p
IsAnswer before p (HearOf number part bounds) (step.Heard shown q stable) = q ≡ p
IsAnswer before p Crash (step.Crashed q) = q ≡ p
IsAnswer before p Restart (step.Restarted q n bounds named listed) = q ≡ p
IsAnswer before p Open (step.MadeSession name site) = site ≡ p.site
-- what is refused has its cause besides
IsAnswer before p call (step.WaitClock q n) = q ≡ p
IsAnswer before p call (step.WaitTxn q u n) = q ≡ p
IsAnswer before p call (step.WaitStable j n) = ⊤
IsAnswer before p (Begin who dep) step.TimeEnd = ⊤
IsAnswer before p (PrepareOf t) step.TimeEnd = ⊤
IsAnswer before p call (step.Gone q t) = q ≡ p
IsAnswer before p call (step.Full room) = may_write call ≡ true
IsAnswer before p (DecideOf t) (step.Unsure u) = u ≡ t
IsAnswer before p (DecideOf t) (step.Disk q) = ⊥
IsAnswer before p call (step.Disk q) = (q ≡ p) × (may_fail call ≡ true)
IsAnswer before p call other = ⊥
