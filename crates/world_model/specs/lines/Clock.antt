-- The clock law, over the lines of a run: every time that a partition shows becomes its time, and none falls (Clock-SI).
use Rattle.std.specs.Prelude.{◌≡◌, ◌≤◌, ℕ, ◌+◌, max, List, [], ◌∷◌, if◌then◌else◌, ⊤}
use Rattle.site_vector.specs.declared.ids.PartId.{PartId}
use Rattle.site_vector.specs.Ids.{same_part}
use Rattle.world_model.specs.declared.step.Step.{Step}
use Rattle.world_model.specs.declared.step.Step.TheVariants as step
use Rattle.world_model.specs.lines.Lines.{Call, Tick, Begin, PrepareOf, Line, EachLine}

-- the time of a partition after a step there, where it was `old` before
abbrev pub time_after : ℕ → Step → ℕ
time_after old (step.Ticked p n) = n
time_after old (step.Began name t s) = t.time
time_after old (step.Prepared p t n) = n
time_after old (step.Restarted p n bounds named listed) = n
time_after old other = old

-- the time of a partition
abbrev pub now : List Line → PartId → ℕ
now [] p = 0
now (l ∷ ls) p = if same_part l.at p then time_after (now ls p) l.step else now ls p

-- the greatest time that calls would have made of `time` which a fault of the disk ended, since the last restart
abbrev pub missed_after : ℕ → ℕ → Call → Step → ℕ
missed_after time old call (step.Restarted p n bounds named listed) = 0
missed_after time old (Tick clock_time) (step.Disk p) = max (max clock_time time) old
missed_after time old (Begin who dep) (step.Disk p) = max (time + 1) old
missed_after time old (PrepareOf t) (step.Disk p) = max (time + 1) old
missed_after time old call other = old

abbrev pub missed : List Line → PartId → ℕ
missed [] p = 0
missed (l ∷ ls) p = if same_part l.at p then missed_after (now ls p) (missed ls p) l.call l.step else missed ls p

-- what a line shows of its partition's clock
abbrev pub ShowsTime : List Line → PartId → Call → Step → Type 0
ShowsTime ls p call (step.Began name t s) = t.time ≡ now ls p + 1
ShowsTime ls p (Tick clock_time) (step.Ticked q n) = n ≡ max clock_time (now ls p)
ShowsTime ls p call (step.Ticked q n) = ⊥
ShowsTime ls p call (step.Prepared q t n) = n ≡ now ls p + 1
ShowsTime ls p call (step.Restarted q n bounds named listed) = (now ls p ≤ n) × (n ≤ 1000 + max (now ls p) (missed ls p))
ShowsTime ls p call other = ⊤

abbrev pub FollowsClock : List Line → Type 0
FollowsClock ls = EachLine ShowsTime ls
