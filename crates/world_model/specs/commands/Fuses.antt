-- What a fuse that a script arms on a partition's disk binds: how much the partition may write until the fuse fires.
use Rattle.std.specs.Prelude.{ℕ, ◌+◌, ◌*◌, ◌<◌, Bool, true, false, ◌&&◌, ◌||◌, if◌then◌else◌, List, [], ◌∷◌, Option, None, Some, ⊤}
use Rattle.site_vector.specs.declared.ids.PartId.{PartId}
use Rattle.site_vector.specs.Ids.{same_part}
use Rattle.world_model.specs.declared.step.Step.{Step}
use Rattle.world_model.specs.declared.step.Step.TheVariants as step
use Rattle.world_model.specs.commands.Run.{Run}
use Rattle.world_model.specs.commands.Run as script
use Rattle.world_model.specs.commands.Cluster.{parts_of}
use Rattle.world_model.specs.lines.Lines.{Call, TakeOf, Line}
use Rattle.world_model.specs.lines.Bounds.{bound}
use Rattle.world_model.specs.lines.Updates.{lead}
use Rattle.world_model.specs.lines.Pending.{pending}
use Rattle.world_model.specs.lines.Restarts.{brings}
use Rattle.world_model.specs.commands.ScriptCalls.{Placed, is_called, asked_by, calls_of}

-- a fuse that is armed: it fires at this call of the disk, and so many lines since it was armed show that its partition wrote
pub record Fuse : Type 0 where
  pub fires_at : ℕ
  pub written : ℕ

-- the line changes what is pending at p after these lines, a restart aside
abbrev pub is_change : List Line → PartId → Step → Bool
is_change ls p (step.Prepared q t n) = true
is_change ls p (step.Decided q t c) = pending ls p t
is_change ls p (step.Finished q t) = pending ls p t
is_change ls p (step.Aborted q t) = pending ls p t
is_change ls p other = false

-- a message was taken that brought a part of the whole run
abbrev pub is_bringing : List Line → List Line → PartId → Call → Step → Bool
is_bringing whole ls p (TakeOf number site lo hi) (step.Took shown end) = brings whole p site (bound ls p site) hi
is_bringing whole ls p call other = false

-- p wrote for what was asked of this partition
abbrev pub is_written : List Line → List Line → PartId → Placed → Step → Bool
is_written whole ls p asked s = same_part asked.at p && (is_change ls p s || is_bringing whole ls p asked.call s)

-- the line shows that p wrote
abbrev pub shows_written : List Line → Run → PartId → script.Line → Bool
shows_written whole run p l = is_called l.command l.step && is_written whole (calls_of run) p (asked_by (calls_of run) run l.command l.step) l.step

abbrev pub counted : Bool → Option Fuse → Option Fuse
counted true (Some f) = Some (record { fires_at = f.fires_at; written = f.written + 1 })
counted other old = old

-- a fuse is in force up to the next one, or to a fault of its disk, which a decide that leaves t in doubt shows at its lead
abbrev pub fuse_after : Run → PartId → Option Fuse → Bool → Step → Option Fuse
fuse_after run p old written (step.Fused q k n) = if same_part q p then Some (record { fires_at = k; written = 0 }) else old
fuse_after run p old written (step.Disk q) = if same_part q p then None else old
fuse_after run p old written (step.Unsure t) = if same_part (lead (parts_of run) (calls_of run) t) p then None else old
fuse_after run p old written other = counted written old

-- the fuse that is in force at p after these lines of the whole run
abbrev pub fuse : List Line → Run → PartId → Option Fuse
fuse whole [] p = None
fuse whole (l ∷ run) p = fuse_after run p (fuse whole run p) (shows_written whole run p l) l.step

-- it has not fired yet: whatever a partition writes takes four calls of its disk at least
abbrev pub IsUnfired : Option Fuse → Type 0
IsUnfired None = ⊤
IsUnfired (Some f) = f.written * 4 < f.fires_at

abbrev pub KeepFuses : List Line → Run → Type 0
KeepFuses whole [] = ⊤
KeepFuses whole (l ∷ run) = ((p : PartId) → IsUnfired (fuse whole (l ∷ run) p)) × KeepFuses whole run

-- no fuse lets more pass than it may
abbrev pub HoldsFuses : Run → Type 0
HoldsFuses run = KeepFuses (calls_of run) run
