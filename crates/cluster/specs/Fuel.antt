-- How the fuse of a partition's disk burns down, and that no fuse of a script lets more pass than it may.
use Rattle.std.specs.Prelude.{◌≡◌, ◌≢◌, ◌⊎◌, ℕ, ◌+◌, ◌*◌, ◌≤◌, IsTrue, Bool, true, false, List, [], ◌∷◌, get_or, Option, None, Some, ⊤}
use Rattle.site_vector.specs.declared.ids.PartId.{PartId}
use Rattle.site_vector.specs.Ids.{same_part}
use Rattle.disk_core.specs.States.{DiskState}
use Rattle.world_model.specs.declared.command.Command.{Command}
use Rattle.world_model.specs.declared.command.Command.TheVariants as command
use Rattle.world_model.specs.lines.Bounds.{bound}
use Rattle.world_model.specs.rules.Event.{Event, Entry, Took}
use Rattle.world_model.specs.commands.Fuses.{Fuse, fuse, IsUnfired, KeepFuses}
use Rattle.world_model.specs.lines.Lines.{Line}
use Rattle.world_model.specs.rules.Lines.{shown_lines, step_shown}
use Rattle.world_model.specs.declared.step.Step.{Step}
use Rattle.world_model.specs.lines.Restarts as restarts
use Rattle.world_model.specs.events.Restarts.{brings}
use Rattle.world_model.specs.commands.Cluster.{has_cluster, parts_of}
use Rattle.world_model.specs.commands.Run.{Run}
use Rattle.world_model.specs.commands.ScriptCalls.{calls_of}
use Rattle.world_model.specs.declared.step.Step.TheVariants as step
use Rattle.world_model.specs.lines.Places.{IsPlace}
use Rattle.world_model.specs.lines.Updates.{lead}
use Rattle.partition_core.specs.Durable.{Durable, disk_in, is_down}
use Rattle.partition_core.specs.Moments.{Spends}
use Rattle.site_partitions.specs.Held.{Held, IsAt, index_of, holds_part}
use Rattle.site_partitions.specs.Moves.{Moves}
use Rattle.site_partitions.specs.Reaches.{Types, Reaches}
use Rattle.cluster.specs.Faults.{TellsFault}

-- A fuse burns, and of the calls that are left the one that fires it is this one at the latest.
pub record IsBurning (left : Option ℕ) (most : ℕ) : Type 0 where
  pub calls : ℕ
  pub is : left ≡ Some calls
  pub some : 1 ≤ calls
  pub few : calls ≤ most

-- A fuse that burns burns still, and so many calls at least are taken off.
abbrev pub Burns : ℕ → Option ℕ → Option ℕ → Type 0
Burns n old new = (most : ℕ) → IsBurning old (most + n) → IsBurning new most

-- a fuse of the script burns on the disk, and four calls are taken off for each line that shows that its partition wrote
abbrev pub BurnsBy : Option Fuse → Option ℕ → Type 0
BurnsBy None left = ⊤
BurnsBy (Some f) left = (most : ℕ) × (most + f.written * 4 ≤ f.fires_at) × IsBurning left most

-- and there is none where no partition is
abbrev pub BurnsAt : Bool → Option Fuse → Option ℕ → Type 0
BurnsAt true f left = BurnsBy f left
BurnsAt false f left = f ≡ None

-- It fails only by a fuse: it is sound, and never lacked memory to grow.
pub record FailsByFuse (disk : DiskState) : Type 0 where
  pub sound : IsTrue disk.sound
  pub fed : disk.starved ≡ false

module _ {E : Type 0} where
  -- what was taken brought a part above the bound where the whole run tells so
  abbrev pub IsBrought : List Line → List Line → PartId → Event E → Type 0
  IsBrought whole ls p (Took number m) = restarts.brings whole p m.from (bound ls p m.from) m.hi ≡ true → brings m (bound ls p m.from) ≡ true
  IsBrought whole ls p other = ⊤

  abbrev pub AreBrought : List Line → List (Entry E) → Type 0
  AreBrought whole [] = ⊤
  AreBrought whole (e ∷ run) = IsBrought whole (shown_lines run) e.at e.event × AreBrought whole run

module _ {E D : Type 0} (state : D → DiskState) where
  -- the calls that are left of the disk of the partition at this place, where one stands there
  abbrev pub left_at : Held E D → PartId → Durable E D → Option ℕ
  left_at c p other = (disk_in state (get_or c.partitions (index_of c.parts p) other)).left

  -- how many bytes are kept of the write at which its fuse fires
  abbrev pub keep_at : Held E D → PartId → Durable E D → ℕ
  keep_at c p other = (disk_in state (get_or c.partitions (index_of c.parts p) other)).keep

  -- no fuse is on the disk of this partition, or one that has fired, and the partition is down
  abbrev pub IsDark : Durable E D → Type 0
  IsDark t = ((disk_in state t).left ≡ None) ⊎ (((disk_in state t).left ≡ Some 0) × (is_down t ≡ true))

  -- where its disk fails only by a fuse, and none of the script is in force
  abbrev pub IsDarkBy : Option Fuse → Durable E D → Type 0
  IsDarkBy f t = FailsByFuse (disk_in state t) → f ≡ None → IsDark t

  -- a line that told of a fault of this partition, which is there, came where this fuse was in force, if its disk fails only by one
  pub record FailedBy (c : Held E D) (f : Option Fuse) (p : PartId) : Type 0 where
    pub place : IsPlace c.sites c.parts p
    pub part : Durable E D
    pub there : IsAt c p part
    pub fused : FailsByFuse (disk_in state part) → f ≢ None

  -- where a cluster stood
  abbrev pub IsFailedBy : Held E D → List Line → Run → Step → Type 0
  IsFailedBy c whole run (step.Disk p) = has_cluster run ≡ true → FailedBy c (fuse whole run p) p
  IsFailedBy c whole run (step.Unsure t) = has_cluster run ≡ true → FailedBy c (fuse whole run (lead (parts_of run) (calls_of run) t)) (lead (parts_of run) (calls_of run) t)
  IsFailedBy c whole run other = ⊤

  abbrev pub AreFailedBy : Held E D → List Line → Run → Type 0
  AreFailedBy c whole [] = ⊤
  AreFailedBy c whole (l ∷ run) = IsFailedBy c whole run l.step × AreFailedBy c whole run

  -- where no fuse of the script is in force, no disk fails by one, and none did
  pub record IsLit (c : Held E D) (whole : List Line) (run : Run) : Type 0 where
    pub dark : (p : PartId) → IsPlace c.sites c.parts p → (t : Durable E D) → IsAt c p t → IsDarkBy (fuse whole run p) t
    pub failed : AreFailedBy c whole run

  -- the fuses in force after this run of a script burn on the disks of the cluster, and none let more pass than it may
  pub record IsFueled (c : Held E D) (whole : List Line) (run : Run) : Type 0 where
    pub keeps : KeepFuses whole run
    pub unfired : (p : PartId) → IsUnfired (fuse whole run p)
    pub burns : (p : PartId) (other : Durable E D) → BurnsAt (holds_part c p) (fuse whole run p) (left_at c p other)
    pub lit : IsLit c whole run

  -- whatever the whole run will be, if it tells of these events what they brought
  abbrev pub Fueled : Held E D → Run → List (Entry E) → Type 0
  Fueled c run events = (whole : List Line) → AreBrought whole events → IsFueled c whole run

-- no fuse was in force after any of these lines
pub record IsUnlit (whole : List Line) (run : Run) : Type 0 where
  pub keeps : KeepFuses whole run
  pub none : (p : PartId) → fuse whole run p ≡ None

abbrev pub Unlit : Run → Type 0
Unlit run = (whole : List Line) → IsUnlit whole run

-- some run that the old cluster had reached goes on by an event of this partition alone that shows the line, with what that takes of the
-- calls of its disk
pub record Spent {S E D : Type 0} (w : Types S E D) (old new : Held E D) (at : PartId) (line : Step) : Type 0 where
  pub moves : Moves w.state old new at
  pub run : List (Entry E)
  pub reached : Reaches w old run
  pub event : Event E
  pub shows : step_shown run at event ≡ line
  pub next : Reaches w new ((record { at = at; event = event }) ∷ run)
  pub spends : Spends w.kinds w.codec w.state moves.before moves.after (reached.state at) event

-- what the line of a call of this partition tells of its disk: that it failed, where it did, and what it took of its calls
abbrev pub TellsCall : {S E D : Type 0} (w : Types S E D) → Held E D → Held E D → PartId → Step → Type 0
TellsCall w old new at line = TellsFault w.state old new at line × Spent w old new at line

-- no fuse on the disk of this partition has fired
abbrev pub IsUnfiredAt : {E D : Type 0} → (D → DiskState) → Held E D → PartId → Type 0
IsUnfiredAt {E} {D} state c p = (t : Durable E D) → IsAt c p t → (disk_in state t).left ≢ Some 0

-- where no fuse is on the disk of this partition, none comes
abbrev pub StaysUnarmed : {E D : Type 0} → (D → DiskState) → Held E D → Held E D → PartId → Type 0
StaysUnarmed {E} {D} state old new p = (other : Durable E D) → left_at state old p other ≡ None → left_at state new p other ≡ None

-- the fuse of this partition is armed at this call and keeps so many bytes, and no other's changed
pub record IsArmed {E D : Type 0} (state : D → DiskState) (old new : Held E D) (p : PartId) (k n : ℕ) : Type 0 where
  pub left : (other : Durable E D) → left_at state new p other ≡ Some k
  pub keep : (other : Durable E D) → keep_at state new p other ≡ n
  pub others : (q : PartId) → holds_part old q ≡ true → same_part p q ≡ false → (other : Durable E D) → left_at state new q other ≡ left_at state old q other

-- What a command does to the fuse of a partition that is there: it is armed as is named, and a restart takes one away that has fired.
abbrev pub SetsFuse : {E D : Type 0} → (D → DiskState) → Command → Held E D → Held E D → Type 0
SetsFuse {E} {D} state (command.Fuse p k n) old new = holds_part old p ≡ true → IsArmed state old new p k n
SetsFuse {E} {D} state (command.Restart p) old new = holds_part old p ≡ true → (other : Durable E D) → left_at state old p other ≡ Some 0 → left_at state new p other ≡ None
SetsFuse state other old new = ⊤
