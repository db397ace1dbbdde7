-- What crashes, restarts and fuses of one partition leave of the cluster.
use Rattle.std.specs.Prelude.{◌≡◌, ◌≢◌, ℕ, true, false, List, ◌∷◌, None, Some, Result, Ok, Err}
use Rattle.site_vector.specs.declared.ids.PartId.{PartId}
use Rattle.disk_core.specs.States.{Fails}
use Rattle.gate_log.specs.Rest.{Lowers}
use Rattle.world_model.specs.rules.Event.{Event, Entry, Crashed, RestartCut}
use Rattle.world_model.specs.rules.Event as event
use Rattle.partition_core.specs.declared.restart.Restarted.{Restarted}
use Rattle.partition_core.specs.declared.restart.RestartError.{RestartError}
use Rattle.partition_core.specs.declared.restart.RestartError.TheVariants as restart
use Rattle.partition_core.specs.Durable.{disk_in, is_down}
use Rattle.partition_core.specs.Restarts.{FindsUnfit}
use Rattle.site_partitions.specs.Held.{Held}
use Rattle.site_partitions.specs.Moves.{Moves}
use Rattle.site_partitions.specs.Reaches.{Types, Reaches}

module _ {S E D : Type 0} (w : Types S E D) (old new : Held E D) (at : PartId) where
  -- each run that it had reached goes on by this event there
  abbrev pub GoesBy : Event E → Type 0
  GoesBy e = (run : List (Entry E)) → Reaches w old run → Reaches w new ((record { at = at; event = e }) ∷ run)

  -- each run that it had reached it reaches still
  abbrev pub Keeps : Type 0
  Keeps = (run : List (Entry E)) → Reaches w old run → Reaches w new run

  -- the partition is down, and its disk isn't touched
  pub record CrashesAt : Type 0 where
    pub moves : Moves w.state old new at
    pub down : is_down moves.after ≡ true
    pub disk : moves.after.gates ≡ moves.before.gates
    pub goes : GoesBy Crashed

  -- a restart takes at most three calls of the disk; where it fails, the partition is down
  pub record StaysDownAt : Type 0 where
    pub moves : Moves w.state old new at
    pub left : Lowers 3 (disk_in w.state moves.before).left (disk_in w.state moves.after).left
    pub down : is_down moves.after ≡ true
    pub goes : GoesBy RestartCut

  -- it is up, and no fuse of its disk has fired
  pub record ComesUpAt (r : Restarted) : Type 0 where
    pub moves : Moves w.state old new at
    pub left : Lowers 3 (disk_in w.state moves.before).left (disk_in w.state moves.after).left
    pub up : is_down moves.after ≡ false
    pub unfired : (disk_in w.state moves.after).left ≢ Some 0
    pub goes : GoesBy (event.Restarted r.now r.bounds r.decided r.pending)

  abbrev pub RestartsAt : Result Restarted RestartError → Type 0
  RestartsAt (Ok r) = ComesUpAt r
  RestartsAt (Err restart.Disk) = (s : StaysDownAt) × Fails (disk_in w.state s.moves.before) (disk_in w.state s.moves.after)
  RestartsAt (Err restart.NoMemory) = StaysDownAt
  -- of a log that a run left only where a record doesn't fit
  RestartsAt (Err (restart.Damaged place)) = (s : StaysDownAt) × ((run : List (Entry E)) (r : Reaches w old run) → FindsUnfit w.kinds w.codec w.state s.moves.before s.moves.after (r.state at) place)

  -- of the disk's calls from now on, the one with this number fails, and so many bytes are kept of it where it is a write
  pub record ArmsAt (k keep : ℕ) : Type 0 where
    pub moves : Moves w.state old new at
    pub armed : disk_in w.state moves.after ≡ record (disk_in w.state moves.before) { left = Some k; keep = keep }
    pub down : is_down moves.after ≡ is_down moves.before
    pub keeps : Keeps

  -- a fuse that has fired is taken away, and any other stays
  pub record RevivesAt : Type 0 where
    pub moves : Moves w.state old new at
    pub fired : (disk_in w.state moves.before).left ≡ Some 0 → disk_in w.state moves.after ≡ record (disk_in w.state moves.before) { left = None }
    pub burning : (disk_in w.state moves.before).left ≢ Some 0 → moves.after ≡ moves.before
    pub down : is_down moves.after ≡ is_down moves.before
    pub keeps : Keeps
