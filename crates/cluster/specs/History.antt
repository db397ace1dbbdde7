-- What the run of a script shows: one lawful history.
use Rattle.std.specs.Prelude.{◌≡◌, List}
use Rattle.site_vector.specs.declared.ids.PartId.{PartId}
use Rattle.crdt_core.specs.KindsOf.{Kinds}
use Rattle.world_model.specs.commands.Cluster.{sites_of, parts_of}
use Rattle.world_model.specs.lines.Dependency.{KeepsPast}
use Rattle.world_model.specs.rules.Event.{Entry}
use Rattle.world_model.specs.commands.Fuses.{HoldsFuses}
use Rattle.world_model.specs.lines.Lawful.{IsLawful}
use Rattle.world_model.specs.rules.Lines.{shown_lines}
use Rattle.world_model.specs.rules.Partition.{PartState}
use Rattle.world_model.specs.commands.Run.{Run}
use Rattle.world_model.specs.commands.ScriptCalls.{calls_of}
use Rattle.world_model.specs.rules.World.{IsWorldRun}

-- a run of the world shows exactly the lines that partitions answered, with their calls; they are lawful, and each snapshot
-- holds its session's past; and no fuse of a disk let more pass than it may
pub record ShowsHistory {S E : Type 0} (kinds : Kinds S E) (run : Run) : Type 0 where
  pub events : List (Entry E)
  pub state : PartId → PartState E
  pub is_run : IsWorldRun kinds (sites_of run) (parts_of run) events state
  pub shown : shown_lines events ≡ calls_of run
  pub lawful : IsLawful kinds.too_deep kinds.meaning (sites_of run) (parts_of run) (calls_of run)
  pub past : KeepsPast (sites_of run) (calls_of run)
  pub fuses : HoldsFuses run
