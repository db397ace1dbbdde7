-- Where the lines of a script left the cluster.
use Rattle.std.specs.Prelude.{◌≡◌, ℕ, ◌*◌, ◌≤◌, List, map, reverse, Option}
use Rattle.disk_core.specs.States.{DiskState}
use Rattle.disk_core.specs.Fuses.{fused_state}
use Rattle.disk_core.specs.declared.fused.Fused.{Fused}
use Rattle.world_model.specs.declared.step.Step.{Step}
use Rattle.world_model.specs.commands.Cluster.{sites_of, parts_of}
use Rattle.world_model.specs.commands.Run.{Run, written_lines}
use Rattle.world_model.specs.commands.ScriptAnswers.{Answers}
use Rattle.cluster.specs.Built.{is_built}
use Rattle.cluster.specs.Fused.{AreFused, AreSoundIn}
use Rattle.cluster.specs.Post.{WholeState}
use Rattle.cluster.specs.Reached as cluster
use Rattle.site_partitions.specs.Reaches.{Types}
use Rattle.dc_engine.specs.declared.framing.Framing.{Framing}
use Rattle.dc_engine.specs.ObjectKinds.{Effect, types}
use Rattle.dc_engine.specs.Reading.{asked_of}

-- some run of a cluster of these kinds left it so, and of the disks that are out there is one for each partition
pub record HasOutOf {S E D : Type 0} (t : Types S E D) (out : ℕ) (c : Option (WholeState E D)) : Type 0 where
  pub run : Run
  pub left : cluster.Reached t c run
  pub enough : sites_of run * parts_of run ≤ out

-- a cluster over disks with fuses, if one is made
abbrev pub Standing : Type 0 → Type 0
Standing D = Option (WholeState Effect (Fused D))

module _ {D : Type 0} (state : D → DiskState) where
  -- this run left it so
  abbrev pub IsLeft : Standing D → Run → Type 0
  IsLeft c run = cluster.Reached (types (fused_state state)) c run

  -- a run of the cluster, which left it so, answers these lines, the first first, with these bytes. Where disks are sound, each line
  -- that tells of one that failed stands behind a fuse of the script
  pub record Reached (sound : Type 0) (f : Framing) (spelled : ℕ → Step → List ℕ) (c : Standing D) (lines : List (List ℕ)) (bytes : List ℕ) : Type 0 where
    pub run : Run
    pub left : IsLeft c run
    pub answers : Answers is_built (reverse (map (asked_of f) lines)) run
    pub written : bytes ≡ written_lines spelled run
    pub fused : sound → AreFused run
    pub standing : sound → AreSoundIn (fused_state state) c

  abbrev pub HasOut : ℕ → Standing D → Type 0
  HasOut out c = HasOutOf (types (fused_state state)) out c
