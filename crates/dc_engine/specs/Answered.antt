-- What the program promises of the bytes that it writes, and of the disks that it gives back.
use Rattle.std.specs.Prelude.{◌≡◌, ℕ, List, map, reverse, IsTrue, false}
use Rattle.disk_core.specs.States.{DiskState}
use Rattle.disk_makers.specs.Makers.{Maker}
use Rattle.world_model.specs.declared.step.Step.{Step}
use Rattle.world_model.specs.commands.Cluster.{has_cluster}
use Rattle.world_model.specs.commands.Run.{Run, written_lines}
use Rattle.world_model.specs.commands.ScriptAnswers.{Answers}
use Rattle.cluster.specs.Built.{is_built}
use Rattle.cluster.specs.Fused.{AreFused}
use Rattle.cluster.specs.History.{ShowsHistory}
use Rattle.dc_engine.specs.declared.framing.Framing.{Framing}
use Rattle.dc_engine.specs.GivenBack.{GivenBack}
use Rattle.dc_engine.specs.ObjectKinds.{kinds}
use Rattle.dc_engine.specs.Only.{IsOnly}
use Rattle.dc_engine.specs.Reading.{asked_of}

-- these bytes are the lines of one run that answers these lines of a script, the first first. Each refusal in it that comes before
-- a partition is asked is due, and what partitions answered is one lawful history, by a run of the world of all sites and partitions.
-- No other such run has disks that tell the same. `spelled` says how a reply is written, by the number of the script's line
pub record Answered (f : Framing) (spelled : ℕ → Step → List ℕ) (lines : List (List ℕ)) (bytes : List ℕ) : Type 0 where
  pub run : Run
  pub answers : Answers is_built (reverse (map (asked_of f) lines)) run
  pub history : ShowsHistory kinds run
  pub only : IsOnly f lines run
  pub written : bytes ≡ written_lines spelled run

-- and where disks are sound, each line that tells of one that failed stands behind a fuse of the script
pub record AnsweredFused (sound : Type 0) (f : Framing) (spelled : ℕ → Step → List ℕ) (lines : List (List ℕ)) (bytes : List ℕ) : Type 0 where
  pub answered : Answered f spelled lines bytes
  pub fused : sound → AreFused answered.run

-- and no cluster stands then
pub record AnsweredBefore (sound : Type 0) (f : Framing) (spelled : ℕ → Step → List ℕ) (lines : List (List ℕ)) (bytes : List ℕ) : Type 0 where
  pub fully : AnsweredFused sound f spelled lines bytes
  pub lacks : has_cluster fully.answered.run ≡ false

-- and the disks of the cluster that stands at the end are given back, with the logs of that history, where their maker tells them
pub record AnsweredWhole {D : Type 0} (sound : Type 0) (f : Framing) (spelled : ℕ → Step → List ℕ) (state : D → DiskState) (old new : Maker D) (lines : List (List ℕ)) (bytes : List ℕ) : Type 0 where
  pub fully : AnsweredFused sound f spelled lines bytes
  pub given_back : IsTrue old.tells → GivenBack state fully.answered.run fully.answered.history.events old new
