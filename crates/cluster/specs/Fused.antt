-- Over sound disks, one that fails does so by a fuse of the script.
use Rattle.std.specs.Prelude.{◌≡◌, ◌≢◌, ℕ, List, [], ◌∷◌, Option, None, Some, ⊤}
use Rattle.disk_core.specs.States.{DiskState}
use Rattle.world_model.specs.declared.command.Command.{Command}
use Rattle.world_model.specs.declared.step.Step.{Step}
use Rattle.world_model.specs.declared.step.Step.TheVariants as step
use Rattle.world_model.specs.commands.Answers.{answered}
use Rattle.world_model.specs.commands.Cluster.{parts_of}
use Rattle.world_model.specs.commands.Fuses.{fuse}
use Rattle.world_model.specs.commands.Run.{Run}
use Rattle.world_model.specs.commands.ScriptCalls.{calls_of}
use Rattle.world_model.specs.lines.Updates.{lead}
use Rattle.site_partitions.specs.Sound.{AreSound}
use Rattle.cluster.specs.Post.{WholeState}

-- Where the line tells that a disk failed, a fuse of the script was in force there after this run: of a decide in doubt, at the lead.
abbrev pub NeedsFuse : Run → Step → Type 0
NeedsFuse run (step.Disk p) = fuse (calls_of run) run p ≢ None
NeedsFuse run (step.Unsure t) = fuse (calls_of run) run (lead (parts_of run) (calls_of run) t) ≢ None
NeedsFuse run other = ⊤

-- each line of the run does so
abbrev pub AreFused : Run → Type 0
AreFused [] = ⊤
AreFused (l ∷ run) = NeedsFuse run l.step × AreFused run

-- each disk of the cluster, if one is made, fails only where it finds no memory to grow, or by a fuse
abbrev pub AreSoundIn : {E D : Type 0} → (D → DiskState) → Option (WholeState E D) → Type 0
AreSoundIn state None = ⊤
AreSoundIn state (Some w) = AreSound state w.live.sites

-- the lines that answer a command after this run do so, where those of the run did
abbrev pub StaysFused : ℕ → Command → List Step → Run → Type 0
StaysFused number c steps run = AreFused run → AreFused (answered number (Some c) steps run)
