-- One script, one reply: the bytes are a function of the script and of what the disks tell.
use Rattle.std.specs.Prelude.{◌≡◌, ℕ, List, Option}
use Rattle.world_model.specs.declared.step.Step.{Step}
use Rattle.world_model.specs.commands.Run.{Run}
use Rattle.one_run.specs.OneRun.{IsCalm, IsTold}
use Rattle.dc_engine.specs.declared.framing.Framing.{Framing}
use Rattle.dc_engine.specs.Answered.{Answered}

-- two replies to the same lines are the same where disks tell the same in both
abbrev pub LawOneReply : Type 0
LawOneReply = (f : Framing) (spelled : ℕ → Step → List ℕ) (lines : List (List ℕ)) (one two : List ℕ) (a : Answered f spelled lines one) (b : Answered f spelled lines two) (tells : Run → Option Step) → IsTold tells a.run → IsTold tells b.run → one ≡ two

-- and so where no line of either tells of a disk
abbrev pub LawOneCalmReply : Type 0
LawOneCalmReply = (f : Framing) (spelled : ℕ → Step → List ℕ) (lines : List (List ℕ)) (one two : List ℕ) (a : Answered f spelled lines one) (b : Answered f spelled lines two) → IsCalm a.run → IsCalm b.run → one ≡ two
