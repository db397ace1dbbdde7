-- A run that is the only one: the script, and what disks tell, leave nothing free.
use Rattle.std.specs.Prelude.{◌≡◌, ℕ, List, map, reverse, Option}
use Rattle.world_model.specs.declared.step.Step.{Step}
use Rattle.world_model.specs.commands.Run.{Run}
use Rattle.world_model.specs.commands.ScriptAnswers.{Answers}
use Rattle.cluster.specs.Built.{is_built}
use Rattle.cluster.specs.History.{ShowsHistory}
use Rattle.one_run.specs.OneRun.{IsTold}
use Rattle.dc_engine.specs.declared.framing.Framing.{Framing}
use Rattle.dc_engine.specs.ObjectKinds.{kinds}
use Rattle.dc_engine.specs.Reading.{asked_of}

-- every run that answers these lines with a lawful history, and in which disks tell the same as in this one, is this one
abbrev pub IsOnly : Framing → List (List ℕ) → Run → Type 0
IsOnly f lines run = (tells : Run → Option Step) (other : Run) → Answers is_built (reverse (map (asked_of f) lines)) other → ShowsHistory kinds other → IsTold tells run → IsTold tells other → other ≡ run
