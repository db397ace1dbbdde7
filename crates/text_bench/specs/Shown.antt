-- Which step answers a command: of the command's reply, and with the words that the command names.
use Rattle.std.specs.Prelude.{◌≡◌, ℕ, List, Option}
use Rattle.site_vector.specs.declared.ids.TxId.{TxId}
use Rattle.crdt_core.specs.declared.value.Value.{Value}
use Rattle.world_model.specs.declared.command.Command.{Command}
use Rattle.world_model.specs.declared.command.Command.TheVariants as command
use Rattle.world_model.specs.declared.step.Step.{Step}
use Rattle.world_model.specs.declared.step.Step.TheVariants as step

abbrev pub Shows : Command → Step → Type 0
Shows (command.Cluster sites parts) st = st ≡ step.MadeCluster sites parts
Shows (command.Clock part n) st = st ≡ step.Ticked part n
Shows (command.Session name site) st = st ≡ step.MadeSession name site
Shows (command.Move name site) st = st ≡ step.Moved name site
Shows (command.Lose name) st = st ≡ step.Lost name
Shows (command.Begin name part mode) st = (tx : TxId) × (s : List ℕ) × (st ≡ step.Began name tx s)
Shows (command.Read name object) st = (value : Value) × (st ≡ step.Value name object value)
Shows (command.Update name object op) st = (stamp : Option ℕ) × (st ≡ step.Updated name object stamp)
Shows (command.Commit name steps) st = st ≡ step.Ended name
Shows (command.Abort name) st = st ≡ step.Ended name
Shows (command.Expire part tx) st = st ≡ step.Aborted part tx
Shows (command.Settle part) st = st ≡ step.Settled part
Shows (command.Send part site from) st = (number lo hi count : ℕ) × (st ≡ step.Sent number part site lo hi count)
Shows (command.Deliver number) st = (hi : ℕ) × (st ≡ step.Took number hi)
Shows (command.DropMessage number) st = st ≡ step.DroppedMessage number
Shows (command.DropReport number) st = st ≡ step.DroppedReport number
Shows (command.Report part) st = (number : ℕ) × (bounds : List ℕ) × (st ≡ step.Reported number part bounds)
Shows (command.Hear number part) st = (stable : List ℕ) × (st ≡ step.Heard number part stable)
Shows (command.Crash part) st = st ≡ step.Crashed part
Shows (command.Fuse part call keep) st = st ≡ step.Fused part call keep
Shows (command.Restart part) st = (now : ℕ) × (bounds : List ℕ) × (decided : Option TxId) × (pending : List (TxId × ℕ)) × (st ≡ step.Restarted part now bounds decided pending)
