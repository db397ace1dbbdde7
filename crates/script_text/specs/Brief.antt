-- Commands that keep no text.
use Rattle.world_model.specs.declared.command.Command.{Command}
use Rattle.world_model.specs.declared.command.Command.TheVariants as command
use Rattle.script_text.specs.declared.brief.Brief.{Brief}
use Rattle.script_text.specs.declared.brief.Brief.TheVariants as brief

abbrev pub command_of : Brief → Command
command_of (brief.Cluster sites parts) = command.Cluster sites parts
command_of (brief.Clock part t) = command.Clock part t
command_of (brief.Expire part tx) = command.Expire part tx
command_of (brief.Settle part) = command.Settle part
command_of (brief.Send part site from) = command.Send part site from
command_of (brief.Deliver number) = command.Deliver number
command_of (brief.DropMessage number) = command.DropMessage number
command_of (brief.DropReport number) = command.DropReport number
command_of (brief.Report part) = command.Report part
command_of (brief.Hear number part) = command.Hear number part
command_of (brief.Crash part) = command.Crash part
command_of (brief.Fuse part call keep) = command.Fuse part call keep
command_of (brief.Restart part) = command.Restart part
