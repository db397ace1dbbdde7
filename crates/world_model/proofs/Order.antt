-- Each command meets its refusals in the order of their numbers.
use Rattle.std.proofs.Common.{◌≡◌, true, refl}
use Rattle.world_model.specs.declared.command.Command.{Command}
use Rattle.world_model.specs.declared.command.Command.TheVariants as command
use Rattle.world_model.specs.commands.Run.{Run}
use Rattle.world_model.specs.commands.Meeting.{meets}
use Rattle.world_model.specs.commands.Order.{numbers, is_sublist, refusal_order}

pub order : (run : Run) (c : Command) → is_sublist (numbers (meets run c)) refusal_order ≡ true
order run (command.Cluster sites parts) = refl
order run c = refl
