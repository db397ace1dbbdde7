use Rattle.std.proofs.Common.{◌≡◌, ◌+◌, drop}
use Rattle.partition_core.specs.Messages.{updates_in}
use Rattle.partition_core.proofs.stream.count_updates.Given as goal

abbrev pub invariant-loop-part : goal.invariant-loop-part
invariant-loop-part g l = l.all + updates_in (drop l.part-index l.parts) ≡ updates_in l.parts
