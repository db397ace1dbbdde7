use Rattle.std.proofs.Common.{◌≤◌, ◌-◌}
use Rattle.twin_log.specs.Found.{HasItems}
use Rattle.twin_log.proofs.scan.items_end.Given as goal

abbrev pub invariant-loop-done : goal.invariant-loop-done
invariant-loop-done l = record { read : HasItems l.bytes l.from l.done l.at; few : l.done ≤ l.count }

abbrev pub decreases-loop-done : goal.decreases-loop-done
decreases-loop-done l = l.count - l.done
