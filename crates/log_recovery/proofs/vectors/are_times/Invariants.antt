use Rattle.std.proofs.Common.{◌≡◌, drop, leb}
use Rattle.std.specs.List.{list_all}
use Rattle.crdt_core.specs.Log.{end_of_time}
use Rattle.log_recovery.proofs.vectors.are_times.Given as goal

abbrev pub invariant-loop-time : goal.invariant-loop-time
invariant-loop-time l = list_all (λ n. leb n end_of_time) l.times ≡ list_all (λ n. leb n end_of_time) (drop l.time-index l.times)
