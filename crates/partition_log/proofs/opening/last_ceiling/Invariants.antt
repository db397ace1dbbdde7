use Rattle.std.proofs.Common.{◌≡◌}
use Rattle.std.specs.Prelude.{map}
use Rattle.log_records.specs.Leases.{latest}
use Rattle.partition_log.proofs.opening.last_ceiling.Given as goal

abbrev pub invariant-loop-payload : goal.invariant-loop-payload
invariant-loop-payload l = latest l.ceiling (map (λ item. item.1) l.payload-iterator) ≡ latest 0 (map (λ item. item.1) l.fn.payloads)
