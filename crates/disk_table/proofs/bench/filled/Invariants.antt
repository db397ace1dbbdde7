use Rattle.disk_core.specs.MemDisks.{mem_state}
use Rattle.gate_log.specs.Logs.{IsReady}
use Rattle.disk_table.proofs.bench.filled.Given as goal

abbrev pub invariant-loop-record : goal.invariant-loop-record
invariant-loop-record l = IsReady mem_state l.log
