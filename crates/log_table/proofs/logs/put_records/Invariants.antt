use Rattle.gate_log.specs.Payloads.{AreWithin}
use Rattle.log_table.proofs.logs.put_records.Given as goal

abbrev pub invariant-loop-place : goal.invariant-loop-place
invariant-loop-place g l = AreWithin l.place-iterator
