use Rattle.std.proofs.Common.{reverse}
use Rattle.log_recovery.proofs.Progress.{IsProgress}
use Rattle.log_recovery.proofs.recovery.read_all.Given as goal

abbrev pub invariant-loop-record : goal.invariant-loop-record
invariant-loop-record g l = IsProgress l.sites (reverse l.fn.records) l.record-iterator.rest.items l.ledger
