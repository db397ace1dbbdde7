use Rattle.log_recovery.proofs.Steps.{may_read}
use Rattle.log_recovery.proofs.recovery.Recovery.read.Goals as goal

pub read-requires : goal.read-requires
read-requires g c =
    let h = c.requires in
    may_read h.0 h.1 h.2 h.3 h.4 c.args.next c.args.self.now h.5 c.in_ok-see.field-0 c.in_ok-see.ensures.judges c.if-not-branch.false
