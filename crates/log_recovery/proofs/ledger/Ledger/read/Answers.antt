use Rattle.std.proofs.Common.{sym, subst}
use Rattle.log_recovery.specs.Ledgers.{IsNext, Reads}
use Rattle.log_recovery.proofs.Choices.{on_ok}
use Rattle.log_recovery.proofs.Records.{lease_reads, prepare_reads, abort_reads, decide_reads, finish_reads, batch_reads}
use Rattle.log_recovery.proofs.ledger.Ledger.read.Goals as goal

pub returns-in-Lease-clause-read : goal.returns-in-Lease-clause-read
returns-in-Lease-clause-read g c = subst (λ r. Reads c.args.self.now r (record { ceiling = c.in-Lease.ceil; waiting = c.args.self.now.waiting; committed = c.args.self.now.committed; bounds = c.args.self.now.bounds; last_decided = c.args.self.now.last_decided })) (sym c.in-Lease.is) (lease_reads c.args.self.now c.in-Lease.ceil)

pub returns-in-Prepare-clause-read : goal.returns-in-Prepare-clause-read
returns-in-Prepare-clause-read g c = on_ok c.add.result _ _ (λ is. subst (λ r. Reads c.args.self.now r (record { ceiling = c.args.self.now.ceiling; waiting = c.add.new.self; committed = c.args.self.now.committed; bounds = c.args.self.now.bounds; last_decided = c.args.self.now.last_decided })) (sym c.in-Prepare.is)
    (prepare_reads c.args.self.now (record { tx = c.in-Prepare.tx; lead = c.in-Prepare.lead; time = c.in-Prepare.time; s = c.in-Prepare.s; updates = c.in-Prepare.updates }) c.add.new.self is)) c.add.ensures.ok

pub returns-in-Decide-clause-read : goal.returns-in-Decide-clause-read
returns-in-Decide-clause-read g c = on_ok c.commit.result _ _ (λ k. subst (λ r. Reads c.args.self.now r c.commit.new.self) (sym c.in-Decide.is) (decide_reads c.args.self.now c.commit.new.self c.in-Decide.tx c.in-Decide.c k c.commit.ensures.same)) c.commit.ensures.committed

pub returns-in-Finish-clause-read : goal.returns-in-Finish-clause-read
returns-in-Finish-clause-read g c = on_ok c.commit-in-Finish.result _ _ (λ k. subst (λ r. Reads c.args.self.now r c.commit-in-Finish.new.self) (sym c.in-Finish.is) (finish_reads c.args.self.now c.commit-in-Finish.new.self c.in-Finish.tx c.in-Finish.c k c.commit-in-Finish.ensures.same)) c.commit-in-Finish.ensures.committed

pub returns-in-Abort-clause-read : goal.returns-in-Abort-clause-read
returns-in-Abort-clause-read g c = subst (λ r. Reads c.args.self.now r c.abort.new.self) (sym c.in-Abort.is) (abort_reads c.args.self.now c.abort.new.self c.in-Abort.tx c.abort.ensures.aborted c.abort.ensures.committed c.abort.ensures.same)

pub returns-in-Batch-clause-read : goal.returns-in-Batch-clause-read
returns-in-Batch-clause-read g c = on_ok c.bring.result _ _ (λ is. subst (λ r. Reads c.args.self.now r c.bring.new.self) (sym c.in-Batch.is)
    (batch_reads c.args.self.now c.bring.new.self c.in-Batch.message (subst (λ r. IsNext c.args.self.now r) c.in-Batch.is c.requires) is c.bring.ensures.bounds c.bring.ensures.waiting c.bring.ensures.ceiling c.bring.ensures.last_decided)) c.bring.ensures.brought
