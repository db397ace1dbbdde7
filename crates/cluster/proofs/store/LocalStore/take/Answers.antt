use Rattle.std.proofs.Common.{◌≡◌, refl, None, subst}
use Rattle.std.specs.Prelude.{Ok, Err}
use Rattle.world_model.specs.declared.step.Step.TheVariants as step
use Rattle.world_model.specs.rules.Event as event
use Rattle.world_model.specs.rules.Event.{Event}
use Rattle.site_partitions.specs.Answers.{Any}
use Rattle.site_partitions.specs.Reaches.{types_of}
use Rattle.cluster.specs.Sees.{FailedAs}
use Rattle.cluster.proofs.Seeing.{calls_here, hands_on, hands_failed, failed_own, failed_keeps, called_same, fault_of, if_each, may_here}
use Rattle.cluster.proofs.FuelStore.{exact_tells, line_tells_call}
use Rattle.cluster.proofs.store.LocalStore.take.Goals as goal

pub take_at-requires : goal.take_at-requires
take_at-requires g c = (c.requires.may.0, may_here (types_of g.C.Crdt.laws g.C.Crdt.spells g.D.Disk.state) _ _ c.self.view_is c.args.pass None c.args.at (event.AskTake c.requires.may.0 c.args.message.now) c.requires.may.2)

pub returns-in-Ok-clause-ok : goal.returns-in-Ok-clause-ok
returns-in-Ok-clause-ok g c own n run s a =
    let types = types_of g.C.Crdt.laws g.C.Crdt.spells g.D.Disk.state in
    hands_on types c.args.self.now c.take_at.new.self Any c.args.at (event.AskTake own c.args.message.now) c.args.pass (event.Took own c.args.message.now) (calls_here types _ c.args.self.now c.take_at.new.self c.self.view_is Any c.args.at (event.AskTake own c.args.message.now) (λ (n : Unit {0}) (e : Event g.row.C-Effect.Denot). e ≡ event.Took own c.args.message.now) (Ok tt) (c.in-Ok.ensures own)) (step.Took own c.args.message.now.hi) (step.Took c.args.number c.args.message.now.hi) c.args.number refl (λ calls. refl) refl run s a.may tt

pub returns-in-Ok-clause-stays : goal.returns-in-Ok-clause-stays
returns-in-Ok-clause-stays g c =
    let types = types_of g.C.Crdt.laws g.C.Crdt.spells g.D.Disk.state in
    called_same types c.args.self.now c.take_at.new.self Any c.args.at (event.AskTake c.requires.may.0 c.args.message.now) c.args.pass None (λ (n : Unit {0}) (e : Event g.row.C-Effect.Denot). e ≡ event.Took c.requires.may.0 c.args.message.now) (Ok tt) (calls_here types _ c.args.self.now c.take_at.new.self c.self.view_is Any c.args.at (event.AskTake c.requires.may.0 c.args.message.now) (λ (n : Unit {0}) (e : Event g.row.C-Effect.Denot). e ≡ event.Took c.requires.may.0 c.args.message.now) (Ok tt) (c.in-Ok.ensures c.requires.may.0))

pub returns-in-Err-clause-ok : goal.returns-in-Err-clause-ok
returns-in-Err-clause-ok g c =
    let types = types_of g.C.Crdt.laws g.C.Crdt.spells g.D.Disk.state in
    if_each _ c.failed.result (λ line is own n run s a. hands_failed types c.args.self.now c.take_at.new.self Any c.args.at (event.AskTake own c.args.message.now) c.args.pass (Unit {0}) (λ (n : Unit {0}) (e : Event g.row.C-Effect.Denot). e ≡ event.Took own c.args.message.now) (step.Disk c.args.at) (λ n what k. fault_of c.args.at (step.Disk c.args.at) (event.Took own c.args.message.now) refl refl what k) c.in-Err.error line c.args.number refl (calls_here types _ c.args.self.now c.take_at.new.self c.self.view_is Any c.args.at (event.AskTake own c.args.message.now) (λ (n : Unit {0}) (e : Event g.row.C-Effect.Denot). e ≡ event.Took own c.args.message.now) (Err c.in-Err.error) (c.in-Err.ensures own)) (subst (λ r. FailedAs c.args.at (record { site = 0; part = 0; time = 0 }) c.args.number (step.Disk c.args.at) c.in-Err.error r) is c.failed.ensures) run s a.may tt)

pub returns-in-Err-clause-stays : goal.returns-in-Err-clause-stays
returns-in-Err-clause-stays g c =
    let types = types_of g.C.Crdt.laws g.C.Crdt.spells g.D.Disk.state in
    called_same types c.args.self.now c.take_at.new.self Any c.args.at (event.AskTake c.requires.may.0 c.args.message.now) c.args.pass None (λ (n : Unit {0}) (e : Event g.row.C-Effect.Denot). e ≡ event.Took c.requires.may.0 c.args.message.now) (Err c.in-Err.error) (calls_here types _ c.args.self.now c.take_at.new.self c.self.view_is Any c.args.at (event.AskTake c.requires.may.0 c.args.message.now) (λ (n : Unit {0}) (e : Event g.row.C-Effect.Denot). e ≡ event.Took c.requires.may.0 c.args.message.now) (Err c.in-Err.error) (c.in-Err.ensures c.requires.may.0))

pub returns-in-Err-clause-err : goal.returns-in-Err-clause-err
returns-in-Err-clause-err g c =
    let types = types_of g.C.Crdt.laws g.C.Crdt.spells g.D.Disk.state in
    failed_keeps types c.args.self.now c.take_at.new.self Any c.args.at (event.AskTake c.requires.may.0 c.args.message.now) c.args.pass (λ (n : Unit {0}) (e : Event g.row.C-Effect.Denot). e ≡ event.Took c.requires.may.0 c.args.message.now) (step.Disk c.args.at) c.in-Err.error c.failed.result (calls_here types _ c.args.self.now c.take_at.new.self c.self.view_is Any c.args.at (event.AskTake c.requires.may.0 c.args.message.now) (λ (n : Unit {0}) (e : Event g.row.C-Effect.Denot). e ≡ event.Took c.requires.may.0 c.args.message.now) (Err c.in-Err.error) (c.in-Err.ensures c.requires.may.0)) c.args.number c.failed.ensures

pub returns-in-Err-clause-tells : goal.returns-in-Err-clause-tells
returns-in-Err-clause-tells g c =
    let types = types_of g.C.Crdt.laws g.C.Crdt.spells g.D.Disk.state in
    if_each _ c.failed.result (λ line is.
    let x = failed_own (Unit {0}) c.args.at (record { site = 0; part = 0; time = 0 }) c.requires.may.0 c.args.number (step.Disk c.args.at) refl c.in-Err.error line (subst (λ r. FailedAs c.args.at (record { site = 0; part = 0; time = 0 }) c.args.number (step.Disk c.args.at) c.in-Err.error r) is c.failed.ensures) in
    (x.0, x.2, line_tells_call types c.args.self.now c.take_at.new.self Any c.args.at (event.AskTake c.requires.may.0 c.args.message.now) c.args.pass None (Unit {0}) (λ (n : Unit {0}) (e : Event g.row.C-Effect.Denot). e ≡ event.Took c.requires.may.0 c.args.message.now) (step.Disk c.args.at) (λ n what k. fault_of c.args.at (step.Disk c.args.at) (event.Took c.requires.may.0 c.args.message.now) refl refl what k) (λ r. (refl, r)) c.in-Err.error x.0 (calls_here types _ c.args.self.now c.take_at.new.self c.self.view_is Any c.args.at (event.AskTake c.requires.may.0 c.args.message.now) (λ (n : Unit {0}) (e : Event g.row.C-Effect.Denot). e ≡ event.Took c.requires.may.0 c.args.message.now) (Err c.in-Err.error) (c.in-Err.ensures c.requires.may.0)) x.1 c.requires.may.2.run (c.requires.may.2.seen, c.requires.may.2.allowed.may, tt)))

pub returns-in-Ok-clause-tells : goal.returns-in-Ok-clause-tells
returns-in-Ok-clause-tells g c =
    let types = types_of g.C.Crdt.laws g.C.Crdt.spells g.D.Disk.state in
    ((step.Took c.requires.may.0 c.args.message.now.hi), refl, exact_tells types c.args.self.now c.take_at.new.self Any c.args.at (event.AskTake c.requires.may.0 c.args.message.now) c.args.pass None (event.Took c.requires.may.0 c.args.message.now) (calls_here types _ c.args.self.now c.take_at.new.self c.self.view_is Any c.args.at (event.AskTake c.requires.may.0 c.args.message.now) (λ (n : Unit {0}) (e : Event g.row.C-Effect.Denot). e ≡ event.Took c.requires.may.0 c.args.message.now) (Ok tt) (c.in-Ok.ensures c.requires.may.0)) (step.Took c.requires.may.0 c.args.message.now.hi) c.requires.may.2.run (refl) tt (c.requires.may.2.seen, c.requires.may.2.allowed.may, tt))
