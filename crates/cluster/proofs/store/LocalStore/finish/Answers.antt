use Rattle.std.proofs.Common.{◌≡◌, refl, None}
use Rattle.std.specs.Prelude.{Ok, Err}
use Rattle.world_model.specs.declared.step.Step.TheVariants as step
use Rattle.world_model.specs.rules.Event as event
use Rattle.world_model.specs.rules.Event.{Event}
use Rattle.site_partitions.specs.Answers.{Any}
use Rattle.site_partitions.specs.Reaches.{types_of}
use Rattle.cluster.proofs.Seeing.{calls_here, exact_on, failed_on, failed_stays, called_same, fault_of, may_here}
use Rattle.cluster.proofs.FuelStore.{exact_tells, failed_tells_call}
use Rattle.cluster.proofs.store.LocalStore.finish.Goals as goal

pub finish_at-requires : goal.finish_at-requires
finish_at-requires g c = may_here (types_of g.C.Crdt.laws g.C.Crdt.spells g.D.Disk.state) _ _ c.self.view_is c.args.pass None c.args.at (event.AskFinish c.args.tx c.args.c.now) c.requires.may

pub returns-in-Ok-clause-ok : goal.returns-in-Ok-clause-ok
returns-in-Ok-clause-ok g c run s a =
    let types = types_of g.C.Crdt.laws g.C.Crdt.spells g.D.Disk.state in
    exact_on types c.args.self.now c.finish_at.new.self Any c.args.at (event.AskFinish c.args.tx c.args.c.now) c.args.pass None (event.Finished c.args.tx c.args.c.now) (calls_here types _ c.args.self.now c.finish_at.new.self c.self.view_is Any c.args.at (event.AskFinish c.args.tx c.args.c.now) (λ (n : Unit {0}) (e : Event g.row.C-Effect.Denot). e ≡ event.Finished c.args.tx c.args.c.now) (Ok tt) (c.in-Ok.ensures.answers)) (step.Finished c.args.at c.args.tx) (λ calls. refl) refl run s a.may tt tt

pub returns-in-Ok-clause-stays : goal.returns-in-Ok-clause-stays
returns-in-Ok-clause-stays g c =
    let types = types_of g.C.Crdt.laws g.C.Crdt.spells g.D.Disk.state in
    called_same types c.args.self.now c.finish_at.new.self Any c.args.at (event.AskFinish c.args.tx c.args.c.now) c.args.pass None (λ (n : Unit {0}) (e : Event g.row.C-Effect.Denot). e ≡ event.Finished c.args.tx c.args.c.now) (Ok tt) (calls_here types _ c.args.self.now c.finish_at.new.self c.self.view_is Any c.args.at (event.AskFinish c.args.tx c.args.c.now) (λ (n : Unit {0}) (e : Event g.row.C-Effect.Denot). e ≡ event.Finished c.args.tx c.args.c.now) (Ok tt) (c.in-Ok.ensures.answers))

pub returns-in-Err-clause-ok : goal.returns-in-Err-clause-ok
returns-in-Err-clause-ok g c =
    let types = types_of g.C.Crdt.laws g.C.Crdt.spells g.D.Disk.state in
    failed_on types c.args.self.now c.finish_at.new.self Any c.args.at (event.AskFinish c.args.tx c.args.c.now) c.args.pass None (λ (n : Unit {0}) (e : Event g.row.C-Effect.Denot). e ≡ event.Finished c.args.tx c.args.c.now) (step.Disk c.args.at) (λ n what k. fault_of c.args.at (step.Disk c.args.at) (event.Finished c.args.tx c.args.c.now) refl refl what k) c.in-Err.error c.failed.result (calls_here types _ c.args.self.now c.finish_at.new.self c.self.view_is Any c.args.at (event.AskFinish c.args.tx c.args.c.now) (λ (n : Unit {0}) (e : Event g.row.C-Effect.Denot). e ≡ event.Finished c.args.tx c.args.c.now) (Err c.in-Err.error) (c.in-Err.ensures.answers)) c.failed.ensures _
    (λ line q run s a. q run s a.may tt tt)

pub returns-in-Err-clause-stays : goal.returns-in-Err-clause-stays
returns-in-Err-clause-stays g c =
    let types = types_of g.C.Crdt.laws g.C.Crdt.spells g.D.Disk.state in
    called_same types c.args.self.now c.finish_at.new.self Any c.args.at (event.AskFinish c.args.tx c.args.c.now) c.args.pass None (λ (n : Unit {0}) (e : Event g.row.C-Effect.Denot). e ≡ event.Finished c.args.tx c.args.c.now) (Err c.in-Err.error) (calls_here types _ c.args.self.now c.finish_at.new.self c.self.view_is Any c.args.at (event.AskFinish c.args.tx c.args.c.now) (λ (n : Unit {0}) (e : Event g.row.C-Effect.Denot). e ≡ event.Finished c.args.tx c.args.c.now) (Err c.in-Err.error) (c.in-Err.ensures.answers))

pub returns-in-Err-clause-err : goal.returns-in-Err-clause-err
returns-in-Err-clause-err g c =
    let types = types_of g.C.Crdt.laws g.C.Crdt.spells g.D.Disk.state in
    failed_stays types c.args.self.now c.finish_at.new.self Any c.args.at (event.AskFinish c.args.tx c.args.c.now) c.args.pass None (λ (n : Unit {0}) (e : Event g.row.C-Effect.Denot). e ≡ event.Finished c.args.tx c.args.c.now) (step.Disk c.args.at) c.in-Err.error c.failed.result (calls_here types _ c.args.self.now c.finish_at.new.self c.self.view_is Any c.args.at (event.AskFinish c.args.tx c.args.c.now) (λ (n : Unit {0}) (e : Event g.row.C-Effect.Denot). e ≡ event.Finished c.args.tx c.args.c.now) (Err c.in-Err.error) (c.in-Err.ensures.answers)) c.failed.ensures

pub returns-in-Err-clause-tells : goal.returns-in-Err-clause-tells
returns-in-Err-clause-tells g c =
    let types = types_of g.C.Crdt.laws g.C.Crdt.spells g.D.Disk.state in
    failed_tells_call types c.args.self.now c.finish_at.new.self Any c.args.at (event.AskFinish c.args.tx c.args.c.now) c.args.pass None (λ (n : Unit {0}) (e : Event g.row.C-Effect.Denot). e ≡ event.Finished c.args.tx c.args.c.now) (step.Disk c.args.at) (λ n what k. fault_of c.args.at (step.Disk c.args.at) (event.Finished c.args.tx c.args.c.now) refl refl what k) (λ r. (refl, r)) c.in-Err.error c.failed.result (calls_here types _ c.args.self.now c.finish_at.new.self c.self.view_is Any c.args.at (event.AskFinish c.args.tx c.args.c.now) (λ (n : Unit {0}) (e : Event g.row.C-Effect.Denot). e ≡ event.Finished c.args.tx c.args.c.now) (Err c.in-Err.error) (c.in-Err.ensures.answers)) c.failed.ensures _
    (λ line q. q c.requires.may.run (c.requires.may.seen, c.requires.may.allowed.may, tt))

pub returns-in-Ok-clause-tells : goal.returns-in-Ok-clause-tells
returns-in-Ok-clause-tells g c =
    let types = types_of g.C.Crdt.laws g.C.Crdt.spells g.D.Disk.state in
    exact_tells types c.args.self.now c.finish_at.new.self Any c.args.at (event.AskFinish c.args.tx c.args.c.now) c.args.pass None (event.Finished c.args.tx c.args.c.now) (calls_here types _ c.args.self.now c.finish_at.new.self c.self.view_is Any c.args.at (event.AskFinish c.args.tx c.args.c.now) (λ (n : Unit {0}) (e : Event g.row.C-Effect.Denot). e ≡ event.Finished c.args.tx c.args.c.now) (Ok tt) (c.in-Ok.ensures.answers)) (step.Finished c.args.at c.args.tx) c.requires.may.run (refl) tt (c.requires.may.seen, c.requires.may.allowed.may, tt)
