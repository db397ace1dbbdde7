use Rattle.std.proofs.Common.{◌≡◌, refl, Some}
use Rattle.std.specs.Prelude.{ℕ, Ok, Err}
use Rattle.world_model.specs.declared.step.Step.TheVariants as step
use Rattle.world_model.specs.rules.Event as event
use Rattle.world_model.specs.rules.Event.{led_by, Event}
use Rattle.site_partitions.specs.Answers.{Any}
use Rattle.site_partitions.specs.Reaches.{types_of}
use Rattle.cluster.proofs.Seeing.{calls_here, exact_on, failed_on, failed_stays, called_same, fault_of, number_is, may_here}
use Rattle.cluster.proofs.FuelStore.{exact_tells, failed_tells_call}
use Rattle.cluster.proofs.store.LocalStore.prepare.Goals as goal

pub prepare_at-requires : goal.prepare_at-requires
prepare_at-requires g c = may_here (types_of g.C.Crdt.laws g.C.Crdt.spells g.D.Disk.state) _ _ c.self.view_is c.args.pass (Some c.args.by) c.args.at (event.AskPrepare c.args.tx c.args.s.now (led_by c.args.lead) c.args.updates.now) c.requires.may

pub returns-in-Ok-clause-ok : goal.returns-in-Ok-clause-ok
returns-in-Ok-clause-ok g c run s a =
    let types = types_of g.C.Crdt.laws g.C.Crdt.spells g.D.Disk.state in
    exact_on types c.args.self.now c.prepare_at.new.self Any c.args.at (event.AskPrepare c.args.tx c.args.s.now (led_by c.args.lead) c.args.updates.now) c.args.pass (Some c.args.by) (event.Prepared c.args.tx c.args.s.now (led_by c.args.lead) c.args.updates.now c.in-Ok.time) (calls_here types _ c.args.self.now c.prepare_at.new.self c.self.view_is Any c.args.at (event.AskPrepare c.args.tx c.args.s.now (led_by c.args.lead) c.args.updates.now) (λ (n : ℕ) (e : Event g.row.C-Effect.Denot). e ≡ event.Prepared c.args.tx c.args.s.now (led_by c.args.lead) c.args.updates.now n) (Ok c.in-Ok.time) (c.in-Ok.ensures)) (step.Prepared c.args.at c.args.tx c.in-Ok.time) (λ calls. refl) refl run s a.may tt (number_is run c.args.tx c.args.by s.one_caller a.mine)

pub returns-in-Ok-clause-stays : goal.returns-in-Ok-clause-stays
returns-in-Ok-clause-stays g c =
    let types = types_of g.C.Crdt.laws g.C.Crdt.spells g.D.Disk.state in
    called_same types c.args.self.now c.prepare_at.new.self Any c.args.at (event.AskPrepare c.args.tx c.args.s.now (led_by c.args.lead) c.args.updates.now) c.args.pass (Some c.args.by) (λ (n : ℕ) (e : Event g.row.C-Effect.Denot). e ≡ event.Prepared c.args.tx c.args.s.now (led_by c.args.lead) c.args.updates.now n) (Ok c.in-Ok.time) (calls_here types _ c.args.self.now c.prepare_at.new.self c.self.view_is Any c.args.at (event.AskPrepare c.args.tx c.args.s.now (led_by c.args.lead) c.args.updates.now) (λ (n : ℕ) (e : Event g.row.C-Effect.Denot). e ≡ event.Prepared c.args.tx c.args.s.now (led_by c.args.lead) c.args.updates.now n) (Ok c.in-Ok.time) (c.in-Ok.ensures))

pub returns-in-Err-clause-ok : goal.returns-in-Err-clause-ok
returns-in-Err-clause-ok g c =
    let types = types_of g.C.Crdt.laws g.C.Crdt.spells g.D.Disk.state in
    failed_on types c.args.self.now c.prepare_at.new.self Any c.args.at (event.AskPrepare c.args.tx c.args.s.now (led_by c.args.lead) c.args.updates.now) c.args.pass (Some c.args.by) (λ (n : ℕ) (e : Event g.row.C-Effect.Denot). e ≡ event.Prepared c.args.tx c.args.s.now (led_by c.args.lead) c.args.updates.now n) (step.Disk c.args.at) (λ n what k. fault_of c.args.at (step.Disk c.args.at) (event.Prepared c.args.tx c.args.s.now (led_by c.args.lead) c.args.updates.now n) refl refl what k) c.in-Err.error c.failed.result (calls_here types _ c.args.self.now c.prepare_at.new.self c.self.view_is Any c.args.at (event.AskPrepare c.args.tx c.args.s.now (led_by c.args.lead) c.args.updates.now) (λ (n : ℕ) (e : Event g.row.C-Effect.Denot). e ≡ event.Prepared c.args.tx c.args.s.now (led_by c.args.lead) c.args.updates.now n) (Err c.in-Err.error) (c.in-Err.ensures)) c.failed.ensures _
    (λ line q run s a. q run s a.may tt (number_is run c.args.tx c.args.by s.one_caller a.mine))

pub returns-in-Err-clause-stays : goal.returns-in-Err-clause-stays
returns-in-Err-clause-stays g c =
    let types = types_of g.C.Crdt.laws g.C.Crdt.spells g.D.Disk.state in
    called_same types c.args.self.now c.prepare_at.new.self Any c.args.at (event.AskPrepare c.args.tx c.args.s.now (led_by c.args.lead) c.args.updates.now) c.args.pass (Some c.args.by) (λ (n : ℕ) (e : Event g.row.C-Effect.Denot). e ≡ event.Prepared c.args.tx c.args.s.now (led_by c.args.lead) c.args.updates.now n) (Err c.in-Err.error) (calls_here types _ c.args.self.now c.prepare_at.new.self c.self.view_is Any c.args.at (event.AskPrepare c.args.tx c.args.s.now (led_by c.args.lead) c.args.updates.now) (λ (n : ℕ) (e : Event g.row.C-Effect.Denot). e ≡ event.Prepared c.args.tx c.args.s.now (led_by c.args.lead) c.args.updates.now n) (Err c.in-Err.error) (c.in-Err.ensures))

pub returns-in-Err-clause-err : goal.returns-in-Err-clause-err
returns-in-Err-clause-err g c =
    let types = types_of g.C.Crdt.laws g.C.Crdt.spells g.D.Disk.state in
    failed_stays types c.args.self.now c.prepare_at.new.self Any c.args.at (event.AskPrepare c.args.tx c.args.s.now (led_by c.args.lead) c.args.updates.now) c.args.pass (Some c.args.by) (λ (n : ℕ) (e : Event g.row.C-Effect.Denot). e ≡ event.Prepared c.args.tx c.args.s.now (led_by c.args.lead) c.args.updates.now n) (step.Disk c.args.at) c.in-Err.error c.failed.result (calls_here types _ c.args.self.now c.prepare_at.new.self c.self.view_is Any c.args.at (event.AskPrepare c.args.tx c.args.s.now (led_by c.args.lead) c.args.updates.now) (λ (n : ℕ) (e : Event g.row.C-Effect.Denot). e ≡ event.Prepared c.args.tx c.args.s.now (led_by c.args.lead) c.args.updates.now n) (Err c.in-Err.error) (c.in-Err.ensures)) c.failed.ensures

pub returns-in-Err-clause-tells : goal.returns-in-Err-clause-tells
returns-in-Err-clause-tells g c =
    let types = types_of g.C.Crdt.laws g.C.Crdt.spells g.D.Disk.state in
    failed_tells_call types c.args.self.now c.prepare_at.new.self Any c.args.at (event.AskPrepare c.args.tx c.args.s.now (led_by c.args.lead) c.args.updates.now) c.args.pass (Some c.args.by) (λ (n : ℕ) (e : Event g.row.C-Effect.Denot). e ≡ event.Prepared c.args.tx c.args.s.now (led_by c.args.lead) c.args.updates.now n) (step.Disk c.args.at) (λ n what k. fault_of c.args.at (step.Disk c.args.at) (event.Prepared c.args.tx c.args.s.now (led_by c.args.lead) c.args.updates.now n) refl refl what k) (λ r. (refl, r)) c.in-Err.error c.failed.result (calls_here types _ c.args.self.now c.prepare_at.new.self c.self.view_is Any c.args.at (event.AskPrepare c.args.tx c.args.s.now (led_by c.args.lead) c.args.updates.now) (λ (n : ℕ) (e : Event g.row.C-Effect.Denot). e ≡ event.Prepared c.args.tx c.args.s.now (led_by c.args.lead) c.args.updates.now n) (Err c.in-Err.error) (c.in-Err.ensures)) c.failed.ensures _
    (λ line q. q c.requires.may.run (c.requires.may.seen, c.requires.may.allowed.may, tt))

pub returns-in-Ok-clause-tells : goal.returns-in-Ok-clause-tells
returns-in-Ok-clause-tells g c =
    let types = types_of g.C.Crdt.laws g.C.Crdt.spells g.D.Disk.state in
    exact_tells types c.args.self.now c.prepare_at.new.self Any c.args.at (event.AskPrepare c.args.tx c.args.s.now (led_by c.args.lead) c.args.updates.now) c.args.pass (Some c.args.by) (event.Prepared c.args.tx c.args.s.now (led_by c.args.lead) c.args.updates.now c.in-Ok.time) (calls_here types _ c.args.self.now c.prepare_at.new.self c.self.view_is Any c.args.at (event.AskPrepare c.args.tx c.args.s.now (led_by c.args.lead) c.args.updates.now) (λ (n : ℕ) (e : Event g.row.C-Effect.Denot). e ≡ event.Prepared c.args.tx c.args.s.now (led_by c.args.lead) c.args.updates.now n) (Ok c.in-Ok.time) (c.in-Ok.ensures)) (step.Prepared c.args.at c.args.tx c.in-Ok.time) c.requires.may.run (refl) tt (c.requires.may.seen, c.requires.may.allowed.may, tt)
