use Rattle.std.proofs.Common.{◌≡◌, refl, ap, Some, None}
use Rattle.std.specs.Prelude.{ℕ, List, Ok, Err}
use Rattle.site_vector.specs.declared.ids.TxId.{TxId}
use Rattle.world_model.specs.declared.step.Step.TheVariants as step
use Rattle.world_model.specs.lines.Lines.{wish_of}
use Rattle.world_model.specs.rules.Event as event
use Rattle.world_model.specs.rules.Event.{Event}
use Rattle.site_partitions.specs.Answers.{Any}
use Rattle.site_partitions.specs.Reaches.{types_of}
use Rattle.cluster.proofs.Seeing.{calls_here, exact_on, called_same, failed_line, error_stays, fault_of, may_here}
use Rattle.cluster.proofs.FuelStore.{exact_tells, line_tells_call}
use Rattle.cluster.proofs.store.LocalStore.begin.Goals as goal

pub begin_at-requires : goal.begin_at-requires
begin_at-requires g c = (c.args.who.now, may_here (types_of g.C.Crdt.laws g.C.Crdt.spells g.D.Disk.state) _ _ c.self.view_is c.args.pass None c.args.at (event.AskBegin c.args.who.now (wish_of c.args.dep.now c.args.mode)) c.requires.may)

pub returns-in-Ok-begin_at-clause-stays : goal.returns-in-Ok-begin_at-clause-stays
returns-in-Ok-begin_at-clause-stays g c =
    let types = types_of g.C.Crdt.laws g.C.Crdt.spells g.D.Disk.state in
    called_same types c.args.self.now c.begin_at.new.self Any c.args.at (event.AskBegin c.args.who.now (wish_of c.args.dep.now c.args.mode)) c.args.pass None (λ (x : TxId × List ℕ) (e : Event g.row.C-Effect.Denot). e ≡ event.Began c.args.who.now (wish_of c.args.dep.now c.args.mode) x.0 x.1) (Ok c.in-Ok-begin_at.begun) (calls_here types _ c.args.self.now c.begin_at.new.self c.self.view_is Any c.args.at (event.AskBegin c.args.who.now (wish_of c.args.dep.now c.args.mode)) (λ (x : TxId × List ℕ) (e : Event g.row.C-Effect.Denot). e ≡ event.Began c.args.who.now (wish_of c.args.dep.now c.args.mode) x.0 x.1) (Ok c.in-Ok-begin_at.begun) (c.in-Ok-begin_at.ensures.answers c.args.who.now))

pub returns-in-Ok-begin_at-clause-ok : goal.returns-in-Ok-begin_at-clause-ok
returns-in-Ok-begin_at-clause-ok g c run s a =
    let types = types_of g.C.Crdt.laws g.C.Crdt.spells g.D.Disk.state in
    exact_on types c.args.self.now c.begin_at.new.self Any c.args.at (event.AskBegin c.args.who.now (wish_of c.args.dep.now c.args.mode)) c.args.pass (Some 0) (event.Began c.args.who.now (wish_of c.args.dep.now c.args.mode) c.in-Ok-begin_at.begun.0 c.in-Ok-begin_at.begun.1) (calls_here types _ c.args.self.now c.begin_at.new.self c.self.view_is Any c.args.at (event.AskBegin c.args.who.now (wish_of c.args.dep.now c.args.mode)) (λ (x : TxId × List ℕ) (e : Event g.row.C-Effect.Denot). e ≡ event.Began c.args.who.now (wish_of c.args.dep.now c.args.mode) x.0 x.1) (Ok c.in-Ok-begin_at.begun) (c.in-Ok-begin_at.ensures.answers c.args.who.now)) _ (λ calls. ap (λ n. step.Began n c.in-Ok-begin_at.begun.0 c.in-Ok-begin_at.begun.1) c.in-Ok.ensures) refl run s a.may tt refl

pub returns-in-Ok-failed-clause-stays : goal.returns-in-Ok-failed-clause-stays
returns-in-Ok-failed-clause-stays g c =
    let types = types_of g.C.Crdt.laws g.C.Crdt.spells g.D.Disk.state in
    called_same types c.args.self.now c.begin_at.new.self Any c.args.at (event.AskBegin c.args.who.now (wish_of c.args.dep.now c.args.mode)) c.args.pass None (λ (x : TxId × List ℕ) (e : Event g.row.C-Effect.Denot). e ≡ event.Began c.args.who.now (wish_of c.args.dep.now c.args.mode) x.0 x.1) (Err c.in-Err-begin_at.error) (calls_here types _ c.args.self.now c.begin_at.new.self c.self.view_is Any c.args.at (event.AskBegin c.args.who.now (wish_of c.args.dep.now c.args.mode)) (λ (x : TxId × List ℕ) (e : Event g.row.C-Effect.Denot). e ≡ event.Began c.args.who.now (wish_of c.args.dep.now c.args.mode) x.0 x.1) (Err c.in-Err-begin_at.error) (c.in-Err-begin_at.ensures.answers c.args.who.now))

pub returns-in-Ok-failed-clause-ok : goal.returns-in-Ok-failed-clause-ok
returns-in-Ok-failed-clause-ok g c run s a =
    let types = types_of g.C.Crdt.laws g.C.Crdt.spells g.D.Disk.state in
    failed_line types c.args.self.now c.begin_at.new.self Any c.args.at (event.AskBegin c.args.who.now (wish_of c.args.dep.now c.args.mode)) c.args.pass (Some 0) (Unit {0}) (λ (x : TxId × List ℕ) (e : Event g.row.C-Effect.Denot). e ≡ event.Began c.args.who.now (wish_of c.args.dep.now c.args.mode) x.0 x.1) (step.Disk c.args.at) (λ x what k. fault_of c.args.at (step.Disk c.args.at) (event.Began c.args.who.now (wish_of c.args.dep.now c.args.mode) x.0 x.1) refl refl what k) c.in-Err-begin_at.error _ (calls_here types _ c.args.self.now c.begin_at.new.self c.self.view_is Any c.args.at (event.AskBegin c.args.who.now (wish_of c.args.dep.now c.args.mode)) (λ (x : TxId × List ℕ) (e : Event g.row.C-Effect.Denot). e ≡ event.Began c.args.who.now (wish_of c.args.dep.now c.args.mode) x.0 x.1) (Err c.in-Err-begin_at.error) (c.in-Err-begin_at.ensures.answers c.args.who.now)) c.in-Ok-failed.ensures run s a.may tt refl

pub returns-in-Ok-failed-clause-tells : goal.returns-in-Ok-failed-clause-tells
returns-in-Ok-failed-clause-tells g c =
    let types = types_of g.C.Crdt.laws g.C.Crdt.spells g.D.Disk.state in
    line_tells_call types c.args.self.now c.begin_at.new.self Any c.args.at (event.AskBegin c.args.who.now (wish_of c.args.dep.now c.args.mode)) c.args.pass None (Unit {0}) (λ (x : TxId × List ℕ) (e : Event g.row.C-Effect.Denot). e ≡ event.Began c.args.who.now (wish_of c.args.dep.now c.args.mode) x.0 x.1) (step.Disk c.args.at) (λ x what k. fault_of c.args.at (step.Disk c.args.at) (event.Began c.args.who.now (wish_of c.args.dep.now c.args.mode) x.0 x.1) refl refl what k) (λ r. (refl, r)) c.in-Err-begin_at.error _ (calls_here types _ c.args.self.now c.begin_at.new.self c.self.view_is Any c.args.at (event.AskBegin c.args.who.now (wish_of c.args.dep.now c.args.mode)) (λ (x : TxId × List ℕ) (e : Event g.row.C-Effect.Denot). e ≡ event.Began c.args.who.now (wish_of c.args.dep.now c.args.mode) x.0 x.1) (Err c.in-Err-begin_at.error) (c.in-Err-begin_at.ensures.answers c.args.who.now)) c.in-Ok-failed.ensures c.requires.may.run (c.requires.may.seen, c.requires.may.allowed.may, tt)

pub returns-in-Err-failed-clause-stays : goal.returns-in-Err-failed-clause-stays
returns-in-Err-failed-clause-stays g c =
    let types = types_of g.C.Crdt.laws g.C.Crdt.spells g.D.Disk.state in
    called_same types c.args.self.now c.begin_at.new.self Any c.args.at (event.AskBegin c.args.who.now (wish_of c.args.dep.now c.args.mode)) c.args.pass None (λ (x : TxId × List ℕ) (e : Event g.row.C-Effect.Denot). e ≡ event.Began c.args.who.now (wish_of c.args.dep.now c.args.mode) x.0 x.1) (Err c.in-Err-begin_at.error) (calls_here types _ c.args.self.now c.begin_at.new.self c.self.view_is Any c.args.at (event.AskBegin c.args.who.now (wish_of c.args.dep.now c.args.mode)) (λ (x : TxId × List ℕ) (e : Event g.row.C-Effect.Denot). e ≡ event.Began c.args.who.now (wish_of c.args.dep.now c.args.mode) x.0 x.1) (Err c.in-Err-begin_at.error) (c.in-Err-begin_at.ensures.answers c.args.who.now))

pub returns-in-Err-failed-clause-err : goal.returns-in-Err-failed-clause-err
returns-in-Err-failed-clause-err g c =
    let types = types_of g.C.Crdt.laws g.C.Crdt.spells g.D.Disk.state in
    error_stays types c.args.self.now c.begin_at.new.self Any c.args.at (event.AskBegin c.args.who.now (wish_of c.args.dep.now c.args.mode)) c.args.pass None _ (λ (x : TxId × List ℕ) (e : Event g.row.C-Effect.Denot). e ≡ event.Began c.args.who.now (wish_of c.args.dep.now c.args.mode) x.0 x.1) (step.Disk c.args.at) c.in-Err-begin_at.error _ (calls_here types _ c.args.self.now c.begin_at.new.self c.self.view_is Any c.args.at (event.AskBegin c.args.who.now (wish_of c.args.dep.now c.args.mode)) (λ (x : TxId × List ℕ) (e : Event g.row.C-Effect.Denot). e ≡ event.Began c.args.who.now (wish_of c.args.dep.now c.args.mode) x.0 x.1) (Err c.in-Err-begin_at.error) (c.in-Err-begin_at.ensures.answers c.args.who.now)) c.in-Err-failed.ensures

pub returns-in-Ok-begin_at-clause-tells : goal.returns-in-Ok-begin_at-clause-tells
returns-in-Ok-begin_at-clause-tells g c =
    let types = types_of g.C.Crdt.laws g.C.Crdt.spells g.D.Disk.state in
    exact_tells types c.args.self.now c.begin_at.new.self Any c.args.at (event.AskBegin c.args.who.now (wish_of c.args.dep.now c.args.mode)) c.args.pass (Some 0) (event.Began c.args.who.now (wish_of c.args.dep.now c.args.mode) c.in-Ok-begin_at.begun.0 c.in-Ok-begin_at.begun.1) (calls_here types _ c.args.self.now c.begin_at.new.self c.self.view_is Any c.args.at (event.AskBegin c.args.who.now (wish_of c.args.dep.now c.args.mode)) (λ (x : TxId × List ℕ) (e : Event g.row.C-Effect.Denot). e ≡ event.Began c.args.who.now (wish_of c.args.dep.now c.args.mode) x.0 x.1) (Ok c.in-Ok-begin_at.begun) (c.in-Ok-begin_at.ensures.answers c.args.who.now)) _ c.requires.may.run (ap (λ n. step.Began n c.in-Ok-begin_at.begun.0 c.in-Ok-begin_at.begun.1) c.in-Ok.ensures) tt (c.requires.may.seen, c.requires.may.allowed.may, tt)
