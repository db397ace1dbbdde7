use Rattle.std.proofs.Common.{◌≡◌, refl, ap, ◌∙◌, None}
use Rattle.std.specs.Prelude.{Ok, Err}
use Rattle.crdt_core.specs.declared.record.Message.{Message}
use Rattle.world_model.specs.declared.step.Step.TheVariants as step
use Rattle.world_model.specs.rules.Event as event
use Rattle.world_model.specs.rules.Event.{Event}
use Rattle.site_partitions.specs.Answers.{Any}
use Rattle.site_partitions.specs.Reaches.{types_of}
use Rattle.cluster.proofs.Seeing.{calls_here, did_on, exactly, fact_of, called_same, failed_line, error_stays, fault_of, may_here}
use Rattle.cluster.proofs.FuelStore.{line_tells_call}
use Rattle.cluster.proofs.store.LocalStore.release.Goals as goal

pub release_at-requires-clause-may : goal.release_at-requires-clause-may
release_at-requires-clause-may g c = may_here (types_of g.C.Crdt.laws g.C.Crdt.spells g.D.Disk.state) _ _ c.self.view_is c.args.pass None c.args.at (event.AskMessage c.args.to c.args.from) c.requires.may

pub returns-in-Ok-clause-ok : goal.returns-in-Ok-clause-ok
returns-in-Ok-clause-ok g c =
    let types = types_of g.C.Crdt.laws g.C.Crdt.spells g.D.Disk.state in
    let k = (calls_here types _ c.args.self.now c.release_at.new.self c.self.view_is Any c.args.at (event.AskMessage c.args.to c.args.from) (λ (m : Message g.row.C-Effect.Denot) (e : Event g.row.C-Effect.Denot). (m.to ≡ c.args.to) × (e ≡ event.Sent c.args.from m)) (Ok c.in-Ok.message) c.in-Ok.ensures.answers) in (
      fact_of types c.args.self.now c.release_at.new.self Any c.args.at (event.AskMessage c.args.to c.args.from) c.args.pass None (c.in-Ok.message.to ≡ c.args.to) (λ (e : Event g.row.C-Effect.Denot). (c.in-Ok.message.to ≡ c.args.to) × (e ≡ event.Sent c.args.from c.in-Ok.message)) (λ e x. x.0) k c.requires.may (λ calls. tt),
      λ run s. did_on types c.args.self.now c.release_at.new.self Any c.args.at (event.AskMessage c.args.to c.args.from) c.args.pass None event.sent_count 0 (event.Sent c.args.from c.in-Ok.message) refl (exactly types c.args.self.now c.release_at.new.self Any c.args.at (event.AskMessage c.args.to c.args.from) c.args.pass None (λ (e : Event g.row.C-Effect.Denot). (c.in-Ok.message.to ≡ c.args.to) × (e ≡ event.Sent c.args.from c.in-Ok.message)) (event.Sent c.args.from c.in-Ok.message) (λ e x. x.1) k) run s tt tt,
    )

pub returns-in-Ok-clause-stays : goal.returns-in-Ok-clause-stays
returns-in-Ok-clause-stays g c =
    let types = types_of g.C.Crdt.laws g.C.Crdt.spells g.D.Disk.state in
    called_same types c.args.self.now c.release_at.new.self Any c.args.at (event.AskMessage c.args.to c.args.from) c.args.pass None (λ (m : Message g.row.C-Effect.Denot) (e : Event g.row.C-Effect.Denot). (m.to ≡ c.args.to) × (e ≡ event.Sent c.args.from m)) (Ok c.in-Ok.message) (calls_here types _ c.args.self.now c.release_at.new.self c.self.view_is Any c.args.at (event.AskMessage c.args.to c.args.from) (λ (m : Message g.row.C-Effect.Denot) (e : Event g.row.C-Effect.Denot). (m.to ≡ c.args.to) × (e ≡ event.Sent c.args.from m)) (Ok c.in-Ok.message) c.in-Ok.ensures.answers)

pub returns-in-Ok-failed-clause-stays : goal.returns-in-Ok-failed-clause-stays
returns-in-Ok-failed-clause-stays g c =
    let types = types_of g.C.Crdt.laws g.C.Crdt.spells g.D.Disk.state in
    called_same types c.args.self.now c.release_at.new.self Any c.args.at (event.AskMessage c.args.to c.args.from) c.args.pass None (λ (m : Message g.row.C-Effect.Denot) (e : Event g.row.C-Effect.Denot). (m.to ≡ c.args.to) × (e ≡ event.Sent c.args.from m)) (Err c.in-Err.error) (calls_here types _ c.args.self.now c.release_at.new.self c.self.view_is Any c.args.at (event.AskMessage c.args.to c.args.from) (λ (m : Message g.row.C-Effect.Denot) (e : Event g.row.C-Effect.Denot). (m.to ≡ c.args.to) × (e ≡ event.Sent c.args.from m)) (Err c.in-Err.error) c.in-Err.ensures.answers)

pub returns-in-Ok-failed-clause-ok : goal.returns-in-Ok-failed-clause-ok
returns-in-Ok-failed-clause-ok g c = (
  tt,
  λ run s.
      let types = types_of g.C.Crdt.laws g.C.Crdt.spells g.D.Disk.state in
      failed_line types c.args.self.now c.release_at.new.self Any c.args.at (event.AskMessage c.args.to c.args.from) c.args.pass None (Unit {0}) (λ (m : Message g.row.C-Effect.Denot) (e : Event g.row.C-Effect.Denot). (m.to ≡ c.args.to) × (e ≡ event.Sent c.args.from m)) (step.Disk c.args.at) (λ m what k. let f = fault_of c.args.at (step.Disk c.args.at) (event.Sent c.args.from m) refl refl what k.1 in (f.0, f.1, f.2 ∙ ap (λ n. event.AskMessage n c.args.from) k.0)) c.in-Err.error _ (calls_here types _ c.args.self.now c.release_at.new.self c.self.view_is Any c.args.at (event.AskMessage c.args.to c.args.from) (λ (m : Message g.row.C-Effect.Denot) (e : Event g.row.C-Effect.Denot). (m.to ≡ c.args.to) × (e ≡ event.Sent c.args.from m)) (Err c.in-Err.error) c.in-Err.ensures.answers) c.in-Ok-failed.ensures run s tt tt tt,
)

pub returns-in-Ok-failed-clause-tells : goal.returns-in-Ok-failed-clause-tells
returns-in-Ok-failed-clause-tells g c =
    let types = types_of g.C.Crdt.laws g.C.Crdt.spells g.D.Disk.state in
    line_tells_call types c.args.self.now c.release_at.new.self Any c.args.at (event.AskMessage c.args.to c.args.from) c.args.pass None (Unit {0}) (λ (m : Message g.row.C-Effect.Denot) (e : Event g.row.C-Effect.Denot). (m.to ≡ c.args.to) × (e ≡ event.Sent c.args.from m)) (step.Disk c.args.at) (λ m what k. let f = fault_of c.args.at (step.Disk c.args.at) (event.Sent c.args.from m) refl refl what k.1 in (f.0, f.1, f.2 ∙ ap (λ n. event.AskMessage n c.args.from) k.0)) (λ r. (refl, r)) c.in-Err.error _ (calls_here types _ c.args.self.now c.release_at.new.self c.self.view_is Any c.args.at (event.AskMessage c.args.to c.args.from) (λ (m : Message g.row.C-Effect.Denot) (e : Event g.row.C-Effect.Denot). (m.to ≡ c.args.to) × (e ≡ event.Sent c.args.from m)) (Err c.in-Err.error) c.in-Err.ensures.answers) c.in-Ok-failed.ensures c.requires.may.run (c.requires.may.seen, c.requires.may.allowed.may, tt)

pub returns-in-Err-failed-clause-stays : goal.returns-in-Err-failed-clause-stays
returns-in-Err-failed-clause-stays g c =
    let types = types_of g.C.Crdt.laws g.C.Crdt.spells g.D.Disk.state in
    called_same types c.args.self.now c.release_at.new.self Any c.args.at (event.AskMessage c.args.to c.args.from) c.args.pass None (λ (m : Message g.row.C-Effect.Denot) (e : Event g.row.C-Effect.Denot). (m.to ≡ c.args.to) × (e ≡ event.Sent c.args.from m)) (Err c.in-Err.error) (calls_here types _ c.args.self.now c.release_at.new.self c.self.view_is Any c.args.at (event.AskMessage c.args.to c.args.from) (λ (m : Message g.row.C-Effect.Denot) (e : Event g.row.C-Effect.Denot). (m.to ≡ c.args.to) × (e ≡ event.Sent c.args.from m)) (Err c.in-Err.error) c.in-Err.ensures.answers)

pub returns-in-Err-failed-clause-err : goal.returns-in-Err-failed-clause-err
returns-in-Err-failed-clause-err g c =
    let types = types_of g.C.Crdt.laws g.C.Crdt.spells g.D.Disk.state in
    error_stays types c.args.self.now c.release_at.new.self Any c.args.at (event.AskMessage c.args.to c.args.from) c.args.pass None _ (λ (m : Message g.row.C-Effect.Denot) (e : Event g.row.C-Effect.Denot). (m.to ≡ c.args.to) × (e ≡ event.Sent c.args.from m)) (step.Disk c.args.at) c.in-Err.error _ (calls_here types _ c.args.self.now c.release_at.new.self c.self.view_is Any c.args.at (event.AskMessage c.args.to c.args.from) (λ (m : Message g.row.C-Effect.Denot) (e : Event g.row.C-Effect.Denot). (m.to ≡ c.args.to) × (e ≡ event.Sent c.args.from m)) (Err c.in-Err.error) c.in-Err.ensures.answers) c.in-Err-failed.ensures
