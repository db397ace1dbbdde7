use Rattle.std.proofs.Common.{◌≡◌, true, List, ◌++◌, refl, sym, ap, ◌∙◌, None, Some}
use Rattle.std.specs.Prelude.{◌+◌, ℕ, Option, ⊤}
use Rattle.site_vector.specs.declared.ids.TxId.{TxId}
use Rattle.crdt_core.specs.declared.record.Part.{Part}
use Rattle.crdt_core.specs.declared.value.Value.{Value}
use Rattle.crdt_core.specs.KindsOf.{kinds_of}
use Rattle.world_model.specs.declared.step.Step.TheVariants as step
use Rattle.world_model.specs.lines.Places.{home}
use Rattle.world_model.specs.rules.Event.{AskRead, AskUpdate, Event, Updated}
use Rattle.world_model.specs.rules.Event as event
use Rattle.world_model.specs.rules.Lines.{step_shown}
use Rattle.world_model.specs.rules.Plan.{update_count}
use Rattle.world_model.specs.threads.Calls.{entries}
use Rattle.world_model.proofs.Whole.{shown_begun}
use Rattle.txn_session.specs.Calls.{effect_made}
use Rattle.partition_lock.specs.Answers.{is_failed}
use Rattle.partition_lock.proofs.Settling.{changes, did, failed, none_made, rests, session_here}
use Rattle.partition_lock.proofs.desk.Desk.update.Goals as goal

pub returns-in-Ok-told-clause-ok : goal.returns-in-Ok-told-clause-ok
returns-in-Ok-told-clause-ok g c run s a who index =
    let shows = λ (x : g.row.C-Effect.Denot × Option ℕ) (e : Event g.row.C-Effect.Denot). (read : List (Part g.row.C-Effect.Denot)) × (e ≡ Updated c.args.tx c.args.s.now c.args.object.now c.args.own.now c.args.op.now read (record { object = c.args.object.now; index = c.args.index; effect = x.0 }) x.1) in
    let made = c.in-Ok-told.made in
    let d = did (kinds_of g.C.Crdt.laws) g.J.Naming.sites g.J.Naming.parts c.ask-pass.new.self c.args.pass c.ask-pass.result.0 c.args.by c.args.self.now (AskUpdate c.args.tx c.args.s.now c.args.object.now c.args.own.now c.args.op.now) (λ below. c.args.index ≡ update_count below c.args.tx + 1) (λ (x : g.row.C-Effect.Denot × Option ℕ) (e : Event g.row.C-Effect.Denot). (read : List (Part g.row.C-Effect.Denot)) × (e ≡ Updated c.args.tx c.args.s.now c.args.object.now c.args.own.now c.args.op.now read (record { object = c.args.object.now; index = c.args.index; effect = x.0 }) x.1)) c.ask-pass.result.1 c.ask-pass.ensures.ok c.in-Ok-answer.told c.in-Ok-answer.is run s a index made c.in-Ok-told.is in
    let kept = session_here (kinds_of g.C.Crdt.laws) g.J.Naming.sites g.J.Naming.parts c.args.pass c.ask-pass.result.0 run c.args.by c.args.self.now (AskUpdate c.args.tx c.args.s.now c.args.object.now c.args.own.now c.args.op.now) (λ below e. shows made e) d c.args.tx a.mine (shown_begun (entries run) (home c.args.tx) a.may.0.who a.may.0.dependency c.args.tx c.args.s.now a.may.0.begun) in
    changes (kinds_of g.C.Crdt.laws) g.J.Naming.sites g.J.Naming.parts c.ask-pass.new.self c.args.pass c.ask-pass.result.0 run c.args.by c.args.self.now (AskUpdate c.args.tx c.args.s.now c.args.object.now c.args.own.now c.args.op.now) (λ below e. shows made e) d (step.Updated c.in-Ok.name c.in-Ok-copy.copy made.1)
    (ap (λ o. step.Updated c.in-Ok.name o made.1) c.in-Ok-copy.ensures ∙ (ap (λ n. step.Updated n c.args.object.now made.1) (c.in-Ok.ensures ∙ (who ∙ sym kept)) ∙ ap (step_shown (entries (d.more ++ run)) c.args.self.now) (sym d.tells.1)))
    (Some made.0) (ap effect_made (sym d.tells.1))

pub returns-in-Err-told-clause-ok : goal.returns-in-Err-told-clause-ok
returns-in-Err-told-clause-ok g c run s a who index =
    let d = failed (kinds_of g.C.Crdt.laws) g.J.Naming.sites g.J.Naming.parts c.ask-pass.new.self c.args.pass c.ask-pass.result.0 c.args.by c.args.self.now (AskUpdate c.args.tx c.args.s.now c.args.object.now c.args.own.now c.args.op.now) (λ below. c.args.index ≡ update_count below c.args.tx + 1) (λ (x : g.row.C-Effect.Denot × Option ℕ) (e : Event g.row.C-Effect.Denot). (read : List (Part g.row.C-Effect.Denot)) × (e ≡ Updated c.args.tx c.args.s.now c.args.object.now c.args.own.now c.args.op.now read (record { object = c.args.object.now; index = c.args.index; effect = x.0 }) x.1)) c.ask-pass.result.1 c.ask-pass.ensures.ok c.in-Ok-answer.told c.in-Ok-answer.is run s a index c.in-Err-told.line c.in-Err-told.is in
    changes (kinds_of g.C.Crdt.laws) g.J.Naming.sites g.J.Naming.parts c.ask-pass.new.self c.args.pass c.ask-pass.result.0 run c.args.by c.args.self.now (AskUpdate c.args.tx c.args.s.now c.args.object.now c.args.own.now c.args.op.now) (λ below e. (c.in-Err-told.line ≡ step_shown below c.args.self.now e) × (is_failed e ≡ true)) d c.in-Err-told.line d.tells.0 None (sym (none_made d.event d.tells.1))

pub returns-in-Err-answer-clause-err : goal.returns-in-Err-answer-clause-err
returns-in-Err-answer-clause-err g c run s = rests (kinds_of g.C.Crdt.laws) g.J.Naming.sites g.J.Naming.parts c.ask-pass.new.self c.args.pass c.ask-pass.result.0 c.ask-pass.result.1 c.ask-pass.ensures.err c.in-Err-answer.field-0 c.in-Err-answer.is run s
