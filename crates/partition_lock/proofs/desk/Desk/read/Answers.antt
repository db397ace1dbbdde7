use Rattle.std.proofs.Common.{◌≡◌, List, ◌++◌, refl, sym, ap, ◌∙◌, Some}
use Rattle.std.specs.Prelude.{◌+◌, ℕ, Option, ⊤}
use Rattle.site_vector.specs.declared.ids.TxId.{TxId}
use Rattle.crdt_core.specs.declared.record.Part.{Part}
use Rattle.crdt_core.specs.declared.value.Value.{Value}
use Rattle.crdt_core.specs.KindsOf.{kinds_of}
use Rattle.world_model.specs.declared.step.Step.TheVariants as step
use Rattle.world_model.specs.lines.Places.{home}
use Rattle.world_model.specs.rules.Event.{AskRead, AskUpdate, Event, Updated}
use Rattle.world_model.specs.rules.Event as event
use Rattle.world_model.specs.rules.Lines.{step_shown}
use Rattle.world_model.specs.rules.Plan.{update_count}
use Rattle.world_model.specs.threads.Calls.{entries}
use Rattle.world_model.proofs.Whole.{shown_begun}
use Rattle.txn_session.specs.Calls.{effect_made}
use Rattle.partition_lock.proofs.Settling.{did, fails_as, goes, rests, session_here}
use Rattle.partition_lock.proofs.desk.Desk.read.Goals as goal

pub returns-in-Ok-told-clause-ok : goal.returns-in-Ok-told-clause-ok
returns-in-Ok-told-clause-ok g c run s a who =
    let shows = λ (v : Value) (e : Event g.row.C-Effect.Denot). (read : List (Part g.row.C-Effect.Denot)) × (e ≡ event.Read c.args.tx c.args.s.now c.args.object.now c.args.own.now read v) in
    let d = did (kinds_of g.C.Crdt.laws) g.J.Naming.sites g.J.Naming.parts c.ask-pass.new.self c.args.pass c.ask-pass.result.0 c.args.by c.args.self.now (AskRead c.args.tx c.args.s.now c.args.object.now c.args.own.now) (λ below. ⊤) (λ (v : Value) (e : Event g.row.C-Effect.Denot). (read : List (Part g.row.C-Effect.Denot)) × (e ≡ event.Read c.args.tx c.args.s.now c.args.object.now c.args.own.now read v)) c.ask-pass.result.1 c.ask-pass.ensures.ok c.in-Ok-answer.told c.in-Ok-answer.is run s a tt c.in-Ok-told.value c.in-Ok-told.is in
    let kept = session_here (kinds_of g.C.Crdt.laws) g.J.Naming.sites g.J.Naming.parts c.args.pass c.ask-pass.result.0 run c.args.by c.args.self.now (AskRead c.args.tx c.args.s.now c.args.object.now c.args.own.now) (λ below e. shows c.in-Ok-told.value e) d c.args.tx a.mine (shown_begun (entries run) (home c.args.tx) a.may.who a.may.dependency c.args.tx c.args.s.now a.may.begun) in
    goes (kinds_of g.C.Crdt.laws) g.J.Naming.sites g.J.Naming.parts c.ask-pass.new.self c.args.pass c.ask-pass.result.0 run c.args.by c.args.self.now (AskRead c.args.tx c.args.s.now c.args.object.now c.args.own.now) (λ below e. shows c.in-Ok-told.value e) d (Some c.args.by) refl (step.Value c.in-Ok.name c.in-Ok-copy.copy c.in-Ok-told.value)
    (ap (λ o. step.Value c.in-Ok.name o c.in-Ok-told.value) c.in-Ok-copy.ensures ∙ (ap (λ n. step.Value n c.args.object.now c.in-Ok-told.value) (c.in-Ok.ensures ∙ (who ∙ sym kept)) ∙ ap (step_shown (entries (d.more ++ run)) c.args.self.now) (sym d.tells.1)))

pub returns-in-Err-told-clause-ok : goal.returns-in-Err-told-clause-ok
returns-in-Err-told-clause-ok g c run s a who = fails_as (kinds_of g.C.Crdt.laws) g.J.Naming.sites g.J.Naming.parts c.ask-pass.new.self c.args.pass c.ask-pass.result.0 c.args.by c.args.self.now (AskRead c.args.tx c.args.s.now c.args.object.now c.args.own.now) (λ below. ⊤) (λ (v : Value) (e : Event g.row.C-Effect.Denot). (read : List (Part g.row.C-Effect.Denot)) × (e ≡ event.Read c.args.tx c.args.s.now c.args.object.now c.args.own.now read v)) c.ask-pass.result.1 c.ask-pass.ensures.ok c.in-Ok-answer.told c.in-Ok-answer.is run s a tt (Some c.args.by) refl c.in-Err-told.line c.in-Err-told.is

pub returns-in-Err-answer-clause-err : goal.returns-in-Err-answer-clause-err
returns-in-Err-answer-clause-err g c run s = rests (kinds_of g.C.Crdt.laws) g.J.Naming.sites g.J.Naming.parts c.ask-pass.new.self c.args.pass c.ask-pass.result.0 c.ask-pass.result.1 c.ask-pass.ensures.err c.in-Err-answer.field-0 c.in-Err-answer.is run s
