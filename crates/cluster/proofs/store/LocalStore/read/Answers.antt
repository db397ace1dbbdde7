use Rattle.std.proofs.Common.{◌≡◌, refl, sym, ◌∙◌, subst, true, Some}
use Rattle.std.specs.Prelude.{◌&&◌, List, Ok, Err}
use Rattle.crdt_core.specs.declared.record.Part.{Part}
use Rattle.crdt_core.specs.declared.value.Value.{Value}
use Rattle.world_model.specs.declared.step.Step.TheVariants as step
use Rattle.world_model.specs.rules.Event as event
use Rattle.world_model.specs.rules.Event.{Event, attempt}
use Rattle.world_model.specs.rules.Asking.{is_own_word}
use Rattle.world_model.specs.rules.Lines.{step_shown}
use Rattle.txn_session.specs.Calls.{entries}
use Rattle.site_partitions.specs.Answers.{Any}
use Rattle.site_partitions.specs.Reaches.{types_of}
use Rattle.cluster.proofs.FuelStore.{failed_tells_call, seen_tells}
use Rattle.cluster.proofs.Rooms.{has_room}
use Rattle.cluster.proofs.Seeing.{calls_here, seen_at, failed_on, failed_stays, called_same, fault_of, number_is, may_here}
use Rattle.cluster.proofs.store.LocalStore.read.Goals as goal

pub read_at-requires-clause-may : goal.read_at-requires-clause-may
read_at-requires-clause-may g c = may_here (types_of g.C.Crdt.laws g.C.Crdt.spells g.D.Disk.state) _ _ c.self.view_is c.args.pass (Some c.args.by) c.args.at (event.AskRead c.args.tx c.args.s.now c.args.object.now c.args.own.now) c.requires.may

pub returns-in-Ok-read_at-clause-stays : goal.returns-in-Ok-read_at-clause-stays
returns-in-Ok-read_at-clause-stays g c =
    let types = types_of g.C.Crdt.laws g.C.Crdt.spells g.D.Disk.state in
    called_same types c.args.self.now c.read_at.new.self Any c.args.at (event.AskRead c.args.tx c.args.s.now c.args.object.now c.args.own.now) c.args.pass (Some c.args.by) (λ (v : Value) (e : Event g.row.C-Effect.Denot). (read : List (Part g.row.C-Effect.Denot)) × (e ≡ event.Read c.args.tx c.args.s.now c.args.object.now c.args.own.now read v)) (Ok c.in-Ok-read_at.value) (calls_here types _ c.args.self.now c.read_at.new.self c.self.view_is Any c.args.at (event.AskRead c.args.tx c.args.s.now c.args.object.now c.args.own.now) (λ (v : Value) (e : Event g.row.C-Effect.Denot). (read : List (Part g.row.C-Effect.Denot)) × (e ≡ event.Read c.args.tx c.args.s.now c.args.object.now c.args.own.now read v)) (Ok c.in-Ok-read_at.value) c.in-Ok-read_at.ensures.answers)

pub returns-in-Ok-read_at-clause-ok : goal.returns-in-Ok-read_at-clause-ok
returns-in-Ok-read_at-clause-ok g c run s a who =
    let types = types_of g.C.Crdt.laws g.C.Crdt.spells g.D.Disk.state in
    seen_at types c.args.self.now c.read_at.new.self Any c.args.at (event.AskRead c.args.tx c.args.s.now c.args.object.now c.args.own.now) c.args.pass (Some c.args.by) ((λ (v : Value) (e : Event g.row.C-Effect.Denot). (read : List (Part g.row.C-Effect.Denot)) × (e ≡ event.Read c.args.tx c.args.s.now c.args.object.now c.args.own.now read v)) c.in-Ok-read_at.value) (calls_here types _ c.args.self.now c.read_at.new.self c.self.view_is Any c.args.at (event.AskRead c.args.tx c.args.s.now c.args.object.now c.args.own.now) (λ (v : Value) (e : Event g.row.C-Effect.Denot). (read : List (Part g.row.C-Effect.Denot)) × (e ≡ event.Read c.args.tx c.args.s.now c.args.object.now c.args.own.now read v)) (Ok c.in-Ok-read_at.value) c.in-Ok-read_at.ensures.answers) (step.Value c.in-Ok.name c.in-Ok-copy.copy c.in-Ok-read_at.value)
    run (λ e k. subst (λ x. (step.Value c.in-Ok.name c.in-Ok-copy.copy c.in-Ok-read_at.value ≡ step_shown (entries run) c.args.at x) × (is_own_word (attempt x) && has_room x ≡ true)) (sym k.1) ((λ i. step.Value ((c.in-Ok.ensures ∙ who) i) (c.in-Ok-copy.ensures i) c.in-Ok-read_at.value), refl)) s a.may tt (number_is run c.args.tx c.args.by s.one_caller a.mine)

pub returns-in-Err-read_at-clause-ok : goal.returns-in-Err-read_at-clause-ok
returns-in-Err-read_at-clause-ok g c =
    let types = types_of g.C.Crdt.laws g.C.Crdt.spells g.D.Disk.state in
    failed_on types c.args.self.now c.read_at.new.self Any c.args.at (event.AskRead c.args.tx c.args.s.now c.args.object.now c.args.own.now) c.args.pass (Some c.args.by) (λ (v : Value) (e : Event g.row.C-Effect.Denot). (read : List (Part g.row.C-Effect.Denot)) × (e ≡ event.Read c.args.tx c.args.s.now c.args.object.now c.args.own.now read v)) (step.Disk c.args.at) (λ v what k. fault_of c.args.at (step.Disk c.args.at) (event.Read c.args.tx c.args.s.now c.args.object.now c.args.own.now k.0 v) refl refl what k.1) c.in-Err-read_at.error c.failed.result (calls_here types _ c.args.self.now c.read_at.new.self c.self.view_is Any c.args.at (event.AskRead c.args.tx c.args.s.now c.args.object.now c.args.own.now) (λ (v : Value) (e : Event g.row.C-Effect.Denot). (read : List (Part g.row.C-Effect.Denot)) × (e ≡ event.Read c.args.tx c.args.s.now c.args.object.now c.args.own.now read v)) (Err c.in-Err-read_at.error) c.in-Err-read_at.ensures.answers) c.failed.ensures _
    (λ line q run s a who. q run s a.may tt (number_is run c.args.tx c.args.by s.one_caller a.mine))

pub returns-in-Err-read_at-clause-err : goal.returns-in-Err-read_at-clause-err
returns-in-Err-read_at-clause-err g c =
    let types = types_of g.C.Crdt.laws g.C.Crdt.spells g.D.Disk.state in
    failed_stays types c.args.self.now c.read_at.new.self Any c.args.at (event.AskRead c.args.tx c.args.s.now c.args.object.now c.args.own.now) c.args.pass (Some c.args.by) (λ (v : Value) (e : Event g.row.C-Effect.Denot). (read : List (Part g.row.C-Effect.Denot)) × (e ≡ event.Read c.args.tx c.args.s.now c.args.object.now c.args.own.now read v)) (step.Disk c.args.at) c.in-Err-read_at.error c.failed.result (calls_here types _ c.args.self.now c.read_at.new.self c.self.view_is Any c.args.at (event.AskRead c.args.tx c.args.s.now c.args.object.now c.args.own.now) (λ (v : Value) (e : Event g.row.C-Effect.Denot). (read : List (Part g.row.C-Effect.Denot)) × (e ≡ event.Read c.args.tx c.args.s.now c.args.object.now c.args.own.now read v)) (Err c.in-Err-read_at.error) c.in-Err-read_at.ensures.answers) c.failed.ensures

pub returns-in-Err-read_at-clause-stays : goal.returns-in-Err-read_at-clause-stays
returns-in-Err-read_at-clause-stays g c =
    let types = types_of g.C.Crdt.laws g.C.Crdt.spells g.D.Disk.state in
    called_same types c.args.self.now c.read_at.new.self Any c.args.at (event.AskRead c.args.tx c.args.s.now c.args.object.now c.args.own.now) c.args.pass (Some c.args.by) (λ (v : Value) (e : Event g.row.C-Effect.Denot). (read : List (Part g.row.C-Effect.Denot)) × (e ≡ event.Read c.args.tx c.args.s.now c.args.object.now c.args.own.now read v)) (Err c.in-Err-read_at.error) (calls_here types _ c.args.self.now c.read_at.new.self c.self.view_is Any c.args.at (event.AskRead c.args.tx c.args.s.now c.args.object.now c.args.own.now) (λ (v : Value) (e : Event g.row.C-Effect.Denot). (read : List (Part g.row.C-Effect.Denot)) × (e ≡ event.Read c.args.tx c.args.s.now c.args.object.now c.args.own.now read v)) (Err c.in-Err-read_at.error) c.in-Err-read_at.ensures.answers)

pub returns-in-Err-read_at-clause-tells : goal.returns-in-Err-read_at-clause-tells
returns-in-Err-read_at-clause-tells g c =
    let types = types_of g.C.Crdt.laws g.C.Crdt.spells g.D.Disk.state in
    failed_tells_call types c.args.self.now c.read_at.new.self Any c.args.at (event.AskRead c.args.tx c.args.s.now c.args.object.now c.args.own.now) c.args.pass (Some c.args.by) (λ (v : Value) (e : Event g.row.C-Effect.Denot). (read : List (Part g.row.C-Effect.Denot)) × (e ≡ event.Read c.args.tx c.args.s.now c.args.object.now c.args.own.now read v)) (step.Disk c.args.at) (λ v what k. fault_of c.args.at (step.Disk c.args.at) (event.Read c.args.tx c.args.s.now c.args.object.now c.args.own.now k.0 v) refl refl what k.1) (λ r. (refl, r)) c.in-Err-read_at.error c.failed.result (calls_here types _ c.args.self.now c.read_at.new.self c.self.view_is Any c.args.at (event.AskRead c.args.tx c.args.s.now c.args.object.now c.args.own.now) (λ (v : Value) (e : Event g.row.C-Effect.Denot). (read : List (Part g.row.C-Effect.Denot)) × (e ≡ event.Read c.args.tx c.args.s.now c.args.object.now c.args.own.now read v)) (Err c.in-Err-read_at.error) c.in-Err-read_at.ensures.answers) c.failed.ensures _
    (λ line q run s a who. q run (s, a.may, tt))

pub returns-in-Ok-read_at-clause-tells : goal.returns-in-Ok-read_at-clause-tells
returns-in-Ok-read_at-clause-tells g c run s a who =
    let types = types_of g.C.Crdt.laws g.C.Crdt.spells g.D.Disk.state in
    seen_tells types c.args.self.now c.read_at.new.self Any c.args.at (event.AskRead c.args.tx c.args.s.now c.args.object.now c.args.own.now) c.args.pass (Some c.args.by) ((λ (v : Value) (e : Event g.row.C-Effect.Denot). (read : List (Part g.row.C-Effect.Denot)) × (e ≡ event.Read c.args.tx c.args.s.now c.args.object.now c.args.own.now read v)) c.in-Ok-read_at.value) (calls_here types _ c.args.self.now c.read_at.new.self c.self.view_is Any c.args.at (event.AskRead c.args.tx c.args.s.now c.args.object.now c.args.own.now) (λ (v : Value) (e : Event g.row.C-Effect.Denot). (read : List (Part g.row.C-Effect.Denot)) × (e ≡ event.Read c.args.tx c.args.s.now c.args.object.now c.args.own.now read v)) (Ok c.in-Ok-read_at.value) c.in-Ok-read_at.ensures.answers) (step.Value c.in-Ok.name c.in-Ok-copy.copy c.in-Ok-read_at.value)
    run (λ e k. subst (λ x. step.Value c.in-Ok.name c.in-Ok-copy.copy c.in-Ok-read_at.value ≡ step_shown (entries run) c.args.at x) (sym k.1) (λ i. step.Value ((c.in-Ok.ensures ∙ who) i) (c.in-Ok-copy.ensures i) c.in-Ok-read_at.value)) tt (s, a.may, tt)
