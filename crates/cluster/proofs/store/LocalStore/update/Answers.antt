use Rattle.std.proofs.Common.{◌≡◌, ◌+◌, refl, sym, ◌∙◌, subst, true, Some, None}
use Rattle.std.specs.Prelude.{ℕ, List, Option, Ok, Err}
use Rattle.crdt_core.specs.declared.record.Part.{Part}
use Rattle.world_model.specs.declared.step.Step.TheVariants as step
use Rattle.world_model.specs.rules.Event as event
use Rattle.world_model.specs.rules.Event.{Event, Entry}
use Rattle.world_model.specs.rules.Asking.{asked_by, is_own_word}
use Rattle.world_model.specs.rules.Lines.{fault_shown, step_shown}
use Rattle.txn_session.specs.Calls.{entries}
use Rattle.world_model.specs.rules.Plan.{update_count}
use Rattle.site_partitions.specs.Reaches.{types_of}
use Rattle.cluster.proofs.Seeing.{calls_here, called_same, error_stays, changes_on, unchanged_on, number_is, may_here, fault_of}
use Rattle.cluster.proofs.FuelStore.{line_tells_call, seen_tells}
use Rattle.cluster.proofs.store.LocalStore.update.Goals as goal

pub update_at-requires-clause-may : goal.update_at-requires-clause-may
update_at-requires-clause-may g c = may_here (types_of g.C.Crdt.laws g.C.Crdt.spells g.D.Disk.state) _ _ c.self.view_is c.args.pass (Some c.args.by) c.args.at (event.AskUpdate c.args.tx c.args.s.now c.args.object.now c.args.own.now c.args.op.now) c.requires.may

pub returns-in-Ok-update_at-clause-stays : goal.returns-in-Ok-update_at-clause-stays
returns-in-Ok-update_at-clause-stays g c =
    let types = types_of g.C.Crdt.laws g.C.Crdt.spells g.D.Disk.state in
    called_same types c.args.self.now c.update_at.new.self (λ (run : List (Entry g.row.C-Effect.Denot)). c.args.index ≡ update_count run c.args.tx + 1) c.args.at (event.AskUpdate c.args.tx c.args.s.now c.args.object.now c.args.own.now c.args.op.now) c.args.pass None (λ (x : g.row.C-Effect.Denot × Option ℕ) (e : Event g.row.C-Effect.Denot). (read : List (Part g.row.C-Effect.Denot)) × (e ≡ event.Updated c.args.tx c.args.s.now c.args.object.now c.args.own.now c.args.op.now read (record { object = c.args.object.now; index = c.args.index; effect = x.0 }) x.1)) (Ok c.in-Ok-update_at.made) (calls_here types _ c.args.self.now c.update_at.new.self c.self.view_is (λ (run : List (Entry g.row.C-Effect.Denot)). c.args.index ≡ update_count run c.args.tx + 1) c.args.at (event.AskUpdate c.args.tx c.args.s.now c.args.object.now c.args.own.now c.args.op.now) (λ (x : g.row.C-Effect.Denot × Option ℕ) (e : Event g.row.C-Effect.Denot). (read : List (Part g.row.C-Effect.Denot)) × (e ≡ event.Updated c.args.tx c.args.s.now c.args.object.now c.args.own.now c.args.op.now read (record { object = c.args.object.now; index = c.args.index; effect = x.0 }) x.1)) (Ok c.in-Ok-update_at.made) c.in-Ok-update_at.ensures.answers)

pub returns-in-Ok-update_at-clause-ok : goal.returns-in-Ok-update_at-clause-ok
returns-in-Ok-update_at-clause-ok g c run s a who index =
    let types = types_of g.C.Crdt.laws g.C.Crdt.spells g.D.Disk.state in
    changes_on types c.args.self.now c.update_at.new.self (λ (run : List (Entry g.row.C-Effect.Denot)). c.args.index ≡ update_count run c.args.tx + 1) c.args.at c.args.tx c.args.s.now c.args.object.now c.args.own.now c.args.op.now c.args.pass c.args.by _ c.in-Ok-update_at.made.1 (calls_here types _ c.args.self.now c.update_at.new.self c.self.view_is (λ (run : List (Entry g.row.C-Effect.Denot)). c.args.index ≡ update_count run c.args.tx + 1) c.args.at (event.AskUpdate c.args.tx c.args.s.now c.args.object.now c.args.own.now c.args.op.now) (λ (x : g.row.C-Effect.Denot × Option ℕ) (e : Event g.row.C-Effect.Denot). (read : List (Part g.row.C-Effect.Denot)) × (e ≡ event.Updated c.args.tx c.args.s.now c.args.object.now c.args.own.now c.args.op.now read (record { object = c.args.object.now; index = c.args.index; effect = x.0 }) x.1)) (Ok c.in-Ok-update_at.made) c.in-Ok-update_at.ensures.answers) _ run s a.may index (number_is run c.args.tx c.args.by s.one_caller a.mine)
    (λ i. step.Updated ((c.in-Ok.ensures ∙ who) i) (c.in-Ok-copy.ensures i) c.in-Ok-update_at.made.1)

pub returns-in-Ok-failed-clause-stays : goal.returns-in-Ok-failed-clause-stays
returns-in-Ok-failed-clause-stays g c =
    let types = types_of g.C.Crdt.laws g.C.Crdt.spells g.D.Disk.state in
    called_same types c.args.self.now c.update_at.new.self (λ (run : List (Entry g.row.C-Effect.Denot)). c.args.index ≡ update_count run c.args.tx + 1) c.args.at (event.AskUpdate c.args.tx c.args.s.now c.args.object.now c.args.own.now c.args.op.now) c.args.pass None (λ (x : g.row.C-Effect.Denot × Option ℕ) (e : Event g.row.C-Effect.Denot). (read : List (Part g.row.C-Effect.Denot)) × (e ≡ event.Updated c.args.tx c.args.s.now c.args.object.now c.args.own.now c.args.op.now read (record { object = c.args.object.now; index = c.args.index; effect = x.0 }) x.1)) (Err c.in-Err-update_at.error) (calls_here types _ c.args.self.now c.update_at.new.self c.self.view_is (λ (run : List (Entry g.row.C-Effect.Denot)). c.args.index ≡ update_count run c.args.tx + 1) c.args.at (event.AskUpdate c.args.tx c.args.s.now c.args.object.now c.args.own.now c.args.op.now) (λ (x : g.row.C-Effect.Denot × Option ℕ) (e : Event g.row.C-Effect.Denot). (read : List (Part g.row.C-Effect.Denot)) × (e ≡ event.Updated c.args.tx c.args.s.now c.args.object.now c.args.own.now c.args.op.now read (record { object = c.args.object.now; index = c.args.index; effect = x.0 }) x.1)) (Err c.in-Err-update_at.error) c.in-Err-update_at.ensures.answers)

pub returns-in-Ok-failed-clause-ok : goal.returns-in-Ok-failed-clause-ok
returns-in-Ok-failed-clause-ok g c run s a who index =
    let types = types_of g.C.Crdt.laws g.C.Crdt.spells g.D.Disk.state in
    unchanged_on types c.args.self.now c.update_at.new.self (λ (run : List (Entry g.row.C-Effect.Denot)). c.args.index ≡ update_count run c.args.tx + 1) c.args.at c.args.tx c.args.s.now c.args.object.now c.args.own.now c.args.op.now c.args.pass c.args.by (Unit {0}) (λ (x : g.row.C-Effect.Denot × Option ℕ) (e : Event g.row.C-Effect.Denot). (read : List (Part g.row.C-Effect.Denot)) × (e ≡ event.Updated c.args.tx c.args.s.now c.args.object.now c.args.own.now c.args.op.now read (record { object = c.args.object.now; index = c.args.index; effect = x.0 }) x.1)) c.in-Err-update_at.error _ (calls_here types _ c.args.self.now c.update_at.new.self c.self.view_is (λ (run : List (Entry g.row.C-Effect.Denot)). c.args.index ≡ update_count run c.args.tx + 1) c.args.at (event.AskUpdate c.args.tx c.args.s.now c.args.object.now c.args.own.now c.args.op.now) (λ (x : g.row.C-Effect.Denot × Option ℕ) (e : Event g.row.C-Effect.Denot). (read : List (Part g.row.C-Effect.Denot)) × (e ≡ event.Updated c.args.tx c.args.s.now c.args.object.now c.args.own.now c.args.op.now read (record { object = c.args.object.now; index = c.args.index; effect = x.0 }) x.1)) (Err c.in-Err-update_at.error) c.in-Err-update_at.ensures.answers) c.in-Ok-failed.ensures (λ x what k. subst (λ e. (fault_shown c.args.at e ≡ step.Disk c.args.at) × (is_own_word e ≡ true) × (asked_by e ≡ event.AskUpdate c.args.tx c.args.s.now c.args.object.now c.args.own.now c.args.op.now)) (sym k.1) (refl, refl, refl)) run s a.may index (number_is run c.args.tx c.args.by s.one_caller a.mine)

pub returns-in-Ok-failed-clause-tells : goal.returns-in-Ok-failed-clause-tells
returns-in-Ok-failed-clause-tells g c run s a who index =
    let types = types_of g.C.Crdt.laws g.C.Crdt.spells g.D.Disk.state in
    line_tells_call types c.args.self.now c.update_at.new.self (λ (run : List (Entry g.row.C-Effect.Denot)). c.args.index ≡ update_count run c.args.tx + 1) c.args.at (event.AskUpdate c.args.tx c.args.s.now c.args.object.now c.args.own.now c.args.op.now) c.args.pass None (Unit {0}) (λ (x : g.row.C-Effect.Denot × Option ℕ) (e : Event g.row.C-Effect.Denot). (read : List (Part g.row.C-Effect.Denot)) × (e ≡ event.Updated c.args.tx c.args.s.now c.args.object.now c.args.own.now c.args.op.now read (record { object = c.args.object.now; index = c.args.index; effect = x.0 }) x.1)) (step.Disk c.args.at) (λ x what k. fault_of c.args.at (step.Disk c.args.at) (event.Updated c.args.tx c.args.s.now c.args.object.now c.args.own.now c.args.op.now k.0 (record { object = c.args.object.now; index = c.args.index; effect = x.0 }) x.1) refl refl what k.1) (λ r. (refl, r)) c.in-Err-update_at.error _ (calls_here types _ c.args.self.now c.update_at.new.self c.self.view_is (λ (run : List (Entry g.row.C-Effect.Denot)). c.args.index ≡ update_count run c.args.tx + 1) c.args.at (event.AskUpdate c.args.tx c.args.s.now c.args.object.now c.args.own.now c.args.op.now) (λ (x : g.row.C-Effect.Denot × Option ℕ) (e : Event g.row.C-Effect.Denot). (read : List (Part g.row.C-Effect.Denot)) × (e ≡ event.Updated c.args.tx c.args.s.now c.args.object.now c.args.own.now c.args.op.now read (record { object = c.args.object.now; index = c.args.index; effect = x.0 }) x.1)) (Err c.in-Err-update_at.error) c.in-Err-update_at.ensures.answers) c.in-Ok-failed.ensures run (s, a.may, index)

pub returns-in-Err-failed-clause-stays : goal.returns-in-Err-failed-clause-stays
returns-in-Err-failed-clause-stays g c =
    let types = types_of g.C.Crdt.laws g.C.Crdt.spells g.D.Disk.state in
    called_same types c.args.self.now c.update_at.new.self (λ (run : List (Entry g.row.C-Effect.Denot)). c.args.index ≡ update_count run c.args.tx + 1) c.args.at (event.AskUpdate c.args.tx c.args.s.now c.args.object.now c.args.own.now c.args.op.now) c.args.pass None (λ (x : g.row.C-Effect.Denot × Option ℕ) (e : Event g.row.C-Effect.Denot). (read : List (Part g.row.C-Effect.Denot)) × (e ≡ event.Updated c.args.tx c.args.s.now c.args.object.now c.args.own.now c.args.op.now read (record { object = c.args.object.now; index = c.args.index; effect = x.0 }) x.1)) (Err c.in-Err-update_at.error) (calls_here types _ c.args.self.now c.update_at.new.self c.self.view_is (λ (run : List (Entry g.row.C-Effect.Denot)). c.args.index ≡ update_count run c.args.tx + 1) c.args.at (event.AskUpdate c.args.tx c.args.s.now c.args.object.now c.args.own.now c.args.op.now) (λ (x : g.row.C-Effect.Denot × Option ℕ) (e : Event g.row.C-Effect.Denot). (read : List (Part g.row.C-Effect.Denot)) × (e ≡ event.Updated c.args.tx c.args.s.now c.args.object.now c.args.own.now c.args.op.now read (record { object = c.args.object.now; index = c.args.index; effect = x.0 }) x.1)) (Err c.in-Err-update_at.error) c.in-Err-update_at.ensures.answers)

pub returns-in-Err-failed-clause-err : goal.returns-in-Err-failed-clause-err
returns-in-Err-failed-clause-err g c =
    let types = types_of g.C.Crdt.laws g.C.Crdt.spells g.D.Disk.state in
    error_stays types c.args.self.now c.update_at.new.self (λ (run : List (Entry g.row.C-Effect.Denot)). c.args.index ≡ update_count run c.args.tx + 1) c.args.at (event.AskUpdate c.args.tx c.args.s.now c.args.object.now c.args.own.now c.args.op.now) c.args.pass None _ (λ (x : g.row.C-Effect.Denot × Option ℕ) (e : Event g.row.C-Effect.Denot). (read : List (Part g.row.C-Effect.Denot)) × (e ≡ event.Updated c.args.tx c.args.s.now c.args.object.now c.args.own.now c.args.op.now read (record { object = c.args.object.now; index = c.args.index; effect = x.0 }) x.1)) (step.Disk c.args.at) c.in-Err-update_at.error _ (calls_here types _ c.args.self.now c.update_at.new.self c.self.view_is (λ (run : List (Entry g.row.C-Effect.Denot)). c.args.index ≡ update_count run c.args.tx + 1) c.args.at (event.AskUpdate c.args.tx c.args.s.now c.args.object.now c.args.own.now c.args.op.now) (λ (x : g.row.C-Effect.Denot × Option ℕ) (e : Event g.row.C-Effect.Denot). (read : List (Part g.row.C-Effect.Denot)) × (e ≡ event.Updated c.args.tx c.args.s.now c.args.object.now c.args.own.now c.args.op.now read (record { object = c.args.object.now; index = c.args.index; effect = x.0 }) x.1)) (Err c.in-Err-update_at.error) c.in-Err-update_at.ensures.answers) c.in-Err-failed.ensures

pub returns-in-Ok-update_at-clause-tells : goal.returns-in-Ok-update_at-clause-tells
returns-in-Ok-update_at-clause-tells g c run s a who index =
    let types = types_of g.C.Crdt.laws g.C.Crdt.spells g.D.Disk.state in
    seen_tells types c.args.self.now c.update_at.new.self (λ (run : List (Entry g.row.C-Effect.Denot)). c.args.index ≡ update_count run c.args.tx + 1) c.args.at (event.AskUpdate c.args.tx c.args.s.now c.args.object.now c.args.own.now c.args.op.now) c.args.pass (Some c.args.by) (λ (e : Event g.row.C-Effect.Denot). (read : List (Part g.row.C-Effect.Denot)) × (e ≡ event.Updated c.args.tx c.args.s.now c.args.object.now c.args.own.now c.args.op.now read (record { object = c.args.object.now; index = c.args.index; effect = c.in-Ok-update_at.made.0 }) c.in-Ok-update_at.made.1)) (calls_here types _ c.args.self.now c.update_at.new.self c.self.view_is (λ (run : List (Entry g.row.C-Effect.Denot)). c.args.index ≡ update_count run c.args.tx + 1) c.args.at (event.AskUpdate c.args.tx c.args.s.now c.args.object.now c.args.own.now c.args.op.now) (λ (x : g.row.C-Effect.Denot × Option ℕ) (e : Event g.row.C-Effect.Denot). (read : List (Part g.row.C-Effect.Denot)) × (e ≡ event.Updated c.args.tx c.args.s.now c.args.object.now c.args.own.now c.args.op.now read (record { object = c.args.object.now; index = c.args.index; effect = x.0 }) x.1)) (Ok c.in-Ok-update_at.made) c.in-Ok-update_at.ensures.answers) (step.Updated c.in-Ok.name c.in-Ok-copy.copy c.in-Ok-update_at.made.1)
    run (λ e k. subst (λ x. step.Updated c.in-Ok.name c.in-Ok-copy.copy c.in-Ok-update_at.made.1 ≡ step_shown (entries run) c.args.at x) (sym k.1) (λ i. step.Updated ((c.in-Ok.ensures ∙ who) i) (c.in-Ok-copy.ensures i) c.in-Ok-update_at.made.1)) tt (s, a.may, index)
