use Rattle.std.proofs.Common.{◌≡◌, false, List, refl, sym, ap, ◌∙◌, subst}
use Rattle.std.specs.Prelude.{Some, IfOk, IfErr}
use Rattle.site_vector.specs.Vector.{entry}
use Rattle.world_model.specs.rules.Event.{led_by, AskPrepare}
use Rattle.txn_session.specs.Calls.{Call, IsAllowed, GoesOn, Stays}
use Rattle.txn_session.specs.Waits.{is_late, late_in}
use Rattle.txn_session.proofs.Results.{ok_map, err_map}
use Rattle.txn_session.proofs.Waiting.{if_some, later_none, settled_ok, late_ok, lacking, sufficing}
use Rattle.txn_session.proofs.Repeating.{tick_may, stopped, again_may, again, prepare_again, prepare_owned}
use Rattle.txn_session.proofs.store.Store.prepare_wait.Goals as goal

pub returns-in-Some-clause-ok : goal.returns-in-Some-clause-ok
returns-in-Some-clause-ok g c =
    let same = if_some (λ a. (a ≡ c.prepare-pass.result.1) × (late_in c.prepare-pass.result.1 ≡ false)) c.settled.result c.in-Some.answer c.in-Some.is c.settled.ensures.some in
    settled_ok _ _ c.in-Some.answer (λ r l q run seen a. later_none (g.Self.Store.numbers c.prepare-pass.result.0) (g.K.Clock.shows c.args.clock.now) (entry c.args.s.now c.args.at.site) c.args.by c.args.at (AskPrepare c.args.tx c.args.s.now (led_by c.args.lead) c.args.updates.now) (is_late r) (λ rest. GoesOn g.Self.Store.sees g.Self.Store.numbers c.prepare-pass.new.self c.prepare-pass.result.0 rest (Some c.args.by) c.args.at (AskPrepare c.args.tx c.args.s.now (led_by c.args.lead) c.args.updates.now) r) run l (q run seen a)) (ap late_in same.0 ∙ same.1) (subst (λ w. IfOk w (λ r. (run : List (Call g.row.C-Effect.Denot)) → g.Self.Store.sees c.args.self.now c.args.pass run → IsAllowed (g.Self.Store.sites c.args.self.now) (g.Self.Store.parts c.args.self.now) run (Some c.args.by) c.args.at (AskPrepare c.args.tx c.args.s.now (led_by c.args.lead) c.args.updates.now) → GoesOn g.Self.Store.sees g.Self.Store.numbers c.prepare-pass.new.self c.prepare-pass.result.0 run (Some c.args.by) c.args.at (AskPrepare c.args.tx c.args.s.now (led_by c.args.lead) c.args.updates.now) r)) (sym same.0) c.prepare-pass.ensures.ok)

pub returns-in-Some-clause-err : goal.returns-in-Some-clause-err
returns-in-Some-clause-err g c =
    let same = if_some (λ a. (a ≡ c.prepare-pass.result.1) × (late_in c.prepare-pass.result.1 ≡ false)) c.settled.result c.in-Some.answer c.in-Some.is c.settled.ensures.some in
    err_map _ _ c.in-Some.answer (λ e q run seen a. later_none (g.Self.Store.numbers c.prepare-pass.result.0) (g.K.Clock.shows c.args.clock.now) (entry c.args.s.now c.args.at.site) c.args.by c.args.at (AskPrepare c.args.tx c.args.s.now (led_by c.args.lead) c.args.updates.now) false (λ rest. Stays g.Self.Store.sees g.Self.Store.numbers c.prepare-pass.new.self c.prepare-pass.result.0 rest) run refl (q run seen)) (subst (λ w. IfErr w (λ e. (run : List (Call g.row.C-Effect.Denot)) → g.Self.Store.sees c.args.self.now c.args.pass run → Stays g.Self.Store.sees g.Self.Store.numbers c.prepare-pass.new.self c.prepare-pass.result.0 run)) (sym same.0) c.prepare-pass.ensures.err)

pub tick-pass-requires-clause-may : goal.tick-pass-requires-clause-may
tick-pass-requires-clause-may g c =
    let x = late_ok _ c.prepare-pass.result.1 (c.in-None.ensures.none refl) c.prepare-pass.ensures.ok in
    tick_may _ g.Self.Store.sees g.Self.Store.numbers g.Self.Store.sites g.Self.Store.parts g.Self.Store.stays g.met.Self.Store.legal g.met.Self.Store.keeps c.args.self.now c.prepare-pass.new.self c.prepare-pass.ensures.stays c.args.pass c.prepare-pass.result.0 c.prepare-pass.ensures.same c.args.by c.args.at (AskPrepare c.args.tx c.args.s.now (led_by c.args.lead) c.args.updates.now) c.args.tx c.requires.may.held c.requires.may.place (λ run. IsAllowed (g.Self.Store.sites c.args.self.now) (g.Self.Store.parts c.args.self.now) run (Some c.args.by) c.args.at (AskPrepare c.args.tx c.args.s.now (led_by c.args.lead) c.args.updates.now)) (prepare_again (g.Self.Store.sites c.args.self.now) (g.Self.Store.parts c.args.self.now) c.args.by c.args.at c.args.tx c.args.s.now (led_by c.args.lead) c.args.updates.now) (λ run h. h) (prepare_owned (g.Self.Store.sites c.args.self.now) (g.Self.Store.parts c.args.self.now) c.args.by c.args.at c.args.tx c.args.s.now (led_by c.args.lead) c.args.updates.now) x.0 x.1 (λ run seen h. x.2 run seen h) c.requires.may.run c.requires.may.seen c.requires.may.allowed c.reading_for.result

pub returns-then-lacks_memory-clause-err : goal.returns-then-lacks_memory-clause-err
returns-then-lacks_memory-clause-err g c run seen a =
    let x = late_ok _ c.prepare-pass.result.1 (c.in-None.ensures.none refl) c.prepare-pass.ensures.ok in
    stopped _ g.Self.Store.sees g.Self.Store.numbers g.Self.Store.sites g.Self.Store.parts g.Self.Store.stays g.met.Self.Store.legal g.met.Self.Store.keeps c.args.self.now c.prepare-pass.new.self c.prepare-pass.ensures.stays c.args.pass c.prepare-pass.result.0 c.prepare-pass.ensures.same c.args.by c.args.at (AskPrepare c.args.tx c.args.s.now (led_by c.args.lead) c.args.updates.now) c.args.tx c.requires.may.held c.requires.may.place (λ run. IsAllowed (g.Self.Store.sites c.args.self.now) (g.Self.Store.parts c.args.self.now) run (Some c.args.by) c.args.at (AskPrepare c.args.tx c.args.s.now (led_by c.args.lead) c.args.updates.now)) (prepare_again (g.Self.Store.sites c.args.self.now) (g.Self.Store.parts c.args.self.now) c.args.by c.args.at c.args.tx c.args.s.now (led_by c.args.lead) c.args.updates.now) (λ run h. h) (prepare_owned (g.Self.Store.sites c.args.self.now) (g.Self.Store.parts c.args.self.now) c.args.by c.args.at c.args.tx c.args.s.now (led_by c.args.lead) c.args.updates.now) x.0 x.1 (λ run seen h. x.2 run seen h) c.tick-pass.new.self c.tick-pass.ensures.stays c.tick-pass.result.0 c.tick-pass.ensures.same (g.K.Clock.shows c.args.clock.now) (entry c.args.s.now c.args.at.site) (lacking _ c.tick-pass.result.1 c.lacks_memory.result c.if-lacks_memory.true c.lacks_memory.ensures.ok c.tick-pass.ensures.err) run seen a

pub prepare-requires : goal.prepare-requires
prepare-requires g c =
    let x = late_ok _ c.prepare-pass.result.1 (c.in-None.ensures.none refl) c.prepare-pass.ensures.ok in
    let y = sufficing _ c.tick-pass.result.1 c.lacks_memory.result c.if-lacks_memory.false c.lacks_memory.ensures.err c.tick-pass.ensures.ok in
    let m = again_may _ g.Self.Store.sees g.Self.Store.numbers g.Self.Store.sites g.Self.Store.parts g.Self.Store.stays g.met.Self.Store.legal g.met.Self.Store.keeps c.args.self.now c.prepare-pass.new.self c.prepare-pass.ensures.stays c.args.pass c.prepare-pass.result.0 c.prepare-pass.ensures.same c.args.by c.args.at (AskPrepare c.args.tx c.args.s.now (led_by c.args.lead) c.args.updates.now) c.args.tx c.requires.may.held c.requires.may.place (λ run. IsAllowed (g.Self.Store.sites c.args.self.now) (g.Self.Store.parts c.args.self.now) run (Some c.args.by) c.args.at (AskPrepare c.args.tx c.args.s.now (led_by c.args.lead) c.args.updates.now)) (prepare_again (g.Self.Store.sites c.args.self.now) (g.Self.Store.parts c.args.self.now) c.args.by c.args.at c.args.tx c.args.s.now (led_by c.args.lead) c.args.updates.now) (λ run h. h) (prepare_owned (g.Self.Store.sites c.args.self.now) (g.Self.Store.parts c.args.self.now) c.args.by c.args.at c.args.tx c.args.s.now (led_by c.args.lead) c.args.updates.now) x.0 x.1 (λ run seen h. x.2 run seen h) c.tick-pass.new.self c.tick-pass.ensures.stays c.tick-pass.result.0 c.tick-pass.ensures.same c.reading_for.result y.0 y.1 (g.K.Clock.shows c.args.clock.now) (entry c.args.s.now c.args.at.site) c.reading_for.ensures.told c.requires.may.run c.requires.may.seen c.requires.may.allowed in
    record { may = m.0 }

pub returns-clause-ok : goal.returns-clause-ok
returns-clause-ok g c =
    let x = late_ok _ c.prepare-pass.result.1 (c.in-None.ensures.none refl) c.prepare-pass.ensures.ok in
    let y = sufficing _ c.tick-pass.result.1 c.lacks_memory.result c.if-lacks_memory.false c.lacks_memory.ensures.err c.tick-pass.ensures.ok in
    ok_map _ _ c.prepare.result.1
    (λ r q run seen a. again _ g.Self.Store.sees g.Self.Store.numbers g.Self.Store.sites g.Self.Store.parts g.Self.Store.stays g.met.Self.Store.legal g.met.Self.Store.keeps c.args.self.now c.prepare-pass.new.self c.prepare-pass.ensures.stays c.args.pass c.prepare-pass.result.0 c.prepare-pass.ensures.same c.args.by c.args.at (AskPrepare c.args.tx c.args.s.now (led_by c.args.lead) c.args.updates.now) c.args.tx c.requires.may.held c.requires.may.place (λ run. IsAllowed (g.Self.Store.sites c.args.self.now) (g.Self.Store.parts c.args.self.now) run (Some c.args.by) c.args.at (AskPrepare c.args.tx c.args.s.now (led_by c.args.lead) c.args.updates.now)) (prepare_again (g.Self.Store.sites c.args.self.now) (g.Self.Store.parts c.args.self.now) c.args.by c.args.at c.args.tx c.args.s.now (led_by c.args.lead) c.args.updates.now) (λ run h. h) (prepare_owned (g.Self.Store.sites c.args.self.now) (g.Self.Store.parts c.args.self.now) c.args.by c.args.at c.args.tx c.args.s.now (led_by c.args.lead) c.args.updates.now) x.0 x.1 (λ run seen h. x.2 run seen h) c.tick-pass.new.self c.tick-pass.ensures.stays c.tick-pass.result.0 c.tick-pass.ensures.same c.reading_for.result y.0 y.1 (g.K.Clock.shows c.args.clock.now) (entry c.args.s.now c.args.at.site) c.reading_for.ensures.told c.prepare.result.0 c.prepare.ensures.same (is_late r) (λ rest. GoesOn g.Self.Store.sees g.Self.Store.numbers c.prepare.new.self c.prepare.result.0 rest (Some c.args.by) c.args.at (AskPrepare c.args.tx c.args.s.now (led_by c.args.lead) c.args.updates.now) r) (λ run seen h a. q run seen a) run seen a) c.prepare.ensures.ok

pub returns-clause-err : goal.returns-clause-err
returns-clause-err g c =
    let x = late_ok _ c.prepare-pass.result.1 (c.in-None.ensures.none refl) c.prepare-pass.ensures.ok in
    let y = sufficing _ c.tick-pass.result.1 c.lacks_memory.result c.if-lacks_memory.false c.lacks_memory.ensures.err c.tick-pass.ensures.ok in
    err_map _ _ c.prepare.result.1
    (λ e q run seen a. again _ g.Self.Store.sees g.Self.Store.numbers g.Self.Store.sites g.Self.Store.parts g.Self.Store.stays g.met.Self.Store.legal g.met.Self.Store.keeps c.args.self.now c.prepare-pass.new.self c.prepare-pass.ensures.stays c.args.pass c.prepare-pass.result.0 c.prepare-pass.ensures.same c.args.by c.args.at (AskPrepare c.args.tx c.args.s.now (led_by c.args.lead) c.args.updates.now) c.args.tx c.requires.may.held c.requires.may.place (λ run. IsAllowed (g.Self.Store.sites c.args.self.now) (g.Self.Store.parts c.args.self.now) run (Some c.args.by) c.args.at (AskPrepare c.args.tx c.args.s.now (led_by c.args.lead) c.args.updates.now)) (prepare_again (g.Self.Store.sites c.args.self.now) (g.Self.Store.parts c.args.self.now) c.args.by c.args.at c.args.tx c.args.s.now (led_by c.args.lead) c.args.updates.now) (λ run h. h) (prepare_owned (g.Self.Store.sites c.args.self.now) (g.Self.Store.parts c.args.self.now) c.args.by c.args.at c.args.tx c.args.s.now (led_by c.args.lead) c.args.updates.now) x.0 x.1 (λ run seen h. x.2 run seen h) c.tick-pass.new.self c.tick-pass.ensures.stays c.tick-pass.result.0 c.tick-pass.ensures.same c.reading_for.result y.0 y.1 (g.K.Clock.shows c.args.clock.now) (entry c.args.s.now c.args.at.site) c.reading_for.ensures.told c.prepare.result.0 c.prepare.ensures.same false (λ rest. Stays g.Self.Store.sees g.Self.Store.numbers c.prepare.new.self c.prepare.result.0 rest) (λ run seen h a. q run seen) run seen a) c.prepare.ensures.err
