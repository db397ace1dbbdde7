use Rattle.std.proofs.Common.{◌≡◌, false, List, refl, sym, ap, ◌∙◌, subst}
use Rattle.std.specs.Prelude.{Some, IfOk, IfErr}
use Rattle.site_vector.specs.Vector.{entry}
use Rattle.world_model.specs.rules.Event.{AskRead}
use Rattle.world_model.specs.rules.Lines.{session_of}
use Rattle.txn_session.specs.Calls.{Call, entries, IsAllowed, GoesOn, Stays}
use Rattle.txn_session.specs.Waits.{is_late, late_in}
use Rattle.txn_session.proofs.Results.{ok_map, err_map}
use Rattle.txn_session.proofs.Waiting.{if_some, later_none, settled_ok, late_ok, lacking, sufficing}
use Rattle.txn_session.proofs.Repeating.{tick_may, stopped, again_may, again, MayRead, read_again, read_owned}
use Rattle.txn_session.proofs.store.Store.read_wait.Goals as goal

pub returns-in-Some-clause-ok : goal.returns-in-Some-clause-ok
returns-in-Some-clause-ok g c =
    let same = if_some (λ a. (a ≡ c.read-pass.result.1) × (late_in c.read-pass.result.1 ≡ false)) c.settled.result c.in-Some.answer c.in-Some.is c.settled.ensures.some in
    settled_ok _ _ c.in-Some.answer (λ r l q run seen a who. later_none (g.Self.Store.numbers c.read-pass.result.0) (g.K.Clock.shows c.args.clock.now) (entry c.args.s.now c.args.at.site) c.args.by c.args.at (AskRead c.args.tx c.args.s.now c.args.object.now c.args.own.now) (is_late r) (λ rest. GoesOn g.Self.Store.sees g.Self.Store.numbers c.read-pass.new.self c.read-pass.result.0 rest (Some c.args.by) c.args.at (AskRead c.args.tx c.args.s.now c.args.object.now c.args.own.now) r) run l (q run seen a who)) (ap late_in same.0 ∙ same.1) (subst (λ w. IfOk w (λ r. (run : List (Call g.row.C-Effect.Denot)) → g.Self.Store.sees c.args.self.now c.args.pass run → IsAllowed (g.Self.Store.sites c.args.self.now) (g.Self.Store.parts c.args.self.now) run (Some c.args.by) c.args.at (AskRead c.args.tx c.args.s.now c.args.object.now c.args.own.now) → c.args.who.now ≡ session_of (entries run) c.args.tx → GoesOn g.Self.Store.sees g.Self.Store.numbers c.read-pass.new.self c.read-pass.result.0 run (Some c.args.by) c.args.at (AskRead c.args.tx c.args.s.now c.args.object.now c.args.own.now) r)) (sym same.0) c.read-pass.ensures.ok)

pub returns-in-Some-clause-err : goal.returns-in-Some-clause-err
returns-in-Some-clause-err g c =
    let same = if_some (λ a. (a ≡ c.read-pass.result.1) × (late_in c.read-pass.result.1 ≡ false)) c.settled.result c.in-Some.answer c.in-Some.is c.settled.ensures.some in
    err_map _ _ c.in-Some.answer (λ e q run seen a who. later_none (g.Self.Store.numbers c.read-pass.result.0) (g.K.Clock.shows c.args.clock.now) (entry c.args.s.now c.args.at.site) c.args.by c.args.at (AskRead c.args.tx c.args.s.now c.args.object.now c.args.own.now) false (λ rest. Stays g.Self.Store.sees g.Self.Store.numbers c.read-pass.new.self c.read-pass.result.0 rest) run refl (q run seen)) (subst (λ w. IfErr w (λ e. (run : List (Call g.row.C-Effect.Denot)) → g.Self.Store.sees c.args.self.now c.args.pass run → Stays g.Self.Store.sees g.Self.Store.numbers c.read-pass.new.self c.read-pass.result.0 run)) (sym same.0) c.read-pass.ensures.err)

pub tick-pass-requires-clause-may : goal.tick-pass-requires-clause-may
tick-pass-requires-clause-may g c =
    let x = late_ok _ c.read-pass.result.1 (c.in-None.ensures.none refl) c.read-pass.ensures.ok in
    tick_may _ g.Self.Store.sees g.Self.Store.numbers g.Self.Store.sites g.Self.Store.parts g.Self.Store.stays g.met.Self.Store.legal g.met.Self.Store.keeps c.args.self.now c.read-pass.new.self c.read-pass.ensures.stays c.args.pass c.read-pass.result.0 c.read-pass.ensures.same c.args.by c.args.at (AskRead c.args.tx c.args.s.now c.args.object.now c.args.own.now) c.args.tx c.requires.may.0.held c.requires.may.0.place (MayRead (g.Self.Store.sites c.args.self.now) (g.Self.Store.parts c.args.self.now) c.args.by c.args.at c.args.tx c.args.s.now c.args.who.now c.args.object.now c.args.own.now) (read_again (g.Self.Store.sites c.args.self.now) (g.Self.Store.parts c.args.self.now) c.args.by c.args.at c.args.tx c.args.s.now c.args.who.now c.args.object.now c.args.own.now) (λ run h. h.0) (read_owned (g.Self.Store.sites c.args.self.now) (g.Self.Store.parts c.args.self.now) c.args.by c.args.at c.args.tx c.args.s.now c.args.who.now c.args.object.now c.args.own.now) x.0 x.1 (λ run seen h. x.2 run seen h.0 h.1) c.requires.may.0.run c.requires.may.0.seen (c.requires.may.0.allowed, c.requires.may.1) c.reading_for.result

pub returns-then-lacks_memory-clause-err : goal.returns-then-lacks_memory-clause-err
returns-then-lacks_memory-clause-err g c run seen a who =
    let x = late_ok _ c.read-pass.result.1 (c.in-None.ensures.none refl) c.read-pass.ensures.ok in
    stopped _ g.Self.Store.sees g.Self.Store.numbers g.Self.Store.sites g.Self.Store.parts g.Self.Store.stays g.met.Self.Store.legal g.met.Self.Store.keeps c.args.self.now c.read-pass.new.self c.read-pass.ensures.stays c.args.pass c.read-pass.result.0 c.read-pass.ensures.same c.args.by c.args.at (AskRead c.args.tx c.args.s.now c.args.object.now c.args.own.now) c.args.tx c.requires.may.0.held c.requires.may.0.place (MayRead (g.Self.Store.sites c.args.self.now) (g.Self.Store.parts c.args.self.now) c.args.by c.args.at c.args.tx c.args.s.now c.args.who.now c.args.object.now c.args.own.now) (read_again (g.Self.Store.sites c.args.self.now) (g.Self.Store.parts c.args.self.now) c.args.by c.args.at c.args.tx c.args.s.now c.args.who.now c.args.object.now c.args.own.now) (λ run h. h.0) (read_owned (g.Self.Store.sites c.args.self.now) (g.Self.Store.parts c.args.self.now) c.args.by c.args.at c.args.tx c.args.s.now c.args.who.now c.args.object.now c.args.own.now) x.0 x.1 (λ run seen h. x.2 run seen h.0 h.1) c.tick-pass.new.self c.tick-pass.ensures.stays c.tick-pass.result.0 c.tick-pass.ensures.same (g.K.Clock.shows c.args.clock.now) (entry c.args.s.now c.args.at.site) (lacking _ c.tick-pass.result.1 c.lacks_memory.result c.if-lacks_memory.true c.lacks_memory.ensures.ok c.tick-pass.ensures.err) run seen (a, who)

pub read-requires-clause-may : goal.read-requires-clause-may
read-requires-clause-may g c =
    let x = late_ok _ c.read-pass.result.1 (c.in-None.ensures.none refl) c.read-pass.ensures.ok in
    let y = sufficing _ c.tick-pass.result.1 c.lacks_memory.result c.if-lacks_memory.false c.lacks_memory.ensures.err c.tick-pass.ensures.ok in
    let m = again_may _ g.Self.Store.sees g.Self.Store.numbers g.Self.Store.sites g.Self.Store.parts g.Self.Store.stays g.met.Self.Store.legal g.met.Self.Store.keeps c.args.self.now c.read-pass.new.self c.read-pass.ensures.stays c.args.pass c.read-pass.result.0 c.read-pass.ensures.same c.args.by c.args.at (AskRead c.args.tx c.args.s.now c.args.object.now c.args.own.now) c.args.tx c.requires.may.0.held c.requires.may.0.place (MayRead (g.Self.Store.sites c.args.self.now) (g.Self.Store.parts c.args.self.now) c.args.by c.args.at c.args.tx c.args.s.now c.args.who.now c.args.object.now c.args.own.now) (read_again (g.Self.Store.sites c.args.self.now) (g.Self.Store.parts c.args.self.now) c.args.by c.args.at c.args.tx c.args.s.now c.args.who.now c.args.object.now c.args.own.now) (λ run h. h.0) (read_owned (g.Self.Store.sites c.args.self.now) (g.Self.Store.parts c.args.self.now) c.args.by c.args.at c.args.tx c.args.s.now c.args.who.now c.args.object.now c.args.own.now) x.0 x.1 (λ run seen h. x.2 run seen h.0 h.1) c.tick-pass.new.self c.tick-pass.ensures.stays c.tick-pass.result.0 c.tick-pass.ensures.same c.reading_for.result y.0 y.1 (g.K.Clock.shows c.args.clock.now) (entry c.args.s.now c.args.at.site) c.reading_for.ensures.told c.requires.may.0.run c.requires.may.0.seen (c.requires.may.0.allowed, c.requires.may.1) in
    m.0

pub returns-clause-ok : goal.returns-clause-ok
returns-clause-ok g c =
    let x = late_ok _ c.read-pass.result.1 (c.in-None.ensures.none refl) c.read-pass.ensures.ok in
    let y = sufficing _ c.tick-pass.result.1 c.lacks_memory.result c.if-lacks_memory.false c.lacks_memory.ensures.err c.tick-pass.ensures.ok in
    ok_map _ _ c.read.result.1
    (λ r q run seen a who. again _ g.Self.Store.sees g.Self.Store.numbers g.Self.Store.sites g.Self.Store.parts g.Self.Store.stays g.met.Self.Store.legal g.met.Self.Store.keeps c.args.self.now c.read-pass.new.self c.read-pass.ensures.stays c.args.pass c.read-pass.result.0 c.read-pass.ensures.same c.args.by c.args.at (AskRead c.args.tx c.args.s.now c.args.object.now c.args.own.now) c.args.tx c.requires.may.0.held c.requires.may.0.place (MayRead (g.Self.Store.sites c.args.self.now) (g.Self.Store.parts c.args.self.now) c.args.by c.args.at c.args.tx c.args.s.now c.args.who.now c.args.object.now c.args.own.now) (read_again (g.Self.Store.sites c.args.self.now) (g.Self.Store.parts c.args.self.now) c.args.by c.args.at c.args.tx c.args.s.now c.args.who.now c.args.object.now c.args.own.now) (λ run h. h.0) (read_owned (g.Self.Store.sites c.args.self.now) (g.Self.Store.parts c.args.self.now) c.args.by c.args.at c.args.tx c.args.s.now c.args.who.now c.args.object.now c.args.own.now) x.0 x.1 (λ run seen h. x.2 run seen h.0 h.1) c.tick-pass.new.self c.tick-pass.ensures.stays c.tick-pass.result.0 c.tick-pass.ensures.same c.reading_for.result y.0 y.1 (g.K.Clock.shows c.args.clock.now) (entry c.args.s.now c.args.at.site) c.reading_for.ensures.told c.read.result.0 c.read.ensures.same (is_late r) (λ rest. GoesOn g.Self.Store.sees g.Self.Store.numbers c.read.new.self c.read.result.0 rest (Some c.args.by) c.args.at (AskRead c.args.tx c.args.s.now c.args.object.now c.args.own.now) r) (λ run seen h a. q run seen a h.1) run seen (a, who)) c.read.ensures.ok

pub returns-clause-err : goal.returns-clause-err
returns-clause-err g c =
    let x = late_ok _ c.read-pass.result.1 (c.in-None.ensures.none refl) c.read-pass.ensures.ok in
    let y = sufficing _ c.tick-pass.result.1 c.lacks_memory.result c.if-lacks_memory.false c.lacks_memory.ensures.err c.tick-pass.ensures.ok in
    err_map _ _ c.read.result.1
    (λ e q run seen a who. again _ g.Self.Store.sees g.Self.Store.numbers g.Self.Store.sites g.Self.Store.parts g.Self.Store.stays g.met.Self.Store.legal g.met.Self.Store.keeps c.args.self.now c.read-pass.new.self c.read-pass.ensures.stays c.args.pass c.read-pass.result.0 c.read-pass.ensures.same c.args.by c.args.at (AskRead c.args.tx c.args.s.now c.args.object.now c.args.own.now) c.args.tx c.requires.may.0.held c.requires.may.0.place (MayRead (g.Self.Store.sites c.args.self.now) (g.Self.Store.parts c.args.self.now) c.args.by c.args.at c.args.tx c.args.s.now c.args.who.now c.args.object.now c.args.own.now) (read_again (g.Self.Store.sites c.args.self.now) (g.Self.Store.parts c.args.self.now) c.args.by c.args.at c.args.tx c.args.s.now c.args.who.now c.args.object.now c.args.own.now) (λ run h. h.0) (read_owned (g.Self.Store.sites c.args.self.now) (g.Self.Store.parts c.args.self.now) c.args.by c.args.at c.args.tx c.args.s.now c.args.who.now c.args.object.now c.args.own.now) x.0 x.1 (λ run seen h. x.2 run seen h.0 h.1) c.tick-pass.new.self c.tick-pass.ensures.stays c.tick-pass.result.0 c.tick-pass.ensures.same c.reading_for.result y.0 y.1 (g.K.Clock.shows c.args.clock.now) (entry c.args.s.now c.args.at.site) c.reading_for.ensures.told c.read.result.0 c.read.ensures.same false (λ rest. Stays g.Self.Store.sees g.Self.Store.numbers c.read.new.self c.read.result.0 rest) (λ run seen h a. q run seen) run seen (a, who)) c.read.ensures.err
