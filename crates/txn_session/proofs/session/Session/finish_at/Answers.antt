use Rattle.std.proofs.Common.{None, ◌≡◌, refl, sym, ap, ◌∙◌, subst}
use Rattle.world_model.specs.declared.commit.What.TheVariants as what
use Rattle.world_model.specs.rules.Event.{AskFinish}
use Rattle.txn_session.specs.Session.{SessionState, Txn}
use Rattle.txn_session.specs.Opens.{EndsAs}
use Rattle.txn_session.specs.Holds.{MakesStep, TellsStep, next_of}
use Rattle.txn_session.proofs.Results.{if_ok, if_err}
use Rattle.txn_session.proofs.Acting.{legal_after, held_after, stays_waits}
use Rattle.txn_session.proofs.Ending.{is_ending, doing_end, stepped_is, said_is, goes_here, may_here, finish_may, finish_makes}
use Rattle.txn_session.proofs.session.Session.finish_at.Goals as goal

pub finish-pass-requires : goal.finish-pass-requires
finish-pass-requires g c =
    let f = c.self.inside in
    let v = c.self.view_is in
    let txn : Txn g.row.C-Effect.Denot = record { tx = f.tx; s = f.s; by = f.by; updates = f.updates.items } in
    let k = is_ending _ c.args.self.now v f.stage txn f.lead f.commit refl (what.Finish c.args.part c.args.c) c.requires.next refl in
    let od = doing_end _ c.args.self.now v f.stage txn f.lead f.commit refl k in
    let et = ap (λ (w : SessionState g.row.C-Effect.Denot). w.site) v in
    let ea : (AskFinish f.tx c.args.c) ≡ (AskFinish f.tx c.args.c) = refl in
    let m = c.requires.holds in
    let q = finish_may c.args.self.now txn f.lead f.commit od m.run m.holds c.args.part c.args.c c.requires.next in
    record { may = may_here g.S.Store.sees g.S.Store.numbers g.S.Store.sites g.S.Store.parts c.args.store.now c.args.store.now c.args.pass c.args.pass c.args.self.now c.requires.sites c.requires.parts (None) f.site c.args.part et (AskFinish f.tx c.args.c) (AskFinish f.tx c.args.c) ea tt m.run m.seen q.0 q.1 }

pub returns-in-Ok-clause-stepped : goal.returns-in-Ok-clause-stepped
returns-in-Ok-clause-stepped g c =
    let f = c.self.inside in
    let v = c.self.view_is in
    let txn : Txn g.row.C-Effect.Denot = record { tx = f.tx; s = f.s; by = f.by; updates = f.updates.items } in
    let k = is_ending _ c.args.self.now v f.stage txn f.lead f.commit refl (what.Finish c.args.part c.args.c) c.requires.next refl in
    let od = doing_end _ c.args.self.now v f.stage txn f.lead f.commit refl k in
    stepped_is _ c.args.self.now v f.stage txn f.lead f.commit c.answer-next.new.self od k c.in-Ok.step c.answer-next.ensures.commit (what.Finish c.args.part c.args.c) c.requires.next refl f.dependency refl

pub returns-in-Ok-clause-next : goal.returns-in-Ok-clause-next
returns-in-Ok-clause-next g c =
    let f = c.self.inside in
    let v = c.self.view_is in
    let txn : Txn g.row.C-Effect.Denot = record { tx = f.tx; s = f.s; by = f.by; updates = f.updates.items } in
    let k = is_ending _ c.args.self.now v f.stage txn f.lead f.commit refl (what.Finish c.args.part c.args.c) c.requires.next refl in
    let od = doing_end _ c.args.self.now v f.stage txn f.lead f.commit refl k in
    c.answer-next.ensures.next ∙ said_is c.args.self.now txn f.lead f.commit od c.in-Ok.step

pub returns-in-Ok-clause-ended : goal.returns-in-Ok-clause-ended
returns-in-Ok-clause-ended g c = subst (λ x. EndsAs c.args.self.now.name x c.in-Ok.step) (sym c.requires.next) tt

pub returns-in-Ok-clause-steps : goal.returns-in-Ok-clause-steps
returns-in-Ok-clause-steps g c run seen h =
    let f = c.self.inside in
    let v = c.self.view_is in
    let txn : Txn g.row.C-Effect.Denot = record { tx = f.tx; s = f.s; by = f.by; updates = f.updates.items } in
    let k = is_ending _ c.args.self.now v f.stage txn f.lead f.commit refl (what.Finish c.args.part c.args.c) c.requires.next refl in
    let od = doing_end _ c.args.self.now v f.stage txn f.lead f.commit refl k in
    let et = ap (λ (w : SessionState g.row.C-Effect.Denot). w.site) v in
    let ea : (AskFinish f.tx c.args.c) ≡ (AskFinish f.tx c.args.c) = refl in
    let legal = legal_after _ g.S.Store.sees g.S.Store.sites g.S.Store.parts g.S.Store.stays g.met.S.Store.legal g.met.S.Store.keeps c.args.store.now c.finish-pass.new.self c.finish-pass.ensures.stays c.finish-pass.result.0 c.args.self.now.sites c.args.self.now.parts c.requires.sites c.requires.parts in
    let held = held_after g.S.Store.numbers c.args.pass c.finish-pass.result.0 c.finish-pass.ensures.same c.args.self.now.doing c.requires.holds.held in
    let st = stepped_is _ c.args.self.now v f.stage txn f.lead f.commit c.answer-next.new.self od k c.in-Ok.step c.answer-next.ensures.commit (what.Finish c.args.part c.args.c) c.requires.next refl f.dependency refl in
    let q = finish_may c.args.self.now txn f.lead f.commit od run h c.args.part c.args.c c.requires.next in
    let goes = goes_here g.S.Store.sees g.S.Store.numbers g.S.Store.sites g.S.Store.parts c.args.store.now c.finish-pass.new.self c.args.pass c.finish-pass.result.0 c.args.self.now c.requires.sites c.requires.parts (None) f.site c.args.part et (AskFinish f.tx c.args.c) (AskFinish f.tx c.args.c) ea c.in-Ok.step (if_ok _ _ _ c.in-Ok.is c.finish-pass.ensures.ok) run seen q.1 in
    subst (λ (w : SessionState g.row.C-Effect.Denot). MakesStep g.S.Store.sees g.S.Store.numbers c.finish-pass.new.self c.finish-pass.result.0 run c.args.self.now w c.in-Ok.step c.args.self.now.doing (next_of c.args.self.now.doing)) (sym st)
    (finish_makes _ g.S.Store.sees g.S.Store.numbers c.finish-pass.new.self c.finish-pass.result.0 c.args.self.now txn f.lead f.commit od legal held run h c.in-Ok.step c.args.part c.args.c c.requires.next goes)

pub returns-in-Err-clause-waits : goal.returns-in-Err-clause-waits
returns-in-Err-clause-waits g c run seen h =
    let legal = legal_after _ g.S.Store.sees g.S.Store.sites g.S.Store.parts g.S.Store.stays g.met.S.Store.legal g.met.S.Store.keeps c.args.store.now c.finish-pass.new.self c.finish-pass.ensures.stays c.finish-pass.result.0 c.args.self.now.sites c.args.self.now.parts c.requires.sites c.requires.parts in
    let held = held_after g.S.Store.numbers c.args.pass c.finish-pass.result.0 c.finish-pass.ensures.same c.args.self.now.doing c.requires.holds.held in
    stays_waits _ g.S.Store.sees g.S.Store.numbers c.finish-pass.new.self c.finish-pass.result.0 c.args.self.now legal held run h (if_err _ _ _ c.in-Err.is c.finish-pass.ensures.err run seen)

pub returns-in-Ok-clause-tells : goal.returns-in-Ok-clause-tells
returns-in-Ok-clause-tells g c =
    subst (λ x. TellsStep g.S.Store.tells c.args.store.now c.finish-pass.new.self c.args.self.now c.in-Ok.step x) (sym c.requires.next)
    (subst (λ (w : SessionState g.row.C-Effect.Denot). g.S.Store.tells c.args.store.now c.finish-pass.new.self (record { site = w.site; part = c.args.part }) c.in-Ok.step) c.self.view_is (if_ok _ _ _ c.in-Ok.is c.finish-pass.ensures.tells))
