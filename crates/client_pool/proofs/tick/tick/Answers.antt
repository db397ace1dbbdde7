use Rattle.std.proofs.Common.{◌≡◌, refl, sym, ◌∙◌, subst, []}
use Rattle.std.specs.Prelude.{None}
use Rattle.crdt_core.specs.KindsOf.{kinds_of}
use Rattle.world_model.specs.rules.Event.{AskTick}
use Rattle.txn_session.specs.Calls.{GoesOn, MayCall}
use Rattle.txn_session.proofs.Results.{if_ok}
use Rattle.txn_session.proofs.Acting.{legal_after}
use Rattle.txn_session.proofs.Waiting.{tick_quiet}
use Rattle.client_pool.specs.Deeds.{Ticks}
use Rattle.client_pool.proofs.Answers.{tick_done}
use Rattle.client_pool.proofs.Telling.{told_done, told_again, told_stopped}
use Rattle.client_pool.proofs.Coming.{ready_next}
use Rattle.client_pool.proofs.Asking.{clause_here, asked_done, asked_again, asked_stopped}
use Rattle.client_pool.proofs.Ticking.{quiet_asks, may_ask}
use Rattle.client_pool.proofs.tick.tick.Goals as goal

pub returns-in-Done-clause-ok : goal.returns-in-Done-clause-ok
returns-in-Done-clause-ok g c =
    let r = c.tick-next in let v = c.loop.invariant in let s = c.args.session.now in
    let t = told_done r.result.1 c.in-Done.line (sym c.told.ensures ∙ c.in-Done.is) in
    let stays = c.requires.shared.same c.loop.store r.new.self r.ensures.stays in
    let legal = legal_after (kinds_of g.C.Crdt.laws) g.S.Store.sees g.S.Store.sites g.S.Store.parts g.S.Store.stays g.met.S.Store.legal g.met.S.Store.keeps c.args.store c.args.store (g.met.S.Store.rests c.args.store) r.result.0 s.sites s.parts c.requires.sites c.requires.parts in
    let h = clause_here g.S.Store.sees (λ w run. GoesOn g.S.Store.sees g.S.Store.numbers w r.result.0 run None c.args.at (AskTick c.args.reading) c.in-Done.line) c.args.store c.loop.store r.new.self c.loop.pass s v.0 stays (λ run seen holds. if_ok _ _ _ t.0 r.ensures.ok run seen) in
    let asks = quiet_asks (kinds_of g.C.Crdt.laws) g.S.Store.sees g.S.Store.numbers c.args.store c.loop.pass r.result.0 s legal c.args.at (AskTick c.args.reading) c.in-Done.line (λ e t a. tick_quiet e c.args.reading t a) h in
    asked_done g.S.Store.sees g.S.Store.numbers c.args.store c.args.pass c.loop.pass r.result.0 s s s [] v.1 r.ensures.same c.args.at (AskTick c.args.reading) c.in-Done.line asks t.1 (Ticks c.args.at) (λ before e b y. tick_done before c.args.at e c.args.reading b y) (λ o. o)

pub returns-in-Stopped-clause-err : goal.returns-in-Stopped-clause-err
returns-in-Stopped-clause-err g c =
    let r = c.tick-next in let v = c.loop.invariant in let s = c.args.session.now in
    let t = told_stopped r.result.1 (sym c.told.ensures ∙ c.in-Stopped.is) in
    let stays = c.requires.shared.same c.loop.store r.new.self r.ensures.stays in
    let legal = legal_after (kinds_of g.C.Crdt.laws) g.S.Store.sees g.S.Store.sites g.S.Store.parts g.S.Store.stays g.met.S.Store.legal g.met.S.Store.keeps c.args.store c.args.store (g.met.S.Store.rests c.args.store) r.result.0 s.sites s.parts c.requires.sites c.requires.parts in
    let h = clause_here g.S.Store.sees (λ w run. GoesOn g.S.Store.sees g.S.Store.numbers w r.result.0 run None c.args.at (AskTick c.args.reading) t.0) c.args.store c.loop.store r.new.self c.loop.pass s v.0 stays (λ run seen holds. if_ok _ _ _ t.1 r.ensures.ok run seen) in
    let asks = quiet_asks (kinds_of g.C.Crdt.laws) g.S.Store.sees g.S.Store.numbers c.args.store c.loop.pass r.result.0 s legal c.args.at (AskTick c.args.reading) t.0 (λ e t a. tick_quiet e c.args.reading t a) h in
    asked_stopped g.S.Store.sees g.S.Store.numbers c.args.store c.args.pass c.loop.pass r.result.0 s s s [] v.1 r.ensures.same c.args.at (AskTick c.args.reading) t.0 asks t.2 c.requires.ready

pub loop-preserved : goal.loop-preserved
loop-preserved g c =
    let r = c.tick-next in let v = c.loop.invariant in let s = c.args.session.now in
    let t = told_again r.result.1 (sym c.told.ensures ∙ c.in-Again.is) in
    let stays = c.requires.shared.same c.loop.store r.new.self r.ensures.stays in
    let legal = legal_after (kinds_of g.C.Crdt.laws) g.S.Store.sees g.S.Store.sites g.S.Store.parts g.S.Store.stays g.met.S.Store.legal g.met.S.Store.keeps c.args.store c.args.store (g.met.S.Store.rests c.args.store) r.result.0 s.sites s.parts c.requires.sites c.requires.parts in
    let h = clause_here g.S.Store.sees (λ w run. GoesOn g.S.Store.sees g.S.Store.numbers w r.result.0 run None c.args.at (AskTick c.args.reading) t.0) c.args.store c.loop.store r.new.self c.loop.pass s v.0 stays (λ run seen holds. if_ok _ _ _ t.1 r.ensures.ok run seen) in
    let asks = quiet_asks (kinds_of g.C.Crdt.laws) g.S.Store.sees g.S.Store.numbers c.args.store c.loop.pass r.result.0 s legal c.args.at (AskTick c.args.reading) t.0 (λ e t a. tick_quiet e c.args.reading t a) h in
    (stays ∙ v.0, asked_again g.S.Store.sees g.S.Store.numbers c.args.store c.args.pass c.loop.pass r.result.0 s s s [] v.1 r.ensures.same c.args.at (AskTick c.args.reading) t.0 asks t.2 (λ o. o))

pub tick-next-requires-clause-may : goal.tick-next-requires-clause-may
tick-next-requires-clause-may g c =
    let s = c.args.session.now in
    let ready = ready_next g.S.Store.sees g.S.Store.numbers c.args.store c.args.pass c.loop.pass s s [] c.requires.ready c.loop.invariant.1 in
    may_ask g.S.Store.sees g.S.Store.numbers g.S.Store.sites g.S.Store.parts c.args.store c.loop.store (sym c.loop.invariant.0) c.loop.pass s c.requires.sites c.requires.parts ready c.args.at c.requires.place (AskTick c.args.reading) (record { may = tt; mine = tt })
