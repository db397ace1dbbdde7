use Rattle.std.proofs.Common.{◌≡◌, refl, sym, ◌∙◌}
use Rattle.txn_session.specs.Holds.{next_of}
use Rattle.txn_session.specs.Opens.{begun_end}
use Rattle.txn_session.specs.SessionWaits.{StepsLater}
use Rattle.txn_session.proofs.Results.{if_ok}
use Rattle.client_pool.proofs.Asking.{clause_here}
use Rattle.client_pool.proofs.Steps.{was_made}
use Rattle.client_pool.proofs.Committing.{end_idle, end_named, end_came}
use Rattle.client_pool.proofs.commit.end.Goals as goal

pub returns-in_default : goal.returns-in_default
returns-in_default g c =
    let r = c.commit_step_wait-pass in
    let m = was_made r.result.1 (λ e. c.in_default.not-NoMemory (c.progress_of.ensures ∙ e)) in
    let us = if_ok _ _ _ m.1 r.ensures.stepped in
    let stays = c.requires.shared.same c.args.store r.new.store r.ensures.stays in
    let h = clause_here g.S.Store.sees (λ w run. StepsLater g.S.Store.sees g.S.Store.numbers (g.K.Clock.shows c.args.clock.now) w r.result.0 run (begun_end c.args.session.now) r.new.self m.0.0 (begun_end c.args.session.now).doing (next_of (begun_end c.args.session.now).doing)) c.args.store c.args.store r.new.store c.args.pass c.args.session.now refl stays (if_ok _ _ _ m.1 r.ensures.steps) in
    let s = c.args.session.now in
    record {
      same = r.ensures.same;
      named = end_named g.S.Store.sees g.S.Store.numbers c.args.store (g.K.Clock.shows c.args.clock.now) c.args.pass r.result.0 s r.new.self m.0.0 r.ensures.same c.requires.next us;
      idle = end_idle g.S.Store.sees g.S.Store.numbers c.args.store (g.K.Clock.shows c.args.clock.now) c.args.pass r.result.0 s r.new.self m.0.0 r.ensures.same c.requires.next us;
      ok = end_came g.S.Store.sees g.S.Store.numbers c.args.store (g.K.Clock.shows c.args.clock.now) c.args.pass r.result.0 s r.new.self m.0.0 r.ensures.same c.requires.next us h;
      err = tt;
    }
