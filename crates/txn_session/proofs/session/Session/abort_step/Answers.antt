use Rattle.std.proofs.Common.{◌≡◌, inr, sym, ap, ◌∙◌, subst}
use Rattle.txn_session.specs.Session.{SessionState}
use Rattle.txn_session.specs.Opens.{stepped, EndsAs}
use Rattle.txn_session.specs.Holds.{Holds, MakesStep, TellsStep, Waits, next_of}
use Rattle.txn_session.proofs.Results.{if_ok, if_err, on_err}
use Rattle.txn_session.proofs.Ending.{given_up_mays, given_up_holds}
use Rattle.txn_session.proofs.session.Session.abort_step.Goals as goal

pub end_step-pass-requires-clause-sites : goal.end_step-pass-requires-clause-sites
end_step-pass-requires-clause-sites g c = c.requires.sites ∙ ap (λ (w : SessionState g.row.C-Effect.Denot). w.sites) (sym c.give_up.ensures)

pub end_step-pass-requires-clause-parts : goal.end_step-pass-requires-clause-parts
end_step-pass-requires-clause-parts g c = c.requires.parts ∙ ap (λ (w : SessionState g.row.C-Effect.Denot). w.parts) (sym c.give_up.ensures)

pub end_step-pass-requires-clause-holds : goal.end_step-pass-requires-clause-holds
end_step-pass-requires-clause-holds g c = given_up_mays g.S.Store.sees g.S.Store.numbers c.args.store.now c.args.pass c.args.self.now c.give_up.new.self c.give_up.ensures c.requires.holds

pub returns-in-Ok-clause-stepped : goal.returns-in-Ok-clause-stepped
returns-in-Ok-clause-stepped g c = subst (λ (w : SessionState g.row.C-Effect.Denot). c.end_step-pass.new.self ≡ stepped w c.in-Ok.done.0) c.give_up.ensures (if_ok _ _ _ c.in-Ok.is c.end_step-pass.ensures.stepped)

pub returns-in-Ok-clause-ended : goal.returns-in-Ok-clause-ended
returns-in-Ok-clause-ended g c = subst (λ (w : SessionState g.row.C-Effect.Denot). EndsAs w.name (next_of w.doing) c.in-Ok.done.0) c.give_up.ensures (if_ok _ _ _ c.in-Ok.is c.end_step-pass.ensures.ended)

pub returns-in-Ok-clause-steps : goal.returns-in-Ok-clause-steps
returns-in-Ok-clause-steps g c run seen h =
    let all = if_ok _ _ _ c.in-Ok.is c.end_step-pass.ensures.steps in
    subst (λ (w : SessionState g.row.C-Effect.Denot). MakesStep g.S.Store.sees g.S.Store.numbers c.end_step-pass.new.store c.end_step-pass.result.0 run w c.end_step-pass.new.self c.in-Ok.done.0 w.doing (next_of w.doing)) c.give_up.ensures (all run seen (subst (λ (w : SessionState g.row.C-Effect.Denot). Holds w run) (sym c.give_up.ensures) (given_up_holds c.args.self.now run h)))

pub returns-in-Err-clause-only : goal.returns-in-Err-clause-only
returns-in-Err-clause-only g c = inr (if_err _ _ _ c.in-Err.is c.end_step-pass.ensures.only)

pub returns-in-Err-clause-err : goal.returns-in-Err-clause-err
returns-in-Err-clause-err g c = on_err _ _ _ c.in-Err.is c.end_step-pass.ensures.err ∙ c.give_up.ensures

pub returns-in-Err-clause-waits : goal.returns-in-Err-clause-waits
returns-in-Err-clause-waits g c run seen h =
    let all = on_err _ _ _ c.in-Err.is c.end_step-pass.ensures.waits in
    subst (λ (w : SessionState g.row.C-Effect.Denot). Waits g.S.Store.sees g.S.Store.numbers c.end_step-pass.new.store c.end_step-pass.result.0 run w c.end_step-pass.new.self) c.give_up.ensures (all run seen (subst (λ (w : SessionState g.row.C-Effect.Denot). Holds w run) (sym c.give_up.ensures) (given_up_holds c.args.self.now run h)))

pub returns-in-Ok-clause-tells : goal.returns-in-Ok-clause-tells
returns-in-Ok-clause-tells g c = subst (λ (w : SessionState g.row.C-Effect.Denot). TellsStep g.S.Store.tells c.args.store.now c.end_step-pass.new.store w c.in-Ok.done.0 (next_of w.doing)) c.give_up.ensures (if_ok _ _ _ c.in-Ok.is c.end_step-pass.ensures.tells)
