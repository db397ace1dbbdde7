use Rattle.std.proofs.Common.{◌≡◌, inr, List, refl, sym, ap, ◌∙◌, subst}
use Rattle.std.specs.Prelude.{IfOk, OnErr}
use Rattle.txn_session.specs.Calls.{Call}
use Rattle.txn_session.specs.Session.{SessionState}
use Rattle.world_model.specs.declared.commit.Next.{Next}
use Rattle.world_model.specs.declared.step.Step.{Step}
use Rattle.txn_session.specs.Opens.{begun_end, stepped, next_said, EndsAs}
use Rattle.txn_session.specs.Holds.{Holds, MakesStep, TellsStep, Waits, next_of}
use Rattle.txn_session.proofs.Results.{if_err, ok_map, err_map, on_err_map}
use Rattle.txn_session.proofs.Ending.{begun_mays, begun_holds, begun_same, not_idle, waits_none}
use Rattle.txn_session.proofs.session.Session.commit_step.Goals as goal

pub end_step-requires-clause-sites : goal.end_step-requires-clause-sites
end_step-requires-clause-sites g c = c.requires.sites ∙ ap (λ (w : SessionState g.row.C-Effect.Denot). w.sites) (sym c.start.ensures)

pub end_step-requires-clause-parts : goal.end_step-requires-clause-parts
end_step-requires-clause-parts g c = c.requires.parts ∙ ap (λ (w : SessionState g.row.C-Effect.Denot). w.parts) (sym c.start.ensures)

pub end_step-requires-clause-holds : goal.end_step-requires-clause-holds
end_step-requires-clause-holds g c = begun_mays g.S.Store.sees g.S.Store.numbers c.args.store.now c.args.pass c.args.self.now c.start.new.self c.start.ensures c.requires.holds

pub returns-clause-no_txn : goal.returns-clause-no_txn
returns-clause-no_txn g c = (
  λ h. let bad = if_err _ _ _ h c.end_step.ensures.only in absurd cc,
  λ h. absurd (not_idle _ c.args.self.now c.self.view_is c.self.inside.stage (record { tx = c.self.inside.tx; s = c.self.inside.s; by = c.self.inside.by; updates = c.self.inside.updates.items }) c.self.inside.lead c.self.inside.commit refl c.in_default.not-Idle h),
)

pub returns-clause-only : goal.returns-clause-only
returns-clause-only g c = err_map _ _ _ (λ e h. inr h) c.end_step.ensures.only

pub returns-clause-err : goal.returns-clause-err
returns-clause-err g c = subst (λ (w : SessionState g.row.C-Effect.Denot). OnErr c.end_step.result.1 (c.end_step.new.self ≡ w)) c.start.ensures c.end_step.ensures.err

pub returns-clause-stepped : goal.returns-clause-stepped
returns-clause-stepped g c = subst (λ (w : SessionState g.row.C-Effect.Denot). IfOk c.end_step.result.1 (λ r. c.end_step.new.self ≡ stepped w r.0)) c.start.ensures c.end_step.ensures.stepped

pub returns-clause-next : goal.returns-clause-next
returns-clause-next g c = subst (λ (w : SessionState g.row.C-Effect.Denot). IfOk c.end_step.result.1 (λ r. r.1 ≡ next_said w.doing r.0)) c.start.ensures c.end_step.ensures.next

pub returns-clause-ended : goal.returns-clause-ended
returns-clause-ended g c = subst (λ (w : SessionState g.row.C-Effect.Denot). IfOk c.end_step.result.1 (λ r. EndsAs w.name (next_of w.doing) r.0)) c.start.ensures c.end_step.ensures.ended

pub returns-clause-steps : goal.returns-clause-steps
returns-clause-steps g c =
    let f : (r : Step × Next) → ((run : List (Call g.row.C-Effect.Denot)) → g.S.Store.sees c.args.store.now c.args.pass run → Holds (begun_end c.args.self.now) run → MakesStep g.S.Store.sees g.S.Store.numbers c.end_step.new.store c.end_step.result.0 run (begun_end c.args.self.now) c.end_step.new.self r.0 (begun_end c.args.self.now).doing (next_of (begun_end c.args.self.now).doing)) → (run : List (Call g.row.C-Effect.Denot)) → g.S.Store.sees c.args.store.now c.args.pass run → Holds c.args.self.now run → MakesStep g.S.Store.sees g.S.Store.numbers c.end_step.new.store c.end_step.result.0 run (begun_end c.args.self.now) c.end_step.new.self r.0 (begun_end c.args.self.now).doing (next_of (begun_end c.args.self.now).doing) = λ r h run seen k. h run seen (begun_holds c.args.self.now run k) in
    ok_map _ _ _ f (subst (λ (w : SessionState g.row.C-Effect.Denot). IfOk c.end_step.result.1 (λ r. (run : List (Call g.row.C-Effect.Denot)) → g.S.Store.sees c.args.store.now c.args.pass run → Holds w run → MakesStep g.S.Store.sees g.S.Store.numbers c.end_step.new.store c.end_step.result.0 run w c.end_step.new.self r.0 w.doing (next_of w.doing))) c.start.ensures c.end_step.ensures.steps)

pub returns-clause-waits : goal.returns-clause-waits
returns-clause-waits g c =
    let f : ((run : List (Call g.row.C-Effect.Denot)) → g.S.Store.sees c.args.store.now c.args.pass run → Holds (begun_end c.args.self.now) run → Waits g.S.Store.sees g.S.Store.numbers c.end_step.new.store c.end_step.result.0 run (begun_end c.args.self.now) c.end_step.new.self) → (run : List (Call g.row.C-Effect.Denot)) → g.S.Store.sees c.args.store.now c.args.pass run → Holds c.args.self.now run → Waits g.S.Store.sees g.S.Store.numbers c.end_step.new.store c.end_step.result.0 run (begun_end c.args.self.now) c.end_step.new.self = λ h run seen k. h run seen (begun_holds c.args.self.now run k) in
    on_err_map _ _ _ f (subst (λ (w : SessionState g.row.C-Effect.Denot). OnErr c.end_step.result.1 ((run : List (Call g.row.C-Effect.Denot)) → g.S.Store.sees c.args.store.now c.args.pass run → Holds w run → Waits g.S.Store.sees g.S.Store.numbers c.end_step.new.store c.end_step.result.0 run w c.end_step.new.self)) c.start.ensures c.end_step.ensures.waits)

pub returns-in-Idle-clause-err : goal.returns-in-Idle-clause-err
returns-in-Idle-clause-err g c = begun_same _ c.args.self.now c.self.view_is c.self.inside.stage (record { tx = c.self.inside.tx; s = c.self.inside.s; by = c.self.inside.by; updates = c.self.inside.updates.items }) c.self.inside.lead c.self.inside.commit refl (λ h. let e = c.in-Idle.is in absurd cc)

pub returns-in-Idle-clause-waits : goal.returns-in-Idle-clause-waits
returns-in-Idle-clause-waits g c run seen h =
    let same = begun_same _ c.args.self.now c.self.view_is c.self.inside.stage (record { tx = c.self.inside.tx; s = c.self.inside.s; by = c.self.inside.by; updates = c.self.inside.updates.items }) c.self.inside.lead c.self.inside.commit refl (λ h. let e = c.in-Idle.is in absurd cc) in
    waits_none g.S.Store.sees g.S.Store.numbers c.args.store.now c.args.pass run c.args.self.now _ c.args.self.now same refl seen h c.requires.holds.held

pub returns-clause-tells : goal.returns-clause-tells
returns-clause-tells g c = subst (λ (w : SessionState g.row.C-Effect.Denot). IfOk c.end_step.result.1 (λ r. TellsStep g.S.Store.tells c.args.store.now c.end_step.new.store w r.0 (next_of w.doing))) c.start.ensures c.end_step.ensures.tells
