use Rattle.std.proofs.Common.{◌≡◌, inr, List, refl, subst}
use Rattle.std.specs.Prelude.{IfOk, OnErr}
use Rattle.txn_session.specs.Calls.{Call}
use Rattle.txn_session.specs.Session.{SessionState}
use Rattle.world_model.specs.declared.commit.Next.{Next}
use Rattle.world_model.specs.declared.step.Step.{Step}
use Rattle.txn_session.specs.Opens.{begun_end, stepped, next_said, EndsAs}
use Rattle.txn_session.specs.Holds.{Holds, next_of}
use Rattle.txn_session.specs.SessionWaits.{StepsLater, StepWaits}
use Rattle.txn_session.proofs.Results.{if_err, ok_map, err_map, on_err_map}
use Rattle.txn_session.proofs.Ending.{begun_holds, begun_same, not_idle}
use Rattle.txn_session.proofs.session.Session.commit_step_wait.Goals as goal

pub returns : goal.returns
returns g c = record {
  stays = c.end_step_wait.ensures.stays;
  same = c.end_step_wait.ensures.same;
  no_txn = (
    λ h. let bad = if_err _ _ _ h c.end_step_wait.ensures.only in absurd cc,
    λ h. absurd (not_idle _ c.args.self.now c.self.view_is c.self.inside.stage (record { tx = c.self.inside.tx; s = c.self.inside.s; by = c.self.inside.by; updates = c.self.inside.updates.items }) c.self.inside.lead c.self.inside.commit refl c.in_default.not-Idle h),
  );
  only = err_map _ _ _ (λ e h. inr h) c.end_step_wait.ensures.only;
  err = subst (λ (w : SessionState g.row.C-Effect.Denot). OnErr c.end_step_wait.result.1 (c.end_step_wait.new.self ≡ w)) c.start.ensures c.end_step_wait.ensures.err;
  stepped = subst (λ (w : SessionState g.row.C-Effect.Denot). IfOk c.end_step_wait.result.1 (λ r. c.end_step_wait.new.self ≡ stepped w r.0)) c.start.ensures c.end_step_wait.ensures.stepped;
  next = subst (λ (w : SessionState g.row.C-Effect.Denot). IfOk c.end_step_wait.result.1 (λ r. r.1 ≡ next_said w.doing r.0)) c.start.ensures c.end_step_wait.ensures.next;
  ended = subst (λ (w : SessionState g.row.C-Effect.Denot). IfOk c.end_step_wait.result.1 (λ r. EndsAs w.name (next_of w.doing) r.0)) c.start.ensures c.end_step_wait.ensures.ended;
  steps =
      let f : (r : Step × Next) → ((run : List (Call g.row.C-Effect.Denot)) → g.S.Store.sees c.args.store.now c.args.pass run → Holds (begun_end c.args.self.now) run → StepsLater g.S.Store.sees g.S.Store.numbers (g.K.Clock.shows c.args.clock.now) c.end_step_wait.new.store c.end_step_wait.result.0 run (begun_end c.args.self.now) c.end_step_wait.new.self r.0 (begun_end c.args.self.now).doing (next_of (begun_end c.args.self.now).doing)) → (run : List (Call g.row.C-Effect.Denot)) → g.S.Store.sees c.args.store.now c.args.pass run → Holds c.args.self.now run → StepsLater g.S.Store.sees g.S.Store.numbers (g.K.Clock.shows c.args.clock.now) c.end_step_wait.new.store c.end_step_wait.result.0 run (begun_end c.args.self.now) c.end_step_wait.new.self r.0 (begun_end c.args.self.now).doing (next_of (begun_end c.args.self.now).doing) = λ r h run seen k. h run seen (begun_holds c.args.self.now run k) in
      ok_map _ _ _ f (subst (λ (w : SessionState g.row.C-Effect.Denot). IfOk c.end_step_wait.result.1 (λ r. (run : List (Call g.row.C-Effect.Denot)) → g.S.Store.sees c.args.store.now c.args.pass run → Holds w run → StepsLater g.S.Store.sees g.S.Store.numbers (g.K.Clock.shows c.args.clock.now) c.end_step_wait.new.store c.end_step_wait.result.0 run w c.end_step_wait.new.self r.0 w.doing (next_of w.doing))) c.start.ensures c.end_step_wait.ensures.steps);
  waits =
      let f : ((run : List (Call g.row.C-Effect.Denot)) → g.S.Store.sees c.args.store.now c.args.pass run → Holds (begun_end c.args.self.now) run → StepWaits g.S.Store.sees g.S.Store.numbers (g.K.Clock.shows c.args.clock.now) c.end_step_wait.new.store c.end_step_wait.result.0 run (begun_end c.args.self.now) c.end_step_wait.new.self (begun_end c.args.self.now).doing (next_of (begun_end c.args.self.now).doing)) → (run : List (Call g.row.C-Effect.Denot)) → g.S.Store.sees c.args.store.now c.args.pass run → Holds c.args.self.now run → StepWaits g.S.Store.sees g.S.Store.numbers (g.K.Clock.shows c.args.clock.now) c.end_step_wait.new.store c.end_step_wait.result.0 run (begun_end c.args.self.now) c.end_step_wait.new.self (begun_end c.args.self.now).doing (next_of (begun_end c.args.self.now).doing) = λ h run seen k. h run seen (begun_holds c.args.self.now run k) in
      on_err_map _ _ _ f (subst (λ (w : SessionState g.row.C-Effect.Denot). OnErr c.end_step_wait.result.1 ((run : List (Call g.row.C-Effect.Denot)) → g.S.Store.sees c.args.store.now c.args.pass run → Holds w run → StepWaits g.S.Store.sees g.S.Store.numbers (g.K.Clock.shows c.args.clock.now) c.end_step_wait.new.store c.end_step_wait.result.0 run w c.end_step_wait.new.self w.doing (next_of w.doing))) c.start.ensures c.end_step_wait.ensures.waits);
}

pub returns-in-Idle-clause-err : goal.returns-in-Idle-clause-err
returns-in-Idle-clause-err g c = begun_same _ c.args.self.now c.self.view_is c.self.inside.stage (record { tx = c.self.inside.tx; s = c.self.inside.s; by = c.self.inside.by; updates = c.self.inside.updates.items }) c.self.inside.lead c.self.inside.commit refl (λ h. let e = c.in-Idle.is in absurd cc)
