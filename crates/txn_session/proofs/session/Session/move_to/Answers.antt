use Rattle.std.proofs.Common.{sym, ap, ◌∙◌, subst}
use Rattle.world_model.specs.declared.step.Step.TheVariants as step
use Rattle.txn_session.specs.Session.{SessionState, moved_to}
use Rattle.txn_session.specs.Holds.{Holds}
use Rattle.txn_session.proofs.Opening.{idle_in, idle_holds}
use Rattle.txn_session.proofs.session.Session.move_to.Goals as goal

pub returns-in-Ok-clause-answer : goal.returns-in-Ok-clause-answer
returns-in-Ok-clause-answer g c = ap (λ n. step.Moved n c.args.site) (c.in-Ok.ensures ∙ ap (λ (w : SessionState g.row.C-Effect.Denot). w.name) c.self.view_is)

pub returns-in-Ok-clause-moved : goal.returns-in-Ok-clause-moved
returns-in-Ok-clause-moved g c = (λ i. moved_to (c.self.view_is i) c.args.site)

pub returns-in-Ok-clause-holds : goal.returns-in-Ok-clause-holds
returns-in-Ok-clause-holds g c run h =
    let idle = sym (ap (λ (w : SessionState g.row.C-Effect.Denot). w.doing) c.self.view_is) ∙ idle_in c.self.inside.stage (record { tx = c.self.inside.tx; s = c.self.inside.s; by = c.self.inside.by; updates = c.self.inside.updates.items }) c.self.inside.lead c.self.inside.commit c.in-Idle.is in
    subst (λ (w : SessionState g.row.C-Effect.Denot). Holds w run) (λ i. moved_to (sym c.self.view_is i) c.args.site) (idle_holds (moved_to c.args.self.now c.args.site) run idle h.known h.width)
