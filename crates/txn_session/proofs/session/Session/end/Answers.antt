use Rattle.std.proofs.Common.{refl, sym, ap, ◌∙◌, subst}
use Rattle.world_model.specs.declared.step.Step.TheVariants as step
use Rattle.txn_session.specs.Session.{SessionState, Idle, doing_so}
use Rattle.txn_session.specs.Opens.{stepped_by, EndsAs}
use Rattle.txn_session.specs.Holds.{TellsStep}
use Rattle.txn_session.proofs.Ending.{done_said, makes_none}
use Rattle.txn_session.proofs.session.Session.end.Goals as goal

pub returns-in-Ok-clause-stepped : goal.returns-in-Ok-clause-stepped
returns-in-Ok-clause-stepped g c = (λ i. doing_so (c.self.view_is i) Idle) ∙ sym (ap (stepped_by c.args.self.now (step.Ended c.in-Ok.name)) c.requires.next)

pub returns-in-Ok-clause-next : goal.returns-in-Ok-clause-next
returns-in-Ok-clause-next g c = sym (done_said c.args.self.now.doing (step.Ended c.in-Ok.name) c.requires.next)

pub returns-in-Ok-clause-ended : goal.returns-in-Ok-clause-ended
returns-in-Ok-clause-ended g c = subst (λ x. EndsAs c.args.self.now.name x (step.Ended c.in-Ok.name)) (sym c.requires.next) (ap step.Ended (c.in-Ok.ensures ∙ ap (λ (w : SessionState g.row.C-Effect.Denot). w.name) c.self.view_is))

pub returns-in-Ok-clause-steps : goal.returns-in-Ok-clause-steps
returns-in-Ok-clause-steps g c run seen h = makes_none g.S.Store.sees g.S.Store.numbers c.args.store.now c.args.pass run c.args.self.now _ (step.Ended c.in-Ok.name) c.requires.next (λ i. doing_so (c.self.view_is i) Idle) seen h

pub returns-in-Ok-clause-tells : goal.returns-in-Ok-clause-tells
returns-in-Ok-clause-tells g c = subst (λ x. TellsStep g.S.Store.tells c.args.store.now c.args.store.now c.args.self.now (step.Ended c.in-Ok.name) x) (sym c.requires.next) refl
