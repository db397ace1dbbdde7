use Rattle.std.proofs.Common.{◌≡◌, List, refl, ap, ◌∙◌, Some, None}
use Rattle.std.specs.Prelude.{ℕ, ⊤}
use Rattle.crdt_core.specs.KindsOf.{kinds_of}
use Rattle.world_model.specs.declared.step.Step.TheVariants as step
use Rattle.world_model.specs.rules.Event.{AskHear, Event, Heard}
use Rattle.partition_lock.proofs.Settling.{exact, fails_as, least_of, rests}
use Rattle.partition_lock.proofs.desk.Desk.hear.Goals as goal

pub returns-in-Ok-told-clause-ok : goal.returns-in-Ok-told-clause-ok
returns-in-Ok-told-clause-ok g c run s a =
    record {
      line = step.Heard c.args.number c.place-at.result c.in-Ok-told.stable;
      answers = refl;
      goes = exact (kinds_of g.C.Crdt.laws) g.J.Naming.sites g.J.Naming.parts c.ask-pass.new.self c.args.pass c.ask-pass.result.0 c.least-by.result c.args.self.now (AskHear c.args.number c.args.part c.args.bounds.now) (λ below. ⊤) (λ (n : List ℕ) (e : Event g.row.C-Effect.Denot). e ≡ Heard c.args.number c.args.part c.args.bounds.now n) c.ask-pass.result.1 c.ask-pass.ensures.ok c.in-Ok.told c.in-Ok.is run s (record { may = a.may; mine = tt }) tt None (least_of (kinds_of g.C.Crdt.laws) g.J.Naming.sites g.J.Naming.parts c.ask-pass.new.self c.args.pass c.ask-pass.result.0 c.least-by.result c.ask-pass.ensures.numbers c.least-by.ensures)
          c.in-Ok-told.stable c.in-Ok-told.is (Heard c.args.number c.args.part c.args.bounds.now c.in-Ok-told.stable) (λ e h. h) (step.Heard c.args.number c.place-at.result c.in-Ok-told.stable) (λ below. ap (λ p. step.Heard c.args.number p c.in-Ok-told.stable) c.place-at.ensures);
    }

pub returns-in-Err-told-clause-ok : goal.returns-in-Err-told-clause-ok
returns-in-Err-told-clause-ok g c run s a =
    record { line = c.in-Err-told.line; answers = c.handed.ensures; goes = fails_as (kinds_of g.C.Crdt.laws) g.J.Naming.sites g.J.Naming.parts c.ask-pass.new.self c.args.pass c.ask-pass.result.0 c.least-by.result c.args.self.now (AskHear c.args.number c.args.part c.args.bounds.now) (λ below. ⊤) (λ (n : List ℕ) (e : Event g.row.C-Effect.Denot). e ≡ Heard c.args.number c.args.part c.args.bounds.now n) c.ask-pass.result.1 c.ask-pass.ensures.ok c.in-Ok.told c.in-Ok.is run s (record { may = a.may; mine = tt }) tt None (least_of (kinds_of g.C.Crdt.laws) g.J.Naming.sites g.J.Naming.parts c.ask-pass.new.self c.args.pass c.ask-pass.result.0 c.least-by.result c.ask-pass.ensures.numbers c.least-by.ensures) c.in-Err-told.line c.in-Err-told.is }

pub returns-in-Err-clause-err : goal.returns-in-Err-clause-err
returns-in-Err-clause-err g c run s = rests (kinds_of g.C.Crdt.laws) g.J.Naming.sites g.J.Naming.parts c.ask-pass.new.self c.args.pass c.ask-pass.result.0 c.ask-pass.result.1 c.ask-pass.ensures.err c.in-Err.field-0 c.in-Err.is run s
