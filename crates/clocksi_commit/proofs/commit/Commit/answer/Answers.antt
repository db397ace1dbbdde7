use Rattle.std.proofs.Common.{ap, ◌∙◌, sym}
use Rattle.clocksi_commit.specs.Commit.{Committing}
use Rattle.clocksi_commit.proofs.Commits.{given, finished, aborted}
use Rattle.clocksi_commit.proofs.commit.Commit.answer.Goals as goal

pub returns-in-Given-clause-commit : goal.returns-in-Given-clause-commit
returns-in-Given-clause-commit c =
    let f = c.self.inside in
    let v = c.self.view_is in
    let g = given f.parts f.count f.at f.time c.self.invariant.1 c.self.invariant.2 c.args.self.now.going f.stage (ap (λ (w : Committing). w.going) v) c.args.step.now c.in-Given.time c.max-self-inside.result c.in-Prepares.is c.if-self.true (sym c.vote_in.ensures ∙ c.in-Given.is) c.max-self-inside.ensures in
    (λ i. record { site = (v i).site; s = (v i).s; going = g i })

pub returns-in-Finishes-clause-commit : goal.returns-in-Finishes-clause-commit
returns-in-Finishes-clause-commit c =
    let f = c.self.inside in
    let v = c.self.view_is in
    let g = finished f.parts f.count f.at f.time c.self.invariant.1 c.self.invariant.2 c.args.self.now.going f.stage (ap (λ (w : Committing). w.going) v) c.args.step.now c.in-Finishes.is c.if-self.true (sym c.if-not-is_finish.ensures) in
    (λ i. record { site = (v i).site; s = (v i).s; going = g i })

pub returns-in-Aborts-clause-commit : goal.returns-in-Aborts-clause-commit
returns-in-Aborts-clause-commit c =
    let f = c.self.inside in
    let v = c.self.view_is in
    let g = aborted f.parts f.count f.at f.time c.self.invariant.1 c.self.invariant.2 c.args.self.now.going f.stage (ap (λ (w : Committing). w.going) v) c.args.step.now c.in-Aborts.is c.if-self.true in
    (λ i. record { site = (v i).site; s = (v i).s; going = g i })
