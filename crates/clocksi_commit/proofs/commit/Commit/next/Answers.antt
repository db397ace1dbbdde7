use Rattle.std.proofs.Common.{ap, ◌∙◌}
use Rattle.clocksi_commit.specs.Commit.{Committing}
use Rattle.site_vector.specs.Vector.{replaced}
use Rattle.clocksi_commit.proofs.Commits.{next_prepare, next_finish, next_abort, next_decide}
use Rattle.clocksi_commit.proofs.commit.Commit.next.Goals as goal

pub returns-in-Prepares : goal.returns-in-Prepares
returns-in-Prepares c = let f = c.self.inside in next_prepare f.parts f.count f.at f.time c.self.invariant.1 c.self.invariant.2 c.args.self.now.going f.stage (ap (λ (w : Committing). w.going) c.self.view_is) c.args.self.now.site c.args.self.now.s c.in-Prepares.is c.if-self.true

pub returns-in-Finishes : goal.returns-in-Finishes
returns-in-Finishes c = let f = c.self.inside in next_finish f.parts f.count f.at f.time c.self.invariant.1 c.self.invariant.2 c.args.self.now.going f.stage (ap (λ (w : Committing). w.going) c.self.view_is) c.args.self.now.site c.args.self.now.s c.with.result c.in-Finishes.is c.if-self.true (c.with.ensures ∙ ap (λ (w : Committing). replaced w.s w.site f.time) c.self.view_is)

pub returns-in-Aborts : goal.returns-in-Aborts
returns-in-Aborts c = let f = c.self.inside in next_abort f.parts f.count f.at f.time c.self.invariant.1 c.self.invariant.2 c.args.self.now.going f.stage (ap (λ (w : Committing). w.going) c.self.view_is) c.args.self.now.site c.args.self.now.s c.in-Aborts.is c.if-self.true

pub returns-else-self-eq0 : goal.returns-else-self-eq0
returns-else-self-eq0 c = let f = c.self.inside in next_decide f.parts f.count f.at f.time c.self.invariant.1 c.self.invariant.2 c.args.self.now.going f.stage (ap (λ (w : Committing). w.going) c.self.view_is) c.args.self.now.site c.args.self.now.s c.with-else-self-eq0.result c.in-Prepares-stage.is c.if-self.false c.self.invariant.0 c.if-self-eq0.false (c.with-else-self-eq0.ensures ∙ ap (λ (w : Committing). replaced w.s w.site f.time) c.self.view_is)
