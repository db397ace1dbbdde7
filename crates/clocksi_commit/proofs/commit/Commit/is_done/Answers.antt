use Rattle.std.proofs.Common.{ap}
use Rattle.clocksi_commit.specs.Commit.{Committing}
use Rattle.clocksi_commit.proofs.Commits.{not_done, maybe_done}
use Rattle.clocksi_commit.proofs.commit.Commit.is_done.Goals as goal

pub returns-then-self : goal.returns-then-self
returns-then-self c = let f = c.self.inside in not_done f.parts f.count f.at f.time c.self.invariant.1 c.self.invariant.2 c.args.self.now.going f.stage (ap (λ (w : Committing). w.going) c.self.view_is) c.if-self.true

pub returns-in-Prepares : goal.returns-in-Prepares
returns-in-Prepares c = let f = c.self.inside in maybe_done f.parts f.count f.at f.time c.self.invariant.1 c.self.invariant.2 c.args.self.now.going f.stage (ap (λ (w : Committing). w.going) c.self.view_is) c.in-Prepares.is c.if-self.false c.self.invariant.0
