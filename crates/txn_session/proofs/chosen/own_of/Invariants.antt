use Rattle.std.proofs.Common.{◌≡◌, take}
use Rattle.txn_session.specs.Session.{own_updates}
use Rattle.txn_session.proofs.chosen.own_of.Given as goal

abbrev pub invariant-loop-update : goal.invariant-loop-update
invariant-loop-update g l = l.own ≡ own_updates (take l.update-index l.updates) l.object
