use Rattle.std.proofs.Common.{◌≡◌, take}
use Rattle.txn_session.specs.Session.{updates_of}
use Rattle.txn_session.proofs.chosen.copies_at.Given as goal

abbrev pub invariant-loop-update : goal.invariant-loop-update
invariant-loop-update g l = l.copies.items ≡ updates_of l.parts (take l.update-index l.updates) l.part
