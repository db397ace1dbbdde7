use Rattle.std.proofs.Common.{◌≡◌, []}
use Rattle.client_pool.proofs.Committing.{Under}
use Rattle.client_pool.proofs.commit.commit.Given as goal

abbrev pub invariant-loop : goal.invariant-loop
invariant-loop g l = (l.store ≡ l.fn.store) × Under g.S.Store.sees g.S.Store.numbers l.fn.store l.fn.pass l.fn.session l.pass l.session
