use Rattle.std.proofs.Common.{◌≡◌, []}
use Rattle.client_pool.specs.Coming.{Came}
use Rattle.client_pool.proofs.begin.begin.Given as goal

abbrev pub invariant-loop : goal.invariant-loop
invariant-loop g l = (l.store ≡ l.fn.store) × (l.session ≡ l.fn.session) × Came g.S.Store.sees g.S.Store.numbers l.fn.store l.fn.pass l.fn.session l.pass l.fn.session []
