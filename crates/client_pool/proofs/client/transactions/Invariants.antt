use Rattle.client_pool.specs.Loads.{HasMade}
use Rattle.client_pool.proofs.client.transactions.Given as goal

abbrev pub invariant-loop-j : goal.invariant-loop-j
invariant-loop-j g l = HasMade g.S.Store.sees g.S.Store.numbers l.fn.store l.fn.pass l.fn.session l.pass l.session l.fn.plan l.fn.client l.j
