use Rattle.crdt_any.proofs.inner.made_on.Goals as goal

pub returns-in-Some-clause-made : goal.returns-in-Some-clause-made
returns-in-Some-clause-made g c = rw c.in-Some.is c.effect.ensures.made
