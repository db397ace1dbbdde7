use Rattle.std.proofs.Common.{◌∙◌}
use Rattle.effect_store.proofs.Holding.{found_is}
use Rattle.effect_store.proofs.store.Store.holds.Goals as goal

pub returns : goal.returns
returns g c = c.is_some.ensures ∙ found_is _ _ _ c.has.ensures
