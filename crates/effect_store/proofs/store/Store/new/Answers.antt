use Rattle.std.proofs.Common.{rules, nat_eq, ap}
use Rattle.std.specs.Map.{lookup}
use Rattle.effect_store.proofs.Keeping.{newest_none}
use Rattle.effect_store.proofs.store.Store.new.Goals as goal

pub invariant_of-result : goal.invariant_of-result
invariant_of-result g c = (
  search rules,
  search rules,
  search rules,
  search rules,
  search rules,
  search rules,
  newest_none _ _ _ _ _ (λ i. ap (lookup (nat_eq i)) c.new-12.ensures.empty),
  newest_none _ _ _ _ _ (λ i. ap (lookup (nat_eq i)) c.new-13.ensures.empty),
  c.requires.least,
  c.requires.most,
)
