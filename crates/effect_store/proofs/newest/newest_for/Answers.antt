use Rattle.std.proofs.Common.{sym}
use Rattle.effect_store.proofs.newest.newest_for.Goals as goal

pub update_at-requires-clause-within : goal.update_at-requires-clause-within
update_at-requires-clause-within g c = (c.requires.within c.args.tag c.in_ok-kept.kept.now (sym c.in_ok-kept.ensures.value)).0
