use Rattle.std.proofs.Common.{◌<◌, length, arith}
use Rattle.effect_store.proofs.Visiting.{at_place, chain_falls}
use Rattle.effect_store.proofs.Folding.{width_at}
use Rattle.effect_store.proofs.newest.shown_from.Goals as goal

pub le-requires : goal.le-requires
le-requires g c =
    let n : c.loop-at.at < length c.args.links.now.entries.items = omega arith in
    let x = at_place _ _ c.requires.fitting _ n in
    width_at _ _ c.requires.fitting _ _ _ x.0 c.requires.wide x.1 (c.update_at.ensures.part x.0 x.1)

pub loop-at-smaller : goal.loop-at-smaller
loop-at-smaller g c =
    let n : c.loop-at.at < length c.args.links.now.entries.items = omega arith in
    let x = at_place _ _ c.requires.fitting _ n in
    chain_falls _ _ c.requires.fitting _ _ x.0 x.1 c.index-at.ensures
