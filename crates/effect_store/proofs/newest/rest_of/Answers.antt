use Rattle.std.proofs.Common.{◌<◌, length, arith}
use Rattle.effect_store.proofs.newest.rest_of.Goals as goal

pub index-requires : goal.index-requires
index-requires g c =
    let within : c.in-Some.kept.now.at < length c.args.links.now.entries.items = (c.requires.within _ _ c.in-Some.ensures.0).0 in
    omega (arith, within, c.requires.fitting.linked.many, c.requires.fitting.linked.next_long)
