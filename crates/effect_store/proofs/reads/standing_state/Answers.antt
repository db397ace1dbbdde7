use Rattle.std.proofs.Common.{◌<◌, length, arith}
use Rattle.effect_store.proofs.Keeping.{newest_within, read_at_end}
use Rattle.effect_store.proofs.reads.standing_state.Goals as goal

pub newest_for-requires-clause-within : goal.newest_for-requires-clause-within
newest_for-requires-clause-within g c = newest_within _ _ _ _ _ c.requires.fitting _ c.requires.hold

pub index-from-requires : goal.index-from-requires
index-from-requires g c =
    let within : c.in-Some.kept.now.at < length c.args.links.now.entries.items = (newest_within _ _ _ _ _ c.requires.fitting _ c.requires.hold _ _ c.in-Some.ensures.0).0 in
    omega (arith, within, c.requires.fitting.linked.many, c.requires.fitting.linked.next_long)

pub returns-then-is_none_shown : goal.returns-then-is_none_shown
returns-then-is_none_shown g c =
    let kept = c.in-Some.ensures in
    read_at_end g.C.Crdt.initial g.C.Crdt.applied _ _ c.requires.fitting _ c.args.object.now c.args.snapshot.now _ _ c.in-Some.kept.now _ c.requires.hold kept.0 kept.1 kept.2 c.index-from.ensures (c.is_none_shown.ensures c.if-is_none_shown.true)
