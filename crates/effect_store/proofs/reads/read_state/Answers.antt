use Rattle.std.proofs.Common.{◌<◌, length, ap, ◌∙◌, arith}
use Rattle.effect_store.specs.Applied.{applied, shown}
use Rattle.effect_store.proofs.Keeping.{newest_within, read_from}
use Rattle.effect_store.proofs.reads.read_state.Goals as goal

pub newest_for-requires-clause-within : goal.newest_for-requires-clause-within
newest_for-requires-clause-within g c = newest_within _ _ _ _ _ c.requires.fitting _ c.requires.hold

pub index-from-requires : goal.index-from-requires
index-from-requires g c =
    let within : c.in-Some.kept.now.at < length c.args.links.now.entries.items = (newest_within _ _ _ _ _ c.requires.fitting _ c.requires.hold _ _ c.in-Some.ensures.0).0 in
    omega (arith, within, c.requires.fitting.linked.many, c.requires.fitting.linked.next_long)

pub returns : goal.returns
returns g c =
    let kept = c.in-Some.ensures in
    c.in_ok-apply_shown.ensures ∙ (ap (λ z. applied g.C.Crdt.applied z (shown c.args.object.now c.args.snapshot.now c.args.parts.now c.index-from.result.now)) c.in_ok-state.ensures
    ∙ read_from g.C.Crdt.initial g.C.Crdt.applied _ _ c.requires.fitting _ c.args.object.now c.args.snapshot.now _ _ c.in-Some.kept.now _ c.requires.hold kept.0 kept.1 kept.2 c.index-from.ensures)
