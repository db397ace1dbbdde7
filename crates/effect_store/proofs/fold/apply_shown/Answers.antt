use Rattle.std.proofs.Common.{◌<◌, length, sym, ◌∙◌, ap, arith}
use Rattle.effect_store.specs.Applied.{applied}
use Rattle.effect_store.proofs.Visiting.{at_place, chain_falls}
use Rattle.effect_store.proofs.Folding.{applied_next, shown_none, width_at}
use Rattle.effect_store.proofs.fold.apply_shown.Goals as goal

pub apply_if_shown-requires : goal.apply_if_shown-requires
apply_if_shown-requires g c =
    let n : c.loop-at.at < length c.args.links.now.entries.items = omega arith in
    let x = at_place _ _ c.requires.fitting _ n in
    width_at _ _ c.requires.fitting _ _ _ x.0 c.requires.wide x.1 (c.update_at.ensures.part x.0 x.1)

pub loop-at-smaller : goal.loop-at-smaller
loop-at-smaller g c =
    let n : c.loop-at.at < length c.args.links.now.entries.items = omega arith in
    let x = at_place _ _ c.requires.fitting _ n in
    chain_falls _ _ c.requires.fitting _ _ x.0 x.1 c.index-at.ensures

pub loop-at-preserved : goal.loop-at-preserved
loop-at-preserved g c =
    let n : c.loop-at.at < length c.args.links.now.entries.items = omega arith in
    let x = at_place _ _ c.requires.fitting _ n in
    applied_next g.C.Crdt.applied _ _ c.requires.fitting c.args.object.now c.args.snapshot.now _ _ _ _ x.0 _ _ x.1 c.index-at.ensures (c.update_at.ensures.part x.0 x.1) (c.update_at.ensures.update x.0 x.1) c.in_ok-apply_if_shown.ensures ∙ c.loop-at.invariant

pub returns : goal.returns
returns g c =
    let none = shown_none g.C.Crdt.applied _ _ c.requires.fitting c.args.object.now c.args.snapshot.now c.loop-at.at (omega (arith, c.loop-at-test.false)) in
    sym (ap (applied g.C.Crdt.applied c.loop-at.state) none) ∙ c.loop-at.invariant
