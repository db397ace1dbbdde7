use Rattle.std.proofs.Common.{◌<◌, length, sym, ◌∙◌, arith}
use Rattle.effect_store.proofs.Visiting.{at_place, chain_falls}
use Rattle.effect_store.proofs.Folding.{width_at, none_shown, shown_skip}
use Rattle.effect_store.proofs.newest.is_none_shown.Goals as goal

pub is_shown-requires : goal.is_shown-requires
is_shown-requires g c =
    let n : c.loop-at.at < length c.args.links.now.entries.items = omega arith in
    let x = at_place _ _ c.requires.fitting _ n in
    width_at _ _ c.requires.fitting _ _ _ x.0 c.requires.wide x.1 (c.update_at.ensures.part x.0 x.1)

pub loop-at-smaller : goal.loop-at-smaller
loop-at-smaller g c =
    let n : c.loop-at.at < length c.args.links.now.entries.items = omega arith in
    let x = at_place _ _ c.requires.fitting _ n in
    chain_falls _ _ c.requires.fitting _ _ x.0 x.1 c.index-at.ensures

pub loop-at-preserved : goal.loop-at-preserved
loop-at-preserved g c =
    let n : c.loop-at.at < length c.args.links.now.entries.items = omega arith in
    let x = at_place _ _ c.requires.fitting _ n in
    shown_skip _ _ c.requires.fitting c.args.object.now c.args.snapshot.now _ _ _ _ x.0 _ x.1 c.index-at.ensures (c.update_at.ensures.part x.0 x.1) (c.update_at.ensures.update x.0 x.1) c.is_shown.ensures c.if-is_shown.false ∙ c.loop-at.invariant

pub returns : goal.returns
returns g c = λ h. sym c.loop-at.invariant ∙ none_shown _ _ c.requires.fitting c.args.object.now c.args.snapshot.now c.loop-at.at (omega (arith, c.loop-at-test.false))
