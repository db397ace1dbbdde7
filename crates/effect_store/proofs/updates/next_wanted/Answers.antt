use Rattle.std.proofs.Common.{◌<◌, length, ◌∙◌, arith}
use Rattle.effect_store.specs.Spots.{spots}
use Rattle.effect_store.proofs.Arranging.{get_in}
use Rattle.effect_store.proofs.Visiting.{at_place, chain_falls, wanted_skip, wide_at, wide_part, wants_by}
use Rattle.effect_store.proofs.updates.next_wanted.Goals as goal

pub is_wanted-requires : goal.is_wanted-requires
is_wanted-requires g c =
    let n : c.loop-at.at < length c.args.links.now.entries.items = omega arith in
    let x = at_place _ _ c.requires.fitting _ n in
    wide_part c.args.outside.now _ _ (c.update_at.ensures.part x.0 x.1) (wide_at _ _ c.requires.fitting _ _ x.0 c.requires.wide x.1)

pub loop-at-smaller : goal.loop-at-smaller
loop-at-smaller g c =
    let n : c.loop-at.at < length c.args.links.now.entries.items = omega arith in
    let x = at_place _ _ c.requires.fitting _ n in
    chain_falls _ _ c.requires.fitting _ _ x.0 x.1 c.index-at.ensures

pub loop-at-preserved : goal.loop-at-preserved
loop-at-preserved g c =
    let n : c.loop-at.at < length c.args.links.now.entries.items = omega arith in
    let x = at_place _ _ c.requires.fitting _ n in
    wanted_skip _ _ c.requires.fitting _ _ _ _ x.0 x.1 c.index-at.ensures (wants_by c.args.object.now c.args.outside.now _ _ x.0 _ _ (c.update_at.ensures.part x.0 x.1) (c.update_at.ensures.update x.0 x.1) c.is_wanted.ensures c.if-is_wanted.false) ∙ c.loop-at.invariant

pub returns-clause-here : goal.returns-clause-here
returns-clause-here g c = λ x h.
    (let n : c.loop-at.at < length c.args.links.now.entries.items = omega (arith, get_in (spots c.args.parts.now) _ x h, c.requires.fitting.linked.many) in
    absurd (omega (arith, c.loop-at-test.false)))
