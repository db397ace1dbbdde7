use Rattle.std.proofs.Common.{◌<◌, length, sym, ◌∙◌, arith}
use Rattle.effect_store.proofs.Visiting.{at_place}
use Rattle.effect_store.proofs.Folding.{width_at}
use Rattle.effect_store.proofs.Keeping.{applying_next, applying_front}
use Rattle.effect_store.proofs.newest.bring_forward.Goals as goal

pub apply_own-requires : goal.apply_own-requires
apply_own-requires g c =
    let n : c.loop-step.at < length c.args.links.now.entries.items = omega arith in
    let x = at_place _ _ c.requires.fitting _ n in
    c.loop-step.invariant.width ∙ sym (width_at _ _ c.requires.fitting _ _ _ x.0 c.requires.wide x.1 (c.update_at.ensures.part x.0 x.1))

pub loop-step-preserved : goal.loop-step-preserved
loop-step-preserved g c =
    let n : c.loop-step.at < length c.args.links.now.entries.items = omega arith in
    let x = at_place _ _ c.requires.fitting _ n in
    applying_next _ _ _ _ _ c.requires.fitting c.args.object.now _ _ _ _ x.0 c.loop-step.newest _ x.1 c.index-at.ensures (c.update_at.ensures.part x.0 x.1) (c.update_at.ensures.update x.0 x.1)
    (width_at _ _ c.requires.fitting _ _ _ x.0 c.requires.wide x.1 (c.update_at.ensures.part x.0 x.1)) c.in_ok-apply_own.ensures c.loop-step.invariant

pub returns-then-at-len : goal.returns-then-at-len
returns-then-at-len g c = applying_front _ _ _ _ _ c.requires.fitting c.args.object.now c.loop-step.at _ c.loop-step.invariant

pub returns : goal.returns
returns g c = applying_front _ _ _ _ _ c.requires.fitting c.args.object.now c.loop-step.at _ c.loop-step.invariant
