use Rattle.std.proofs.Common.{refl, sym}
use Rattle.effect_store.proofs.Folding.{wide_by}
use Rattle.effect_store.proofs.Keeping.{start_applying, applying_width, front_width}
use Rattle.effect_store.proofs.newest.front_state.Goals as goal

pub bring_forward-requires-clause-wide : goal.bring_forward-requires-clause-wide
bring_forward-requires-clause-wide g c =
    let w = start_applying _ _ _ _ _ c.requires.fitting c.args.object.now c.args.rest.serves c.args.rest.from c.in_ok-front.front _ c.requires.hold c.requires.at_hand c.requires.fresh c.in_ok-front.ensures.at_hand c.in_ok-front.ensures.fresh in
    wide_by _ _ c.args.parts.now _ w.width refl c.requires.wide

pub bring_forward-requires-clause-applying : goal.bring_forward-requires-clause-applying
bring_forward-requires-clause-applying g c =
    let w = start_applying _ _ _ _ _ c.requires.fitting c.args.object.now c.args.rest.serves c.args.rest.from c.in_ok-front.front _ c.requires.hold c.requires.at_hand c.requires.fresh c.in_ok-front.ensures.at_hand c.in_ok-front.ensures.fresh in
    applying_width _ _ _ _ _ _ _ _ w.width w

pub returns-clause-front : goal.returns-clause-front
returns-clause-front g c =
    let w = start_applying _ _ _ _ _ c.requires.fitting c.args.object.now c.args.rest.serves c.args.rest.from c.in_ok-front.front _ c.requires.hold c.requires.at_hand c.requires.fresh c.in_ok-front.ensures.at_hand c.in_ok-front.ensures.fresh in
    front_width _ _ _ _ _ _ _ (sym w.width) c.in_ok-bring_forward.ensures
