use Rattle.std.proofs.Common.{arith, refl}
use Rattle.std.proofs.lemmas.Option.{slice_get_read}
use Rattle.effect_store.proofs.Arranging.{get_in}
use Rattle.effect_store.proofs.Linking.{linked_next, update_read}
use Rattle.effect_store.proofs.links.link_update.Goals as goal

pub returns-clause-linked : goal.returns-clause-linked
returns-clause-linked g c =
    let there = slice_get_read c.args.parts.now _ c.args.place c.index-parts-place.result refl (get_in _ _ _ c.requires.there.1) c.index-parts-place.is in
    linked_next _ _ _ _ _ _ _ _ _ _ _ _ _ _ _ _ _ c.len-own.result _ _ _ c.requires.linked c.requires.apart (omega (arith, c.requires.room.small)) (omega arith)
    there (update_read c.args.parts.now c.args.place _ _ c.requires.there.0 c.as_slice.result.now _ c.requires.there.1 c.requires.there.2 there c.as_slice.ensures (λ n. slice_get_read c.as_slice.result.now _ c.args.at _ refl n c.index-as_slice-at.is)) c.tag_of-tag.ensures c.total_of-total.ensures c.push_reserved.ensures.items c.last_before-prior.ensures c.as_slice-2.ensures.value c.behind-then.ensures.some c.behind-then.ensures.none
    c.hook.ensures.hooked c.hook-2.ensures.hooked
