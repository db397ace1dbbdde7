use Rattle.std.proofs.Common.{◌<◌, length, refl, arith}
use Rattle.std.proofs.lemmas.Option.{slice_get_read}
use Rattle.effect_store.proofs.Arranging.{get_in}
use Rattle.effect_store.proofs.Linking.{reads_at, list_read, same_part, same_update}
use Rattle.effect_store.proofs.updates.update_at.Goals as goal

pub bounds-parts-entry : goal.bounds-parts-entry
bounds-parts-entry g c =
    let there = slice_get_read c.args.links.now.entries.items _ c.args.k _ refl c.requires.within c.index-entry.ensures in
    let r = reads_at _ _ _ _ _ _ _ _ _ c.requires.fitting.linked there in
    get_in _ _ _ r.part

pub offset_bounds-as_slice-entry : goal.offset_bounds-as_slice-entry
offset_bounds-as_slice-entry g c =
    let there = slice_get_read c.args.links.now.entries.items _ c.args.k _ refl c.requires.within c.index-entry.ensures in
    let r = reads_at _ _ _ _ _ _ _ _ _ c.requires.fitting.linked there in
    let p = slice_get_read c.args.parts.now _ c.index-entry.result.now.part c.index-parts-entry.result refl (get_in _ _ _ r.part) c.index-parts-entry.is in
    let n : c.index-entry.result.now.at < length c.as_slice.result.now = get_in _ _ _ (list_read c.args.parts.now c.index-entry.result.now.part _ _ _ _ _ p r.part r.update c.as_slice.ensures) in
    omega arith

pub bounds-as_slice-entry : goal.bounds-as_slice-entry
bounds-as_slice-entry g c =
    let there = slice_get_read c.args.links.now.entries.items _ c.args.k _ refl c.requires.within c.index-entry.ensures in
    let r = reads_at _ _ _ _ _ _ _ _ _ c.requires.fitting.linked there in
    let p = slice_get_read c.args.parts.now _ c.index-entry.result.now.part c.index-parts-entry.result refl (get_in _ _ _ r.part) c.index-parts-entry.is in
    get_in _ _ _ (list_read c.args.parts.now c.index-entry.result.now.part _ _ _ _ _ p r.part r.update c.as_slice.ensures)

pub returns-clause-part : goal.returns-clause-part
returns-clause-part g c = λ x h.
    (let there = slice_get_read c.args.links.now.entries.items _ c.args.k _ refl c.requires.within c.index-entry.ensures in
    let r = reads_at _ _ _ _ _ _ _ _ _ c.requires.fitting.linked there in
    let p = slice_get_read c.args.parts.now _ c.index-entry.result.now.part c.index-parts-entry.result refl (get_in _ _ _ r.part) c.index-parts-entry.is in
    same_part _ _ _ _ _ p r.part r.here h)

pub returns-clause-update : goal.returns-clause-update
returns-clause-update g c = λ x h.
    (let there = slice_get_read c.args.links.now.entries.items _ c.args.k _ refl c.requires.within c.index-entry.ensures in
    let r = reads_at _ _ _ _ _ _ _ _ _ c.requires.fitting.linked there in
    let p = slice_get_read c.args.parts.now _ c.index-entry.result.now.part c.index-parts-entry.result refl (get_in _ _ _ r.part) c.index-parts-entry.is in
    let us = list_read c.args.parts.now c.index-entry.result.now.part _ _ _ _ _ p r.part r.update c.as_slice.ensures in
    let u = slice_get_read c.as_slice.result.now _ c.index-entry.result.now.at c.index-as_slice-entry.result refl (get_in _ _ _ us) c.index-as_slice-entry.is in
    same_update _ _ _ _ _ u us r.here h)
