use Rattle.std.proofs.Common.{◌≡◌, ℕ, ◌+◌, ◌-◌, ◌<◌, length, suc, refl, arith}
use Rattle.std.proofs.lemmas.Option.{slice_get_read}
use Rattle.effect_store.proofs.Linking.{linked_all, same_length, roomy_less}
use Rattle.effect_store.proofs.links.link_part.Goals as goal

pub link_update-requires-clause-room : goal.link_update-requires-clause-room
link_update-requires-clause-room g c =
    let n : c.args.place < length c.args.parts.now = omega arith in
    let there = slice_get_read c.args.parts.now _ c.args.place c.index-parts-place.result refl n c.index-parts-place.is in
    let len : length c.as_slice.result.now ≡ length c.index-parts-place.result.updates = same_length c.args.parts.now c.args.place c.index-parts-place.result _ _ there c.index-parts-place.is there c.as_slice.ensures in
    let left : ℕ = length c.index-parts-place.result.updates - c.loop-at.at in
    roomy_less _ 1 left (omega arith) (c.loop-at.invariant.room (length c.index-parts-place.result.updates) left (omega arith) (c.requires.room _ there))

pub loop-at-preserved : goal.loop-at-preserved
loop-at-preserved g c = record {
  linked = c.link_update.ensures.linked;
  within = omega arith;
  room = λ m k e h. c.link_update.ensures.room k (c.loop-at.invariant.room m (k + 1) (omega arith) h);
}

pub returns-clause-linked : goal.returns-clause-linked
returns-clause-linked g c =
    let n : c.args.place < length c.args.parts.now = omega arith in
    let there = slice_get_read c.args.parts.now _ c.args.place c.index-parts-place.result refl n c.index-parts-place.is in
    let len : length c.as_slice.result.now ≡ length c.index-parts-place.result.updates = same_length c.args.parts.now c.args.place c.index-parts-place.result _ _ there c.index-parts-place.is there c.as_slice.ensures in
    let done : c.loop-at.at ≡ length c.index-parts-place.result.updates = omega (arith, c.loop-at.invariant.within, c.loop-at-test.false) in
    let all : length c.args.parts.now ≡ suc c.args.place = omega arith in
    linked_all _ _ _ _ c.loop-at.links c.loop-at.invariant.linked there all done

pub returns-clause-room : goal.returns-clause-room
returns-clause-room g c = λ m p e h.
    (let n : c.args.place < length c.args.parts.now = omega arith in
    let there = slice_get_read c.args.parts.now _ c.args.place c.index-parts-place.result refl n c.index-parts-place.is in
    let len : length c.as_slice.result.now ≡ length p.updates = same_length c.args.parts.now c.args.place c.index-parts-place.result _ _ there c.index-parts-place.is e c.as_slice.ensures in
    let done : m + length p.updates ≡ c.loop-at.at + m = omega (arith, c.loop-at.invariant.within, c.loop-at-test.false) in
    c.loop-at.invariant.room (m + length p.updates) m done h)
