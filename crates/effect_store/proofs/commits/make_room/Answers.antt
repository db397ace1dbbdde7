use Rattle.std.proofs.Common.{◌<◌, length, arith}
use Rattle.std.proofs.lemmas.Option.{slice_get-get_or}
use Rattle.effect_store.proofs.Committing.{same_set, room_kept, room_next}
use Rattle.effect_store.proofs.commits.make_room.Goals as goal

pub returns-in_err-make_room-clause-same : goal.returns-in_err-make_room-clause-same
returns-in_err-make_room-clause-same c =
    let n : c.loop-i.i < length c.loop-i.lists = omega (arith, c.told-lists, c.loop-i-test.true, c.requires) in
    same_set _ _ _ _ _ c.loop-i.invariant.0 (slice_get-get_or c.loop-i.lists c.loop-i.i c.index-lists-i.result n) c.make_room.ensures.places

pub returns-in_err-make_room-clause-roomy : goal.returns-in_err-make_room-clause-roomy
returns-in_err-make_room-clause-roomy c = λ m r.
    (let n : c.loop-i.i < length c.loop-i.lists = omega (arith, c.told-lists, c.loop-i-test.true, c.requires) in
    room_kept _ m _ _ _ _ (slice_get-get_or c.loop-i.lists c.loop-i.i c.index-lists-i.result n) c.make_room.ensures.roomy (c.loop-i.invariant.1 m r))

pub loop-i-preserved : goal.loop-i-preserved
loop-i-preserved c =
    let n : c.loop-i.i < length c.loop-i.lists = omega (arith, c.told-lists, c.loop-i-test.true, c.requires) in
    let there = slice_get-get_or c.loop-i.lists c.loop-i.i c.index-lists-i.result n in (
      same_set _ _ _ _ _ c.loop-i.invariant.0 there c.make_room.ensures.places,
      λ m r. room_kept _ m _ _ _ _ there c.make_room.ensures.roomy (c.loop-i.invariant.1 m r),
      room_next _ _ _ _ _ there c.in_ok-make_room.ensures.ok c.loop-i.invariant.2,
      omega (arith, c.loop-i-test.true),
    )
