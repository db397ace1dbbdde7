use Rattle.std.proofs.Common.{◌≡◌, ◌<◌, ◌≤◌, length, ap, arith}
use Rattle.std.proofs.lemmas.Option.{slice_get-get_or}
use Rattle.effect_store.proofs.Linking.{is_there}
use Rattle.effect_store.proofs.Keeping.{forgetting_next, forgotten, tag_read}
use Rattle.effect_store.proofs.newest.forget.Goals as goal

pub forget_update-requires-clause-within : goal.forget_update-requires-clause-within
forget_update-requires-clause-within g c = λ i n e. c.requires.within i n (c.loop-at.invariant.0.left i n e)

pub forget_update-requires-in-loop-at-clause-within : goal.forget_update-requires-in-loop-at-clause-within
forget_update-requires-in-loop-at-clause-within g c = λ i n e. c.requires.within_older i n (c.loop-at.invariant.1.left i n e)

pub loop-at-preserved : goal.loop-at-preserved
loop-at-preserved g c =
    let len : length c.as_slice-updates.result.now ≡ length c.args.part.now.updates = ap (λ l. length l) c.as_slice-updates.ensures in
    let n : c.loop-at.at < length c.args.part.now.updates = omega (arith, c.loop-at-test.true) in
    let u = is_there c.args.part.now.updates c.loop-at.at n in (
      forgetting_next c.args.parts.now c.args.part.now _ _ _ _ c.loop-at.at u.0 c.loop-at.invariant.0 c.loop-at-test.true u.1 c.forget_update.ensures.left c.forget_update.ensures.clear,
      forgetting_next c.args.parts.now c.args.part.now _ _ _ _ c.loop-at.at u.0 c.loop-at.invariant.1 c.loop-at-test.true u.1 c.forget_update-in-loop-at.ensures.left c.forget_update-in-loop-at.ensures.clear,
    )

pub returns-clause-clear : goal.returns-clause-clear
returns-clause-clear g c =
    let len : length c.as_slice-updates.result.now ≡ length c.args.part.now.updates = ap (λ l. length l) c.as_slice-updates.ensures in
    let done : length c.args.part.now.updates ≤ c.loop-at.at = omega (arith, c.loop-at-test.false) in
    forgotten c.args.parts.now c.args.part.now _ _ _ _ c.loop-at.invariant.0 done

pub returns-clause-clear_older : goal.returns-clause-clear_older
returns-clause-clear_older g c =
    let len : length c.as_slice-updates.result.now ≡ length c.args.part.now.updates = ap (λ l. length l) c.as_slice-updates.ensures in
    let done : length c.args.part.now.updates ≤ c.loop-at.at = omega (arith, c.loop-at-test.false) in
    forgotten c.args.parts.now c.args.part.now _ _ _ _ c.loop-at.invariant.1 done

pub returns-clause-left : goal.returns-clause-left
returns-clause-left g c = c.loop-at.invariant.0.left

pub returns-clause-left_older : goal.returns-clause-left_older
returns-clause-left_older g c = c.loop-at.invariant.1.left

pub forget_update-requires-clause-tagged : goal.forget_update-requires-clause-tagged
forget_update-requires-clause-tagged g c =
    let len : length c.as_slice-updates.result.now ≡ length c.args.part.now.updates = ap (λ l. length l) c.as_slice-updates.ensures in
    tag_read _ _ c.loop-at.at _ _ c.as_slice-updates.ensures (slice_get-get_or c.as_slice-updates.result.now c.loop-at.at c.index-updates-at.result (omega (arith, c.loop-at-test.true))) c.tag_of-tag.ensures

pub forget_update-requires-in-loop-at-clause-tagged : goal.forget_update-requires-in-loop-at-clause-tagged
forget_update-requires-in-loop-at-clause-tagged g c =
    let len : length c.as_slice-updates.result.now ≡ length c.args.part.now.updates = ap (λ l. length l) c.as_slice-updates.ensures in
    tag_read _ _ c.loop-at.at _ _ c.as_slice-updates.ensures (slice_get-get_or c.as_slice-updates.result.now c.loop-at.at c.index-updates-at.result (omega (arith, c.loop-at-test.true))) c.tag_of-tag.ensures
