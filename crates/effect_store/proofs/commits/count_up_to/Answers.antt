use Rattle.std.proofs.Common.{◌≡◌, ℕ, ◌+◌, ◌-◌, ◌/◌, ◌<◌, length, arith}
use Rattle.std.proofs.lemmas.Option.{slice_get-get_or}
use Rattle.effect_store.proofs.Committing.{low_goes, high_goes, place_within, none_behind, wide_at, same_end}
use Rattle.effect_store.proofs.commits.count_up_to.Goals as goal

pub loop-low-init : goal.loop-low-init
loop-low-init g c = (omega arith, omega arith, tt, none_behind _ _ _ c.requires.within)

pub bounds-parts-list : goal.bounds-parts-list
bounds-parts-list g c =
    let m : ℕ = c.loop-low.low + (c.loop-low.high - c.loop-low.low) / 2 in
    let n : m < length c.args.list.now = omega (arith, c.loop-low.invariant.1, c.loop-low-test.true) in
    let k = slice_get-get_or c.args.list.now m 0 n in
    let within = place_within _ _ _ _ c.requires.within k in
    within

pub get-requires-clause-most : goal.get-requires-clause-most
get-requires-clause-most g c =
    let m : ℕ = c.loop-low.low + (c.loop-low.high - c.loop-low.low) / 2 in
    let n : m < length c.args.list.now = omega (arith, c.loop-low.invariant.1, c.loop-low-test.true) in
    let k = slice_get-get_or c.args.list.now m 0 n in
    let within = place_within _ _ _ _ c.requires.within k in
    let q = slice_get-get_or c.args.parts.now _ c.index-parts-list.result within in
    wide_at _ _ _ _ c.requires.wide q

pub loop-low-preserved-then-get-bound : goal.loop-low-preserved-then-get-bound
loop-low-preserved-then-get-bound g c =
    let m : ℕ = c.loop-low.low + (c.loop-low.high - c.loop-low.low) / 2 in
    let n : m < length c.args.list.now = omega (arith, c.loop-low.invariant.1, c.loop-low-test.true) in
    let k = slice_get-get_or c.args.list.now m 0 n in
    let within = place_within _ _ _ _ c.requires.within k in
    let q = slice_get-get_or c.args.parts.now _ c.index-parts-list.result within in
    (omega (arith, c.loop-low-test.true), c.loop-low.invariant.1, low_goes _ _ m c.args.site c.args.bound _ _ c.requires.rising c.requires.within k q (omega (arith, c.get.ensures, c.if-get-bound.true)), c.loop-low.invariant.3)

pub loop-low-preserved : goal.loop-low-preserved
loop-low-preserved g c =
    let m : ℕ = c.loop-low.low + (c.loop-low.high - c.loop-low.low) / 2 in
    let n : m < length c.args.list.now = omega (arith, c.loop-low.invariant.1, c.loop-low-test.true) in
    let k = slice_get-get_or c.args.list.now m 0 n in
    let within = place_within _ _ _ _ c.requires.within k in
    let q = slice_get-get_or c.args.parts.now _ c.index-parts-list.result within in
    (omega (arith, c.loop-low-test.true), omega (arith, n), c.loop-low.invariant.2, high_goes _ _ m c.args.site c.args.bound _ _ c.requires.rising c.requires.within k q (omega (arith, c.get.ensures, c.if-get-bound.false)))

pub returns-clause-after : goal.returns-clause-after
returns-clause-after g c = (let e : c.loop-low.low ≡ c.loop-low.high = omega (arith, c.loop-low-test.false, c.loop-low.invariant.0) in same_end _ _ _ _ e c.loop-low.invariant.3)
