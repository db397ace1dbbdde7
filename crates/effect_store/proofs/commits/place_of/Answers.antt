use Rattle.std.proofs.Common.{◌-◌, ◌<◌, length, refl, sym, ◌∙◌, arith}
use Rattle.std.proofs.lemmas.Option.{slice_get-get_or, slice_get_read}
use Rattle.effect_store.proofs.Committing.{front_of, after_of, place_within, none_behind, wide_at}
use Rattle.effect_store.proofs.commits.place_of.Goals as goal

pub loop-at-init : goal.loop-at-init
loop-at-init g c = (omega arith, none_behind _ _ _ c.requires.within)

pub bounds-parts-list : goal.bounds-parts-list
bounds-parts-list g c =
    let n : c.loop-at.at - 1 < length c.args.list.now = omega (arith, c.loop-at.invariant.0, c.loop-at-test.true) in
    place_within _ _ _ _ c.requires.within (slice_get-get_or c.args.list.now (c.loop-at.at - 1) 0 n)

pub comes_sooner-requires-clause-second : goal.comes_sooner-requires-clause-second
comes_sooner-requires-clause-second g c =
    let n : c.loop-at.at - 1 < length c.args.list.now = omega (arith, c.loop-at.invariant.0, c.loop-at-test.true) in
    let k = slice_get-get_or c.args.list.now (c.loop-at.at - 1) 0 n in
    let within = place_within _ _ _ _ c.requires.within k in
    let q = slice_get_read c.args.parts.now _ _ c.index-parts-list.result refl within c.index-parts-list.is in
    wide_at _ _ _ _ c.requires.wide q

pub returns-then-not-comes_sooner-clause-before : goal.returns-then-not-comes_sooner-clause-before
returns-then-not-comes_sooner-clause-before g c =
    let n : c.loop-at.at - 1 < length c.args.list.now = omega (arith, c.loop-at.invariant.0, c.loop-at-test.true) in
    let k = slice_get-get_or c.args.list.now (c.loop-at.at - 1) 0 n in
    let within = place_within _ _ _ _ c.requires.within k in
    let q = slice_get_read c.args.parts.now _ _ c.index-parts-list.result refl within c.index-parts-list.is in
    front_of _ _ _ c.args.site _ c.args.part.now _ c.requires.rising c.requires.within k q (omega (arith, c.loop-at-test.true)) (sym c.comes_sooner.ensures ∙ c.if-not-comes_sooner.true)

pub loop-at-preserved : goal.loop-at-preserved
loop-at-preserved g c =
    let n : c.loop-at.at - 1 < length c.args.list.now = omega (arith, c.loop-at.invariant.0, c.loop-at-test.true) in
    let k = slice_get-get_or c.args.list.now (c.loop-at.at - 1) 0 n in
    let within = place_within _ _ _ _ c.requires.within k in
    let q = slice_get_read c.args.parts.now _ _ c.index-parts-list.result refl within c.index-parts-list.is in
    (omega (arith, c.loop-at.invariant.0), after_of _ _ _ c.args.site _ c.args.part.now _ c.requires.within k q (omega (arith, c.loop-at-test.true)) (sym c.comes_sooner.ensures ∙ c.if-not-comes_sooner.false) c.loop-at.invariant.1)
