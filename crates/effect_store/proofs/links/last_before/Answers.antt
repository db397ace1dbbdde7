use Rattle.std.proofs.Common.{◌<◌, length, sym, ◌∙◌, arith, refl}
use Rattle.std.proofs.lemmas.Option.{slice_get_read}
use Rattle.effect_store.proofs.Arranging.{get_in}
use Rattle.effect_store.proofs.Linking.{entry_spot, entry_total, before_at, link_read, find_start, find_step, find_end, find_out, find_falls}
use Rattle.effect_store.proofs.links.last_before.Goals as goal

pub loop-k-init : goal.loop-k-init
loop-k-init g c = find_start _ _ _ _ _ _ _ c.requires.linked _ _ _ c.requires.tagged c.head-k.ensures

pub entry_comes_before-requires-clause-there : goal.entry_comes_before-requires-clause-there
entry_comes_before-requires-clause-there g c =
    let n : c.loop-k.k < length c.args.links.now.entries.items = omega arith in
    let there = slice_get_read c.args.links.now.entries.items _ c.loop-k.k _ refl n c.index.ensures in
    let q = entry_spot _ _ _ _ _ _ _ c.requires.linked _ _ there in
    get_in _ _ _ q.2

pub entry_comes_before-requires-clause-known : goal.entry_comes_before-requires-clause-known
entry_comes_before-requires-clause-known g c =
    let n : c.loop-k.k < length c.args.links.now.entries.items = omega arith in
    let there = slice_get_read c.args.links.now.entries.items _ c.loop-k.k _ refl n c.index.ensures in
    entry_total _ _ _ _ _ _ _ c.requires.linked _ _ there

pub returns-then-entry_comes_before : goal.returns-then-entry_comes_before
returns-then-entry_comes_before g c =
    let n : c.loop-k.k < length c.args.links.now.entries.items = omega arith in
    let there = slice_get_read c.args.links.now.entries.items _ c.loop-k.k _ refl n c.index.ensures in
    let q = entry_spot _ _ _ _ _ _ _ c.requires.linked _ _ there in
    find_end _ _ _ _ _ _ _ c.requires.linked _ q.0 _ (omega (arith, c.requires.linked.many)) q.1 (before_at q.0 c.args.part.now c.args.at c.args.update.now _ _ q.3 (sym (c.entry_comes_before.ensures _ q.2) ∙ c.if-entry_comes_before.true)) c.loop-k.invariant

pub loop-k-smaller : goal.loop-k-smaller
loop-k-smaller g c =
    let n : c.loop-k.k < length c.args.links.now.entries.items = omega arith in
    let there = slice_get_read c.args.links.now.entries.items _ c.loop-k.k _ refl n c.index.ensures in
    let q = entry_spot _ _ _ _ _ _ _ c.requires.linked _ _ there in
    let b : c.loop-k.k < length c.args.links.now.back.items = omega (arith, c.requires.linked.many, c.requires.linked.back_long) in
    find_falls _ _ _ _ _ _ _ c.requires.linked _ _ q.0 (omega (arith, c.requires.linked.many)) q.1 (link_read _ _ _ b c.index-k.ensures)

pub loop-k-preserved : goal.loop-k-preserved
loop-k-preserved g c =
    let n : c.loop-k.k < length c.args.links.now.entries.items = omega arith in
    let there = slice_get_read c.args.links.now.entries.items _ c.loop-k.k _ refl n c.index.ensures in
    let q = entry_spot _ _ _ _ _ _ _ c.requires.linked _ _ there in
    let b : c.loop-k.k < length c.args.links.now.back.items = omega (arith, c.requires.linked.many, c.requires.linked.back_long) in
    find_step _ _ _ _ _ _ _ c.requires.linked _ q.0 _ _ (omega (arith, c.requires.linked.many)) q.1 (before_at q.0 c.args.part.now c.args.at c.args.update.now _ _ q.3 (sym (c.entry_comes_before.ensures _ q.2) ∙ c.if-entry_comes_before.false)) (link_read _ _ _ b c.index-k.ensures) c.loop-k.invariant

pub returns : goal.returns
returns g c = find_out _ _ _ _ _ _ _ c.requires.linked _ _ (omega (arith, c.requires.linked.many)) (omega (arith, c.requires.linked.many, c.loop-k-test.false)) c.loop-k.invariant
