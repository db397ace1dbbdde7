use Rattle.std.proofs.Common.{◌≡◌, ◌<◌, length, refl, sym, ◌∙◌, arith, nat_eq}
use Rattle.std.specs.HashMap.{get}
use Rattle.std.proofs.lemmas.Option.{slice_get_read}
use Rattle.effect_store.proofs.Arranging.{get_in}
use Rattle.effect_store.proofs.Linking.{entry_spot, entry_total, before_at}
use Rattle.effect_store.proofs.Keeping.{mapped_some, clear_after, clear_gone}
use Rattle.effect_store.proofs.newest.forget_update.Goals as goal

pub entry_comes_before-requires-clause-there : goal.entry_comes_before-requires-clause-there
entry_comes_before-requires-clause-there g c =
    let m = mapped_some (λ k. k.at) _ c.in-Some.end (sym c.in-Some.is ∙ c.end_of.ensures) in
    let n : c.in-Some.end < length c.args.links.now.entries.items = (let k = c.requires.within _ m.0 m.1 in let e : m.0.at ≡ c.in-Some.end = m.2 in omega (arith, k, e)) in
    let there = slice_get_read c.args.links.now.entries.items _ c.in-Some.end _ refl n c.index.ensures in
    let r = entry_spot _ _ _ _ _ _ _ c.requires.fitting.linked _ _ there in
    get_in _ _ _ r.2

pub entry_comes_before-requires-clause-known : goal.entry_comes_before-requires-clause-known
entry_comes_before-requires-clause-known g c =
    let m = mapped_some (λ k. k.at) _ c.in-Some.end (sym c.in-Some.is ∙ c.end_of.ensures) in
    let n : c.in-Some.end < length c.args.links.now.entries.items = (let k = c.requires.within _ m.0 m.1 in let e : m.0.at ≡ c.in-Some.end = m.2 in omega (arith, k, e)) in
    let there = slice_get_read c.args.links.now.entries.items _ c.in-Some.end _ refl n c.index.ensures in
    entry_total _ _ _ _ _ _ _ c.requires.fitting.linked _ _ there

pub returns-then-entry_comes_before-clause-clear : goal.returns-then-entry_comes_before-clause-clear
returns-then-entry_comes_before-clause-clear g c = λ i k z q w v f.
    (let m = mapped_some (λ k. k.at) _ c.in-Some.end (sym c.in-Some.is ∙ c.end_of.ensures) in
    let n : c.in-Some.end < length c.args.links.now.entries.items = (let k = c.requires.within _ m.0 m.1 in let e : m.0.at ≡ c.in-Some.end = m.2 in omega (arith, k, e)) in
    let there = slice_get_read c.args.links.now.entries.items _ c.in-Some.end _ refl n c.index.ensures in
    let r = entry_spot _ _ _ _ _ _ _ c.requires.fitting.linked _ _ there in
    clear_after c.args.parts.now c.args.part.now (get nat_eq c.args.newest.now) c.args.at _ _ v r.0 (c.requires.tagged v f) (sym c.in-Some.is ∙ c.end_of.ensures) r.1
    (before_at r.0 c.args.part.now c.args.at v _ _ r.3 (sym (c.entry_comes_before.ensures _ r.2) ∙ c.if-entry_comes_before.true)) i k z q w v f f)

pub returns-clause-clear : goal.returns-clause-clear
returns-clause-clear g c = λ i k z q w v f.
    clear_gone c.args.parts.now c.args.part.now (get nat_eq c.args.newest.now) (get nat_eq c.remove-old.new.self) c.args.at _ v (c.requires.tagged v f) c.remove-old.ensures.updates.0 i k z q v f f
