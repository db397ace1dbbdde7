use Rattle.std.proofs.Common.{sym, ap, refl}
use Rattle.std.proofs.lemmas.Option.{slice_get_read}
use Rattle.effect_store.specs.Stored.{Stored}
use Rattle.effect_store.proofs.Arranging.{get_in}
use Rattle.effect_store.proofs.Holding.{has_some, has_none}
use Rattle.effect_store.proofs.store.Store.has.Goals as goal

pub returns-in-Some : goal.returns-in-Some
returns-in-Some g c =
    let named = c.self.invariant.0.named c.args.tx c.in-Some.at.now (sym c.in-Some.ensures.value) in
    let there = slice_get_read c.self.inside.parts.items _ c.in-Some.at.now _ refl (get_in _ _ _ named.1) c.index.ensures in
    has_some _ _ _ c.self.invariant.0 _ _ _ _ (sym c.in-Some.ensures.value) there (ap (λ (h : Stored g.row.C-Effect.Denot). h.parts) c.self.view_is)

pub returns-in-None : goal.returns-in-None
returns-in-None g c = has_none _ _ _ c.self.invariant.0 _ _ (sym c.in-None.ensures.value) (ap (λ (h : Stored g.row.C-Effect.Denot). h.parts) c.self.view_is)
