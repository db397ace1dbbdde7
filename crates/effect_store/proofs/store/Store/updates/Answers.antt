use Rattle.std.proofs.Common.{sym, ap}
use Rattle.effect_store.specs.Stored.{Stored}
use Rattle.effect_store.specs.Wanted.{is_outside}
use Rattle.effect_store.proofs.Holding.{apart}
use Rattle.effect_store.proofs.Storing.{links_fit_in}
use Rattle.effect_store.proofs.Folding.{wide_for, from_head_in}
use Rattle.effect_store.proofs.store.Store.updates.Goals as goal

pub invariant_of-result : goal.invariant_of-result
invariant_of-result g c = (
  links_fit_in _ _ _ c.self.invariant.1 c.as_slice.ensures.value,
  wide_for c.args.outside _ _ _ _ c.requires (sym (ap (λ (h : Stored g.row.C-Effect.Denot). h.sites) c.self.view_is)) c.as_slice.ensures.value c.self.invariant.0.wide,
)

pub returns : goal.returns
returns g c =
    from_head_in _ _ _ c.self.inside.links c.args.object.now (is_outside c.args.outside) _ _ c.self.invariant.1 (apart _ _ _ c.self.invariant.0) c.as_slice.ensures.value c.tag_of.ensures c.head.ensures (ap (λ (h : Stored g.row.C-Effect.Denot). h.parts) c.self.view_is)
