use Rattle.std.proofs.Common.{◌≡◌, length, sym, ap, ◌∙◌}
use Rattle.effect_store.specs.Stored.{Stored}
use Rattle.effect_store.proofs.Keeping.{newest_in}
use Rattle.effect_store.proofs.store.Store.bring_forward.Goals as goal

pub advance-requires-clause-hold : goal.advance-requires-clause-hold
advance-requires-clause-hold g c =
    let sites : c.self.inside.sites ≡ c.args.self.now.sites = ap (λ (h : Stored g.row.C-Effect.Denot). h.sites) c.self.view_is in
    newest_in _ _ _ _ _ _ _ (c.requires.width ∙ sym sites) c.as_slice.ensures.value c.self.invariant.6

pub advance-requires-clause-hold_older : goal.advance-requires-clause-hold_older
advance-requires-clause-hold_older g c =
    let sites : c.self.inside.sites ≡ c.args.self.now.sites = ap (λ (h : Stored g.row.C-Effect.Denot). h.sites) c.self.view_is in
    newest_in _ _ _ _ _ _ _ (c.requires.width ∙ sym sites) c.as_slice.ensures.value c.self.invariant.7

pub invariant_of-self : goal.invariant_of-self
invariant_of-self g c =
    let sites : c.self.inside.sites ≡ c.args.self.now.sites = ap (λ (h : Stored g.row.C-Effect.Denot). h.sites) c.self.view_is in
    let i = c.self.invariant in
    let width : c.self.inside.sites ≡ length c.args.snapshot.now = sites ∙ sym c.requires.width in
    let parts = sym c.as_slice.ensures.value in
    (i.0, i.1, i.2, i.3, i.4, i.5, newest_in _ _ _ _ _ _ _ width parts c.advance.ensures.hold, newest_in _ _ _ _ _ _ _ width parts c.advance.ensures.hold_older, i.8, i.9)
