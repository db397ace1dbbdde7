use Rattle.std.proofs.Common.{◌≡◌, sym, ap, ◌∙◌, subst}
use Rattle.std.specs.Prelude.{IfOk}
use Rattle.effect_store.specs.Stored.{Stored}
use Rattle.effect_store.proofs.Holding.{apart}
use Rattle.effect_store.proofs.Keeping.{newest_in, model_is}
use Rattle.effect_store.proofs.store.Store.copied.Goals as goal

pub read_state-requires-clause-hold : goal.read_state-requires-clause-hold
read_state-requires-clause-hold g c =
    let sites : c.self.inside.sites ≡ c.args.self.now.sites = ap (λ (h : Stored g.row.C-Effect.Denot). h.sites) c.self.view_is in
    newest_in _ _ _ _ _ _ _ (c.requires.width ∙ sym sites) c.as_slice.ensures.value c.self.invariant.6

pub returns : goal.returns
returns g c =
    let P : g.row.C-State.Denot → Type 0 = λ z. IfOk c.read_state.result (λ v. v ≡ z) in
    subst P (model_is g.C.Crdt.initial g.C.Crdt.applied c.self.inside.parts.items c.as_slice.result.now c.args.self.now.parts c.args.object.now c.args.snapshot.now (apart _ _ _ c.self.invariant.0) c.as_slice.ensures.value (ap (λ (h : Stored g.row.C-Effect.Denot). h.parts) c.self.view_is)) c.read_state.ensures
