use Rattle.std.proofs.Common.{◌≡◌, ℕ, ◌-◌, ◌<◌, length, ap, ◌∙◌, arith}
use Rattle.std.proofs.lemmas.Option.{slice_get-get_or}
use Rattle.effect_store.specs.Stored.{Stored}
use Rattle.effect_store.proofs.Committing.{as_site}
use Rattle.effect_store.proofs.Between.{stretch_between, within_in, rising_in, wide_in}
use Rattle.effect_store.proofs.store.Store.between.Goals as goal

pub stretch-requires-clause-wide : goal.stretch-requires-clause-wide
stretch-requires-clause-wide g c =
    let sites : c.self.inside.sites ≡ c.args.self.now.sites = ap (λ (h : Stored g.row.C-Effect.Denot). h.sites) c.self.view_is in
    wide_in c.self.inside.sites _ _ _ (omega (arith, c.requires.most)) c.self.invariant.0.wide c.as_slice.ensures.value

pub stretch-requires-clause-within : goal.stretch-requires-clause-within
stretch-requires-clause-within g c =
    let sites : c.self.inside.sites ≡ c.args.self.now.sites = ap (λ (h : Stored g.row.C-Effect.Denot). h.sites) c.self.view_is in
    let i : ℕ = c.args.site - 1 in
    let n : i < length c.self.inside.lists = omega (arith, c.self.told, c.self.invariant.8, c.requires.least, c.requires.most) in
    let v = slice_get-get_or c.self.inside.lists i c.index-self-site.result n in
    let listed = as_site _ _ c.self.inside.lists i c.args.site _ c.self.invariant.4 v (omega (arith, c.requires.least, c.requires.most)) (omega (arith, c.requires.least)) in
    within_in _ _ _ _ _ listed c.as_slice.ensures.value c.as_slice-2.ensures.value

pub stretch-requires-clause-rising : goal.stretch-requires-clause-rising
stretch-requires-clause-rising g c =
    let sites : c.self.inside.sites ≡ c.args.self.now.sites = ap (λ (h : Stored g.row.C-Effect.Denot). h.sites) c.self.view_is in
    let i : ℕ = c.args.site - 1 in
    let n : i < length c.self.inside.lists = omega (arith, c.self.told, c.self.invariant.8, c.requires.least, c.requires.most) in
    let v = slice_get-get_or c.self.inside.lists i c.index-self-site.result n in
    let listed = as_site _ _ c.self.inside.lists i c.args.site _ c.self.invariant.4 v (omega (arith, c.requires.least, c.requires.most)) (omega (arith, c.requires.least)) in
    rising_in _ _ _ _ _ listed c.as_slice.ensures.value c.as_slice-2.ensures.value

pub returns : goal.returns
returns g c =
    let sites : c.self.inside.sites ≡ c.args.self.now.sites = ap (λ (h : Stored g.row.C-Effect.Denot). h.sites) c.self.view_is in
    let i : ℕ = c.args.site - 1 in
    let n : i < length c.self.inside.lists = omega (arith, c.self.told, c.self.invariant.8, c.requires.least, c.requires.most) in
    let v = slice_get-get_or c.self.inside.lists i c.index-self-site.result n in
    let listed = as_site _ _ c.self.inside.lists i c.args.site _ c.self.invariant.4 v (omega (arith, c.requires.least, c.requires.most)) (omega (arith, c.requires.least)) in
    c.stretch.ensures ∙ stretch_between _ _ _ c.self.invariant.0 c.args.site c.args.lo c.args.hi c.args.self.now.parts _ _ _ (ap (λ (h : Stored g.row.C-Effect.Denot). h.parts) c.self.view_is) listed c.as_slice.ensures.value c.as_slice-2.ensures.value
