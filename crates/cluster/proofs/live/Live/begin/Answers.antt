use Rattle.std.proofs.Common.{◌≤◌, ◌∙◌, ap, sym, subst}
use Rattle.site_partitions.specs.Reaches.{types_of}
use Rattle.world_model.specs.declared.command.Command.TheVariants as command
use Rattle.cluster.specs.Live.{LiveState}
use Rattle.cluster.specs.Reached.{AppliesLive, IsReachedLive}
use Rattle.cluster.proofs.Applying.{map_ok}
use Rattle.site_partitions.specs.Held.{Held}
use Rattle.cluster.specs.Same.{holds_place}
use Rattle.cluster.proofs.Beginning.{begin_nowhere}
use Rattle.cluster.proofs.live.Live.begin.Goals as goal

pub returns-then-not-has_place : goal.returns-then-not-has_place
returns-then-not-has_place g c =
    map_ok c.only.result (λ steps is. begin_nowhere (types_of g.C.Crdt.laws g.C.Crdt.spells g.D.Disk.state) c.args.self.now c.args.name.now c.args.part c.args.mode steps.items is (sym c.has_place.ensures.is ∙ c.if-not-has_place.true)) c.only.ensures

pub begin_in-requires-clause-place : goal.begin_in-requires-clause-place
begin_in-requires-clause-place g c =
    let e = ap (λ (x : LiveState g.row.C-Effect.Denot _). x.sites) c.self.view_is in
    ap (λ (h : Held g.row.C-Effect.Denot _). holds_place h c.args.part) e ∙ (sym c.has_place.ensures.is ∙ c.if-not-has_place.false)

pub begin_in-requires-clause-some : goal.begin_in-requires-clause-some
begin_in-requires-clause-some g c =
    let e = ap (λ (x : LiveState g.row.C-Effect.Denot _). x.sites) c.self.view_is in
    subst (λ (h : Held g.row.C-Effect.Denot _). 1 ≤ h.parts) (sym e) c.has_place.ensures.some

pub begin_in-requires-clause-reached : goal.begin_in-requires-clause-reached
begin_in-requires-clause-reached g c = subst (λ (x : LiveState g.row.C-Effect.Denot _). IsReachedLive (types_of g.C.Crdt.laws g.C.Crdt.spells g.D.Disk.state) x) (sym c.self.view_is) c.requires.reached

pub returns-in-Ok : goal.returns-in-Ok
returns-in-Ok g c = subst (λ (x : LiveState g.row.C-Effect.Denot _). AppliesLive (types_of g.C.Crdt.laws g.C.Crdt.spells g.D.Disk.state) x (command.Begin c.args.name.now c.args.part c.args.mode) c.in-Ok.lines.items (record { sites = c.begin_in.new.sites; sessions = c.begin_in.new.sessions.entries })) c.self.view_is c.in-Ok.ensures
