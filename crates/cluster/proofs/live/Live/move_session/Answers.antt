use Rattle.std.proofs.Common.{◌∙◌, ap, sym, subst}
use Rattle.site_partitions.specs.Reaches.{types_of}
use Rattle.world_model.specs.declared.command.Command.TheVariants as command
use Rattle.site_partitions.specs.Held.{holds_site}
use Rattle.cluster.specs.Live.{LiveState, phase_in}
use Rattle.cluster.specs.Reached.{AppliesLive, IsReachedLive}
use Rattle.cluster.proofs.Applying.{map_ok}
use Rattle.cluster.proofs.Commands.{none_about}
use Rattle.cluster.proofs.Beginning.{doing_about}
use Rattle.cluster.proofs.Opening.{move_nowhere, move_absent, move_busy, session_moved, move_place}
use Rattle.cluster.proofs.live.Live.move_session.Goals as goal

pub returns-then-not-has_site : goal.returns-then-not-has_site
returns-then-not-has_site g c =
    map_ok c.only.result (λ steps is. move_nowhere (types_of g.C.Crdt.laws g.C.Crdt.spells g.D.Disk.state) c.args.self.now c.args.name.now c.args.site steps.items is (sym c.has_site.ensures ∙ c.if-not-has_site.true)) c.only.ensures

pub returns-in_default : goal.returns-in_default
returns-in_default g c =
    map_ok c.only-in_default.result (λ steps is. move_absent (types_of g.C.Crdt.laws g.C.Crdt.spells g.D.Disk.state) c.args.self.now c.args.name.now c.args.site steps.items is (sym c.has_site.ensures ∙ c.if-not-has_site.false) (none_about _ (sym c.phase.ensures ∙ c.in_default.is))) c.only-in_default.ensures

pub returns-then-not-is_idle : goal.returns-then-not-is_idle
returns-then-not-is_idle g c =
    map_ok c.only-then-not-is_idle.result (λ steps is. move_busy (types_of g.C.Crdt.laws g.C.Crdt.spells g.D.Disk.state) c.args.self.now c.args.name.now c.args.site steps.items is (sym c.has_site.ensures ∙ c.if-not-has_site.false) (doing_about _ c.in-Some.phase _ (sym c.phase.ensures ∙ c.in-Some.is) (sym c.is_idle.ensures ∙ c.if-not-is_idle.true))) c.only-then-not-is_idle.ensures

pub move_in-requires-clause-place : goal.move_in-requires-clause-place
move_in-requires-clause-place g c s is =
    move_place (types_of g.C.Crdt.laws g.C.Crdt.spells g.D.Disk.state) (record { sites = c.self.inside.sites; sessions = c.self.inside.sessions.entries }) c.args.name.now c.args.site (subst (λ (x : LiveState g.row.C-Effect.Denot _). IsReachedLive (types_of g.C.Crdt.laws g.C.Crdt.spells g.D.Disk.state) x) (sym c.self.view_is) c.requires) (ap (λ (x : LiveState g.row.C-Effect.Denot _). holds_site x.sites c.args.site) c.self.view_is ∙ (sym c.has_site.ensures ∙ c.if-not-has_site.false)) s is

pub returns-in-Ok : goal.returns-in-Ok
returns-in-Ok g c =
    map_ok c.only-in-Ok.result (λ steps is. subst (λ (x : LiveState g.row.C-Effect.Denot _). AppliesLive (types_of g.C.Crdt.laws g.C.Crdt.spells g.D.Disk.state) x (command.Move c.args.name.now c.args.site) steps.items (record { sites = c.self.inside.sites; sessions = c.move_in.new.sessions.entries })) c.self.view_is
    (session_moved (types_of g.C.Crdt.laws g.C.Crdt.spells g.D.Disk.state) (record { sites = c.self.inside.sites; sessions = c.self.inside.sessions.entries }) c.args.name.now c.args.site c.move_in.new.sessions.entries c.in-Ok.step steps.items is (ap (λ (x : LiveState g.row.C-Effect.Denot _). holds_site x.sites c.args.site) c.self.view_is ∙ (sym c.has_site.ensures ∙ c.if-not-has_site.false))
    (doing_about _ c.in-Some.phase _ (ap (λ (x : LiveState g.row.C-Effect.Denot _). phase_in x.sessions c.args.name.now) c.self.view_is ∙ (sym c.phase.ensures ∙ c.in-Some.is)) (sym c.is_idle.ensures ∙ c.if-not-is_idle.false)) c.in-Ok.ensures)) c.only-in-Ok.ensures
