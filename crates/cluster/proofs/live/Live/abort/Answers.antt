use Rattle.std.proofs.Common.{◌∙◌, sym, subst}
use Rattle.site_partitions.specs.Reaches.{types_of}
use Rattle.world_model.specs.declared.command.Command.TheVariants as command
use Rattle.cluster.specs.Live.{LiveState}
use Rattle.cluster.specs.Reached.{AppliesLive, IsReachedLive}
use Rattle.cluster.proofs.Applying.{map_ok}
use Rattle.cluster.proofs.Commands.{none_about}
use Rattle.cluster.proofs.Leading.{abort_absent, abort_decided}
use Rattle.cluster.proofs.live.Live.abort.Goals as goal

pub returns-in_default : goal.returns-in_default
returns-in_default g c = map_ok c.only.result (λ lines is. abort_absent (types_of g.C.Crdt.laws g.C.Crdt.spells g.D.Disk.state) c.args.self.now c.args.name.now lines.items is (none_about _ (sym c.phase.ensures ∙ c.in_default.is))) c.only.ensures

pub returns-then-not-is_undecided : goal.returns-then-not-is_undecided
returns-then-not-is_undecided g c = map_ok c.only-then-not-is_undecided.result (λ lines is. abort_decided (types_of g.C.Crdt.laws g.C.Crdt.spells g.D.Disk.state) c.args.self.now c.args.name.now lines.items c.in-Some.phase is (sym c.phase.ensures ∙ c.in-Some.is) (sym c.is_undecided.ensures ∙ c.if-not-is_undecided.true)) c.only-then-not-is_undecided.ensures

pub returns-in-Ok : goal.returns-in-Ok
returns-in-Ok g c = subst (λ (x : LiveState g.row.C-Effect.Denot _). AppliesLive (types_of g.C.Crdt.laws g.C.Crdt.spells g.D.Disk.state) x (command.Abort c.args.name.now) c.in-Ok.lines.items (record { sites = c.end_all.new.sites; sessions = c.end_all.new.sessions.entries })) c.self.view_is c.in-Ok.ensures

pub end_all-requires-clause-reached : goal.end_all-requires-clause-reached
end_all-requires-clause-reached g c = subst (λ (x : LiveState g.row.C-Effect.Denot _). IsReachedLive (types_of g.C.Crdt.laws g.C.Crdt.spells g.D.Disk.state) x) (sym c.self.view_is) c.requires.reached
