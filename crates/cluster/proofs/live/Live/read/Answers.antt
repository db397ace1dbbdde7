use Rattle.std.proofs.Common.{sym, subst}
use Rattle.world_model.specs.declared.command.Command.TheVariants as command
use Rattle.site_partitions.specs.Reaches.{types_of}
use Rattle.cluster.specs.Live.{LiveState}
use Rattle.cluster.specs.Reached.{AppliesLive, IsReachedLive}
use Rattle.cluster.proofs.Applying.{map_ok}
use Rattle.cluster.proofs.live.Live.read.Goals as goal

pub returns : goal.returns
returns g c = map_ok c.read_in.result (λ steps is. subst (λ (x : LiveState g.row.C-Effect.Denot _). AppliesLive (types_of g.C.Crdt.laws g.C.Crdt.spells g.D.Disk.state) x (command.Read c.args.name.now c.args.object.now) steps.items (record { sites = c.read_in.new.sites; sessions = c.read_in.new.sessions.entries })) c.self.view_is is) c.read_in.ensures

pub read_in-requires-clause-reached : goal.read_in-requires-clause-reached
read_in-requires-clause-reached g c = subst (λ (x : LiveState g.row.C-Effect.Denot _). IsReachedLive (types_of g.C.Crdt.laws g.C.Crdt.spells g.D.Disk.state) x) (sym c.self.view_is) c.requires.reached
