use Rattle.std.proofs.Common.{sym, subst, rules}
use Rattle.std.specs.Prelude.{IfOk, Option}
use Rattle.world_model.specs.declared.command.Command.{Command}
use Rattle.world_model.specs.declared.command.Command.TheVariants as command
use Rattle.disk_core.specs.Fuses.{fused_state}
use Rattle.cluster.specs.Built.{is_making}
use Rattle.cluster.specs.Reached.{Applies}
use Rattle.cluster.specs.Post.{WholeState}
use Rattle.disk_core.specs.declared.fused.Fused.{Fused}
use Rattle.site_partitions.specs.Reaches.{types_of}
use Rattle.dc_engine.specs.Player.{StaysSoundBy}
use Rattle.dc_engine.proofs.commands.Applied.{out_applied, out_none, makes_none}
use Rattle.dc_engine.proofs.player.obey.Goals as goal

pub apply-requires-clause-made : goal.apply-requires-clause-made
apply-requires-clause-made g c = makes_none c.args.cluster.now (is_making c.args.command.now) c.in_default.ensures.none

pub returns-in_err-apply-clause-held : goal.returns-in_err-apply-clause-held
returns-in_err-apply-clause-held g c = out_none _ _ _ c.in_err-apply.ensures.err

pub returns-in_default-clause-held : goal.returns-in_default-clause-held
returns-in_default-clause-held g c = out_applied _ c.args.cluster.now c.apply.new.self c.args.command.now c.in_ok-apply.field-0.items _ c.in_default.ensures.none c.in_ok-apply.ensures.ok c.requires.held

pub returns-clause-ok : goal.returns-clause-ok
returns-clause-ok g c =
    subst (λ (k : Command). IfOk c.make_cluster.result (λ steps. Applies (types_of g.C.Crdt.laws g.C.Crdt.spells (fused_state g.M.Disk.Disk.state)) c.args.cluster.now k steps.items c.make_cluster.new.cluster)) (sym c.in-Some.ensures.some)
    (subst (λ (o : Option (WholeState g.row.C-Effect.Denot (Fused g.row.M-Disk.Denot))). IfOk c.make_cluster.result (λ steps. Applies (types_of g.C.Crdt.laws g.C.Crdt.spells (fused_state g.M.Disk.Disk.state)) o (command.Cluster c.in-Some.sites c.in-Some.parts) steps.items c.make_cluster.new.cluster)) (sym c.in-Some.ensures.lacks) c.make_cluster.ensures.ok)

pub returns-clause-lacks : goal.returns-clause-lacks
returns-clause-lacks g c = λ e. c.in-Some.ensures.lacks

pub returns-in_default-clause-ok : goal.returns-in_default-clause-ok
returns-in_default-clause-ok g c = search rules

pub returns-clause-stays : goal.returns-clause-stays
returns-clause-stays g c =
    subst (λ (k : Command). IfOk c.make_cluster.result (λ steps. g.M.Disks.sound c.args.disks.now → StaysSoundBy (types_of g.C.Crdt.laws g.C.Crdt.spells (fused_state g.M.Disk.Disk.state)) (fused_state g.M.Disk.Disk.state) c.args.cluster.now k steps.items c.make_cluster.new.cluster)) (sym c.in-Some.ensures.some)
    (subst (λ (o : Option (WholeState g.row.C-Effect.Denot (Fused g.row.M-Disk.Denot))). IfOk c.make_cluster.result (λ steps. g.M.Disks.sound c.args.disks.now → StaysSoundBy (types_of g.C.Crdt.laws g.C.Crdt.spells (fused_state g.M.Disk.Disk.state)) (fused_state g.M.Disk.Disk.state) o (command.Cluster c.in-Some.sites c.in-Some.parts) steps.items c.make_cluster.new.cluster)) (sym c.in-Some.ensures.lacks) c.make_cluster.ensures.stays)

pub returns-in_default-clause-stays : goal.returns-in_default-clause-stays
returns-in_default-clause-stays g c = λ sound. record { standing = c.in_ok-apply.ensures.sound; fused = c.in_ok-apply.ensures.fused }
