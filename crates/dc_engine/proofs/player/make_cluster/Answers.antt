use Rattle.std.proofs.Common.{subst, arith}
use Rattle.std.specs.Prelude.{Option}
use Rattle.world_model.specs.declared.command.Command.TheVariants as command
use Rattle.disk_core.specs.Fuses.{fused_state}
use Rattle.cluster.specs.Reached.{Applies}
use Rattle.cluster.specs.Post.{WholeState}
use Rattle.disk_core.specs.declared.fused.Fused.{Fused}
use Rattle.site_partitions.specs.Reaches.{types_of}
use Rattle.dc_engine.proofs.commands.Applied.{out_made, out_none}
use Rattle.dc_engine.proofs.commands.Making.{sure_sound, sure_comes_up}
use Rattle.dc_engine.proofs.commands.Returned.{failed_applies}
use Rattle.dc_engine.proofs.player.make_cluster.Goals as goal

pub returns-in-Ok-clause-held : goal.returns-in-Ok-clause-held
returns-in-Ok-clause-held g c =
    let out = c.in_ok-made.ensures.out in
    out_made _ c.start.new.self c.args.sites c.args.parts c.in-Ok.steps.items _ (omega (arith, out))
    (subst (λ (o : Option (WholeState g.row.C-Effect.Denot (Fused g.row.M-Disk.Denot))). Applies (types_of g.C.Crdt.laws g.C.Crdt.spells (fused_state g.M.Disk.Disk.state)) o (command.Cluster c.args.sites c.args.parts) c.in-Ok.steps.items c.start.new.self) c.requires.lacks c.in-Ok.ensures.ok)

pub returns-in-Ok-clause-ok : goal.returns-in-Ok-clause-ok
returns-in-Ok-clause-ok g c = subst (λ (o : Option (WholeState g.row.C-Effect.Denot (Fused g.row.M-Disk.Denot))). Applies (types_of g.C.Crdt.laws g.C.Crdt.spells (fused_state g.M.Disk.Disk.state)) o (command.Cluster c.args.sites c.args.parts) c.in-Ok.steps.items c.start.new.self) c.requires.lacks c.in-Ok.ensures.ok

pub returns-in_ok-unmade-in-Err-clause-held : goal.returns-in_ok-unmade-in-Err-clause-held
returns-in_ok-unmade-in-Err-clause-held g c = out_none _ c.start.new.self _ c.in-Err.ensures.err

pub returns-in_ok-unmade-in-Err-clause-ok : goal.returns-in_ok-unmade-in-Err-clause-ok
returns-in_ok-unmade-in-Err-clause-ok g c = failed_applies _ (fused_state g.M.Disk.Disk.state) c.args.sites c.args.parts _ c.in-Err.error _ c.start.new.self c.in-Err.ensures.err c.in-Err.ensures.failed c.in_ok-unmade-in-Err.ensures

pub returns-in-Ok-clause-stays : goal.returns-in-Ok-clause-stays
returns-in-Ok-clause-stays g c = λ sound. record {
  standing = λ none. c.in-Ok.ensures.sound (sure_sound (fused_state g.M.Disk.Disk.state) _ (c.in_ok-made.ensures.all_sound sound));
  fused = λ none number run left. c.in-Ok.ensures.fused number run;
}

pub returns-in_ok-unmade-in-Err-clause-stays : goal.returns-in_ok-unmade-in-Err-clause-stays
returns-in_ok-unmade-in-Err-clause-stays g c = λ sound. absurd (sure_comes_up (fused_state g.M.Disk.Disk.state) c.args.sites c.args.parts _ c.in-Err.error _ (c.in_ok-made.ensures.all_sound sound) c.in-Err.ensures.failed c.in_ok-unmade-in-Err.ensures)
