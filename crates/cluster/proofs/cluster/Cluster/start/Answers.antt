use Rattle.std.proofs.Common.{[], refl, sym, subst, None, Some}
use Rattle.std.specs.Prelude.{Option}
use Rattle.disk_core.specs.Fuses.{fused_state}
use Rattle.site_partitions.specs.Reaches.{types_of}
use Rattle.world_model.specs.declared.command.Command.TheVariants as command
use Rattle.cluster.specs.Post.{WholeState, new_post}
use Rattle.cluster.specs.Reached.{Applies}
use Rattle.site_partitions.specs.Sound.{AreSound}
use Rattle.cluster.specs.Fused.{StaysFused}
use Rattle.cluster.proofs.Applying.{cluster_made, none_reached, reached_on}
use Rattle.cluster.proofs.cluster.Cluster.start.Goals as goal

pub invariant_of-self : goal.invariant_of-self
invariant_of-self g c =
    let types = types_of g.C.Crdt.laws g.C.Crdt.spells (fused_state g.D.Disk.state) in
    reached_on types None (Some c.new-2.result) (command.Cluster c.args.sites c.args.parts) c.in_ok-steps.steps.items
    (subst (λ (w : WholeState g.row.C-Effect.Denot _). Applies types None (command.Cluster c.args.sites c.args.parts) c.in_ok-steps.steps.items (Some w)) (sym c.new-2.ensures)
    (cluster_made types (record { live = record { sites = c.in_ok-made.made; sessions = [] }; post = new_post }) c.args.sites c.args.parts c.in_ok-steps.steps.items c.in_ok-steps.ensures c.in_ok-made.ensures.size.0 c.in_ok-made.ensures.size.1 (c.in_ok-made.ensures.reaches c.requires.blank) refl refl c.in_ok-made.ensures.unarmed))
    (none_reached types)

pub returns-clause-ok : goal.returns-clause-ok
returns-clause-ok g c =
    let types = types_of g.C.Crdt.laws g.C.Crdt.spells (fused_state g.D.Disk.state) in
    subst (λ (l : Option (WholeState g.row.C-Effect.Denot _)). Applies types l (command.Cluster c.args.sites c.args.parts) c.in_ok-steps.steps.items (Some c.new-2.result)) (sym c.requires.lacks)
    (subst (λ (w : WholeState g.row.C-Effect.Denot _). Applies types None (command.Cluster c.args.sites c.args.parts) c.in_ok-steps.steps.items (Some w)) (sym c.new-2.ensures)
    (cluster_made types (record { live = record { sites = c.in_ok-made.made; sessions = [] }; post = new_post }) c.args.sites c.args.parts c.in_ok-steps.steps.items c.in_ok-steps.ensures c.in_ok-made.ensures.size.0 c.in_ok-made.ensures.size.1 (c.in_ok-made.ensures.reaches c.requires.blank) refl refl c.in_ok-made.ensures.unarmed))

pub returns-clause-sound : goal.returns-clause-sound
returns-clause-sound g c = λ all. subst (λ (w : WholeState g.row.C-Effect.Denot _). AreSound (fused_state g.D.Disk.state) w.live.sites) (sym c.new-2.ensures) (c.in_ok-made.ensures.sound all)

pub returns-clause-fused : goal.returns-clause-fused
returns-clause-fused g c = λ number run. subst (λ steps. StaysFused number (command.Cluster c.args.sites c.args.parts) steps run) (sym c.in_ok-steps.ensures) (λ fused. (tt, fused))
