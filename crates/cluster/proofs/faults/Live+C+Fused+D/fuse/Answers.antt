use Rattle.std.proofs.Common.{◌≡◌, ◌∙◌, true, sym, subst}
use Rattle.disk_core.specs.Fuses.{fused_state}
use Rattle.site_partitions.specs.Held.{holds_part}
use Rattle.site_partitions.specs.Reaches.{types_of}
use Rattle.world_model.specs.declared.command.Command.TheVariants as command
use Rattle.cluster.specs.Live.{LiveState}
use Rattle.cluster.specs.Reached.{AppliesLive}
use Rattle.cluster.proofs.Applying.{map_ok}
use Rattle.cluster.specs.Fuel.{SetsFuse}
use Rattle.cluster.proofs.Fusing.{armed, ever_ok, no_fuse}
use Rattle.cluster.proofs.Striking.{place_of_here, fuse_nowhere, fuse_applies}
use Rattle.cluster.proofs.faults.Live+C+Fused+D.fuse.Goals as goal

pub returns-then-not-has_part-clause-applies : goal.returns-then-not-has_part-clause-applies
returns-then-not-has_part-clause-applies g c =
    let types = types_of g.C.Crdt.laws g.C.Crdt.spells (fused_state g.D.Disk.state) in
    map_ok c.only.result (λ steps is. fuse_nowhere types c.args.self.now c.args.part c.args.call c.args.keep steps.items is (sym c.has_part.ensures ∙ c.if-not-has_part.true)) c.only.ensures

pub arm_at-requires : goal.arm_at-requires
arm_at-requires g c = place_of_here _ c.args.self.now ((λ i. record { sites = (c.self-inside.view_is i).sites; sessions = (c.self-inside.view_is i).sessions.entries }) ∙ c.self.view_is) c.args.part (sym c.has_part.ensures ∙ c.if-not-has_part.false)

pub returns-clause-applies : goal.returns-clause-applies
returns-clause-applies g c =
    let types = types_of g.C.Crdt.laws g.C.Crdt.spells (fused_state g.D.Disk.state) in
    let v : LiveState g.row.C-Effect.Denot _ = record { sites = c.self-inside.inside.0.1.0.all; sessions = c.self-inside.inside.0.1.1.0.entries } in
    map_ok c.only-2.result (λ steps is. subst (λ (x : LiveState g.row.C-Effect.Denot _). AppliesLive types x (command.Fuse c.args.part c.args.call c.args.keep) steps.items (record { sites = c.arm_at.new.self; sessions = c.self-inside.inside.0.1.1.0.entries })) ((λ i. record { sites = (c.self-inside.view_is i).sites; sessions = (c.self-inside.view_is i).sessions.entries }) ∙ c.self.view_is)
    (fuse_applies types v c.args.part c.args.call c.args.keep c.arm_at.new.self steps.items is (subst (λ (x : LiveState g.row.C-Effect.Denot _). holds_part x.sites c.args.part ≡ true) (sym ((λ i. record { sites = (c.self-inside.view_is i).sites; sessions = (c.self-inside.view_is i).sessions.entries }) ∙ c.self.view_is)) (sym c.has_part.ensures ∙ c.if-not-has_part.false)) c.requires c.arm_at.ensures)) c.only-2.ensures

pub returns-then-not-has_part-clause-fuse : goal.returns-then-not-has_part-clause-fuse
returns-then-not-has_part-clause-fuse g c = ever_ok c.only.result (λ steps. no_fuse (fused_state g.D.Disk.state) c.args.part c.args.call c.args.keep c.args.self.now.sites (sym c.has_part.ensures ∙ c.if-not-has_part.true))

pub returns-clause-fuse : goal.returns-clause-fuse
returns-clause-fuse g c =
    let v : LiveState g.row.C-Effect.Denot _ = record { sites = c.self-inside.inside.0.1.0.all; sessions = c.self-inside.inside.0.1.1.0.entries } in
    ever_ok c.only-2.result (λ steps. subst (λ (x : LiveState g.row.C-Effect.Denot _). SetsFuse (fused_state g.D.Disk.state) (command.Fuse c.args.part c.args.call c.args.keep) x.sites c.arm_at.new.self) ((λ i. record { sites = (c.self-inside.view_is i).sites; sessions = (c.self-inside.view_is i).sessions.entries }) ∙ c.self.view_is)
    (armed (types_of g.C.Crdt.laws g.C.Crdt.spells (fused_state g.D.Disk.state)) v.sites c.arm_at.new.self c.args.part c.args.call c.args.keep c.arm_at.ensures))
