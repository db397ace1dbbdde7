use Rattle.std.proofs.Common.{◌≡◌, ◌∙◌, sym, subst, true}
use Rattle.disk_core.specs.Fuses.{fused_state}
use Rattle.world_model.specs.lines.Places.{IsPlace}
use Rattle.site_partitions.specs.Held.{holds_part}
use Rattle.site_partitions.specs.Reaches.{types_of}
use Rattle.world_model.specs.declared.command.Command.TheVariants as command
use Rattle.cluster.specs.Live.{LiveState}
use Rattle.cluster.specs.Reached.{AppliesLive, IsReachedLive}
use Rattle.cluster.proofs.Applying.{map_ok}
use Rattle.cluster.specs.Fuel.{SetsFuse}
use Rattle.cluster.proofs.Fusing.{ever_ok, no_restart, taken_away, unfired_at}
use Rattle.cluster.proofs.Striking.{place_of_here, reached_still, restart_nowhere, revived}
use Rattle.cluster.proofs.faults.Live+C+Fused+D.restart.Goals as goal

pub returns-then-not-has_part-clause-applies : goal.returns-then-not-has_part-clause-applies
returns-then-not-has_part-clause-applies g c =
    let types = types_of g.C.Crdt.laws g.C.Crdt.spells (fused_state g.D.Disk.state) in
    map_ok c.only.result (λ steps is. restart_nowhere types c.args.self.now c.args.part steps.items is (sym c.has_part.ensures ∙ c.if-not-has_part.true)) c.only.ensures

pub revive_at-requires : goal.revive_at-requires
revive_at-requires g c = place_of_here _ c.args.self.now ((λ i. record { sites = (c.self-inside.view_is i).sites; sessions = (c.self-inside.view_is i).sessions.entries }) ∙ c.self.view_is) c.args.part (sym c.has_part.ensures ∙ c.if-not-has_part.false)

pub come_up-requires-clause-place : goal.come_up-requires-clause-place
come_up-requires-clause-place g c =
    let m = c.revive_at.ensures.moves in
    subst (λ n. IsPlace n c.revive_at.new.self.parts c.args.part) (sym m.same_sites) (subst (λ n. IsPlace c.self-inside.inside.0.1.0.all.sites n c.args.part) (sym m.same_parts)
    (place_of_here _ c.args.self.now ((λ i. record { sites = (c.self-inside.view_is i).sites; sessions = (c.self-inside.view_is i).sessions.entries }) ∙ c.self.view_is) c.args.part (sym c.has_part.ensures ∙ c.if-not-has_part.false)))

pub come_up-requires-clause-unfired : goal.come_up-requires-clause-unfired
come_up-requires-clause-unfired g c =
    let types = types_of g.C.Crdt.laws g.C.Crdt.spells (fused_state g.D.Disk.state) in
    unfired_at types c.self-inside.inside.0.1.0.all c.revive_at.new.self c.args.part c.revive_at.ensures (
    let m = c.revive_at.ensures.moves in
    subst (λ n. IsPlace n c.revive_at.new.self.parts c.args.part) (sym m.same_sites) (subst (λ n. IsPlace c.self-inside.inside.0.1.0.all.sites n c.args.part) (sym m.same_parts)
    (place_of_here _ c.args.self.now ((λ i. record { sites = (c.self-inside.view_is i).sites; sessions = (c.self-inside.view_is i).sessions.entries }) ∙ c.self.view_is) c.args.part (sym c.has_part.ensures ∙ c.if-not-has_part.false))))

pub come_up-requires-clause-reached : goal.come_up-requires-clause-reached
come_up-requires-clause-reached g c =
    let types = types_of g.C.Crdt.laws g.C.Crdt.spells (fused_state g.D.Disk.state) in
    let v : LiveState g.row.C-Effect.Denot _ = record { sites = c.self-inside.inside.0.1.0.all; sessions = c.self-inside.inside.0.1.1.0.entries } in
    reached_still types v c.args.part c.revive_at.new.self (subst (λ (x : LiveState g.row.C-Effect.Denot _). holds_part x.sites c.args.part ≡ true) (sym ((λ i. record { sites = (c.self-inside.view_is i).sites; sessions = (c.self-inside.view_is i).sessions.entries }) ∙ c.self.view_is)) (sym c.has_part.ensures ∙ c.if-not-has_part.false)) c.revive_at.ensures (subst (λ (x : LiveState g.row.C-Effect.Denot _). IsReachedLive types x) (sym ((λ i. record { sites = (c.self-inside.view_is i).sites; sessions = (c.self-inside.view_is i).sessions.entries }) ∙ c.self.view_is)) c.requires.reached)

pub returns-clause-applies : goal.returns-clause-applies
returns-clause-applies g c =
    let types = types_of g.C.Crdt.laws g.C.Crdt.spells (fused_state g.D.Disk.state) in
    let v : LiveState g.row.C-Effect.Denot _ = record { sites = c.self-inside.inside.0.1.0.all; sessions = c.self-inside.inside.0.1.1.0.entries } in
    map_ok c.come_up.result (λ steps a. subst (λ (x : LiveState g.row.C-Effect.Denot _). AppliesLive types x (command.Restart c.args.part) steps.items c.come_up.new.self) ((λ i. record { sites = (c.self-inside.view_is i).sites; sessions = (c.self-inside.view_is i).sessions.entries }) ∙ c.self.view_is)
    (revived types v c.args.part c.revive_at.new.self (command.Restart c.args.part) steps.items c.come_up.new.self (subst (λ (x : LiveState g.row.C-Effect.Denot _). holds_part x.sites c.args.part ≡ true) (sym ((λ i. record { sites = (c.self-inside.view_is i).sites; sessions = (c.self-inside.view_is i).sessions.entries }) ∙ c.self.view_is)) (sym c.has_part.ensures ∙ c.if-not-has_part.false)) c.revive_at.ensures a)) c.come_up.ensures.applies

pub returns-then-not-has_part-clause-fuse : goal.returns-then-not-has_part-clause-fuse
returns-then-not-has_part-clause-fuse g c = ever_ok c.only.result (λ steps. no_restart (fused_state g.D.Disk.state) c.args.part c.args.self.now.sites (sym c.has_part.ensures ∙ c.if-not-has_part.true))

pub returns-clause-fuse : goal.returns-clause-fuse
returns-clause-fuse g c =
    let v : LiveState g.row.C-Effect.Denot _ = record { sites = c.self-inside.inside.0.1.0.all; sessions = c.self-inside.inside.0.1.1.0.entries } in
    map_ok c.come_up.result (λ steps s. subst (λ (x : LiveState g.row.C-Effect.Denot _). SetsFuse (fused_state g.D.Disk.state) (command.Restart c.args.part) x.sites c.come_up.new.self.sites) ((λ i. record { sites = (c.self-inside.view_is i).sites; sessions = (c.self-inside.view_is i).sessions.entries }) ∙ c.self.view_is)
    (taken_away (types_of g.C.Crdt.laws g.C.Crdt.spells (fused_state g.D.Disk.state)) v.sites c.revive_at.new.self c.come_up.new.self.sites c.args.part c.revive_at.ensures s)) c.come_up.ensures.unarmed
