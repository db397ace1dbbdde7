use Rattle.std.proofs.Common.{◌∙◌, [], ◌∷◌, sym, ap, subst}
use Rattle.world_model.specs.lines.Places.{IsPlace}
use Rattle.std.specs.Prelude.{Err}
use Rattle.partition_core.specs.declared.restart.RestartError.{RestartError}
use Rattle.site_partitions.specs.Faults.{RestartsAt}
use Rattle.site_partitions.specs.Reaches.{types_of}
use Rattle.world_model.specs.declared.command.Command.TheVariants as command
use Rattle.cluster.specs.Live.{LiveState}
use Rattle.cluster.specs.Reached.{AppliesLive, IsReachedLive}
use Rattle.cluster.proofs.Applying.{map_ok}
use Rattle.cluster.specs.Fuel.{StaysUnarmed}
use Rattle.cluster.proofs.Fusing.{ever_ok, unarmed}
use Rattle.cluster.specs.Fuel.{IsUnfiredAt}
use Rattle.cluster.proofs.Striking.{came_up, stayed_down, never_damaged, holds_place}
use Rattle.cluster.proofs.live.Live.come_up.Goals as goal

pub returns-in-Ok-clause-applies : goal.returns-in-Ok-clause-applies
returns-in-Ok-clause-applies g c =
    let types = types_of g.C.Crdt.laws g.C.Crdt.spells g.D.Disk.state in
    let v : LiveState g.row.C-Effect.Denot _ = record { sites = c.self-inside.inside.0.1.0.all; sessions = c.self-inside.inside.0.1.1.0.entries } in
    map_ok c.only.result (λ steps is. subst (λ (x : LiveState g.row.C-Effect.Denot _). AppliesLive types x (command.Restart c.args.part) steps.items (record { sites = c.restart_at.new.self; sessions = c.self-inside.inside.0.1.1.0.entries })) ((λ i. record { sites = (c.self-inside.view_is i).sites; sessions = (c.self-inside.view_is i).sessions.entries }) ∙ c.self.view_is)
    (came_up types v c.args.part c.restart_at.new.self c.in-Ok.restarted steps.items (is ∙ ap (λ l. l ∷ []) c.came_up.ensures) (holds_place v c.args.self.now ((λ i. record { sites = (c.self-inside.view_is i).sites; sessions = (c.self-inside.view_is i).sessions.entries }) ∙ c.self.view_is) c.args.part c.requires.place) c.in-Ok.ensures)) c.only.ensures

pub returns-in-Disk-clause-applies : goal.returns-in-Disk-clause-applies
returns-in-Disk-clause-applies g c =
    let types = types_of g.C.Crdt.laws g.C.Crdt.spells g.D.Disk.state in
    let v : LiveState g.row.C-Effect.Denot _ = record { sites = c.self-inside.inside.0.1.0.all; sessions = c.self-inside.inside.0.1.1.0.entries } in
    let k = (subst (λ (e : RestartError). RestartsAt (types_of g.C.Crdt.laws g.C.Crdt.spells g.D.Disk.state) v.sites c.restart_at.new.self c.args.part (Err e)) c.in-Disk.is c.in-Err.ensures) in
    map_ok c.only-in-Disk.result (λ steps is. subst (λ (x : LiveState g.row.C-Effect.Denot _). AppliesLive types x (command.Restart c.args.part) steps.items (record { sites = c.restart_at.new.self; sessions = c.self-inside.inside.0.1.1.0.entries })) ((λ i. record { sites = (c.self-inside.view_is i).sites; sessions = (c.self-inside.view_is i).sessions.entries }) ∙ c.self.view_is)
    (stayed_down types v c.args.part c.restart_at.new.self steps.items is (holds_place v c.args.self.now ((λ i. record { sites = (c.self-inside.view_is i).sites; sessions = (c.self-inside.view_is i).sessions.entries }) ∙ c.self.view_is) c.args.part c.requires.place) k.0 k.1 (subst (λ (x : LiveState g.row.C-Effect.Denot _). IsUnfiredAt g.D.Disk.state x.sites c.args.part) (sym ((λ i. record { sites = (c.self-inside.view_is i).sites; sessions = (c.self-inside.view_is i).sessions.entries }) ∙ c.self.view_is)) c.requires.unfired))) c.only-in-Disk.ensures

pub returns-in-Damaged-clause-applies : goal.returns-in-Damaged-clause-applies
returns-in-Damaged-clause-applies g c =
    let v : LiveState g.row.C-Effect.Denot _ = record { sites = c.self-inside.inside.0.1.0.all; sessions = c.self-inside.inside.0.1.1.0.entries } in
    absurd (never_damaged (types_of g.C.Crdt.laws g.C.Crdt.spells g.D.Disk.state) v c.args.part c.restart_at.new.self c.in-Damaged.at (subst (λ (x : LiveState g.row.C-Effect.Denot _). IsPlace x.sites.sites x.sites.parts c.args.part) (sym ((λ i. record { sites = (c.self-inside.view_is i).sites; sessions = (c.self-inside.view_is i).sessions.entries }) ∙ c.self.view_is)) c.requires.place) (subst (λ (x : LiveState g.row.C-Effect.Denot _). IsReachedLive (types_of g.C.Crdt.laws g.C.Crdt.spells g.D.Disk.state) x) (sym ((λ i. record { sites = (c.self-inside.view_is i).sites; sessions = (c.self-inside.view_is i).sessions.entries }) ∙ c.self.view_is)) c.requires.reached) (subst (λ (e : RestartError). RestartsAt (types_of g.C.Crdt.laws g.C.Crdt.spells g.D.Disk.state) v.sites c.restart_at.new.self c.args.part (Err e)) c.in-Damaged.is c.in-Err.ensures))

pub returns-in-Ok-clause-unarmed : goal.returns-in-Ok-clause-unarmed
returns-in-Ok-clause-unarmed g c =
    let v : LiveState g.row.C-Effect.Denot _ = record { sites = c.self-inside.inside.0.1.0.all; sessions = c.self-inside.inside.0.1.1.0.entries } in
    ever_ok c.only.result (λ steps. subst (λ (x : LiveState g.row.C-Effect.Denot _). StaysUnarmed g.D.Disk.state x.sites c.restart_at.new.self c.args.part) ((λ i. record { sites = (c.self-inside.view_is i).sites; sessions = (c.self-inside.view_is i).sessions.entries }) ∙ c.self.view_is)
    (unarmed (types_of g.C.Crdt.laws g.C.Crdt.spells g.D.Disk.state) v.sites c.restart_at.new.self c.args.part c.in-Ok.ensures.moves c.in-Ok.ensures.left))

pub returns-in-Disk-clause-unarmed : goal.returns-in-Disk-clause-unarmed
returns-in-Disk-clause-unarmed g c =
    let v : LiveState g.row.C-Effect.Denot _ = record { sites = c.self-inside.inside.0.1.0.all; sessions = c.self-inside.inside.0.1.1.0.entries } in
    let k = (subst (λ (e : RestartError). RestartsAt (types_of g.C.Crdt.laws g.C.Crdt.spells g.D.Disk.state) v.sites c.restart_at.new.self c.args.part (Err e)) c.in-Disk.is c.in-Err.ensures) in
    ever_ok c.only-in-Disk.result (λ steps. subst (λ (x : LiveState g.row.C-Effect.Denot _). StaysUnarmed g.D.Disk.state x.sites c.restart_at.new.self c.args.part) ((λ i. record { sites = (c.self-inside.view_is i).sites; sessions = (c.self-inside.view_is i).sessions.entries }) ∙ c.self.view_is)
    (unarmed (types_of g.C.Crdt.laws g.C.Crdt.spells g.D.Disk.state) v.sites c.restart_at.new.self c.args.part k.0.moves k.0.left))

pub returns-in-Damaged-clause-unarmed : goal.returns-in-Damaged-clause-unarmed
returns-in-Damaged-clause-unarmed g c =
    let v : LiveState g.row.C-Effect.Denot _ = record { sites = c.self-inside.inside.0.1.0.all; sessions = c.self-inside.inside.0.1.1.0.entries } in
    absurd (never_damaged (types_of g.C.Crdt.laws g.C.Crdt.spells g.D.Disk.state) v c.args.part c.restart_at.new.self c.in-Damaged.at (subst (λ (x : LiveState g.row.C-Effect.Denot _). IsPlace x.sites.sites x.sites.parts c.args.part) (sym ((λ i. record { sites = (c.self-inside.view_is i).sites; sessions = (c.self-inside.view_is i).sessions.entries }) ∙ c.self.view_is)) c.requires.place) (subst (λ (x : LiveState g.row.C-Effect.Denot _). IsReachedLive (types_of g.C.Crdt.laws g.C.Crdt.spells g.D.Disk.state) x) (sym ((λ i. record { sites = (c.self-inside.view_is i).sites; sessions = (c.self-inside.view_is i).sessions.entries }) ∙ c.self.view_is)) c.requires.reached) (subst (λ (e : RestartError). RestartsAt (types_of g.C.Crdt.laws g.C.Crdt.spells g.D.Disk.state) v.sites c.restart_at.new.self c.args.part (Err e)) c.in-Damaged.is c.in-Err.ensures))
