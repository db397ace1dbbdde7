use Rattle.std.proofs.Common.{◌≡◌, ◌∙◌, true, false, sym, subst}
use Rattle.site_partitions.specs.Held.{holds_part}
use Rattle.site_partitions.specs.Reaches.{types_of}
use Rattle.world_model.specs.declared.command.Command.TheVariants as command
use Rattle.cluster.specs.Live.{LiveState}
use Rattle.cluster.specs.Reached.{AppliesLive}
use Rattle.cluster.proofs.Applying.{map_ok}
use Rattle.cluster.proofs.Clocks.{clock_nowhere, clock_applies, clock_fails}
use Rattle.cluster.proofs.live.Live.read_clock.Goals as goal

pub returns-then-not-has_part : goal.returns-then-not-has_part
returns-then-not-has_part g c =
    let v : LiveState g.row.C-Effect.Denot _ = record { sites = c.self-inside.inside.0.1.0.all; sessions = c.self-inside.inside.0.1.1.0.entries } in
    map_ok c.only.result (λ steps is. subst (λ (x : LiveState g.row.C-Effect.Denot _). AppliesLive (types_of g.C.Crdt.laws g.C.Crdt.spells g.D.Disk.state) x (command.Clock c.args.part c.args.n) steps.items x) ((λ i. record { sites = (c.self-inside.view_is i).sites; sessions = (c.self-inside.view_is i).sessions.entries }) ∙ c.self.view_is) (clock_nowhere (types_of g.C.Crdt.laws g.C.Crdt.spells g.D.Disk.state) v c.args.part c.args.n steps.items is (subst (λ (x : LiveState g.row.C-Effect.Denot _). holds_part x.sites c.args.part ≡ false) (sym ((λ i. record { sites = (c.self-inside.view_is i).sites; sessions = (c.self-inside.view_is i).sessions.entries }) ∙ c.self.view_is)) (sym c.has_part.ensures ∙ c.if-not-has_part.true)))) c.only.ensures

pub returns-in-Ok : goal.returns-in-Ok
returns-in-Ok g c =
    let v : LiveState g.row.C-Effect.Denot _ = record { sites = c.self-inside.inside.0.1.0.all; sessions = c.self-inside.inside.0.1.1.0.entries } in
    map_ok c.only-in-Ok.result (λ steps is. subst (λ (x : LiveState g.row.C-Effect.Denot _). AppliesLive (types_of g.C.Crdt.laws g.C.Crdt.spells g.D.Disk.state) x (command.Clock c.args.part c.args.n) steps.items (record { sites = c.tick_at.new.self; sessions = c.self-inside.inside.0.1.1.0.entries })) ((λ i. record { sites = (c.self-inside.view_is i).sites; sessions = (c.self-inside.view_is i).sessions.entries }) ∙ c.self.view_is)
    (clock_applies (types_of g.C.Crdt.laws g.C.Crdt.spells g.D.Disk.state) v c.args.part c.args.n c.tick_at.new.self c.in-Ok.now steps.items is (subst (λ (x : LiveState g.row.C-Effect.Denot _). holds_part x.sites c.args.part ≡ true) (sym ((λ i. record { sites = (c.self-inside.view_is i).sites; sessions = (c.self-inside.view_is i).sessions.entries }) ∙ c.self.view_is)) (sym c.has_part.ensures ∙ c.if-not-has_part.false)) c.in-Ok.ensures.answers)) c.only-in-Ok.ensures

pub returns-in-Err : goal.returns-in-Err
returns-in-Err g c =
    let v : LiveState g.row.C-Effect.Denot _ = record { sites = c.self-inside.inside.0.1.0.all; sessions = c.self-inside.inside.0.1.1.0.entries } in
    map_ok c.only-in-Err.result (λ steps is. subst (λ (x : LiveState g.row.C-Effect.Denot _). AppliesLive (types_of g.C.Crdt.laws g.C.Crdt.spells g.D.Disk.state) x (command.Clock c.args.part c.args.n) steps.items (record { sites = c.tick_at.new.self; sessions = c.self-inside.inside.0.1.1.0.entries })) ((λ i. record { sites = (c.self-inside.view_is i).sites; sessions = (c.self-inside.view_is i).sessions.entries }) ∙ c.self.view_is)
    (clock_fails (types_of g.C.Crdt.laws g.C.Crdt.spells g.D.Disk.state) v c.args.part c.args.n c.tick_at.new.self c.in-Err.error c.in_ok-line-in-Err.line steps.items is (subst (λ (x : LiveState g.row.C-Effect.Denot _). holds_part x.sites c.args.part ≡ true) (sym ((λ i. record { sites = (c.self-inside.view_is i).sites; sessions = (c.self-inside.view_is i).sessions.entries }) ∙ c.self.view_is)) (sym c.has_part.ensures ∙ c.if-not-has_part.false)) c.in-Err.ensures.answers c.in_ok-line-in-Err.ensures)) c.only-in-Err.ensures
