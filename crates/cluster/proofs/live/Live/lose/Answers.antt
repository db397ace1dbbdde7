use Rattle.std.proofs.Common.{◌≡◌, ◌∙◌, ap, sym, subst, true, ◌∷◌, [], rules}
use Rattle.site_partitions.specs.Reaches.{types_of}
use Rattle.std.specs.Prelude.{is_some}
use Rattle.world_model.specs.declared.command.Command.TheVariants as command
use Rattle.world_model.specs.declared.step.Step.TheVariants as step
use Rattle.cluster.specs.Live.{LiveState, session_in}
use Rattle.cluster.specs.Reached.{AppliesLive}
use Rattle.cluster.proofs.Applying.{map_ok}
use Rattle.cluster.proofs.Opening.{none_of, lose_absent, session_lost}
use Rattle.cluster.proofs.live.Live.lose.Goals as goal

pub returns-then-not-contains_key : goal.returns-then-not-contains_key
returns-then-not-contains_key g c =
    let v : LiveState g.row.C-Effect.Denot _ = record { sites = c.self.inside.sites; sessions = c.self.inside.sessions.entries } in
    map_ok c.only.result (λ steps is. subst (λ (x : LiveState g.row.C-Effect.Denot _). AppliesLive (types_of g.C.Crdt.laws g.C.Crdt.spells g.D.Disk.state) x (command.Lose c.args.name.now) steps.items x) c.self.view_is (lose_absent (types_of g.C.Crdt.laws g.C.Crdt.spells g.D.Disk.state) v c.args.name.now steps.items is (none_of _ (sym c.contains_key.ensures ∙ c.if-not-contains_key.true)))) c.only.ensures

pub returns : goal.returns
returns g c =
    let v : LiveState g.row.C-Effect.Denot _ = record { sites = c.self.inside.sites; sessions = c.self.inside.sessions.entries } in
    let there : is_some (session_in c.self.inside.sessions.entries c.args.name.now) ≡ true = search rules in
    map_ok c.only-2.result (λ steps is. subst (λ (x : LiveState g.row.C-Effect.Denot _). AppliesLive (types_of g.C.Crdt.laws g.C.Crdt.spells g.D.Disk.state) x (command.Lose c.args.name.now) steps.items (record { sites = c.self.inside.sites; sessions = c.remove.new.self.entries })) c.self.view_is
    (session_lost (types_of g.C.Crdt.laws g.C.Crdt.spells g.D.Disk.state) v c.args.name.now c.remove.new.self.entries steps.items (is ∙ ap (λ n. step.Lost n ∷ []) c.in_ok-lost.ensures) there c.remove.ensures.find c.remove.ensures.count)) c.only-2.ensures
