use Rattle.std.proofs.Common.{◌≡◌, ◌≤◌, ◌∙◌, ap, sym, subst, Some, ◌∷◌, [], replicate}
use Rattle.std.specs.Prelude.{if◌then◌else◌}
use Rattle.std.specs.Str.{bytes_eq}
use Rattle.txn_session.specs.Session.{Idle}
use Rattle.site_partitions.specs.Held.{holds_site}
use Rattle.site_partitions.specs.Reaches.{types_of}
use Rattle.world_model.specs.declared.command.Command.TheVariants as command
use Rattle.world_model.specs.declared.step.Step.TheVariants as step
use Rattle.cluster.specs.Live.{LiveState, session_in}
use Rattle.cluster.specs.Reached.{AppliesLive}
use Rattle.cluster.proofs.Applying.{map_ok}
use Rattle.cluster.proofs.Opening.{none_of, not_many, session_nowhere, session_again, session_full, session_made}
use Rattle.cluster.proofs.live.Live.make_session.Goals as goal

pub returns-then-not-has_site : goal.returns-then-not-has_site
returns-then-not-has_site g c =
    map_ok c.only.result (λ steps is. session_nowhere (types_of g.C.Crdt.laws g.C.Crdt.spells g.D.Disk.state) c.args.self.now c.args.name.now c.args.site steps.items is (sym c.has_site.ensures ∙ c.if-not-has_site.true)) c.only.ensures

pub returns-then-contains_key : goal.returns-then-contains_key
returns-then-contains_key g c =
    let v : LiveState g.row.C-Effect.Denot _ = record { sites = c.self-inside.inside.0.1.0.all; sessions = c.self-inside.inside.0.1.1.0.entries } in
    map_ok c.only-then-contains_key.result (λ steps is. subst (λ (x : LiveState g.row.C-Effect.Denot _). AppliesLive (types_of g.C.Crdt.laws g.C.Crdt.spells g.D.Disk.state) x (command.Session c.args.name.now c.args.site) steps.items x) ((λ i. record { sites = (c.self-inside.view_is i).sites; sessions = (c.self-inside.view_is i).sessions.entries }) ∙ c.self.view_is) (session_again (types_of g.C.Crdt.laws g.C.Crdt.spells g.D.Disk.state) v c.args.name.now c.args.site steps.items is (ap (λ (x : LiveState g.row.C-Effect.Denot _). holds_site x.sites c.args.site) ((λ i. record { sites = (c.self-inside.view_is i).sites; sessions = (c.self-inside.view_is i).sessions.entries }) ∙ c.self.view_is) ∙ (sym c.has_site.ensures ∙ c.if-not-has_site.false)) (sym c.contains_key.ensures ∙ c.if-contains_key.true))) c.only-then-contains_key.ensures

pub returns-then-len-eq-MOST_SESSIONS : goal.returns-then-len-eq-MOST_SESSIONS
returns-then-len-eq-MOST_SESSIONS g c =
    let v : LiveState g.row.C-Effect.Denot _ = record { sites = c.self-inside.inside.0.1.0.all; sessions = c.self-inside.inside.0.1.1.0.entries } in
    map_ok c.only-then-len-eq-MOST_SESSIONS.result (λ steps is. subst (λ (x : LiveState g.row.C-Effect.Denot _). AppliesLive (types_of g.C.Crdt.laws g.C.Crdt.spells g.D.Disk.state) x (command.Session c.args.name.now c.args.site) steps.items x) ((λ i. record { sites = (c.self-inside.view_is i).sites; sessions = (c.self-inside.view_is i).sessions.entries }) ∙ c.self.view_is)
    (session_full (types_of g.C.Crdt.laws g.C.Crdt.spells g.D.Disk.state) v c.args.name.now c.args.site steps.items is (ap (λ (x : LiveState g.row.C-Effect.Denot _). holds_site x.sites c.args.site) ((λ i. record { sites = (c.self-inside.view_is i).sites; sessions = (c.self-inside.view_is i).sessions.entries }) ∙ c.self.view_is) ∙ (sym c.has_site.ensures ∙ c.if-not-has_site.false)) (none_of _ (sym c.contains_key.ensures ∙ c.if-contains_key.false)) (sym c.len.ensures ∙ c.if-len-eq-MOST_SESSIONS.true))) c.only-then-len-eq-MOST_SESSIONS.ensures

pub returns : goal.returns
returns g c =
    let v : LiveState g.row.C-Effect.Denot _ = record { sites = c.self-inside.inside.0.1.0.all; sessions = c.self-inside.inside.0.1.1.0.entries } in
    map_ok c.only-2.result (λ steps is. subst (λ (x : LiveState g.row.C-Effect.Denot _). AppliesLive (types_of g.C.Crdt.laws g.C.Crdt.spells g.D.Disk.state) x (command.Session c.args.name.now c.args.site) steps.items (record { sites = c.self-inside.inside.0.1.0.all; sessions = c.insert.new.self.entries })) ((λ i. record { sites = (c.self-inside.view_is i).sites; sessions = (c.self-inside.view_is i).sessions.entries }) ∙ c.self.view_is)
    (session_made (types_of g.C.Crdt.laws g.C.Crdt.spells g.D.Disk.state) v c.args.name.now c.args.site c.insert.new.self.entries c.new-session.result steps.items (is ∙ ap (λ n. step.MadeSession n c.args.site ∷ []) c.in_ok-copy.ensures) (ap (λ (x : LiveState g.row.C-Effect.Denot _). holds_site x.sites c.args.site) ((λ i. record { sites = (c.self-inside.view_is i).sites; sessions = (c.self-inside.view_is i).sessions.entries }) ∙ c.self.view_is) ∙ (sym c.has_site.ensures ∙ c.if-not-has_site.false))
    (subst (λ n. 1 ≤ n) c.parts-parts.ensures.is c.parts-parts.ensures.least)
    (none_of _ (sym c.contains_key.ensures ∙ c.if-contains_key.false))
    (not_many _ c.len.result c.len.ensures c.if-len-eq-MOST_SESSIONS.false)
    (c.new-session.ensures.session ∙ (λ i. record { name = c.in_ok-named.ensures i; site = c.args.site; sites = c.sites-sites.ensures.is i; parts = c.parts-parts.ensures.is i; dependency = replicate (c.sites-sites.ensures.is i) 0; doing = Idle }))
    c.new-session.ensures.holds
    (λ who. subst (λ n. session_in c.insert.new.self.entries who ≡ (if bytes_eq n who then Some c.new-session.result else session_in c.self-inside.inside.0.1.1.0.entries who)) c.in_ok-key.ensures (c.in_ok-insert.ensures.find who))
    c.in_ok-insert.ensures.count)) c.only-2.ensures
