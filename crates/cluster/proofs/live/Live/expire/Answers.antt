use Rattle.std.proofs.Common.{◌≡◌, ◌∙◌, true, false, sym, ap, subst, None}
use Rattle.std.specs.Prelude.{not}
use Rattle.site_partitions.specs.Reaches.{types_of}
use Rattle.site_partitions.specs.Held.{IsDownAt}
use Rattle.world_model.specs.declared.command.Command.TheVariants as command
use Rattle.site_partitions.specs.Fates.{IsLead, OfState}
use Rattle.cluster.specs.Fates.{lacks_txn}
use Rattle.cluster.specs.Live.{LiveState}
use Rattle.cluster.specs.Reached.{AppliesLive, IsReachedLive}
use Rattle.cluster.proofs.Applying.{map_ok}
use Rattle.cluster.proofs.Expiring.{here, expire_nowhere, expire_down, expire_pending, expire_aborted, expire_failed, drop_begun}
use Rattle.cluster.proofs.live.Live.expire.Goals as goal

pub returns-then-lacks_txn : goal.returns-then-lacks_txn
returns-then-lacks_txn g c = map_ok c.only.result (λ steps is. expire_nowhere (types_of g.C.Crdt.laws g.C.Crdt.spells g.D.Disk.state) c.args.self.now c.args.part c.args.tx steps.items is (sym c.lacks_txn.ensures ∙ c.if-lacks_txn.true)) c.only.ensures

pub is_down_at-requires : goal.is_down_at-requires
is_down_at-requires g c =
    let v : LiveState g.row.C-Effect.Denot _ = record { sites = c.self-inside.inside.0.1.0.all; sessions = c.self-inside.inside.0.1.1.0.entries } in
    here (types_of g.C.Crdt.laws g.C.Crdt.spells g.D.Disk.state) v c.args.part c.args.tx (subst (λ (x : LiveState g.row.C-Effect.Denot _). lacks_txn x.sites c.args.part c.args.tx ≡ false) (sym ((λ i. record { sites = (c.self-inside.view_is i).sites; sessions = (c.self-inside.view_is i).sessions.entries }) ∙ c.self.view_is)) (sym c.lacks_txn.ensures ∙ c.if-lacks_txn.false))

pub returns-then-is_down_at : goal.returns-then-is_down_at
returns-then-is_down_at g c =
    let types = types_of g.C.Crdt.laws g.C.Crdt.spells g.D.Disk.state in
    let v : LiveState g.row.C-Effect.Denot _ = record { sites = c.self-inside.inside.0.1.0.all; sessions = c.self-inside.inside.0.1.1.0.entries } in
    let has : lacks_txn c.self-inside.inside.0.1.0.all c.args.part c.args.tx ≡ false = subst (λ (x : LiveState g.row.C-Effect.Denot _). lacks_txn x.sites c.args.part c.args.tx ≡ false) (sym ((λ i. record { sites = (c.self-inside.view_is i).sites; sessions = (c.self-inside.view_is i).sessions.entries }) ∙ c.self.view_is)) (sym c.lacks_txn.ensures ∙ c.if-lacks_txn.false) in
    map_ok c.only-then-is_down_at.result (λ steps is. subst (λ (x : LiveState g.row.C-Effect.Denot _). AppliesLive types x (command.Expire c.args.part c.args.tx) steps.items x) ((λ i. record { sites = (c.self-inside.view_is i).sites; sessions = (c.self-inside.view_is i).sessions.entries }) ∙ c.self.view_is)
    (expire_down types v c.args.part c.args.tx has steps.items is (λ run r. c.is_down_at.ensures.up run r ∙ ap not c.if-is_down_at.true))) c.only-then-is_down_at.ensures

pub lead_at-requires : goal.lead_at-requires
lead_at-requires g c =
    let v : LiveState g.row.C-Effect.Denot _ = record { sites = c.self-inside.inside.0.1.0.all; sessions = c.self-inside.inside.0.1.1.0.entries } in
    here (types_of g.C.Crdt.laws g.C.Crdt.spells g.D.Disk.state) v c.args.part c.args.tx (subst (λ (x : LiveState g.row.C-Effect.Denot _). lacks_txn x.sites c.args.part c.args.tx ≡ false) (sym ((λ i. record { sites = (c.self-inside.view_is i).sites; sessions = (c.self-inside.view_is i).sessions.entries }) ∙ c.self.view_is)) (sym c.lacks_txn.ensures ∙ c.if-lacks_txn.false))

pub look_up-requires-clause-has : goal.look_up-requires-clause-has
look_up-requires-clause-has g c = sym c.lacks_txn.ensures ∙ c.if-lacks_txn.false

pub look_up-requires-clause-up : goal.look_up-requires-clause-up
look_up-requires-clause-up g c = subst (λ (x : LiveState g.row.C-Effect.Denot _). OfState (types_of g.C.Crdt.laws g.C.Crdt.spells g.D.Disk.state) x.sites c.args.part (λ q. q.up ≡ true)) ((λ i. record { sites = (c.self-inside.view_is i).sites; sessions = (c.self-inside.view_is i).sessions.entries }) ∙ c.self.view_is)
    (λ run r. c.is_down_at.ensures.up run r ∙ ap not c.if-is_down_at.false)

pub look_up-requires-clause-ended : goal.look_up-requires-clause-ended
look_up-requires-clause-ended g c = subst (λ (x : LiveState g.row.C-Effect.Denot _). OfState (types_of g.C.Crdt.laws g.C.Crdt.spells g.D.Disk.state) x.sites c.args.part (λ q. IsLead q.log c.args.tx None)) ((λ i. record { sites = (c.self-inside.view_is i).sites; sessions = (c.self-inside.view_is i).sessions.entries }) ∙ c.self.view_is)
    (λ run r. subst (IsLead (r.state c.args.part).log c.args.tx) c.in_default.is (c.lead_at.ensures (subst (IsDownAt c.self-inside.inside.0.1.0.all c.args.part) c.if-is_down_at.false c.is_down_at.ensures.down) run r))

pub returns-then-lead-part : goal.returns-then-lead-part
returns-then-lead-part g c =
    let types = types_of g.C.Crdt.laws g.C.Crdt.spells g.D.Disk.state in
    let v : LiveState g.row.C-Effect.Denot _ = record { sites = c.self-inside.inside.0.1.0.all; sessions = c.self-inside.inside.0.1.1.0.entries } in
    let has : lacks_txn c.self-inside.inside.0.1.0.all c.args.part c.args.tx ≡ false = subst (λ (x : LiveState g.row.C-Effect.Denot _). lacks_txn x.sites c.args.part c.args.tx ≡ false) (sym ((λ i. record { sites = (c.self-inside.view_is i).sites; sessions = (c.self-inside.view_is i).sessions.entries }) ∙ c.self.view_is)) (sym c.lacks_txn.ensures ∙ c.if-lacks_txn.false) in
    map_ok c.only-then-lead-part.result (λ steps is. subst (λ (x : LiveState g.row.C-Effect.Denot _). AppliesLive types x (command.Expire c.args.part c.args.tx) steps.items x) ((λ i. record { sites = (c.self-inside.view_is i).sites; sessions = (c.self-inside.view_is i).sessions.entries }) ∙ c.self.view_is)
    (expire_pending types v c.args.part c.args.tx has (λ run r. c.is_down_at.ensures.up run r ∙ ap not c.if-is_down_at.false) c.in-Some.lead
    (λ run r. subst (IsLead (r.state c.args.part).log c.args.tx) c.in-Some.is (c.lead_at.ensures (subst (IsDownAt c.self-inside.inside.0.1.0.all c.args.part) c.if-is_down_at.false c.is_down_at.ensures.down) run r)) steps.items is c.if-lead-part.true)) c.only-then-lead-part.ensures

pub drop_at-requires-clause-place : goal.drop_at-requires-clause-place
drop_at-requires-clause-place g c =
    let v : LiveState g.row.C-Effect.Denot _ = record { sites = c.self-inside.inside.0.1.0.all; sessions = c.self-inside.inside.0.1.1.0.entries } in
    here (types_of g.C.Crdt.laws g.C.Crdt.spells g.D.Disk.state) v c.args.part c.args.tx (subst (λ (x : LiveState g.row.C-Effect.Denot _). lacks_txn x.sites c.args.part c.args.tx ≡ false) (sym ((λ i. record { sites = (c.self-inside.view_is i).sites; sessions = (c.self-inside.view_is i).sessions.entries }) ∙ c.self.view_is)) (sym c.lacks_txn.ensures ∙ c.if-lacks_txn.false))

pub drop_at-requires-clause-began : goal.drop_at-requires-clause-began
drop_at-requires-clause-began g c =
    let types = types_of g.C.Crdt.laws g.C.Crdt.spells g.D.Disk.state in
    let v : LiveState g.row.C-Effect.Denot _ = record { sites = c.self-inside.inside.0.1.0.all; sessions = c.self-inside.inside.0.1.1.0.entries } in
    let has : lacks_txn c.self-inside.inside.0.1.0.all c.args.part c.args.tx ≡ false = subst (λ (x : LiveState g.row.C-Effect.Denot _). lacks_txn x.sites c.args.part c.args.tx ≡ false) (sym ((λ i. record { sites = (c.self-inside.view_is i).sites; sessions = (c.self-inside.view_is i).sessions.entries }) ∙ c.self.view_is)) (sym c.lacks_txn.ensures ∙ c.if-lacks_txn.false) in
    drop_begun types v c.args.part c.args.tx has (λ run r. c.is_down_at.ensures.up run r ∙ ap not c.if-is_down_at.false) c.in-Some.lead
    (λ run r. subst (IsLead (r.state c.args.part).log c.args.tx) c.in-Some.is (c.lead_at.ensures (subst (IsDownAt c.self-inside.inside.0.1.0.all c.args.part) c.if-is_down_at.false c.is_down_at.ensures.down) run r))
    c.if-lead-part.false c.self-inside.inside.0.1.0.all (subst (λ (x : LiveState g.row.C-Effect.Denot _). IsReachedLive types x) (sym ((λ i. record { sites = (c.self-inside.view_is i).sites; sessions = (c.self-inside.view_is i).sessions.entries }) ∙ c.self.view_is)) c.requires.reached)

pub returns-in-Ok : goal.returns-in-Ok
returns-in-Ok g c =
    let types = types_of g.C.Crdt.laws g.C.Crdt.spells g.D.Disk.state in
    let v : LiveState g.row.C-Effect.Denot _ = record { sites = c.self-inside.inside.0.1.0.all; sessions = c.self-inside.inside.0.1.1.0.entries } in
    let has : lacks_txn c.self-inside.inside.0.1.0.all c.args.part c.args.tx ≡ false = subst (λ (x : LiveState g.row.C-Effect.Denot _). lacks_txn x.sites c.args.part c.args.tx ≡ false) (sym ((λ i. record { sites = (c.self-inside.view_is i).sites; sessions = (c.self-inside.view_is i).sessions.entries }) ∙ c.self.view_is)) (sym c.lacks_txn.ensures ∙ c.if-lacks_txn.false) in
    map_ok c.only-in-Ok.result (λ steps is. subst (λ (x : LiveState g.row.C-Effect.Denot _). AppliesLive types x (command.Expire c.args.part c.args.tx) steps.items (record { sites = c.drop_at.new.self; sessions = c.self-inside.inside.0.1.1.0.entries })) ((λ i. record { sites = (c.self-inside.view_is i).sites; sessions = (c.self-inside.view_is i).sessions.entries }) ∙ c.self.view_is)
    (expire_aborted types v c.args.part c.args.tx has (λ run r. c.is_down_at.ensures.up run r ∙ ap not c.if-is_down_at.false) c.in-Some.lead
    (λ run r. subst (IsLead (r.state c.args.part).log c.args.tx) c.in-Some.is (c.lead_at.ensures (subst (IsDownAt c.self-inside.inside.0.1.0.all c.args.part) c.if-is_down_at.false c.is_down_at.ensures.down) run r))
    c.if-lead-part.false c.drop_at.new.self steps.items is c.in-Ok.ensures.answers)) c.only-in-Ok.ensures

pub returns-in-Err : goal.returns-in-Err
returns-in-Err g c =
    let types = types_of g.C.Crdt.laws g.C.Crdt.spells g.D.Disk.state in
    let v : LiveState g.row.C-Effect.Denot _ = record { sites = c.self-inside.inside.0.1.0.all; sessions = c.self-inside.inside.0.1.1.0.entries } in
    let has : lacks_txn c.self-inside.inside.0.1.0.all c.args.part c.args.tx ≡ false = subst (λ (x : LiveState g.row.C-Effect.Denot _). lacks_txn x.sites c.args.part c.args.tx ≡ false) (sym ((λ i. record { sites = (c.self-inside.view_is i).sites; sessions = (c.self-inside.view_is i).sessions.entries }) ∙ c.self.view_is)) (sym c.lacks_txn.ensures ∙ c.if-lacks_txn.false) in
    map_ok c.only-in-Err.result (λ steps is. subst (λ (x : LiveState g.row.C-Effect.Denot _). AppliesLive types x (command.Expire c.args.part c.args.tx) steps.items (record { sites = c.drop_at.new.self; sessions = c.self-inside.inside.0.1.1.0.entries })) ((λ i. record { sites = (c.self-inside.view_is i).sites; sessions = (c.self-inside.view_is i).sessions.entries }) ∙ c.self.view_is)
    (expire_failed types v c.args.part c.args.tx has (λ run r. c.is_down_at.ensures.up run r ∙ ap not c.if-is_down_at.false) c.in-Some.lead
    (λ run r. subst (IsLead (r.state c.args.part).log c.args.tx) c.in-Some.is (c.lead_at.ensures (subst (IsDownAt c.self-inside.inside.0.1.0.all c.args.part) c.if-is_down_at.false c.is_down_at.ensures.down) run r))
    c.if-lead-part.false c.drop_at.new.self c.in-Err.error c.in_ok-line-in-Err.line steps.items is c.in-Err.ensures.answers c.in_ok-line-in-Err.ensures)) c.only-in-Err.ensures
