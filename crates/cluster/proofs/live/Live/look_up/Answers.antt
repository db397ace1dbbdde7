use Rattle.std.proofs.Common.{◌≡◌, ◌∙◌, true, false, sym, subst, None}
use Rattle.site_partitions.specs.Reaches.{types_of}
use Rattle.world_model.specs.declared.command.Command.TheVariants as command
use Rattle.world_model.specs.rules.Partition.{fate_of}
use Rattle.partition_core.specs.Answers.{fate_told}
use Rattle.site_partitions.specs.Fates.{IsLead, OfState}
use Rattle.cluster.specs.Fates.{lacks_txn}
use Rattle.cluster.specs.Live.{LiveState}
use Rattle.cluster.specs.Reached.{AppliesLive}
use Rattle.cluster.proofs.Applying.{map_ok}
use Rattle.cluster.proofs.Expiring.{expire_finished, expire_gone}
use Rattle.cluster.proofs.live.Live.look_up.Goals as goal

pub returns-in-Committed : goal.returns-in-Committed
returns-in-Committed g c =
    let v : LiveState g.row.C-Effect.Denot _ = record { sites = c.self-inside.inside.0.1.0.all; sessions = c.self-inside.inside.0.1.1.0.entries } in
    let has : lacks_txn c.self-inside.inside.0.1.0.all c.args.part c.args.tx ≡ false = subst (λ (x : LiveState g.row.C-Effect.Denot _). lacks_txn x.sites c.args.part c.args.tx ≡ false) (sym ((λ i. record { sites = (c.self-inside.view_is i).sites; sessions = (c.self-inside.view_is i).sessions.entries }) ∙ c.self.view_is)) c.requires.has in
    let ended = subst (λ (x : LiveState g.row.C-Effect.Denot _). OfState (types_of g.C.Crdt.laws g.C.Crdt.spells g.D.Disk.state) x.sites c.args.part (λ q. IsLead q.log c.args.tx None)) (sym ((λ i. record { sites = (c.self-inside.view_is i).sites; sessions = (c.self-inside.view_is i).sessions.entries }) ∙ c.self.view_is)) c.requires.ended in
    map_ok c.only.result (λ steps is. subst (λ (x : LiveState g.row.C-Effect.Denot _). AppliesLive (types_of g.C.Crdt.laws g.C.Crdt.spells g.D.Disk.state) x (command.Expire c.args.part c.args.tx) steps.items x) ((λ i. record { sites = (c.self-inside.view_is i).sites; sessions = (c.self-inside.view_is i).sessions.entries }) ∙ c.self.view_is)
    (expire_finished (types_of g.C.Crdt.laws g.C.Crdt.spells g.D.Disk.state) v c.args.part c.args.tx has (subst (λ (x : LiveState g.row.C-Effect.Denot _). OfState (types_of g.C.Crdt.laws g.C.Crdt.spells g.D.Disk.state) x.sites c.args.part (λ q. q.up ≡ true)) (sym ((λ i. record { sites = (c.self-inside.view_is i).sites; sessions = (c.self-inside.view_is i).sessions.entries }) ∙ c.self.view_is)) c.requires.up) ended _ steps.items is (λ run r. subst (λ f. fate_told f ≡ fate_of (r.state c.args.part) c.args.tx) c.in-Committed.is (c.fate_at.ensures run r)))) c.only.ensures

pub returns-in_default : goal.returns-in_default
returns-in_default g c =
    let v : LiveState g.row.C-Effect.Denot _ = record { sites = c.self-inside.inside.0.1.0.all; sessions = c.self-inside.inside.0.1.1.0.entries } in
    let has : lacks_txn c.self-inside.inside.0.1.0.all c.args.part c.args.tx ≡ false = subst (λ (x : LiveState g.row.C-Effect.Denot _). lacks_txn x.sites c.args.part c.args.tx ≡ false) (sym ((λ i. record { sites = (c.self-inside.view_is i).sites; sessions = (c.self-inside.view_is i).sessions.entries }) ∙ c.self.view_is)) c.requires.has in
    let ended = subst (λ (x : LiveState g.row.C-Effect.Denot _). OfState (types_of g.C.Crdt.laws g.C.Crdt.spells g.D.Disk.state) x.sites c.args.part (λ q. IsLead q.log c.args.tx None)) (sym ((λ i. record { sites = (c.self-inside.view_is i).sites; sessions = (c.self-inside.view_is i).sessions.entries }) ∙ c.self.view_is)) c.requires.ended in
    map_ok c.only-in_default.result (λ steps is. subst (λ (x : LiveState g.row.C-Effect.Denot _). AppliesLive (types_of g.C.Crdt.laws g.C.Crdt.spells g.D.Disk.state) x (command.Expire c.args.part c.args.tx) steps.items x) ((λ i. record { sites = (c.self-inside.view_is i).sites; sessions = (c.self-inside.view_is i).sessions.entries }) ∙ c.self.view_is)
    (expire_gone (types_of g.C.Crdt.laws g.C.Crdt.spells g.D.Disk.state) v c.args.part c.args.tx has (subst (λ (x : LiveState g.row.C-Effect.Denot _). OfState (types_of g.C.Crdt.laws g.C.Crdt.spells g.D.Disk.state) x.sites c.args.part (λ q. q.up ≡ true)) (sym ((λ i. record { sites = (c.self-inside.view_is i).sites; sessions = (c.self-inside.view_is i).sessions.entries }) ∙ c.self.view_is)) c.requires.up) ended c.fate_at.result steps.items is c.fate_at.ensures c.in_default.not-Committed)) c.only-in_default.ensures
