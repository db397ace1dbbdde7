use Rattle.std.proofs.Common.{◌≡◌, ◌∙◌, true, false, sym, subst}
use Rattle.site_partitions.specs.Reaches.{types_of}
use Rattle.world_model.specs.declared.step.Step.TheVariants as step
use Rattle.world_model.specs.rules.Partition.{fate_of}
use Rattle.partition_core.specs.Answers.{fate_told}
use Rattle.partition_core.specs.declared.answers.Fate.{Fate}
use Rattle.cluster.specs.Fates.{lead_place, MaySettle, Settles}
use Rattle.cluster.specs.Live.{LiveState}
use Rattle.cluster.proofs.Settling.{settle_own, lead_in, of_site, has_begun, reached_at, may_finish, settle_finished, settle_unfinished, settle_aborted, settle_undropped, settle_untold}
use Rattle.cluster.proofs.live.Live.settle_one.Goals as goal

pub returns-then-lead-part : goal.returns-then-lead-part
returns-then-lead-part g c = settle_own (types_of g.C.Crdt.laws g.C.Crdt.spells g.D.Disk.state) c.args.self.now c.args.part c.args.tx c.args.lead c.requires c.if-lead-part.true

pub fate_at-requires-clause-place : goal.fate_at-requires-clause-place
fate_at-requires-clause-place g c =
    let v : LiveState g.row.C-Effect.Denot _ = record { sites = c.self-inside.inside.0.1.0.all; sessions = c.self-inside.inside.0.1.1.0.entries } in
    lead_in (types_of g.C.Crdt.laws g.C.Crdt.spells g.D.Disk.state) v c.args.part c.args.tx c.args.lead (subst (λ (x : LiveState g.row.C-Effect.Denot _). MaySettle (types_of g.C.Crdt.laws g.C.Crdt.spells g.D.Disk.state) x c.args.part c.args.tx c.args.lead) (sym ((λ i. record { sites = (c.self-inside.view_is i).sites; sessions = (c.self-inside.view_is i).sessions.entries }) ∙ c.self.view_is)) c.requires) c.if-lead-part.false

pub fate_at-requires-clause-site : goal.fate_at-requires-clause-site
fate_at-requires-clause-site g c =
    let v : LiveState g.row.C-Effect.Denot _ = record { sites = c.self-inside.inside.0.1.0.all; sessions = c.self-inside.inside.0.1.1.0.entries } in
    of_site (types_of g.C.Crdt.laws g.C.Crdt.spells g.D.Disk.state) v c.args.part c.args.tx c.args.lead (subst (λ (x : LiveState g.row.C-Effect.Denot _). MaySettle (types_of g.C.Crdt.laws g.C.Crdt.spells g.D.Disk.state) x c.args.part c.args.tx c.args.lead) (sym ((λ i. record { sites = (c.self-inside.view_is i).sites; sessions = (c.self-inside.view_is i).sessions.entries }) ∙ c.self.view_is)) c.requires) c.if-lead-part.false

pub fate_at-requires-clause-reached : goal.fate_at-requires-clause-reached
fate_at-requires-clause-reached g c =
    let v : LiveState g.row.C-Effect.Denot _ = record { sites = c.self-inside.inside.0.1.0.all; sessions = c.self-inside.inside.0.1.1.0.entries } in
    reached_at (types_of g.C.Crdt.laws g.C.Crdt.spells g.D.Disk.state) v c.args.part c.args.tx c.args.lead (subst (λ (x : LiveState g.row.C-Effect.Denot _). MaySettle (types_of g.C.Crdt.laws g.C.Crdt.spells g.D.Disk.state) x c.args.part c.args.tx c.args.lead) (sym ((λ i. record { sites = (c.self-inside.view_is i).sites; sessions = (c.self-inside.view_is i).sessions.entries }) ∙ c.self.view_is)) c.requires) c.if-lead-part.false

pub finish_at-requires : goal.finish_at-requires
finish_at-requires g c =
    let v : LiveState g.row.C-Effect.Denot _ = record { sites = c.self-inside.inside.0.1.0.all; sessions = c.self-inside.inside.0.1.1.0.entries } in
    may_finish (types_of g.C.Crdt.laws g.C.Crdt.spells g.D.Disk.state) v c.args.part c.args.tx c.args.lead (subst (λ (x : LiveState g.row.C-Effect.Denot _). MaySettle (types_of g.C.Crdt.laws g.C.Crdt.spells g.D.Disk.state) x c.args.part c.args.tx c.args.lead) (sym ((λ i. record { sites = (c.self-inside.view_is i).sites; sessions = (c.self-inside.view_is i).sessions.entries }) ∙ c.self.view_is)) c.requires) c.if-lead-part.false c.in-Committed.c (λ run r. subst (λ (f : Fate). fate_told f ≡ fate_of (r.state (lead_place c.args.part c.args.lead)) c.args.tx) c.in-Committed.is (c.fate_at.ensures run r))

pub drop_at-requires-clause-place : goal.drop_at-requires-clause-place
drop_at-requires-clause-place g c =
    let v : LiveState g.row.C-Effect.Denot _ = record { sites = c.self-inside.inside.0.1.0.all; sessions = c.self-inside.inside.0.1.1.0.entries } in
    (subst (λ (x : LiveState g.row.C-Effect.Denot _). MaySettle (types_of g.C.Crdt.laws g.C.Crdt.spells g.D.Disk.state) x c.args.part c.args.tx c.args.lead) (sym ((λ i. record { sites = (c.self-inside.view_is i).sites; sessions = (c.self-inside.view_is i).sessions.entries }) ∙ c.self.view_is)) c.requires).place

pub drop_at-requires-clause-began : goal.drop_at-requires-clause-began
drop_at-requires-clause-began g c =
    let v : LiveState g.row.C-Effect.Denot _ = record { sites = c.self-inside.inside.0.1.0.all; sessions = c.self-inside.inside.0.1.1.0.entries } in
    has_begun (types_of g.C.Crdt.laws g.C.Crdt.spells g.D.Disk.state) v c.args.part c.args.tx c.args.lead (subst (λ (x : LiveState g.row.C-Effect.Denot _). MaySettle (types_of g.C.Crdt.laws g.C.Crdt.spells g.D.Disk.state) x c.args.part c.args.tx c.args.lead) (sym ((λ i. record { sites = (c.self-inside.view_is i).sites; sessions = (c.self-inside.view_is i).sessions.entries }) ∙ c.self.view_is)) c.requires) c.if-lead-part.false

pub returns-in-Ok : goal.returns-in-Ok
returns-in-Ok g c =
    let v : LiveState g.row.C-Effect.Denot _ = record { sites = c.self-inside.inside.0.1.0.all; sessions = c.self-inside.inside.0.1.1.0.entries } in
    subst (λ (x : LiveState g.row.C-Effect.Denot _). Settles (types_of g.C.Crdt.laws g.C.Crdt.spells g.D.Disk.state) x (record { sites = c.finish_at.new.self; sessions = c.self-inside.inside.0.1.1.0.entries }) c.args.part c.args.tx c.args.lead (step.Finished c.args.part c.args.tx) true) ((λ i. record { sites = (c.self-inside.view_is i).sites; sessions = (c.self-inside.view_is i).sessions.entries }) ∙ c.self.view_is)
    (settle_finished (types_of g.C.Crdt.laws g.C.Crdt.spells g.D.Disk.state) v c.args.part c.args.tx c.args.lead (subst (λ (x : LiveState g.row.C-Effect.Denot _). MaySettle (types_of g.C.Crdt.laws g.C.Crdt.spells g.D.Disk.state) x c.args.part c.args.tx c.args.lead) (sym ((λ i. record { sites = (c.self-inside.view_is i).sites; sessions = (c.self-inside.view_is i).sessions.entries }) ∙ c.self.view_is)) c.requires) c.if-lead-part.false c.in-Committed.c (λ run r. subst (λ (f : Fate). fate_told f ≡ fate_of (r.state (lead_place c.args.part c.args.lead)) c.args.tx) c.in-Committed.is (c.fate_at.ensures run r)) c.finish_at.new.self c.in-Ok.ensures.answers)

pub returns-in-Err : goal.returns-in-Err
returns-in-Err g c =
    let v : LiveState g.row.C-Effect.Denot _ = record { sites = c.self-inside.inside.0.1.0.all; sessions = c.self-inside.inside.0.1.1.0.entries } in
    subst (λ (x : LiveState g.row.C-Effect.Denot _). Settles (types_of g.C.Crdt.laws g.C.Crdt.spells g.D.Disk.state) x (record { sites = c.finish_at.new.self; sessions = c.self-inside.inside.0.1.1.0.entries }) c.args.part c.args.tx c.args.lead c.in_ok-line-in-Err.line false) ((λ i. record { sites = (c.self-inside.view_is i).sites; sessions = (c.self-inside.view_is i).sessions.entries }) ∙ c.self.view_is)
    (settle_unfinished (types_of g.C.Crdt.laws g.C.Crdt.spells g.D.Disk.state) v c.args.part c.args.tx c.args.lead (subst (λ (x : LiveState g.row.C-Effect.Denot _). MaySettle (types_of g.C.Crdt.laws g.C.Crdt.spells g.D.Disk.state) x c.args.part c.args.tx c.args.lead) (sym ((λ i. record { sites = (c.self-inside.view_is i).sites; sessions = (c.self-inside.view_is i).sessions.entries }) ∙ c.self.view_is)) c.requires) c.if-lead-part.false c.in-Committed.c (λ run r. subst (λ (f : Fate). fate_told f ≡ fate_of (r.state (lead_place c.args.part c.args.lead)) c.args.tx) c.in-Committed.is (c.fate_at.ensures run r)) c.finish_at.new.self c.in-Err.error c.in_ok-line-in-Err.line c.in-Err.ensures.answers c.in_ok-line-in-Err.ensures)

pub returns-in-Ok-drop_at : goal.returns-in-Ok-drop_at
returns-in-Ok-drop_at g c =
    let v : LiveState g.row.C-Effect.Denot _ = record { sites = c.self-inside.inside.0.1.0.all; sessions = c.self-inside.inside.0.1.1.0.entries } in
    subst (λ (x : LiveState g.row.C-Effect.Denot _). Settles (types_of g.C.Crdt.laws g.C.Crdt.spells g.D.Disk.state) x (record { sites = c.drop_at.new.self; sessions = c.self-inside.inside.0.1.1.0.entries }) c.args.part c.args.tx c.args.lead (step.Aborted c.args.part c.args.tx) true) ((λ i. record { sites = (c.self-inside.view_is i).sites; sessions = (c.self-inside.view_is i).sessions.entries }) ∙ c.self.view_is)
    (settle_aborted (types_of g.C.Crdt.laws g.C.Crdt.spells g.D.Disk.state) v c.args.part c.args.tx c.args.lead (subst (λ (x : LiveState g.row.C-Effect.Denot _). MaySettle (types_of g.C.Crdt.laws g.C.Crdt.spells g.D.Disk.state) x c.args.part c.args.tx c.args.lead) (sym ((λ i. record { sites = (c.self-inside.view_is i).sites; sessions = (c.self-inside.view_is i).sessions.entries }) ∙ c.self.view_is)) c.requires) c.if-lead-part.false (λ run r. subst (λ (f : Fate). fate_told f ≡ fate_of (r.state (lead_place c.args.part c.args.lead)) c.args.tx) c.in-Aborted.is (c.fate_at.ensures run r)) c.drop_at.new.self c.in-Ok-drop_at.ensures.answers)

pub returns-in-Err-drop_at : goal.returns-in-Err-drop_at
returns-in-Err-drop_at g c =
    let v : LiveState g.row.C-Effect.Denot _ = record { sites = c.self-inside.inside.0.1.0.all; sessions = c.self-inside.inside.0.1.1.0.entries } in
    subst (λ (x : LiveState g.row.C-Effect.Denot _). Settles (types_of g.C.Crdt.laws g.C.Crdt.spells g.D.Disk.state) x (record { sites = c.drop_at.new.self; sessions = c.self-inside.inside.0.1.1.0.entries }) c.args.part c.args.tx c.args.lead c.in_ok-line-in-Err-drop_at.line false) ((λ i. record { sites = (c.self-inside.view_is i).sites; sessions = (c.self-inside.view_is i).sessions.entries }) ∙ c.self.view_is)
    (settle_undropped (types_of g.C.Crdt.laws g.C.Crdt.spells g.D.Disk.state) v c.args.part c.args.tx c.args.lead (subst (λ (x : LiveState g.row.C-Effect.Denot _). MaySettle (types_of g.C.Crdt.laws g.C.Crdt.spells g.D.Disk.state) x c.args.part c.args.tx c.args.lead) (sym ((λ i. record { sites = (c.self-inside.view_is i).sites; sessions = (c.self-inside.view_is i).sessions.entries }) ∙ c.self.view_is)) c.requires) c.if-lead-part.false (λ run r. subst (λ (f : Fate). fate_told f ≡ fate_of (r.state (lead_place c.args.part c.args.lead)) c.args.tx) c.in-Aborted.is (c.fate_at.ensures run r)) c.drop_at.new.self c.in-Err-drop_at.error c.in_ok-line-in-Err-drop_at.line c.in-Err-drop_at.ensures.answers c.in_ok-line-in-Err-drop_at.ensures)

pub returns-in_default : goal.returns-in_default
returns-in_default g c =
    let v : LiveState g.row.C-Effect.Denot _ = record { sites = c.self-inside.inside.0.1.0.all; sessions = c.self-inside.inside.0.1.1.0.entries } in
    subst (λ (x : LiveState g.row.C-Effect.Denot _). Settles (types_of g.C.Crdt.laws g.C.Crdt.spells g.D.Disk.state) x (x) c.args.part c.args.tx c.args.lead (step.Pending c.args.part c.args.tx) true) ((λ i. record { sites = (c.self-inside.view_is i).sites; sessions = (c.self-inside.view_is i).sessions.entries }) ∙ c.self.view_is)
    (settle_untold (types_of g.C.Crdt.laws g.C.Crdt.spells g.D.Disk.state) v c.args.part c.args.tx c.args.lead (subst (λ (x : LiveState g.row.C-Effect.Denot _). MaySettle (types_of g.C.Crdt.laws g.C.Crdt.spells g.D.Disk.state) x c.args.part c.args.tx c.args.lead) (sym ((λ i. record { sites = (c.self-inside.view_is i).sites; sessions = (c.self-inside.view_is i).sessions.entries }) ∙ c.self.view_is)) c.requires) c.if-lead-part.false c.fate_at.result c.fate_at.ensures c.in_default.not-Committed c.in_default.not-Aborted)
