use Rattle.std.proofs.Common.{◌≡◌, ◌∙◌, sym, subst}
use Rattle.std.specs.Prelude.{IfOk, Option, Some, None}
use Rattle.disk_core.specs.Fuses.{fused_state}
use Rattle.site_partitions.specs.Reaches.{types_of}
use Rattle.cluster.specs.Post.{WholeState}
use Rattle.cluster.specs.Reached.{Applies, SetsFuseIn}
use Rattle.cluster.proofs.Fusing.{ever_ok}
use Rattle.cluster.proofs.Applying.{map_ok, lacks_cluster}
use Rattle.cluster.proofs.cluster.answer.Goals as goal

pub returns-in-Some-clause-applies : goal.returns-in-Some-clause-applies
returns-in-Some-clause-applies g c = subst (λ (o : Option (WholeState g.row.C-Effect.Denot _)). IfOk c.apply.result (λ steps. Applies (types_of g.C.Crdt.laws g.C.Crdt.spells (fused_state g.D.Disk.state)) o c.args.command.now steps.items (Some c.apply.new.self))) (sym c.in-Some.is) c.apply.ensures.applies

pub returns-in-None-clause-applies : goal.returns-in-None-clause-applies
returns-in-None-clause-applies g c = subst (λ (o : Option (WholeState g.row.C-Effect.Denot _)). IfOk c.only.result (λ steps. Applies (types_of g.C.Crdt.laws g.C.Crdt.spells (fused_state g.D.Disk.state)) o c.args.command.now steps.items o)) (sym c.in-None.is)
    (map_ok c.only.result (λ steps is. lacks_cluster (types_of g.C.Crdt.laws g.C.Crdt.spells (fused_state g.D.Disk.state)) c.args.command.now steps.items is (c.requires.made c.in-None.is)) c.only.ensures)

pub returns-in-Some-clause-fuse : goal.returns-in-Some-clause-fuse
returns-in-Some-clause-fuse g c = subst (λ (o : Option (WholeState g.row.C-Effect.Denot _)). IfOk c.apply.result (λ steps. SetsFuseIn (fused_state g.D.Disk.state) c.args.command.now o (Some c.apply.new.self))) (sym c.in-Some.is) c.apply.ensures.fuse

pub returns-in-None-clause-fuse : goal.returns-in-None-clause-fuse
returns-in-None-clause-fuse g c = subst (λ (o : Option (WholeState g.row.C-Effect.Denot _)). IfOk c.only.result (λ steps. SetsFuseIn (fused_state g.D.Disk.state) c.args.command.now o o)) (sym c.in-None.is) (ever_ok c.only.result (λ steps. tt))

some_none : {A P : Type 0} (x : A) → Some x ≡ None → P
some_none x h = absurd cc

pub returns-in-Some-clause-none : goal.returns-in-Some-clause-none
returns-in-Some-clause-none g c = ever_ok c.apply.result (λ steps e. some_none _ (sym c.in-Some.is ∙ e))

pub returns-in-None-clause-none : goal.returns-in-None-clause-none
returns-in-None-clause-none g c = map_ok c.only.result (λ steps is e. (c.in-None.is, is)) c.only.ensures
