use Rattle.std.proofs.Common.{◌≡◌, ◌∙◌, ap, sym, refl, Err}
use Rattle.std.proofs.lemmas.Result.{err_from_is_err_and}
use Rattle.crdt_core.specs.KindsOf.{kinds_of}
use Rattle.partition_log.specs.Codec.{codec_of}
use Rattle.partition_log.specs.Gates.{gates_of}
use Rattle.world_model.specs.rules.Event.{AskFinish, Finished, Refused}
use Rattle.partition_core.specs.Answers.{cause}
use Rattle.partition_core.specs.Durable.{is_down}
use Rattle.partition_core.specs.Steps.{Anything}
use Rattle.partition_core.specs.Stopped.{stopped}
use Rattle.partition_core.proofs.Durably.{down_call}
use Rattle.partition_core.proofs.Logged.{on_disk, opened_on, opened_steps, refused_on, finished_already, finish_by, finish_refutes, end_done, end_stopped, end_never}
use Rattle.partition_core.proofs.durable.DurablePartition.finish.Goals as goal

pub returns-then-is_down-clause-answers : goal.returns-then-is_down-clause-answers
returns-then-is_down-clause-answers g c = down_call (kinds_of g.C.Crdt.laws) (codec_of g.C.Crdt.spells) g.D.Disk.state c.args.self.now Anything (AskFinish c.args.tx c.args.c.now) (λ (n : Unit {0}) e. e ≡ Finished c.args.tx c.args.c.now) (sym c.is_down.ensures ∙ c.if-is_down.true) refl

pub returns-in_err-finish-clause-answers : goal.returns-in_err-finish-clause-answers
returns-in_err-finish-clause-answers g c =
    let p = err_from_is_err_and c.from_residual.result c.from_residual.ensures.1 in
    let v = on_disk c.self.inside.tables (gates_of c.self.inside.log) c.self.inside.crashed in
    let up = ap is_down c.self.view_is ∙ sym c.is_down.ensures ∙ c.if-is_down.false in
    let kinds = kinds_of g.C.Crdt.laws in
    let codec = codec_of g.C.Crdt.spells in
    let new = on_disk c.finish.new.self (gates_of c.self.inside.log) c.self.inside.crashed in
    rw (p.1, p.2) (opened_steps kinds codec g.D.Disk.state Anything (λ e. e ≡ Refused (AskFinish c.args.tx c.args.c.now) (cause c.in_err-finish.field-0.0)) v c.args.self.now new c.self.view_is (refused_on kinds codec g.D.Disk.state v c.self.invariant up Anything (AskFinish c.args.tx c.args.c.now) c.in_err-finish.field-0.0 c.finish.new.self c.in_err-finish.ensures))

pub returns-then-not-is_pending-clause-answers : goal.returns-then-not-is_pending-clause-answers
returns-then-not-is_pending-clause-answers g c =
    let v = on_disk c.self.inside.tables (gates_of c.self.inside.log) c.self.inside.crashed in
    let up = ap is_down c.self.view_is ∙ sym c.is_down.ensures ∙ c.if-is_down.false in
    let kinds = kinds_of g.C.Crdt.laws in
    let codec = codec_of g.C.Crdt.spells in
    let new = on_disk c.finish.new.self (gates_of c.self.inside.log) c.self.inside.crashed in
    opened_steps kinds codec g.D.Disk.state Anything (λ e. e ≡ Finished c.args.tx c.args.c.now) v c.args.self.now new c.self.view_is (finished_already kinds codec g.D.Disk.state v c.self.invariant up c.args.tx c.args.c.now c.finish.new.self (sym c.is_pending.ensures ∙ c.if-not-is_pending.true) c.in_ok-finish.ensures)

pub returns-in_err-finish-2-clause-answers : goal.returns-in_err-finish-2-clause-answers
returns-in_err-finish-2-clause-answers g c =
    let p = err_from_is_err_and c.from_residual-in_err-finish-2.result c.from_residual-in_err-finish-2.ensures.1 in
    let v = on_disk c.self.inside.tables (gates_of c.self.inside.log) c.self.inside.crashed in
    let up = ap is_down c.self.view_is ∙ sym c.is_down.ensures ∙ c.if-is_down.false in
    let kinds = kinds_of g.C.Crdt.laws in
    let codec = codec_of g.C.Crdt.spells in
    let new = on_disk c.self.inside.tables (gates_of c.finish-2.new.self) c.self.inside.crashed in
    rw (p.1, p.2) (opened_on kinds codec g.D.Disk.state Anything (AskFinish c.args.tx c.args.c.now) (λ (n : Unit {0}) e. e ≡ Finished c.args.tx c.args.c.now) (Err (stopped c.in_err-finish-2.field-0.0)) v c.args.self.now new c.self.view_is (end_stopped kinds codec g.D.Disk.state v up (AskFinish c.args.tx c.args.c.now) c.args.tx (Finished c.args.tx c.args.c.now) _ (finish_by kinds codec g.D.Disk.state v up c.args.tx c.args.c.now) (sym c.is_pending.ensures ∙ c.if-not-is_pending.false) tt c.in_err-finish-2.field-0.0 (gates_of c.finish-2.new.self) c.in_err-finish-2.ensures.appends))

pub returns-in_err-finish-3-clause-answers : goal.returns-in_err-finish-3-clause-answers
returns-in_err-finish-3-clause-answers g c =
    let p = err_from_is_err_and c.from_residual-in_err-finish-3.result c.from_residual-in_err-finish-3.ensures.1 in
    let v = on_disk c.self.inside.tables (gates_of c.self.inside.log) c.self.inside.crashed in
    let up = ap is_down c.self.view_is ∙ sym c.is_down.ensures ∙ c.if-is_down.false in
    let kinds = kinds_of g.C.Crdt.laws in
    let codec = codec_of g.C.Crdt.spells in
    let new = on_disk c.finish-3.new.self (gates_of c.finish-2.new.self) c.self.inside.crashed in
    rw (p.1, p.2) (opened_steps kinds codec g.D.Disk.state Anything (λ e. e ≡ Refused (AskFinish c.args.tx c.args.c.now) (cause c.in_err-finish-3.field-0.0)) v c.args.self.now new c.self.view_is (end_never kinds codec g.D.Disk.state v up (AskFinish c.args.tx c.args.c.now) c.args.tx (Finished c.args.tx c.args.c.now) _ (finish_by kinds codec g.D.Disk.state v up c.args.tx c.args.c.now) (sym c.is_pending.ensures ∙ c.if-not-is_pending.false) c.in_ok-finish-2.field-0 (gates_of c.finish-2.new.self) c.finish-3.new.self c.in_err-finish-3.field-0.0 c.in_ok-finish-2.ensures.appends c.in_err-finish-3.ensures (finish_refutes kinds codec g.D.Disk.state v c.args.tx c.args.c.now c.in_err-finish-3.field-0.0)))

pub returns-clause-answers : goal.returns-clause-answers
returns-clause-answers g c =
    let v = on_disk c.self.inside.tables (gates_of c.self.inside.log) c.self.inside.crashed in
    let up = ap is_down c.self.view_is ∙ sym c.is_down.ensures ∙ c.if-is_down.false in
    let kinds = kinds_of g.C.Crdt.laws in
    let codec = codec_of g.C.Crdt.spells in
    let new = on_disk c.finish-3.new.self (gates_of c.finish-2.new.self) c.self.inside.crashed in
    opened_steps kinds codec g.D.Disk.state Anything (λ e. e ≡ Finished c.args.tx c.args.c.now) v c.args.self.now new c.self.view_is (end_done kinds codec g.D.Disk.state v up (AskFinish c.args.tx c.args.c.now) c.args.tx (Finished c.args.tx c.args.c.now) _ (finish_by kinds codec g.D.Disk.state v up c.args.tx c.args.c.now) (sym c.is_pending.ensures ∙ c.if-not-is_pending.false) c.in_ok-finish-2.field-0 (gates_of c.finish-2.new.self) c.finish-3.new.self c.in_ok-finish-2.ensures.appends c.in_ok-finish-3.ensures)
