use Rattle.std.proofs.Common.{◌≡◌, ◌∙◌, ap, sym, refl, Err}
use Rattle.std.proofs.lemmas.Result.{err_from_is_err_and}
use Rattle.crdt_core.specs.KindsOf.{kinds_of}
use Rattle.partition_log.specs.Codec.{codec_of}
use Rattle.partition_log.specs.Gates.{gates_of}
use Rattle.world_model.specs.rules.Event.{AskAbort, Aborted, Refused, IsGone}
use Rattle.partition_core.specs.Answers.{cause}
use Rattle.partition_core.specs.Durable.{is_down}
use Rattle.partition_core.specs.Steps.{Anything}
use Rattle.partition_core.specs.Stopped.{stopped}
use Rattle.partition_core.proofs.Durably.{down_call}
use Rattle.partition_core.proofs.Logged.{on_disk, opened_on, opened_steps, opened_rest, not_here, abort_by, abort_refutes, end_done, end_stopped, end_never}
use Rattle.partition_core.proofs.durable.DurablePartition.abort.Goals as goal

pub returns-then-is_down-clause-answers : goal.returns-then-is_down-clause-answers
returns-then-is_down-clause-answers g c = λ own. down_call (kinds_of g.C.Crdt.laws) (codec_of g.C.Crdt.spells) g.D.Disk.state c.args.self.now Anything (AskAbort c.args.tx) (λ (n : Unit {0}) e. e ≡ Aborted c.args.tx own) (sym c.is_down.ensures ∙ c.if-is_down.true) refl

pub returns-then-not-is_pending-clause-answers : goal.returns-then-not-is_pending-clause-answers
returns-then-not-is_pending-clause-answers g c = λ own.
    let v = on_disk c.self.inside.tables (gates_of c.self.inside.log) c.self.inside.crashed in
    let up = ap is_down c.self.view_is ∙ sym c.is_down.ensures ∙ c.if-is_down.false in
    let kinds = kinds_of g.C.Crdt.laws in
    let codec = codec_of g.C.Crdt.spells in
    opened_rest kinds codec g.D.Disk.state Anything (λ e. e ≡ Refused (AskAbort c.args.tx) IsGone) v c.args.self.now c.self.view_is (not_here kinds codec g.D.Disk.state v c.self.invariant up c.args.tx (sym c.is_pending.ensures ∙ c.if-not-is_pending.true))

pub returns-in_err-abort-clause-answers : goal.returns-in_err-abort-clause-answers
returns-in_err-abort-clause-answers g c = λ own.
    let p = err_from_is_err_and c.from_residual.result c.from_residual.ensures.1 in
    let v = on_disk c.self.inside.tables (gates_of c.self.inside.log) c.self.inside.crashed in
    let up = ap is_down c.self.view_is ∙ sym c.is_down.ensures ∙ c.if-is_down.false in
    let kinds = kinds_of g.C.Crdt.laws in
    let codec = codec_of g.C.Crdt.spells in
    let new = on_disk c.self.inside.tables (gates_of c.abort.new.self) c.self.inside.crashed in
    rw (p.1, p.2) (opened_on kinds codec g.D.Disk.state Anything (AskAbort c.args.tx) (λ (n : Unit {0}) e. e ≡ Aborted c.args.tx own) (Err (stopped c.in_err-abort.field-0.0)) v c.args.self.now new c.self.view_is (end_stopped kinds codec g.D.Disk.state v up (AskAbort c.args.tx) c.args.tx (Aborted c.args.tx own) _ (abort_by kinds codec g.D.Disk.state v up c.args.tx own) (sym c.is_pending.ensures ∙ c.if-not-is_pending.false) tt c.in_err-abort.field-0.0 (gates_of c.abort.new.self) c.in_err-abort.ensures.appends))

pub returns-in_err-abort-2-clause-answers : goal.returns-in_err-abort-2-clause-answers
returns-in_err-abort-2-clause-answers g c = λ own.
    let p = err_from_is_err_and c.from_residual-in_err-abort-2.result c.from_residual-in_err-abort-2.ensures.1 in
    let v = on_disk c.self.inside.tables (gates_of c.self.inside.log) c.self.inside.crashed in
    let up = ap is_down c.self.view_is ∙ sym c.is_down.ensures ∙ c.if-is_down.false in
    let kinds = kinds_of g.C.Crdt.laws in
    let codec = codec_of g.C.Crdt.spells in
    let new = on_disk c.abort-2.new.self (gates_of c.abort.new.self) c.self.inside.crashed in
    rw (p.1, p.2) (opened_steps kinds codec g.D.Disk.state Anything (λ e. e ≡ Refused (AskAbort c.args.tx) (cause c.in_err-abort-2.field-0.0)) v c.args.self.now new c.self.view_is (end_never kinds codec g.D.Disk.state v up (AskAbort c.args.tx) c.args.tx (Aborted c.args.tx own) _ (abort_by kinds codec g.D.Disk.state v up c.args.tx own) (sym c.is_pending.ensures ∙ c.if-not-is_pending.false) c.in_ok-abort.field-0 (gates_of c.abort.new.self) c.abort-2.new.self c.in_err-abort-2.field-0.0 c.in_ok-abort.ensures.appends (c.in_err-abort-2.ensures own) (abort_refutes kinds codec g.D.Disk.state v c.args.tx c.in_err-abort-2.field-0.0)))

pub returns-clause-answers : goal.returns-clause-answers
returns-clause-answers g c = λ own.
    let v = on_disk c.self.inside.tables (gates_of c.self.inside.log) c.self.inside.crashed in
    let up = ap is_down c.self.view_is ∙ sym c.is_down.ensures ∙ c.if-is_down.false in
    let kinds = kinds_of g.C.Crdt.laws in
    let codec = codec_of g.C.Crdt.spells in
    let new = on_disk c.abort-2.new.self (gates_of c.abort.new.self) c.self.inside.crashed in
    opened_steps kinds codec g.D.Disk.state Anything (λ e. e ≡ Aborted c.args.tx own) v c.args.self.now new c.self.view_is (end_done kinds codec g.D.Disk.state v up (AskAbort c.args.tx) c.args.tx (Aborted c.args.tx own) _ (abort_by kinds codec g.D.Disk.state v up c.args.tx own) (sym c.is_pending.ensures ∙ c.if-not-is_pending.false) c.in_ok-abort.field-0 (gates_of c.abort.new.self) c.abort-2.new.self c.in_ok-abort.ensures.appends (c.in_ok-abort-2.ensures own))
