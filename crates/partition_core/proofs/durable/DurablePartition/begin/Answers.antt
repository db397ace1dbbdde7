use Rattle.std.proofs.Common.{◌≡◌, ◌∙◌, ap, sym, refl, Err, ℕ, List}
use Rattle.std.proofs.lemmas.Result.{err_from_is_err_and}
use Rattle.site_vector.specs.declared.ids.TxId.{TxId}
use Rattle.crdt_core.specs.KindsOf.{kinds_of}
use Rattle.partition_log.specs.Codec.{codec_of}
use Rattle.partition_log.specs.Gates.{gates_of}
use Rattle.world_model.specs.lines.Lines.{wish_of}
use Rattle.world_model.specs.rules.Event.{AskBegin, Began, Refused}
use Rattle.partition_core.specs.Answers.{cause}
use Rattle.partition_core.specs.Durable.{is_down}
use Rattle.partition_core.specs.Steps.{Anything}
use Rattle.partition_core.specs.Stopped.{stopped}
use Rattle.partition_core.proofs.Durably.{down_call}
use Rattle.partition_core.proofs.Logged.{on_disk, opened_on, opened_steps, opened_rest, refused_on, begin_done, begin_stopped}
use Rattle.partition_core.proofs.durable.DurablePartition.begin.Goals as goal

pub returns-then-is_down-clause-answers : goal.returns-then-is_down-clause-answers
returns-then-is_down-clause-answers g c = λ who. down_call (kinds_of g.C.Crdt.laws) (codec_of g.C.Crdt.spells) g.D.Disk.state c.args.self.now Anything (AskBegin who (wish_of c.args.dependency.now c.args.mode)) (λ (x : TxId × List ℕ) e. e ≡ Began who (wish_of c.args.dependency.now c.args.mode) x.0 x.1) (sym c.is_down.ensures ∙ c.if-is_down.true) refl

pub returns-in_err-tx-clause-answers : goal.returns-in_err-tx-clause-answers
returns-in_err-tx-clause-answers g c = λ who.
    let p = err_from_is_err_and c.from_residual.result c.from_residual.ensures.1 in
    let v = on_disk c.self.inside.tables (gates_of c.self.inside.log) c.self.inside.crashed in
    let up = ap is_down c.self.view_is ∙ sym c.is_down.ensures ∙ c.if-is_down.false in
    let kinds = kinds_of g.C.Crdt.laws in
    let codec = codec_of g.C.Crdt.spells in
    rw (p.1, p.2) (opened_rest kinds codec g.D.Disk.state Anything (λ e. e ≡ Refused (AskBegin who (wish_of c.args.dependency.now c.args.mode)) (cause c.in_err-tx.field-0.0)) v c.args.self.now c.self.view_is (refused_on kinds codec g.D.Disk.state v c.self.invariant up Anything (AskBegin who (wish_of c.args.dependency.now c.args.mode)) c.in_err-tx.field-0.0 c.self.inside.tables (c.in_err-tx.ensures.answers who)))

pub returns-in_err-keep_lease-clause-answers : goal.returns-in_err-keep_lease-clause-answers
returns-in_err-keep_lease-clause-answers g c = λ who.
    let p = err_from_is_err_and c.from_residual-in_err-keep_lease.result c.from_residual-in_err-keep_lease.ensures.1 in
    let v = on_disk c.self.inside.tables (gates_of c.self.inside.log) c.self.inside.crashed in
    let up = ap is_down c.self.view_is ∙ sym c.is_down.ensures ∙ c.if-is_down.false in
    let kinds = kinds_of g.C.Crdt.laws in
    let codec = codec_of g.C.Crdt.spells in
    let new = on_disk c.self.inside.tables (gates_of c.keep_lease.new.log) c.self.inside.crashed in
    rw (p.1, p.2) (opened_on kinds codec g.D.Disk.state Anything (AskBegin who (wish_of c.args.dependency.now c.args.mode)) (λ (x : TxId × List ℕ) e. e ≡ Began who (wish_of c.args.dependency.now c.args.mode) x.0 x.1) (Err (stopped c.in_err-keep_lease.field-0.0)) v c.args.self.now new c.self.view_is (begin_stopped kinds codec g.D.Disk.state v up who (wish_of c.args.dependency.now c.args.mode) c.in_ok-tx.tx c.in_ok-tx.s (c.in_ok-tx.ensures.answers who) c.lease_before.result c.lease_before.ensures c.in_err-keep_lease.field-0.0 (gates_of c.keep_lease.new.log) c.in_err-keep_lease.ensures.appends))

pub returns-clause-answers : goal.returns-clause-answers
returns-clause-answers g c = λ who.
    let v = on_disk c.self.inside.tables (gates_of c.self.inside.log) c.self.inside.crashed in
    let up = ap is_down c.self.view_is ∙ sym c.is_down.ensures ∙ c.if-is_down.false in
    let kinds = kinds_of g.C.Crdt.laws in
    let codec = codec_of g.C.Crdt.spells in
    let new = on_disk c.advance.new.self (gates_of c.keep_lease.new.log) c.self.inside.crashed in
    opened_steps kinds codec g.D.Disk.state Anything (λ e. e ≡ Began who (wish_of c.args.dependency.now c.args.mode) c.in_ok-tx.tx c.in_ok-tx.s) v c.args.self.now new c.self.view_is (begin_done kinds codec g.D.Disk.state v up who (wish_of c.args.dependency.now c.args.mode) c.in_ok-tx.tx c.in_ok-tx.s (c.in_ok-tx.ensures.answers who) c.lease_before.result c.lease_before.ensures c.in_ok-keep_lease.field-0 (gates_of c.keep_lease.new.log) c.advance.new.self c.in_ok-keep_lease.ensures.appends c.advance.ensures)
