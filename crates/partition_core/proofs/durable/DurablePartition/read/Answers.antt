use Rattle.std.proofs.Common.{◌≡◌, ◌∙◌, ap, sym, refl, Err, List}
use Rattle.std.proofs.lemmas.Result.{err_from_is_err_and}
use Rattle.crdt_core.specs.declared.record.Part.{Part}
use Rattle.crdt_core.specs.KindsOf.{kinds_of}
use Rattle.partition_log.specs.Codec.{codec_of}
use Rattle.partition_log.specs.Gates.{gates_of}
use Rattle.world_model.specs.rules.Event.{AskRead}
use Rattle.world_model.specs.rules.Event as event
use Rattle.partition_core.specs.Durable.{is_down}
use Rattle.partition_core.specs.Steps.{Anything}
use Rattle.partition_core.specs.Stopped.{uncalled}
use Rattle.partition_core.proofs.Durably.{down_call}
use Rattle.partition_core.proofs.Logged.{on_disk, opened_on, opened_steps, uncalled_on, read_on}
use Rattle.partition_core.proofs.durable.DurablePartition.read.Goals as goal

pub returns-then-is_down-clause-answers : goal.returns-then-is_down-clause-answers
returns-then-is_down-clause-answers g c = down_call (kinds_of g.C.Crdt.laws) (codec_of g.C.Crdt.spells) g.D.Disk.state c.args.self.now Anything (AskRead c.args.tx c.args.s.now c.args.object.now c.args.own.now) (λ v e. (read : List (Part g.row.C-Effect.Denot)) × (e ≡ event.Read c.args.tx c.args.s.now c.args.object.now c.args.own.now read v)) (sym c.is_down.ensures ∙ c.if-is_down.true) refl

pub returns-in_err-value-clause-answers : goal.returns-in_err-value-clause-answers
returns-in_err-value-clause-answers g c =
    let p = err_from_is_err_and c.from_residual.result c.from_residual.ensures.1 in
    let v = on_disk c.self.inside.tables (gates_of c.self.inside.log) c.self.inside.crashed in
    let up = ap is_down c.self.view_is ∙ sym c.is_down.ensures ∙ c.if-is_down.false in
    let kinds = kinds_of g.C.Crdt.laws in
    let codec = codec_of g.C.Crdt.spells in
    let new = on_disk c.read.new.self (gates_of c.self.inside.log) c.self.inside.crashed in
    rw (p.1, p.2) (opened_on kinds codec g.D.Disk.state Anything (AskRead c.args.tx c.args.s.now c.args.object.now c.args.own.now) (λ v e. (read : List (Part g.row.C-Effect.Denot)) × (e ≡ event.Read c.args.tx c.args.s.now c.args.object.now c.args.own.now read v)) (Err (uncalled c.in_err-value.field-0.0)) v c.args.self.now new c.self.view_is (uncalled_on kinds codec g.D.Disk.state v c.self.invariant up (AskRead c.args.tx c.args.s.now c.args.object.now c.args.own.now) (λ v e. (read : List (Part g.row.C-Effect.Denot)) × (e ≡ event.Read c.args.tx c.args.s.now c.args.object.now c.args.own.now read v)) c.in_err-value.field-0.0 c.read.new.self (c.in_err-value.ensures)))

pub returns-clause-answers : goal.returns-clause-answers
returns-clause-answers g c =
    let v = on_disk c.self.inside.tables (gates_of c.self.inside.log) c.self.inside.crashed in
    let up = ap is_down c.self.view_is ∙ sym c.is_down.ensures ∙ c.if-is_down.false in
    let kinds = kinds_of g.C.Crdt.laws in
    let codec = codec_of g.C.Crdt.spells in
    let new = on_disk c.read.new.self (gates_of c.self.inside.log) c.self.inside.crashed in
    opened_steps kinds codec g.D.Disk.state Anything (λ e. (read : List (Part g.row.C-Effect.Denot)) × (e ≡ event.Read c.args.tx c.args.s.now c.args.object.now c.args.own.now read c.in_ok-value.value)) v c.args.self.now new c.self.view_is (read_on kinds codec g.D.Disk.state v c.self.invariant up c.args.tx c.args.s.now c.args.object.now c.args.own.now c.in_ok-value.value c.read.new.self (c.in_ok-value.ensures))
