use Rattle.std.proofs.Common.{◌≡◌, ◌∙◌, ap, sym, refl, subst, Err, ℕ, List, Option}
use Rattle.std.proofs.lemmas.Result.{err_from_is_err_and}
use Rattle.crdt_core.specs.declared.record.Part.{Part}
use Rattle.crdt_core.specs.KindsOf.{kinds_of}
use Rattle.partition_log.specs.Codec.{codec_of}
use Rattle.partition_log.specs.Gates.{gates_of}
use Rattle.world_model.specs.rules.Event.{AskUpdate, Updated}
use Rattle.partition_core.specs.Durable.{StandsOn, is_down}
use Rattle.partition_core.specs.Steps.{Anything}
use Rattle.partition_core.specs.Stopped.{uncalled}
use Rattle.partition_core.proofs.Durably.{down_call}
use Rattle.partition_core.proofs.HeldIds.{ids_on}
use Rattle.partition_core.proofs.Logged.{on_disk, opened_on, opened_steps, uncalled_on, updated_on}
use Rattle.partition_core.proofs.durable.DurablePartition.update_fitting.Goals as goal

pub returns-then-is_down-clause-answers : goal.returns-then-is_down-clause-answers
returns-then-is_down-clause-answers g c = λ index. down_call (kinds_of g.C.Crdt.laws) (codec_of g.C.Crdt.spells) g.D.Disk.state c.args.self.now Anything (AskUpdate c.args.tx c.args.s.now c.args.object.now c.args.own.now c.args.op.now) (λ (x : g.row.C-Effect.Denot × Option ℕ) e. (read : List (Part g.row.C-Effect.Denot)) × (e ≡ Updated c.args.tx c.args.s.now c.args.object.now c.args.own.now c.args.op.now read (record { object = c.args.object.now; index = index; effect = x.0 }) x.1)) (sym c.is_down.ensures ∙ c.if-is_down.true) refl

pub returns-in_err-made-clause-answers : goal.returns-in_err-made-clause-answers
returns-in_err-made-clause-answers g c = λ index.
    let p = err_from_is_err_and c.from_residual.result c.from_residual.ensures.1 in
    let v = on_disk c.self.inside.tables (gates_of c.self.inside.log) c.self.inside.crashed in
    let up = ap is_down c.self.view_is ∙ sym c.is_down.ensures ∙ c.if-is_down.false in
    let kinds = kinds_of g.C.Crdt.laws in
    let codec = codec_of g.C.Crdt.spells in
    let new = on_disk c.update_fitting.new.self (gates_of c.self.inside.log) c.self.inside.crashed in
    rw (p.1, p.2) (opened_on kinds codec g.D.Disk.state Anything (AskUpdate c.args.tx c.args.s.now c.args.object.now c.args.own.now c.args.op.now) (λ (x : g.row.C-Effect.Denot × Option ℕ) e. (read : List (Part g.row.C-Effect.Denot)) × (e ≡ Updated c.args.tx c.args.s.now c.args.object.now c.args.own.now c.args.op.now read (record { object = c.args.object.now; index = index; effect = x.0 }) x.1)) (Err (uncalled c.in_err-made.field-0.0)) v c.args.self.now new c.self.view_is (uncalled_on kinds codec g.D.Disk.state v c.self.invariant up (AskUpdate c.args.tx c.args.s.now c.args.object.now c.args.own.now c.args.op.now) (λ (x : g.row.C-Effect.Denot × Option ℕ) e. (read : List (Part g.row.C-Effect.Denot)) × (e ≡ Updated c.args.tx c.args.s.now c.args.object.now c.args.own.now c.args.op.now read (record { object = c.args.object.now; index = index; effect = x.0 }) x.1)) c.in_err-made.field-0.0 c.update_fitting.new.self (c.in_err-made.ensures.answers index)))

pub returns-clause-answers : goal.returns-clause-answers
returns-clause-answers g c = λ index.
    let v = on_disk c.self.inside.tables (gates_of c.self.inside.log) c.self.inside.crashed in
    let up = ap is_down c.self.view_is ∙ sym c.is_down.ensures ∙ c.if-is_down.false in
    let kinds = kinds_of g.C.Crdt.laws in
    let codec = codec_of g.C.Crdt.spells in
    let new = on_disk c.update_fitting.new.self (gates_of c.self.inside.log) c.self.inside.crashed in
    opened_steps kinds codec g.D.Disk.state Anything (λ e. (read : List (Part g.row.C-Effect.Denot)) × (e ≡ Updated c.args.tx c.args.s.now c.args.object.now c.args.own.now c.args.op.now read (record { object = c.args.object.now; index = index; effect = c.in_ok-made.made.0 }) c.in_ok-made.made.1)) v c.args.self.now new c.self.view_is (updated_on kinds codec g.D.Disk.state v c.self.invariant up c.args.tx c.args.s.now c.args.object.now c.args.own.now c.args.op.now (record { object = c.args.object.now; index = index; effect = c.in_ok-made.made.0 }) c.in_ok-made.made.1 c.update_fitting.new.self (c.in_ok-made.ensures.answers index))

pub returns-clause-ready : goal.returns-clause-ready
returns-clause-ready g c = λ p h begun numbered.
    let v = on_disk c.self.inside.tables (gates_of c.self.inside.log) c.self.inside.crashed in
    let up = ap is_down c.self.view_is ∙ sym c.is_down.ensures ∙ c.if-is_down.false in
    let ids = ids_on g.C.Crdt.spells g.D.Disk.state v p up (subst (λ x. StandsOn (codec_of g.C.Crdt.spells) g.D.Disk.state x p) (sym c.self.view_is) h) in
    c.in_ok-made.ensures.ready ids begun numbered
