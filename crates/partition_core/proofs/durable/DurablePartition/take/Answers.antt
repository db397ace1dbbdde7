use Rattle.std.proofs.Common.{◌≡◌, ◌∙◌, ap, sym, refl, Err}
use Rattle.std.proofs.lemmas.Result.{err_from_is_err_and}
use Rattle.crdt_core.specs.KindsOf.{kinds_of}
use Rattle.partition_log.specs.Codec.{codec_of}
use Rattle.partition_log.specs.Gates.{gates_of}
use Rattle.world_model.specs.rules.Event.{AskTake, Took, Refused}
use Rattle.partition_core.specs.Answers.{cause}
use Rattle.partition_core.specs.Durable.{is_down}
use Rattle.partition_core.specs.Steps.{Anything}
use Rattle.partition_core.specs.Stopped.{stopped}
use Rattle.partition_core.proofs.Durably.{down_call}
use Rattle.partition_core.proofs.Logged.{on_disk, opened_steps, opened_rest, opened_onto, refused_on, take_done, take_stopped}
use Rattle.partition_core.proofs.durable.DurablePartition.take.Goals as goal

pub returns-then-is_down : goal.returns-then-is_down
returns-then-is_down g c = λ number. down_call (kinds_of g.C.Crdt.laws) (codec_of g.C.Crdt.spells) g.D.Disk.state c.args.self.now Anything (AskTake number c.args.message.now) (λ (x : Unit {0}) e. e ≡ Took number c.args.message.now) (sym c.is_down.ensures ∙ c.if-is_down.true) refl

pub returns-in_err-may_take : goal.returns-in_err-may_take
returns-in_err-may_take g c = λ number.
    let p = err_from_is_err_and c.from_residual.result c.from_residual.ensures.1 in
    let v = on_disk c.self.inside.tables (gates_of c.self.inside.log) c.self.inside.crashed in
    let up = ap is_down c.self.view_is ∙ sym c.is_down.ensures ∙ c.if-is_down.false in
    let kinds = kinds_of g.C.Crdt.laws in
    let codec = codec_of g.C.Crdt.spells in
    rw (p.1, p.2) (opened_rest kinds codec g.D.Disk.state Anything (λ e. e ≡ Refused (AskTake number c.args.message.now) (cause c.in_err-may_take.field-0.0)) v c.args.self.now c.self.view_is (refused_on kinds codec g.D.Disk.state v c.self.invariant up Anything (AskTake number c.args.message.now) c.in_err-may_take.field-0.0 c.self.inside.tables (c.in_err-may_take.ensures.refused number)))

pub returns-in_err-take_in : goal.returns-in_err-take_in
returns-in_err-take_in g c = λ number.
    let p = err_from_is_err_and c.from_residual-in_err-take_in.result c.from_residual-in_err-take_in.ensures.1 in
    let v = on_disk c.self.inside.tables (gates_of c.self.inside.log) c.self.inside.crashed in
    let up = ap is_down c.self.view_is ∙ sym c.is_down.ensures ∙ c.if-is_down.false in
    let kinds = kinds_of g.C.Crdt.laws in
    let codec = codec_of g.C.Crdt.spells in
    let new = on_disk c.self.inside.tables (gates_of c.take_in.new.log) c.self.inside.crashed in
    let now = on_disk c.take_in.new.self (gates_of c.take_in.new.log) c.self.inside.crashed in
    let as_before : now ≡ new = ap (λ t. on_disk t (gates_of c.take_in.new.log) c.self.inside.crashed) (c.in_err-take_in.ensures.tables number) in
    rw (p.1, p.2) (opened_onto kinds codec g.D.Disk.state Anything (AskTake number c.args.message.now) (λ (x : Unit {0}) e. e ≡ Took number c.args.message.now) (Err (stopped c.in_err-take_in.field-0.0)) v c.args.self.now new now c.self.view_is as_before (take_stopped kinds codec g.D.Disk.state v up number c.args.message.now tt c.in_ok-may_take.ensures.low c.in_ok-may_take.ensures.high c.in_err-take_in.field-0.0 (gates_of c.take_in.new.log) c.in_err-take_in.ensures.appends))

pub returns : goal.returns
returns g c = λ number.
    let v = on_disk c.self.inside.tables (gates_of c.self.inside.log) c.self.inside.crashed in
    let up = ap is_down c.self.view_is ∙ sym c.is_down.ensures ∙ c.if-is_down.false in
    let kinds = kinds_of g.C.Crdt.laws in
    let codec = codec_of g.C.Crdt.spells in
    let new = on_disk c.take_in.new.self (gates_of c.take_in.new.log) c.self.inside.crashed in
    opened_steps kinds codec g.D.Disk.state Anything (λ e. e ≡ Took number c.args.message.now) v c.args.self.now new c.self.view_is (take_done kinds codec g.D.Disk.state v up number c.args.message.now c.in_ok-take_in.field-0 (gates_of c.take_in.new.log) c.take_in.new.self c.in_ok-take_in.ensures.appends (c.in_ok-take_in.ensures.tables number))
