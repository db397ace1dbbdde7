use Rattle.std.proofs.Common.{◌≡◌, ◌∙◌, ap, sym, refl, subst}
use Rattle.std.proofs.lemmas.Result.{err_from_is_err_and}
use Rattle.crdt_core.specs.declared.record.Message.{Message}
use Rattle.crdt_core.specs.KindsOf.{kinds_of}
use Rattle.partition_log.specs.Codec.{codec_of}
use Rattle.partition_log.specs.Gates.{gates_of}
use Rattle.world_model.specs.rules.Event.{AskMessage, Sent}
use Rattle.partition_core.specs.Durable.{StandsOn, is_down}
use Rattle.partition_core.specs.Steps.{Anything}
use Rattle.partition_core.proofs.Durably.{down_call}
use Rattle.partition_core.proofs.Sending.{sent_put}
use Rattle.partition_core.proofs.Logged.{on_disk, opened_steps, sent_on}
use Rattle.partition_core.proofs.durable.DurablePartition.release.Goals as goal

pub returns-then-is_down-clause-answers : goal.returns-then-is_down-clause-answers
returns-then-is_down-clause-answers g c = down_call (kinds_of g.C.Crdt.laws) (codec_of g.C.Crdt.spells) g.D.Disk.state c.args.self.now Anything (AskMessage c.args.to c.args.from) (λ (m : Message g.row.C-Effect.Denot) e. (m.to ≡ c.args.to) × (e ≡ Sent c.args.from m)) (sym c.is_down.ensures ∙ c.if-is_down.true) refl

pub returns-in_err-message-clause-answers : goal.returns-in_err-message-clause-answers
returns-in_err-message-clause-answers g c =
    let p = err_from_is_err_and c.from_residual.result c.from_residual.ensures.1 in
    let v = on_disk c.self.inside.tables (gates_of c.self.inside.log) c.self.inside.crashed in
    let up = ap is_down c.self.view_is ∙ sym c.is_down.ensures ∙ c.if-is_down.false in
    let kinds = kinds_of g.C.Crdt.laws in
    let codec = codec_of g.C.Crdt.spells in
    rw (p.1, p.2) (ap (λ t. on_disk t (gates_of c.self.inside.log) c.self.inside.crashed) c.in_err-message.ensures.same ∙ c.self.view_is)

pub returns-clause-answers : goal.returns-clause-answers
returns-clause-answers g c =
    let v = on_disk c.self.inside.tables (gates_of c.self.inside.log) c.self.inside.crashed in
    let up = ap is_down c.self.view_is ∙ sym c.is_down.ensures ∙ c.if-is_down.false in
    let kinds = kinds_of g.C.Crdt.laws in
    let codec = codec_of g.C.Crdt.spells in
    let new = on_disk c.release.new.self (gates_of c.self.inside.log) c.self.inside.crashed in
    opened_steps kinds codec g.D.Disk.state Anything (λ e. (c.in_ok-message.message.to ≡ c.args.to) × (e ≡ Sent c.args.from c.in_ok-message.message)) v c.args.self.now new c.self.view_is (sent_on kinds codec g.D.Disk.state v c.self.invariant up c.args.to c.args.from c.in_ok-message.message c.release.new.self c.in_ok-message.ensures.to c.in_ok-message.ensures.sent)

pub returns-clause-ready : goal.returns-clause-ready
returns-clause-ready g c = λ p h full.
    let v = on_disk c.self.inside.tables (gates_of c.self.inside.log) c.self.inside.crashed in
    let up = ap is_down c.self.view_is ∙ sym c.is_down.ensures ∙ c.if-is_down.false in
    let stood = subst (λ x. StandsOn (codec_of g.C.Crdt.spells) g.D.Disk.state x p) (sym c.self.view_is) h in
    sent_put g.C.Crdt.spells (kinds_of g.C.Crdt.laws) g.D.Disk.state v p c.release.new.self c.args.from c.in_ok-message.message up stood c.in_ok-message.ensures.sent full
