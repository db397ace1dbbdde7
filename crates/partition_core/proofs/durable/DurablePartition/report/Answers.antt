use Rattle.std.proofs.Common.{◌≡◌, ◌∙◌, ap, sym, refl}
use Rattle.crdt_core.specs.KindsOf.{kinds_of}
use Rattle.partition_log.specs.Codec.{codec_of}
use Rattle.partition_log.specs.Gates.{gates_of}
use Rattle.world_model.specs.rules.Event.{AskReport, Reported}
use Rattle.partition_core.specs.Durable.{is_down}
use Rattle.partition_core.specs.Steps.{Anything}
use Rattle.partition_core.proofs.Durably.{down_call}
use Rattle.partition_core.proofs.Logged.{on_disk, opened_rest, reported_on}
use Rattle.partition_core.proofs.durable.DurablePartition.report.Goals as goal

pub returns-then-is_down-clause-answers : goal.returns-then-is_down-clause-answers
returns-then-is_down-clause-answers g c = down_call (kinds_of g.C.Crdt.laws) (codec_of g.C.Crdt.spells) g.D.Disk.state c.args.self.now Anything AskReport (λ b e. e ≡ Reported b) (sym c.is_down.ensures ∙ c.if-is_down.true) refl

pub returns-clause-answers : goal.returns-clause-answers
returns-clause-answers g c =
    let v = on_disk c.self.inside.tables (gates_of c.self.inside.log) c.self.inside.crashed in
    let up = ap is_down c.self.view_is ∙ sym c.is_down.ensures ∙ c.if-is_down.false in
    let kinds = kinds_of g.C.Crdt.laws in
    let codec = codec_of g.C.Crdt.spells in
    opened_rest kinds codec g.D.Disk.state Anything (λ e. e ≡ Reported c.report.result) v c.args.self.now c.self.view_is (reported_on kinds codec g.D.Disk.state v c.self.invariant up c.report.result c.report.ensures)
