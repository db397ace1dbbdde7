use Rattle.std.proofs.Common.{◌∙◌, ap, sym, subst}
use Rattle.partition_log.specs.Codec.{codec_of}
use Rattle.partition_log.specs.Gates.{gates_of}
use Rattle.partition_core.specs.Durable.{StandsOn, is_down}
use Rattle.partition_core.proofs.Durably.{stands_up}
use Rattle.partition_core.proofs.Logged.{on_disk, tells_down}
use Rattle.partition_core.proofs.durable.DurablePartition.fate.Goals as goal

pub returns-then-is_down : goal.returns-then-is_down
returns-then-is_down g c = tells_down (codec_of g.C.Crdt.spells) g.D.Disk.state c.args.self.now c.args.tx (sym c.is_down.ensures ∙ c.if-is_down.true)

pub returns : goal.returns
returns g c = λ p h.
    let v = on_disk c.self.inside.tables (gates_of c.self.inside.log) c.self.inside.crashed in
    let codec = codec_of g.C.Crdt.spells in
    let up = ap is_down c.self.view_is ∙ sym c.is_down.ensures ∙ c.if-is_down.false in
    let u = stands_up codec g.D.Disk.state v p up (subst (λ x. StandsOn codec g.D.Disk.state x p) (sym c.self.view_is) h) in
    c.fate.ensures p u.tables
