use Rattle.std.proofs.Common.{◌∙◌, false}
use Rattle.partition_log.specs.Codec.{codec_of}
use Rattle.partition_log.specs.Gates.{gates_of}
use Rattle.partition_core.specs.Recovered.{resumed}
use Rattle.partition_core.proofs.Durably.{up_stands}
use Rattle.partition_core.proofs.Logged.{on_disk}
use Rattle.partition_core.proofs.restart.wake.Goals as goal

pub returns-in-Ok-clause-stands : goal.returns-in-Ok-clause-stands
returns-in-Ok-clause-stands g c =
    let s = c.in-Ok.ensures.stands in
    let now = on_disk c.in-Ok.tables (gates_of c.forget_read.new.self) false in
    (s.0, s.1, s.2, (s.3.0, s.3.1, λ has rises. up_stands (codec_of g.C.Crdt.spells) g.D.Disk.state now (resumed c.args.sites c.args.parts s.3.0 s.0) (c.forget_read.ensures.same.2 ∙ c.requires.open) (record { tables = s.3.2 rises; log = c.forget_read.ensures.has s.0 has; rises = rises })))
