use Rattle.std.proofs.Common.{subst, true}
use Rattle.crdt_core.specs.KindsOf.{kinds_of}
use Rattle.partition_log.specs.Codec.{codec_of}
use Rattle.partition_log.specs.Gates.{gates_of}
use Rattle.partition_core.specs.Moments.{Crashes}
use Rattle.partition_core.proofs.Logged.{on_disk, crashes}
use Rattle.partition_core.proofs.durable.DurablePartition.crash.Goals as goal

pub returns-clause-steps : goal.returns-clause-steps
returns-clause-steps g c =
    let v = on_disk c.self.inside.tables (gates_of c.self.inside.log) c.self.inside.crashed in
    subst (λ x. Crashes (kinds_of g.C.Crdt.laws) (codec_of g.C.Crdt.spells) g.D.Disk.state x (on_disk c.self.inside.tables (gates_of c.self.inside.log) true)) c.self.view_is (crashes (kinds_of g.C.Crdt.laws) (codec_of g.C.Crdt.spells) g.D.Disk.state v)
