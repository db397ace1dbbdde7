use Rattle.partition_log.specs.Codec.{codec_of}
use Rattle.partition_log.proofs.Opened.{opened_holds}
use Rattle.partition_log.proofs.log.PartLog.open.Goals as goal

pub returns-in-Ok-clause-opened : goal.returns-in-Ok-clause-opened
returns-in-Ok-clause-opened g c = let o = c.in-Ok.ensures.opened in record { payloads = o.0; read = o.1; holds = o.3 }

pub returns-in-Ok-clause-holds : goal.returns-in-Ok-clause-holds
returns-in-Ok-clause-holds g c = opened_holds (codec_of g.C.Crdt.spells) g.D.Disk.state (g.D.Disk.state c.args.disk) c.in-Ok.log (returns-in-Ok-clause-opened g c)
