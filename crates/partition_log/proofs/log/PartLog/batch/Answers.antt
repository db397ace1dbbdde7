use Rattle.std.proofs.Common.{◌∙◌, ◌∷◌, []}
use Rattle.crdt_core.specs.declared.record.Record.TheVariants.{Batch}
use Rattle.partition_log.specs.Codec.{codec_of}
use Rattle.partition_log.specs.Gates.{gates_of}
use Rattle.partition_log.proofs.Unchanged.{refused_memory}
use Rattle.partition_log.proofs.log.PartLog.batch.Goals as goal

pub returns-in_default : goal.returns-in_default
returns-in_default g c = refused_memory _ (codec_of g.C.Crdt.spells) g.D.Disk.state (gates_of c.args.self.now) c.requires.ready (Batch c.args.message.now ∷ [])

pub returns : goal.returns
returns g c = c.append_one.ensures.appends (Batch c.args.message.now) c.in-Ok.ensures.spelled (c.deref.ensures.value ∙ c.in-Ok.ensures.bytes)
