use Rattle.std.proofs.Common.{◌∙◌, ◌++◌, ◌∷◌, []}
use Rattle.crdt_core.specs.declared.record.Record.TheVariants.{Lease}
use Rattle.partition_log.specs.Codec.{codec_of}
use Rattle.partition_log.specs.Gates.{gates_of, leases}
use Rattle.partition_log.proofs.Unchanged.{refused_memory}
use Rattle.partition_log.proofs.log.PartLog.prepare.Goals as goal

pub returns-in_default : goal.returns-in_default
returns-in_default g c = refused_memory _ (codec_of g.C.Crdt.spells) g.D.Disk.state (gates_of c.args.self.now) c.requires.ready (leases c.args.ceil ++ c.args.prepare.now ∷ [])

pub returns-in-None : goal.returns-in-None
returns-in-None g c = rw c.in-None.is (c.append_one.ensures.appends c.args.prepare.now c.in-Ok.ensures.spelled (c.deref.ensures.value ∙ c.in-Ok.ensures.bytes))

pub returns : goal.returns
returns g c =
    rw c.in-Some.is (c.append_two.ensures.appends (Lease c.in-Some.ceil) c.args.prepare.now c.lease-short.ensures.spelled (c.as_slice.ensures ∙ c.lease-short.ensures.bytes)
    c.in-Ok.ensures.spelled (c.deref-in-Some.ensures.value ∙ c.in-Ok.ensures.bytes))
