use Rattle.world_model.specs.lines.Lines.{wish_of}
use Rattle.site_partitions.proofs.Asking.{begin_width}
use Rattle.partition_lock.proofs.calls.clock.BeginPartitionCall.make.Goals as goal

pub begin-requires : goal.begin-requires
begin-requires g c = begin_width _ _ _ _ _ c.args.self.now.who.now (wish_of c.args.self.now.dependency.now c.args.self.now.mode) c.requires.asked.3

pub returns-clause-called : goal.returns-clause-called
returns-clause-called g c = c.begin.ensures.answers c.args.self.now.who.now
