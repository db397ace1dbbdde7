use Rattle.partition_log.specs.Codec.{codec_of}
use Rattle.partition_log.proofs.Reopening.{front_left, front_at_rest}
use Rattle.partition_log.proofs.laws.law_fronts.Goals as goal

pub returns : goal.returns
returns g c = let codec = codec_of g.C.Crdt.spells in record { at_rest = front_at_rest codec g.D.Disk.state; left = front_left codec }
