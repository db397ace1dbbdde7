use Rattle.partition_log.specs.Codec.{codec_of}
use Rattle.partition_log.proofs.Sizes.{gate_of_records, size_of_grown}
use Rattle.partition_log.proofs.laws.law_sizes.Goals as goal

pub returns : goal.returns
returns g c = let codec = codec_of g.C.Crdt.spells in record { gate = gate_of_records codec g.D.Disk.state; grown = size_of_grown codec }
