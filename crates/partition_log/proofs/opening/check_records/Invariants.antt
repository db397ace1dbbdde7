use Rattle.partition_log.specs.Codec.{codec_of}
use Rattle.partition_log.proofs.Reading.{SoFar}
use Rattle.partition_log.proofs.opening.check_records.Given as goal

abbrev pub invariant-loop-place : goal.invariant-loop-place
invariant-loop-place g l = SoFar (codec_of g.C.Crdt.spells) l.fn.payloads l.place-iterator
