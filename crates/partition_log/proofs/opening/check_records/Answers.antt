use Rattle.partition_log.specs.Codec.{codec_of}
use Rattle.partition_log.proofs.Reading.{went_on}
use Rattle.partition_log.proofs.opening.check_records.Goals as goal

pub loop-place-preserved : goal.loop-place-preserved
loop-place-preserved g c =
    let read = c.in_ok-check_record.ensures.whole in
    went_on (codec_of g.C.Crdt.spells) c.args.payloads c.loop-place.place-iterator (c.in-Some.place, c.in-Some.payload.now) c.next.new.self read.0 c.in-Some.ensures.steps read.1 read.2 c.loop-place.invariant
