use Rattle.log_records.specs.Records.{record_form}
use Rattle.log_records.proofs.Wholes.{spelled_whole}
use Rattle.partition_log.specs.Codec.{codec_of}
use Rattle.partition_log.proofs.Damaged.{one_log_of, one_place_of, never_both_of}
use Rattle.partition_log.proofs.laws.law_part_log.Goals as goal

pub returns : goal.returns
returns g c =
    let codec = codec_of g.C.Crdt.spells in
    let reads = spelled_whole (record_form g.C.Crdt.spells) in
    record { one_log = one_log_of codec reads; one_place = one_place_of codec reads; not_both = never_both_of codec reads }
