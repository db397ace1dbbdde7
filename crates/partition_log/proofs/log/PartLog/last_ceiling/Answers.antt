use Rattle.std.proofs.Common.{ap, ◌∙◌}
use Rattle.std.specs.Prelude.{map}
use Rattle.log_records.specs.Leases.{latest}
use Rattle.log_records.proofs.Leases.{lease_told}
use Rattle.partition_log.specs.Codec.{codec_of}
use Rattle.partition_log.proofs.Leases.{latest_read}
use Rattle.partition_log.proofs.log.PartLog.last_ceiling.Goals as goal

pub returns : goal.returns
returns g c = λ log read. c.last_ceiling.ensures ∙ ap (λ l. latest 0 (map (λ item. item.1) l)) c.payloads.ensures.read
    ∙ latest_read (codec_of g.C.Crdt.spells) (lease_told g.C.Crdt.has g.C.Crdt.is_of g.C.Crdt.is_spelled g.C.Crdt.spelling) _ log read
