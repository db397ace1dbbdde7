use Rattle.field_codec.proofs.Forms.{prefix_free}
use Rattle.log_records.specs.Records.{record_form}
use Rattle.log_records.proofs.Wholes.{reads_whole}
use Rattle.log_records.proofs.laws.law_records.Goals as goal

pub returns : goal.returns
returns g c =
    let form = record_form g.C.Crdt.spells in
    record { form = form; apart = prefix_free _ _ _ _ form; whole = reads_whole form }
