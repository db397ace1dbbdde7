use Rattle.field_codec.proofs.Forms.{prefix_free}
use Rattle.log_records.specs.Messages.{message_form}
use Rattle.log_records.proofs.Streams.{same_order}
use Rattle.log_records.proofs.laws.law_messages.Goals as goal

pub returns : goal.returns
returns g c =
    let spells = g.C.Crdt.spells in
    record { form = message_form spells; apart = prefix_free _ _ _ _ (message_form spells); order = same_order }
