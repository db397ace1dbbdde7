use Rattle.std.proofs.Common.{arith}
use Rattle.log_records.specs.Parts.{parts_form}
use Rattle.log_records.proofs.Wholes.{read_fits}
use Rattle.log_records.proofs.message_form.take_message.Goals as goal

pub returns-clause-fit : goal.returns-clause-fit
returns-clause-fit g c =
    read_fits (parts_form g.C.Crdt.spells c.in_ok-head.head.from) c.args.bytes.now c.in_ok-head.parts_at c.in_ok-parts.parts c.in_ok-parts.end (λ i. omega (arith, c.type_inv.bytes i)) c.in_ok-head.ensures.within c.in_ok-parts.ensures.answer
