use Rattle.std.proofs.Common.{sym, arith}
use Rattle.crdt_core.specs.SpelledLaws.{tx_form}
use Rattle.kind_table.proofs.Fits.{read_fits}
use Rattle.kind_table.proofs.forms.tx_again.Goals as goal

pub put_tx-requires : goal.put_tx-requires
put_tx-requires c =
    read_fits tx_form c.args.bytes.now c.args.at c.in_ok-tx.tx c.in_ok-tx.end (λ i. omega (arith, c.type_inv.bytes i)) (sym c.in_ok-tx.ensures.answer)
