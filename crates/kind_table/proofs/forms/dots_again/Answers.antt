use Rattle.std.proofs.Common.{arith}
use Rattle.crdt_core.specs.Spelled.{ascend, are_dots}
use Rattle.crdt_core.specs.SpelledLaws.{dots_form}
use Rattle.kind_table.proofs.Fits.{read_fits, right}
use Rattle.kind_table.proofs.forms.dots_again.Goals as goal

pub put_dots-requires : goal.put_dots-requires
put_dots-requires c =
    right (ascend c.in_ok-dots.dots) (are_dots c.in_ok-dots.dots) (read_fits dots_form c.args.bytes.now c.args.at c.in_ok-dots.dots c.in_ok-dots.end (λ i. omega (arith, c.type_inv.bytes i)) c.in_ok-dots.ensures.answer)
