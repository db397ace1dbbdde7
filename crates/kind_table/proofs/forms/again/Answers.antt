use Rattle.std.proofs.Common.{arith}
use Rattle.kind_table.proofs.Fits.{read_fits}
use Rattle.kind_table.proofs.forms.again.Goals as goal

pub put_whole-requires : goal.put_whole-requires
put_whole-requires g c =
    read_fits (g.met.F.Form.laws c.args.form.now) c.args.bytes.now c.args.at c.in_ok-value.value c.in_ok-value.end (λ i. omega (arith, c.type_inv.bytes i)) c.in_ok-value.ensures.answer
