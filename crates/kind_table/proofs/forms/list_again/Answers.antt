use Rattle.std.proofs.Common.{◌≡◌, true, sym, subst, arith}
use Rattle.field_codec.specs.FormLaws.{list_form}
use Rattle.field_codec.specs.Spelling.{are_members}
use Rattle.kind_table.proofs.Fits.{read_fits}
use Rattle.kind_table.proofs.forms.list_again.Goals as goal

pub put_list-requires : goal.put_list-requires
put_list-requires g c =
    let F = g.F.Form in
    let f = c.args.form.now in
    let form = list_form (F.follows f) (F.fits f) (F.is_spelled f) (F.spelling f) (F.reading f) (g.met.F.Form.laws f) in
    subst (λ l. are_members (F.follows f) (F.fits f) l ≡ true) (sym c.as_slice.ensures) (read_fits form c.args.bytes.now c.args.at c.in_ok-list.list c.in_ok-list.end (λ i. omega (arith, c.type_inv.bytes i)) c.in_ok-list.ensures.answer)
