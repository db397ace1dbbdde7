use Rattle.field_codec.specs.FormLaws.{list_form}
use Rattle.field_codec.proofs.Forms.{prefix_free}
use Rattle.field_codec.proofs.laws.law_list.Goals as goal

pub returns : goal.returns
returns g c =
    let F = g.F.Form in
    let member = g.met.F.Form.laws c.args.form.now in
    let law = list_form (F.follows c.args.form.now) (F.fits c.args.form.now) (F.is_spelled c.args.form.now) (F.spelling c.args.form.now) (F.reading c.args.form.now) member in
    record {
      form = law;
      apart = prefix_free _ _ _ _ law;
    }
