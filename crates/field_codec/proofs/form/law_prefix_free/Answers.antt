use Rattle.field_codec.proofs.Forms.{prefix_free}
use Rattle.field_codec.proofs.form.law_prefix_free.Goals as goal

pub returns : goal.returns
returns g c = prefix_free _ _ _ _ (g.met.F.Form.laws c.args.form.now)
