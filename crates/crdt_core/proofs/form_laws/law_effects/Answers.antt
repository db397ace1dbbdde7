use Rattle.field_codec.proofs.Forms.{prefix_free}
use Rattle.crdt_core.proofs.form_laws.law_effects.Goals as goal

pub returns : goal.returns
returns g c = let spells = g.C.Crdt.spells in record { form = spells.form; named = g.C.Crdt.named; apart = λ k h. prefix_free _ _ _ _ (spells.form k h) }
