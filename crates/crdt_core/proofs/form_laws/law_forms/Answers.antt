use Rattle.field_codec.proofs.Forms.{prefix_free}
use Rattle.crdt_core.specs.SpelledLaws.{tx_form, dot_form, dots_form, vector_form, kind_form, object_form}
use Rattle.crdt_core.proofs.form_laws.law_forms.Goals as goal

pub returns : goal.returns
returns c = record {
  transactions = tx_form;
  updates = dot_form;
  sets = dots_form;
  vectors = vector_form;
  kinds = kind_form;
  objects = object_form;
  transactions_apart = prefix_free _ _ _ _ tx_form;
  updates_apart = prefix_free _ _ _ _ dot_form;
  sets_apart = prefix_free _ _ _ _ dots_form;
  vectors_apart = prefix_free _ _ _ _ vector_form;
  kinds_apart = prefix_free _ _ _ _ kind_form;
  objects_apart = λ has. prefix_free _ _ _ _ (object_form has);
}
