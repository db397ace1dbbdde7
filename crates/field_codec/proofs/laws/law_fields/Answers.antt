use Rattle.field_codec.specs.FormLaws.{number_form, width1, width2, width4, width8, text_form}
use Rattle.field_codec.proofs.Forms.{prefix_free}
use Rattle.field_codec.proofs.laws.law_fields.Goals as goal

pub returns : goal.returns
returns c = record {
  number8 = number_form 1 width1;
  number16 = number_form 2 width2;
  number32 = number_form 4 width4;
  number64 = number_form 8 width8;
  texts = text_form;
  apart8 = prefix_free _ _ _ _ (number_form 1 width1);
  apart16 = prefix_free _ _ _ _ (number_form 2 width2);
  apart32 = prefix_free _ _ _ _ (number_form 4 width4);
  apart64 = prefix_free _ _ _ _ (number_form 8 width8);
  apart = prefix_free _ _ _ _ text_form;
}
