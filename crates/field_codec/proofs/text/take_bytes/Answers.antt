use Rattle.std.proofs.Common.{◌∙◌, arith}
use Rattle.field_codec.proofs.Texts.{bytes_ok, bytes_bad}
use Rattle.field_codec.proofs.text.take_bytes.Goals as goal

pub returns-in_ok-text-in-Ok-clause-answer : goal.returns-in_ok-text-in-Ok-clause-answer
returns-in_ok-text-in-Ok-clause-answer c =
    bytes_ok c.args.len c.args.bytes.now c.args.at _ (omega arith) (c.in_ok-text-in-Ok.ensures ∙ c.in-Ok.ensures.cases.0) c.in-Ok.ensures.cases.1

pub returns-in-Err-clause-answer : goal.returns-in-Err-clause-answer
returns-in-Err-clause-answer c = bytes_bad c.args.len c.args.bytes.now c.args.at (omega arith) c.in-Err.ensures.cases.0
