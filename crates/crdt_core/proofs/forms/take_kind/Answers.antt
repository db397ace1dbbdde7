use Rattle.std.proofs.Common.{sym}
use Rattle.std.proofs.lemmas.Result.{err_from_is_err_and}
use Rattle.crdt_core.specs.SpelledLaws.{kind_read, kind_refused, kind_fails}
use Rattle.crdt_core.proofs.forms.take_kind.Goals as goal

pub returns-in_err-code-clause-answer : goal.returns-in_err-code-clause-answer
returns-in_err-code-clause-answer c =
    let p = err_from_is_err_and c.from_residual.result c.from_residual.ensures.1 in
    rw (p.1, p.2) (sym (kind_fails c.args.bytes.now c.args.at c.in_err-code.field-0.0 (sym c.in_err-code.ensures.answer)))

pub returns-in-Some-clause-answer : goal.returns-in-Some-clause-answer
returns-in-Some-clause-answer c = sym (kind_read c.args.bytes.now c.args.at c.in_ok-code.code c.in_ok-code.end c.in-Some.kind (sym c.in_ok-code.ensures.answer) c.in-Some.ensures.some)

pub returns-in-None-clause-answer : goal.returns-in-None-clause-answer
returns-in-None-clause-answer c = sym (kind_refused c.args.bytes.now c.args.at c.in_ok-code.code c.in_ok-code.end (sym c.in_ok-code.ensures.answer) c.in-None.ensures.none)
