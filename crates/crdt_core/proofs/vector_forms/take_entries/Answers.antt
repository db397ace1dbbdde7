use Rattle.std.proofs.Common.{◌+◌, sym, ◌∙◌}
use Rattle.std.proofs.lemmas.Result.{err_from_is_err_and}
use Rattle.site_vector.specs.VectorLaws.{length_replaced}
use Rattle.crdt_core.proofs.VectorSteps.{entry_read, entry_failed, entries_done}
use Rattle.crdt_core.proofs.vector_forms.take_entries.Goals as goal

pub returns-in_err-n-clause-answer : goal.returns-in_err-n-clause-answer
returns-in_err-n-clause-answer c =
    let p = err_from_is_err_and c.from_residual.result c.from_residual.ensures.1 in
    rw (p.1, p.2) (sym (entry_failed c.loop-i.v c.args.width c.loop-i.i c.args.bytes.now c.loop-i.place c.in_err-n.field-0.0 _ c.loop-i-test.true (sym c.in_err-n.ensures.answer) c.loop-i.invariant.answer))

pub loop-i-preserved : goal.loop-i-preserved
loop-i-preserved c = record {
  width = rw c.with-v.ensures (length_replaced c.loop-i.v (c.loop-i.i + 1) c.in_ok-n.n ∙ c.loop-i.invariant.width);
  within = c.in_ok-n.ensures.within;
  answer = entry_read c.loop-i.v c.with-v.result c.args.width c.loop-i.i c.args.bytes.now c.loop-i.place c.in_ok-n.n c.in_ok-n.end _ c.loop-i.invariant.width c.loop-i-test.true c.with-v.ensures (sym c.in_ok-n.ensures.answer) c.loop-i.invariant.answer;
}

pub returns-clause-answer : goal.returns-clause-answer
returns-clause-answer c = sym (entries_done c.loop-i.v c.args.width c.loop-i.i c.args.bytes.now c.loop-i.place _ c.loop-i.invariant.width c.loop-i-test.false c.loop-i.invariant.answer)
