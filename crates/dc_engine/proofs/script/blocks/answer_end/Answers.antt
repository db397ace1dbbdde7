use Rattle.std.proofs.Common.{sym, ◌∙◌}
use Rattle.dc_engine.proofs.bytes.Written.{on_err, ends_none, ends_line, ends_front}
use Rattle.dc_engine.proofs.script.blocks.answer_end.Goals as goal

pub returns-then-is_empty-clause-ok : goal.returns-then-is_empty-clause-ok
returns-then-is_empty-clause-ok g c = ends_none g.R.Cutter.Cutter.framing g.R.Responder.reached _ _ _ (sym c.is_empty.ensures ∙ c.if-is_empty.true)

pub returns-clause-ok : goal.returns-clause-ok
returns-clause-ok g c =
    let line = rw c.as_slice.ensures.value at (rw c.in_ok-answer.was at c.answer.ensures.ok) in
    let bytes = rw c.deref.ensures.value at (rw c.in_ok-write_all.was at c.write_all.ensures.bytes) in
    ends_line g.R.Cutter.Cutter.framing g.R.Responder.reached _ _ _ _ _ _ _ (sym c.is_empty.ensures ∙ c.if-is_empty.false) line c.clear.ensures.items bytes

pub returns-in_err-write_all-clause-err : goal.returns-in_err-write_all-clause-err
returns-in_err-write_all-clause-err g c =
    let line = rw c.as_slice.ensures.value at (rw c.in_ok-answer.was at c.answer.ensures.ok) in
    let front = rw c.deref.ensures.value at c.write_all.ensures.front in
    on_err _ _ (ends_front g.R.Cutter.Cutter.framing g.R.Responder.reached _ _ _ _ _ _ _ (sym c.is_empty.ensures ∙ c.if-is_empty.false) line c.clear.ensures.items front)
