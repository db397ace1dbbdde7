use Rattle.std.proofs.Common.{ap, ◌∙◌}
use Rattle.std.specs.Prelude.{Err}
use Rattle.dc_engine.proofs.bytes.Written.{on_err, writes_front, writes_some, writes_before}
use Rattle.dc_engine.proofs.script.blocks.answer_block.Goals as goal

pub returns-in_err-write_all-in-Ok-clause-err : goal.returns-in_err-write_all-in-Ok-clause-err
returns-in_err-write_all-in-Ok-clause-err g c =
    let moves = rw c.in-Ok.is at c.answer_lines.ensures.ok in
    let front = rw c.deref.ensures.value at c.write_all.ensures.front in
    on_err _ _ (writes_front g.R.Cutter.Cutter.framing g.R.Responder.reached _ _ _ _ _ _ _ _ _ moves c.clear.ensures.items front)

pub returns-in_err-write_all-in-Err-NoDisk-clause-err : goal.returns-in_err-write_all-in-Err-NoDisk-clause-err
returns-in_err-write_all-in-Err-NoDisk-clause-err g c =
    let moves = rw c.in-Err-NoDisk.is at c.answer_lines.ensures.err in
    let front = rw c.deref-in-Err-NoDisk.ensures.value at c.write_all-in-Err-NoDisk.ensures.front in
    on_err _ _ (writes_some g.R.Cutter.Cutter.framing g.R.Responder.reached _ _ _ _ _ _ _ moves c.clear.ensures.items front)

pub returns-in_ok-write_all-in-Err-NoDisk-clause-err : goal.returns-in_ok-write_all-in-Err-NoDisk-clause-err
returns-in_ok-write_all-in-Err-NoDisk-clause-err g c =
    let moves = rw c.in-Err-NoDisk.is at c.answer_lines.ensures.err in
    let front = rw c.deref-in-Err-NoDisk.ensures.value at c.write_all-in-Err-NoDisk.ensures.front in
    writes_some g.R.Cutter.Cutter.framing g.R.Responder.reached _ _ _ _ _ _ _ moves c.clear.ensures.items front

pub returns-in_ok-write_all-in-Err-NoDisk-clause-before : goal.returns-in_ok-write_all-in-Err-NoDisk-clause-before
returns-in_ok-write_all-in-Err-NoDisk-clause-before g c =
    let bytes = rw c.deref-in-Err-NoDisk.ensures.value at (rw c.in_ok-write_all-in-Err-NoDisk.was at c.write_all-in-Err-NoDisk.ensures.bytes) in
    λ e. writes_before g.R.Cutter.Cutter.framing g.R.Responder.reached g.R.Responder.lacks _ _ _ _ _ _ _ (c.answer_lines.ensures.before (c.in-Err-NoDisk.is ∙ ap Err c.in-Err-NoDisk.field-0-is)) c.clear.ensures.items bytes

pub returns-in-Err-NoMemory-clause-err : goal.returns-in-Err-NoMemory-clause-err
returns-in-Err-NoMemory-clause-err g c =
    let moves = rw c.in-Err-NoMemory.is at c.answer_lines.ensures.err in
    let front = rw c.deref-in-Err-NoMemory.ensures.value at c.write_all-written.ensures.front in
    writes_some g.R.Cutter.Cutter.framing g.R.Responder.reached _ _ _ _ _ _ _ moves c.clear.ensures.items front
