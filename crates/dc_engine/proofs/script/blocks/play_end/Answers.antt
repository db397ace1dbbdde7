use Rattle.dc_engine.proofs.bytes.Progress.{progress_too_long, progress_end, progress_fault, front_end, before_end, stopped_read, stopped_front}
use Rattle.std.specs.Prelude.{Err}
use Rattle.std.proofs.Common.{◌∙◌, ap, arith}
use Rattle.dc_engine.proofs.script.blocks.play_end.Goals as goal

pub returns-in-Ok-true-clause-finished : goal.returns-in-Ok-true-clause-finished
returns-in-Ok-true-clause-finished g c =
    let more = rw c.in-Ok-true.is at c.has_more.ensures.more in
    let taken = rw c.in-Ok-true.field-0-test at more in
    λ size most input before p. progress_too_long g.R.Cutter.Cutter.framing most g.R.Responder.reached _ input (g.S.Source.left c.args.source.now) (g.S.Source.left c.has_more.new.source) before _ _ 0 p (omega arith) taken

pub returns-in-Ok-clause-finished : goal.returns-in-Ok-clause-finished
returns-in-Ok-clause-finished g c =
    let more = rw c.in-Ok-false.is at c.has_more.ensures.more in
    let taken = rw c.in-Ok-false.field-0-test at more in
    let ends = rw c.in-Ok.is at c.answer_end.ensures.ok in
    λ size most input before p. progress_end g.R.Cutter.Cutter.framing most g.R.Responder.reached _ c.answer_end.new.responder input (g.S.Source.left c.args.source.now) (g.S.Source.left c.has_more.new.source) before (g.K.Sink.held c.args.sink.now) (g.K.Sink.held c.answer_end.new.sink) _ 0 p taken.0 taken.1 ends

pub returns-in-Err-answer_end-clause-finished : goal.returns-in-Err-answer_end-clause-finished
returns-in-Err-answer_end-clause-finished g c =
    let more = rw c.in-Ok-false.is at c.has_more.ensures.more in
    let taken = rw c.in-Ok-false.field-0-test at more in
    let kinds = rw c.in-Err-answer_end.is at c.answer_end.ensures.kinds in
    let ends = rw c.in-Err-answer_end.is at c.answer_end.ensures.err in
    λ size most input before p. stopped_front g.R.Cutter.Cutter.framing most g.R.Responder.reached g.R.Responder.lacks size c.in-Err-answer_end.fault input (g.S.Source.left c.has_more.new.source) before (g.K.Sink.held c.answer_end.new.sink) kinds
    (front_end g.R.Cutter.Cutter.framing most g.R.Responder.reached size _ input (g.S.Source.left c.args.source.now) (g.S.Source.left c.has_more.new.source) before (g.K.Sink.held c.args.sink.now) (g.K.Sink.held c.answer_end.new.sink) _ 0 p taken.0 taken.1 ends)
    (λ e. before_end g.R.Cutter.Cutter.framing most g.R.Responder.reached g.R.Responder.lacks size _ input (g.S.Source.left c.args.source.now) (g.S.Source.left c.has_more.new.source) before (g.K.Sink.held c.args.sink.now) (g.K.Sink.held c.answer_end.new.sink) _ 0 p taken.0 taken.1 (c.answer_end.ensures.before (c.in-Err-answer_end.is ∙ ap Err e)))

pub returns-in-Err-clause-finished : goal.returns-in-Err-clause-finished
returns-in-Err-clause-finished g c =
    let cause = rw c.in-Err.is at c.has_more.ensures.cause in
    let untouched = rw c.in-Err.is at c.has_more.ensures.untouched in
    λ size most input before p. stopped_read g.R.Cutter.Cutter.framing most g.R.Responder.reached g.R.Responder.lacks size c.in-Err.fault input (g.S.Source.left c.has_more.new.source) before (g.K.Sink.held c.args.sink.now) cause.0
    (progress_fault g.R.Cutter.Cutter.framing most g.R.Responder.reached _ input (g.S.Source.left c.args.source.now) (g.S.Source.left c.has_more.new.source) before (g.K.Sink.held c.args.sink.now) _ 0 p untouched)
