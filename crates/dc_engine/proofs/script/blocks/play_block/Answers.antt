use Rattle.std.specs.Prelude.{Err}
use Rattle.std.proofs.Common.{◌≡◌, ◌∙◌, ap, length, take, arith}
use Rattle.std.proofs.lemmas.List.{length-take-le}
use Rattle.dc_engine.proofs.bytes.Progress.{progress_end, progress_fault, front_end, front_block, before_end, before_block, stopped_read, stopped_front, goes_on}
use Rattle.dc_engine.proofs.script.blocks.play_block.Goals as goal

pub returns-in-Err-clause-goes_on : goal.returns-in-Err-clause-goes_on
returns-in-Err-clause-goes_on g c =
    let cause = rw c.in-Err.is at c.read_block.ensures.cause in
    let untouched = rw c.in-Err.is at c.read_block.ensures.untouched in
    λ size most input before le p. stopped_read g.R.Cutter.Cutter.framing most g.R.Responder.reached g.R.Responder.lacks size c.in-Err.fault input (g.S.Source.left c.read_block.new.source) before (g.K.Sink.held c.args.sink.now) cause.0
    (progress_fault g.R.Cutter.Cutter.framing most g.R.Responder.reached _ input (g.S.Source.left c.args.source.now) (g.S.Source.left c.read_block.new.source) before (g.K.Sink.held c.args.sink.now) _ c.args.room p untouched)

pub returns-in-Ok-answer_end-clause-goes_on : goal.returns-in-Ok-answer_end-clause-goes_on
returns-in-Ok-answer_end-clause-goes_on g c =
    let bytes = rw c.if-count-eq0.true at (rw c.in-Ok.is at c.read_block.ensures.bytes) in
    let end = rw c.in-Ok.is at c.read_block.ensures.end in
    let ends = rw c.in-Ok-answer_end.is at c.answer_end.ensures.ok in
    λ size most input before le p. progress_end g.R.Cutter.Cutter.framing most g.R.Responder.reached _ c.answer_end.new.responder input (g.S.Source.left c.args.source.now) (g.S.Source.left c.read_block.new.source) before (g.K.Sink.held c.args.sink.now) (g.K.Sink.held c.answer_end.new.sink) _ c.args.room p bytes (end c.if-count-eq0.true c.requires.some c.requires.size) ends

pub returns-in-Err-answer_end-clause-goes_on : goal.returns-in-Err-answer_end-clause-goes_on
returns-in-Err-answer_end-clause-goes_on g c =
    let bytes = rw c.if-count-eq0.true at (rw c.in-Ok.is at c.read_block.ensures.bytes) in
    let end = rw c.in-Ok.is at c.read_block.ensures.end in
    let kinds = rw c.in-Err-answer_end.is at c.answer_end.ensures.kinds in
    let ends = rw c.in-Err-answer_end.is at c.answer_end.ensures.err in
    λ size most input before le p. stopped_front g.R.Cutter.Cutter.framing most g.R.Responder.reached g.R.Responder.lacks size c.in-Err-answer_end.fault input (g.S.Source.left c.read_block.new.source) before (g.K.Sink.held c.answer_end.new.sink) kinds
    (front_end g.R.Cutter.Cutter.framing most g.R.Responder.reached size _ input (g.S.Source.left c.args.source.now) (g.S.Source.left c.read_block.new.source) before (g.K.Sink.held c.args.sink.now) (g.K.Sink.held c.answer_end.new.sink) _ c.args.room p bytes (end c.if-count-eq0.true c.requires.some c.requires.size) ends)
    (λ e. before_end g.R.Cutter.Cutter.framing most g.R.Responder.reached g.R.Responder.lacks size _ input (g.S.Source.left c.args.source.now) (g.S.Source.left c.read_block.new.source) before (g.K.Sink.held c.args.sink.now) (g.K.Sink.held c.answer_end.new.sink) _ c.args.room p bytes (end c.if-count-eq0.true c.requires.some c.requires.size) (c.answer_end.ensures.before (c.in-Err-answer_end.is ∙ ap Err e)))

pub returns-in-Ok-answer_block-clause-goes_on : goal.returns-in-Ok-answer_block-clause-goes_on
returns-in-Ok-answer_block-clause-goes_on g c =
    let bytes = rw c.in-Ok.is at c.read_block.ensures.bytes in
    let within = rw c.in-Ok.is at c.read_block.ensures.within in
    let room = rw c.in-Ok.is at c.read_block.ensures.in_room in
    let writes = rw c.in-Ok-answer_block.is at c.answer_block.ensures.ok in
    λ size most input before le p. goes_on g.R.Cutter.Cutter.framing most g.R.Responder.reached g.R.Responder.lacks size c.args.responder.now c.answer_block.new.responder input (g.S.Source.left c.args.source.now) (g.S.Source.left c.read_block.new.source) before (g.K.Sink.held c.args.sink.now) (g.K.Sink.held c.answer_block.new.sink) c.args.buffers.now.begun c.answer_block.new.begun c.read_block.new.block c.args.room c.in-Ok.count p bytes (let lengths = c.read_block.auto.block in omega (arith, within)) room c.if-count-eq0.false writes

pub returns-in-Err-answer_block-clause-goes_on : goal.returns-in-Err-answer_block-clause-goes_on
returns-in-Err-answer_block-clause-goes_on g c =
    let bytes = rw c.in-Ok.is at c.read_block.ensures.bytes in
    let within = rw c.in-Ok.is at c.read_block.ensures.within in
    let room = rw c.in-Ok.is at c.read_block.ensures.in_room in
    let kinds = rw c.in-Err-answer_block.is at c.answer_block.ensures.kinds in
    let writes = rw c.in-Err-answer_block.is at c.answer_block.ensures.err in
    let counted : length (take c.in-Ok.count c.read_block.new.block) ≡ c.in-Ok.count = length-take-le c.in-Ok.count c.read_block.new.block (let lengths = c.read_block.auto.block in omega (arith, within)) in
    λ size most input before le p. stopped_front g.R.Cutter.Cutter.framing most g.R.Responder.reached g.R.Responder.lacks size c.in-Err-answer_block.fault input (g.S.Source.left c.read_block.new.source) before (g.K.Sink.held c.answer_block.new.sink) kinds
    (front_block g.R.Cutter.Cutter.framing most g.R.Responder.reached size _ input (g.S.Source.left c.args.source.now) (g.S.Source.left c.read_block.new.source) before (g.K.Sink.held c.args.sink.now) (g.K.Sink.held c.answer_block.new.sink) _ (take c.in-Ok.count c.read_block.new.block) c.args.room (omega (arith, counted, within, le)) (omega (arith, counted, room)) p bytes writes)
    (λ e. before_block g.R.Cutter.Cutter.framing most g.R.Responder.reached g.R.Responder.lacks size _ input (g.S.Source.left c.args.source.now) (g.S.Source.left c.read_block.new.source) before (g.K.Sink.held c.args.sink.now) (g.K.Sink.held c.answer_block.new.sink) _ (take c.in-Ok.count c.read_block.new.block) c.args.room (omega (arith, counted, within, le)) (omega (arith, counted, room)) p bytes (c.answer_block.ensures.before (c.in-Err-answer_block.is ∙ ap Err e)))
