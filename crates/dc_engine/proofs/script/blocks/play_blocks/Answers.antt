use Rattle.std.proofs.Common.{◌≡◌, arith}
use Rattle.dc_engine.proofs.commands.Making.{unchanged_both, rose_later}
use Rattle.dc_engine.proofs.bytes.Moves.{err_as}
use Rattle.dc_engine.proofs.bytes.Progress.{goes_on_end, goes_on_more, front_none, room_for}
use Rattle.dc_engine.proofs.script.blocks.play_blocks.Goals as goal

pub returns-in-Ok-eq0-clause-finished : goal.returns-in-Ok-eq0-clause-finished
returns-in-Ok-eq0-clause-finished g c =
    let on = rw c.in-Ok-eq0.is at (c.play_block.ensures.goes_on c.args.size c.args.most _ _ (omega arith) c.loop-room.invariant.progress) in
    goes_on_end g.R.Cutter.Cutter.framing c.args.most g.R.Responder.reached g.R.Responder.lacks c.args.size _ _ _ _ _ _ _ _ on c.in-Ok-eq0.field-0-test

pub overflow_sub-room : goal.overflow_sub-room
overflow_sub-room g c =
    let on = rw c.in-Ok-play_block.is at (c.play_block.ensures.goes_on c.args.size c.args.most _ _ (omega arith) c.loop-room.invariant.progress) in
    room_for g.R.Cutter.Cutter.framing c.args.most g.R.Responder.reached g.R.Responder.lacks c.args.size c.play_block.new.responder (g.S.Source.left c.args.source.now) (g.S.Source.left c.play_block.new.source) (g.K.Sink.held c.args.sink.now) (g.K.Sink.held c.play_block.new.sink) c.play_block.new.buffers.begun _ _ on

pub returns-in-Err-clause-finished : goal.returns-in-Err-clause-finished
returns-in-Err-clause-finished g c = front_none g.R.Cutter.Cutter.framing c.args.most g.R.Responder.reached c.args.size c.args.responder.now _ _ c.requires.fresh

pub loop-room-preserved : goal.loop-room-preserved
loop-room-preserved g c =
    let on = rw c.in-Ok-play_block.is at (c.play_block.ensures.goes_on c.args.size c.args.most _ _ (omega arith) c.loop-room.invariant.progress) in
    record {
      read = omega (arith, c.loop-room.invariant.read, c.play_block.ensures.read_later);
      wrote = omega (arith, c.loop-room.invariant.wrote, c.play_block.ensures.write_later);
      progress = goes_on_more g.R.Cutter.Cutter.framing c.args.most g.R.Responder.reached g.R.Responder.lacks c.args.size _ _ _ _ _ _ _ _ on c.in-Ok-play_block.count-test.1;
      held = c.play_block.ensures.held;
      counted = omega (arith, c.loop-room.invariant.counted, c.play_block.ensures.disks_later);
      same = unchanged_both _ _ _ c.loop-room.invariant.same (rw c.in-Ok-play_block.is at c.play_block.ensures.same);
      sure = λ s. (c.play_block.ensures.sure (c.loop-room.invariant.sure s)).0;
    }

pub returns-in-Err-play_block-clause-finished : goal.returns-in-Err-play_block-clause-finished
returns-in-Err-play_block-clause-finished g c = rw c.in-Err-play_block.is at (c.play_block.ensures.goes_on c.args.size c.args.most _ _ (omega arith) c.loop-room.invariant.progress)

pub returns-clause-finished : goal.returns-clause-finished
returns-clause-finished g c =
    let none : c.loop-room.room ≡ 0 = omega (arith, c.loop-room-test.false) in
    c.play_end.ensures.finished c.args.size c.args.most _ _ (rw none at c.loop-room.invariant.progress)

pub returns-in-Ok-eq0-clause-same : goal.returns-in-Ok-eq0-clause-same
returns-in-Ok-eq0-clause-same g c = unchanged_both _ _ _ c.loop-room.invariant.same (rw c.in-Ok-eq0.is at c.play_block.ensures.same)

pub returns-in-Err-play_block-clause-disks_cause : goal.returns-in-Err-play_block-clause-disks_cause
returns-in-Err-play_block-clause-disks_cause g c =
    let cause = rw c.in-Err-play_block.is at c.play_block.ensures.disks_cause in
    λ e. rose_later _ _ _ c.loop-room.invariant.counted (cause (err_as _ _ e))

pub returns-clause-disks_cause : goal.returns-clause-disks_cause
returns-clause-disks_cause g c = λ e. rose_later _ _ _ c.loop-room.invariant.counted (c.play_end.ensures.disks_cause e)
