use Rattle.std.proofs.Common.{arith, length, drop, ◌-◌, length-drop}
use Rattle.std.proofs.lemmas.List.{take_all}
use Rattle.dc_engine.proofs.bytes.Written.{written_more}
use Rattle.dc_engine.proofs.script.blocks.write_all.Goals as goal

pub loop-done-preserved : goal.loop-done-preserved
loop-done-preserved g c =
    let bytes = c.args.bytes.now in
    let done = c.loop-done.done in
    let written = rw (take_all (length bytes - done) (drop done bytes) (omega (arith, length-drop done bytes))) at c.in-Ok.ensures.bytes in
    record {
      within = omega (arith, c.in-Ok.ensures.bound, length-drop done bytes);
      later = omega (arith, c.loop-done.invariant.later, c.write.ensures.cause.later);
      written = written_more _ _ _ bytes done c.in-Ok.count c.loop-done.invariant.written written;
    }
