use Rattle.std.proofs.Common.{◌≤◌, ◌-◌, length, take}
use Rattle.std.specs.Io.KnownBytes.{Appends}
use Rattle.dc_engine.proofs.script.blocks.write_all.Given as goal

abbrev pub invariant-loop-done : goal.invariant-loop-done
invariant-loop-done g l = let K = g.K.Sink in record {
  within : l.done ≤ length l.bytes;
  later : K.faults l.fn.sink ≤ K.faults l.sink;
  written : Appends (K.held l.fn.sink) (K.held l.sink) (take l.done l.bytes);
}

abbrev pub decreases-loop-done : goal.decreases-loop-done
decreases-loop-done g l = length l.bytes - l.done
