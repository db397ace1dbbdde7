use Rattle.std.proofs.Common.{◌≤◌, length}
use Rattle.dc_engine.specs.Makers.{IsUnchanged}
use Rattle.dc_engine.proofs.bytes.Moves.{MovesTo}
use Rattle.dc_engine.proofs.script.lines.answer_lines.Given as goal

abbrev pub invariant-loop-line : goal.invariant-loop-line
invariant-loop-line g l = let state = g.R.Maker.Disks.state in record {
  moves : MovesTo g.R.Cutter.Cutter.framing g.R.Responder.reached l.fn.responder l.responder l.block l.rest l.fn.begun l.begun l.fn.out.items l.out.items;
  held : g.R.Responder.holds l.responder l.disks;
  later : (state l.fn.disks).faults ≤ (state l.disks).faults;
  same : IsUnchanged (state l.fn.disks) (state l.disks);
  sure : g.R.Maker.Disks.makes_all l.fn.disks → g.R.Maker.Disks.makes_all l.disks;
}

abbrev pub decreases-loop-line : goal.decreases-loop-line
decreases-loop-line g l = length l.rest
