use Rattle.std.proofs.Common.{◌≤◌}
use Rattle.dc_engine.specs.Blocks.{Progress}
use Rattle.dc_engine.specs.Makers.{IsUnchanged}
use Rattle.dc_engine.proofs.script.blocks.play_blocks.Given as goal

abbrev pub invariant-loop-room : goal.invariant-loop-room
invariant-loop-room g l = let S = g.S.Source in let K = g.K.Sink in let state = g.R.Maker.Disks.state in record {
  read : S.faults l.fn.source ≤ S.faults l.source;
  wrote : K.faults l.fn.sink ≤ K.faults l.sink;
  progress : Progress g.R.Cutter.Cutter.framing l.most g.R.Responder.reached l.responder (S.left l.fn.source) (S.left l.source) (K.held l.fn.sink) (K.held l.sink) l.buffers.begun l.room;
  held : g.R.Responder.holds l.responder l.disks;
  counted : (state l.fn.disks).faults ≤ (state l.disks).faults;
  same : IsUnchanged (state l.fn.disks) (state l.disks);
  sure : g.R.Maker.Disks.makes_all l.fn.disks → g.R.Maker.Disks.makes_all l.disks;
}

abbrev pub decreases-loop-room : goal.decreases-loop-room
decreases-loop-room g l = l.room
