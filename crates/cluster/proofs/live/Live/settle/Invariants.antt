use Rattle.std.proofs.Common.{drop}
use Rattle.site_partitions.specs.Reaches.{types_of}
use Rattle.cluster.proofs.Settling.{IsUnderWay}
use Rattle.cluster.proofs.live.Live.settle.Given as goal

abbrev pub invariant-loop-one : goal.invariant-loop-one
invariant-loop-one g l = IsUnderWay (types_of g.C.Crdt.laws g.C.Crdt.spells g.D.Disk.state) l.fn.self l.part l.self (drop l.one-index l.one-items) l.lines.items
