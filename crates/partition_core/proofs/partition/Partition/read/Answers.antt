use Rattle.std.proofs.Common.{ap}
use Rattle.crdt_core.specs.KindsOf.{kinds_of}
use Rattle.partition_core.proofs.Leasing.{opened, unchanged}
use Rattle.partition_core.proofs.ReadCall.{read_waits_by, reads_by, reads_plain}
use Rattle.partition_core.proofs.partition.Partition.read.Goals as goal

pub returns-in-Some : goal.returns-in-Some
returns-in-Some g c = unchanged _ _ _ _ _ c.self.view_is (read_waits_by (kinds_of g.C.Crdt.laws) _ c.args.tx c.args.s.now c.args.object.now c.args.own.now c.in-Some.why c.in-Some.ensures)

pub returns-then-own-eq0 : goal.returns-then-own-eq0
returns-then-own-eq0 g c = opened _ _ _ _ _ _ c.self.view_is (reads_plain (kinds_of g.C.Crdt.laws) _ c.args.tx c.args.s.now c.args.object.now c.args.own.now c.value.new.self.parts c.in_ok-value.value c.if-own-eq0.true (ap (λ x. x.parts) c.in_ok-value.ensures.same) c.in_default.ensures c.requires.has c.in_ok-value.ensures.value)

pub returns : goal.returns
returns g c = opened _ _ _ _ _ _ c.self.view_is (reads_by (kinds_of g.C.Crdt.laws) _ c.args.tx c.args.s.now c.args.object.now c.args.own.now c.state_read.new.store.parts c.in_ok-state.state c.in_ok-value-2.value (ap (λ x. x.parts) c.in_ok-state.ensures.same) c.in_default.ensures c.requires.has c.in_ok-state.ensures.state c.in_ok-value-2.ensures)
