use Rattle.std.proofs.Common.{ap, sym, refl, ◌∙◌}
use Rattle.crdt_core.specs.KindsOf.{kinds_of}
use Rattle.partition_core.proofs.Leasing.{opened, unchanged}
use Rattle.partition_core.proofs.ReadCall.{update_waits_by, updates_by, updates_blind_by}
use Rattle.partition_core.specs.Numbered.{have_ids}
use Rattle.partition_core.proofs.Numbering.{initial_spelled, read_spelled}
use Rattle.partition_core.proofs.partition.Partition.update_fitting.Goals as goal

pub returns-then-not-needs_state-clause-answers : goal.returns-then-not-needs_state-clause-answers
returns-then-not-needs_state-clause-answers g c = λ index. unchanged _ _ _ _ _ c.self.view_is (updates_blind_by (kinds_of g.C.Crdt.laws) _ c.args.tx c.args.s.now c.args.object.now c.args.own.now c.args.op.now index c.now.result c.in_ok-state.state c.in_ok-made.made.0 c.in_ok-made.made.1 c.requires.fits (sym c.if-not-needs_state.ensures) c.requires.has c.now.ensures.value c.in_ok-made.ensures.effect c.in_ok-made.ensures.stamp)

pub returns-in-Some-clause-answers : goal.returns-in-Some-clause-answers
returns-in-Some-clause-answers g c = λ index. unchanged _ _ _ _ _ c.self.view_is (update_waits_by (kinds_of g.C.Crdt.laws) _ c.args.tx c.args.s.now c.args.object.now c.args.own.now c.args.op.now c.in-Some.why c.requires.fits (sym c.if-not-needs_state.ensures) c.in-Some.ensures)

pub returns-clause-answers : goal.returns-clause-answers
returns-clause-answers g c = λ index. opened _ _ _ _ _ _ c.self.view_is (updates_by (kinds_of g.C.Crdt.laws) _ c.args.tx c.args.s.now c.args.object.now c.args.own.now c.args.op.now index c.now-now.result c.made_under.new.store.parts _ c.in_ok-made-2.made.0 c.in_ok-made-2.made.1 (ap (λ x. x.parts) c.in_ok-made-2.ensures.same) c.requires.fits c.in_default.ensures c.requires.has refl c.now-now.ensures.value c.in_ok-made-2.ensures.effect c.in_ok-made-2.ensures.stamp)

pub returns-then-not-needs_state-clause-ready : goal.returns-then-not-needs_state-clause-ready
returns-then-not-needs_state-clause-ready g c = λ ids begun numbered. c.in_ok-made.ensures.ready c.requires.has (initial_spelled (kinds_of g.C.Crdt.laws) c.args.object.now c.requires.has c.in_ok-state.state c.in_ok-state.ensures)

pub returns-clause-ready : goal.returns-clause-ready
returns-clause-ready g c = λ ids begun numbered. c.in_ok-made-2.ensures.ready (read_spelled (kinds_of g.C.Crdt.laws) c.args.object.now c.requires.has c.args.tx c.args.s.now c.args.own.now c.self.inside.store.parts _ refl (ap (λ x. have_ids x.held) c.self.view_is ∙ ids) begun numbered)
