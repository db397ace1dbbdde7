use Rattle.std.proofs.Common.{◌<◌, ◌+◌, ap, sym, ◌∙◌, refl, arith}
use Rattle.crdt_core.specs.Log.{end_of_time}
use Rattle.partition_core.proofs.Leasing.{unchanged, opened_to}
use Rattle.partition_core.proofs.Bounding.{stable_as}
use Rattle.partition_core.proofs.StableBegins.{stable_behind, stable_at_end, stable_begins}
use Rattle.partition_core.proofs.partition.Partition.next_stable.Goals as goal

pub returns-in-Some-clause-answers : goal.returns-in-Some-clause-answers
returns-in-Some-clause-answers g c = λ who.
    let i = c.self.invariant in
    let heard = c.stable-stable.ensures in
    let least = stable_as c.self.inside.sites c.self.inside.parts c.self.inside.id.part c.own_bounds-own.result c.self.inside.gossip.heard c.stable-stable.result c.self.inside.gossip.sites c.self.inside.gossip.parts i.gossip_sites i.gossip_parts heard.least in
    unchanged _ _ _ _ _ c.self.view_is (stable_behind _ _ c.args.dependency.now c.own_bounds-own.result c.stable-stable.result i.placed.place i.placed.wide_bounds c.own_bounds-own.ensures (heard.width ∙ i.gossip_sites) least who c.in-Some.site c.get-have.result c.get-have.ensures c.in-Some.ensures)

pub returns-then-now-eq-END_OF_TIME-clause-answers : goal.returns-then-now-eq-END_OF_TIME-clause-answers
returns-then-now-eq-END_OF_TIME-clause-answers g c = λ who.
    let i = c.self.invariant in
    let heard = c.stable-stable.ensures in
    let least = stable_as c.self.inside.sites c.self.inside.parts c.self.inside.id.part c.own_bounds-own.result c.self.inside.gossip.heard c.stable-stable.result c.self.inside.gossip.sites c.self.inside.gossip.parts i.gossip_sites i.gossip_parts heard.least in
    unchanged _ _ _ _ _ c.self.view_is (stable_at_end _ _ c.args.dependency.now c.own_bounds-own.result c.stable-stable.result i.placed.place i.placed.wide_bounds c.own_bounds-own.ensures (heard.width ∙ i.gossip_sites) least who c.now.result c.in_default.ensures c.now.ensures.value c.if-now-eq-END_OF_TIME.true)

pub returns-clause-answers : goal.returns-clause-answers
returns-clause-answers g c = λ who.
    let i = c.self.invariant in
    let heard = c.stable-stable.ensures in
    let least = stable_as c.self.inside.sites c.self.inside.parts c.self.inside.id.part c.own_bounds-own.result c.self.inside.gossip.heard c.stable-stable.result c.self.inside.gossip.sites c.self.inside.gossip.parts i.gossip_sites i.gossip_parts heard.least in
    let early : c.self.inside.clock.clock < end_of_time = let a = c.now.ensures.sound in omega arith in
    opened_to _ _ _ _ _ _ c.self.view_is (stable_begins _ _ c.args.dependency.now c.own_bounds-own.result c.stable-stable.result i.placed.place i.placed.wide_bounds c.own_bounds-own.ensures (heard.width ∙ i.gossip_sites) least who _ c.stable-stable.result (c.requires ∙ ap (λ x. x.sites) (sym c.self.view_is)) c.in_default.ensures (ap (λ k. k + 1) c.now-2.ensures.value) early refl)
