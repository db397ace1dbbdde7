use Rattle.std.proofs.Common.{◌<◌, ◌+◌, ap, sym, ◌∙◌, refl, arith}
use Rattle.crdt_core.specs.Log.{end_of_time}
use Rattle.partition_core.specs.Leases.{leased}
use Rattle.partition_core.proofs.Leasing.{unchanged, opened_to}
use Rattle.partition_core.proofs.Beginning.{begin_behind_by, begins_by}
use Rattle.partition_core.proofs.partition.Partition.next_fresh.Goals as goal

pub returns-in-Some-clause-answers : goal.returns-in-Some-clause-answers
returns-in-Some-clause-answers g c = λ who.
    let heard = c.stable-stable.ensures in
    unchanged _ _ _ _ _ c.self.view_is (begin_behind_by _ _ c.args.dependency.now c.stable-stable.result c.self.inside.gossip.sites c.self.inside.gossip.parts c.self.invariant.gossip_sites c.self.invariant.gossip_parts heard.width heard.least who c.in-Some.site c.get-have.result c.get-have.ensures c.in-Some.ensures)

pub returns-clause-answers : goal.returns-clause-answers
returns-clause-answers g c = λ who.
    let heard = c.stable-stable.ensures in
    let n = c.now-time.result + 1 in
    let early : c.self.inside.clock.clock < end_of_time = let a = c.now.ensures.sound in omega arith in
    opened_to _ _ _ n _ _ c.self.view_is (begins_by _ _ c.args.dependency.now c.stable-stable.result c.self.inside.gossip.sites c.self.inside.gossip.parts c.self.invariant.gossip_sites c.self.invariant.gossip_parts heard.width heard.least who n c.max.result c.get.result (record { clock = n; ceiling = leased c.self.inside.clock.ceiling n }) c.with-s.result c.self.invariant.placed.place (c.requires ∙ ap (λ x. x.sites) (sym c.self.view_is)) c.in_default.ensures (ap (λ k. k + 1) c.now-time.ensures.value) early refl c.max.ensures c.get.ensures c.with-s.ensures)
