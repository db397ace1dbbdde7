use Rattle.std.proofs.Common.{refl, ap, ◌∙◌}
use Rattle.partition_core.specs.Bounds.{own_bound}
use Rattle.partition_core.proofs.Leasing.{opened}
use Rattle.partition_core.proofs.Bounding.{stable_as, hears}
use Rattle.partition_core.proofs.partition.Partition.hear.Goals as goal

pub returns : goal.returns
returns g c = λ number.
    let i = c.self.invariant.placed in
    let heard = c.hear.ensures.heard in
    let sites = ap (λ x. x.sites) heard ∙ c.self.invariant.gossip_sites in
    let parts = ap (λ x. x.parts) heard ∙ c.self.invariant.gossip_parts in
    opened _ _ _ _ _ _ c.self.view_is (hears _ _ (own_bound c.self.inside.clock.clock c.self.inside.prepared.entries) c.own_bounds-own.result refl c.own_bounds-own.ensures i.place.least_site i.place.most_site i.wide_bounds number c.args.part c.args.bounds.now c.stable.result c.hear.new.self.heard (ap (λ x. x.heard) heard) (c.stable.ensures.width ∙ sites) (stable_as c.self.inside.sites c.self.inside.parts c.self.inside.id.part c.own_bounds-own.result c.hear.new.self.heard c.stable.result c.hear.new.self.sites c.hear.new.self.parts sites parts c.stable.ensures.least))
