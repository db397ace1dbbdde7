use Rattle.std.proofs.Common.{◌∙◌, sym, ap}
use Rattle.site_vector.specs.declared.ids.PartId.{PartId}
use Rattle.site_partitions.proofs.Asking.{at_place}
use Rattle.site_partitions.proofs.sites.Sites.fate_at.Goals as goal

pub fate-requires : goal.fate-requires
fate-requires g c = c.requires.site ∙ sym (ap (λ (p : PartId). p.site) (at_place _ _ _ _ _ c.self.view_is c.args.at _ c.index_of-i.ensures.index _ c.index.ensures c.requires.reached.0 c.requires.reached.1 c.requires.place).id)

pub returns : goal.returns
returns g c = λ run r. c.fate.ensures (r.state c.args.at) (at_place _ _ _ _ _ c.self.view_is c.args.at _ c.index_of-i.ensures.index _ c.index.ensures run r c.requires.place).stands
