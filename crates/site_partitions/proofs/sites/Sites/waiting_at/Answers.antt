use Rattle.std.proofs.Common.{◌∙◌, ap, map}
use Rattle.site_partitions.specs.Fates.{waiting_of}
use Rattle.site_partitions.proofs.Asking.{up_place}
use Rattle.site_partitions.proofs.Finding.{is_at}
use Rattle.site_partitions.proofs.Waits.{map_ok, waiting_told}
use Rattle.site_partitions.proofs.sites.Sites.waiting_at.Goals as goal

pub returns : goal.returns
returns g c = map_ok c.waiting_in.result (λ l is. λ up run r. waiting_told (r.state c.args.at).log _ l.items (up_place _ _ _ _ _ c.self.view_is c.args.at _ c.index_of-i.ensures.index _ c.index.ensures run r c.requires (up _ (is_at _ _ _ _ c.self.view_is c.self.invariant c.args.at _ c.index_of-i.ensures.index c.index_of-i.ensures.below _ c.index.ensures))).tables.tells.table
    (is ∙ ap (map waiting_of) c.pending.ensures)) c.waiting_in.ensures
