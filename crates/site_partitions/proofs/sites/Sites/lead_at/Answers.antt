use Rattle.std.proofs.Common.{◌∙◌, ap}
use Rattle.std.specs.Prelude.{option_map}
use Rattle.prepared_table.specs.Entries.{found}
use Rattle.site_partitions.proofs.Asking.{up_place}
use Rattle.site_partitions.proofs.Finding.{is_at}
use Rattle.site_partitions.proofs.Waits.{lead_told}
use Rattle.site_partitions.proofs.sites.Sites.lead_at.Goals as goal

pub returns : goal.returns
returns g c = λ up run r. lead_told (r.state c.args.at).log c.args.tx _ (up_place _ _ _ _ _ c.self.view_is c.args.at _ c.index_of-i.ensures.index _ c.index.ensures run r c.requires (up _ (is_at _ _ _ _ c.self.view_is c.self.invariant c.args.at _ c.index_of-i.ensures.index c.index_of-i.ensures.below _ c.index.ensures))).tables.tells.table _
    (c.lead_in.ensures ∙ ap (λ xs. option_map (λ e. e.lead) (found c.args.tx xs)) c.pending.ensures)
