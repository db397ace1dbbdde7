use Rattle.std.proofs.Common.{sym, ap, ◌∙◌}
use Rattle.prepared_table.specs.Entries.{has_entry}
use Rattle.partition_core.proofs.Rooms.{found_is, not_found_is}
use Rattle.partition_core.proofs.partition.Partition.is_pending.Goals as goal

pub returns-in-Some : goal.returns-in-Some
returns-in-Some g c = sym (found_is c.args.tx _ c.in-Some._entry.now (sym c.in-Some.ensures.value)).0 ∙ ap (λ t. has_entry t.pending c.args.tx) c.self.view_is

pub returns-in-None : goal.returns-in-None
returns-in-None g c = sym (not_found_is c.args.tx _ (sym c.in-None.ensures.value)) ∙ ap (λ t. has_entry t.pending c.args.tx) c.self.view_is
