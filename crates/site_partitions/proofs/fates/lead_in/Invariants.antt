use Rattle.std.proofs.Common.{◌≡◌, drop}
use Rattle.prepared_table.specs.Entries.{found}
use Rattle.site_partitions.proofs.fates.lead_in.Given as goal

abbrev pub invariant-loop-entry : goal.invariant-loop-entry
invariant-loop-entry g l = found l.tx l.entries ≡ found l.tx (drop l.entry-index l.entries)
