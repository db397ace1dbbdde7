use Rattle.std.proofs.Common.{◌≡◌, drop}
use Rattle.prepared_table.specs.Entries.{first_on}
use Rattle.prepared_table.proofs.finding.first_on.Given as goal

abbrev pub invariant-loop-i : goal.invariant-loop-i
invariant-loop-i g l = first_on l.object l.upto l.entries ≡ first_on l.object l.upto (drop l.i l.entries)
