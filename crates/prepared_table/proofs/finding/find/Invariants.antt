use Rattle.std.proofs.Common.{◌≡◌, drop}
use Rattle.prepared_table.specs.Entries.{found}
use Rattle.prepared_table.proofs.finding.find.Given as goal

abbrev pub invariant-loop-i : goal.invariant-loop-i
invariant-loop-i g l = found l.tx l.entries ≡ found l.tx (drop l.i l.entries)
