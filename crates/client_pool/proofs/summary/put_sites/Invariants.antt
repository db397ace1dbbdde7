use Rattle.std.proofs.Common.{◌≡◌, ◌++◌, take}
use Rattle.client_pool.specs.Text.{site_lines}
use Rattle.client_pool.proofs.summary.put_sites.Given as goal

abbrev pub invariant-loop-i : goal.invariant-loop-i
invariant-loop-i l = l.out.items ≡ l.fn.out.items ++ site_lines 1 (take l.i l.sums)
