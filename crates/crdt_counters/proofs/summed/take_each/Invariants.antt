use Rattle.std.proofs.Common.{◌≡◌, take}
use Rattle.std.specs.FinMap.{from_entries}
use Rattle.site_vector.specs.Order.{dot_cmp}
use Rattle.crdt_core.specs.Kept.{without}
use Rattle.crdt_counters.specs.Total.{sum_of}
use Rattle.crdt_counters.proofs.summed.take_each.Given as goal

abbrev pub invariant-loop-dot : goal.invariant-loop-dot
invariant-loop-dot l =
    let old = from_entries {R = dot_cmp} l.fn.amounts.entries in
    record {
      rest : from_entries {R = dot_cmp} l.amounts.entries ≡ without old (take l.dot-index l.dots);
      total : l.left ≡ sum_of (from_entries l.amounts.entries);
    }
