use Rattle.std.proofs.Common.{◌≡◌, take}
use Rattle.std.specs.FinMap.{from_entries}
use Rattle.site_vector.specs.Order.{dot_cmp}
use Rattle.crdt_core.specs.Kept.{without}
use Rattle.crdt_core.proofs.kept.take_each.Given as goal

abbrev pub invariant-loop-dot : goal.invariant-loop-dot
invariant-loop-dot g l = from_entries {R = dot_cmp} l.entries.entries ≡ without (from_entries l.fn.entries.entries) (take l.dot-index l.dots)
