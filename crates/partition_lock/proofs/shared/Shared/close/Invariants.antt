use Rattle.std.proofs.Common.{◌≡◌, ◌≤◌, ◌+◌, ◌*◌, vec_len, vec_capacity}
use Rattle.site_partitions.specs.Reaches.{types_of}
use Rattle.partition_lock.specs.Closings.{Gathered, kept_by, left_by}
use Rattle.partition_lock.proofs.shared.Shared.close.Given as goal

abbrev pub invariant-loop-lock : goal.invariant-loop-lock
invariant-loop-lock g l =
    Gathered (types_of g.C.Crdt.laws g.C.Crdt.spells g.D.Disk.state) g.J.Naming.sites g.J.Naming.parts kept_by left_by l.fn.pass l.ended.items l.seat.me.0 × (l.seat.table_id ≡ g.J.Naming.table) × (vec_len l.ended + vec_len l.desks ≡ g.J.Naming.sites * g.J.Naming.parts) × (vec_len l.ended + vec_len l.desks ≤ vec_capacity l.ended)

abbrev pub decreases-loop-lock : goal.decreases-loop-lock
decreases-loop-lock g l = vec_len l.desks
