use Rattle.std.proofs.Common.{◌≡◌, ◌≤◌, ◌+◌, ◌*◌, vec_len, vec_capacity}
use Rattle.partition_lock.specs.Openings.{unused, words_below}
use Rattle.partition_lock.proofs.Opening.{IsFront}
use Rattle.partition_lock.proofs.seats.seat_all.Given as goal

abbrev pub invariant-loop-partition : goal.invariant-loop-partition
invariant-loop-partition g l =
    IsFront l.fn.partitions.items l.partitions.items × (l.seat.table_id ≡ g.J.Naming.table) × (l.seat.me ≡ unused (words_below (vec_len l.partitions))) × (vec_len l.desks + vec_len l.partitions ≡ vec_len l.fn.desks + l.sites * l.parts) × (vec_len l.desks + vec_len l.partitions ≤ vec_capacity l.desks)

abbrev pub decreases-loop-partition : goal.decreases-loop-partition
decreases-loop-partition g l = goal.left-loop-partition g l
