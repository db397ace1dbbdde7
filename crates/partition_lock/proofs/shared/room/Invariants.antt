use Rattle.std.proofs.Common.{◌≡◌, ◌≤◌, vec_len, vec_capacity}
use Rattle.partition_lock.proofs.shared.room.Given as goal

abbrev pub invariant-loop : goal.invariant-loop
invariant-loop g l = (vec_len l.woken ≡ l.counter) × (vec_len l.desks ≡ 0) × (l.count ≤ vec_capacity l.desks) × (vec_len l.ended ≡ 0) × (l.count ≤ vec_capacity l.ended)
