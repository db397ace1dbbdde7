use Rattle.std.proofs.Common.{◌≡◌, ◌+◌, ◌≤◌, ◌^◌, length, take}
use Rattle.twin_log.specs.Twin.{items}
use Rattle.twin_log.proofs.area.area_size.Given as goal

abbrev pub invariant-loop-payload : goal.invariant-loop-payload
invariant-loop-payload l = record { sum : l.size ≡ 6 + length (items (take l.payload-index l.payloads)); small : l.size ≤ 2 ^ 31 + 6 }
