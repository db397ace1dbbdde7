use Rattle.std.proofs.Common.{◌≡◌, ◌++◌, ◌∷◌, take}
use Rattle.std.specs.List.{flat_map}
use Rattle.std.specs.Int.{w32, to_be_bytes}
use Rattle.gate_log.specs.Log.{body}
use Rattle.twin_log.proofs.area.new_area.Given as goal

abbrev pub invariant-loop-payload : goal.invariant-loop-payload
invariant-loop-payload l = l.area.items ≡ l.format ∷ (to_be_bytes w32 l.count ++ flat_map body (take l.payload-index l.payloads))
