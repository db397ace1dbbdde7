-- What fits a room: how long an area is, and what its payloads are then.
use Rattle.std.proofs.Common.{◌≡◌, ⊎_elim, true, ℕ, ◌+◌, ◌^◌, ◌<◌, ◌≤◌, List, [], ◌∷◌, length, arith, length-append}
use Rattle.std.specs.Int.{w32, to_be_bytes}
use Rattle.gate_log.specs.Log.{body, AreSized}
use Rattle.gate_log.proofs.Grammar.{length-body}
use Rattle.twin_log.specs.Twin.{is_format, items, area, closed_area, AreSome}
use Rattle.twin_log.specs.Rests.{IsArea, IsNext}
use Rattle.twin_log.specs.declared.spot.Spot.{Spot}
use Rattle.twin_log.proofs.Switching.{is_target}

pub length_closed : (format : ℕ) (payloads : List (List ℕ)) → length (closed_area format payloads) ≡ 6 + length (items payloads)
length_closed format payloads = omega (arith, length-append (area format payloads) (0 ∷ []), length-append (format ∷ to_be_bytes w32 (length payloads)) (items payloads))

items_long : (payload : List ℕ) (payloads : List (List ℕ)) → length (items (payload ∷ payloads)) ≡ 4 + length payload + length (items payloads)
items_long payload payloads = omega (arith, length-append (body payload) (items payloads), length-body payload)

pub few_items : (payloads : List (List ℕ)) → length payloads ≤ length (items payloads)
few_items [] = omega arith
few_items (payload ∷ payloads) = omega (arith, items_long payload payloads, few_items payloads)

sized_items : (payloads : List (List ℕ)) → AreSome payloads → length (items payloads) < 2 ^ 32 → AreSized payloads
sized_items [] some small = tt
sized_items (payload ∷ payloads) some small = ((some.0, omega (arith, items_long payload payloads, small)), sized_items payloads some.1 (omega (arith, items_long payload payloads, small)))

pub is_area : (bytes : List ℕ) (format : ℕ) (payloads : List (List ℕ)) → bytes ≡ closed_area format payloads → is_format format ≡ true → AreSome payloads → length (items payloads) < 2 ^ 32 → IsArea bytes format payloads
is_area bytes format payloads is known some small = record { is = is; known = known; few = omega (arith, few_items payloads, small); sized = sized_items payloads some small }

-- the next spot stands behind the header
pub next_low : (spot next : Spot) (size : ℕ) → IsNext spot size next → 25 ≤ spot.start → spot.start ≤ spot.end → 25 ≤ next.start
next_low spot next size to low order = ⊎_elim (λ front. omega (arith, front.0)) (λ back. omega (arith, back, low, order)) (is_target spot next size to low)
