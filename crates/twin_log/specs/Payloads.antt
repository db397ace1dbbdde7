-- Payloads with their places.
use Rattle.std.specs.Prelude.{ℕ, zero, suc, ◌+◌, if◌then◌else◌, List, [], ◌∷◌, ◌++◌, length, take, drop}
use Rattle.gate_log.specs.Damage.{told_length, is_whole}
use Rattle.gate_log.specs.Payloads.{placed}
use Rattle.twin_log.specs.Twin.{items}

-- each payload of an image with the place of its first byte, where the first length stands at this place
abbrev pub placed_items : ℕ → List (List ℕ) → List (ℕ × List ℕ)
placed_items at [] = []
placed_items at (payload ∷ payloads) = (at + 4, payload) ∷ placed_items (at + 4 + length payload) payloads

-- the payloads of an image and of a tail, each with its place, where the area begins at this place
abbrev pub placed_in : ℕ → List (List ℕ) → List (List ℕ) → List (ℕ × List ℕ)
placed_in start image tail = placed_items (start + 5) image ++ placed (start + 5 + length (items image)) tail

-- so many payloads of an image at most, read from bytes that begin with a length at this place
abbrev pub walked_items : ℕ → ℕ → List ℕ → List (ℕ × List ℕ)
walked_items zero at bytes = []
walked_items (suc count) at bytes = let told = told_length bytes in
    if is_whole bytes then (at + 4, take told (drop 4 bytes)) ∷ walked_items count (at + 4 + told) (drop (4 + told) bytes) else []
