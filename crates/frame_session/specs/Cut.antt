-- The frame that stands first among bytes.
use Rattle.std.specs.Prelude.{ℕ, ◌+◌, ◌*◌, leb, if◌then◌else◌, Option, Some, None, List, ◌∷◌, length, take}

-- so many bytes, where they are there
abbrev pub body_in : ℕ → List ℕ → Option (List ℕ)
body_in size bytes = if leb size (length bytes) then Some (take size bytes) else None

abbrev pub first_body : List ℕ → Option (List ℕ)
first_body (high ∷ low ∷ bytes) = body_in (high * 256 + low) bytes
first_body bytes = None
