-- Frames: each is two bytes that tell how many follow, the high one first, and as many, its body.
use Rattle.std.specs.Prelude.{ℕ, ◌+◌, ◌*◌, ◌==◌, if◌then◌else◌, Bool, false, List, [], ◌∷◌, ◌++◌, length, drop}

-- these bytes are one frame, whole
abbrev pub is_frame : List ℕ → Bool
is_frame (high ∷ low ∷ body) = length body == high * 256 + low
is_frame bytes = false

-- the bodies of the frames among bytes, and what is behind the last of them
pub record Fed : Type 0 where
  pub frames : List (List ℕ)
  pub rest : List ℕ

abbrev pub nothing_fed : Fed
nothing_fed = record { frames = []; rest = [] }

-- one byte more, with which the rest is a frame or isn't
abbrev pub with_byte : Fed → ℕ → Fed
with_byte fed b = if is_frame (fed.rest ++ b ∷ []) then record { frames = fed.frames ++ drop 2 (fed.rest ++ b ∷ []) ∷ []; rest = [] } else record { frames = fed.frames; rest = fed.rest ++ b ∷ [] }

-- more bytes, one after another
abbrev pub with_bytes : Fed → List ℕ → Fed
with_bytes fed [] = fed
with_bytes fed (b ∷ bytes) = with_bytes (with_byte fed b) bytes

abbrev pub frames_of : List ℕ → List (List ℕ)
frames_of bytes = (with_bytes nothing_fed bytes).frames

abbrev pub rest_of : List ℕ → List ℕ
rest_of bytes = (with_bytes nothing_fed bytes).rest
