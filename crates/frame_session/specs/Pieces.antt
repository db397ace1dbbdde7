-- Bytes that come piece by piece.
use Rattle.std.specs.Prelude.{ℕ, List, [], ◌∷◌, ◌++◌}
use Rattle.frame_session.specs.Frames.{Fed, frames_of, rest_of}

-- one piece more: the frames of what was held and it, and what is held then
abbrev pub with_piece : Fed → List ℕ → Fed
with_piece fed piece = record { frames = fed.frames ++ frames_of (fed.rest ++ piece); rest = rest_of (fed.rest ++ piece) }

abbrev pub by_pieces : Fed → List (List ℕ) → Fed
by_pieces fed [] = fed
by_pieces fed (piece ∷ pieces) = by_pieces (with_piece fed piece) pieces

abbrev pub joined : List (List ℕ) → List ℕ
joined [] = []
joined (piece ∷ pieces) = piece ++ joined pieces
