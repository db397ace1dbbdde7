-- The lines of a script: each ends at a LF, or is a frame, whose head tells how long its body is.
use Rattle.std.specs.Prelude.{ℕ, zero, suc, ◌+◌, ◌*◌, ◌==◌, if◌then◌else◌, Bool, true, false, List, [], ◌∷◌}
use Rattle.dc_engine.specs.declared.framing.Framing.{Framing}
use Rattle.dc_engine.specs.declared.framing.Framing.TheVariants as framing
use Rattle.dc_engine.specs.declared.script.place.Place.{Place}
use Rattle.dc_engine.specs.declared.script.place.Place.TheVariants as place

-- a byte leads on in its line, or ends it, as a byte of it or not
pub data Met : Type 0 where
  goes : Place → Met
  ends : Bool → Met

-- so many bytes of a body are still to come
abbrev pub owing : ℕ → Met
owing zero = ends true
owing (suc more) = goes (place.InBody more)

-- a byte at this place of a line
abbrev pub meets : Framing → Place → ℕ → Met
meets framing.Lines at b = if b == 10 then ends false else goes at
meets framing.Frames place.Start b = goes (place.InHead b)
meets framing.Frames (place.InHead high) b = owing (high * 256 + b)
meets framing.Frames (place.InBody more) b = owing more

-- a byte at the front of the first line, which it begins where there is none
abbrev pub onto : ℕ → List (List ℕ) → List (List ℕ)
onto b [] = (b ∷ []) ∷ []
onto b (line ∷ lines) = (b ∷ line) ∷ lines

-- a byte at the front of the first line, where there is one
abbrev pub onto_first : ℕ → List (List ℕ) → List (List ℕ)
onto_first b [] = []
onto_first b (line ∷ lines) = (b ∷ line) ∷ lines

-- the line that a byte is, which counts or not
abbrev pub kept : Bool → ℕ → List ℕ
kept true b = b ∷ []
kept false b = []

-- a byte, and the lines of the bytes behind it
abbrev pub onward : Met → ℕ → (Place → List (List ℕ)) → List (List ℕ)
onward (goes to) b lines = onto b (lines to)
onward (ends counts) b lines = kept counts b ∷ lines place.Start

-- the lines from this place on: the last one also where its end isn't there
abbrev pub lines_from : Framing → Place → List ℕ → List (List ℕ)
lines_from f at [] = []
lines_from f at (b ∷ bytes) = onward (meets f at b) b (λ to. lines_from f to bytes)

-- a byte, and the lines behind it whose end is there
abbrev pub onward_first : Met → ℕ → (Place → List (List ℕ)) → List (List ℕ)
onward_first (goes to) b lines = onto_first b (lines to)
onward_first (ends counts) b lines = kept counts b ∷ lines place.Start

-- only the lines whose end is there
abbrev pub ended_from : Framing → Place → List ℕ → List (List ℕ)
ended_from f at [] = []
ended_from f at (b ∷ bytes) = onward_first (meets f at b) b (λ to. ended_from f to bytes)

abbrev pub lines_of : Framing → List ℕ → List (List ℕ)
lines_of f bytes = lines_from f place.Start bytes

abbrev pub ended_lines : Framing → List ℕ → List (List ℕ)
ended_lines f bytes = ended_from f place.Start bytes
