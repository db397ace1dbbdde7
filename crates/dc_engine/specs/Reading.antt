-- What a line of a script asks for.
use Rattle.std.specs.Prelude.{ℕ, ◌+◌, ◌*◌, ◌==◌, Bool, true, false, ◌&&◌, nat_le, List, ◌∷◌, length, Option, None, Some, option_and_then, if◌then◌else◌, ⊤}
use Rattle.std.specs.Io.BufRead.{strip_last}
use Rattle.std.specs.List.{list_any}
use Rattle.std.specs.Str.{is_utf8}
use Rattle.script_text.specs.Line.{line_as}
use Rattle.script_text.specs.Split.{words}
use Rattle.script_text.specs.declared.Parsed.{Parsed}
use Rattle.script_text.specs.declared.Parsed.TheVariants as parsed
use Rattle.world_model.specs.commands.Answers.{Asked, nothing, unreadable, asks}
use Rattle.cluster.specs.Built.{IsSaid, is_making}
use Rattle.dc_engine.specs.declared.framing.Framing.{Framing}
use Rattle.dc_engine.specs.declared.framing.Framing.TheVariants as framing
use Rattle.dc_engine.specs.ObjectKinds.{kinds}

-- what a line reads as: at most 4,096 bytes of UTF-8, whose words are in the grammar
abbrev pub reading_of : List ℕ → Option Parsed
reading_of line = if nat_le (length line) 4096 && is_utf8 line then line_as (words line) else None

abbrev pub asked_as : Option Parsed → Asked
asked_as None = unreadable
asked_as (Some parsed.Nothing) = nothing
asked_as (Some (parsed.Command c)) = asks c

-- the body of a frame, if it is whole
abbrev pub body_of : List ℕ → Option (List ℕ)
body_of (high ∷ low ∷ body) = if length body == high * 256 + low then Some body else None
body_of other = None

-- what is read of a line: without its LF, of which one CR at its end counts nothing, or of a frame, which is to be whole
abbrev pub text_in : Framing → List ℕ → Option (List ℕ)
text_in framing.Lines line = Some (strip_last 13 line)
text_in framing.Frames line = body_of line

abbrev pub asked_of : Framing → List ℕ → Asked
asked_of f line = asked_as (option_and_then reading_of (text_in f line))

abbrev pub is_unreadable : Asked → Bool
is_unreadable unreadable = true
is_unreadable other = false

-- the line makes a cluster
abbrev pub asks_cluster : Asked → Bool
asks_cluster (asks c) = is_making c
asks_cluster other = false

abbrev pub makes_cluster : Framing → List ℕ → Bool
makes_cluster f line = asks_cluster (asked_of f line)

-- some line isn't in the grammar
abbrev pub has_bad : Framing → List (List ℕ) → Bool
has_bad f lines = list_any (λ line. is_unreadable (asked_of f line)) lines

-- what a line asks for is what a cluster takes
abbrev pub AsksSaid : Option Parsed → Type 0
AsksSaid (Some (parsed.Command c)) = IsSaid kinds.has kinds.too_deep c
AsksSaid other = ⊤
