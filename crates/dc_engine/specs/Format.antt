-- How replies are written.
use Rattle.std.specs.Prelude.{ℕ, ◌-◌, List, ◌++◌, length, take}
use Rattle.field_codec.specs.Spelling.{number as in_bytes}
use Rattle.world_model.specs.declared.step.Step.{Step}
use Rattle.reply_text.specs.Text.{text_of}
use Rattle.reply_text.specs.Json.{json_of}
use Rattle.dc_engine.specs.declared.framing.Framing.{Framing}
use Rattle.dc_engine.specs.declared.framing.Framing.TheVariants as framing
use Rattle.dc_engine.specs.declared.format.Format.{Format}
use Rattle.dc_engine.specs.declared.format.Format.TheVariants.{Lines, Json}

-- the bytes of a reply to the script's line of this number
abbrev pub spelled_as : Format → ℕ → Step → List ℕ
spelled_as Lines number step = text_of step
spelled_as Json number step = json_of number step

-- a line without its LF
abbrev pub unended : List ℕ → List ℕ
unended line = take (length line - 1) line

-- a line as a frame: its length without the LF, as four bytes, and what it says
abbrev pub in_frame : List ℕ → List ℕ
in_frame line = in_bytes 4 (length (unended line)) ++ unended line

-- and of one told apart so
abbrev pub spelled_in : Framing → Format → ℕ → Step → List ℕ
spelled_in framing.Lines format number step = spelled_as format number step
spelled_in framing.Frames format number step = in_frame (spelled_as format number step)
