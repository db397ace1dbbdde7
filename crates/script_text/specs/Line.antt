-- What a line of a script reads as.
use Rattle.std.specs.Prelude.{◌≡◌, ◌≤◌, ◌==◌, ℕ, Bool, true, false, List, [], ◌∷◌, length, Option, Some, None, option_map, if◌then◌else◌}
use Rattle.std.specs.Str.{IsUtf8}
use Rattle.world_model.specs.declared.command.Command.{Command}
use Rattle.world_model.specs.declared.command.Command.TheVariants as command
use Rattle.script_text.specs.Split.{words}
use Rattle.script_text.specs.Grammar.{command_named}
use Rattle.script_text.specs.declared.Parsed.{Parsed}
use Rattle.script_text.specs.declared.Parsed.TheVariants as parsed

abbrev pub hash : ℕ
hash = 35

abbrev pub command_as : Option Command → Option Parsed
command_as c = option_map parsed.Command c

-- it is an update, whose texts another may be read over
abbrev pub is_update : Parsed → Bool
is_update (parsed.Command (command.Update name object op)) = true
is_update p = false

-- nothing, where there is no word or the first begins with `#`; else the command that the words spell
abbrev pub line_as : List (List ℕ) → Option Parsed
line_as [] = Some parsed.Nothing
line_as ([] ∷ ws) = None
line_as ((c ∷ w) ∷ ws) = if c == hash then Some parsed.Nothing else command_as (command_named (c ∷ w) ws)

-- a line, without its end: at most 4,096 bytes of UTF-8
pub record IsLine (line : List ℕ) : Type 0 where
  pub short : length line ≤ 4096
  pub utf8 : IsUtf8 line

-- the line reads as this
pub record Reads (line : List ℕ) (p : Parsed) : Type 0 where
  pub is_line : IsLine line
  pub is : line_as (words line) ≡ Some p
