-- Texts as a script spells them: bare, or as a string of JSON in quotes.
use Rattle.std.specs.Prelude.{ℕ, ◌-◌, ◌==◌, ◌&&◌, nat_le, Bool, List, length, slice_index, Option, Some, None, option_and_then, if◌then◌else◌}
use Rattle.std.specs.Str.Lossy.{utf8_valid_len}
use Rattle.serde_json.specs.Read.{read}
use Rattle.serde_json.specs.Find.{as_str}
use Rattle.script_words.specs.Bare.{is_bare}
use Rattle.script_text.specs.Split.{quote}

abbrev pub is_quoted : List ℕ → Bool
is_quoted w = nat_le 2 (length w) && (slice_index w 0 == quote && slice_index w (length w - 1) == quote)

-- the text that a string of JSON stands for
abbrev pub string_of : List ℕ → Option (List ℕ)
string_of w = if utf8_valid_len w == length w then option_and_then as_str (read w) else None

abbrev pub at_most_256 : List ℕ → Option (List ℕ)
at_most_256 t = if nat_le (length t) 256 then Some t else None

abbrev pub text : List ℕ → Option (List ℕ)
text w = if is_bare w then at_most_256 w else (if is_quoted w then option_and_then at_most_256 (string_of w) else None)
