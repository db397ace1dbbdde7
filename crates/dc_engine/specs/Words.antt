-- The words of a call.
use Rattle.std.specs.Prelude.{ℕ, ◌==◌, if◌then◌else◌, Bool, true, false, List, [], ◌∷◌, Option, Some, None, option_and_then, codes}
use Rattle.std.specs.List.{before_first, after_first}
use Rattle.std.specs.Option.{option_copied}
use Rattle.std.specs.Str.{bytes_eq}
use Rattle.dc_engine.specs.declared.framing.Framing.{Framing}
use Rattle.dc_engine.specs.declared.framing.Framing.TheVariants as framing
use Rattle.dc_engine.specs.declared.format.Format.{Format}
use Rattle.dc_engine.specs.declared.format.Format.TheVariants as format
use Rattle.dc_engine.specs.declared.words.Request.{Request}
use Rattle.dc_engine.specs.declared.words.Asking as code

-- a script is to be played, its lines told apart so, with replies in this format, and with disks in this folder, if not in memory alone
pub record Asked : Type 0 where
  pub framing : Framing
  pub format : Format
  pub folder : Option (List ℕ)

-- and the next word is to name the folder, or not
pub record Asking : Type 0 where
  pub asked : Asked
  pub wants_folder : Bool

abbrev pub asked_in : Request → Asked
asked_in r = record { framing = r.framing; format = r.format; folder = option_copied r.folder }

abbrev pub asking_in : code.Asking → Asking
asking_in a = record { asked = asked_in a.request; wants_folder = a.wants_folder }

-- before any option
abbrev pub plain : Asked
plain = record { framing = framing.Lines; format = format.Lines; folder = None }

abbrev pub settled : Asked → Asking
settled a = record { asked = a; wants_folder = false }

-- `--frames`, once
abbrev pub in_frames : Framing → Asked → Option Asking
in_frames framing.Lines a = Some (settled (record a { framing = framing.Frames }))
in_frames framing.Frames a = None

-- `--json`, once
abbrev pub as_json : Format → Asked → Option Asking
as_json format.Lines a = Some (settled (record a { format = format.Json }))
as_json format.Json a = None

-- a folder, if it has a name, once
abbrev pub kept_in : Option (List ℕ) → Option (List ℕ) → Asked → Option Asking
kept_in None (Some name) a = Some (settled (record a { folder = Some name }))
kept_in other name a = None

-- a folder has a name, which doesn't look like an option
abbrev pub named : List ℕ → Option (List ℕ)
named [] = None
named (b ∷ bytes) = if b == 45 then None else Some (b ∷ bytes)

-- the folder of a word `--data=DIR`: what stands behind the first `=`
abbrev pub joined : List ℕ → Option (List ℕ)
joined word = if bytes_eq (before_first (λ b. b == 61) word) (codes "--data") then named (after_first (λ b. b == 61) word) else None

-- one option more, of which `--data DIR` takes two words
abbrev pub with_option : Asked → List ℕ → Option Asking
with_option a word = if bytes_eq word (codes "--json") then as_json a.format a
    else if bytes_eq word (codes "--frames") then in_frames a.framing a
    else if bytes_eq word (codes "--data") then Some (record { asked = a; wants_folder = true })
    else kept_in a.folder (joined word) a

abbrev pub with_word : Asking → List ℕ → Option Asking
with_word a word = if a.wants_folder then kept_in a.asked.folder (named word) a.asked else with_option a.asked word

abbrev pub with_words : Asking → List (List ℕ) → Option Asking
with_words a [] = Some a
with_words a (word ∷ words) = option_and_then (λ b. with_words b words) (with_word a word)

-- no folder is wanted any more
abbrev pub whole : Asking → Option Asked
whole a = if a.wants_folder then None else Some a.asked

-- what these words ask for, if they are a call: `play` and then, in any order and each at most once, `--json`, `--frames` and a folder
abbrev pub with_options : List (List ℕ) → Option Asked
with_options words = option_and_then whole (with_words (settled plain) words)

abbrev pub asked : List (List ℕ) → Option Asked
asked [] = None
asked (play ∷ words) = if bytes_eq play (codes "play") then with_options words else None
