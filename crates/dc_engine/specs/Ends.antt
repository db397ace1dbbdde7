-- Where a line ends among bytes.
use Rattle.std.specs.Prelude.{◌≡◌, ℕ, ◌+◌, ◌*◌, ◌≤◌, Bool, List, [], ◌∷◌, ◌++◌, length, take, drop, Option, Some, None}
use Rattle.dc_engine.specs.declared.framing.Framing.{Framing}
use Rattle.dc_engine.specs.declared.script.place.Cut.{Cut}
use Rattle.dc_engine.specs.declared.script.place.Cut.TheVariants as cut
use Rattle.dc_engine.specs.declared.script.place.Place.{Place}
use Rattle.dc_engine.specs.declared.script.place.Place.TheVariants as place
use Rattle.dc_engine.specs.Lines.{meets, goes, ends, kept}

-- these bytes lead from one place of a line to another, and end no line
abbrev pub Goes : Framing → Place → List ℕ → Place → Type 0
Goes f at [] to = at ≡ to
Goes f at (b ∷ bytes) to = (next : Place) × (meets f at b ≡ goes next) × Goes f next bytes to

-- the line that was read up to this place has so many of the bytes, and the next one begins behind so many
pub record EndsAt (f : Framing) (at : Place) (bytes : List ℕ) (count next_at : ℕ) : Type 0 where
  pub front : List ℕ
  pub last : ℕ
  pub later : List ℕ
  pub behind : Place
  pub counts : Bool
  pub split : bytes ≡ front ++ last ∷ later
  pub leads : Goes f at front behind
  pub met : meets f behind last ≡ ends counts
  pub line : take count bytes ≡ front ++ kept counts last
  pub next : drop next_at bytes ≡ later
  pub line_within : count ≤ length bytes
  pub within : next_at ≤ length bytes
  pub some : 1 ≤ next_at

-- a line is cut where it ends, or goes on
abbrev pub Cuts : Framing → Place → List ℕ → Cut → Type 0
Cuts f at bytes (cut.Ends line next) = EndsAt f at bytes line next
Cuts f at bytes (cut.Leads to) = Goes f at bytes to

-- before how many of the bytes that come after this place the last one of the frame stands, where its head is there
abbrev pub last_at : Place → List ℕ → Option ℕ
last_at place.Start (high ∷ low ∷ bytes) = Some (1 + (high * 256 + low))
last_at (place.InHead high) (low ∷ bytes) = Some (high * 256 + low)
last_at (place.InBody more) bytes = Some more
last_at other bytes = None

-- the place behind bytes with which the head of a frame isn't whole
abbrev pub in_head : Place → List ℕ → Place
in_head at [] = at
in_head at (high ∷ bytes) = place.InHead high
