-- The grammar of a log in two areas.
use Rattle.std.specs.Prelude.{◌≡◌, ◌≢◌, ◌⊎◌, ℕ, ◌^◌, ◌<◌, ◌≤◌, ◌==◌, Bool, true, if◌then◌else◌, List, [], ◌∷◌, ◌++◌, length, take, drop, slice_index, ⊤}
use Rattle.std.specs.List.{flat_map}
use Rattle.std.specs.Int.{w32, w64, to_be_bytes, from_be_bytes}
use Rattle.gate_log.specs.Log.{body, records, AreSized}

-- "CURETWN1"
abbrev pub header : List ℕ
header = 67 ∷ 85 ∷ 82 ∷ 69 ∷ 84 ∷ 87 ∷ 78 ∷ 49 ∷ []

-- where the start in use stands, by whether it is the second
abbrev pub slot_if : Bool → ℕ
slot_if second = if second then 17 else 9

-- where the other start stands
abbrev pub other_if : Bool → ℕ
other_if second = if second then 9 else 17

-- the switch byte by which that other one is in use
abbrev pub turned_if : Bool → ℕ
turned_if second = if second then 0 else 1

-- the ninth byte tells which start is in use: at 1 it is the second, and else the first
abbrev pub switch_of : List ℕ → ℕ
switch_of bytes = slice_index bytes 8

abbrev pub is_second : List ℕ → Bool
is_second bytes = switch_of bytes == 1

abbrev pub start_at : ℕ → List ℕ → ℕ
start_at place bytes = from_be_bytes w64 (take 8 (drop place bytes))

-- the start of the area in use
abbrev pub start_of : List ℕ → ℕ
start_of bytes = start_at (slot_if (is_second bytes)) bytes

-- the formats that an area may have
abbrev pub is_format : ℕ → Bool
is_format format = format == 1

-- payloads, each behind its length
abbrev pub items : List (List ℕ) → List ℕ
items payloads = flat_map body payloads

-- how an area begins: its format, how many payloads its image has, and these
abbrev pub area : ℕ → List (List ℕ) → List ℕ
area format payloads = format ∷ (to_be_bytes w32 (length payloads) ++ items payloads)

-- an area whose tail has no record
abbrev pub closed_area : ℕ → List (List ℕ) → List ℕ
closed_area format payloads = area format payloads ++ 0 ∷ []

-- no payload is empty
abbrev pub AreSome : List (List ℕ) → Type 0
AreSome [] = ⊤
AreSome (payload ∷ payloads) = (1 ≤ length payload) × AreSome payloads

-- The bytes are a log of these payloads, of this format: those of the image of the area in use, and then those of the records of its tail, which ends at a byte that isn't an open gate.
pub record IsTwinLog (bytes : List ℕ) (format : ℕ) (payloads : List (List ℕ)) : Type 0 where
  pub image : List (List ℕ)
  pub tail : List (List ℕ)
  pub gate : ℕ
  pub rest : List ℕ
  pub headed : take 8 bytes ≡ header
  pub past : 25 ≤ start_of bytes
  pub is : drop (start_of bytes) bytes ≡ area format image ++ records tail ++ gate ∷ rest
  pub known : is_format format ≡ true
  pub shut : gate ≢ 1
  pub few : length image < 2 ^ 32
  pub image_sized : AreSized image
  pub tail_sized : AreSized tail
  pub listed : payloads ≡ image ++ tail

-- a log of the one list in the one format, or of the other in the other
abbrev pub IsEither : ℕ → List (List ℕ) → ℕ → List (List ℕ) → List ℕ → Type 0
IsEither was before is after bytes = IsTwinLog bytes was before ⊎ IsTwinLog bytes is after

-- a log of a list that passes the test
abbrev pub IsTwinLogAmong : (ℕ → List (List ℕ) → Bool) → List ℕ → Type 0
IsTwinLogAmong among bytes = (format : ℕ) × (payloads : List (List ℕ)) × IsTwinLog bytes format payloads × (among format payloads ≡ true)
