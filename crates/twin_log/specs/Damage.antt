-- Which bytes are no log, and at which place.
use Rattle.std.specs.Prelude.{◌≡◌, ◌⊎◌, ℕ, ◌+◌, ◌^◌, ◌<◌, ◌&&◌, nat_le, Bool, true, false, List, ◌∷◌, ◌++◌, length, take, drop, slice_index}
use Rattle.std.specs.Str.{bytes_eq}
use Rattle.std.specs.Int.{w32, to_be_bytes}
use Rattle.gate_log.specs.Log.{records, AreSized}
use Rattle.gate_log.specs.Damage.{is_whole, IsCutOff}
use Rattle.twin_log.specs.Twin.{header, slot_if, is_second, start_of, is_format, items, area}

-- the header stands there: the first eight bytes, the switch byte and the two starts
abbrev pub has_head : List ℕ → Bool
has_head bytes = nat_le 25 (length bytes) && bytes_eq (take 8 bytes) header

-- the start in use stands behind the header, and six bytes from it on
abbrev pub has_start : List ℕ → Bool
has_start bytes = nat_le 25 (start_of bytes) && nat_le (start_of bytes + 6) (length bytes)

abbrev pub has_format : List ℕ → Bool
has_format bytes = is_format (slice_index bytes (start_of bytes))

-- The image has fewer payloads than it tells: at this place a length is 0, says more than remains, or is itself cut off.
pub record IsCutInImage (bytes : List ℕ) (at : ℕ) : Type 0 where
  pub format : ℕ
  pub count : ℕ
  pub image : List (List ℕ)
  pub rest : List ℕ
  pub is : drop (start_of bytes) bytes ≡ (format ∷ to_be_bytes w32 count) ++ items image ++ rest
  pub small : count < 2 ^ 32
  pub fewer : length image < count
  pub sized : AreSized image
  pub half : is_whole rest ≡ false
  pub place : at ≡ start_of bytes + 5 + length (items image)

-- The image stands whole, and then whole records. At this place the bytes end without a closing byte; or it is that of a length behind an open gate, which is 0, says more than remains, or is itself cut off.
pub record IsCutInTail (bytes : List ℕ) (at : ℕ) : Type 0 where
  pub format : ℕ
  pub image : List (List ℕ)
  pub tail : List (List ℕ)
  pub rest : List ℕ
  pub is : drop (start_of bytes) bytes ≡ area format image ++ records tail ++ rest
  pub few : length image < 2 ^ 32
  pub image_sized : AreSized image
  pub tail_sized : AreSized tail
  pub cut_off : IsCutOff rest
  pub place : at ≡ start_of bytes + length (area format image ++ records tail) + length (take 1 rest)

-- one of two, by a test
abbrev pub If : Bool → Type 0 → Type 0 → Type 0
If true one other = one
If false one other = other

-- The bytes are no log: at 0 where the header isn't there, else at the place of the start in use, else at that of the format byte, else where the area is cut off.
abbrev pub IsDamagedAt : List ℕ → ℕ → Type 0
IsDamagedAt bytes at = If (has_head bytes)
    (If (has_start bytes) (If (has_format bytes) (IsCutInImage bytes at ⊎ IsCutInTail bytes at) (at ≡ start_of bytes)) (at ≡ slot_if (is_second bytes)))
    (at ≡ 0)
