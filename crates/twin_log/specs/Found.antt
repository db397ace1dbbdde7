-- What was found in the bytes of a log.
use Rattle.std.specs.Prelude.{◌≡◌, ℕ, ◌+◌, ◌≤◌, List, ◌++◌, length, take, drop}
use Rattle.gate_log.specs.Log.{AreSized}
use Rattle.twin_log.specs.Twin.{items}
use Rattle.twin_log.specs.Rests.{Stands}
use Rattle.twin_log.specs.declared.spot.Spot.{Spot}
use Rattle.twin_log.specs.declared.scan.Found.{Found}

-- So many payloads of an image stand from this place to that one.
pub record HasItems (bytes : List ℕ) (from count at : ℕ) : Type 0 where
  pub image : List (List ℕ)
  pub is : drop from (take at bytes) ≡ items image
  pub sized : AreSized image
  pub number : count ≡ length image
  pub reach : from ≤ at
  pub within : at ≤ length bytes

-- The bytes are a log that stands at this spot, with these payloads in its image and these in its tail.
pub record HasParts (bytes : List ℕ) (spot : Spot) (image tail : List (List ℕ)) : Type 0 where
  pub stands : Stands bytes spot (image ++ tail)
  pub image_is : stands.log.image ≡ image
  pub tail_is : stands.log.tail ≡ tail

-- So it was found, with the places of the first length of the image and of the first gate of the tail.
pub record IsFound (bytes : List ℕ) (found : Found) (image tail : List (List ℕ)) : Type 0 where
  pub parts : HasParts bytes found.spot image tail
  pub images : found.images ≡ length image
  pub records : found.records ≡ length tail
  pub image_at : found.image ≡ found.spot.start + 5
  pub tail_at : found.tail ≡ found.spot.start + 5 + length (items image)
