-- An opened log: what was found of it, and what was read.
use Rattle.std.proofs.Common.{◌≡◌, ℕ, ◌+◌, ◌<◌, ◌≤◌, List, [], ◌∷◌, ◌++◌, length, drop, IsTrue, refl, sym, ap, ◌∙◌, subst, arith, append_assoc, length-append}
use Rattle.std.specs.Int.{w32, to_be_bytes}
use Rattle.std.proofs.lemmas.List.{drop-drop, drop_at}
use Rattle.disk_core.specs.Images.{after_sync}
use Rattle.disk_core.specs.States.{Story, DiskState, moved, bytes_of}
use Rattle.gate_log.specs.Log.{records, AreSized}
use Rattle.gate_log.specs.Payloads.{walked, placed}
use Rattle.gate_log.proofs.Walking.{walked_records}
use Rattle.twin_log.specs.Twin.{start_of, items, area, IsTwinLog}
use Rattle.twin_log.specs.Payloads.{placed_in, placed_items, walked_items}
use Rattle.twin_log.specs.Found.{IsFound}
use Rattle.twin_log.specs.Rests.{AtRest, Stands}
use Rattle.twin_log.specs.declared.spot.Spot.{Spot}
use Rattle.twin_log.specs.declared.scan.Found.{Found}
use Rattle.twin_log.proofs.Holds.{start_within, rests_from}
use Rattle.twin_log.proofs.Unique.{opened_area}
use Rattle.twin_log.proofs.Walking.{walked_image}

length_area : (format : ℕ) (image : List (List ℕ)) → length (area format image) ≡ 5 + length (items image)
length_area format image = length-append (format ∷ to_be_bytes w32 (length image)) (items image)

sized_both : (xs ys : List (List ℕ)) → AreSized xs → AreSized ys → AreSized (xs ++ ys)
sized_both [] ys none all = all
sized_both (x ∷ xs) ys more all = (more.0, sized_both xs ys more.1 all)

-- where a log stands, its places are within the bytes
pub record Places (bytes : List ℕ) (spot : Spot) : Type 0 where
  pub low : 25 ≤ spot.start
  pub order : spot.start ≤ spot.end
  pub within : spot.end < length bytes

pub spot_places : (bytes : List ℕ) (spot : Spot) (payloads : List (List ℕ)) → Stands bytes spot payloads → Places bytes spot
spot_places bytes spot payloads stands =
    let inside = start_within bytes spot.format payloads stands.log in
    record { low = omega (arith, stands.begins, stands.log.past); order = omega (arith, stands.place); within = omega (arith, inside, stands.place, stands.begins) }

module _ (bytes : List ℕ) (found : Found) (image tail : List (List ℕ)) (is : IsFound bytes found image tail) where
  abbrev spot : Spot
  spot = found.spot

  abbrev stands : Stands bytes spot (image ++ tail)
  stands = is.parts.stands

  abbrev log : IsTwinLog bytes spot.format (image ++ tail)
  log = stands.log

  -- the area, of what was found
  area_is : drop (start_of bytes) bytes ≡ area spot.format image ++ records tail ++ log.gate ∷ log.rest
  area_is = log.is ∙ (λ i. area spot.format (is.parts.image_is i) ++ records (is.parts.tail_is i) ++ log.gate ∷ log.rest)

  area_there : drop spot.start bytes ≡ area spot.format image ++ records tail ++ log.gate ∷ log.rest
  area_there = ap (λ (n : ℕ). drop n bytes) stands.begins ∙ area_is

  behind_image : spot.start + 5 + length (items image) ≤ spot.end
  behind_image =
      omega (arith, stands.place, length-append (area spot.format log.image) (records log.tail), length_area spot.format log.image, ap (λ (l : List (List ℕ)). length (items l)) is.parts.image_is)

  pub image_within : found.image ≤ length bytes
  image_within = omega (arith, is.image_at, behind_image, (spot_places bytes spot (image ++ tail) stands).within)

  pub tail_within : found.tail ≤ length bytes
  tail_within = omega (arith, is.tail_at, behind_image, (spot_places bytes spot (image ++ tail) stands).within)

  pub sized : AreSized (image ++ tail)
  sized = sized_both image tail (subst AreSized is.parts.image_is log.image_sized) (subst AreSized is.parts.tail_is log.tail_sized)

  image_sized : AreSized image
  image_sized = subst AreSized is.parts.image_is log.image_sized

  image_bytes : drop found.image bytes ≡ items image ++ (records tail ++ log.gate ∷ log.rest)
  image_bytes =
      ap (λ (n : ℕ). drop n bytes) is.image_at ∙ sym (drop-drop 5 spot.start bytes) ∙ ap (drop 5) (area_there ∙ opened_area spot.format image tail (log.gate ∷ log.rest))

  tail_bytes : drop found.tail bytes ≡ records tail ++ log.gate ∷ log.rest
  tail_bytes =
      let long : length (area spot.format image) ≡ 5 + length (items image) = length_area spot.format image in
      let place : found.tail ≡ spot.start + length (area spot.format image) = omega (arith, is.tail_at, long) in
      ap (λ (n : ℕ). drop n bytes) place ∙ sym (drop-drop (length (area spot.format image)) spot.start bytes)
      ∙ ap (drop (length (area spot.format image))) (area_there ∙ append_assoc (area spot.format image) (records tail) (log.gate ∷ log.rest))
      ∙ drop_at (area spot.format image) (records tail ++ log.gate ∷ log.rest) (length (area spot.format image)) refl

  -- what is walked of the bytes
  pub walked_found : walked_items found.images found.image (drop found.image bytes) ++ walked found.records found.tail (drop found.tail bytes) ≡ placed_in spot.start image tail
  walked_found =
      let front : walked_items found.images found.image (drop found.image bytes) ≡ placed_items (spot.start + 5) image =
      (λ i. walked_items (is.images i) found.image (image_bytes i)) ∙ walked_image found.image image (records tail ++ log.gate ∷ log.rest) image_sized ∙ ap (λ (n : ℕ). placed_items n image) is.image_at in
      let back : walked found.records found.tail (drop found.tail bytes) ≡ placed (spot.start + 5 + length (items image)) tail =
      (λ i. walked (is.records i) found.tail (tail_bytes i)) ∙ walked_records found.tail tail (log.gate ∷ log.rest) (subst AreSized is.parts.tail_is log.tail_sized) ∙ ap (λ (n : ℕ). placed n tail) is.tail_at in
      λ i. front i ++ back i

-- the disk after its sync
pub opens : (disk now : DiskState) (spot : Spot) (payloads : List (List ℕ)) → Stands (bytes_of disk) spot payloads → now.story ≡ moved (after_sync disk.story.now) disk.story → IsTrue now.tells → AtRest now spot payloads
opens disk now spot payloads stands is told =
    let places = spot_places (bytes_of disk) spot payloads stands in
    let bytes : now.story.now.bytes ≡ bytes_of disk = ap (λ (s : Story). s.now.bytes) is in
    let least : now.story.now.least ≡ length (bytes_of disk) = ap (λ (s : Story). s.now.least) is in
    let long : length now.story.now.bytes ≡ length (bytes_of disk) = ap length bytes in
    rests_from now (bytes_of disk) spot payloads bytes stands told (ap (λ (s : Story). s.now.written) is) (omega (arith, least, places.within)) (omega (arith, least, long))
