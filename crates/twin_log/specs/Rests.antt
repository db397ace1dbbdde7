-- A log in two areas between two calls.
use Rattle.std.specs.Prelude.{◌≡◌, ℕ, ◌+◌, ◌-◌, nat_le, ◌^◌, ◌<◌, ◌≤◌, Bool, true, false, if◌then◌else◌, List, [], ◌++◌, length, IsTrue}
use Rattle.disk_core.specs.States.{DiskState}
use Rattle.gate_log.specs.Log.{records, AreSized}
use Rattle.twin_log.specs.Twin.{IsTwinLog, is_format, is_second, start_of, area, closed_area}
use Rattle.twin_log.specs.declared.spot.Spot.{Spot}

-- The bytes are a log of these payloads, which stands at this spot.
pub record Stands (bytes : List ℕ) (spot : Spot) (payloads : List (List ℕ)) : Type 0 where
  pub log : IsTwinLog bytes spot.format payloads
  pub turn : spot.second ≡ is_second bytes
  pub begins : spot.start ≡ start_of bytes
  pub place : spot.end ≡ spot.start + length (area spot.format log.image ++ records log.tail)

-- The disk tells what it holds: a log of these payloads at this spot. All of it up to its closed gate is durable, and so is which start is in use.
pub record AtRest (disk : DiskState) (spot : Spot) (payloads : List (List ℕ)) : Type 0 where
  pub tells : IsTrue disk.tells
  pub unwritten : disk.story.now.written ≡ []
  pub durable : spot.end < disk.story.now.least
  pub whole : disk.story.now.least ≤ length disk.story.now.bytes
  pub stands : Stands disk.story.now.bytes spot payloads

-- the spot of a log without a payload, as it is made
abbrev pub first_spot : Spot
first_spot = record { second = false; start = 25; end = 30; format = 1 }

-- it is a log without a payload
abbrev pub IsEmptyLog : DiskState → Type 0
IsEmptyLog disk = AtRest disk first_spot []

-- these bytes are a new area of these payloads
pub record IsArea (bytes : List ℕ) (format : ℕ) (payloads : List (List ℕ)) : Type 0 where
  pub is : bytes ≡ closed_area format payloads
  pub known : is_format format ≡ true
  pub few : length payloads < 2 ^ 32
  pub sized : AreSized payloads

-- a new area of so many bytes goes to the front, where it ends before the one in use
abbrev pub goes_first : Spot → ℕ → Bool
goes_first spot size = nat_le size (spot.start - 25)

-- and else behind the closed gate
abbrev pub target_for : Spot → ℕ → ℕ
target_for spot size = if goes_first spot size then 25 else spot.end + 1

-- how many calls of the disk a switch to it makes
abbrev pub calls_for : Spot → ℕ → ℕ
calls_for spot size = if goes_first spot size then 6 else 5

-- the spot of a new area of so many bytes
pub record IsNext (was : Spot) (size : ℕ) (is : Spot) : Type 0 where
  pub second : is.second ≡ (if was.second then false else true)
  pub start : is.start ≡ target_for was size
  pub gate : is.end + 1 ≡ is.start + size
