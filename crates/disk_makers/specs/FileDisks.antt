-- What contracts tell of a disk that is kept in a file.
use Rattle.std.proofs.Common.{arith}
use Rattle.std.specs.Prelude.{◌≡◌, ℕ, ◌+◌, ◌-◌, ◌^◌, ◌≤◌, min, ◌==◌, ◌&&◌, ◌||◌, Bool, true, false, [], Option, None, Some, is_none, is_some, Result, IsErr}
use Rattle.disk_core.specs.Images.{Content, settled}
use Rattle.disk_core.specs.MemDisks.{mem_state, mem_reads_an_image}
use Rattle.disk_core.specs.States.{DiskState, ReadsAnImage}
use Rattle.disk_makers.specs.declared.file.FileDisk.{FileDisk}

-- the state of the disk in memory, with the faults of the file. It is sound without one, where it failed only when it starved.
abbrev pub file_state : {F : Type 0} → FileDisk F → DiskState
file_state disk = let inside = mem_state disk.memory in record {
  tells = inside.tells;
  story = inside.story;
  room = inside.room;
  faults = min (inside.faults + disk.faults) (2 ^ 64 - 1);
  left = inside.left;
  keep = inside.keep;
  starved = inside.starved;
  sound = inside.sound && ((disk.faults == 0 || inside.starved) && is_none disk.file);
}

-- an empty disk of this room, sound or not, that has met no fault
abbrev pub fresh_state : ℕ → Bool → DiskState
fresh_state room sound = record { tells = true; story = record { now = settled []; past = [] }; room = room; faults = 0; left = None; keep = 0; starved = false; sound = sound }

-- whether it is kept in a file
abbrev pub is_in_file : {F : Type 0} → FileDisk F → Bool
is_in_file disk = is_some disk.file

-- as long as no call failed at the file, it holds what the disk holds, where it tells that, and a crash may leave the same of both
abbrev pub IsMirrored : {F : Type 0} → (F → Option Content) → FileDisk F → Type 0
IsMirrored {F = F} held disk = (file : F) (content : Content) → disk.file ≡ Some file → disk.faults ≡ 0 → held file ≡ Some content → content ≡ (mem_state disk.memory).story.now

-- a call failed at its file, or after that
abbrev pub has_failed : {F : Type 0} → FileDisk F → Type 0
has_failed disk = 1 ≤ disk.faults

-- Then each call fails, and the file isn't touched.
pub record StaysFailed {F T E : Type 0} (result : Result T E) (old new : FileDisk F) : Type 0 where
  pub refused : IsErr result
  pub file : new.file ≡ old.file
  pub failed : has_failed new

-- the count of faults is at its end at most
pub file_faults_fit : {F : Type 0} (disk : FileDisk F) → (file_state disk).faults ≤ 2 ^ 64 - 1
file_faults_fit disk = omega arith

pub file_room_fits : {F : Type 0} (disk : FileDisk F) → (file_state disk).room ≤ 2 ^ 31
file_room_fits disk = disk.memory.fits

-- what it reads may stay
pub file_reads_an_image : {F : Type 0} (disk : FileDisk F) → ReadsAnImage (file_state disk)
file_reads_an_image disk = mem_reads_an_image disk.memory
