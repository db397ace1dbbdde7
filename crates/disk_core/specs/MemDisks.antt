-- What contracts tell of a disk in memory.
use Rattle.std.specs.Prelude.{◌≡◌, ℕ, Bool, true, false, List, [], None, Result, is_err, if◌then◌else◌, refl}
use Rattle.disk_core.specs.Images.{settled}
use Rattle.disk_core.specs.States.{DiskState, ReadsAnImage}
use Rattle.disk_core.specs.Counts.{counted, is_listed, is_empty}
use Rattle.disk_core.specs.Mediums.{story_of}
use Rattle.disk_core.specs.declared.memory.MemDisk.{MemDisk}

-- It tells what it holds, and no calls left. It is sound where no calls are listed that are to fail.
abbrev pub mem_state : MemDisk → DiskState
mem_state disk = record { tells = true; story = story_of disk.medium; room = disk.room; faults = disk.calls.failed; left = None; keep = 0; starved = disk.starved; sound = is_empty disk.calls.failing.items }

-- how many calls were made
abbrev pub calls_made : MemDisk → ℕ
calls_made disk = disk.calls.made

-- the numbers of the calls that are to fail
abbrev pub calls_to_fail : MemDisk → List ℕ
calls_to_fail disk = disk.calls.failing.items

-- the next call is one of them
abbrev pub is_due : MemDisk → Bool
is_due disk = is_listed (calls_to_fail disk) (calls_made disk)

-- One more call was made, which is a fault where it failed, and the same ones are to fail.
pub record CountsCall {T E : Type 0} (result : Result T E) (old new : MemDisk) : Type 0 where
  pub made : calls_made new ≡ counted (calls_made old)
  pub faults : (mem_state new).faults ≡ (if is_err result then counted (mem_state old).faults else (mem_state old).faults)
  pub failing : calls_to_fail new ≡ calls_to_fail old

-- a disk that was just made of these bytes: no call failed, or is to fail
pub record IsFresh (room : ℕ) (bytes : List ℕ) (disk : MemDisk) : Type 0 where
  pub state : mem_state disk ≡ record { tells = true; story = record { now = settled bytes; past = [] }; room = room; faults = 0; left = None; keep = 0; starved = false; sound = true }
  pub made : calls_made disk ≡ 0
  pub failing : calls_to_fail disk ≡ []

-- what it reads may stay, by its own fields
pub mem_reads_an_image : (disk : MemDisk) → ReadsAnImage (mem_state disk)
mem_reads_an_image disk = λ _. record { no_shorter = disk.medium.short; no_longer = disk.medium.long; stays = λ i below apart. refl }
