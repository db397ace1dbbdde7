-- What contracts tell of a disk that never fails.
use Rattle.std.specs.Prelude.{true, false, None, refl}
use Rattle.disk_core.specs.States.{DiskState, ReadsAnImage}
use Rattle.disk_core.specs.Mediums.{story_of}
use Rattle.disk_core.specs.declared.sure.SureDisk.{SureDisk}

-- It tells what it holds and no calls left, and its count of faults is 0 for ever.
abbrev pub sure_state : SureDisk → DiskState
sure_state disk = record { tells = true; story = story_of disk.medium; room = disk.room; faults = 0; left = None; keep = 0; starved = false; sound = true }

-- what it reads may stay, by its own fields
pub sure_reads_an_image : (disk : SureDisk) → ReadsAnImage (sure_state disk)
sure_reads_an_image disk = λ _. record { no_shorter = disk.medium.short; no_longer = disk.medium.long; stays = λ i below apart. refl }
