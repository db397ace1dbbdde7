-- What a fuse does at a call.
use Rattle.std.specs.Prelude.{◌≡◌, ◌≢◌, ◌⊎◌, ℕ, List, length, Option, Some}
use Rattle.disk_core.specs.States.{DiskState, Rose, Writes, MayTear}
use Rattle.disk_core.specs.Counts.{counted}
use Rattle.disk_core.specs.declared.fuse.Burn.{Burn}
use Rattle.disk_core.specs.declared.fuse.Burn.TheVariants.{Passes, Fires, Fired}

-- by the calls that were left, and the faults of the fuse before and after
abbrev pub IsBurn : Burn → Option ℕ → ℕ → ℕ → Type 0
IsBurn Passes left before now = (left ≢ Some 0) × (left ≢ Some 1) × (now ≡ before)
IsBurn Fires left before now = (left ≡ Some 1) × (now ≡ counted before)
IsBurn Fired left before now = (left ≡ Some 0) × (now ≡ counted before)

-- these bytes are written, or the disk failed at them by itself
abbrev pub WritesOrFails : ℕ → List ℕ → DiskState → DiskState → Type 0
WritesOrFails at bytes old new = Writes at bytes old new ⊎ (MayTear at (length bytes) old new × Rose old.faults new.faults)
