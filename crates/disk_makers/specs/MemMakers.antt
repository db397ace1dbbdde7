-- What contracts tell of a maker of disks in memory.
use Rattle.std.specs.Prelude.{◌≡◌, ◌↔◌, ℕ, Bool, true, List, if◌then◌else◌, Result, Err, IfOk}
use Rattle.disk_core.specs.Counts.{counted, is_listed}
use Rattle.disk_core.specs.MemDisks.{mem_state, calls_to_fail}
use Rattle.disk_core.specs.declared.memory.MemDisk.{MemDisk}
use Rattle.disk_makers.specs.Makers.{Maker}
use Rattle.disk_makers.specs.declared.error.MakeFault.{MakeFault}
use Rattle.disk_makers.specs.declared.error.MakeFault.TheVariants.{Failed}
use Rattle.disk_makers.specs.declared.memory.MemDisks.{MemDisks}

abbrev pub mem_maker : MemDisks → Maker MemDisk
mem_maker maker = record { faults = maker.calls.failed; out = maker.out; tells = true; given = maker.stored.items }

-- the room of each disk that it makes
abbrev pub disk_room : MemDisks → ℕ
disk_room maker = maker.room

-- how many calls of `make` there were
abbrev pub makes_begun : MemDisks → ℕ
makes_begun maker = maker.calls.made

-- the numbers of the calls of `make` that are to fail
abbrev pub makes_to_fail : MemDisks → List ℕ
makes_to_fail maker = maker.calls.failing.items

-- the numbers of the calls that are to fail of each disk that it makes
abbrev pub disk_calls_to_fail : MemDisks → List ℕ
disk_calls_to_fail maker = maker.disk_calls.items

-- the next call of `make` is to fail
abbrev pub is_due : MemDisks → Bool
is_due maker = is_listed (makes_to_fail maker) (makes_begun maker)

-- It makes disks of the same room, and the same calls are to fail.
pub record IsSameMaker (old new : MemDisks) : Type 0 where
  pub room : disk_room new ≡ disk_room old
  pub to_fail : makes_to_fail new ≡ makes_to_fail old
  pub disk_calls : disk_calls_to_fail new ≡ disk_calls_to_fail old

-- One more call of `make`, which failed exactly where its number is listed; each disk has the room and the list that are set.
pub record CountsMake (result : Result MemDisk MakeFault) (old new : MemDisks) : Type 0 where
  pub due : (result ≡ Err Failed) ↔ (is_due old ≡ true)
  pub begun : makes_begun new ≡ counted (makes_begun old)
  pub faults : (mem_maker new).faults ≡ (if is_due old then counted (mem_maker old).faults else (mem_maker old).faults)
  pub room : IfOk result (λ disk. (mem_state disk).room ≡ disk_room old)
  pub listed : IfOk result (λ disk. calls_to_fail disk ≡ disk_calls_to_fail old)
  pub same : IsSameMaker old new
