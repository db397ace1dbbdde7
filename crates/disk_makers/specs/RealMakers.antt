-- What contracts tell of the maker of a program's disks.
use Rattle.std.proofs.Common.{arith}
use Rattle.std.specs.Prelude.{ℕ, min, ◌≤◌, ◌-◌, ◌^◌, false, List, [], Option, option_map, string_bytes}
use Rattle.disk_makers.specs.Makers.{Maker}
use Rattle.disk_makers.specs.declared.backing.SystemFile.{SystemFile}
use Rattle.disk_makers.specs.declared.file.FileDisk.{FileDisk}
use Rattle.disk_makers.specs.declared.real.RealDisks.{RealDisks}

-- it tells nothing of what was given back
abbrev pub real_maker : {R F G : Type 0} → RealDisks R F G → Maker (FileDisk (SystemFile F))
real_maker maker = record { faults = min maker.faults (2 ^ 64 - 1); out = maker.out; tells = false; given = [] }

-- the name of the folder in which the disks are kept, if in one
abbrev pub folder_of : {R F G : Type 0} → RealDisks R F G → Option (List ℕ)
folder_of maker = option_map string_bytes maker.folder

-- the count of faults is at its end at most
pub real_faults_fit : {R F G : Type 0} (maker : RealDisks R F G) → (real_maker maker).faults ≤ 2 ^ 64 - 1
real_faults_fit maker = omega arith
