-- What a maker of disks is, and how its calls change it.
use Rattle.std.specs.Prelude.{◌≡◌, ℕ, ◌+◌, ◌≤◌, Bool, true, false, List, [], ◌∷◌, ◌++◌, Option, None, IsTrue, Result, Err, IfOk, OnOk, OnErr}
use Rattle.disk_core.specs.States.{DiskState, Rose}
use Rattle.gate_log.specs.Rest.{IsEmptyLog}
use Rattle.site_vector.specs.declared.ids.PartId.{PartId}
use Rattle.disk_makers.specs.declared.error.MakeFault.{MakeFault}
use Rattle.disk_makers.specs.declared.error.MakeFault.TheVariants.{Failed}

pub record Maker (D : Type 0) : Type 0 where
  -- how many faults it counted
  pub faults : ℕ
  -- how many disks it made that weren't given back
  pub out : ℕ
  -- whether it keeps what is given back, and tells it
  pub tells : Bool
  -- the disks that were given back, each with its partition, in the order in which they came
  pub given : List (PartId × D)

-- A disk as it is made: it tells what it holds, which is a log without a record, and all of it is durable.
pub record IsMade (disk : DiskState) : Type 0 where
  pub log : IsEmptyLog disk
  pub roomy : 64 ≤ disk.room
  pub unfailed : disk.faults ≡ 0
  pub fed : disk.starved ≡ false

-- What holds after a call that makes a disk.
pub record Makes {D : Type 0} (state : D → DiskState) (result : Result D MakeFault) (old new : Maker D) : Type 0 where
  pub made : IfOk result (λ disk. IsMade (state disk))
  -- the disk is out, or none is
  pub out : OnOk result (new.out ≡ old.out + 1)
  pub none_out : OnErr result (new.out ≡ old.out)
  -- it fails only where the count rises, which never falls
  pub later : old.faults ≤ new.faults
  pub failed : result ≡ Err Failed → Rose old.faults new.faults
  pub tells : new.tells ≡ old.tells
  pub given : new.given ≡ old.given

-- What holds after a disk was given back.
pub record TakesBack {D : Type 0} (part : PartId) (disk : D) (old new : Maker D) : Type 0 where
  pub out : old.out ≡ new.out + 1
  pub faults : new.faults ≡ old.faults
  pub tells : new.tells ≡ old.tells
  pub given : IsTrue old.tells → new.given ≡ old.given ++ (part, disk) ∷ []

-- A maker that makes all disks goes on so, and none fails to be made.
abbrev pub MakesAll : {M : Type 0} → (M → Type 0) → Type 0 → M → M → Type 0
MakesAll makes_all failed old new = makes_all old → makes_all new × (failed → ⊥)

-- It fails only where it finds no memory to grow: it is sound, and tells of no fuse.
pub record IsSound (disk : DiskState) : Type 0 where
  pub sound : disk.sound ≡ true
  pub unfused : disk.left ≡ None

-- A maker of sound disks goes on so, and made a sound one.
abbrev pub MakesSound : {M D : Type 0} → (M → Type 0) → (D → DiskState) → Result D MakeFault → M → M → Type 0
MakesSound sound state result old new = sound old → sound new × IfOk result (λ disk. IsSound (state disk))

-- what was kept in a folder stays so
abbrev pub KeepsOn : {M : Type 0} → (M → List ℕ → Type 0) → M → M → Type 0
KeepsOn keeps_in old new = (folder : List ℕ) → keeps_in old folder → keeps_in new folder
