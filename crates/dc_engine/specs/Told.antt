-- In which folder disks are kept.
use Rattle.std.specs.Prelude.{◌≡◌, ◌≢◌, ℕ, List, Option, None, IfSome, IfNone}
use Rattle.disk_makers.specs.Makers.{Maker}
use Rattle.dc_engine.specs.declared.status.Status.{Status}
use Rattle.dc_engine.specs.declared.status.Status.TheVariants.{NoDisk, NoMemory}

-- this maker was told the folder, and has made no disk since then
pub record WasTold {M D : Type 0} (keeps_in : M → List ℕ → Type 0) (state : M → Maker D) (folder : List ℕ) (old : M) : Type 0 where
  pub maker : M
  pub kept : keeps_in maker folder
  pub same : state maker ≡ state old

-- where a folder is asked for, the maker was told it, unless memory ran out
abbrev pub IsTold : {M D : Type 0} → (M → List ℕ → Type 0) → (M → Maker D) → Option (List ℕ) → Status → M → Type 0
IsTold keeps_in state folder status old = status ≢ NoMemory → IfSome folder (λ name. WasTold keeps_in state name old)

-- no folder is asked for, and each disk that the maker makes fails only where it finds no memory to grow
abbrev pub IsSoundIn : {M : Type 0} → (M → Type 0) → Option (List ℕ) → M → Type 0
IsSoundIn sound folder maker = (folder ≡ None) × sound maker

-- where no folder is asked for, a maker that fails at no call makes each disk
abbrev pub IsSure : {M : Type 0} → (M → Type 0) → Option (List ℕ) → Status → M → Type 0
IsSure sure folder status old = IfNone folder (sure old → status ≢ NoDisk)
