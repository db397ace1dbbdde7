-- What contracts tell of a disk with a fuse.
use Rattle.std.proofs.Common.{arith}
use Rattle.std.specs.Prelude.{◌≡◌, ◌≢◌, ℕ, ◌+◌, ◌-◌, ◌^◌, ◌≤◌, min, ◌&&◌, Option, None, Some, is_none, Result, OnErr, IsErr}
use Rattle.disk_core.specs.States.{DiskState, fewer, Rose}
use Rattle.disk_core.specs.declared.fused.Fused.{Fused}

-- the disk inside
abbrev pub inside : {D : Type 0} → Fused D → D
inside fused = fused.disk

-- The calls up to and with the one that fires, where it is armed: at 1 the next call fires, and at 0 it has fired.
abbrev pub calls_left : {D : Type 0} → Fused D → Option ℕ
calls_left fused = fused.left

-- how many bytes are kept of the write that fires it
abbrev pub cut_length : {D : Type 0} → Fused D → ℕ
cut_length fused = fused.keep

-- The state of the disk inside, with the faults of the fuse and the calls that it leaves.
abbrev pub fused_state : {D : Type 0} → (D → DiskState) → Fused D → DiskState
fused_state state fused = let disk = state fused.disk in record {
  tells = disk.tells;
  story = disk.story;
  room = disk.room;
  faults = min (disk.faults + fused.faults) (2 ^ 64 - 1);
  left = fused.left;
  keep = fused.keep;
  starved = disk.starved;
  sound = disk.sound && is_none disk.left;
}

-- The state of the disk inside, with a fuse that isn't armed. It is sound where that is, and tells of no fuse by itself.
abbrev pub unarmed : DiskState → DiskState
unarmed disk = record disk { left = None; keep = 0; sound = disk.sound && is_none disk.left }

-- What the fuse does at a call: it counts down, and makes the call fail at its end and from then on. Every other call fails only where the disk inside does.
pub record BurnsDown {D T E : Type 0} (state : D → DiskState) (result : Result T E) (old new : Fused D) : Type 0 where
  pub counts : calls_left new ≡ fewer 1 (calls_left old)
  pub keeps : cut_length new ≡ cut_length old
  pub fires : calls_left old ≡ Some 1 → IsErr result
  pub fired : calls_left old ≡ Some 0 → IsErr result × (inside new ≡ inside old)
  pub passes : calls_left old ≢ Some 0 → calls_left old ≢ Some 1 → OnErr result (Rose (state (inside old)).faults (state (inside new)).faults)

-- the count of faults is at its end at most
pub fused_faults_fit : {D : Type 0} (state : D → DiskState) (fused : Fused D) → (fused_state state fused).faults ≤ 2 ^ 64 - 1
fused_faults_fit state fused = omega arith
