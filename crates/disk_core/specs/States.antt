-- What a disk is, and how its calls change it.
use Rattle.std.specs.Prelude.{◌≡◌, ◌⊎◌, ℕ, ◌+◌, ◌-◌, ◌^◌, ◌≤◌, min, Bool, List, ◌∷◌, length, IsTrue, Option, None, Some, option_map, Result, OnOk, OnErr, ⊤}
use Rattle.disk_core.specs.Images.{Content, Image, IsTorn, after_write, after_cut, after_sync}

-- what it holds, and what it held before each change, the newest first
pub record Story : Type 0 where
  pub now : Content
  pub past : List Content

pub record DiskState : Type 0 where
  -- whether it tells its story
  pub tells : Bool
  pub story : Story
  -- the greatest length
  pub room : ℕ
  -- how many faults it counted
  pub faults : ℕ
  -- how many calls are left, up to and with the one that is to fail, where it tells that
  pub left : Option ℕ
  -- how many bytes are kept of that one where it is a write, where it tells that
  pub keep : ℕ
  -- whether a call failed because it found no memory to grow
  pub starved : Bool
  -- whether it fails only where it finds no memory to grow, or by a fuse
  pub sound : Bool

-- so many calls fewer
abbrev pub fewer : ℕ → Option ℕ → Option ℕ
fewer k left = option_map (λ n. n - k) left

-- so many calls go by before the one that is to fail
abbrev pub Spared : ℕ → Option ℕ → Type 0
Spared k None = ⊤
Spared k (Some n) = k ≤ n - 1

-- a count of faults rose, or stands at its end
abbrev pub Rose : ℕ → ℕ → Type 0
Rose before now = min (before + 1) (2 ^ 64 - 1) ≤ now

-- A call of it failed: the count rose, and a sound one found no memory to grow, or its fuse fires or has fired.
pub record Fails (old new : DiskState) : Type 0 where
  pub rose : Rose old.faults new.faults
  pub cause : IsTrue old.sound → IsTrue new.starved ⊎ (new.left ≡ Some 0)

-- What holds after every call of the device.
pub record Called {T E : Type 0} (result : Result T E) (old new : DiskState) : Type 0 where
  pub tells : new.tells ≡ old.tells
  pub room : new.room ≡ old.room
  pub left : new.left ≡ fewer 1 old.left
  pub keep : new.keep ≡ old.keep
  pub sound : new.sound ≡ old.sound
  -- the one that is to fail does, and so does each after it
  pub spared : OnOk result (Spared 1 old.left)
  -- it fails only where the count rises, which never falls, and counts no fault where it doesn't fail
  pub later : old.faults ≤ new.faults
  pub failed : OnErr result (Fails old new)
  pub quiet : OnOk result (new.faults ≡ old.faults)
  -- only a call that fails may starve it, and it stays so
  pub fed : OnOk result (new.starved ≡ old.starved)
  pub starved : IsTrue old.starved → IsTrue new.starved

-- What holds after any number of calls, whatever they answered.
pub record GoesOn (old new : DiskState) : Type 0 where
  pub tells : new.tells ≡ old.tells
  pub room : new.room ≡ old.room
  pub sound : new.sound ≡ old.sound
  pub later : old.faults ≤ new.faults
  pub starved : IsTrue old.starved → IsTrue new.starved

-- a new content, and the old one past
abbrev pub moved : Content → Story → Story
moved next old = record { now = next; past = old.now ∷ old.past }

-- What each call does to the story of a disk that tells it.
abbrev pub Rests : DiskState → DiskState → Type 0
Rests old new = IsTrue old.tells → new.story ≡ old.story

abbrev pub Writes : ℕ → List ℕ → DiskState → DiskState → Type 0
Writes at bytes old new = IsTrue old.tells → new.story ≡ moved (after_write at bytes old.story.now) old.story

abbrev pub Cuts : ℕ → DiskState → DiskState → Type 0
Cuts len old new = IsTrue old.tells → new.story ≡ moved (after_cut len old.story.now) old.story

abbrev pub Syncs : DiskState → DiskState → Type 0
Syncs old new = IsTrue old.tells → new.story ≡ moved (after_sync old.story.now) old.story

-- a write that failed changed nothing, or tore at most its range
abbrev pub TearsAtMost : ℕ → ℕ → Story → Story → Type 0
TearsAtMost at n old new = (new ≡ old) ⊎ ((m : ℕ) × (m ≤ n) × IsTorn at m old.now new.now × (new.past ≡ old.now ∷ old.past))

abbrev pub MayTear : ℕ → ℕ → DiskState → DiskState → Type 0
MayTear at n old new = IsTrue old.tells → TearsAtMost at n old.story new.story

-- the place is within what it holds, where it tells that
abbrev pub IsWithin : ℕ → DiskState → Type 0
IsWithin at disk = IsTrue disk.tells → at ≤ length disk.story.now.bytes

-- the bytes that it holds, where it tells them
abbrev pub bytes_of : DiskState → List ℕ
bytes_of disk = disk.story.now.bytes

-- what it reads may stay after a crash
abbrev pub ReadsAnImage : DiskState → Type 0
ReadsAnImage disk = IsTrue disk.tells → Image disk.story.now (bytes_of disk)
