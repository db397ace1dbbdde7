-- A log between two calls.
use Rattle.std.specs.Prelude.{◌≡◌, ℕ, ◌<◌, ◌≤◌, List, [], length, Option, IsTrue}
use Rattle.disk_core.specs.Images.{IsSettled, after_write, after_sync}
use Rattle.disk_core.specs.States.{Story, DiskState, fewer, moved}
use Rattle.gate_log.specs.Log.{IsLog, IsTail, end_of, tail_end}

-- The disk tells what it holds, all of it is durable, and it is a log of these payloads, whose closed gate stands at `end`.
pub record AtRest (disk : DiskState) (end : ℕ) (payloads : List (List ℕ)) : Type 0 where
  pub tells : IsTrue disk.tells
  pub settled : IsSettled disk.story.now
  pub log : IsLog disk.story.now.bytes payloads
  pub place : end ≡ end_of payloads

-- The disk tells what it holds. Behind this front stand the records of these payloads, and all up to their closed gate is durable, whatever a crash leaves behind it.
pub record RestsBehind (front : List ℕ) (disk : DiskState) (end : ℕ) (payloads : List (List ℕ)) : Type 0 where
  pub tells : IsTrue disk.tells
  pub unwritten : disk.story.now.written ≡ []
  pub durable : end < disk.story.now.least
  pub whole : disk.story.now.least ≤ length disk.story.now.bytes
  pub log : IsTail front disk.story.now.bytes payloads
  pub place : end ≡ tail_end front payloads

-- it is a log without a record, whose closed gate stands behind the header
abbrev pub IsEmptyLog : DiskState → Type 0
IsEmptyLog disk = AtRest disk 8 []

-- So many calls of the disk were made at most, by the calls that were left before and after.
pub record Lowers (most : ℕ) (before after : Option ℕ) : Type 0 where
  pub count : ℕ
  pub less : count ≤ most
  pub left : after ≡ fewer count before

-- what stands once these bytes are written and made durable
abbrev pub synced_write : ℕ → List ℕ → Story → Story
synced_write at bytes old = let wrote = moved (after_write at bytes old.now) old in moved (after_sync wrote.now) wrote

abbrev pub WritesDurably : ℕ → List ℕ → DiskState → DiskState → Type 0
WritesDurably at bytes old new = IsTrue old.tells → new.story ≡ synced_write at bytes old.story
