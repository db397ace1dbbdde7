-- A log that is read again, of a disk of which every crash leaves a log with the first of some records.
use Rattle.std.proofs.Common.{◌≡◌, ◌⊎◌, inr, ⊎_elim, ℕ, true, List, Result, Ok, Err, OnOk, OnErr, IsTrue}
use Rattle.disk_core.specs.States.{DiskState, Rests, Syncs, ReadsAnImage, bytes_of}
use Rattle.disk_core.specs.Moments.{AtEachMoment}
use Rattle.disk_core.proofs.Moments.{at_first, at_last, rested, over_sync}
use Rattle.crdt_core.specs.declared.record.Record.{Record}
use Rattle.crdt_core.specs.Log.{MayFind}
use Rattle.log_records.specs.Whole.{whole_at}
use Rattle.partition_log.specs.Codec.{Codec}
use Rattle.partition_log.specs.Logs.{HoldsFront, LeavesFront, HasRecords, IsOpened}
use Rattle.partition_log.specs.Damage.{AreRecords, IsDamaged}
use Rattle.partition_log.proofs.Opened.{opened_holds}
use Rattle.partition_log.proofs.Damaged.{never_both_of}
use Rattle.partition_log.proofs.Unchanged.{image_at_rest}
use Rattle.gate_log.specs.Logs.{disk_of, read_at_opening}
use Rattle.gate_log.specs.declared.log.GateLog.{GateLog}

-- whatever is answered
pub either_way : {T X A B : Type 0} (r : Result T X) → OnOk r A → OnErr r (B ⊎ A) → B ⊎ A
either_way (Ok x) a b = inr a
either_way (Err e) a b = b

module _ {E : Type 0} (codec : Codec E) where
  -- what a call leaves, also one that was cut off
  pub front_left : (old new : DiskState) (log torn : List (Record E)) → IsTrue new.tells → AtEachMoment old.story new.story (HoldsFront codec log torn) → LeavesFront codec log torn new
  front_left old new log torn told moments = record { tells = told; each = at_last old.story new.story (HoldsFront codec log torn) moments }

  -- what a log leaves between two calls
  pub front_at_rest : {D : Type 0} (state : D → DiskState) (gates : GateLog D) (log torn : List (Record E)) → HasRecords codec state gates log → LeavesFront codec log torn (state (disk_of gates))
  front_at_rest state gates log torn has = record { tells = has.is_open.at_rest.tells; each = image_at_rest codec state gates torn log has }

module _ {E : Type 0} (codec : Codec E) (log torn : List (Record E)) (disk : DiskState) (image : ReadsAnImage disk) (leaves : LeavesFront codec log torn disk) where
  -- what is read is such a log
  front_read : HoldsFront codec log torn (bytes_of disk)
  front_read = leaves.each (bytes_of disk) (image leaves.tells)

  -- each moment of a call that syncs or does nothing
  pub front_at_each_moment : (new : DiskState) → Rests disk new ⊎ Syncs disk new → AtEachMoment disk.story new.story (HoldsFront codec log torn)
  front_at_each_moment new did = ⊎_elim
      (λ rests. rested disk.story disk.story new.story (HoldsFront codec log torn) (at_first disk.story (HoldsFront codec log torn) leaves.each) (rests leaves.tells))
      (λ syncs. over_sync disk.story new.story (HoldsFront codec log torn) leaves.each (image leaves.tells) (syncs leaves.tells))
      did

  -- and so are the records that are read
  pub front_found : {D : Type 0} (state : D → DiskState) (gates : GateLog D) → IsOpened state disk gates → (found : List (Record E)) × MayFind log torn found × AreRecords codec (read_at_opening gates) found × HasRecords codec state gates found
  front_found state gates opened = let front = front_read in let has = opened_holds codec state disk gates opened leaves.tells front.0 front.2 in (front.0, front.1, has.0, has.1)

  module _ (reads : (bytes : List ℕ) (r : Record E) → codec.spelled r ≡ true → bytes ≡ codec.bytes r → whole_at codec.reading bytes ≡ Ok r) where
    pub front_whole : (at : ℕ) → IsDamaged codec (bytes_of disk) at → ⊥
    front_whole at damaged = let front = front_read in never_both_of codec reads (bytes_of disk) front.0 at front.2 damaged
