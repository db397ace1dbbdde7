-- What is read of a log of payloads, as records.
use Rattle.std.proofs.Common.{inr, ℕ, List, ap, ◌∙◌, subst, IsTrue}
use Rattle.std.specs.Prelude.{map}
use Rattle.disk_core.specs.States.{DiskState, bytes_of}
use Rattle.gate_log.specs.Log.{IsLog}
use Rattle.gate_log.specs.Logs.{IsOpen, read_at_opening}
use Rattle.gate_log.specs.declared.log.GateLog.{GateLog}
use Rattle.gate_log.proofs.Unique.{one_list}
use Rattle.crdt_core.specs.declared.record.Record.{Record}
use Rattle.partition_log.specs.Codec.{Codec}
use Rattle.partition_log.specs.Logs.{payloads_of, HoldsLog, HasRecords, IsOpened}
use Rattle.partition_log.specs.Damage.{AreRecords, IsRefusedAt, IsDamaged}
use Rattle.partition_log.proofs.Reading.{same_payloads, unplaced}

module _ {E D : Type 0} (codec : Codec E) (state : D → DiskState) (disk : DiskState) (gates : GateLog D) (opened : IsOpened state disk gates) where
  -- its payloads are the records of what the disk held, where that is a log of records
  pub opened_holds : IsTrue disk.tells → (log : List (Record E)) → HoldsLog codec (bytes_of disk) log → AreRecords codec (read_at_opening gates) log × HasRecords codec state gates log
  opened_holds told log holds =
      let h = opened.holds told in
      let same = one_list (bytes_of disk) opened.payloads (payloads_of codec log) h.0 holds.is_log in (
        record { payloads = ap (map (λ item. item.1)) opened.read ∙ unplaced 8 opened.payloads ∙ same; spelled = holds.spelled },
        record { is_open = subst (λ payloads. IsOpen state gates payloads) same h.1; spelled = holds.spelled },
      )

  -- and where its payloads are records, it is a log of these
  pub opened_records : (log : List (Record E)) → AreRecords codec (read_at_opening gates) log → IsTrue disk.tells → HoldsLog codec (bytes_of disk) log × HasRecords codec state gates log
  opened_records log read told =
      let h = opened.holds told in
      let same = same_payloads codec (read_at_opening gates) opened.payloads log opened.read read in (
        record { is_log = subst (λ payloads. IsLog (bytes_of disk) payloads) same h.0; spelled = read.spelled },
        record { is_open = subst (λ payloads. IsOpen state gates payloads) same h.1; spelled = read.spelled },
      )

  -- one of its payloads is no record
  pub opened_damaged : (at : ℕ) → IsRefusedAt codec (read_at_opening gates) at → IsTrue disk.tells → IsDamaged codec (bytes_of disk) at
  opened_damaged at refused told = inr (opened.payloads, (opened.holds told).0, subst (λ items. IsRefusedAt codec items at) opened.read refused)
