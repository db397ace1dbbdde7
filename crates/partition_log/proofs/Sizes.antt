-- The length of a log by its records.
use Rattle.std.proofs.Common.{◌≡◌, ◌+◌, List, [], ◌∷◌, refl, ◌∙◌, arith}
use Rattle.disk_core.specs.States.{DiskState}
use Rattle.gate_log.specs.Log.{end_of}
use Rattle.gate_log.specs.Logs.{gate_of}
use Rattle.gate_log.specs.declared.log.GateLog.{GateLog}
use Rattle.gate_log.proofs.Grammar.{end-push}
use Rattle.crdt_core.specs.declared.record.Record.{Record}
use Rattle.crdt_core.specs.Log.{grown}
use Rattle.partition_log.specs.Codec.{Codec}
use Rattle.partition_log.specs.Logs.{payloads_of, HasRecords, size}

module _ {E : Type 0} (codec : Codec E) where
  end_of_records : (log : List (Record E)) → end_of (payloads_of codec log) ≡ 8 + size codec log
  end_of_records [] = refl
  end_of_records (r ∷ log) = let before = end_of_records log in let more = end-push (payloads_of codec log) (codec.bytes r) in omega (arith, before, more)

  -- the closed gate of a log stands behind its first eight bytes and its records
  pub gate_of_records : {D : Type 0} (state : D → DiskState) (gates : GateLog D) (log : List (Record E)) → HasRecords codec state gates log → gate_of gates ≡ 8 + size codec log
  gate_of_records state gates log has = has.is_open.at_rest.place ∙ end_of_records log

  pub size_of_grown : (log records : List (Record E)) → size codec (grown log records) ≡ size codec log + size codec records
  size_of_grown log [] = omega arith
  size_of_grown log (r ∷ records) = let more = size_of_grown (r ∷ log) records in omega (arith, more)
