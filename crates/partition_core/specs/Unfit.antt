-- A log of records that the partition can't have written.
use Rattle.std.specs.Prelude.{◌≡◌, ℕ, List, Some, slice_get}
use Rattle.site_vector.specs.declared.ids.PartId.{PartId}
use Rattle.gate_log.specs.Payloads.{placed}
use Rattle.crdt_core.specs.declared.record.Record.{Record}
use Rattle.crdt_core.specs.Fitting.{unfit}
use Rattle.partition_log.specs.Codec.{Codec}
use Rattle.partition_log.specs.Logs.{payloads_of}

-- its first record that doesn't fit the partition has its payload at this place
pub record IsUnfitAt {E : Type 0} (codec : Codec E) (sites parts : ℕ) (id : PartId) (log : List (Record E)) (at : ℕ) : Type 0 where
  pub number : ℕ
  pub first : unfit sites parts id log ≡ Some number
  pub payload : List ℕ
  pub there : slice_get (placed 8 (payloads_of codec log)) number ≡ Some (at, payload)
