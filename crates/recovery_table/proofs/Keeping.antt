-- A place keeps its partition, whatever that answers.
use Rattle.std.proofs.Common.{◌≡◌, ap, ◌∙◌, Result, Ok, Err}
use Rattle.disk_core.specs.States.{DiskState}
use Rattle.site_vector.specs.declared.ids.PartId.{PartId}
use Rattle.crdt_core.specs.KindsOf.{Kinds}
use Rattle.partition_log.specs.Codec.{Codec}
use Rattle.world_model.specs.rules.Event.{Ask, Event}
use Rattle.world_model.specs.rules.Partition.{PartState}
use Rattle.world_model.specs.lines.Places.{IsPlace}
use Rattle.partition_core.specs.Durable.{Durable}
use Rattle.partition_core.specs.Moments.{CallsOn}
use Rattle.partition_core.specs.Restarts.{RestartsOn}
use Rattle.partition_core.specs.Tables.{Tables, IsSame}
use Rattle.partition_core.specs.declared.durable.DurableError.{DurableError}
use Rattle.partition_core.specs.declared.durable.DurableError.TheVariants as call
use Rattle.partition_core.specs.declared.restart.Restarted.{Restarted}
use Rattle.partition_core.specs.declared.restart.RestartError.{RestartError}
use Rattle.partition_core.specs.declared.restart.RestartError.TheVariants as restart
use Rattle.recovery_table.specs.Places.{IsAt}

module _ {E : Type 0} (id : PartId) (old new : Tables E) where
  pub same_place : IsAt id old × IsPlace 2 2 id → IsSame old new → IsAt id new × IsPlace 2 2 id
  same_place h s = (record { id_is = s.id ∙ h.0.id_is; two_sites = s.sites ∙ h.0.two_sites; two_parts = s.parts ∙ h.0.two_parts }, h.1)

module _ {E : Type 0} (old new : Tables E) where
  pub same_tables : new ≡ old → IsSame old new
  same_tables h = record { id = ap (λ (t : Tables E). t.id) h; sites = ap (λ (t : Tables E). t.sites) h; parts = ap (λ (t : Tables E). t.parts) h }

module _ {E D : Type 0} (old new : Durable E D) where
  same_state : new ≡ old → IsSame old.tables new.tables
  same_state h = same_tables old.tables new.tables (ap (λ (t : Durable E D). t.tables) h)

module _ {S E D : Type 0} (kinds : Kinds S E) (codec : Codec E) (state : D → DiskState) (old new : Durable E D) where
  -- whatever a call answered, it is the same partition of the same cluster
  pub calls_same : (Given : PartState E → Type 0) (asked : Ask E) {A : Type 0} (Shows : A → Event E → Type 0) (r : Result A DurableError) → CallsOn kinds codec state old new Given asked Shows r → IsSame old.tables new.tables
  calls_same Given asked Shows (Ok x) h = h.same
  calls_same Given asked Shows (Err call.NoMemory) h = same_state old new h
  calls_same Given asked Shows (Err call.Down) h = same_state old new h.0
  calls_same Given asked Shows (Err call.Disk) h = h.2.same
  calls_same Given asked Shows (Err (call.Full room)) h = same_state old new h.0
  calls_same Given asked Shows (Err (call.Refused why)) h = h.same

  pub restarts_same : (r : Result Restarted RestartError) → RestartsOn kinds codec state old new r → IsSame old.tables new.tables
  restarts_same (Ok x) h = h.reads.same
  restarts_same (Err restart.Disk) h = h.1.reads.same
  restarts_same (Err restart.NoMemory) h = h.reads.same
  restarts_same (Err (restart.Damaged at)) h = h.0.reads.same
