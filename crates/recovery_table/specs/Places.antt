-- What a place keeps of its partition, and when a message may be taken there.
use Rattle.std.specs.Prelude.{◌≡◌, ◌≢◌, ℕ, ℤ, ◌≤◌, true, false}
use Rattle.site_vector.specs.declared.ids.PartId.{PartId}
use Rattle.site_vector.specs.declared.ids.TxId.{TxId}
use Rattle.site_vector.specs.Vector.{entry}
use Rattle.crdt_core.specs.declared.record.Message.{Message}
use Rattle.crdt_core.specs.declared.record.Record.{Record}
use Rattle.crdt_core.specs.Parts.{lists, above}
use Rattle.crdt_meanings.specs.CounterPn.{pn_has}
use Rattle.crdt_counters.specs.EffectForm.{is_amount_number, is_of_kind}
use Rattle.log_records.specs.Messages.{can_put_message}
use Rattle.log_records.specs.Records.{can_put_record}
use Rattle.partition_core.specs.Messages.{AreApart, AreWideParts}
use Rattle.partition_core.specs.Tables.{Tables}

-- the tables are of this partition, of a cluster of two sites with two partitions each
pub record IsAt {E : Type 0} (id : PartId) (t : Tables E) : Type 0 where
  pub id_is : t.id ≡ id
  pub two_sites : t.sites ≡ 2
  pub two_parts : t.parts ≡ 2

-- what the partition of this site rests on when it takes a message
pub record MayTake {E : Type 0} (site : ℕ) (t : Tables E) (m : Message E) : Type 0 where
  pub least : 1 ≤ m.from
  pub most : m.from ≤ 2
  pub wide : AreWideParts 2 m.parts
  pub apart : AreApart m.parts
  pub away : (u : TxId) → lists m.parts u ≡ true → u.site ≢ site
  pub not_held : (u : TxId) → lists (above m.from (entry t.bounds m.from) m.parts) u ≡ true → lists t.held u ≡ false

-- the record of a partition of counters, and the message to one, has a spelling
abbrev pub CanPut : Record ℤ → Type 0
CanPut r = can_put_record pn_has is_of_kind is_amount_number r ≡ true

abbrev pub CanPutMessage : Message ℤ → Type 0
CanPutMessage m = can_put_message pn_has is_of_kind is_amount_number m ≡ true
