-- Which bytes are no log of records, and at which place; and what is read of a log.
use Rattle.std.specs.Prelude.{◌≡◌, ◌⊎◌, ℕ, ◌+◌, true, List, ◌∷◌, ◌++◌, map, Err}
use Rattle.gate_log.specs.Log.{IsLog}
use Rattle.gate_log.specs.Damage.{IsDamagedAt}
use Rattle.gate_log.specs.Payloads.{placed}
use Rattle.crdt_core.specs.declared.record.Record.{Record}
use Rattle.log_records.specs.declared.error.RecordError.TheVariants.{Damaged}
use Rattle.log_records.specs.Whole.{whole_at}
use Rattle.partition_log.specs.Codec.{Codec}
use Rattle.partition_log.specs.Logs.{payloads_of, are_spelled}

module _ {E : Type 0} (codec : Codec E) where
  -- the payload is a record
  abbrev pub IsRecord : List ℕ → Type 0
  IsRecord payload = (r : Record E) × (codec.spelled r ≡ true) × (payload ≡ codec.bytes r)

  -- the payloads, each with its place, are those of these records, newest first
  pub record AreRecords (items : List (ℕ × List ℕ)) (log : List (Record E)) : Type 0 where
    pub payloads : map (λ item. item.1) items ≡ payloads_of codec log
    pub spelled : are_spelled codec log ≡ true

  -- the first payload that is no record is damaged at this place of the log
  pub record IsRefusedAt (items : List (ℕ × List ℕ)) (at : ℕ) : Type 0 where
    pub front : List (ℕ × List ℕ)
    pub place : ℕ
    pub payload : List ℕ
    pub back : List (ℕ × List ℕ)
    pub is : items ≡ front ++ (place, payload) ∷ back
    pub log : List (Record E)
    pub before : AreRecords front log
    pub within : ℕ
    pub damaged : whole_at codec.reading payload ≡ Err (Damaged within)
    pub here : at ≡ place + within

  -- they are no log of payloads, or their first payload that is no record is damaged there
  abbrev pub IsDamaged : List ℕ → ℕ → Type 0
  IsDamaged bytes at = IsDamagedAt bytes at ⊎ ((payloads : List (List ℕ)) × IsLog bytes payloads × IsRefusedAt (placed 8 payloads) at)
