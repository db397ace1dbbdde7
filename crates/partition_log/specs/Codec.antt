-- The bytes of records, as one record made of what a type says of its effects' bytes.
use Rattle.std.specs.Prelude.{ℕ, Bool, List}
use Rattle.field_codec.specs.Reading.{Read}
use Rattle.crdt_core.specs.declared.kind.Kind.{Kind}
use Rattle.crdt_core.specs.declared.record.Record.{Record}
use Rattle.crdt_core.specs.EffectForm.{SpellsEffects}
use Rattle.log_records.specs.Records.{is_record_spelled, record_bytes, record_at}

pub record Codec (E : Type 0) : Type 0 where
  -- which records have a spelling
  pub spelled : Record E → Bool
  pub bytes : Record E → List ℕ
  pub reading : List ℕ → ℕ → Read (Record E)

-- those of a type that implements `Crdt`, by its member `spells`
abbrev pub codec_of : {E : Type 0} {has : Kind → Bool} {is_of : Kind → E → Bool} {can_put keeps is_spelled : E → Bool} {spelling : E → List ℕ} {reading : Kind → List ℕ → ℕ → Read E}
    → SpellsEffects has is_of can_put keeps is_spelled spelling reading → Codec E
codec_of {has = has} {is_of = is_of} {is_spelled = is_spelled} {spelling = spelling} {reading = reading} spells = record {
  spelled = is_record_spelled has is_of is_spelled;
  bytes = record_bytes spelling;
  reading = record_at has reading;
}
