-- Calls of partitions with their callers' numbers, and which of them are a transaction's own.
use Rattle.std.specs.Prelude.{Bool, List, [], false, if◌then◌else◌, ℕ, ◌||◌, ◌∷◌}
use Rattle.site_vector.specs.declared.ids.PartId.{PartId}
use Rattle.site_vector.specs.declared.ids.TxId.{TxId}
use Rattle.site_vector.specs.Ids.{same_tx}
use Rattle.world_model.specs.rules.Event.{Entry, Event, Updated, attempt, is_decide, is_own_abort, is_prepare}
use Rattle.world_model.specs.rules.World.{is_begin}

-- an event with the number of its caller
pub record Call (E : Type 0) : Type 0 where
  pub by : ℕ
  pub entry : Entry E

module _ {E : Type 0} where
  abbrev pub entries : List (Call E) → List (Entry E)
  entries [] = []
  entries (c ∷ run) = c.entry ∷ entries run

  abbrev pub called : ℕ → PartId → Event E → Call E
  called by at event = record { by = by; entry = record { at = at; event = event } }

  -- the number that the begin of t bears
  abbrev pub caller_of : List (Call E) → TxId → ℕ
  caller_of [] t = 0
  caller_of (c ∷ run) t = if is_begin c.entry.event t then c.by else caller_of run t

  abbrev pub is_update : Event E → TxId → Bool
  is_update (Updated u s o own op read x stamp) t = same_tx u t
  is_update other t = false

  -- begins t, or is what its session alone asks for
  abbrev pub touches : Event E → TxId → Bool
  touches e t = is_begin e t || (is_update e t || (is_prepare (attempt e) t || (is_decide (attempt e) t || is_own_abort (attempt e) t)))
