-- Steps of partitions with what their callers had seen.
use Rattle.std.specs.Prelude.{Bool, List, [], false, if◌then◌else◌, leb, length, true, ℕ, ◌∷◌, ◌≡◌, ◌⊎◌}
use Rattle.site_vector.specs.declared.ids.PartId.{PartId}
use Rattle.site_vector.specs.Ids.{same_part}
use Rattle.world_model.specs.rules.Event.{Entry, Event, Restarted}
use Rattle.world_model.specs.threads.Calls.{Call, called}

-- a step of a partition, with its caller's number, its stamp, and how many steps of each partition the caller had seen: what it used stands among them
pub record Mark (E : Type 0) : Type 0 where
  pub at : PartId
  pub event : Event E
  pub by : ℕ
  pub stamp : ℕ
  pub seen : PartId → ℕ

module _ {E : Type 0} where
  abbrev pub entry_of : Mark E → Entry E
  entry_of m = record { at = m.at; event = m.event }

  -- the call that it was, by its caller
  abbrev pub call_of : Mark E → Call E
  call_of m = called m.by m.at m.event

  abbrev pub calls : List (Mark E) → List (Call E)
  calls [] = []
  calls (m ∷ ms) = call_of m ∷ calls ms

  abbrev pub entries_of : List (Mark E) → List (Entry E)
  entries_of [] = []
  entries_of (m ∷ ms) = entry_of m ∷ entries_of ms

  abbrev pub events : List (Mark E) → List (Event E)
  events [] = []
  events (m ∷ ms) = m.event ∷ events ms

  abbrev pub made_at : PartId → List (Mark E) → List (Mark E)
  made_at p [] = []
  made_at p (m ∷ ms) = if same_part m.at p then m ∷ made_at p ms else made_at p ms

  -- the first n steps of a trace, the newest first
  abbrev pub first_of_trace : ℕ → List (Mark E) → List (Mark E)
  first_of_trace n [] = []
  first_of_trace n (m ∷ ms) = if leb (length (m ∷ ms)) n then m ∷ ms else first_of_trace n ms

  -- m stands in the trace, and n steps before it
  abbrev pub Stands : List (Mark E) → ℕ → Mark E → Type 0
  Stands [] n m = ⊥
  Stands (x ∷ ms) n m = ((x ≡ m) × (n ≡ length ms)) ⊎ Stands ms n m

  abbrev pub is_restarted : Event E → Bool
  is_restarted (Restarted n b named listed) = true
  is_restarted other = false
