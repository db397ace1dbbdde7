-- The bounds of a partition, by what a run shows.
use Rattle.std.specs.Prelude.{ℕ, ◌==◌, if◌then◌else◌, List, [], ◌∷◌}
use Rattle.site_vector.specs.declared.ids.PartId.{PartId}
use Rattle.site_vector.specs.Ids.{same_part}
use Rattle.site_vector.specs.Vector.{entry}
use Rattle.world_model.specs.rules.Event.{Event, Took, Restarted, Entry, shown}
use Rattle.world_model.specs.events.Pending.{pending_shown, pending_time}
use Rattle.world_model.specs.lines.Listed.{IsBoundBy}

module _ {E : Type 0} where
  -- the bound for site j: the end of the last message taken from there, or what a later restart showed
  abbrev pub bound_after : ℕ → ℕ → Event E → ℕ
  bound_after j old (Took number m) = if m.from == j then m.hi else old
  bound_after j old (Restarted n b named listed) = entry b j
  bound_after j old other = old

  abbrev pub bound_shown : List (Entry E) → PartId → ℕ → ℕ
  bound_shown [] p j = 0
  bound_shown (e ∷ run) p j = if same_part e.at p then bound_after j (bound_shown run p j) e.event else bound_shown run p j

  -- the own bound, by what was shown
  abbrev pub IsOwnBoundAt : List (Entry E) → PartId → ℕ → Type 0
  IsOwnBoundAt run p b = IsBoundBy (shown run p) (pending_shown run p) (pending_time run p) b
