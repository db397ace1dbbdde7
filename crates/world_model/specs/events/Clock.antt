-- The clock law, by what a run shows: no time falls.
use Rattle.std.specs.Prelude.{◌≡◌, ◌+◌, ◌≤◌, max, List, [], ◌∷◌, ⊤}
use Rattle.site_vector.specs.declared.ids.PartId.{PartId}
use Rattle.world_model.specs.rules.Event.{Event, Ticked, Began, Prepared, Restarted, Cut, Entry, shown, missed}

module _ {E : Type 0} where
  -- times shown never fall; a restart shows at most 1,000 more than was shown or would have been
  abbrev pub ClockIs : List (Entry E) → PartId → Event E → Type 0
  ClockIs run p (Ticked r n) = n ≡ max r (shown run p)
  ClockIs run p (Began who dep t s) = t.time ≡ shown run p + 1
  ClockIs run p (Prepared t s l w n) = n ≡ shown run p + 1
  ClockIs run p (Restarted n b named listed) = (shown run p ≤ n) × (n ≤ 1000 + max (shown run p) (missed run p))
  -- and what a call would have shown that was cut off
  ClockIs run p (Cut (Ticked r n)) = n ≡ max r (shown run p)
  ClockIs run p (Cut (Began who dep t s)) = t.time ≡ shown run p + 1
  ClockIs run p (Cut (Prepared t s l w n)) = n ≡ shown run p + 1
  ClockIs run p other = ⊤

  abbrev pub ClocksAre : List (Entry E) → Type 0
  ClocksAre [] = ⊤
  ClocksAre (e ∷ run) = ClockIs run e.at e.event × ClocksAre run
