-- A session's past: what each begin is handed, and its snapshot holds, by what a run shows.
use Rattle.std.specs.Prelude.{◌≡◌, ℕ, Bool, true, false, ◌&&◌, ◌||◌, List, [], ◌∷◌, ⊤}
use Rattle.std.specs.Str.{bytes_eq}
use Rattle.site_vector.specs.declared.ids.PartId.{PartId}
use Rattle.site_vector.specs.declared.ids.TxId.{TxId}
use Rattle.site_vector.specs.Ids.{same_tx}
use Rattle.site_vector.specs.Vector.{le}
use Rattle.world_model.specs.rules.Event.{AskBegin, Event, Began, Refused, Cut, Entry}
use Rattle.world_model.specs.rules.Dependency.{IsKnownJoin}

module _ {E : Type 0} where
  abbrev pub begins_for : Event E → List ℕ → TxId → Bool
  begins_for (Began name dep u s) who t = bytes_eq name who && same_tx u t
  begins_for other who t = false

  -- t is of the session
  abbrev pub is_of : List (Entry E) → List ℕ → TxId → Bool
  is_of [] who t = false
  is_of (e ∷ run) who t = begins_for e.event who t || is_of run who t

  -- a begin is handed what is known, and its snapshot holds it
  abbrev pub HoldsPast : ℕ → List (Entry E) → PartId → Event E → Type 0
  HoldsPast sites run p (Began who dep t s) = IsKnownJoin sites run dep.past × (le dep.past s ≡ true)
  HoldsPast sites run p (Cut (Began who dep t s)) = IsKnownJoin sites run dep.past
  HoldsPast sites run p (Refused (AskBegin who dep) why) = IsKnownJoin sites run dep.past
  HoldsPast sites run p other = ⊤

  abbrev pub KeepPast : ℕ → List (Entry E) → Type 0
  KeepPast sites [] = ⊤
  KeepPast sites (e ∷ run) = HoldsPast sites run e.at e.event × KeepPast sites run
