-- What two passes have seen is one view, in which no less may be asked.
use Rattle.std.specs.Prelude.{Bool, List, length, true, ℕ, ◌++◌, ◌<◌, ◌≡◌}
use Rattle.site_vector.specs.declared.ids.PartId.{PartId}
use Rattle.crdt_core.specs.KindsOf.{Kinds}
use Rattle.world_model.specs.rules.Event.{Event, attempt}
use Rattle.world_model.specs.rules.Partition.{PartState}
use Rattle.world_model.specs.rules.Plan.{IsNew}
use Rattle.world_model.specs.rules.Asking.{is_own_word}
use Rattle.world_model.specs.threads.Marks.{Mark, Stands, entries_of}
use Rattle.world_model.specs.threads.Merging.{all_places, merged}
use Rattle.world_model.specs.threads.Callers.{IsCallersStep}
use Rattle.world_model.specs.threads.Allowed.{MayStand}
use Rattle.world_model.specs.threads.AreTraces.{AreTraces}
use Rattle.world_model.specs.threads.Orders.{IsOrderOf}
use Rattle.world_model.specs.threads.Views.{IsPart, NoneBears, both_seen}

-- what two passes have seen is closed; what others did meanwhile bears none of a pass's numbers; and what may be asked by what one has seen may be asked where more was seen, if all that bears its number was seen
abbrev pub LawJoins : (S E : Type 0) → Type 0
LawJoins S E = (kinds : Kinds S E) (sites parts : ℕ) (traces view : PartId → List (Mark E)) (state : PartId → PartState E) (a : AreTraces kinds sites parts traces state) (v : IsPart view traces) →
    ((other : PartId → List (Mark E)) → IsPart other traces → IsPart (both_seen view other) traces)
    × ((numbers : ℕ → Bool) → ((q : PartId) (k : ℕ) (f : Mark E) → Stands (traces q) k f → numbers f.by ≡ true → k < length (view q)) → NoneBears numbers (merged (all_places sites parts) v.rest))
    × ((base : List (Mark E)) → IsOrderOf view base → (by : ℕ) → ((q : PartId) (k : ℕ) (f : Mark E) → Stands (traces q) k f → f.by ≡ by → k < length (view q))
    → (at : PartId) (event : Event E) → is_own_word (attempt event) ≡ true → IsCallersStep a.caller by (attempt event)
    → MayStand sites parts (entries_of base) at (attempt event) → IsNew (entries_of base) event
    → MayStand sites parts (entries_of (merged (all_places sites parts) v.rest ++ base)) at (attempt event) × IsNew (entries_of (merged (all_places sites parts) v.rest ++ base)) event)
