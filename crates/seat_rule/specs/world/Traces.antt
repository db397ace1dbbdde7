-- The traces of seats as traces of the world.
use Rattle.std.specs.Prelude.{◌≡◌, ℕ, ◌+◌, ◌*◌, ◌-◌, leb, Bool, ◌&&◌, List, [], ◌∷◌, if◌then◌else◌}
use mathlib.Core.Option.{some}
use lib.ListN.{get_elem?}
use Rattle.site_vector.specs.declared.ids.PartId.{PartId}
use Rattle.crdt_core.specs.KindsOf.{Kinds}
use Rattle.world_model.specs.rules.Event.{Event}
use Rattle.world_model.specs.rules.Partition.{PartState}
use Rattle.world_model.specs.threads.Marks.{Mark}
use Rattle.world_model.specs.threads.AreTraces.{AreTraces}
use Rattle.seat_rule.specs.declared.view.Noted.{Noted}
use Rattle.seat_rule.specs.Lists.{cite}

-- the word of a partition in the table
abbrev pub word_of : ℕ → PartId → ℕ
word_of parts p = (p.site - 1) * parts + (p.part - 1)

abbrev pub is_place : ℕ → ℕ → PartId → Bool
is_place sites parts p = leb 1 p.site && (leb p.site sites && (leb 1 p.part && leb p.part parts))

module _ {T E : Type 0} (event_of : T → Event E) (sites parts : ℕ) where
  abbrev pub mark_of : PartId → Noted T → Mark E
  mark_of p e = record {
    at = p;
    event = event_of e.told;
    by = e.by;
    stamp = e.stamp;
    seen = λ q. if is_place sites parts q then cite e.cites (word_of parts q) else 0;
  }

  -- the newest first, with these below
  abbrev pub turned : PartId → List (Mark E) → List (Noted T) → List (Mark E)
  turned p top [] = top
  turned p top (e ∷ es) = turned p (mark_of p e ∷ top) es

  abbrev pub traces_of : (ℕ → List (Noted T)) → PartId → List (Mark E)
  traces_of logs p = if is_place sites parts p then turned p [] (logs (word_of parts p)) else []

  -- they are traces of the world, and of each event alone this holds
  pub record IsLawful {S : Type 0} (kinds : Kinds S E) (ok : Event E → Type 0) (logs : ℕ → List (Noted T)) : Type 0 where
    pub good : (q i : ℕ) (e : Noted T) → get_elem? (logs q) i ≡ some e → ok (event_of e.told)
    pub state : PartId → PartState E
    pub are : AreTraces kinds sites parts (traces_of logs) state
