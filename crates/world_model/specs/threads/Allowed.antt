-- What a step rests on: in some order of what its caller had seen it was allowed.
use Rattle.std.specs.Prelude.{List, false, true, ℕ, ⊤, ◌≡◌, ◌⊎◌}
use Rattle.site_vector.specs.declared.ids.PartId.{PartId}
use Rattle.site_vector.specs.declared.ids.TxId.{TxId}
use Rattle.crdt_core.specs.KindsOf.{Kinds}
use Rattle.world_model.specs.rules.Event.{Aborted, Ask, AskAbort, Entry, Event, attempt, was_aborted}
use Rattle.world_model.specs.rules.Partition.{PartState}
use Rattle.world_model.specs.rules.Plan.{IsFit, IsNew}
use Rattle.world_model.specs.rules.World.{IsWorldRun, begun, lead_of}
use Rattle.world_model.specs.rules.Asking.{MayCall, asked_by}
use Rattle.world_model.specs.threads.Marks.{Mark, entries_of, first_of_trace, made_at}
use Rattle.world_model.specs.threads.Callers.{IsCallersStep}

module _ {E : Type 0} where
  -- who aborts on its own word has begun
  abbrev pub HasBegun : List (Entry E) → Ask E → Type 0
  HasBegun run (AskAbort t) = begun run t ≡ true
  HasBegun run other = ⊤

  -- by what was seen: an abort on the lead's word is the lead's, or comes after the lead's; all else was asked by the rule
  abbrev pub MayStand : ℕ → ℕ → List (Entry E) → PartId → Event E → Type 0
  MayStand sites parts run at (Aborted t false) = (at ≡ lead_of sites parts run t) ⊎ (was_aborted run t (lead_of sites parts run t) ≡ true)
  MayStand sites parts run at event = MayCall sites parts run at (asked_by event) × HasBegun run (asked_by event)

  -- in a legal order of what its caller had seen the step was allowed
  pub record WasAllowed {S : Type 0} (kinds : Kinds S E) (sites parts : ℕ) (traces : PartId → List (Mark E)) (caller : TxId → ℕ) (m : Mark E) : Type 0 where
    pub run : List (Mark E)
    pub seen : (q : PartId) → made_at q run ≡ first_of_trace (m.seen q) (traces q)
    pub state : PartId → PartState E
    pub is_run : IsWorldRun kinds sites parts (entries_of run) state
    pub may : MayStand sites parts (entries_of run) m.at (attempt m.event)
    pub mine : IsCallersStep caller m.by (attempt m.event)
    pub new : IsNew (entries_of run) m.event
    pub fit : IsFit kinds m.event
