-- Traces with one step more.
use Rattle.std.specs.Prelude.{List, false, if◌then◌else◌, length, true, ℕ, ◌<◌, ◌∷◌, ◌≡◌}
use Rattle.site_vector.specs.declared.ids.PartId.{PartId}
use Rattle.site_vector.specs.declared.ids.TxId.{TxId}
use Rattle.site_vector.specs.Ids.{same_part}
use Rattle.crdt_core.specs.KindsOf.{Kinds}
use Rattle.world_model.specs.lines.Places.{IsPlace}
use Rattle.world_model.specs.rules.Event.{attempt}
use Rattle.world_model.specs.rules.Partition.{PartState, PartStep}
use Rattle.world_model.specs.rules.Plan.{IsFit, IsNew}
use Rattle.world_model.specs.rules.World.{IsWorldRun, is_begin}
use Rattle.world_model.specs.threads.Calls.{touches}
use Rattle.world_model.specs.threads.Marks.{Mark, Stands, entries_of, is_restarted, made_at}
use Rattle.world_model.specs.threads.Callers.{IsCallersStep}
use Rattle.world_model.specs.threads.Allowed.{MayStand}
use Rattle.world_model.specs.threads.Views.{IsPart}

module _ {E : Type 0} where
  -- the traces with one more step
  abbrev pub with_step : Mark E → (PartId → List (Mark E)) → PartId → List (Mark E)
  with_step m traces q = if same_part m.at q then m ∷ traces q else traces q

  -- a step that a caller makes who has seen this view: all of the partition's trace, and all that bears its number
  pub record IsStep {S : Type 0} (kinds : Kinds S E) (sites parts : ℕ) (traces view : PartId → List (Mark E)) (state : PartId → PartState E) (caller : TxId → ℕ) (m : Mark E) (later : PartState E) : Type 0 where
    pub place : IsPlace sites parts m.at
    pub part : IsPart view traces
    pub whole : view m.at ≡ traces m.at
    pub seen : (q : PartId) → m.seen q ≡ length (view q)
    pub stamp : (q : PartId) (k : ℕ) (f : Mark E) → Stands (view q) k f → f.stamp < m.stamp
    pub number : (q : PartId) (k : ℕ) (f : Mark E) → Stands (traces q) k f → f.by ≡ m.by → k < length (view q)
    pub step : PartStep kinds sites parts m.at (state m.at) m.event later
    pub unbroken : is_restarted m.event ≡ false
    pub owned : (t : TxId) → touches m.event t ≡ true → m.by ≡ caller t
    -- in some legal order of the view it is allowed
    pub run : List (Mark E)
    pub order : (q : PartId) → made_at q run ≡ view q
    pub left : PartId → PartState E
    pub is_run : IsWorldRun kinds sites parts (entries_of run) left
    pub may : MayStand sites parts (entries_of run) m.at (attempt m.event)
    pub mine : IsCallersStep caller m.by (attempt m.event)
    pub new : IsNew (entries_of run) m.event
    pub fit : IsFit kinds m.event

  -- the numbers of callers, where a begin of m's is one more
  abbrev pub caller_with : Mark E → (TxId → ℕ) → TxId → ℕ
  caller_with m caller t = if is_begin m.event t then m.by else caller t
