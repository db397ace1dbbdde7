-- One call of a partition by a thread.
use Rattle.std.specs.Prelude.{List, [], false, if◌then◌else◌, length, true, ℕ, ◌++◌, ◌<◌, ◌∷◌, ◌≡◌}
use Rattle.site_vector.specs.declared.ids.PartId.{PartId}
use Rattle.site_vector.specs.declared.ids.TxId.{TxId}
use Rattle.site_vector.specs.Ids.{same_part}
use Rattle.crdt_core.specs.KindsOf.{Kinds}
use Rattle.world_model.specs.lines.Places.{IsPlace}
use Rattle.world_model.specs.rules.Event.{attempt}
use Rattle.world_model.specs.rules.Partition.{PartState, PartStep, new_part}
use Rattle.world_model.specs.rules.Plan.{IsFit, IsNew}
use Rattle.world_model.specs.rules.Asking.{is_own_word}
use Rattle.world_model.specs.threads.Marks.{Mark, Stands, entries_of, is_restarted}
use Rattle.world_model.specs.threads.Callers.{IsCallersStep}
use Rattle.world_model.specs.threads.Allowed.{MayStand}
use Rattle.world_model.specs.threads.AreTraces.{AreTraces}
use Rattle.world_model.specs.threads.Orders.{IsOrderOf}
use Rattle.world_model.specs.threads.Views.{IsPart, both_seen}
use Rattle.world_model.specs.threads.Steps.{with_step}

module _ {E : Type 0} where
  -- a pass calls m.at, whose seat has seen this: by what the pass has seen the step is allowed
  pub record IsCall {S : Type 0} (kinds : Kinds S E) (sites parts : ℕ) (traces view here : PartId → List (Mark E)) (state : PartId → PartState E) (caller : TxId → ℕ) (base : List (Mark E)) (m : Mark E) (later : PartState E) : Type 0 where
    pub place : IsPlace sites parts m.at
    pub pass : IsPart view traces
    pub seat : IsPart here traces
    pub whole : here m.at ≡ traces m.at
    pub seen : (q : PartId) → m.seen q ≡ length (both_seen view here q)
    pub stamp : (q : PartId) (k : ℕ) (f : Mark E) → Stands (both_seen view here q) k f → f.stamp < m.stamp
    -- the pass has seen all that bears the number
    pub number : (q : PartId) (k : ℕ) (f : Mark E) → Stands (traces q) k f → f.by ≡ m.by → k < length (view q)
    pub step : PartStep kinds sites parts m.at (state m.at) m.event later
    pub unbroken : is_restarted m.event ≡ false
    pub order : IsOrderOf view base
    pub may : MayStand sites parts (entries_of base) m.at (attempt m.event)
    pub own_word : is_own_word (attempt m.event) ≡ true
    pub mine : IsCallersStep caller m.by (attempt m.event)
    pub new : IsNew (entries_of base) m.event
    pub fit : IsFit kinds m.event

-- so after a call the traces with its step are traces, and the pass's order goes on by it
abbrev pub LawCalls : (S E : Type 0) → Type 0
LawCalls S E = (kinds : Kinds S E) (sites parts : ℕ) →
    AreTraces {E = E} kinds sites parts (λ q. []) (λ q. new_part sites parts)
    × ((traces view here : PartId → List (Mark E)) (state : PartId → PartState E) (a : AreTraces kinds sites parts traces state) (base : List (Mark E)) (m : Mark E) (later : PartState E) → IsCall kinds sites parts traces view here state a.caller base m later
    → AreTraces kinds sites parts (with_step m traces) (λ q. if same_part m.at q then later else state q)
    × ((more : List (Mark E)) × IsOrderOf (with_step m (both_seen view here)) (m ∷ (more ++ base))))
