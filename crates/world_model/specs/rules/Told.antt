-- What partitions tell of transactions of their site is what the lines of a run tell; and what a lead's word allows.
use Rattle.std.specs.Prelude.{◌≡◌, ◌⊎◌, ℕ, true, false, not, List, ◌∷◌}
use Rattle.site_vector.specs.declared.ids.PartId.{PartId}
use Rattle.site_vector.specs.declared.ids.TxId.{TxId}
use Rattle.crdt_core.specs.KindsOf.{Kinds}
use Rattle.crdt_core.specs.Log.{pending, prepare_time, prepared_lead, committed}
use Rattle.world_model.specs.rules.Asking.{MayCall}
use Rattle.world_model.specs.rules.Event.{AskFinish, Aborted, Entry}
use Rattle.world_model.specs.lines.Fate.{is_committed_at}
use Rattle.world_model.specs.rules.Lines.{shown_lines}
use Rattle.world_model.specs.rules.Partition.{PartState, ToldCommitted, ToldAborted, fate_of}
use Rattle.world_model.specs.lines.Pending as lines
use Rattle.world_model.specs.lines.Places.{IsPlace}
use Rattle.world_model.specs.rules.Plan.{IsAllowed}
use Rattle.world_model.specs.lines.Updates.{lead}
use Rattle.world_model.specs.lines.Waiting.{waiting}
use Rattle.world_model.specs.rules.Waiting.{ArePending}
use Rattle.world_model.specs.rules.World.{plan_of, IsWorldRun}

module _ {E : Type 0} where
  pub record Told (sites parts : ℕ) (run : List (Entry E)) (state : PartId → PartState E) (p : PartId) : Type 0 where
    pub down : lines.is_down (shown_lines run) p ≡ not (state p).up
    -- `waiting` of the lines is all that is pending
    pub listed : ArePending (shown_lines run) p (waiting (shown_lines run) p)
    pub waiting : (t : TxId) → (state p).up ≡ true → pending (state p).log t ≡ lines.pending (shown_lines run) p t
    pub times : (t : TxId) → (state p).up ≡ true → pending (state p).log t ≡ true → prepare_time (state p).log t ≡ lines.prepare_time (shown_lines run) p t
    pub ended : (t : TxId) → (state p).up ≡ true → t.site ≡ p.site → committed (state p).log t ≡ is_committed_at (shown_lines run) (shown_lines run) p t
    -- what is pending was prepared with the number of its lead, which is in the cluster
    pub leads : (t : TxId) → pending (state p).log t ≡ true → lead parts (shown_lines run) t ≡ record { site = p.site; part = prepared_lead (state p).log t }
    pub place : (t : TxId) → pending (state p).log t ≡ true → IsPlace sites parts (lead parts (shown_lines run) t)
    -- a partition may finish what its lead has committed, and abort what it leads itself or what its lead calls aborted
    pub finishes : (t : TxId) (c : List ℕ) → pending (state p).log t ≡ true → fate_of (state (lead parts (shown_lines run) t)) t ≡ ToldCommitted c → MayCall sites parts run p (AskFinish t c)
    pub aborts : (t : TxId) → (p ≡ lead parts (shown_lines run) t) ⊎ (fate_of (state (lead parts (shown_lines run) t)) t ≡ ToldAborted) → IsAllowed (plan_of sites parts ((record { at = p; event = Aborted t false }) ∷ run)) run state p (Aborted t false)

-- in every run of the world
abbrev pub LawTold : (S E : Type 0) → Type 0
LawTold S E = (kinds : Kinds S E) (sites parts : ℕ) (run : List (Entry E)) (state : PartId → PartState E) → IsWorldRun kinds sites parts run state → (p : PartId) → Told sites parts run state p
