-- Where transactions are committed, and which may be aborted, by what a run shows.
use Rattle.std.specs.Prelude.{◌≡◌, ◌⊎◌, Bool, true, false, not, ◌&&◌, ◌||◌, List}
use Rattle.site_vector.specs.declared.ids.PartId.{PartId}
use Rattle.site_vector.specs.declared.ids.TxId.{TxId}
use Rattle.world_model.specs.rules.Event.{Entry, decide_tried, was_aborted, is_decided}
use Rattle.world_model.specs.events.Pending.{is_down, pending_shown}
use Rattle.world_model.specs.rules.Plan.{Plan, takes_part}

module _ {E : Type 0} where
  -- a participant of what is decided so far has it committed, unless it is pending there still
  abbrev pub committed_shown : Plan E → List (Entry E) → PartId → TxId → Bool
  committed_shown plan run p t = takes_part plan t p && (is_decided run t && not (pending_shown run p t))

  -- the lead tells that t is aborted: it is up, and t is neither pending nor committed there
  pub record TellsAbortedAt (plan : Plan E) (run : List (Entry E)) (t : TxId) : Type 0 where
    pub up : is_down run (plan.lead t) ≡ false
    pub unknown : (pending_shown run (plan.lead t) t || committed_shown plan run (plan.lead t) t) ≡ false

  -- a session that didn't ask to decide aborts, or the lead does, or others on its word
  abbrev pub MayAbortAt : Plan E → List (Entry E) → PartId → TxId → Bool → Type 0
  MayAbortAt plan run p t true = decide_tried run t ≡ false
  MayAbortAt plan run p t false = (p ≡ plan.lead t) ⊎ (TellsAbortedAt plan run t ⊎ (was_aborted run t (plan.lead t) ≡ true))
