-- Where transactions are committed, and which are aborted, over the lines of a run.
use Rattle.std.specs.Prelude.{◌≡◌, ◌⊎◌, ℕ, leb, Bool, true, false, not, ◌&&◌, ◌||◌, ◌==◌, List, [], ◌∷◌, ⊤}
use Rattle.site_vector.specs.declared.ids.PartId.{PartId}
use Rattle.site_vector.specs.declared.ids.TxId.{TxId}
use Rattle.site_vector.specs.Ids.{same_part, same_tx}
use Rattle.world_model.specs.declared.step.Step.{Step}
use Rattle.world_model.specs.declared.step.Step.TheVariants as step
use Rattle.world_model.specs.lines.Places.{twin}
use Rattle.world_model.specs.lines.Lines.{Call, Line}
use Rattle.world_model.specs.lines.History.{in_history, commit_time}
use Rattle.world_model.specs.lines.Bounds.{bound}
use Rattle.world_model.specs.lines.Updates.{takes_part, lead}
use Rattle.world_model.specs.lines.Pending.{pending, is_down}
use Rattle.world_model.specs.lines.Commit.{is_decide_asked}
use Rattle.world_model.specs.lines.Restarts.{IsResumed}

-- p is a participant of t, which is decided so far and is pending there no more
abbrev pub is_ended_at : List Line → List Line → PartId → TxId → Bool
is_ended_at whole before p t = takes_part whole t p && (in_history before t && not (pending before p t))

-- t is of another site and updated something at its partition with p's number, and p took the messages of that site up to t's commit time
abbrev pub is_brought_to : List Line → List Line → PartId → TxId → Bool
is_brought_to whole before p t =
    not (t.site == p.site) && (takes_part whole t (twin t.site p) && (in_history whole t && leb (commit_time whole t) (bound before p t.site)))

-- t is committed at p
abbrev pub is_committed_at : List Line → List Line → PartId → TxId → Bool
is_committed_at whole before p t = is_ended_at whole before p t || is_brought_to whole before p t

-- t is pending or committed at p
abbrev pub is_known_at : List Line → List Line → PartId → TxId → Bool
is_known_at whole before p t = pending before p t || is_committed_at whole before p t

-- the lead tells that t is aborted: it is up, and t is neither pending nor committed there
pub record TellsAborted (parts : ℕ) (whole before : List Line) (t : TxId) : Type 0 where
  pub up : is_down before (lead parts whole t) ≡ false
  pub unknown : is_known_at whole before (lead parts whole t) t ≡ false

abbrev pub aborts : Step → TxId → Bool
aborts (step.Aborted q u) t = same_tx u t
aborts other t = false

-- p aborted t
abbrev pub was_aborted : List Line → PartId → TxId → Bool
was_aborted [] p t = false
was_aborted (l ∷ ls) p t = (same_part l.at p && aborts l.step t) || was_aborted ls p t

-- p aborts as the lead, or on the word of a session that didn't ask to decide, or on the lead's
abbrev pub MayAbort : ℕ → List Line → List Line → PartId → TxId → Type 0
MayAbort parts whole before p t = (p ≡ lead parts whole t) ⊎ ((is_decide_asked before t ≡ false) ⊎ (TellsAborted parts whole before t ⊎ (was_aborted before (lead parts whole t) t ≡ true)))

-- what is aborted was pending here, and is never decided
abbrev pub ShowsFate : ℕ → ℕ → List Line → List Line → PartId → Call → Step → Type 0
ShowsFate sites parts whole before p call (step.Aborted q t) = (pending before p t ≡ true) × (in_history whole t ≡ false) × MayAbort parts whole before p t
ShowsFate sites parts whole before p call (step.Restarted q n bounds named listed) = IsResumed sites parts whole before p n bounds named listed
ShowsFate sites parts whole before p call other = ⊤
