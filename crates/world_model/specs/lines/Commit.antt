-- Votes, decisions and commit vectors, over the lines of a run (Clock-SI, Cure).
use Rattle.std.specs.Prelude.{◌≡◌, ◌≢◌, ℕ, Bool, true, false, ◌&&◌, ◌||◌, List, [], ◌∷◌, ⊤}
use Rattle.site_vector.specs.declared.ids.PartId.{PartId}
use Rattle.site_vector.specs.declared.ids.TxId.{TxId}
use Rattle.site_vector.specs.Ids.{same_part, same_tx}
use Rattle.world_model.specs.declared.step.Step.{Step}
use Rattle.world_model.specs.declared.step.Step.TheVariants as step
use Rattle.world_model.specs.lines.Lines.{Call, UpdateOf, PrepareOf, Line}
use Rattle.world_model.specs.lines.History.{in_history, commit_vector}
use Rattle.world_model.specs.lines.Updates.{takes_part, lead}

abbrev pub prepares : Step → TxId → Bool
prepares (step.Prepared q u n) t = same_tx u t
prepares other t = false

-- p has voted for t
abbrev pub was_prepared : List Line → TxId → PartId → Bool
was_prepared [] t p = false
was_prepared (l ∷ ls) t p = (same_part l.at p && prepares l.step t) || was_prepared ls t p

abbrev pub asks_decide : Step → TxId → Bool
asks_decide (step.Decided q u c) t = same_tx u t
asks_decide (step.Unsure u) t = same_tx u t
asks_decide other t = false

-- its session asked to decide t: that was done, or left it in doubt
abbrev pub is_decide_asked : List Line → TxId → Bool
is_decide_asked [] t = false
is_decide_asked (l ∷ ls) t = asks_decide l.step t || is_decide_asked ls t

-- a participant votes, once, the lead first
pub record IsVote (parts : ℕ) (whole before : List Line) (p : PartId) (t : TxId) : Type 0 where
  pub member : takes_part whole t p ≡ true
  pub once : was_prepared before t p ≡ false
  pub lead_first : p ≢ lead parts whole t → was_prepared before t (lead parts whole t) ≡ true

-- the lead decides, after a vote of every participant, and is asked once
pub record IsDecision (parts : ℕ) (whole before : List Line) (p : PartId) (t : TxId) : Type 0 where
  pub at_lead : p ≡ lead parts whole t
  pub here : was_prepared before t p ≡ true
  pub once : is_decide_asked before t ≡ false
  pub votes : (q : PartId) → takes_part whole t q ≡ true → was_prepared before t q ≡ true

-- an update comes before any vote
abbrev pub IsEarly : List Line → Call → Type 0
IsEarly before (UpdateOf t o op) = (p : PartId) → was_prepared before t p ≡ false
IsEarly before other = ⊤

-- whatever answers it, a vote is asked of a participant
abbrev pub IsAskedAt : List Line → PartId → Call → Type 0
IsAskedAt whole p (PrepareOf t) = takes_part whole t p ≡ true
IsAskedAt whole p other = ⊤

-- a decision shows the commit vector; what is in doubt was asked as a decision is; a participant finishes what is decided so far
abbrev pub ShowsCommit : ℕ → List Line → List Line → PartId → Call → Step → Type 0
ShowsCommit parts whole before p call (step.Prepared q t n) = IsVote parts whole before p t
ShowsCommit parts whole before p call (step.Decided q t c) = IsDecision parts whole before p t × (c ≡ commit_vector whole t)
ShowsCommit parts whole before p call (step.Unsure t) = IsDecision parts whole before p t
ShowsCommit parts whole before p call (step.Updated name o stamp) = IsEarly before call
ShowsCommit parts whole before p call (step.Finished q t) = (takes_part whole t p ≡ true) × (in_history before t ≡ true)
ShowsCommit parts whole before p call other = ⊤
