-- The history of a run, over its lines: its decided transactions, with what they read from.
use Rattle.std.specs.Prelude.{◌≡◌, ℕ, Bool, true, false, ◌&&◌, ◌||◌, max, List, [], ◌∷◌, ◌++◌, if◌then◌else◌, Some}
use Rattle.site_vector.specs.declared.ids.TxId.{TxId}
use Rattle.site_vector.specs.Ids.{same_tx}
use Rattle.site_vector.specs.Vector.{le, replaced}
use Rattle.world_model.specs.declared.step.Step.{Step}
use Rattle.world_model.specs.declared.step.Step.TheVariants as step
use Rattle.world_model.specs.lines.Listed.{is_named}
use Rattle.world_model.specs.lines.Lines.{Line}

-- the line shows that t is decided
abbrev pub decides : Step → TxId → Bool
decides (step.Decided p u c) t = same_tx u t
decides (step.Restarted p n bounds named listed) t = is_named named t
decides other t = false

abbrev pub in_history : List Line → TxId → Bool
in_history [] t = false
in_history (l ∷ ls) t = decides l.step t || in_history ls t

abbrev pub new_in : List Line → TxId → List TxId
new_in ls t = if in_history ls t then [] else t ∷ []

abbrev pub newly_decided : List Line → Step → List TxId
newly_decided ls (step.Decided p t c) = new_in ls t
newly_decided ls (step.Restarted p n bounds (Some t) listed) = new_in ls t
newly_decided ls other = []

-- the decided transactions, the last first, each once
abbrev pub history : List Line → List TxId
history [] = []
history (l ∷ ls) = newly_decided ls l.step ++ history ls

abbrev pub begins : Step → TxId → Bool
begins (step.Began name u s) t = same_tx u t
begins other t = false

abbrev pub is_begun : List Line → TxId → Bool
is_begun [] t = false
is_begun (l ∷ ls) t = begins l.step t || is_begun ls t

abbrev pub snapshot_after : TxId → List ℕ → Step → List ℕ
snapshot_after t old (step.Began name u s) = if same_tx u t then s else old
snapshot_after t old other = old

-- the vector that t reads from
abbrev pub snapshot : List Line → TxId → List ℕ
snapshot [] t = []
snapshot (l ∷ ls) t = snapshot_after t (snapshot ls t) l.step

abbrev pub commit_time_after : TxId → ℕ → Step → ℕ
commit_time_after t old (step.Prepared p u n) = if same_tx u t then max n old else old
commit_time_after t old other = old

-- the greatest prepare time of t
abbrev pub commit_time : List Line → TxId → ℕ
commit_time [] t = 0
commit_time (l ∷ ls) t = commit_time_after t (commit_time ls t) l.step

-- the snapshot with the commit time as the entry of the transaction's own site (Clock-SI, Cure)
abbrev pub commit_vector : List Line → TxId → List ℕ
commit_vector ls t = replaced (snapshot ls t) t.site (commit_time ls t)

-- the visible set of a vector: t is in it. Only here a vector becomes a set (Cure)
abbrev pub visible : List Line → List ℕ → TxId → Bool
visible ls v t = in_history ls t && le (commit_vector ls t) v

-- t precedes u
abbrev pub precedes : List Line → TxId → TxId → Bool
precedes ls t u = visible ls (snapshot ls u) t

-- with each member it holds all that precede it
abbrev pub IsClosed : List Line → (TxId → Bool) → Type 0
IsClosed ls members = (t u : TxId) → members u ≡ true → precedes ls t u ≡ true → members t ≡ true

-- precedence orders the history strictly
pub record IsStrictOrder (ls : List Line) : Type 0 where
  pub irreflexive : (t : TxId) → precedes ls t t ≡ false
  pub transitive : (t u w : TxId) → precedes ls t u ≡ true → precedes ls u w ≡ true → precedes ls t w ≡ true
