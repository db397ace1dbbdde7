-- What a commit comes to, whatever answers its steps (Clock-SI, with one commit point at the lead).
use Rattle.std.specs.Prelude.{◌≡◌, ◌⊎◌, ℕ, max, Bool, true, false, ◌||◌, ◌==◌, List, [], ◌∷◌, ◌++◌}
use Rattle.std.specs.List.{list_any}
use Rattle.site_vector.specs.Vector.{replaced}
use Rattle.world_model.specs.declared.commit.What.{What}
use Rattle.world_model.specs.declared.commit.What.TheVariants as what
use Rattle.world_model.specs.declared.step.Step.{Step}
use Rattle.world_model.specs.declared.step.Step.TheVariants as step
use Rattle.world_model.specs.commands.CommitSteps.{Going, starting, given_up, next_step, after}

-- what happens to a commit: its next step is made and answered, or its session gives it up
pub data Turn : Type 0 where
  Answered : (answer : Step) → Turn
  GivenUp : Turn

abbrev pub turned : Going → Turn → Going
turned g (Answered a) = (after g a).0
turned g GivenUp = given_up g

-- how the commit at these participants stands after these turns, the newest first
abbrev pub standing : List ℕ → List Turn → Going
standing parts [] = starting parts
standing parts (t ∷ turns) = turned (standing parts turns) t

-- a step and its answer
pub record Made : Type 0 where
  pub step : What
  pub answer : Step

-- the steps that were made, with their answers, the newest first
abbrev pub steps_made : ℕ → List ℕ → List ℕ → List Turn → List Made
steps_made site s parts [] = []
steps_made site s parts (Answered a ∷ turns) = (record { step = next_step site s (standing parts turns); answer = a }) ∷ steps_made site s parts turns
steps_made site s parts (GivenUp ∷ turns) = steps_made site s parts turns

-- p was asked for its vote, and is prepared
abbrev pub is_vote : What → Step → ℕ → Bool
is_vote (what.Prepare q) (step.Prepared r t n) p = q == p
is_vote other answer p = false

abbrev pub voted : List Made → ℕ → Bool
voted [] p = false
voted (m ∷ made) p = is_vote m.step m.answer p || voted made p

abbrev pub time_voted : What → Step → ℕ
time_voted (what.Prepare q) (step.Prepared r t n) = n
time_voted other answer = 0

abbrev pub greatest_vote : List Made → ℕ
greatest_vote [] = 0
greatest_vote (m ∷ made) = max (time_voted m.step m.answer) (greatest_vote made)

-- the lead decided
abbrev pub is_decision : What → Step → Bool
is_decision (what.Decide q c) (step.Decided r t d) = true
is_decision other answer = false

abbrev pub decided : List Made → Bool
decided [] = false
decided (m ∷ made) = is_decision m.step m.answer || decided made

-- the lead's disk failed as it decided
abbrev pub is_doubt : What → Step → Bool
is_doubt (what.Decide q c) (step.Unsure t) = true
is_doubt other answer = false

abbrev pub in_doubt : List Made → Bool
in_doubt [] = false
in_doubt (m ∷ made) = is_doubt m.step m.answer || in_doubt made

-- p finished; or was asked to abort, and did so or refused; or, asked to decide or to finish, did so or doesn't know the transaction
abbrev pub is_end : What → Step → ℕ → Bool
is_end (what.Decide q c) (step.Decided r t d) p = q == p
is_end (what.Decide q c) (step.Gone r t) p = q == p
is_end (what.Finish q c) (step.Finished r t) p = q == p
is_end (what.Finish q c) (step.Gone r t) p = q == p
is_end (what.Abort q) answer p = q == p
is_end other answer p = false

abbrev pub ended : List Made → ℕ → Bool
ended [] p = false
ended (m ∷ made) p = is_end m.step m.answer p || ended made p

abbrev pub is_among : List ℕ → ℕ → Bool
is_among parts p = list_any (λ q. q == p) parts

abbrev pub is_first : List ℕ → ℕ → Bool
is_first [] p = false
is_first (q ∷ parts) p = q == p

-- a finish, or nothing
abbrev pub only_finishes : What → Bool
only_finishes (what.Finish p c) = true
only_finishes what.Done = true
only_finishes other = false

abbrev pub is_finish : What → Bool
is_finish (what.Finish p c) = true
is_finish other = false

abbrev pub is_nothing : What → Bool
is_nothing what.Done = true
is_nothing other = false

-- it is the turn of p among these: all before it voted, and nobody else did
pub record IsInTurn (parts : List ℕ) (made : List Made) (p : ℕ) : Type 0 where
  pub front : List ℕ
  pub back : List ℕ
  pub are : parts ≡ front ++ p ∷ back
  pub votes : (q : ℕ) → voted made q ≡ is_among front q

-- of a transaction of this site with this snapshot, at these participants: what was made, and what is next
pub record IsCommit (site : ℕ) (s parts : List ℕ) (made : List Made) (next : What) : Type 0 where
  -- each participant is asked for its vote in turn
  pub asks : (p : ℕ) → next ≡ what.Prepare p → IsInTurn parts made p
  -- the lead decides, once all have voted, and with the greatest vote
  pub lead : (p : ℕ) (c : List ℕ) → next ≡ what.Decide p c → is_first parts p ≡ true
  pub all : (p q : ℕ) (c : List ℕ) → next ≡ what.Decide p c → is_among parts q ≡ true → voted made q ≡ true
  pub decides : (p : ℕ) (c : List ℕ) → next ≡ what.Decide p c → c ≡ replaced s site (greatest_vote made)
  -- the others finish with the vector that was decided
  pub finishes : (p : ℕ) (c : List ℕ) → next ≡ what.Finish p c → (voted made p ≡ true) × (c ≡ replaced s site (greatest_vote made))
  -- who aborts had voted
  pub aborts : (p : ℕ) → next ≡ what.Abort p → voted made p ≡ true
  -- nothing but finishes after a decision, and none before it; nothing at all after one in doubt
  pub after_decision : decided made ≡ true → only_finishes next ≡ true
  pub before_decision : decided made ≡ false → is_finish next ≡ false
  pub after_doubt : in_doubt made ≡ true → is_nothing next ≡ true
  -- once nothing is left to do, all that voted came to an end, unless the decision is in doubt
  pub ends : (p : ℕ) → next ≡ what.Done → voted made p ≡ true → (ended made p ≡ true) ⊎ (in_doubt made ≡ true)

abbrev pub LawCommit : Type 0
LawCommit = (site : ℕ) (s parts : List ℕ) (turns : List Turn) → IsCommit site s parts (steps_made site s parts turns) (next_step site s (standing parts turns))
