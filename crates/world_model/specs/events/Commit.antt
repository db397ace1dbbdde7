-- Votes and decisions (Clock-SI).
use Rattle.std.specs.Prelude.{◌≡◌, ◌≢◌, true, false, List, [], ◌∷◌, ⊤}
use Rattle.site_vector.specs.declared.ids.PartId.{PartId}
use Rattle.site_vector.specs.declared.ids.TxId.{TxId}
use Rattle.world_model.specs.rules.Event.{Event, Prepared, Decided, Finished, Cut, Entry, voted, decide_tried, is_decided}
use Rattle.world_model.specs.rules.Plan.{Plan, takes_part, commit_vector}

module _ {E : Type 0} where
  -- a participant votes, once, the lead first
  pub record IsVote (plan : Plan E) (run : List (Entry E)) (p : PartId) (t : TxId) : Type 0 where
    pub takes : takes_part plan t p ≡ true
    pub fresh : voted run t p ≡ false
    pub after_lead : p ≢ plan.lead t → voted run t (plan.lead t) ≡ true

  -- the lead decides when all participants have voted, and is asked once
  pub record IsDecision (plan : Plan E) (run : List (Entry E)) (p : PartId) (t : TxId) : Type 0 where
    pub lead : p ≡ plan.lead t
    pub here : voted run t p ≡ true
    pub once : decide_tried run t ≡ false
    pub all : (q : PartId) → takes_part plan t q ≡ true → voted run t q ≡ true

  -- a decide that was cut off was asked as one that was done; what is finished was decided, and takes part
  abbrev pub VotesAt : Plan E → List (Entry E) → PartId → Event E → Type 0
  VotesAt plan run p (Prepared t s l w n) = IsVote plan run p t
  VotesAt plan run p (Decided t c) = IsDecision plan run p t
  VotesAt plan run p (Cut (Decided t c)) = IsDecision plan run p t
  VotesAt plan run p (Finished t c) = (takes_part plan t p ≡ true) × (is_decided run t ≡ true)
  VotesAt plan run p other = ⊤

  abbrev pub KeepVotes : Plan E → List (Entry E) → Type 0
  KeepVotes plan [] = ⊤
  KeepVotes plan (e ∷ run) = VotesAt plan run e.at e.event × KeepVotes plan run

  -- a decision shows the commit vector that the transaction has in the whole run
  abbrev pub ShowsVector : Plan E → List (Entry E) → PartId → Event E → Type 0
  ShowsVector plan run p (Decided t c) = (is_decided run t ≡ true) × (c ≡ commit_vector plan run t)
  ShowsVector plan run p other = ⊤

  -- what is decided, also where only a restart named it, was voted for by all who take part
  pub record IsAgreed (plan : Plan E) (run : List (Entry E)) (t : TxId) : Type 0 where
    pub lead : takes_part plan t (plan.lead t) ≡ true
    pub all : (q : PartId) → takes_part plan t q ≡ true → voted run t q ≡ true
