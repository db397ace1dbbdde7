-- What a session, or who hands on messages and reports, may ask of a partition: by what a run shows and by what is asked alone.
use Rattle.std.specs.Prelude.{◌≡◌, ℕ, Bool, true, false, List, ◌∷◌, ⊤}
use Rattle.site_vector.specs.declared.ids.PartId.{PartId}
use Rattle.world_model.specs.rules.Event.{Ask, AskBegin, AskRead, AskUpdate, AskPrepare, AskDecide, AskFinish, AskAbort, AskTake, AskHear, Event, Aborted, Refused, Entry, attempt, ask_of, tried, decide_tried}
use Rattle.world_model.specs.rules.Dependency.{IsKnownJoin}
use Rattle.world_model.specs.rules.Partition.{PartState}
use Rattle.world_model.specs.rules.Plan.{takes_part, IsAsked, IsSession, MayPrepare, MayDecide, MayFinish, MayTake, MayHear, IsAllowed}
use Rattle.world_model.specs.rules.World.{plan_of}

module _ {E : Type 0} where
  abbrev pub MayCall : ℕ → ℕ → List (Entry E) → PartId → Ask E → Type 0
  MayCall sites parts run p (AskBegin who dep) = IsKnownJoin sites run dep.past
  MayCall sites parts run p (AskRead t s o own) = IsAsked (plan_of sites parts run) run p t s o own
  -- an update comes before any vote
  MayCall sites parts run p (AskUpdate t s o own op) = IsAsked (plan_of sites parts run) run p t s o own × ((q : PartId) → tried run t q ≡ false)
  MayCall sites parts run p (AskPrepare t s l w) = IsSession run p t s × MayPrepare (plan_of sites parts run) run p t s l w
  MayCall sites parts run p (AskDecide t c) = MayDecide (plan_of sites parts run) run p t c
  MayCall sites parts run p (AskFinish t c) = (takes_part (plan_of sites parts run) t p ≡ true) × MayFinish (plan_of sites parts run) run p t c
  -- a session aborts where it didn't ask to decide
  MayCall sites parts run p (AskAbort t) = decide_tried run t ≡ false
  MayCall sites parts run p (AskTake number m) = MayTake (plan_of sites parts run) run p number m
  MayCall sites parts run p (AskHear number q b) = MayHear (plan_of sites parts run) run p number q b
  MayCall sites parts run p other = ⊤

  -- the call that an event answered
  abbrev pub asked_by : Event E → Ask E
  asked_by (Refused asked why) = asked
  asked_by event = ask_of event

  -- an abort is on the word of its session
  abbrev pub is_own_word : Event E → Bool
  is_own_word (Aborted t own) = own
  is_own_word event = true

-- so whoever keeps this rule makes steps that the world allows
abbrev pub LawAsks : (E : Type 0) → Type 0
LawAsks E = (sites parts : ℕ) (run : List (Entry E)) (state : PartId → PartState E) (e : Entry E) → MayCall sites parts run e.at (asked_by (attempt e.event)) → is_own_word (attempt e.event) ≡ true → IsAllowed (plan_of sites parts (e ∷ run)) run state e.at (attempt e.event)
