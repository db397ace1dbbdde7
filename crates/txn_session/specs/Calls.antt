-- Calls of a store with their callers' numbers: which may be made, and what each comes to.
pub use Rattle.world_model.specs.threads.Calls.{Call, entries, called, caller_of, is_update, touches}
use Rattle.std.specs.Prelude.{◌≡◌, ◌⊎◌, ℕ, ◌+◌, Bool, true, false, List, [], ◌∷◌, ◌++◌, Option, None, Some, IfSome, Result, Ok, Err, ⊤}
use Rattle.site_vector.specs.declared.ids.PartId.{PartId}
use Rattle.site_vector.specs.declared.ids.TxId.{TxId}
use Rattle.crdt_core.specs.KindsOf.{Kinds}
use Rattle.world_model.specs.declared.step.Step.{Step}
use Rattle.world_model.specs.declared.step.Step.TheVariants as step
use Rattle.world_model.specs.rules.Event.{Ask, AskRead, AskUpdate, AskPrepare, AskDecide, AskAbort, Event, Updated, Entry, attempt}
use Rattle.world_model.specs.rules.Partition.{PartState}
use Rattle.world_model.specs.lines.Places.{IsPlace}
use Rattle.world_model.specs.rules.World.{is_begin, begun, IsWorldRun}
use Rattle.world_model.specs.rules.Lines.{step_shown}
use Rattle.world_model.specs.rules.Asking as asking
use Rattle.world_model.specs.rules.Asking.{asked_by, is_own_word}
use Rattle.txn_session.specs.Numbers.{IsLeast, Bears}

-- the line of a message or report by the number with which it is handed on, in place of its own among its sender's
abbrev pub handed_as : ℕ → Step → Step
handed_as number (step.Took own hi) = step.Took number hi
handed_as number (step.Dup own have) = step.Dup number have
handed_as number (step.Gap own have) = step.Gap number have
handed_as number (step.Heard own p stable) = step.Heard number p stable
handed_as number other = other

module _ {E : Type 0} where
  -- who acts for a transaction bears the number of its begin
  abbrev pub IsOwned : List (Call E) → Call E → Type 0
  IsOwned run c = (t : TxId) → touches c.entry.event t ≡ true → (is_begin c.entry.event t ≡ true) ⊎ (c.by ≡ caller_of run t)

  abbrev pub AreOwned : List (Call E) → Type 0
  AreOwned [] = ⊤
  AreOwned (c ∷ run) = AreOwned run × IsOwned run c

  -- the calls are a run of the world, by their transactions' callers
  pub record IsLegal {S : Type 0} (kinds : Kinds S E) (sites parts : ℕ) (run : List (Call E)) : Type 0 where
    pub state : PartId → PartState E
    pub is_run : IsWorldRun kinds sites parts (entries run) state
    pub owned : AreOwned run

  abbrev pub AreOthers : List (Call E) → TxId → Type 0
  AreOthers [] t = ⊤
  AreOthers (c ∷ run) t = (touches c.entry.event t ≡ false) × AreOthers run t

  -- none of these calls bears one of the numbers
  abbrev pub NoneBears : (ℕ → Bool) → List (Call E) → Type 0
  NoneBears numbers [] = ⊤
  NoneBears numbers (c ∷ run) = (numbers c.by ≡ false) × NoneBears numbers run

  -- the call is of the caller's transaction; what it aborts has begun
  abbrev pub IsCaller : List (Call E) → ℕ → Ask E → Type 0
  IsCaller run by (AskRead t s o own) = by ≡ caller_of run t
  IsCaller run by (AskUpdate t s o own op) = by ≡ caller_of run t
  IsCaller run by (AskPrepare t s l w) = by ≡ caller_of run t
  IsCaller run by (AskDecide t c) = by ≡ caller_of run t
  IsCaller run by (AskAbort t) = (by ≡ caller_of run t) × (begun (entries run) t ≡ true)
  IsCaller run by other = ⊤

  -- by what these calls show, this may be asked here, by this number if the call is a transaction's
  pub record IsAllowed (sites parts : ℕ) (run : List (Call E)) (number : Option ℕ) (at : PartId) (ask : Ask E) : Type 0 where
    pub may : asking.MayCall sites parts (entries run) at ask
    pub mine : IfSome number (λ by. IsCaller run by ask)

  -- the first of these stand among the others, in their order
  abbrev pub Within : List (Call E) → List (Call E) → Type 0
  Within calls [] = calls ≡ []
  Within calls (c ∷ run) = Within calls run ⊎ ((rest : List (Call E)) × (calls ≡ c ∷ rest) × Within rest run)

  -- the effect that an update made
  abbrev pub effect_made : Event E → Option E
  effect_made (Updated u s o own op read x stamp) = Some x.effect
  effect_made other = None

  module _ {S P : Type 0} (sees : S → P → List (Call E) → Type 0) (numbers : P → ℕ → Bool) where
    -- in some run that the pass has seen, this may be asked
    pub record MayCall (sites parts : ℕ) (store : S) (pass : P) (number : Option ℕ) (at : PartId) (ask : Ask E) : Type 0 where
      pub place : IsPlace sites parts at
      pub held : IfSome number (λ by. numbers pass by ≡ true)
      pub run : List (Call E)
      pub seen : sees store pass run
      pub allowed : IsAllowed sites parts run number at ask

    -- the run goes on: others acted, who hold none of the pass's numbers, and then this was asked and answered
    pub record GoesOn (store : S) (pass : P) (run : List (Call E)) (number : Option ℕ) (at : PartId) (ask : Ask E) (answer : Step) : Type 0 where
      pub more : List (Call E)
      pub others : NoneBears (numbers pass) more
      pub by : ℕ
      pub held : numbers pass by ≡ true
      pub bears : Bears (numbers pass) number by
      pub event : Event E
      pub asked : asked_by (attempt event) ≡ ask
      pub own_word : is_own_word (attempt event) ≡ true
      pub shows : answer ≡ step_shown (entries (more ++ run)) at event
      pub seen : sees store pass (called by at event ∷ (more ++ run))

    -- the run goes on by what others did
    pub record Stays (store : S) (pass : P) (run : List (Call E)) : Type 0 where
      pub more : List (Call E)
      pub others : NoneBears (numbers pass) more
      pub seen : sees store pass (more ++ run)

    -- an update, with the effect that was made
    pub record Changes (store : S) (pass : P) (run : List (Call E)) (by : ℕ) (at : PartId) (ask : Ask E) (answer : Step) (made : Option E) : Type 0 where
      pub goes : GoesOn store pass run (Some by) at ask answer
      pub effect : made ≡ effect_made goes.event

    -- the run goes on: others acted, and then this was done. It is the next of its sender's, and is handed on by this number
    pub record Did (count : List (Entry E) → PartId → ℕ) (numbered : ℕ → ℕ → Type 0) (store : S) (pass : P) (run : List (Call E)) (at : PartId) (event : Event E) (number : ℕ) : Type 0 where
      pub more : List (Call E)
      pub others : NoneBears (numbers pass) more
      pub by : ℕ
      pub least : IsLeast (numbers pass) by
      pub named : numbered (count (entries (more ++ run)) at + 1) number
      pub seen : sees store pass (called by at event ∷ (more ++ run))

    -- what was asked is done, or a line says why it isn't
    abbrev pub Does : {A : Type 0} → (List (Entry E) → PartId → ℕ) → (ℕ → ℕ → Type 0) → S → P → List (Call E) → PartId → Ask E → (A → Event E) → Result (A × ℕ) Step → Type 0
    Does count numbered store pass run at ask done (Ok x) = Did count numbered store pass run at (done x.0) x.1
    Does count numbered store pass run at ask done (Err line) = GoesOn store pass run None at ask line

    -- the run goes on: a message or report was handed on, as its sender's own number has it; the answer has the number that was handed
    pub record HandsOn (store : S) (pass : P) (run : List (Call E)) (at : PartId) (ask : Ask E) (number : ℕ) (answer : Step) : Type 0 where
      pub line : Step
      pub goes : GoesOn store pass run None at ask line
      pub answers : answer ≡ handed_as number line
