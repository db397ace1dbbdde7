-- What a call of a desk comes to.
use Rattle.std.specs.Prelude.{◌≡◌, ℕ, Bool, true, false, List, ◌∷◌, ◌++◌, Some, Result, Ok, Err}
use Rattle.site_vector.specs.declared.ids.PartId.{PartId}
use Rattle.crdt_core.specs.KindsOf.{Kinds}
use Rattle.world_model.specs.declared.step.Step.{Step}
use Rattle.world_model.specs.rules.Lines.{step_shown}
use Rattle.world_model.specs.rules.Asking.{MayCall, asked_by, is_own_word}
use Rattle.world_model.specs.rules.Event.{Ask, Event, Entry, Refused, Cut, IsDown, HasNoRoom, attempt}
use Rattle.world_model.specs.rules.Plan.{IsFit, IsNew}
use Rattle.world_model.specs.threads.Calls.{Call, called, entries}
use Rattle.txn_session.specs.Calls.{IsAllowed, NoneBears}
use Rattle.partition_core.specs.Answers.{cause}
use Rattle.partition_core.specs.Moments.{IsCutOff}
use Rattle.partition_core.specs.declared.durable.DurableError.{DurableError}
use Rattle.partition_core.specs.declared.durable.DurableError.TheVariants as call
use Rattle.site_partitions.specs.Reaches.{Types}
use Rattle.seat_rule.specs.declared.view.Past.{Past}
use Rattle.seat_rule.specs.Lists.{has}
use Rattle.partition_lock.specs.declared.told.Told.{Told}
use Rattle.partition_lock.specs.Events.{is_done}
use Rattle.partition_lock.specs.Passes.{Sees}

module _ {A : Type 0} where
  -- memory ran out, and nothing was asked
  abbrev pub is_starved : Result A DurableError → Bool
  is_starved (Err call.NoMemory) = true
  is_starved other = false

  -- the event that an answer tells of this ask
  abbrev pub IsTold : {E : Type 0} → Ask E → (A → Event E → Type 0) → Result A DurableError → Event E → Type 0
  IsTold ask Shows (Ok x) e = Shows x e
  IsTold ask Shows (Err call.NoMemory) e = ⊥
  IsTold ask Shows (Err call.Down) e = e ≡ Refused ask IsDown
  IsTold ask Shows (Err call.Disk) e = IsCutOff Shows e
  IsTold ask Shows (Err (call.Full room)) e = e ≡ Refused ask (HasNoRoom room)
  IsTold ask Shows (Err (call.Refused why)) e = e ≡ Refused ask (cause why)

-- it was refused, or cut off
abbrev pub is_failed : {E : Type 0} → Event E → Bool
is_failed (Refused ask why) = true
is_failed (Cut what) = true
is_failed other = false

-- an event that did what was asked
pub record IsDone {S E D : Type 0} (w : Types S E D) (run : List (Entry E)) (ask : Ask E) (e : Event E) : Type 0 where
  pub asked : asked_by e ≡ ask
  pub plain : attempt e ≡ e
  pub done : is_done e ≡ true
  pub own_word : is_own_word e ≡ true
  pub fit : IsFit w.kinds e
  pub new : IsNew run e

module _ {S E : Type 0} (kinds : Kinds S E) (sites parts : ℕ) (old new : Past (Told E)) (run : List (Call E)) where
  -- what the pass had seen goes on: others acted, who hold none of its numbers; then its holder asked this by this number, and some event answered it of which this holds, after the calls below
  pub record Acts (by : ℕ) (at : PartId) (ask : Ask E) (Tells : List (Entry E) → Event E → Type 0) : Type 0 where
    pub more : List (Call E)
    pub others : NoneBears (has new.numbers) more
    pub held : has new.numbers by ≡ true
    pub event : Event E
    pub asked : asked_by (attempt event) ≡ ask
    pub own_word : is_own_word (attempt event) ≡ true
    pub tells : Tells (entries (more ++ run)) event
    pub seen : Sees kinds sites parts new (called by at event ∷ (more ++ run))

  -- it goes on by what others did
  pub record Waits : Type 0 where
    pub more : List (Call E)
    pub others : NoneBears (has new.numbers) more
    pub seen : Sees kinds sites parts new (more ++ run)

  -- a call that was answered is one step; one that found no memory is none
  abbrev pub Comes : {A : Type 0} (by : ℕ) (at : PartId) (ask : Ask E) (Shows : A → Event E → Type 0) → Result A DurableError → Type 0
  Comes by at ask Shows (Err call.NoMemory) = Waits
  Comes by at ask Shows result = Acts by at ask (λ below e. IsTold ask Shows result e)

  -- what was asked is answered, or a line says why it isn't
  abbrev pub Settles : {A : Type 0} (by : ℕ) (at : PartId) (ask : Ask E) (Shows : A → Event E → Type 0) → Result A Step → Type 0
  Settles by at ask Shows (Ok x) = Acts by at ask (λ below e. Shows x e)
  Settles by at ask Shows (Err line) = Acts by at ask (λ below e. (line ≡ step_shown below at e) × (is_failed e ≡ true))

-- in some run that the pass has seen, this number may ask this; and of the run this holds
pub record MayAsk {S E : Type 0} (kinds : Kinds S E) (sites parts : ℕ) (p : Past (Told E)) (by : ℕ) (at : PartId) (ask : Ask E) (Given : List (Entry E) → Type 0) : Type 0 where
  pub held : has p.numbers by ≡ true
  pub run : List (Call E)
  pub seen : Sees kinds sites parts p run
  pub allowed : IsAllowed sites parts run (Some by) at ask
  pub given : Given (entries run)
