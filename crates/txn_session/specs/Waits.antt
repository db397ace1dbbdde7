-- A call that waits: it is asked again, and the clock of its partition is read between, until the answer is no wait.
use Rattle.std.specs.Prelude.{◌≡◌, ◌⊎◌, ℕ, max, min, ◌^◌, ◌-◌, Bool, true, false, List, [], ◌∷◌, ◌++◌, Option, Result, Ok, Err, ⊤}
use Rattle.site_vector.specs.declared.ids.PartId.{PartId}
use Rattle.crdt_core.specs.Log.{end_of_time}
use Rattle.world_model.specs.declared.step.Step.{Step}
use Rattle.world_model.specs.declared.step.Step.TheVariants as step
use Rattle.world_model.specs.rules.Asking.{asked_by}
use Rattle.world_model.specs.rules.Event.{Ask, AskTick, Refused, Refusal, ClockBehind, TxPending, attempt}
use Rattle.txn_session.specs.Calls.{Call}
use Rattle.txn_session.specs.Numbers.{IsLeast}

-- it ends once the clock goes on, or a transaction that is pending ends
abbrev pub is_wait : Refusal → Bool
is_wait (ClockBehind n) = true
is_wait (TxPending t n) = true
is_wait other = false

-- the clock is behind
abbrev pub is_late : Step → Bool
is_late (step.WaitClock p n) = true
is_late other = false

abbrev pub late_in : {X : Type 0} → Result Step X → Bool
late_in (Ok line) = is_late line
late_in (Err e) = false

abbrev pub late_update : {E X : Type 0} → Result (Step × Option E) X → Bool
late_update (Ok r) = is_late r.0
late_update (Err e) = false

-- what a partition is told of a clock: its reading, cut below 2^48, and at least this time
abbrev pub told_reading : ℕ → ℕ → ℕ
told_reading least reading = min (max (min reading (2 ^ 48 - 1)) least) end_of_time

module _ {E : Type 0} (numbers : ℕ → Bool) (reads : ℕ → Type 0) (time by : ℕ) (at : PartId) (ask : Ask E) where
  -- the partition was told a reading of the clock
  pub record IsOwnTick (c : Call E) : Type 0 where
    pub least : IsLeast numbers c.by
    pub here : c.entry.at ≡ at
    pub reading : ℕ
    pub read : reads reading
    pub ticks : asked_by (attempt c.entry.event) ≡ AskTick (told_reading time reading)

  -- what is asked was put off by a wait
  pub record IsPutOff (c : Call E) : Type 0 where
    pub bears : c.by ≡ by
    pub here : c.entry.at ≡ at
    pub why : Refusal
    pub waits : is_wait why ≡ true
    pub refused : c.entry.event ≡ Refused ask why

  -- others' calls, ticks, and what was put off
  abbrev pub ArePauses : List (Call E) → Type 0
  ArePauses [] = ⊤
  ArePauses (c ∷ more) = ((numbers c.by ≡ false) ⊎ (IsOwnTick c ⊎ IsPutOff c)) × ArePauses more

  abbrev pub HasTicked : List (Call E) → Type 0
  HasTicked [] = ⊥
  HasTicked (c ∷ more) = IsOwnTick c ⊎ HasTicked more

  -- others acted and the pass waited, and then the run went on so; where the clock is behind still, the partition was told the clock
  pub record Later (late : Bool) (Goes : List (Call E) → Type 0) (run : List (Call E)) : Type 0 where
    pub more : List (Call E)
    pub pauses : ArePauses more
    pub ticked : late ≡ true → HasTicked more
    pub goes : Goes (more ++ run)
