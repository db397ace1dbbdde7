-- What a session holds in the calls that were made: what it did about its transaction, and what it depends on.
use Rattle.std.specs.Prelude.{◌≡◌, ◌⊎◌, ℕ, Bool, true, false, ◌&&◌, ◌==◌, List, [], ◌∷◌, ◌++◌, length, if◌then◌else◌, Option, None, Some, ⊤}
use Rattle.std.specs.List.{list_any}
use Rattle.site_vector.specs.declared.ids.PartId.{PartId}
use Rattle.site_vector.specs.declared.ids.TxId.{TxId}
use Rattle.crdt_core.specs.declared.object.ObjectId.{ObjectId}
use Rattle.crdt_core.specs.declared.operation.Op.{Op}
use Rattle.crdt_core.specs.declared.record.Upd.{Upd}
use Rattle.crdt_core.specs.Placing.{place_of}
use Rattle.world_model.specs.declared.commit.What.{What}
use Rattle.world_model.specs.declared.commit.What.TheVariants as what
use Rattle.world_model.specs.declared.step.Step.{Step}
use Rattle.world_model.specs.rules.Event.{led_by, Ask, AskRead, AskUpdate, AskPrepare, AskDecide, AskFinish, AskAbort, Began, tried, voted, decide_tried, gave_up, is_decided, time_of, WasShown}
use Rattle.world_model.specs.rules.Dependency.{IsKnownJoin}
use Rattle.world_model.specs.lines.Places.{IsPlace, home}
use Rattle.world_model.specs.rules.Plan.{updates_at, update_count}
use Rattle.world_model.specs.rules.World.{begun, snapshot_of}
use Rattle.world_model.specs.rules.Lines.{session_of}
use Rattle.world_model.specs.lines.Lines.{Wish}
use Rattle.world_model.specs.commands.CommitSteps.{Going, Preparing, Finishing, Aborting, next_step}
use Rattle.clocksi_commit.specs.Commit.{Committing}
use Rattle.txn_session.specs.Calls.{Call, entries, called, caller_of, AreOthers, NoneBears, GoesOn}
use Rattle.txn_session.specs.Session.{Txn, Doing, Idle, Open, Ending, SessionState, own_updates, updates_of, participants, first_or_zero, place_in}

abbrev pub has : List ℕ → ℕ → Bool
has ps p = list_any (λ q. q == p) ps

abbrev pub has_place : ℕ → List ℕ → PartId → Bool
has_place site ps p = site == p.site && has ps p.part

module _ {E : Type 0} where
  -- what its session updated at a place
  abbrev pub changed_at : ℕ → ℕ → List (Upd E) → PartId → List (Upd E)
  changed_at site parts updates p = if site == p.site then updates_of parts updates p.part else []

  -- the session `name` of this site began it, and made these updates
  pub record HoldsTxn (sites parts : ℕ) (name : List ℕ) (site : ℕ) (txn : Txn E) (run : List (Call E)) : Type 0 where
    pub site_is : txn.tx.site ≡ site
    pub place : IsPlace sites parts (home txn.tx)
    pub width : length txn.s ≡ sites
    pub handed : Wish
    pub shown : WasShown (entries run) (home txn.tx) (Began name handed txn.tx txn.s)
    pub begun : begun (entries run) txn.tx ≡ true
    pub snapshot : snapshot_of (entries run) txn.tx ≡ txn.s
    pub session : session_of (entries run) txn.tx ≡ name
    pub caller : txn.by ≡ caller_of run txn.tx
    pub updates : (p : PartId) → updates_at (entries run) txn.tx p ≡ changed_at site parts txn.updates p
    pub count : update_count (entries run) txn.tx ≡ length txn.updates

  -- no participant was asked for anything
  pub record IsUntried (t : TxId) (run : List (Call E)) : Type 0 where
    pub tries : (p : PartId) → tried (entries run) t p ≡ false
    pub votes : (p : PartId) → voted (entries run) t p ≡ false
    pub undecided : decide_tried (entries run) t ≡ false
    pub ungiven : gave_up (entries run) t ≡ false
    pub time : time_of (entries run) t ≡ 0

  -- these were asked for their votes and gave them, and these are left to ask
  pub record IsAsking (site : ℕ) (ps : List ℕ) (t : TxId) (run : List (Call E)) (done left : List ℕ) (n : ℕ) : Type 0 where
    pub parts : done ++ left ≡ ps
    pub tries : (p : PartId) → tried (entries run) t p ≡ has_place site done p
    pub votes : (p : PartId) → voted (entries run) t p ≡ has_place site done p
    pub undecided : decide_tried (entries run) t ≡ false
    pub ungiven : gave_up (entries run) t ≡ false
    pub time : time_of (entries run) t ≡ n

  -- it is decided, at this time
  pub record IsFinishing (ps : List ℕ) (t : TxId) (run : List (Call E)) (left : List ℕ) (n : ℕ) : Type 0 where
    pub decided : is_decided (entries run) t ≡ true
    pub time : time_of (entries run) t ≡ n
    pub among : (p : ℕ) → has left p ≡ true → has ps p ≡ true

  -- nothing is left to abort, or no decision was asked for
  pub record IsAborting (ps : List ℕ) (t : TxId) (run : List (Call E)) (left : List ℕ) : Type 0 where
    pub undecided : (left ≡ []) ⊎ (decide_tried (entries run) t ≡ false)
    pub among : (p : ℕ) → has left p ≡ true → has ps p ≡ true

  abbrev pub HoldsGoing : ℕ → List ℕ → TxId → List (Call E) → Going → Type 0
  HoldsGoing site ps t run (Preparing done left n) = IsAsking site ps t run done left n
  HoldsGoing site ps t run (Finishing left n) = IsFinishing ps t run left n
  HoldsGoing site ps t run (Aborting left) = IsAborting ps t run left

  -- its commit is of this transaction, at the partitions that it updated
  pub record HoldsEnd (site parts : ℕ) (txn : Txn E) (lead : ℕ) (commit : Committing) (run : List (Call E)) : Type 0 where
    pub first : lead ≡ first_or_zero (participants parts txn.updates)
    pub at_site : commit.site ≡ site
    pub snapshot : commit.s ≡ txn.s
    pub going : HoldsGoing site (participants parts txn.updates) txn.tx run commit.going

  abbrev pub HoldsDoing : ℕ → ℕ → List ℕ → ℕ → List (Call E) → Doing E → Type 0
  HoldsDoing sites parts name site run Idle = ⊤
  HoldsDoing sites parts name site run (Open txn) = HoldsTxn sites parts name site txn run × IsUntried txn.tx run
  HoldsDoing sites parts name site run (Ending txn lead commit) = HoldsTxn sites parts name site txn run × HoldsEnd site parts txn lead commit run

  pub record Holds (s : SessionState E) (run : List (Call E)) : Type 0 where
    pub known : IsKnownJoin s.sites (entries run) s.dependency
    pub width : length s.dependency ≡ s.sites
    pub doing : HoldsDoing s.sites s.parts s.name s.site run s.doing

  -- the pass holds the number of the session's transaction
  abbrev pub HoldsNumber : (ℕ → Bool) → Doing E → Type 0
  HoldsNumber numbers Idle = ⊤
  HoldsNumber numbers (Open txn) = numbers txn.by ≡ true
  HoldsNumber numbers (Ending txn lead commit) = numbers txn.by ≡ true

  -- these calls tell nothing of the session's transaction
  abbrev pub AreApart : Doing E → List (Call E) → Type 0
  AreApart Idle more = ⊤
  AreApart (Open txn) more = AreOthers more txn.tx
  AreApart (Ending txn lead commit) more = AreOthers more txn.tx

  -- what is next at its end
  abbrev pub next_of : Doing E → What
  next_of (Ending txn lead commit) = next_step commit.site commit.s commit.going
  next_of other = what.Done

  module _ {S P : Type 0} (sees : S → P → List (Call E) → Type 0) (numbers : P → ℕ → Bool) where
    -- in some run that the pass has seen, the session holds
    pub record Mays (store : S) (pass : P) (s : SessionState E) : Type 0 where
      pub held : HoldsNumber (numbers pass) s.doing
      pub run : List (Call E)
      pub seen : sees store pass run
      pub holds : Holds s run

    -- others told nothing of its transaction, and then this was asked and answered; the session holds
    pub record Makes (store : S) (pass : P) (run : List (Call E)) (old new : SessionState E) (number : Option ℕ) (at : PartId) (ask : Ask E) (answer : Step) : Type 0 where
      pub goes : GoesOn sees numbers store pass run number at ask answer
      pub apart : AreApart old.doing goes.more
      pub holds : Holds new (called goes.by at goes.event ∷ (goes.more ++ run))
      pub held : HoldsNumber (numbers pass) new.doing

    -- others told nothing of its transaction, and nothing was asked; the session holds
    pub record Waits (store : S) (pass : P) (run : List (Call E)) (old new : SessionState E) : Type 0 where
      pub more : List (Call E)
      pub others : NoneBears (numbers pass) more
      pub apart : AreApart old.doing more
      pub seen : sees store pass (more ++ run)
      pub holds : Holds new (more ++ run)
      pub held : HoldsNumber (numbers pass) new.doing

    -- an update of the object was asked, with the transaction's earlier ones
    abbrev pub MakesUpdate : S → P → List (Call E) → SessionState E → SessionState E → ObjectId → Op → Step → Doing E → Type 0
    MakesUpdate store pass run old new o op answer (Open txn) = Makes store pass run old new (Some txn.by) (place_in old (place_of o.bucket o.key old.parts)) (AskUpdate txn.tx txn.s o (own_updates txn.updates o) op) answer
    MakesUpdate store pass run old new o op answer other = ⊥

    -- a read of the object was asked, with the transaction's own updates
    abbrev pub MakesRead : S → P → List (Call E) → SessionState E → SessionState E → ObjectId → Step → Doing E → Type 0
    MakesRead store pass run old new o answer (Open txn) = Makes store pass run old new (Some txn.by) (place_in old (place_of o.bucket o.key old.parts)) (AskRead txn.tx txn.s o (own_updates txn.updates o)) answer
    MakesRead store pass run old new o answer other = ⊥

    -- the step that is next at the end of a transaction was made
    abbrev pub MakesStep : S → P → List (Call E) → SessionState E → SessionState E → Step → Doing E → What → Type 0
    MakesStep store pass run old new answer (Ending txn lead commit) (what.Prepare p) = Makes store pass run old new (Some txn.by) (place_in old p) (AskPrepare txn.tx txn.s (led_by lead) (updates_of old.parts txn.updates p)) answer
    MakesStep store pass run old new answer (Ending txn lead commit) (what.Decide p c) = Makes store pass run old new (Some txn.by) (place_in old p) (AskDecide txn.tx c) answer
    MakesStep store pass run old new answer (Ending txn lead commit) (what.Finish p c) = Makes store pass run old new None (place_in old p) (AskFinish txn.tx c) answer
    MakesStep store pass run old new answer (Ending txn lead commit) (what.Abort p) = Makes store pass run old new (Some txn.by) (place_in old p) (AskAbort txn.tx) answer
    MakesStep store pass run old new answer doing other = Waits store pass run old new

  -- the line of the step that is next at the end of a transaction, as its partition's tells of the store before and after it; where none is left,
  -- the store stays as it is
  abbrev pub TellsStep : {S : Type 0} → (S → S → PartId → Step → Type 0) → S → S → SessionState E → Step → What → Type 0
  TellsStep tells old new s answer (what.Prepare p) = tells old new (place_in s p) answer
  TellsStep tells old new s answer (what.Decide p c) = tells old new (place_in s p) answer
  TellsStep tells old new s answer (what.Finish p c) = tells old new (place_in s p) answer
  TellsStep tells old new s answer (what.Abort p) = tells old new (place_in s p) answer
  TellsStep tells old new s answer what.Done = new ≡ old
