-- A session of a cluster acts: it alone is changed, and whatever the partitions had seen goes on by what it did.
use Rattle.std.specs.Prelude.{◌≡◌, ℕ, true, List, Some, None}
use Rattle.crdt_core.specs.declared.object.ObjectId.{ObjectId}
use Rattle.world_model.specs.declared.step.Step.{Step}
use Rattle.world_model.specs.declared.step.Step.TheVariants as step
use Rattle.txn_session.specs.Calls.{Call}
use Rattle.txn_session.specs.Holds.{Holds, Makes, MakesRead, MakesUpdate}
use Rattle.txn_session.specs.Session.{SessionState, place_in, moved_to}
use Rattle.txn_session.specs.Opens.{IsOpened, IsUpdated}
use Rattle.world_model.specs.declared.command.Mode.{Mode}
use Rattle.world_model.specs.lines.Lines.{wish_of}
use Rattle.world_model.specs.rules.Event.{AskBegin}
use Rattle.crdt_core.specs.declared.operation.Op.{Op}
use Rattle.crdt_core.specs.Placing.{place_of}
use Rattle.site_partitions.specs.Held.{Held}
use Rattle.site_partitions.specs.Reaches.{Types}
use Rattle.cluster.specs.Fuel.{TellsCall}
use Rattle.cluster.specs.Same.{SameCluster}
use Rattle.cluster.specs.Live.{session_in, IsPut}
use Rattle.cluster.specs.Sees.{Sees}

-- it goes on at another site, and what it did stands
pub record Moves {E : Type 0} (sessions : List (List ℕ × SessionState E)) (name : List ℕ) (site : ℕ) (answer : Step) (new : List (List ℕ × SessionState E)) : Type 0 where
  pub before : SessionState E
  pub is : session_in sessions name ≡ Some before
  pub put : IsPut sessions name (moved_to before site) new
  pub line : answer ≡ step.Moved before.name site
  pub holds : (calls : List (Call E)) → Holds before calls → Holds (moved_to before site) calls

module _ {S E D : Type 0} (types : Types S E D) where
  pub record Acts (held : Held E D) (sessions : List (List ℕ × SessionState E)) (name : List ℕ) (later : Held E D) (new : List (List ℕ × SessionState E)) (Does : SessionState E → SessionState E → List (Call E) → Type 0) : Type 0 where
    pub before : SessionState E
    pub is : session_in sessions name ≡ Some before
    pub after : SessionState E
    pub put : IsPut sessions name after new
    pub same : SameCluster types.state held later
    pub does : (calls : List (Call E)) → Sees types held calls → Holds before calls → Does before after calls

  -- it read an object
  abbrev pub Reads : Held E D → Held E D → ObjectId → Step → SessionState E → SessionState E → List (Call E) → Type 0
  Reads held later o answer s new calls = TellsCall types held later (place_in s (place_of o.bucket o.key s.parts)) answer × (new ≡ s) × MakesRead (λ h (p : Unit {0}) l. Sees types h l) (λ (p : Unit {0}) n. true) later tt calls s new o answer s.doing

  -- it updated one
  abbrev pub Updates : Held E D → Held E D → ObjectId → Op → Step → SessionState E → SessionState E → List (Call E) → Type 0
  Updates held later o op answer s new calls = TellsCall types held later (place_in s (place_of o.bucket o.key s.parts)) answer × IsUpdated s o answer new × MakesUpdate (λ h (p : Unit {0}) l. Sees types h l) (λ (p : Unit {0}) n. true) later tt calls s new o op answer s.doing

  -- it began a transaction in this mode, at the partition of its site with this number
  abbrev pub Begins : Held E D → Held E D → ℕ → Mode → Step → SessionState E → SessionState E → List (Call E) → Type 0
  Begins held later part mode answer s new calls = TellsCall types held later (place_in s part) answer × IsOpened s answer new × Makes (λ h (p : Unit {0}) l. Sees types h l) (λ (p : Unit {0}) n. true) later tt calls s new None (place_in s part) (AskBegin s.name (wish_of s.dependency mode)) answer
