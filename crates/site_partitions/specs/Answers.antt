-- What a call of a cluster owes: whatever run it had reached, in which this may be asked, goes on by what the answer shows.
use Rattle.std.specs.Prelude.{◌≡◌, ℕ, true, false, List, ◌∷◌, Result, Ok, Err, ⊤}
use Rattle.site_vector.specs.declared.ids.PartId.{PartId}
use Rattle.site_vector.specs.declared.ids.TxId.{TxId}
use Rattle.disk_core.specs.States.{Fails}
use Rattle.world_model.specs.rules.Asking.{MayCall}
use Rattle.world_model.specs.rules.Event.{Ask, Event, Entry, Aborted, Refused, IsDown, HasNoRoom}
use Rattle.world_model.specs.rules.Plan.{IsAllowed}
use Rattle.world_model.specs.rules.World.{plan_of}
use Rattle.partition_core.specs.declared.durable.DurableError.{DurableError}
use Rattle.partition_core.specs.declared.durable.DurableError.TheVariants as call
use Rattle.partition_core.specs.Answers.{cause}
use Rattle.partition_core.specs.Durable.{disk_in, is_down}
use Rattle.partition_core.specs.Moments.{Spends, IsFull, IsCutOff, AnySuch}
use Rattle.site_partitions.specs.Held.{Held}
use Rattle.site_partitions.specs.Moves.{Moves}
use Rattle.site_partitions.specs.Reaches.{Types, Reaches, Goes}

-- nothing more is asked of the run
abbrev pub Any : {E : Type 0} → List (Entry E) → Type 0
Any run = ⊤

module _ {S E D : Type 0} (w : Types S E D) where
  -- a premise on a run that this cluster reached
  abbrev pub OnRuns : Held E D → Type 1
  OnRuns c = (run : List (Entry E)) → Reaches w c run → Type 0

  -- who holds to the rules asks this, and the run is as it must be
  abbrev pub Asks : (c : Held E D) → (List (Entry E) → Type 0) → PartId → Ask E → OnRuns c
  Asks c Given at ask run r = MayCall c.sites c.parts run at ask × Given run

  -- the lead's word allows an abort
  abbrev pub AbortsByLead : (c : Held E D) → PartId → TxId → OnRuns c
  AbortsByLead c at t run r = IsAllowed (plan_of c.sites c.parts ((record { at = at; event = Aborted t false }) ∷ run)) run r.state at (Aborted t false)

module _ {S E D : Type 0} (w : Types S E D) (old new : Held E D) (May : OnRuns w old) (at : PartId) (ask : Ask E) where
  -- only this partition changed, and each such run goes on by such an event, with what that takes of the disk's calls
  pub record GoesOn (Shows : Event E → Type 0) : Type 0 where
    pub moves : Moves w.state old new at
    pub goes : (run : List (Entry E)) (r : Reaches w old run) → May run r → (g : Goes w new run at ask Shows) × Spends w.kinds w.codec w.state moves.before moves.after (r.state at) g.event

  -- something would have been written of it, but for the room of the disk
  abbrev pub FindsNoRoom : Moves w.state old new at → (Event E → Type 0) → ℕ → Type 0
  FindsNoRoom m Shows room = (room ≡ (disk_in w.state m.before).room) × ((run : List (Entry E)) (r : Reaches w old run) → May run r → IsFull w.kinds w.codec w.state m.before m.after (r.state at) Shows room)

  -- it is answered, refused, or cut off by the disk
  abbrev pub CallsIf : {A : Type 0} → (A → Event E → Type 0) → Result A DurableError → Type 0
  CallsIf Shows (Ok x) = GoesOn (Shows x)
  -- where memory runs out, nothing happened
  CallsIf Shows (Err call.NoMemory) = new ≡ old
  CallsIf Shows (Err call.Down) = (new ≡ old) × (g : GoesOn (λ e. e ≡ Refused ask IsDown)) × (is_down g.moves.before ≡ true)
  CallsIf Shows (Err call.Disk) = (g : GoesOn (IsCutOff Shows)) × Fails (disk_in w.state g.moves.before) (disk_in w.state g.moves.after) × (is_down g.moves.after ≡ true)
  CallsIf Shows (Err (call.Full room)) = (new ≡ old) × (g : GoesOn (λ e. e ≡ Refused ask (HasNoRoom room))) × FindsNoRoom g.moves (AnySuch Shows) room
  CallsIf Shows (Err (call.Refused why)) = GoesOn (λ e. e ≡ Refused ask (cause why))

-- the same of what the rules of sessions, messages and reports allow, where the run is as it must be
abbrev pub Calls : {S E D A : Type 0} (w : Types S E D) (old new : Held E D) (Given : List (Entry E) → Type 0) (at : PartId) (ask : Ask E) → (A → Event E → Type 0) → Result A DurableError → Type 0
Calls w old new Given at ask Shows result = CallsIf w old new (Asks w old Given at ask) at ask Shows result
