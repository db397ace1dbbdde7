-- What a partition's next call may rest on: which transactions a run has told nothing of.
use Rattle.std.specs.Prelude.{◌≡◌, ℕ, ◌<◌, Bool, true, false, ◌||◌, List, [], ◌∷◌}
use Rattle.site_vector.specs.declared.ids.PartId.{PartId}
use Rattle.site_vector.specs.declared.ids.TxId.{TxId}
use Rattle.site_vector.specs.Ids.{same_tx}
use Rattle.site_vector.specs.Vector.{entry}
use Rattle.crdt_core.specs.declared.record.Message.{Message}
use Rattle.crdt_core.specs.KindsOf.{Kinds}
use Rattle.crdt_core.specs.Parts.{lists, above}
use Rattle.crdt_core.specs.Log.{is_named_in}
use Rattle.world_model.specs.rules.Event.{AskRead, AskUpdate, AskPrepare, Event, Began, Updated, Read, Prepared, Decided, Finished, Aborted, Sent, Took, Restarted, Refused, Cut, Entry, tried}
use Rattle.world_model.specs.lines.Listed.{is_named, names_pending}
use Rattle.world_model.specs.rules.Partition.{PartState}
use Rattle.world_model.specs.lines.Places.{IsPlace, home}
use Rattle.world_model.specs.rules.Plan.{MayTake}
use Rattle.world_model.specs.rules.World.{plan_of, IsWorldRun}

module _ {E : Type 0} where
  -- the event is of t, or lists it
  abbrev pub names : Event E → TxId → Bool
  names (Began who dep u s) t = same_tx u t
  names (Updated u s o own op read x stamp) t = same_tx u t
  names (Read u s o own read value) t = same_tx u t
  names (Prepared u s l w n) t = same_tx u t
  names (Decided u c) t = same_tx u t
  names (Finished u c) t = same_tx u t
  names (Aborted u own) t = same_tx u t
  names (Sent asked m) t = lists m.parts t
  names (Took number m) t = lists m.parts t
  names (Restarted n b named listed) t = is_named named t || names_pending listed t
  names (Refused (AskRead u s o own) why) t = same_tx u t
  names (Refused (AskUpdate u s o own op) why) t = same_tx u t
  names (Refused (AskPrepare u s l w) why) t = same_tx u t
  -- a begin that was cut off made no transaction
  names (Cut (Began who dep u s)) t = false
  names (Cut (Updated u s o own op read x stamp)) t = same_tx u t
  names (Cut (Read u s o own read value)) t = same_tx u t
  names (Cut (Prepared u s l w n)) t = same_tx u t
  names (Cut (Decided u c)) t = same_tx u t
  names (Cut (Finished u c)) t = same_tx u t
  names (Cut (Aborted u own)) t = same_tx u t
  names (Cut (Sent asked m)) t = lists m.parts t
  names (Cut (Took number m)) t = lists m.parts t
  names other t = false

  abbrev pub is_told_of : List (Entry E) → TxId → Bool
  is_told_of [] t = false
  is_told_of (e ∷ run) t = names e.event t || is_told_of run t

  pub record Premises (sites parts : ℕ) (run : List (Entry E)) (state : PartId → PartState E) : Type 0 where
    -- no event is of a transaction whose time is above the clock of its partition
    pub undrawn : (t : TxId) → (state (home t)).now < t.time → is_told_of run t ≡ false
    -- a partition that was never asked for the vote of a transaction of its site names it in no record
    pub unasked : (p : PartId) (t : TxId) → t.site ≡ p.site → tried run t p ≡ false → is_named_in (state p).log t ≡ false
    -- what a message brings above the receiver's bound is named there in no record
    pub unheld : (p : PartId) (number : ℕ) (m : Message E) (t : TxId) → IsPlace sites parts p → MayTake (plan_of sites parts run) run p number m → (state p).up ≡ true → lists (above m.from (entry (state p).bounds m.from) m.parts) t ≡ true → is_named_in (state p).log t ≡ false

-- every run of the world gives these
abbrev pub LawPremises : (S E : Type 0) → Type 0
LawPremises S E = (kinds : Kinds S E) (sites parts : ℕ) (run : List (Entry E)) (state : PartId → PartState E) → IsWorldRun kinds sites parts run state → Premises sites parts run state
