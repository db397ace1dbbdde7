-- What a lawful run of the world is.
use Rattle.std.specs.Prelude.{◌≡◌, ℕ, ◌<◌, true, false, List}
use Rattle.site_vector.specs.declared.ids.PartId.{PartId}
use Rattle.site_vector.specs.declared.ids.TxId.{TxId}
use Rattle.site_vector.specs.Vector.{entry}
use Rattle.world_model.specs.rules.Event.{Entry, EventsAre, is_decided, time_of, was_aborted}
use Rattle.crdt_core.specs.KindsOf.{Kinds}
use Rattle.world_model.specs.rules.Plan.{Plan, updates_at}
use Rattle.world_model.specs.lines.Places.{IsPlace}
use Rattle.world_model.specs.events.Reads.{sees_tx, IsRight, HaveMeaning, AreCausal}
use Rattle.world_model.specs.events.Clock.{ClocksAre}
use Rattle.world_model.specs.events.Restarts.{KeepsDecided, Resume, SettleDoubts}
use Rattle.world_model.specs.events.Causes.{HaveCausesAt, AnswerAsUp, ShowAt, AreClear}
use Rattle.world_model.specs.events.Dependency.{KeepPast}
use Rattle.world_model.specs.events.Answers.{AreDue, IsKnown}
use Rattle.world_model.specs.events.Streams.{Send}
use Rattle.world_model.specs.events.Handed.{AreHanded, AreNew}
use Rattle.world_model.specs.events.Commit.{KeepVotes, ShowsVector, IsAgreed}
use Rattle.world_model.specs.events.Fresh.{AreFresh}
use Rattle.world_model.specs.events.Waits.{WaitFresh}

pub record IsLawfulWorld {S E : Type 0} (kinds : Kinds S E) (plan : Plan E) (run : List (Entry E)) : Type 0 where
  -- each step is made at a partition of the cluster
  pub places : EventsAre (λ p event. IsPlace plan.sites plan.parts p) run
  -- reads, updates that read, and messages, in the whole run
  pub right : EventsAre (IsRight kinds plan run) run
  -- each value is the meaning of what is read, and each stamp is due by it
  pub meant : HaveMeaning kinds plan run run
  -- so whatever is stored or sent names only what its transaction has seen
  pub causal : (t : TxId) (p : PartId) → AreCausal kinds plan run t (plan.updates t p)
  pub clock : ClocksAre run
  pub past : KeepPast plan.sites run
  pub decided_stay : KeepsDecided plan run
  pub handed : AreHanded plan run
  pub numbered : AreNew run
  -- all updates stand in the plan
  pub planned : (t : TxId) (p : PartId) → plan.updates t p ≡ updates_at run t p
  pub votes : KeepVotes plan run
  pub vectors : EventsAre (ShowsVector plan run) run
  pub agreed : (t : TxId) → is_decided run t ≡ true → IsAgreed plan run t
  -- after a decide that was cut off the lead's restart says which of two it was
  pub doubts : SettleDoubts run
  pub due : AreDue run
  pub known : EventsAre (IsKnown kinds) run
  pub causes : HaveCausesAt plan run
  -- what was cut off, or found no room, had no other cause
  pub clear : AreClear plan run
  pub downs : AnswerAsUp run
  -- who began with a stable snapshot waits at no partition
  pub waits : WaitFresh run
  -- a restart lists what was before, where a call that was cut off may have been done
  pub resumed : Resume plan run
  -- a message begins where it was asked to, or where the last one ended
  pub sends : Send plan run
  -- messages, takes, reports and waits show the bounds and what is pending, as earlier events do
  pub shown : ShowAt plan run
  -- snapshots have the stable entries, by the reports that were heard
  pub fresh : AreFresh plan run
  -- what was aborted anywhere is never decided
  pub fate : (t : TxId) (p : PartId) → was_aborted run t p ≡ true → is_decided run t ≡ false
  pub strict : (t : TxId) → is_decided run t ≡ true → entry (plan.snapshot t) t.site < time_of run t
  -- visible sets are closed
  pub closed : (s : List ℕ) (t u : TxId) → sees_tx plan run s t ≡ true → sees_tx plan run (plan.snapshot t) u ≡ true → sees_tx plan run s u ≡ true
