-- What the step is like that a desk notes of a call.
use Rattle.std.specs.Prelude.{◌≡◌, ℕ, List, true, Result}
use Rattle.site_vector.specs.declared.ids.PartId.{PartId}
use Rattle.world_model.specs.rules.Asking.{MayCall, asked_by, is_own_word}
use Rattle.world_model.specs.rules.Event.{Ask, Event, Entry, attempt}
use Rattle.world_model.specs.rules.Partition.{PartState, PartStep}
use Rattle.world_model.specs.rules.Plan.{IsFit, IsNew}
use Rattle.world_model.specs.rules.Traces.{IsTrace}
use Rattle.world_model.specs.threads.Marks.{events}
use Rattle.partition_core.specs.declared.durable.DurableError.{DurableError}
use Rattle.partition_core.specs.Durable.{Durable}
use Rattle.site_partitions.specs.Reaches.{Types, PutsEvent}
use Rattle.seat_rule.specs.declared.view.Noted.{Noted}
use Rattle.seat_rule.specs.declared.view.Past.{Past}
use Rattle.seat_rule.specs.Lists.{at, lens, grown}
use Rattle.seat_rule.specs.Views.{past}
use Rattle.seat_rule.specs.world.Traces.{word_of, traces_of}
use Rattle.partition_lock.specs.declared.told.Told.{Told}
use Rattle.partition_lock.specs.Events.{event_of, is_told}
use Rattle.partition_lock.specs.Answers.{IsTold}
use Rattle.partition_lock.specs.Desks.{StandsFor}

-- an event that answers this ask, whole, cut off or refused
pub record IsAnswer {S E D : Type 0} (w : Types S E D) (sites parts : ℕ) (id : PartId) (ask : Ask E) (Given : List (Entry E) → Type 0) (e : Event E) : Type 0 where
  pub asked : asked_by (attempt e) ≡ ask
  pub own_word : is_own_word (attempt e) ≡ true
  pub told : is_told e ≡ true
  pub fit : IsFit w.kinds e
  pub puts : PutsEvent w e
  -- where it may be asked
  pub new : (run : List (Entry E)) → MayCall sites parts run id ask → Given run → IsNew run e

-- the answer of a call by this number tells this step, which the partition took; its caller had seen this past. It stands for its longer trace
pub record IsStepOf {S E D A : Type 0} (w : Types S E D) (sites parts : ℕ) (id : PartId) (stamp by : ℕ) (p : Past (Told E)) (ask : Ask E) (Given : List (Entry E) → Type 0) (Shows : A → Event E → Type 0) (answer : Result A DurableError) (t : Durable E D) (n : Noted (Told E)) : Type 0 where
  pub stamp_is : n.stamp ≡ stamp
  pub by_is : n.by ≡ by
  pub cites_are : n.cites ≡ lens p.lists
  pub tells : IsTold ask Shows answer (event_of n.told)
  pub answers : IsAnswer w sites parts id ask Given (event_of n.told)
  pub steps : (s : PartState E) → IsTrace w.kinds sites parts id (events (traces_of event_of sites parts (at p.lists) id)) s → (later : PartState E) × PartStep w.kinds sites parts id s (event_of n.told) later
  pub stands : StandsFor w sites parts id t (past (grown p.lists (word_of parts id) n) p.numbers p.writes)
