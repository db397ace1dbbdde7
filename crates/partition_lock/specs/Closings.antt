-- What all partitions have done, once no thread calls them any more.
use Rattle.std.specs.Prelude.{◌≡◌, ◌*◌, ℕ, List, length, true}
use mathlib.Core.Option.{some}
use lib.ListN.{get_elem?}
use Rattle.site_vector.specs.declared.ids.PartId.{PartId}
use Rattle.world_model.specs.lines.Places.{IsPlace}
use Rattle.world_model.specs.rules.World.{IsWorldRun}
use Rattle.world_model.specs.threads.Marks.{entries_of}
use Rattle.world_model.specs.threads.Merging.{all_places, merged}
use Rattle.world_model.specs.threads.Orders.{IsOrderOf, IsSorted}
use Rattle.partition_core.specs.Durable.{Durable}
use Rattle.site_partitions.specs.Reaches.{Types, PutsEvent, StandsAt}
use Rattle.seat_rule.specs.declared.view.Noted.{Noted}
use Rattle.seat_rule.specs.declared.view.Past.{Past}
use Rattle.seat_rule.specs.declared.view.View.{View}
use Rattle.seat_rule.specs.Lists.{at, has}
use Rattle.seat_rule.specs.Notes.{Knows}
use Rattle.seat_rule.specs.world.Traces.{word_of, traces_of, IsLawful}
use Rattle.partition_lock.specs.declared.told.Told.{Told}
use Rattle.partition_lock.specs.declared.entry.Entry.{Entry}
use Rattle.partition_lock.specs.declared.close.Ended.{Ended}
use Rattle.partition_lock.specs.Desks.{AreShown, StandsFor}
use Rattle.partition_lock.specs.Events.{event_of}

abbrev pub kept_by : {C D S E : Type 0} → Ended C D S E → List Entry
kept_by x = x.entries.items

abbrev pub left_by : {C D S E : Type 0} → Ended C D S E → Durable E D
left_by x = x.partition

module _ {S E D X : Type 0} (w : Types S E D) (sites parts : ℕ) (kept : X → List Entry) (part : X → Durable E D) where
  -- the partition with this word kept the steps of its trace, and stands for the state that they left
  pub record IsEnded (lists : List (List (Noted (Told E)))) (lawful : IsLawful event_of sites parts w.kinds (PutsEvent w) (at lists)) (word : ℕ) (x : X) : Type 0 where
    pub id : PartId
    pub place : IsPlace sites parts id
    pub at_word : word_of parts id ≡ word
    pub shown : AreShown (kept x) (at lists word)
    pub stands : StandsAt w sites parts id (part x) (lawful.state id)

  -- these partitions, site by site, have made traces of a world, which merge by stamp and partition into a run of it, each step after all that its caller had seen. In them stands all that the pass had seen, and beyond it nothing that bears its numbers
  pub record IsWhole (p : Past (Told E)) (xs : List X) : Type 0 where
    pub lists : List (List (Noted (Told E)))
    pub lawful : IsLawful event_of sites parts w.kinds (PutsEvent w) (at lists)
    pub is_run : IsWorldRun w.kinds sites parts (entries_of (merged (all_places sites parts) (traces_of event_of sites parts (at lists)))) lawful.state
    pub order : IsOrderOf (traces_of event_of sites parts (at lists)) (merged (all_places sites parts) (traces_of event_of sites parts (at lists)))
    pub sorted : IsSorted (merged (all_places sites parts) (traces_of event_of sites parts (at lists)))
    pub knows : (q : ℕ) → Knows p.numbers (at p.lists q) (at lists q)
    pub all : length xs ≡ sites * parts
    pub each : (word : ℕ) (x : X) → get_elem? xs word ≡ some x → IsEnded lists lawful word x

  -- the partition with this word kept the steps of its trace, which the seat has seen whole
  pub record IsPutBy (me : View (Told E)) (word : ℕ) (x : X) : Type 0 where
    pub id : PartId
    pub place : IsPlace sites parts id
    pub at_word : word_of parts id ≡ word
    pub written : has me.past.writes word ≡ true
    pub shown : AreShown (kept x) (at me.past.lists word)
    pub stands : StandsFor w sites parts id (part x) me.past

  -- the pass was joined with the seats of these partitions
  pub record Gathered (p : Past (Told E)) (xs : List X) (me : View (Told E)) : Type 0 where
    pub lawful : IsLawful event_of sites parts w.kinds (PutsEvent w) (at me.past.lists)
    pub numbers : me.past.numbers ≡ p.numbers
    pub knows : (q : ℕ) → Knows p.numbers (at p.lists q) (at me.past.lists q)
    pub each : (word : ℕ) (x : X) → get_elem? xs word ≡ some x → IsPutBy me word x
