-- What lies under a lock: a partition, its kept entries, and the seat of its trace's writer.
use Rattle.std.specs.Prelude.{◌≡◌, ◌≤◌, ℕ, List, [], ◌∷◌, true, ⊤}
use Rattle.site_vector.specs.declared.ids.PartId.{PartId}
use Rattle.world_model.specs.lines.Places.{IsPlace}
use Rattle.world_model.specs.rules.Partition.{PartState}
use Rattle.world_model.specs.rules.Traces.{IsTrace}
use Rattle.world_model.specs.threads.Marks.{events}
use Rattle.partition_core.specs.Durable.{Durable}
use Rattle.site_partitions.specs.Reaches.{Types, StandsAt}
use Rattle.seat_rule.specs.declared.view.Noted.{Noted}
use Rattle.seat_rule.specs.declared.view.Past.{Past}
use Rattle.seat_rule.specs.declared.view.View.{View}
use Rattle.seat_rule.specs.Lists.{has, at}
use Rattle.seat_rule.specs.world.Traces.{word_of, traces_of}
use Rattle.partition_lock.specs.declared.told.Told.{Told}
use Rattle.partition_lock.specs.declared.entry.Entry.{Entry}
use Rattle.partition_lock.specs.Events.{event_of}
use Rattle.partition_lock.specs.Passes.{IsStamp}

module _ {E : Type 0} where
  -- the entries show the steps of a trace, one for one
  abbrev pub AreShown : List Entry → List (Noted (Told E)) → Type 0
  AreShown [] [] = ⊤
  AreShown (x ∷ xs) (n ∷ ns) = (x.stamp ≡ n.stamp) × (x.caller ≡ n.by) × AreShown xs ns
  AreShown xs ns = ⊥

  -- the seat of a partition: it writes its trace alone, and holds no number
  pub record IsWriter (sites parts : ℕ) (id : PartId) (stamp : ℕ) (entries : List Entry) (me : View (Told E) × List (ℕ × ℕ)) : Type 0 where
    pub few_sites : sites ≤ 8
    pub few_parts : parts ≤ 16
    pub place : IsPlace sites parts id
    pub writes : (q : ℕ) → has me.0.past.writes q ≡ true → q ≡ word_of parts id
    pub here : has me.0.past.writes (word_of parts id) ≡ true
    pub numbers : me.0.past.numbers ≡ []
    pub slots : me.1 ≡ []
    pub stamped : IsStamp me.0.past.lists stamp
    pub shown : AreShown entries (at me.0.past.lists (word_of parts id))

  -- whatever state the partition's trace left, it stands for it
  abbrev pub StandsFor : {S D : Type 0} → Types S E D → ℕ → ℕ → PartId → Durable E D → Past (Told E) → Type 0
  StandsFor w sites parts id t p = (s : PartState E) → IsTrace w.kinds sites parts id (events (traces_of event_of sites parts (at p.lists) id)) s → StandsAt w sites parts id t s
