-- What a pass has seen, and what its seat is.
use Rattle.std.specs.Prelude.{◌≡◌, ◌≤◌, ℕ, List, [], true}
use mathlib.Core.Option.{some}
use lib.ListN.{get_elem?}
use Rattle.atomic_table.specs.Seated.{TableId}
use Rattle.crdt_core.specs.KindsOf.{Kinds}
use Rattle.site_vector.specs.declared.ids.PartId.{PartId}
use Rattle.world_model.specs.rules.Partition.{PartState}
use Rattle.world_model.specs.threads.AreTraces.{AreTraces}
use Rattle.world_model.specs.threads.Calls.{Call}
use Rattle.world_model.specs.threads.Marks.{Mark, calls}
use Rattle.world_model.specs.threads.Orders.{IsOrderOf}
use Rattle.txn_session.specs.Calls.{IsLegal}
use Rattle.seat_rule.specs.declared.view.Noted.{Noted}
use Rattle.seat_rule.specs.declared.view.Past.{Past}
use Rattle.seat_rule.specs.declared.view.View.{View}
use Rattle.seat_rule.specs.Lists.{has, at, total}
use Rattle.seat_rule.specs.world.Traces.{traces_of}
use Rattle.partition_lock.specs.declared.told.Told.{Told}
use Rattle.partition_lock.specs.Events.{event_of}

-- of no table that is made
abbrev pub no_table : TableId
no_table = record { words = 0; slots = 0; views_name = 0; atom = 0; block = 0; offset = 0; slot_names = [] }

-- the least of these numbers
pub record IsLeast (numbers : List ℕ) (n : ℕ) : Type 0 where
  pub held : has numbers n ≡ true
  pub least : (k : ℕ) → has numbers k ≡ true → n ≤ k

module _ {E : Type 0} where
  -- a pass with this past has seen these calls: all that it has seen, which are traces of a world, in some order in which each stands after all that its caller had seen
  pub record Sees {S : Type 0} (kinds : Kinds S E) (sites parts : ℕ) (p : Past (Told E)) (run : List (Call E)) : Type 0 where
    pub state : PartId → PartState E
    pub are : AreTraces kinds sites parts (traces_of event_of sites parts (at p.lists)) state
    pub marks : List (Mark E)
    pub order : IsOrderOf (traces_of event_of sites parts (at p.lists)) marks
    pub is : run ≡ calls marks
    pub legal : IsLegal kinds sites parts run

  -- this stamp is none below those in the lists, and at most the number of steps
  pub record IsStamp (lists : List (List (Noted (Told E)))) (stamp : ℕ) : Type 0 where
    pub greatest : (q j : ℕ) (x : Noted (Told E)) → get_elem? (at lists q) j ≡ some x → x.stamp ≤ stamp
    pub counted : stamp ≤ total lists

  -- a caller's seat: it writes nothing, and holds numbers
  pub record IsPass (least stamp : ℕ) (me : View (Told E) × List (ℕ × ℕ)) : Type 0 where
    pub writes : me.0.past.writes ≡ []
    pub lowest : IsLeast me.0.past.numbers least
    pub slots : me.1 ≡ []
    pub drawn : me.0.drawn ≡ 0
    pub stamped : IsStamp me.0.past.lists stamp
