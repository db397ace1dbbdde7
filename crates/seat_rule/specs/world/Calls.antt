-- A call of a partition by a pass.
use Rattle.std.specs.Prelude.{◌≡◌, ◌<◌, ℕ, true, false, List}
use mathlib.Core.Option.{some}
use lib.ListN.{get_elem?}
use Rattle.site_vector.specs.declared.ids.PartId.{PartId}
use Rattle.crdt_core.specs.KindsOf.{Kinds}
use Rattle.world_model.specs.lines.Places.{IsPlace}
use Rattle.world_model.specs.rules.Event.{Event, attempt}
use Rattle.world_model.specs.rules.Partition.{PartState, PartStep}
use Rattle.world_model.specs.rules.Plan.{IsFit, IsNew}
use Rattle.world_model.specs.rules.Traces.{IsTrace}
use Rattle.world_model.specs.rules.Asking.{is_own_word}
use Rattle.world_model.specs.threads.Marks.{Mark, entries_of, events, is_restarted}
use Rattle.world_model.specs.threads.Orders.{IsOrderOf}
use Rattle.world_model.specs.threads.Views.{IsPart}
use Rattle.world_model.specs.threads.Allowed.{MayStand}
use Rattle.world_model.specs.threads.Callers.{IsCallersStep}
use Rattle.seat_rule.specs.declared.view.Noted.{Noted}
use Rattle.seat_rule.specs.declared.view.Past.{Past}
use Rattle.seat_rule.specs.Lists.{has, at, lens}
use Rattle.seat_rule.specs.Notes.{Knows, IsClosed}
use Rattle.seat_rule.specs.world.Traces.{traces_of, IsLawful}

module _ {S T E : Type 0} (event_of : T → Event E) (sites parts : ℕ) (kinds : Kinds S E) (ok : Event E → Type 0) where
  -- a pass with the past `old` calls p; joined into the seat of p's writer the two have seen `all`. By what the pass had seen, in one order, the step is allowed
  pub record IsCallOf (all old : Past T) (base : List (Mark E)) (p : PartId) (e : Noted T) : Type 0 where
    pub place : IsPlace sites parts p
    pub knows : (q : ℕ) → Knows old.numbers (at old.lists q) (at all.lists q)
    pub closed : IsClosed all.lists
    pub old_closed : IsClosed old.lists
    pub cites : e.cites ≡ lens all.lists
    pub stamps : (q j : ℕ) (x : Noted T) → get_elem? (at all.lists q) j ≡ some x → x.stamp < e.stamp
    pub held : has old.numbers e.by ≡ true
    pub held_still : has all.numbers e.by ≡ true
    pub order : IsOrderOf (traces_of event_of sites parts (at old.lists)) base
    pub may : MayStand sites parts (entries_of base) p (attempt (event_of e.told))
    pub own_word : is_own_word (attempt (event_of e.told)) ≡ true
    pub mine : (logs : ℕ → List (Noted T)) (l : IsLawful event_of sites parts kinds ok logs) → IsPart (traces_of event_of sites parts (at old.lists)) (traces_of event_of sites parts logs) → IsCallersStep l.are.caller e.by (attempt (event_of e.told))
    pub new : IsNew (entries_of base) (event_of e.told)
    pub fit : IsFit kinds (event_of e.told)
    pub is_ok : ok (event_of e.told)
    pub unbroken : is_restarted (event_of e.told) ≡ false
    -- the partition's clause
    pub steps : (s : PartState E) → IsTrace kinds sites parts p (events (traces_of event_of sites parts (at all.lists) p)) s → (later : PartState E) × PartStep kinds sites parts p s (event_of e.told) later
