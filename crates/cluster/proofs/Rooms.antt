-- Where a call found no room, and that a room is the same from then on.
use Rattle.std.proofs.Common.{◌≡◌, ◌<◌, ℕ, ◌+◌, Bool, true, false, List, [], ◌∷◌, refl, sym, ap, ◌∙◌, subst, true≢false, Result, Ok, Err}
use Rattle.site_vector.specs.declared.ids.PartId.{PartId}
use Rattle.crdt_core.specs.KindsOf.{Kinds}
use Rattle.gate_log.specs.Log.{end_of}
use Rattle.gate_log.specs.Logs.{gate_of}
use Rattle.partition_log.specs.Codec.{Codec}
use Rattle.partition_log.specs.Logs.{payloads_of, size}
use Rattle.partition_core.specs.declared.answers.Refusal as part
use Rattle.partition_core.specs.declared.answers.Refusal.TheVariants as answer
use Rattle.partition_core.specs.Answers.{cause}
use Rattle.partition_core.specs.Durable.{Durable, StandsOn, StandsUp, StandsDown, StandsSo, disk_in, is_down}
use Rattle.partition_core.specs.Moments.{AnySuch}
use Rattle.world_model.specs.lines.Places.{IsPlace}
use Rattle.world_model.specs.rules.Asking.{asked_by}
use Rattle.world_model.specs.rules.Event.{Ask, AskTick, AskBegin, AskPrepare, AskDecide, AskFinish, AskAbort, AskTake, Event, Entry, Refused, Refusal, HasNoRoom}
use Rattle.world_model.specs.rules.Partition.{PartState, MayDo, IsRefused, records}
use Rattle.world_model.specs.rules.World.{IsWorldRun}
use Rattle.site_partitions.specs.Answers.{FindsNoRoom, GoesOn, OnRuns}
use Rattle.site_partitions.specs.Held.{Held}
use Rattle.site_partitions.specs.Moves.{Moves}
use Rattle.site_partitions.specs.Reaches.{Types, Reaches, StandsAt}
use Rattle.cluster.specs.Rooms.{PassesRoom, FindsRoom, FindRooms, FoundRooms, IsRoomAt}
use Rattle.cluster.specs.Same.{SameCluster, room_at}
use Rattle.cluster.proofs.FuelTold.{both_up, place_of}

-- an event that isn't answered so
abbrev pub has_room : {E : Type 0} → Event E → Bool
has_room (Refused asked (HasNoRoom n)) = false
has_room other = true

-- no cause of a refusal is so
pub cause_has_room : {E : Type 0} (ask : Ask E) (why : part.Refusal) → has_room (Refused ask (cause why)) ≡ true
cause_has_room ask answer.BadOp = refl
cause_has_room ask other = refl

module _ {S E : Type 0} (kinds : Kinds S E) (codec : Codec E) (sites parts : ℕ) (R : PartId → ℕ → Type 0) where
  pub quiet : (run : List (Entry E)) (at : PartId) (e : Event E) → has_room e ≡ true → FindsRoom kinds codec sites parts R run at e
  quiet run at (Refused asked (HasNoRoom n)) h = absurd (true≢false (sym h))
  quiet run at other h = tt

  module _ (Q : PartId → ℕ → Type 0) (so : (p : PartId) (n : ℕ) → IsPlace sites parts p → R p n → Q p n) where
    passes_as : (run : List (Entry E)) (at : PartId) (asked : Ask E) (n : ℕ) → PassesRoom kinds codec sites parts R run at asked n → PassesRoom kinds codec sites parts Q run at asked n
    passes_as run at asked n x = record { place = x.place; is = so at n x.place x.is; state = x.state; is_run = x.is_run; what = x.what; asks = x.asks; may = x.may; past = x.past }

    finds_as : (run : List (Entry E)) (at : PartId) (e : Event E) → FindsRoom kinds codec sites parts R run at e → FindsRoom kinds codec sites parts Q run at e
    finds_as run at (Refused asked (HasNoRoom n)) x = passes_as run at asked n x
    finds_as run at other x = tt

    -- rooms that are told in other words
    pub rooms_as : (run : List (Entry E)) → FindRooms kinds codec sites parts R run → FindRooms kinds codec sites parts Q run
    rooms_as [] x = tt
    rooms_as (e ∷ run) x = (finds_as run e.at e.event x.0, rooms_as run x.1)

module _ {S E D : Type 0} (w : Types S E D) where
  -- calls leave the rooms of disks
  pub rooms_on : (old new : Held E D) → SameCluster w.state old new → (run : List (Entry E)) → FoundRooms w old run → FoundRooms w new run
  rooms_on old new same run x =
      subst (λ n. FindRooms w.kinds w.codec n new.parts (IsRoomAt w.state new) run) (sym same.sites_are) (subst (λ n. FindRooms w.kinds w.codec old.sites n (IsRoomAt w.state new) run) (sym same.parts_are)
      (rooms_as w.kinds w.codec old.sites old.parts (IsRoomAt w.state old) (IsRoomAt w.state new) (λ p n place h other. same.rooms p other ∙ h other) run x))

  -- one more event
  pub rooms_more : (old new : Held E D) → SameCluster w.state old new → (run : List (Entry E)) (at : PartId) (e : Event E) → has_room e ≡ true → FoundRooms w old run → FoundRooms w new ((record { at = at; event = e }) ∷ run)
  rooms_more old new same run at e h x = (quiet w.kinds w.codec new.sites new.parts (IsRoomAt w.state new) run at e h, rooms_on old new same run x)

  up_if_full : {S : Type 0} (kinds : Kinds S E) (sites parts : ℕ) (id : PartId) (p : PartState E) (ask : Ask E) (n : ℕ) → IsRefused kinds sites parts id p ask (HasNoRoom n) → p.up ≡ true
  up_if_full kinds sites parts id p ask n h = h.0

  module _ (old new : Held E D) (at : PartId) (m : Moves w.state old new at) (ask : Ask E) (room : ℕ) (run : List (Entry E)) (r : Reaches w old run) (next : Reaches w new ((record { at = at; event = Refused ask (HasNoRoom room) }) ∷ run)) where
    full_up : (r.state at).up ≡ true
    full_up =
        let e : Event E = Refused ask (HasNoRoom room) in
        let x = subst (λ n. IsWorldRun w.kinds n new.parts ((record { at = at; event = e }) ∷ run) next.state) m.same_sites next.is_run in
        let y : IsWorldRun w.kinds old.sites old.parts ((record { at = at; event = e }) ∷ run) next.state = subst (λ n. IsWorldRun w.kinds old.sites n ((record { at = at; event = e }) ∷ run) next.state) m.same_parts x in
        both_up w.kinds old.sites old.parts run y.0 r.state y.1 r.is_run at (up_if_full w.kinds old.sites old.parts at (y.0 at) ask room y.2.step.0)

    stands_there : StandsAt w old.sites old.parts at m.before (r.state at)
    stands_there = subst (λ t. StandsAt w old.sites old.parts at t (r.state at)) (m.there m.before) (r.each at (place_of w old new at m run (Refused ask (HasNoRoom room)) next) m.before)

    -- its log ends where its gate is
    gate_there : gate_of m.before.gates ≡ end_of (payloads_of w.codec (r.state at).log)
    gate_there = by_down (is_down m.before) refl
      where
        by_down : (b : Bool) → is_down m.before ≡ b → gate_of m.before.gates ≡ end_of (payloads_of w.codec (r.state at).log)
        by_down true e = let d : StandsDown w.codec w.state m.before (r.state at) = subst (λ c. StandsSo w.codec w.state m.before (r.state at) c) e stands_there.stands in absurd (true≢false (sym full_up ∙ d.down))
        by_down false e = let u : StandsUp w.codec w.state m.before (r.state at) = subst (λ c. StandsSo w.codec w.state m.before (r.state at) c) e stands_there.stands in u.log.is_open.at_rest.place

    -- so a call that finds no room passes it
    pub passes : (May : OnRuns w old) → May run r → {Such : Event E → Type 0} → FindsNoRoom w old new May at ask m Such room → ((what : Event E) → Such what → asked_by what ≡ ask) → PassesRoom w.kinds w.codec old.sites old.parts (IsRoomAt w.state old) run at ask room
    passes May may f asks =
        let full = f.1 run r may in
        let s = stands_there in
        record {
          place = place_of w old new at m run (Refused ask (HasNoRoom room)) next;
          is = λ other. ap (λ (t : Durable E D). (disk_in w.state t).room) (m.there other) ∙ sym f.0;
          state = r.state;
          is_run = r.is_run;
          what = full.what;
          asks = asks full.what full.shows;
          may = subst (λ n. MayDo w.kinds n old.parts at (r.state at) full.what) s.sites_are (subst (λ n. MayDo w.kinds m.before.tables.sites n at (r.state at) full.what) s.parts_are (subst (λ i. MayDo w.kinds m.before.tables.sites m.before.tables.parts i (r.state at) full.what) s.id full.may));
          past = subst (λ n. room < n + size w.codec (records (r.state at) full.what) + 1) gate_there full.past;
        }

  -- the same of the cluster after the call, which is that before
  pub found_full : {A : Type 0} (old new : Held E D) (at : PartId) (ask : Ask E) (room : ℕ) → new ≡ old → (May : OnRuns w old) (Shows : A → Event E → Type 0) → ((x : A) (what : Event E) → Shows x what → asked_by what ≡ ask) → (g : GoesOn w old new May at ask (λ e. e ≡ Refused ask (HasNoRoom room))) → FindsNoRoom w old new May at ask g.moves (AnySuch Shows) room
      → (run : List (Entry E)) (r : Reaches w old run) → May run r → FindsRoom w.kinds w.codec new.sites new.parts (IsRoomAt w.state new) run at (Refused ask (HasNoRoom room))
  found_full old new at ask room same May Shows asks g f run r may =
      let x = (g.goes run r may).0 in
      let next = subst (λ e. Reaches w new ((record { at = at; event = e }) ∷ run)) x.shows x.reached in
      subst (λ (c : Held E D). FindsRoom w.kinds w.codec c.sites c.parts (IsRoomAt w.state c) run at (Refused ask (HasNoRoom room))) (sym same) (passes old new at g.moves ask room run r next May may f (λ what h. asks h.0 what h.1))
