-- A call of no session that isn't answered: the run goes on by what its line shows.
use Rattle.std.proofs.Common.{◌≡◌, ℕ, List, ◌∷◌, sym, ◌∙◌, subst}
use Rattle.std.specs.Prelude.{Ok, Err}
use Rattle.site_vector.specs.declared.ids.PartId.{PartId}
use Rattle.world_model.specs.declared.step.Step.{Step}
use Rattle.world_model.specs.rules.Event.{Ask, Refusal, IsDown, HasNoRoom, Event, Refused, Cut, Entry}
use Rattle.world_model.specs.rules.Lines.{fault_shown, step_shown, tx_asked, number_asked}
use Rattle.partition_core.specs.declared.durable.DurableError.{DurableError}
use Rattle.partition_core.specs.declared.durable.DurableError.TheVariants as call
use Rattle.partition_core.specs.Answers.{cause}
use Rattle.partition_core.specs.Moments.{AnySuch, Spends}
use Rattle.site_partitions.specs.Held.{Held}
use Rattle.site_partitions.specs.Moves.{Moves}
use Rattle.site_partitions.specs.Reaches.{Types, Reaches}
use Rattle.site_partitions.specs.Answers.{OnRuns, GoesOn, FindsNoRoom, CallsIf}
use Rattle.world_model.specs.rules.Asking.{asked_by}
use Rattle.cluster.specs.Same.{SameCluster}
use Rattle.cluster.specs.Sees.{refusal_line, FailedAs}
use Rattle.cluster.proofs.Faulted.{same_of}
use Rattle.cluster.proofs.Seeing.{refusal_is}
use Rattle.cluster.specs.Rooms.{FindsRoom, IsRoomAt}
use Rattle.cluster.proofs.Rooms.{quiet, cause_has_room, passes}

module _ {S E D : Type 0} (types : Types S E D) (old new : Held E D) (May : OnRuns types old) (at : PartId) (ask : Ask E) where
  -- what just this event took of the calls of its disk
  pub spends_of : (event : Event E) (g : GoesOn types old new May at ask (λ e. e ≡ event)) (run : List (Entry E)) (r : Reaches types old run) (may : May run r) → Spends types.kinds types.codec types.state g.moves.before g.moves.after (r.state at) event
  spends_of event g run r may = let x = g.goes run r may in subst (λ e. Spends types.kinds types.codec types.state g.moves.before g.moves.after (r.state at) e) x.0.shows x.1

module _ {S E D A : Type 0} (types : Types S E D) (old new : Held E D) (May : OnRuns types old) (at : PartId) (ask : Ask E) (Shows : A → Event E → Type 0) (fault : Step) where
  -- what is found of the room of its disk
  abbrev Room : List (Entry E) → Event E → Type 0
  Room run e = FindsRoom types.kinds types.codec new.sites new.parts (IsRoomAt types.state new) run at e

  -- an event with this property that has the line, and what it took of the calls of its disk
  pub record Fails (run : List (Entry E)) (r : Reaches types old run) (P : Event E → Type 0) (line : Step) : Type 0 where
    pub event : Event E
    pub property : P event
    pub shows : line ≡ step_shown run at event
    pub reached : Reaches types new ((record { at = at; event = event }) ∷ run)
    pub same : SameCluster types.state old new
    pub moves : Moves types.state old new at
    pub spends : Spends types.kinds types.codec types.state moves.before moves.after (r.state at) event
    pub room : Room run event

  module _ (run : List (Entry E)) (r : Reaches types old run) (may : May run r) (P : Event E → Type 0)
      (refused : (why : Refusal) → Reaches types new ((record { at = at; event = Refused ask why }) ∷ run) → P (Refused ask why))
      (cut : (x : A) (what : Event E) → Shows x what → Reaches types new ((record { at = at; event = Cut what }) ∷ run) → P (Cut what))
      (faults : (x : A) (what : Event E) → Shows x what → (fault ≡ fault_shown at what) × (asked_by what ≡ ask)) where
    by_refusal : (why : Refusal) (g : GoesOn types old new May at ask (λ e. e ≡ Refused ask why)) → (Reaches types new ((record { at = at; event = Refused ask why }) ∷ run) → Room run (Refused ask why)) → (line : Step) → line ≡ refusal_line at (tx_asked ask) (number_asked ask) why → Fails run r P line
    by_refusal why g room line is =
        let x = (g.goes run r may).0 in
        let reached : Reaches types new ((record { at = at; event = Refused ask why }) ∷ run) = subst (λ e. Reaches types new ((record { at = at; event = e }) ∷ run)) x.shows x.reached in
        record { event = Refused ask why; property = refused why reached; shows = is ∙ sym (refusal_is run at ask why); reached = reached; same = same_of types.state old new at g.moves; moves = g.moves; spends = spends_of types old new May at ask (Refused ask why) g run r may; room = room reached }

    full_by : (room : ℕ) → new ≡ old → (g : GoesOn types old new May at ask (λ e. e ≡ Refused ask (HasNoRoom room))) → FindsNoRoom types old new May at ask g.moves (AnySuch Shows) room → Reaches types new ((record { at = at; event = Refused ask (HasNoRoom room) }) ∷ run) → Room run (Refused ask (HasNoRoom room))
    full_by room same g f next = subst (λ (c : Held E D). FindsRoom types.kinds types.codec c.sites c.parts (IsRoomAt types.state c) run at (Refused ask (HasNoRoom room))) (sym same) (passes types old new at g.moves ask room run r next May may f (λ what h. (faults h.0 what h.1).1))

    pub failed_by : (error : DurableError) (line : Step) → CallsIf types old new May at ask Shows (Err error) → FailedAs {X = Unit {0}} at (tx_asked ask) (number_asked ask) fault error (Ok line) → Fails run r P line
    failed_by call.NoMemory line g f = absurd f
    failed_by call.Down line g f = by_refusal IsDown g.1 (λ x. tt) line f
    failed_by call.Disk line g f =
        let x = (g.0.goes run r may).0 in
        let k : x.event ≡ Cut x.shows.0 = x.shows.2 in
        let spends : Spends types.kinds types.codec types.state g.0.moves.before g.0.moves.after (r.state at) (Cut x.shows.0) = subst (λ e. Spends types.kinds types.codec types.state g.0.moves.before g.0.moves.after (r.state at) e) k (g.0.goes run r may).1 in
        let reached : Reaches types new ((record { at = at; event = Cut x.shows.0 }) ∷ run) = subst (λ e. Reaches types new ((record { at = at; event = e }) ∷ run)) k x.reached in
        record { event = Cut x.shows.0; property = cut x.shows.1.0 x.shows.0 x.shows.1.1 reached; shows = f ∙ (faults x.shows.1.0 x.shows.0 x.shows.1.1).0; room = tt; reached = reached; same = same_of types.state old new at g.0.moves; moves = g.0.moves; spends = spends }
    failed_by (call.Full room) line g f = by_refusal (HasNoRoom room) g.1 (full_by room g.0 g.1 g.2) line f
    failed_by (call.Refused why) line g f = by_refusal (cause why) g (λ x. quiet types.kinds types.codec new.sites new.parts (IsRoomAt types.state new) run at (Refused ask (cause why)) (cause_has_room ask why)) line f
