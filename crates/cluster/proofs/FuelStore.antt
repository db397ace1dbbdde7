-- What the line of a call of the store tells of a disk: the calls that it took of it, as the run of whoever may ask it tells.
use Rattle.std.proofs.Common.{◌≡◌, ℕ, true, List, sym, ◌∙◌, subst, Option}
use Rattle.std.specs.Prelude.{IfOk, Result, Ok, Err}
use Rattle.site_vector.specs.declared.ids.PartId.{PartId}
use Rattle.world_model.specs.declared.step.Step.{Step}
use Rattle.world_model.specs.rules.Asking.{MayCall, asked_by, is_own_word}
use Rattle.world_model.specs.rules.Event.{Ask, Refusal, IsDown, HasNoRoom, Event, Refused, Entry}
use Rattle.world_model.specs.rules.Lines.{fault_shown, step_shown, tx_asked, number_asked}
use Rattle.partition_core.specs.declared.durable.DurableError.{DurableError}
use Rattle.partition_core.specs.declared.durable.DurableError.TheVariants as call
use Rattle.partition_core.specs.Answers.{cause}
use Rattle.partition_core.specs.Moments.{IsCutOff}
use Rattle.txn_session.specs.Calls.{Call, entries}
use Rattle.site_partitions.specs.Held.{Held}
use Rattle.site_partitions.specs.Reaches.{Types}
use Rattle.site_partitions.specs.Answers.{Asks, GoesOn, Calls}
use Rattle.cluster.specs.Faults.{HasFailed, TellsFault}
use Rattle.cluster.specs.Fuel.{Spent, TellsCall}
use Rattle.cluster.specs.Sees.{refusal_line, FailedAs, Sees}
use Rattle.cluster.proofs.Seeing.{refusal_is, line_tells}

module _ {S E D : Type 0} (types : Types S E D) where
  module _ {P : Type 0} (old new : Held E D) (Given : List (Entry E) → Type 0) (at : PartId) (ask : Ask E) (pass : P) (number : Option ℕ) where
    -- in this run, which the old cluster reached, it may be asked
    abbrev pub On : List (Call E) → Type 0
    On calls = (s : Sees types old calls) × MayCall old.sites old.parts (entries calls) at ask × Given (entries calls)

    spent_at : (Shows : Event E → Type 0) → GoesOn types old new (Asks types old Given at ask) at ask Shows → (line : Step) (calls : List (Call E)) → ((e : Event E) → Shows e → line ≡ step_shown (entries calls) at e) → On calls → Spent types old new at line
    spent_at Shows g line calls lines o =
        let x = g.goes (entries calls) o.0.reached (o.1, o.2) in record {
          moves = g.moves;
          run = entries calls;
          reached = o.0.reached;
          event = x.0.event;
          shows = sym (lines x.0.event x.0.shows);
          next = x.0.reached;
          spends = x.1;
        }

    -- an event of this kind
    pub seen_tells : (Shows : Event E → Type 0) → GoesOn types old new (Asks types old Given at ask) at ask Shows → (line : Step) (calls : List (Call E)) → ((e : Event E) → Shows e → line ≡ step_shown (entries calls) at e) → TellsFault types.state old new at line → On calls → TellsCall types old new at line
    seen_tells Shows g line calls lines told o = (told, spent_at Shows g line calls lines o)

    -- just this event
    pub exact_tells : (event : Event E) → GoesOn types old new (Asks types old Given at ask) at ask (λ e. e ≡ event) → (line : Step) (calls : List (Call E)) → line ≡ step_shown (entries calls) at event → TellsFault types.state old new at line → On calls → TellsCall types old new at line
    exact_tells event g line calls is told o = seen_tells (λ e. e ≡ event) g line calls (λ e k. subst (λ x. line ≡ step_shown (entries calls) at x) (sym k) is) told o

    -- a fault of the disk has this line, on the word of who asks
    abbrev pub FaultsSo : {A : Type 0} → (A → Event E → Type 0) → Step → Type 0
    FaultsSo {A} Shows fault = (x : A) (what : Event E) → Shows x what → (fault ≡ fault_shown at what) × (is_own_word what ≡ true) × (asked_by what ≡ ask)

    refused_spent : (why : Refusal) → GoesOn types old new (Asks types old Given at ask) at ask (λ e. e ≡ Refused ask why) → (line : Step) → line ≡ refusal_line at (tx_asked ask) (number_asked ask) why → (calls : List (Call E)) → On calls → Spent types old new at line
    refused_spent why g line is calls o = spent_at (λ e. e ≡ Refused ask why) g line calls (λ e k. subst (λ x. line ≡ step_shown (entries calls) at x) (sym k) (is ∙ sym (refusal_is (entries calls) at ask why))) o

    cut_spent : {A : Type 0} (Shows : A → Event E → Type 0) (fault : Step) → FaultsSo Shows fault → GoesOn types old new (Asks types old Given at ask) at ask (IsCutOff Shows) → (line : Step) → line ≡ fault → (calls : List (Call E)) → On calls → Spent types old new at line
    cut_spent Shows fault faults g line is calls o = spent_at (IsCutOff Shows) g line calls
        (λ e k. subst (λ x. line ≡ step_shown (entries calls) at x) (sym k.2) (is ∙ (faults k.1.0 k.0 k.1.1).0)) o

    -- a call that isn't answered
    line_spent : {A : Type 0} (X : Type 0) (Shows : A → Event E → Type 0) (fault : Step) → FaultsSo Shows fault → (error : DurableError) (line : Step) → Calls types old new Given at ask Shows (Err error) → FailedAs {X = X} at (tx_asked ask) (number_asked ask) fault error (Ok line) → (calls : List (Call E)) → On calls → Spent types old new at line
    line_spent X Shows fault faults call.NoMemory line g f calls o = absurd f
    line_spent X Shows fault faults call.Down line g f calls o = refused_spent IsDown g.1 line f calls o
    line_spent X Shows fault faults call.Disk line g f calls o = cut_spent Shows fault faults g.0 line f calls o
    line_spent X Shows fault faults (call.Full room) line g f calls o = refused_spent (HasNoRoom room) g.1 line f calls o
    line_spent X Shows fault faults (call.Refused why) line g f calls o = refused_spent (cause why) g line f calls o

    pub line_tells_call : {A : Type 0} (X : Type 0) (Shows : A → Event E → Type 0) (fault : Step) → FaultsSo Shows fault → (HasFailed types.state old new at → TellsFault types.state old new at fault) → (error : DurableError) (line : Step) → Calls types old new Given at ask Shows (Err error) → FailedAs {X = X} at (tx_asked ask) (number_asked ask) fault error (Ok line) → (calls : List (Call E)) → On calls → TellsCall types old new at line
    line_tells_call X Shows fault faults tells error line g f calls o = (line_tells types old new Given at ask pass number X Shows fault tells error line g f, line_spent X Shows fault faults error line g f calls o)

    pub failed_tells_call : {A X : Type 0} (Shows : A → Event E → Type 0) (fault : Step) → FaultsSo Shows fault → (HasFailed types.state old new at → TellsFault types.state old new at fault) → (error : DurableError) (r : Result Step X) → Calls types old new Given at ask Shows (Err error) → FailedAs at (tx_asked ask) (number_asked ask) fault error r → (Q : Step → Type 0) → ((line : Step) → ((calls : List (Call E)) → On calls → TellsCall types old new at line) → Q line) → IfOk r Q
    failed_tells_call {A} {X} Shows fault faults tells error (Ok line) g f Q q = q line (λ calls o. line_tells_call X Shows fault faults tells error line g f calls o)
    failed_tells_call {A} {X} Shows fault faults tells error (Err x) g f Q q = tt
