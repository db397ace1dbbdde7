-- How the clock of a partition answers its command, and what the cluster has of a run's sites and partitions.
use Rattle.std.proofs.Common.{◌≡◌, ℕ, true, false, List, [], ◌∷◌, refl, sym, ap, ◌∙◌, subst, None, Some}
use Rattle.std.specs.Prelude.{not, ◌&&◌, nat_le, Ok, Err}
use Rattle.site_vector.specs.declared.ids.PartId.{PartId}
use Rattle.site_vector.specs.declared.ids.TxId.{TxId}
use Rattle.world_model.specs.declared.command.Command.TheVariants as command
use Rattle.world_model.specs.declared.step.Step.{Step}
use Rattle.world_model.specs.declared.step.Step.TheVariants as step
use Rattle.world_model.specs.commands.Answers.{answered}
use Rattle.world_model.specs.commands.Cluster.{sites_of, has_site, has_part}
use Rattle.world_model.specs.lines.Dependency.{IsOwnPast}
use Rattle.world_model.specs.rules.Event.{AskTick, Refusal, HasGap, IsRepeat, Event, Entry, Ticked, Refused, Cut}
use Rattle.world_model.specs.lines.Lines.{Tick}
use Rattle.world_model.specs.rules.Lines.{call_of, fault_shown, step_shown}
use Rattle.world_model.specs.commands.Meeting.{met}
use Rattle.world_model.specs.rules.Partition.{PartState, IsRefused}
use Rattle.world_model.specs.commands.Run.{Run}
use Rattle.world_model.specs.commands.ScriptAnswers.{AnswersBy, IsAnswer}
use Rattle.world_model.specs.commands.ScriptCalls.{is_answer, calls_of}
use Rattle.partition_core.specs.declared.durable.DurableError.{DurableError}
use Rattle.txn_session.specs.Calls.{called, entries}
use Rattle.site_partitions.specs.Answers.{Any, Asks, GoesOn, Calls}
use Rattle.site_partitions.specs.Held.{Held, holds_site, holds_part}
use Rattle.site_partitions.specs.Reaches.{Types, Reaches}
use Rattle.cluster.specs.Built.{is_built}
use Rattle.cluster.specs.Faults.{ShowFaults}
use Rattle.cluster.specs.Live.{LiveState}
use Rattle.cluster.specs.Reached.{ReachedLive, GoesTo, AppliesLive}
use Rattle.cluster.specs.Same.{SameCluster}
use Rattle.cluster.specs.Sees.{FailedAs, Sees}
use Rattle.cluster.proofs.Failing.{spends_of, failed_by}
use Rattle.world_model.specs.rules.Asking.{asked_by}
use Rattle.cluster.proofs.Rooms.{rooms_on, rooms_more}
use Rattle.cluster.proofs.Faulted.{same_of, shows_told}
use Rattle.cluster.proofs.Meets.{all_met, first_at, none_due, refused}
use Rattle.cluster.proofs.Seeing.{line_tells, told_last}
use Rattle.cluster.proofs.Turned.{fuel_next, turned_alone}
use Rattle.cluster.specs.Faults.{TellsFault}
use Rattle.cluster.proofs.FusedRuns.{is_of_restart}
use Rattle.cluster.proofs.Turning.{is_numberless, IsCallLine, IsSilentFor, call_line, asked_lines}

module _ {S E D : Type 0} (types : Types S E D) (c : LiveState E D) where
  pub site_in : (run : Run) → ReachedLive types c run → (site : ℕ) → holds_site c.sites site ≡ has_site run site
  site_in run r site = λ i. nat_le 1 site && nat_le site (r.sites i)

  pub part_in : (run : Run) → ReachedLive types c run → (p : PartId) → holds_part c.sites p ≡ has_part run p
  part_in run r p = λ i. (nat_le 1 p.site && nat_le p.site (r.sites i)) && (nat_le 1 p.part && nat_le p.part (r.parts i))

  module _ (p : PartId) (n : ℕ) where
    pub clock_nowhere : (steps : List Step) → steps ≡ step.NoPart ∷ [] → holds_part c.sites p ≡ false → AppliesLive types c (command.Clock p n) steps c
    clock_nowhere steps is lacks = refused types c (command.Clock p n) step.NoPart steps is refl
        (λ run r. first_at (all_met run (command.Clock p n)) 2 (refl, (ap not r.has, ap not (sym (part_in run r p) ∙ lacks))))
        (λ run r who. refl)

    none_met : (run : Run) → ReachedLive types c run → holds_part c.sites p ≡ true → met is_built run (command.Clock p n) ≡ None
    none_met run r there = none_due (all_met run (command.Clock p n)) (refl, (ap not r.has, (ap not (sym (part_in run r p) ∙ there), tt)))

    pub clock_applies : (later : Held E D) (now : ℕ) (steps : List Step) → steps ≡ step.Ticked p now ∷ [] → holds_part c.sites p ≡ true → GoesOn types c.sites later (Asks types c.sites Any p (AskTick n)) p (AskTick n) (λ e. e ≡ Ticked n now) → AppliesLive types c (command.Clock p n) steps (record { sites = later; sessions = c.sessions })
    clock_applies later now steps is there g number run r =
        let x = (g.goes (entries r.calls) r.sees.reached (tt, tt)).0 in
        let size : SameCluster types.state c.sites later = same_of types.state c.sites later p g.moves in
        let seen : Sees types later (called 0 p (Ticked n now) ∷ r.calls) = record { reached = subst (λ (e : Event E). Reaches types later ((record { at = p; event = e }) ∷ entries r.calls)) x.shows x.reached; one_caller = (refl, r.sees.one_caller); rooms = rooms_more types c.sites later size (entries r.calls) p (Ticked n now) refl r.sees.rooms } in
        subst (λ l. IsAnswer is_built run (command.Clock p n) l × GoesTo types c run r (record { sites = later; sessions = c.sessions }) (answered number (Some (command.Clock p n)) l run) × ShowFaults types.state run c.sites later l) (sym is) (
          subst (AnswersBy run (command.Clock p n) (step.Ticked p now ∷ [])) (sym (none_met run r there)) (step.Ticked p now, refl, refl, tt),
          turned_alone types c run r number (command.Clock p n) 0 p (Ticked n now) later size seen refl (asked_lines number (command.Clock p n) run (step.Ticked p now) (step.Ticked p now) p (Tick n) refl refl refl refl) (λ who s. refl) (λ who. tt) tt
              (fuel_next types c run r number (command.Clock p n) 0 p (Ticked n now) later size seen refl (asked_lines number (command.Clock p n) run (step.Ticked p now) (step.Ticked p now) p (Tick n) refl refl refl refl) g.moves (spends_of types c.sites later (Asks types c.sites Any p (AskTick n)) p (AskTick n) (Ticked n now) g (entries r.calls) r.sees.reached (tt, tt)) refl tt),
          (tt, tt),
        )

    -- what is known of what a tick that isn't answered shows
    pub record IsTick (events : List (Entry E)) (e : Event E) : Type 0 where
      pub plain : is_numberless e ≡ true
      pub call : call_of e ≡ Tick n
      pub silent : (who : List ℕ) → IsSilentFor events who e
      pub sure : (t : TxId) → step_shown events p e ≡ step.Unsure t → ⊥
      pub called : is_of_restart e ≡ false

    no_gap : (sites parts : ℕ) (q : PartState E) (h : ℕ) → IsRefused types.kinds sites parts p q (AskTick n) (HasGap h) → ⊥
    no_gap sites parts q h r = r.1

    no_repeat : (sites parts : ℕ) (q : PartState E) (h : ℕ) → IsRefused types.kinds sites parts p q (AskTick n) (IsRepeat h) → ⊥
    no_repeat sites parts q h r = r.1

    refused_tick : (later : Held E D) (events : List (Entry E)) (why : Refusal) → Reaches types later ((record { at = p; event = Refused (AskTick n) why }) ∷ events) → IsTick events (Refused (AskTick n) why)
    refused_tick later events (HasGap h) r = absurd (no_gap later.sites later.parts (r.is_run.0 p) h r.is_run.2.step.0)
    refused_tick later events (IsRepeat h) r = absurd (no_repeat later.sites later.parts (r.is_run.0 p) h r.is_run.2.step.0)
    refused_tick later events why r = record { plain = refl; call = refl; silent = λ who. tt; sure = λ t k. absurd cc; called = refl }

    cut_tick : (events : List (Entry E)) (now : ℕ) (what : Event E) → what ≡ Ticked n now → IsTick events (Cut what)
    cut_tick events now what k = subst (λ e. IsTick events (Cut e)) (sym k) (record { plain = refl; call = refl; silent = λ who. tt; sure = λ t k. absurd cc; called = refl })

    -- the line of a call that isn't answered tells its faults, and is a line of partitions
    pub clock_fails : (later : Held E D) (error : DurableError) (line : Step) (steps : List Step) → steps ≡ line ∷ [] → holds_part c.sites p ≡ true → Calls types c.sites later Any p (AskTick n) (λ (now : ℕ) (e : Event E). e ≡ Ticked n now) (Err error) → FailedAs {X = Unit {0}} p (record { site = 0; part = 0; time = 0 }) 0 (step.Disk p) error (Ok line) → AppliesLive types c (command.Clock p n) steps (record { sites = later; sessions = c.sessions })
    clock_fails later error line steps is there g f number run r =
        let x = failed_by types c.sites later (Asks types c.sites Any p (AskTick n)) p (AskTick n) (λ (now : ℕ) (e : Event E). e ≡ Ticked n now) (step.Disk p) (entries r.calls) r.sees.reached (tt, tt) (IsTick (entries r.calls)) (λ why reached. refused_tick later (entries r.calls) why reached) (λ now what k reached. cut_tick (entries r.calls) now what k) (λ now what k. subst (λ e. (step.Disk p ≡ fault_shown p e) × (asked_by e ≡ AskTick n)) (sym k) (refl, refl)) error line g f in
        let seen : Sees types later (called 0 p x.event ∷ r.calls) = record { reached = x.reached; one_caller = (refl, r.sees.one_caller); rooms = (x.room, rooms_on types c.sites later x.same (entries r.calls) r.sees.rooms) } in
        let told : IsCallLine run (step_shown (entries r.calls) p x.event) = call_line run (entries r.calls) p x.event (told_last types later (called 0 p x.event) r.calls seen) x.property.plain in
        let lines = asked_lines number (command.Clock p n) run (step_shown (entries r.calls) p x.event) (step_shown (entries r.calls) p x.event) p (call_of x.event) refl told.answer told.number (ap (λ k. record { at = p; call = k }) (sym x.property.call)) in
        let tells = line_tells types {P = Unit {0}} c.sites later Any p (AskTick n) tt None (Unit {0}) (λ (now : ℕ) (e : Event E). e ≡ Ticked n now) (step.Disk p) (λ rose. (refl, rose)) error line g f in
        subst (λ l. IsAnswer is_built run (command.Clock p n) l × GoesTo types c run r (record { sites = later; sessions = c.sessions }) (answered number (Some (command.Clock p n)) l run) × ShowFaults types.state run c.sites later l) (sym is) (
          subst (AnswersBy run (command.Clock p n) (line ∷ [])) (sym (none_met run r there)) (line, refl, ap (λ s. is_answer s && true) x.shows ∙ ap (λ b. b && true) told.answer, tt),
          subst (λ s. GoesTo types c run r (record { sites = later; sessions = c.sessions }) ((record { number = number; command = Some (command.Clock p n); step = s }) ∷ run)) (sym x.shows)
              (turned_alone types c run r number (command.Clock p n) 0 p x.event later x.same seen x.property.plain lines (λ who s. refl) x.property.silent (subst (IsOwnPast (sites_of run) (calls_of run)) (sym x.property.call) tt)
              (fuel_next types c run r number (command.Clock p n) 0 p x.event later x.same seen x.property.plain lines x.moves x.spends x.property.called (subst (TellsFault types.state c.sites later p) x.shows tells))),
          (shows_told types.state run c.sites later p line tells (λ t k. absurd (x.property.sure t (sym x.shows ∙ k))), tt),
        )
