-- How an expire answers, and what it leaves.
use Rattle.std.proofs.Common.{◌≡◌, ℕ, Bool, true, false, List, [], ◌∷◌, refl, sym, ap, ◌∙◌, subst, ⊎_elim, inl, None, Some, Ok, Err}
use Rattle.std.specs.Prelude.{not, ◌||◌, ◌==◌}
use Rattle.std.proofs.lemmas.Bool.{or_parts, eqb-true, cases_Bool}
use Rattle.site_vector.specs.declared.ids.PartId.{PartId}
use Rattle.site_vector.specs.declared.ids.TxId.{TxId}
use Rattle.crdt_core.specs.Log as log
use Rattle.crdt_core.specs.Log.{committed}
use Rattle.world_model.specs.declared.command.Command.TheVariants as command
use Rattle.world_model.specs.declared.step.Step.{Step}
use Rattle.world_model.specs.declared.step.Step.TheVariants as step
use Rattle.world_model.specs.commands.Answers.{answered}
use Rattle.world_model.specs.commands.Cluster.{has_part, parts_of}
use Rattle.world_model.specs.rules.Event.{AskAbort, IsDown, HasNoRoom, Aborted, Refused, Cut}
use Rattle.world_model.specs.rules.Partition.{PartState, ToldCommitted, fate_of}
use Rattle.world_model.specs.lines.Places.{IsPlace, home}
use Rattle.world_model.specs.commands.Run.{Run}
use Rattle.world_model.specs.commands.ScriptAnswers.{AnswersBy, IsAnswer, IsExpired}
use Rattle.world_model.specs.commands.Meeting.{met}
use Rattle.world_model.specs.commands.ScriptCalls.{is_called, calls_of}
use Rattle.world_model.specs.commands.Settling.{asks_abort, looked_up}
use Rattle.world_model.specs.lines.Pending.{is_down}
use Rattle.world_model.specs.lines.Updates.{lead}
use Rattle.world_model.proofs.Told as law
use Rattle.partition_core.specs.declared.answers.Fate.{Fate}
use Rattle.partition_core.specs.declared.answers.Fate.TheVariants as fate
use Rattle.partition_core.specs.declared.durable.DurableError.{DurableError}
use Rattle.partition_core.specs.declared.durable.DurableError.TheVariants as call
use Rattle.partition_core.specs.Answers.{fate_told}
use Rattle.partition_core.specs.Moments.{Spends}
use Rattle.txn_session.specs.Calls.{called, entries}
use Rattle.site_partitions.specs.Answers.{AbortsByLead, GoesOn, CallsIf}
use Rattle.site_partitions.specs.Fates.{IsLead, OfState}
use Rattle.site_partitions.specs.Reaches.{Types, Reaches, HasBegun}
use Rattle.cluster.specs.Built.{is_built}
use Rattle.cluster.specs.Fates.{lacks_txn, lead_place}
use Rattle.cluster.specs.Faults.{ShowsFault, ShowFaults}
use Rattle.cluster.specs.Same.{same_refl}
use Rattle.site_partitions.specs.Held.{Held, holds_part}
use Rattle.cluster.specs.Live.{LiveState}
use Rattle.cluster.specs.Reached.{ReachedLive, GoesTo, AppliesLive, IsReachedLive}
use Rattle.cluster.specs.Sees.{FailedAs, Sees}
use Rattle.cluster.proofs.Aborting.{never_down, never_undropped}
use Rattle.cluster.proofs.Clocks.{part_in}
use Rattle.cluster.proofs.Delivering.{place_of_part}
use Rattle.cluster.proofs.Downed.{down_abort}
use Rattle.cluster.proofs.Failing.{spends_of}
use Rattle.world_model.specs.rules.Asking.{asked_by}
use Rattle.cluster.proofs.Rooms.{found_full, rooms_on, rooms_more}
use Rattle.cluster.proofs.Faulted.{failed_of, same_of, rose_of}
use Rattle.cluster.proofs.FuelStays.{fueled_idle}
use Rattle.cluster.proofs.FuelLines.{lets_burn}
use Rattle.cluster.proofs.FuelWrites.{is_took}
use Rattle.cluster.proofs.Keeping.{is_postal}
use Rattle.cluster.proofs.Meets.{all_met, first_at, none_due, refused}
use Rattle.cluster.proofs.Standing.{IsQuiet, goes_quiet}
use Rattle.cluster.proofs.Stepping.{either_true, either_false}
use Rattle.cluster.proofs.Telling.{led_here, led_elsewhere, asks_here, asks_elsewhere, asks_ended, looked_pending, looked_finished, looked_gone, low_is, down_is, waiting_is, ended_is, lead_is, lead_same}
use Rattle.cluster.proofs.Turned.{fuel_next, turned_alone}
use Rattle.cluster.proofs.Worlds.{pending_home}

none_lacks : (b : Bool) → not b ≡ false → b ≡ true
none_lacks true h = refl
none_lacks false h = sym h

module _ {E : Type 0} where
  -- what a partition has committed, and not pending, is told so
  pub told_committed : (p : PartState E) (t : TxId) (v : List ℕ) → p.up ≡ true → log.pending p.log t ≡ false → ToldCommitted v ≡ fate_of p t → committed p.log t ≡ true
  told_committed p t v u k f = ⊎_elim
      (λ (c : committed p.log t ≡ true). c)
      (λ (c : committed p.log t ≡ false). absurd (cc (rw (u, k, c) at f)))
      (cases_Bool (committed p.log t))

  pub told_neither : (p : PartState E) (t : TxId) (f : Fate) → p.up ≡ true → log.pending p.log t ≡ false → fate_told f ≡ fate_of p t → ((v : List ℕ) → f ≡ fate.Committed v → ⊥) → committed p.log t ≡ false
  told_neither p t f u k e n = ⊎_elim
      (λ (c : committed p.log t ≡ true). by_fate f n (rw (u, k, c) at e))
      (λ (c : committed p.log t ≡ false). c)
      (cases_Bool (committed p.log t))
    where
      by_fate : (g : Fate) → ((v : List ℕ) → g ≡ fate.Committed v → ⊥) → fate_told g ≡ ToldCommitted (log.committed_at p.log t) → committed p.log t ≡ false
      by_fate (fate.Committed v) m h = absurd (m v refl)
      by_fate fate.Pending m h = absurd (cc h)
      by_fate fate.Aborted m h = absurd (cc h)
      by_fate fate.Down m h = absurd (cc h)

module _ {S E D : Type 0} (types : Types S E D) (c : LiveState E D) (p : PartId) (t : TxId) where
  lacks_in : (run : Run) → ReachedLive types c run → lacks_txn c.sites p t ≡ (not (has_part run p) || (not (t.site == p.site) || not (has_part run (home t))))
  lacks_in run r = λ i. not (part_in types c run r p i) || (not (t.site == p.site) || not (part_in types c run r (home t) i))

  pub expire_nowhere : (steps : List Step) → steps ≡ step.NoPart ∷ [] → lacks_txn c.sites p t ≡ true → AppliesLive types c (command.Expire p t) steps c
  expire_nowhere steps is lacks = refused types c (command.Expire p t) step.NoPart steps is refl
      (λ run r. first_at (all_met run (command.Expire p t)) 2 (refl, (ap not r.has, sym (lacks_in run r) ∙ lacks)))
      (λ run r who. refl)

  module _ (has : lacks_txn c.sites p t ≡ false) where
    pub here : IsPlace c.sites.sites c.sites.parts p
    here = place_of_part c.sites p (none_lacks (holds_part c.sites p) (or_parts (not (holds_part c.sites p)) _ has).0)

    pub of_site : t.site ≡ p.site
    of_site = eqb-true t.site p.site (none_lacks (t.site == p.site) (or_parts (not (t.site == p.site)) _ (or_parts (not (holds_part c.sites p)) _ has).1).0)

    expires : (run : Run) → ReachedLive types c run → met is_built run (command.Expire p t) ≡ None
    expires run r = none_due (all_met run (command.Expire p t)) (refl, (ap not r.has, (sym (lacks_in run r) ∙ has, tt)))

    -- one line, with the cluster after it
    line_applies : (s : Step) (new : LiveState E D) (steps : List Step) → steps ≡ s ∷ [] → ((number : ℕ) (run : Run) (r : ReachedLive types c run) → IsExpired run p t (s ∷ []) × GoesTo types c run r new ((record { number = number; command = Some (command.Expire p t); step = s }) ∷ run) × ShowsFault types.state run c.sites new.sites s) → AppliesLive types c (command.Expire p t) steps new
    line_applies s new steps is f number run r =
        let x = f number run r in
        subst (λ l. IsAnswer is_built run (command.Expire p t) l × GoesTo types c run r new (answered number (Some (command.Expire p t)) l run) × ShowFaults types.state run c.sites new.sites l) (sym is) (
          subst (AnswersBy run (command.Expire p t) (s ∷ [])) (sym (expires run r)) x.0,
          x.1,
          (x.2, tt),
        )

    -- p is down
    pub expire_down : (steps : List Step) → steps ≡ step.Down p ∷ [] → OfState types c.sites p (λ q. q.up ≡ false) → AppliesLive types c (command.Expire p t) steps c
    expire_down steps is down = line_applies (step.Down p) c steps is (λ number run r.
        let low = down (entries r.calls) r.sees.reached in
        let seen = down_abort types c.sites r.calls p here r.sees low t in (
          either_true _ _ (is_down (calls_of run) p) (low_is types c run r p low) refl,
          turned_alone types c run r number (command.Expire p t) 0 p (Refused (AskAbort t) IsDown) c.sites (same_refl types.state c.sites) seen refl refl (λ who s. refl) (λ who. tt) tt
              (fueled_idle types.state c.sites run (record { number = number; command = Some (command.Expire p t); step = step.Down p }) (entries r.calls) (entries (called 0 p (Refused (AskAbort t) IsDown) ∷ r.calls)) (record { lets = refl; untaken = refl; unchanged = λ h ls q. refl }) (λ whole b. b.1) r.fuel),
          tt,
        ))

    module _ (ups : OfState types c.sites p (λ q. q.up ≡ true)) where
      up_in : (run : Run) (r : ReachedLive types c run) → (r.sees.reached.state p).up ≡ true
      up_in run r = ups (entries r.calls) r.sees.reached

      not_down : (run : Run) (r : ReachedLive types c run) → is_down (calls_of run) p ≡ false
      not_down run r = down_is types c run r p here (up_in run r)

      -- p is asked for nothing
      only_looks : (s : Step) (run : Run) → ReachedLive types c run → asks_abort (parts_of run) (calls_of run) p t ≡ false → s ≡ looked_up (calls_of run) p t → IsExpired run p t (s ∷ [])
      only_looks s run r h k = either_false _ _ (is_down (calls_of run) p) (not_down run r) (either_false _ _ (asks_abort (parts_of run) (calls_of run) p t) h (ap (λ y. y ∷ []) k))

      -- or is asked for an abort, which has this line
      aborts : (s : Step) (run : Run) → ReachedLive types c run → asks_abort (parts_of run) (calls_of run) p t ≡ true → is_called (Some (command.Expire p t)) s ≡ true → IsExpired run p t (s ∷ [])
      aborts s run r h k = either_false _ _ (is_down (calls_of run) p) (not_down run r) (either_true _ _ (asks_abort (parts_of run) (calls_of run) p t) h (s, refl, k, tt))

      quiet : (number : ℕ) (run : Run) (r : ReachedLive types c run) (s : Step) → IsQuiet run (Some (command.Expire p t)) s → is_postal s ≡ false → lets_burn s ≡ true → is_took s ≡ false → GoesTo types c run r c ((record { number = number; command = Some (command.Expire p t); step = s }) ∷ run)
      quiet number run r s q h lets untaken = goes_quiet types c number (Some (command.Expire p t)) s run q h lets untaken r

      module _ (n : ℕ) (led : OfState types c.sites p (λ q. IsLead q.log t (Some n))) where
        pub expire_pending : (steps : List Step) → steps ≡ step.Pending p t ∷ [] → (n ≡ p.part → ⊥) → AppliesLive types c (command.Expire p t) steps c
        expire_pending steps is other = line_applies (step.Pending p t) c steps is (λ number run r.
            let l = led (entries r.calls) r.sees.reached in (
              only_looks (step.Pending p t) run r (asks_elsewhere (parts_of run) (calls_of run) p t (led_elsewhere (parts_of run) (calls_of run) p t n (lead_is types c run r p here (up_in run r) t l.0 ∙ ap (lead_place p) (sym l.1)) other)) (looked_pending (calls_of run) p t (sym (waiting_is types c run r p here (up_in run r) t) ∙ l.0)),
              quiet number run r (step.Pending p t) (record { called = refl; cluster = refl; sites = λ k. refl; parts = λ k. refl; site = λ who old. refl; count = λ k. refl; phase = λ who. refl }) refl refl refl,
              tt,
            ))

        module _ (own : n ≡ p.part) (later : Held E D) where
          lead_here : (run : Run) (r : ReachedLive types c run) → lead (parts_of run) (calls_of run) t ≡ p
          lead_here run r = let l = led (entries r.calls) r.sees.reached in lead_is types c run r p here (up_in run r) t l.0 ∙ ap (lead_place p) (sym l.1 ∙ own)

          -- the rules allow the abort
          pub may_drop : (run : Run) (r : ReachedLive types c run) → AbortsByLead types c.sites p t (entries r.calls) r.sees.reached
          may_drop run r = (law.told types.kinds c.sites.sites c.sites.parts (entries r.calls) r.sees.reached.state r.sees.reached.is_run p).aborts t (inl (sym (lead_same types c run r t ∙ lead_here run r)))

          asked : (run : Run) (r : ReachedLive types c run) → asks_abort (parts_of run) (calls_of run) p t ≡ true
          asked run r = asks_here (parts_of run) (calls_of run) p t (sym (waiting_is types c run r p here (up_in run r) t) ∙ (led (entries r.calls) r.sees.reached).0) (led_here (parts_of run) (calls_of run) p t (lead_here run r))

          pub expire_aborted : (steps : List Step) → steps ≡ step.Aborted p t ∷ [] → GoesOn types c.sites later (AbortsByLead types c.sites p t) p (AskAbort t) (λ e. e ≡ Aborted t false) → AppliesLive types c (command.Expire p t) steps (record { sites = later; sessions = c.sessions })
          expire_aborted steps is g = line_applies (step.Aborted p t) (record { sites = later; sessions = c.sessions }) steps is (λ number run r.
              let x = (g.goes (entries r.calls) r.sees.reached (may_drop run r)).0 in
              let seen : Sees types later (called 0 p (Aborted t false) ∷ r.calls) = record { reached = subst (λ e. Reaches types later ((record { at = p; event = e }) ∷ entries r.calls)) x.shows x.reached; one_caller = (refl, r.sees.one_caller); rooms = rooms_more types c.sites later (same_of types.state c.sites later p g.moves) (entries r.calls) p (Aborted t false) refl r.sees.rooms } in (
                aborts (step.Aborted p t) run r (asked run r) refl,
                turned_alone types c run r number (command.Expire p t) 0 p (Aborted t false) later (same_of types.state c.sites later p g.moves) seen refl refl (λ who s. refl) (λ who. tt) tt
                    (fuel_next types c run r number (command.Expire p t) 0 p (Aborted t false) later (same_of types.state c.sites later p g.moves) seen refl refl g.moves (spends_of types c.sites later (AbortsByLead types c.sites p t) p (AskAbort t) (Aborted t false) g (entries r.calls) r.sees.reached (may_drop run r)) refl tt),
                tt,
              ))

          -- the abort wasn't made; where its disk failed, that count rose
          pub expire_failed : (error : DurableError) (s : Step) (steps : List Step) → steps ≡ s ∷ [] → CallsIf types c.sites later (AbortsByLead types c.sites p t) p (AskAbort t) (λ (x : Unit {0}) e. e ≡ Aborted t false) (Err error) → FailedAs {X = Unit {0}} p t 0 (step.Disk p) error (Ok s) → AppliesLive types c (command.Expire p t) steps (record { sites = later; sessions = c.sessions })
          expire_failed call.NoMemory s steps is g f = absurd f
          expire_failed call.Down s steps is g f = line_applies s (record { sites = later; sessions = c.sessions }) steps is (λ number run r. absurd (never_down types c.sites later p here g.1.moves g.2 (entries r.calls) r.sees.reached (up_in run r)))
          expire_failed call.Disk s steps is g f = line_applies s (record { sites = later; sessions = c.sessions }) steps is (λ number run r.
              let x = (g.0.goes (entries r.calls) r.sees.reached (may_drop run r)).0 in
              let event : x.event ≡ Cut (Aborted t false) = x.shows.2 ∙ ap Cut x.shows.1.1 in
              let seen : Sees types later (called 0 p (Cut (Aborted t false)) ∷ r.calls) = record { reached = subst (λ e. Reaches types later ((record { at = p; event = e }) ∷ entries r.calls)) event x.reached; one_caller = (refl, r.sees.one_caller); rooms = rooms_more types c.sites later (same_of types.state c.sites later p g.0.moves) (entries r.calls) p (Cut (Aborted t false)) refl r.sees.rooms } in
              subst (λ y. IsExpired run p t (y ∷ []) × GoesTo types c run r (record { sites = later; sessions = c.sessions }) ((record { number = number; command = Some (command.Expire p t); step = y }) ∷ run) × ShowsFault types.state run c.sites later y) (sym f) (
                aborts (step.Disk p) run r (asked run r) refl,
                turned_alone types c run r number (command.Expire p t) 0 p (Cut (Aborted t false)) later (same_of types.state c.sites later p g.0.moves) seen refl refl (λ who k. refl) (λ who. tt) tt
                    (fuel_next types c run r number (command.Expire p t) 0 p (Cut (Aborted t false)) later (same_of types.state c.sites later p g.0.moves) seen refl refl g.0.moves (subst (λ e. Spends types.kinds types.codec types.state g.0.moves.before g.0.moves.after (r.sees.reached.state p) e) event (g.0.goes (entries r.calls) r.sees.reached (may_drop run r)).1) refl (refl, failed_of types.state c.sites later p g.0.moves g.1)),
                rose_of types.state c.sites later p g.0.moves g.1.rose,
              ))
          expire_failed (call.Full room) s steps is g f = line_applies s (record { sites = later; sessions = c.sessions }) steps is (λ number run r.
              let x = (g.1.goes (entries r.calls) r.sees.reached (may_drop run r)).0 in
              let seen : Sees types later (called 0 p (Refused (AskAbort t) (HasNoRoom room)) ∷ r.calls) = record { reached = subst (λ e. Reaches types later ((record { at = p; event = e }) ∷ entries r.calls)) x.shows x.reached; one_caller = (refl, r.sees.one_caller); rooms = (found_full types c.sites later p (AskAbort t) room g.0 (AbortsByLead types c.sites p t) (λ (x : Unit {0}) e. e ≡ Aborted t false) (λ x what k. ap asked_by k) g.1 g.2 (entries r.calls) r.sees.reached (may_drop run r), rooms_on types c.sites later (same_of types.state c.sites later p g.1.moves) (entries r.calls) r.sees.rooms) } in
              subst (λ y. IsExpired run p t (y ∷ []) × GoesTo types c run r (record { sites = later; sessions = c.sessions }) ((record { number = number; command = Some (command.Expire p t); step = y }) ∷ run) × ShowsFault types.state run c.sites later y) (sym f) (
                aborts (step.Full room) run r (asked run r) refl,
                turned_alone types c run r number (command.Expire p t) 0 p (Refused (AskAbort t) (HasNoRoom room)) later (same_of types.state c.sites later p g.1.moves) seen refl refl (λ who k. refl) (λ who. tt) tt
                    (fuel_next types c run r number (command.Expire p t) 0 p (Refused (AskAbort t) (HasNoRoom room)) later (same_of types.state c.sites later p g.1.moves) seen refl refl g.1.moves (spends_of types c.sites later (AbortsByLead types c.sites p t) p (AskAbort t) (Refused (AskAbort t) (HasNoRoom room)) g.1 (entries r.calls) r.sees.reached (may_drop run r)) refl tt),
                tt,
              ))
          expire_failed (call.Refused why) s steps is g f = line_applies s (record { sites = later; sessions = c.sessions }) steps is (λ number run r.
              absurd (never_undropped types c.sites later p t why (entries r.calls) r.sees.reached g (may_drop run r) (up_in run r) (led (entries r.calls) r.sees.reached).0))

          -- it has begun
          pub drop_begun : IsReachedLive types c → HasBegun types c.sites t
          drop_begun x =
              let r = x.reached in record {
                run = entries r.calls;
                reached = r.sees.reached;
                begun = (pending_home types.kinds c.sites.sites c.sites.parts (entries r.calls) r.sees.reached.state r.sees.reached.is_run p t (led (entries r.calls) r.sees.reached).0).begun;
              }

      module _ (ended : OfState types c.sites p (λ q. IsLead q.log t None)) where
        pub expire_finished : (v : List ℕ) (steps : List Step) → steps ≡ step.Finished p t ∷ [] → OfState types c.sites p (λ q. ToldCommitted v ≡ fate_of q t) → AppliesLive types c (command.Expire p t) steps c
        expire_finished v steps is told = line_applies (step.Finished p t) c steps is (λ number run r.
            let k = ended (entries r.calls) r.sees.reached in
            let done = told_committed (r.sees.reached.state p) t v (up_in run r) k (told (entries r.calls) r.sees.reached) in (
              only_looks (step.Finished p t) run r (asks_ended (parts_of run) (calls_of run) p t (sym (waiting_is types c run r p here (up_in run r) t) ∙ k)) (looked_finished (calls_of run) p t (sym (waiting_is types c run r p here (up_in run r) t) ∙ k) (sym (ended_is types c run r p here (up_in run r) t of_site) ∙ done)),
              quiet number run r (step.Finished p t) (record { called = refl; cluster = refl; sites = λ n. refl; parts = λ n. refl; site = λ who old. refl; count = λ n. refl; phase = λ who. refl }) refl refl refl,
              tt,
            ))

        pub expire_gone : (f : Fate) (steps : List Step) → steps ≡ step.Gone p t ∷ [] → OfState types c.sites p (λ q. fate_told f ≡ fate_of q t) → ((v : List ℕ) → f ≡ fate.Committed v → ⊥) → AppliesLive types c (command.Expire p t) steps c
        expire_gone f steps is told not_so = line_applies (step.Gone p t) c steps is (λ number run r.
            let k = ended (entries r.calls) r.sees.reached in
            let never = told_neither (r.sees.reached.state p) t f (up_in run r) k (told (entries r.calls) r.sees.reached) not_so in (
              only_looks (step.Gone p t) run r (asks_ended (parts_of run) (calls_of run) p t (sym (waiting_is types c run r p here (up_in run r) t) ∙ k)) (looked_gone (calls_of run) p t (sym (waiting_is types c run r p here (up_in run r) t) ∙ k) (sym (ended_is types c run r p here (up_in run r) t of_site) ∙ never)),
              quiet number run r (step.Gone p t) (record { called = refl; cluster = refl; sites = λ n. refl; parts = λ n. refl; site = λ who old. refl; count = λ n. refl; phase = λ who. refl }) refl refl refl,
              tt,
            ))
