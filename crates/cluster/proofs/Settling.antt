-- How a settle answers, line by line, and what it leaves.
use Rattle.std.proofs.Common.{◌≡◌, ⊎_elim, inr, ℕ, Bool, true, false, List, [], ◌∷◌, ◌++◌, map, refl, sym, ap, ◌∙◌, subst, None, Some, Ok, Err, true≢false}
use Rattle.std.specs.Prelude.{not, ◌||◌, ◌&&◌, cond, filter}
use Rattle.std.specs.List.{list_any}
use Rattle.std.proofs.lemmas.Bool.{cases_Bool, false_from_ne_true, cond-true, cond-false}
use Rattle.std.proofs.lemmas.List.{append_assoc, append-nil}
use Rattle.site_vector.specs.declared.ids.PartId.{PartId}
use Rattle.site_vector.specs.declared.ids.TxId.{TxId}
use Rattle.site_vector.specs.Ids.{same_part, same_tx}
use Rattle.site_vector.specs.Order.{same_part_is, same_part_refl}
use Rattle.crdt_core.specs.Log as log
use Rattle.disk_core.specs.States.{DiskState}
use Rattle.world_model.specs.declared.command.Command.TheVariants as command
use Rattle.world_model.specs.declared.step.Step.{Step}
use Rattle.world_model.specs.declared.step.Step.TheVariants as step
use Rattle.world_model.specs.commands.Answers.{answered}
use Rattle.world_model.specs.rules.Asking.{MayCall, asked_by}
use Rattle.world_model.specs.commands.Cluster.{has_part, sites_of, parts_of}
use Rattle.world_model.specs.lines.Places.{partitions, IsPlace, first_of, home}
use Rattle.world_model.specs.lines.Dependency.{IsOwnPast}
use Rattle.world_model.specs.rules.Event.{AskFinish, AskAbort, AskReport, IsDown, HasNoRoom, Entry, Event, Finished, Aborted, Refused, Cut}
use Rattle.world_model.specs.rules.Fate.{IsFate}
use Rattle.world_model.specs.lines.History.{in_history, decides}
use Rattle.world_model.specs.lines.Lines.{Call, Line, FinishOf, AbortOf}
use Rattle.world_model.specs.rules.Lines.{step_shown, call_of}
use Rattle.world_model.specs.commands.Meeting.{met}
use Rattle.world_model.specs.rules.Partition.{PartState, ToldCommitted, ToldAborted, ToldDown, fate_of}
use Rattle.world_model.specs.lines.Pending.{pending, pending_after, is_down, down_after}
use Rattle.world_model.specs.commands.Run.{Run}
use Rattle.world_model.specs.commands.ScriptAnswers.{AnswersBy, IsAnswer}
use Rattle.world_model.specs.commands.ScriptCalls.{calls_of}
use Rattle.world_model.specs.commands.Settling.{settled, stays, is_untold, is_unwritten, first_end, ends_as_lead, SettlesAll}
use Rattle.world_model.specs.lines.Updates.{Change, changes, change_of, lead}
use Rattle.world_model.specs.lines.Waiting.{waiting, without}
use Rattle.world_model.specs.rules.Waiting.{ArePending}
use Rattle.world_model.proofs.Names.{off}
use Rattle.world_model.proofs.Told as law
use Rattle.partition_core.specs.declared.answers.Fate.{Fate}
use Rattle.partition_core.specs.declared.answers.Fate.TheVariants as fate
use Rattle.partition_core.specs.declared.durable.DurableError.{DurableError}
use Rattle.partition_core.specs.declared.durable.DurableError.TheVariants as call
use Rattle.partition_core.specs.Answers.{fate_told}
use Rattle.txn_session.specs.Calls.{called, entries}
use Rattle.site_partitions.specs.declared.fates.Waiting.{Waiting}
use Rattle.site_partitions.specs.Answers.{Any, Asks, AbortsByLead, GoesOn, CallsIf}
use Rattle.site_partitions.specs.Fates.{AreWaiting, OfState}
use Rattle.site_partitions.specs.Held.{Held, holds_part}
use Rattle.site_partitions.specs.Reaches.{Types, Reaches, MayAsk, HasBegun}
use Rattle.cluster.specs.Built.{is_built}
use Rattle.cluster.specs.Fates.{lead_place, settling, MaySettle, SettledTo, UnwrittenTo, Settles}
use Rattle.cluster.specs.Faults.{ShowsFault, ShowFaults, TellsFault}
use Rattle.cluster.specs.Live.{LiveState}
use Rattle.cluster.specs.Reached.{ReachedLive, GoesTo, AppliesLive, IsReachedLive}
use Rattle.cluster.specs.Same.{SameCluster, same_refl}
use Rattle.cluster.specs.Sees.{FailedAs, Sees}
use Rattle.cluster.proofs.Aborting.{never_down, never_undropped, never_unfinished}
use Rattle.cluster.proofs.Clocks.{part_in}
use Rattle.cluster.proofs.Delivering.{place_of_part}
use Rattle.cluster.proofs.Downed.{down_report}
use Rattle.cluster.proofs.Faulted.{failed_of, same_of, rose_of, show_more, shows_last}
use Rattle.cluster.proofs.Leading.{answered_more}
use Rattle.cluster.proofs.Meets.{all_met, first_at, none_due, refused}
use Rattle.cluster.proofs.Queueing.{AllSo, all_so_more, names_of, without_one, first_is, lines_for, settles_all, settles_front, lines_more}
use Rattle.cluster.proofs.Failing.{spends_of}
use Rattle.cluster.proofs.Rooms.{found_full, rooms_on, rooms_more}
use Rattle.cluster.proofs.FuelStays.{fueled_idle}
use Rattle.site_partitions.specs.Moves.{Moves}
use Rattle.partition_core.specs.Moments.{Spends}
use Rattle.cluster.proofs.Standing.{goes_none, goes_both, goes_quiet}
use Rattle.cluster.proofs.Stepping.{either_true, either_false}
use Rattle.cluster.proofs.Telling.{led_here, led_elsewhere, AreOther, AreOnce, once, AreLeft, down_is, low_is, waiting_is, site_is, lead_there, lead_same, word, listed_are}
use Rattle.cluster.proofs.Turned.{fuel_next, turned_alone}
use Rattle.cluster.proofs.FusedRuns.{is_of_restart}
use Rattle.cluster.proofs.Turning.{is_numberless, IsSilentFor}
use Rattle.cluster.proofs.Ups.{up_after}
use Rattle.cluster.proofs.Worlds.{pending_home}

-- an end of t at p tells of other transactions what was told before
module _ (parts : ℕ) (ls : List Line) (p : PartId) (t : TxId) (call : Call) (s : Step)
    (unchanged : (time index : ℕ) (u : TxId) → change_of p time index call s u ≡ []) (undecided : (u : TxId) → decides s u ≡ false) (as_up : (old : Bool) → down_after old s ≡ old) (ends : (u : TxId) (old : Bool) → pending_after u old s ≡ (not (same_tx t u) && old)) where
  abbrev pub after : List Line
  after = (record { at = p; call = call; step = s }) ∷ ls

  changes_are : (u : TxId) → changes after u ≡ changes ls u
  changes_are u = ap (λ x. changes ls u ++ x) (unchanged _ _ u) ∙ append-nil (changes ls u)

  pub end_leads : (u : TxId) → lead parts after u ≡ lead parts ls u
  end_leads u = λ i. first_of (home u) (filter (λ q. list_any (λ (c : Change). same_part c.at q) (changes_are u i)) (partitions u.site 1 parts))

  pub end_others : (u : TxId) → same_tx t u ≡ false → pending after p u ≡ pending ls p u
  end_others u h = cond-true (same_part p p) (pending_after u (pending ls p u) s) (pending ls p u) (same_part_refl p) ∙ (ends u (pending ls p u) ∙ ap (λ b. not b && pending ls p u) h)

  down_same : (q : PartId) → is_down after q ≡ is_down ls q
  down_same q = ap (λ x. cond (same_part p q) x (is_down ls q)) (as_up (is_down ls q)) ∙ either (same_part p q) (is_down ls q)
    where
      either : (b x : Bool) → cond b x x ≡ x
      either true x = refl
      either false x = refl

  history_same : (u : TxId) → in_history after u ≡ in_history ls u
  history_same u = ap (λ b. b || in_history ls u) (undecided u)

  away : (q : PartId) → same_part q p ≡ false → same_part p q ≡ false
  away q h = false_from_ne_true (same_part p q) (λ k. true≢false (sym (ap (λ x. same_part x p) (sym (same_part_is p q k)) ∙ same_part_refl p) ∙ h))

  untold_same : (u : TxId) → same_part (lead parts ls u) p ≡ false → (is_down after (lead parts ls u) || pending after (lead parts ls u) u) ≡ is_untold parts ls u
  untold_same u h = λ i. down_same (lead parts ls u) i || cond-false (same_part p (lead parts ls u)) (pending_after u (pending ls (lead parts ls u) u) s) (pending ls (lead parts ls u) u) (away (lead parts ls u) h) i

  waits_same : (u : TxId) → (same_part (lead parts ls u) p || (is_down after (lead parts ls u) || pending after (lead parts ls u) u)) ≡ (same_part (lead parts ls u) p || is_untold parts ls u)
  waits_same u = ⊎_elim
      (λ (h : same_part (lead parts ls u) p ≡ true). ap (λ b. b || (is_down after (lead parts ls u) || pending after (lead parts ls u) u)) h ∙ sym (ap (λ b. b || is_untold parts ls u) h))
      (λ (h : same_part (lead parts ls u) p ≡ false). ap (λ b. same_part (lead parts ls u) p || b) (untold_same u h))
      (cases_Bool (same_part (lead parts ls u) p))

  pub end_lasts : (u : TxId) → stays parts after p u ≡ stays parts ls p u
  end_lasts u = (λ i. same_part (end_leads u i) p || (is_down after (end_leads u i) || pending after (end_leads u i) u)) ∙ waits_same u

  pub end_settled : (u : TxId) → settled parts after p u ≡ settled parts ls p u
  end_settled u =
      (λ i. cond (same_part (end_leads u i) p || (is_down after (end_leads u i) || pending after (end_leads u i) u)) (step.Pending p u) (cond (in_history after u) (step.Finished p u) (step.Aborted p u)))
      ∙ (λ i. cond (waits_same u i) (step.Pending p u) (cond (history_same u i) (step.Finished p u) (step.Aborted p u)))

module _ {E : Type 0} where
  -- what is told as committed isn't pending
  told_ended : (q : PartState E) (t : TxId) (v : List ℕ) → ToldCommitted v ≡ fate_of q t → log.pending q.log t ≡ false
  told_ended q t v f = false_from_ne_true (log.pending q.log t) (λ k. ⊎_elim
      (λ (u : q.up ≡ true). absurd (cc (rw (u, k) at f)))
      (λ (u : q.up ≡ false). absurd (cc (rw u at f)))
      (cases_Bool q.up))

  -- who tells an end is up
  told_up : (q : PartState E) (t : TxId) (f : Fate) → fate_told f ≡ fate_of q t → (f ≡ fate.Down → ⊥) → q.up ≡ true
  told_up q t f e d = ⊎_elim
      (λ (u : q.up ≡ true). u)
      (λ (u : q.up ≡ false). by_fate f d (rw u at e))
      (cases_Bool q.up)
    where
      by_fate : (g : Fate) → (g ≡ fate.Down → ⊥) → fate_told g ≡ ToldDown → q.up ≡ true
      by_fate (fate.Committed v) m h = absurd (cc h)
      by_fate fate.Pending m h = absurd (cc h)
      by_fate fate.Aborted m h = absurd (cc h)
      by_fate fate.Down m h = absurd (m refl)

or_later : (b d : Bool) → d ≡ true → (b || d) ≡ true
or_later true d h = refl
or_later false d h = h

module _ {S E D : Type 0} (types : Types S E D) (c : LiveState E D) (p : PartId) (t : TxId) (n : ℕ) (may : MaySettle types c p t n) where
  up_in : (run : Run) (r : ReachedLive types c run) → (r.sees.reached.state p).up ≡ true
  up_in run r = may.up (entries r.calls) r.sees.reached

  -- a line that shows no call
  still : ((run : Run) (r : ReachedLive types c run) → pending (calls_of run) p t ≡ true → lead (parts_of run) (calls_of run) t ≡ lead_place p n → stays (parts_of run) (calls_of run) p t ≡ true) → Settles types c c p t n (step.Pending p t) true
  still f number run r h l = record {
    line = sym (cond-true (stays (parts_of run) (calls_of run) p t) _ _ (f run r h l));
    goes = goes_quiet types c number (Some (command.Settle p)) (step.Pending p t) run (record { called = refl; cluster = refl; sites = λ k. refl; parts = λ k. refl; site = λ who old. refl; count = λ k. refl; phase = λ who. refl }) refl refl refl r;
    same = λ u. refl;
    lasting = λ u. refl;
    leads = λ u. refl;
    others = λ u k. refl;
    queue = sym (cond-true (stays (parts_of run) (calls_of run) p t) _ _ (f run r h l));
    up = may.up;
  }

  pub settle_own : n ≡ p.part → Settles types c c p t n (step.Pending p t) true
  settle_own own = still (λ run r h l. ap (λ b. b || is_untold (parts_of run) (calls_of run) t) (led_here (parts_of run) (calls_of run) p t (l ∙ ap (lead_place p) own)))

  module _ (other : n ≡ p.part → ⊥) where
    away_is : (run : Run) → lead (parts_of run) (calls_of run) t ≡ lead_place p n → same_part (lead (parts_of run) (calls_of run) t) p ≡ false
    away_is run l = led_elsewhere (parts_of run) (calls_of run) p t n l other

    pub waits_at : (run : Run) (r : ReachedLive types c run) → pending (calls_of run) p t ≡ true → log.pending (r.sees.reached.state p).log t ≡ true
    waits_at run r h = waiting_is types c run r p may.place (up_in run r) t ∙ h

    -- the lead is in the cluster
    pub lead_in : IsPlace c.sites.sites c.sites.parts (lead_place p n)
    lead_in = subst (IsPlace c.sites.sites c.sites.parts) may.led (lead_there types c may.run may.reached p may.place (up_in may.run may.reached) t (waits_at may.run may.reached may.waits))

    pub of_site : t.site ≡ p.site
    of_site = site_is types c may.run may.reached p may.place (up_in may.run may.reached) t (waits_at may.run may.reached may.waits)

    -- the transaction has begun
    pub has_begun : HasBegun types c.sites t
    has_begun = record {
      run = entries may.reached.calls;
      reached = may.reached.sees.reached;
      begun = (pending_home types.kinds c.sites.sites c.sites.parts (entries may.reached.calls) may.reached.sees.reached.state may.reached.sees.reached.is_run p t (waits_at may.run may.reached may.waits)).begun;
    }

    pub reached_at : (run : List (Entry E)) × Reaches types c.sites run
    reached_at = (entries may.reached.calls, may.reached.sees.reached)

    fate_at : (f : Fate) → OfState types c.sites (lead_place p n) (λ q. fate_told f ≡ fate_of q t) → (run : Run) (r : ReachedLive types c run) → lead (parts_of run) (calls_of run) t ≡ lead_place p n → IsFate (calls_of run) (lead_place p n) t (fate_told f)
    fate_at f told run r l = subst (IsFate (calls_of run) (lead_place p n) t) (sym (told (entries r.calls) r.sees.reached)) (subst (λ q. IsFate (calls_of run) q t (fate_of (r.sees.reached.state q) t)) l (word types c run r t))

    -- the lead is down, or has it pending
    untold_at : (run : Run) → lead (parts_of run) (calls_of run) t ≡ lead_place p n → (b : Bool) → (is_down (calls_of run) (lead_place p n) || pending (calls_of run) (lead_place p n) t) ≡ b → is_untold (parts_of run) (calls_of run) t ≡ b
    untold_at run l b h = ap (λ q. is_down (calls_of run) q || pending (calls_of run) q t) l ∙ h

    stays_at : (run : Run) → lead (parts_of run) (calls_of run) t ≡ lead_place p n → (b : Bool) → (is_down (calls_of run) (lead_place p n) || pending (calls_of run) (lead_place p n) t) ≡ b → stays (parts_of run) (calls_of run) p t ≡ b
    stays_at run l b h = ap (λ x. x || is_untold (parts_of run) (calls_of run) t) (away_is run l) ∙ untold_at run l b h

    -- the lead has it pending, or tells nothing
    pub settle_untold : (f : Fate) → OfState types c.sites (lead_place p n) (λ q. fate_told f ≡ fate_of q t) → ((v : List ℕ) → f ≡ fate.Committed v → ⊥) → (f ≡ fate.Aborted → ⊥) → Settles types c c p t n (step.Pending p t) true
    settle_untold f told a b = still (λ run r h l. stays_at run l true (by_fate f a b run (fate_at f told run r l)))
      where
        by_fate : (g : Fate) → ((v : List ℕ) → g ≡ fate.Committed v → ⊥) → (g ≡ fate.Aborted → ⊥) → (run : Run) → IsFate (calls_of run) (lead_place p n) t (fate_told g) → (is_down (calls_of run) (lead_place p n) || pending (calls_of run) (lead_place p n) t) ≡ true
        by_fate fate.Pending x y run w = or_later (is_down (calls_of run) (lead_place p n)) (pending (calls_of run) (lead_place p n) t) w.1
        by_fate (fate.Committed v) x y run w = absurd (x v refl)
        by_fate fate.Aborted x y run w = absurd (y refl)
        by_fate fate.Down x y run w = ap (λ d. d || pending (calls_of run) (lead_place p n) t) w

    up_lead : (f : Fate) → OfState types c.sites (lead_place p n) (λ q. fate_told f ≡ fate_of q t) → (f ≡ fate.Down → ⊥) → (run : Run) (r : ReachedLive types c run) → (r.sees.reached.state (lead_place p n)).up ≡ true
    up_lead f told d run r = told_up (r.sees.reached.state (lead_place p n)) t f (told (entries r.calls) r.sees.reached) d

    -- the same sessions over other partitions
    abbrev with_sites : Held E D → LiveState E D
    with_sites later = record { sites = later; sessions = c.sessions }

    -- a line of a disk that failed, or has no room
    unwritten_goes : (later : Held E D) (same : SameCluster types.state c.sites later) (number : ℕ) (run : Run) (r : ReachedLive types c run) (e : Event E) (s : Step) → s ≡ step_shown (entries r.calls) p e → is_unwritten s ≡ true → is_numberless e ≡ true → ((who : List ℕ) → IsSilentFor (entries r.calls) who e) → IsOwnPast (sites_of run) (calls_of run) (call_of e) → Sees types later (called 0 p e ∷ r.calls)
        → (m : Moves types.state c.sites later p) → Spends types.kinds types.codec types.state m.before m.after (r.sees.reached.state p) e → is_of_restart e ≡ false → TellsFault types.state c.sites later p s → ends_as_lead (calls_of run) t ≡ call_of e → first_end (parts_of run) (calls_of run) p (waiting (calls_of run) p) ≡ ends_as_lead (calls_of run) t → GoesTo types c run r (with_sites later) (settling number p s run)
    unwritten_goes later same number run r e s shows un plain silent own seen m spends no_restart tells ends first =
        subst (λ x. GoesTo types c run r (with_sites later) (settling number p x run)) (sym shows)
        (turned_alone types c run r number (command.Settle p) 0 p e later same seen plain (unwritten_lines (step_shown (entries r.calls) p e) (ap is_unwritten (sym shows) ∙ un)) (λ who x. refl) silent own
        (fuel_next types c run r number (command.Settle p) 0 p e later same seen plain (unwritten_lines (step_shown (entries r.calls) p e) (ap is_unwritten (sym shows) ∙ un)) m spends no_restart (subst (TellsFault types.state c.sites later p) shows tells)))
      where
        unwritten_lines : (x : Step) → is_unwritten x ≡ true → calls_of (settling number p x run) ≡ (record { at = p; call = call_of e; step = x }) ∷ calls_of run
        unwritten_lines (step.Disk q) h = λ i. (record { at = p; call = (first ∙ ends) i; step = step.Disk q }) ∷ calls_of run
        unwritten_lines (step.Full room) h = λ i. (record { at = p; call = (first ∙ ends) i; step = step.Full room }) ∷ calls_of run
        unwritten_lines x h = off h

    module _ (told : OfState types c.sites (lead_place p n) (λ q. ToldAborted ≡ fate_of q t)) where
      aborted_up : (run : Run) (r : ReachedLive types c run) → (r.sees.reached.state (lead_place p n)).up ≡ true
      aborted_up run r = up_lead fate.Aborted told (λ k. absurd cc) run r

      aborted_fate : (run : Run) (r : ReachedLive types c run) → lead (parts_of run) (calls_of run) t ≡ lead_place p n → IsFate (calls_of run) (lead_place p n) t ToldAborted
      aborted_fate run r l = fate_at fate.Aborted told run r l

      aborted_stays : (run : Run) (r : ReachedLive types c run) → lead (parts_of run) (calls_of run) t ≡ lead_place p n → stays (parts_of run) (calls_of run) p t ≡ false
      aborted_stays run r l = stays_at run l false (λ i. down_is types c run r (lead_place p n) lead_in (aborted_up run r) i || (aborted_fate run r l).1 i)

      pub may_drop : (run : Run) (r : ReachedLive types c run) → lead (parts_of run) (calls_of run) t ≡ lead_place p n → AbortsByLead types c.sites p t (entries r.calls) r.sees.reached
      may_drop run r l = (law.told types.kinds c.sites.sites c.sites.parts (entries r.calls) r.sees.reached.state r.sees.reached.is_run p).aborts t
          (inr (ap (λ q. fate_of (r.sees.reached.state q) t) (lead_same types c run r t ∙ l) ∙ sym (told (entries r.calls) r.sees.reached)))

      pub settle_aborted : (later : Held E D) → GoesOn types c.sites later (AbortsByLead types c.sites p t) p (AskAbort t) (λ e. e ≡ Aborted t false) → Settles types c (with_sites later) p t n (step.Aborted p t) true
      settle_aborted later g number run r h l =
          let x = (g.goes (entries r.calls) r.sees.reached (may_drop run r l)).0 in
          let reached : Reaches types later ((record { at = p; event = Aborted t false }) ∷ entries r.calls) = subst (λ e. Reaches types later ((record { at = p; event = e }) ∷ entries r.calls)) x.shows x.reached in
          let seen : Sees types later (called 0 p (Aborted t false) ∷ r.calls) = record { reached = reached; one_caller = (refl, r.sees.one_caller); rooms = rooms_more types c.sites later (same_of types.state c.sites later p g.moves) (entries r.calls) p (Aborted t false) refl r.sees.rooms } in
          let same = same_of types.state c.sites later p g.moves in
          let place = subst (λ k. IsPlace k later.parts p) (sym same.sites_are) (subst (λ k. IsPlace c.sites.sites k p) (sym same.parts_are) may.place) in
          record {
            line = sym (cond-false (stays (parts_of run) (calls_of run) p t) _ _ (aborted_stays run r l) ∙ cond-false (in_history (calls_of run) t) _ _ (aborted_fate run r l).0);
            goes = turned_alone types c run r number (command.Settle p) 0 p (Aborted t false) later same seen refl refl (λ who s. refl) (λ who. tt) tt
                (fuel_next types c run r number (command.Settle p) 0 p (Aborted t false) later same seen refl refl g.moves (spends_of types c.sites later (AbortsByLead types c.sites p t) p (AskAbort t) (Aborted t false) g (entries r.calls) r.sees.reached (may_drop run r l)) refl tt);
            same = end_settled (parts_of run) (calls_of run) p t (AbortOf t) (step.Aborted p t) (λ time index u. refl) (λ u. refl) (λ old. refl) (λ u old. refl);
            lasting = end_lasts (parts_of run) (calls_of run) p t (AbortOf t) (step.Aborted p t) (λ time index u. refl) (λ u. refl) (λ old. refl) (λ u old. refl);
            leads = end_leads (parts_of run) (calls_of run) p t (AbortOf t) (step.Aborted p t) (λ time index u. refl) (λ u. refl) (λ old. refl) (λ u old. refl);
            others = end_others (parts_of run) (calls_of run) p t (AbortOf t) (step.Aborted p t) (λ time index u. refl) (λ u. refl) (λ old. refl) (λ u old. refl);
            queue = cond-true (same_part p p) (without t (waiting (calls_of run) p)) (waiting (calls_of run) p) (same_part_refl p) ∙ sym (cond-false (stays (parts_of run) (calls_of run) p t) _ _ (aborted_stays run r l));
            up = up_after types c.sites later p g.moves place ((record { at = p; event = Aborted t false }) ∷ entries r.calls) reached (ap (λ (q : PartState E). q.up) reached.is_run.2.step.2);
          }

      -- the abort wasn't written
      pub settle_undropped : (later : Held E D) (error : DurableError) (s : Step) → CallsIf types c.sites later (AbortsByLead types c.sites p t) p (AskAbort t) (λ (x : Unit {0}) e. e ≡ Aborted t false) (Err error) → FailedAs {X = Unit {0}} p t 0 (step.Disk p) error (Ok s) → Settles types c (with_sites later) p t n s false
      settle_undropped later call.NoMemory s g f number run r h l = absurd f
      settle_undropped later call.Down s g f number run r h l = absurd (never_down types c.sites later p may.place g.1.moves g.2 (entries r.calls) r.sees.reached (up_in run r))
      settle_undropped later call.Disk s g f number run r h l =
          let x = (g.0.goes (entries r.calls) r.sees.reached (may_drop run r l)).0 in
          let is : x.event ≡ Cut (Aborted t false) = x.shows.2 ∙ ap Cut x.shows.1.1 in
          let seen : Sees types later (called 0 p (Cut (Aborted t false)) ∷ r.calls) = record { reached = subst (λ e. Reaches types later ((record { at = p; event = e }) ∷ entries r.calls)) is x.reached; one_caller = (refl, r.sees.one_caller); rooms = rooms_more types c.sites later (same_of types.state c.sites later p g.0.moves) (entries r.calls) p (Cut (Aborted t false)) refl r.sees.rooms } in
          record {
            ends = aborted_stays run r l;
            unwritten = ap is_unwritten f;
            tells = subst (ShowsFault types.state run c.sites later) (sym f) (rose_of types.state c.sites later p g.0.moves g.1.rose);
            goes = unwritten_goes later (same_of types.state c.sites later p g.0.moves) number run r (Cut (Aborted t false)) s f (ap is_unwritten f) refl (λ who. tt) tt seen g.0.moves (subst (λ e. Spends types.kinds types.codec types.state g.0.moves.before g.0.moves.after (r.sees.reached.state p) e) is (g.0.goes (entries r.calls) r.sees.reached (may_drop run r l)).1) refl (subst (TellsFault types.state c.sites later p) (sym f) (refl, failed_of types.state c.sites later p g.0.moves g.1)) (cond-false (in_history (calls_of run) t) _ _ (aborted_fate run r l).0);
          }
      settle_undropped later (call.Full room) s g f number run r h l =
          let x = (g.1.goes (entries r.calls) r.sees.reached (may_drop run r l)).0 in
          let seen : Sees types later (called 0 p (Refused (AskAbort t) (HasNoRoom room)) ∷ r.calls) = record { reached = subst (λ e. Reaches types later ((record { at = p; event = e }) ∷ entries r.calls)) x.shows x.reached; one_caller = (refl, r.sees.one_caller); rooms = (found_full types c.sites later p (AskAbort t) room g.0 (AbortsByLead types c.sites p t) (λ (x : Unit {0}) e. e ≡ Aborted t false) (λ x what k. ap asked_by k) g.1 g.2 (entries r.calls) r.sees.reached (may_drop run r l), rooms_on types c.sites later (same_of types.state c.sites later p g.1.moves) (entries r.calls) r.sees.rooms) } in
          record {
            ends = aborted_stays run r l;
            unwritten = ap is_unwritten f;
            tells = subst (ShowsFault types.state run c.sites later) (sym f) tt;
            goes = unwritten_goes later (same_of types.state c.sites later p g.1.moves) number run r (Refused (AskAbort t) (HasNoRoom room)) s f (ap is_unwritten f) refl (λ who. tt) tt seen g.1.moves (spends_of types c.sites later (AbortsByLead types c.sites p t) p (AskAbort t) (Refused (AskAbort t) (HasNoRoom room)) g.1 (entries r.calls) r.sees.reached (may_drop run r l)) refl (subst (TellsFault types.state c.sites later p) (sym f) tt) (cond-false (in_history (calls_of run) t) _ _ (aborted_fate run r l).0);
          }
      settle_undropped later (call.Refused why) s g f number run r h l = absurd (never_undropped types c.sites later p t why (entries r.calls) r.sees.reached g (may_drop run r l) (up_in run r) (waits_at run r h))

    module _ (v : List ℕ) (told : OfState types c.sites (lead_place p n) (λ q. ToldCommitted v ≡ fate_of q t)) where
      committed_up : (run : Run) (r : ReachedLive types c run) → (r.sees.reached.state (lead_place p n)).up ≡ true
      committed_up run r = up_lead (fate.Committed v) told (λ k. absurd cc) run r

      committed_fate : (run : Run) (r : ReachedLive types c run) → lead (parts_of run) (calls_of run) t ≡ lead_place p n → IsFate (calls_of run) (lead_place p n) t (ToldCommitted v)
      committed_fate run r l = fate_at (fate.Committed v) told run r l

      committed_stays : (run : Run) (r : ReachedLive types c run) → lead (parts_of run) (calls_of run) t ≡ lead_place p n → stays (parts_of run) (calls_of run) p t ≡ false
      committed_stays run r l = stays_at run l false (λ i. down_is types c run r (lead_place p n) lead_in (committed_up run r) i || ended_there i)
        where
          ended_there : pending (calls_of run) (lead_place p n) t ≡ false
          ended_there = sym (waiting_is types c run r (lead_place p n) lead_in (committed_up run r) t) ∙ told_ended (r.sees.reached.state (lead_place p n)) t v (told (entries r.calls) r.sees.reached)

      may_end : (run : Run) (r : ReachedLive types c run) → pending (calls_of run) p t ≡ true → lead (parts_of run) (calls_of run) t ≡ lead_place p n → MayCall c.sites.sites c.sites.parts (entries r.calls) p (AskFinish t v)
      may_end run r h l = (law.told types.kinds c.sites.sites c.sites.parts (entries r.calls) r.sees.reached.state r.sees.reached.is_run p).finishes t v (waits_at run r h) (ap (λ q. fate_of (r.sees.reached.state q) t) (lead_same types c run r t ∙ l) ∙ sym (told (entries r.calls) r.sees.reached))

      pub may_finish : MayAsk types c.sites p (AskFinish t v)
      may_finish = record { place = may.place; run = entries may.reached.calls; reached = may.reached.sees.reached; allowed = may_end may.run may.reached may.waits may.led }

      pub settle_finished : (later : Held E D) → GoesOn types c.sites later (Asks types c.sites Any p (AskFinish t v)) p (AskFinish t v) (λ e. e ≡ Finished t v) → Settles types c (with_sites later) p t n (step.Finished p t) true
      settle_finished later g number run r h l =
          let x = (g.goes (entries r.calls) r.sees.reached (may_end run r h l, tt)).0 in
          let reached : Reaches types later ((record { at = p; event = Finished t v }) ∷ entries r.calls) = subst (λ e. Reaches types later ((record { at = p; event = e }) ∷ entries r.calls)) x.shows x.reached in
          let seen : Sees types later (called 0 p (Finished t v) ∷ r.calls) = record { reached = reached; one_caller = (refl, r.sees.one_caller); rooms = rooms_more types c.sites later (same_of types.state c.sites later p g.moves) (entries r.calls) p (Finished t v) refl r.sees.rooms } in
          let same = same_of types.state c.sites later p g.moves in
          let place = subst (λ k. IsPlace k later.parts p) (sym same.sites_are) (subst (λ k. IsPlace c.sites.sites k p) (sym same.parts_are) may.place) in
          record {
            line = sym (cond-false (stays (parts_of run) (calls_of run) p t) _ _ (committed_stays run r l) ∙ cond-true (in_history (calls_of run) t) _ _ (committed_fate run r l).0);
            goes = turned_alone types c run r number (command.Settle p) 0 p (Finished t v) later same seen refl refl (λ who s. refl) (λ who. tt) tt
                (fuel_next types c run r number (command.Settle p) 0 p (Finished t v) later same seen refl refl g.moves (spends_of types c.sites later (Asks types c.sites Any p (AskFinish t v)) p (AskFinish t v) (Finished t v) g (entries r.calls) r.sees.reached (may_end run r h l, tt)) refl tt);
            same = end_settled (parts_of run) (calls_of run) p t (FinishOf t) (step.Finished p t) (λ time index u. refl) (λ u. refl) (λ old. refl) (λ u old. refl);
            lasting = end_lasts (parts_of run) (calls_of run) p t (FinishOf t) (step.Finished p t) (λ time index u. refl) (λ u. refl) (λ old. refl) (λ u old. refl);
            leads = end_leads (parts_of run) (calls_of run) p t (FinishOf t) (step.Finished p t) (λ time index u. refl) (λ u. refl) (λ old. refl) (λ u old. refl);
            others = end_others (parts_of run) (calls_of run) p t (FinishOf t) (step.Finished p t) (λ time index u. refl) (λ u. refl) (λ old. refl) (λ u old. refl);
            queue = cond-true (same_part p p) (without t (waiting (calls_of run) p)) (waiting (calls_of run) p) (same_part_refl p) ∙ sym (cond-false (stays (parts_of run) (calls_of run) p t) _ _ (committed_stays run r l));
            up = up_after types c.sites later p g.moves place ((record { at = p; event = Finished t v }) ∷ entries r.calls) reached (ap (λ (q : PartState E). q.up) reached.is_run.2.step.2);
          }

      -- the finish wasn't written
      pub settle_unfinished : (later : Held E D) (error : DurableError) (s : Step) → CallsIf types c.sites later (Asks types c.sites Any p (AskFinish t v)) p (AskFinish t v) (λ (x : Unit {0}) e. e ≡ Finished t v) (Err error) → FailedAs {X = Unit {0}} p t 0 (step.Disk p) error (Ok s) → Settles types c (with_sites later) p t n s false
      settle_unfinished later call.NoMemory s g f number run r h l = absurd f
      settle_unfinished later call.Down s g f number run r h l = absurd (never_down types c.sites later p may.place g.1.moves g.2 (entries r.calls) r.sees.reached (up_in run r))
      settle_unfinished later call.Disk s g f number run r h l =
          let x = (g.0.goes (entries r.calls) r.sees.reached (may_end run r h l, tt)).0 in
          let is : x.event ≡ Cut (Finished t v) = x.shows.2 ∙ ap Cut x.shows.1.1 in
          let seen : Sees types later (called 0 p (Cut (Finished t v)) ∷ r.calls) = record { reached = subst (λ e. Reaches types later ((record { at = p; event = e }) ∷ entries r.calls)) is x.reached; one_caller = (refl, r.sees.one_caller); rooms = rooms_more types c.sites later (same_of types.state c.sites later p g.0.moves) (entries r.calls) p (Cut (Finished t v)) refl r.sees.rooms } in
          record {
            ends = committed_stays run r l;
            unwritten = ap is_unwritten f;
            tells = subst (ShowsFault types.state run c.sites later) (sym f) (rose_of types.state c.sites later p g.0.moves g.1.rose);
            goes = unwritten_goes later (same_of types.state c.sites later p g.0.moves) number run r (Cut (Finished t v)) s f (ap is_unwritten f) refl (λ who. tt) tt seen g.0.moves (subst (λ e. Spends types.kinds types.codec types.state g.0.moves.before g.0.moves.after (r.sees.reached.state p) e) is (g.0.goes (entries r.calls) r.sees.reached (may_end run r h l, tt)).1) refl (subst (TellsFault types.state c.sites later p) (sym f) (refl, failed_of types.state c.sites later p g.0.moves g.1)) (cond-true (in_history (calls_of run) t) _ _ (committed_fate run r l).0);
          }
      settle_unfinished later (call.Full room) s g f number run r h l =
          let x = (g.1.goes (entries r.calls) r.sees.reached (may_end run r h l, tt)).0 in
          let seen : Sees types later (called 0 p (Refused (AskFinish t v) (HasNoRoom room)) ∷ r.calls) = record { reached = subst (λ e. Reaches types later ((record { at = p; event = e }) ∷ entries r.calls)) x.shows x.reached; one_caller = (refl, r.sees.one_caller); rooms = (found_full types c.sites later p (AskFinish t v) room g.0 (Asks types c.sites Any p (AskFinish t v)) (λ (x : Unit {0}) e. e ≡ Finished t v) (λ x what k. ap asked_by k) g.1 g.2 (entries r.calls) r.sees.reached (may_end run r h l, tt), rooms_on types c.sites later (same_of types.state c.sites later p g.1.moves) (entries r.calls) r.sees.rooms) } in
          record {
            ends = committed_stays run r l;
            unwritten = ap is_unwritten f;
            tells = subst (ShowsFault types.state run c.sites later) (sym f) tt;
            goes = unwritten_goes later (same_of types.state c.sites later p g.1.moves) number run r (Refused (AskFinish t v) (HasNoRoom room)) s f (ap is_unwritten f) refl (λ who. tt) tt seen g.1.moves (spends_of types c.sites later (Asks types c.sites Any p (AskFinish t v)) p (AskFinish t v) (Refused (AskFinish t v) (HasNoRoom room)) g.1 (entries r.calls) r.sees.reached (may_end run r h l, tt)) refl (subst (TellsFault types.state c.sites later p) (sym f) tt) (cond-true (in_history (calls_of run) t) _ _ (committed_fate run r l).0);
          }
      settle_unfinished later (call.Refused why) s g f number run r h l = absurd (never_unfinished types c.sites later p t why (entries r.calls) r.sees.reached v g (may_end run r h l))

-- a line of a disk says the same after any run
unwritten_shows : {E D : Type 0} (state : D → DiskState) (one other : Run) (old new : Held E D) (s : Step) → is_unwritten s ≡ true → ShowsFault state one old new s → ShowsFault state other old new s
unwritten_shows state one other old new (step.Disk p) h k = k
unwritten_shows state one other old new (step.Full room) h k = tt
unwritten_shows state one other old new s h k = off h

-- the lines of what was settled tell of no disk
settled_shows : {E D : Type 0} (state : D → DiskState) (run : Run) (old new : Held E D) (p : PartId) (done : List (TxId × ℕ)) → ShowFaults state run old new (lines_for (parts_of run) (calls_of run) p done)
settled_shows state run old new p [] = tt
settled_shows {E} {D} state run old new p (x ∷ done) = (shows_if (stays (parts_of run) (calls_of run) p x.0) (in_history (calls_of run) x.0), settled_shows state run old new p done)
  where
    shows_if : (b d : Bool) → ShowsFault state run old new (cond b (step.Pending p x.0) (cond d (step.Finished p x.0) (step.Aborted p x.0)))
    shows_if true d = tt
    shows_if false true = tt
    shows_if false false = tt

-- what is left, one after another
module _ {S E D : Type 0} (types : Types S E D) (old : LiveState E D) (p : PartId) where
  -- some were settled, and others are to be: those are first in the queue behind what stays
  pub record LedBy (now : LiveState E D) (rest : List Waiting) (lines : List Step) (run : Run) (r : ReachedLive types old run) (later : Run) : Type 0 where
    pub goes : GoesTo types old run r now later
    pub done : List (TxId × ℕ)
    pub todo : List (TxId × ℕ)
    pub front : List (TxId × ℕ)
    pub whole : waiting (calls_of run) p ≡ done ++ todo
    pub written : lines ≡ lines_for (parts_of run) (calls_of run) p done
    pub firsts : names_of todo ≡ map (λ (w : Waiting). w.tx) rest
    pub queue : waiting (calls_of later) p ≡ front ++ todo
    pub stay : AllSo (stays (parts_of run) (calls_of run) p) front
    pub same : (u : TxId) → settled (parts_of later) (calls_of later) p u ≡ settled (parts_of run) (calls_of run) p u
    pub lasting : (u : TxId) → stays (parts_of later) (calls_of later) p u ≡ stays (parts_of run) (calls_of run) p u
    pub left : AreLeft (parts_of later) (calls_of later) p rest

  pub record IsUnderWay (now : LiveState E D) (rest : List Waiting) (lines : List Step) : Type 0 where
    pub has : holds_part old.sites p ≡ true
    pub was_up : OfState types old.sites p (λ q. q.up ≡ true)
    pub up : OfState types now.sites p (λ q. q.up ≡ true)
    pub reached : IsReachedLive types old
    pub led : (number : ℕ) (run : Run) (r : ReachedLive types old run) → LedBy now rest lines run r (answered number (Some (command.Settle p)) lines run)

  pub at_start : (items : List Waiting) → holds_part old.sites p ≡ true → OfState types old.sites p (λ q. q.up ≡ true) → IsReachedLive types old → OfState types old.sites p (λ q. AreWaiting q.log items) → IsUnderWay old items []
  at_start items has up reached waits = record {
    has = has;
    was_up = up;
    up = up;
    reached = reached;
    led = λ number run r.
        let l = listed_are types old run r p (place_of_part old.sites p has) (up (entries r.calls) r.sees.reached) items (waits (entries r.calls) r.sees.reached) in record {
          goes = goes_none types old run r;
          done = [];
          todo = waiting (calls_of run) p;
          front = [];
          whole = refl;
          written = refl;
          firsts = l.firsts;
          queue = refl;
          stay = tt;
          same = λ u. refl;
          lasting = λ u. refl;
          left = l.left;
        };
  }

  pub may_settle : (now : LiveState E D) (w : Waiting) (rest : List Waiting) (lines : List Step) → IsUnderWay now (w ∷ rest) lines → MaySettle types now p w.tx w.lead
  may_settle now w rest lines u =
      let l = u.led 0 u.reached.run u.reached.reached in
      let there : IsPlace old.sites.sites old.sites.parts p = place_of_part old.sites p u.has in record {
        place = subst (λ k. IsPlace k now.sites.parts p) (sym l.goes.same.sites_are) (subst (λ k. IsPlace old.sites.sites k p) (sym l.goes.same.parts_are) there);
        up = u.up;
        run = answered 0 (Some (command.Settle p)) lines u.reached.run;
        reached = l.goes.reached;
        waits = l.left.0;
        led = l.left.1;
      }

  left_after : (now new : LiveState E D) (w : Waiting) (s : Step) (number : ℕ) (run : Run) (r : ReachedLive types now run) → SettledTo types now new p w.tx s number run r → (ws : List Waiting) → AreOther w.tx (map (λ (x : Waiting). x.tx) ws) → AreLeft (parts_of run) (calls_of run) p ws → AreLeft (parts_of (settling number p s run)) (calls_of (settling number p s run)) p ws
  left_after now new w s number run r x [] a l = tt
  left_after now new w s number run r x (y ∷ ys) a l = (x.others y.tx a.0 ∙ l.0, x.leads y.tx ∙ l.1, left_after now new w s number run r x ys a.1 l.2)

  -- the queue of a run has each once
  queue_once : (now : LiveState E D) (run : Run) → ReachedLive types now run → AreOnce (names_of (waiting (calls_of run) p))
  queue_once now run r =
      let listed = subst (λ ls. ArePending ls p (waiting ls p)) r.shown (law.told types.kinds now.sites.sites now.sites.parts (entries r.calls) r.sees.reached.state r.sees.reached.is_run p).listed in
      once (calls_of run) p (waiting (calls_of run) p) listed.times listed.order

  tail_other : (front : List (TxId × ℕ)) (y : TxId × ℕ) (todo : List (TxId × ℕ)) → AreOnce (names_of (front ++ y ∷ todo)) → AreOther y.0 (names_of todo)
  tail_other [] y todo o = o.0
  tail_other (x ∷ front) y todo o = tail_other front y todo o.1

  -- the next one has a line
  module _ (now new : LiveState E D) (w : Waiting) (rest : List Waiting) (lines : List Step) (s : Step) (number : ℕ) (run : Run) (r : ReachedLive types old run) (l : LedBy now (w ∷ rest) lines run r (answered number (Some (command.Settle p)) lines run)) where
    abbrev middle : Run
    middle = answered number (Some (command.Settle p)) lines run

    more_led : (todo : List (TxId × ℕ)) → l.todo ≡ todo → names_of todo ≡ w.tx ∷ map (λ (x : Waiting). x.tx) rest → SettledTo types now new p w.tx s number middle l.goes.reached → LedBy new rest (lines ++ s ∷ []) run r (settling number p s middle)
    more_led [] is f y = absurd (cc f)
    more_led (z ∷ todo) is f y =
        let first : z.0 ≡ w.tx = cc f in
        let firsts : names_of todo ≡ map (λ (x : Waiting). x.tx) rest = cc f in
        let queue : waiting (calls_of middle) p ≡ l.front ++ z ∷ todo = l.queue ∙ ap (λ x. l.front ++ x) is in
        let single : AreOnce (names_of (l.front ++ z ∷ todo)) = subst (λ x. AreOnce (names_of x)) queue (queue_once now middle l.goes.reached) in
        let others : AreOther w.tx (map (λ (x : Waiting). x.tx) rest) = subst (λ x. AreOther w.tx x) firsts (subst (λ t. AreOther t (names_of todo)) first (tail_other l.front z todo single)) in
        by_stays z todo is first firsts queue single others y (stays (parts_of middle) (calls_of middle) p w.tx) refl
      where
        by_stays : (z : TxId × ℕ) (todo : List (TxId × ℕ)) → l.todo ≡ z ∷ todo → z.0 ≡ w.tx → names_of todo ≡ map (λ (x : Waiting). x.tx) rest → waiting (calls_of middle) p ≡ l.front ++ z ∷ todo → AreOnce (names_of (l.front ++ z ∷ todo)) → AreOther w.tx (map (λ (x : Waiting). x.tx) rest) → SettledTo types now new p w.tx s number middle l.goes.reached → (b : Bool) → stays (parts_of middle) (calls_of middle) p w.tx ≡ b → LedBy new rest (lines ++ s ∷ []) run r (settling number p s middle)
        by_stays z todo is first firsts queue single others y true b = record {
          goes = goes_both types old run r now middle l.goes new (settling number p s middle) y.goes;
          done = l.done ++ z ∷ [];
          todo = todo;
          front = l.front ++ z ∷ [];
          whole = l.whole ∙ (ap (λ x. l.done ++ x) is ∙ sym (append_assoc l.done (z ∷ []) todo));
          written = (λ i. l.written i ++ (y.line ∙ (l.same w.tx ∙ ap (λ t. settled (parts_of run) (calls_of run) p t) (sym first))) i ∷ []) ∙ sym (lines_more (parts_of run) (calls_of run) p l.done z);
          firsts = firsts;
          queue = y.queue ∙ (cond-true (stays (parts_of middle) (calls_of middle) p w.tx) _ _ b ∙ (queue ∙ sym (append_assoc l.front (z ∷ []) todo)));
          stay = all_so_more (stays (parts_of run) (calls_of run) p) l.front z l.stay (sym (l.lasting z.0) ∙ (ap (λ t. stays (parts_of middle) (calls_of middle) p t) first ∙ b));
          same = λ u. y.same u ∙ l.same u;
          lasting = λ u. y.lasting u ∙ l.lasting u;
          left = left_after now new w s number middle l.goes.reached y rest others l.left.2;
        }
        by_stays z todo is first firsts queue single others y false b = record {
          goes = goes_both types old run r now middle l.goes new (settling number p s middle) y.goes;
          done = l.done ++ z ∷ [];
          todo = todo;
          front = l.front;
          whole = l.whole ∙ (ap (λ x. l.done ++ x) is ∙ sym (append_assoc l.done (z ∷ []) todo));
          written = (λ i. l.written i ++ (y.line ∙ (l.same w.tx ∙ ap (λ t. settled (parts_of run) (calls_of run) p t) (sym first))) i ∷ []) ∙ sym (lines_more (parts_of run) (calls_of run) p l.done z);
          firsts = firsts;
          queue = y.queue ∙ (cond-false (stays (parts_of middle) (calls_of middle) p w.tx) _ _ b ∙ ((λ i. without (sym first i) (queue i)) ∙ without_one l.front z todo single));
          stay = l.stay;
          same = λ u. y.same u ∙ l.same u;
          lasting = λ u. y.lasting u ∙ l.lasting u;
          left = left_after now new w s number middle l.goes.reached y rest others l.left.2;
        }

    abbrev steps_so : List Step
    steps_so = lines ++ s ∷ []

    -- it wasn't written, and the settle ends
    last_led : (todo : List (TxId × ℕ)) → l.todo ≡ todo → names_of todo ≡ w.tx ∷ map (λ (x : Waiting). x.tx) rest → UnwrittenTo types now new p w.tx s number middle l.goes.reached
        → SettlesAll (parts_of run) (calls_of run) p (waiting (calls_of run) p) steps_so × GoesTo types old run r new (settling number p s middle) × ShowFaults types.state run old.sites new.sites steps_so
    last_led [] is f y = absurd (cc f)
    last_led (z ∷ todo) is f y =
        let first : z.0 ≡ w.tx = cc f in
        let queue : waiting (calls_of middle) p ≡ l.front ++ z ∷ todo = l.queue ∙ ap (λ x. l.front ++ x) is in
        let ends : stays (parts_of middle) (calls_of middle) p z.0 ≡ false = ap (λ t. stays (parts_of middle) (calls_of middle) p t) first ∙ y.ends in
        let next : first_end (parts_of middle) (calls_of middle) p (waiting (calls_of middle) p) ≡ ends_as_lead (calls_of middle) w.tx =
        ap (first_end (parts_of middle) (calls_of middle) p) queue ∙ (first_is (parts_of middle) (calls_of middle) p (stays (parts_of run) (calls_of run) p) l.lasting l.front z todo l.stay ends ∙ ap (ends_as_lead (calls_of middle)) first) in
        let goes = y.goes next in
        let both = goes_both types old run r now middle l.goes new (settling number p s middle) goes in (
          subst (λ x. SettlesAll (parts_of run) (calls_of run) p x steps_so) (sym (l.whole ∙ ap (λ x. l.done ++ x) is))
              (subst (λ x. SettlesAll (parts_of run) (calls_of run) p (l.done ++ z ∷ todo) (x ++ s ∷ [])) (sym l.written)
              (settles_front (parts_of run) (calls_of run) p l.done z todo s (sym (l.lasting z.0) ∙ ends) y.unwritten)),
          both,
          show_more types.state run old.sites new.sites lines s (subst (ShowFaults types.state run old.sites new.sites) (sym l.written) (settled_shows types.state run old.sites new.sites p l.done))
              (shows_last types.state run old.sites now.sites new.sites s l.goes.same (unwritten_shows types.state middle run now.sites new.sites s y.unwritten y.tells)),
        )

  pub at_next : (now new : LiveState E D) (w : Waiting) (rest : List Waiting) (lines : List Step) (s : Step) → IsUnderWay now (w ∷ rest) lines → Settles types now new p w.tx w.lead s true → IsUnderWay new rest (lines ++ s ∷ [])
  at_next now new w rest lines s u x =
      let one = u.led 0 u.reached.run u.reached.reached in record {
        has = u.has;
        was_up = u.was_up;
        up = (x 0 (answered 0 (Some (command.Settle p)) lines u.reached.run) one.goes.reached one.left.0 one.left.1).up;
        reached = u.reached;
        led = λ number run r.
            let l = u.led number run r in
            subst (λ z. LedBy new rest (lines ++ s ∷ []) run r z) (sym (answered_more number (Some (command.Settle p)) lines s run))
            (more_led now new w rest lines s number run r l l.todo refl l.firsts (x number (answered number (Some (command.Settle p)) lines run) l.goes.reached l.left.0 l.left.1));
      }

  settle_has : (run : Run) → ReachedLive types old run → holds_part old.sites p ≡ true → not (has_part run p) ≡ false
  settle_has run r h = ap not (sym (part_in types old run r p) ∙ h)

  settle_met : (run : Run) → ReachedLive types old run → holds_part old.sites p ≡ true → met is_built run (command.Settle p) ≡ None
  settle_met run r h = none_due (all_met run (command.Settle p)) (refl, (ap not r.has, (settle_has run r h, tt)))

  is_settled : (run : Run) (r : ReachedLive types old run) → holds_part old.sites p ≡ true → OfState types old.sites p (λ q. q.up ≡ true) → (steps : List Step) → SettlesAll (parts_of run) (calls_of run) p (waiting (calls_of run) p) steps → IsAnswer is_built run (command.Settle p) steps
  is_settled run r has up steps k = subst (AnswersBy run (command.Settle p) steps) (sym (settle_met run r has))
      (either_false _ _ (is_down (calls_of run) p) (down_is types old run r p (place_of_part old.sites p has) (up (entries r.calls) r.sees.reached)) k)

  -- an end that wasn't written is the last line
  pub at_stop : (now new : LiveState E D) (w : Waiting) (rest : List Waiting) (lines : List Step) (s : Step) (steps : List Step) → steps ≡ lines ++ s ∷ [] → IsUnderWay now (w ∷ rest) lines → Settles types now new p w.tx w.lead s false → AppliesLive types old (command.Settle p) steps new
  at_stop now new w rest lines s steps is u x number run r =
      let l = u.led number run r in
      let k = last_led now new w rest lines s number run r l l.todo refl l.firsts (x number (answered number (Some (command.Settle p)) lines run) l.goes.reached l.left.0 l.left.1) in
      subst (λ z. IsAnswer is_built run (command.Settle p) z × GoesTo types old run r new (answered number (Some (command.Settle p)) z run) × ShowFaults types.state run old.sites new.sites z) (sym is) (
        is_settled run r u.has u.was_up (lines ++ s ∷ []) k.0,
        subst (λ z. GoesTo types old run r new z) (sym (answered_more number (Some (command.Settle p)) lines s run)) k.1,
        k.2,
      )

  no_names : (todo : List (TxId × ℕ)) → names_of todo ≡ [] → todo ≡ []
  no_names [] h = refl
  no_names (x ∷ todo) h = absurd (cc h)

  pub at_end : (now : LiveState E D) (lines steps : List Step) → steps ≡ lines ++ step.Settled p ∷ [] → IsUnderWay now [] lines → AppliesLive types old (command.Settle p) steps now
  at_end now lines steps is u number run r =
      let l = u.led number run r in
      let middle : Run = answered number (Some (command.Settle p)) lines run in
      let last = goes_quiet types now number (Some (command.Settle p)) (step.Settled p) middle (record { called = refl; cluster = refl; sites = λ n. refl; parts = λ n. refl; site = λ who old. refl; count = λ n. refl; phase = λ who. refl }) refl refl refl l.goes.reached in
      let whole : waiting (calls_of run) p ≡ l.done = l.whole ∙ (ap (λ x. l.done ++ x) (no_names l.todo l.firsts) ∙ append-nil l.done) in
      let all : lines ≡ lines_for (parts_of run) (calls_of run) p (waiting (calls_of run) p) = l.written ∙ ap (lines_for (parts_of run) (calls_of run) p) (sym whole) in
      subst (λ z. IsAnswer is_built run (command.Settle p) z × GoesTo types old run r now (answered number (Some (command.Settle p)) z run) × ShowFaults types.state run old.sites now.sites z) (sym is) (
        is_settled run r u.has u.was_up (lines ++ step.Settled p ∷ []) (subst (λ z. SettlesAll (parts_of run) (calls_of run) p (waiting (calls_of run) p) (z ++ step.Settled p ∷ [])) (sym all) (settles_all (parts_of run) (calls_of run) p (waiting (calls_of run) p))),
        subst (λ z. GoesTo types old run r now z) (sym (answered_more number (Some (command.Settle p)) lines (step.Settled p) run)) (goes_both types old run r now middle l.goes now _ last),
        show_more types.state run old.sites now.sites lines (step.Settled p) (subst (ShowFaults types.state run old.sites now.sites) (sym l.written) (settled_shows types.state run old.sites now.sites p l.done)) tt,
      )

  pub settle_nowhere : (steps : List Step) → steps ≡ step.NoPart ∷ [] → holds_part old.sites p ≡ false → AppliesLive types old (command.Settle p) steps old
  settle_nowhere steps is lacks = refused types old (command.Settle p) step.NoPart steps is refl
      (λ run r. first_at (all_met run (command.Settle p)) 2 (refl, (ap not r.has, ap not (sym (part_in types old run r p) ∙ lacks))))
      (λ run r who. refl)

  -- p is down
  pub settle_down : (steps : List Step) → steps ≡ step.Down p ∷ [] → holds_part old.sites p ≡ true → OfState types old.sites p (λ q. q.up ≡ false) → AppliesLive types old (command.Settle p) steps old
  settle_down steps is has down number run r =
      let low = down (entries r.calls) r.sees.reached in
      let seen = down_report types old.sites r.calls p (place_of_part old.sites p has) r.sees low in
      subst (λ z. IsAnswer is_built run (command.Settle p) z × GoesTo types old run r old (answered number (Some (command.Settle p)) z run) × ShowFaults types.state run old.sites old.sites z) (sym is) (
        subst (AnswersBy run (command.Settle p) (step.Down p ∷ [])) (sym (settle_met run r has)) (either_true _ _ (is_down (calls_of run) p) (low_is types old run r p low) refl),
        turned_alone types old run r number (command.Settle p) 0 p (Refused AskReport IsDown) old.sites (same_refl types.state old.sites) seen refl refl (λ who s. refl) (λ who. tt) tt
            (fueled_idle types.state old.sites run (record { number = number; command = Some (command.Settle p); step = step.Down p }) (entries r.calls) (entries (called 0 p (Refused AskReport IsDown) ∷ r.calls)) (record { lets = refl; untaken = refl; unchanged = λ h ls q. refl }) (λ whole b. b.1) r.fuel),
        (tt, tt),
      )
