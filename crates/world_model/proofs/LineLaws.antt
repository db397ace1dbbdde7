-- The lines of a run of the world are a lawful run.
use Rattle.std.proofs.Common.{◌≡◌, ◌⊎◌, ⊎_elim, inl, inr, ℕ, ◌+◌, ◌<◌, ◌≤◌, max, leb, ltb, cond, Bool, true, false, not, ◌&&◌, ◌||◌, List, [], ◌∷◌, ◌++◌, length, Option, Some, append-nil, refl, sym, ap, ◌∙◌, subst, subst₂, arith}
use Rattle.std.specs.Prelude.{◌==◌, filter}
use Rattle.std.specs.List.{flat_map}
use Rattle.std.proofs.lemmas.Bool.{cases_Bool, cond-true, cond-false, or_left, or_right, or_cases, or_parts, or_from, and_from, and_parts, ltb-true, lt-ltb, le-leb, eq-eqb, false_from_ne_true}
use Rattle.site_vector.specs.declared.ids.PartId.{PartId}
use Rattle.site_vector.specs.declared.ids.TxId.{TxId}
use Rattle.std.specs.Str.{bytes_eq}
use Rattle.std.proofs.lemmas.Slice.Eq.{bytes_eq-Decides}
use Rattle.site_vector.specs.Ids.{same_part, same_tx}
use Rattle.site_vector.specs.Order.{same_part_is, same_tx_refl}
use Rattle.site_vector.specs.Vector.{le, entry}
use Rattle.crdt_core.specs.declared.object.ObjectId.{ObjectId}
use Rattle.crdt_core.specs.declared.record.Part.{Part}
use Rattle.crdt_core.specs.declared.record.Message.{Message}
use Rattle.crdt_core.specs.Kinds.{reads_state}
use Rattle.crdt_core.specs.Fits.{fits}
use Rattle.crdt_core.specs.Seen.{Update}
use Rattle.crdt_core.specs.Same.{Same}
use Rattle.crdt_core.specs.Stamps.{stamp_due}
use Rattle.crdt_core.specs.Parts as part_list
use Rattle.crdt_core.specs.Log.{end_of_time}
use Rattle.crdt_core.specs.Parts.{lists}
use Rattle.world_model.specs.rules.Event.{Ask, AskBegin, AskRead, AskUpdate, AskPrepare, AskTick, AskDecide, AskFinish, AskAbort, AskTake, AskRestart, is_restart, IsDown, ClockBehind, TxPending, StableBehind, ClockAtEnd, IsGone, HasGap, IsRepeat, HasNoRoom, IsDamaged, Event, Ticked, Began, Updated, Read, Prepared, Decided, Finished, Aborted, Sent, Took, Reported, Heard, Crashed, RestartCut, Restarted, Refused, Opened, Cut, Entry, EventsAre, WasShown, is_abort, was_aborted, voted, is_decided, time_of, shown, sent_count}
use Rattle.crdt_core.specs.KindsOf.{Kinds}
use Rattle.world_model.specs.lines.Places.{IsOther, IsPlace, first_of, home, twin, partitions}
use Rattle.world_model.specs.rules.Plan.{Plan, is_some_update, takes_part, commit_vector, MayTake, IsNew}
use Rattle.world_model.specs.rules.World.{plan_of}
use Rattle.world_model.specs.events.Reads.{sees_tx, IsRightFold, IsExact, IsRight, Asked, asked_at}
use Rattle.world_model.specs.events.Clock.{ClockIs, ClocksAre}
use Rattle.world_model.specs.events.Restarts.{KeepsIs, KeepsDecided, SettlesAt, SettleDoubts, is_call, brings, brought_after, brought, IsTakeable, cut_call, IsAsBefore, ResumesAt, Resume}
use Rattle.world_model.specs.events.Causes.{HasCauseAt, HaveCausesAt, AnswersAsUp, AnswerAsUp, IsReadyAt, IsFirstPending, ShowsAt, ShowAt, IsClearAt, AreClear}
use Rattle.world_model.specs.rules.Dependency as events
use Rattle.world_model.specs.events.Dependency as dependency
use Rattle.world_model.specs.events.Answers.{IsDueAt, AreDue, IsKnown}
use Rattle.world_model.specs.lines.Listed.{IsBefore}
use Rattle.world_model.specs.events.Bounds.{bound_shown}
use Rattle.world_model.specs.events.Pending.{pending_shown, pending_time}
use Rattle.world_model.specs.events.Fate.{committed_shown, TellsAbortedAt, MayAbortAt}
use Rattle.world_model.specs.lines.Waits as waits
use Rattle.world_model.specs.events.Waits.{stable_by, began_stable, WaitsFresh, WaitFresh}
use Rattle.world_model.specs.events.Fresh.{known_shown, IsOwnStableAt, OwnEntryAt, AreEnoughAt, IsFreshAt, AreFresh}
use Rattle.world_model.specs.lines.Bounds.{IsLeast, IsLeastBehind}
use Rattle.world_model.specs.events.Commit.{IsDecision, VotesAt, KeepVotes, ShowsVector}
use Rattle.world_model.specs.events.Handed.{IsPlacedAt, HandedAt, AreHanded, AreNew}
use Rattle.world_model.specs.events.Reads as meaning
use Rattle.world_model.specs.lines.Streams.{low_of}
use Rattle.world_model.specs.events.Streams.{SendsAt, Send}
use Rattle.world_model.specs.events.Lawful.{IsLawfulWorld}
use Rattle.world_model.specs.lines.Lines.{Call, Line, Wish, EachLine}
use Rattle.world_model.specs.rules.Lines.{session_after, session_of, call_asked, call_done, call_cut, call_of, step_shown, shown_lines}
use Rattle.world_model.specs.declared.step.Step.TheVariants as step
use Rattle.world_model.specs.lines.Clock as clock
use Rattle.world_model.specs.lines.History as past
use Rattle.world_model.specs.lines.Dependency as session
use Rattle.world_model.specs.lines.Bounds as bounds
use Rattle.world_model.specs.lines.Updates as updates
use Rattle.world_model.specs.lines.Updates.{IsPlaced}
use Rattle.world_model.specs.lines.Commit as commit
use Rattle.world_model.specs.lines.Reads as reads
use Rattle.world_model.specs.lines.Answers as answers
use Rattle.world_model.specs.lines.Ops as ops
use Rattle.world_model.specs.lines.Pending.{is_down, prepare_time}
use Rattle.world_model.specs.lines.Fate as fates
use Rattle.world_model.specs.lines.Restarts as restarts
use Rattle.world_model.specs.lines.Fresh as fresh
use Rattle.world_model.specs.lines.Streams as streams
use Rattle.world_model.specs.lines.Causes as causes
use Rattle.world_model.specs.lines.Lawful.{IsAgreed, IsLawful}
use Rattle.world_model.proofs.Timely.{ListsEarly}
use Rattle.world_model.specs.lines.Leases.{ShowsKept}
use Rattle.world_model.proofs.Names.{clash, off, part_same}
use Rattle.world_model.proofs.Fate.{voted_tried}
use Rattle.world_model.proofs.Later.{at_own}
use Rattle.world_model.proofs.Intervals.{numbered_shown, shown_has, events_map}
use Rattle.world_model.proofs.Histories.{Facts, no_self}
use Rattle.world_model.proofs.Listed.{timed_as}
use Rattle.world_model.proofs.LineViews.{now_is, missed_is, in_history_is, snapshot_is, commit_time_is, vector_is, visible_is, is_of_is, pending_is, prepare_time_is, doubt_is, asked_is, down_is, last_is, bound_is, heard_is, known_is, stable_is, own_bound_is, was_prepared_is, last_sent_is, sent_count_is, report_count_is, sent_line, report_line}
use Rattle.world_model.proofs.LineChanges.{to_change, count_is, takes_part_is, touches_is, first_site, lead_is}
use Rattle.world_model.proofs.Orders.{stamp_same, none_due, is_in, in_filter, once_filter, filter_in}
use Rattle.world_model.proofs.LineCounts.{parts_counted, both_ways, found_in, any_in, some_above, part_above, above_part}
use Rattle.world_model.proofs.LineReads.{history_has, history_once, update_is, updates_at_place, updates_is, grows, all_put}
use Rattle.world_model.proofs.LineFaults.{either_way, done_at, pend_done, since_done, last_done, fault_is}

module _ {E : Type 0} where
  clock_line : (run : List (Entry E)) (p : PartId) (event : Event E) → ClocksAre run → ClockIs run p event → clock.ShowsTime (shown_lines run) p (call_of event) (step_shown run p event)
  clock_line run p (Refused asked IsDown) cs h = tt
  clock_line run p (Refused asked why) cs h = tt
  clock_line run p (Cut (Decided t c)) cs h = tt
  clock_line run p (Cut a) cs h = tt
  clock_line run p (Ticked r n) cs h = h ∙ ap (max r) (sym (now_is run p))
  clock_line run p (Began who dep t s) cs h = h ∙ ap (λ x. x + 1) (sym (now_is run p))
  clock_line run p (Prepared t s l w n) cs h = h ∙ ap (λ x. x + 1) (sym (now_is run p))
  clock_line run p (Restarted n b named listed) cs h =
      let e = sym (now_is run p) in
      (subst (λ x. x ≤ n) e h.0, subst (λ x. n ≤ 1000 + x) (λ i. max (e i) (sym (missed_is run cs p) i)) h.1)
  clock_line run p event cs h = tt

  clock_lines : (run : List (Entry E)) → ClocksAre run → clock.FollowsClock (shown_lines run)
  clock_lines [] h = tt
  clock_lines (e ∷ run) h = (clock_line run e.at e.event h.1 h.0, clock_lines run h.1)

  vector_is_shown : (run : List (Entry E)) (p : PartId) (event : Event E) (v : List ℕ) → events.ShowsVector event v → session.ShowsVector (step_shown run p event) v
  vector_is_shown run p (Began who dep t s) v h = h
  vector_is_shown run p (Decided t c) v h = h
  vector_is_shown run p event v h = absurd h

  vector_was : (run : List (Entry E)) (v : List ℕ) → events.WasVector run v → session.WasVector (shown_lines run) v
  vector_was [] v h = h
  vector_was (e ∷ run) v h = ⊎_elim (λ (x : events.ShowsVector e.event v). inl (vector_is_shown run e.at e.event v x)) (λ (x : events.WasVector run v). inr (vector_was run v x)) h

  vectors_were : (run : List (Entry E)) (vs : List (List ℕ)) → events.WereVectors run vs → session.WereVectors (shown_lines run) vs
  vectors_were run [] h = tt
  vectors_were run (v ∷ vs) h = (vector_was run v h.0, vectors_were run vs h.1)

  known_join : (sites : ℕ) (run : List (Entry E)) (dep : List ℕ) → events.IsKnownJoin sites run dep → session.IsKnownJoin sites (shown_lines run) dep
  known_join sites run dep h = record { vectors = h.vectors; known = vectors_were run h.vectors h.known; is = h.is }

  hands_line : (sites : ℕ) (run : List (Entry E)) (p : PartId) (event : Event E) → dependency.HoldsPast sites run p event → session.HandsKnown sites (shown_lines run) (call_of event)
  hands_line sites run p (Began who dep t s) h = known_join sites run dep.past h.0
  hands_line sites run p (Cut (Began who dep t s)) h = known_join sites run dep.past h
  hands_line sites run p (Cut (Refused asked why)) h = tt
  hands_line sites run p (Cut a) h = tt
  hands_line sites run p (Refused (AskBegin who dep) why) h = known_join sites run dep.past h
  hands_line sites run p (Refused asked why) h = tt
  hands_line sites run p event h = tt

  hands_lines : (sites : ℕ) (run : List (Entry E)) → dependency.KeepPast sites run → EachLine (λ before p call step. session.HandsKnown sites before call) (shown_lines run)
  hands_lines sites [] h = tt
  hands_lines sites (e ∷ run) h = (hands_line sites run e.at e.event h.0, hands_lines sites run h.1)

  holds_line : (sites : ℕ) (run : List (Entry E)) (p : PartId) (event : Event E) → dependency.HoldsPast sites run p event → session.HoldsHanded (shown_lines run) p (call_of event) (step_shown run p event)
  holds_line sites run p (Refused asked IsDown) h = tt
  holds_line sites run p (Refused asked why) h = tt
  holds_line sites run p (Cut (Decided t c)) h = tt
  holds_line sites run p (Cut a) h = tt
  holds_line sites run p (Began who dep t s) h = h.1
  holds_line sites run p event h = tt

  holds_lines : (sites : ℕ) (run : List (Entry E)) → dependency.KeepPast sites run → EachLine session.HoldsHanded (shown_lines run)
  holds_lines sites [] h = tt
  holds_lines sites (e ∷ run) h = (holds_line sites run e.at e.event h.0, holds_lines sites run h.1)

  -- who was handed its session's past holds it
  past_line : (sites : ℕ) (run : List (Entry E)) (p : PartId) (event : Event E) → dependency.HoldsPast sites run p event → session.IsOwnPast sites (shown_lines run) (call_of event) → session.HoldsPast sites (shown_lines run) p (call_of event) (step_shown run p event)
  past_line sites run p (Refused asked IsDown) h o = tt
  past_line sites run p (Refused asked why) h o = tt
  past_line sites run p (Cut (Decided t c)) h o = tt
  past_line sites run p (Cut a) h o = tt
  past_line sites run p (Began who dep t s) h o = subst (λ d. le d s ≡ true) o h.1
  past_line sites run p event h o = tt

  past_lines : (sites : ℕ) (run : List (Entry E)) → dependency.KeepPast sites run → session.HandsOwn sites (shown_lines run) → session.KeepsPast sites (shown_lines run)
  past_lines sites [] h o = tt
  past_lines sites (e ∷ run) h o = (past_line sites run e.at e.event h.0 o.0, past_lines sites run h.1 o.1)

  place_lines : (plan : Plan E) (run : List (Entry E)) → EventsAre (λ p event. IsPlace plan.sites plan.parts p) run → EachLine (λ before p call step. IsPlace plan.sites plan.parts p) (shown_lines run)
  place_lines plan [] h = tt
  place_lines plan (e ∷ run) h = (h.0, place_lines plan run h.1)

  placed_line : (plan : Plan E) (run : List (Entry E)) (p : PartId) (event : Event E) → HandedAt plan run p event → IsPlaced plan.parts (shown_lines run) p (call_of event) (step_shown run p event)
  placed_line plan run p (Refused (AskRead t s o own) why) h = (h.1.site, h.1.part)
  placed_line plan run p (Refused (AskUpdate t s o own op) why) h = (h.1.site, h.1.part)
  placed_line plan run p (Refused asked IsDown) h = tt
  placed_line plan run p (Refused asked why) h = tt
  placed_line plan run p (Cut (Read t s o own read value)) h = (h.1.site, h.1.part)
  placed_line plan run p (Cut (Updated t s o own op read u stamp)) h = (h.1.site, h.1.part)
  placed_line plan run p (Cut (Refused asked why)) h = tt
  placed_line plan run p (Cut (Decided t c)) h = tt
  placed_line plan run p (Cut a) h = tt
  placed_line plan run p (Began who dep t s) h = h
  placed_line plan run p (Read t s o own read value) h = (h.site, h.part)
  placed_line plan run p (Updated t s o own op read u stamp) h = (h.0.site, h.0.part)
  placed_line plan run p event h = tt

  placed_lines : (plan : Plan E) (run : List (Entry E)) → AreHanded plan run → EachLine (IsPlaced plan.parts) (shown_lines run)
  placed_lines plan [] h = tt
  placed_lines plan (e ∷ run) h = (placed_line plan run e.at e.event h.0, placed_lines plan run h.1)

  own_stable_is : (plan : Plan E) (run : List (Entry E)) (p : PartId) (n : ℕ) → IsOwnStableAt plan run p n → bounds.IsOwnStable plan.parts (shown_lines run) p n
  own_stable_is plan run p n o = (o.0, own_bound_is run p o.0 o.1, subst (λ known. IsLeast plan.parts known n) (λ i. λ q. cond (p.part == q) o.0 (sym (heard_is run p q p.site) i)) o.2)

  own_entry_is : (plan : Plan E) (run : List (Entry E)) (p : PartId) (wish : Wish) (time n : ℕ) (b : Bool) → OwnEntryAt plan run p wish time n b → fresh.OwnEntry plan.parts (shown_lines run) p wish time n b
  own_entry_is plan run p wish time n false o = o
  own_entry_is plan run p wish time n true o = own_stable_is plan run p n o

  fresh_line : (plan : Plan E) (run : List (Entry E)) (p : PartId) (event : Event E) → dependency.HoldsPast plan.sites run p event → IsFreshAt plan run p event → ShowsAt plan run p event → fresh.IsFresh plan.sites plan.parts (shown_lines run) p (call_of event) (step_shown run p event)
  fresh_line plan run p (Refused asked IsDown) h f s = tt
  fresh_line plan run p (Refused asked why) h f s = tt
  fresh_line plan run p (Cut (Decided t c)) h f s = tt
  fresh_line plan run p (Cut a) h f s = tt
  fresh_line plan run p (Began who dep t v) h f s = record {
    width = f.width;
    own = own_entry_is plan run p dep t.time (entry v p.site) dep.stable f.own;
    others = λ j o. stable_is plan.parts run p j (entry v j) (f.others j o);
  }
  fresh_line plan run p (Heard number k b stable) h f s =
      let next : List (Entry E) = (record { at = p; event = Heard number k b stable }) ∷ run in record {
        width = f.width;
        others = λ j o. stable_is plan.parts next p j (entry stable j) (f.others j o);
        own = (f.own.0, own_bound_is next p f.own.0 f.own.1, subst (λ known. IsLeast plan.parts known (entry stable p.site)) (λ i. λ q. cond (p.part == q) f.own.0 (sym (heard_is next p q p.site) i)) f.own.2);
      }
  fresh_line plan run p (Reported b) h f s = record { width = s.0; own = own_bound_is run p (entry b p.site) s.1; others = λ j o. s.2 j o ∙ sym (bound_is run p j) }
  fresh_line plan run p event h f s = tt

  fresh_lines : (plan : Plan E) (run : List (Entry E)) → dependency.KeepPast plan.sites run → AreFresh plan run → ShowAt plan run → EachLine (fresh.IsFresh plan.sites plan.parts) (shown_lines run)
  fresh_lines plan [] h f s = tt
  fresh_lines plan (e ∷ run) h f s = (fresh_line plan run e.at e.event h.0 f.0 s.0, fresh_lines plan run h.1 f.1 s.1)

  handed_line : (plan : Plan E) (run : List (Entry E)) (p : PartId) (number : ℕ) (m : Message E) → MayTake plan run p number m → streams.IsHanded plan.sites (shown_lines run) p number m.from m.lo m.hi
  handed_line plan run p number m h = record { from = h.from; sent = subst (λ j. streams.WasSent (shown_lines run) (twin m.from p) number j m.lo m.hi) h.to (sent_line run number (twin m.from p) h.asked m h.shown) }

  -- who began t is its session
  session_has : (run : List (Entry E)) (who : List ℕ) (t : TxId) → dependency.is_of run who t ≡ true → dependency.is_of run (session_of run t) t ≡ true
  session_has [] who t h = h
  session_has (e ∷ run) who t h = session_step e.event run who t h (session_has run who t)
    where
      session_step : (event : Event E) (run : List (Entry E)) (who : List ℕ) (t : TxId) → (dependency.begins_for event who t || dependency.is_of run who t) ≡ true → (dependency.is_of run who t ≡ true → dependency.is_of run (session_of run t) t ≡ true) → (dependency.begins_for event (session_after t (session_of run t) event) t || dependency.is_of run (session_after t (session_of run t) event) t) ≡ true
      session_step (Began name dep u s) run who t h ih = ⊎_elim
          (λ (k : same_tx u t ≡ true). or_left _ _ (subst (λ y. (bytes_eq name y && same_tx u t) ≡ true) (sym (cond-true _ name (session_of run t) k)) (and_from _ _ ((bytes_eq-Decides name name).1 refl) k)))
          (λ (k : same_tx u t ≡ false).
          let rest : dependency.is_of run who t ≡ true = ⊎_elim (λ (x : (bytes_eq name who && same_tx u t) ≡ true). clash (and_parts (bytes_eq name who) _ x).1 k) (λ (x : dependency.is_of run who t ≡ true). x) (or_cases _ _ h) in
          or_right _ _ (subst (λ y. dependency.is_of run y t ≡ true) (sym (cond-false _ name (session_of run t) k)) (ih rest)))
          (cases_Bool (same_tx u t))
      session_step event run who t h ih = ih h

  refused_up : (asked : Ask E) → not (is_restart asked) ≡ true → answers.needs_up (call_asked asked) ≡ true
  refused_up AskRestart d = off d
  refused_up asked d = refl

  answer_line : (plan : Plan E) (run : List (Entry E)) (p : PartId) (event : Event E) → HandedAt plan run p event → IsDueAt event → answers.IsAnswer (shown_lines run) p (call_of event) (step_shown run p event)
  answer_line plan run p (Refused asked IsDown) h d = (refl, refused_up asked d)
  answer_line plan run p (Refused (AskTake number m) (HasGap n)) h d = tt
  answer_line plan run p (Refused (AskTake number m) (IsRepeat n)) h d = tt
  answer_line plan run p (Refused (AskBegin who dep) ClockAtEnd) h d = tt
  answer_line plan run p (Refused (AskPrepare t s l w) ClockAtEnd) h d = tt
  answer_line plan run p (Refused asked (ClockBehind n)) h d = refl
  answer_line plan run p (Refused asked (TxPending u n)) h d = refl
  answer_line plan run p (Refused asked (StableBehind j n)) h d = tt
  answer_line plan run p (Refused asked IsGone) h d = refl
  answer_line plan run p (Refused (AskTick r) (HasNoRoom n)) h d = refl
  answer_line plan run p (Refused (AskBegin who dep) (HasNoRoom n)) h d = refl
  answer_line plan run p (Refused (AskPrepare t s l w) (HasNoRoom n)) h d = refl
  answer_line plan run p (Refused (AskDecide t c) (HasNoRoom n)) h d = refl
  answer_line plan run p (Refused (AskFinish t c) (HasNoRoom n)) h d = refl
  answer_line plan run p (Refused (AskAbort t) (HasNoRoom n)) h d = refl
  answer_line plan run p (Refused (AskTake number m) (HasNoRoom n)) h d = refl
  answer_line plan run p (Refused asked why) h d = off d
  answer_line plan run p (Read t s o own read value) h d = (refl, is_of_is run (session_of run t) t ∙ session_has run h.who t h.begun)
  answer_line plan run p (Updated t s o own op read u stamp) h d = (refl, is_of_is run (session_of run t) t ∙ session_has run h.0.who t h.0.begun)
  answer_line plan run p (Prepared t s l w n) h d = (refl, refl)
  answer_line plan run p (Decided t c) h d = (refl, refl)
  answer_line plan run p (Finished t c) h d = (refl, refl)
  answer_line plan run p (Aborted t own) h d = (refl, refl)
  answer_line plan run p (Sent asked m) h d = (refl, refl)
  answer_line plan run p (Took number m) h d = tt
  answer_line plan run p (Cut (Decided t c)) h d = refl
  answer_line plan run p (Cut Crashed) h d = off d
  answer_line plan run p (Cut (Refused asked why)) h d = off d
  answer_line plan run p (Cut (Opened who)) h d = off d
  answer_line plan run p (Cut (Cut a)) h d = off d
  answer_line plan run p (Cut a) h d = (refl, refl)
  answer_line plan run p RestartCut h d = (refl, refl)
  answer_line plan run p event h d = refl

  answer_lines : (plan : Plan E) (run : List (Entry E)) → AreHanded plan run → AreDue run → EachLine answers.IsAnswer (shown_lines run)
  answer_lines plan [] h d = tt
  answer_lines plan (e ∷ run) h d = (answer_line plan run e.at e.event h.0 d.0, answer_lines plan run h.1 d.1)

  op_line : {S : Type 0} (kinds : Kinds S E) (run : List (Entry E)) (p : PartId) (event : Event E) → IsKnown kinds p event → ops.HasOp kinds.too_deep (shown_lines run) p (call_of event) (step_shown run p event)
  op_line kinds run p (Updated t s o own op read u stamp) k = k.1
  op_line kinds run p (Refused (AskUpdate t s o own op) why) k = k
  op_line kinds run p (Refused asked why) k = tt
  op_line kinds run p (Cut (Updated t s o own op read u stamp)) k = k
  op_line kinds run p (Cut (Refused asked why)) k = tt
  op_line kinds run p (Cut a) k = tt
  op_line kinds run p event k = tt

  op_lines : {S : Type 0} (kinds : Kinds S E) (run : List (Entry E)) → EventsAre (IsKnown kinds) run → EachLine (ops.HasOp kinds.too_deep) (shown_lines run)
  op_lines kinds [] k = tt
  op_lines kinds (e ∷ run) k = (op_line kinds run e.at e.event k.0, op_lines kinds run k.1)

  up_line : (run : List (Entry E)) (p : PartId) (event : Event E) → AnswersAsUp run p event → IsDueAt event → causes.AnswersAsUp (shown_lines run) p (call_of event) (step_shown run p event)
  up_line run p (Refused asked IsDown) h d = down_is run p ∙ h
  up_line run p (Refused asked (IsDamaged k)) h d = off d
  up_line run p (Refused asked why) h d = down_is run p ∙ h
  up_line run p (Restarted n b named listed) h d = tt
  up_line run p Crashed h d = tt
  up_line run p RestartCut h d = tt
  up_line run p (Opened who) h d = tt
  up_line run p (Cut (Decided t c)) h d = down_is run p ∙ h
  up_line run p (Cut RestartCut) h d = tt
  up_line run p (Cut (Restarted n b named listed)) h d = tt
  up_line run p (Cut a) h d = down_is run p ∙ h
  up_line run p event h d = down_is run p ∙ h

  pub up_lines : (run : List (Entry E)) → AnswerAsUp run → AreDue run → EachLine causes.AnswersAsUp (shown_lines run)
  up_lines [] h d = tt
  up_lines (e ∷ run) h d = (up_line run e.at e.event h.0 d.0, up_lines run h.1 d.1)

  shown_all : (run : List (Entry E)) → EventsAre (WasShown run) run
  shown_all [] = tt
  shown_all (e ∷ run) = (inl (refl, refl), events_map (WasShown run) (WasShown (e ∷ run)) (λ p a w. inr w) run (shown_all run))

  aborts_here : (run : List (Entry E)) (p : PartId) (t : TxId) (event : Event E) → fates.aborts (step_shown run p event) t ≡ is_abort event t
  aborts_here run p t (Refused asked IsDown) = refl
  aborts_here run p t (Refused asked why) = refl
  aborts_here run p t (Cut (Decided u c)) = refl
  aborts_here run p t (Cut a) = refl
  aborts_here run p t event = refl

  aborted_is : (run : List (Entry E)) (p : PartId) (t : TxId) → fates.was_aborted (shown_lines run) p t ≡ was_aborted run t p
  aborted_is [] p t = refl
  aborted_is (e ∷ run) p t = λ i. ((same_part e.at p && aborts_here run e.at t e.event i) || aborted_is run p t i)

  aborted_shown : (run : List (Entry E)) (p : PartId) (t : TxId) (own : Bool) → WasShown run p (Aborted t own) → was_aborted run t p ≡ true
  aborted_shown [] p t own w = absurd w
  aborted_shown (e ∷ run) p t own w = ⊎_elim
      (λ (x : (e.at ≡ p) × (e.event ≡ Aborted t own)). or_left _ _ (and_from _ _ (part_same e.at p x.0) (ap (λ a. is_abort a t) x.1 ∙ same_tx_refl t)))
      (λ (x : WasShown run p (Aborted t own)). or_right _ _ (aborted_shown run p t own x))
      w

  module _ {S : Type 0} (kinds : Kinds S E) (sites parts : ℕ) (run : List (Entry E)) (law : IsLawfulWorld kinds (plan_of sites parts run) run) where
    abbrev plan : Plan E
    plan = plan_of sites parts run

    -- t precedes u, as events tell it
    precedes_is : (t u : TxId) → past.precedes (shown_lines run) t u ≡ sees_tx plan run (plan.snapshot u) t
    precedes_is t u = ap (λ v. past.visible (shown_lines run) v t) (snapshot_is run u) ∙ visible_is run (plan.snapshot u) t

    closed_lines : (v : List ℕ) → past.IsClosed (shown_lines run) (past.visible (shown_lines run) v)
    closed_lines v t u h k = visible_is run v t ∙ law.closed v u t (sym (visible_is run v u) ∙ h) (sym (precedes_is t u) ∙ k)

    facts : Facts plan run
    facts = record {
      strict = law.strict;
      least = λ t h. plan.least t (plan.lead t) (law.agreed t h).lead;
      entered = λ t h. plan.entered t (plan.lead t) (law.agreed t h).lead;
      closed = law.closed;
    }

    abbrev ls : List Line
    ls = shown_lines run

    takes_eq : (t : TxId) (p : PartId) → updates.takes_part ls t p ≡ takes_part plan t p
    takes_eq t p = takes_part_is plan run law.handed law.numbered t p ∙ ap is_some_update (sym (law.planned t p))

    touches_eq : (t : TxId) (p : PartId) (o : ObjectId) → updates.touches ls t p o ≡ part_list.touches (plan.updates t p) o
    touches_eq t p o = touches_is plan run law.handed law.numbered t p o ∙ ap (λ us. part_list.touches us o) (sym (law.planned t p))

    pub lead_eq : (t : TxId) → updates.lead parts ls t ≡ plan.lead t
    lead_eq t = lead_is plan run law.handed law.numbered parts t ∙ (λ i. first_of (home t) (filter (λ p. is_some_update (sym (law.planned t p) i)) (partitions t.site 1 parts)))

    vector_eq : (t : TxId) → past.commit_vector ls t ≡ commit_vector plan run t
    vector_eq t = vector_is run t

    decision_line : (some : List (Entry E)) (p : PartId) (t : TxId) → IsDecision plan some p t → commit.IsDecision parts ls (shown_lines some) p t
    decision_line some p t v = record {
      at_lead = v.lead ∙ sym (lead_eq t);
      here = was_prepared_is some t p ∙ v.here;
      once = asked_is some t ∙ v.once;
      votes = λ q h. was_prepared_is some t q ∙ v.all q (sym (takes_eq t q) ∙ h);
    }

    commit_line : (some : List (Entry E)) (p : PartId) (event : Event E) → VotesAt plan some p event → ShowsVector plan run p event → IsNew some event → commit.ShowsCommit parts ls (shown_lines some) p (call_of event) (step_shown some p event)
    commit_line some p (Refused asked IsDown) v c n = tt
    commit_line some p (Refused asked why) v c n = tt
    commit_line some p (Cut (Decided t w)) v c n = decision_line some p t v
    commit_line some p (Cut a) v c n = tt
    commit_line some p (Prepared t s l w time) v c n = record {
      member = takes_eq t p ∙ v.takes;
      once = was_prepared_is some t p ∙ v.fresh;
      lead_first = λ ne. was_prepared_is some t (updates.lead parts ls t) ∙ subst (λ q. voted some t q ≡ true) (sym (lead_eq t)) (v.after_lead (λ e. ne (e ∙ sym (lead_eq t))));
    }
    commit_line some p (Decided t w) v c n = (decision_line some p t v, c.1 ∙ sym (vector_eq t))
    commit_line some p (Updated t s o own op read u stamp) v c n = λ q. was_prepared_is some t q ∙ false_from_ne_true _ (λ h. clash (voted_tried some t q h) (n.early q))
    commit_line some p (Finished t w) v c n = (takes_eq t p ∙ v.0, in_history_is some t ∙ v.1)
    commit_line some p event v c n = tt

    commit_lines : (some : List (Entry E)) → KeepVotes plan some → EventsAre (ShowsVector plan run) some → AreNew some → EachLine (commit.ShowsCommit parts ls) (shown_lines some)
    commit_lines [] v c n = tt
    commit_lines (e ∷ some) v c n = (commit_line some e.at e.event v.0 c.0 n.0, commit_lines some v.1 c.1 n.1)

    agreed_lines : (t : TxId) → past.in_history ls t ≡ true → IsAgreed parts ls t
    agreed_lines t h =
        let a = law.agreed t (sym (in_history_is run t) ∙ h) in record {
          at_lead = takes_eq t (updates.lead parts ls t) ∙ subst (λ q. takes_part plan t q ≡ true) (sym (lead_eq t)) a.lead;
          votes = λ q k. was_prepared_is run t q ∙ a.all q (sym (takes_eq t q) ∙ k);
        }

    pub ended_eq : (some : List (Entry E)) (p : PartId) (t : TxId) → fates.is_ended_at ls (shown_lines some) p t ≡ committed_shown plan some p t
    ended_eq some p t = λ i. takes_eq t p i && (in_history_is some t i && not (pending_is some p t i))

    -- nothing is brought to its own site
    pub unbrought : (some : List (Entry E)) (p : PartId) (t : TxId) → p.site ≡ t.site → fates.is_brought_to ls (shown_lines some) p t ≡ false
    unbrought some p t s = ap (λ b. not b && (updates.takes_part ls t (twin t.site p) && (past.in_history ls t && leb (past.commit_time ls t) (bounds.bound (shown_lines some) p t.site)))) (eq-eqb t.site p.site (sym s))

    known_line : (some : List (Entry E)) (p : PartId) (t : TxId) → (pending_shown some p t || committed_shown plan some p t) ≡ true → fates.is_known_at ls (shown_lines some) p t ≡ true
    known_line some p t h = ⊎_elim
        (λ (k : pending_shown some p t ≡ true). or_left _ _ (pending_is some p t ∙ k))
        (λ (k : committed_shown plan some p t ≡ true). or_right _ _ (or_left _ _ (ended_eq some p t ∙ k)))
        (or_cases _ _ h)

    unknown_line : (some : List (Entry E)) (p : PartId) (t : TxId) → p.site ≡ t.site → (pending_shown some p t || committed_shown plan some p t) ≡ false → fates.is_known_at ls (shown_lines some) p t ≡ false
    unknown_line some p t s h =
        let n = or_parts (pending_shown some p t) (committed_shown plan some p t) h in
        or_from _ _ (pending_is some p t ∙ n.0) (or_from _ _ (ended_eq some p t ∙ n.1) (unbrought some p t s))

    -- a message that is taken brings a part exactly where lines say so
    brings_eq : (some : List (Entry E)) (p : PartId) (number : ℕ) (m : Message E) (have : ℕ) → MayTake plan some p number m → m.lo ≤ have → EventsAre (IsRight kinds plan run) some → restarts.brings ls p m.from have m.hi ≡ brings m have
    brings_eq some p number m have h low rs =
        let q = twin m.from p in
        let x : IsExact plan run q m = shown_has (IsRight kinds plan run) some q (Sent h.asked m) rs (numbered_shown sent_count some number q (Sent h.asked m) h.shown) in
        let test = λ (t : TxId). updates.takes_part ls t q && (ltb have (past.commit_time ls t) && leb (past.commit_time ls t) m.hi) in
        let own : (t : TxId) → takes_part plan t q ≡ true → entry (commit_vector plan run t) m.from ≡ time_of run t = λ t k. ap (λ j. entry (commit_vector plan run t) j) (plan.at_home t q k) ∙ at_own plan t q (time_of run t) k in
        let forth : restarts.brings ls p m.from have m.hi ≡ true → brings m have ≡ true = λ k.
        let y = found_in (past.history ls) test k in
        let a = and_parts (updates.takes_part ls y.0 q) _ y.2 in
        let b = and_parts (ltb have (past.commit_time ls y.0)) _ a.1 in
        let d : is_decided run y.0 ≡ true = sym (in_history_is run y.0) ∙ sym (history_has ls y.0) ∙ y.1 in
        let takes : takes_part plan y.0 q ≡ true = sym (takes_eq y.0 q) ∙ a.0 in
        let above_have : ltb have (time_of run y.0) ≡ true = ap (ltb have) (sym (commit_time_is run y.0)) ∙ b.0 in
        let above_low : ltb m.lo (time_of run y.0) ≡ true = (let z = ltb-true have (time_of run y.0) above_have in lt-ltb m.lo (time_of run y.0) (omega arith)) in
        let upto : leb (time_of run y.0) m.hi ≡ true = ap (λ n. leb n m.hi) (sym (commit_time_is run y.0)) ∙ b.1 in
        let there : lists m.parts y.0 ≡ true = x.members y.0 ∙ and_from _ _ d (and_from _ _ takes (and_from _ _ above_low upto)) in
        some_above m.from have m.parts ∙ part_above (commit_vector plan run) (λ u. plan.updates u q) m.from have m.parts x.exact y.0 there (ap (ltb have) (own y.0 takes) ∙ above_have) in
        let back : brings m have ≡ true → restarts.brings ls p m.from have m.hi ≡ true = λ k.
        let y = above_part (commit_vector plan run) (λ u. plan.updates u q) m.from have m.parts x.exact (sym (some_above m.from have m.parts) ∙ k) in
        let a = and_parts (is_decided run y.0) _ (sym (x.members y.0) ∙ y.1) in
        let b = and_parts (takes_part plan y.0 q) _ a.1 in
        let c = and_parts (ltb m.lo (time_of run y.0)) _ b.1 in
        any_in (past.history ls) test y.0 (history_has ls y.0 ∙ in_history_is run y.0 ∙ a.0) (and_from _ _ (takes_eq y.0 q ∙ b.0) (and_from _ _ (ap (ltb have) (commit_time_is run y.0) ∙ (ap (ltb have) (sym (own y.0 b.0)) ∙ y.2)) (ap (λ n. leb n m.hi) (commit_time_is run y.0) ∙ c.1))) in
        both_ways (restarts.brings ls p m.from have m.hi) (brings m have) forth back

    -- of a take that left no gap
    took_eq : (some : List (Entry E)) (p : PartId) (j old number : ℕ) (m : Message E) → MayTake plan some p number m → m.lo ≤ bound_shown some p m.from → EventsAre (IsRight kinds plan run) some → restarts.brought_after ls (shown_lines some) p j old (call_done (Took number m)) (step.Took 0 m.hi) ≡ brought_after some p j old (Took number m)
    took_eq some p j old number m h low rs =
        let have = bound_shown some p m.from in
        let here : (leb m.lo (bounds.bound (shown_lines some) p m.from) && restarts.brings ls p m.from (bounds.bound (shown_lines some) p m.from) m.hi) ≡ brings m have =
        ap (λ b. leb m.lo b && restarts.brings ls p m.from b m.hi) (bound_is some p m.from) ∙ ap (λ b. b && restarts.brings ls p m.from have m.hi) (le-leb m.lo have low) ∙ brings_eq some p number m have h low rs in
        ap (λ b. cond (m.from == j && b) (max m.hi old) old) here

    brought_here : (some : List (Entry E)) (p : PartId) (j old : ℕ) (event : Event E) → HandedAt plan some p event → ShowsAt plan some p event → EventsAre (IsRight kinds plan run) some → restarts.brought_after ls (shown_lines some) p j old (call_of event) (step_shown some p event) ≡ brought_after some p j old event
    brought_here some p j old (Took number m) h s rs = took_eq some p j old number m h s.0 rs
    brought_here some p j old (Refused asked IsDown) h s rs = refl
    brought_here some p j old (Refused asked why) h s rs = refl
    brought_here some p j old (Cut (Decided t c)) h s rs = refl
    brought_here some p j old (Cut a) h s rs = refl
    brought_here some p j old event h s rs = refl

    brought_is : (some : List (Entry E)) → AreHanded plan some → ShowAt plan some → EventsAre (IsRight kinds plan run) some → (p : PartId) (j : ℕ) → restarts.brought ls (shown_lines some) p j ≡ brought some p j
    brought_is [] h s rs p j = refl
    brought_is (e ∷ some) h s rs p j =
        let rest = brought_is some h.1 s.1 rs.1 p j in ⊎_elim
        (λ (k : same_part e.at p ≡ true).
        cond-true _ _ _ k ∙ ap (λ o. restarts.brought_after ls (shown_lines some) p j o (call_of e.event) (step_shown some e.at e.event)) rest
        ∙ subst (λ y. restarts.brought_after ls (shown_lines some) y j (brought some y j) (call_of e.event) (step_shown some e.at e.event) ≡ brought_after some y j (brought some y j) e.event) (same_part_is e.at p k) (brought_here some e.at j (brought some e.at j) e.event h.0 s.0 rs.1)
        ∙ sym (cond-true _ _ _ k))
        (λ (k : same_part e.at p ≡ false). cond-false _ _ _ k ∙ rest ∙ sym (cond-false _ _ _ k))
        (cases_Bool (same_part e.at p))

    brought_done : (some : List (Entry E)) (p : PartId) (j : ℕ) (what : Event E) (drawn : ℕ) → is_call what ≡ true → IsTakeable plan some p what → EventsAre (IsRight kinds plan run) some → restarts.brought ls (shown_lines some) p j ≡ brought some p j → restarts.brought ls (restarts.with_done (call_cut what) drawn p (shown_lines some)) p j ≡ brought (done_at p what some) p j
    brought_done some p j (Took number m) drawn k h rs br = λ i. cond (same_part p p) ((ap (λ o. restarts.brought_after ls (shown_lines some) p j o (call_done (Took number m)) (step.Took 0 m.hi)) br ∙ took_eq some p j (brought some p j) number m h.0 h.1 rs) i) (br i)
    brought_done some p j (Prepared u s l w n) drawn k h rs br = ap (λ o. cond (same_part p p) o o) br
    brought_done some p j (Decided u c) drawn k h rs br = ap (λ o. cond (same_part p p) o o) br
    brought_done some p j (Finished u c) drawn k h rs br = ap (λ o. cond (same_part p p) o o) br
    brought_done some p j (Aborted u own) drawn k h rs br = ap (λ o. cond (same_part p p) o o) br
    brought_done some p j (Restarted n b named listed) drawn k h rs br = off k
    brought_done some p j what drawn k h rs br = br ∙ sym (either_way (same_part p p) (brought some p j))

    resumed_line : (some : List (Entry E)) (p : PartId) (n : ℕ) (b : List ℕ) (named : Option TxId) (listed : List (TxId × ℕ)) → ClocksAre some → ((j : ℕ) → restarts.brought ls (shown_lines some) p j ≡ brought some p j) → EventsAre (IsRight kinds plan run) some → ResumesAt plan some p (Restarted n b named listed) → restarts.IsAsBefore sites ls (shown_lines some) p b named listed ⊎ ((call : Call) × (drawn : ℕ) × (restarts.faulted (shown_lines some) p ≡ Some (call, drawn)) × restarts.IsAsBefore sites ls (restarts.with_done call drawn p (shown_lines some)) p b named listed)
    resumed_line some p n b named listed cs br rs h = ⊎_elim
        (λ (x : IsAsBefore plan some p b named listed). inl (record { members = λ t. x.members t ∙ sym (pending_is some p t); times = timed_as (pending_time some p) (prepare_time (shown_lines some) p) listed (λ t k. sym (prepare_time_is some p t)) x.times; bounds = λ j o. x.bounds j o ∙ sym (br j); last = x.last ∙ sym (last_is some p) }))
        (λ (x : (what : Event E) × (cut_call some p ≡ Some what) × (is_call what ≡ true) × IsTakeable plan some p what × IsAsBefore plan (done_at p what some) p b named listed).
        let f = fault_is some cs p x.0 x.2 x.1 in
        inr (
          call_cut x.0,
          f.drawn,
          f.is,
          record {
            members = λ t. x.4.members t ∙ sym (pend_done some p x.0 f.drawn t x.2);
            times = timed_as (pending_time (done_at p x.0 some) p) (prepare_time (restarts.with_done (call_cut x.0) f.drawn p (shown_lines some)) p) listed (λ t k. sym (since_done some p x.0 f.drawn t x.2 f.time)) x.4.times;
            bounds = λ j o. x.4.bounds j o ∙ sym (brought_done some p j x.0 f.drawn x.2 x.3 rs (br j));
            last = x.4.last ∙ sym (last_done some p x.0 f.drawn x.2);
          },
        ))
        h

    abort_line : (some : List (Entry E)) (p : PartId) (t : TxId) (own : Bool) → MayAbortAt plan some p t own → fates.MayAbort parts ls (shown_lines some) p t
    abort_line some p t true h = inr (inl (asked_is some t ∙ h))
    abort_line some p t false h = ⊎_elim
        (λ (e : p ≡ plan.lead t). inl (e ∙ sym (lead_eq t)))
        (λ (y : TellsAbortedAt plan some t ⊎ (was_aborted some t (plan.lead t) ≡ true)). ⊎_elim (λ (x : TellsAbortedAt plan some t). inr (inr (inl (record {
          up = subst (λ q. is_down (shown_lines some) q ≡ false) (sym (lead_eq t)) (down_is some (plan.lead t) ∙ x.up);
          unknown = subst (λ q. fates.is_known_at ls (shown_lines some) q t ≡ false) (sym (lead_eq t)) (unknown_line some (plan.lead t) t (first_site t.site (home t) (λ q. takes_part plan t q) 1 parts refl) x.unknown);
        })))) (λ (x : was_aborted some t (plan.lead t) ≡ true). inr (inr (inr (subst (λ q. fates.was_aborted (shown_lines some) q t ≡ true) (sym (lead_eq t)) (aborted_is some (plan.lead t) t ∙ x))))) y)
        h

    fate_line : (some : List (Entry E)) (p : PartId) (event : Event E) → WasShown run p event → ClocksAre some → ShowsAt plan some p event → ResumesAt plan some p event → KeepsIs plan some p event → SettlesAt some p event → ListsEarly event → ((j : ℕ) → restarts.brought ls (shown_lines some) p j ≡ brought some p j) → EventsAre (IsRight kinds plan run) some → fates.ShowsFate sites parts ls (shown_lines some) p (call_of event) (step_shown some p event)
    fate_line some p (Refused asked IsDown) w cs s r k d ea br rs = tt
    fate_line some p (Refused asked why) w cs s r k d ea br rs = tt
    fate_line some p (Cut (Decided t c)) w cs s r k d ea br rs = tt
    fate_line some p (Cut a) w cs s r k d ea br rs = tt
    fate_line some p (Aborted t own) w cs s r k d ea br rs = (pending_is some p t ∙ s.0, in_history_is run t ∙ law.fate t p (aborted_shown run p t own w), abort_line some p t own s.1)
    fate_line some p (Restarted n b named listed) w cs s r k d ea br rs = record {
      list = resumed_line some p n b named listed cs br rs r;
      order = s.1;
      early = ea;
      width = s.0;
      own = s.2;
      decided = λ t h e. k t (sym (in_history_is some t) ∙ h) (sym (lead_eq t) ∙ e);
      settled = λ t h. d t (sym (doubt_is some p t) ∙ h);
    }
    fate_line some p event w cs s r k d ea br rs = tt

    fate_lines : (some : List (Entry E)) → EventsAre (WasShown run) some → ClocksAre some → ShowAt plan some → Resume plan some → KeepsDecided plan some → SettleDoubts some → EventsAre (λ p event. ListsEarly event) some → AreHanded plan some → EventsAre (IsRight kinds plan run) some → EachLine (fates.ShowsFate sites parts ls) (shown_lines some)
    fate_lines [] w cs s r k d ea hs rs = tt
    fate_lines (e ∷ some) w cs s r k d ea hs rs = (fate_line some e.at e.event w.0 cs.1 s.0 r.0 k.0 d.0 ea.0 (brought_is some hs.1 s.1 rs.1 e.at) rs.1, fate_lines some w.1 cs.1 s.1 r.1 k.1 d.1 ea.1 hs.1 rs.1)

    -- the snapshot of t has this entry
    entry_eq : (t : TxId) (j : ℕ) → entry (past.snapshot ls t) j ≡ entry (plan.snapshot t) j
    entry_eq t j = ap (λ v. entry v j) (snapshot_is run t)

    behind_line : (some : List (Entry E)) (p : PartId) (t : TxId) (n : ℕ) → n ≡ shown some p → n < entry (plan.snapshot t) p.site → causes.IsBehind ls (shown_lines some) p t n
    behind_line some p t n e h = (e ∙ sym (now_is some p), subst (λ x. n < x) (sym (entry_eq t p.site)) h)

    ready_line : (some : List (Entry E)) (p : PartId) (t : TxId) (s : List ℕ) (o : ObjectId) → s ≡ plan.snapshot t → IsReadyAt plan some p s o → causes.IsReady ls (shown_lines some) p t o
    ready_line some p t s o e h =
        let v : entry s p.site ≡ entry (past.snapshot ls t) p.site = ap (λ x. entry x p.site) e ∙ sym (entry_eq t p.site) in record {
          clock = subst₂ (λ x y. x ≤ y) v (sym (now_is some p)) h.clock;
          free = λ u k y. subst₂ (λ x z. x < z) v (sym (prepare_time_is some p u)) (h.free u (sym (pending_is some p u) ∙ k) (sym (touches_eq u p o) ∙ y));
        }

    first_line : (some : List (Entry E)) (p : PartId) (t : TxId) (s : List ℕ) (o : ObjectId) (u : TxId) (n : ℕ) → s ≡ plan.snapshot t → IsFirstPending plan some p s o u n → causes.IsFirstPending ls (shown_lines some) p t o u n
    first_line some p t s o u n e h =
        let v : entry s p.site ≡ entry (past.snapshot ls t) p.site = ap (λ x. entry x p.site) e ∙ sym (entry_eq t p.site) in record {
          clock = subst₂ (λ x y. x ≤ y) v (sym (now_is some p)) h.clock;
          waiting = pending_is some p u ∙ h.waiting;
          changes = touches_eq u p o ∙ h.changes;
          time = h.time ∙ sym (prepare_time_is some p u);
          early = subst (λ x. n ≤ x) v h.early;
          first = λ w ne k y. subst (λ m. IsBefore (u, n) (w, m)) (sym (prepare_time_is some p w)) (h.first w ne (sym (pending_is some p w) ∙ k) (sym (touches_eq w p o) ∙ y));
        }

    own_enough_line : (some : List (Entry E)) (p : PartId) (dep : Wish) → (dep.stable ≡ true → (m : ℕ) × IsOwnStableAt plan some p m × (entry dep.past p.site ≤ m)) → dep.stable ≡ true → (m : ℕ) × bounds.IsOwnStable parts (shown_lines some) p m × (entry dep.past p.site ≤ m)
    own_enough_line some p dep f c = let x = f c in (x.0, own_stable_is plan some p x.0 x.1, x.2)

    stable_line : (some : List (Entry E)) (p : PartId) (dep : Wish) (j n : ℕ) → IsLeastBehind sites parts p.site (known_shown some p) dep.stable (IsOwnStableAt plan some p) dep.past j n → causes.StableCause sites parts (shown_lines some) p (call_asked {E = E} (AskBegin [] dep)) j n
    stable_line some p dep j n h = record {
      have = ⊎_elim
          (λ (x : IsOther sites p.site j × IsLeast parts (known_shown some p j) n). inl (x.0, stable_is parts some p j n x.1))
          (λ (x : (dep.stable ≡ true) × (j ≡ p.site) × IsOwnStableAt plan some p n). inr (x.0, x.1, own_stable_is plan some p n x.2))
          h.have;
      behind = h.behind;
      least = λ i o x. h.least i o (x.0, x.1, x.2, subst (λ y. y < entry dep.past i) (known_is some p i x.0) x.3);
      own = λ below. own_enough_line some p dep (h.own below);
    }

    enough_line : (some : List (Entry E)) (p : PartId) (dep : Wish) → AreEnoughAt plan some p dep → causes.IsStableEnough sites parts (shown_lines some) p dep
    enough_line some p dep f = record {
      others = λ j q o a b. subst (λ x. entry dep.past j ≤ x) (sym (known_is some p j q)) (f.others j q o a b);
      own = own_enough_line some p dep f.own;
    }

    early_line : (some : List (Entry E)) (p : PartId) (t : TxId) (s : List ℕ) → (s ≡ plan.snapshot t) × (entry s p.site ≤ shown some p) × (shown some p < end_of_time) → (entry (past.snapshot ls t) p.site ≤ clock.now (shown_lines some) p) × (clock.now (shown_lines some) p < end_of_time)
    early_line some p t s w = (
      subst₂ (λ x y. x ≤ y) (ap (λ x. entry x p.site) w.0 ∙ sym (entry_eq t p.site)) (sym (now_is some p)) w.1,
      subst (λ x. x < end_of_time) (sym (now_is some p)) w.2,
    )

    took_line : (some : List (Entry E)) (p : PartId) (m : Message E) → (m.lo ≤ bound_shown some p m.from) × (bound_shown some p m.from < m.hi) → (m.lo ≤ bounds.bound (shown_lines some) p m.from) × (bounds.bound (shown_lines some) p m.from < m.hi)
    took_line some p m w = let e = sym (bound_is some p m.from) in (subst (λ x. m.lo ≤ x) e w.0, subst (λ x. x < m.hi) e w.1)

    -- nothing was due before a fault
    cut_line : (some : List (Entry E)) (p : PartId) (what : Event E) → HandedAt plan some p (Cut what) → IsClearAt plan some p (Cut what) → causes.NoneDue sites parts ls (shown_lines some) p (call_cut what)
    cut_line some p (Began who dep t s) h c = (subst (λ x. x < end_of_time) (sym (now_is some p)) c.0, enough_line some p dep c.1)
    cut_line some p (Read t s o own read value) h c = ready_line some p t s o h.0 c
    cut_line some p (Updated t s o own op read u stamp) h c = λ k. ready_line some p t s o h.0 (c k)
    cut_line some p (Prepared t s l us n) h c = early_line some p t s c
    cut_line some p (Decided t v) h c = pending_is some p t ∙ c
    cut_line some p (Finished t v) h c = known_line some p t c
    cut_line some p (Aborted t own) h c = pending_is some p t ∙ c
    cut_line some p (Took number m) h c = took_line some p m c
    cut_line some p (Refused asked why) h c = tt
    cut_line some p what h c = tt

    -- nor before want of room
    room_line : (some : List (Entry E)) (p : PartId) (asked : Ask E) (n : ℕ) → HandedAt plan some p (Refused asked (HasNoRoom n)) → IsClearAt plan some p (Refused asked (HasNoRoom n)) → IsDueAt {E = E} (Refused asked (HasNoRoom n)) → causes.NoneDue sites parts ls (shown_lines some) p (call_asked asked)
    room_line some p (AskBegin who dep) n h c d = (subst (λ x. x < end_of_time) (sym (now_is some p)) c.0, enough_line some p dep c.1)
    room_line some p (AskRead t s o own) n h c d = off d
    room_line some p (AskUpdate t s o own op) n h c d = off d
    room_line some p (AskPrepare t s l us) n h c d = early_line some p t s c
    room_line some p (AskDecide t v) n h c d = pending_is some p t ∙ c
    room_line some p (AskFinish t v) n h c d = known_line some p t c
    room_line some p (AskAbort t) n h c d = pending_is some p t ∙ c
    room_line some p (AskTake number m) n h c d = took_line some p m c
    room_line some p asked n h c d = tt

    cause_line : (some : List (Entry E)) (p : PartId) (event : Event E) → HandedAt plan some p event → IsFreshAt plan some p event → IsClearAt plan some p event → HasCauseAt plan some p event → ShowsAt plan some p event → IsDueAt event → IsRight kinds plan run p event → causes.HasCause sites parts ls (shown_lines some) p (call_of event) (step_shown some p event)
    cause_line some p (Refused (AskRead t s o own) (ClockBehind n)) h f g c w d r = behind_line some p t n c.0 c.1
    cause_line some p (Refused (AskUpdate t s o own op) (ClockBehind n)) h f g c w d r = (c.0, behind_line some p t n c.1 c.2)
    cause_line some p (Refused (AskPrepare t s l us) (ClockBehind n)) h f g c w d r = behind_line some p t n c.0 c.1
    cause_line some p (Refused (AskRead t s o own) (TxPending u n)) h f g c w d r = first_line some p t s o u n h.0 w
    cause_line some p (Refused (AskUpdate t s o own op) (TxPending u n)) h f g c w d r = (w.0, first_line some p t s o u n h.0 w.1)
    cause_line some p (Refused (AskBegin who dep) (StableBehind j n)) h f g c w d r = stable_line some p dep j n f
    cause_line some p (Refused (AskDecide t v) IsGone) h f g c w d r = (refl, unknown_line some p t h w)
    cause_line some p (Refused (AskAbort t) IsGone) h f g c w d r = (refl, pending_is some p t ∙ w)
    cause_line some p (Refused asked (ClockBehind n)) h f g c w d r = off d
    cause_line some p (Refused asked (TxPending u n)) h f g c w d r = off d
    cause_line some p (Refused asked (StableBehind j n)) h f g c w d r = off d
    cause_line some p (Refused asked IsGone) h f g c w d r = off d
    cause_line some p (Refused asked (IsDamaged k)) h f g c w d r = off d
    cause_line some p (Refused (AskBegin who dep) ClockAtEnd) h f g c w d r = (now_is some p ∙ c, enough_line some p dep f)
    cause_line some p (Refused (AskPrepare t s l us) ClockAtEnd) h f g c w d r = (now_is some p ∙ c.1, subst₂ (λ x y. x ≤ y) (sym (entry_eq t p.site)) (sym (now_is some p)) c.0)
    cause_line some p (Refused asked ClockAtEnd) h f g c w d r = off d
    cause_line some p (Refused asked (HasNoRoom n)) h f g c w d r = room_line some p asked n h g d
    cause_line some p (Refused asked why) h f g c w d r = tt
    cause_line some p (Cut (Decided t v)) h f g c w d r = cut_line some p (Decided t v) h g
    cause_line some p (Cut a) h f g c w d r = cut_line some p a h g
    cause_line some p RestartCut h f g c w d r = tt
    cause_line some p (Read t s o own read value) h f g c w d r = ready_line some p t s o r.0 w
    cause_line some p (Updated t s o own op read u stamp) h f g c w d r = λ k. ready_line some p t s o r.0 (w k)
    cause_line some p (Prepared t s l us n) h f g c w d r = early_line some p t s w
    cause_line some p (Began who dep t s) h f g c w d r = subst (λ x. x < end_of_time) (sym (now_is some p)) w
    cause_line some p (Decided t v) h f g c w d r = pending_is some p t ∙ w
    cause_line some p (Finished t v) h f g c w d r = known_line some p t w
    cause_line some p event h f g c w d r = tt

    cause_lines : (some : List (Entry E)) → AreHanded plan some → AreFresh plan some → AreClear plan some → HaveCausesAt plan some → ShowAt plan some → AreDue some → EventsAre (IsRight kinds plan run) some → EachLine (causes.HasCause sites parts ls) (shown_lines some)
    cause_lines [] h f g c w d r = tt
    cause_lines (e ∷ some) h f g c w d r = (cause_line some e.at e.event h.0 f.0 g.0 c.0 w.0 d.0 r.0, cause_lines some h.1 f.1 g.1 c.1 w.1 d.1 r.1)

    seen_twice : (b c : Bool) → (b && (b && c)) ≡ (b && c)
    seen_twice true c = refl
    seen_twice false c = refl

    -- the transactions that t sees, each once
    seen_by : (t u : TxId) → is_in (filter (past.visible ls (past.snapshot ls t)) (past.history ls)) u ≡ sees_tx plan run (plan.snapshot t) u
    seen_by t u =
        in_filter (past.visible ls (past.snapshot ls t)) (past.history ls) u
        ∙ ap (λ b. b && past.visible ls (past.snapshot ls t) u) (history_has ls u)
        ∙ seen_twice (past.in_history ls u) (le (past.commit_vector ls u) (past.snapshot ls t))
        ∙ precedes_is u t

    -- what t reads at p
    read_same : (some : List (Entry E)) → AreHanded plan some → AreNew some → (p : PartId) (t : TxId) (o : ObjectId) (part : List (Part E)) → IsPlacedAt plan some p t o → IsRightFold plan run p (plan.snapshot t) o part → Same (meaning.read_by plan run some p o t part) (reads.read_by ls (shown_lines some) t o)
    read_same some h n p t o part place fold =
        let hs = filter (past.visible ls (past.snapshot ls t)) (past.history ls) in
        let by_tx : TxId → List Update = λ u. updates_at_place sites parts run o u (asked_at run u (twin u.site p)) in
        let older = meaning.updates_of plan run p o [] part in
        let put : Same older (flat_map by_tx hs) = all_put sites parts run p o hs (once_filter (past.visible ls (past.snapshot ls t)) (past.history ls) (history_once ls)) (plan.snapshot t) part fold (seen_by t) law.planned in
        let grown = grows sites parts run o t (asked_at some t p) older (flat_map by_tx hs) [] (subst (Same older) (sym (append-nil (flat_map by_tx hs))) put) in
        let theirs : flat_map by_tx hs ≡ reads.updates_of ls o (past.visible ls (past.snapshot ls t)) = λ i. flat_map (λ u. sym (updates_is sites parts run run law.handed law.numbered u o (twin u.site p) refl place.part) i) hs in
        let own : updates_at_place sites parts run o t (asked_at some t p) ++ [] ≡ reads.updates_in ls o t (updates.changes (shown_lines some) t) = append-nil (updates_at_place sites parts run o t (asked_at some t p)) ∙ sym (updates_is sites parts run some h n t o p place.site place.part) in
        subst (Same (meaning.read_by plan run some p o t part)) (λ i. theirs i ++ own i) grown

    right_line : (some : List (Entry E)) → AreHanded plan some → AreNew some → (p : PartId) (event : Event E) → HandedAt plan some p event → IsNew some event → IsRight kinds plan run p event → meaning.HasMeaning kinds plan run some p event → IsKnown kinds p event → reads.IsRightRead kinds.meaning ls (shown_lines some) p (call_of event) (step_shown some p event)
    right_line some hs ns p (Refused asked IsDown) h n r m k = tt
    right_line some hs ns p (Refused asked why) h n r m k = tt
    right_line some hs ns p (Cut (Decided t c)) h n r m k = tt
    right_line some hs ns p (Cut a) h n r m k = tt
    right_line some hs ns p (Read t s o own part value) h n r m k =
        let fold = subst (λ v. IsRightFold plan run p v o part) r.0 r.1 in
        m ∙ kinds.laws.orderless o.kind (meaning.read_by plan run some p o t part) (reads.read_by ls (shown_lines some) t o) k (read_same some hs ns p t o part h fold)
    right_line some hs ns p (Updated t s o own op part u stamp) h n r m k =
        let a : Asked E = record { change = u; op = op; stamp = stamp; now = shown some p } in
        let c : updates.Change = record { at = p; now = clock.now (shown_lines some) p; object = o; op = op; stamp = stamp; index = length (updates.changes (shown_lines some) t) + 1 } in
        let index : length (updates.changes (shown_lines some) t) + 1 ≡ u.index = ap (λ y. y + 1) (count_is some t) ∙ sym n.number in
        let same : c ≡ to_change p a = λ i. record { at = p; now = now_is some p i; object = sym h.1 i; op = op; stamp = stamp; index = index i } in
        let mine = meaning.update_of plan run t a in
        let fit = (and_parts (fits o.kind op.path op.act) _ k.1).0 in
        m ∙ ⊎_elim
        (λ (x : reads_state o.kind ≡ true). stamp_same o.kind (meaning.read_by plan run some p o t part) (reads.read_by ls (shown_lines some) t o) mine (read_same some hs ns p t o part h.0 (subst (λ v. IsRightFold plan run p v o part) r.0 (r.1 x))))
        (λ (x : reads_state o.kind ≡ false). none_due o.kind (meaning.read_by plan run some p o t part) mine x fit ∙ sym (none_due o.kind (reads.read_by ls (shown_lines some) t o) mine x fit))
        (cases_Bool (reads_state o.kind))
        ∙ ap (stamp_due o.kind (reads.read_by ls (shown_lines some) t o)) (sym (ap (reads.update_of ls t) same ∙ update_is sites parts run t p a))
    right_line some hs ns p event h n r m k = tt

    right_lines : (some : List (Entry E)) → AreHanded plan some → AreNew some → EventsAre (IsRight kinds plan run) some → meaning.HaveMeaning kinds plan run some → EventsAre (IsKnown kinds) some → EachLine (reads.IsRightRead kinds.meaning ls) (shown_lines some)
    right_lines [] h n r m k = tt
    right_lines (e ∷ some) h n r m k = (right_line some h.1 n.1 e.at e.event h.0 n.0 r.0 m.0 k.0, right_lines some h.1 n.1 r.1 m.1 k.1)

    -- a message has as many parts as the history has in its stretch
    count_line : (p : PartId) (m : Message E) → IsExact plan run p m → length m.parts ≡ streams.stream_count ls p m.lo m.hi
    count_line p m x =
        let hs = past.history ls in
        let inside : (t : TxId) → lists m.parts t ≡ true → is_in hs t ≡ true = λ t h. history_has ls t ∙ in_history_is run t ∙ (and_parts (is_decided run t) _ (sym (x.members t) ∙ h)).0 in
        let same : (t : TxId) → is_in hs t ≡ true → lists m.parts t ≡ (updates.takes_part ls t p && (ltb m.lo (past.commit_time ls t) && leb (past.commit_time ls t) m.hi)) = λ t h.
        let d : is_decided run t ≡ true = sym (in_history_is run t) ∙ sym (history_has ls t) ∙ h in
        x.members t ∙ (λ i. d i && (sym (takes_eq t p) i && (ltb m.lo (sym (commit_time_is run t) i) && leb (sym (commit_time_is run t) i) m.hi))) in
        parts_counted (commit_vector plan run) (λ u. plan.updates u p) p.site hs (history_once ls) m.parts x.exact x.order inside
        ∙ ap length (filter_in (λ t. lists m.parts t) (λ t. updates.takes_part ls t p && (ltb m.lo (past.commit_time ls t) && leb (past.commit_time ls t) m.hi)) hs same)

    stream_line : (some : List (Entry E)) (p : PartId) (event : Event E) → HandedAt plan some p event → SendsAt plan some p event → ShowsAt plan some p event → IsDueAt event → IsRight kinds plan run p event → streams.IsStream sites ls (shown_lines some) p (call_of event) (step_shown some p event)
    stream_line some p (Sent asked m) h n s d r = record { row = ap (λ x. x + 1) (sym (sent_count_is some p)); to = n.to; low = n.lo ∙ ap (low_of asked) (sym (last_sent_is some p m.to)); high = own_bound_is some p m.hi s; parts = count_line p m r }
    stream_line some p (Took number m) h n s d r = let e = sym (bound_is some p m.from) in (refl, subst (λ x. m.lo ≤ x) e s.0, subst (λ x. x < m.hi) e s.1, handed_line plan some p number m h, refl)
    stream_line some p (Reported b) h n s d r = ap (λ x. x + 1) (sym (report_count_is some p))
    stream_line some p (Heard number k b stable) h n s d r = (report_line some number (record { site = p.site; part = k }) b h.shown, refl)
    stream_line some p (Refused (AskTake number m) (HasGap k)) h n s d r = (s.0 ∙ sym (bound_is some p m.from), s.1, handed_line plan some p number m h, refl)
    stream_line some p (Refused (AskTake number m) (IsRepeat k)) h n s d r = (s.0 ∙ sym (bound_is some p m.from), s.1, s.2, handed_line plan some p number m h, refl)
    stream_line some p (Refused (AskTake number m) IsDown) h n s d r = handed_line plan some p number m h
    stream_line some p (Refused (AskTake number m) (HasNoRoom k)) h n s d r = handed_line plan some p number m h
    stream_line some p (Refused (AskTake number m) why) h n s d r = off d
    stream_line some p (Refused asked (HasGap k)) h n s d r = off d
    stream_line some p (Refused asked (IsRepeat k)) h n s d r = off d
    stream_line some p (Refused asked why) h n s d r = tt
    stream_line some p (Cut (Took number m)) h n s d r = handed_line plan some p number m h
    stream_line some p (Cut (Decided t c)) h n s d r = tt
    stream_line some p (Cut a) h n s d r = tt
    stream_line some p event h n s d r = tt

    stream_lines : (some : List (Entry E)) → AreHanded plan some → Send plan some → ShowAt plan some → AreDue some → EventsAre (IsRight kinds plan run) some → EachLine (streams.IsStream sites ls) (shown_lines some)
    stream_lines [] h n s d r = tt
    stream_lines (e ∷ some) h n s d r = (stream_line some e.at e.event h.0 n.0 s.0 d.0 r.0, stream_lines some h.1 n.1 s.1 d.1 r.1)

    -- votes are asked of participants
    vote_line : (some : List (Entry E)) (p : PartId) (event : Event E) → HandedAt plan some p event → commit.IsAskedAt ls p (call_of event)
    vote_line some p (Prepared t s l w n) h = takes_eq t p ∙ h
    vote_line some p (Cut (Prepared t s l w n)) h = takes_eq t p ∙ h.1
    vote_line some p (Cut (Refused asked why)) h = tt
    vote_line some p (Cut a) h = tt
    vote_line some p (Refused (AskPrepare t s l w) why) h = takes_eq t p ∙ h
    vote_line some p (Refused asked why) h = tt
    vote_line some p event h = tt

    vote_lines : (some : List (Entry E)) → AreHanded plan some → EachLine (λ before p call step. commit.IsAskedAt ls p call) (shown_lines some)
    vote_lines [] h = tt
    vote_lines (e ∷ some) h = (vote_line some e.at e.event h.0, vote_lines some h.1)

    stable_here : (some : List (Entry E)) (p : PartId) (t : TxId) (old : Bool) (event : Event E) → waits.stable_after t old (step_shown some p event) (call_of event) ≡ stable_by t old event
    stable_here some p t old (Refused asked IsDown) = refl
    stable_here some p t old (Refused asked why) = refl
    stable_here some p t old (Cut (Decided u c)) = refl
    stable_here some p t old (Cut a) = refl
    stable_here some p t old event = refl

    stable_began : (some : List (Entry E)) (t : TxId) → waits.began_stable (shown_lines some) t ≡ began_stable some t
    stable_began [] t = refl
    stable_began (e ∷ some) t = ap (λ b. waits.stable_after t b (step_shown some e.at e.event) (call_of e.event)) (stable_began some t) ∙ stable_here some e.at t (began_stable some t) e.event

    wait_line : (some : List (Entry E)) (p : PartId) (event : Event E) → WaitsFresh some event → IsDueAt event → waits.WaitsFresh (shown_lines some) p (call_of event) (step_shown some p event)
    wait_line some p (Refused (AskRead t s o own) (ClockBehind n)) w d = stable_began some t ∙ w
    wait_line some p (Refused (AskRead t s o own) (TxPending u n)) w d = stable_began some t ∙ w
    wait_line some p (Refused (AskUpdate t s o own op) (ClockBehind n)) w d = stable_began some t ∙ w
    wait_line some p (Refused (AskUpdate t s o own op) (TxPending u n)) w d = stable_began some t ∙ w
    wait_line some p (Refused (AskPrepare t s l us) (ClockBehind n)) w d = stable_began some t ∙ w
    wait_line some p (Refused asked (ClockBehind n)) w d = off d
    wait_line some p (Refused asked (TxPending u n)) w d = off d
    wait_line some p (Refused asked why) w d = tt
    wait_line some p (Cut (Decided t v)) w d = tt
    wait_line some p (Cut a) w d = tt
    wait_line some p event w d = tt

    wait_lines : (some : List (Entry E)) → WaitFresh some → AreDue some → EachLine waits.WaitsFresh (shown_lines some)
    wait_lines [] w d = tt
    wait_lines (e ∷ some) w d = (wait_line some e.at e.event w.0 d.0, wait_lines some w.1 d.1)

    order_lines : past.IsStrictOrder (shown_lines run)
    order_lines = record {
      irreflexive = λ t. precedes_is t t ∙ no_self kinds plan run facts t;
      transitive = λ t u w h k. closed_lines (past.snapshot (shown_lines run) w) t u k h;
    }

    pub lawful_lines : EventsAre (λ p event. ListsEarly event) run → EachLine ShowsKept (shown_lines run) → IsLawful kinds.too_deep kinds.meaning sites parts (shown_lines run)
    lawful_lines early leases = record {
      places = place_lines plan run law.places;
      answers = answer_lines plan run law.handed law.due;
      clock = clock_lines run law.clock;
      leases = leases;
      placed = placed_lines plan run law.handed;
      handed = hands_lines sites run law.past;
      held = holds_lines sites run law.past;
      past = past_lines sites run law.past;
      fresh = fresh_lines plan run law.past law.fresh law.shown;
      commit = commit_lines run law.votes law.vectors law.numbered;
      asked = vote_lines run law.handed;
      agreed = agreed_lines;
      right = right_lines run law.handed law.numbered law.right law.meant law.known;
      fates = fate_lines run (shown_all run) law.clock law.shown law.resumed law.decided_stay law.doubts early law.handed law.right;
      streams = stream_lines run law.handed law.sends law.shown law.due law.right;
      causes = cause_lines run law.handed law.fresh law.clear law.causes law.shown law.due law.right;
      ops = op_lines kinds run law.known;
      ups = up_lines run law.downs law.due;
      waits = wait_lines run law.waits law.due;
      order = order_lines;
      closed = λ t h. closed_lines (past.snapshot (shown_lines run) t);
    }
