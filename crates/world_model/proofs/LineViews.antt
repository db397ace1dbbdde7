-- What the lines of a run tell is what its events tell.
use Rattle.std.proofs.Common.{◌≡◌, ⊎_elim, inl, inr, ℕ, ◌+◌, ◌<◌, ◌≤◌, max, cond, Bool, true, false, ◌&&◌, ◌||◌, List, [], ◌∷◌, length, Option, refl, sym, ap, ◌∙◌, subst, arith}
use Rattle.std.specs.Prelude.{◌==◌}
use Rattle.std.proofs.lemmas.Bool.{cases_Bool, cond-true, cond-false}
use Rattle.site_vector.specs.declared.ids.PartId.{PartId}
use Rattle.site_vector.specs.declared.ids.TxId.{TxId}
use Rattle.site_vector.specs.Ids.{same_part}
use Rattle.site_vector.specs.Order.{same_part_is}
use Rattle.site_vector.specs.Vector.{le, entry, join, replaced}
use Rattle.crdt_core.specs.declared.record.Message.{Message}
use Rattle.world_model.specs.rules.Event.{IsDown, Event, Ticked, Began, Prepared, Decided, Sent, Reported, Heard, Refused, Cut, Entry, attempt, is_decide, decide_tried, shows_decided, is_decided, is_prepare, time_shown, time_of, shown_after, shown, missed_after, missed, voted, is_sent, sent_count, is_report, report_count, WasNumbered}
use Rattle.world_model.specs.rules.World.{is_begin, begin_vector, snapshot_of}
use Rattle.world_model.proofs.Dependency as events
use Rattle.world_model.specs.events.Dependency as dependency
use Rattle.world_model.specs.events.Clock.{ClockIs, ClocksAre}
use Rattle.world_model.specs.events.Bounds as told
use Rattle.world_model.specs.events.Pending as pending
use Rattle.world_model.specs.events.Fresh.{heard_from, heard_shown, known_shown}
use Rattle.world_model.specs.lines.Bounds.{IsLeast}
use Rattle.world_model.specs.events.Streams as sends
use Rattle.world_model.specs.rules.Lines.{call_of, step_shown, shown_lines}
use Rattle.world_model.specs.declared.step.Step.TheVariants as step
use Rattle.world_model.specs.lines.Clock as clock
use Rattle.world_model.specs.lines.History as past
use Rattle.world_model.specs.lines.Dependency as session
use Rattle.world_model.specs.lines.Pending as fate
use Rattle.world_model.specs.lines.Restarts as restarts
use Rattle.world_model.specs.events.Restarts as resumed
use Rattle.world_model.specs.lines.Bounds as bounds
use Rattle.world_model.specs.lines.Commit as commit
use Rattle.world_model.specs.lines.Streams as streams

none_more : (b : Bool) (old n : ℕ) → max old (cond b n 0) ≡ cond b (max old n) old
none_more true old n = refl
none_more false old n = omega arith

module _ {E : Type 0} where
  time_here : (run : List (Entry E)) (p : PartId) (old : ℕ) (event : Event E) → clock.time_after old (step_shown run p event) ≡ shown_after old event
  time_here run p old (Refused asked IsDown) = refl
  time_here run p old (Refused asked why) = refl
  time_here run p old (Cut (Decided t c)) = refl
  time_here run p old (Cut a) = refl
  time_here run p old event = refl

  pub now_is : (run : List (Entry E)) (p : PartId) → clock.now (shown_lines run) p ≡ shown run p
  now_is [] p = refl
  now_is (e ∷ run) p = λ i. cond (same_part e.at p) ((ap (λ o. clock.time_after o (step_shown run e.at e.event)) (now_is run p) ∙ time_here run e.at (shown run p) e.event) i) (now_is run p i)

  missed_here : (run : List (Entry E)) (p : PartId) (old : ℕ) (event : Event E) → ClockIs run p event → clock.missed_after (shown run p) old (call_of event) (step_shown run p event) ≡ missed_after old event
  missed_here run p old (Refused asked IsDown) h = refl
  missed_here run p old (Refused asked why) h = refl
  missed_here run p old (Cut (Ticked r n)) h = ap (λ x. max x old) (sym h)
  missed_here run p old (Cut (Began who dep t s)) h = ap (λ x. max x old) (sym h)
  missed_here run p old (Cut (Prepared t s l w n)) h = ap (λ x. max x old) (sym h)
  missed_here run p old (Cut a) h = refl
  missed_here run p old event h = refl

  decides_here : (run : List (Entry E)) (p : PartId) (t : TxId) (event : Event E) → past.decides (step_shown run p event) t ≡ shows_decided event t
  decides_here run p t (Refused asked IsDown) = refl
  decides_here run p t (Refused asked why) = refl
  decides_here run p t (Cut (Decided u c)) = refl
  decides_here run p t (Cut a) = refl
  decides_here run p t event = refl

  pub in_history_is : (run : List (Entry E)) (t : TxId) → past.in_history (shown_lines run) t ≡ is_decided run t
  in_history_is [] t = refl
  in_history_is (e ∷ run) t = λ i. (decides_here run e.at t e.event i || in_history_is run t i)

  snapshot_here : (run : List (Entry E)) (p : PartId) (t : TxId) (old : List ℕ) (event : Event E) → past.snapshot_after t old (step_shown run p event) ≡ cond (is_begin event t) (begin_vector event) old
  snapshot_here run p t old (Refused asked IsDown) = refl
  snapshot_here run p t old (Refused asked why) = refl
  snapshot_here run p t old (Cut (Decided u c)) = refl
  snapshot_here run p t old (Cut a) = refl
  snapshot_here run p t old event = refl

  pub snapshot_is : (run : List (Entry E)) (t : TxId) → past.snapshot (shown_lines run) t ≡ snapshot_of run t
  snapshot_is [] t = refl
  snapshot_is (e ∷ run) t = ap (λ o. past.snapshot_after t o (step_shown run e.at e.event)) (snapshot_is run t) ∙ snapshot_here run e.at t (snapshot_of run t) e.event

  commit_time_here : (run : List (Entry E)) (p : PartId) (t : TxId) (old : ℕ) (event : Event E) → past.commit_time_after t old (step_shown run p event) ≡ cond (is_prepare event t) (max (time_shown event) old) old
  commit_time_here run p t old (Refused asked IsDown) = refl
  commit_time_here run p t old (Refused asked why) = refl
  commit_time_here run p t old (Cut (Decided u c)) = refl
  commit_time_here run p t old (Cut a) = refl
  commit_time_here run p t old event = refl

  pub commit_time_is : (run : List (Entry E)) (t : TxId) → past.commit_time (shown_lines run) t ≡ time_of run t
  commit_time_is [] t = refl
  commit_time_is (e ∷ run) t = ap (λ o. past.commit_time_after t o (step_shown run e.at e.event)) (commit_time_is run t) ∙ commit_time_here run e.at t (time_of run t) e.event

  pub vector_is : (run : List (Entry E)) (t : TxId) → past.commit_vector (shown_lines run) t ≡ replaced (snapshot_of run t) t.site (time_of run t)
  vector_is run t = λ i. replaced (snapshot_is run t i) t.site (commit_time_is run t i)

  pub visible_is : (run : List (Entry E)) (v : List ℕ) (t : TxId) → past.visible (shown_lines run) v t ≡ (is_decided run t && le (replaced (snapshot_of run t) t.site (time_of run t)) v)
  visible_is run v t = λ i. (in_history_is run t i && le (vector_is run t i) v)

  begins_for_here : (run : List (Entry E)) (p : PartId) (who : List ℕ) (t : TxId) (event : Event E) → session.begins_for (step_shown run p event) who t ≡ dependency.begins_for event who t
  begins_for_here run p who t (Refused asked IsDown) = refl
  begins_for_here run p who t (Refused asked why) = refl
  begins_for_here run p who t (Cut (Decided u c)) = refl
  begins_for_here run p who t (Cut a) = refl
  begins_for_here run p who t event = refl

  pub is_of_is : (run : List (Entry E)) (who : List ℕ) (t : TxId) → session.is_of (shown_lines run) who t ≡ dependency.is_of run who t
  is_of_is [] who t = refl
  is_of_is (e ∷ run) who t = λ i. (begins_for_here run e.at who t e.event i || is_of_is run who t i)

  dependency_here : (sites : ℕ) (run : List (Entry E)) (p : PartId) (who old : List ℕ) (event : Event E) → session.dependency_after sites (shown_lines run) who old (step_shown run p event) ≡ events.dependency_after sites run who old event
  dependency_here sites run p who old (Refused asked IsDown) = refl
  dependency_here sites run p who old (Refused asked why) = refl
  dependency_here sites run p who old (Cut (Decided u c)) = refl
  dependency_here sites run p who old (Cut a) = refl
  dependency_here sites run p who old (Decided u c) = ap (λ b. cond b (join old c) old) (is_of_is run who u)
  dependency_here sites run p who old event = refl

  pub dependency_is : (sites : ℕ) (run : List (Entry E)) (who : List ℕ) → session.dependency sites (shown_lines run) who ≡ events.dependency sites run who
  dependency_is sites [] who = refl
  dependency_is sites (e ∷ run) who = ap (λ o. session.dependency_after sites (shown_lines run) who o (step_shown run e.at e.event)) (dependency_is sites run who) ∙ dependency_here sites run e.at who (events.dependency sites run who) e.event

  pending_here : (run : List (Entry E)) (p : PartId) (t : TxId) (old : Bool) (event : Event E) → fate.pending_after t old (step_shown run p event) ≡ pending.pending_after t old event
  pending_here run p t old (Refused asked IsDown) = refl
  pending_here run p t old (Refused asked why) = refl
  pending_here run p t old (Cut (Decided u c)) = refl
  pending_here run p t old (Cut a) = refl
  pending_here run p t old event = refl

  pub pending_is : (run : List (Entry E)) (p : PartId) (t : TxId) → fate.pending (shown_lines run) p t ≡ pending.pending_shown run p t
  pending_is [] p t = refl
  pending_is (e ∷ run) p t = λ i. cond (same_part e.at p) ((ap (λ o. fate.pending_after t o (step_shown run e.at e.event)) (pending_is run p t) ∙ pending_here run e.at t (pending.pending_shown run p t) e.event) i) (pending_is run p t i)

  prepare_time_here : (run : List (Entry E)) (p : PartId) (t : TxId) (old : ℕ) (event : Event E) → fate.prepare_time_after t old (step_shown run p event) ≡ pending.time_after t old event
  prepare_time_here run p t old (Refused asked IsDown) = refl
  prepare_time_here run p t old (Refused asked why) = refl
  prepare_time_here run p t old (Cut (Decided u c)) = refl
  prepare_time_here run p t old (Cut a) = refl
  prepare_time_here run p t old event = refl

  pub prepare_time_is : (run : List (Entry E)) (p : PartId) (t : TxId) → fate.prepare_time (shown_lines run) p t ≡ pending.pending_time run p t
  prepare_time_is [] p t = refl
  prepare_time_is (e ∷ run) p t = λ i. cond (same_part e.at p) ((ap (λ o. fate.prepare_time_after t o (step_shown run e.at e.event)) (prepare_time_is run p t) ∙ prepare_time_here run e.at t (pending.pending_time run p t) e.event) i) (prepare_time_is run p t i)

  doubt_here : (run : List (Entry E)) (p : PartId) (t : TxId) (old : Bool) (event : Event E) → fate.doubt_after t old (step_shown run p event) ≡ pending.doubt_after t old event
  doubt_here run p t old (Refused asked IsDown) = refl
  doubt_here run p t old (Refused asked why) = refl
  doubt_here run p t old (Cut (Decided u c)) = refl
  doubt_here run p t old (Cut a) = refl
  doubt_here run p t old event = refl

  pub doubt_is : (run : List (Entry E)) (p : PartId) (t : TxId) → fate.in_doubt (shown_lines run) p t ≡ pending.in_doubt run p t
  doubt_is [] p t = refl
  doubt_is (e ∷ run) p t = λ i. cond (same_part e.at p) ((ap (λ o. fate.doubt_after t o (step_shown run e.at e.event)) (doubt_is run p t) ∙ doubt_here run e.at t (pending.in_doubt run p t) e.event) i) (doubt_is run p t i)

  asks_here : (run : List (Entry E)) (p : PartId) (t : TxId) (event : Event E) → commit.asks_decide (step_shown run p event) t ≡ is_decide (attempt event) t
  asks_here run p t (Refused asked IsDown) = refl
  asks_here run p t (Refused asked why) = refl
  asks_here run p t (Cut (Decided u c)) = refl
  asks_here run p t (Cut a) = refl
  asks_here run p t event = refl

  pub asked_is : (run : List (Entry E)) (t : TxId) → commit.is_decide_asked (shown_lines run) t ≡ decide_tried run t
  asked_is [] t = refl
  asked_is (e ∷ run) t = λ i. (asks_here run e.at t e.event i || asked_is run t i)

  down_here : (run : List (Entry E)) (p : PartId) (old : Bool) (event : Event E) → fate.down_after old (step_shown run p event) ≡ pending.down_after old event
  down_here run p old (Refused asked IsDown) = refl
  down_here run p old (Refused asked why) = refl
  down_here run p old (Cut (Decided u c)) = refl
  down_here run p old (Cut a) = refl
  down_here run p old event = refl

  pub down_is : (run : List (Entry E)) (p : PartId) → fate.is_down (shown_lines run) p ≡ pending.is_down run p
  down_is [] p = refl
  down_is (e ∷ run) p = λ i. cond (same_part e.at p) ((ap (λ o. fate.down_after o (step_shown run e.at e.event)) (down_is run p) ∙ down_here run e.at (pending.is_down run p) e.event) i) (down_is run p i)

  last_here : (run : List (Entry E)) (p : PartId) (old : Option TxId) (event : Event E) → restarts.decided_after old (step_shown run p event) ≡ resumed.decided_after old event
  last_here run p old (Refused asked IsDown) = refl
  last_here run p old (Refused asked why) = refl
  last_here run p old (Cut (Decided u c)) = refl
  last_here run p old (Cut a) = refl
  last_here run p old event = refl

  pub last_is : (run : List (Entry E)) (p : PartId) → restarts.last_decided (shown_lines run) p ≡ resumed.last_shown run p
  last_is [] p = refl
  last_is (e ∷ run) p = λ i. cond (same_part e.at p) ((ap (λ o. restarts.decided_after o (step_shown run e.at e.event)) (last_is run p) ∙ last_here run e.at (resumed.last_shown run p) e.event) i) (last_is run p i)

  bound_here : (run : List (Entry E)) (p : PartId) (j old : ℕ) (event : Event E) → bounds.bound_after j old (call_of event) (step_shown run p event) ≡ told.bound_after j old event
  bound_here run p j old (Refused asked IsDown) = refl
  bound_here run p j old (Refused asked why) = refl
  bound_here run p j old (Cut (Decided u c)) = refl
  bound_here run p j old (Cut a) = refl
  bound_here run p j old event = refl

  pub bound_is : (run : List (Entry E)) (p : PartId) (j : ℕ) → bounds.bound (shown_lines run) p j ≡ told.bound_shown run p j
  bound_is [] p j = refl
  bound_is (e ∷ run) p j = λ i. cond (same_part e.at p) ((ap (λ o. bounds.bound_after j o (call_of e.event) (step_shown run e.at e.event)) (bound_is run p j) ∙ bound_here run e.at j (told.bound_shown run p j) e.event) i) (bound_is run p j i)

  heard_here : (run : List (Entry E)) (p : PartId) (q j old : ℕ) (event : Event E) → bounds.heard_after q j old (call_of event) (step_shown run p event) ≡ heard_from q j old event
  heard_here run p q j old (Refused asked IsDown) = refl
  heard_here run p q j old (Refused asked why) = refl
  heard_here run p q j old (Cut (Decided u c)) = refl
  heard_here run p q j old (Cut a) = refl
  heard_here run p q j old (Heard number k b stable) = none_more (k == q) old (entry b j)
  heard_here run p q j old event = refl

  pub heard_is : (run : List (Entry E)) (p : PartId) (q j : ℕ) → bounds.heard (shown_lines run) p q j ≡ heard_shown run p q j
  heard_is [] p q j = refl
  heard_is (e ∷ run) p q j = λ i. cond (same_part e.at p) ((ap (λ o. bounds.heard_after q j o (call_of e.event) (step_shown run e.at e.event)) (heard_is run p q j) ∙ heard_here run e.at q j (heard_shown run p q j) e.event) i) (heard_is run p q j i)

  pub known_is : (run : List (Entry E)) (p : PartId) (j q : ℕ) → bounds.known (shown_lines run) p j q ≡ known_shown run p j q
  known_is run p j q = λ i. cond (p.part == q) (bound_is run p j i) (heard_is run p q j i)

  pub stable_is : (parts : ℕ) (run : List (Entry E)) (p : PartId) (j n : ℕ) → IsLeast parts (known_shown run p j) n → bounds.IsStableEntry parts (shown_lines run) p j n
  stable_is parts run p j n h = subst (λ known. IsLeast parts known n) (λ i. λ q. sym (known_is run p j q) i) h

  pub own_bound_is : (run : List (Entry E)) (p : PartId) (b : ℕ) → told.IsOwnBoundAt run p b → bounds.IsOwnBound (shown_lines run) p b
  own_bound_is run p b o = record {
    most = subst (λ n. b ≤ n) (sym (now_is run p)) o.most;
    below = λ u h. subst (λ n. b < n) (sym (prepare_time_is run p u)) (o.below u (sym (pending_is run p u) ∙ h));
    reached = ⊎_elim
        (λ (e : b ≡ shown run p). inl (e ∙ sym (now_is run p)))
        (λ (e : (u : TxId) × (pending.pending_shown run p u ≡ true) × (pending.pending_time run p u ≡ b + 1)). inr (e.0, pending_is run p e.0 ∙ e.1, prepare_time_is run p e.0 ∙ e.2))
        o.reached;
  }

  -- the missed times need what calls that were cut off would have shown
  pub missed_is : (run : List (Entry E)) → ClocksAre run → (p : PartId) → clock.missed (shown_lines run) p ≡ missed run p
  missed_is [] h p = refl
  missed_is (e ∷ run) h p = ⊎_elim
      (λ (k : same_part e.at p ≡ true).
      let same = same_part_is e.at p k in
      let here : clock.missed_after (clock.now (shown_lines run) e.at) (clock.missed (shown_lines run) e.at) (call_of e.event) (step_shown run e.at e.event) ≡ missed_after (missed run e.at) e.event =
      (λ i. clock.missed_after (now_is run e.at i) (missed_is run h.1 e.at i) (call_of e.event) (step_shown run e.at e.event)) ∙ missed_here run e.at (missed run e.at) e.event h.0 in
      cond-true _ _ _ k ∙ subst (λ y. clock.missed_after (clock.now (shown_lines run) y) (clock.missed (shown_lines run) y) (call_of e.event) (step_shown run e.at e.event) ≡ missed_after (missed run y) e.event) same here ∙ sym (cond-true _ _ _ k))
      (λ (k : same_part e.at p ≡ false). cond-false _ _ _ k ∙ missed_is run h.1 p ∙ sym (cond-false _ _ _ k))
      (cases_Bool (same_part e.at p))

  prepares_here : (run : List (Entry E)) (p : PartId) (t : TxId) (event : Event E) → commit.prepares (step_shown run p event) t ≡ is_prepare event t
  prepares_here run p t (Refused asked IsDown) = refl
  prepares_here run p t (Refused asked why) = refl
  prepares_here run p t (Cut (Decided u c)) = refl
  prepares_here run p t (Cut a) = refl
  prepares_here run p t event = refl

  pub was_prepared_is : (run : List (Entry E)) (t : TxId) (p : PartId) → commit.was_prepared (shown_lines run) t p ≡ voted run t p
  was_prepared_is [] t p = refl
  was_prepared_is (e ∷ run) t p = λ i. ((same_part e.at p && prepares_here run e.at t e.event i) || was_prepared_is run t p i)

  sent_here : (run : List (Entry E)) (p : PartId) (j old : ℕ) (event : Event E) → streams.sent_after j old (step_shown run p event) ≡ sends.sent_after j old event
  sent_here run p j old (Refused asked IsDown) = refl
  sent_here run p j old (Refused asked why) = refl
  sent_here run p j old (Cut (Decided u c)) = refl
  sent_here run p j old (Cut a) = refl
  sent_here run p j old event = refl

  pub last_sent_is : (run : List (Entry E)) (p : PartId) (j : ℕ) → streams.last_sent (shown_lines run) p j ≡ sends.last_sent run p j
  last_sent_is [] p j = refl
  last_sent_is (e ∷ run) p j = λ i. cond (same_part e.at p) ((ap (λ o. streams.sent_after j o (step_shown run e.at e.event)) (last_sent_is run p j) ∙ sent_here run e.at j (sends.last_sent run p j) e.event) i) (last_sent_is run p j i)

  is_sent_here : (run : List (Entry E)) (p : PartId) (event : Event E) → streams.is_sent (step_shown run p event) ≡ is_sent event
  is_sent_here run p (Refused asked IsDown) = refl
  is_sent_here run p (Refused asked why) = refl
  is_sent_here run p (Cut (Decided u c)) = refl
  is_sent_here run p (Cut a) = refl
  is_sent_here run p event = refl

  pub sent_count_is : (run : List (Entry E)) (p : PartId) → streams.sent_count (shown_lines run) p ≡ sent_count run p
  sent_count_is [] p = refl
  sent_count_is (e ∷ run) p = λ i. cond (same_part e.at p && is_sent_here run e.at e.event i) (sent_count_is run p i + 1) (sent_count_is run p i)

  is_report_here : (run : List (Entry E)) (p : PartId) (event : Event E) → streams.is_report (step_shown run p event) ≡ is_report event
  is_report_here run p (Refused asked IsDown) = refl
  is_report_here run p (Refused asked why) = refl
  is_report_here run p (Cut (Decided u c)) = refl
  is_report_here run p (Cut a) = refl
  is_report_here run p event = refl

  pub report_count_is : (run : List (Entry E)) (p : PartId) → streams.report_count (shown_lines run) p ≡ report_count run p
  report_count_is [] p = refl
  report_count_is (e ∷ run) p = λ i. cond (same_part e.at p && is_report_here run e.at e.event i) (report_count_is run p i + 1) (report_count_is run p i)

  -- what was sent or reported stands in the lines, with its number
  pub sent_line : (run : List (Entry E)) (number : ℕ) (q : PartId) (asked : Option ℕ) (m : Message E) → WasNumbered sent_count run number q (Sent asked m) → streams.WasSent (shown_lines run) q number m.to m.lo m.hi
  sent_line [] number q asked m w = w
  sent_line (e ∷ run) number q asked m w = ⊎_elim
      (λ (x : (e.at ≡ q) × (e.event ≡ Sent asked m) × (number ≡ sent_count run q + 1)).
      inl (x.0, length m.parts, ap (step_shown run e.at) x.1 ∙ (λ i. step.Sent (sent_count run (x.0 i) + 1) (x.0 i) m.to m.lo m.hi (length m.parts)) ∙ λ i. step.Sent ((sym x.2) i) q m.to m.lo m.hi (length m.parts)))
      (λ (x : WasNumbered sent_count run number q (Sent asked m)). inr (sent_line run number q asked m x))
      w

  pub report_line : (run : List (Entry E)) (number : ℕ) (q : PartId) (b : List ℕ) → WasNumbered report_count run number q (Reported b) → streams.WasReported (shown_lines run) q number b
  report_line [] number q b w = w
  report_line (e ∷ run) number q b w = ⊎_elim
      (λ (x : (e.at ≡ q) × (e.event ≡ Reported b) × (number ≡ report_count run q + 1)).
      inl (x.0, ap (step_shown run e.at) x.1 ∙ (λ i. step.Reported (report_count run (x.0 i) + 1) (x.0 i) b) ∙ λ i. step.Reported ((sym x.2) i) q b))
      (λ (x : WasNumbered report_count run number q (Reported b)). inr (report_line run number q b x))
      w
