-- The law of the world under one plan: every part holds at the start and is kept by each step.
use Rattle.std.proofs.Common.{◌||◌, ◌≡◌, ⊎_elim, inl, ℕ, zero, suc, ◌+◌, ◌-◌, ◌<◌, ◌≤◌, max, Bool, true, false, List, [], ◌∷◌, length, Option, refl, sym, ◌∙◌, ap, subst, arith, le_refl, le_of_lt}
use Rattle.std.specs.Prelude.{⊤, slice_index}
use Rattle.std.proofs.lemmas.Bool.{cases_eq, cases_lt, and_from, and_parts, and_right, or_parts, false_from_ne_true}
use Rattle.site_vector.specs.declared.ids.PartId.{PartId}
use Rattle.site_vector.specs.declared.ids.TxId.{TxId}
use Rattle.site_vector.specs.Vector.{le, entry}
use Rattle.crdt_core.specs.declared.record.Message.{Message}
use Rattle.crdt_core.specs.declared.record.Record.{Record}
use Rattle.crdt_core.specs.Log.{end_of_time, ceiling, prepared, committed, aborted, decided, pending, taken, logged_bound}
use Rattle.world_model.specs.rules.Event.{AskRead, AskUpdate, AskPrepare, AskBegin, AskFinish, ClockBehind, ClockAtEnd, IsGone, Refused, shown, Event, Began, Updated, Read, Sent, Restarted, Entry, attempt, was_aborted, is_decided, time_of, EventsAre, Cut}
use Rattle.world_model.proofs.Runs.{sent, IsPlanned, IsRun}
use Rattle.crdt_core.specs.KindsOf.{Kinds}
use Rattle.site_vector.specs.Known.{vector_of}
use Rattle.world_model.specs.rules.Partition.{PartState, Finds, IsBegin, OwnEntry, new_part, PartStep}
use Rattle.world_model.specs.lines.Lines.{Wish}
use Rattle.world_model.specs.lines.Places.{IsOther, home}
use Rattle.world_model.specs.rules.Plan.{Plan, takes_part, commit_vector, IsAllowed, IsSession, WorldStep}
use Rattle.world_model.specs.events.Reads.{sees_tx, IsExact, IsRight}
use Rattle.world_model.specs.events.Clock.{ClocksAre}
use Rattle.world_model.specs.events.Restarts.{KeepsIs, KeepsDecided}
use Rattle.world_model.specs.events.Causes.{HasCauseAt, HaveCausesAt}
use Rattle.world_model.specs.events.Dependency.{HoldsPast, KeepPast}
use Rattle.world_model.proofs.Histories.{Facts}
use Rattle.world_model.proofs.Names.{clash, off, le_from, le_onward, le_raised}
use Rattle.world_model.proofs.Moves.{moved, image_log}
use Rattle.world_model.proofs.Fate.{Fate, fate_step, voted_tried}
use Rattle.world_model.proofs.Leases.{Clock, Leases, leases_step, rises, one_image, clock_event}
use Rattle.world_model.proofs.Later.{never_aborted, full_now, prepared_now, pending_from, vote_in_time}
use Rattle.world_model.proofs.Intervals.{Intervals, intervals_step, exact_now, shown_sent, shown_has, events_map}
use Rattle.world_model.proofs.Completeness.{IsBacked, Bounds, bounds_step, zeros_at, rows_at}
use Rattle.world_model.proofs.AnsweredReads.{IsAnswered, answered_events, answered_event}

pub past_end : (v : List ℕ) (i : ℕ) → length v ≤ i → slice_index v i ≡ 0
past_end [] i h = refl
past_end (n ∷ v) zero h = absurd (omega arith)
past_end (n ∷ v) (suc i) h = past_end v i (omega arith)

module _ {E : Type 0} where
  -- a read or an update is under the transaction's snapshot
  abbrev pub IsUnder : Plan E → PartId → Event E → Type 0
  IsUnder plan p (Read t s o own read value) = s ≡ plan.snapshot t
  IsUnder plan p (Updated t s o own op read u stamp) = s ≡ plan.snapshot t
  IsUnder plan p event = ⊤

  own_holds : (parts : ℕ) (id : PartId) (p : PartState E) (wish : Wish) (time n : ℕ) (b : Bool) → OwnEntry parts id p wish time n b → entry wish.past id.site ≤ n
  own_holds parts id p wish time n true o = o.1
  own_holds parts id p wish time n false o = let e = o in omega arith

  -- a begin's snapshot holds what it was handed
  begin_holds : (sites parts : ℕ) (id : PartId) (p : PartState E) (dep : Wish) (t : TxId) (s : List ℕ) → IsBegin sites parts id p dep t s → le dep.past s ≡ true
  begin_holds sites parts id p dep t s b =
      let wide = b.handed in
      let long = b.width in
      le_from dep.past s (omega arith) (λ i. ⊎_elim
      (λ (h : i < sites). ⊎_elim
      (λ (e : i + 1 ≡ id.site).
      let o : entry dep.past (i + 1) ≤ entry s (i + 1) = subst (λ j. entry dep.past j ≤ entry s j) (sym e) (own_holds parts id p dep t.time (entry s id.site) dep.stable b.own) in
      let k : (i + 1) - 1 ≡ i = omega arith in
      subst (λ j. slice_index dep.past j ≤ slice_index s j) k o)
      (λ (ne : i + 1 ≡ id.site → ⊥).
      let other : IsOther sites id.site (i + 1) = record { least = omega arith; most = omega arith; apart = ne } in
      let k : (i + 1) - 1 ≡ i = omega arith in
      subst (λ j. slice_index dep.past j ≤ slice_index s j) k (b.waited (i + 1) other))
      (cases_eq (i + 1) id.site))
      (λ (h : sites ≤ i). subst (λ x. x ≤ slice_index s i) (sym (past_end dep.past i (omega arith))) (omega arith))
      (cases_lt i sites))

  pub record Upheld {S : Type 0} (kinds : Kinds S E) (plan : Plan E) (run : List (Entry E)) (parts : PartId → PartState E) : Type 0 where
    pub leases : Leases run parts
    pub fate : Fate plan run parts
    pub intervals : Intervals plan run parts
    pub bounds : Bounds plan run parts
    pub reads : EventsAre (IsAnswered kinds plan run parts) run
    pub planned : EventsAre (IsPlanned plan) run
    pub under : EventsAre (IsUnder plan) run
    pub clock : ClocksAre run
    pub past : KeepPast plan.sites run
    pub decided_stay : KeepsDecided plan run
    pub causes : HaveCausesAt plan run

  empty_image : (sites parts : ℕ) (p : PartState E) (m : List (Record E)) → p ≡ new_part sites parts → Finds p m → m ≡ []
  empty_image sites parts p m e i = subst (λ x. Finds x m) e i

  start : {S : Type 0} (kinds : Kinds S E) (plan : Plan E) (parts : PartId → PartState E) → ((p : PartId) → parts p ≡ new_part plan.sites plan.parts) → Upheld kinds plan [] parts
  start kinds plan parts h =
      let empty = λ (q : PartId) (m : List (Record E)) (i : Finds (parts q) m). empty_image plan.sites plan.parts (parts q) m (h q) i in record {
        leases = record { clock = λ q. subst (λ x. Clock x 0 0) (sym (h q)) (record { whole = λ u. refl; now = refl; below = λ m i. omega arith; room = λ m i. subst (λ x. ceiling x ≤ 1000 + max 0 0) (sym i) (omega arith); capped = λ m i. subst (λ x. ceiling x ≤ end_of_time) (sym i) (omega arith) }) };
        fate = record {
          was_tried = λ q m t i k. subst (λ x. prepared x t ≡ true) (empty q m i) k;
          held = λ q m t i k. off k;
          lead_first = λ q t ne k. k;
          full = λ m t i k. off (subst (λ x. committed x t ≡ true) (empty (plan.lead t) m i) k);
          lost = λ q m t ne i k. off (subst (λ x. aborted x t ≡ true) (empty q m i) k);
          stays = λ m t i k. off k;
          known = λ q m t i k. off (subst (λ x. committed x t ≡ true) (empty q m i) k);
          apart = λ q m t i k. off (subst (λ x. committed x t ≡ true) (empty q m i) k);
          aborted_stays = λ q m t i k. off k;
          at_lead = λ q m t i k. off (subst (λ x. decided x t ≡ true) (empty q m i) k);
          time = λ q m t i k. off (subst (λ x. committed x t ≡ true) (empty q m i) k);
          first = λ q m t i k. off (subst (λ x. committed x t ≡ true) (empty q m i) k);
          wrote = λ q m t i k. off (subst (λ x. prepared x t ≡ true) (empty q m i) k);
          part = λ q t k. off k;
          late = λ q t k. off k;
        };
        intervals = record { seen = λ q. omega arith; later = λ q t m i k. off (subst (λ x. prepared x t ≡ true) (empty q m i) k) };
        bounds = record {
          up_to = λ p j u ne. record { reached = subst (λ n. n ≤ 0) (sym (ap (λ x. entry x.bounds j) (h p) ∙ zeros_at plan.sites (j - 1))) (le_refl 0); held = λ m t i k. off k };
          heard = λ p q j u l ne. record { reached = subst (λ n. n ≤ 0) (sym (ap (λ x. entry (vector_of x.heard q) j) (h p) ∙ rows_at plan.parts plan.sites (q - 1) (j - 1))) (le_refl 0); held = λ m t i k. off k };
          own_heard = λ p q u l. subst (λ n. n ≤ 0) (sym (ap (λ x. entry (vector_of x.heard q) p.site) (h p) ∙ rows_at plan.parts plan.sites (q - 1) (p.site - 1))) (le_refl 0);
          logged = λ p j m i ne. record { reached = subst (λ x. logged_bound x j ≤ 0) (sym (empty p m i)) (le_refl 0); held = λ t k. off k };
          from = λ p m t i k. off (subst (λ x. taken x t ≡ true) (empty p m i) k);
          events = tt;
          told = tt;
        };
        reads = tt;
        planned = tt;
        under = tt;
        clock = tt;
        past = tt;
        decided_stay = tt;
        causes = tt;
      }

  keeps_event : {S : Type 0} (kinds : Kinds S E) (plan : Plan E) (run : List (Entry E)) (before : PartId → PartState E) (at : PartId) (q : PartState E) → Fate plan run before → (event : Event E) → PartStep kinds plan.sites plan.parts at (before at) event q → KeepsIs plan run at event
  keeps_event kinds plan run before at q f (Restarted n b named listed) s = λ t k e. s.members t ∙ and_right (prepared q.log t) _ (rw (f.stays q.log t (subst (λ x. Finds (before x) q.log) (sym e) s.found) k) refl)
  keeps_event kinds plan run before at q f event s = tt

  past_event : {S : Type 0} (kinds : Kinds S E) (plan : Plan E) (run : List (Entry E)) (before : PartId → PartState E) (at : PartId) (q : PartState E) (event : Event E) → IsAllowed plan run before at (attempt event) → PartStep kinds plan.sites plan.parts at (before at) event q → HoldsPast plan.sites run at event
  past_event kinds plan run before at q (Began who dep t v) al s = (al, begin_holds plan.sites plan.parts at (before at) dep t v s.1)
  past_event kinds plan run before at q (Cut (Began who dep t v)) al s = al
  past_event kinds plan run before at q (Refused (AskBegin who dep) why) al s = al
  past_event kinds plan run before at q event al s = tt

  sent_now : {S : Type 0} (kinds : Kinds S E) (plan : Plan E) (run : List (Entry E)) (before : PartId → PartState E) (q : PartState E) → Fate plan run before → (at : PartId) (event : Event E) (asked : Option ℕ) (m : Message E) → event ≡ Sent asked m → PartStep kinds plan.sites plan.parts at (before at) event q → IsExact plan ((record { at = at; event = event }) ∷ run) at m × (m.hi ≤ sent ((record { at = at; event = event }) ∷ run) at)
  sent_now kinds plan run before q f at event asked m e s = subst (λ a. IsExact plan ((record { at = at; event = a }) ∷ run) at m × (m.hi ≤ sent ((record { at = at; event = a }) ∷ run) at)) (sym e)
      (again (subst (λ a. PartStep kinds plan.sites plan.parts at (before at) a q) e s), shown_sent ((record { at = at; event = Sent asked m }) ∷ run) at asked m (inl (refl, refl)))
    where
      again : PartStep kinds plan.sites plan.parts at (before at) (Sent asked m) q → IsExact plan ((record { at = at; event = Sent asked m }) ∷ run) at m
      again st = let x = exact_now plan run before f at asked m st.0 st.1 in record { order = x.order; members = x.members; exact = x.exact }

  -- a commit time is above the snapshot
  pub strict : (plan : Plan E) (run : List (Entry E)) (parts : PartId → PartState E) → Fate plan run parts → (t : TxId) → is_decided run t ≡ true → entry (plan.snapshot t) t.site < time_of run t
  strict plan run parts f t h =
      let l = f.late (plan.lead t) t (full_now plan run parts f t h).lead in
      let v = vote_in_time run t (plan.lead t) in
      omega arith

  under_event : (plan : Plan E) (run : List (Entry E)) (before : PartId → PartState E) (at : PartId) (event : Event E) → EventsAre (IsPlanned plan) run → IsAllowed plan run before at (attempt event) → IsUnder plan at event
  under_event plan run before at (Read t s o own read value) p al = shown_has (IsPlanned plan) run (home t) (Began al.who al.dependency t s) p al.begun
  under_event plan run before at (Updated t s o own op read u stamp) p al = shown_has (IsPlanned plan) run (home t) (Began al.who al.dependency t s) p al.begun
  under_event plan run before at event p al = tt

  -- under a begun snapshot that the clock has not reached
  clock_cause : (plan : Plan E) (run : List (Entry E)) (before : PartId → PartState E) (at : PartId) (t : TxId) (s : List ℕ) (n : ℕ) → Leases run before → EventsAre (IsPlanned plan) run → IsSession run at t s → n ≡ (before at).now → n < entry s at.site → (n ≡ shown run at) × (n < entry (plan.snapshot t) at.site)
  clock_cause plan run before at t s n l p al e h = (e ∙ (l.clock at).now, subst (λ x. n < entry x at.site) (shown_has (IsPlanned plan) run (home t) (Began al.who al.dependency t s) p al.begun) h)

  never_gone : (plan : Plan E) (run : List (Entry E)) (before : PartId → PartState E) (at : PartId) (t : TxId) → Fate plan run before → is_decided run t ≡ true → takes_part plan t at ≡ true → (pending (before at).log t || committed (before at).log t) ≡ false → ⊥
  never_gone plan run before at t f d u h =
      let log = (before at).log in
      let ps = or_parts (pending log t) (committed log t) h in
      let p = prepared_now plan run before f at log t (image_log (before at)) d u in
      clash (pending_from log t p.0 ps.1 (never_aborted plan run before f at log t (image_log (before at)) d)) ps.0

  cause_event : {S : Type 0} (kinds : Kinds S E) (plan : Plan E) (run : List (Entry E)) (before : PartId → PartState E) (q : PartState E) (at : PartId) (event : Event E) → Fate plan run before → Leases run before → EventsAre (IsPlanned plan) run → IsAllowed plan run before at (attempt event) → PartStep kinds plan.sites plan.parts at (before at) event q → HasCauseAt plan run at event
  cause_event kinds plan run before q at (Refused (AskRead t s o own) (ClockBehind n)) f l p al st = clock_cause plan run before at t s n l p al.0 st.0.1.0 st.0.1.1
  cause_event kinds plan run before q at (Refused (AskUpdate t s o own op) (ClockBehind n)) f l p al st = let c = clock_cause plan run before at t s n l p al.0 st.0.1.1 st.0.1.2 in (st.0.1.0, c.0, c.1)
  cause_event kinds plan run before q at (Refused (AskPrepare t s y w) (ClockBehind n)) f l p al st = clock_cause plan run before at t s n l p al.0 st.0.1.0 st.0.1.1
  cause_event kinds plan run before q at (Refused (AskBegin who dep) ClockAtEnd) f l p al st = sym (l.clock at).now ∙ st.0.1.1
  cause_event kinds plan run before q at (Refused (AskPrepare t s y w) ClockAtEnd) f l p al st = (
    subst (λ v. entry v at.site ≤ shown run at) (shown_has (IsPlanned plan) run (home t) (Began al.0.who al.0.dependency t s) p al.0.begun) (subst (λ n. entry s at.site ≤ n) (l.clock at).now st.0.1.0),
    sym (l.clock at).now ∙ st.0.1.1,
  )
  cause_event kinds plan run before q at (Refused asked ClockAtEnd) f l p al st = absurd st.0.1
  cause_event kinds plan run before q at (Refused (AskFinish t c) IsGone) f l p al st = never_gone plan run before at t f al.0 al.1 st.0.1
  cause_event kinds plan run before q at event f l p al st = tt

  step : {S : Type 0} (kinds : Kinds S E) (plan : Plan E) (run : List (Entry E)) (before after : PartId → PartState E) (at : PartId) (event : Event E) → WorldStep kinds plan run before (record { at = at; event = event }) after → IsPlanned plan at event → Upheld kinds plan run before → Upheld kinds plan ((record { at = at; event = event }) ∷ run) after
  step kinds plan run before after at event w planned k =
      let next : List (Entry E) = (record { at = at; event = event }) ∷ run in
      let mv = moved kinds plan run before after at event w.allowed w.step w.others in
      let f' = fate_step plan run before after at event mv k.fate (λ p m u i. one_image kinds plan.sites plan.parts run before after at event w.step w.others k.leases p m u i) in
      let rise = rises kinds plan.sites plan.parts run before after at event w.step w.others k.leases in record {
        leases = leases_step kinds plan.sites plan.parts run before after at event w.step w.others k.leases;
        fate = f';
        intervals = intervals_step kinds plan run before after at event w.step mv k.fate f' rise k.intervals;
        bounds = bounds_step kinds plan run before after at event w.step w.others mv k.fate f' rise k.intervals k.bounds
            (λ t h. let e = strict plan next after f' t h in omega arith)
            (λ asked m e. sent_now kinds plan run before (after at) k.fate at event asked m e w.step);
        reads = (
          answered_event kinds plan run before after k.fate k.bounds at w.place event w.step w.allowed,
          events_map (IsAnswered kinds plan run before) (IsAnswered kinds plan next after) (answered_events kinds plan run before after at event w.step mv k.fate f' rise k.intervals) run k.reads,
        );
        planned = (planned, k.planned);
        under = (under_event plan run before at event k.planned w.allowed, k.under);
        clock = (clock_event kinds plan.sites plan.parts at run at (before at) (after at) event (k.leases.clock at) w.step, k.clock);
        past = (past_event kinds plan run before at (after at) event w.allowed w.step, k.past);
        decided_stay = (keeps_event kinds plan run before at (after at) k.fate event w.step, k.decided_stay);
        causes = (cause_event kinds plan run before (after at) at event k.fate k.leases k.planned w.allowed w.step, k.causes);
      }

  upheld : {S : Type 0} (kinds : Kinds S E) (plan : Plan E) (run : List (Entry E)) (parts : PartId → PartState E) → IsRun kinds plan run parts → Upheld kinds plan run parts
  upheld kinds plan [] parts r = start kinds plan parts r
  upheld kinds plan (e ∷ run) parts r = step kinds plan run r.0 parts e.at e.event r.2 r.3 (upheld kinds plan run r.0 r.1)

  right_event : {S : Type 0} (kinds : Kinds S E) (plan : Plan E) (run : List (Entry E)) (parts : PartId → PartState E) (p : PartId) (event : Event E) → IsAnswered kinds plan run parts p event → IsBacked plan run parts p event → IsUnder plan p event → IsRight kinds plan run p event
  right_event kinds plan run parts p (Read t s o own read value) x y z = (z, x.0.right, x.1)
  right_event kinds plan run parts p (Updated t s o own op read u stamp) x y z = (z, λ h. (x h).right)
  right_event kinds plan run parts p (Sent asked m) x y z = y.0
  right_event kinds plan run parts p event x y z = tt

  right_events : {S : Type 0} (kinds : Kinds S E) (plan : Plan E) (run : List (Entry E)) (parts : PartId → PartState E) (some : List (Entry E)) → EventsAre (IsAnswered kinds plan run parts) some → EventsAre (IsBacked plan run parts) some → EventsAre (IsUnder plan) some → EventsAre (IsRight kinds plan run) some
  right_events kinds plan run parts [] a b c = tt
  right_events kinds plan run parts (e ∷ some) a b c = (right_event kinds plan run parts e.at e.event a.0 b.0 c.0, right_events kinds plan run parts some a.1 b.1 c.1)

  -- a snapshot is at most the commit vector
  below_commit : (plan : Plan E) (run : List (Entry E)) (t : TxId) → entry (plan.snapshot t) t.site < time_of run t → le (plan.snapshot t) (commit_vector plan run t) ≡ true
  below_commit plan run t h = le_raised (plan.snapshot t) (t.site - 1) (time_of run t) (le_of_lt h)

  pub closed : (plan : Plan E) (run : List (Entry E)) → ((t : TxId) → is_decided run t ≡ true → entry (plan.snapshot t) t.site < time_of run t) → (s : List ℕ) (t u : TxId) → sees_tx plan run s t ≡ true → sees_tx plan run (plan.snapshot t) u ≡ true → sees_tx plan run s u ≡ true
  closed plan run h s t u x y =
      let a = and_parts (is_decided run t) _ x in
      let b = and_parts (is_decided run u) _ y in
      and_from _ _ b.0 (le_onward (commit_vector plan run u) (plan.snapshot t) s b.1 (le_onward (plan.snapshot t) (commit_vector plan run t) s (below_commit plan run t (h t a.0)) a.1))

  pub law_plan : {S : Type 0} (kinds : Kinds S E) (plan : Plan E) (run : List (Entry E)) (parts : PartId → PartState E) → IsRun kinds plan run parts → Upheld kinds plan run parts
  law_plan kinds plan run parts r = upheld kinds plan run parts r

  pub right_all : {S : Type 0} (kinds : Kinds S E) (plan : Plan E) (run : List (Entry E)) (parts : PartId → PartState E) → Upheld kinds plan run parts → EventsAre (IsRight kinds plan run) run
  right_all kinds plan run parts k = right_events kinds plan run parts run k.reads k.bounds.events k.under

  -- a decided transaction took part at its lead
  decided_part : (plan : Plan E) (run : List (Entry E)) (parts : PartId → PartState E) → Fate plan run parts → (t : TxId) → is_decided run t ≡ true → takes_part plan t (plan.lead t) ≡ true
  decided_part plan run parts f t h = f.part (plan.lead t) t (voted_tried run t (plan.lead t) (full_now plan run parts f t h).lead)

  pub facts_of : {S : Type 0} (kinds : Kinds S E) (plan : Plan E) (run : List (Entry E)) (parts : PartId → PartState E) → Upheld kinds plan run parts → Facts plan run
  facts_of kinds plan run parts k = record {
    strict = strict plan run parts k.fate;
    least = λ t h. plan.least t (plan.lead t) (decided_part plan run parts k.fate t h);
    entered = λ t h. plan.entered t (plan.lead t) (decided_part plan run parts k.fate t h);
    closed = closed plan run (strict plan run parts k.fate);
  }

  pub never_both : {S : Type 0} (kinds : Kinds S E) (plan : Plan E) (run : List (Entry E)) (parts : PartId → PartState E) → Upheld kinds plan run parts → (t : TxId) (p : PartId) → was_aborted run t p ≡ true → is_decided run t ≡ false
  never_both kinds plan run parts k t p a = false_from_ne_true _ (λ h. clash (k.fate.aborted_stays p (parts p).log t (image_log (parts p)) a) (never_aborted plan run parts k.fate p (parts p).log t (image_log (parts p)) h))
