-- Whatever a restart may find is a log that the run leaves.
use Rattle.std.proofs.Common.{◌≡◌, ◌≢◌, ⊎_elim, inl, inr, ℕ, ltb, cond, true, List, [], ◌∷◌, ◌++◌, refl, sym, ap, ◌∙◌, subst}
use Rattle.std.specs.Prelude.{filter}
use Rattle.site_vector.specs.declared.ids.PartId.{PartId}
use Rattle.site_vector.specs.Vector.{entry}
use Rattle.crdt_core.specs.declared.record.Part.{Part}
use Rattle.crdt_core.specs.declared.record.Message.{Message}
use Rattle.crdt_core.specs.declared.record.Record.{Record}
use Rattle.crdt_core.specs.declared.record.Record.TheVariants.{Prepare, Decide, Finish, Batch}
use Rattle.crdt_core.specs.Log.{pending, grown, MayFind}
use Rattle.world_model.specs.rules.Event.{Event, Ticked, Began, Updated, Read, Prepared, Decided, Finished, Aborted, Sent, Took, Reported, Heard, Crashed, RestartCut, Restarted, Refused, Opened, Cut, Entry, attempt}
use Rattle.crdt_core.specs.KindsOf.{Kinds}
use Rattle.world_model.specs.rules.Partition.{PartState, Finds, IsOwnBound, batch_of, written, done, PartStep}
use Rattle.crdt_core.specs.Log.{lease_for}
use Rattle.crdt_core.specs.Parts.{above}
use Rattle.world_model.specs.rules.Plan.{Plan, IsAllowed}
use Rattle.world_model.proofs.Runs.{IsRun}
use Rattle.world_model.specs.events.Bounds.{bound_shown}
use Rattle.world_model.specs.events.Logs.{taken_of, records_of, IsLogAfter, IsLogOf, LeavesLogs}
use Rattle.world_model.proofs.Names.{part_cases}
use Rattle.world_model.proofs.Queue.{in_order}
use Rattle.world_model.proofs.Moves.{image_log}
use Rattle.world_model.proofs.Shows.{Shown, shown_run}

module _ {E : Type 0} {S : Type 0} (kinds : Kinds S E) (plan : Plan E) (run : List (Entry E)) (before after : PartId → PartState E) (at : PartId) (w : Shown plan run before) (left : LeavesLogs plan run before) where
  -- a log that came of one that the run left
  abbrev Left : Event E → List (Record E) → Type 0
  Left event m = (old : List (Record E)) × IsLogOf plan run at old × IsLogAfter plan run at old event m

  above_is : (site b : ℕ) (xs : List (Part E)) → above site b xs ≡ filter (λ x. ltb b (entry x.c site)) xs
  above_is site b [] = refl
  above_is site b (x ∷ xs) = λ i. cond (ltb b (entry x.c site)) (x ∷ above_is site b xs i) (above_is site b xs i)

  batch_is : (m : Message E) (b : ℕ) (xs : List (Part E)) → m.to ≡ at.site → m.part ≡ at.part → batch_of m b xs ≡ taken_of at m b xs
  batch_is m b [] to part = refl
  batch_is m b (x ∷ xs) to part = λ i. Batch (record { from = m.from; to = to i; part = part i; lo = b; hi = m.hi; parts = x ∷ xs }) ∷ []

  -- the records that the rules make are those of the plan, by the bounds that were shown
  same_written : (a : Event E) → IsAllowed plan run before at a → (before at).up ≡ true → written (before at).log (λ j. entry (before at).bounds j) a ≡ records_of plan run at (before at).log a
  same_written (Prepared t s l u n) al up = λ i. lease_for (before at).log n ++ Prepare t (al.lead i) n (al.snapshot i) (al.changes i) ∷ []
  same_written (Decided t c) al up = λ i. cond (pending (before at).log t) (Decide t (al.vector i) ∷ []) []
  same_written (Finished t c) al up = λ i. cond (pending (before at).log t) (Finish t (al.vector i) ∷ []) []
  same_written (Took number m) al up =
      let e = w.bounds at m.from up al.from in
      let b = bound_shown run at m.from in
      (λ i. batch_of m (e i) (above m.from (e i) m.parts))
      ∙ ap (batch_of m b) (above_is m.from b m.parts)
      ∙ batch_is m b (filter (λ x. ltb b (entry x.c m.from)) m.parts) al.to al.part
  same_written a al up = refl

  left_log : IsLogOf plan run at (before at).log
  left_log = left at (before at).log (image_log (before at))

  left_done : (event : Event E) → IsAllowed plan run before at event → (before at).up ≡ true → after at ≡ done (before at) event → (m : List (Record E)) → Finds (after at) m → m ≡ grown (before at).log (records_of plan run at (before at).log event)
  left_done event al up e m i = subst (λ rs. m ≡ grown (before at).log rs) (same_written event al up) (subst (λ p. Finds p m) e i)

  -- the same partition as before
  left_same : (m : List (Record E)) → after at ≡ before at → Finds (after at) m → IsLogOf plan run at m
  left_same m e i = left at m (subst (λ p. Finds p m) e i)

  left_here : (event : Event E) → IsAllowed plan run before at (attempt event) → PartStep kinds plan.sites plan.parts at (before at) event (after at) → (m : List (Record E)) → Finds (after at) m → Left event m
  left_here (Cut a) al st m i = ((before at).log, left_log, subst (λ rs. MayFind (before at).log rs m) (same_written a al st.0) (subst (λ p. Finds p m) st.2 i))
  left_here Crashed al st m i = (m, left at m (subst (λ p. Finds p m) st i), refl)
  left_here RestartCut al st m i = (m, left at m (subst (λ p. Finds p m) st i), refl)
  left_here (Restarted n b named listed) al st m i =
      let log = (after at).log in
      let e : m ≡ log = subst (λ rs. MayFind log rs m) st.whole i in (
        log,
        left at log st.found,
        (
          e,
          record {
            clock = st.shown ∙ st.clock;
            others = λ j o. st.shown_bounds.others j o ∙ st.bounds j o;
            own = subst (λ k. IsOwnBound k log (entry b at.site)) (sym st.shown) st.shown_bounds.own;
            last = st.last;
            members = st.members;
            timed = st.timed;
            order = in_order listed st.order;
          },
        ),
      )
  left_here (Refused asked why) al st m i = (m, left_same m st.1 i, refl)
  left_here (Opened who) al st m i = (m, left_same m st i, refl)
  left_here (Ticked r n) al st m i = ((before at).log, left_log, left_done (Ticked r n) al st.0 st.2 m i)
  left_here (Began who dep t s) al st m i = ((before at).log, left_log, left_done (Began who dep t s) al st.0 st.2 m i)
  left_here (Updated t s o own op read u stamp) al st m i = ((before at).log, left_log, left_done (Updated t s o own op read u stamp) al st.0 st.2 m i)
  left_here (Read t s o own read value) al st m i = ((before at).log, left_log, left_done (Read t s o own read value) al st.0 st.2 m i)
  left_here (Prepared t s l c n) al st m i = ((before at).log, left_log, left_done (Prepared t s l c n) al st.0 st.2 m i)
  left_here (Decided t c) al st m i = ((before at).log, left_log, left_done (Decided t c) al st.0 st.2 m i)
  left_here (Finished t c) al st m i = ((before at).log, left_log, left_done (Finished t c) al st.0 st.2 m i)
  left_here (Aborted t own) al st m i = ((before at).log, left_log, left_done (Aborted t own) al st.0 st.2 m i)
  left_here (Sent asked x) al st m i = ((before at).log, left_log, left_done (Sent asked x) al st.0 st.2 m i)
  left_here (Took number x) al st m i = ((before at).log, left_log, left_done (Took number x) al st.0 st.2 m i)
  left_here (Reported b) al st m i = ((before at).log, left_log, left_done (Reported b) al st.0 st.2 m i)
  left_here (Heard number q b stable) al st m i = ((before at).log, left_log, left_done (Heard number q b stable) al st.0 st.2 m i)

  left_step : (event : Event E) → IsAllowed plan run before at (attempt event) → PartStep kinds plan.sites plan.parts at (before at) event (after at) → ((q : PartId) → q ≢ at → after q ≡ before q) → LeavesLogs plan ((record { at = at; event = event }) ∷ run) after
  left_step event al st others p m i = ⊎_elim
      (λ (e : at ≡ p).
      let x = left_here event al st m (subst (λ y. Finds (after y) m) (sym e) i) in
      (x.0, subst (λ y. IsLogOf plan run y x.0) e x.1, inl (e, subst (λ y. IsLogAfter plan run y x.0 event m) e x.2)))
      (λ (ne : at ≡ p → ⊥). (m, left p m (subst (λ y. Finds y m) (others p (λ e. ne (sym e))) i), inr (ne, refl)))
      (part_cases at p)

pub logs_left : {E S : Type 0} (kinds : Kinds S E) (plan : Plan E) (run : List (Entry E)) (parts : PartId → PartState E) → IsRun kinds plan run parts → LeavesLogs plan run parts
logs_left kinds plan [] parts r = λ p m i. subst (λ x. Finds x m) (r p) i
logs_left kinds plan (e ∷ run) parts r = left_step kinds plan run r.0 parts e.at (shown_run kinds plan run r.0 r.1) (logs_left kinds plan run r.0 r.1) e.event r.2.allowed r.2.step r.2.others
