-- What a restart finds tells what was shown before, or what a call that was cut off would have shown.
use Rattle.std.proofs.Common.{◌≡◌, ◌≢◌, ◌⊎◌, ⊎_elim, inl, inr, ℕ, ◌+◌, ◌≤◌, max, min, cond, leb, Bool, true, false, ◌&&◌, List, [], ◌∷◌, ◌++◌, Option, Some, refl, sym, ap, ◌∙◌, subst}
use Rattle.std.specs.Prelude.{◌==◌}
use Rattle.std.proofs.lemmas.Bool.{cases_Bool, cond_both, cond-true, cond-false, and_right}
use Rattle.site_vector.specs.declared.ids.PartId.{PartId}
use Rattle.site_vector.specs.declared.ids.TxId.{TxId}
use Rattle.site_vector.specs.Ids.{same_part}
use Rattle.site_vector.specs.Order.{same_part_refl}
use Rattle.site_vector.specs.Vector.{entry}
use Rattle.crdt_core.specs.declared.record.Part.{Part}
use Rattle.crdt_core.specs.declared.record.Message.{Message}
use Rattle.crdt_core.specs.declared.record.Record.{Record}
use Rattle.crdt_core.specs.declared.record.Record.TheVariants.{Lease, Prepare, Decide, Finish, Abort, Batch}
use Rattle.crdt_core.specs.Log.{end_of_time, ceiling, pending, prepare_time, last_decided, logged_bound, grown, MayFind}
use Rattle.world_model.specs.rules.Event.{Event, Ticked, Began, Updated, Read, Prepared, Decided, Finished, Aborted, Sent, Took, Reported, Heard, Crashed, RestartCut, Restarted, Refused, Opened, Cut, Entry, attempt, sent_count, WasNumbered}
use Rattle.crdt_core.specs.KindsOf.{Kinds}
use Rattle.world_model.specs.rules.Partition.{PartState, Finds, batch_of, records, done, MayDo, PartStep}
use Rattle.world_model.specs.lines.Places.{IsOther, twin}
use Rattle.crdt_core.specs.Log.{lease_for}
use Rattle.crdt_core.specs.Parts.{above}
use Rattle.world_model.specs.rules.Plan.{Plan, IsAllowed}
use Rattle.world_model.proofs.Runs.{IsRun}
use Rattle.world_model.specs.events.Bounds.{bound_after, bound_shown}
use Rattle.world_model.specs.events.Pending.{pending_after, pending_shown, time_after, pending_time}
use Rattle.world_model.specs.events.Restarts.{is_call, IsTakeable, cut_call, is_some_part, brings, brought_after, brought, decided_after, last_shown, ResumesAt, Resume}
use Rattle.world_model.specs.lines.Listed.{AreTimed}
use Rattle.world_model.proofs.Listed.{timed_as, timed_in}
use Rattle.world_model.proofs.Names.{clash, part_cases, part_other}
use Rattle.world_model.proofs.Moves.{grown_last}
use Rattle.world_model.proofs.Fate.{Fate}
use Rattle.world_model.proofs.Leases.{Leases}
use Rattle.world_model.proofs.Upheld.{law_plan}
use Rattle.world_model.proofs.Later.{once_pending}
use Rattle.world_model.proofs.Shows.{Shown, shown_run, here}

module _ {E : Type 0} where
  -- two logs tell the same of what is pending and of bounds
  record Alike (m log : List (Record E)) : Type 0 where
    pub pending : (t : TxId) → pending m t ≡ pending log t
    pub time : (t : TxId) → prepare_time m t ≡ prepare_time log t
    pub bound : (j : ℕ) → logged_bound m j ≡ logged_bound log j
    pub last : last_decided m ≡ last_decided log

  alike_same : (m log : List (Record E)) → m ≡ log → Alike m log
  alike_same m log e = record { pending = λ t. ap (λ x. pending x t) e; time = λ t. ap (λ x. prepare_time x t) e; bound = λ j. ap (λ x. logged_bound x j) e; last = ap last_decided e }

  alike_leased : (m log : List (Record E)) (k : ℕ) → m ≡ Lease k ∷ log → Alike m log
  alike_leased m log k e = record { pending = λ t. ap (λ x. pending x t) e; time = λ t. ap (λ x. prepare_time x t) e; bound = λ j. ap (λ x. logged_bound x j) e; last = ap last_decided e }

  -- all records of a call, or none that tells more
  abbrev IsTwo : List (Record E) → List (Record E) → List (Record E) → Type 0
  IsTwo log rs m = Alike m log ⊎ (m ≡ grown log rs)

  two_none : (log m : List (Record E)) → m ≡ log → IsTwo log [] m
  two_none log m i = inr i

  two_one : (log m : List (Record E)) (r : Record E) → MayFind log (r ∷ []) m → IsTwo log (r ∷ []) m
  two_one log m r i = ⊎_elim (λ (e : m ≡ log). inl (alike_same m log e)) (λ (e : m ≡ r ∷ log). inr e) i

  two_if : (log m : List (Record E)) (b : Bool) (r : Record E) → MayFind log (cond b (r ∷ []) []) m → IsTwo log (cond b (r ∷ []) []) m
  two_if log m true r i = two_one log m r i
  two_if log m false r i = two_none log m i

  two_lease : (log m : List (Record E)) (n : ℕ) → MayFind log (lease_for log n) m → IsTwo log (lease_for log n) m
  two_lease log m n i = go (leb n (ceiling log)) i
    where
      go : (b : Bool) → MayFind log (cond b [] (Lease (min (n + 1000) end_of_time) ∷ [])) m → IsTwo log (cond b [] (Lease (min (n + 1000) end_of_time) ∷ [])) m
      go true i = two_none log m i
      go false i = two_one log m (Lease (min (n + 1000) end_of_time)) i

  two_prepare : (log m : List (Record E)) (n : ℕ) (r : Record E) → MayFind log (lease_for log n ++ r ∷ []) m → IsTwo log (lease_for log n ++ r ∷ []) m
  two_prepare log m n r i = go (leb n (ceiling log)) i
    where
      k : ℕ
      k = min (n + 1000) end_of_time

      go : (b : Bool) → MayFind log (cond b [] (Lease (min (n + 1000) end_of_time) ∷ []) ++ r ∷ []) m → Alike m log ⊎ (m ≡ grown log (cond b [] (Lease (min (n + 1000) end_of_time) ∷ []) ++ r ∷ []))
      go true i = ⊎_elim (λ (e : m ≡ log). inl (alike_same m log e)) (λ (e : m ≡ r ∷ log). inr e) i
      go false i = ⊎_elim
          (λ (e : m ≡ log). inl (alike_same m log e))
          (λ (x : (m ≡ Lease (min (n + 1000) end_of_time) ∷ log) ⊎ (m ≡ r ∷ Lease (min (n + 1000) end_of_time) ∷ log)). ⊎_elim
          (λ (e : m ≡ Lease (min (n + 1000) end_of_time) ∷ log). inl (alike_leased m log (min (n + 1000) end_of_time) e))
          (λ (e : m ≡ r ∷ Lease (min (n + 1000) end_of_time) ∷ log). inr e)
          x)
          i

  two_batch : (log m : List (Record E)) (x : Message E) (b : ℕ) (xs : List (Part E)) → MayFind log (batch_of x b xs) m → IsTwo log (batch_of x b xs) m
  two_batch log m x b [] i = two_none log m i
  two_batch log m x b (y ∷ ys) i = two_one log m (Batch (record { from = x.from; to = x.to; part = x.part; lo = b; hi = x.hi; parts = y ∷ ys })) i

  two_images : {S : Type 0} (kinds : Kinds S E) (sites parts : ℕ) (id : PartId) (p : PartState E) (a : Event E) (m : List (Record E)) → MayDo kinds sites parts id p a → MayFind p.log (records p a) m → IsTwo p.log (records p a) m
  two_images kinds sites parts id p (Ticked r n) m k i = two_lease p.log m n i
  two_images kinds sites parts id p (Began who dep t s) m k i = two_lease p.log m t.time i
  two_images kinds sites parts id p (Prepared t s l w n) m k i = two_prepare p.log m n (Prepare t l.lead n s w) i
  two_images kinds sites parts id p (Decided t c) m k i = two_if p.log m (pending p.log t) (Decide t c) i
  two_images kinds sites parts id p (Finished t c) m k i = two_if p.log m (pending p.log t) (Finish t c) i
  two_images kinds sites parts id p (Aborted t own) m k i = two_one p.log m (Abort t) i
  two_images kinds sites parts id p (Took number x) m k i = two_batch p.log m x (entry p.bounds x.from) (above x.from (entry p.bounds x.from) x.parts) i
  two_images kinds sites parts id p a m k i = two_none p.log m i

  -- the bound that a log tells after its records
  pub batch_bound : (log : List (Record E)) (x : Message E) (b j : ℕ) (xs : List (Part E)) → logged_bound (grown log (batch_of x b xs)) j ≡ cond (x.from == j && is_some_part xs) (max x.hi (logged_bound log j)) (logged_bound log j)
  batch_bound log x b j [] = sym (cond-false _ _ _ (and_right (x.from == j) false refl))
  batch_bound log x b j (y ∷ ys) = go (x.from == j)
    where
      go : (c : Bool) → cond c (max x.hi (logged_bound log j)) (logged_bound log j) ≡ cond (c && true) (max x.hi (logged_bound log j)) (logged_bound log j)
      go true = refl
      go false = refl

  pub leased_bound : (log : List (Record E)) (n j : ℕ) → logged_bound (grown log (lease_for log n)) j ≡ logged_bound log j
  leased_bound log n j = cond_both (leb n (ceiling log)) [] (Lease (min (n + 1000) end_of_time) ∷ []) (λ rs. logged_bound (grown log rs) j ≡ logged_bound log j) (λ e. refl) (λ e. refl)

  pub if_bound : (log : List (Record E)) (c : Bool) (r : Record E) (j : ℕ) → logged_bound (r ∷ log) j ≡ logged_bound log j → logged_bound (grown log (cond c (r ∷ []) [])) j ≡ logged_bound log j
  if_bound log true r j h = h
  if_bound log false r j h = refl

  module _ {S : Type 0} (kinds : Kinds S E) (plan : Plan E) (run : List (Entry E)) (before : PartId → PartState E) (at : PartId) (w : Shown plan run before) where
    done_bound : (a : Event E) → IsAllowed plan run before at a → MayDo kinds plan.sites plan.parts at (before at) a → (before at).up ≡ true → (j : ℕ) → logged_bound (before at).log j ≡ brought run at j → logged_bound (grown (before at).log (records (before at) a)) j ≡ brought_after run at j (brought run at j) a
    done_bound (Ticked r n) al k up j h = leased_bound (before at).log n j ∙ h
    done_bound (Began who dep t s) al k up j h = leased_bound (before at).log t.time j ∙ h
    done_bound (Prepared t s l c n) al k up j h = ap (λ x. logged_bound x j) (grown_last (before at).log (lease_for (before at).log n) (Prepare t l.lead n s c)) ∙ leased_bound (before at).log n j ∙ h
    done_bound (Decided t c) al k up j h = if_bound (before at).log (pending (before at).log t) (Decide t c) j refl ∙ h
    done_bound (Finished t c) al k up j h = if_bound (before at).log (pending (before at).log t) (Finish t c) j refl ∙ h
    done_bound (Aborted t own) al k up j h = h
    done_bound (Took number x) al k up j h =
        let e = w.bounds at x.from up al.from in
        batch_bound (before at).log x (entry (before at).bounds x.from) j (above x.from (entry (before at).bounds x.from) x.parts)
        ∙ (λ i. cond (x.from == j && is_some_part (above x.from (e i) x.parts)) (max x.hi (h i)) (h i))
    done_bound (Updated t s o own op read u stamp) al k up j h = h
    done_bound (Read t s o own read value) al k up j h = h
    done_bound (Sent asked x) al k up j h = h
    done_bound (Reported b) al k up j h = h
    done_bound (Heard number q b stable) al k up j h = h
    done_bound Crashed al k up j h = absurd k
    done_bound RestartCut al k up j h = absurd k
    done_bound (Restarted n b named listed) al k up j h = absurd k
    done_bound (Refused asked why) al k up j h = absurd k
    done_bound (Opened who) al k up j h = absurd k
    done_bound (Cut a) al k up j h = absurd k

  leased_last : (log : List (Record E)) (n : ℕ) → last_decided (grown log (lease_for log n)) ≡ last_decided log
  leased_last log n = cond_both (leb n (ceiling log)) [] (Lease (min (n + 1000) end_of_time) ∷ []) (λ rs. last_decided (grown log rs) ≡ last_decided log) (λ e. refl) (λ e. refl)

  batch_last : (log : List (Record E)) (x : Message E) (b : ℕ) (xs : List (Part E)) → last_decided (grown log (batch_of x b xs)) ≡ last_decided log
  batch_last log x b [] = refl
  batch_last log x b (y ∷ ys) = refl

  if_last : (log : List (Record E)) (c : Bool) (t : TxId) (v : List ℕ) → last_decided (grown log (cond c (Decide t v ∷ []) [])) ≡ cond c (Some t) (last_decided log)
  if_last log true t v = refl
  if_last log false t v = refl

  if_same : (log : List (Record E)) (c : Bool) (t : TxId) (v : List ℕ) → last_decided (grown log (cond c (Finish t v ∷ []) [])) ≡ last_decided log
  if_same log true t v = refl
  if_same log false t v = refl

  module _ {S : Type 0} (kinds : Kinds S E) (plan : Plan E) (run : List (Entry E)) (before : PartId → PartState E) (at : PartId) (f : Fate plan run before) where
    done_last : (a : Event E) → IsAllowed plan run before at a → MayDo kinds plan.sites plan.parts at (before at) a → (before at).up ≡ true → last_decided (before at).log ≡ last_shown run at → last_decided (grown (before at).log (records (before at) a)) ≡ decided_after (last_shown run at) a
    done_last (Ticked r n) al k up h = leased_last (before at).log n ∙ h
    done_last (Began who dep t s) al k up h = leased_last (before at).log t.time ∙ h
    done_last (Prepared t s l c n) al k up h = ap last_decided (grown_last (before at).log (lease_for (before at).log n) (Prepare t l.lead n s c)) ∙ leased_last (before at).log n ∙ h
    done_last (Decided t c) al k up h = if_last (before at).log (pending (before at).log t) t c ∙ cond-true _ (Some t) (last_decided (before at).log) (once_pending plan run before f at 0 up t al.once k).0
    done_last (Finished t c) al k up h = if_same (before at).log (pending (before at).log t) t c ∙ h
    done_last (Aborted t own) al k up h = h
    done_last (Took number x) al k up h = batch_last (before at).log x (entry (before at).bounds x.from) (above x.from (entry (before at).bounds x.from) x.parts) ∙ h
    done_last (Updated t s o own op read u stamp) al k up h = h
    done_last (Read t s o own read value) al k up h = h
    done_last (Sent asked x) al k up h = h
    done_last (Reported b) al k up h = h
    done_last (Heard number q b stable) al k up h = h
    done_last Crashed al k up h = absurd k
    done_last RestartCut al k up h = absurd k
    done_last (Restarted n b named listed) al k up h = absurd k
    done_last (Refused asked why) al k up h = absurd k
    done_last (Opened who) al k up h = absurd k
    done_last (Cut a) al k up h = absurd k

  -- what a log tells: so is pending, with such times, and such bounds
  record Tells (plan : Plan E) (p : PartId) (pend : TxId → Bool) (drawn : TxId → ℕ) (ends : ℕ → ℕ) (named : Option TxId) (m : List (Record E)) : Type 0 where
    pub waits : (t : TxId) → pending m t ≡ pend t
    pub since : (t : TxId) → pending m t ≡ true → prepare_time m t ≡ drawn t
    pub upto : (j : ℕ) → IsOther plan.sites p.site j → logged_bound m j ≡ ends j
    pub decided : last_decided m ≡ named

  abbrev TellsBefore : Plan E → List (Entry E) → PartId → List (Record E) → Type 0
  TellsBefore plan run p m = Tells plan p (pending_shown run p) (pending_time run p) (brought run p) (last_shown run p) m

  abbrev TellsDone : Plan E → List (Entry E) → PartId → Event E → List (Record E) → Type 0
  TellsDone plan run p what m = Tells plan p (λ t. pending_after t (pending_shown run p t) what) (λ t. time_after t (pending_time run p t) what) (λ j. brought_after run p j (brought run p j) what) (decided_after (last_shown run p) what) m

  abbrev TellsTwo : Plan E → List (Entry E) → PartId → List (Record E) → Type 0
  TellsTwo plan run p m = TellsBefore plan run p m ⊎ ((what : Event E) × (cut_call run p ≡ Some what) × (is_call what ≡ true) × IsTakeable plan run p what × TellsDone plan run p what m)

  record Resumable (plan : Plan E) (run : List (Entry E)) (parts : PartId → PartState E) : Type 0 where
    pub decided : (p : PartId) → (parts p).up ≡ true → last_decided (parts p).log ≡ last_shown run p
    pub up : (p : PartId) → (parts p).up ≡ true → (j : ℕ) → IsOther plan.sites p.site j → logged_bound (parts p).log j ≡ brought run p j
    pub down : (p : PartId) → (parts p).up ≡ false → (m : List (Record E)) → Finds (parts p) m → TellsTwo plan run p m

  -- the later run shows the same of p
  record SameView (run next : List (Entry E)) (p : PartId) : Type 0 where
    pub pend : (t : TxId) → pending_shown next p t ≡ pending_shown run p t
    pub time : (t : TxId) → pending_time next p t ≡ pending_time run p t
    pub ends : (j : ℕ) → brought next p j ≡ brought run p j
    pub bound : (j : ℕ) → bound_shown next p j ≡ bound_shown run p j
    pub last : last_shown next p ≡ last_shown run p

  brought_same : (run next : List (Entry E)) (p : PartId) → SameView run next p → (j : ℕ) (what : Event E) → brought_after next p j (brought next p j) what ≡ brought_after run p j (brought run p j) what
  brought_same run next p v j (Took number m) = λ i. cond (m.from == j && brings m (v.bound m.from i)) (max m.hi (v.ends j i)) (v.ends j i)
  brought_same run next p v j (Restarted n b named listed) = refl
  brought_same run next p v j what = v.ends j

  decided_same : (run next : List (Entry E)) (p : PartId) → SameView run next p → (what : Event E) → decided_after (last_shown next p) what ≡ decided_after (last_shown run p) what
  decided_same run next p v what = ap (λ o. decided_after o what) v.last

  before_map : (plan : Plan E) (run next : List (Entry E)) (p : PartId) (m : List (Record E)) → SameView run next p → TellsBefore plan run p m → TellsBefore plan next p m
  before_map plan run next p m v x = record { waits = λ t. x.waits t ∙ sym (v.pend t); since = λ t h. x.since t h ∙ sym (v.time t); upto = λ j o. x.upto j o ∙ sym (v.ends j); decided = x.decided ∙ sym v.last }

  done_map : (plan : Plan E) (run next : List (Entry E)) (p : PartId) (what : Event E) (m : List (Record E)) → SameView run next p → TellsDone plan run p what m → TellsDone plan next p what m
  done_map plan run next p what m v x = record {
    waits = λ t. x.waits t ∙ ap (λ b. pending_after t b what) (sym (v.pend t));
    since = λ t h. x.since t h ∙ ap (λ n. time_after t n what) (sym (v.time t));
    upto = λ j o. x.upto j o ∙ sym (brought_same run next p v j what);
    decided = x.decided ∙ sym (decided_same run next p v what);
  }

  takeable_map : (plan : Plan E) (run next : List (Entry E)) (p : PartId) (what : Event E) → SameView run next p → ((number : ℕ) (q : PartId) (a : Event E) → WasNumbered sent_count run number q a → WasNumbered sent_count next number q a) → IsTakeable plan run p what → IsTakeable plan next p what
  takeable_map plan run next p (Took number m) v later x = (record { from = x.0.from; to = x.0.to; part = x.0.part; asked = x.0.asked; shown = later number (twin m.from p) (Sent x.0.asked m) x.0.shown }, subst (λ n. m.lo ≤ n) (sym (v.bound m.from)) x.1)
  takeable_map plan run next p what v later x = tt

  two_map : (plan : Plan E) (run next : List (Entry E)) (p : PartId) (m : List (Record E)) → SameView run next p → ((number : ℕ) (q : PartId) (a : Event E) → WasNumbered sent_count run number q a → WasNumbered sent_count next number q a) → cut_call next p ≡ cut_call run p → TellsTwo plan run p m → TellsTwo plan next p m
  two_map plan run next p m v later c x = ⊎_elim
      (λ (y : TellsBefore plan run p m). inl (before_map plan run next p m v y))
      (λ (y : (what : Event E) × (cut_call run p ≡ Some what) × (is_call what ≡ true) × IsTakeable plan run p what × TellsDone plan run p what m). inr (y.0, c ∙ y.1, y.2, takeable_map plan run next p y.0 v later y.3, done_map plan run next p y.0 m v y.4))
      x

  -- what an event at p shows nothing of
  same_view : (run : List (Entry E)) (p : PartId) (event : Event E) → ((t : TxId) → pending_after t (pending_shown run p t) event ≡ pending_shown run p t) → ((t : TxId) → time_after t (pending_time run p t) event ≡ pending_time run p t) → ((j : ℕ) → brought_after run p j (brought run p j) event ≡ brought run p j) → ((j : ℕ) → bound_after j (bound_shown run p j) event ≡ bound_shown run p j) → decided_after (last_shown run p) event ≡ last_shown run p → SameView run ((record { at = p; event = event }) ∷ run) p
  same_view run p event a b c d l =
      let yes = same_part_refl p in record {
        pend = λ t. cond-true _ _ _ yes ∙ a t;
        time = λ t. cond-true _ _ _ yes ∙ b t;
        ends = λ j. cond-true _ _ _ yes ∙ c j;
        bound = λ j. cond-true _ _ _ yes ∙ d j;
        last = cond-true _ _ _ yes ∙ l;
      }

  other_view : (run : List (Entry E)) (e : Entry E) (p : PartId) → (e.at ≡ p → ⊥) → SameView run (e ∷ run) p
  other_view run e p ne =
      let no = part_other e.at p ne in record {
        pend = λ t. cond-false _ _ _ no;
        time = λ t. cond-false _ _ _ no;
        ends = λ j. cond-false _ _ _ no;
        bound = λ j. cond-false _ _ _ no;
        last = cond-false _ _ _ no;
      }

  module _ {S : Type 0} (kinds : Kinds S E) (plan : Plan E) (run : List (Entry E)) (before after : PartId → PartState E) (at : PartId) (f : Fate plan run before) (l : Leases run before) (w : Shown plan run before) (h : Resumable plan run before) where
    -- a partition that is up tells what was shown
    tells_up : (before at).up ≡ true → (m : List (Record E)) → Alike m (before at).log → TellsBefore plan run at m
    tells_up up m a = record {
      waits = λ t. a.pending t ∙ w.waiting at t up;
      since = λ t k. a.time t ∙ w.time at t up (sym (a.pending t) ∙ k);
      upto = λ j o. a.bound j ∙ h.up at up j o;
      decided = a.last ∙ h.decided at up;
    }

    tells_done : (what : Event E) → IsAllowed plan run before at (attempt what) → IsAllowed plan run before at what → (before at).up ≡ true → MayDo kinds plan.sites plan.parts at (before at) what → PartStep kinds plan.sites plan.parts at (before at) what (done (before at) what) → (m : List (Record E)) → m ≡ (done (before at) what).log → TellsDone plan run at what m
    tells_done what al' al up k st m e =
        let x = here kinds plan run before (λ q. done (before at) what) at f w what al' st in record {
          waits = λ t. ap (λ y. pending y t) e ∙ x.waiting t refl;
          since = λ t p. ap (λ y. prepare_time y t) e ∙ x.time t refl (ap (λ y. pending y t) (sym e) ∙ p);
          upto = λ j o. ap (λ y. logged_bound y j) e ∙ done_bound kinds plan run before at w what al k up j (h.up at up j o);
          decided = ap last_decided e ∙ done_last kinds plan run before at f what al k up (h.decided at up);
        }

    -- what is done may be called done
    step_done : (what : Event E) → (before at).up ≡ true → MayDo kinds plan.sites plan.parts at (before at) what → PartStep kinds plan.sites plan.parts at (before at) what (done (before at) what)
    step_done Crashed up k = absurd k
    step_done RestartCut up k = absurd k
    step_done (Restarted n b named listed) up k = absurd k
    step_done (Refused asked why) up k = absurd k
    step_done (Opened who) up k = absurd k
    step_done (Cut a) up k = absurd k
    step_done what up k = (up, k, refl)

    takeable_now : (what : Event E) → IsAllowed plan run before at what → (before at).up ≡ true → MayDo kinds plan.sites plan.parts at (before at) what → IsTakeable plan run at what
    takeable_now (Took number m) al up k = (al, subst (λ n. m.lo ≤ n) (w.bounds at m.from up al.from) k.0)
    takeable_now what al up k = tt

    called : (what : Event E) → MayDo kinds plan.sites plan.parts at (before at) what → is_call what ≡ true
    called Crashed k = absurd k
    called RestartCut k = absurd k
    called (Restarted n b named listed) k = absurd k
    called (Refused asked why) k = absurd k
    called (Opened who) k = absurd k
    called (Cut a) k = absurd k
    called what k = refl

    allowed_done : (what : Event E) → MayDo kinds plan.sites plan.parts at (before at) what → IsAllowed plan run before at what → IsAllowed plan run before at (attempt what)
    allowed_done (Cut a) k al = absurd k
    allowed_done what k al = al

    abbrev next : Event E → List (Entry E)
    next event = (record { at = at; event = event }) ∷ run

    cut_here : (what : Event E) → IsAllowed plan run before at what → PartStep kinds plan.sites plan.parts at (before at) (Cut what) (after at) → (m : List (Record E)) → Finds (after at) m → TellsTwo plan (next (Cut what)) at m
    cut_here what al st m i =
        let v : SameView run (next (Cut what)) at = same_view run at (Cut what) (λ t. refl) (λ t. refl) (λ j. refl) (λ j. refl) refl in ⊎_elim
        (λ (x : Alike m (before at).log). inl (before_map plan run (next (Cut what)) at m v (tells_up st.0 m x)))
        (λ (x : m ≡ grown (before at).log (records (before at) what)). inr (
          what,
          cond-true _ _ _ (same_part_refl at),
          called what st.1,
          takeable_map plan run (next (Cut what)) at what v (λ k q a w'. inr w') (takeable_now what al st.0 st.1),
          done_map plan run (next (Cut what)) at what m v (tells_done what (allowed_done what st.1 al) al st.0 st.1 (step_done what st.0 st.1) m x),
        ))
        (two_images kinds plan.sites plan.parts at (before at) what m st.1 (subst (λ p. Finds p m) st.2 i))

    -- whatever may be found, be it up or down
    tells_any : (m : List (Record E)) → Finds (before at) m → TellsTwo plan run at m
    tells_any m i = ⊎_elim
        (λ (u : (before at).up ≡ true). inl (tells_up u m (alike_same m (before at).log (subst (λ rs. MayFind (before at).log rs m) ((l.clock at).whole u) i))))
        (λ (d : (before at).up ≡ false). h.down at d m i)
        (cases_Bool (before at).up)

    crashed_here : PartStep kinds plan.sites plan.parts at (before at) Crashed (after at) → (m : List (Record E)) → Finds (after at) m → TellsTwo plan (next Crashed) at m
    crashed_here st m i =
        let v : SameView run (next Crashed) at = same_view run at Crashed (λ t. refl) (λ t. refl) (λ j. refl) (λ j. refl) refl in
        two_map plan run (next Crashed) at m v (λ k q a x. inr x) (cond-true _ _ _ (same_part_refl at)) (tells_any m (subst (λ p. Finds p m) st i))

    restart_cut_here : PartStep kinds plan.sites plan.parts at (before at) RestartCut (after at) → (m : List (Record E)) → Finds (after at) m → TellsTwo plan (next RestartCut) at m
    restart_cut_here st m i =
        let v : SameView run (next RestartCut) at = same_view run at RestartCut (λ t. refl) (λ t. refl) (λ j. refl) (λ j. refl) refl in
        two_map plan run (next RestartCut) at m v (λ k q a x. inr x) (cond-true _ _ _ (same_part_refl at)) (tells_any m (subst (λ p. Finds p m) st i))

    stays_here : (event : Event E) → SameView run (next event) at → cut_call (next event) at ≡ cut_call run at → after at ≡ before at → (after at).up ≡ false → (m : List (Record E)) → Finds (after at) m → TellsTwo plan (next event) at m
    stays_here event v c e d m i = two_map plan run (next event) at m v (λ k q a x. inr x) c (h.down at (sym (ap (λ p. p.up) e) ∙ d) m (subst (λ p. Finds p m) e i))

    down_here : (event : Event E) → IsAllowed plan run before at (attempt event) → PartStep kinds plan.sites plan.parts at (before at) event (after at) → (after at).up ≡ false → (m : List (Record E)) → Finds (after at) m → TellsTwo plan (next event) at m
    down_here (Cut what) al st d m i = cut_here what al st m i
    down_here Crashed al st d m i = crashed_here st m i
    down_here RestartCut al st d m i = restart_cut_here st m i
    down_here (Restarted n b named listed) al st d m i = clash st.up d
    down_here (Refused asked why) al st d m i = stays_here (Refused asked why) (same_view run at (Refused asked why) (λ t. refl) (λ t. refl) (λ j. refl) (λ j. refl) refl) (cond-true _ _ _ (same_part_refl at)) st.1 d m i
    down_here (Opened who) al st d m i = stays_here (Opened who) (same_view run at (Opened who) (λ t. refl) (λ t. refl) (λ j. refl) (λ j. refl) refl) (cond-true _ _ _ (same_part_refl at)) st d m i
    down_here event al st d m i = clash (ap (λ p. p.up) st.2) d

    last_done : (event : Event E) → IsAllowed plan run before at event → (before at).up ≡ true → MayDo kinds plan.sites plan.parts at (before at) event → after at ≡ done (before at) event → last_decided (after at).log ≡ decided_after (last_shown run at) event
    last_done event al up k e = ap (λ p. last_decided p.log) e ∙ done_last kinds plan run before at f event al k up (h.decided at up)

    last_here : (event : Event E) → IsAllowed plan run before at (attempt event) → PartStep kinds plan.sites plan.parts at (before at) event (after at) → (after at).up ≡ true → last_decided (after at).log ≡ decided_after (last_shown run at) event
    last_here (Cut what) al st u = clash u (ap (λ p. p.up) st.2)
    last_here Crashed al st u = clash u (ap (λ p. p.up) st)
    last_here RestartCut al st u = clash u (ap (λ p. p.up) st)
    last_here (Restarted n b named listed) al st u = sym st.last
    last_here (Refused asked why) al st u = ap (λ p. last_decided p.log) st.1 ∙ h.decided at (sym (ap (λ p. p.up) st.1) ∙ u)
    last_here (Opened who) al st u = ap (λ p. last_decided p.log) st ∙ h.decided at (sym (ap (λ p. p.up) st) ∙ u)
    last_here (Ticked r n) al st u = last_done (Ticked r n) al st.0 st.1 st.2
    last_here (Began who dep t s) al st u = last_done (Began who dep t s) al st.0 st.1 st.2
    last_here (Updated t s y own op read x stamp) al st u = last_done (Updated t s y own op read x stamp) al st.0 st.1 st.2
    last_here (Read t s y own read value) al st u = last_done (Read t s y own read value) al st.0 st.1 st.2
    last_here (Prepared t s y c n) al st u = last_done (Prepared t s y c n) al st.0 st.1 st.2
    last_here (Decided t c) al st u = last_done (Decided t c) al st.0 st.1 st.2
    last_here (Finished t c) al st u = last_done (Finished t c) al st.0 st.1 st.2
    last_here (Aborted t own) al st u = last_done (Aborted t own) al st.0 st.1 st.2
    last_here (Sent asked x) al st u = last_done (Sent asked x) al st.0 st.1 st.2
    last_here (Took number x) al st u = last_done (Took number x) al st.0 st.1 st.2
    last_here (Reported b) al st u = last_done (Reported b) al st.0 st.1 st.2
    last_here (Heard number q b stable) al st u = last_done (Heard number q b stable) al st.0 st.1 st.2

    up_done : (event : Event E) → IsAllowed plan run before at event → (before at).up ≡ true → MayDo kinds plan.sites plan.parts at (before at) event → after at ≡ done (before at) event → (j : ℕ) → IsOther plan.sites at.site j → logged_bound (after at).log j ≡ brought_after run at j (brought run at j) event
    up_done event al up k e j o = ap (λ p. logged_bound p.log j) e ∙ done_bound kinds plan run before at w event al k up j (h.up at up j o)

    up_here : (event : Event E) → IsAllowed plan run before at (attempt event) → PartStep kinds plan.sites plan.parts at (before at) event (after at) → (after at).up ≡ true → (j : ℕ) → IsOther plan.sites at.site j → logged_bound (after at).log j ≡ brought_after run at j (brought run at j) event
    up_here (Cut what) al st u j o = clash u (ap (λ p. p.up) st.2)
    up_here Crashed al st u j o = clash u (ap (λ p. p.up) st)
    up_here RestartCut al st u j o = clash u (ap (λ p. p.up) st)
    up_here (Restarted n b named listed) al st u j o = sym (st.bounds j o) ∙ sym (st.shown_bounds.others j o)
    up_here (Refused asked why) al st u j o = ap (λ p. logged_bound p.log j) st.1 ∙ h.up at (sym (ap (λ p. p.up) st.1) ∙ u) j o
    up_here (Opened who) al st u j o = ap (λ p. logged_bound p.log j) st ∙ h.up at (sym (ap (λ p. p.up) st) ∙ u) j o
    up_here (Ticked r n) al st u j o = up_done (Ticked r n) al st.0 st.1 st.2 j o
    up_here (Began who dep t s) al st u j o = up_done (Began who dep t s) al st.0 st.1 st.2 j o
    up_here (Updated t s y own op read x stamp) al st u j o = up_done (Updated t s y own op read x stamp) al st.0 st.1 st.2 j o
    up_here (Read t s y own read value) al st u j o = up_done (Read t s y own read value) al st.0 st.1 st.2 j o
    up_here (Prepared t s y c n) al st u j o = up_done (Prepared t s y c n) al st.0 st.1 st.2 j o
    up_here (Decided t c) al st u j o = up_done (Decided t c) al st.0 st.1 st.2 j o
    up_here (Finished t c) al st u j o = up_done (Finished t c) al st.0 st.1 st.2 j o
    up_here (Aborted t own) al st u j o = up_done (Aborted t own) al st.0 st.1 st.2 j o
    up_here (Sent asked x) al st u j o = up_done (Sent asked x) al st.0 st.1 st.2 j o
    up_here (Took number x) al st u j o = up_done (Took number x) al st.0 st.1 st.2 j o
    up_here (Reported b) al st u j o = up_done (Reported b) al st.0 st.1 st.2 j o
    up_here (Heard number q b stable) al st u j o = up_done (Heard number q b stable) al st.0 st.1 st.2 j o

    resumable_step : (event : Event E) → IsAllowed plan run before at (attempt event) → PartStep kinds plan.sites plan.parts at (before at) event (after at) → ((q : PartId) → q ≢ at → after q ≡ before q) → Resumable plan (next event) after
    resumable_step event al st others =
        let old = λ (p : PartId) (ne : at ≡ p → ⊥). others p (λ e. ne (sym e)) in record {
          decided = λ p u. ⊎_elim
              (λ (e : at ≡ p). subst (λ y. (after y).up ≡ true → last_decided (after y).log ≡ decided_after (last_shown run y) event) e (last_here event al st) u ∙ sym (cond-true _ _ _ (subst (λ y. same_part at y ≡ true) e (same_part_refl at))))
              (λ (ne : at ≡ p → ⊥). ap (λ y. last_decided y.log) (old p ne) ∙ h.decided p (ap (λ y. y.up) (sym (old p ne)) ∙ u) ∙ sym (cond-false _ _ _ (part_other at p ne)))
              (part_cases at p);
          up = λ p u j o. ⊎_elim
              (λ (e : at ≡ p). subst (λ y. (after y).up ≡ true → IsOther plan.sites y.site j → logged_bound (after y).log j ≡ brought_after run y j (brought run y j) event) e (λ u' o'. up_here event al st u' j o') u o ∙ sym (cond-true _ _ _ (subst (λ y. same_part at y ≡ true) e (same_part_refl at))))
              (λ (ne : at ≡ p → ⊥). ap (λ y. logged_bound y.log j) (old p ne) ∙ h.up p (ap (λ y. y.up) (sym (old p ne)) ∙ u) j o ∙ sym (cond-false _ _ _ (part_other at p ne)))
              (part_cases at p);
          down = λ p d m i. ⊎_elim
              (λ (e : at ≡ p). subst (λ y. (after y).up ≡ false → Finds (after y) m → TellsTwo plan (next event) y m) e (λ d' i'. down_here event al st d' m i') d i)
              (λ (ne : at ≡ p → ⊥). two_map plan run (next event) p m (other_view run (record { at = at; event = event }) p ne) (λ k q a x. inr x) (cond-false _ _ _ (part_other at p ne)) (h.down p (ap (λ y. y.up) (sym (old p ne)) ∙ d) m (subst (λ y. Finds y m) (old p ne) i)))
              (part_cases at p);
        }

    resumes_event : (event : Event E) (q : PartState E) → PartStep kinds plan.sites plan.parts at (before at) event q → ResumesAt plan run at event
    resumes_event (Restarted n b named listed) q st =
        let ends : (j : ℕ) → IsOther plan.sites at.site j → entry b j ≡ logged_bound q.log j = λ j o. st.shown_bounds.others j o ∙ st.bounds j o in
        let times : AreTimed (prepare_time q.log) listed = timed_in q.log listed st.timed in ⊎_elim
        (λ (x : TellsBefore plan run at q.log). inl (record { members = λ t. st.members t ∙ x.waits t; times = timed_as (prepare_time q.log) (pending_time run at) listed (λ t k. x.since t (sym (st.members t) ∙ k)) times; bounds = λ j o. ends j o ∙ x.upto j o; last = st.last ∙ x.decided }))
        (λ (x : (what : Event E) × (cut_call run at ≡ Some what) × (is_call what ≡ true) × IsTakeable plan run at what × TellsDone plan run at what q.log).
        let yes = same_part_refl at in
        inr (
          x.0,
          x.1,
          x.2,
          x.3,
          record {
            members = λ t. st.members t ∙ x.4.waits t ∙ sym (cond-true _ _ _ yes);
            times = timed_as (prepare_time q.log) (pending_time (next x.0) at) listed (λ t k. x.4.since t (sym (st.members t) ∙ k) ∙ sym (cond-true _ _ _ yes)) times;
            bounds = λ j o. ends j o ∙ x.4.upto j o ∙ sym (cond-true _ _ _ yes);
            last = st.last ∙ x.4.decided ∙ sym (cond-true _ _ _ yes);
          },
        ))
        (tells_any q.log st.found)
    resumes_event event q st = tt

  resumable : {S : Type 0} (kinds : Kinds S E) (plan : Plan E) (run : List (Entry E)) (parts : PartId → PartState E) → IsRun kinds plan run parts → Resumable plan run parts
  resumable kinds plan [] parts r = record {
    decided = λ p u. ap (λ x. last_decided x.log) (r p);
    up = λ p u j o. ap (λ x. logged_bound x.log j) (r p);
    down = λ p d m i. clash (ap (λ x. x.up) (r p)) d;
  }
  resumable kinds plan (e ∷ run) parts r =
      let k = law_plan kinds plan run r.0 r.1 in
      resumable_step kinds plan run r.0 parts e.at k.fate k.leases (shown_run kinds plan run r.0 r.1) (resumable kinds plan run r.0 r.1) e.event r.2.allowed r.2.step r.2.others

  pub resume_events : {S : Type 0} (kinds : Kinds S E) (plan : Plan E) (run : List (Entry E)) (parts : PartId → PartState E) → IsRun kinds plan run parts → Resume plan run
  resume_events kinds plan [] parts r = tt
  resume_events kinds plan (e ∷ run) parts r =
      let k = law_plan kinds plan run r.0 r.1 in (
        resumes_event kinds plan run r.0 parts e.at k.fate k.leases (shown_run kinds plan run r.0 r.1) (resumable kinds plan run r.0 r.1) e.event (parts e.at) r.2.step,
        resume_events kinds plan run r.0 r.1,
      )
