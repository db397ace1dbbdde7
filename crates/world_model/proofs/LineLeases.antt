-- A restart shows the time of the last lease, or of the one that a call took which was cut off.
use Rattle.std.proofs.Common.{◌≡◌, ◌≢◌, ◌⊎◌, ⊎_elim, inl, inr, ℕ, ◌+◌, ◌^◌, max, min, leb, ltb, cond, Bool, true, false, List, [], ◌∷◌, ◌++◌, arith, refl, sym, ap, ◌∙◌, subst}
use Rattle.std.specs.Prelude.{filter}
use Rattle.std.proofs.lemmas.Bool.{cases_Bool, cond-true, cond-false, le-leb}
use Rattle.site_vector.specs.declared.ids.PartId.{PartId}
use Rattle.site_vector.specs.Ids.{same_part}
use Rattle.site_vector.specs.Vector.{entry}
use Rattle.crdt_core.specs.declared.record.Part.{Part}
use Rattle.crdt_core.specs.declared.record.Message.{Message}
use Rattle.crdt_core.specs.declared.record.Record.{Record}
use Rattle.crdt_core.specs.declared.record.Record.TheVariants.{Lease, Prepare, Abort}
use Rattle.crdt_core.specs.Log.{ceiling, pending, grown, MayFind}
use Rattle.crdt_core.specs.KindsOf.{Kinds}
use Rattle.world_model.proofs.Names.{off, part_same, part_other}
use Rattle.world_model.proofs.LineLaws.{up_lines}
use Rattle.world_model.proofs.LineViews.{missed_is}
use Rattle.world_model.specs.events.Logs.{lease_at, taken_of, IsLogAfter, IsLogOf}
use Rattle.world_model.specs.events.Bounds.{bound_shown}
use Rattle.world_model.specs.lines.Causes.{AnswersAsUp}
use Rattle.world_model.specs.lines.Lines.{EachLine}
use Rattle.world_model.specs.lines.Pending.{down_after, is_down}
use Rattle.world_model.specs.rules.Event.{IsDown, Event, Ticked, Began, Prepared, Decided, Finished, Aborted, Took, Crashed, RestartCut, Restarted, Refused, Cut, Entry, missed, missed_after}
use Rattle.world_model.specs.rules.Lines.{call_of, step_shown, shown_lines}
use Rattle.world_model.specs.rules.Partition.{PartState}
use Rattle.world_model.specs.rules.Plan.{Plan}
use Rattle.world_model.specs.rules.World.{plan_of, IsWorldRun}
use Rattle.world_model.specs.lines.Leases.{lease_to, kept_after, kept, ShowsKept}
use Rattle.world_model.specs.events.Lawful.{IsLawfulWorld}
use Rattle.world_model.specs.events.Logs.{LeavesLogs}

-- the ceiling is the last lease, or that of a call that was cut off
abbrev IsLeased : ℕ → ℕ → ℕ → Type 0
IsLeased k m c = (c ≡ k) ⊎ (c ≡ lease_to k m)

-- where no call was cut off it is the last
unmissed_lease : (k m c : ℕ) → IsLeased k m c → m ≡ 0 → c ≡ k
unmissed_lease k m c h e = ⊎_elim
    (λ (x : c ≡ k). x)
    (λ (x : c ≡ lease_to k m). x ∙ (ap (lease_to k) e ∙ cond-true (leb 0 k) k _ (le-leb 0 k (omega arith))))
    h

same_lease : (k m c d : ℕ) → d ≡ c → IsLeased k m c → IsLeased k m d
same_lease k m c d e h = subst (IsLeased k m) (sym e) h

append_none : {A : Type 0} (xs : List A) → xs ++ [] ≡ xs
append_none [] = refl
append_none (x ∷ xs) = ap (λ l. x ∷ l) (append_none xs)

module _ {E : Type 0} where
  pub lease_grown : (log : List (Record E)) (n : ℕ) → ceiling (grown log (lease_at log n)) ≡ lease_to (ceiling log) n
  lease_grown log n = ⊎_elim
      (λ (e : leb n (ceiling log) ≡ true). ap (λ r. ceiling (grown log r)) (cond-true (leb n (ceiling log)) [] _ e) ∙ sym (cond-true (leb n (ceiling log)) (ceiling log) _ e))
      (λ (e : leb n (ceiling log) ≡ false). ap (λ r. ceiling (grown log r)) (cond-false (leb n (ceiling log)) [] (Lease (min (n + 1000) (2 ^ 62)) ∷ []) e) ∙ sym (cond-false (leb n (ceiling log)) (ceiling log) (min (n + 1000) (2 ^ 62)) e))
      (cases_Bool (leb n (ceiling log)))

  pub vote_grown : (log : List (Record E)) (n : ℕ) (r : Record E) → ((old : List (Record E)) → ceiling (r ∷ old) ≡ ceiling old) → ceiling (grown log (lease_at log n ++ r ∷ [])) ≡ lease_to (ceiling log) n
  vote_grown log n r h = ⊎_elim
      (λ (e : leb n (ceiling log) ≡ true). ap (λ x. ceiling (grown log (x ++ r ∷ []))) (cond-true (leb n (ceiling log)) [] _ e) ∙ (h log ∙ sym (cond-true (leb n (ceiling log)) (ceiling log) _ e)))
      (λ (e : leb n (ceiling log) ≡ false). ap (λ x. ceiling (grown log (x ++ r ∷ []))) (cond-false (leb n (ceiling log)) [] (Lease (min (n + 1000) (2 ^ 62)) ∷ []) e) ∙ (h (Lease (min (n + 1000) (2 ^ 62)) ∷ log) ∙ sym (cond-false (leb n (ceiling log)) (ceiling log) (min (n + 1000) (2 ^ 62)) e)))
      (cases_Bool (leb n (ceiling log)))

  pub one_grown : (b : Bool) (log : List (Record E)) (r : Record E) → ceiling (r ∷ log) ≡ ceiling log → ceiling (grown log (cond b (r ∷ []) [])) ≡ ceiling log
  one_grown true log r h = h
  one_grown false log r h = refl

  pub batch_grown : (p : PartId) (m : Message E) (b : ℕ) (log : List (Record E)) (xs : List (Part E)) → ceiling (grown log (taken_of p m b xs)) ≡ ceiling log
  batch_grown p m b log [] = refl
  batch_grown p m b log (x ∷ xs) = refl

  unmissed_here : (run : List (Entry E)) (p : PartId) (old : ℕ) (down : Bool) (event : Event E) → (down ≡ false → old ≡ 0) → down_after down (step_shown run p event) ≡ false → missed_after old event ≡ 0
  unmissed_here run p old down (Restarted n b named listed) h d = refl
  unmissed_here run p old down (Cut (Decided t c)) h d = off (sym d)
  unmissed_here run p old down (Cut what) h d = off (sym d)
  unmissed_here run p old down Crashed h d = off (sym d)
  unmissed_here run p old down RestartCut h d = off (sym d)
  unmissed_here run p old down (Refused asked IsDown) h d = h d
  unmissed_here run p old down (Refused asked why) h d = h d
  unmissed_here run p old down event h d = h d

  -- what is up has no call that was cut off
  unmissed : (run : List (Entry E)) (p : PartId) → is_down (shown_lines run) p ≡ false → missed run p ≡ 0
  unmissed [] p d = refl
  unmissed (e ∷ run) p d = ⊎_elim
      (λ (k : same_part e.at p ≡ true). cond-true (same_part e.at p) (missed_after (missed run p) e.event) (missed run p) k ∙ unmissed_here run e.at (missed run p) (is_down (shown_lines run) p) e.event (unmissed run p) (sym (cond-true (same_part e.at p) (down_after (is_down (shown_lines run) p) (step_shown run e.at e.event)) (is_down (shown_lines run) p) k) ∙ d))
      (λ (k : same_part e.at p ≡ false). cond-false (same_part e.at p) (missed_after (missed run p) e.event) (missed run p) k ∙ unmissed run p (sym (cond-false (same_part e.at p) (down_after (is_down (shown_lines run) p) (step_shown run e.at e.event)) (is_down (shown_lines run) p) k) ∙ d))
      (cases_Bool (same_part e.at p))

  -- these records hold no lease
  abbrev Leaseless : List (Record E) → Type 0
  Leaseless rs = (old log : List (Record E)) → MayFind old rs log → ceiling log ≡ ceiling old

  none : Leaseless []
  none old log h = ap ceiling h

  single : (r : Record E) → ((old : List (Record E)) → ceiling (r ∷ old) ≡ ceiling old) → Leaseless (r ∷ [])
  single r e old log h = ⊎_elim (λ (x : log ≡ old). ap ceiling x) (λ (x : log ≡ r ∷ old). ap ceiling x ∙ e old) h

  maybe : (b : Bool) (r : Record E) → ((old : List (Record E)) → ceiling (r ∷ old) ≡ ceiling old) → Leaseless (cond b (r ∷ []) [])
  maybe true r e = single r e
  maybe false r e = none

  batch : (p : PartId) (m : Message E) (b : ℕ) (xs : List (Part E)) → Leaseless (taken_of p m b xs)
  batch p m b [] = none
  batch p m b (x ∷ xs) = single _ (λ old. refl)

  found_lease : (old log rs : List (Record E)) (n : ℕ) → Leaseless rs → MayFind old (lease_at old n ++ rs) log → (ceiling log ≡ ceiling old) ⊎ (ceiling log ≡ lease_to (ceiling old) n)
  found_lease old log rs n l h = ⊎_elim
      (λ (e : leb n (ceiling old) ≡ true). inl (l old log (subst (λ x. MayFind old (x ++ rs) log) (cond-true (leb n (ceiling old)) [] _ e) h)))
      (λ (e : leb n (ceiling old) ≡ false).
      let new = Lease (min (n + 1000) (2 ^ 62)) in
      let k : (log ≡ old) ⊎ MayFind (new ∷ old) rs log = subst (λ x. MayFind old (x ++ rs) log) (cond-false (leb n (ceiling old)) [] (new ∷ []) e) h in ⊎_elim
      (λ (x : log ≡ old). inl (ap ceiling x))
      (λ (x : MayFind (new ∷ old) rs log). inr (l (new ∷ old) log x ∙ sym (cond-false (leb n (ceiling old)) (ceiling old) (min (n + 1000) (2 ^ 62)) e)))
      k)
      (cases_Bool (leb n (ceiling old)))

  -- a call that shows a time was cut off
  cut_lease : (k m n : ℕ) (old log rs : List (Record E)) → Leaseless rs → IsLeased k m (ceiling old) → m ≡ 0 → MayFind old (lease_at old n ++ rs) log → IsLeased k (max n m) (ceiling log)
  cut_lease k m n old log rs l h e f =
      let c = unmissed_lease k m (ceiling old) h e in
      let x : max n m ≡ n = omega arith in ⊎_elim
      (λ (a : ceiling log ≡ ceiling old). inl (a ∙ c))
      (λ (a : ceiling log ≡ lease_to (ceiling old) n). inr (a ∙ (ap (λ y. lease_to y n) c ∙ ap (lease_to k) (sym x))))
      (found_lease old log rs n l f)

  kept_here : (plan : Plan E) (run : List (Entry E)) (p : PartId) (old log : List (Record E)) (event : Event E) → IsLogAfter plan run p old event log → IsLeased (kept (shown_lines run) p) (missed run p) (ceiling old) → AnswersAsUp (shown_lines run) p (call_of event) (step_shown run p event) → IsLeased (kept_after (kept (shown_lines run) p) (step_shown run p event)) (missed_after (missed run p) event) (ceiling log)
  kept_here plan run p old log (Restarted n b named listed) h k u = inl (ap ceiling h.0 ∙ sym h.1.clock)
  kept_here plan run p old log (Ticked r n) h k u = inl (ap ceiling h ∙ (lease_grown old n ∙ ap (λ c. lease_to c n) (unmissed_lease _ _ _ k (unmissed run p u))))
  kept_here plan run p old log (Began who dep t s) h k u = inl (ap ceiling h ∙ (lease_grown old t.time ∙ ap (λ c. lease_to c t.time) (unmissed_lease _ _ _ k (unmissed run p u))))
  kept_here plan run p old log (Prepared t s l w n) h k u = inl (ap ceiling h ∙ (vote_grown old n (Prepare t (plan.lead t).part n (plan.snapshot t) (plan.updates t p)) (λ x. refl) ∙ ap (λ c. lease_to c n) (unmissed_lease _ _ _ k (unmissed run p u))))
  kept_here plan run p old log (Cut (Ticked r n)) h k u = cut_lease _ _ n old log [] none k (unmissed run p u) (subst (λ x. MayFind old x log) (sym (append_none (lease_at old n))) h)
  kept_here plan run p old log (Cut (Began who dep t s)) h k u = cut_lease _ _ t.time old log [] none k (unmissed run p u) (subst (λ x. MayFind old x log) (sym (append_none (lease_at old t.time))) h)
  kept_here plan run p old log (Cut (Prepared t s l w n)) h k u = cut_lease _ _ n old log (Prepare t (plan.lead t).part n (plan.snapshot t) (plan.updates t p) ∷ []) (single _ (λ x. refl)) k (unmissed run p u) h
  kept_here plan run p old log (Cut (Decided t c)) h k u = same_lease _ _ _ _ (maybe (pending old t) _ (λ x. refl) old log h) k
  kept_here plan run p old log (Cut (Finished t c)) h k u = same_lease _ _ _ _ (maybe (pending old t) _ (λ x. refl) old log h) k
  kept_here plan run p old log (Cut (Aborted t own)) h k u = same_lease _ _ _ _ (single (Abort t) (λ x. refl) old log h) k
  kept_here plan run p old log (Cut (Took number m)) h k u = same_lease _ _ _ _ (batch p m (bound_shown run p m.from) (filter (λ x. ltb (bound_shown run p m.from) (entry x.c m.from)) m.parts) old log h) k
  kept_here plan run p old log (Cut what) h k u = same_lease _ _ _ _ (ap ceiling h) k
  kept_here plan run p old log (Decided t c) h k u = same_lease _ _ _ _ (ap ceiling h ∙ one_grown (pending old t) old _ refl) k
  kept_here plan run p old log (Finished t c) h k u = same_lease _ _ _ _ (ap ceiling h ∙ one_grown (pending old t) old _ refl) k
  kept_here plan run p old log (Aborted t own) h k u = same_lease _ _ _ _ (ap ceiling h) k
  kept_here plan run p old log (Took number m) h k u = same_lease _ _ _ _ (ap ceiling h ∙ batch_grown p m (bound_shown run p m.from) old (filter (λ x. ltb (bound_shown run p m.from) (entry x.c m.from)) m.parts)) k
  kept_here plan run p old log (Refused asked IsDown) h k u = same_lease _ _ _ _ (ap ceiling h) k
  kept_here plan run p old log (Refused asked why) h k u = same_lease _ _ _ _ (ap ceiling h) k
  kept_here plan run p old log event h k u = same_lease _ _ _ _ (ap ceiling h) k

  pub kept_is : (plan : Plan E) (run : List (Entry E)) (p : PartId) (log : List (Record E)) → IsLogOf plan run p log → EachLine AnswersAsUp (shown_lines run) → IsLeased (kept (shown_lines run) p) (missed run p) (ceiling log)
  kept_is plan [] p log h ups = inl (ap ceiling h)
  kept_is plan (e ∷ run) p log h ups =
      let before = kept_is plan run p h.0 h.1 ups.1 in
      let k = kept (shown_lines run) p in let m = missed run p in ⊎_elim
      (λ (x : (e.at ≡ p) × IsLogAfter plan run p h.0 e.event log).
      let here = kept_here plan run p h.0 log e.event x.1 before (subst (λ y. AnswersAsUp (shown_lines run) y (call_of e.event) (step_shown run y e.event)) x.0 ups.0) in
      let t = part_same e.at p x.0 in
      subst (λ (y : ℕ × ℕ). IsLeased y.0 y.1 (ceiling log))
      (λ i. ((ap (λ y. kept_after k (step_shown run y e.event)) (sym x.0) ∙ sym (cond-true (same_part e.at p) (kept_after k (step_shown run e.at e.event)) k t)) i, sym (cond-true (same_part e.at p) (missed_after m e.event) m t) i))
      here)
      (λ (x : (e.at ≢ p) × (log ≡ h.0)).
      let t = part_other e.at p x.0 in
      subst (λ (y : ℕ × ℕ). IsLeased y.0 y.1 (ceiling log))
      (λ i. (sym (cond-false (same_part e.at p) (kept_after k (step_shown run e.at e.event)) k t) i, sym (cond-false (same_part e.at p) (missed_after m e.event) m t) i))
      (same_lease k m (ceiling h.0) (ceiling log) (ap ceiling x.1) before))
      h.2

  -- what the law of events says of each run of the world
  abbrev LawEvents : {S : Type 0} → Kinds S E → ℕ → ℕ → Type 0
  LawEvents kinds sites parts = (run : List (Entry E)) (state : PartId → PartState E) → IsWorldRun kinds sites parts run state → IsLawfulWorld kinds (plan_of sites parts run) run × LeavesLogs (plan_of sites parts run) run state

  module _ {S : Type 0} (kinds : Kinds S E) (sites parts : ℕ) (law : LawEvents kinds sites parts) where
    shows_kept : (run : List (Entry E)) (state : PartId → PartState E) (p : PartId) (event : Event E) → IsWorldRun kinds sites parts ((record { at = p; event = event }) ∷ run) state → ShowsKept (shown_lines run) p (call_of event) (step_shown run p event)
    shows_kept run state p (Restarted n b named listed) r =
        let k = r.2.step in
        let plan = plan_of sites parts ((record { at = p; event = Restarted n b named listed }) ∷ run) in
        let whole = law ((record { at = p; event = Restarted n b named listed }) ∷ run) state r in
        let l = whole.1 p (state p).log (subst (λ t. MayFind (state p).log t (state p).log) (sym k.whole) refl) in ⊎_elim
        (λ (x : (p ≡ p) × IsLogAfter plan run p l.0 (Restarted n b named listed) (state p).log).
        let c = kept_is plan run p l.0 l.1 (up_lines run whole.0.downs.1 whole.0.due.1) in
        same_lease _ _ _ _ x.1.1.clock (subst (λ m. IsLeased (kept (shown_lines run) p) m (ceiling l.0)) (sym (missed_is run whole.0.clock.1 p)) c))
        (λ (x : (p ≢ p) × ((state p).log ≡ l.0)). absurd (x.0 refl))
        l.2
    shows_kept run state p (Refused asked IsDown) r = tt
    shows_kept run state p (Refused asked why) r = tt
    shows_kept run state p (Cut (Decided t c)) r = tt
    shows_kept run state p (Cut what) r = tt
    shows_kept run state p event r = tt

    -- in every run of the world
    pub keep_leases : (run : List (Entry E)) (state : PartId → PartState E) → IsWorldRun kinds sites parts run state → EachLine ShowsKept (shown_lines run)
    keep_leases [] state r = tt
    keep_leases (e ∷ run) state r = (shows_kept run state e.at e.event r, keep_leases run r.0 r.1)
