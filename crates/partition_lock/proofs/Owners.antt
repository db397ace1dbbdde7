-- Who calls for a transaction bears the number of its begin, in what a pass has seen and in all traces.
use Rattle.std.proofs.Common.{◌≡◌, ⊎_elim, inl, inr, ℕ, ◌<◌, leb, arith, true, false, List, [], ◌∷◌, ◌++◌, length, refl, sym, ap, ◌∙◌, subst, Some}
use Rattle.std.specs.Prelude.{◌||◌}
use Rattle.std.proofs.lemmas.Bool.{cases_Bool, cond-true, cond-false, or_cases, or_left, leb-true}
use Rattle.std.proofs.lemmas.List.{length-append}
use Rattle.site_vector.specs.declared.ids.PartId.{PartId}
use Rattle.site_vector.specs.declared.ids.TxId.{TxId}
use Rattle.world_model.specs.lines.Places.{home}
use Rattle.site_vector.specs.Order.{same_tx_refl, same_tx_is}
use Rattle.crdt_core.specs.KindsOf.{Kinds}
use Rattle.world_model.specs.rules.Event.{Ask, AskRead, AskUpdate, AskPrepare, AskDecide, AskAbort, Aborted, Event, Entry, attempt}
use Rattle.world_model.specs.rules.Partition.{PartState}
use Rattle.world_model.specs.rules.World.{is_begin, begun, IsWorldRun}
use Rattle.world_model.specs.rules.Asking.{MayCall, asked_by}
use Rattle.world_model.proofs.Names.{off}
use Rattle.world_model.proofs.Fate.{voted_tried}
use Rattle.world_model.proofs.Whole.{tried_begun, shown_begun}
use Rattle.world_model.proofs.Standing.{Is, is_stands, stands_is, stands_below, is_made, stands_more}
use Rattle.world_model.proofs.Going.{order_runs}
use Rattle.world_model.proofs.Owning.{is_of, is_step_of, touch_of}
use Rattle.world_model.specs.threads.Calls.{Call, entries, called, caller_of, touches}
use Rattle.world_model.specs.threads.Marks.{Mark, calls, entries_of, made_at, first_of_trace, Stands}
use Rattle.world_model.specs.threads.Orders.{IsOrder, IsOrderOf}
use Rattle.world_model.specs.threads.Views.{IsPart}
use Rattle.world_model.specs.threads.AreTraces.{AreTraces}
use Rattle.world_model.specs.threads.Allowed.{HasBegun, MayStand}
use Rattle.world_model.specs.threads.Callers.{IsCallers}
use Rattle.txn_session.specs.Calls.{IsCaller, IsAllowed, IsOwned, AreOwned, IsLegal}
use Rattle.partition_lock.proofs.States.{is_made_at, is_begun}

module _ {E : Type 0} where
  pub entries_are : (ms : List (Mark E)) → entries (calls ms) ≡ entries_of ms
  entries_are [] = refl
  entries_are (m ∷ ms) = ap (λ l. record { at = m.at; event = m.event } ∷ l) (entries_are ms)

  begin_touches : (event : Event E) (t : TxId) → is_begin event t ≡ true → touches event t ≡ true
  begin_touches event t h = or_left (is_begin event t) _ h

  -- where each begin of t bears one number, that is its caller's
  caller_begun : (ms : List (Mark E)) (t : TxId) (who : ℕ) → ((m : Mark E) → Is m ms → is_begin m.event t ≡ true → m.by ≡ who) → begun (entries_of ms) t ≡ true → caller_of (calls ms) t ≡ who
  caller_begun [] t who each h = off h
  caller_begun (m ∷ ms) t who each h = ⊎_elim
      (λ (k : is_begin m.event t ≡ true). cond-true (is_begin m.event t) _ _ k ∙ each m (inl refl) k)
      (λ (k : is_begin m.event t ≡ false). cond-false (is_begin m.event t) _ _ k ∙ caller_begun ms t who (λ x i. each x (inr i)) (sym (ap (λ b. b || begun (entries_of ms) t) k) ∙ h))
      (cases_Bool (is_begin m.event t))

  -- the step that began t
  begun_mark : (ms : List (Mark E)) (t : TxId) → begun (entries_of ms) t ≡ true → (m : Mark E) × (Is m ms × (is_begin m.event t ≡ true))
  begun_mark [] t h = off h
  begun_mark (m ∷ ms) t h = ⊎_elim
      (λ (k : is_begin m.event t ≡ true). (m, (inl refl, k)))
      (λ (k : begun (entries_of ms) t ≡ true). let i = begun_mark ms t k in (i.0, (inr i.1.0, i.1.1)))
      (or_cases _ _ h)

  -- what stands among the first of a trace has a place below
  seen_first : (n : ℕ) (ms : List (Mark E)) (f : Mark E) → Is f (first_of_trace n ms) → (k : ℕ) × (Stands ms k f × (k < n))
  seen_first n [] f h = absurd h
  seen_first n (m ∷ ms) f h = ⊎_elim
      (λ (b : leb (length (m ∷ ms)) n ≡ true).
      let i = is_stands (m ∷ ms) f (subst (Is f) (cond-true (leb (length (m ∷ ms)) n) _ _ b) h) in
      let l = leb-true _ _ b in
      let z = stands_below (m ∷ ms) i.0 f i.1 in (i.0, (i.1, omega arith)))
      (λ (b : leb (length (m ∷ ms)) n ≡ false).
      let i = seen_first n ms f (subst (Is f) (cond-false (leb (length (m ∷ ms)) n) _ _ b) h) in (i.0, (inr i.1.0, i.1.1)))
      (cases_Bool (leb (length (m ∷ ms)) n))

  -- what stands low stands in what is low
  low_is : (top low : List (Mark E)) (k : ℕ) (f : Mark E) → Stands (top ++ low) k f → k < length low → Is f low
  low_is [] low k f s l = stands_is low k f s
  low_is (x ∷ top) low k f s l = ⊎_elim
      (λ (z : (x ≡ f) × (k ≡ length (top ++ low))). let e = length-append top low in let i = z.1 in absurd (omega arith))
      (λ (z : Stands (top ++ low) k f). low_is top low k f z l)
      s

  is_there : (traces : PartId → List (Mark E)) (ms : List (Mark E)) → IsOrder traces ms → (f : Mark E) → Is f ms → (k : ℕ) × Stands (traces f.at) k f
  is_there traces [] o f i = absurd i
  is_there traces (m ∷ ms) o f i = ⊎_elim
      (λ (z : m ≡ f). (length (made_at m.at ms), subst (λ (x : Mark E). Stands (traces x.at) (length (made_at m.at ms)) x) z o.0.stands))
      (λ (z : Is f ms). is_there traces ms o.1 f z)
      i

  -- what is asked for has begun
  call_begun : {S : Type 0} (kinds : Kinds S E) (sites parts : ℕ) (run : List (Entry E)) (state : PartId → PartState E) → IsWorldRun kinds sites parts run state → (p : PartId) (ask : Ask E) → MayCall sites parts run p ask → HasBegun run ask → (t : TxId) → is_of ask t ≡ true → begun run t ≡ true
  call_begun kinds sites parts run state r p (AskRead u s o own) h b t e = subst (λ x. begun run x ≡ true) (same_tx_is u t e) (shown_begun run (home u) h.who h.dependency u s h.begun)
  call_begun kinds sites parts run state r p (AskUpdate u s o own op) h b t e = subst (λ x. begun run x ≡ true) (same_tx_is u t e) (shown_begun run (home u) h.0.who h.0.dependency u s h.0.begun)
  call_begun kinds sites parts run state r p (AskPrepare u s l w) h b t e = subst (λ x. begun run x ≡ true) (same_tx_is u t e) (shown_begun run (home u) h.0.who h.0.dependency u s h.0.begun)
  call_begun kinds sites parts run state r p (AskDecide u c) h b t e = subst (λ x. begun run x ≡ true) (same_tx_is u t e) (tried_begun kinds sites parts run state u p r (voted_tried run u p h.here))
  call_begun kinds sites parts run state r p (AskAbort u) h b t e = subst (λ x. begun run x ≡ true) (same_tx_is u t e) b
  call_begun kinds sites parts run state r p ask h b t e = off e

  step_begun : {S : Type 0} (kinds : Kinds S E) (sites parts : ℕ) (run : List (Entry E)) (state : PartId → PartState E) → IsWorldRun kinds sites parts run state → (p : PartId) (event : Event E) → MayStand sites parts run p event → (t : TxId) → is_step_of event t ≡ true → begun run t ≡ true
  step_begun kinds sites parts run state r p (Aborted u false) h t e = off e
  step_begun kinds sites parts run state r p event h t e = call_begun kinds sites parts run state r p (asked_by event) h.0 h.1 t e

module _ {S E : Type 0} (kinds : Kinds S E) (sites parts : ℕ) (view : PartId → List (Mark E)) (left : PartId → PartState E) (mine : AreTraces kinds sites parts view left) (base : List (Mark E)) (order : IsOrderOf view base) where
  runs : IsWorldRun kinds sites parts (entries_of base) left
  runs = order_runs kinds sites parts view view left mine base order

  module _ (traces : PartId → List (Mark E)) (state : PartId → PartState E) (a : AreTraces kinds sites parts traces state) (part : IsPart view traces) where
    caller_is : (t : TxId) → begun (entries_of base) t ≡ true → caller_of (calls base) t ≡ a.caller t
    caller_is t b = caller_begun base t (a.caller t) (λ m i k.
        let here = subst (Is m) (order.all m.at) (is_made_at base m i) in
        let s = is_stands (view m.at) m here in
        a.owned m.at s.0 m (subst (λ z. Stands z s.0 m) (sym (part.fronts m.at)) (stands_more (part.rest m.at) (view m.at) s.0 m s.1)) t (begin_touches m.event t k)) b

    callers : (by : ℕ) (ask : Ask E) → ((t : TxId) → is_of ask t ≡ true → begun (entries_of base) t ≡ true) → IsCaller (calls base) by ask → IsCallers a.caller by ask
    callers by (AskRead t s o own) b h = h ∙ caller_is t (b t (same_tx_refl t))
    callers by (AskUpdate t s o own op) b h = h ∙ caller_is t (b t (same_tx_refl t))
    callers by (AskPrepare t s l us) b h = h ∙ caller_is t (b t (same_tx_refl t))
    callers by (AskDecide t c) b h = h ∙ caller_is t (b t (same_tx_refl t))
    callers by (AskAbort t) b h = h.0 ∙ caller_is t (b t (same_tx_refl t))
    callers by ask b h = tt

  has_begun : (by : ℕ) (ask : Ask E) → IsCaller (calls base) by ask → HasBegun (entries_of base) ask
  has_begun by (AskAbort t) h = subst (λ r. begun r t ≡ true) (entries_are base) h.1
  has_begun by ask h = tt

  -- in this order of what was seen, this number may ask this
  pub record MayBy (by : ℕ) (id : PartId) (ask : Ask E) : Type 0 where
    pub may : MayCall sites parts (entries_of base) id ask
    pub begun : HasBegun (entries_of base) ask
    pub callers : (traces : PartId → List (Mark E)) (state : PartId → PartState E) (a : AreTraces kinds sites parts traces state) → IsPart view traces → IsCallers a.caller by ask

  pub may_by : (run : List (Call E)) → run ≡ calls base → (by : ℕ) (id : PartId) (ask : Ask E) → IsAllowed sites parts run (Some by) id ask → MayBy by id ask
  may_by run is by id ask a =
      let may : MayCall sites parts (entries_of base) id ask = subst (λ r. MayCall sites parts r id ask) (ap entries is ∙ entries_are base) a.may in
      let mine : IsCaller (calls base) by ask = subst (λ r. IsCaller r by ask) is a.mine in
      record {
        may = may;
        begun = has_begun by ask mine;
        callers = λ traces state b p. callers traces state b p by ask (call_begun kinds sites parts (entries_of base) left runs id ask may (has_begun by ask mine)) mine;
      }

-- any order of traces is a run of the world, by its transactions' callers
module _ {S E : Type 0} (kinds : Kinds S E) (sites parts : ℕ) (traces : PartId → List (Mark E)) (state : PartId → PartState E) (a : AreTraces kinds sites parts traces state) where
  touched : (m : Mark E) (ms : List (Mark E)) → ((q : PartId) (k : ℕ) (f : Mark E) → Stands (traces q) k f → k < m.seen q → Is f ms) → (n : ℕ) → Stands (traces m.at) n m → ((f : Mark E) → Is f ms → (k : ℕ) × Stands (traces f.at) k f) → IsOwned (calls ms) (called m.by m.at m.event)
  touched m ms has n s there t h = ⊎_elim
      (λ (k : is_begin m.event t ≡ true). inl k)
      (λ (k : is_step_of (attempt m.event) t ≡ true).
      let v = a.allowed m.at n m s in
      let b : begun (entries_of v.run) t ≡ true = step_begun kinds sites parts (entries_of v.run) v.state v.is_run m.at (attempt m.event) v.may t k in
      let at = begun_mark v.run t b in
      let here : Is at.0 (first_of_trace (m.seen at.0.at) (traces at.0.at)) = subst (Is at.0) (v.seen at.0.at) (is_made_at v.run at.0 at.1.0) in
      let found = seen_first (m.seen at.0.at) (traces at.0.at) at.0 here in
      inr (a.owned m.at n m s t h ∙ sym (caller_begun ms t (a.caller t) (λ f i e. let z = there f i in a.owned f.at z.0 f z.1 t (begin_touches f.event t e)) (is_begun ms at.0 t (has at.0.at found.0 at.0 found.1.0 found.1.1) at.1.1))))
      (touch_of m.event t h)

  are_owned : (ms : List (Mark E)) → IsOrder traces ms → AreOwned (calls ms)
  are_owned [] o = tt
  are_owned (m ∷ ms) o = (
    are_owned ms o.1,
    touched m ms
        (λ q k f s l. is_made q ms f (low_is (o.0.top q) (made_at q ms) k f (subst (λ z. Stands z k f) (o.0.fronts q) s) (let b = o.0.seen q in omega arith)))
        (length (made_at m.at ms)) o.0.stands
        (λ f i. is_there traces ms o.1 f i),
  )

  pub legal : (ms : List (Mark E)) → IsOrderOf traces ms → IsLegal kinds sites parts (calls ms)
  legal ms o = record {
    state = state;
    is_run = subst (λ r. IsWorldRun kinds sites parts r state) (sym (entries_are ms)) (order_runs kinds sites parts traces traces state a ms o);
    owned = are_owned ms o.order;
  }
