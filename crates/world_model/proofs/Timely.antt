-- No prepare time is above what a partition's clock shows: so no restart lists a later one.
use Rattle.std.proofs.Common.{◌≡◌, ⊎_elim, inl, inr, ◌⊎◌, ℕ, ◌+◌, ◌<◌, ◌≤◌, leb, min, Bool, true, false, cond, List, [], ◌∷◌, ◌++◌, refl, sym, ap, ◌∙◌, subst, arith, le_trans, le_of_eq}
use Rattle.std.specs.Prelude.{⊤}
use Rattle.std.proofs.lemmas.Bool.{cases_Bool, cond-true, cond-false}
use Rattle.site_vector.specs.declared.ids.PartId.{PartId}
use Rattle.site_vector.specs.declared.ids.TxId.{TxId}
use Rattle.site_vector.specs.Ids.{same_tx}
use Rattle.site_vector.specs.Vector.{entry}
use Rattle.crdt_core.specs.declared.record.Upd.{Upd}
use Rattle.crdt_core.specs.declared.record.Part.{Part}
use Rattle.crdt_core.specs.declared.record.Message.{Message}
use Rattle.crdt_core.specs.declared.record.Record.{Record}
use Rattle.crdt_core.specs.declared.record.Record.TheVariants.{Lease, Prepare, Decide, Finish, Abort, Batch}
use Rattle.crdt_core.specs.KindsOf.{Kinds}
use Rattle.crdt_core.specs.Log.{end_of_time, ceiling, pending, prepare_time, lease_for, grown, MayFind}
use Rattle.crdt_core.specs.Parts.{above}
use Rattle.world_model.specs.rules.Event.{Event, Ticked, Began, Prepared, Decided, Finished, Aborted, Took, Crashed, RestartCut, Restarted, Refused, Opened, Cut, Entry, EventsAre}
use Rattle.world_model.specs.rules.Partition.{PartState, Finds, batch_of, records, now_after, done, cut, down, MayDo, PartStep, IsRestart}
use Rattle.world_model.specs.lines.Listed.{AreAtMost}
use Rattle.world_model.specs.rules.Partition as partition
use Rattle.world_model.specs.rules.World.{IsWorldRun}
use Rattle.world_model.proofs.Names.{clash, part_cases}
use Rattle.world_model.proofs.Moves.{grown_image, grown_last}
use Rattle.world_model.proofs.Leases.{done_ceil, rises}
use Rattle.world_model.proofs.Whole.{world_leases}

in_time : (n now top : ℕ) → n ≡ now + 1 → now < top → n ≤ top
in_time n now top e h = omega arith

module _ {E : Type 0} where
  -- in no image, and at no clock of a partition that is up
  pub record IsTimely (p : PartState E) : Type 0 where
    pub images : (m : List (Record E)) (t : TxId) → Finds p m → prepare_time m t ≤ ceiling m
    pub now : (t : TxId) → p.up ≡ true → prepare_time p.log t ≤ p.now

  -- a restart lists no time above its own
  abbrev pub ListsEarly : Event E → Type 0
  ListsEarly (Restarted n b named listed) = AreAtMost n listed
  ListsEarly other = ⊤

  -- after a call that shows this time a log tells the time of t as before, or it is this time
  abbrev IsDrawn : List (Record E) → ℕ → List (Record E) → TxId → Type 0
  IsDrawn log n m t = (prepare_time m t ≡ prepare_time log t) ⊎ ((prepare_time m t ≡ n) × (n ≤ ceiling m))

  drawn_same : (log : List (Record E)) (n : ℕ) (m : List (Record E)) (t : TxId) → m ≡ log → IsDrawn log n m t
  drawn_same log n m t e = inl (ap (λ x. prepare_time x t) e)

  drawn_one : (log : List (Record E)) (n : ℕ) (m : List (Record E)) (r : Record E) (t : TxId) → prepare_time (r ∷ log) t ≡ prepare_time log t → MayFind log (r ∷ []) m → IsDrawn log n m t
  drawn_one log n m r t k i = ⊎_elim (λ (e : m ≡ log). drawn_same log n m t e) (λ (e : m ≡ r ∷ log). inl (ap (λ x. prepare_time x t) e ∙ k)) i

  drawn_if : (log : List (Record E)) (n : ℕ) (m : List (Record E)) (b : Bool) (r : Record E) (t : TxId) → prepare_time (r ∷ log) t ≡ prepare_time log t → MayFind log (cond b (r ∷ []) []) m → IsDrawn log n m t
  drawn_if log n m true r t k i = drawn_one log n m r t k i
  drawn_if log n m false r t k i = drawn_same log n m t i

  drawn_lease : (log : List (Record E)) (n k : ℕ) (m : List (Record E)) (t : TxId) → MayFind log (lease_for log k) m → IsDrawn log n m t
  drawn_lease log n k m t i = go (leb k (ceiling log)) i
    where
      go : (b : Bool) → MayFind log (cond b [] (Lease (min (k + 1000) end_of_time) ∷ [])) m → IsDrawn log n m t
      go true i = drawn_same log n m t i
      go false i = drawn_one log n m (Lease (min (k + 1000) end_of_time)) t refl i

  drawn_batch : (log : List (Record E)) (n : ℕ) (m : List (Record E)) (x : Message E) (b : ℕ) (xs : List (Part E)) (t : TxId) → MayFind log (batch_of x b xs) m → IsDrawn log n m t
  drawn_batch log n m x b [] t i = drawn_same log n m t i
  drawn_batch log n m x b (y ∷ ys) t i = drawn_one log n m (Batch (record { from = x.from; to = x.to; part = x.part; lo = b; hi = x.hi; parts = y ∷ ys })) t refl i

  drawn_last : (log old : List (Record E)) (u : TxId) (l n : ℕ) (s : List ℕ) (w : List (Upd E)) (m : List (Record E)) (t : TxId) → prepare_time old t ≡ prepare_time log t → n ≤ ceiling (Prepare u l n s w ∷ old) → m ≡ Prepare u l n s w ∷ old → IsDrawn log n m t
  drawn_last log old u l n s w m t k c e = ⊎_elim
      (λ (y : same_tx u t ≡ true). inr (ap (λ x. prepare_time x t) e ∙ cond-true (same_tx u t) n (prepare_time old t) y, subst (λ x. n ≤ ceiling x) (sym e) c))
      (λ (y : same_tx u t ≡ false). inl (ap (λ x. prepare_time x t) e ∙ (cond-false (same_tx u t) n (prepare_time old t) y ∙ k)))
      (cases_Bool (same_tx u t))

  drawn_prepare : (log : List (Record E)) (u : TxId) (l n : ℕ) (s : List ℕ) (w : List (Upd E)) (m : List (Record E)) (t : TxId) → n ≤ end_of_time → MayFind log (lease_for log n ++ Prepare u l n s w ∷ []) m → IsDrawn log n m t
  drawn_prepare log u l n s w m t top i = go (leb n (ceiling log)) (subst (λ x. n ≤ ceiling x) (sym (grown_last log (lease_for log n) (Prepare u l n s w))) (done_ceil log n top)) i
    where
      k : ℕ
      k = min (n + 1000) end_of_time

      go : (b : Bool) → n ≤ ceiling (grown log (cond b [] (Lease (min (n + 1000) end_of_time) ∷ []) ++ Prepare u l n s w ∷ [])) → MayFind log (cond b [] (Lease (min (n + 1000) end_of_time) ∷ []) ++ Prepare u l n s w ∷ []) m → IsDrawn log n m t
      go true c i = ⊎_elim (λ (e : m ≡ log). drawn_same log n m t e) (λ (e : m ≡ Prepare u l n s w ∷ log). drawn_last log log u l n s w m t refl c e) i
      go false c i = ⊎_elim
          (λ (e : m ≡ log). drawn_same log n m t e)
          (λ (x : (m ≡ Lease (min (n + 1000) end_of_time) ∷ log) ⊎ (m ≡ Prepare u l n s w ∷ Lease (min (n + 1000) end_of_time) ∷ log)). ⊎_elim
          (λ (e : m ≡ Lease (min (n + 1000) end_of_time) ∷ log). inl (ap (λ y. prepare_time y t) e))
          (λ (e : m ≡ Prepare u l n s w ∷ Lease (min (n + 1000) end_of_time) ∷ log). drawn_last log (Lease k ∷ log) u l n s w m t refl c e)
          x)
          i

  module _ {S : Type 0} (kinds : Kinds S E) (sites parts : ℕ) (id : PartId) (p : PartState E) where
    drawn_at : (a : Event E) (m : List (Record E)) (t : TxId) → MayDo kinds sites parts id p a → MayFind p.log (records p a) m → IsDrawn p.log (now_after p.now a) m t
    drawn_at (Ticked r n) m t k i = drawn_lease p.log n n m t i
    drawn_at (Began who dep u s) m t k i = drawn_lease p.log u.time u.time m t i
    drawn_at (Prepared u s l w n) m t k i = drawn_prepare p.log u l.lead n s w m t (in_time n p.now end_of_time k.1 k.2) i
    drawn_at (Decided u c) m t k i = drawn_if p.log p.now m (pending p.log u) (Decide u c) t refl i
    drawn_at (Finished u c) m t k i = drawn_if p.log p.now m (pending p.log u) (Finish u c) t refl i
    drawn_at (Aborted u own) m t k i = drawn_one p.log p.now m (Abort u) t refl i
    drawn_at (Took number x) m t k i = drawn_batch p.log p.now m x (entry p.bounds x.from) (above x.from (entry p.bounds x.from) x.parts) t i
    drawn_at a m t k i = drawn_same p.log (now_after p.now a) m t i

    module _ (q : PartState E) (h : IsTimely p) (rise : p.now ≤ q.now) (below : (m : List (Record E)) → Finds q m → q.now ≤ ceiling m) where
      done_timely : (a : Event E) → p.up ≡ true → MayDo kinds sites parts id p a → q ≡ done p a → IsTimely q
      done_timely a up k e = record {
        images = λ m t i.
            let is : m ≡ grown p.log (records p a) = subst (λ x. Finds x m) e i in
            le_trans (subst (λ y. prepare_time y t ≤ now_after p.now a) (sym is) (at t)) (subst (λ x. x.now ≤ ceiling m) e (below m i));
        now = λ t u. subst (λ x. prepare_time x.log t ≤ x.now) (sym e) (at t);
      }
        where
          at : (t : TxId) → prepare_time (grown p.log (records p a)) t ≤ now_after p.now a
          at t = ⊎_elim
              (λ (y : prepare_time (grown p.log (records p a)) t ≡ prepare_time p.log t). le_trans (le_of_eq y) (le_trans (h.now t up) (subst (λ x. p.now ≤ x.now) e rise)))
              (λ (y : (prepare_time (grown p.log (records p a)) t ≡ now_after p.now a) × (now_after p.now a ≤ ceiling (grown p.log (records p a)))). le_of_eq y.0)
              (drawn_at a (grown p.log (records p a)) t k (grown_image p.log (records p a)))

      cut_timely : (a : Event E) → p.up ≡ true → MayDo kinds sites parts id p a → q ≡ cut p a → IsTimely q
      cut_timely a up k e = record {
        images = λ m t i. ⊎_elim
            (λ (y : prepare_time m t ≡ prepare_time p.log t). le_trans (le_of_eq y) (le_trans (h.now t up) (subst (λ x. x.now ≤ ceiling m) e (below m i))))
            (λ (y : (prepare_time m t ≡ now_after p.now a) × (now_after p.now a ≤ ceiling m)). le_trans (le_of_eq y.0) y.1)
            (drawn_at a m t k (subst (λ x. Finds x m) e i));
        now = λ t u. clash u (ap (λ x. x.up) e);
      }

      down_timely : q ≡ down p p.torn → IsTimely q
      down_timely e = record { images = λ m t i. h.images m t (subst (λ x. Finds x m) e i); now = λ t u. clash u (ap (λ x. x.up) e) }

      restart_timely : (n : ℕ) (b : List ℕ) (named : _) (listed : List (TxId × ℕ)) → IsRestart sites parts id p n b named listed q → IsTimely q
      restart_timely n b named listed s = record {
        images = λ m t i. let is : m ≡ q.log = subst (λ rs. MayFind q.log rs m) s.whole i in subst (λ y. prepare_time y t ≤ ceiling y) (sym is) (h.images q.log t s.found);
        now = λ t u. subst (λ y. prepare_time q.log t ≤ y) (sym s.clock) (h.images q.log t s.found);
      }

      timely_step : (event : Event E) → PartStep kinds sites parts id p event q → IsTimely q
      timely_step (Cut a) s = cut_timely a s.0 s.1 s.2
      timely_step Crashed s = down_timely s
      timely_step RestartCut s = down_timely s
      timely_step (Restarted n b named listed) s = restart_timely n b named listed s
      timely_step (Refused asked why) s = subst IsTimely (sym s.1) h
      timely_step (Opened who) s = subst IsTimely (sym s) h
      timely_step event s = done_timely event s.0 s.1 s.2

  module _ {S : Type 0} (kinds : Kinds S E) (sites parts : ℕ) where
    pub timely : (run : List (Entry E)) (state : PartId → PartState E) → IsWorldRun kinds sites parts run state → (p : PartId) → IsTimely (state p)
    timely [] state r p = subst IsTimely (sym (r p)) (record { images = λ m t i. subst (λ x. prepare_time x t ≤ ceiling x) (sym i) (omega arith); now = λ t u. omega arith })
    timely (e ∷ run) state r p =
        let l = world_leases kinds sites parts run r.0 r.1 in
        let m = world_leases kinds sites parts (e ∷ run) state r in
        let here : IsTimely (state e.at) = timely_step kinds sites parts e.at (r.0 e.at) (state e.at) (timely run r.0 r.1 e.at)
        (rises kinds sites parts run r.0 state e.at e.event r.2.step r.2.others l e.at) (m.clock e.at).below e.event r.2.step in ⊎_elim
        (λ (k : e.at ≡ p). subst (λ q. IsTimely (state q)) k here)
        (λ (ne : e.at ≡ p → ⊥). subst IsTimely (sym (r.2.others p (λ k. ne (sym k)))) (timely run r.0 r.1 p))
        (part_cases e.at p)

    at_most : (n : ℕ) (log : List (Record E)) (xs : List (TxId × ℕ)) → ((t : TxId) → prepare_time log t ≤ n) → partition.AreTimed log xs → AreAtMost n xs
    at_most n log [] h a = tt
    at_most n log (x ∷ xs) h a = (le_trans (le_of_eq a.0) (h x.0), at_most n log xs h a.1)

    lists_early : (p q : PartState E) (at : PartId) (event : Event E) → IsTimely q → PartStep kinds sites parts at p event q → ListsEarly event
    lists_early p q at (Restarted n b named listed) t st = at_most n q.log listed (λ u. subst (λ m. prepare_time q.log u ≤ m) (sym st.shown) (t.now u st.up)) st.timed
    lists_early p q at event t st = tt

    pub early : (run : List (Entry E)) (state : PartId → PartState E) → IsWorldRun kinds sites parts run state → EventsAre (λ p event. ListsEarly event) run
    early [] state r = tt
    early (e ∷ run) state r = (lists_early (r.0 e.at) (state e.at) e.at e.event (timely (e ∷ run) state r e.at) r.2.step, early run r.0 r.1)
