-- The part leases: no clock value was shown above the last ceiling of any image, and the clock law.
use Rattle.std.proofs.Common.{◌≡◌, Bool, ◌≢◌, ◌⊎◌, ⊎_elim, inl, inr, ℕ, ◌+◌, ◌<◌, ◌≤◌, leb, max, min, cond, true, false, List, [], ◌∷◌, ◌++◌, refl, sym, ap, ◌∙◌, subst, arith, le_of_eq, subst₂}
use Rattle.std.proofs.lemmas.Bool.{cases_Bool, cond_both, cond-true, cond-false, leb-true, leb-false}
use Rattle.site_vector.specs.declared.ids.PartId.{PartId}
use Rattle.site_vector.specs.declared.ids.TxId.{TxId}
use Rattle.site_vector.specs.Ids.{same_part}
use Rattle.site_vector.specs.Order.{same_part_refl}
use Rattle.site_vector.specs.Vector.{entry}
use Rattle.crdt_core.specs.declared.record.Upd.{Upd}
use Rattle.crdt_core.specs.declared.record.Part.{Part}
use Rattle.crdt_core.specs.declared.record.Message.{Message}
use Rattle.crdt_core.specs.declared.record.Record.{Record}
use Rattle.crdt_core.specs.declared.record.Record.TheVariants.{Lease, Prepare, Decide, Finish, Abort, Batch}
use Rattle.crdt_core.specs.Log.{end_of_time, ceiling, pending, grown, MayFind}
use Rattle.world_model.specs.rules.Event.{Refused, Event, Ticked, Began, Updated, Read, Prepared, Decided, Finished, Aborted, Sent, Took, Reported, Heard, Crashed, RestartCut, Restarted, Opened, Cut, Entry, shown_after, shown, missed_after, missed}
use Rattle.crdt_core.specs.KindsOf.{Kinds}
use Rattle.world_model.specs.rules.Partition.{PartState, Finds, batch_of, records, now_after, MayDo, done, cut, PartStep}
use Rattle.crdt_core.specs.Log.{lease_for}
use Rattle.crdt_core.specs.Parts.{above}
use Rattle.world_model.specs.events.Clock.{ClockIs}
use Rattle.world_model.proofs.Names.{clash, part_cases, part_other}
use Rattle.world_model.proofs.Moves.{image_log, grown_image, grown_last}

draw_room : (top c n last skipped m : ℕ) → (m ≡ c) ⊎ ((c < n) × (m ≡ min (n + 1000) top)) → c ≤ 1000 + max last skipped → last ≤ n → m ≤ 1000 + max n skipped
draw_room top c n last skipped m r h l = ⊎_elim (λ (e : m ≡ c). omega arith) (λ (e : (c < n) × (m ≡ min (n + 1000) top)). let k = e.1 in omega arith) r

draw_cut_room : (top c n last skipped m : ℕ) → (m ≡ c) ⊎ ((c < n) × (m ≡ min (n + 1000) top)) → c ≤ 1000 + max last skipped → m ≤ 1000 + max last (max n skipped)
draw_cut_room top c n last skipped m r h = ⊎_elim (λ (e : m ≡ c). omega arith) (λ (e : (c < n) × (m ≡ min (n + 1000) top)). let k = e.1 in omega arith) r

draw_below : (top c n now m : ℕ) → (m ≡ c) ⊎ ((c < n) × (m ≡ min (n + 1000) top)) → now ≤ c → c ≤ top → now ≤ m
draw_below top c n now m r h l = ⊎_elim (λ (e : m ≡ c). omega arith) (λ (e : (c < n) × (m ≡ min (n + 1000) top)). let k = e.0 in let j = e.1 in omega arith) r

draw_capped : (top c n m : ℕ) → (m ≡ c) ⊎ ((c < n) × (m ≡ min (n + 1000) top)) → c ≤ top → m ≤ top
draw_capped top c n m r l = ⊎_elim (λ (e : m ≡ c). omega arith) (λ (e : (c < n) × (m ≡ min (n + 1000) top)). let j = e.1 in omega arith) r

one_more : (now top : ℕ) → now < top → now + 1 ≤ top
one_more now top h = omega arith

in_time : (r now c top : ℕ) → r ≤ top → now ≤ c → c ≤ top → max r now ≤ top
in_time r now c top a b d = omega arith

module _ {E : Type 0} where
  -- what holds of one partition's clock, where these were the last value shown and the value missed
  pub record Clock (p : PartState E) (last skipped : ℕ) : Type 0 where
    pub whole : p.up ≡ true → p.torn ≡ []
    pub now : p.now ≡ last
    pub below : (m : List (Record E)) → Finds p m → p.now ≤ ceiling m
    pub room : (m : List (Record E)) → Finds p m → ceiling m ≤ 1000 + max last skipped
    pub capped : (m : List (Record E)) → Finds p m → ceiling m ≤ end_of_time

  pub record Leases (run : List (Entry E)) (parts : PartId → PartState E) : Type 0 where
    pub clock : (q : PartId) → Clock (parts q) (shown run q) (missed run q)

  abbrev Raised : List (Record E) → ℕ → List (Record E) → Type 0
  Raised log n new = (ceiling new ≡ ceiling log) ⊎ ((ceiling log < n) × (ceiling new ≡ min (n + 1000) end_of_time))

  image_ceil : (log : List (Record E)) (n : ℕ) (new : List (Record E)) → MayFind log (lease_for log n) new → Raised log n new
  image_ceil log n new i = ⊎_elim
      (λ (e : leb n (ceiling log) ≡ true). let j : new ≡ log = subst (λ b. MayFind log (cond b [] (Lease (min (n + 1000) end_of_time) ∷ [])) new) e i in inl (ap ceiling j))
      (λ (e : leb n (ceiling log) ≡ false). let j : (new ≡ log) ⊎ (new ≡ Lease (min (n + 1000) end_of_time) ∷ log) = subst (λ b. MayFind log (cond b [] (Lease (min (n + 1000) end_of_time) ∷ [])) new) e i in
      ⊎_elim (λ (k : new ≡ log). inl (ap ceiling k)) (λ (k : new ≡ Lease (min (n + 1000) end_of_time) ∷ log). inr (leb-false n (ceiling log) e, ap ceiling k)) j)
      (cases_Bool (leb n (ceiling log)))

  image_ceil_prepare : (log : List (Record E)) (t : TxId) (l n : ℕ) (s : List ℕ) (w : List (Upd E)) (new : List (Record E)) → MayFind log (lease_for log n ++ Prepare t l n s w ∷ []) new → Raised log n new
  image_ceil_prepare log t l n s w new i = ⊎_elim
      (λ (e : leb n (ceiling log) ≡ true). let j : (new ≡ log) ⊎ (new ≡ Prepare t l n s w ∷ log) = subst (λ b. MayFind log (cond b [] (Lease (min (n + 1000) end_of_time) ∷ []) ++ Prepare t l n s w ∷ []) new) e i in
      ⊎_elim (λ (k : new ≡ log). inl (ap ceiling k)) (λ (k : new ≡ Prepare t l n s w ∷ log). inl (ap ceiling k)) j)
      (λ (e : leb n (ceiling log) ≡ false). let j : (new ≡ log) ⊎ ((new ≡ Lease (min (n + 1000) end_of_time) ∷ log) ⊎ (new ≡ Prepare t l n s w ∷ Lease (min (n + 1000) end_of_time) ∷ log)) = subst (λ b. MayFind log (cond b [] (Lease (min (n + 1000) end_of_time) ∷ []) ++ Prepare t l n s w ∷ []) new) e i in
      ⊎_elim (λ (k : new ≡ log). inl (ap ceiling k)) (λ (k : (new ≡ Lease (min (n + 1000) end_of_time) ∷ log) ⊎ (new ≡ Prepare t l n s w ∷ Lease (min (n + 1000) end_of_time) ∷ log)).
      ⊎_elim (λ (x : new ≡ Lease (min (n + 1000) end_of_time) ∷ log). inr (leb-false n (ceiling log) e, ap ceiling x)) (λ (x : new ≡ Prepare t l n s w ∷ Lease (min (n + 1000) end_of_time) ∷ log). inr (leb-false n (ceiling log) e, ap ceiling x)) k) j)
      (cases_Bool (leb n (ceiling log)))

  pub done_ceil : (log : List (Record E)) (n : ℕ) → n ≤ end_of_time → n ≤ ceiling (grown log (lease_for log n))
  done_ceil log n b = cond_both (leb n (ceiling log)) [] (Lease (min (n + 1000) end_of_time) ∷ []) (λ rs. n ≤ ceiling (grown log rs)) (λ e. leb-true n (ceiling log) e) (λ e. capped_above n end_of_time b)
    where
      capped_above : (n top : ℕ) → n ≤ top → n ≤ min (n + 1000) top
      capped_above n top b = omega arith

  done_ceil_prepare : (log : List (Record E)) (t : TxId) (l n : ℕ) (s : List ℕ) (w : List (Upd E)) → n ≤ end_of_time → n ≤ ceiling (grown log (lease_for log n ++ Prepare t l n s w ∷ []))
  done_ceil_prepare log t l n s w b = subst (λ x. n ≤ ceiling x) (sym (grown_last log (lease_for log n) (Prepare t l n s w))) (done_ceil log n b)

  -- what an event does to the clock, cut off or not
  pub record Turns (p : PartState E) (a : Event E) (last skipped : ℕ) : Type 0 where
    pub rises : p.now ≤ now_after p.now a
    pub shows : now_after p.now a ≡ shown_after last a
    pub keeps : shown_after last (Cut a) ≡ last
    pub below : now_after p.now a ≤ ceiling (grown p.log (records p a))
    pub room : (m : List (Record E)) → MayFind p.log (records p a) m → ceiling m ≤ 1000 + max (shown_after last a) (missed_after skipped a)
    pub cut_below : (m : List (Record E)) → MayFind p.log (records p a) m → p.now ≤ ceiling m
    pub cut_room : (m : List (Record E)) → MayFind p.log (records p a) m → ceiling m ≤ 1000 + max last (missed_after skipped (Cut a))
    pub capped : (m : List (Record E)) → MayFind p.log (records p a) m → ceiling m ≤ end_of_time

  -- an event that shows no time
  still : (p : PartState E) (last skipped : ℕ) (a : Event E) → Clock p last skipped → now_after p.now a ≡ p.now → shown_after last a ≡ last → shown_after last (Cut a) ≡ last → missed_after skipped a ≡ skipped → missed_after skipped (Cut a) ≡ skipped → ((m : List (Record E)) → MayFind p.log (records p a) m → ceiling m ≡ ceiling p.log) → Turns p a last skipped
  still p last skipped a c en es ec em ek h = record {
    rises = le_of_eq (sym en);
    shows = en ∙ c.now ∙ sym es;
    keeps = ec;
    below = subst₂ (λ x y. x ≤ y) (sym en) (sym (h _ (grown_image p.log (records p a)))) (c.below p.log (image_log p));
    room = λ m i. subst₂ (λ x y. x ≤ 1000 + y) (sym (h m i)) (λ k. max (sym es k) (sym em k)) (c.room p.log (image_log p));
    cut_below = λ m i. subst (λ x. p.now ≤ x) (sym (h m i)) (c.below p.log (image_log p));
    cut_room = λ m i. subst₂ (λ x y. x ≤ 1000 + max last y) (sym (h m i)) (sym ek) (c.room p.log (image_log p));
    capped = λ m i. subst (λ x. x ≤ end_of_time) (sym (h m i)) (c.capped p.log (image_log p));
  }

  -- an event that draws or ticks to n
  drawn : (p : PartState E) (last skipped n : ℕ) (a : Event E) → Clock p last skipped → p.now ≤ n → n ≤ end_of_time → now_after p.now a ≡ n → shown_after last a ≡ n → shown_after last (Cut a) ≡ last → missed_after skipped a ≡ skipped → missed_after skipped (Cut a) ≡ max n skipped → ((m : List (Record E)) → MayFind p.log (records p a) m → Raised p.log n m) → n ≤ ceiling (grown p.log (records p a)) → Turns p a last skipped
  drawn p last skipped n a c b t en es ec em ek h d =
      let r = c.room p.log (image_log p) in
      let l = c.below p.log (image_log p) in
      let e = c.now in
      let top = c.capped p.log (image_log p) in record {
        rises = subst (λ x. p.now ≤ x) (sym en) b;
        shows = en ∙ sym es;
        keeps = ec;
        below = subst (λ x. x ≤ ceiling (grown p.log (records p a))) (sym en) d;
        room = λ m i. subst₂ (λ x y. ceiling m ≤ 1000 + max x y) (sym es) (sym em) (draw_room end_of_time (ceiling p.log) n last skipped (ceiling m) (h m i) r (subst (λ x. x ≤ n) e b));
        cut_below = λ m i. draw_below end_of_time (ceiling p.log) n p.now (ceiling m) (h m i) l top;
        cut_room = λ m i. subst (λ y. ceiling m ≤ 1000 + max last y) (sym ek) (draw_cut_room end_of_time (ceiling p.log) n last skipped (ceiling m) (h m i) r);
        capped = λ m i. draw_capped end_of_time (ceiling p.log) n (ceiling m) (h m i) top;
      }

  quiet : (log : List (Record E)) (r : Record E) (m : List (Record E)) → ceiling (r ∷ log) ≡ ceiling log → (m ≡ log) ⊎ (m ≡ r ∷ log) → ceiling m ≡ ceiling log
  quiet log r m h = ⊎_elim (λ (e : m ≡ log). ap ceiling e) (λ (e : m ≡ r ∷ log). ap ceiling e ∙ h)

  quiet_if : (b : Bool) (log : List (Record E)) (r : Record E) (m : List (Record E)) → ceiling (r ∷ log) ≡ ceiling log → MayFind log (cond b (r ∷ []) []) m → ceiling m ≡ ceiling log
  quiet_if true log r m h i = quiet log r m h i
  quiet_if false log r m h i = ap ceiling i

  quiet_batch : (log : List (Record E)) (x : Message E) (b : ℕ) (xs : List (Part E)) (m : List (Record E)) → MayFind log (batch_of x b xs) m → ceiling m ≡ ceiling log
  quiet_batch log x b [] m i = ap ceiling i
  quiet_batch log x b (y ∷ xs) m i = quiet log (Batch (record { from = x.from; to = x.to; part = x.part; lo = b; hi = x.hi; parts = y ∷ xs })) m refl i

  module _ {S : Type 0} (kinds : Kinds S E) (sites count : ℕ) (id : PartId) where
    turns : (p : PartState E) (last skipped : ℕ) (a : Event E) → Clock p last skipped → MayDo kinds sites count id p a → Turns p a last skipped
    turns p last skipped (Ticked r n) c m =
        let top = subst (λ x. x ≤ end_of_time) (sym m.0) (in_time r p.now (ceiling p.log) end_of_time m.1 (c.below p.log (image_log p)) (c.capped p.log (image_log p))) in
        let up : p.now ≤ n = subst (λ x. p.now ≤ x) (sym m.0) (omega arith) in
        drawn p last skipped n (Ticked r n) c up top refl refl refl refl refl (λ l i. image_ceil p.log n l i) (done_ceil p.log n top)
    turns p last skipped (Began who dep t s) c m =
        let e : t.time ≡ p.now + 1 = ap (λ x. x.time) m.named in
        let top = subst (λ x. x ≤ end_of_time) (sym e) (one_more p.now end_of_time m.early) in
        drawn p last skipped t.time (Began who dep t s) c (omega arith) top refl refl refl refl refl (λ l i. image_ceil p.log t.time l i) (done_ceil p.log t.time top)
    turns p last skipped (Prepared t s l w n) c m =
        let e = m.1 in
        let top = subst (λ x. x ≤ end_of_time) (sym e) (one_more p.now end_of_time m.2) in
        drawn p last skipped n (Prepared t s l w n) c (omega arith) top refl refl refl refl refl (λ x i. image_ceil_prepare p.log t l.lead n s w x i) (done_ceil_prepare p.log t l.lead n s w top)
    turns p last skipped (Updated t s o own op read u stamp) c m = still p last skipped (Updated t s o own op read u stamp) c refl refl refl refl refl (λ x i. ap ceiling i)
    turns p last skipped (Read t s o own read value) c m = still p last skipped (Read t s o own read value) c refl refl refl refl refl (λ x i. ap ceiling i)
    turns p last skipped (Decided t v) c m = still p last skipped (Decided t v) c refl refl refl refl refl (λ x i. quiet_if (pending p.log t) p.log (Decide t v) x refl i)
    turns p last skipped (Finished t v) c m = still p last skipped (Finished t v) c refl refl refl refl refl (λ x i. quiet_if (pending p.log t) p.log (Finish t v) x refl i)
    turns p last skipped (Aborted t own) c m = still p last skipped (Aborted t own) c refl refl refl refl refl (λ x i. quiet p.log (Abort t) x refl i)
    turns p last skipped (Sent asked y) c m = still p last skipped (Sent asked y) c refl refl refl refl refl (λ x i. ap ceiling i)
    turns p last skipped (Took number y) c m = still p last skipped (Took number y) c refl refl refl refl refl (λ x i. quiet_batch p.log y (entry p.bounds y.from) (above y.from (entry p.bounds y.from) y.parts) x i)
    turns p last skipped (Reported b) c m = still p last skipped (Reported b) c refl refl refl refl refl (λ x i. ap ceiling i)
    turns p last skipped (Heard number q b stable) c m = still p last skipped (Heard number q b stable) c refl refl refl refl refl (λ x i. ap ceiling i)
    turns p last skipped Crashed c m = absurd m
    turns p last skipped RestartCut c m = absurd m
    turns p last skipped (Restarted n b named listed) c m = absurd m
    turns p last skipped (Refused asked why) c m = absurd m
    turns p last skipped (Opened who) c m = absurd m
    turns p last skipped (Cut a) c m = absurd m

    done_clock : (p : PartState E) (last skipped : ℕ) (a : Event E) → Turns p a last skipped → Clock (done p a) (shown_after last a) (missed_after skipped a)
    done_clock p last skipped a t = record {
      whole = λ u. refl;
      now = t.shows;
      below = λ m i. subst (λ x. now_after p.now a ≤ ceiling x) (sym i) t.below;
      room = λ m i. t.room m (subst (λ x. MayFind p.log (records p a) x) (sym i) (grown_image p.log (records p a)));
      capped = λ m i. t.capped m (subst (λ x. MayFind p.log (records p a) x) (sym i) (grown_image p.log (records p a)));
    }

    cut_clock : (p : PartState E) (last skipped : ℕ) (a : Event E) → Clock p last skipped → Turns p a last skipped → Clock (cut p a) (shown_after last (Cut a)) (missed_after skipped (Cut a))
    cut_clock p last skipped a c t = record {
      whole = λ u. absurd (clash u refl);
      now = c.now ∙ sym t.keeps;
      below = t.cut_below;
      room = λ m i. subst (λ x. ceiling m ≤ 1000 + max x (missed_after skipped (Cut a))) (sym t.keeps) (t.cut_room m i);
      capped = t.capped;
    }

    done_step : (p q : PartState E) (last skipped : ℕ) (a : Event E) → Clock p last skipped → (p.up ≡ true) × MayDo kinds sites count id p a × (q ≡ done p a) → Clock q (shown_after last a) (missed_after skipped a)
    done_step p q last skipped a c s = subst (λ x. Clock x (shown_after last a) (missed_after skipped a)) (sym s.2) (done_clock p last skipped a (turns p last skipped a c s.1))

    step_clock : (p q : PartState E) (last skipped : ℕ) (a : Event E) → Clock p last skipped → PartStep kinds sites count id p a q → Clock q (shown_after last a) (missed_after skipped a)
    step_clock p q last skipped (Cut a) c s = subst (λ x. Clock x (shown_after last (Cut a)) (missed_after skipped (Cut a))) (sym s.2) (cut_clock p last skipped a c (turns p last skipped a c s.1))
    step_clock p q last skipped Crashed c s = subst (λ x. Clock x last skipped) (sym s) (record { whole = λ u. absurd (clash u refl); now = c.now; below = c.below; room = c.room; capped = c.capped })
    step_clock p q last skipped RestartCut c s = subst (λ x. Clock x last skipped) (sym s) (record { whole = λ u. absurd (clash u refl); now = c.now; below = c.below; room = c.room; capped = c.capped })
    step_clock p q last skipped (Restarted n b named listed) c s =
        let one = λ (m : List (Record E)) (i : Finds q m). subst (λ rs. MayFind q.log rs m) s.whole i in
        let r = c.room q.log s.found in record {
          whole = λ u. s.whole;
          now = sym s.shown;
          below = λ m i. subst (λ x. q.now ≤ ceiling x) (sym (one m i)) (le_of_eq s.clock);
          room = λ m i. let e = s.clock in let k = s.shown in subst (λ x. ceiling x ≤ 1000 + max n 0) (sym (one m i)) (omega arith);
          capped = λ m i. subst (λ x. ceiling x ≤ end_of_time) (sym (one m i)) (c.capped q.log s.found);
        }
    step_clock p q last skipped (Refused asked why) c s = subst (λ x. Clock x last skipped) (sym s.1) c
    step_clock p q last skipped (Opened who) c s = subst (λ x. Clock x last skipped) (sym s) c
    step_clock p q last skipped (Ticked r n) c s = done_step p q last skipped (Ticked r n) c s
    step_clock p q last skipped (Began who dep t v) c s = done_step p q last skipped (Began who dep t v) c s
    step_clock p q last skipped (Updated t v o own op read u stamp) c s = done_step p q last skipped (Updated t v o own op read u stamp) c s
    step_clock p q last skipped (Read t v o own read value) c s = done_step p q last skipped (Read t v o own read value) c s
    step_clock p q last skipped (Prepared t v l w n) c s = done_step p q last skipped (Prepared t v l w n) c s
    step_clock p q last skipped (Decided t v) c s = done_step p q last skipped (Decided t v) c s
    step_clock p q last skipped (Finished t v) c s = done_step p q last skipped (Finished t v) c s
    step_clock p q last skipped (Aborted t own) c s = done_step p q last skipped (Aborted t own) c s
    step_clock p q last skipped (Sent asked m) c s = done_step p q last skipped (Sent asked m) c s
    step_clock p q last skipped (Took number m) c s = done_step p q last skipped (Took number m) c s
    step_clock p q last skipped (Reported b) c s = done_step p q last skipped (Reported b) c s
    step_clock p q last skipped (Heard number k b stable) c s = done_step p q last skipped (Heard number k b stable) c s

    done_rises : (p q : PartState E) (last skipped : ℕ) (a : Event E) → Clock p last skipped → (p.up ≡ true) × MayDo kinds sites count id p a × (q ≡ done p a) → p.now ≤ q.now
    done_rises p q last skipped a c s = subst (λ x. p.now ≤ x.now) (sym s.2) (turns p last skipped a c s.1).rises

    -- a clock never falls
    rises_at : (p q : PartState E) (last skipped : ℕ) (a : Event E) → Clock p last skipped → PartStep kinds sites count id p a q → p.now ≤ q.now
    rises_at p q last skipped (Cut a) c s = le_of_eq (sym (ap (λ x. x.now) s.2))
    rises_at p q last skipped Crashed c s = le_of_eq (sym (ap (λ x. x.now) s))
    rises_at p q last skipped RestartCut c s = le_of_eq (sym (ap (λ x. x.now) s))
    rises_at p q last skipped (Restarted n b named listed) c s = subst (λ x. p.now ≤ x) (sym s.clock) (c.below q.log s.found)
    rises_at p q last skipped (Refused asked why) c s = le_of_eq (sym (ap (λ x. x.now) s.1))
    rises_at p q last skipped (Opened who) c s = le_of_eq (sym (ap (λ x. x.now) s))
    rises_at p q last skipped (Ticked r n) c s = done_rises p q last skipped (Ticked r n) c s
    rises_at p q last skipped (Began who dep t v) c s = done_rises p q last skipped (Began who dep t v) c s
    rises_at p q last skipped (Updated t v o own op read u stamp) c s = done_rises p q last skipped (Updated t v o own op read u stamp) c s
    rises_at p q last skipped (Read t v o own read value) c s = done_rises p q last skipped (Read t v o own read value) c s
    rises_at p q last skipped (Prepared t v l w n) c s = done_rises p q last skipped (Prepared t v l w n) c s
    rises_at p q last skipped (Decided t v) c s = done_rises p q last skipped (Decided t v) c s
    rises_at p q last skipped (Finished t v) c s = done_rises p q last skipped (Finished t v) c s
    rises_at p q last skipped (Aborted t own) c s = done_rises p q last skipped (Aborted t own) c s
    rises_at p q last skipped (Sent asked m) c s = done_rises p q last skipped (Sent asked m) c s
    rises_at p q last skipped (Took number m) c s = done_rises p q last skipped (Took number m) c s
    rises_at p q last skipped (Reported b) c s = done_rises p q last skipped (Reported b) c s
    rises_at p q last skipped (Heard number k b stable) c s = done_rises p q last skipped (Heard number k b stable) c s

    -- the clock law of one event
    pub clock_event : (run : List (Entry E)) (at : PartId) (p q : PartState E) (a : Event E) → Clock p (shown run at) (missed run at) → PartStep kinds sites count id p a q → ClockIs run at a
    clock_event run at p q (Ticked r n) c s = s.1.0 ∙ ap (max r) c.now
    clock_event run at p q (Began who dep t v) c s = ap (λ x. x.time) s.1.named ∙ ap (λ x. x + 1) c.now
    clock_event run at p q (Prepared t v l w n) c s = s.1.1 ∙ ap (λ x. x + 1) c.now
    clock_event run at p q (Restarted n b named listed) c s =
        let l = c.below q.log s.found in let r = c.room q.log s.found in let e = c.now in let k = s.clock in let j = s.shown in (omega arith, omega arith)
    clock_event run at p q (Cut (Ticked r n)) c s = s.1.0 ∙ ap (max r) c.now
    clock_event run at p q (Cut (Began who dep t v)) c s = ap (λ x. x.time) s.1.named ∙ ap (λ x. x + 1) c.now
    clock_event run at p q (Cut (Prepared t v l w n)) c s = s.1.1 ∙ ap (λ x. x + 1) c.now
    clock_event run at p q a c s = tt

  module _ {S : Type 0} (kinds : Kinds S E) (sites count : ℕ) (run : List (Entry E)) (before after : PartId → PartState E) (at : PartId) (event : Event E) (s : PartStep kinds sites count at (before at) event (after at)) (others : (q : PartId) → q ≢ at → after q ≡ before q) (l : Leases run before) where
    abbrev next : List (Entry E)
    next = (record { at = at; event = event }) ∷ run

    pub leases_step : Leases next after
    leases_step = record {
      clock = λ q. ⊎_elim
          (λ (e : q ≡ at). subst (λ x. Clock (after x) (shown next x) (missed next x)) (sym e)
          (subst₂ (λ x y. Clock (after at) x y) (sym (cond-true (same_part at at) _ _ (same_part_refl at))) (sym (cond-true (same_part at at) _ _ (same_part_refl at))) (step_clock kinds sites count at (before at) (after at) (shown run at) (missed run at) event (l.clock at) s)))
          (λ (ne : q ≡ at → ⊥).
          let no : same_part at q ≡ false = part_other at q (λ e. ne (sym e)) in
          subst (λ x. Clock x (shown next q) (missed next q)) (sym (others q ne))
          (subst₂ (λ x y. Clock (before q) x y) (sym (cond-false (same_part at q) _ _ no)) (sym (cond-false (same_part at q) _ _ no)) (l.clock q)))
          (part_cases q at);
    }

    pub rises : (q : PartId) → (before q).now ≤ (after q).now
    rises q = ⊎_elim
        (λ (e : q ≡ at). subst (λ x. (before x).now ≤ (after x).now) (sym e) (rises_at kinds sites count at (before at) (after at) (shown run at) (missed run at) event (l.clock at) s))
        (λ (ne : q ≡ at → ⊥). le_of_eq (sym (ap (λ p. p.now) (others q ne))))
        (part_cases q at)

    pub one_image : (p : PartId) (m : List (Record E)) → (before p).up ≡ true → Finds (before p) m → m ≡ (before p).log
    one_image p m u i = subst (λ rs. MayFind (before p).log rs m) ((l.clock p).whole u) i
