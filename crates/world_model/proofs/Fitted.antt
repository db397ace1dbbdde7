-- Every record of a run's logs fits its partition, so no restart finds damage.
use Rattle.std.proofs.Common.{◌≡◌, ◌≢◌, ⊎_elim, ℕ, zero, suc, ◌+◌, ◌-◌, ◌<◌, ◌≤◌, max, min, leb, ltb, cond, Bool, true, false, not, ◌&&◌, ◌||◌, List, [], ◌∷◌, ◌++◌, length, None, Some, refl, sym, ap, ◌∙◌, subst, subst₂, arith, le_trans, le_refl}
use Rattle.std.specs.Prelude.{⊤, ◌==◌, slice_index, slice_set, replicate, filter}
use Rattle.std.specs.List.{list_all}
use Rattle.std.proofs.lemmas.Slice.Eq.{bytes_eq-Decides}
use Rattle.std.proofs.lemmas.Bool.{cases_Bool, cases_eq, or_left, or_right, or_cases, and_from, and_parts, cond-true, cond-false, cond_both, eqb-true, eq-eqb, leb-true, leb-false, le-leb, ltb-true, lt-ltb, not-true, false_from_ne_true}
use Rattle.site_vector.specs.declared.ids.PartId.{PartId}
use Rattle.site_vector.specs.declared.ids.TxId.{TxId}
use Rattle.site_vector.specs.Ids.{same_tx}
use Rattle.site_vector.specs.Order.{same_tx_is, same_tx_refl}
use Rattle.site_vector.specs.Vector.{entry, join, replaced}
use Rattle.site_vector.specs.VectorLaws.{length_replaced}
use Rattle.crdt_core.specs.declared.record.Upd.{Upd}
use Rattle.crdt_core.specs.declared.record.Part.{Part}
use Rattle.crdt_core.specs.declared.record.Message.{Message}
use Rattle.crdt_core.specs.declared.record.Record.{Record}
use Rattle.crdt_core.specs.declared.record.Record.TheVariants.{Lease, Prepare, Decide, Finish, Abort, Batch}
use Rattle.crdt_core.specs.Log.{end_of_time, ceiling, prepared, prepare_time, pending, taken, taken_at, logged_bound, grown, MayFind}
use Rattle.crdt_core.specs.Parts.{lists, vector_in}
use Rattle.crdt_core.specs.Fitting.{is_vector, are_placed_at, fits_commit, fits_part, are_apart, fits_message, fits_record, unfit_next, unfit_under, unfit}
use Rattle.crdt_core.specs.Log.{is_named_in, prepared_lead, prepared_snapshot}
use Rattle.world_model.specs.rules.Event.{Ballot, Event, Ticked, Began, Updated, Read, Prepared, Decided, Finished, Aborted, Sent, Took, Reported, Heard, Crashed, RestartCut, Restarted, Refused, Opened, Cut, Entry, attempt, is_prepare, time_shown, voted, is_decided, time_of, sent_count}
use Rattle.world_model.proofs.Runs.{sent, IsRun}
use Rattle.crdt_core.specs.KindsOf.{Kinds}
use Rattle.world_model.specs.rules.Partition.{PartState, Finds, batch_of, records, done, MayDo, PartStep}
use Rattle.world_model.specs.lines.Places.{IsOther, first_of, twin, IsPlace, partitions}
use Rattle.crdt_core.specs.Orders.{Ascends, stream_cmp}
use Rattle.crdt_core.specs.Parts.{AreParts, above}
use Rattle.crdt_core.specs.Log.{lease_for}
use Rattle.world_model.specs.rules.Plan.{Plan, takes_part, commit_vector, IsAllowed, MayPrepare, MayDecide, MayFinish, MayTake}
use Rattle.world_model.specs.events.Reads.{IsExact}
use Rattle.world_model.proofs.Names.{clash, off, part_cases, entry_same, entry_cases, join_below}
use Rattle.world_model.proofs.Parts.{lists_above, above_parts}
use Rattle.world_model.proofs.Moves.{image_log, grown_image, grown_last}
use Rattle.world_model.proofs.Leases.{Leases, done_ceil}
use Rattle.world_model.proofs.Fate.{pending_parts, voted_tried}
use Rattle.world_model.proofs.Later.{at_own, full_now, vote_in_time}
use Rattle.world_model.proofs.Intervals.{numbered_shown, shown_has}
use Rattle.world_model.proofs.Completeness.{IsBacked, zeros_at}
use Rattle.world_model.proofs.Upheld.{Upheld, law_plan}
use Rattle.world_model.proofs.Shows.{Shown, shown_run}
use Rattle.world_model.proofs.Resuming.{batch_bound, leased_bound, if_bound}
use Rattle.world_model.specs.events.Restarts.{is_some_part}
use Rattle.world_model.proofs.LineCounts.{stream_apart}

-- no entry is past the end of time
abbrev pub IsLow : List ℕ → Type 0
IsLow v = (i : ℕ) → slice_index v i ≤ end_of_time

low_all : (v : List ℕ) → IsLow v → list_all (λ n. leb n end_of_time) v ≡ true
low_all [] l = refl
low_all (n ∷ v) l = and_from _ _ (le-leb n end_of_time (l zero)) (low_all v (λ i. l (suc i)))

pub low_zero : (n : ℕ) → IsLow (replicate n 0)
low_zero n i = let e = zeros_at n i in omega arith

pub low_join : (u v : List ℕ) → IsLow u → IsLow v → IsLow (join u v)
low_join u v a b i = ⊎_elim (λ (h : slice_index (join u v) i ≤ slice_index u i). le_trans h (a i)) (λ (h : slice_index (join u v) i ≤ slice_index v i). le_trans h (b i)) (join_below u v i)

pub low_set : (v : List ℕ) (k n : ℕ) → IsLow v → n ≤ end_of_time → IsLow (slice_set v k n)
low_set [] k n l h i = l i
low_set (m ∷ v) zero n l h zero = h
low_set (m ∷ v) zero n l h (suc i) = l (suc i)
low_set (m ∷ v) (suc k) n l h zero = l zero
low_set (m ∷ v) (suc k) n l h (suc i) = low_set v k n (λ j. l (suc j)) h i

is_vector_from : (sites : ℕ) (v : List ℕ) → length v ≡ sites → IsLow v → is_vector sites v ≡ true
is_vector_from sites v w l = and_from _ _ (eq-eqb (length v) sites w) (low_all v l)

-- what a run's plan says of all that takes part
pub record PlanFits {E : Type 0} (plan : Plan E) : Type 0 where
  pub width : (t : TxId) (q : PartId) → takes_part plan t q ≡ true → length (plan.snapshot t) ≡ plan.sites
  pub low : (t : TxId) → IsLow (plan.snapshot t)
  pub part : (t : TxId) (q : PartId) → takes_part plan t q ≡ true → (1 ≤ t.part) × (t.part ≤ plan.parts)
  pub stand : (t : TxId) (q : PartId) → are_placed_at plan.parts q.part (plan.updates t q) ≡ true
  pub lead : (t : TxId) (q : PartId) → takes_part plan t q ≡ true → 1 ≤ q.part → q.part ≤ plan.parts → (1 ≤ (plan.lead t).part) × ((plan.lead t).part ≤ q.part)

module _ {E : Type 0} (plan : Plan E) (id : PartId) where
  -- a lease isn't below the one before it, and a Prepare has the lead and the snapshot that its transaction has
  abbrev pub IsOwn : List (Record E) → Record E → Type 0
  IsOwn log (Lease n) = ceiling log ≤ n
  IsOwn log (Prepare t l n s w) = (l ≡ (plan.lead t).part) × (s ≡ plan.snapshot t)
  IsOwn log other = ⊤

  -- each record fits under the ceiling that the log had before it
  abbrev pub AreGood : List (Record E) → Type 0
  AreGood [] = ⊤
  AreGood (r ∷ log) = (fits_record plan.sites plan.parts id (ceiling log) log r ≡ true) × IsOwn log r × AreGood log

  abbrev GoodAfter : List (Record E) → List (Record E) → Type 0
  GoodAfter log [] = ⊤
  GoodAfter log (r ∷ rs) = (fits_record plan.sites plan.parts id (ceiling log) log r ≡ true) × IsOwn log r × GoodAfter (r ∷ log) rs

  image_good : (log rs m : List (Record E)) → AreGood log → GoodAfter log rs → MayFind log rs m → AreGood m
  image_good log [] m g a i = subst AreGood (sym i) g
  image_good log (r ∷ rs) m g a i = ⊎_elim (λ (e : m ≡ log). subst AreGood (sym e) g) (λ (x : MayFind (r ∷ log) rs m). image_good (r ∷ log) rs m (a.0, a.1, g) a.2 x) i

  -- what fits under a ceiling fits under a greater one
  fits_more : (top : ℕ) (log : List (Record E)) (r : Record E) → ceiling log ≤ top → fits_record plan.sites plan.parts id (ceiling log) log r ≡ true → fits_record plan.sites plan.parts id top log r ≡ true
  fits_more top log (Prepare t l n s w) h x =
      let a = and_parts (t.site == id.site) _ x in
      let b = and_parts (leb 1 t.part) _ a.1 in
      let c = and_parts (leb t.part plan.parts) _ b.1 in
      let d = and_parts (not (is_named_in log t)) _ c.1 in
      let e = and_parts (leb 1 l) _ d.1 in
      let f = and_parts (leb l id.part) _ e.1 in
      let g = and_parts (is_vector plan.sites s) _ f.1 in
      let i = and_parts (are_placed_at plan.parts id.part w) _ g.1 in
      let j = and_parts (ltb (entry s id.site) n) (leb n (ceiling log)) i.1 in
      let last : leb n top ≡ true = le-leb n top (le_trans (leb-true n (ceiling log) j.1) h) in
      and_from _ _ a.0 (and_from _ _ b.0 (and_from _ _ c.0 (and_from _ _ d.0 (and_from _ _ e.0 (and_from _ _ f.0 (and_from _ _ g.0 (and_from _ _ i.0 (and_from _ _ j.0 last))))))))
  fits_more top log (Lease n) h f = f
  fits_more top log (Decide t c) h f = f
  fits_more top log (Finish t c) h f = f
  fits_more top log (Abort t) h f = f
  fits_more top log (Batch m) h f = f

  older : (top : ℕ) (log : List (Record E)) (r : Record E) → IsOwn log r → ceiling (r ∷ log) ≤ top → ceiling log ≤ top
  older top log (Lease n) own h = le_trans own h
  older top log (Prepare t l n s w) own h = h
  older top log (Decide t c) own h = h
  older top log (Finish t c) own h = h
  older top log (Abort t) own h = h
  older top log (Batch m) own h = h

  -- leases rise, so each record fits under the last one
  good_under : (top : ℕ) (log : List (Record E)) → AreGood log → ceiling log ≤ top → unfit_under plan.sites plan.parts id top log ≡ None
  good_under top [] g h = refl
  good_under top (r ∷ log) g h =
      let under = older top log r g.1 h in
      ap (λ o. unfit_next o (fits_record plan.sites plan.parts id top log r) (length log)) (good_under top log g.2 under) ∙ cond-true _ None (Some (length log)) (fits_more top log r under g.0)

  pub good_unfit : (log : List (Record E)) → AreGood log → unfit plan.sites plan.parts id log ≡ None
  good_unfit log g = good_under (ceiling log) log g (le_refl (ceiling log))

  pub lead_good : (log : List (Record E)) (t : TxId) → AreGood log → prepared log t ≡ true → (prepared_lead log t ≡ (plan.lead t).part) × (prepared_snapshot log t ≡ plan.snapshot t)
  lead_good [] t g h = off h
  lead_good (Prepare u l n s w ∷ log) t g h = ⊎_elim
      (λ (e : same_tx u t ≡ true). let same = same_tx_is u t e in (cond-true _ l (prepared_lead log t) e ∙ g.1.0 ∙ ap (λ y. (plan.lead y).part) same, cond-true _ s (prepared_snapshot log t) e ∙ g.1.1 ∙ ap plan.snapshot same))
      (λ (e : same_tx u t ≡ false). let r = lead_good log t g.2 (⊎_elim (λ (k : same_tx u t ≡ true). clash k e) (λ (k : prepared log t ≡ true). k) (or_cases _ _ h)) in (cond-false _ l (prepared_lead log t) e ∙ r.0, cond-false _ s (prepared_snapshot log t) e ∙ r.1))
      (cases_Bool (same_tx u t))
  lead_good (Lease n ∷ log) t g h = lead_good log t g.2 h
  lead_good (Decide u c ∷ log) t g h = lead_good log t g.2 h
  lead_good (Finish u c ∷ log) t g h = lead_good log t g.2 h
  lead_good (Abort u ∷ log) t g h = lead_good log t g.2 h
  lead_good (Batch m ∷ log) t g h = lead_good log t g.2 h

  -- what is prepared is of the site
  pub prepared_home : (log : List (Record E)) (t : TxId) → AreGood log → prepared log t ≡ true → t.site ≡ id.site
  prepared_home [] t g h = off h
  prepared_home (Prepare u l n s w ∷ log) t g h = ⊎_elim
      (λ (e : same_tx u t ≡ true). subst (λ y. y.site ≡ id.site) (same_tx_is u t e) (eqb-true u.site id.site (and_parts (u.site == id.site) _ g.0).0))
      (λ (e : prepared log t ≡ true). prepared_home log t g.2 e)
      (or_cases _ _ h)
  prepared_home (Lease n ∷ log) t g h = prepared_home log t g.2 h
  prepared_home (Decide u c ∷ log) t g h = prepared_home log t g.2 h
  prepared_home (Finish u c ∷ log) t g h = prepared_home log t g.2 h
  prepared_home (Abort u ∷ log) t g h = prepared_home log t g.2 h
  prepared_home (Batch m ∷ log) t g h = prepared_home log t g.2 h

  -- a part of t in a message that fits
  part_fits : (m : Message E) (xs : List (Part E)) (t : TxId) → list_all (fits_part plan.sites plan.parts m) xs ≡ true → lists xs t ≡ true → (t.site ≡ m.from) × (entry (vector_in xs t) m.from ≤ m.hi)
  part_fits m [] t a h = off h
  part_fits m (x ∷ xs) t a h =
      let fs = and_parts (fits_part plan.sites plan.parts m x) _ a in ⊎_elim
      (λ (e : same_tx x.tx t ≡ true).
      let p0 = and_parts (x.tx.site == m.from) _ fs.0 in
      let p1 = and_parts (is_vector plan.sites x.c) _ p0.1 in
      let p2 = and_parts (are_placed_at plan.parts m.part x.updates) _ p1.1 in
      let p3 = and_parts (ltb m.lo (entry x.c m.from)) _ p2.1 in
      (subst (λ y. y.site ≡ m.from) (same_tx_is x.tx t e) (eqb-true x.tx.site m.from p0.0), subst (λ v. entry v m.from ≤ m.hi) (sym (cond-true _ x.c (vector_in xs t) e)) (leb-true (entry x.c m.from) m.hi p3.1)))
      (λ (e : same_tx x.tx t ≡ false).
      let r = part_fits m xs t fs.1 (⊎_elim (λ (k : same_tx x.tx t ≡ true). clash k e) (λ (k : lists xs t ≡ true). k) (or_cases _ _ h)) in
      (r.0, subst (λ v. entry v m.from ≤ m.hi) (sym (cond-false _ x.c (vector_in xs t) e)) r.1))
      (cases_Bool (same_tx x.tx t))

  -- what a message that fits says of itself
  record IsMessageOf (m : Message E) : Type 0 where
    pub apart : m.from ≡ id.site → ⊥
    pub parts : list_all (fits_part plan.sites plan.parts m) m.parts ≡ true

  batch_fits : (log : List (Record E)) (m : Message E) → fits_record plan.sites plan.parts id (ceiling log) log (Batch m) ≡ true → IsMessageOf m
  batch_fits log m h =
      let a = and_parts (fits_message plan.sites plan.parts id m) _ h in
      let b0 = and_parts (not (m.from == id.site)) _ a.0 in
      let b1 = and_parts (leb 1 m.from) _ b0.1 in
      let b2 = and_parts (leb m.from plan.sites) _ b1.1 in
      let b3 = and_parts (m.to == id.site) _ b2.1 in
      let b4 = and_parts (m.part == id.part) _ b3.1 in
      let b5 = and_parts (leb m.lo end_of_time) _ b4.1 in
      let b6 = and_parts (leb m.hi end_of_time) _ b5.1 in
      let b7 = and_parts (list_all (fits_part plan.sites plan.parts m) m.parts) _ b6.1 in
      record { apart = λ e. clash (eq-eqb m.from id.site e) (not-true (m.from == id.site) b0.0); parts = b7.0 }

  pending_home : (log : List (Record E)) (u t : TxId) → same_tx u t ≡ true → pending log u ≡ true → prepared log t ≡ true
  pending_home log u t e p = subst (λ y. prepared log y ≡ true) (same_tx_is u t e) (pending_parts log u p).prepared

  -- what is named is prepared, where it is of the site
  pub named_good : (log : List (Record E)) (t : TxId) → AreGood log → is_named_in log t ≡ true → t.site ≡ id.site → prepared log t ≡ true
  named_good [] t g h s = off h
  named_good (Lease n ∷ log) t g h s = named_good log t g.2 h s
  named_good (Prepare u l n c w ∷ log) t g h s = ⊎_elim (λ (e : same_tx u t ≡ true). or_left _ _ e) (λ (e : is_named_in log t ≡ true). or_right _ _ (named_good log t g.2 e s)) (or_cases _ _ h)
  named_good (Decide u c ∷ log) t g h s = ⊎_elim (λ (e : same_tx u t ≡ true). pending_home log u t e (and_parts (pending log u) _ g.0).0) (λ (e : is_named_in log t ≡ true). named_good log t g.2 e s) (or_cases _ _ h)
  named_good (Finish u c ∷ log) t g h s = ⊎_elim (λ (e : same_tx u t ≡ true). pending_home log u t e (and_parts (pending log u) _ g.0).0) (λ (e : is_named_in log t ≡ true). named_good log t g.2 e s) (or_cases _ _ h)
  named_good (Abort u ∷ log) t g h s = ⊎_elim (λ (e : same_tx u t ≡ true). pending_home log u t e g.0) (λ (e : is_named_in log t ≡ true). named_good log t g.2 e s) (or_cases _ _ h)
  named_good (Batch m ∷ log) t g h s = ⊎_elim
      (λ (e : lists m.parts t ≡ true). let f = batch_fits log m g.0 in absurd (f.apart (sym (part_fits m m.parts t f.parts e).0 ∙ s)))
      (λ (e : is_named_in log t ≡ true). named_good log t g.2 e s)
      (or_cases _ _ h)

  -- what is named was taken up to the bound, where it is of another site
  record IsTaken (log : List (Record E)) (t : TxId) : Type 0 where
    pub here : taken log t ≡ true
    pub upto : entry (taken_at log t) t.site ≤ logged_bound log t.site

  taken_good : (log : List (Record E)) (t : TxId) → AreGood log → is_named_in log t ≡ true → (t.site ≡ id.site → ⊥) → IsTaken log t
  taken_good [] t g h s = off h
  taken_good (Lease n ∷ log) t g h s = let r = taken_good log t g.2 h s in record { here = r.here; upto = r.upto }
  taken_good (Prepare u l n c w ∷ log) t g h s = ⊎_elim
      (λ (e : same_tx u t ≡ true). absurd (s (prepared_home (Prepare u l n c w ∷ log) t g (or_left _ _ e))))
      (λ (e : is_named_in log t ≡ true). let r = taken_good log t g.2 e s in record { here = r.here; upto = r.upto })
      (or_cases _ _ h)
  taken_good (Decide u c ∷ log) t g h s = ⊎_elim
      (λ (e : same_tx u t ≡ true). absurd (s (prepared_home log t g.2 (pending_home log u t e (and_parts (pending log u) _ g.0).0))))
      (λ (e : is_named_in log t ≡ true). let r = taken_good log t g.2 e s in record { here = r.here; upto = r.upto })
      (or_cases _ _ h)
  taken_good (Finish u c ∷ log) t g h s = ⊎_elim
      (λ (e : same_tx u t ≡ true). absurd (s (prepared_home log t g.2 (pending_home log u t e (and_parts (pending log u) _ g.0).0))))
      (λ (e : is_named_in log t ≡ true). let r = taken_good log t g.2 e s in record { here = r.here; upto = r.upto })
      (or_cases _ _ h)
  taken_good (Abort u ∷ log) t g h s = ⊎_elim
      (λ (e : same_tx u t ≡ true). absurd (s (prepared_home log t g.2 (pending_home log u t e g.0))))
      (λ (e : is_named_in log t ≡ true). let r = taken_good log t g.2 e s in record { here = r.here; upto = r.upto })
      (or_cases _ _ h)
  taken_good (Batch m ∷ log) t g h s = ⊎_elim
      (λ (e : lists m.parts t ≡ true).
      let f = batch_fits log m g.0 in
      let x = part_fits m m.parts t f.parts e in
      let same : (m.from == t.site) ≡ true = eq-eqb m.from t.site (sym x.0) in
      let b : logged_bound (Batch m ∷ log) t.site ≡ max m.hi (logged_bound log t.site) = cond-true _ (max m.hi (logged_bound log t.site)) (logged_bound log t.site) same in
      let v : entry (taken_at (Batch m ∷ log) t) t.site ≤ m.hi = subst (λ j. entry (taken_at (Batch m ∷ log) t) j ≤ m.hi) (sym x.0) (subst (λ c. entry c m.from ≤ m.hi) (sym (cond-true _ (vector_in m.parts t) (taken_at log t) e)) x.1) in
      record { here = or_left _ _ e; upto = omega arith })
      (λ (e : lists m.parts t ≡ false).
      let r = taken_good log t g.2 (⊎_elim (λ (k : lists m.parts t ≡ true). clash k e) (λ (k : is_named_in log t ≡ true). k) (or_cases _ _ h)) s in
      let u = r.upto in
      let v : entry (taken_at (Batch m ∷ log) t) t.site ≡ entry (taken_at log t) t.site = ap (λ c. entry c t.site) (cond-false _ (vector_in m.parts t) (taken_at log t) e) in
      let b : logged_bound log t.site ≤ logged_bound (Batch m ∷ log) t.site = more (m.from == t.site) m.hi (logged_bound log t.site) in
      record { here = or_right _ _ r.here; upto = omega arith })
      (cases_Bool (lists m.parts t))
    where
      more : (b : Bool) (x y : ℕ) → y ≤ cond b (max x y) y
      more true x y = omega arith
      more false x y = le_refl y

-- the first place that passes has the least number
pub least_first : (site first n : ℕ) (d p : PartId) (test : PartId → Bool) → p.site ≡ site → first ≤ p.part → p.part < first + n → test p ≡ true → (first ≤ (first_of d (filter test (partitions site first n))).part) × ((first_of d (filter test (partitions site first n))).part ≤ p.part)
least_first site first zero d p test s a b h = absurd (omega arith)
least_first site first (suc n) d p test s a b h =
    let q : PartId = record { site = site; part = first } in ⊎_elim
    (λ (k : test q ≡ true). subst (λ l. (first ≤ (first_of d l).part) × ((first_of d l).part ≤ p.part)) (sym (cond-true _ (q ∷ filter test (partitions site (first + 1) n)) (filter test (partitions site (first + 1) n)) k)) (le_refl first, a))
    (λ (k : test q ≡ false). subst (λ l. (first ≤ (first_of d l).part) × ((first_of d l).part ≤ p.part)) (sym (cond-false _ (q ∷ filter test (partitions site (first + 1) n)) (filter test (partitions site (first + 1) n)) k))
    (⊎_elim
    (λ (e : p.part ≡ first). clash h (subst (λ y. test y ≡ false) (λ i. record { site = sym s i; part = sym e i }) k))
    (λ (ne : p.part ≡ first → ⊥).
    let apart : p.part ≢ first = ne in
    let r = least_first site (first + 1) n d p test s (omega arith) (omega arith) h in
    let low = r.0 in (omega arith, r.1))
    (cases_eq p.part first)))
    (cases_Bool (test q))

above_less : {E : Type 0} (site b : ℕ) (xs : List (Part E)) (t : TxId) → lists (above site b xs) t ≡ true → lists xs t ≡ true
above_less site b [] t h = h
above_less site b (x ∷ xs) t h = go (ltb b (entry x.c site)) h (λ k. above_less site b xs t k)
  where
    go : (c : Bool) → lists (cond c (x ∷ above site b xs) (above site b xs)) t ≡ true → (lists (above site b xs) t ≡ true → lists xs t ≡ true) → (same_tx x.tx t || lists xs t) ≡ true
    go true h ih = ⊎_elim (λ (e : same_tx x.tx t ≡ true). or_left _ _ e) (λ (e : lists (above site b xs) t ≡ true). or_right _ _ (ih e)) (or_cases _ _ h)
    go false h ih = or_right _ _ (ih h)

apart_above : {E : Type 0} (site b : ℕ) (xs : List (Part E)) → are_apart xs ≡ true → are_apart (above site b xs) ≡ true
apart_above site b [] h = refl
apart_above site b (x ∷ xs) h =
    let hs = and_parts (not (lists xs x.tx)) (are_apart xs) h in
    go (ltb b (entry x.c site)) (apart_above site b xs hs.1) (ap not (false_from_ne_true (lists (above site b xs) x.tx) (λ k. clash (above_less site b xs x.tx k) (not-true (lists xs x.tx) hs.0))))
  where
    go : (c : Bool) → are_apart (above site b xs) ≡ true → not (lists (above site b xs) x.tx) ≡ true → are_apart (cond c (x ∷ above site b xs) (above site b xs)) ≡ true
    go true r n = and_from _ _ n r
    go false r n = r

module _ {E : Type 0} (f : TxId → List ℕ) (g : TxId → List (Upd E)) where
  stream_parts : (site : ℕ) (xs : List (Part E)) → AreParts f g xs → Ascends (stream_cmp site) xs → are_apart xs ≡ true
  stream_parts site [] a o = refl
  stream_parts site (x ∷ xs) a o = and_from _ _ (ap not (stream_apart f g site x xs a.0.0 a.1 o.0)) (stream_parts site xs a.1 o.1)

  all_parts : (test : TxId → List ℕ → List (Upd E) → Bool) (xs : List (Part E)) → AreParts f g xs → ((t : TxId) → lists xs t ≡ true → test t (f t) (g t) ≡ true) → list_all (λ x. test x.tx x.c x.updates) xs ≡ true
  all_parts test [] a h = refl
  all_parts test (x ∷ xs) a h = and_from _ _ ((λ i. test x.tx (a.0.0 i) (a.0.1 i)) ∙ h x.tx (or_left _ _ (same_tx_refl x.tx))) (all_parts test xs a.1 (λ t k. h t (or_right _ _ k)))

-- what a clock shows is in time
pub now_low : {E : Type 0} (run : List (Entry E)) (parts : PartId → PartState E) → Leases run parts → (p : PartId) → (parts p).now ≤ end_of_time
now_low run parts l p = let i = image_log (parts p) in le_trans ((l.clock p).below (parts p).log i) ((l.clock p).capped (parts p).log i)

module _ {E S : Type 0} (kinds : Kinds S E) (plan : Plan E) (pf : PlanFits plan) where
  pub record Good (run : List (Entry E)) (parts : PartId → PartState E) : Type 0 where
    pub logs : (p : PartId) (m : List (Record E)) → Finds (parts p) m → AreGood plan p m
    pub bounds : (p : PartId) → (parts p).up ≡ true → (j : ℕ) → IsOther plan.sites p.site j → logged_bound (parts p).log j ≤ entry (parts p).bounds j
    pub times : (t : TxId) → time_of run t ≤ end_of_time

  module _ (run : List (Entry E)) (before after : PartId → PartState E) (at : PartId) (k : Upheld kinds plan run before) (g : Good run before) (place : IsPlace plan.sites plan.parts at) where
    abbrev log : List (Record E)
    log = (before at).log

    good_log : AreGood plan at log
    good_log = g.logs at log (image_log (before at))

    capped : ceiling log ≤ end_of_time
    capped = (k.leases.clock at).capped log (image_log (before at))

    -- a lease that is due isn't below the one before it
    higher : (n : ℕ) → leb n (ceiling log) ≡ false → ceiling log ≤ min (n + 1000) end_of_time
    higher n e = let a = leb-false n (ceiling log) e in let b = capped in omega (arith, a, b)

    lease_good : (n : ℕ) → GoodAfter plan at log (lease_for log n)
    lease_good n = cond_both (leb n (ceiling log)) [] (Lease (min (n + 1000) end_of_time) ∷ []) (λ rs. GoodAfter plan at log rs) (λ e. tt) (λ e. (le-leb (min (n + 1000) end_of_time) end_of_time (omega arith), higher n e, tt))

    unnamed : (t : TxId) (s : List ℕ) (l : Ballot) (w : List (Upd E)) → MayPrepare plan run at t s l w → is_named_in log t ≡ false
    unnamed t s l w al = false_from_ne_true _ (λ h. clash (k.fate.was_tried at log t (image_log (before at)) (named_good plan at log t good_log h (sym (plan.at_home t at al.takes)))) al.fresh)

    prepare_fits : (old : List (Record E)) (t : TxId) (s : List ℕ) (l : Ballot) (n : ℕ) (w : List (Upd E)) → MayPrepare plan run at t s l w → is_named_in old t ≡ false → entry s at.site < n → n ≤ ceiling old → fits_record plan.sites plan.parts at (ceiling old) old (Prepare t l.lead n s w) ≡ true
    prepare_fits old t s l n w al new low top =
        let part = pf.part t at al.takes in
        let lead = pf.lead t at al.takes place.least_part place.most_part in
        and_from _ _ (eq-eqb t.site at.site (sym (plan.at_home t at al.takes)))
        (and_from _ _ (le-leb 1 t.part part.0)
        (and_from _ _ (le-leb t.part plan.parts part.1)
        (and_from _ _ (ap not new)
        (and_from _ _ (ap (leb 1) al.lead ∙ le-leb 1 (plan.lead t).part lead.0)
        (and_from _ _ (ap (λ x. leb x at.part) al.lead ∙ le-leb (plan.lead t).part at.part lead.1)
        (and_from _ _ (ap (is_vector plan.sites) al.snapshot ∙ is_vector_from plan.sites (plan.snapshot t) (pf.width t at al.takes) (pf.low t))
        (and_from _ _ (ap (are_placed_at plan.parts at.part) al.changes ∙ pf.stand t at)
        (and_from _ _ (lt-ltb (entry s at.site) n low) (le-leb n (ceiling old) top)))))))))

    prepare_good : (t : TxId) (s : List ℕ) (l : Ballot) (n : ℕ) (w : List (Upd E)) → MayPrepare plan run at t s l w → MayDo kinds plan.sites plan.parts at (before at) (Prepared t s l w n) → GoodAfter plan at log (lease_for log n ++ Prepare t l.lead n s w ∷ [])
    prepare_good t s l n w al m =
        let new = unnamed t s l w al in
        let clock = m.0 in
        let drawn = m.1 in
        let early = m.2 in
        let low : entry s at.site < n = omega arith in
        let intime : n ≤ end_of_time = omega arith in
        let top = done_ceil log n intime in
        go (leb n (ceiling log)) refl new low top
      where
        go : (b : Bool) → leb n (ceiling log) ≡ b → is_named_in log t ≡ false → entry s at.site < n → n ≤ ceiling (grown log (lease_for log n)) → GoodAfter plan at log (cond b [] (Lease (min (n + 1000) end_of_time) ∷ []) ++ Prepare t l.lead n s w ∷ [])
        go true e new low top = (prepare_fits log t s l n w al new low (leb-true n (ceiling log) e), (al.lead, al.snapshot), tt)
        go false e new low top = (
          le-leb (min (n + 1000) end_of_time) end_of_time (omega arith),
          higher n e,
          (prepare_fits (Lease (min (n + 1000) end_of_time) ∷ log) t s l n w al new low (subst (λ rs. n ≤ ceiling (grown log rs)) (cond-false _ [] (Lease (min (n + 1000) end_of_time) ∷ []) e) top), (al.lead, al.snapshot), tt),
        )

    commit_fits : (t : TxId) (c : List ℕ) → pending log t ≡ true → voted run t at ≡ true → c ≡ commit_vector plan run t → fits_commit plan.sites at log t c ≡ true
    commit_fits t c p v e =
        let i = image_log (before at) in
        let takes = k.fate.part at t (voted_tried run t at v) in
        let home = plan.at_home t at takes in
        let known = lead_good plan at log t good_log (pending_parts log t p).prepared in
        let own : entry c at.site ≡ time_of run t = (λ j. entry (e j) (home j)) ∙ at_own plan t at (time_of run t) takes in
        let wide : length c ≡ plan.sites = ap length e ∙ length_replaced (plan.snapshot t) t.site (time_of run t) ∙ pf.width t at takes in
        let low : IsLow c = subst IsLow (sym e) (low_set (plan.snapshot t) (t.site - 1) (time_of run t) (pf.low t) (g.times t)) in
        let same : c ≡ replaced (prepared_snapshot log t) at.site (entry c at.site) = e ∙ sym (λ j. replaced (known.1 j) (home j) (own j)) in
        let held = k.fate.held at log t i v in
        let time : prepare_time log t ≤ entry c at.site = subst₂ (λ x y. x ≤ y) (sym held.1) (sym own) (vote_in_time run t at) in
        and_from _ _ (is_vector_from plan.sites c wide low) (and_from _ _ ((bytes_eq-Decides c (replaced (prepared_snapshot log t) at.site (entry c at.site))).1 same) (le-leb _ _ time))

    decide_good : (t : TxId) (c : List ℕ) → MayDecide plan run at t c → GoodAfter plan at log (cond (pending log t) (Decide t c ∷ []) [])
    decide_good t c al = go (pending log t) refl
      where
        go : (b : Bool) → pending log t ≡ b → GoodAfter plan at log (cond b (Decide t c ∷ []) [])
        go false p = tt
        go true p =
            let known = lead_good plan at log t good_log (pending_parts log t p).prepared in
            (and_from _ _ p (and_from _ _ (eq-eqb (prepared_lead log t) at.part (known.0 ∙ ap (λ q. q.part) (sym al.lead))) (commit_fits t c p al.here al.vector)), tt, tt)

    finish_good : (t : TxId) (c : List ℕ) → MayFinish plan run at t c → GoodAfter plan at log (cond (pending log t) (Finish t c ∷ []) [])
    finish_good t c al = go (pending log t) refl
      where
        go : (b : Bool) → pending log t ≡ b → GoodAfter plan at log (cond b (Finish t c ∷ []) [])
        go false p = tt
        go true p =
            let i = image_log (before at) in
            let parts = pending_parts log t p in
            let all = full_now plan run before k.fate t al.decided in
            let takes = k.fate.part at t (k.fate.was_tried at log t i parts.prepared) in
            let known = lead_good plan at log t good_log parts.prepared in
            let away : prepared_lead log t ≡ at.part → ⊥ = λ e.
            let lead_takes = k.fate.part (plan.lead t) t (voted_tried run t (plan.lead t) all.lead) in
            let site : (plan.lead t).site ≡ at.site = plan.at_home t (plan.lead t) lead_takes ∙ sym (plan.at_home t at takes) in
            let same : plan.lead t ≡ at = λ j. record { site = site j; part = (sym known.0 ∙ e) j } in
            clash (k.fate.stays log t (subst (λ q. Finds (before q) log) (sym same) i) al.decided) parts.committed in
            (and_from _ _ p (and_from _ _ (ap not (false_from_ne_true _ (λ e. away (eqb-true (prepared_lead log t) at.part e)))) (commit_fits t c p (all.all at takes) al.vector)), tt, tt)

    -- what a message brings above the bound is named in no record
    pub unheld : (number : ℕ) (m : Message E) → MayTake plan run at number m → (before at).up ≡ true → (t : TxId) → lists (above m.from (entry (before at).bounds m.from) m.parts) t ≡ true → is_named_in log t ≡ false
    unheld number m al up t h = false_from_ne_true _ (λ n.
        let b = entry (before at).bounds m.from in
        let q = twin m.from at in
        let backed : IsExact plan run q m × (m.hi ≤ sent run q) = shown_has (IsBacked plan run before) run q (Sent al.asked m) k.bounds.events (numbered_shown sent_count run number q (Sent al.asked m) al.shown) in
        let x = backed.0 in
        let vec = commit_vector plan run in
        let ups = λ (u : TxId). plan.updates u q in
        let h0 : (lists m.parts t ≡ true) × (ltb b (entry (vec t) m.from) ≡ true) = and_parts (lists m.parts t) _ (sym (lists_above vec ups m.from b m.parts t x.exact) ∙ h) in
        let u : takes_part plan t q ≡ true = (and_parts (takes_part plan t q) _ (and_parts (is_decided run t) _ (sym (x.members t) ∙ h0.0)).1).0 in
        let site = plan.at_home t q u in
        let z = taken_good plan at log t good_log n (λ s. al.from.apart (site ∙ s)) in
        let t0 = k.bounds.from at log t (image_log (before at)) z.here in
        let w : entry (vec t) m.from ≤ logged_bound log m.from = subst₂ (λ c j. entry c j ≤ logged_bound log j) t0.time (sym site) z.upto in
        let v = g.bounds at up m.from al.from in
        let d = ltb-true b (entry (vec t) m.from) h0.1 in
        absurd (omega arith))

    batch_good : (number : ℕ) (m : Message E) → MayTake plan run at number m → MayDo kinds plan.sites plan.parts at (before at) (Took number m) → (before at).up ≡ true → (xs : List (Part E)) → above m.from (entry (before at).bounds m.from) m.parts ≡ xs → GoodAfter plan at log (batch_of m (entry (before at).bounds m.from) xs)
    batch_good number m al may up [] e = tt
    batch_good number m al may up (y ∷ ys) e =
        let b = entry (before at).bounds m.from in
        let low = may.0 in
        let high = may.1 in
        let q = twin m.from at in
        let backed : IsExact plan run q m × (m.hi ≤ sent run q) = shown_has (IsBacked plan run before) run q (Sent al.asked m) k.bounds.events (numbered_shown sent_count run number q (Sent al.asked m) al.shown) in
        let x = backed.0 in
        let vec = commit_vector plan run in
        let ups = λ (u : TxId). plan.updates u q in
        let exact : AreParts vec ups (y ∷ ys) = subst (AreParts vec ups) e (above_parts vec ups m.from b m.parts x.exact) in
        let m' : Message E = record { from = m.from; to = m.to; part = m.part; lo = b; hi = m.hi; parts = y ∷ ys } in
        let sent_low : m.hi ≤ end_of_time = le_trans backed.1 (le_trans (k.intervals.seen q) (now_low run before k.leases q)) in
        let facts : (t : TxId) → lists (y ∷ ys) t ≡ true → (lists m.parts t ≡ true) × (ltb b (entry (vec t) m.from) ≡ true) = λ t h. and_parts (lists m.parts t) _ (sym (lists_above vec ups m.from b m.parts t x.exact) ∙ ap (λ l. lists l t) e ∙ h) in
        let takes : (t : TxId) → lists m.parts t ≡ true → takes_part plan t q ≡ true = λ t h. (and_parts (takes_part plan t q) _ (and_parts (is_decided run t) _ (sym (x.members t) ∙ h)).1).0 in
        let own : (t : TxId) → lists m.parts t ≡ true → entry (vec t) m.from ≡ time_of run t = λ t h. ap (entry (vec t)) (plan.at_home t q (takes t h)) ∙ at_own plan t q (time_of run t) (takes t h) in
        let upto : (t : TxId) → lists m.parts t ≡ true → leb (entry (vec t) m.from) m.hi ≡ true = λ t h. ap (λ n. leb n m.hi) (own t h) ∙ (and_parts (ltb m.lo (time_of run t)) _ (and_parts (takes_part plan t q) _ (and_parts (is_decided run t) _ (sym (x.members t) ∙ h)).1).1).1 in
        let part : (t : TxId) → lists (y ∷ ys) t ≡ true → (t.site == m.from && (is_vector plan.sites (vec t) && (are_placed_at plan.parts at.part (ups t) && (ltb b (entry (vec t) m.from) && leb (entry (vec t) m.from) m.hi)))) ≡ true = λ t h.
        let h0 = facts t h in
        let u = takes t h0.0 in
        and_from _ _ (eq-eqb t.site m.from (sym (plan.at_home t q u)))
        (and_from _ _ (is_vector_from plan.sites (vec t) (length_replaced (plan.snapshot t) t.site (time_of run t) ∙ pf.width t q u) (low_set (plan.snapshot t) (t.site - 1) (time_of run t) (pf.low t) (g.times t)))
        (and_from _ _ (pf.stand t q) (and_from _ _ h0.1 (upto t h0.0)))) in
        let test = λ (t : TxId) (c : List ℕ) (us : List (Upd E)). t.site == m.from && (is_vector plan.sites c && (are_placed_at plan.parts m.part us && (ltb b (entry c m.from) && leb (entry c m.from) m.hi))) in
        let all_fit : list_all (fits_part plan.sites plan.parts m') (y ∷ ys) ≡ true = all_parts vec ups test (y ∷ ys) exact (λ t h. ap (λ n. t.site == m.from && (is_vector plan.sites (vec t) && (are_placed_at plan.parts n (ups t) && (ltb b (entry (vec t) m.from) && leb (entry (vec t) m.from) m.hi)))) al.part ∙ part t h) in
        let apart : are_apart (y ∷ ys) ≡ true = ap are_apart (sym e) ∙ apart_above m.from b m.parts (stream_parts vec ups m.from m.parts x.exact x.order) in
        let fresh : (t : TxId) → lists (y ∷ ys) t ≡ true → is_named_in log t ≡ false = λ t h. unheld number m al up t (ap (λ l. lists l t) e ∙ h) in (
          and_from _ _
              (and_from _ _ (ap not (false_from_ne_true _ (λ s. al.from.apart (eqb-true m.from at.site s))))
              (and_from _ _ (le-leb 1 m.from al.from.least)
              (and_from _ _ (le-leb m.from plan.sites al.from.most)
              (and_from _ _ (eq-eqb m.to at.site al.to)
              (and_from _ _ (eq-eqb m.part at.part al.part)
              (and_from _ _ (le-leb b end_of_time (omega arith))
              (and_from _ _ (le-leb m.hi end_of_time sent_low)
              (and_from _ _ all_fit apart))))))))
              (and_from _ _ (le-leb (logged_bound log m.from) b (g.bounds at up m.from al.from)) (all_parts vec ups (λ t c us. not (is_named_in log t)) (y ∷ ys) exact (λ t h. ap not (fresh t h)))),
          tt,
          tt,
        )

    records_good : (what : Event E) → IsAllowed plan run before at what → MayDo kinds plan.sites plan.parts at (before at) what → (before at).up ≡ true → GoodAfter plan at log (records (before at) what)
    records_good (Ticked r n) al m up = lease_good n
    records_good (Began who dep t s) al m up = lease_good t.time
    records_good (Prepared t s l w n) al m up = prepare_good t s l n w al m
    records_good (Decided t c) al m up = decide_good t c al
    records_good (Finished t c) al m up = finish_good t c al
    records_good (Aborted t own) al m up = (m, tt, tt)
    records_good (Took number x) al m up = batch_good number x al m up (above x.from (entry (before at).bounds x.from) x.parts) refl
    records_good what al m up = tt

    done_good : (what : Event E) → IsAllowed plan run before at what → MayDo kinds plan.sites plan.parts at (before at) what → (before at).up ≡ true → after at ≡ done (before at) what → (m : List (Record E)) → Finds (after at) m → AreGood plan at m
    done_good what al m up e x i =
        let rs = records (before at) what in
        let j : x ≡ grown log rs = subst (λ p. Finds p x) e i in
        image_good plan at log rs x good_log (records_good what al m up) (subst (λ y. MayFind log rs y) (sym j) (grown_image log rs))

    logs_here : (event : Event E) → IsAllowed plan run before at (attempt event) → PartStep kinds plan.sites plan.parts at (before at) event (after at) → (m : List (Record E)) → Finds (after at) m → AreGood plan at m
    logs_here (Cut what) al st m i = image_good plan at log (records (before at) what) m good_log (records_good what al st.1 st.0) (subst (λ p. Finds p m) st.2 i)
    logs_here Crashed al st m i = g.logs at m (subst (λ p. Finds p m) st i)
    logs_here RestartCut al st m i = g.logs at m (subst (λ p. Finds p m) st i)
    logs_here (Restarted n b named listed) al st m i = subst (AreGood plan at) (sym (subst (λ rs. MayFind (after at).log rs m) st.whole i)) (g.logs at (after at).log st.found)
    logs_here (Refused asked why) al st m i = g.logs at m (subst (λ p. Finds p m) st.1 i)
    logs_here (Opened who) al st m i = g.logs at m (subst (λ p. Finds p m) st i)
    logs_here (Ticked r n) al st m i = done_good (Ticked r n) al st.1 st.0 st.2 m i
    logs_here (Began who dep t s) al st m i = done_good (Began who dep t s) al st.1 st.0 st.2 m i
    logs_here (Updated t s o own op read u stamp) al st m i = done_good (Updated t s o own op read u stamp) al st.1 st.0 st.2 m i
    logs_here (Read t s o own read value) al st m i = done_good (Read t s o own read value) al st.1 st.0 st.2 m i
    logs_here (Prepared t s l w n) al st m i = done_good (Prepared t s l w n) al st.1 st.0 st.2 m i
    logs_here (Decided t c) al st m i = done_good (Decided t c) al st.1 st.0 st.2 m i
    logs_here (Finished t c) al st m i = done_good (Finished t c) al st.1 st.0 st.2 m i
    logs_here (Aborted t own) al st m i = done_good (Aborted t own) al st.1 st.0 st.2 m i
    logs_here (Sent asked x) al st m i = done_good (Sent asked x) al st.1 st.0 st.2 m i
    logs_here (Took number x) al st m i = done_good (Took number x) al st.1 st.0 st.2 m i
    logs_here (Reported b) al st m i = done_good (Reported b) al st.1 st.0 st.2 m i
    logs_here (Heard number q b stable) al st m i = done_good (Heard number q b stable) al st.1 st.0 st.2 m i

    -- a log's bounds are at most those of its partition
    same_bound : (j : ℕ) → (before at).up ≡ true → IsOther plan.sites at.site j → logged_bound (after at).log j ≡ logged_bound log j → (after at).bounds ≡ (before at).bounds → logged_bound (after at).log j ≤ entry (after at).bounds j
    same_bound j up o e b = subst₂ (λ x y. x ≤ y) (sym e) (sym (ap (λ v. entry v j) b)) (g.bounds at up j o)

    took_bound : (w : Shown plan run before) (number : ℕ) (m : Message E) → MayTake plan run at number m → PartStep kinds plan.sites plan.parts at (before at) (Took number m) (after at) → (j : ℕ) → IsOther plan.sites at.site j → logged_bound (after at).log j ≤ entry (after at).bounds j
    took_bound w number m al st j o =
        let b = entry (before at).bounds m.from in
        let xs = above m.from b m.parts in
        let e : logged_bound (after at).log j ≡ cond (m.from == j && is_some_part xs) (max m.hi (logged_bound log j)) (logged_bound log j) = ap (λ p. logged_bound p.log j) st.2 ∙ batch_bound log m b j xs in
        let v : entry (after at).bounds j ≡ entry (replaced (before at).bounds m.from m.hi) j = ap (λ p. entry p.bounds j) st.2 in
        let old = g.bounds at st.0 j o in
        let high = st.1.1 in ⊎_elim
        (λ (k : (m.from == j) ≡ true).
        let same = eqb-true m.from j k in
        let here : entry (replaced (before at).bounds m.from m.hi) j ≡ m.hi = subst (λ i. entry (replaced (before at).bounds m.from m.hi) i ≡ m.hi) same (entry_same (before at).bounds m.from m.hi al.from.least (subst (λ n. m.from ≤ n) (sym (w.width at st.0)) al.from.most)) in
        let low : logged_bound log j ≤ b = subst (λ i. logged_bound log j ≤ entry (before at).bounds i) (sym same) old in
        let most : logged_bound (after at).log j ≤ max m.hi (logged_bound log j) = subst (λ n. n ≤ max m.hi (logged_bound log j)) (sym e) (at_most (m.from == j && is_some_part xs) m.hi (logged_bound log j)) in
        omega arith)
        (λ (k : (m.from == j) ≡ false).
        let none : logged_bound (after at).log j ≡ logged_bound log j = e ∙ cond-false _ (max m.hi (logged_bound log j)) (logged_bound log j) (λ i. (k i && is_some_part xs)) in
        let here : entry (replaced (before at).bounds m.from m.hi) j ≡ entry (before at).bounds j = ⊎_elim
        (λ (y : entry (replaced (before at).bounds m.from m.hi) j ≡ entry (before at).bounds j). y)
        (λ (y : (j - 1 ≡ m.from - 1) × (entry (replaced (before at).bounds m.from m.hi) j ≡ m.hi)). let a = y.0 in let c = o.least in let d = al.from.least in let same : m.from ≡ j = omega arith in clash (eq-eqb m.from j same) k)
        (entry_cases (before at).bounds m.from m.hi j) in
        subst₂ (λ x y. x ≤ y) (sym none) (sym (v ∙ here)) old)
        (cases_Bool (m.from == j))
      where
        at_most : (c : Bool) (x y : ℕ) → cond c (max x y) y ≤ max x y
        at_most true x y = le_refl (max x y)
        at_most false x y = omega arith

    bounds_here : (w : Shown plan run before) (event : Event E) → IsAllowed plan run before at (attempt event) → PartStep kinds plan.sites plan.parts at (before at) event (after at) → (after at).up ≡ true → (j : ℕ) → IsOther plan.sites at.site j → logged_bound (after at).log j ≤ entry (after at).bounds j
    bounds_here w (Cut what) al st u j o = clash u (ap (λ p. p.up) st.2)
    bounds_here w Crashed al st u j o = clash u (ap (λ p. p.up) st)
    bounds_here w RestartCut al st u j o = clash u (ap (λ p. p.up) st)
    bounds_here w (Restarted n b named listed) al st u j o = let e = st.bounds j o in omega arith
    bounds_here w (Refused asked why) al st u j o = subst (λ p. logged_bound p.log j ≤ entry p.bounds j) (sym st.1) (g.bounds at (sym (ap (λ p. p.up) st.1) ∙ u) j o)
    bounds_here w (Opened who) al st u j o = subst (λ p. logged_bound p.log j ≤ entry p.bounds j) (sym st) (g.bounds at (sym (ap (λ p. p.up) st) ∙ u) j o)
    bounds_here w (Took number m) al st u j o = took_bound w number m al st j o
    bounds_here w (Ticked r n) al st u j o = same_bound j st.0 o (ap (λ p. logged_bound p.log j) st.2 ∙ leased_bound log n j) (ap (λ p. p.bounds) st.2)
    bounds_here w (Began who dep t s) al st u j o = same_bound j st.0 o (ap (λ p. logged_bound p.log j) st.2 ∙ leased_bound log t.time j) (ap (λ p. p.bounds) st.2)
    bounds_here w (Prepared t s l c n) al st u j o = same_bound j st.0 o (ap (λ p. logged_bound p.log j) st.2 ∙ ap (λ x. logged_bound x j) (grown_last log (lease_for log n) (Prepare t l.lead n s c)) ∙ leased_bound log n j) (ap (λ p. p.bounds) st.2)
    bounds_here w (Decided t c) al st u j o = same_bound j st.0 o (ap (λ p. logged_bound p.log j) st.2 ∙ if_bound log (pending log t) (Decide t c) j refl) (ap (λ p. p.bounds) st.2)
    bounds_here w (Finished t c) al st u j o = same_bound j st.0 o (ap (λ p. logged_bound p.log j) st.2 ∙ if_bound log (pending log t) (Finish t c) j refl) (ap (λ p. p.bounds) st.2)
    bounds_here w (Aborted t own) al st u j o = same_bound j st.0 o (ap (λ p. logged_bound p.log j) st.2) (ap (λ p. p.bounds) st.2)
    bounds_here w (Updated t s y own op read x stamp) al st u j o = same_bound j st.0 o (ap (λ p. logged_bound p.log j) st.2) (ap (λ p. p.bounds) st.2)
    bounds_here w (Read t s y own read value) al st u j o = same_bound j st.0 o (ap (λ p. logged_bound p.log j) st.2) (ap (λ p. p.bounds) st.2)
    bounds_here w (Sent asked x) al st u j o = same_bound j st.0 o (ap (λ p. logged_bound p.log j) st.2) (ap (λ p. p.bounds) st.2)
    bounds_here w (Reported b) al st u j o = same_bound j st.0 o (ap (λ p. logged_bound p.log j) st.2) (ap (λ p. p.bounds) st.2)
    bounds_here w (Heard number q b stable) al st u j o = same_bound j st.0 o (ap (λ p. logged_bound p.log j) st.2) (ap (λ p. p.bounds) st.2)

    times_here : (event : Event E) → PartStep kinds plan.sites plan.parts at (before at) event (after at) → (t : TxId) → cond (is_prepare event t) (max (time_shown event) (time_of run t)) (time_of run t) ≤ end_of_time
    times_here (Prepared u s l w n) st t = go (same_tx u t) (time_of run t) (g.times t)
      where
        go : (c : Bool) (old : ℕ) → old ≤ end_of_time → cond c (max n old) old ≤ end_of_time
        go true old h = let a = st.1.1 in let b = st.1.2 in omega arith
        go false old h = h
    times_here event st t = g.times t

    good_step : (w : Shown plan run before) (event : Event E) → IsAllowed plan run before at (attempt event) → PartStep kinds plan.sites plan.parts at (before at) event (after at) → ((q : PartId) → q ≢ at → after q ≡ before q) → Good ((record { at = at; event = event }) ∷ run) after
    good_step w event al st others =
        let old = λ (p : PartId) (ne : at ≡ p → ⊥). others p (λ e. ne (sym e)) in record {
          logs = λ p m i. ⊎_elim
              (λ (e : at ≡ p). subst (λ y. Finds (after y) m → AreGood plan y m) e (logs_here event al st m) i)
              (λ (ne : at ≡ p → ⊥). g.logs p m (subst (λ y. Finds y m) (old p ne) i))
              (part_cases at p);
          bounds = λ p u j o. ⊎_elim
              (λ (e : at ≡ p). subst (λ y. (after y).up ≡ true → IsOther plan.sites y.site j → logged_bound (after y).log j ≤ entry (after y).bounds j) e (λ u' o'. bounds_here w event al st u' j o') u o)
              (λ (ne : at ≡ p → ⊥). subst (λ y. logged_bound y.log j ≤ entry y.bounds j) (sym (old p ne)) (g.bounds p (ap (λ y. y.up) (sym (old p ne)) ∙ u) j o))
              (part_cases at p);
          times = times_here event st;
        }

  pub good_run : (run : List (Entry E)) (parts : PartId → PartState E) → IsRun kinds plan run parts → Good run parts
  good_run [] parts r = record {
    logs = λ p m i. subst (AreGood plan p) (sym (subst (λ x. Finds x m) (r p) i)) tt;
    bounds = λ p u j o. subst (λ x. logged_bound x.log j ≤ entry x.bounds j) (sym (r p)) (omega arith);
    times = λ t. omega arith;
  }
  good_run (e ∷ run) parts r = good_step run r.0 parts e.at (law_plan kinds plan run r.0 r.1) (good_run run r.0 r.1) r.2.place (shown_run kinds plan run r.0 r.1) e.event r.2.allowed r.2.step r.2.others
