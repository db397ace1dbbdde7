-- A condensed log fits the partition where the whole log does.
use Rattle.std.proofs.Common.{◌≡◌, ℕ, leb, Bool, true, false, not, ◌&&◌, ◌||◌, List, [], ◌∷◌, length, Option, None, refl, sym, ap, ◌∙◌}
use Rattle.std.specs.Prelude.{◌==◌}
use Rattle.std.specs.List.{list_all}
use Rattle.std.specs.Str.{bytes_eq}
use Rattle.std.proofs.lemmas.Bool.{true≢false, and_parts, not-true, or_right, or_left, false_from_ne_true, and_from}
use Rattle.site_vector.specs.declared.ids.PartId.{PartId}
use Rattle.site_vector.specs.declared.ids.TxId.{TxId}
use Rattle.site_vector.specs.Ids.{same_tx}
use Rattle.site_vector.specs.Order.{same_tx_refl}
use Rattle.site_vector.specs.Vector.{entry, replaced}
use Rattle.crdt_core.specs.declared.record.Part.{Part}
use Rattle.crdt_core.specs.declared.record.Record.{Record}
use Rattle.crdt_core.specs.declared.record.Record.TheVariants.{Lease, Prepare, Decide, Finish, Abort, Batch}
use Rattle.crdt_core.specs.Parts.{lists}
use Rattle.crdt_core.specs.Fitting.{is_vector, fits_message, fits_record, unfit, unfit_next, unfit_under}
use Rattle.crdt_core.specs.Log.{ceiling, prepared, committed, aborted, logged_bound, names_tx, is_named_in, grown}
use Rattle.log_recovery.specs.Condensed.{is_dropped, kept, condensed, NamesNone}
use Rattle.log_recovery.specs.FittingLaws.{rest_fits, last_fits, front_fits}
use Rattle.log_recovery.proofs.Condensing.{Facts, Whole, facts, by_test, one_more, bound_alike, kept_facts, kept_whole, kept_ceiling, aborted_only}

-- both or
or_more : (a b c : Bool) → (b ≡ true → c ≡ true) → (a || b) ≡ true → (a || c) ≡ true
or_more true b c f h = refl
or_more false b c f h = f h

-- who passes isn't named by a record that names none who passes
unlike : (d : TxId → Bool) (t : TxId) → ((u : TxId) → d u ≡ true → same_tx t u ≡ false) → d t ≡ false
unlike d t none = false_from_ne_true _ (λ (e : d t ≡ true). true≢false (sym (same_tx_refl t) ∙ none t e))

module _ {E : Type 0} where
  -- The second log judges a record as the first does, but one of who is dropped: of the others it tells the same, the bounds are the same, and it names no more.
  pub record JudgesSo (d : TxId → Bool) (a b : List (Record E)) : Type 0 where
    pub others : (u : TxId) → d u ≡ false → facts b u ≡ facts a u
    pub bounds : (j : ℕ) → logged_bound b j ≡ logged_bound a j
    pub names : (u : TxId) → is_named_in b u ≡ true → is_named_in a u ≡ true

  names_more : (r : Record E) (a b : List (Record E)) (u : TxId) → (is_named_in b u ≡ true → is_named_in a u ≡ true) → is_named_in (r ∷ b) u ≡ true → is_named_in (r ∷ a) u ≡ true
  names_more (Lease n) a b u f h = f h
  names_more (Prepare t l n s w) a b u f h = or_more (same_tx t u) (is_named_in b u) (is_named_in a u) f h
  names_more (Decide t c) a b u f h = or_more (same_tx t u) (is_named_in b u) (is_named_in a u) f h
  names_more (Finish t c) a b u f h = or_more (same_tx t u) (is_named_in b u) (is_named_in a u) f h
  names_more (Abort t) a b u f h = or_more (same_tx t u) (is_named_in b u) (is_named_in a u) f h
  names_more (Batch m) a b u f h = or_more (lists m.parts u) (is_named_in b u) (is_named_in a u) f h

  judges_more : (d : TxId → Bool) (r : Record E) (a b : List (Record E)) → JudgesSo d a b → JudgesSo d (r ∷ a) (r ∷ b)
  judges_more d r a b h = record {
    others = λ u other. one_more r a b u (h.others u other);
    bounds = λ j. bound_alike r a b j (h.bounds j);
    names = λ u. names_more r a b u (h.names u);
  }

  -- what is kept names no more than the whole
  kept_names : (leased : Bool) (d : TxId → Bool) (log : List (Record E)) (u : TxId) → is_named_in (kept leased d log) u ≡ true → is_named_in log u ≡ true
  kept_names leased d [] u h = h
  kept_names true d (Lease n ∷ log) u h = kept_names true d log u h
  kept_names false d (Lease n ∷ log) u h = kept_names true d log u h
  kept_names leased d (Prepare t l n s w ∷ log) u named =
      let older = kept_names leased d log u in
      by_test (d t) (λ (k : List (Record E)). is_named_in k u ≡ true → (same_tx t u || is_named_in log u) ≡ true) (kept leased d log) (Prepare t l n s w ∷ kept leased d log)
      (λ e h. or_right (same_tx t u) (is_named_in log u) (older h))
      (λ e h. or_more (same_tx t u) (is_named_in (kept leased d log) u) (is_named_in log u) older h) named
  kept_names leased d (Decide t c ∷ log) u h = or_more (same_tx t u) (is_named_in (kept leased d log) u) (is_named_in log u) (kept_names leased d log u) h
  kept_names leased d (Finish t c ∷ log) u h = or_more (same_tx t u) (is_named_in (kept leased d log) u) (is_named_in log u) (kept_names leased d log u) h
  kept_names leased d (Abort t ∷ log) u named =
      let older = kept_names leased d log u in
      by_test (d t) (λ (k : List (Record E)). is_named_in k u ≡ true → (same_tx t u || is_named_in log u) ≡ true) (kept leased d log) (Abort t ∷ kept leased d log)
      (λ e h. or_right (same_tx t u) (is_named_in log u) (older h))
      (λ e h. or_more (same_tx t u) (is_named_in (kept leased d log) u) (is_named_in log u) older h) named
  kept_names leased d (Batch m ∷ log) u h = or_more (lists m.parts u) (is_named_in (kept leased d log) u) (is_named_in log u) (kept_names leased d log u) h

  kept_judges : (leased : Bool) (d : TxId → Bool) (log : List (Record E)) → JudgesSo d log (kept leased d log)
  kept_judges leased d log = record {
    others = λ u other. kept_facts leased d log u other;
    bounds = λ j. ap (λ (x : Whole). x.bounds j) (kept_whole leased d log);
    names = λ u. kept_names leased d log u;
  }

  module _ (sites parts : ℕ) (id : PartId) (top : ℕ) (d : TxId → Bool) (a b : List (Record E)) (h : JudgesSo d a b) where
    abbrev Fits : List (Record E) → Record E → Type 0
    Fits log r = fits_record sites parts id top log r ≡ true

    still_new : (u : TxId) → is_named_in a u ≡ false → is_named_in b u ≡ false
    still_new u new = false_from_ne_true _ (λ (k : is_named_in b u ≡ true). true≢false (sym (h.names u k) ∙ new))

    prepare_fits : (t : TxId) (l n : ℕ) (s : List ℕ) (w : _) → Fits a (Prepare t l n s w) → Fits b (Prepare t l n s w)
    prepare_fits t l n s w f =
        let one = and_parts (t.site == id.site) _ f in
        let two = and_parts (leb 1 t.part) _ one.1 in
        let three = and_parts (leb t.part parts) _ two.1 in
        let four = and_parts (not (is_named_in a t)) _ three.1 in
        and_from _ _ one.0 (and_from _ _ two.0 (and_from _ _ three.0 (and_from _ _ (ap not (still_new t (not-true (is_named_in a t) four.0))) four.1)))

    -- a record that ends one who isn't dropped
    decide_fits : (t : TxId) (c : List ℕ) → d t ≡ false → Fits a (Decide t c) → Fits b (Decide t c)
    decide_fits t c other f =
        ap (λ (x : Facts E). (x.is_prepared && not (x.is_committed || x.is_aborted)) && (x.lead == id.part && (is_vector sites c && (bytes_eq c (replaced x.snapshot id.site (entry c id.site)) && leb x.time (entry c id.site))))) (h.others t other) ∙ f

    finish_fits : (t : TxId) (c : List ℕ) → d t ≡ false → Fits a (Finish t c) → Fits b (Finish t c)
    finish_fits t c other f =
        ap (λ (x : Facts E). (x.is_prepared && not (x.is_committed || x.is_aborted)) && (not (x.lead == id.part) && (is_vector sites c && (bytes_eq c (replaced x.snapshot id.site (entry c id.site)) && leb x.time (entry c id.site))))) (h.others t other) ∙ f

    abort_fits : (t : TxId) → d t ≡ false → Fits a (Abort t) → Fits b (Abort t)
    abort_fits t other f = ap (λ (x : Facts E). x.is_prepared && not (x.is_committed || x.is_aborted)) (h.others t other) ∙ f

    all_new : (xs : List (Part E)) → list_all (λ x. not (is_named_in a x.tx)) xs ≡ true → list_all (λ x. not (is_named_in b x.tx)) xs ≡ true
    all_new [] f = refl
    all_new (x ∷ xs) f = let both = and_parts (not (is_named_in a x.tx)) (list_all (λ y. not (is_named_in a y.tx)) xs) f in and_from _ _ (ap not (still_new x.tx (not-true (is_named_in a x.tx) both.0))) (all_new xs both.1)

    batch_fits : (m : _) → Fits a (Batch m) → Fits b (Batch m)
    batch_fits m f =
        let one = and_parts (fits_message sites parts id m) _ f in
        let two = and_parts (leb (logged_bound a m.from) m.lo) _ one.1 in
        and_from _ _ one.0 (and_from _ _ (ap (λ n. leb n m.lo) (h.bounds m.from) ∙ two.0) (all_new m.parts two.1))

    -- a record that names none who is dropped
    fits_so : (r : Record E) → ((u : TxId) → d u ≡ true → names_tx r u ≡ false) → Fits a r → Fits b r
    fits_so (Lease n) none f = f
    fits_so (Prepare t l n s w) none f = prepare_fits t l n s w f
    fits_so (Decide t c) none f = decide_fits t c (unlike d t none) f
    fits_so (Finish t c) none f = finish_fits t c (unlike d t none) f
    fits_so (Abort t) none f = abort_fits t (unlike d t none) f
    fits_so (Batch m) none f = batch_fits m f

-- who ended isn't dropped
ended_apart : (d : TxId → Bool) (t : TxId) (c : Bool) → (d t ≡ true → (same_tx t t || c) ≡ false) → d t ≡ false
ended_apart d t c none = false_from_ne_true _ (λ (e : d t ≡ true). true≢false (sym (or_left (same_tx t t) c (same_tx_refl t)) ∙ none e))

next_fits : (o : Option ℕ) (b : Bool) (n : ℕ) → o ≡ None → b ≡ true → unfit_next o b n ≡ None
next_fits o b n none fits = ap (λ x. unfit_next x b n) none ∙ ap (λ c. unfit_next None c n) fits

module _ {E : Type 0} (sites parts : ℕ) (id : PartId) (top : ℕ) where
  abbrev Fit : List (Record E) → Type 0
  Fit log = unfit_under sites parts id top log ≡ None

  with_next : (r : Record E) (log : List (Record E)) → Fit log → fits_record sites parts id top log r ≡ true → Fit (r ∷ log)
  with_next r log f h = next_fits (unfit_under sites parts id top log) (fits_record sites parts id top log r) (length log) f h

  -- none of these was committed
  abbrev Uncommitted : (TxId → Bool) → List (Record E) → Type 0
  Uncommitted d log = (u : TxId) → d u ≡ true → committed log u ≡ false

  older_uncommitted : (d : TxId → Bool) (t : TxId) (log : List (Record E)) → ((u : TxId) → d u ≡ true → (same_tx t u || committed log u) ≡ false) → Uncommitted d log
  older_uncommitted d t log none u e = false_from_ne_true _ (λ (k : committed log u ≡ true). true≢false (sym (or_right (same_tx t u) (committed log u) k) ∙ none u e))

  kept_fits : (leased : Bool) (d : TxId → Bool) (log : List (Record E)) → Fit log → Uncommitted d log → Fit (kept leased d log)
  kept_fits leased d [] f none = refl
  kept_fits true d (Lease n ∷ log) f none = kept_fits true d log (rest_fits sites parts id top (Lease n) log f) none
  kept_fits false d (Lease n ∷ log) f none = with_next (Lease n) (kept true d log) (kept_fits true d log (rest_fits sites parts id top (Lease n) log f) none) (last_fits sites parts id top (Lease n) log f)
  kept_fits leased d (Prepare t l n s w ∷ log) f none =
      let older = kept_fits leased d log (rest_fits sites parts id top (Prepare t l n s w) log f) none in
      by_test (d t) Fit (kept leased d log) (Prepare t l n s w ∷ kept leased d log)
      (λ e. older)
      (λ e. with_next (Prepare t l n s w) (kept leased d log) older (prepare_fits sites parts id top d log (kept leased d log) (kept_judges leased d log) t l n s w (last_fits sites parts id top (Prepare t l n s w) log f)))
  kept_fits leased d (Decide t c ∷ log) f none =
      let older = kept_fits leased d log (rest_fits sites parts id top (Decide t c) log f) (older_uncommitted d t log none) in
      with_next (Decide t c) (kept leased d log) older (decide_fits sites parts id top d log (kept leased d log) (kept_judges leased d log) t c (ended_apart d t (committed log t) (none t)) (last_fits sites parts id top (Decide t c) log f))
  kept_fits leased d (Finish t c ∷ log) f none =
      let older = kept_fits leased d log (rest_fits sites parts id top (Finish t c) log f) (older_uncommitted d t log none) in
      with_next (Finish t c) (kept leased d log) older (finish_fits sites parts id top d log (kept leased d log) (kept_judges leased d log) t c (ended_apart d t (committed log t) (none t)) (last_fits sites parts id top (Finish t c) log f))
  kept_fits leased d (Abort t ∷ log) f none =
      let older = kept_fits leased d log (rest_fits sites parts id top (Abort t) log f) none in
      by_test (d t) Fit (kept leased d log) (Abort t ∷ kept leased d log)
      (λ e. older)
      (λ e. with_next (Abort t) (kept leased d log) older (abort_fits sites parts id top d log (kept leased d log) (kept_judges leased d log) t e (last_fits sites parts id top (Abort t) log f)))
  kept_fits leased d (Batch m ∷ log) f none =
      let older = kept_fits leased d log (rest_fits sites parts id top (Batch m) log f) none in
      with_next (Batch m) (kept leased d log) older (batch_fits sites parts id top d log (kept leased d log) (kept_judges leased d log) m (last_fits sites parts id top (Batch m) log f))

  -- and so do the same further records
  grown_fits : (d : TxId → Bool) (more a b : List (Record E)) → NamesNone d more → JudgesSo d a b → Fit (grown a more) → Fit b → Fit (grown b more)
  grown_fits d [] a b none h f g = g
  grown_fits d (r ∷ more) a b none h f g =
      grown_fits d more (r ∷ a) (r ∷ b) none.1 (judges_more d r a b h) f
      (with_next r b g (fits_so sites parts id top d a b h r none.0 (last_fits sites parts id top r a (front_fits sites parts id top (r ∷ a) more f))))

  condensed_fit : (log more : List (Record E)) → NamesNone (is_dropped log) more → Fit (grown log more) → Fit (grown (condensed log) more)
  condensed_fit log more none f =
      let d = is_dropped log in
      let front = front_fits sites parts id top log more f in
      grown_fits d more log (condensed log) none (kept_judges false d log) f
      (kept_fits false d log front (λ u e. (aborted_only sites parts id top log front u (and_parts (prepared log u) (aborted log u) e).1).1))

module _ {E : Type 0} where
  same_ceiling : (more a b : List (Record E)) → ceiling b ≡ ceiling a → ceiling (grown b more) ≡ ceiling (grown a more)
  same_ceiling [] a b e = e
  same_ceiling (Lease n ∷ more) a b e = same_ceiling more (Lease n ∷ a) (Lease n ∷ b) refl
  same_ceiling (Prepare t l n s w ∷ more) a b e = same_ceiling more (Prepare t l n s w ∷ a) (Prepare t l n s w ∷ b) e
  same_ceiling (Decide t c ∷ more) a b e = same_ceiling more (Decide t c ∷ a) (Decide t c ∷ b) e
  same_ceiling (Finish t c ∷ more) a b e = same_ceiling more (Finish t c ∷ a) (Finish t c ∷ b) e
  same_ceiling (Abort t ∷ more) a b e = same_ceiling more (Abort t ∷ a) (Abort t ∷ b) e
  same_ceiling (Batch m ∷ more) a b e = same_ceiling more (Batch m ∷ a) (Batch m ∷ b) e

  pub condensed_fits : (sites parts : ℕ) (id : PartId) (log more : List (Record E)) → unfit sites parts id (grown log more) ≡ None → NamesNone (is_dropped log) more → unfit sites parts id (grown (condensed log) more) ≡ None
  condensed_fits sites parts id log more f none =
      ap (λ n. unfit_under sites parts id n (grown (condensed log) more)) (same_ceiling more log (condensed log) (kept_ceiling (is_dropped log) log))
      ∙ condensed_fit sites parts id (ceiling (grown log more)) log more none f
