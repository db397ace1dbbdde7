-- What a condensed log tells is what the whole log tells, and so it stays as both grow.
use Rattle.std.proofs.Common.{◌≡◌, ⊎_elim, ℕ, max, Bool, true, false, not, ◌&&◌, ◌||◌, List, [], ◌∷◌, Option, None, Some, refl, sym, ap, ◌∙◌, subst}
use Rattle.std.specs.Prelude.{◌==◌, if◌then◌else◌}
use Rattle.std.proofs.lemmas.Bool.{true≢false, cases_Bool, and_parts, or_parts, or_right, or_from, not-true, false_from_ne_true}
use Rattle.site_vector.specs.declared.ids.PartId.{PartId}
use Rattle.site_vector.specs.declared.ids.TxId.{TxId}
use Rattle.site_vector.specs.Ids.{same_tx}
use Rattle.site_vector.specs.Order.{same_tx_is}
use Rattle.crdt_core.specs.declared.record.Upd.{Upd}
use Rattle.crdt_core.specs.declared.record.Record.{Record}
use Rattle.crdt_core.specs.declared.record.Record.TheVariants.{Lease, Prepare, Decide, Finish, Abort, Batch}
use Rattle.crdt_core.specs.Fitting.{unfit, unfit_under}
use Rattle.crdt_core.specs.Log.{ceiling, prepared, prepare_time, prepared_changes, prepared_lead, prepared_snapshot, committed, committed_at, aborted, pending, last_decided, taken, taken_at, taken_changes, logged_bound, holds, names_tx, grown}
use Rattle.crdt_core.specs.Parts.{lists, vector_in, changes_in}
use Rattle.log_recovery.specs.Condensed.{is_dropped, kept, condensed, NamesNone, told_vote, told_part}
use Rattle.log_recovery.specs.FittingLaws.{rest_fits, last_fits, decides, finishes, prepared_home, taken_away}

-- what a log tells of one transaction
pub record Facts (E : Type 0) : Type 0 where
  pub is_prepared : Bool
  pub time : ℕ
  pub lead : ℕ
  pub snapshot : List ℕ
  pub changes : List (Upd E)
  pub is_committed : Bool
  pub at_end : List ℕ
  pub is_aborted : Bool
  pub is_taken : Bool
  pub at_taken : List ℕ
  pub brought : List (Upd E)

-- what prepares, aborts and leases tell nothing of
pub record Whole : Type 0 where
  pub ended : TxId → Bool
  pub brings : TxId → Bool
  pub bounds : ℕ → ℕ
  pub decision : Option TxId

-- one that passes a test isn't one that doesn't
pub apart : (d : TxId → Bool) (t u : TxId) → d t ≡ true → d u ≡ false → same_tx t u ≡ false
apart d t u yes_t no_u = false_from_ne_true _ (λ (h : same_tx t u ≡ true). true≢false (sym yes_t ∙ ap d (same_tx_is t u h) ∙ no_u))

other : (d : TxId → Bool) (t u : TxId) → d t ≡ false → d u ≡ true → same_tx t u ≡ false
other d t u no_t yes_u = false_from_ne_true _ (λ (h : same_tx t u ≡ true). true≢false (sym yes_u ∙ ap d (sym (same_tx_is t u h)) ∙ no_t))

pub by_test : {A : Type 0} (b : Bool) (P : A → Type 0) (x y : A) → (b ≡ true → P x) → (b ≡ false → P y) → P (if b then x else y)
by_test true P x y yes_x no_y = yes_x refl
by_test false P x y yes_x no_y = no_y refl

module _ {E : Type 0} where
  abbrev pub facts : List (Record E) → TxId → Facts E
  facts log u = record {
    is_prepared = prepared log u;
    time = prepare_time log u;
    lead = prepared_lead log u;
    snapshot = prepared_snapshot log u;
    changes = prepared_changes log u;
    is_committed = committed log u;
    at_end = committed_at log u;
    is_aborted = aborted log u;
    is_taken = taken log u;
    at_taken = taken_at log u;
    brought = taken_changes log u;
  }

  -- what one record more tells, by what was told
  abbrev with_prepare : Bool → ℕ → ℕ → List ℕ → List (Upd E) → Facts E → Facts E
  with_prepare b l n s w f = record f { is_prepared = b || f.is_prepared; time = if b then n else f.time; lead = if b then l else f.lead; snapshot = if b then s else f.snapshot; changes = if b then w else f.changes }

  abbrev with_commit : Bool → List ℕ → Facts E → Facts E
  with_commit b c f = record f { is_committed = b || f.is_committed; at_end = if b then c else f.at_end }

  abbrev with_abort : Bool → Facts E → Facts E
  with_abort b f = record f { is_aborted = b || f.is_aborted }

  abbrev with_batch : Bool → List ℕ → List (Upd E) → Facts E → Facts E
  with_batch b c w f = record f { is_taken = b || f.is_taken; at_taken = if b then c else f.at_taken; brought = if b then w else f.brought }

  pub one_more : (r : Record E) (a b : List (Record E)) (u : TxId) → facts b u ≡ facts a u → facts (r ∷ b) u ≡ facts (r ∷ a) u
  one_more (Lease n) a b u h = h
  one_more (Prepare t l n s w) a b u h = ap (with_prepare (same_tx t u) l n s w) h
  one_more (Decide t c) a b u h = ap (with_commit (same_tx t u) c) h
  one_more (Finish t c) a b u h = ap (with_commit (same_tx t u) c) h
  one_more (Abort t) a b u h = ap (with_abort (same_tx t u)) h
  one_more (Batch m) a b u h = ap (with_batch (lists m.parts u) (vector_in m.parts u) (changes_in m.parts u)) h

  -- of who isn't dropped all is told as before
  pub kept_facts : (leased : Bool) (d : TxId → Bool) (log : List (Record E)) (u : TxId) → d u ≡ false → facts (kept leased d log) u ≡ facts log u
  kept_facts leased d [] u not_u = refl
  kept_facts true d (Lease n ∷ log) u not_u = kept_facts true d log u not_u
  kept_facts false d (Lease n ∷ log) u not_u = kept_facts true d log u not_u
  kept_facts leased d (Prepare t l n s w ∷ log) u not_u =
      let older = kept_facts leased d log u not_u in
      by_test (d t) (λ (k : List (Record E)). facts k u ≡ facts (Prepare t l n s w ∷ log) u) (kept leased d log) (Prepare t l n s w ∷ kept leased d log)
      (λ e. older ∙ ap (λ b. with_prepare b l n s w (facts log u)) (sym (apart d t u e not_u)))
      (λ e. one_more (Prepare t l n s w) log (kept leased d log) u older)
  kept_facts leased d (Decide t c ∷ log) u not_u = one_more (Decide t c) log (kept leased d log) u (kept_facts leased d log u not_u)
  kept_facts leased d (Finish t c ∷ log) u not_u = one_more (Finish t c) log (kept leased d log) u (kept_facts leased d log u not_u)
  kept_facts leased d (Abort t ∷ log) u not_u =
      let older = kept_facts leased d log u not_u in
      by_test (d t) (λ (k : List (Record E)). facts k u ≡ facts (Abort t ∷ log) u) (kept leased d log) (Abort t ∷ kept leased d log)
      (λ e. older ∙ ap (λ b. with_abort b (facts log u)) (sym (apart d t u e not_u)))
      (λ e. one_more (Abort t) log (kept leased d log) u older)
  kept_facts leased d (Batch m ∷ log) u not_u = one_more (Batch m) log (kept leased d log) u (kept_facts leased d log u not_u)

  -- no prepare of who is dropped stays
  kept_unprepared : (leased : Bool) (d : TxId → Bool) (log : List (Record E)) (u : TxId) → d u ≡ true → prepared (kept leased d log) u ≡ false
  kept_unprepared leased d [] u is_u = refl
  kept_unprepared true d (Lease n ∷ log) u is_u = kept_unprepared true d log u is_u
  kept_unprepared false d (Lease n ∷ log) u is_u = kept_unprepared true d log u is_u
  kept_unprepared leased d (Prepare t l n s w ∷ log) u is_u =
      let older = kept_unprepared leased d log u is_u in
      by_test (d t) (λ (k : List (Record E)). prepared k u ≡ false) (kept leased d log) (Prepare t l n s w ∷ kept leased d log)
      (λ e. older)
      (λ e. ap (λ b. b || prepared (kept leased d log) u) (other d t u e is_u) ∙ older)
  kept_unprepared leased d (Decide t c ∷ log) u is_u = kept_unprepared leased d log u is_u
  kept_unprepared leased d (Finish t c ∷ log) u is_u = kept_unprepared leased d log u is_u
  kept_unprepared leased d (Abort t ∷ log) u is_u =
      let older = kept_unprepared leased d log u is_u in
      by_test (d t) (λ (k : List (Record E)). prepared k u ≡ false) (kept leased d log) (Abort t ∷ kept leased d log) (λ e. older) (λ e. older)
  kept_unprepared leased d (Batch m ∷ log) u is_u = kept_unprepared leased d log u is_u

  abbrev pub whole : List (Record E) → Whole
  whole log = record { ended = committed log; brings = taken log; bounds = logged_bound log; decision = last_decided log }

  pub kept_whole : (leased : Bool) (d : TxId → Bool) (log : List (Record E)) → whole (kept leased d log) ≡ whole log
  kept_whole leased d [] = refl
  kept_whole true d (Lease n ∷ log) = kept_whole true d log
  kept_whole false d (Lease n ∷ log) = kept_whole true d log
  kept_whole leased d (Prepare t l n s w ∷ log) =
      let older = kept_whole leased d log in
      by_test (d t) (λ (k : List (Record E)). whole k ≡ whole log) (kept leased d log) (Prepare t l n s w ∷ kept leased d log) (λ e. older) (λ e. older)
  kept_whole leased d (Decide t c ∷ log) = ap (λ (x : Whole). record x { ended = λ u. same_tx t u || x.ended u; decision = Some t }) (kept_whole leased d log)
  kept_whole leased d (Finish t c ∷ log) = ap (λ (x : Whole). record x { ended = λ u. same_tx t u || x.ended u }) (kept_whole leased d log)
  kept_whole leased d (Abort t ∷ log) =
      let older = kept_whole leased d log in
      by_test (d t) (λ (k : List (Record E)). whole k ≡ whole log) (kept leased d log) (Abort t ∷ kept leased d log) (λ e. older) (λ e. older)
  kept_whole leased d (Batch m ∷ log) =
      ap (λ (x : Whole). record x { brings = λ u. lists m.parts u || x.brings u; bounds = λ j. if m.from == j then max m.hi (x.bounds j) else x.bounds j }) (kept_whole leased d log)

  -- the last lease stays
  pub kept_ceiling : (d : TxId → Bool) (log : List (Record E)) → ceiling (kept false d log) ≡ ceiling log
  kept_ceiling d [] = refl
  kept_ceiling d (Lease n ∷ log) = refl
  kept_ceiling d (Prepare t l n s w ∷ log) =
      let older = kept_ceiling d log in
      by_test (d t) (λ (k : List (Record E)). ceiling k ≡ ceiling log) (kept false d log) (Prepare t l n s w ∷ kept false d log) (λ e. older) (λ e. older)
  kept_ceiling d (Decide t c ∷ log) = kept_ceiling d log
  kept_ceiling d (Finish t c ∷ log) = kept_ceiling d log
  kept_ceiling d (Abort t ∷ log) =
      let older = kept_ceiling d log in
      by_test (d t) (λ (k : List (Record E)). ceiling k ≡ ceiling log) (kept false d log) (Abort t ∷ kept false d log) (λ e. older) (λ e. older)
  kept_ceiling d (Batch m ∷ log) = kept_ceiling d log

  -- it neither waits nor is held
  pub record IsGone (log : List (Record E)) (u : TxId) : Type 0 where
    pub waits : pending log u ≡ false
    pub held : holds log u ≡ false

  still_gone : (r : Record E) (log : List (Record E)) (u : TxId) → names_tx r u ≡ false → IsGone log u → IsGone (r ∷ log) u
  still_gone (Lease n) log u n_u g = record { waits = g.waits; held = g.held }
  still_gone (Prepare t l n s w) log u n_u g = record { waits = ap (λ b. (b || prepared log u) && not (committed log u || aborted log u)) n_u ∙ g.waits; held = g.held }
  still_gone (Decide t c) log u n_u g = record { waits = ap (λ b. prepared log u && not ((b || committed log u) || aborted log u)) n_u ∙ g.waits; held = ap (λ b. (b || committed log u) || taken log u) n_u ∙ g.held }
  still_gone (Finish t c) log u n_u g = record { waits = ap (λ b. prepared log u && not ((b || committed log u) || aborted log u)) n_u ∙ g.waits; held = ap (λ b. (b || committed log u) || taken log u) n_u ∙ g.held }
  still_gone (Abort t) log u n_u g = record { waits = ap (λ b. prepared log u && not (committed log u || (b || aborted log u))) n_u ∙ g.waits; held = g.held }
  still_gone (Batch m) log u n_u g = record { waits = g.waits; held = ap (λ b. committed log u || (b || taken log u)) n_u ∙ g.held }

  -- The second log tells what the first does, but of who is dropped, of whom both tell that it is gone.
  pub record TellAlike (d : TxId → Bool) (a b : List (Record E)) : Type 0 where
    pub last : ceiling b ≡ ceiling a
    pub decision : last_decided b ≡ last_decided a
    pub bounds : (j : ℕ) → logged_bound b j ≡ logged_bound a j
    pub others : (u : TxId) → d u ≡ false → facts b u ≡ facts a u
    pub gone : (u : TxId) → d u ≡ true → IsGone a u × IsGone b u

  lease_alike : (r : Record E) (a b : List (Record E)) → ceiling b ≡ ceiling a → ceiling (r ∷ b) ≡ ceiling (r ∷ a)
  lease_alike (Lease n) a b h = refl
  lease_alike (Prepare t l n s w) a b h = h
  lease_alike (Decide t c) a b h = h
  lease_alike (Finish t c) a b h = h
  lease_alike (Abort t) a b h = h
  lease_alike (Batch m) a b h = h

  decision_alike : (r : Record E) (a b : List (Record E)) → last_decided b ≡ last_decided a → last_decided (r ∷ b) ≡ last_decided (r ∷ a)
  decision_alike (Lease n) a b h = h
  decision_alike (Prepare t l n s w) a b h = h
  decision_alike (Decide t c) a b h = refl
  decision_alike (Finish t c) a b h = h
  decision_alike (Abort t) a b h = h
  decision_alike (Batch m) a b h = h

  pub bound_alike : (r : Record E) (a b : List (Record E)) (j : ℕ) → logged_bound b j ≡ logged_bound a j → logged_bound (r ∷ b) j ≡ logged_bound (r ∷ a) j
  bound_alike (Lease n) a b j h = h
  bound_alike (Prepare t l n s w) a b j h = h
  bound_alike (Decide t c) a b j h = h
  bound_alike (Finish t c) a b j h = h
  bound_alike (Abort t) a b j h = h
  bound_alike (Batch m) a b j h = ap (λ (x : ℕ). if m.from == j then max m.hi x else x) h

  alike_more : (d : TxId → Bool) (r : Record E) (a b : List (Record E)) → ((u : TxId) → d u ≡ true → names_tx r u ≡ false) → TellAlike d a b → TellAlike d (r ∷ a) (r ∷ b)
  alike_more d r a b none h = record {
    last = lease_alike r a b h.last;
    decision = decision_alike r a b h.decision;
    bounds = λ j. bound_alike r a b j (h.bounds j);
    others = λ u not_u. one_more r a b u (h.others u not_u);
    gone = λ u is_u. (still_gone r a u (none u is_u) (h.gone u is_u).0, still_gone r b u (none u is_u) (h.gone u is_u).1);
  }

  alike_grown : (d : TxId → Bool) (more a b : List (Record E)) → NamesNone d more → TellAlike d a b → TellAlike d (grown a more) (grown b more)
  alike_grown d [] a b none h = h
  alike_grown d (r ∷ more) a b none h = alike_grown d more (r ∷ a) (r ∷ b) none.1 (alike_more d r a b none.0 h)

  -- what waits is prepared, and neither committed nor aborted
  waiting : (log : List (Record E)) (t : TxId) → pending log t ≡ true → (prepared log t ≡ true) × (committed log t ≡ false) × (aborted log t ≡ false)
  waiting log t h =
      let both = and_parts (prepared log t) _ h in
      let none = or_parts (committed log t) (aborted log t) (not-true (committed log t || aborted log t) both.1) in
      (both.0, none.0, none.1)

module _ {E : Type 0} (sites parts : ℕ) (id : PartId) (top : ℕ) where
  -- an end is of another, where this one was aborted
  not_again : (log : List (Record E)) (t u : TxId) → pending log t ≡ true → aborted log u ≡ true → same_tx t u ≡ false
  not_again log t u waits gone = other (aborted log) t u (waiting log t waits).2 gone

  -- in a log that fits, what was aborted was prepared, and wasn't committed
  pub aborted_only : (log : List (Record E)) → unfit_under sites parts id top log ≡ None → (u : TxId) → aborted log u ≡ true → (prepared log u ≡ true) × (committed log u ≡ false)
  aborted_only [] f u h = absurd (true≢false (sym h))
  aborted_only (Lease n ∷ log) f u h = aborted_only log (rest_fits sites parts id top (Lease n) log f) u h
  aborted_only (Prepare t l n s w ∷ log) f u h = let r = aborted_only log (rest_fits sites parts id top (Prepare t l n s w) log f) u h in (or_right (same_tx t u) (prepared log u) r.0, r.1)
  aborted_only (Decide t c ∷ log) f u h =
      let r = aborted_only log (rest_fits sites parts id top (Decide t c) log f) u h in
      let waits = (decides sites parts id top log t c (last_fits sites parts id top (Decide t c) log f)).waits in
      (r.0, or_from (same_tx t u) (committed log u) (not_again log t u waits h) r.1)
  aborted_only (Finish t c ∷ log) f u h =
      let r = aborted_only log (rest_fits sites parts id top (Finish t c) log f) u h in
      let waits = (finishes sites parts id top log t c (last_fits sites parts id top (Finish t c) log f)).waits in
      (r.0, or_from (same_tx t u) (committed log u) (not_again log t u waits h) r.1)
  aborted_only (Abort t ∷ log) f u h = ⊎_elim
      (λ (e : same_tx t u ≡ true).
      let w = waiting log t (last_fits sites parts id top (Abort t) log f) in
      let is = same_tx_is t u e in
      (subst (λ v. prepared log v ≡ true) is w.0, subst (λ v. committed log v ≡ false) is w.1))
      (λ (e : same_tx t u ≡ false). aborted_only log (rest_fits sites parts id top (Abort t) log f) u (ap (λ b. b || aborted log u) (sym e) ∙ h))
      (cases_Bool (same_tx t u))
  aborted_only (Batch m ∷ log) f u h = aborted_only log (rest_fits sites parts id top (Batch m) log f) u h

  aborted_unheld : (log : List (Record E)) → unfit_under sites parts id top log ≡ None → (u : TxId) → aborted log u ≡ true → holds log u ≡ false
  aborted_unheld log f u h =
      let only = aborted_only log f u h in
      or_from (committed log u) (taken log u) only.1 (false_from_ne_true _ (λ k. (taken_away sites parts id top log f u k).away (prepared_home sites parts id top log f u only.0).home))

module _ {E : Type 0} (sites parts : ℕ) (id : PartId) where
  -- a log that fits is told by its condensed one
  condensed_alike : (log : List (Record E)) → unfit sites parts id log ≡ None → TellAlike (is_dropped log) log (condensed log)
  condensed_alike log f = let same = kept_whole false (is_dropped log) log in record {
    last = kept_ceiling (is_dropped log) log;
    decision = ap (λ (x : Whole). x.decision) same;
    bounds = λ j. ap (λ (x : Whole). x.bounds j) same;
    others = λ u not_u. kept_facts false (is_dropped log) log u not_u;
    gone = λ u is_u.
        let both = and_parts (prepared log u) (aborted log u) is_u in
        let held = aborted_unheld sites parts id (ceiling log) log f u both.1 in
        let none = kept_unprepared false (is_dropped log) log u is_u in (
          record { waits = ap (λ b. prepared log u && not (committed log u || b)) both.1 ∙ waits_no_more (prepared log u) (committed log u); held = held },
          record {
            waits = ap (λ b. b && not (committed (condensed log) u || aborted (condensed log) u)) none;
            held = ap (λ (x : Whole). x.ended u || x.brings u) same ∙ held;
          },
        );
  }
    where
      waits_no_more : (p c : Bool) → (p && not (c || true)) ≡ false
      waits_no_more true true = refl
      waits_no_more true false = refl
      waits_no_more false c = refl

  pub told_alike : (log more : List (Record E)) → unfit sites parts id log ≡ None → NamesNone (is_dropped log) more → TellAlike (is_dropped log) (grown log more) (grown (condensed log) more)
  told_alike log more f none = alike_grown (is_dropped log) more log (condensed log) none (condensed_alike log f)

module _ {E : Type 0} (d : TxId → Bool) (a b : List (Record E)) (h : TellAlike d a b) where
  pub same_pending : (u : TxId) → pending b u ≡ pending a u
  same_pending u = ⊎_elim
      (λ (e : d u ≡ true). (h.gone u e).1.waits ∙ sym (h.gone u e).0.waits)
      (λ (e : d u ≡ false). ap (λ (f : Facts E). f.is_prepared && not (f.is_committed || f.is_aborted)) (h.others u e))
      (cases_Bool (d u))

  pub same_holds : (u : TxId) → holds b u ≡ holds a u
  same_holds u = ⊎_elim
      (λ (e : d u ≡ true). (h.gone u e).1.held ∙ sym (h.gone u e).0.held)
      (λ (e : d u ≡ false). ap (λ (f : Facts E). f.is_committed || f.is_taken) (h.others u e))
      (cases_Bool (d u))

  pub same_vote : (u : TxId) → pending a u ≡ true → told_vote b u ≡ told_vote a u
  same_vote u waits = ⊎_elim
      (λ (e : d u ≡ true). absurd (true≢false (sym waits ∙ (h.gone u e).0.waits)))
      (λ (e : d u ≡ false). ap (λ (f : Facts E). (f.time, f.lead, f.snapshot, f.changes)) (h.others u e))
      (cases_Bool (d u))

  pub same_part : (u : TxId) → holds a u ≡ true → told_part b u ≡ told_part a u
  same_part u held = ⊎_elim
      (λ (e : d u ≡ true). absurd (true≢false (sym held ∙ (h.gone u e).0.held)))
      (λ (e : d u ≡ false). ap (λ (f : Facts E). (if f.is_committed then f.at_end else f.at_taken, if f.is_committed then f.changes else f.brought)) (h.others u e))
      (cases_Bool (d u))
