-- What holds of every log whose records fit the partition, under whatever ceiling.
use Rattle.std.proofs.Common.{◌≡◌, ◌≢◌, ⊎_elim, ℕ, ◌≤◌, Bool, true, false, not, ◌||◌, leb, ltb, List, [], ◌∷◌, length, Option, None, Some, refl, sym, ap, ◌∙◌, subst, arith}
use Rattle.std.specs.Prelude.{◌==◌, if◌then◌else◌}
use Rattle.std.specs.List.{list_all}
use Rattle.std.proofs.lemmas.Bool.{true≢false, cases_Bool, or_right, and_parts, not-true, false_from_ne_true, eqb-true, eqb-false, leb-true, ltb-true, or_from, or_parts}
use Rattle.site_vector.specs.declared.ids.PartId.{PartId}
use Rattle.site_vector.specs.declared.ids.TxId.{TxId}
use Rattle.site_vector.specs.Ids.{same_tx}
use Rattle.site_vector.specs.Order.{same_tx_is}
use Rattle.site_vector.specs.Vector.{entry}
use Rattle.crdt_core.specs.declared.record.Upd.{Upd}
use Rattle.crdt_core.specs.declared.record.Part.{Part}
use Rattle.crdt_core.specs.declared.record.Message.{Message}
use Rattle.crdt_core.specs.declared.record.Record.{Record}
use Rattle.crdt_core.specs.declared.record.Record.TheVariants.{Lease, Prepare, Decide, Finish, Abort, Batch}
use Rattle.crdt_core.specs.Fitting.{is_vector, are_placed_at, fits_commit, fits_part, are_apart, fits_message, fits_record, unfit_next, unfit_under}
use Rattle.crdt_core.specs.Log.{end_of_time, prepared, prepare_time, prepared_lead, prepared_snapshot, committed, committed_at, aborted, pending, taken, taken_at, logged_bound, is_named_in, holds, held_at, grown}
use Rattle.crdt_core.specs.Parts.{lists, vector_in}

or_both : (a b c : Bool) → (b ≡ true → c ≡ true) → (a || b) ≡ true → (a || c) ≡ true
or_both true b c f h = refl
or_both false b c f h = f h

module _ {E : Type 0} where
  -- who is told of is named
  pub prepared_named : (log : List (Record E)) (u : TxId) → prepared log u ≡ true → is_named_in log u ≡ true
  prepared_named [] u h = absurd (true≢false (sym h))
  prepared_named (Lease n ∷ log) u h = prepared_named log u h
  prepared_named (Prepare t l n s w ∷ log) u h = or_both (same_tx t u) (prepared log u) (is_named_in log u) (prepared_named log u) h
  prepared_named (Decide t c ∷ log) u h = or_right (same_tx t u) (is_named_in log u) (prepared_named log u h)
  prepared_named (Finish t c ∷ log) u h = or_right (same_tx t u) (is_named_in log u) (prepared_named log u h)
  prepared_named (Abort t ∷ log) u h = or_right (same_tx t u) (is_named_in log u) (prepared_named log u h)
  prepared_named (Batch m ∷ log) u h = or_right (lists m.parts u) (is_named_in log u) (prepared_named log u h)

  pub committed_named : (log : List (Record E)) (u : TxId) → committed log u ≡ true → is_named_in log u ≡ true
  committed_named [] u h = absurd (true≢false (sym h))
  committed_named (Lease n ∷ log) u h = committed_named log u h
  committed_named (Prepare t l n s w ∷ log) u h = or_right (same_tx t u) (is_named_in log u) (committed_named log u h)
  committed_named (Decide t c ∷ log) u h = or_both (same_tx t u) (committed log u) (is_named_in log u) (committed_named log u) h
  committed_named (Finish t c ∷ log) u h = or_both (same_tx t u) (committed log u) (is_named_in log u) (committed_named log u) h
  committed_named (Abort t ∷ log) u h = or_right (same_tx t u) (is_named_in log u) (committed_named log u h)
  committed_named (Batch m ∷ log) u h = or_right (lists m.parts u) (is_named_in log u) (committed_named log u h)

  pub aborted_named : (log : List (Record E)) (u : TxId) → aborted log u ≡ true → is_named_in log u ≡ true
  aborted_named [] u h = absurd (true≢false (sym h))
  aborted_named (Lease n ∷ log) u h = aborted_named log u h
  aborted_named (Prepare t l n s w ∷ log) u h = or_right (same_tx t u) (is_named_in log u) (aborted_named log u h)
  aborted_named (Decide t c ∷ log) u h = or_right (same_tx t u) (is_named_in log u) (aborted_named log u h)
  aborted_named (Finish t c ∷ log) u h = or_right (same_tx t u) (is_named_in log u) (aborted_named log u h)
  aborted_named (Abort t ∷ log) u h = or_both (same_tx t u) (aborted log u) (is_named_in log u) (aborted_named log u) h
  aborted_named (Batch m ∷ log) u h = or_right (lists m.parts u) (is_named_in log u) (aborted_named log u h)

  pub taken_named : (log : List (Record E)) (u : TxId) → taken log u ≡ true → is_named_in log u ≡ true
  taken_named [] u h = absurd (true≢false (sym h))
  taken_named (Lease n ∷ log) u h = taken_named log u h
  taken_named (Prepare t l n s w ∷ log) u h = or_right (same_tx t u) (is_named_in log u) (taken_named log u h)
  taken_named (Decide t c ∷ log) u h = or_right (same_tx t u) (is_named_in log u) (taken_named log u h)
  taken_named (Finish t c ∷ log) u h = or_right (same_tx t u) (is_named_in log u) (taken_named log u h)
  taken_named (Abort t ∷ log) u h = or_right (same_tx t u) (is_named_in log u) (taken_named log u h)
  taken_named (Batch m ∷ log) u h = or_both (lists m.parts u) (taken log u) (is_named_in log u) (taken_named log u) h

  -- nothing is told of who isn't named
  pub record IsUnknown (log : List (Record E)) (u : TxId) : Type 0 where
    pub prepared : prepared log u ≡ false
    pub committed : committed log u ≡ false
    pub aborted : aborted log u ≡ false
    pub taken : taken log u ≡ false

  pub unknown : (log : List (Record E)) (u : TxId) → is_named_in log u ≡ false → IsUnknown log u
  unknown log u n = record {
    prepared = false_from_ne_true _ (λ h. true≢false (sym (prepared_named log u h) ∙ n));
    committed = false_from_ne_true _ (λ h. true≢false (sym (committed_named log u h) ∙ n));
    aborted = false_from_ne_true _ (λ h. true≢false (sym (aborted_named log u h) ∙ n));
    taken = false_from_ne_true _ (λ h. true≢false (sym (taken_named log u h) ∙ n));
  }

  pub pending_prepared : (log : List (Record E)) (u : TxId) → pending log u ≡ true → prepared log u ≡ true
  pending_prepared log u h = (and_parts (prepared log u) (not (committed log u || aborted log u)) h).0

  -- a part among those that fit a message
  part_fits : (sites parts : ℕ) (m : Message E) (xs : List (Part E)) (u : TxId) → list_all (fits_part sites parts m) xs ≡ true → lists xs u ≡ true → (u.site ≡ m.from) × (length (vector_in xs u) ≡ sites)
  part_fits sites parts m [] u f h = absurd (true≢false (sym h))
  part_fits sites parts m (x ∷ xs) u f h =
      let here = and_parts (fits_part sites parts m x) (list_all (fits_part sites parts m) xs) f in
      let site = and_parts (x.tx.site == m.from) _ here.0 in
      let wide = and_parts (is_vector sites x.c) _ site.1 in ⊎_elim
      (λ (e : same_tx x.tx u ≡ true). (
        ap (λ (v : TxId). v.site) (sym (same_tx_is x.tx u e)) ∙ eqb-true x.tx.site m.from site.0,
        ap (λ b. length (if b then x.c else vector_in xs u)) e ∙ eqb-true (length x.c) sites (and_parts (length x.c == sites) _ wide.0).0,
      ))
      (λ (e : same_tx x.tx u ≡ false).
      let r = part_fits sites parts m xs u here.1 (ap (λ b. b || lists xs u) (sym e) ∙ h) in
      (r.0, ap (λ b. length (if b then x.c else vector_in xs u)) e ∙ r.1))
      (cases_Bool (same_tx x.tx u))

  -- none of these parts is of one that is named
  pub part_new : (log : List (Record E)) (xs : List (Part E)) (u : TxId) → list_all (λ x. not (is_named_in log x.tx)) xs ≡ true → lists xs u ≡ true → is_named_in log u ≡ false
  part_new log [] u f h = absurd (true≢false (sym h))
  part_new log (x ∷ xs) u f h =
      let here = and_parts (not (is_named_in log x.tx)) (list_all (λ y. not (is_named_in log y.tx)) xs) f in ⊎_elim
      (λ (e : same_tx x.tx u ≡ true). ap (λ v. is_named_in log v) (sym (same_tx_is x.tx u e)) ∙ not-true (is_named_in log x.tx) here.0)
      (λ (e : same_tx x.tx u ≡ false). part_new log xs u here.1 (ap (λ b. b || lists xs u) (sym e) ∙ h))
      (cases_Bool (same_tx x.tx u))

-- what a record that fits has to be
pub fits_first : (o : Option ℕ) (b : Bool) (n : ℕ) → unfit_next o b n ≡ None → (o ≡ None) × (b ≡ true)
fits_first (Some k) b n h = absurd (let e : Some k ≡ None = h in cc)
fits_first None true n h = (refl, refl)
fits_first None false n h = absurd (let e : Some n ≡ None = h in cc)

-- under a ceiling of the log's last lease
module _ {E : Type 0} (sites parts : ℕ) (id : PartId) (top : ℕ) where
  -- what the record of a prepare that fits says
  pub record Prepares (log : List (Record E)) (t : TxId) (n : ℕ) (s : List ℕ) : Type 0 where
    pub home : t.site ≡ id.site
    pub new : is_named_in log t ≡ false
    pub wide : length s ≡ sites
    pub timed : 1 ≤ n
    pub under : n ≤ top

  pub prepares : (log : List (Record E)) (t : TxId) (l n : ℕ) (s : List ℕ) (w : List (Upd E)) → fits_record sites parts id top log (Prepare t l n s w) ≡ true → Prepares log t n s
  prepares log t l n s w f =
      let a = and_parts (t.site == id.site) _ f in
      let b = and_parts (leb 1 t.part) _ a.1 in
      let c = and_parts (leb t.part parts) _ b.1 in
      let d = and_parts (not (is_named_in log t)) _ c.1 in
      let e = and_parts (leb 1 l) _ d.1 in
      let g = and_parts (leb l id.part) _ e.1 in
      let h = and_parts (is_vector sites s) _ g.1 in
      let i = and_parts (are_placed_at parts id.part w) _ h.1 in
      let j = and_parts (ltb (entry s id.site) n) (leb n top) i.1 in
      let over = ltb-true (entry s id.site) n j.0 in record {
        home = eqb-true t.site id.site a.0;
        new = not-true (is_named_in log t) d.0;
        wide = eqb-true (length s) sites (and_parts (length s == sites) _ h.0).0;
        timed = omega (arith, over);
        under = leb-true n top j.1;
      }

  -- what the record of a commit that fits says
  pub record Ends (log : List (Record E)) (t : TxId) (c : List ℕ) : Type 0 where
    pub waits : pending log t ≡ true
    pub wide : length c ≡ sites

  commit_wide : (log : List (Record E)) (t : TxId) (c : List ℕ) → fits_commit sites id log t c ≡ true → length c ≡ sites
  commit_wide log t c f = eqb-true (length c) sites (and_parts (length c == sites) _ (and_parts (is_vector sites c) _ f).0).0

  pub decides : (log : List (Record E)) (t : TxId) (c : List ℕ) → fits_record sites parts id top log (Decide t c) ≡ true → Ends log t c
  decides log t c f =
      let a = and_parts (pending log t) _ f in
      let b = and_parts (prepared_lead log t == id.part) _ a.1 in
      record { waits = a.0; wide = commit_wide log t c b.1 }

  pub finishes : (log : List (Record E)) (t : TxId) (c : List ℕ) → fits_record sites parts id top log (Finish t c) ≡ true → Ends log t c
  finishes log t c f =
      let a = and_parts (pending log t) _ f in
      let b = and_parts (not (prepared_lead log t == id.part)) _ a.1 in
      record { waits = a.0; wide = commit_wide log t c b.1 }

  -- what the record of a message that fits says
  pub record Brings (log : List (Record E)) (m : Message E) : Type 0 where
    pub away : m.from ≢ id.site
    pub first : 1 ≤ m.from
    pub last : m.from ≤ sites
    pub fit : list_all (fits_part sites parts m) m.parts ≡ true
    pub apart : are_apart m.parts ≡ true
    pub new : list_all (λ x. not (is_named_in log x.tx)) m.parts ≡ true

  pub brings : (log : List (Record E)) (m : Message E) → fits_record sites parts id top log (Batch m) ≡ true → Brings log m
  brings log m f =
      let both = and_parts (fits_message sites parts id m) _ f in
      let a = and_parts (not (m.from == id.site)) _ both.0 in
      let b = and_parts (leb 1 m.from) _ a.1 in
      let c = and_parts (leb m.from sites) _ b.1 in
      let d = and_parts (m.to == id.site) _ c.1 in
      let e = and_parts (m.part == id.part) _ d.1 in
      let g = and_parts (leb m.lo end_of_time) _ e.1 in
      let h = and_parts (leb m.hi end_of_time) _ g.1 in
      let i = and_parts (list_all (fits_part sites parts m) m.parts) (are_apart m.parts) h.1 in record {
        away = eqb-false m.from id.site (not-true (m.from == id.site) a.0);
        first = leb-true 1 m.from b.0;
        last = leb-true m.from sites c.0;
        fit = i.0;
        apart = i.1;
        new = (and_parts (leb (logged_bound log m.from) m.lo) _ both.1).1;
      }

  abbrev pub Fit : List (Record E) → Type 0
  Fit log = unfit_under sites parts id top log ≡ None

  pub rest_fits : (r : Record E) (log : List (Record E)) → Fit (r ∷ log) → Fit log
  rest_fits r log f = (fits_first (unfit_under sites parts id top log) (fits_record sites parts id top log r) (length log) f).0

  pub last_fits : (r : Record E) (log : List (Record E)) → Fit (r ∷ log) → fits_record sites parts id top log r ≡ true
  last_fits r log f = (fits_first (unfit_under sites parts id top log) (fits_record sites parts id top log r) (length log) f).1

  -- what was prepared here began at this site, at a time above 0, on a snapshot with an entry for each site
  pub record IsHome (log : List (Record E)) (u : TxId) : Type 0 where
    pub home : u.site ≡ id.site
    pub timed : 1 ≤ prepare_time log u
    pub wide : length (prepared_snapshot log u) ≡ sites

  alike : (log new : List (Record E)) (u : TxId) → prepare_time new u ≡ prepare_time log u → prepared_snapshot new u ≡ prepared_snapshot log u → IsHome log u → IsHome new u
  alike log new u e f h = record { home = h.home; timed = subst (λ n. 1 ≤ n) (sym e) h.timed; wide = ap length f ∙ h.wide }

  pub prepared_home : (log : List (Record E)) → Fit log → (u : TxId) → prepared log u ≡ true → IsHome log u
  prepared_home [] f u h = absurd (true≢false (sym h))
  prepared_home (Lease n ∷ log) f u h = alike log (Lease n ∷ log) u refl refl (prepared_home log (rest_fits (Lease n) log f) u h)
  prepared_home (Prepare t l n s w ∷ log) f u h = ⊎_elim
      (λ (e : same_tx t u ≡ true).
      let p = prepares log t l n s w (last_fits (Prepare t l n s w) log f) in record {
        home = ap (λ (v : TxId). v.site) (sym (same_tx_is t u e)) ∙ p.home;
        timed = subst (λ b. 1 ≤ (if b then n else prepare_time log u)) (sym e) p.timed;
        wide = ap (λ b. length (if b then s else prepared_snapshot log u)) e ∙ p.wide;
      })
      (λ (e : same_tx t u ≡ false).
      alike log (Prepare t l n s w ∷ log) u (ap (λ b. if b then n else prepare_time log u) e) (ap (λ b. if b then s else prepared_snapshot log u) e)
      (prepared_home log (rest_fits (Prepare t l n s w) log f) u (ap (λ b. b || prepared log u) (sym e) ∙ h)))
      (cases_Bool (same_tx t u))
  prepared_home (Decide t c ∷ log) f u h = alike log (Decide t c ∷ log) u refl refl (prepared_home log (rest_fits (Decide t c) log f) u h)
  prepared_home (Finish t c ∷ log) f u h = alike log (Finish t c ∷ log) u refl refl (prepared_home log (rest_fits (Finish t c) log f) u h)
  prepared_home (Abort t ∷ log) f u h = alike log (Abort t ∷ log) u refl refl (prepared_home log (rest_fits (Abort t) log f) u h)
  prepared_home (Batch m ∷ log) f u h = alike log (Batch m ∷ log) u refl refl (prepared_home log (rest_fits (Batch m) log f) u h)

  pub pending_home : (log : List (Record E)) → Fit log → (u : TxId) → pending log u ≡ true → IsHome log u
  pending_home log f u h = prepared_home log f u (pending_prepared log u h)

  -- what was committed here began at this site, and its commit vector has an entry for each site
  pub record IsOwn (log : List (Record E)) (u : TxId) : Type 0 where
    pub home : u.site ≡ id.site
    pub wide : length (committed_at log u) ≡ sites

  ended : (log : List (Record E)) → Fit log → (t : TxId) (c : List ℕ) → Ends log t c → (u : TxId) → (committed log u ≡ true → IsOwn log u) → (same_tx t u || committed log u) ≡ true
      → (u.site ≡ id.site) × (length (if same_tx t u then c else committed_at log u) ≡ sites)
  ended log f t c ends u older h = ⊎_elim
      (λ (e : same_tx t u ≡ true). (ap (λ (v : TxId). v.site) (sym (same_tx_is t u e)) ∙ (pending_home log f t ends.waits).home, ap (λ b. length (if b then c else committed_at log u)) e ∙ ends.wide))
      (λ (e : same_tx t u ≡ false). let r = older (ap (λ b. b || committed log u) (sym e) ∙ h) in (r.home, ap (λ b. length (if b then c else committed_at log u)) e ∙ r.wide))
      (cases_Bool (same_tx t u))

  pub committed_home : (log : List (Record E)) → Fit log → (u : TxId) → committed log u ≡ true → IsOwn log u
  committed_home [] f u h = absurd (true≢false (sym h))
  committed_home (Lease n ∷ log) f u h = let r = committed_home log (rest_fits (Lease n) log f) u h in record { home = r.home; wide = r.wide }
  committed_home (Prepare t l n s w ∷ log) f u h = let r = committed_home log (rest_fits (Prepare t l n s w) log f) u h in record { home = r.home; wide = r.wide }
  committed_home (Decide t c ∷ log) f u h =
      let g = rest_fits (Decide t c) log f in
      let r = ended log g t c (decides log t c (last_fits (Decide t c) log f)) u (committed_home log g u) h in record { home = r.0; wide = r.1 }
  committed_home (Finish t c ∷ log) f u h =
      let g = rest_fits (Finish t c) log f in
      let r = ended log g t c (finishes log t c (last_fits (Finish t c) log f)) u (committed_home log g u) h in record { home = r.0; wide = r.1 }
  committed_home (Abort t ∷ log) f u h = let r = committed_home log (rest_fits (Abort t) log f) u h in record { home = r.home; wide = r.wide }
  committed_home (Batch m ∷ log) f u h = let r = committed_home log (rest_fits (Batch m) log f) u h in record { home = r.home; wide = r.wide }

  -- what was brought began at another site, and its commit vector has an entry for each site
  pub record IsForeign (log : List (Record E)) (u : TxId) : Type 0 where
    pub away : u.site ≢ id.site
    pub wide : length (taken_at log u) ≡ sites

  pub taken_away : (log : List (Record E)) → Fit log → (u : TxId) → taken log u ≡ true → IsForeign log u
  taken_away [] f u h = absurd (true≢false (sym h))
  taken_away (Lease n ∷ log) f u h = let r = taken_away log (rest_fits (Lease n) log f) u h in record { away = r.away; wide = r.wide }
  taken_away (Prepare t l n s w ∷ log) f u h = let r = taken_away log (rest_fits (Prepare t l n s w) log f) u h in record { away = r.away; wide = r.wide }
  taken_away (Decide t c ∷ log) f u h = let r = taken_away log (rest_fits (Decide t c) log f) u h in record { away = r.away; wide = r.wide }
  taken_away (Finish t c ∷ log) f u h = let r = taken_away log (rest_fits (Finish t c) log f) u h in record { away = r.away; wide = r.wide }
  taken_away (Abort t ∷ log) f u h = let r = taken_away log (rest_fits (Abort t) log f) u h in record { away = r.away; wide = r.wide }
  taken_away (Batch m ∷ log) f u h =
      let b = brings log m (last_fits (Batch m) log f) in ⊎_elim
      (λ (e : lists m.parts u ≡ true).
      let p = part_fits sites parts m m.parts u b.fit e in
      record { away = λ k. b.away (sym p.0 ∙ k); wide = ap (λ c. length (if c then vector_in m.parts u else taken_at log u)) e ∙ p.1 })
      (λ (e : lists m.parts u ≡ false).
      let r = taken_away log (rest_fits (Batch m) log f) u (ap (λ c. c || taken log u) (sym e) ∙ h) in
      record { away = r.away; wide = ap (λ c. length (if c then vector_in m.parts u else taken_at log u)) e ∙ r.wide })
      (cases_Bool (lists m.parts u))

  -- what waits or was committed here wasn't brought
  pub pending_untaken : (log : List (Record E)) → Fit log → (u : TxId) → pending log u ≡ true → taken log u ≡ false
  pending_untaken log f u h = false_from_ne_true _ (λ k. (taken_away log f u k).away (pending_home log f u h).home)

  -- nor is it held
  pub pending_unheld : (log : List (Record E)) → Fit log → (u : TxId) → pending log u ≡ true → holds log u ≡ false
  pending_unheld log f u h = or_from (committed log u) (taken log u) (or_parts (committed log u) (aborted log u) (not-true (committed log u || aborted log u) (and_parts (prepared log u) _ h).1)).0 (pending_untaken log f u h)

  -- each commit vector that is held has an entry for each site
  pub held_wide : (log : List (Record E)) → Fit log → (u : TxId) → holds log u ≡ true → length (held_at log u) ≡ sites
  held_wide log f u h = ⊎_elim
      (λ (e : committed log u ≡ true). ap (λ b. length (if b then committed_at log u else taken_at log u)) e ∙ (committed_home log f u e).wide)
      (λ (e : committed log u ≡ false). ap (λ b. length (if b then committed_at log u else taken_at log u)) e ∙ (taken_away log f u (ap (λ b. b || taken log u) (sym e) ∙ h)).wide)
      (cases_Bool (committed log u))

  -- no prepare time is above the ceiling
  pub prepared_under : (log : List (Record E)) → Fit log → (u : TxId) → prepared log u ≡ true → prepare_time log u ≤ top
  prepared_under [] f u h = absurd (true≢false (sym h))
  prepared_under (Lease n ∷ log) f u h = prepared_under log (rest_fits (Lease n) log f) u h
  prepared_under (Prepare t l n s w ∷ log) f u h = ⊎_elim
      (λ (e : same_tx t u ≡ true). subst (λ b. (if b then n else prepare_time log u) ≤ top) (sym e) (prepares log t l n s w (last_fits (Prepare t l n s w) log f)).under)
      (λ (e : same_tx t u ≡ false). subst (λ b. (if b then n else prepare_time log u) ≤ top) (sym e) (prepared_under log (rest_fits (Prepare t l n s w) log f) u (ap (λ b. b || prepared log u) (sym e) ∙ h)))
      (cases_Bool (same_tx t u))
  prepared_under (Decide t c ∷ log) f u h = prepared_under log (rest_fits (Decide t c) log f) u h
  prepared_under (Finish t c ∷ log) f u h = prepared_under log (rest_fits (Finish t c) log f) u h
  prepared_under (Abort t ∷ log) f u h = prepared_under log (rest_fits (Abort t) log f) u h
  prepared_under (Batch m ∷ log) f u h = prepared_under log (rest_fits (Batch m) log f) u h

  pub pending_under : (log : List (Record E)) → Fit log → (u : TxId) → pending log u ≡ true → prepare_time log u ≤ top
  pending_under log f u h = prepared_under log f u (pending_prepared log u h)

  -- of a log that fits each front fits, the oldest first
  pub front_fits : (log more : List (Record E)) → Fit (grown log more) → Fit log
  front_fits log [] f = f
  front_fits log (r ∷ more) f = rest_fits r log (front_fits (r ∷ log) more f)
