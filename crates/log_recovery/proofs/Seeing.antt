-- How each kind of record is judged, and what is seen after it.
use Rattle.std.proofs.Common.{◌≡◌, ⊎_elim, ℕ, ◌≤◌, leb, Bool, true, false, not, ◌&&◌, ◌||◌, List, [], ◌∷◌, length, reverse, None, Some, is_none, is_some, cond, ◌+◌, Result, Ok, Err, OnOk, IfOk, refl, sym, ap, ◌∙◌, subst, arith}
use Rattle.std.specs.Prelude.{◌==◌, if◌then◌else◌}
use Rattle.std.specs.List.{list_all}
use Rattle.std.proofs.lemmas.Bool.{cases_Bool, and_parts, eqb-true, leb-true}
use Rattle.site_vector.specs.declared.ids.PartId.{PartId}
use Rattle.site_vector.specs.declared.ids.TxId.{TxId}
use Rattle.site_vector.specs.Ids.{same_tx}
use Rattle.site_vector.specs.Order.{same_tx_is}
use Rattle.site_vector.specs.Vector.{entry}
use Rattle.crdt_core.specs.declared.record.Upd.{Upd}
use Rattle.crdt_core.specs.declared.record.Part.{Part}
use Rattle.crdt_core.specs.declared.record.Message.{Message}
use Rattle.crdt_core.specs.declared.record.Record.{Record}
use Rattle.crdt_core.specs.declared.record.Record.TheVariants.{Lease, Prepare, Decide, Finish, Abort, Batch}
use Rattle.crdt_core.specs.Fitting.{is_vector, fits_part, are_apart, fits_record, unfit_next, unfit_under}
use Rattle.crdt_core.specs.Log.{end_of_time, prepared, committed, aborted, pending, logged_bound, is_named_in, grown}
use Rattle.crdt_core.specs.Parts.{lists}
use Rattle.log_recovery.specs.declared.named.Fate.TheVariants.{Waits, Ended}
use Rattle.log_recovery.specs.declared.named.Vote.{Vote}
use Rattle.log_recovery.specs.declared.seen.Seen.{Seen}
use Rattle.log_recovery.specs.Fates.{fate_of, vote_of, fates_of, vote_in, IsSeen, IsSound, IsSamePlace, IsEmpty, Judges, Sees, may_commit, may_end, may_prepare, is_for, may_bring, are_new}
use Rattle.log_recovery.specs.FittingLaws.{unknown, part_new, prepares, brings}
use Rattle.log_recovery.specs.Ledgers.{AreBounds, raised}
use Rattle.log_recovery.proofs.FateSteps.{begun, over, stopped, brought, has_fate, has_none, has_vote, pending_named}
use Rattle.log_recovery.proofs.Progress.{whole_is}
use Rattle.log_recovery.proofs.OneRecordMore.{batch_bounds}

module _ {E : Type 0} (seen : Seen) (log : List (Record E)) (s : IsSeen log seen) where
  abbrev Fits : Record E → Bool
  Fits r = fits_record seen.sites seen.parts seen.id seen.top log r

  named : (u : TxId) → is_some (fates_of seen u) ≡ is_named_in log u
  named u = ap (λ o. is_some o) (s.fates u) ∙ has_fate (pending log u) (is_named_in log u) (vote_in log u) (pending_named log u)

  unnamed : (u : TxId) → is_none (fates_of seen u) ≡ not (is_named_in log u)
  unnamed u = ap (λ o. is_none o) (s.fates u) ∙ has_none (pending log u) (is_named_in log u) (vote_in log u) (pending_named log u)

  voted : (u : TxId) → vote_of (fates_of seen u) ≡ (if pending log u then Some (vote_in log u) else None)
  voted u = ap vote_of (s.fates u) ∙ has_vote (pending log u) (is_named_in log u) (vote_in log u)

  pub judged_prepare : (t : TxId) (v : Vote) (w : List (Upd E)) → may_prepare seen.sites seen.parts seen.id (is_some (fates_of seen t)) seen.top t v w ≡ Fits (Prepare t v.lead v.time v.s w)
  judged_prepare t v w = λ i. may_prepare seen.sites seen.parts seen.id (named t i) seen.top t v w

  ended : (sites : ℕ) (id : PartId) (leads q : Bool) (v : Vote) (c : List ℕ) → may_end sites id leads (if q then Some v else None) c ≡ (q && ((if leads then v.lead == id.part else not (v.lead == id.part)) && may_commit sites id v c))
  ended sites id leads true v c = refl
  ended sites id leads false v c = refl

  pub judged_decide : (t : TxId) (c : List ℕ) → may_end seen.sites seen.id true (vote_of (fates_of seen t)) c ≡ Fits (Decide t c)
  judged_decide t c = ap (λ o. may_end seen.sites seen.id true o c) (voted t) ∙ ended seen.sites seen.id true (pending log t) (vote_in log t) c

  pub judged_finish : (t : TxId) (c : List ℕ) → may_end seen.sites seen.id false (vote_of (fates_of seen t)) c ≡ Fits (Finish t c)
  judged_finish t c = ap (λ o. may_end seen.sites seen.id false o c) (voted t) ∙ ended seen.sites seen.id false (pending log t) (vote_in log t) c

  waiting : (q : Bool) (v : Vote) → is_some (if q then Some v else None) ≡ q
  waiting true v = refl
  waiting false v = refl

  pub judged_abort : (t : TxId) → is_some (vote_of (fates_of seen t)) ≡ Fits (Abort t)
  judged_abort t = ap (λ o. is_some o) (voted t) ∙ waiting (pending log t) (vote_in log t)

  chain : (a b c d e f g x : Bool) → (a && (b && (c && (d && (e && (f && (g && x))))))) ≡ ((a && (b && (c && (d && (e && (f && g)))))) && x)
  chain false b c d e f g x = refl
  chain true false c d e f g x = refl
  chain true true false d e f g x = refl
  chain true true true false e f g x = refl
  chain true true true true false f g x = refl
  chain true true true true true false g x = refl
  chain true true true true true true g x = refl

  turned : (h l a b n : Bool) → ((h && (l && a)) && (b && n)) ≡ ((h && (l && b)) && (n && a))
  turned false l a b n = refl
  turned true false a b n = refl
  turned true true true true true = refl
  turned true true true true false = refl
  turned true true true false n = refl
  turned true true false true true = refl
  turned true true false true false = refl
  turned true true false false n = refl

  module _ (m : Message E) where
    all_new : list_all (λ x. is_none (fates_of seen x.tx)) m.parts ≡ list_all (λ x. not (is_named_in log x.tx)) m.parts
    all_new = λ i. list_all (λ x. unnamed x.tx i) m.parts

    -- the message fits exactly where it may be brought and its parts are new
    batch_fits : Fits (Batch m) ≡ ((is_for seen.sites seen.id m && (list_all (fits_part seen.sites seen.parts m) m.parts && leb (logged_bound log m.from) m.lo)) && (list_all (λ x. not (is_named_in log x.tx)) m.parts && are_apart m.parts))
    batch_fits = ap (λ x. x && (leb (logged_bound log m.from) m.lo && list_all (λ x. not (is_named_in log x.tx)) m.parts))
        (chain (not (m.from == seen.id.site)) (leb 1 m.from) (leb m.from seen.sites) (m.to == seen.id.site) (m.part == seen.id.part) (leb m.lo end_of_time) (leb m.hi end_of_time) (list_all (fits_part seen.sites seen.parts m) m.parts && are_apart m.parts))
        ∙ turned (is_for seen.sites seen.id m) (list_all (fits_part seen.sites seen.parts m) m.parts) (are_apart m.parts) (leb (logged_bound log m.from) m.lo) (list_all (λ x. not (is_named_in log x.tx)) m.parts)

    within : is_for seen.sites seen.id m ≡ true → (1 ≤ m.from) × (m.from ≤ seen.sites)
    within h =
        let a = and_parts (not (m.from == seen.id.site)) _ h in
        let b = and_parts (leb 1 m.from) _ a.1 in
        let c = and_parts (leb m.from seen.sites) _ b.1 in
        (leb-true 1 m.from b.0, leb-true m.from seen.sites c.0)

    pub judged_batch : length seen.bounds ≡ seen.sites → (may_bring seen.sites seen.parts seen.id seen.bounds m && are_new (fates_of seen) m.parts) ≡ Fits (Batch m)
    judged_batch w = ⊎_elim
        (λ (h : is_for seen.sites seen.id m ≡ true).
        let r = within h in
        let bound : entry seen.bounds m.from ≡ logged_bound log m.from = s.bounds m.from r.0 (subst (λ n. m.from ≤ n) (sym w) r.1) in
        ap (λ n. (is_for seen.sites seen.id m && (list_all (fits_part seen.sites seen.parts m) m.parts && leb n m.lo)) && are_new (fates_of seen) m.parts) bound
        ∙ ap (λ n. (is_for seen.sites seen.id m && (list_all (fits_part seen.sites seen.parts m) m.parts && leb (logged_bound log m.from) m.lo)) && (n && are_apart m.parts)) all_new ∙ sym (batch_fits))
        (λ (h : is_for seen.sites seen.id m ≡ false).
        ap (λ b. (b && (list_all (fits_part seen.sites seen.parts m) m.parts && leb (entry seen.bounds m.from) m.lo)) && are_new (fates_of seen) m.parts) h
        ∙ sym (batch_fits ∙ ap (λ b. (b && (list_all (fits_part seen.sites seen.parts m) m.parts && leb (logged_bound log m.from) m.lo)) && (list_all (λ x. not (is_named_in log x.tx)) m.parts && are_apart m.parts)) h))
        (cases_Bool (is_for seen.sites seen.id m))

chosen_vote : (b : Bool) (v w : Vote) → (if b then v else w) ≡ record { lead = if b then v.lead else w.lead; time = if b then v.time else w.time; s = if b then v.s else w.s }
chosen_vote true v w = refl
chosen_vote false v w = refl

module _ {E : Type 0} (old new : Seen) where
  pub sees_lease : (n : ℕ) → ((u : TxId) → fates_of new u ≡ fates_of old u) → new.bounds ≡ old.bounds → Sees {E = E} old (Lease n) new
  sees_lease n f b log s fits = record { fates = λ u. f u ∙ s.fates u; bounds = subst (λ x. AreBounds (Lease n ∷ log) x) (sym b) s.bounds }

  pub sees_prepare : (t : TxId) (v : Vote) (w : List (Upd E)) → ((u : TxId) → fates_of new u ≡ cond (same_tx t u) (Some (Waits v)) (fates_of old u)) → new.bounds ≡ old.bounds → Sees old (Prepare t v.lead v.time v.s w) new
  sees_prepare t v w put b log s fits =
      let k = unknown log t (prepares old.sites old.parts old.id old.top log t v.lead v.time v.s w fits).new in record {
        fates = λ u. put u ∙ ap (λ o. cond (same_tx t u) (Some (Waits v)) o) (s.fates u)
            ∙ begun (same_tx t u) (prepared log u) (committed log u) (aborted log u) (is_named_in log u) v (vote_in log u) (λ x. ap (committed log) (sym (same_tx_is t u x)) ∙ k.committed) (λ x. ap (aborted log) (sym (same_tx_is t u x)) ∙ k.aborted)
            ∙ ap (λ x. fate_of ((same_tx t u || prepared log u) && not (committed log u || aborted log u)) (same_tx t u || is_named_in log u) x) (chosen_vote (same_tx t u) v (vote_in log u));
        bounds = subst (λ x. AreBounds (Prepare t v.lead v.time v.s w ∷ log) x) (sym b) s.bounds;
      }

  module _ (t : TxId) (put : (u : TxId) → fates_of new u ≡ cond (same_tx t u) (Some Ended) (fates_of old u)) (b : new.bounds ≡ old.bounds) where
    pub sees_decide : (c : List ℕ) → Sees {E = E} old (Decide t c) new
    sees_decide c log s fits = record {
      fates = λ u. put u ∙ ap (λ o. cond (same_tx t u) (Some Ended) o) (s.fates u) ∙ over (same_tx t u) (prepared log u) (committed log u) (aborted log u) (is_named_in log u) (vote_in log u);
      bounds = subst (λ x. AreBounds (Decide t c ∷ log) x) (sym b) s.bounds;
    }

    pub sees_finish : (c : List ℕ) → Sees {E = E} old (Finish t c) new
    sees_finish c log s fits = record {
      fates = λ u. put u ∙ ap (λ o. cond (same_tx t u) (Some Ended) o) (s.fates u) ∙ over (same_tx t u) (prepared log u) (committed log u) (aborted log u) (is_named_in log u) (vote_in log u);
      bounds = subst (λ x. AreBounds (Finish t c ∷ log) x) (sym b) s.bounds;
    }

    pub sees_abort : Sees {E = E} old (Abort t) new
    sees_abort log s fits = record {
      fates = λ u. put u ∙ ap (λ o. cond (same_tx t u) (Some Ended) o) (s.fates u) ∙ stopped (same_tx t u) (prepared log u) (committed log u) (aborted log u) (is_named_in log u) (vote_in log u);
      bounds = subst (λ x. AreBounds (Abort t ∷ log) x) (sym b) s.bounds;
    }

  pub sees_batch : (m : Message E) → length old.bounds ≡ old.sites → ((u : TxId) → fates_of new u ≡ cond (lists m.parts u) (Some Ended) (fates_of old u)) → new.bounds ≡ raised old.bounds m.from m.hi → Sees old (Batch m) new
  sees_batch m w put b log s fits =
      let r = brings old.sites old.parts old.id old.top log m fits in record {
        fates = λ u. put u ∙ ap (λ o. cond (lists m.parts u) (Some Ended) o) (s.fates u)
            ∙ brought (lists m.parts u) (pending log u) (is_named_in log u) (vote_in log u) (λ x. ap (λ p. p && not (committed log u || aborted log u)) (unknown log u (part_new log m.parts u r.new x)).prepared);
        bounds = subst (λ x. AreBounds (Batch m ∷ log) x) (sym b) (batch_bounds old.sites old.parts old.id old.top log m old.bounds r.first (subst (λ n. m.from ≤ n) (sym w) r.last) s.bounds);
      }

  -- a message that may be brought fits where its parts are new
  pub brings_seen : {X : Type 0} (r : Result Bool X) (m : Message E) (ps : List (Part E)) → ps ≡ m.parts → length old.bounds ≡ old.sites → true ≡ may_bring old.sites old.parts old.id old.bounds m
      → IfOk r (λ fits. fits ≡ are_new (fates_of old) ps) → IfOk r (λ fits. fits ≡ true → (u : TxId) → fates_of new u ≡ cond (lists ps u) (Some Ended) (fates_of old u)) → new.bounds ≡ raised old.bounds m.from m.hi → OnOk r (Sees old (Batch m) new)
  brings_seen (Err x) m ps is w may judged put b = tt
  brings_seen (Ok fits) m ps is w may judged put b = λ log s h.
      let fit : fits ≡ true = judged ∙ ap (λ l. are_new (fates_of old) l) is ∙ ap (λ x. x && are_new (fates_of old) m.parts) may ∙ judged_batch old log s m w ∙ h in
      sees_batch m w (λ u. put fit u ∙ ap (λ l. cond (lists l u) (Some Ended) (fates_of old u)) is) b log s h

-- a vote that fits has a snapshot with an entry for each site
pub prepare_wide : {E : Type 0} (sites parts : ℕ) (id : PartId) (named : Bool) (most : ℕ) (t : TxId) (v : Vote) (w : List (Upd E)) → may_prepare sites parts id named most t v w ≡ true → length v.s ≡ sites
prepare_wide sites parts id named most t v w h =
    let a = and_parts (t.site == id.site) _ h in
    let b = and_parts (leb 1 t.part) _ a.1 in
    let c = and_parts (leb t.part parts) _ b.1 in
    let d = and_parts (not named) _ c.1 in
    let e = and_parts (leb 1 v.lead) _ d.1 in
    let f = and_parts (leb v.lead id.part) _ e.1 in
    let g = and_parts (is_vector sites v.s) _ f.1 in
    eqb-true (length v.s) sites (and_parts (length v.s == sites) _ g.0).0

-- an answer that a record doesn't fit is the log's first
pub unfit_grown : {E : Type 0} (sites parts : ℕ) (id : PartId) (top n : ℕ) (log more : List (Record E)) → unfit_under sites parts id top log ≡ Some n → unfit_under sites parts id top (grown log more) ≡ Some n
unfit_grown sites parts id top n log [] h = h
unfit_grown sites parts id top n log (r ∷ more) h = unfit_grown sites parts id top n (r ∷ log) more (ap (λ o. unfit_next o (fits_record sites parts id top log r) (length log)) h)

module _ {E : Type 0} (sites parts : ℕ) (id : PartId) (top : ℕ) (whole : List (Record E)) where
  -- of the whole log a front was seen, in which all fit, and the rest is to come
  pub record IsSeeing (n : ℕ) (rest : List (Record E)) (seen : Seen) : Type 0 where
    pub log : List (Record E)
    pub is : IsSeen log seen
    pub left : grown log rest ≡ whole
    pub fit : unfit_under sites parts id top log ≡ None
    pub many : length log ≡ n
    pub sound : IsSound seen
    pub same_id : seen.id ≡ id
    pub same_sites : seen.sites ≡ sites
    pub same_parts : seen.parts ≡ parts
    pub same_top : seen.top ≡ top

  module _ (n : ℕ) (all rest : List (Record E)) (r : Record E) (old : Seen) (e : all ≡ r ∷ rest) (p : IsSeeing n all old) where
    left : grown p.log (r ∷ rest) ≡ whole
    left = ap (λ x. grown p.log x) (sym e) ∙ p.left

    judged : (fits : Bool) → Judges old r fits → fits ≡ fits_record sites parts id top p.log r
    judged fits j = j p.log p.is ∙ (λ i. fits_record (p.same_sites i) (p.same_parts i) (p.same_id i) (p.same_top i) p.log r)

    pub seeing_more : (new : Seen) (fits : Bool) → fits ≡ true → Judges old r fits → Sees old r new → IsSound new → IsSamePlace old new → IsSeeing (n + 1) rest new
    seeing_more new fits h j sees sound same =
        let f : fits_record sites parts id top p.log r ≡ true = sym (judged fits j) ∙ h in
        let g : fits_record old.sites old.parts old.id old.top p.log r ≡ true = sym (j p.log p.is) ∙ h in record {
          log = r ∷ p.log;
          is = sees p.log p.is g;
          left = left;
          fit = ap (λ o. unfit_next o (fits_record sites parts id top p.log r) (length p.log)) p.fit ∙ ap (λ b. unfit_next None b (length p.log)) f;
          many = (let m = p.many in omega (arith, m));
          sound = sound;
          same_id = same.id ∙ p.same_id;
          same_sites = same.sites ∙ p.same_sites;
          same_parts = same.parts ∙ p.same_parts;
          same_top = same.top ∙ p.same_top;
        }

    pub seeing_stops : (fits : Bool) → fits ≡ false → Judges old r fits → Some n ≡ unfit_under sites parts id top whole
    seeing_stops fits h j =
        let f : fits_record sites parts id top p.log r ≡ false = sym (judged fits j) ∙ h in
        let here : unfit_under sites parts id top (r ∷ p.log) ≡ Some n = ap (λ o. unfit_next o (fits_record sites parts id top p.log r) (length p.log)) p.fit ∙ ap (λ b. unfit_next None b (length p.log)) f ∙ ap (λ k. Some k) p.many in
        sym (ap (λ l. unfit_under sites parts id top l) (sym left) ∙ unfit_grown sites parts id top n (r ∷ p.log) rest here)

  pub seeing_ends : (n : ℕ) (all : List (Record E)) (seen : Seen) → all ≡ [] → IsSeeing n all seen → None ≡ unfit_under sites parts id top whole
  seeing_ends n all seen e p = sym p.fit ∙ ap (λ l. unfit_under sites parts id top l) (ap (λ x. grown p.log x) (sym e) ∙ p.left)

pub seeing_starts : {E : Type 0} (sites parts : ℕ) (id : PartId) (top : ℕ) (rs : List (Record E)) (seen : Seen) → IsEmpty seen → IsSound seen → seen.id ≡ id → seen.sites ≡ sites → seen.parts ≡ parts → seen.top ≡ top → IsSeeing sites parts id top (reverse rs) 0 rs seen
seeing_starts sites parts id top rs seen none sound i j k l = record {
  log = [];
  is = record { fates = none.fates; bounds = λ q least most. none.bounds q };
  left = whole_is rs;
  fit = refl;
  many = refl;
  sound = sound;
  same_id = i;
  same_sites = j;
  same_parts = k;
  same_top = l;
}
