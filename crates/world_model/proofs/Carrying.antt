-- What may be asked in a run may be asked in a larger one, where others do not touch the transaction.
use Rattle.std.proofs.Common.{◌≡◌, ◌⊎◌, ⊎_elim, inl, inr, ℕ, ◌+◌, ◌≤◌, max, cond, Bool, true, false, ◌&&◌, ◌||◌, List, [], ◌∷◌, ◌++◌, refl, sym, ap, ◌∙◌, subst, arith, append-nil}
use Rattle.std.proofs.lemmas.Bool.{cases_Bool, or_left, or_right, or_cases, cond-true, cond-false}
use Rattle.site_vector.specs.declared.ids.PartId.{PartId}
use Rattle.site_vector.specs.declared.ids.TxId.{TxId}
use Rattle.site_vector.specs.Ids.{same_part, same_tx}
use Rattle.site_vector.specs.Order.{same_part_is, same_part_refl}
use Rattle.crdt_core.specs.declared.record.Upd.{Upd}
use Rattle.world_model.specs.rules.Event.{Event, Updated, Prepared, Entry, attempt, is_prepare, is_decide, is_own_abort, shows_decided, tried, voted, decide_tried, gave_up, is_decided, time_shown, time_of, WasShown, is_sent, sent_count, is_report, report_count, WasNumbered}
use Rattle.world_model.specs.rules.Dependency.{ShowsVector, WasVector, WereVectors, IsKnownJoin}
use Rattle.world_model.specs.rules.Plan.{change_by, updates_at}
use Rattle.world_model.specs.rules.Traces.{trace_of}
use Rattle.world_model.specs.rules.World.{is_begin}
use Rattle.world_model.proofs.Names.{clash, off}
use Rattle.world_model.specs.threads.Calls.{is_update, touches}
use Rattle.world_model.proofs.Silent.{AreSilent, Grown}

pub or_none : (a b : Bool) → (a || b) ≡ false → (a ≡ false) × (b ≡ false)
or_none true b h = clash refl h
or_none false b h = (refl, h)

module _ {E : Type 0} where
  abbrev pub any_in : (Event E → Bool) → List (Event E) → Bool
  any_in f [] = false
  any_in f (e ∷ trace) = f e || any_in f trace

  abbrev pub any_of : (Event E → Bool) → List (Entry E) → Bool
  any_of f [] = false
  any_of f (e ∷ run) = f e.event || any_of f run

  pub any_keep : (f : Event E → Bool) (more old : List (Event E)) → any_in f old ≡ true → any_in f (more ++ old) ≡ true
  any_keep f [] old h = h
  any_keep f (e ∷ more) old h = or_right _ _ (any_keep f more old h)

  -- what no silent event shows
  abbrev pub IsOwn : (Event E → Bool) → TxId → Type 0
  IsOwn f t = (e : Event E) → touches e t ≡ false → f e ≡ false

  any_quiet : (f : Event E → Bool) (t : TxId) (more old : List (Event E)) → IsOwn f t → AreSilent more t → any_in f (more ++ old) ≡ any_in f old
  any_quiet f t [] old q s = refl
  any_quiet f t (e ∷ more) old q s = ap (λ b. b || any_in f (more ++ old)) (q e s.0) ∙ any_quiet f t more old q s.1

  -- by partition
  pub at_step : (f : Event E → Bool) (b : Bool) (x : Event E) (trace : List (Event E)) (y : Bool) → y ≡ any_in f trace → ((b && f x) || y) ≡ any_in f (cond b (x ∷ trace) trace)
  at_step f true x trace y h = ap (λ z. f x || z) h
  at_step f false x trace y h = h

  pub tried_in : (run : List (Entry E)) (t : TxId) (p : PartId) → tried run t p ≡ any_in (λ a. is_prepare (attempt a) t) (trace_of p run)
  tried_in [] t p = refl
  tried_in (e ∷ run) t p = at_step (λ a. is_prepare (attempt a) t) (same_part e.at p) e.event (trace_of p run) (tried run t p) (tried_in run t p)

  pub voted_in : (run : List (Entry E)) (t : TxId) (p : PartId) → voted run t p ≡ any_in (λ a. is_prepare a t) (trace_of p run)
  voted_in [] t p = refl
  voted_in (e ∷ run) t p = at_step (λ a. is_prepare a t) (same_part e.at p) e.event (trace_of p run) (voted run t p) (voted_in run t p)

  -- over all
  decides_of : (run : List (Entry E)) (t : TxId) → decide_tried run t ≡ any_of (λ a. is_decide (attempt a) t) run
  decides_of [] t = refl
  decides_of (e ∷ run) t = ap (λ z. is_decide (attempt e.event) t || z) (decides_of run t)

  gives_of : (run : List (Entry E)) (t : TxId) → gave_up run t ≡ any_of (λ a. is_own_abort (attempt a) t) run
  gives_of [] t = refl
  gives_of (e ∷ run) t = ap (λ z. is_own_abort (attempt e.event) t || z) (gives_of run t)

  pub decided_of : (run : List (Entry E)) (t : TxId) → is_decided run t ≡ any_of (λ a. shows_decided a t) run
  decided_of [] t = refl
  decided_of (e ∷ run) t = ap (λ z. shows_decided e.event t || z) (decided_of run t)

  none_step : (f : Event E → Bool) (b : Bool) (x : Event E) (trace : List (Event E)) → f x ≡ false → any_in f trace ≡ false → any_in f (cond b (x ∷ trace) trace) ≡ false
  none_step f true x trace h k = ap (λ z. z || any_in f trace) h ∙ k
  none_step f false x trace h k = k

  none_at : (f : Event E → Bool) (run : List (Entry E)) (p : PartId) → any_of f run ≡ false → any_in f (trace_of p run) ≡ false
  none_at f [] p h = refl
  none_at f (e ∷ run) p h = let k = or_none (f e.event) (any_of f run) h in none_step f (same_part e.at p) e.event (trace_of p run) k.0 (none_at f run p k.1)

  none_tail : (f : Event E → Bool) (b : Bool) (x : Event E) (trace : List (Event E)) → any_in f (cond b (x ∷ trace) trace) ≡ false → any_in f trace ≡ false
  none_tail f true x trace h = (or_none (f x) (any_in f trace) h).1
  none_tail f false x trace h = h

  none_of : (f : Event E → Bool) (run : List (Entry E)) → ((p : PartId) → any_in f (trace_of p run) ≡ false) → any_of f run ≡ false
  none_of f [] h = refl
  none_of f (e ∷ run) h =
      let k : any_in f (e.event ∷ trace_of e.at run) ≡ false = ap (any_in f) (sym (cond-true (same_part e.at e.at) (e.event ∷ trace_of e.at run) (trace_of e.at run) (same_part_refl e.at))) ∙ h e.at in
      ap (λ z. z || any_of f run) (or_none (f e.event) _ k).0 ∙ none_of f run (λ p. none_tail f (same_part e.at p) e.event (trace_of p run) (h p))

  pub some_of : (f : Event E → Bool) (run : List (Entry E)) → any_of f run ≡ true → (p : PartId) × (any_in f (trace_of p run) ≡ true)
  some_of f [] h = off h
  some_of f (e ∷ run) h = ⊎_elim
      (λ (k : f e.event ≡ true). (e.at, ap (any_in f) (cond-true (same_part e.at e.at) (e.event ∷ trace_of e.at run) (trace_of e.at run) (same_part_refl e.at)) ∙ or_left _ _ k))
      (λ (k : any_of f run ≡ true). let i = some_of f run k in (i.0, some_step (same_part e.at i.0) i.0 i.1))
      (or_cases _ _ h)
    where
      some_step : (b : Bool) (p : PartId) → any_in f (trace_of p run) ≡ true → any_in f (cond b (e.event ∷ trace_of p run) (trace_of p run)) ≡ true
      some_step true p k = or_right _ _ k
      some_step false p k = k

  some_from : (f : Event E → Bool) (run : List (Entry E)) (p : PartId) → any_in f (trace_of p run) ≡ true → any_of f run ≡ true
  some_from f run p h = ⊎_elim (λ (k : any_of f run ≡ true). k) (λ (k : any_of f run ≡ false). clash h (none_at f run p k)) (cases_Bool (any_of f run))

  none_grown : (f : Event E → Bool) (t : TxId) (large small : List (Entry E)) (g : Grown large small) → IsOwn f t → ((p : PartId) → AreSilent (g.more p) t) → any_of f small ≡ false → any_of f large ≡ false
  none_grown f t large small g q s h = none_of f large (λ p. ap (any_in f) (g.is p) ∙ any_quiet f t (g.more p) (trace_of p small) q (s p) ∙ none_at f small p h)

  some_grown : (f : Event E → Bool) (large small : List (Entry E)) (g : Grown large small) → any_of f small ≡ true → any_of f large ≡ true
  some_grown f large small g h =
      let i = some_of f small h in
      some_from f large i.0 (ap (any_in f) (g.is i.0) ∙ any_keep f (g.more i.0) (trace_of i.0 small) i.1)

  own_prepare : (t : TxId) → IsOwn (λ a. is_prepare (attempt a) t) t
  own_prepare t e h = (or_none _ _ (or_none (is_update e t) _ (or_none (is_begin e t) _ h).1).1).0

  own_vote : (t : TxId) → IsOwn (λ a. is_prepare a t) t
  own_vote t (Prepared u s l w n) h = own_prepare t (Prepared u s l w n) h
  own_vote t e h = refl

  own_decide : (t : TxId) → IsOwn (λ a. is_decide (attempt a) t) t
  own_decide t e h = (or_none _ _ (or_none (is_prepare (attempt e) t) _ (or_none (is_update e t) _ (or_none (is_begin e t) _ h).1).1).1).0

  own_abort : (t : TxId) → IsOwn (λ a. is_own_abort (attempt a) t) t
  own_abort t e h = (or_none (is_decide (attempt e) t) _ (or_none (is_prepare (attempt e) t) _ (or_none (is_update e t) _ (or_none (is_begin e t) _ h).1).1).1).1

  pub tried_same : (t : TxId) (large small : List (Entry E)) (g : Grown large small) → ((p : PartId) → AreSilent (g.more p) t) → (p : PartId) → tried large t p ≡ tried small t p
  tried_same t large small g s p = let f : Event E → Bool = λ a. is_prepare (attempt a) t in
      tried_in large t p ∙ ap (any_in f) (g.is p) ∙ any_quiet f t (g.more p) (trace_of p small) (own_prepare t) (s p) ∙ sym (tried_in small t p)

  pub voted_same : (t : TxId) (large small : List (Entry E)) (g : Grown large small) → ((p : PartId) → AreSilent (g.more p) t) → (p : PartId) → voted large t p ≡ voted small t p
  voted_same t large small g s p = let f : Event E → Bool = λ a. is_prepare a t in
      voted_in large t p ∙ ap (any_in f) (g.is p) ∙ any_quiet f t (g.more p) (trace_of p small) (own_vote t) (s p) ∙ sym (voted_in small t p)

  pub undecided : (t : TxId) (large small : List (Entry E)) (g : Grown large small) → ((p : PartId) → AreSilent (g.more p) t) → decide_tried small t ≡ false → decide_tried large t ≡ false
  undecided t large small g s h = decides_of large t ∙ none_grown (λ a. is_decide (attempt a) t) t large small g (own_decide t) s (sym (decides_of small t) ∙ h)

  pub ungiven : (t : TxId) (large small : List (Entry E)) (g : Grown large small) → ((p : PartId) → AreSilent (g.more p) t) → gave_up small t ≡ false → gave_up large t ≡ false
  ungiven t large small g s h = gives_of large t ∙ none_grown (λ a. is_own_abort (attempt a) t) t large small g (own_abort t) s (sym (gives_of small t) ∙ h)

  pub decided_grown : (t : TxId) (large small : List (Entry E)) (g : Grown large small) → is_decided small t ≡ true → is_decided large t ≡ true
  decided_grown t large small g h = decided_of large t ∙ some_grown (λ a. shows_decided a t) large small g (sym (decided_of small t) ∙ h)

  -- updates
  abbrev pub changes_in : List (Event E) → TxId → List (Upd E)
  changes_in [] t = []
  changes_in (e ∷ trace) t = changes_in trace t ++ change_by e t

  change_step : (b : Bool) (us : List (Upd E)) (x : Event E) (trace : List (Event E)) (t : TxId) → us ≡ changes_in trace t → us ++ cond b (change_by x t) [] ≡ changes_in (cond b (x ∷ trace) trace) t
  change_step true us x trace t h = ap (λ l. l ++ change_by x t) h
  change_step false us x trace t h = append-nil us ∙ h

  pub updates_in : (run : List (Entry E)) (t : TxId) (p : PartId) → updates_at run t p ≡ changes_in (trace_of p run) t
  updates_in [] t p = refl
  updates_in (e ∷ run) t p = change_step (same_part e.at p) (updates_at run t p) e.event (trace_of p run) t (updates_in run t p)

  no_change : (e : Event E) (t : TxId) → touches e t ≡ false → change_by e t ≡ []
  no_change (Updated u s o own op read x stamp) t h = cond-false (same_tx u t) (x ∷ []) [] (or_none (same_tx u t) _ (or_none false _ h).1).0
  no_change e t h = refl

  changes_quiet : (t : TxId) (more old : List (Event E)) → AreSilent more t → changes_in (more ++ old) t ≡ changes_in old t
  changes_quiet t [] old s = refl
  changes_quiet t (e ∷ more) old s = ap (λ l. changes_in (more ++ old) t ++ l) (no_change e t s.0) ∙ append-nil _ ∙ changes_quiet t more old s.1

  pub updates_same : (t : TxId) (large small : List (Entry E)) (g : Grown large small) → ((p : PartId) → AreSilent (g.more p) t) → (p : PartId) → updates_at large t p ≡ updates_at small t p
  updates_same t large small g s p = updates_in large t p ∙ ap (λ l. changes_in l t) (g.is p) ∙ changes_quiet t (g.more p) (trace_of p small) (s p) ∙ sym (updates_in small t p)

  -- the last vote
  abbrev time_in : List (Event E) → TxId → ℕ
  time_in [] t = 0
  time_in (e ∷ trace) t = cond (is_prepare e t) (max (time_shown e) (time_in trace t)) (time_in trace t)

  time_quiet : (t : TxId) (more old : List (Event E)) → AreSilent more t → time_in (more ++ old) t ≡ time_in old t
  time_quiet t [] old s = refl
  time_quiet t (e ∷ more) old s = cond-false (is_prepare e t) _ _ (own_vote t e s.0) ∙ time_quiet t more old s.1

  time_step : (b c : Bool) (x : Event E) (trace : List (Event E)) (t : TxId) (n : ℕ) → is_prepare x t ≡ c → time_in trace t ≤ n → time_in (cond b (x ∷ trace) trace) t ≤ cond c (max (time_shown x) n) n
  time_step true true x trace t n e h = subst (λ k. k ≤ max (time_shown x) n) (sym (cond-true (is_prepare x t) _ _ e)) (omega arith)
  time_step true false x trace t n e h = subst (λ k. k ≤ n) (sym (cond-false (is_prepare x t) _ _ e)) h
  time_step false true x trace t n e h = omega arith
  time_step false false x trace t n e h = h

  time_at : (run : List (Entry E)) (t : TxId) (p : PartId) → time_in (trace_of p run) t ≤ time_of run t
  time_at [] t p = omega arith
  time_at (e ∷ run) t p = time_step (same_part e.at p) (is_prepare e.event t) e.event (trace_of p run) t (time_of run t) refl (time_at run t p)

  time_head : (c : Bool) (x : Event E) (trace : List (Event E)) (t : TxId) (n m : ℕ) → is_prepare x t ≡ c → time_in (x ∷ trace) t ≤ n → m ≤ n → cond c (max (time_shown x) m) m ≤ n
  time_head true x trace t n m e h k = let l : max (time_shown x) (time_in trace t) ≤ n = subst (λ i. i ≤ n) (cond-true (is_prepare x t) _ _ e) h in omega arith
  time_head false x trace t n m e h k = k

  time_tail : (b c : Bool) (x : Event E) (trace : List (Event E)) (t : TxId) (n : ℕ) → is_prepare x t ≡ c → time_in (cond b (x ∷ trace) trace) t ≤ n → time_in trace t ≤ n
  time_tail true true x trace t n e h = let l : max (time_shown x) (time_in trace t) ≤ n = subst (λ i. i ≤ n) (cond-true (is_prepare x t) _ _ e) h in omega arith
  time_tail true false x trace t n e h = subst (λ i. i ≤ n) (cond-false (is_prepare x t) _ _ e) h
  time_tail false c x trace t n e h = h

  time_all : (run : List (Entry E)) (t : TxId) (n : ℕ) → ((p : PartId) → time_in (trace_of p run) t ≤ n) → time_of run t ≤ n
  time_all [] t n h = omega arith
  time_all (e ∷ run) t n h = time_head (is_prepare e.event t) e.event (trace_of e.at run) t n (time_of run t) refl
      (subst (λ l. time_in l t ≤ n) (cond-true (same_part e.at e.at) (e.event ∷ trace_of e.at run) (trace_of e.at run) (same_part_refl e.at)) (h e.at))
      (time_all run t n (λ p. time_tail (same_part e.at p) (is_prepare e.event t) e.event (trace_of p run) t n refl (h p)))

  pub time_same : (t : TxId) (large small : List (Entry E)) (g : Grown large small) → ((p : PartId) → AreSilent (g.more p) t) → time_of large t ≡ time_of small t
  time_same t large small g s =
      let same : (p : PartId) → time_in (trace_of p large) t ≡ time_in (trace_of p small) t = λ p. ap (λ l. time_in l t) (g.is p) ∙ time_quiet t (g.more p) (trace_of p small) (s p) in
      let a : time_of large t ≤ time_of small t = time_all large t (time_of small t) (λ p. subst (λ k. k ≤ time_of small t) (sym (same p)) (time_at small t p)) in
      let b : time_of small t ≤ time_of large t = time_all small t (time_of large t) (λ p. subst (λ k. k ≤ time_of large t) (same p) (time_at large t p)) in
      omega arith

  -- what was shown
  abbrev pub Has : Event E → List (Event E) → Type 0
  Has a [] = ⊥
  Has a (e ∷ trace) = (e ≡ a) ⊎ Has a trace

  has_more : (a : Event E) (more old : List (Event E)) → Has a old → Has a (more ++ old)
  has_more a [] old h = h
  has_more a (e ∷ more) old h = inr (has_more a more old h)

  pub has_shown : (run : List (Entry E)) (p : PartId) (a : Event E) → Has a (trace_of p run) → WasShown run p a
  has_shown [] p a h = h
  has_shown (e ∷ run) p a h = ⊎_elim
      (λ (k : same_part e.at p ≡ true). ⊎_elim (λ (x : e.event ≡ a). inl (same_part_is e.at p k, x)) (λ (x : Has a (trace_of p run)). inr (has_shown run p a x))
      (subst (Has a) (cond-true (same_part e.at p) (e.event ∷ trace_of p run) (trace_of p run) k) h))
      (λ (k : same_part e.at p ≡ false). inr (has_shown run p a (subst (Has a) (cond-false (same_part e.at p) (e.event ∷ trace_of p run) (trace_of p run) k) h)))
      (cases_Bool (same_part e.at p))

  shown_has : (run : List (Entry E)) (p : PartId) (a : Event E) → WasShown run p a → Has a (trace_of p run)
  shown_has [] p a h = h
  shown_has (e ∷ run) p a h = ⊎_elim
      (λ (x : (e.at ≡ p) × (e.event ≡ a)). subst (Has a) (sym (cond-true (same_part e.at p) (e.event ∷ trace_of p run) (trace_of p run) (subst (λ q. same_part e.at q ≡ true) x.0 (same_part_refl e.at)))) (inl x.1))
      (λ (x : WasShown run p a). go (same_part e.at p) (shown_has run p a x))
      h
    where
      go : (b : Bool) → Has a (trace_of p run) → Has a (cond b (e.event ∷ trace_of p run) (trace_of p run))
      go true x = inr x
      go false x = x

  pub shown_grown : (large small : List (Entry E)) (g : Grown large small) (p : PartId) (a : Event E) → WasShown small p a → WasShown large p a
  shown_grown large small g p a h = has_shown large p a (subst (Has a) (sym (g.is p)) (has_more a (g.more p) (trace_of p small) (shown_has small p a h)))

  -- numbers of messages and of reports
  abbrev pub count_in : (Event E → Bool) → List (Event E) → ℕ
  count_in f [] = 0
  count_in f (e ∷ trace) = cond (f e) (count_in f trace + 1) (count_in f trace)

  count_step : (f : Event E → Bool) (b : Bool) (x : Event E) (trace : List (Event E)) (n : ℕ) → n ≡ count_in f trace → cond (b && f x) (n + 1) n ≡ count_in f (cond b (x ∷ trace) trace)
  count_step f true x trace n h = ap (λ k. cond (f x) (k + 1) k) h
  count_step f false x trace n h = h

  pub sends_in : (run : List (Entry E)) (p : PartId) → sent_count run p ≡ count_in is_sent (trace_of p run)
  sends_in [] p = refl
  sends_in (e ∷ run) p = count_step is_sent (same_part e.at p) e.event (trace_of p run) (sent_count run p) (sends_in run p)

  pub reports_in : (run : List (Entry E)) (p : PartId) → report_count run p ≡ count_in is_report (trace_of p run)
  reports_in [] p = refl
  reports_in (e ∷ run) p = count_step is_report (same_part e.at p) e.event (trace_of p run) (report_count run p) (reports_in run p)

  abbrev HasNumber : (Event E → Bool) → ℕ → Event E → List (Event E) → Type 0
  HasNumber f n a [] = ⊥
  HasNumber f n a (e ∷ trace) = ((e ≡ a) × (n ≡ count_in f trace + 1)) ⊎ HasNumber f n a trace

  number_more : (f : Event E → Bool) (n : ℕ) (a : Event E) (more old : List (Event E)) → HasNumber f n a old → HasNumber f n a (more ++ old)
  number_more f n a [] old h = h
  number_more f n a (e ∷ more) old h = inr (number_more f n a more old h)

  number_shown : (f : Event E → Bool) (count : List (Entry E) → PartId → ℕ) → ((run : List (Entry E)) (p : PartId) → count run p ≡ count_in f (trace_of p run)) → (run : List (Entry E)) (n : ℕ) (p : PartId) (a : Event E) → HasNumber f n a (trace_of p run) → WasNumbered count run n p a
  number_shown f count same [] n p a h = h
  number_shown f count same (e ∷ run) n p a h = ⊎_elim
      (λ (k : same_part e.at p ≡ true). ⊎_elim
      (λ (x : (e.event ≡ a) × (n ≡ count_in f (trace_of p run) + 1)). inl (same_part_is e.at p k, x.0, x.1 ∙ ap (λ i. i + 1) (sym (same run p))))
      (λ (x : HasNumber f n a (trace_of p run)). inr (number_shown f count same run n p a x))
      (subst (HasNumber f n a) (cond-true (same_part e.at p) (e.event ∷ trace_of p run) (trace_of p run) k) h))
      (λ (k : same_part e.at p ≡ false). inr (number_shown f count same run n p a (subst (HasNumber f n a) (cond-false (same_part e.at p) (e.event ∷ trace_of p run) (trace_of p run) k) h)))
      (cases_Bool (same_part e.at p))

  number_step : (f : Event E → Bool) (n : ℕ) (a : Event E) (b : Bool) (x : Event E) (trace : List (Event E)) → HasNumber f n a trace → HasNumber f n a (cond b (x ∷ trace) trace)
  number_step f n a true x trace h = inr h
  number_step f n a false x trace h = h

  shown_number : (f : Event E → Bool) (count : List (Entry E) → PartId → ℕ) → ((run : List (Entry E)) (p : PartId) → count run p ≡ count_in f (trace_of p run)) → (run : List (Entry E)) (n : ℕ) (p : PartId) (a : Event E) → WasNumbered count run n p a → HasNumber f n a (trace_of p run)
  shown_number f count same [] n p a h = h
  shown_number f count same (e ∷ run) n p a h = ⊎_elim
      (λ (x : (e.at ≡ p) × (e.event ≡ a) × (n ≡ count run p + 1)). subst (HasNumber f n a) (sym (cond-true (same_part e.at p) (e.event ∷ trace_of p run) (trace_of p run) (subst (λ q. same_part e.at q ≡ true) x.0 (same_part_refl e.at)))) (inl (x.1, x.2 ∙ ap (λ i. i + 1) (same run p))))
      (λ (x : WasNumbered count run n p a). number_step f n a (same_part e.at p) e.event (trace_of p run) (shown_number f count same run n p a x))
      h

  pub number_grown : (f : Event E → Bool) (count : List (Entry E) → PartId → ℕ) → ((run : List (Entry E)) (p : PartId) → count run p ≡ count_in f (trace_of p run)) → (large small : List (Entry E)) (g : Grown large small) (n : ℕ) (p : PartId) (a : Event E) → WasNumbered count small n p a → WasNumbered count large n p a
  number_grown f count same large small g n p a h = number_shown f count same large n p a (subst (HasNumber f n a) (sym (g.is p)) (number_more f n a (g.more p) (trace_of p small) (shown_number f count same small n p a h)))

  -- vectors
  vector_event : (run : List (Entry E)) (v : List ℕ) → WasVector run v → (p : PartId) × ((a : Event E) × (WasShown run p a × ShowsVector a v))
  vector_event [] v h = absurd h
  vector_event (e ∷ run) v h = ⊎_elim
      (λ (x : ShowsVector e.event v). (e.at, (e.event, (inl (refl, refl), x))))
      (λ (x : WasVector run v). let i = vector_event run v x in (i.0, (i.1.0, (inr i.1.1.0, i.1.1.1))))
      h

  event_vector : (run : List (Entry E)) (v : List ℕ) (p : PartId) (a : Event E) → WasShown run p a → ShowsVector a v → WasVector run v
  event_vector [] v p a h k = absurd h
  event_vector (e ∷ run) v p a h k = ⊎_elim
      (λ (x : (e.at ≡ p) × (e.event ≡ a)). inl (subst (λ b. ShowsVector b v) (sym x.1) k))
      (λ (x : WasShown run p a). inr (event_vector run v p a x k))
      h

  vectors_grown : (large small : List (Entry E)) (g : Grown large small) (vs : List (List ℕ)) → WereVectors small vs → WereVectors large vs
  vectors_grown large small g [] h = tt
  vectors_grown large small g (v ∷ vs) h =
      let i = vector_event small v h.0 in
      (event_vector large v i.0 i.1.0 (shown_grown large small g i.0 i.1.0 i.1.1.0) i.1.1.1, vectors_grown large small g vs h.1)

  pub join_grown : (sites : ℕ) (large small : List (Entry E)) (g : Grown large small) (dep : List ℕ) → IsKnownJoin sites small dep → IsKnownJoin sites large dep
  join_grown sites large small g dep h = record { vectors = h.vectors; known = vectors_grown large small g h.vectors h.known; is = h.is }
