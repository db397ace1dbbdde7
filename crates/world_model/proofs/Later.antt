-- What a bound leaves out comes later: for reads, messages and what rests on them.
use Rattle.std.proofs.Common.{◌≡◌, ap, ◌⊎◌, ⊎_elim, inl, inr, ℕ, ◌+◌, ◌<◌, ◌≤◌, max, cond, Bool, true, false, ◌&&◌, ◌||◌, List, [], ◌∷◌, Some, refl, sym, ◌∙◌, subst, arith}
use Rattle.std.proofs.lemmas.Bool.{cases_Bool, or_cases, cond-true, cond-false, false_from_ne_true}
use Rattle.site_vector.specs.declared.ids.PartId.{PartId}
use Rattle.site_vector.specs.declared.ids.TxId.{TxId}
use Rattle.site_vector.specs.Ids.{same_part, same_tx}
use Rattle.site_vector.specs.Vector.{entry}
use Rattle.crdt_core.specs.declared.record.Record.{Record}
use Rattle.crdt_core.specs.declared.record.Record.TheVariants.{Lease, Prepare, Decide, Finish, Abort, Batch}
use Rattle.crdt_core.specs.Log.{committed_at, prepared, prepare_time, committed, aborted, pending, last_decided}
use Rattle.world_model.specs.rules.Event.{led_by, Event, Entry, is_prepare, tried, decide_tried, gave_up, is_decided, time_of, time_shown}
use Rattle.world_model.proofs.Runs.{vote}
use Rattle.world_model.specs.rules.Partition.{PartState, Finds}
use Rattle.world_model.specs.rules.Plan.{Plan, takes_part, vector_at, commit_vector}
use Rattle.world_model.proofs.Names.{clash, part_cases, entry_same}
use Rattle.world_model.proofs.Moves.{Because, Move, image_log}
use Rattle.world_model.proofs.Fate.{Full, Fate, more_aborted, more_committed, not_again}

module _ {E : Type 0} where
  -- t, if it is prepared at q, is aborted, or has a prepare time above b, or is in the history and committed here
  abbrev pub IsLater : List (Entry E) → TxId → ℕ → List (Record E) → Type 0
  IsLater run t b m = (aborted m t ≡ true) ⊎ ((b < prepare_time m t) ⊎ ((is_decided run t ≡ true) × (committed m t ≡ true)))

  abbrev pub Later : List (Entry E) → (PartId → PartState E) → PartId → ℕ → TxId → Type 0
  Later run parts q b t = (m : List (Record E)) → Finds (parts q) m → prepared m t ≡ true → IsLater run t b m

  pub vote_in_time : (run : List (Entry E)) (t : TxId) (q : PartId) → vote run t q ≤ time_of run t
  vote_in_time [] t q = omega arith
  vote_in_time (e ∷ run) t q = go (same_part e.at q) (is_prepare e.event t) (vote_in_time run t q)
    where
      go : (x y : Bool) → vote run t q ≤ time_of run t → cond (x && y) (time_shown e.event) (vote run t q) ≤ cond y (max (time_shown e.event) (time_of run t)) (time_of run t)
      go true true h = omega arith
      go true false h = h
      go false true h = omega arith
      go false false h = h

  -- a vector at the own site is the commit time
  pub at_own : (plan : Plan E) (t : TxId) (p : PartId) (c : ℕ) → takes_part plan t p ≡ true → entry (vector_at plan t c) t.site ≡ c
  at_own plan t p c h = entry_same (plan.snapshot t) t.site c (plan.least t p h) (plan.entered t p h)

  module _ (plan : Plan E) (run : List (Entry E)) (parts : PartId → PartState E) (f : Fate plan run parts) where
    pub full_now : (t : TxId) → is_decided run t ≡ true → Full plan run t
    full_now t k = let p = parts (plan.lead t) in f.full p.log t (image_log p) (f.stays p.log t (image_log p) k)

    pub never_aborted : (p : PartId) (m : List (Record E)) (t : TxId) → Finds (parts p) m → is_decided run t ≡ true → aborted m t ≡ false
    never_aborted p m t i k = let l = parts (plan.lead t) in ⊎_elim
        (λ (e : p ≡ plan.lead t). let j = subst (λ x. Finds (parts x) m) e i in f.apart (plan.lead t) m t j (f.stays m t j k))
        (λ (ne : p ≡ plan.lead t → ⊥). false_from_ne_true _ (λ a. ⊎_elim
        (λ (g : gave_up run t ≡ true). clash g (full_now t k).ungiven)
        (λ (g : (x : List (Record E)) → Finds l x → aborted x t ≡ true). clash (g l.log (image_log l)) (f.apart (plan.lead t) l.log t (image_log l) (f.stays l.log t (image_log l) k)))
        (f.lost p m t ne i a)))
        (part_cases p (plan.lead t))

    -- what is in the history is prepared at each participant, in time
    pub prepared_now : (p : PartId) (m : List (Record E)) (t : TxId) → Finds (parts p) m → is_decided run t ≡ true → takes_part plan t p ≡ true → (prepared m t ≡ true) × (prepare_time m t ≤ time_of run t)
    prepared_now p m t i k u = let h = f.held p m t i ((full_now t k).all p u) in (h.0, subst (λ x. x ≤ time_of run t) (sym h.1) (vote_in_time run t p))

    -- what is committed at a partition takes part there, and the partition is of its site
    pub takes : (p : PartId) (t : TxId) → committed (parts p).log t ≡ true → takes_part plan t p ≡ true
    takes p t h = let i = image_log (parts p) in f.part p t (f.was_tried p (parts p).log t i (f.first p (parts p).log t i h))

    pub home_here : (p : PartId) (t : TxId) → committed (parts p).log t ≡ true → p.site ≡ t.site
    home_here p t h = plan.at_home t p (takes p t h)

    -- the own entry of its vector is the commit time
    pub own_time : (p : PartId) (t : TxId) → committed (parts p).log t ≡ true → entry (committed_at (parts p).log t) p.site ≡ time_of run t
    own_time p t h = ap (λ v. entry v p.site) (f.time p (parts p).log t (image_log (parts p)) h) ∙ ap (λ j. entry (commit_vector plan run t) j) (home_here p t h) ∙ at_own plan t p (time_of run t) (takes p t h)

  pub pending_from : (log : List (Record E)) (t : TxId) → prepared log t ≡ true → committed log t ≡ false → aborted log t ≡ false → pending log t ≡ true
  pending_from log t p c a = rw (p, c, a) refl

  -- where a partition is up and nothing that is pending lies at or below b, all is later
  module _ (plan : Plan E) (run : List (Entry E)) (parts : PartId → PartState E) (f : Fate plan run parts) (p : PartId) (b : ℕ) (up : (parts p).up ≡ true) where
    pub in_log : (t : TxId) → committed (parts p).log t ≡ true → is_decided run t ≡ true
    in_log t h = ⊎_elim (λ (k : is_decided run t ≡ true). k) (λ (k : ((parts p).up ≡ false) × (last_decided (parts p).log ≡ Some t)). absurd (clash up k.0)) (f.known p (parts p).log t (image_log (parts p)) h)

    -- what is asked to be decided for the first time isn't committed, and so it is pending where it is known
    pub once_pending : (t : TxId) → decide_tried run t ≡ false → (pending (parts p).log t || committed (parts p).log t) ≡ true → (pending (parts p).log t ≡ true) × (committed (parts p).log t ≡ false)
    once_pending t once known =
        let apart : committed (parts p).log t ≡ false = false_from_ne_true _ (λ k. clash (full_now plan run parts f t (in_log t k)).asked once) in
        (⊎_elim (λ (k : pending (parts p).log t ≡ true). k) (λ (k : committed (parts p).log t ≡ true). clash k apart) (or_cases _ _ known), apart)

    pub later_now : (t : TxId) → (pending (parts p).log t ≡ true → b < prepare_time (parts p).log t) → prepared (parts p).log t ≡ true → IsLater run t b (parts p).log
    later_now t w h = let l = (parts p).log in ⊎_elim
        (λ (c : committed l t ≡ true). inr (inr (in_log t c, c)))
        (λ (c : committed l t ≡ false). ⊎_elim
        (λ (a : aborted l t ≡ true). inl a)
        (λ (a : aborted l t ≡ false). inr (inl (w (pending_from l t h c a))))
        (cases_Bool (aborted l t)))
        (cases_Bool (committed l t))

    -- what is in the history and not committed here has a later commit time
    pub waited : (t : TxId) → (pending (parts p).log t ≡ true → b < prepare_time (parts p).log t) → committed (parts p).log t ≡ false → is_decided run t ≡ true → takes_part plan t p ≡ true → b < time_of run t
    waited t w out k x =
        let l = (parts p).log in
        let h = prepared_now plan run parts f p l t (image_log (parts p)) k x in
        let le = h.1 in
        let v = w (pending_from l t h.0 out (never_aborted plan run parts f p l t (image_log (parts p)) k)) in
        omega arith

  module _ (plan : Plan E) (run : List (Entry E)) (before after : PartId → PartState E) (at : PartId) (event : Event E) (mv : Move plan run before after at event) (f : Fate plan run before) (f' : Fate plan ((record { at = at; event = event }) ∷ run) after) where
    abbrev next : List (Entry E)
    next = (record { at = at; event = event }) ∷ run

    time_kept : (q : PartId) (old : List (Record E)) (r : Record E) (t : TxId) → Because plan run before (after q).up at event q old r → tried run t q ≡ true → prepare_time (r ∷ old) t ≡ prepare_time old t
    time_kept q old (Prepare u l n s w) t b h = cond-false (same_tx u t) n (prepare_time old t) (not_again plan run before after at event mv f q u t s (led_by l) w b.0 b.3 h)
    time_kept q old (Lease n) t b h = refl
    time_kept q old (Decide u c) t b h = refl
    time_kept q old (Finish u c) t b h = refl
    time_kept q old (Abort u) t b h = refl
    time_kept q old (Batch x) t b h = refl

    -- later stays later: what is prepared now draws above the clock
    pub later_step : (q : PartId) (s : ℕ) (t : TxId) → s ≤ (before q).now → Later run before q s t → (new : List (Record E)) → Finds (after q) new → prepared new t ≡ true → IsLater run t s new
    later_step q s t seen g new i h = let c = mv.changed q new i in
        go c.old c.more c.because c.was (c.told.aborted t) (c.told.time t) (c.told.committed t) (sym (c.told.prepared t) ∙ h)
      where
        kept : (old : List (Record E)) (r : Record E) → Because plan run before (after q).up at event q old r → Finds (before q) old → aborted new t ≡ aborted (r ∷ old) t → prepare_time new t ≡ prepare_time (r ∷ old) t → committed new t ≡ committed (r ∷ old) t → prepared old t ≡ true → IsLater run t s new
        kept old r b w ea et ec k = ⊎_elim
            (λ (x : aborted old t ≡ true). inl (ea ∙ more_aborted r old t x))
            (λ (x : (s < prepare_time old t) ⊎ ((is_decided run t ≡ true) × (committed old t ≡ true))). inr (⊎_elim
            (λ (y : s < prepare_time old t). inl (subst (λ z. s < z) (sym (et ∙ time_kept q old r t b (f.was_tried q old t w k))) y))
            (λ (y : (is_decided run t ≡ true) × (committed old t ≡ true)). inr (y.0, ec ∙ more_committed r old t y.1))
            x))
            (g old w k)

        go : (old : List (Record E)) (r : Record E) → Because plan run before (after q).up at event q old r → Finds (before q) old → aborted new t ≡ aborted (r ∷ old) t → prepare_time new t ≡ prepare_time (r ∷ old) t → committed new t ≡ committed (r ∷ old) t → prepared (r ∷ old) t ≡ true → IsLater run t s new
        go old (Prepare v l n c os) b w ea et ec k = ⊎_elim
            (λ (e : same_tx v t ≡ true).
            let seen' : s ≤ (before at).now = subst (λ x. s ≤ (before x).now) b.0 seen in
            let time : prepare_time new t ≡ n = et ∙ cond-true (same_tx v t) n (prepare_time old t) e in
            let drawn : n ≡ (before at).now + 1 = b.2 in
            inr (inl (omega arith)))
            (λ (e : prepared old t ≡ true). kept old (Prepare v l n c os) b w ea et ec e)
            (or_cases _ _ k)
        go old (Lease n) b w ea et ec k = kept old (Lease n) b w ea et ec k
        go old (Decide v c) b w ea et ec k = kept old (Decide v c) b w ea et ec k
        go old (Finish v c) b w ea et ec k = kept old (Finish v c) b w ea et ec k
        go old (Abort v) b w ea et ec k = kept old (Abort v) b w ea et ec k
        go old (Batch x) b w ea et ec k = kept old (Batch x) b w ea et ec k

    -- who comes into the history now comes too late
    pub too_late : (q : PartId) (s : ℕ) (t : TxId) → s ≤ (before q).now → Later run before q s t → is_decided run t ≡ false → is_decided next t ≡ true → takes_part plan t q ≡ true → s < time_of next t
    too_late q s t seen g out now u =
        let m = (after q).log in
        let h = prepared_now plan next after f' q m t (image_log (after q)) now u in
        let le = h.1 in
        ⊎_elim
        (λ (x : aborted m t ≡ true). absurd (clash x (never_aborted plan next after f' q m t (image_log (after q)) now)))
        (λ (x : (s < prepare_time m t) ⊎ ((is_decided run t ≡ true) × (committed m t ≡ true))). ⊎_elim (λ (y : s < prepare_time m t). omega arith) (λ (y : (is_decided run t ≡ true) × (committed m t ≡ true)). absurd (clash y.0 out)) x)
        (later_step q s t seen g m (image_log (after q)) h.0)
