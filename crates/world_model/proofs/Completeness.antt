-- The parts completeness, heard bounds and coverage: what lies up to a bound that a partition ever had is held in every image.
use Rattle.std.proofs.Common.{◌≡◌, ◌≢◌, ⊎_elim, ℕ, zero, suc, ◌-◌, ◌<◌, ◌≤◌, max, cond, Bool, true, false, ◌&&◌, ◌||◌, List, [], ◌∷◌, Option, refl, sym, ap, ◌∙◌, subst, subst₂, arith, le_trans}
use Rattle.std.specs.Prelude.{⊤, ◌==◌, replicate, slice_index, slice_index_or}
use Rattle.std.proofs.lemmas.Bool.{cases_Bool, cases_lt, or_left, or_right, or_cases, and_from, and_parts, le-leb, lt-ltb, eqb-true, cond-true, cond-false}
use Rattle.site_vector.specs.declared.ids.PartId.{PartId}
use Rattle.site_vector.specs.declared.ids.TxId.{TxId}
use Rattle.site_vector.specs.Order.{same_part_refl}
use Rattle.site_vector.specs.Ids.{same_part}
use Rattle.site_vector.specs.Vector.{entry, join, replaced}
use Rattle.crdt_core.specs.declared.record.Part.{Part}
use Rattle.crdt_core.specs.declared.record.Message.{Message}
use Rattle.crdt_core.specs.declared.record.Record.{Record}
use Rattle.crdt_core.specs.declared.object.ObjectId.{ObjectId}
use Rattle.crdt_core.specs.declared.record.Record.TheVariants.{Lease, Prepare, Decide, Finish, Abort, Batch}
use Rattle.crdt_core.specs.Parts.{lists, vector_in, changes_in}
use Rattle.crdt_core.specs.Log.{taken, taken_at, taken_changes, logged_bound, grown, MayFind}
use Rattle.world_model.specs.rules.Event.{Refused, Event, Ticked, Began, Updated, Read, Prepared, Decided, Finished, Aborted, Sent, Took, Reported, Heard, Crashed, RestartCut, Restarted, Opened, Cut, Entry, attempt, is_decided, time_of, sent_count, report_count, EventsAre}
use Rattle.world_model.proofs.Runs.{begin_told, sent_after, sent}
use Rattle.crdt_core.specs.KindsOf.{Kinds}
use Rattle.site_vector.specs.Known.{vector_of}
use Rattle.world_model.specs.rules.Partition.{PartState, Finds, IsBegin, OwnEntry, IsReady, batch_of, known, done, PartStep}
use Rattle.world_model.specs.lines.Lines.{Wish}
use Rattle.world_model.specs.lines.Places.{IsOther, IsPlace, home, twin}
use Rattle.crdt_core.specs.Parts.{AreParts, above}
use Rattle.world_model.specs.rules.Plan.{Plan, takes_part, changes_at, vector_at, commit_vector, IsAllowed, IsSession, MayTake, MayHear}
use Rattle.world_model.specs.events.Reads.{IsExact}
use Rattle.world_model.proofs.Names.{clash, off, part_cases, entry_cases, vectors_cases, join_below, lowest_below}
use Rattle.world_model.proofs.Parts.{parts_vector, parts_changes, lists_above, above_parts}
use Rattle.world_model.proofs.Moves.{Because, IsCut, Move, image_log}
use Rattle.world_model.proofs.Fate.{Fate}
use Rattle.world_model.proofs.Later.{at_own}
use Rattle.world_model.proofs.Intervals.{Intervals, sent_more, shown_sent, shown_reported, numbered_shown, shown_has, events_map, above_sent, same_time, exact_step, never_waits}

pub zeros_at : (n i : ℕ) → slice_index (replicate n 0) i ≡ 0
zeros_at zero i = refl
zeros_at (suc n) zero = refl
zeros_at (suc n) (suc i) = zeros_at n i

pub rows_at : (m n i k : ℕ) → slice_index (slice_index_or (replicate m (replicate n 0)) i []) k ≡ 0
rows_at zero n i k = refl
rows_at (suc m) n zero k = zeros_at n k
rows_at (suc m) n (suc i) k = rows_at m n i k

all4 : (a b c d : Bool) → a ≡ true → b ≡ true → c ≡ true → d ≡ true → (a && (b && (c && d))) ≡ true
all4 a b c d e1 e2 e3 e4 = rw (e1, e2, e3, e4) refl

-- the partition of a site with this number
abbrev pub numbered : PartId → ℕ → PartId
numbered p q = record { site = p.site; part = q }

module _ {E : Type 0} where
  -- p, of another site, holds all that site j has up to b
  pub record Complete (plan : Plan E) (run : List (Entry E)) (parts : PartId → PartState E) (p : PartId) (j b : ℕ) : Type 0 where
    pub reached : b ≤ sent run (twin j p)
    pub held : (m : List (Record E)) (t : TxId) → Finds (parts p) m → is_decided run t ≡ true → t.site ≡ j → takes_part plan t (twin j p) ≡ true → time_of run t ≤ b → taken m t ≡ true

  -- an image holds all up to its own bound
  pub record Logged (plan : Plan E) (run : List (Entry E)) (p : PartId) (j : ℕ) (m : List (Record E)) : Type 0 where
    pub reached : logged_bound m j ≤ sent run (twin j p)
    pub held : (t : TxId) → is_decided run t ≡ true → t.site ≡ j → takes_part plan t (twin j p) ≡ true → time_of run t ≤ logged_bound m j → taken m t ≡ true

  -- what a message brought is as it was sent
  pub record Brought (plan : Plan E) (run : List (Entry E)) (p : PartId) (t : TxId) (m : List (Record E)) : Type 0 where
    pub past : is_decided run t ≡ true
    pub away : t.site ≢ p.site
    pub time : taken_at m t ≡ commit_vector plan run t
    pub wrote : taken_changes m t ≡ changes_at plan p t

  -- what a message, a report or a begin rests on
  abbrev pub IsBacked : Plan E → List (Entry E) → (PartId → PartState E) → PartId → Event E → Type 0
  IsBacked plan run parts p (Sent asked m) = IsExact plan run p m × (m.hi ≤ sent run p)
  IsBacked plan run parts p (Reported b) = (j : ℕ) → IsOther plan.sites p.site j → Complete plan run parts p j (entry b j)
  IsBacked plan run parts p (Began who dep t s) = (q j : ℕ) → 1 ≤ q → q ≤ plan.parts → IsOther plan.sites p.site j → Complete plan run parts (numbered p q) j (entry s j)
  IsBacked plan run parts p event = ⊤

  -- each partition of its site told the own entry of a stable snapshot as an own bound
  abbrev pub OwnTold : Plan E → List (Entry E) → PartId → List ℕ → Bool → Type 0
  OwnTold plan run p s false = ⊤
  OwnTold plan run p s true = (q : ℕ) → 1 ≤ q → q ≤ plan.parts → entry s p.site ≤ sent run (numbered p q)

  abbrev pub IsTold : Plan E → List (Entry E) → PartId → Event E → Type 0
  IsTold plan run p (Began who wish t s) = OwnTold plan run p s wish.stable
  IsTold plan run p event = ⊤

  pub record Bounds (plan : Plan E) (run : List (Entry E)) (parts : PartId → PartState E) : Type 0 where
    pub up_to : (p : PartId) (j : ℕ) → (parts p).up ≡ true → IsOther plan.sites p.site j → Complete plan run parts p j (entry (parts p).bounds j)
    pub heard : (p : PartId) (q j : ℕ) → (parts p).up ≡ true → 1 ≤ q → IsOther plan.sites p.site j → Complete plan run parts (numbered p q) j (entry (vector_of (parts p).heard q) j)
    -- and of its own site: what it heard of each partition is an own bound that this one told
    pub own_heard : (p : PartId) (q : ℕ) → (parts p).up ≡ true → 1 ≤ q → entry (vector_of (parts p).heard q) p.site ≤ sent run (numbered p q)
    pub logged : (p : PartId) (j : ℕ) (m : List (Record E)) → Finds (parts p) m → IsOther plan.sites p.site j → Logged plan run p j m
    pub from : (p : PartId) (m : List (Record E)) (t : TxId) → Finds (parts p) m → taken m t ≡ true → Brought plan run p t m
    pub events : EventsAre (IsBacked plan run parts) run
    pub told : EventsAre (IsTold plan run) run

  more_taken : (r : Record E) (old : List (Record E)) (t : TxId) → taken old t ≡ true → taken (r ∷ old) t ≡ true
  more_taken (Lease n) old t h = h
  more_taken (Prepare u l n s w) old t h = h
  more_taken (Decide u c) old t h = h
  more_taken (Finish u c) old t h = h
  more_taken (Abort u) old t h = h
  more_taken (Batch x) old t h = or_right _ _ h

  complete_le : (plan : Plan E) (run : List (Entry E)) (parts : PartId → PartState E) (p : PartId) (j b c : ℕ) → c ≤ b → Complete plan run parts p j b → Complete plan run parts p j c
  complete_le plan run parts p j b c le x = record { reached = le_trans le x.reached; held = λ m t i h e u k. x.held m t i h e u (le_trans k le) }

  -- what a message lists is taken with it
  batch_takes : (log : List (Record E)) (m : Message E) (b : ℕ) (t : TxId) (xs : List (Part E)) → lists xs t ≡ true → taken (grown log (batch_of m b xs)) t ≡ true
  batch_takes log m b t [] h = off h
  batch_takes log m b t (x ∷ xs) h = or_left (lists (x ∷ xs) t) (taken log t) h

  module _ {S : Type 0} (kinds : Kinds S E) (plan : Plan E) (run : List (Entry E)) (before after : PartId → PartState E) (at : PartId) (event : Event E) (s : PartStep kinds plan.sites plan.parts at (before at) event (after at)) (others : (q : PartId) → q ≢ at → after q ≡ before q) (mv : Move plan run before after at event) (f : Fate plan run before) (f' : Fate plan ((record { at = at; event = event }) ∷ run) after) (rise : (q : PartId) → (before q).now ≤ (after q).now) (v : Intervals plan run before) (g : Bounds plan run before) (early : (t : TxId) → is_decided ((record { at = at; event = event }) ∷ run) t ≡ true → 0 < time_of ((record { at = at; event = event }) ∷ run) t) where
    abbrev next : List (Entry E)
    next = (record { at = at; event = event }) ∷ run

    new_above : (q : PartId) (t : TxId) → is_decided run t ≡ false → is_decided next t ≡ true → takes_part plan t q ≡ true → sent run q < time_of next t
    new_above q t out now u = above_sent kinds plan run before after at event s mv f f' rise v q t out now u

    kept_time : (t : TxId) → is_decided run t ≡ true → time_of next t ≡ time_of run t
    kept_time t h = same_time kinds plan run before after at event s mv f f' rise v t h

    reach : (j : ℕ) (p : PartId) (b : ℕ) → b ≤ sent run (twin j p) → b ≤ sent next (twin j p)
    reach j p b h = le_trans h (sent_more run (record { at = at; event = event }) (twin j p))

    -- what concerns old commits alone, up to a bound that was reached, concerns all
    old_only : (A : Type 0) (j : ℕ) (p : PartId) (b : ℕ) (t : TxId) → b ≤ sent run (twin j p) → is_decided next t ≡ true → takes_part plan t (twin j p) ≡ true → time_of next t ≤ b → (is_decided run t ≡ true → time_of run t ≤ b → A) → A
    old_only A j p b t r h u le k = ⊎_elim
        (λ (x : is_decided run t ≡ true). k x (subst (λ y. y ≤ b) (kept_time t x) le))
        (λ (x : is_decided run t ≡ false). let a = new_above (twin j p) t x h u in absurd (omega arith))
        (cases_Bool (is_decided run t))

    complete_step : (p : PartId) (j b : ℕ) → Complete plan run before p j b → Complete plan next after p j b
    complete_step p j b c = record {
      reached = reach j p b c.reached;
      held = λ m t i h e u le. old_only (taken m t ≡ true) j p b t c.reached h u le (λ k le'. let d = mv.changed p m i in d.told.taken t ∙ more_taken d.more d.old t (c.held d.old t d.was k e u le'));
    }

    -- the message was sent, and is exact
    is_exact : (number : ℕ) (m : Message E) → MayTake plan run at number m → IsExact plan run (twin m.from at) m
    is_exact number m al = let x : IsExact plan run (twin m.from at) m × (m.hi ≤ sent run (twin m.from at)) = shown_has (IsBacked plan run before) run (twin m.from at) (Sent al.asked m) g.events (numbered_shown sent_count run number (twin m.from at) (Sent al.asked m) al.shown) in x.0

    -- what a message brings: all that lies above the bound
    message_brings : (number : ℕ) (m : Message E) (t : TxId) → MayTake plan run at number m → m.lo ≤ entry (before at).bounds m.from → is_decided run t ≡ true → t.site ≡ m.from → takes_part plan t (twin m.from at) ≡ true → time_of run t ≤ m.hi → entry (before at).bounds m.from < time_of run t → lists (above m.from (entry (before at).bounds m.from) m.parts) t ≡ true
    message_brings number m t al le h own u c b =
        let x = is_exact number m al in
        let listed : lists m.parts t ≡ true = x.members t ∙ all4 _ _ _ _ h u (lt-ltb _ _ (omega arith)) (le-leb _ _ c) in
        let time : entry (commit_vector plan run t) m.from ≡ time_of run t = subst (λ j. entry (commit_vector plan run t) j ≡ time_of run t) own (at_own plan t (twin m.from at) (time_of run t) u) in
        lists_above (commit_vector plan run) (λ y. plan.updates y (twin m.from at)) m.from (entry (before at).bounds m.from) m.parts t x.exact
        ∙ and_from _ _ listed (lt-ltb _ _ (subst (λ y. entry (before at).bounds m.from < y) (sym time) b))

    -- the parts of a record of a message
    cut_parts : (m : Message E) (c : IsCut plan run (before at) at m) → AreParts (commit_vector plan run) (λ y. plan.updates y (twin c.whole.from at)) m.parts
    cut_parts m c = let x = is_exact c.number c.whole c.taken in
        subst (AreParts (commit_vector plan run) (λ y. plan.updates y (twin c.whole.from at))) (sym c.parts) (above_parts (commit_vector plan run) (λ y. plan.updates y (twin c.whole.from at)) c.whole.from (entry (before at).bounds c.whole.from) c.whole.parts x.exact)

    cut_lists : (m : Message E) (c : IsCut plan run (before at) at m) (t : TxId) → lists m.parts t ≡ true → lists c.whole.parts t ≡ true
    cut_lists m c t h = let x = is_exact c.number c.whole c.taken in
        (and_parts _ _ (sym (lists_above (commit_vector plan run) (λ y. plan.updates y (twin c.whole.from at)) c.whole.from (entry (before at).bounds c.whole.from) c.whole.parts t x.exact) ∙ (ap (λ xs. lists xs t) (sym c.parts) ∙ h))).0

    from_step : (p : PartId) (new : List (Record E)) (t : TxId) → Finds (after p) new → taken new t ≡ true → Brought plan next p t new
    from_step p new t i h = let c = mv.changed p new i in
        let r = go c.old c.more c.because (λ k. g.from p c.old t c.was k) (sym (c.told.taken t) ∙ h) in record {
          past = or_right _ _ r.past;
          away = r.away;
          time = c.told.taken_at t ∙ r.time ∙ ap (λ x. vector_at plan t x) (sym (kept_time t r.past));
          wrote = c.told.taken_changes t ∙ r.wrote;
        }
      where
        listed_in : (old : List (Record E)) (m : Message E) → p ≡ at → IsCut plan run (before at) at m → lists m.parts t ≡ true → Brought plan run p t (Batch m ∷ old)
        listed_in old m e c y =
            let x = is_exact c.number c.whole c.taken in
            let a = and_parts (is_decided run t) _ (sym (x.members t) ∙ cut_lists m c t y) in
            let part = (and_parts (takes_part plan t (twin c.whole.from at)) _ a.1).0 in
            let own : c.whole.from ≡ t.site = plan.at_home t (twin c.whole.from at) part in record {
              past = a.0;
              away = λ k. c.taken.from.apart (own ∙ k ∙ ap (λ q. q.site) e);
              time = cond-true (lists m.parts t) (vector_in m.parts t) (taken_at old t) y ∙ parts_vector _ _ m.parts t (cut_parts m c) y;
              wrote = cond-true (lists m.parts t) (changes_in m.parts t) (taken_changes old t) y ∙ parts_changes _ _ m.parts t (cut_parts m c) y ∙ ap (λ k. plan.updates t (twin k at)) own ∙ ap (λ q. plan.updates t (twin t.site q)) (sym e);
            }

        not_listed : (old : List (Record E)) (m : Message E) → lists m.parts t ≡ false → Brought plan run p t old → Brought plan run p t (Batch m ∷ old)
        not_listed old m y o = record {
          past = o.past;
          away = o.away;
          time = cond-false (lists m.parts t) (vector_in m.parts t) (taken_at old t) y ∙ o.time;
          wrote = cond-false (lists m.parts t) (changes_in m.parts t) (taken_changes old t) y ∙ o.wrote;
        }

        go : (old : List (Record E)) (r : Record E) → Because plan run before (after p).up at event p old r → (taken old t ≡ true → Brought plan run p t old) → taken (r ∷ old) t ≡ true → Brought plan run p t (r ∷ old)
        go old (Batch m) bc ih k = ⊎_elim
            (λ (y : lists m.parts t ≡ true). listed_in old m bc.0 bc.1 y)
            (λ (y : lists m.parts t ≡ false). not_listed old m y (ih (⊎_elim (λ (z : lists m.parts t ≡ true). clash z y) (λ (z : taken old t ≡ true). z) (or_cases _ _ k))))
            (cases_Bool (lists m.parts t))
        go old (Lease n) bc ih k = let o = ih k in record { past = o.past; away = o.away; time = o.time; wrote = o.wrote }
        go old (Prepare u l n c w) bc ih k = let o = ih k in record { past = o.past; away = o.away; time = o.time; wrote = o.wrote }
        go old (Decide u c) bc ih k = let o = ih k in record { past = o.past; away = o.away; time = o.time; wrote = o.wrote }
        go old (Finish u c) bc ih k = let o = ih k in record { past = o.past; away = o.away; time = o.time; wrote = o.wrote }
        go old (Abort u) bc ih k = let o = ih k in record { past = o.past; away = o.away; time = o.time; wrote = o.wrote }

    logged_old : (p : PartId) (j : ℕ) (old : List (Record E)) (r : Record E) (new : List (Record E)) → Logged plan run p j old → logged_bound new j ≡ logged_bound old j → ((t : TxId) → taken new t ≡ taken (r ∷ old) t) → Logged plan next p j new
    logged_old p j old r new l e k = record {
      reached = subst (λ x. x ≤ sent next (twin j p)) (sym e) (reach j p (logged_bound old j) l.reached);
      held = λ t h o u le. old_only (taken new t ≡ true) j p (logged_bound old j) t l.reached h u (subst (λ x. time_of next t ≤ x) e le) (λ x le'. k t ∙ more_taken r old t (l.held t x o u le'));
    }

    -- a message's record
    logged_batch : (old : List (Record E)) (m : Message E) (new : List (Record E)) (c : IsCut plan run (before at) at m) → Finds (before at) old → Logged plan run at c.whole.from old → logged_bound new c.whole.from ≡ max c.whole.hi (logged_bound old c.whole.from) → ((t : TxId) → taken new t ≡ (lists m.parts t || taken old t)) → Logged plan next at c.whole.from new
    logged_batch old m new c w o e k =
        let j = c.whole.from in
        let r1 = shown_sent run (twin j at) c.taken.asked c.whole (numbered_shown sent_count run c.number (twin j at) (Sent c.taken.asked c.whole) c.taken.shown) in
        let r2 = o.reached in
        let top : max c.whole.hi (logged_bound old j) ≤ sent run (twin j at) = omega arith in record {
          reached = subst (λ x. x ≤ sent next (twin j at)) (sym e) (reach j at (max c.whole.hi (logged_bound old j)) top);
          held = λ t h q u le. old_only (taken new t ≡ true) j at (max c.whole.hi (logged_bound old j)) t top h u (subst (λ x. time_of next t ≤ x) e le) (λ x le'. k t ∙ ⊎_elim
              (λ (y : entry (before at).bounds j < time_of run t). ⊎_elim
              (λ (z : logged_bound old j < time_of run t). or_left _ _ (ap (λ xs. lists xs t) c.parts ∙ message_brings c.number c.whole t c.taken c.low x q u (omega arith) y))
              (λ (z : time_of run t ≤ logged_bound old j). or_right _ _ (o.held t x q u z))
              (cases_lt (logged_bound old j) (time_of run t)))
              (λ (y : time_of run t ≤ entry (before at).bounds j). or_right _ _ ((g.up_to at j c.up c.taken.from).held old t w x q u y))
              (cases_lt (entry (before at).bounds j) (time_of run t)));
        }

    logged_step : (p : PartId) (j : ℕ) (new : List (Record E)) → Finds (after p) new → IsOther plan.sites p.site j → Logged plan next p j new
    logged_step p j new i ne = let c = mv.changed p new i in go c.old c.more c.was c.because (g.logged p j c.old c.was ne) (c.told.bound j) (λ t. c.told.taken t)
      where
        go : (old : List (Record E)) (r : Record E) → Finds (before p) old → Because plan run before (after p).up at event p old r → Logged plan run p j old → logged_bound new j ≡ logged_bound (r ∷ old) j → ((t : TxId) → taken new t ≡ taken (r ∷ old) t) → Logged plan next p j new
        go old (Batch m) w bc o e k = ⊎_elim
            (λ (x : (m.from == j) ≡ true).
            let c = bc.1 in
            let same : c.whole.from ≡ j = sym c.from ∙ eqb-true m.from j x in
            subst₂ (λ y z. Logged plan next y z new) (sym bc.0) same
            (logged_batch old m new c (subst (λ y. Finds (before y) old) bc.0 w) (subst₂ (λ y z. Logged plan run y z old) bc.0 (sym same) o)
            (subst (λ z. logged_bound new z ≡ max c.whole.hi (logged_bound old z)) (sym same) (e ∙ cond-true (m.from == j) _ _ x ∙ ap (λ y. max y (logged_bound old j)) c.hi)) k))
            (λ (x : (m.from == j) ≡ false). logged_old p j old (Batch m) new o (e ∙ cond-false (m.from == j) _ _ x) k)
            (cases_Bool (m.from == j))
        go old (Lease n) w bc o e k = logged_old p j old (Lease n) new o e k
        go old (Prepare u l n c' w') w bc o e k = logged_old p j old (Prepare u l n c' w') new o e k
        go old (Decide u c') w bc o e k = logged_old p j old (Decide u c') new o e k
        go old (Finish u c') w bc o e k = logged_old p j old (Finish u c') new o e k
        go old (Abort u) w bc o e k = logged_old p j old (Abort u) new o e k

    -- nothing lies up to 0
    complete_zero : (q : PartId) (j b : ℕ) → b ≡ 0 → Complete plan next after q j b
    complete_zero q j b z = record { reached = omega arith; held = λ m t i h e u le. let x = early t h in absurd (omega arith) }

    -- the bound that a partition has after the step
    up_same : (j : ℕ) → (before at).up ≡ true → entry (after at).bounds j ≡ entry (before at).bounds j → IsOther plan.sites at.site j → Complete plan next after at j (entry (after at).bounds j)
    up_same j up e ne = subst (λ b. Complete plan next after at j b) (sym e) (complete_step at j (entry (before at).bounds j) (g.up_to at j up ne))

    up_took : (number : ℕ) (m : Message E) → MayTake plan run at number m → PartStep kinds plan.sites plan.parts at (before at) (Took number m) (after at) → Complete plan next after at m.from m.hi
    up_took number m al st =
        let i = m.from in
        let top = shown_sent run (twin i at) al.asked m (numbered_shown sent_count run number (twin i at) (Sent al.asked m) al.shown) in record {
          reached = reach i at m.hi top;
          held = λ l t im h q u le. old_only (taken l t ≡ true) i at m.hi t top h u le (λ x le'. ⊎_elim
              (λ (y : entry (before at).bounds i < time_of run t).
              let b = message_brings number m t al st.1.0 x q u le' y in
              let e : l ≡ grown (before at).log (batch_of m (entry (before at).bounds i) (above i (entry (before at).bounds i) m.parts)) = subst (λ p. Finds p l) st.2 im in
              ap (λ z. taken z t) e ∙ batch_takes (before at).log m (entry (before at).bounds i) t (above i (entry (before at).bounds i) m.parts) b)
              (λ (y : time_of run t ≤ entry (before at).bounds i). let d = mv.changed at l im in d.told.taken t ∙ more_taken d.more d.old t ((g.up_to at i st.0 al.from).held d.old t d.was x q u y))
              (cases_lt (entry (before at).bounds i) (time_of run t)));
        }

    up_here : (a : Event E) → IsAllowed plan run before at (attempt a) → PartStep kinds plan.sites plan.parts at (before at) a (after at) → (j : ℕ) → (after at).up ≡ true → IsOther plan.sites at.site j → Complete plan next after at j (entry (after at).bounds j)
    up_here (Took number m) al st j up ne =
        let e : entry (after at).bounds j ≡ entry (replaced (before at).bounds m.from m.hi) j = ap (λ p. entry p.bounds j) st.2 in ⊎_elim
        (λ (x : entry (replaced (before at).bounds m.from m.hi) j ≡ entry (before at).bounds j). up_same j st.0 (e ∙ x) ne)
        (λ (x : (j - 1 ≡ m.from - 1) × (entry (replaced (before at).bounds m.from m.hi) j ≡ m.hi)).
        let a = x.0 in
        let b = ne.least in
        let c = al.from.least in
        let same : m.from ≡ j = omega arith in
        subst₂ (λ y z. Complete plan next after at y z) same (sym (e ∙ x.1)) (up_took number m al st))
        (entry_cases (before at).bounds m.from m.hi j)
    up_here (Cut a) al st j up ne = clash up (ap (λ p. p.up) st.2)
    up_here Crashed al st j up ne = clash up (ap (λ p. p.up) st)
    up_here RestartCut al st j up ne = clash up (ap (λ p. p.up) st)
    up_here (Restarted n b named listed) al st j up ne =
        let one = λ (m : List (Record E)) (im : Finds (after at) m). subst (λ rs. MayFind (after at).log rs m) st.whole im in
        let l = logged_step at j (after at).log (image_log (after at)) ne in
        subst (λ x. Complete plan next after at j x) (sym (st.bounds j ne)) (record {
          reached = l.reached;
          held = λ m t im h q u le. subst (λ x. taken x t ≡ true) (sym (one m im)) (l.held t h q u le);
        })
    up_here (Refused asked why) al st j up ne = up_same j (sym (ap (λ p. p.up) st.1) ∙ up) (ap (λ p. entry p.bounds j) st.1) ne
    up_here (Opened who) al st j up ne = up_same j (sym (ap (λ p. p.up) st) ∙ up) (ap (λ p. entry p.bounds j) st) ne
    up_here (Ticked r n) al st j up ne = up_same j st.0 (ap (λ p. entry p.bounds j) st.2) ne
    up_here (Began who dep t c) al st j up ne = up_same j st.0 (ap (λ p. entry p.bounds j) st.2) ne
    up_here (Updated t c o own op read u stamp) al st j up ne = up_same j st.0 (ap (λ p. entry p.bounds j) st.2) ne
    up_here (Read t c o own read value) al st j up ne = up_same j st.0 (ap (λ p. entry p.bounds j) st.2) ne
    up_here (Prepared t c l w n) al st j up ne = up_same j st.0 (ap (λ p. entry p.bounds j) st.2) ne
    up_here (Decided t c) al st j up ne = up_same j st.0 (ap (λ p. entry p.bounds j) st.2) ne
    up_here (Finished t c) al st j up ne = up_same j st.0 (ap (λ p. entry p.bounds j) st.2) ne
    up_here (Aborted t own) al st j up ne = up_same j st.0 (ap (λ p. entry p.bounds j) st.2) ne
    up_here (Sent asked m) al st j up ne = up_same j st.0 (ap (λ p. entry p.bounds j) st.2) ne
    up_here (Reported b) al st j up ne = up_same j st.0 (ap (λ p. entry p.bounds j) st.2) ne
    up_here (Heard number q b stable) al st j up ne = up_same j st.0 (ap (λ p. entry p.bounds j) st.2) ne

    up_step : (p : PartId) (j : ℕ) → (after p).up ≡ true → IsOther plan.sites p.site j → Complete plan next after p j (entry (after p).bounds j)
    up_step p j up ne = ⊎_elim
        (λ (e : at ≡ p). subst (λ x. (after x).up ≡ true → IsOther plan.sites x.site j → Complete plan next after x j (entry (after x).bounds j)) e (λ up' ne'. up_here event mv.allowed s j up' ne') up ne)
        (λ (a : at ≡ p → ⊥).
        let same = others p (λ x. a (sym x)) in
        subst (λ b. Complete plan next after p j b) (sym (ap (λ x. entry x.bounds j) same)) (complete_step p j (entry (before p).bounds j) (g.up_to p j (sym (ap (λ x. x.up) same) ∙ up) ne)))
        (part_cases at p)

    -- what a partition has heard after the step
    heard_same : (q j : ℕ) → (before at).up ≡ true → (after at).heard ≡ (before at).heard → 1 ≤ q → IsOther plan.sites at.site j → Complete plan next after (numbered at q) j (entry (vector_of (after at).heard q) j)
    heard_same q j up e l ne = subst (λ b. Complete plan next after (numbered at q) j b) (sym (ap (λ x. entry (vector_of x q) j) e)) (complete_step (numbered at q) j (entry (vector_of (before at).heard q) j) (g.heard at q j up l ne))

    heard_joined : (number k : ℕ) (b : List ℕ) (j : ℕ) → (before at).up ≡ true → MayHear plan run at number k b → IsOther plan.sites at.site j → Complete plan next after (numbered at k) j (entry (join (vector_of (before at).heard k) b) j)
    heard_joined number k b j up al ne = ⊎_elim
        (λ (x : entry (join (vector_of (before at).heard k) b) j ≤ entry (vector_of (before at).heard k) j). complete_step (numbered at k) j _ (complete_le plan run before (numbered at k) j (entry (vector_of (before at).heard k) j) _ x (g.heard at k j up al.least ne)))
        (λ (x : entry (join (vector_of (before at).heard k) b) j ≤ entry b j). complete_step (numbered at k) j _ (complete_le plan run before (numbered at k) j (entry b j) _ x (shown_has (IsBacked plan run before) run (numbered at k) (Reported b) g.events (numbered_shown report_count run number (numbered at k) (Reported b) al.shown) j ne)))
        (join_below (vector_of (before at).heard k) b (j - 1))

    heard_here : (a : Event E) → IsAllowed plan run before at (attempt a) → PartStep kinds plan.sites plan.parts at (before at) a (after at) → (q j : ℕ) → (after at).up ≡ true → 1 ≤ q → IsOther plan.sites at.site j → Complete plan next after (numbered at q) j (entry (vector_of (after at).heard q) j)
    heard_here (Heard number k b stable) al st q j up l ne =
        let e = ap (λ p. vector_of p.heard q) st.2 in ⊎_elim
        (λ (x : vector_of (done (before at) (Heard number k b stable)).heard q ≡ vector_of (before at).heard q). subst (λ y. Complete plan next after (numbered at q) j (entry y j)) (sym (e ∙ x)) (complete_step (numbered at q) j (entry (vector_of (before at).heard q) j) (g.heard at q j st.0 l ne)))
        (λ (x : (q - 1 ≡ k - 1) × (vector_of (done (before at) (Heard number k b stable)).heard q ≡ join (vector_of (before at).heard k) b)).
        let a = x.0 in
        let c = al.least in
        let same : k ≡ q = omega arith in
        subst (λ y. Complete plan next after (numbered at q) j (entry y j)) (sym (e ∙ x.1)) (subst (λ z. Complete plan next after (numbered at z) j (entry (join (vector_of (before at).heard k) b) j)) same (heard_joined number k b j st.0 al ne)))
        (vectors_cases (before at).heard k q (join (vector_of (before at).heard k) b))
    heard_here (Cut a) al st q j up l ne = clash up (ap (λ p. p.up) st.2)
    heard_here Crashed al st q j up l ne = clash up (ap (λ p. p.up) st)
    heard_here RestartCut al st q j up l ne = clash up (ap (λ p. p.up) st)
    heard_here (Restarted n b named listed) al st q j up l ne = complete_zero (numbered at q) j _ (ap (λ x. entry (vector_of x q) j) st.heard ∙ rows_at plan.parts plan.sites (q - 1) (j - 1))
    heard_here (Refused asked why) al st q j up l ne = heard_same q j (sym (ap (λ p. p.up) st.1) ∙ up) (ap (λ p. p.heard) st.1) l ne
    heard_here (Opened who) al st q j up l ne = heard_same q j (sym (ap (λ p. p.up) st) ∙ up) (ap (λ p. p.heard) st) l ne
    heard_here (Ticked r n) al st q j up l ne = heard_same q j st.0 (ap (λ p. p.heard) st.2) l ne
    heard_here (Began who dep t c) al st q j up l ne = heard_same q j st.0 (ap (λ p. p.heard) st.2) l ne
    heard_here (Updated t c o own op read u stamp) al st q j up l ne = heard_same q j st.0 (ap (λ p. p.heard) st.2) l ne
    heard_here (Read t c o own read value) al st q j up l ne = heard_same q j st.0 (ap (λ p. p.heard) st.2) l ne
    heard_here (Prepared t c y w n) al st q j up l ne = heard_same q j st.0 (ap (λ p. p.heard) st.2) l ne
    heard_here (Decided t c) al st q j up l ne = heard_same q j st.0 (ap (λ p. p.heard) st.2) l ne
    heard_here (Finished t c) al st q j up l ne = heard_same q j st.0 (ap (λ p. p.heard) st.2) l ne
    heard_here (Aborted t own) al st q j up l ne = heard_same q j st.0 (ap (λ p. p.heard) st.2) l ne
    heard_here (Sent asked m) al st q j up l ne = heard_same q j st.0 (ap (λ p. p.heard) st.2) l ne
    heard_here (Took number m) al st q j up l ne = heard_same q j st.0 (ap (λ p. p.heard) st.2) l ne
    heard_here (Reported b) al st q j up l ne = heard_same q j st.0 (ap (λ p. p.heard) st.2) l ne

    heard_step : (p : PartId) (q j : ℕ) → (after p).up ≡ true → 1 ≤ q → IsOther plan.sites p.site j → Complete plan next after (numbered p q) j (entry (vector_of (after p).heard q) j)
    heard_step p q j up l ne = ⊎_elim
        (λ (e : at ≡ p). subst (λ x. (after x).up ≡ true → IsOther plan.sites x.site j → Complete plan next after (numbered x q) j (entry (vector_of (after x).heard q) j)) e (λ up' ne'. heard_here event mv.allowed s q j up' l ne') up ne)
        (λ (a : at ≡ p → ⊥).
        let same = others p (λ x. a (sym x)) in
        subst (λ b. Complete plan next after (numbered p q) j b) (sym (ap (λ x. entry (vector_of x.heard q) j) same)) (complete_step (numbered p q) j (entry (vector_of (before p).heard q) j) (g.heard p q j (sym (ap (λ x. x.up) same) ∙ up) l ne)))
        (part_cases at p)

    -- of the own site
    own_same : (q : ℕ) → (before at).up ≡ true → (after at).heard ≡ (before at).heard → 1 ≤ q → entry (vector_of (after at).heard q) at.site ≤ sent next (numbered at q)
    own_same q up e l = subst (λ x. entry (vector_of x q) at.site ≤ sent next (numbered at q)) (sym e) (le_trans (g.own_heard at q up l) (sent_more run (record { at = at; event = event }) (numbered at q)))

    own_joined : (number k : ℕ) (b : List ℕ) → (before at).up ≡ true → MayHear plan run at number k b → entry (join (vector_of (before at).heard k) b) at.site ≤ sent next (numbered at k)
    own_joined number k b up al =
        let old = g.own_heard at k up al.least in
        let told = shown_reported run (numbered at k) b (numbered_shown report_count run number (numbered at k) (Reported b) al.shown) in
        let more = sent_more run (record { at = at; event = event }) (numbered at k) in ⊎_elim
        (λ (x : entry (join (vector_of (before at).heard k) b) at.site ≤ entry (vector_of (before at).heard k) at.site). le_trans x (le_trans old more))
        (λ (x : entry (join (vector_of (before at).heard k) b) at.site ≤ entry b at.site). le_trans x (le_trans told more))
        (join_below (vector_of (before at).heard k) b (at.site - 1))

    own_here : (a : Event E) → IsAllowed plan run before at (attempt a) → PartStep kinds plan.sites plan.parts at (before at) a (after at) → (q : ℕ) → (after at).up ≡ true → 1 ≤ q → entry (vector_of (after at).heard q) at.site ≤ sent next (numbered at q)
    own_here (Heard number k b stable) al st q up l =
        let e = ap (λ p. vector_of p.heard q) st.2 in ⊎_elim
        (λ (x : vector_of (done (before at) (Heard number k b stable)).heard q ≡ vector_of (before at).heard q). subst (λ y. entry y at.site ≤ sent next (numbered at q)) (sym (e ∙ x)) (le_trans (g.own_heard at q st.0 l) (sent_more run (record { at = at; event = event }) (numbered at q))))
        (λ (x : (q - 1 ≡ k - 1) × (vector_of (done (before at) (Heard number k b stable)).heard q ≡ join (vector_of (before at).heard k) b)).
        let a = x.0 in
        let c = al.least in
        let same : k ≡ q = omega arith in
        subst (λ y. entry y at.site ≤ sent next (numbered at q)) (sym (e ∙ x.1)) (subst (λ z. entry (join (vector_of (before at).heard k) b) at.site ≤ sent next (numbered at z)) same (own_joined number k b st.0 al)))
        (vectors_cases (before at).heard k q (join (vector_of (before at).heard k) b))
    own_here (Cut a) al st q up l = clash up (ap (λ p. p.up) st.2)
    own_here Crashed al st q up l = clash up (ap (λ p. p.up) st)
    own_here RestartCut al st q up l = clash up (ap (λ p. p.up) st)
    own_here (Restarted n b named listed) al st q up l = subst (λ x. x ≤ sent next (numbered at q)) (sym (ap (λ x. entry (vector_of x q) at.site) st.heard ∙ rows_at plan.parts plan.sites (q - 1) (at.site - 1))) (omega arith)
    own_here (Refused asked why) al st q up l = own_same q (sym (ap (λ p. p.up) st.1) ∙ up) (ap (λ p. p.heard) st.1) l
    own_here (Opened who) al st q up l = own_same q (sym (ap (λ p. p.up) st) ∙ up) (ap (λ p. p.heard) st) l
    own_here (Ticked r n) al st q up l = own_same q st.0 (ap (λ p. p.heard) st.2) l
    own_here (Began who dep t c) al st q up l = own_same q st.0 (ap (λ p. p.heard) st.2) l
    own_here (Updated t c o own op read u stamp) al st q up l = own_same q st.0 (ap (λ p. p.heard) st.2) l
    own_here (Read t c o own read value) al st q up l = own_same q st.0 (ap (λ p. p.heard) st.2) l
    own_here (Prepared t c y w n) al st q up l = own_same q st.0 (ap (λ p. p.heard) st.2) l
    own_here (Decided t c) al st q up l = own_same q st.0 (ap (λ p. p.heard) st.2) l
    own_here (Finished t c) al st q up l = own_same q st.0 (ap (λ p. p.heard) st.2) l
    own_here (Aborted t own) al st q up l = own_same q st.0 (ap (λ p. p.heard) st.2) l
    own_here (Sent asked m) al st q up l = own_same q st.0 (ap (λ p. p.heard) st.2) l
    own_here (Took number m) al st q up l = own_same q st.0 (ap (λ p. p.heard) st.2) l
    own_here (Reported b) al st q up l = own_same q st.0 (ap (λ p. p.heard) st.2) l

    own_step : (p : PartId) (q : ℕ) → (after p).up ≡ true → 1 ≤ q → entry (vector_of (after p).heard q) p.site ≤ sent next (numbered p q)
    own_step p q up l = ⊎_elim
        (λ (e : at ≡ p). subst (λ x. (after x).up ≡ true → entry (vector_of (after x).heard q) x.site ≤ sent next (numbered x q)) e (λ up'. own_here event mv.allowed s q up' l) up)
        (λ (a : at ≡ p → ⊥).
        let same = others p (λ x. a (sym x)) in
        subst (λ b. b ≤ sent next (numbered p q)) (sym (ap (λ x. entry (vector_of x.heard q) p.site) same)) (le_trans (g.own_heard p q (sym (ap (λ x. x.up) same) ∙ up) l) (sent_more run (record { at = at; event = event }) (numbered p q))))
        (part_cases at p)

    backed_step : (p : PartId) (a : Event E) → IsBacked plan run before p a → IsBacked plan next after p a
    backed_step p (Sent asked m) b = (exact_step kinds plan run before after at event s mv f f' rise v p m b.1 b.0, le_trans b.1 (sent_more run (record { at = at; event = event }) p))
    backed_step p (Reported b) h = λ j ne. complete_step p j (entry b j) (h j ne)
    backed_step p (Began who dep t c) h = λ q j l k ne. complete_step (numbered p q) j (entry c j) (h q j l k ne)
    backed_step p a b = tt

    -- what a begin knows of a partition of its site
    begin_knows : (dep : Wish) (t : TxId) (c : List ℕ) → (before at).up ≡ true → IsBegin plan.sites plan.parts at (before at) dep t c → (q j : ℕ) → 1 ≤ q → q ≤ plan.parts → IsOther plan.sites at.site j → Complete plan next after (numbered at q) j (entry c j)
    begin_knows dep t c up b q j l k ne =
        let below : entry c j ≤ known at (before at) j q = subst (λ x. x ≤ known at (before at) j q) (sym (b.stable j ne)) (lowest_below (known at (before at) j) plan.parts q l k) in ⊎_elim
        (λ (x : (at.part == q) ≡ true).
        let low : entry c j ≤ entry (before at).bounds j = subst (λ y. entry c j ≤ y) (cond-true (at.part == q) (entry (before at).bounds j) (entry (vector_of (before at).heard q) j) x) below in
        subst (λ y. Complete plan next after (numbered at y) j (entry c j)) (eqb-true at.part q x) (complete_step at j (entry c j) (complete_le plan run before at j (entry (before at).bounds j) (entry c j) low (g.up_to at j up ne))))
        (λ (x : (at.part == q) ≡ false).
        let low : entry c j ≤ entry (vector_of (before at).heard q) j = subst (λ y. entry c j ≤ y) (cond-false (at.part == q) (entry (before at).bounds j) (entry (vector_of (before at).heard q) j) x) below in
        complete_step (numbered at q) j (entry c j) (complete_le plan run before (numbered at q) j (entry (vector_of (before at).heard q) j) (entry c j) low (g.heard at q j up l ne)))
        (cases_Bool (at.part == q))

    backed_here : (a : Event E) → PartStep kinds plan.sites plan.parts at (before at) a (after at) → ((asked : Option ℕ) (m : Message E) → a ≡ Sent asked m → IsExact plan next at m × (m.hi ≤ sent next at)) → IsBacked plan next after at a
    backed_here (Sent asked m) st x = x asked m refl
    backed_here (Reported b) st x = λ j ne. subst (λ n. Complete plan next after at j n) (sym (st.1.others j ne)) (complete_step at j (entry (before at).bounds j) (g.up_to at j st.0 ne))
    backed_here (Began who dep t c) st x = begin_knows dep t c st.0 st.1
    backed_here a st x = tt

    told_kept : (p : PartId) (s : List ℕ) (b : Bool) → OwnTold plan run p s b → OwnTold plan next p s b
    told_kept p s false x = tt
    told_kept p s true x = λ q l k. le_trans (x q l k) (sent_more run (record { at = at; event = event }) (numbered p q))

    told_step : (p : PartId) (a : Event E) → IsTold plan run p a → IsTold plan next p a
    told_step p (Began who wish t s) x = told_kept p s wish.stable x
    told_step p a x = tt

    begin_tells : (wish : Wish) (time : ℕ) (c : List ℕ) (b : Bool) → (before at).up ≡ true → OwnEntry plan.parts at (before at) wish time (entry c at.site) b → sent next at ≡ begin_told b (entry c at.site) (sent run at) → OwnTold plan next at c b
    begin_tells wish time c false up o e = tt
    begin_tells wish time c true up o e = λ q l k.
        let low : entry c at.site ≤ cond (at.part == q) o.0.bound (entry (vector_of (before at).heard q) at.site) = subst (λ x. x ≤ cond (at.part == q) o.0.bound (entry (vector_of (before at).heard q) at.site)) (sym o.0.least) (lowest_below (λ q. cond (at.part == q) o.0.bound (entry (vector_of (before at).heard q) at.site)) plan.parts q l k) in ⊎_elim
        (λ (x : (at.part == q) ≡ true). subst (λ y. entry c at.site ≤ sent next (numbered at y)) (eqb-true at.part q x) (subst (λ y. entry c at.site ≤ y) (sym e) (omega arith)))
        (λ (x : (at.part == q) ≡ false).
        let h : entry c at.site ≤ entry (vector_of (before at).heard q) at.site = subst (λ y. entry c at.site ≤ y) (cond-false (at.part == q) o.0.bound (entry (vector_of (before at).heard q) at.site) x) low in
        le_trans h (le_trans (g.own_heard at q up l) (sent_more run (record { at = at; event = event }) (numbered at q))))
        (cases_Bool (at.part == q))

    told_here : (a : Event E) → event ≡ a → PartStep kinds plan.sites plan.parts at (before at) a (after at) → IsTold plan next at a
    told_here (Began who wish t c) e st = begin_tells wish t.time c wish.stable st.0 st.1.own (cond-true (same_part at at) _ _ (same_part_refl at) ∙ ap (λ a. sent_after at.site (sent run at) a) e)
    told_here a e st = tt

    pub bounds_step : ((asked : Option ℕ) (m : Message E) → event ≡ Sent asked m → IsExact plan next at m × (m.hi ≤ sent next at)) → Bounds plan next after
    bounds_step x = record {
      up_to = up_step;
      heard = heard_step;
      own_heard = own_step;
      logged = logged_step;
      from = from_step;
      told = (told_here event refl s, events_map (IsTold plan run) (IsTold plan next) told_step run g.told);
      events = (backed_here event s x, events_map (IsBacked plan run before) (IsBacked plan next after) backed_step run g.events);
    }

  -- at each partition of its site the own entry of a stable snapshot was told
  pub stable_told : (plan : Plan E) (run : List (Entry E)) (parts : PartId → PartState E) → Bounds plan run parts → (p : PartId) → IsPlace plan.sites plan.parts p → (t : TxId) (s : List ℕ) (al : IsSession run p t s) → al.dependency.stable ≡ true → entry s p.site ≤ sent run p
  stable_told plan run parts g p place t s al e =
      let told : OwnTold plan run (home t) s al.dependency.stable = shown_has (IsTold plan run) run (home t) (Began al.who al.dependency t s) g.told al.begun in
      let here : entry s t.site ≤ sent run (numbered (home t) p.part) = (subst (λ b. OwnTold plan run (home t) s b) e told) p.part place.least_part place.most_part in
      subst (λ j. entry s j ≤ sent run (record { site = j; part = p.part })) (sym al.site) here

  -- so it waits for nothing there
  pub stable_ready : (plan : Plan E) (run : List (Entry E)) (parts : PartId → PartState E) → Intervals plan run parts → Bounds plan run parts → (p : PartId) → IsPlace plan.sites plan.parts p → (t : TxId) (s : List ℕ) (al : IsSession run p t s) → al.dependency.stable ≡ true → (o : ObjectId) → IsReady p (parts p) s o
  stable_ready plan run parts v g p place t s al e o = let w = never_waits plan run parts v p (entry s p.site) (stable_told plan run parts g p place t s al e) in record { clock = w.0; free = λ u a b. w.1 u a }
