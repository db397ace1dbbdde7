-- The part answered reads: what a read left out comes too late for it.
use Rattle.std.proofs.Common.{◌≡◌, ◌⊎◌, ⊎_elim, inl, inr, ℕ, ◌-◌, ◌<◌, ◌≤◌, Bool, true, false, ◌&&◌, List, [], ◌∷◌, refl, sym, ap, ◌∙◌, subst, arith, le_trans}
use Rattle.std.specs.Prelude.{⊤}
use Rattle.std.proofs.lemmas.Bool.{cases_eq, cases_Bool, or_left, or_right, or_from, or_cases, and_left, and_parts, cond-true, cond-false}
use Rattle.site_vector.specs.declared.ids.PartId.{PartId}
use Rattle.site_vector.specs.declared.ids.TxId.{TxId}
use Rattle.site_vector.specs.Vector.{le, entry}
use Rattle.crdt_core.specs.declared.object.ObjectId.{ObjectId}
use Rattle.crdt_core.specs.Kinds.{reads_state}
use Rattle.crdt_core.specs.declared.record.Upd.{Upd}
use Rattle.crdt_core.specs.declared.record.Part.{Part}
use Rattle.crdt_core.specs.declared.record.Record.{Record}
use Rattle.crdt_core.specs.Parts.{touches, lists}
use Rattle.crdt_core.specs.Log.{prepared, prepare_time, prepared_changes, committed, committed_at, aborted, pending, taken, taken_at, taken_changes, holds, held_at, held_changes}
use Rattle.world_model.specs.rules.Event.{Event, Began, Updated, Read, Entry, attempt, is_decided, time_of}
use Rattle.world_model.proofs.Runs.{sent}
use Rattle.crdt_core.specs.KindsOf.{Kinds}
use Rattle.world_model.specs.rules.Partition.{PartState, Finds, IsReady, PartStep}
use Rattle.world_model.specs.lines.Places.{IsOther, IsPlace, twin, home}
use Rattle.crdt_core.specs.Folds.{IsFold, state_read}
use Rattle.world_model.specs.rules.Plan.{Plan, takes_part, changes_at, vector_at, commit_vector, is_some_update, IsAllowed, IsAsked}
use Rattle.world_model.specs.events.Reads.{IsRightFold}
use Rattle.world_model.proofs.Names.{clash, le_at}
use Rattle.world_model.proofs.Parts.{parts_map}
use Rattle.world_model.proofs.Moves.{Move, image_log}
use Rattle.world_model.proofs.Fate.{Fate, pending_parts}
use Rattle.world_model.proofs.Later.{at_own, home_here, Later, later_now, waited, in_log, later_step, too_late}
use Rattle.world_model.proofs.Intervals.{Intervals, sent_more, shown_has, none, above_sent, same_commit}
use Rattle.world_model.proofs.Completeness.{Complete, IsBacked, Bounds}

-- the test of one transaction, at equal parts
same_test : (s : List ℕ) (h k x y : Bool) (v w : List ℕ) → h ≡ k → x ≡ y → v ≡ w → (h && (x && le v s)) ≡ (k && (y && le w s))
same_test s h k x y v w e f g = λ i. (e i && (f i && le (g i) s))

module _ {E : Type 0} where
  touches_some : (us : List (Upd E)) (o : ObjectId) → touches us o ≡ true → is_some_update us ≡ true
  touches_some [] o h = h
  touches_some (u ∷ us) o h = refl

  in_time : (plan : Plan E) (t : TxId) (p : PartId) (c : ℕ) (s : List ℕ) → takes_part plan t p ≡ true → le (vector_at plan t c) s ≡ true → c ≤ entry s t.site
  in_time plan t p c s u h = subst (λ x. x ≤ entry s t.site) (at_own plan t p c u) (le_at (vector_at plan t c) s (t.site - 1) h)

  -- what holds of a read once it was answered
  pub record Answered (plan : Plan E) (run : List (Entry E)) (parts : PartId → PartState E) (p : PartId) (s : List ℕ) (o : ObjectId) (read : List (Part E)) : Type 0 where
    pub seen : entry s p.site ≤ (parts p).now
    pub later : (u : TxId) → touches (plan.updates u p) o ≡ true → lists read u ≡ false → Later run parts p (entry s p.site) u
    pub covered : (j : ℕ) → IsOther plan.sites p.site j → entry s j ≤ sent run (twin j p)
    pub right : IsRightFold plan run p s o read

  abbrev pub IsAnswered : {S : Type 0} → Kinds S E → Plan E → List (Entry E) → (PartId → PartState E) → PartId → Event E → Type 0
  IsAnswered kinds plan run parts p (Read t s o own read value) = Answered plan run parts p s o read × (value ≡ kinds.value_of (state_read kinds o t own read))
  IsAnswered kinds plan run parts p (Updated t s o own op read u stamp) = reads_state o.kind ≡ true → Answered plan run parts p s o read
  IsAnswered kinds plan run parts p event = ⊤

  module _ {S : Type 0} (kinds : Kinds S E) (plan : Plan E) (run : List (Entry E)) (before after : PartId → PartState E) (at : PartId) (event : Event E) (st : PartStep kinds plan.sites plan.parts at (before at) event (after at)) (mv : Move plan run before after at event) (f : Fate plan run before) (f' : Fate plan ((record { at = at; event = event }) ∷ run) after) (rise : (q : PartId) → (before q).now ≤ (after q).now) (iv : Intervals plan run before) where
    abbrev next : List (Entry E)
    next = (record { at = at; event = event }) ∷ run

    module _ (p : PartId) (s : List ℕ) (o : ObjectId) (read : List (Part E)) (g : Answered plan run before p s o read) where
      -- who comes into the history now isn't visible to the read
      not_seen : (u : TxId) → lists read u ≡ false → is_decided run u ≡ false → is_decided next u ≡ true → touches (changes_at plan p u) o ≡ true → le (commit_vector plan next u) s ≡ true → ⊥
      not_seen u a out now x le' =
          let part = touches_some (changes_at plan p u) o x in
          let c = in_time plan u (twin u.site p) (time_of next u) s part le' in ⊎_elim
          (λ (e : u.site ≡ p.site).
          let up : touches (plan.updates u p) o ≡ true = subst (λ j. touches (plan.updates u (twin j p)) o ≡ true) e x in
          let b = too_late plan run before after at event mv f f' p (entry s p.site) u g.seen (g.later u up a) out now (touches_some (plan.updates u p) o up) in
          let c' : time_of next u ≤ entry s p.site = subst (λ j. time_of next u ≤ entry s j) e c in
          omega arith)
          (λ (ne : u.site ≡ p.site → ⊥).
          let b = above_sent kinds plan run before after at event st mv f f' rise iv (twin u.site p) u out now part in
          let d = g.covered u.site (record { least = plan.least u (twin u.site p) part; most = plan.most u (twin u.site p) part; apart = ne }) in
          omega arith)
          (cases_eq u.site p.site)

      right_step : IsRightFold plan next p s o read
      right_step = record {
        order = g.right.order;
        members = λ u. ⊎_elim
            (λ (k : is_decided run u ≡ true). g.right.members u ∙ same_test s (is_decided run u) (is_decided next u) (touches (changes_at plan p u) o) (touches (changes_at plan p u) o) (commit_vector plan run u) (commit_vector plan next u) (k ∙ sym (or_right _ _ k)) refl (same_commit kinds plan run before after at event st mv f f' rise iv u k))
            (λ (k : is_decided run u ≡ false). let a : lists read u ≡ false = g.right.members u ∙ and_left _ _ k in a ∙ none _ _ _ (λ c x l. not_seen u a k c x l))
            (cases_Bool (is_decided run u));
        exact = parts_map (commit_vector plan run) (commit_vector plan next) (changes_at plan p) (changes_at plan p) read (λ t h. (same_commit kinds plan run before after at event st mv f f' rise iv t (and_parts _ _ (sym (g.right.members t) ∙ h)).0, refl)) g.right.exact;
      }

      later_kept : (u : TxId) → touches (plan.updates u p) o ≡ true → lists read u ≡ false → Later next after p (entry s p.site) u
      later_kept u x a m i h = ⊎_elim
          (λ (y : aborted m u ≡ true). inl y)
          (λ (y : (entry s p.site < prepare_time m u) ⊎ ((is_decided run u ≡ true) × (committed m u ≡ true))). inr (⊎_elim (λ (z : entry s p.site < prepare_time m u). inl z) (λ (z : (is_decided run u ≡ true) × (committed m u ≡ true)). inr (or_right _ _ z.0, z.1)) y))
          (later_step plan run before after at event mv f f' p (entry s p.site) u g.seen (g.later u x a) m i h)

      answered_step : Answered plan next after p s o read
      answered_step = record {
        seen = le_trans g.seen (rise p);
        later = later_kept;
        covered = λ j ne. le_trans (g.covered j ne) (sent_more run (record { at = at; event = event }) (twin j p));
        right = right_step;
      }

    pub answered_events : (p : PartId) (a : Event E) → IsAnswered kinds plan run before p a → IsAnswered kinds plan next after p a
    answered_events p (Read t s o own read value) x = (answered_step p s o read x.0, x.1)
    answered_events p (Updated t s o own op read u stamp) x = λ h. answered_step p s o read (x h)
    answered_events p a x = tt

  module _ (plan : Plan E) (run : List (Entry E)) (before after : PartId → PartState E) (f : Fate plan run before) (g : Bounds plan run before) (at : PartId) (place : IsPlace plan.sites plan.parts at) (t : TxId) (s : List ℕ) (o : ObjectId) (own : List (Upd E)) (read : List (Part E)) (event : Event E) (up : (before at).up ≡ true) (ready : IsReady at (before at) s o) (fold : IsFold (before at).log s o read) (al : IsAsked plan run at t s o own) where
    covers : (j : ℕ) → IsOther plan.sites at.site j → Complete plan run before at j (entry s j)
    covers j ne =
        let backed = shown_has (IsBacked plan run before) run (home t) (Began al.who al.dependency t s) g.events al.begun in
        subst (λ x. Complete plan run before (record { site = x; part = at.part }) j (entry s j)) (sym al.site) (backed at.part j place.least_part place.most_part (subst (λ x. IsOther plan.sites x j) al.site ne))

    written : (u : TxId) → prepared (before at).log u ≡ true → touches (plan.updates u at) o ≡ true → touches (prepared_changes (before at).log u) o ≡ true
    written u h x = subst (λ w. touches w o ≡ true) (sym (f.wrote at (before at).log u (image_log (before at)) h)) x

    waits : (u : TxId) → touches (plan.updates u at) o ≡ true → pending (before at).log u ≡ true → entry s at.site < prepare_time (before at).log u
    waits u x w = ready.free u w (written u (pending_parts (before at).log u w).prepared x)

    RightMember : TxId → Type 0
    RightMember u = lists read u ≡ (is_decided run u && (touches (changes_at plan at u) o && le (commit_vector plan run u) s))

    -- what is committed here, or was taken, is held as the whole run has it
    changes_here : (u : TxId) → committed (before at).log u ≡ true → prepared_changes (before at).log u ≡ changes_at plan at u
    changes_here u c = let l = (before at).log in let i = image_log (before at) in f.wrote at l u i (f.first at l u i c) ∙ ap (λ j. plan.updates u (twin j at)) (home_here plan run before f at u c)

    right_committed : (u : TxId) → committed (before at).log u ≡ true → RightMember u
    unfolding RightMember
    right_committed u c =
        let l = (before at).log in
        fold.members u ∙ same_test s (holds l u) (is_decided run u) (touches (held_changes l u) o) (touches (changes_at plan at u) o) (held_at l u) (commit_vector plan run u)
        (or_left _ _ c ∙ sym (in_log plan run before f at 0 up u c))
        (ap (λ w. touches w o) (cond-true _ (prepared_changes l u) (taken_changes l u) c ∙ changes_here u c))
        (cond-true _ (committed_at l u) (taken_at l u) c ∙ f.time at l u (image_log (before at)) c)

    right_taken : (u : TxId) → committed (before at).log u ≡ false → taken (before at).log u ≡ true → RightMember u
    unfolding RightMember
    right_taken u c k =
        let l = (before at).log in
        let b = g.from at l u (image_log (before at)) k in
        fold.members u ∙ same_test s (holds l u) (is_decided run u) (touches (held_changes l u) o) (touches (changes_at plan at u) o) (held_at l u) (commit_vector plan run u)
        (or_right _ _ k ∙ sym b.past)
        (ap (λ w. touches w o) (cond-false _ (prepared_changes l u) (taken_changes l u) c ∙ b.wrote))
        (cond-false _ (committed_at l u) (taken_at l u) c ∙ b.time)

    -- what isn't held isn't visible
    right_absent : (u : TxId) → committed (before at).log u ≡ false → taken (before at).log u ≡ false → is_decided run u ≡ true → touches (changes_at plan at u) o ≡ true → le (commit_vector plan run u) s ≡ true → ⊥
    right_absent u c k h x le' =
        let l = (before at).log in
        let part = touches_some (changes_at plan at u) o x in
        let in_s = in_time plan u (twin u.site at) (time_of run u) s part le' in ⊎_elim
        (λ (e : u.site ≡ at.site).
        let here : touches (plan.updates u at) o ≡ true = subst (λ j. touches (plan.updates u (twin j at)) o ≡ true) e x in
        let w = waited plan run before f at (entry s at.site) up u (waits u here) c h (touches_some (plan.updates u at) o here) in
        let d : time_of run u ≤ entry s at.site = subst (λ j. time_of run u ≤ entry s j) e in_s in
        omega arith)
        (λ (ne : u.site ≡ at.site → ⊥).
        let other : IsOther plan.sites at.site u.site = record { least = plan.least u (twin u.site at) part; most = plan.most u (twin u.site at) part; apart = ne } in
        clash ((covers u.site other).held l u (image_log (before at)) h refl part in_s) k)
        (cases_eq u.site at.site)

    right_member : (u : TxId) → RightMember u
    unfolding RightMember
    right_member u = ⊎_elim
        (λ (c : committed (before at).log u ≡ true). right_committed u c)
        (λ (c : committed (before at).log u ≡ false). ⊎_elim
        (λ (k : taken (before at).log u ≡ true). right_taken u c k)
        (λ (k : taken (before at).log u ≡ false). fold.members u ∙ and_left _ _ (or_from _ _ c k) ∙ none _ _ _ (right_absent u c k))
        (cases_Bool (taken (before at).log u)))
        (cases_Bool (committed (before at).log u))

    held_right : (u : TxId) → holds (before at).log u ≡ true → (held_at (before at).log u ≡ commit_vector plan run u) × (held_changes (before at).log u ≡ changes_at plan at u)
    held_right u h = let l = (before at).log in ⊎_elim
        (λ (c : committed l u ≡ true). (cond-true _ (committed_at l u) (taken_at l u) c ∙ f.time at l u (image_log (before at)) c, cond-true _ (prepared_changes l u) (taken_changes l u) c ∙ changes_here u c))
        (λ (c : committed l u ≡ false). let b = g.from at l u (image_log (before at)) (⊎_elim (λ (x : committed l u ≡ true). clash x c) (λ (x : taken l u ≡ true). x) (or_cases _ _ h)) in
        (cond-false _ (committed_at l u) (taken_at l u) c ∙ b.time, cond-false _ (prepared_changes l u) (taken_changes l u) c ∙ b.wrote))
        (cases_Bool (committed l u))

    pub right_now : IsRightFold plan run at s o read
    unfolding RightMember
    right_now = record {
      order = fold.order;
      members = right_member;
      exact = parts_map (held_at (before at).log) (commit_vector plan run) (held_changes (before at).log) (changes_at plan at) read (λ u h. held_right u (and_parts _ _ (sym (fold.members u) ∙ h)).0) fold.exact;
    }

    -- the same run with an event that decides nothing
    pub answered_now : (before at).now ≡ (after at).now → ((l : List (Record E)) → Finds (after at) l → l ≡ (before at).log) → IsRightFold plan ((record { at = at; event = event }) ∷ run) at s o read → ((u : TxId) → is_decided ((record { at = at; event = event }) ∷ run) u ≡ is_decided run u) → Answered plan ((record { at = at; event = event }) ∷ run) after at s o read
    answered_now now one right same = record {
      seen = subst (λ n. entry s at.site ≤ n) now ready.clock;
      later = λ u x a l i h. let e = one l i in ⊎_elim
          (λ (y : aborted (before at).log u ≡ true). inl (ap (λ z. aborted z u) e ∙ y))
          (λ (y : (entry s at.site < prepare_time (before at).log u) ⊎ ((is_decided run u ≡ true) × (committed (before at).log u ≡ true))). inr (⊎_elim
          (λ (z : entry s at.site < prepare_time (before at).log u). inl (subst (λ w. entry s at.site < prepare_time w u) (sym e) z))
          (λ (z : (is_decided run u ≡ true) × (committed (before at).log u ≡ true)). inr (same u ∙ z.0, ap (λ y. committed y u) e ∙ z.1))
          y))
          (later_now plan run before f at (entry s at.site) up u (waits u x) (subst (λ y. prepared y u ≡ true) e h));
      covered = λ j ne. le_trans (covers j ne).reached (sent_more run (record { at = at; event = event }) (twin j at));
      right = right;
    }

  pub answered_event : {S : Type 0} (kinds : Kinds S E) (plan : Plan E) (run : List (Entry E)) (before after : PartId → PartState E) → Fate plan run before → Bounds plan run before → (at : PartId) → IsPlace plan.sites plan.parts at → (event : Event E) → PartStep kinds plan.sites plan.parts at (before at) event (after at) → IsAllowed plan run before at (attempt event) → IsAnswered kinds plan ((record { at = at; event = event }) ∷ run) after at event
  answered_event kinds plan run before after f g at place (Read t s o own read value) st al =
      let r = right_now plan run before after f g at place t s o own read (Read t s o own read value) st.0 st.1.0 st.1.1 al in (
        answered_now plan run before after f g at place t s o own read (Read t s o own read value) st.0 st.1.0 st.1.1 al
            (ap (λ p. p.now) (sym st.2)) (λ l i. subst (λ p. Finds p l) st.2 i) (record { order = r.order; members = r.members; exact = r.exact }) (λ u. refl),
        st.1.3,
      )
  answered_event kinds plan run before after f g at place (Updated t s o own op read u stamp) st al = λ h.
      let r = right_now plan run before after f g at place t s o own read (Updated t s o own op read u stamp) st.0 (st.1.ready h) (st.1.fold h) al in
      answered_now plan run before after f g at place t s o own read (Updated t s o own op read u stamp) st.0 (st.1.ready h) (st.1.fold h) al
      (ap (λ p. p.now) (sym st.2)) (λ l i. subst (λ p. Finds p l) st.2 i) (record { order = r.order; members = r.members; exact = r.exact }) (λ u. refl)
  answered_event kinds plan run before after f g at place event st al = tt
