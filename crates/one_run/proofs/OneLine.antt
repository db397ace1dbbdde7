-- After the same lines, one call has one answer, where no disk fails and none is full.
use Rattle.std.proofs.Common.{◌≡◌, ⊎_elim, ℕ, ◌+◌, ◌-◌, ◌^◌, ◌<◌, ◌≤◌, max, leb, Bool, true, false, ◌&&◌, List, [], ◌∷◌, ◌++◌, length, Option, arith, refl, sym, ap, ◌∙◌, subst}
use Rattle.std.specs.Prelude.{◌==◌, cond, filter, ⊤}
use Rattle.std.proofs.lemmas.Bool.{cases_Bool, cond-true, cond-false, leb-true, le-leb, false_from_ne_true, or_parts, or_left, or_right, or_cases, eqb-true, eq-eqb}
use Rattle.site_vector.specs.declared.ids.PartId.{PartId}
use Rattle.site_vector.specs.declared.ids.TxId.{TxId}
use Rattle.site_vector.specs.Vector.{le, entry}
use Rattle.crdt_core.specs.declared.kind.Kind.{Kind}
use Rattle.crdt_core.specs.declared.object.ObjectId.{ObjectId}
use Rattle.crdt_core.specs.declared.operation.Op.{Op}
use Rattle.crdt_core.specs.declared.value.Value.{Value}
use Rattle.crdt_core.specs.Seen.{Update}
use Rattle.crdt_core.specs.Kinds.{reads_state}
use Rattle.world_model.proofs.Names.{clash, off, le_at}
use Rattle.world_model.specs.declared.step.Step.{Step}
use Rattle.world_model.specs.declared.step.Step.TheVariants as step
use Rattle.world_model.specs.lines.Lines.{Wish, Call, Tick, Begin, ReadOf, UpdateOf, PrepareOf, DecideOf, FinishOf, AbortOf, SendTo, TakeOf, Report, HearOf, Crash, Open, Line}
use Rattle.world_model.specs.lines.Listed.{IsReadyBy, IsFirstBy}
use Rattle.world_model.specs.lines.Places.{IsOther, home}
use Rattle.world_model.specs.lines.Clock.{now, ShowsTime}
use Rattle.world_model.specs.lines.Answers.{IsAnswer}
use Rattle.world_model.specs.lines.Causes.{HasCause, AnswersAsUp, IsStableEnough}
use Rattle.world_model.specs.lines.Bounds.{bound, known, IsLeast, IsLeastBehind, IsOwnBound, IsOwnStable}
use Rattle.world_model.specs.lines.Dependency.{HoldsHanded}
use Rattle.world_model.specs.lines.Pending.{pending, prepare_time, is_down}
use Rattle.world_model.specs.lines.History.{history, snapshot, commit_vector, visible, precedes}
use Rattle.world_model.specs.lines.Updates.{IsPlaced, changes, updated_by}
use Rattle.world_model.specs.lines.Commit.{ShowsCommit}
use Rattle.world_model.specs.lines.Fate.{ShowsFate}
use Rattle.world_model.specs.lines.Fresh.{OwnEntry, IsSnapshot, ShowsBounds, IsStable, IsFresh}
use Rattle.world_model.specs.lines.Reads.{IsRightRead, read_by, updates_in, update_of}
use Rattle.std.specs.List.{list_any, flat_map}
use Rattle.crdt_core.specs.Objects.{same_object}
use Rattle.crdt_core.specs.Stamps.{stamp_due}
use Rattle.site_vector.specs.Ids.{same_part, same_tx}
use Rattle.site_vector.specs.Order.{same_tx_is}
use Rattle.world_model.specs.lines.Streams.{IsNext, IsStream, low_of, last_sent, stream_count, sent_count, report_count}
use Rattle.one_run.specs.Unfailing.{is_of_disk, IsMarked}
use Rattle.one_run.proofs.Uniques.{one_bound, one_least, one_own_stable, one_behind, one_first, one_snapshot, one_report, one_stable}

not_le : (n m : ℕ) → n < m → leb m n ≡ false
not_le n m h = false_from_ne_true _ (λ k. let l = leb-true m n k in absurd (omega arith))

apart : (n m : ℕ) → n < m → (n == m) ≡ false
apart n m h = false_from_ne_true _ (λ k. let e = eqb-true n m k in absurd (omega arith))

is_one : (n m : ℕ) → n ≡ m → (n == m) ≡ true
is_one n m h = eq-eqb n m h

flat_same : {A B : Type 0} (m : A → Bool) (f g : A → List B) → ((x : A) → m x ≡ true → f x ≡ g x) → (xs : List A) → flat_map f (filter m xs) ≡ flat_map g (filter m xs)
flat_same m f g h [] = refl
flat_same m f g h (x ∷ xs) = ⊎_elim
    (λ (e : m x ≡ true). ap (flat_map f) (cond-true (m x) (x ∷ filter m xs) (filter m xs) e) ∙ ((λ i. h x e i ++ flat_same m f g h xs i) ∙ sym (ap (flat_map g) (cond-true (m x) (x ∷ filter m xs) (filter m xs) e))))
    (λ (e : m x ≡ false). ap (flat_map f) (cond-false (m x) (x ∷ filter m xs) (filter m xs) e) ∙ (flat_same m f g h xs ∙ sym (ap (flat_map g) (cond-false (m x) (x ∷ filter m xs) (filter m xs) e))))
    (cases_Bool (m x))

any_more : {A : Type 0} (f : A → Bool) (xs ys : List A) → list_any f (xs ++ []) ≡ true → list_any f (xs ++ ys) ≡ true
any_more f [] ys h = off h
any_more f (x ∷ xs) ys h = ⊎_elim (λ (e : f x ≡ true). or_left (f x) _ e) (λ (e : list_any f (xs ++ []) ≡ true). or_right (f x) _ (any_more f xs ys e)) (or_cases (f x) _ h)

module _ (sites parts : ℕ) (ls : List Line) (p : PartId) where
  abbrev pub on : Call → Step → List Line
  on call s = (record { at = p; call = call; step = s }) ∷ ls

  -- p is down, or answers so
  abbrev by : Step → Step
  by s = cond (is_down ls p) (step.Down p) s

  from_down : (q : PartId) (s : Step) → q ≡ p → is_down ls p ≡ true → step.Down q ≡ by s
  from_down q s a u = (λ i. step.Down (a i)) ∙ sym (cond-true (is_down ls p) (step.Down p) s u)

  from_up : (s t : Step) → s ≡ t → is_down ls p ≡ false → s ≡ by t
  from_up s t e u = e ∙ sym (cond-false (is_down ls p) (step.Down p) t u)

  pub one_tick : (r : ℕ) (s : Step) → IsAnswer ls p (Tick r) s → HasCause sites parts (on (Tick r) s) ls p (Tick r) s → AnswersAsUp ls p (Tick r) s → is_of_disk s ≡ false → ShowsTime ls p (Tick r) s → s ≡ by (step.Ticked p (max r (now ls p)))
  one_tick r (step.Down q) a c u d t = from_down q _ a.0 u
  one_tick r (step.Ticked q n) a c u d t = from_up _ _ (λ i. step.Ticked (a i) (t i)) u
  one_tick r (step.WaitClock q n) a c u d t = absurd c
  one_tick r (step.WaitTxn q v n) a c u d t = absurd c
  one_tick r (step.WaitStable j n) a c u d t = absurd c
  one_tick r (step.Gone q v) a c u d t = absurd c
  one_tick r (step.Full n) a c u d t = clash refl d
  one_tick r (step.Disk q) a c u d t = clash refl d
  one_tick r (step.Unsure v) a c u d t = clash refl d
  one_tick r s a c u d t = absurd a

  abbrev vote : TxId → Step
  vote t = cond (leb (entry (snapshot ls t) p.site) (now ls p)) (cond (now ls p == 2 ^ 62) step.TimeEnd (step.Prepared p t (now ls p + 1))) (step.WaitClock p (now ls p))

  pub one_vote : (t : TxId) (s : Step) → IsAnswer ls p (PrepareOf t) s → HasCause sites parts (on (PrepareOf t) s) ls p (PrepareOf t) s → AnswersAsUp ls p (PrepareOf t) s → is_of_disk s ≡ false → ShowsTime ls p (PrepareOf t) s → s ≡ by (vote t)
  one_vote t (step.Down q) a c u d k = from_down q _ a.0 u
  one_vote t (step.Prepared q v n) a c u d k = let e : (now ls p == 2 ^ 62) ≡ false = apart (now ls p) (2 ^ 62) c.1 in from_up _ _ ((λ i. step.Prepared (a.0 i) (a.1 i) (k i)) ∙ sym (cond-true _ _ _ (le-leb _ _ (subst (λ x. entry (snapshot ls x) p.site ≤ now ls p) a.1 c.0)) ∙ cond-false _ _ _ e)) u
  one_vote t (step.TimeEnd) a c u d k = from_up _ _ (sym (cond-true _ _ _ (le-leb _ _ c.1) ∙ cond-true _ _ _ (is_one (now ls p) (2 ^ 62) c.0))) u
  one_vote t (step.WaitClock q n) a c u d k = from_up _ _ ((λ i. step.WaitClock (a i) (c.0 i)) ∙ sym (cond-false _ _ _ (not_le _ _ (subst (λ x. x < entry (snapshot ls t) p.site) c.0 c.1)))) u
  one_vote t (step.WaitTxn q v n) a c u d k = absurd c
  one_vote t (step.WaitStable j n) a c u d k = absurd c
  one_vote t (step.Gone q v) a c u d k = absurd c
  one_vote t (step.Full n) a c u d k = clash refl d
  one_vote t (step.Disk q) a c u d k = clash refl d
  one_vote t (step.Unsure v) a c u d k = clash refl d
  one_vote t s a c u d k = absurd a

  decided_vector : (v t : TxId) (w : List ℕ) → v ≡ t → w ≡ commit_vector ls v → w ≡ commit_vector ls t
  decided_vector v t w e h = h ∙ ap (commit_vector ls) e

  pub one_decision : (t : TxId) (s : Step) → IsAnswer ls p (DecideOf t) s → HasCause sites parts (on (DecideOf t) s) ls p (DecideOf t) s → AnswersAsUp ls p (DecideOf t) s → is_of_disk s ≡ false → ShowsCommit parts (on (DecideOf t) s) ls p (DecideOf t) s → s ≡ by (cond (pending ls p t) (step.Decided p t (commit_vector ls t)) (step.Gone p t))
  one_decision t (step.Down q) a c u d k = from_down q _ a.0 u
  one_decision t (step.Decided q v w) a c u d k = from_up _ _ ((λ i. step.Decided (a.0 i) (a.1 i) (decided_vector v t w a.1 k.1 i)) ∙ sym (cond-true _ _ _ (subst (λ x. pending ls p x ≡ true) a.1 c))) u
  one_decision t (step.Gone q v) a c u d k = from_up _ _ ((λ i. step.Gone (a i) (c.0 i)) ∙ sym (cond-false _ _ _ (or_parts (pending ls p t) _ c.1).0)) u
  one_decision t (step.WaitClock q n) a c u d k = absurd c
  one_decision t (step.WaitTxn q v n) a c u d k = absurd c
  one_decision t (step.WaitStable j n) a c u d k = absurd c
  one_decision t (step.Full n) a c u d k = clash refl d
  one_decision t (step.Disk q) a c u d k = clash refl d
  one_decision t (step.Unsure v) a c u d k = clash refl d
  one_decision t s a c u d k = absurd a

  pub one_end : (t : TxId) (s : Step) → IsAnswer ls p (FinishOf t) s → HasCause sites parts (on (FinishOf t) s) ls p (FinishOf t) s → AnswersAsUp ls p (FinishOf t) s → is_of_disk s ≡ false → s ≡ by (step.Finished p t)
  one_end t (step.Down q) a c u d = from_down q _ a.0 u
  one_end t (step.Finished q v) a c u d = from_up _ _ (λ i. step.Finished (a.0 i) (a.1 i)) u
  one_end t (step.WaitClock q n) a c u d = absurd c
  one_end t (step.WaitTxn q v n) a c u d = absurd c
  one_end t (step.WaitStable j n) a c u d = absurd c
  one_end t (step.Gone q v) a c u d = absurd c
  one_end t (step.Full n) a c u d = clash refl d
  one_end t (step.Disk q) a c u d = clash refl d
  one_end t (step.Unsure v) a c u d = clash refl d
  one_end t s a c u d = absurd a

  pub one_abort : (t : TxId) (s : Step) → IsAnswer ls p (AbortOf t) s → HasCause sites parts (on (AbortOf t) s) ls p (AbortOf t) s → AnswersAsUp ls p (AbortOf t) s → is_of_disk s ≡ false → ShowsFate sites parts (on (AbortOf t) s) ls p (AbortOf t) s → s ≡ by (cond (pending ls p t) (step.Aborted p t) (step.Gone p t))
  one_abort t (step.Down q) a c u d k = from_down q _ a.0 u
  one_abort t (step.Aborted q v) a c u d k = from_up _ _ ((λ i. step.Aborted (a.0 i) (a.1 i)) ∙ sym (cond-true _ _ _ (subst (λ x. pending ls p x ≡ true) a.1 k.0))) u
  one_abort t (step.Gone q v) a c u d k = from_up _ _ ((λ i. step.Gone (a i) (c.0 i)) ∙ sym (cond-false _ _ _ c.1)) u
  one_abort t (step.WaitClock q n) a c u d k = absurd c
  one_abort t (step.WaitTxn q v n) a c u d k = absurd c
  one_abort t (step.WaitStable j n) a c u d k = absurd c
  one_abort t (step.Full n) a c u d k = clash refl d
  one_abort t (step.Disk q) a c u d k = clash refl d
  one_abort t (step.Unsure v) a c u d k = clash refl d
  one_abort t s a c u d k = absurd a

  pub one_take : (w site lo hi number : ℕ) (who : List ℕ) (s : Step) → IsAnswer ls p (TakeOf w site lo hi) s → HasCause sites parts (on (TakeOf w site lo hi) s) ls p (TakeOf w site lo hi) s → AnswersAsUp ls p (TakeOf w site lo hi) s → is_of_disk s ≡ false → IsStream sites (on (TakeOf w site lo hi) s) ls p (TakeOf w site lo hi) s → IsMarked (TakeOf w site lo hi) number who s → s ≡ by (cond (leb lo (bound ls p site)) (cond (leb hi (bound ls p site)) (step.Dup number (bound ls p site)) (step.Took number hi)) (step.Gap number (bound ls p site)))
  one_take w site lo hi number who (step.Down q) a c u d k m = from_down q _ a.0 u
  one_take w site lo hi number who (step.Took n end) a c u d k m = from_up _ _ ((λ i. step.Took (m i) (k.0 i)) ∙ sym (cond-true _ _ _ (le-leb _ _ k.1) ∙ cond-false _ _ _ (not_le _ _ k.2))) u
  one_take w site lo hi number who (step.Dup n x) a c u d k m = from_up _ _ ((λ i. step.Dup (m i) (k.0 i)) ∙ sym (cond-true _ _ _ (le-leb _ _ (subst (λ y. lo ≤ y) k.0 k.1)) ∙ cond-true _ _ _ (le-leb _ _ (subst (λ y. hi ≤ y) k.0 k.2)))) u
  one_take w site lo hi number who (step.Gap n x) a c u d k m = from_up _ _ ((λ i. step.Gap (m i) (k.0 i)) ∙ sym (cond-false _ _ _ (not_le _ _ (subst (λ y. y < lo) k.0 k.1)))) u
  one_take w site lo hi number who (step.WaitClock q n) a c u d k m = absurd c
  one_take w site lo hi number who (step.WaitTxn q v n) a c u d k m = absurd c
  one_take w site lo hi number who (step.WaitStable j n) a c u d k m = absurd c
  one_take w site lo hi number who (step.Gone q v) a c u d k m = absurd c
  one_take w site lo hi number who (step.Full n) a c u d k m = clash refl d
  one_take w site lo hi number who (step.Disk q) a c u d k m = clash refl d
  one_take w site lo hi number who (step.Unsure v) a c u d k m = clash refl d
  one_take w site lo hi number who s a c u d k m = absurd a

  pub one_crash : (s : Step) → IsAnswer ls p (Crash) s → HasCause sites parts (on (Crash) s) ls p (Crash) s → AnswersAsUp ls p (Crash) s → is_of_disk s ≡ false → s ≡ step.Crashed p
  one_crash (step.Crashed q) a c u d = ap step.Crashed a
  one_crash (step.Down q) a c u d = clash a.1 refl
  one_crash (step.WaitClock q n) a c u d = absurd c
  one_crash (step.WaitTxn q v n) a c u d = absurd c
  one_crash (step.WaitStable j n) a c u d = absurd c
  one_crash (step.Gone q v) a c u d = absurd c
  one_crash (step.Full n) a c u d = clash refl d
  one_crash (step.Disk q) a c u d = clash refl d
  one_crash (step.Unsure v) a c u d = clash refl d
  one_crash s a c u d = absurd a

  abbrev IsBehindAll : Wish → ℕ → ℕ → Type 0
  IsBehindAll wish j n = IsLeastBehind sites parts p.site (known ls p) wish.stable (IsOwnStable parts ls p) wish.past j n

  own_is_stable : (wish : Wish) (time n : ℕ) (b : Bool) → b ≡ true → OwnEntry parts ls p wish time n b → IsOwnStable parts ls p n
  own_is_stable wish time n true e h = h
  own_is_stable wish time n false e h = off e

  lag_clash : (wish : Wish) (t : TxId) (v : List ℕ) (j n : ℕ) → le wish.past v ≡ true → IsSnapshot sites parts ls p wish t v → IsBehindAll wish j n → ⊥
  lag_clash wish t v j n h k b = ⊎_elim
      (λ (x : IsOther sites p.site j × IsLeast parts (known ls p j) n).
      let e = one_least parts (known ls p j) n (entry v j) x.1 (k.others j x.0) in
      let l = le_at wish.past v (j - 1) h in let m = b.behind in omega arith)
      (λ (x : (wish.stable ≡ true) × (j ≡ p.site) × IsOwnStable parts ls p n).
      let own = own_is_stable wish t.time (entry v p.site) wish.stable x.0 k.own in
      let e = one_own_stable parts ls p n (entry v p.site) x.2 own in
      let l = le_at wish.past v (p.site - 1) h in
      let m : n < entry wish.past p.site = subst (λ i. n < entry wish.past i) x.1 b.behind in omega arith)
      b.have

  enough_clash : (wish : Wish) (j n : ℕ) → IsStableEnough sites parts ls p wish → IsBehindAll wish j n → ⊥
  enough_clash wish j n h b = ⊎_elim
      (λ (x : IsOther sites p.site j × IsLeast parts (known ls p j) n).
      let r = x.1.reached in let l = h.others j r.0 x.0 r.1 r.2 in let e = r.3 in let m = b.behind in omega arith)
      (λ (x : (wish.stable ≡ true) × (j ≡ p.site) × IsOwnStable parts ls p n).
      let o = h.own x.0 in
      let e = one_own_stable parts ls p n o.0 x.2 o.1 in
      let m : n < entry wish.past p.site = subst (λ i. n < entry wish.past i) x.1 b.behind in
      let l = o.2 in omega arith)
      b.have

  -- what a begin answers
  pub data BeginShape (who : List ℕ) (dep : Wish) (s : Step) : Type 0 where
    IsDown : is_down ls p ≡ true → s ≡ step.Down p → BeginShape who dep s
    Begins : is_down ls p ≡ false → (t : TxId) (v : List ℕ) → s ≡ step.Began who t v → t.time ≡ now ls p + 1 → home t ≡ p → IsSnapshot sites parts ls p dep t v → now ls p < 2 ^ 62 → le dep.past v ≡ true → BeginShape who dep s
    Lags : is_down ls p ≡ false → (j n : ℕ) → s ≡ step.WaitStable j n → IsBehindAll dep j n → BeginShape who dep s
    IsOver : is_down ls p ≡ false → s ≡ step.TimeEnd → now ls p ≡ 2 ^ 62 → IsStableEnough sites parts ls p dep → BeginShape who dep s

  pub begin_shape : (who : List ℕ) (dep : Wish) (s : Step) → IsAnswer ls p (Begin who dep) s → HasCause sites parts (on (Begin who dep) s) ls p (Begin who dep) s → AnswersAsUp ls p (Begin who dep) s → is_of_disk s ≡ false → ShowsTime ls p (Begin who dep) s → IsPlaced parts ls p (Begin who dep) s → IsFresh sites parts ls p (Begin who dep) s → HoldsHanded ls p (Begin who dep) s → BeginShape who dep s
  begin_shape who dep (step.Down q) a c u d k x f g = IsDown u (ap step.Down a.0)
  begin_shape who dep (step.Began name t v) a c u d k x f g = Begins u t v (λ i. step.Began (a i) t v) k x f c g
  begin_shape who dep (step.WaitStable j n) a c u d k x f g = Lags u j n refl c
  begin_shape who dep (step.TimeEnd) a c u d k x f g = IsOver u refl c.0 c.1
  begin_shape who dep (step.WaitClock q n) a c u d k x f g = absurd c
  begin_shape who dep (step.WaitTxn q v n) a c u d k x f g = absurd c
  begin_shape who dep (step.Gone q v) a c u d k x f g = absurd c
  begin_shape who dep (step.Full n) a c u d k x f g = clash refl d
  begin_shape who dep (step.Disk q) a c u d k x f g = clash refl d
  begin_shape who dep (step.Unsure v) a c u d k x f g = clash refl d
  begin_shape who dep s a c u d k x f g = absurd a

  one_id : (t u : TxId) → home t ≡ p → home u ≡ p → t.time ≡ u.time → t ≡ u
  one_id t u h k e = λ i. record { site = ((h ∙ sym k) i).site; part = ((h ∙ sym k) i).part; time = e i }

  pub one_begin : (who : List ℕ) (dep : Wish) (s t : Step) → BeginShape who dep s → BeginShape who dep t → s ≡ t
  one_begin who dep s t (IsDown u e) (IsDown w f) = e ∙ sym f
  one_begin who dep s t (IsDown u e) (Begins w x v f a b c d g) = clash u w
  one_begin who dep s t (IsDown u e) (Lags w j n f a) = clash u w
  one_begin who dep s t (IsDown u e) (IsOver w f a b) = clash u w
  one_begin who dep s t (Begins w x v f a b c d g) (IsDown u e) = clash u w
  one_begin who dep s t (Begins w x v f a b c d g) (Begins w' x' v' f' a' b' c' d' g') =
      let e : x ≡ x' = one_id x x' b b' (a ∙ sym a') in
      let same : v ≡ v' = one_snapshot sites parts ls p dep x' v v' (subst (λ y. IsSnapshot sites parts ls p dep y v) e c) c' in
      f ∙ (λ i. step.Began who (e i) (same i)) ∙ sym f'
  one_begin who dep s t (Begins w x v f a b c d g) (Lags u j n e h) = absurd (lag_clash dep x v j n g c h)
  one_begin who dep s t (Begins w x v f a b c d g) (IsOver u e h k) = let l = d in absurd (omega arith)
  one_begin who dep s t (Lags u j n e h) (IsDown w f) = clash w u
  one_begin who dep s t (Lags u j n e h) (Begins w x v f a b c d g) = absurd (lag_clash dep x v j n g c h)
  one_begin who dep s t (Lags u j n e h) (Lags w i m f a) =
      let x = one_behind sites parts p.site (known ls p) dep.stable (IsOwnStable parts ls p) (one_own_stable parts ls p) dep.past j i n m h a in
      e ∙ (λ y. step.WaitStable (x.0 y) (x.1 y)) ∙ sym f
  one_begin who dep s t (Lags u j n e h) (IsOver w f a b) = absurd (enough_clash dep j n b h)
  one_begin who dep s t (IsOver u e h k) (IsDown w f) = clash w u
  one_begin who dep s t (IsOver u e h k) (Begins w x v f a b c d g) = let l = d in absurd (omega arith)
  one_begin who dep s t (IsOver u e h k) (Lags w j n f a) = absurd (enough_clash dep j n k a)
  one_begin who dep s t (IsOver u e h k) (IsOver w f a b) = e ∙ sym f

  -- what t reads of o is free of its snapshot
  abbrev pub touched : ObjectId → TxId → Bool
  touched o u = list_any (λ c. same_part c.at p && same_object c.object o) (changes ls u ++ [])

  abbrev pub Ready : TxId → ObjectId → Type 0
  Ready t o = IsReadyBy (now ls p) (pending ls p) (prepare_time ls p) (entry (snapshot ls t) p.site) (touched o)

  abbrev pub First : TxId → ObjectId → TxId → ℕ → Type 0
  First t o u n = IsFirstBy (now ls p) (pending ls p) (prepare_time ls p) (entry (snapshot ls t) p.site) (touched o) u n

  pub data ReadShape (t : TxId) (o : ObjectId) (R : Type 0) (Done : Step → Type 0) (s : Step) : Type 0 where
    IsDown : is_down ls p ≡ true → s ≡ step.Down p → ReadShape t o R Done s
    IsRead : is_down ls p ≡ false → Done s → (R → Ready t o) → ReadShape t o R Done s
    Behind : is_down ls p ≡ false → s ≡ step.WaitClock p (now ls p) → now ls p < entry (snapshot ls t) p.site → R → ReadShape t o R Done s
    Waits : is_down ls p ≡ false → (u : TxId) (n : ℕ) → s ≡ step.WaitTxn p u n → First t o u n → R → ReadShape t o R Done s

  first_clash : (t : TxId) (o : ObjectId) (u : TxId) (n : ℕ) → Ready t o → First t o u n → ⊥
  first_clash t o u n h k = let l = h.free u k.waiting k.changes in let e = k.time in let m = k.early in omega arith

  pub one_read : (t : TxId) (o : ObjectId) (R : Type 0) (Done : Step → Type 0) (s r : Step) → ((a b : Step) → Done a → Done b → a ≡ b) → ReadShape t o R Done s → ReadShape t o R Done r → s ≡ r
  one_read t o R Done s r one (IsDown u e) (IsDown w f) = e ∙ sym f
  one_read t o R Done s r one (IsDown u e) (IsRead w f a) = clash u w
  one_read t o R Done s r one (IsDown u e) (Behind w f a b) = clash u w
  one_read t o R Done s r one (IsDown u e) (Waits w x n f a b) = clash u w
  one_read t o R Done s r one (IsRead u e h) (IsDown w f) = clash w u
  one_read t o R Done s r one (IsRead u e h) (IsRead w f a) = one s r e f
  one_read t o R Done s r one (IsRead u e h) (Behind w f a b) = let l = (h b).clock in absurd (omega arith)
  one_read t o R Done s r one (IsRead u e h) (Waits w x n f a b) = absurd (first_clash t o x n (h b) a)
  one_read t o R Done s r one (Behind u e h k) (IsDown w f) = clash w u
  one_read t o R Done s r one (Behind u e h k) (IsRead w f a) = let l = (a k).clock in absurd (omega arith)
  one_read t o R Done s r one (Behind u e h k) (Behind w f a b) = e ∙ sym f
  one_read t o R Done s r one (Behind u e h k) (Waits w x n f a b) = let l = a.clock in absurd (omega arith)
  one_read t o R Done s r one (Waits u x n e h k) (IsDown w f) = clash w u
  one_read t o R Done s r one (Waits u x n e h k) (IsRead w f a) = absurd (first_clash t o x n (a k) h)
  one_read t o R Done s r one (Waits u x n e h k) (Behind w f a b) = let l = h.clock in absurd (omega arith)
  one_read t o R Done s r one (Waits u x n e h k) (Waits w y m f a b) =
      let same : x ≡ y = one_first (now ls p) (pending ls p) (prepare_time ls p) (entry (snapshot ls t) p.site) (touched o) x y n m h a in
      let times : n ≡ m = h.time ∙ ap (prepare_time ls p) same ∙ sym a.time in
      e ∙ (λ i. step.WaitTxn p (same i) (times i)) ∙ sym f

  -- the value of a read by these lines
  abbrev pub IsValue : (Kind → List Update → Value) → List ℕ → TxId → ObjectId → Step → Type 0
  IsValue meaning who t o s = s ≡ step.Value who o (meaning o.kind (read_by (on (ReadOf t o) step.TimeEnd) ls t o))

  of_value : (meaning : Kind → List Update → Value) (t : TxId) (o object : ObjectId) (name who : List ℕ) (v : Value) → name ≡ who → object ≡ o → v ≡ meaning o.kind (read_by (on (ReadOf t o) (step.Value name object v)) ls t o) → IsValue meaning who t o (step.Value name object v)
  of_value meaning t o object name who v a b c = λ i. step.Value (a i) (b i) (c i)

  pub read_shape : (meaning : Kind → List Update → Value) (number : ℕ) (who : List ℕ) (t : TxId) (o : ObjectId) (s : Step) → IsAnswer ls p (ReadOf t o) s → HasCause sites parts (on (ReadOf t o) s) ls p (ReadOf t o) s → AnswersAsUp ls p (ReadOf t o) s → is_of_disk s ≡ false → IsRightRead meaning (on (ReadOf t o) s) ls p (ReadOf t o) s → IsMarked (ReadOf t o) number who s → ReadShape t o ⊤ (IsValue meaning who t o) s
  read_shape meaning number who t o (step.Down q) a c u d r m = IsDown u (ap step.Down a.0)
  read_shape meaning number who t o (step.Value name object v) a c u d r m = IsRead u (of_value meaning t o object name who v m a.0 r) (λ h. record { clock = c.clock; free = c.free })
  read_shape meaning number who t o (step.WaitClock q n) a c u d r m = Behind u (λ i. step.WaitClock (a i) (c.0 i)) (subst (λ x. x < entry (snapshot ls t) p.site) c.0 c.1) tt
  read_shape meaning number who t o (step.WaitTxn q x n) a c u d r m = Waits u x n (λ i. step.WaitTxn (a i) x n) (record { clock = c.clock; waiting = c.waiting; changes = c.changes; time = c.time; early = c.early; first = c.first }) tt
  read_shape meaning number who t o (step.WaitStable j n) a c u d r m = absurd c
  read_shape meaning number who t o (step.Gone q v) a c u d r m = absurd c
  read_shape meaning number who t o (step.Full n) a c u d r m = clash refl d
  read_shape meaning number who t o (step.Disk q) a c u d r m = clash refl d
  read_shape meaning number who t o (step.Unsure v) a c u d r m = clash refl d
  read_shape meaning number who t o s a c u d r m = absurd a

  -- what t reads of o, whatever stamp the line shows
  abbrev pub read_with : (who : List ℕ) (t : TxId) (o : ObjectId) (op : Op) → Option ℕ → List Update
  read_with who t o op stamp = read_by (on (UpdateOf t o op) (step.Updated who o stamp)) ls t o

  abbrev pub precedes_self : (who : List ℕ) (t : TxId) (o : ObjectId) (op : Op) → Option ℕ → Bool
  precedes_self who t o op stamp = precedes (on (UpdateOf t o op) (step.Updated who o stamp)) t t

  own_change : (t u : TxId) (o : ObjectId) (op : Op) (a b : Option ℕ) (n : ℕ) → same_tx t u ≡ false → updated_by p (now ls p) n (UpdateOf t o op) o a u ≡ updated_by p (now ls p) n (UpdateOf t o op) o b u
  own_change t u o op a b n e = cond-false (same_tx t u) _ [] e ∙ sym (cond-false (same_tx t u) _ [] e)

  read_free : (who : List ℕ) (t : TxId) (o : ObjectId) (op : Op) (a b : Option ℕ) → precedes_self who t o op a ≡ false → read_with who t o op a ≡ read_with who t o op b
  read_free who t o op a b h =
      let one = on (UpdateOf t o op) (step.Updated who o a) in
      let two = on (UpdateOf t o op) (step.Updated who o b) in
      let m : TxId → Bool = visible one (snapshot one t) in
      ap (λ l. l ++ updates_in one o t (changes ls t)) (flat_same m (λ u. updates_in one o u (changes one u)) (λ u. updates_in two o u (changes two u))
      (λ u e. let apart : same_tx t u ≡ false = false_from_ne_true _ (λ k. clash (subst (λ y. m y ≡ true) (sym (same_tx_is t u k)) e) h) in
      ap (λ c. updates_in one o u (changes ls u ++ c)) (own_change t u o op a b (length (changes ls u) + 1) apart))
      (history ls))

  -- an update by these lines: its stamp is due, and its transaction doesn't precede itself
  pub record IsUpdated (who : List ℕ) (t : TxId) (o : ObjectId) (op : Op) (s : Step) : Type 0 where
    pub stamp : Option ℕ
    pub is : s ≡ step.Updated who o stamp
    pub due : stamp ≡ stamp_due o.kind (read_with who t o op stamp) (update_of (on (UpdateOf t o op) (step.Updated who o stamp)) t (record { at = p; now = now ls p; object = o; op = op; stamp = stamp; index = length (changes ls t) + 1 }))
    pub strict : precedes_self who t o op stamp ≡ false

  pub one_updated : (who : List ℕ) (t : TxId) (o : ObjectId) (op : Op) (s r : Step) → IsUpdated who t o op s → IsUpdated who t o op r → s ≡ r
  one_updated who t o op s r h k =
      let u = update_of (on (UpdateOf t o op) (step.Updated who o h.stamp)) t (record { at = p; now = now ls p; object = o; op = op; stamp = h.stamp; index = length (changes ls t) + 1 }) in
      let e : h.stamp ≡ k.stamp = h.due ∙ (ap (λ us. stamp_due o.kind us u) (read_free who t o op h.stamp k.stamp h.strict) ∙ sym k.due) in
      h.is ∙ (ap (step.Updated who o) e ∙ sym k.is)

  of_updated : (t : TxId) (o object : ObjectId) (op : Op) (name who : List ℕ) (stamp : Option ℕ) → name ≡ who → object ≡ o → stamp ≡ stamp_due o.kind (read_by (on (UpdateOf t o op) (step.Updated name object stamp)) ls t o) (update_of (on (UpdateOf t o op) (step.Updated name object stamp)) t (record { at = p; now = now ls p; object = o; op = op; stamp = stamp; index = length (changes ls t) + 1 })) → precedes (on (UpdateOf t o op) (step.Updated name object stamp)) t t ≡ false → IsUpdated who t o op (step.Updated name object stamp)
  of_updated t o object op name who stamp a b d h = record {
    stamp = stamp;
    is = λ i. step.Updated (a i) (b i) stamp;
    due = subst (λ x. stamp ≡ stamp_due o.kind (read_by (on (UpdateOf t o op) (step.Updated name x stamp)) ls t o) (update_of (on (UpdateOf t o op) (step.Updated name x stamp)) t (record { at = p; now = now ls p; object = o; op = op; stamp = stamp; index = length (changes ls t) + 1 }))) b d;
    strict = h;
  }

  pub update_shape : (meaning : Kind → List Update → Value) (number : ℕ) (who : List ℕ) (t : TxId) (o : ObjectId) (op : Op) (s : Step) → IsAnswer ls p (UpdateOf t o op) s → HasCause sites parts (on (UpdateOf t o op) s) ls p (UpdateOf t o op) s → AnswersAsUp ls p (UpdateOf t o op) s → is_of_disk s ≡ false → IsRightRead meaning (on (UpdateOf t o op) s) ls p (UpdateOf t o op) s → IsMarked (UpdateOf t o op) number who s → precedes (on (UpdateOf t o op) s) t t ≡ false → ReadShape t o (reads_state o.kind ≡ true) (IsUpdated who t o op) s
  update_shape meaning number who t o op (step.Down q) a c u d r m h = IsDown u (ap step.Down a.0)
  update_shape meaning number who t o op (step.Updated name object stamp) a c u d r m h = IsRead u (of_updated t o object op name who stamp m a.0 r h) (λ k. record { clock = (c k).clock; free = λ v w x. (c k).free v w (any_more (λ y. same_part y.at p && same_object y.object o) (changes ls v) _ x) })
  update_shape meaning number who t o op (step.WaitClock q n) a c u d r m h = Behind u (λ i. step.WaitClock (a i) (c.1.0 i)) (subst (λ x. x < entry (snapshot ls t) p.site) c.1.0 c.1.1) c.0
  update_shape meaning number who t o op (step.WaitTxn q x n) a c u d r m h = Waits u x n (λ i. step.WaitTxn (a i) x n) (record { clock = c.1.clock; waiting = c.1.waiting; changes = c.1.changes; time = c.1.time; early = c.1.early; first = c.1.first }) c.0
  update_shape meaning number who t o op (step.WaitStable j n) a c u d r m h = absurd c
  update_shape meaning number who t o op (step.Gone q v) a c u d r m h = absurd c
  update_shape meaning number who t o op (step.Full n) a c u d r m h = clash refl d
  update_shape meaning number who t o op (step.Disk q) a c u d r m h = clash refl d
  update_shape meaning number who t o op (step.Unsure v) a c u d r m h = clash refl d
  update_shape meaning number who t o op s a c u d r m h = absurd a

  -- one answer that holds a vector or a bound, or the partition is down
  pub data Shape (Done : Step → Type 0) (s : Step) : Type 0 where
    Down : is_down ls p ≡ true → s ≡ step.Down p → Shape Done s
    Does : is_down ls p ≡ false → Done s → Shape Done s

  pub one_shape : (Done : Step → Type 0) (s r : Step) → ((a b : Step) → Done a → Done b → a ≡ b) → Shape Done s → Shape Done r → s ≡ r
  one_shape Done s r one (Down u e) (Down w f) = e ∙ sym f
  one_shape Done s r one (Down u e) (Does w f) = clash u w
  one_shape Done s r one (Does u e) (Down w f) = clash w u
  one_shape Done s r one (Does u e) (Does w f) = one s r e f

  -- a message by these lines
  pub record IsSent (site : ℕ) (asked : Option ℕ) (s : Step) : Type 0 where
    pub hi : ℕ
    pub is : s ≡ step.Sent (sent_count ls p + 1) p site (low_of asked (last_sent ls p site)) hi (stream_count (on (SendTo site asked) step.TimeEnd) p (low_of asked (last_sent ls p site)) hi)
    pub high : IsOwnBound ls p hi

  pub one_sent : (site : ℕ) (asked : Option ℕ) (s r : Step) → IsSent site asked s → IsSent site asked r → s ≡ r
  one_sent site asked s r h k =
      let e = one_bound _ _ _ h.hi k.hi h.high k.high in
      h.is ∙ ((λ i. step.Sent (sent_count ls p + 1) p site (low_of asked (last_sent ls p site)) (e i) (stream_count (on (SendTo site asked) step.TimeEnd) p (low_of asked (last_sent ls p site)) (e i))) ∙ sym k.is)

  of_sent : (site : ℕ) (asked : Option ℕ) (n : ℕ) (q : PartId) (to lo hi count : ℕ) → q ≡ p → to ≡ site → IsNext sites (on (SendTo site asked) (step.Sent n q to lo hi count)) ls p asked n to lo hi count → IsSent site asked (step.Sent n q to lo hi count)
  of_sent site asked n q to lo hi count a b x =
      let l : lo ≡ low_of asked (last_sent ls p site) = x.low ∙ ap (λ y. low_of asked (last_sent ls p y)) b in
      let c : count ≡ stream_count (on (SendTo site asked) step.TimeEnd) p (low_of asked (last_sent ls p site)) hi = x.parts ∙ ap (λ y. stream_count (on (SendTo site asked) step.TimeEnd) p y hi) l in
      record { hi = hi; is = λ i. step.Sent (x.row i) (a i) (b i) (l i) hi (c i); high = x.high }

  pub send_shape : (site : ℕ) (asked : Option ℕ) (s : Step) → IsAnswer ls p (SendTo site asked) s → HasCause sites parts (on (SendTo site asked) s) ls p (SendTo site asked) s → AnswersAsUp ls p (SendTo site asked) s → is_of_disk s ≡ false → IsStream sites (on (SendTo site asked) s) ls p (SendTo site asked) s → Shape (IsSent site asked) s
  send_shape site asked (step.Down q) a c u d x = Down u (ap step.Down a.0)
  send_shape site asked (step.Sent n q to lo hi count) a c u d x = Does u (of_sent site asked n q to lo hi count a.0 a.1 x)
  send_shape site asked (step.WaitClock q n) a c u d x = absurd c
  send_shape site asked (step.WaitTxn q v n) a c u d x = absurd c
  send_shape site asked (step.WaitStable j n) a c u d x = absurd c
  send_shape site asked (step.Gone q v) a c u d x = absurd c
  send_shape site asked (step.Full n) a c u d x = clash refl d
  send_shape site asked (step.Disk q) a c u d x = clash refl d
  send_shape site asked (step.Unsure v) a c u d x = clash refl d
  send_shape site asked s a c u d x = absurd a

  pub record IsReported (s : Step) : Type 0 where
    pub bounds : List ℕ
    pub is : s ≡ step.Reported (report_count ls p + 1) p bounds
    pub shown : ShowsBounds sites ls p bounds

  pub one_reported : (s r : Step) → IsReported s → IsReported r → s ≡ r
  one_reported s r h k = h.is ∙ (ap (step.Reported (report_count ls p + 1) p) (one_report sites ls p h.bounds k.bounds h.shown k.shown) ∙ sym k.is)

  pub report_shape : (s : Step) → IsAnswer ls p (Report) s → HasCause sites parts (on (Report) s) ls p (Report) s → AnswersAsUp ls p (Report) s → is_of_disk s ≡ false → IsStream sites (on Report s) ls p Report s → IsFresh sites parts ls p Report s → Shape IsReported s
  report_shape (step.Down q) a c u d x f = Down u (ap step.Down a.0)
  report_shape (step.Reported n q b) a c u d x f = Does u (record { bounds = b; is = λ i. step.Reported (x i) (a i) b; shown = f })
  report_shape (step.WaitClock q n) a c u d x f = absurd c
  report_shape (step.WaitTxn q v n) a c u d x f = absurd c
  report_shape (step.WaitStable j n) a c u d x f = absurd c
  report_shape (step.Gone q v) a c u d x f = absurd c
  report_shape (step.Full n) a c u d x f = clash refl d
  report_shape (step.Disk q) a c u d x f = clash refl d
  report_shape (step.Unsure v) a c u d x f = clash refl d
  report_shape s a c u d x f = absurd a

  pub record IsHeard (w part : ℕ) (bounds : List ℕ) (number : ℕ) (s : Step) : Type 0 where
    pub stable : List ℕ
    pub is : s ≡ step.Heard number p stable
    pub shown : IsStable sites parts (on (HearOf w part bounds) (step.Heard number p [])) p stable

  pub one_heard : (w part : ℕ) (bounds : List ℕ) (number : ℕ) (s r : Step) → IsHeard w part bounds number s → IsHeard w part bounds number r → s ≡ r
  one_heard w part bounds number s r h k = h.is ∙ (ap (step.Heard number p) (one_stable sites parts (on (HearOf w part bounds) (step.Heard number p [])) p h.stable k.stable h.shown k.shown) ∙ sym k.is)

  pub hear_shape : (w part : ℕ) (bounds : List ℕ) (number : ℕ) (who : List ℕ) (s : Step) → IsAnswer ls p (HearOf w part bounds) s → HasCause sites parts (on (HearOf w part bounds) s) ls p (HearOf w part bounds) s → AnswersAsUp ls p (HearOf w part bounds) s → is_of_disk s ≡ false → IsFresh sites parts ls p (HearOf w part bounds) s → IsMarked (HearOf w part bounds) number who s → Shape (IsHeard w part bounds number) s
  hear_shape w part bounds number who (step.Down q) a c u d f m = Down u (ap step.Down a.0)
  hear_shape w part bounds number who (step.Heard n q v) a c u d f m = Does u (record { stable = v; is = λ i. step.Heard (m i) (a i) v; shown = record { width = f.width; others = f.others; own = f.own } })
  hear_shape w part bounds number who (step.WaitClock q n) a c u d f m = absurd c
  hear_shape w part bounds number who (step.WaitTxn q v n) a c u d f m = absurd c
  hear_shape w part bounds number who (step.WaitStable j n) a c u d f m = absurd c
  hear_shape w part bounds number who (step.Gone q v) a c u d f m = absurd c
  hear_shape w part bounds number who (step.Full n) a c u d f m = clash refl d
  hear_shape w part bounds number who (step.Disk q) a c u d f m = clash refl d
  hear_shape w part bounds number who (step.Unsure v) a c u d f m = clash refl d
  hear_shape w part bounds number who s a c u d f m = absurd a

  pub one_open : (number : ℕ) (who : List ℕ) (s : Step) → IsAnswer ls p (Open) s → HasCause sites parts (on (Open) s) ls p (Open) s → AnswersAsUp ls p (Open) s → is_of_disk s ≡ false → IsMarked Open number who s → s ≡ step.MadeSession who p.site
  one_open number who (step.Down q) a c u d m = clash a.1 refl
  one_open number who (step.MadeSession name site) a c u d m = λ i. step.MadeSession (m i) (a i)
  one_open number who (step.WaitClock q n) a c u d m = absurd c
  one_open number who (step.WaitTxn q v n) a c u d m = absurd c
  one_open number who (step.WaitStable j n) a c u d m = absurd c
  one_open number who (step.Gone q v) a c u d m = absurd c
  one_open number who (step.Full n) a c u d m = clash refl d
  one_open number who (step.Disk q) a c u d m = clash refl d
  one_open number who (step.Unsure v) a c u d m = clash refl d
  one_open number who s a c u d m = absurd a
