-- What waits at a partition is what is pending there, each once and in order.
use Rattle.std.proofs.Common.{◌≡◌, ⊎_elim, inl, ◌⊎◌, ℕ, ◌<◌, Bool, true, false, not, ◌&&◌, ◌||◌, cond, List, [], ◌∷◌, ◌++◌, refl, sym, ap, ◌∙◌, subst, arith}
use Rattle.std.specs.Prelude.{⊤}
use Rattle.std.proofs.lemmas.Bool.{cases_Bool, or_cases, and_right, cond-true, cond-false, cond_both, false_from_ne_true}
use Rattle.site_vector.specs.declared.ids.PartId.{PartId}
use Rattle.site_vector.specs.declared.ids.TxId.{TxId}
use Rattle.site_vector.specs.Ids.{same_part, same_tx}
use Rattle.site_vector.specs.Order.{same_part_is, same_tx_is, same_tx_refl}
use Rattle.world_model.specs.declared.step.Step.{Step}
use Rattle.world_model.specs.declared.step.Step.TheVariants as step
use Rattle.world_model.specs.lines.Lines.{Line, EachLine}
use Rattle.world_model.specs.lines.Listed.{names_pending, listed_time, IsIdBefore, IsBefore, IsBeforeAll, AreInOrder, AreTimed}
use Rattle.world_model.specs.lines.Pending.{pending, pending_after, prepare_time, prepare_time_after}
use Rattle.world_model.specs.lines.Waiting.{without, waiting_after, waiting}
use Rattle.world_model.specs.rules.Waiting.{ArePending}
use Rattle.world_model.proofs.Listed.{names_first, names_later, timed_as}
use Rattle.world_model.proofs.Names.{clash, off}

swapped : (a b c : Bool) → (a || (b || c)) ≡ (b || (a || c))
swapped true true c = refl
swapped true false c = refl
swapped false b c = refl

names_more : (xs : List (TxId × ℕ)) (x : TxId × ℕ) (t : TxId) → names_pending (xs ++ x ∷ []) t ≡ (same_tx x.0 t || names_pending xs t)
names_more [] x t = refl
names_more (y ∷ ys) x t = ap (λ b. same_tx y.0 t || b) (names_more ys x t) ∙ swapped (same_tx y.0 t) (same_tx x.0 t) (names_pending ys t)

left_out : (s n : Bool) → (not s && n) ≡ (not s && (s || n))
left_out true n = refl
left_out false n = refl

kept_in : (s k n : Bool) → (k ≡ true → s ≡ false) → (k || (not s && n)) ≡ (not s && (k || n))
kept_in true true n h = clash refl (h refl)
kept_in false true n h = refl
kept_in s false n h = refl

names_without : (u : TxId) (xs : List (TxId × ℕ)) (t : TxId) → names_pending (without u xs) t ≡ (not (same_tx u t) && names_pending xs t)
names_without u [] t = sym (and_right (not (same_tx u t)) false refl)
names_without u (x ∷ xs) t = ⊎_elim
    (λ (e : same_tx u x.0 ≡ true). ap (λ l. names_pending l t) (cond-false (not (same_tx u x.0)) _ (without u xs) (ap not e))
    ∙ (names_without u xs t ∙ (left_out (same_tx u t) (names_pending xs t) ∙ ap (λ y. not (same_tx u t) && (same_tx y t || names_pending xs t)) (same_tx_is u x.0 e))))
    (λ (e : same_tx u x.0 ≡ false). ap (λ l. names_pending l t) (cond-true (not (same_tx u x.0)) (x ∷ without u xs) _ (ap not e))
    ∙ (ap (λ b. same_tx x.0 t || b) (names_without u xs t) ∙ kept_in (same_tx u t) (same_tx x.0 t) (names_pending xs t) (λ k. false_from_ne_true (same_tx u t) (λ h. clash (subst (λ y. same_tx u y ≡ true) (sym (same_tx_is x.0 t k)) h) e))))
    (cases_Bool (same_tx u x.0))

before_more : (x y : TxId × ℕ) (xs : List (TxId × ℕ)) → IsBeforeAll IsBefore y xs → y.1 < x.1 → IsBeforeAll IsBefore y (xs ++ x ∷ [])
before_more x y [] h l = (inl l, tt)
before_more x y (z ∷ zs) h l = (h.0, before_more x y zs h.1 l)

abbrev AreBelow : ℕ → List (TxId × ℕ) → Type 0
AreBelow n [] = ⊤
AreBelow n (x ∷ xs) = (x.1 < n) × AreBelow n xs

order_more : (x : TxId × ℕ) (xs : List (TxId × ℕ)) → AreInOrder IsBefore xs → AreBelow x.1 xs → AreInOrder IsBefore (xs ++ x ∷ [])
order_more x [] h l = (tt, tt)
order_more x (y ∷ ys) h l = (before_more x y ys h.0 l.0, order_more x ys h.1 l.1)

before_without : (u : TxId) (y : TxId × ℕ) (xs : List (TxId × ℕ)) → IsBeforeAll IsBefore y xs → IsBeforeAll IsBefore y (without u xs)
before_without u y [] h = tt
before_without u y (x ∷ xs) h = cond_both (not (same_tx u x.0)) (x ∷ without u xs) (without u xs) (IsBeforeAll IsBefore y) (λ e. (h.0, before_without u y xs h.1)) (λ e. before_without u y xs h.1)

order_without : (u : TxId) (xs : List (TxId × ℕ)) → AreInOrder IsBefore xs → AreInOrder IsBefore (without u xs)
order_without u [] h = tt
order_without u (x ∷ xs) h = cond_both (not (same_tx u x.0)) (x ∷ without u xs) (without u xs) (AreInOrder IsBefore) (λ e. (before_without u x xs h.0, order_without u xs h.1)) (λ e. order_without u xs h.1)

timed_without : (time : TxId → ℕ) (u : TxId) (xs : List (TxId × ℕ)) → AreTimed time xs → AreTimed time (without u xs)
timed_without time u [] h = tt
timed_without time u (x ∷ xs) h = cond_both (not (same_tx u x.0)) (x ∷ without u xs) (without u xs) (AreTimed time) (λ e. (h.0, timed_without time u xs h.1)) (λ e. timed_without time u xs h.1)

timed_more : (time : TxId → ℕ) (x : TxId × ℕ) (xs : List (TxId × ℕ)) → AreTimed time xs → x.1 ≡ time x.0 → AreTimed time (xs ++ x ∷ [])
timed_more time x [] h e = (e, tt)
timed_more time x (y ∷ ys) h e = (h.0, timed_more time x ys h.1 e)

below_all : (time : TxId → ℕ) (n : ℕ) (xs : List (TxId × ℕ)) → AreTimed time xs → ((t : TxId) → names_pending xs t ≡ true → time t < n) → AreBelow n xs
below_all time n [] h l = tt
below_all time n (x ∷ xs) h l = (subst (λ k. k < n) (sym h.0) (l x.0 (names_first x xs)), below_all time n xs h.1 (λ t k. l t (names_later (same_tx x.0 t) (names_pending xs t) k)))

-- what a line that adds to what is pending at p owes: one that isn't there, with a later time; or all anew, in order
abbrev pub IsQueued : List Line → PartId → Step → Type 0
IsQueued before p (step.Prepared q u n) = (pending before p u ≡ false) × ((t : TxId) → pending before p t ≡ true → prepare_time before p t < n)
IsQueued before p (step.Restarted q n bounds named listed) = AreTimed (listed_time listed) listed × AreInOrder IsBefore listed
IsQueued before p other = ⊤

module _ (ls : List Line) (p : PartId) (old : ArePending ls p (waiting ls p)) where
  -- what waits after a line of p
  record IsNext (s : Step) : Type 0 where
    pub members : (t : TxId) → names_pending (waiting_after (waiting ls p) s) t ≡ pending_after t (pending ls p t) s
    pub times : AreTimed (λ t. prepare_time_after t (prepare_time ls p t) s) (waiting_after (waiting ls p) s)
    pub order : AreInOrder IsBefore (waiting_after (waiting ls p) s)

  ended : (u : TxId) (s : Step) → waiting_after (waiting ls p) s ≡ without u (waiting ls p) → ((t : TxId) → pending_after t (pending ls p t) s ≡ (not (same_tx u t) && pending ls p t)) → ((t : TxId) → prepare_time_after t (prepare_time ls p t) s ≡ prepare_time ls p t) → IsNext s
  ended u s w e k = record {
    members = λ t. ap (λ l. names_pending l t) w ∙ (names_without u (waiting ls p) t ∙ (ap (λ b. not (same_tx u t) && b) (old.members t) ∙ sym (e t)));
    times = subst (AreTimed (λ t. prepare_time_after t (prepare_time ls p t) s)) (sym w) (timed_as (prepare_time ls p) _ (without u (waiting ls p)) (λ t h. sym (k t)) (timed_without (prepare_time ls p) u (waiting ls p) old.times));
    order = subst (AreInOrder IsBefore) (sym w) (order_without u (waiting ls p) old.order);
  }

  prepared_next : (q : PartId) (u : TxId) (n : ℕ) → IsQueued ls p (step.Prepared q u n) → IsNext (step.Prepared q u n)
  prepared_next q u n h =
      let time = λ (t : TxId). cond (same_tx u t) n (prepare_time ls p t) in
      let other : (t : TxId) → names_pending (waiting ls p) t ≡ true → prepare_time ls p t ≡ cond (same_tx u t) n (prepare_time ls p t) = λ t k.
      sym (cond-false (same_tx u t) n (prepare_time ls p t) (false_from_ne_true (same_tx u t) (λ e. clash (sym (old.members t) ∙ k) (subst (λ y. pending ls p y ≡ false) (same_tx_is u t e) h.0)))) in record {
        members = λ t. names_more (waiting ls p) (u, n) t ∙ ap (λ b. same_tx u t || b) (old.members t);
        times = timed_more time (u, n) (waiting ls p) (timed_as (prepare_time ls p) time (waiting ls p) other old.times) (sym (cond-true (same_tx u u) n (prepare_time ls p u) (same_tx_refl u)));
        order = order_more (u, n) (waiting ls p) old.order (below_all (prepare_time ls p) n (waiting ls p) old.times (λ t k. h.1 t (sym (old.members t) ∙ k)));
      }

  next : (s : Step) → IsQueued ls p s → IsNext s
  next (step.Prepared q u n) h = prepared_next q u n h
  next (step.Decided q u c) h = ended u (step.Decided q u c) refl (λ t. refl) (λ t. refl)
  next (step.Finished q u) h = ended u (step.Finished q u) refl (λ t. refl) (λ t. refl)
  next (step.Aborted q u) h = ended u (step.Aborted q u) refl (λ t. refl) (λ t. refl)
  next (step.Restarted q n bounds named listed) h = record { members = λ t. refl; times = h.0; order = h.1 }
  next other h = record { members = old.members; times = old.times; order = old.order }

module _ (l : Line) (ls : List Line) (p : PartId) (before : ArePending ls p (waiting ls p)) where
  pending_here : same_part l.at p ≡ true → IsQueued ls p l.step → ArePending (l ∷ ls) p (waiting (l ∷ ls) p)
  pending_here e h =
      let w : waiting (l ∷ ls) p ≡ waiting_after (waiting ls p) l.step = cond-true (same_part l.at p) _ (waiting ls p) e in
      let x : IsNext ls p before l.step = next ls p before l.step h in record {
        members = λ t. ap (λ k. names_pending k t) w ∙ (x.members t ∙ sym (cond-true (same_part l.at p) (pending_after t (pending ls p t) l.step) (pending ls p t) e));
        times = subst (AreTimed (prepare_time (l ∷ ls) p)) (sym w) (timed_as (λ t. prepare_time_after t (prepare_time ls p t) l.step) (prepare_time (l ∷ ls) p) (waiting_after (waiting ls p) l.step) (λ t k. sym (cond-true (same_part l.at p) (prepare_time_after t (prepare_time ls p t) l.step) (prepare_time ls p t) e)) x.times);
        order = subst (AreInOrder IsBefore) (sym w) x.order;
      }

  pending_elsewhere : same_part l.at p ≡ false → ArePending (l ∷ ls) p (waiting (l ∷ ls) p)
  pending_elsewhere e =
      let w : waiting (l ∷ ls) p ≡ waiting ls p = cond-false (same_part l.at p) _ (waiting ls p) e in record {
        members = λ t. ap (λ k. names_pending k t) w ∙ (before.members t ∙ sym (cond-false (same_part l.at p) (pending_after t (pending ls p t) l.step) (pending ls p t) e));
        times = subst (AreTimed (prepare_time (l ∷ ls) p)) (sym w) (timed_as (prepare_time ls p) (prepare_time (l ∷ ls) p) (waiting ls p) (λ t k. sym (cond-false (same_part l.at p) (prepare_time_after t (prepare_time ls p t) l.step) (prepare_time ls p t) e)) before.times);
        order = subst (AreInOrder IsBefore) (sym w) before.order;
      }

-- over lines of which each adds so
pub all_pending : (ls : List Line) → EachLine (λ before p call s. IsQueued before p s) ls → (p : PartId) → ArePending ls p (waiting ls p)
all_pending [] h p = record { members = λ t. refl; times = tt; order = tt }
all_pending (l ∷ ls) h p = ⊎_elim
    (λ (e : same_part l.at p ≡ true). pending_here l ls p (all_pending ls h.1 p) e (subst (λ q. IsQueued ls q l.step) (same_part_is l.at p e) h.0))
    (λ (e : same_part l.at p ≡ false). pending_elsewhere l ls p (all_pending ls h.1 p) e)
    (cases_Bool (same_part l.at p))

-- two such lists are one
no_id_before : (t u : TxId) → IsIdBefore t u → IsIdBefore u t → ⊥
no_id_before t u h k = ⊎_elim
    (λ (a : t.site < u.site). ⊎_elim (λ (b : u.site < t.site). omega arith) (λ (b : (u.site ≡ t.site) × ((u.part < t.part) ⊎ ((u.part ≡ t.part) × (u.time < t.time)))). let e = b.0 in omega arith) k)
    (λ (a : (t.site ≡ u.site) × ((t.part < u.part) ⊎ ((t.part ≡ u.part) × (t.time < u.time)))). let s = a.0 in ⊎_elim
    (λ (b : u.site < t.site). omega arith)
    (λ (b : (u.site ≡ t.site) × ((u.part < t.part) ⊎ ((u.part ≡ t.part) × (u.time < t.time)))). ⊎_elim
    (λ (x : t.part < u.part). ⊎_elim (λ (y : u.part < t.part). omega arith) (λ (y : (u.part ≡ t.part) × (u.time < t.time)). let e = y.0 in omega arith) b.1)
    (λ (x : (t.part ≡ u.part) × (t.time < u.time)). let e = x.0 in let f = x.1 in ⊎_elim (λ (y : u.part < t.part). omega arith) (λ (y : (u.part ≡ t.part) × (u.time < t.time)). let g = y.1 in omega arith) b.1)
    a.1)
    k)
    h

never_both : (x y : TxId × ℕ) → IsBefore x y → IsBefore y x → ⊥
never_both x y h k = ⊎_elim
    (λ (a : x.1 < y.1). ⊎_elim (λ (b : y.1 < x.1). omega arith) (λ (b : (y.1 ≡ x.1) × IsIdBefore y.0 x.0). let e = b.0 in omega arith) k)
    (λ (a : (x.1 ≡ y.1) × IsIdBefore x.0 y.0). let s = a.0 in ⊎_elim (λ (b : y.1 < x.1). omega arith) (λ (b : (y.1 ≡ x.1) × IsIdBefore y.0 x.0). no_id_before x.0 y.0 a.1 b.1) k)
    h

module _ (time : TxId → ℕ) where
  -- what is named later in the list comes later in the order
  later : (x : TxId × ℕ) (xs : List (TxId × ℕ)) (t : TxId) → AreTimed time xs → IsBeforeAll IsBefore x xs → names_pending xs t ≡ true → IsBefore x (t, time t)
  later x [] t a h k = off k
  later x (y ∷ ys) t a h k = ⊎_elim
      (λ (e : same_tx y.0 t ≡ true). let s : y.0 ≡ t = same_tx_is y.0 t e in subst (IsBefore x) (λ i. (s i, (a.0 ∙ ap time s) i)) h.0)
      (λ (e : names_pending ys t ≡ true). later x ys t a.1 h.1 e)
      (or_cases (same_tx y.0 t) (names_pending ys t) k)

  -- and so each is named once
  pub named_once : (x : TxId × ℕ) (xs : List (TxId × ℕ)) → x.1 ≡ time x.0 → AreTimed time xs → IsBeforeAll IsBefore x xs → names_pending xs x.0 ≡ false
  named_once x xs e a h = false_from_ne_true (names_pending xs x.0) (λ k.
      let b : IsBefore x x = subst (IsBefore x) (λ i. (x.0, sym e i)) (later x xs x.0 a h k) in never_both x x b b)

  first_same : (x y : TxId × ℕ) (xs ys : List (TxId × ℕ)) → AreTimed time (x ∷ xs) → AreTimed time (y ∷ ys) → AreInOrder IsBefore (x ∷ xs) → AreInOrder IsBefore (y ∷ ys) → ((t : TxId) → names_pending (x ∷ xs) t ≡ names_pending (y ∷ ys) t) → x.0 ≡ y.0
  first_same x y xs ys a b h k m = ⊎_elim
      (λ (e : same_tx y.0 x.0 ≡ true). sym (same_tx_is y.0 x.0 e))
      (λ (e : names_pending ys x.0 ≡ true). ⊎_elim
      (λ (f : same_tx x.0 y.0 ≡ true). same_tx_is x.0 y.0 f)
      (λ (f : names_pending xs y.0 ≡ true). absurd (never_both x y
      (subst (IsBefore x) (λ i. (y.0, sym b.0 i)) (later x xs y.0 a.1 h.0 f))
      (subst (IsBefore y) (λ i. (x.0, sym a.0 i)) (later y ys x.0 b.1 k.0 e))))
      (or_cases (same_tx x.0 y.0) (names_pending xs y.0) (m y.0 ∙ names_first y ys)))
      (or_cases (same_tx y.0 x.0) (names_pending ys x.0) (sym (m x.0) ∙ names_first x xs))

  rest_same : (x y : TxId × ℕ) (xs ys : List (TxId × ℕ)) → x.0 ≡ y.0 → names_pending xs x.0 ≡ false → names_pending ys y.0 ≡ false → ((t : TxId) → names_pending (x ∷ xs) t ≡ names_pending (y ∷ ys) t) → (t : TxId) → names_pending xs t ≡ names_pending ys t
  rest_same x y xs ys s a b m t = ⊎_elim
      (λ (e : same_tx x.0 t ≡ true). let i : x.0 ≡ t = same_tx_is x.0 t e in subst (λ z. names_pending xs z ≡ false) i a ∙ sym (subst (λ z. names_pending ys z ≡ false) (sym s ∙ i) b))
      (λ (e : same_tx x.0 t ≡ false). ap (λ c. c || names_pending xs t) (sym e) ∙ (m t ∙ ap (λ c. c || names_pending ys t) (sym (ap (λ z. same_tx z t) s) ∙ e)))
      (cases_Bool (same_tx x.0 t))

  pub same_lists : (xs ys : List (TxId × ℕ)) → AreTimed time xs → AreTimed time ys → AreInOrder IsBefore xs → AreInOrder IsBefore ys → ((t : TxId) → names_pending xs t ≡ names_pending ys t) → xs ≡ ys
  same_lists [] [] a b h k m = refl
  same_lists [] (y ∷ ys) a b h k m = clash (names_first y ys) (sym (m y.0))
  same_lists (x ∷ xs) [] a b h k m = clash (names_first x xs) (m x.0)
  same_lists (x ∷ xs) (y ∷ ys) a b h k m =
      let s : x.0 ≡ y.0 = first_same x y xs ys a b h k m in
      let n : x.1 ≡ y.1 = a.0 ∙ (ap time s ∙ sym b.0) in
      let rest = same_lists xs ys a.1 b.1 h.1 k.1 (rest_same x y xs ys s (named_once x xs a.0 a.1 h.0) (named_once y ys b.0 b.1 k.0) m) in
      λ i. (s i, n i) ∷ rest i

pub same_pending : (ls : List Line) (p : PartId) (xs ys : List (TxId × ℕ)) → ArePending ls p xs → ArePending ls p ys → xs ≡ ys
same_pending ls p xs ys a b = same_lists (prepare_time ls p) xs ys a.times b.times a.order b.order (λ t. a.members t ∙ sym (b.members t))
