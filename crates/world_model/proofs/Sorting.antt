-- The order of the merged run.
use Rattle.std.proofs.Common.{◌≡◌, ◌⊎◌, ⊎_elim, inl, inr, ℕ, ◌≤◌, ◌<◌, cond, Bool, true, false, ◌&&◌, List, [], ◌∷◌, refl, sym, ap, ◌∙◌, subst, arith, le_trans}
use Rattle.std.specs.Prelude.{⊤, ◌==◌, ltb}
use Rattle.std.proofs.lemmas.Bool.{or_left, or_right, or_cases, and_parts, and_from, cond-true, cond-false, false_from_ne_true, eqb-true, eq-eqb, ltb-true, lt-ltb, cases_lt}
use Rattle.site_vector.specs.declared.ids.PartId.{PartId}
use Rattle.site_vector.specs.Ids.{same_part}
use Rattle.world_model.proofs.Names.{clash, part_same, part_other, part_cases}
use Rattle.world_model.specs.threads.Marks.{Mark, made_at}
use Rattle.world_model.specs.threads.Merging.{insert_step, insert_steps, is_later, is_lower, merged}
use Rattle.world_model.specs.threads.Orders.{AreNotLater, IsSorted}

abbrev pub IsIn : PartId → List PartId → Type 0
IsIn p [] = ⊥
IsIn p (q ∷ ps) = (q ≡ p) ⊎ IsIn p ps

abbrev pub AreOnce : List PartId → Type 0
AreOnce [] = ⊤
AreOnce (p ∷ ps) = (IsIn p ps → ⊥) × AreOnce ps

pub in_cases : (p : PartId) (ps : List PartId) → IsIn p ps ⊎ (IsIn p ps → ⊥)
in_cases p [] = inr (λ k. k)
in_cases p (q ∷ ps) = ⊎_elim
    (λ (k : q ≡ p). inl (inl k))
    (λ (k : q ≡ p → ⊥). ⊎_elim (λ (i : IsIn p ps). inl (inr i)) (λ (i : IsIn p ps → ⊥). inr (λ (x : (q ≡ p) ⊎ IsIn p ps). ⊎_elim k i x)) (in_cases p ps))
    (part_cases q p)

lower_cases : (p q : PartId) → is_lower p q ≡ true → (p.site < q.site) ⊎ ((p.site ≡ q.site) × (p.part < q.part))
lower_cases p q h = ⊎_elim
    (λ (k : ltb p.site q.site ≡ true). inl (ltb-true p.site q.site k))
    (λ (k : (p.site == q.site && ltb p.part q.part) ≡ true). let i = and_parts (p.site == q.site) _ k in inr (eqb-true _ _ i.0, ltb-true _ _ i.1))
    (or_cases _ _ h)

lower_on : (p q r : PartId) → is_lower p q ≡ true → is_lower q r ≡ true → is_lower p r ≡ true
lower_on p q r h k = go (lower_cases p q h) (lower_cases q r k)
  where
    go : (p.site < q.site) ⊎ ((p.site ≡ q.site) × (p.part < q.part)) → (q.site < r.site) ⊎ ((q.site ≡ r.site) × (q.part < r.part)) → is_lower p r ≡ true
    go (inl a) (inl b) = or_left _ _ (lt-ltb p.site r.site (omega arith))
    go (inl a) (inr b) = let e = b.0 in or_left _ _ (lt-ltb p.site r.site (omega arith))
    go (inr a) (inl b) = let e = a.0 in or_left _ _ (lt-ltb p.site r.site (omega arith))
    go (inr a) (inr b) = let e = a.1 in let f = b.1 in or_right _ _ (and_from _ _ (eq-eqb p.site r.site (a.0 ∙ b.0)) (lt-ltb p.part r.part (omega arith)))

module _ {E : Type 0} where
  abbrev pub AreBelow : ℕ → List (Mark E) → Type 0
  AreBelow n [] = ⊤
  AreBelow n (x ∷ ms) = (x.stamp < n) × AreBelow n ms

  abbrev pub AreAtMost : ℕ → List (Mark E) → Type 0
  AreAtMost n [] = ⊤
  AreAtMost n (x ∷ ms) = (x.stamp ≤ n) × AreAtMost n ms

  abbrev pub Falls : List (Mark E) → Type 0
  Falls [] = ⊤
  Falls (x ∷ ms) = AreAtMost x.stamp ms × Falls ms

  -- a trace: all at its partition, with stamps that rise
  abbrev pub IsRising : PartId → List (Mark E) → Type 0
  IsRising p [] = ⊤
  IsRising p (x ∷ ms) = (x.at ≡ p) × AreBelow x.stamp ms × IsRising p ms

  later_at_least : (m x : Mark E) → is_later m x ≡ true → x.stamp ≤ m.stamp
  later_at_least m x h = ⊎_elim
      (λ (k : ltb x.stamp m.stamp ≡ true). let l : x.stamp < m.stamp = ltb-true x.stamp m.stamp k in omega arith)
      (λ (k : (x.stamp == m.stamp && is_lower x.at m.at) ≡ true). let e : x.stamp ≡ m.stamp = eqb-true _ _ (and_parts (x.stamp == m.stamp) _ k).0 in omega arith)
      (or_cases _ _ h)

  sooner_at_most : (m x : Mark E) → is_later m x ≡ false → m.stamp ≤ x.stamp
  sooner_at_most m x h = ⊎_elim
      (λ (k : x.stamp < m.stamp). clash (or_left _ _ (lt-ltb x.stamp m.stamp k)) h)
      (λ (k : m.stamp ≤ x.stamp). k)
      (cases_lt x.stamp m.stamp)

  lower_is_later : (m x : Mark E) → x.stamp < m.stamp → is_later m x ≡ true
  lower_is_later m x h = or_left _ _ (lt-ltb x.stamp m.stamp h)

  at_most_more : (n k : ℕ) (ms : List (Mark E)) → n ≤ k → AreAtMost n ms → AreAtMost k ms
  at_most_more n k [] h a = tt
  at_most_more n k (x ∷ ms) h a = (le_trans a.0 h, at_most_more n k ms h a.1)

  at_most_insert : (n : ℕ) (m : Mark E) (ms : List (Mark E)) → m.stamp ≤ n → AreAtMost n ms → AreAtMost n (insert_step m ms)
  at_most_insert n m [] h a = (h, tt)
  at_most_insert n m (x ∷ ms) h a = go (is_later m x) (at_most_insert n m ms h a.1)
    where
      go : (b : Bool) → AreAtMost n (insert_step m ms) → AreAtMost n (cond b (m ∷ x ∷ ms) (x ∷ insert_step m ms))
      go true k = (h, a)
      go false k = (a.0, k)

  falls_insert : (m : Mark E) (ms : List (Mark E)) → Falls ms → Falls (insert_step m ms)
  falls_insert m [] f = (tt, tt)
  falls_insert m (x ∷ ms) f = go (is_later m x) refl (falls_insert m ms f.1)
    where
      go : (b : Bool) → is_later m x ≡ b → Falls (insert_step m ms) → Falls (cond b (m ∷ x ∷ ms) (x ∷ insert_step m ms))
      go true e k = let l = later_at_least m x e in ((l, at_most_more x.stamp m.stamp ms l f.0), f)
      go false e k = (at_most_insert x.stamp m ms (sooner_at_most m x e) f.0, k)

  falls_steps : (xs ms : List (Mark E)) → Falls ms → Falls (insert_steps xs ms)
  falls_steps [] ms f = f
  falls_steps (x ∷ xs) ms f = falls_insert x (insert_steps xs ms) (falls_steps xs ms f)

  pub falls : (ps : List PartId) (traces : PartId → List (Mark E)) → Falls (merged ps traces)
  falls [] traces = tt
  falls (p ∷ ps) traces = falls_steps (traces p) (merged ps traces) (falls ps traces)

  -- of other partitions an inserted step changes nothing
  insert_other : (p : PartId) (m : Mark E) (ms : List (Mark E)) → same_part m.at p ≡ false → made_at p (insert_step m ms) ≡ made_at p ms
  insert_other p m [] h = cond-false _ _ _ h
  insert_other p m (x ∷ ms) h = go (is_later m x) (insert_other p m ms h)
    where
      go : (b : Bool) → made_at p (insert_step m ms) ≡ made_at p ms → made_at p (cond b (m ∷ x ∷ ms) (x ∷ insert_step m ms)) ≡ made_at p (x ∷ ms)
      go true k = cond-false _ _ _ h
      go false k = ap (λ l. cond (same_part x.at p) (x ∷ l) l) k

  -- at its own it comes last
  insert_own : (p : PartId) (m : Mark E) (ms : List (Mark E)) → same_part m.at p ≡ true → AreBelow m.stamp (made_at p ms) → made_at p (insert_step m ms) ≡ m ∷ made_at p ms
  insert_own p m [] h a = cond-true _ _ _ h
  insert_own p m (x ∷ ms) h a = go (is_later m x) (same_part x.at p) refl refl (insert_own p m ms h)
    where
      go : (b c : Bool) → is_later m x ≡ b → same_part x.at p ≡ c → (AreBelow m.stamp (made_at p ms) → made_at p (insert_step m ms) ≡ m ∷ made_at p ms) → made_at p (cond b (m ∷ x ∷ ms) (x ∷ insert_step m ms)) ≡ m ∷ made_at p (x ∷ ms)
      go true c e k i = cond-true _ _ _ h
      go false true e k i = let here : AreBelow m.stamp (x ∷ made_at p ms) = subst (λ l. AreBelow m.stamp l) (cond-true (same_part x.at p) (x ∷ made_at p ms) (made_at p ms) k) a in clash (lower_is_later m x here.0) e
      go false false e k i =
          let s : made_at p (x ∷ ms) ≡ made_at p ms = cond-false (same_part x.at p) (x ∷ made_at p ms) (made_at p ms) k in
          cond-false (same_part x.at p) (x ∷ made_at p (insert_step m ms)) (made_at p (insert_step m ms)) k ∙ i (subst (λ l. AreBelow m.stamp l) s a) ∙ ap (λ l. m ∷ l) (sym s)

  steps_other : (p q : PartId) (xs ms : List (Mark E)) → IsRising q xs → (q ≡ p → ⊥) → made_at p (insert_steps xs ms) ≡ made_at p ms
  steps_other p q [] ms r ne = refl
  steps_other p q (x ∷ xs) ms r ne = insert_other p x (insert_steps xs ms) (part_other x.at p (λ k. ne (sym r.0 ∙ k))) ∙ steps_other p q xs ms r.2 ne

  steps_own : (p : PartId) (xs ms : List (Mark E)) → IsRising p xs → made_at p ms ≡ [] → made_at p (insert_steps xs ms) ≡ xs
  steps_own p [] ms r e = e
  steps_own p (x ∷ xs) ms r e =
      let i = steps_own p xs ms r.2 e in
      insert_own p x (insert_steps xs ms) (part_same x.at p r.0) (subst (λ l. AreBelow x.stamp l) (sym i) r.1) ∙ ap (λ l. x ∷ l) i

  pub merged_out : (ps : List PartId) (traces : PartId → List (Mark E)) → ((q : PartId) → IsRising q (traces q)) → (p : PartId) → (IsIn p ps → ⊥) → made_at p (merged ps traces) ≡ []
  merged_out [] traces r p n = refl
  merged_out (q ∷ ps) traces r p n = steps_other p q (traces q) (merged ps traces) (r q) (λ k. n (inl k)) ∙ merged_out ps traces r p (λ k. n (inr k))

  -- each partition's steps stand in the order of its trace
  pub merged_at : (ps : List PartId) (traces : PartId → List (Mark E)) → ((q : PartId) → IsRising q (traces q)) → AreOnce ps → (p : PartId) → IsIn p ps → made_at p (merged ps traces) ≡ traces p
  merged_at [] traces r o p i = absurd i
  merged_at (q ∷ ps) traces r o p i = ⊎_elim
      (λ (k : q ≡ p). subst (λ x. made_at x (merged (q ∷ ps) traces) ≡ traces x) k (steps_own q (traces q) (merged ps traces) (r q) (merged_out ps traces r q o.0)))
      (λ (k : IsIn p ps). steps_other p q (traces q) (merged ps traces) (r q) (λ e. o.0 (subst (λ x. IsIn x ps) (sym e) k)) ∙ merged_at ps traces r o.1 p k)
      i

  -- the order by stamp and partition goes on
  later_cases : (m x : Mark E) → is_later m x ≡ true → (x.stamp < m.stamp) ⊎ ((x.stamp ≡ m.stamp) × (is_lower x.at m.at ≡ true))
  later_cases m x h = ⊎_elim
      (λ (k : ltb x.stamp m.stamp ≡ true). inl (ltb-true x.stamp m.stamp k))
      (λ (k : (x.stamp == m.stamp && is_lower x.at m.at) ≡ true). let i = and_parts (x.stamp == m.stamp) _ k in inr (eqb-true _ _ i.0, i.1))
      (or_cases _ _ h)

  later_on : (x y z : Mark E) → is_later x y ≡ true → is_later y z ≡ true → is_later x z ≡ true
  later_on x y z h k = go (later_cases x y h) (later_cases y z k)
    where
      go : (y.stamp < x.stamp) ⊎ ((y.stamp ≡ x.stamp) × (is_lower y.at x.at ≡ true)) → (z.stamp < y.stamp) ⊎ ((z.stamp ≡ y.stamp) × (is_lower z.at y.at ≡ true)) → is_later x z ≡ true
      go (inl a) (inl b) = or_left _ _ (lt-ltb z.stamp x.stamp (omega arith))
      go (inl a) (inr b) = let e = b.0 in or_left _ _ (lt-ltb z.stamp x.stamp (omega arith))
      go (inr a) (inl b) = let e = a.0 in or_left _ _ (lt-ltb z.stamp x.stamp (omega arith))
      go (inr a) (inr b) = or_right _ _ (and_from _ _ (eq-eqb z.stamp x.stamp (b.0 ∙ a.0)) (lower_on z.at y.at x.at b.1 a.1))

  later_back : (m x : Mark E) → is_later m x ≡ true → is_later x m ≡ false
  later_back m x h = false_from_ne_true _ (λ k. let s = later_on m x m h k in go (later_cases m m s))
    where
      low : (p : PartId) → (p.site < p.site) ⊎ ((p.site ≡ p.site) × (p.part < p.part)) → ⊥
      low p (inl a) = absurd (omega arith)
      low p (inr a) = let b = a.1 in absurd (omega arith)

      go : (m.stamp < m.stamp) ⊎ ((m.stamp ≡ m.stamp) × (is_lower m.at m.at ≡ true)) → ⊥
      go (inl a) = absurd (omega arith)
      go (inr a) = low m.at (lower_cases m.at m.at a.1)

  not_later_on : (m x : Mark E) (ms : List (Mark E)) → is_later m x ≡ true → AreNotLater x ms → AreNotLater m ms
  not_later_on m x [] h a = tt
  not_later_on m x (y ∷ ms) h a = (false_from_ne_true _ (λ k. clash (later_on y m x k h) a.0), not_later_on m x ms h a.1)

  not_later_insert : (x m : Mark E) (ms : List (Mark E)) → is_later m x ≡ false → AreNotLater x ms → AreNotLater x (insert_step m ms)
  not_later_insert x m [] h a = (h, tt)
  not_later_insert x m (y ∷ ms) h a = go (is_later m y) (not_later_insert x m ms h a.1)
    where
      go : (b : Bool) → AreNotLater x (insert_step m ms) → AreNotLater x (cond b (m ∷ y ∷ ms) (y ∷ insert_step m ms))
      go true k = (h, a)
      go false k = (a.0, k)

  sorted_insert : (m : Mark E) (ms : List (Mark E)) → IsSorted ms → IsSorted (insert_step m ms)
  sorted_insert m [] s = (tt, tt)
  sorted_insert m (x ∷ ms) s = go (is_later m x) refl (sorted_insert m ms s.1)
    where
      go : (b : Bool) → is_later m x ≡ b → IsSorted (insert_step m ms) → IsSorted (cond b (m ∷ x ∷ ms) (x ∷ insert_step m ms))
      go true e k = ((later_back m x e, not_later_on m x ms e s.0), s)
      go false e k = (not_later_insert x m ms e s.0, k)

  sorted_steps : (xs ms : List (Mark E)) → IsSorted ms → IsSorted (insert_steps xs ms)
  sorted_steps [] ms s = s
  sorted_steps (x ∷ xs) ms s = sorted_insert x (insert_steps xs ms) (sorted_steps xs ms s)

  pub sorted_all : (ps : List PartId) (traces : PartId → List (Mark E)) → IsSorted (merged ps traces)
  sorted_all [] traces = tt
  sorted_all (p ∷ ps) traces = sorted_steps (traces p) (merged ps traces) (sorted_all ps traces)
