-- The slots of what is waiting: one more, and one emptied.
use Rattle.std.proofs.Common.{◌≡◌, ◌≢◌, ⊎_elim, ◌⊎◌, inl, inr, ℕ, zero, suc, true, false, ◌||◌, List, [], ◌∷◌, ◌++◌, length, take, ◌+◌, ◌-◌, ◌≤◌, Option, None, Some, slice_get, slice_set, cond, refl, sym, ap, ◌∙◌, subst, arith}
use Rattle.std.proofs.lemmas.Bool.{true≢false, cases_Bool, or_left, or_right, cond-true, cond-false}
use Rattle.site_vector.specs.declared.ids.TxId.{TxId}
use Rattle.site_vector.specs.Ids.{same_tx}
use Rattle.site_vector.specs.Order.{same_tx_is, same_tx_refl}
use Rattle.prepared_table.specs.declared.entry.Entry.{Entry}
use Rattle.prepared_table.specs.Entries.{has_entry, IsTakenOut}
use Rattle.log_recovery.specs.Lists.{still_there, ArePlaced}

get_push : {X : Type 0} (xs : List X) (x : X) (k : ℕ) (p : X) → slice_get xs k ≡ Some p → slice_get (xs ++ x ∷ []) k ≡ Some p
get_push [] x k p h = cc
get_push (y ∷ ys) x zero p h = h
get_push (y ∷ ys) x (suc k) p h = get_push ys x k p h

get_pushed : {X : Type 0} (xs : List X) (x : X) → slice_get (xs ++ x ∷ []) (length xs) ≡ Some x
get_pushed [] x = refl
get_pushed (y ∷ ys) x = get_pushed ys x

get_push_cases : {X : Type 0} (xs : List X) (x : X) (k : ℕ) (p : X) → slice_get (xs ++ x ∷ []) k ≡ Some p → (slice_get xs k ≡ Some p) ⊎ ((k ≡ length xs) × (p ≡ x))
get_push_cases [] x zero p h = inr (refl, cc)
get_push_cases [] x (suc k) p h = cc
get_push_cases (y ∷ ys) x zero p h = inl h
get_push_cases (y ∷ ys) x (suc k) p h = elim (get_push_cases ys x k p h) [ inl e ↦ inl e | inr e ↦ inr (ap suc e.0, e.1) ]

some_is : {A : Type 0} (a b : A) → Some a ≡ Some b → a ≡ b
some_is a b e = cc

module _ {E : Type 0} where
  pub still_there_push : (xs : List (Option (Entry E))) (y : Entry E) → still_there (xs ++ Some y ∷ []) ≡ still_there xs ++ y ∷ []
  still_there_push [] y = refl
  still_there_push (None ∷ xs) y = still_there_push xs y
  still_there_push (Some x ∷ xs) y = ap (λ l. x ∷ l) (still_there_push xs y)

  has_slot : (xs : List (Option (Entry E))) (n : ℕ) (x : Entry E) → slice_get xs n ≡ Some (Some x) → has_entry (still_there xs) x.tx ≡ true
  has_slot [] n x h = absurd (let v : ⊥ = cc in v)
  has_slot (None ∷ xs) zero x h = absurd (let v : ⊥ = (let e : None ≡ Some x = some_is None (Some x) h in cc) in v)
  has_slot (None ∷ xs) (suc n) x h = has_slot xs n x h
  has_slot (Some y ∷ xs) zero x h = let e : y ≡ x = some_is y x (some_is (Some y) (Some x) h) in or_left _ _ (subst (λ z. same_tx z.tx x.tx ≡ true) (sym e) (same_tx_refl x.tx))
  has_slot (Some y ∷ xs) (suc n) x h = or_right (same_tx y.tx x.tx) (has_entry (still_there xs) x.tx) (has_slot xs n x h)

  -- where what is there stands
  slot_of : (xs : List (Option (Entry E))) (u : TxId) → has_entry (still_there xs) u ≡ true → (n : ℕ) × (x : Entry E) × (slice_get xs n ≡ Some (Some x)) × (x.tx ≡ u)
  slot_of [] u h = absurd (true≢false (sym h))
  slot_of (None ∷ xs) u h = let r = slot_of xs u h in (suc r.0, r.1, r.2, r.3)
  slot_of (Some y ∷ xs) u h = ⊎_elim
      (λ (e : same_tx y.tx u ≡ true). (0, y, refl, same_tx_is y.tx u e))
      (λ (e : same_tx y.tx u ≡ false). let r = slot_of xs u (ap (λ b. b || has_entry (still_there xs) u) (sym e) ∙ h) in (suc r.0, r.1, r.2, r.3))
      (cases_Bool (same_tx y.tx u))

  pub placed_alike : (p q : TxId → Option ℕ) (xs ys : List (Option (Entry E))) → ((u : TxId) → q u ≡ p u) → ys ≡ xs → ArePlaced p xs → ArePlaced q ys
  placed_alike p q xs ys f e a = subst (λ l. ArePlaced q l) (sym e) (record { held = λ n x h. f x.tx ∙ a.held n x h; found = λ u n h. a.found u n (sym (f u) ∙ h) })

  pub placed_there : (p : TxId → Option ℕ) (xs : List (Option (Entry E))) (u : TxId) → ArePlaced p xs → has_entry (still_there xs) u ≡ true → None ≡ p u → ⊥
  placed_there p xs u a h none =
      let r = slot_of xs u h in
      let e : p u ≡ Some r.0 = ap p (sym r.3) ∙ a.held r.0 r.1 r.2 in
      let f : None ≡ Some r.0 = none ∙ e in cc

  pub placed_push : (p q : TxId → Option ℕ) (xs : List (Option (Entry E))) (y : Entry E) (k : ℕ) → ArePlaced p xs → has_entry (still_there xs) y.tx ≡ false → k ≡ length xs → ((u : TxId) → q u ≡ cond (same_tx y.tx u) (Some k) (p u)) → ArePlaced q (xs ++ Some y ∷ [])
  placed_push p q xs y k a new at put_at = let put : (u : TxId) → q u ≡ cond (same_tx y.tx u) (Some (length xs)) (p u) = λ u. put_at u ∙ ap (λ j. cond (same_tx y.tx u) (Some j) (p u)) at in record {
    held = λ n x h. ⊎_elim
        (λ (e : slice_get xs n ≡ Some (Some x)). put x.tx ∙ cond-false (same_tx y.tx x.tx) (Some (length xs)) (p x.tx) (other x (has_slot xs n x e)) ∙ a.held n x e)
        (λ (e : (n ≡ length xs) × (Some x ≡ Some y)). put x.tx ∙ cond-true (same_tx y.tx x.tx) (Some (length xs)) (p x.tx) (subst (λ z. same_tx y.tx z.tx ≡ true) (sym (some_is x y e.1)) (same_tx_refl y.tx)) ∙ ap (λ k. Some k) (sym e.0))
        (get_push_cases xs (Some y) n (Some x) h);
    found = λ u n h. ⊎_elim
        (λ (s : same_tx y.tx u ≡ true).
        let e : Some (length xs) ≡ Some n = sym (put u ∙ cond-true (same_tx y.tx u) (Some (length xs)) (p u) s) ∙ h in
        (y, subst (λ k. slice_get (xs ++ Some y ∷ []) k ≡ Some (Some y)) (some_is (length xs) n e) (get_pushed xs (Some y)), same_tx_is y.tx u s))
        (λ (s : same_tx y.tx u ≡ false).
        let r = a.found u n (sym (put u ∙ cond-false (same_tx y.tx u) (Some (length xs)) (p u) s) ∙ h) in
        (r.0, get_push xs (Some y) n (Some r.0) r.1, r.2))
        (cases_Bool (same_tx y.tx u));
  }
    where
      other : (x : Entry E) → has_entry (still_there xs) x.tx ≡ true → same_tx y.tx x.tx ≡ false
      other x h = ⊎_elim
          (λ (s : same_tx y.tx x.tx ≡ true). absurd (true≢false (sym h ∙ ap (λ v. has_entry (still_there xs) v) (sym (same_tx_is y.tx x.tx s)) ∙ new)))
          (λ (s : same_tx y.tx x.tx ≡ false). s)
          (cases_Bool (same_tx y.tx x.tx))

  pub emptied : (xs : List (Option (Entry E))) (n : ℕ) (x : Entry E) → slice_get xs n ≡ Some (Some x) → IsTakenOut x (still_there xs) (still_there (slice_set xs n None))
  emptied [] n x h = absurd (let v : ⊥ = cc in v)
  emptied (None ∷ xs) zero x h = absurd (let v : ⊥ = (let e : None ≡ Some x = some_is None (Some x) h in cc) in v)
  emptied (Some y ∷ xs) zero x h = record { front = []; back = still_there xs; before = ap (λ z. z ∷ still_there xs) (some_is y x (some_is (Some y) (Some x) h)); after = refl }
  emptied (None ∷ xs) (suc n) x h = emptied xs n x h
  emptied (Some y ∷ xs) (suc n) x h = let r = emptied xs n x h in record { front = y ∷ r.front; back = r.back; before = ap (λ l. y ∷ l) r.before; after = ap (λ l. y ∷ l) r.after }

  still_held : (xs : List (Option (Entry E))) (n m : ℕ) (x : Entry E) → slice_get (slice_set xs n None) m ≡ Some (Some x) → (slice_get xs m ≡ Some (Some x)) × (m ≢ n)
  still_held [] n m x h = absurd (let v : ⊥ = cc in v)
  still_held (y ∷ xs) zero zero x h = absurd (let v : ⊥ = (let e : None ≡ Some x = some_is None (Some x) h in cc) in v)
  still_held (y ∷ xs) zero (suc m) x h = (h, λ e. omega (arith, e))
  still_held (y ∷ xs) (suc n) zero x h = (h, λ e. omega (arith, e))
  still_held (y ∷ xs) (suc n) (suc m) x h = let r = still_held xs n m x h in (r.0, λ e. r.1 (omega (arith, e)))

  keeps : (xs : List (Option (Entry E))) (n m : ℕ) (x : Entry E) → slice_get xs m ≡ Some (Some x) → m ≢ n → slice_get (slice_set xs n None) m ≡ Some (Some x)
  keeps [] n m x h k = h
  keeps (y ∷ xs) zero zero x h k = absurd (k refl)
  keeps (y ∷ xs) zero (suc m) x h k = h
  keeps (y ∷ xs) (suc n) zero x h k = h
  keeps (y ∷ xs) (suc n) (suc m) x h k = keeps xs n m x h (λ e. k (ap suc e))

  -- without the last slot, which is empty
  pub still_there_shorter : (xs : List (Option (Entry E))) (n : ℕ) → slice_get xs n ≡ Some None → length xs ≡ n + 1 → still_there (take n xs) ≡ still_there xs
  still_there_shorter [] n h e = cc
  still_there_shorter (None ∷ []) zero h e = refl
  still_there_shorter (Some x ∷ []) zero h e = absurd (let v : ⊥ = (let k : Some x ≡ None = some_is (Some x) None h in cc) in v)
  still_there_shorter (x ∷ y ∷ xs) zero h e = absurd (omega (arith, e))
  still_there_shorter (None ∷ xs) (suc n) h e = still_there_shorter xs n h (omega (arith, e))
  still_there_shorter (Some x ∷ xs) (suc n) h e = ap (λ l. x ∷ l) (still_there_shorter xs n h (omega (arith, e)))

  taken_slot : (xs : List (Option (Entry E))) (n m : ℕ) (x : Entry E) → slice_get (take n xs) m ≡ Some (Some x) → slice_get xs m ≡ Some (Some x)
  taken_slot [] zero m x h = absurd (let v : ⊥ = cc in v)
  taken_slot [] (suc n) m x h = absurd (let v : ⊥ = cc in v)
  taken_slot (y ∷ xs) zero m x h = absurd (let v : ⊥ = cc in v)
  taken_slot (y ∷ xs) (suc n) zero x h = h
  taken_slot (y ∷ xs) (suc n) (suc m) x h = taken_slot xs n m x h

  slot_taken : (xs : List (Option (Entry E))) (n m : ℕ) (x : Entry E) → slice_get xs n ≡ Some None → length xs ≡ n + 1 → slice_get xs m ≡ Some (Some x) → slice_get (take n xs) m ≡ Some (Some x)
  slot_taken [] n m x h e k = absurd (let v : ⊥ = cc in v)
  slot_taken (y ∷ []) zero zero x h e k = absurd (let v : ⊥ = (let a : None ≡ Some x = some_is None (Some x) (sym h ∙ k) in cc) in v)
  slot_taken (y ∷ []) zero (suc m) x h e k = absurd (let v : ⊥ = cc in v)
  slot_taken (y ∷ z ∷ xs) zero m x h e k = absurd (omega (arith, e))
  slot_taken (y ∷ xs) (suc n) zero x h e k = k
  slot_taken (y ∷ xs) (suc n) (suc m) x h e k = slot_taken xs n m x h (omega (arith, e)) k

  pub placed_shorter : (p : TxId → Option ℕ) (xs : List (Option (Entry E))) (n : ℕ) → slice_get xs n ≡ Some None → length xs ≡ n + 1 → ArePlaced p xs → ArePlaced p (take n xs)
  placed_shorter p xs n h e a = record {
    held = λ m x k. a.held m x (taken_slot xs n m x k);
    found = λ u m k. let r = a.found u m k in (r.0, slot_taken xs n m r.0 h e r.1, r.2);
  }

  pub trimmed : (xs zs ys : List (Option (Entry E))) (n : ℕ) → zs ≡ xs → 1 ≤ length zs → slice_get zs (length zs - 1) ≡ Some None → n ≡ length xs → ys ≡ take (n - 1) xs
      → (still_there ys ≡ still_there xs) × ((p : TxId → Option ℕ) → ArePlaced p xs → ArePlaced p ys)
  trimmed xs zs ys n same some last many is =
      let some_here : 1 ≤ length xs = subst (λ l. 1 ≤ length l) same some in
      let here : slice_get xs (n - 1) ≡ Some None = ap (λ k. slice_get xs (k - 1)) many ∙ subst (λ l. slice_get l (length l - 1) ≡ Some None) same last in
      let long : length xs ≡ n - 1 + 1 = omega (arith, many, some_here) in
      (ap still_there is ∙ still_there_shorter xs (n - 1) here long, λ p a. subst (λ l. ArePlaced p l) (sym is) (placed_shorter p xs (n - 1) here long a))

  pub placed_empty : (p q : TxId → Option ℕ) (xs : List (Option (Entry E))) (t : TxId) (n : ℕ) (x : Entry E) → ArePlaced p xs → slice_get xs n ≡ Some (Some x) → x.tx ≡ t → p t ≡ Some n → ((u : TxId) → q u ≡ cond (same_tx t u) None (p u)) → ArePlaced q (slice_set xs n None)
  placed_empty p q xs t n x a there is at put = record {
    held = λ m y h.
        let r = still_held xs n m y h in
        let e : p y.tx ≡ Some m = a.held m y r.0 in ⊎_elim
        (λ (s : same_tx t y.tx ≡ true). absurd (r.1 (some_is m n (sym e ∙ ap p (sym (same_tx_is t y.tx s)) ∙ at))))
        (λ (s : same_tx t y.tx ≡ false). put y.tx ∙ cond-false (same_tx t y.tx) None (p y.tx) s ∙ e)
        (cases_Bool (same_tx t y.tx));
    found = λ u m h. ⊎_elim
        (λ (s : same_tx t u ≡ true). let e : None ≡ Some m = sym (put u ∙ cond-true (same_tx t u) None (p u) s) ∙ h in absurd (let v : ⊥ = cc in v))
        (λ (s : same_tx t u ≡ false).
        let r = a.found u m (sym (put u ∙ cond-false (same_tx t u) None (p u) s) ∙ h) in
        (r.0, keeps xs n m r.0 r.1 (λ e. true≢false (sym (same_tx_refl t) ∙ ap (λ v. same_tx t v) (sym is ∙ ap (λ (z : Entry E). z.tx) (same m e r.0 r.1) ∙ r.2) ∙ s)), r.2))
        (cases_Bool (same_tx t u));
  }
    where
      same : (m : ℕ) → m ≡ n → (y : Entry E) → slice_get xs m ≡ Some (Some y) → x ≡ y
      same m e y h = some_is x y (some_is (Some x) (Some y) (sym there ∙ ap (λ k. slice_get xs k) (sym e) ∙ h))
