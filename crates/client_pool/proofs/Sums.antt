-- What counters come to by callers, and the closed form of that.
use Rattle.std.proofs.Common.{◌≡◌, ℕ, zero, suc, ◌+◌, ◌*◌, ◌<◌, Bool, true, false, cond, List, [], ◌∷◌, ◌++◌, length, refl, sym, ap, ◌∙◌, subst, eqb, eq-eqb, ne_eqb, arith, ⊎_elim, ◌⊎◌}
use Rattle.std.specs.Prelude.{filter, ℤ, pos, neg_ℤ, ◌+ℤ◌, ⊤}
use Rattle.std.proofs.lemmas.Bool.Decides.{nat_tests}
use Rattle.std.proofs.lemmas.Int.{ints}
use Rattle.std.proofs.lemmas.Bool.{true≢false, eqb-true}
use Rattle.std.proofs.Math.Nat.{mod-eq_of_lt, mod-lt, mul-suc, mul-zero}
use Rattle.crdt_core.specs.declared.object.ObjectId.{ObjectId}
use Rattle.crdt_core.specs.Objects.{same_object}
use Rattle.crdt_meanings.specs.CounterMeaning.{amount, total_by}
use Rattle.crdt_meanings.proofs.Totals.{add_none, total_append}
use Rattle.client_pool.specs.Load.{counter, next_counter}
use Rattle.client_pool.specs.Changes.{Change, changes_to, value_of, changes_of, counters_of, load_of, times, AreLoads, AreTheirs}
use Rattle.client_pool.specs.Summary.{all_counters, counters, closed, ClosedForm}
use Rattle.client_pool.proofs.Objects.{same_counter}

-- what an update counts towards an object
abbrev part : ObjectId → Change → ℤ
part o u = cond (same_object u.object o) (amount u.act) (pos 0)

value_parts : (o : ObjectId) (run : List Change) → value_of o run ≡ total_by (part o) run
value_parts o [] = refl
value_parts o (u ∷ run) = go (same_object u.object o) (value_parts o run)
  where
    go : (b : Bool) → total_by (λ (u : Change). amount u.act) (changes_to o run) ≡ total_by (part o) run → total_by (λ (u : Change). amount u.act) (cond b (u ∷ changes_to o run) (changes_to o run)) ≡ total_by (part o) run +ℤ cond b (amount u.act) (pos 0)
    go true h = ap (λ t. t +ℤ amount u.act) h
    go false h = h ∙ add_none (total_by (part o) run)

-- the counter behind
abbrev behind : ℕ → ℕ
behind zero = 7
behind (suc k) = k

eqb_suc : (a b : ℕ) → eqb (suc a) (suc b) ≡ eqb a b
eqb_suc a b = go (eqb a b) refl
  where
    go : (t : Bool) → eqb a b ≡ t → eqb (suc a) (suc b) ≡ eqb a b
    go true e = eq-eqb (suc a) (suc b) (ap suc (eqb-true a b e)) ∙ sym e
    go false e = ne_eqb (suc a) (suc b) (λ h. true≢false (sym (eq-eqb a b (omega (arith, h))) ∙ e)) ∙ sym e

next_is : (m c : ℕ) → m < 8 → c < 8 → eqb (next_counter m) c ≡ eqb m (behind c)
next_is m c low top = ⊎_elim (λ e. last m c e top) (λ h. mid m c h) (or_last m low)
  where
    or_last : (m : ℕ) → m < 8 → (m ≡ 7) ⊎ (m < 7)
    or_last m h = grind (arith, nat_tests)

    last : (m c : ℕ) → m ≡ 7 → c < 8 → eqb (next_counter m) c ≡ eqb m (behind c)
    last m zero e h = subst (λ m. eqb (next_counter m) 0 ≡ eqb m 7) (sym e) refl
    last m (suc k) e h = subst (λ m. eqb (next_counter m) (suc k) ≡ eqb m k) (sym e) (ne_eqb 0 (suc k) (λ e. omega (arith, e)) ∙ sym (ne_eqb 7 k (λ e. omega (arith, e, h))))

    mid : (m c : ℕ) → m < 7 → eqb (next_counter m) c ≡ eqb m (behind c)
    mid m zero h = ap (λ x. eqb x 0) (mod-eq_of_lt (omega arith)) ∙ (ne_eqb (m + 1) 0 (λ e. omega (arith, e)) ∙ sym (ne_eqb m 7 (λ e. omega (arith, e))))
    mid m (suc k) h = let e : m + 1 ≡ suc m = omega arith in ap (λ x. eqb x (suc k)) (mod-eq_of_lt (omega arith) ∙ e) ∙ eqb_suc m k

-- one transaction more
more_first : (m t s : ℕ) (x y : Bool) → (x ≡ true → m ≡ 0) → (y ≡ true → m ≡ 7)
    → pos (cond x 1 0 + t) +ℤ neg_ℤ (pos (8 * (cond y 1 0 + s))) ≡ ((pos t +ℤ neg_ℤ (pos (8 * s))) +ℤ cond x (pos (1 + m)) (pos 0)) +ℤ cond y (neg_ℤ (pos (1 + m))) (pos 0)
more_first m t s true true f g = let e = f refl in let h = g refl in absurd (omega arith)
more_first m t s true false f g = let e = f refl in omega (arith, ints)
more_first m t s false true f g = let e = g refl in omega (arith, ints)
more_first m t s false false f g = omega (arith, ints)

times_more : (a t : ℕ) → a * (1 + t) ≡ a * t + a
times_more a t = ap (λ x. a * x) (omega arith) ∙ mul-suc a t

more_next : (m k t s : ℕ) (x y : Bool) → (x ≡ true → m ≡ suc k) → (y ≡ true → m ≡ k)
    → pos ((suc k + 1) * (cond x 1 0 + t)) +ℤ neg_ℤ (pos (suc k * (cond y 1 0 + s))) ≡ ((pos ((suc k + 1) * t) +ℤ neg_ℤ (pos (suc k * s))) +ℤ cond x (pos (1 + m)) (pos 0)) +ℤ cond y (neg_ℤ (pos (1 + m))) (pos 0)
more_next m k t s true true f g = let e = f refl in let h = g refl in absurd (omega arith)
more_next m k t s true false f g = let e = f refl in let u = times_more (suc k + 1) t in omega (arith, ints)
more_next m k t s false true f g = let e = g refl in let u = times_more (suc k) s in omega (arith, ints)
more_next m k t s false false f g = omega (arith, ints)

-- what a transaction adds to a counter
abbrev more : ℕ → ℕ → ℤ → ℤ
more m c t = (t +ℤ cond (eqb m c) (pos (1 + m)) (pos 0)) +ℤ cond (eqb (next_counter m) c) (neg_ℤ (pos (1 + m))) (pos 0)

closed_more : (m c : ℕ) (ms : List ℕ) → m < 8 → c < 8 → closed c (m ∷ ms) ≡ more m c (closed c ms)
closed_more m zero ms low top = more_first m (times 0 ms) (times 7 ms) (eqb m 0) (eqb m 7) (eqb-true m 0) (eqb-true m 7) ∙ ap (λ b. (closed 0 ms +ℤ cond (eqb m 0) (pos (1 + m)) (pos 0)) +ℤ cond b (neg_ℤ (pos (1 + m))) (pos 0)) (sym (next_is m 0 low top))
closed_more m (suc k) ms low top = more_next m k (times (suc k) ms) (times k ms) (eqb m (suc k)) (eqb m k) (eqb-true m (suc k)) (eqb-true m k) ∙ ap (λ b. (closed (suc k) ms +ℤ cond (eqb m (suc k)) (pos (1 + m)) (pos 0)) +ℤ cond b (neg_ℤ (pos (1 + m))) (pos 0)) (sym (next_is m (suc k) low top))

abbrev AllBelow : List ℕ → Type 0
AllBelow [] = ⊤
AllBelow (m ∷ ms) = (m < 8) × AllBelow ms

closed_none : (c : ℕ) → c < 8 → closed c [] ≡ pos 0
closed_none zero h = refl
closed_none (suc k) h = none (suc k + 1) (suc k)
  where
    none : (a b : ℕ) → pos (a * 0) +ℤ neg_ℤ (pos (b * 0)) ≡ pos 0
    none a b = let u = mul-zero a in let v = mul-zero b in omega (arith, ints)

-- the updates of a transaction, by their objects
txn_parts : (by i m c : ℕ) (rest : List Change) → m < 8 → c < 8 → total_by (part (counter c)) (changes_of by i m ++ rest) ≡ more m c (total_by (part (counter c)) rest)
txn_parts by i m c rest low top =
    sym (add_none ((total_by (part (counter c)) rest +ℤ cond (same_object (counter m) (counter c)) (pos (1 + m)) (pos 0)) +ℤ cond (same_object (counter (next_counter m)) (counter c)) (neg_ℤ (pos (1 + m))) (pos 0)))
    ∙ (λ t. (total_by (part (counter c)) rest +ℤ cond (same_counter m c low top t) (pos (1 + m)) (pos 0)) +ℤ cond (same_counter (next_counter m) c (mod-lt (m + 1) (omega arith)) top t) (neg_ℤ (pos (1 + m))) (pos 0))

-- the load of one caller
load_closed : (by i c : ℕ) (ms : List ℕ) → c < 8 → AllBelow ms → total_by (part (counter c)) (load_of by i ms) ≡ closed c ms
load_closed by i c [] top low = sym (closed_none c top)
load_closed by i c (m ∷ ms) top low = txn_parts by i m c (load_of by i ms) low.0 top ∙ (ap (more m c) (load_closed by i c ms top low.1) ∙ sym (closed_more m c ms low.0 top))

load_append : (by i : ℕ) (xs ys : List ℕ) → load_of by i (xs ++ ys) ≡ load_of by i xs ++ load_of by i ys
load_append by i [] ys = refl
load_append by i (m ∷ xs) ys = ap (λ l. changes_of by i m ++ l) (load_append by i xs ys)

below_append : (xs ys : List ℕ) → AllBelow xs → AllBelow ys → AllBelow (xs ++ ys)
below_append [] ys a b = b
below_append (x ∷ xs) ys a b = (a.0, below_append xs ys a.1 b)

counters_below : (number i j : ℕ) → AllBelow (counters_of number i j)
counters_below number i zero = tt
counters_below number i (suc j) = (mod-lt (number + i + suc j) (omega arith), counters_below number i j)

all_below : (number txns i clients : ℕ) → AllBelow (all_counters number txns i clients)
all_below number txns i zero = tt
all_below number txns i (suc n) = below_append (counters_of number i txns) (all_counters number txns (i + 1) n) (counters_below number i txns) (all_below number txns (i + 1) n)

closed_append : (c : ℕ) (xs ys : List ℕ) → c < 8 → AllBelow xs → AllBelow ys → closed c (xs ++ ys) ≡ closed c ys +ℤ closed c xs
closed_append c xs ys top a b =
    sym (load_closed 0 0 c (xs ++ ys) top (below_append xs ys a b))
    ∙ (ap (total_by (part (counter c))) (load_append 0 0 xs ys) ∙ (total_append (part (counter c)) (load_of 0 0 xs) (load_of 0 0 ys) ∙ (λ k. load_closed 0 0 c ys top b k +ℤ load_closed 0 0 c xs top a k)))

-- ---- by callers

total_zeros : (xs : List ℕ) → total_by (λ (k : ℕ). pos 0) xs ≡ pos 0
total_zeros [] = refl
total_zeros (x ∷ xs) = ap (λ t. t +ℤ pos 0) (total_zeros xs)

total_plus : {A : Type 0} (g h : A → ℤ) (xs : List A) → total_by (λ k. g k +ℤ h k) xs ≡ total_by g xs +ℤ total_by h xs
total_plus g h [] = refl
total_plus g h (x ∷ xs) = ap (λ t. t +ℤ (g x +ℤ h x)) (total_plus g h xs) ∙ swap (total_by g xs) (total_by h xs) (g x) (h x)
  where
    swap : (a b c d : ℤ) → (a +ℤ b) +ℤ (c +ℤ d) ≡ (a +ℤ c) +ℤ (b +ℤ d)
    swap a b c d = omega (arith, ints)

total_same : {A : Type 0} (g h : A → ℤ) (xs : List A) → ((x : A) → g x ≡ h x) → total_by g xs ≡ total_by h xs
total_same g h [] e = refl
total_same g h (x ∷ xs) e = λ i. total_same g h xs e i +ℤ e x i

pub eqb_swap : (a b : ℕ) → eqb a b ≡ eqb b a
eqb_swap a b = go (eqb a b) refl
  where
    go : (t : Bool) → eqb a b ≡ t → eqb a b ≡ eqb b a
    go true e = e ∙ sym (eq-eqb b a (sym (eqb-true a b e)))
    go false e = e ∙ sym (ne_eqb b a (λ h. true≢false (sym (eq-eqb a b (sym h)) ∙ e)))

pick_none : (b : ℕ) (z : ℤ) (ks : List ℕ) → times b ks ≡ 0 → total_by (λ (k : ℕ). cond (eqb b k) z (pos 0)) ks ≡ pos 0
pick_none b z [] e = refl
pick_none b z (k ∷ ks) e = go (eqb k b) (eqb_swap b k) e (pick_none b z ks)
  where
    go : (t : Bool) → eqb b k ≡ t → cond t 1 0 + times b ks ≡ 0 → (times b ks ≡ 0 → total_by (λ (k : ℕ). cond (eqb b k) z (pos 0)) ks ≡ pos 0) → total_by (λ (k : ℕ). cond (eqb b k) z (pos 0)) ks +ℤ cond (eqb b k) z (pos 0) ≡ pos 0
    go true is e h = absurd (omega arith)
    go false is e h = λ i. h (omega arith) i +ℤ cond (is i) z (pos 0)

pick_one : (b : ℕ) (z : ℤ) (ks : List ℕ) → times b ks ≡ 1 → total_by (λ (k : ℕ). cond (eqb b k) z (pos 0)) ks ≡ z
pick_one b z [] e = absurd (omega arith)
pick_one b z (k ∷ ks) e = go (eqb k b) (eqb_swap b k) e (pick_one b z ks)
  where
    zero_left : (z : ℤ) → pos 0 +ℤ z ≡ z
    zero_left z = omega (arith, ints)

    go : (t : Bool) → eqb b k ≡ t → cond t 1 0 + times b ks ≡ 1 → (times b ks ≡ 1 → total_by (λ (k : ℕ). cond (eqb b k) z (pos 0)) ks ≡ z) → total_by (λ (k : ℕ). cond (eqb b k) z (pos 0)) ks +ℤ cond (eqb b k) z (pos 0) ≡ z
    go true is e h = (λ i. pick_none b z ks (omega arith) i +ℤ cond (is i) z (pos 0)) ∙ zero_left z
    go false is e h = (λ i. h (omega arith) i +ℤ cond (is i) z (pos 0)) ∙ sym (add_none z)

abbrev by_caller : List Change → ℕ → List Change
by_caller run k = filter (λ u. eqb u.by k) run

-- the sum over a run is that over its callers, of what each has in it
by_callers : (f : Change → ℤ) (numbers : List ℕ) (run : List Change) → AreTheirs numbers run → total_by f run ≡ total_by (λ (k : ℕ). total_by f (by_caller run k)) numbers
by_callers f numbers [] a = sym (total_zeros numbers)
by_callers f numbers (u ∷ run) a =
    (λ i. by_callers f numbers run a.1 i +ℤ sym (pick_one u.by (f u) numbers a.0) i)
    ∙ (sym (total_plus (λ (k : ℕ). total_by f (by_caller run k)) (λ (k : ℕ). cond (eqb u.by k) (f u) (pos 0)) numbers)
    ∙ total_same (λ (k : ℕ). total_by f (by_caller run k) +ℤ cond (eqb u.by k) (f u) (pos 0)) (λ (k : ℕ). total_by f (by_caller (u ∷ run) k)) numbers (λ k. one (eqb u.by k) (by_caller run k)))
  where
    one : (t : Bool) (rest : List Change) → total_by f rest +ℤ cond t (f u) (pos 0) ≡ total_by f (cond t (u ∷ rest) rest)
    one true rest = refl
    one false rest = sym (add_none (total_by f rest))

loads_closed : (number txns c i : ℕ) (numbers : List ℕ) (run : List Change) → c < 8 → AreLoads number txns i numbers run
    → total_by (λ (k : ℕ). total_by (part (counter c)) (by_caller run k)) numbers ≡ closed c (all_counters number txns i (length numbers))
loads_closed number txns c i [] run top l = sym (closed_none c top)
loads_closed number txns c i (k ∷ ks) run top l =
    (λ t. loads_closed number txns c (i + 1) ks run top l.1 t +ℤ (ap (total_by (part (counter c))) l.0 ∙ load_closed k i c (counters_of number i txns) top (counters_below number i txns)) t)
    ∙ sym (closed_append c (counters_of number i txns) (all_counters number txns (i + 1) (length ks)) top (counters_below number i txns) (all_below number txns (i + 1) (length ks)))

pub closed_form : ClosedForm
closed_form plan numbers run count theirs loads =
    let at : (c : ℕ) → c < 8 → value_of (counter c) run ≡ closed c (counters plan) = λ c top. value_parts (counter c) run ∙ (by_callers (part (counter c)) numbers run theirs ∙ (loads_closed plan.number plan.txns c 1 numbers run top loads ∙ ap (λ n. closed c (all_counters plan.number plan.txns 1 n)) count)) in
    λ i. at 0 (omega arith) i ∷ at 1 (omega arith) i ∷ at 2 (omega arith) i ∷ at 3 (omega arith) i ∷ at 4 (omega arith) i ∷ at 5 (omega arith) i ∷ at 6 (omega arith) i ∷ at 7 (omega arith) i ∷ []
