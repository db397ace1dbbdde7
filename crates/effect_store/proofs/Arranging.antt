-- Lists in an order: what adding an element and filtering keep, and where elements stand.
use Rattle.std.proofs.Common.{◌≡◌, ℕ, zero, suc, ◌<◌, Bool, true, false, cond, not, ◌&&◌, ◌||◌, List, [], ◌∷◌, ◌++◌, length, Some, refl, sym, ap, ◌∙◌, subst, arith, ◌⊎◌, inl, inr}
use Rattle.std.specs.List.{filter, slice_get}
use Rattle.effect_store.specs.Arranged.{added, added_all, Each, Rises, IsOrder}

pub flipped : {X : Type 0} (lt : X → X → Bool) → IsOrder lt → IsOrder (λ x y. lt y x)
flipped lt o = record { strict = o.strict; follows = λ x y z a b. o.follows z y x b a }

pub arranged-push : {X : Type 0} (lt : X → X → Bool) (acc xs : List X) (x : X) → added_all lt acc (xs ++ x ∷ []) ≡ added lt x (added_all lt acc xs)
arranged-push lt acc [] x = refl
arranged-push lt acc (y ∷ xs) x = arranged-push lt (added lt y acc) xs x

pub each_more : {X : Type 0} (p q : X → Bool) → ((x : X) → p x ≡ true → q x ≡ true) → (xs : List X) → Each p xs → Each q xs
each_more p q h [] e = tt
each_more p q h (x ∷ xs) e = (h x e.0, each_more p q h xs e.1)

each_cond : {X : Type 0} (p : X → Bool) (b : Bool) (xs ys : List X) → Each p xs → Each p ys → Each p (cond b xs ys)
each_cond p true xs ys a b = a
each_cond p false xs ys a b = b

pub each-added : {X : Type 0} (lt : X → X → Bool) (p : X → Bool) (x : X) → p x ≡ true → (xs : List X) → Each p xs → Each p (added lt x xs)
each-added lt p x h [] e = (h, tt)
each-added lt p x h (y ∷ ys) e = each_cond p (lt x y) (x ∷ (y ∷ ys)) (y ∷ added lt x ys) (h, e) (e.0, each-added lt p x h ys e.1)

each_of_cond : {X : Type 0} (p : X → Bool) (b : Bool) (x y : X) (ys zs : List X) → (Each p zs → (p x ≡ true) × Each p ys) → Each p (cond b (x ∷ (y ∷ ys)) (y ∷ zs)) → (p x ≡ true) × Each p (y ∷ ys)
each_of_cond p true x y ys zs f e = e
each_of_cond p false x y ys zs f e = let g = f e.1 in (g.0, (e.0, g.1))

pub each_of_added : {X : Type 0} (lt : X → X → Bool) (p : X → Bool) (x : X) (xs : List X) → Each p (added lt x xs) → (p x ≡ true) × Each p xs
each_of_added lt p x [] e = e
each_of_added lt p x (y ∷ ys) e = each_of_cond p (lt x y) x y ys (added lt x ys) (each_of_added lt p x ys) e

pub each-added_all : {X : Type 0} (lt : X → X → Bool) (p : X → Bool) (acc xs : List X) → Each p acc → Each p xs → Each p (added_all lt acc xs)
each-added_all lt p acc [] a e = a
each-added_all lt p acc (x ∷ xs) a e = each-added_all lt p (added lt x acc) xs (each-added lt p x e.0 acc a) e.1

pub each_of_added_all : {X : Type 0} (lt : X → X → Bool) (p : X → Bool) (acc xs : List X) → Each p (added_all lt acc xs) → Each p acc × Each p xs
each_of_added_all lt p acc [] e = (e, tt)
each_of_added_all lt p acc (x ∷ xs) e = let r = each_of_added_all lt p (added lt x acc) xs e in let s = each_of_added lt p x acc r.0 in (s.1, (s.0, r.1))

rises_cond : {X : Type 0} (lt : X → X → Bool) (b : Bool) (xs ys : List X) → (b ≡ true → Rises lt xs) → (b ≡ false → Rises lt ys) → Rises lt (cond b xs ys)
rises_cond lt true xs ys f g = f refl
rises_cond lt false xs ys f g = g refl

either : (a b : Bool) → a ≡ false → a || b ≡ true → b ≡ true
either a b h e = grind arith

pub rises-added : {X : Type 0} (lt : X → X → Bool) → IsOrder lt → (x : X) (xs : List X) → Each (λ y. lt x y || lt y x) xs → Rises lt xs → Rises lt (added lt x xs)
rises-added lt o x [] d a = (tt, tt)
rises-added lt o x (y ∷ ys) d a = rises_cond lt (lt x y) (x ∷ (y ∷ ys)) (y ∷ added lt x ys)
    (λ h. ((h, each_more (lt y) (lt x) (λ z k. o.follows x y z h k) ys a.0), a))
    (λ h. (each-added lt (lt y) x (either (lt x y) (lt y x) h d.0) ys a.0, rises-added lt o x ys d.1 a.1))

-- what passes a filter
each_kept : {X : Type 0} (p : X → Bool) (x : X) (b : Bool) (ys : List X) → not b || p x ≡ true → Each p ys → Each p (cond b (x ∷ ys) ys)
each_kept p x true ys h e = (h, e)
each_kept p x false ys h e = e

pub each-filter : {X : Type 0} (q p : X → Bool) (xs : List X) → Each (λ y. not (q y) || p y) xs → Each p (filter q xs)
each-filter q p [] e = tt
each-filter q p (x ∷ xs) e = each_kept p x (q x) (filter q xs) e.0 (each-filter q p xs e.1)

each_unkept : {X : Type 0} (p : X → Bool) (x : X) (b : Bool) (ys : List X) → Each p (cond b (x ∷ ys) ys) → (not b || p x ≡ true) × Each p ys
each_unkept p x true ys e = e
each_unkept p x false ys e = (refl, e)

pub each_of_filter : {X : Type 0} (q p : X → Bool) (xs : List X) → Each p (filter q xs) → Each (λ y. not (q y) || p y) xs
each_of_filter q p [] e = tt
each_of_filter q p (x ∷ xs) e = let r = each_unkept p x (q x) (filter q xs) e in (r.0, each_of_filter q p xs r.1)

weaker : (a b : Bool) → b ≡ true → a || b ≡ true
weaker a b h = grind arith

pub each_within : {X : Type 0} (q p : X → Bool) (xs : List X) → Each p xs → Each p (filter q xs)
each_within q p xs e = each-filter q p xs (each_more p (λ y. not (q y) || p y) (λ y h. weaker (not (q y)) (p y) h) xs e)

rises_kept : {X : Type 0} (lt : X → X → Bool) (x : X) (b : Bool) (ys : List X) → Each (lt x) ys → Rises lt ys → Rises lt (cond b (x ∷ ys) ys)
rises_kept lt x true ys e a = (e, a)
rises_kept lt x false ys e a = a

pub rises-filter : {X : Type 0} (lt : X → X → Bool) (q : X → Bool) (xs : List X) → Rises lt xs → Rises lt (filter q xs)
rises-filter lt q [] a = tt
rises-filter lt q (x ∷ xs) a = rises_kept lt x (q x) (filter q xs) (each_within q (lt x) xs a.0) (rises-filter lt q xs a.1)

-- an element that comes before all is added first
pub added_first : {X : Type 0} (lt : X → X → Bool) (x : X) (xs : List X) → Each (lt x) xs → added lt x xs ≡ x ∷ xs
added_first lt x [] e = refl
added_first lt x (y ∷ ys) e = rw e.0 refl

cond_ext : {X : Type 0} (b c : Bool) (x : X) (xs ys : List X) → b ≡ c → xs ≡ ys → cond b (x ∷ xs) xs ≡ cond c (x ∷ ys) ys
cond_ext b c x xs ys h k = grind arith

pub filter_same : {X : Type 0} (p q : X → Bool) → ((x : X) → p x ≡ q x) → (xs : List X) → filter p xs ≡ filter q xs
filter_same p q h [] = refl
filter_same p q h (x ∷ xs) = cond_ext (p x) (q x) x (filter p xs) (filter q xs) (h x) (filter_same p q h xs)

abbrev pub eqv : Bool → Bool → Bool
eqv true b = b
eqv false b = not b

eqv_is : (a b : Bool) → eqv a b ≡ true → a ≡ b
eqv_is true true h = refl
eqv_is true false h = cc
eqv_is false true h = cc
eqv_is false false h = refl

pub filter_same_on : {X : Type 0} (p q : X → Bool) (xs : List X) → Each (λ x. eqv (p x) (q x)) xs → filter p xs ≡ filter q xs
filter_same_on p q [] e = refl
filter_same_on p q (x ∷ xs) e = cond_ext (p x) (q x) x (filter p xs) (filter q xs) (eqv_is (p x) (q x) e.0) (filter_same_on p q xs e.1)

out_step : {X : Type 0} (q : X → Bool) (x y : X) (ys zs : List X) (b : Bool) → q x ≡ false → filter q zs ≡ filter q ys → filter q (cond b (x ∷ (y ∷ ys)) (y ∷ zs)) ≡ filter q (y ∷ ys)
out_step q x y ys zs true h e = rw h refl
out_step q x y ys zs false h e = rw e refl

pub filter-added_out : {X : Type 0} (lt : X → X → Bool) (q : X → Bool) (x : X) → q x ≡ false → (xs : List X) → filter q (added lt x xs) ≡ filter q xs
filter-added_out lt q x h [] = rw h refl
filter-added_out lt q x h (y ∷ ys) = out_step q x y ys (added lt x ys) (lt x y) h (filter-added_out lt q x h ys)

in_step : {X : Type 0} (lt : X → X → Bool) (q : X → Bool) (x y : X) (ys : List X) (b c : Bool) → q x ≡ true → lt x y ≡ b → q y ≡ c → (b ≡ true → added lt x (filter q (y ∷ ys)) ≡ x ∷ filter q (y ∷ ys)) → filter q (added lt x ys) ≡ added lt x (filter q ys) → filter q (added lt x (y ∷ ys)) ≡ added lt x (filter q (y ∷ ys))
in_step lt q x y ys true c h k j f e = rw k (rw h (sym (f refl)))
in_step lt q x y ys false true h k j f e = rw (k, j, k) (ap (λ l. y ∷ l) e)
in_step lt q x y ys false false h k j f e = rw (k, j) e

pub filter-added_in : {X : Type 0} (lt : X → X → Bool) → IsOrder lt → (q : X → Bool) (x : X) → q x ≡ true → (xs : List X) → Rises lt xs → filter q (added lt x xs) ≡ added lt x (filter q xs)
filter-added_in lt o q x h [] a = rw h refl
filter-added_in lt o q x h (y ∷ ys) a = in_step lt q x y ys (lt x y) (q y) h refl refl
    (λ k. added_first lt x (filter q (y ∷ ys)) (each_within q (lt x) (y ∷ ys) (k, each_more (lt y) (lt x) (λ z j. o.follows x y z k j) ys a.0)))
    (filter-added_in lt o q x h ys a.1)

later_step : {X : Type 0} (lt : X → X → Bool) (x h : X) (r : List X) (b : Bool) → lt x h ≡ b → (b ≡ true → ⊥) → added lt x (h ∷ r) ≡ h ∷ added lt x r
later_step lt x h r true k n = absurd (n refl)
later_step lt x h r false k n = rw k refl

-- an element that does not come before all leaves the first one first
pub added_later : {X : Type 0} (lt : X → X → Bool) → IsOrder lt → (x h : X) (r : List X) → Rises lt (h ∷ r) → (Each (lt x) (h ∷ r) → ⊥) → added lt x (h ∷ r) ≡ h ∷ added lt x r
added_later lt o x h r a n = later_step lt x h r (lt x h) refl (λ k. n (k, each_more (lt h) (lt x) (λ z j. o.follows x h z k j) r a.0))

both_kept : {X : Type 0} (p : X → Bool) (y : X) (b : Bool) (xs ys : List X) → p y ≡ true → xs ≡ ys → cond (b && p y) (y ∷ xs) xs ≡ cond b (y ∷ ys) ys
both_kept p y b xs ys h e = grind arith

pub filter_and_all : {X : Type 0} (q p : X → Bool) (xs : List X) → Each p xs → filter (λ y. q y && p y) xs ≡ filter q xs
filter_and_all q p [] e = refl
filter_and_all q p (y ∷ ys) e = both_kept p y (q y) (filter (λ z. q z && p z) ys) (filter q ys) e.0 (filter_and_all q p ys e.1)

tail_step : {X : Type 0} (lt : X → X → Bool) → IsOrder lt → (q : X → Bool) (h : X) (r : List X) (y : X) (ys : List X) (b : Bool) → q y ≡ b → Each (lt y) ys → filter q (y ∷ ys) ≡ h ∷ r → (filter q ys ≡ h ∷ r → filter (λ z. q z && lt h z) ys ≡ r) → filter (λ z. q z && lt h z) (y ∷ ys) ≡ r
tail_step {X} lt o q h r y ys true k a e f =
    let e2 : y ∷ filter q ys ≡ h ∷ r = rw k at e in
    let same : y ≡ h = cc in
    let rest : filter q ys ≡ r = cc in
    let P : X → Type 0 = λ z. filter (λ w. q w && lt z w) (y ∷ ys) ≡ r in
    subst P same (rw (k, o.strict y) (filter_and_all q (lt y) ys a ∙ rest))
tail_step lt o q h r y ys false k a e f = let e2 : filter q ys ≡ h ∷ r = rw k at e in rw k (f e2)

-- what follows the first that passes
pub filter_tail : {X : Type 0} (lt : X → X → Bool) → IsOrder lt → (q : X → Bool) (h : X) (r xs : List X) → Rises lt xs → filter q xs ≡ h ∷ r → filter (λ y. q y && lt h y) xs ≡ r
filter_tail lt o q h r [] a e = cc
filter_tail lt o q h r (y ∷ ys) a e = tail_step lt o q h r y ys (q y) refl a.0 e (λ k. filter_tail lt o q h r ys a.1 k)

head_step : {X : Type 0} (q : X → Bool) (h : X) (r : List X) (y : X) (ys : List X) (b : Bool) → q y ≡ b → filter q (y ∷ ys) ≡ h ∷ r → (filter q ys ≡ h ∷ r → q h ≡ true) → q h ≡ true
head_step q h r y ys true k e f = let e2 : y ∷ filter q ys ≡ h ∷ r = rw k at e in let same : y ≡ h = cc in rw (← same) k
head_step q h r y ys false k e f = let e2 : filter q ys ≡ h ∷ r = rw k at e in f e2

pub filter_head : {X : Type 0} (q : X → Bool) (h : X) (r xs : List X) → filter q xs ≡ h ∷ r → q h ≡ true
filter_head q h r [] e = cc
filter_head q h r (y ∷ ys) e = head_step q h r y ys (q y) refl e (λ k. filter_head q h r ys k)

-- places
subst_some : {X : Type 0} (t : X → Bool) (x p : X) → Some x ≡ Some p → t x ≡ true → t p ≡ true
subst_some t x p h e = let same : x ≡ p = cc in rw (← same) e

pub get_each : {X : Type 0} (t : X → Bool) (xs : List X) (k : ℕ) (p : X) → Each t xs → slice_get xs k ≡ Some p → t p ≡ true
get_each t [] k p e h = cc
get_each t (x ∷ xs) zero p e h = subst_some t x p h e.0
get_each t (x ∷ xs) (suc k) p e h = get_each t xs k p e.1 h

pub each_get : {X : Type 0} (t : X → Bool) (xs : List X) → ((k : ℕ) (p : X) → slice_get xs k ≡ Some p → t p ≡ true) → Each t xs
each_get t [] h = tt
each_get t (x ∷ xs) h = (h zero x refl, each_get t xs (λ k p e. h (suc k) p e))

pub get_push : {X : Type 0} (xs : List X) (x : X) (k : ℕ) (p : X) → slice_get xs k ≡ Some p → slice_get (xs ++ x ∷ []) k ≡ Some p
get_push [] x k p h = cc
get_push (y ∷ ys) x zero p h = h
get_push (y ∷ ys) x (suc k) p h = get_push ys x k p h

pub get_pushed : {X : Type 0} (xs : List X) (x : X) → slice_get (xs ++ x ∷ []) (length xs) ≡ Some x
get_pushed [] x = refl
get_pushed (y ∷ ys) x = get_pushed ys x

pub get_push_cases : {X : Type 0} (xs : List X) (x : X) (k : ℕ) (p : X) → slice_get (xs ++ x ∷ []) k ≡ Some p → (slice_get xs k ≡ Some p) ⊎ ((k ≡ length xs) × (p ≡ x))
get_push_cases [] x zero p h = inr (refl, cc)
get_push_cases [] x (suc k) p h = cc
get_push_cases (y ∷ ys) x zero p h = inl h
get_push_cases (y ∷ ys) x (suc k) p h = elim (get_push_cases ys x k p h) [ inl e ↦ inl e | inr e ↦ inr (ap suc e.0, e.1) ]

pub get_in : {X : Type 0} (xs : List X) (k : ℕ) (p : X) → slice_get xs k ≡ Some p → k < length xs
get_in [] k p h = cc
get_in (x ∷ xs) zero p h = omega arith
get_in (x ∷ xs) (suc k) p h = let r = get_in xs k p h in omega arith
