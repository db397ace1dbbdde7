-- Lists of places in the order of commit times: where one more goes, what stands up to a time, and what the model's words are in ours.
use Rattle.std.proofs.Common.{◌≡◌, ◌≢◌, ℕ, zero, suc, ◌+◌, ◌-◌, ◌<◌, ◌≤◌, Bool, true, false, not, ◌&&◌, ◌||◌, ltb, leb, List, [], ◌∷◌, ◌++◌, length, take, drop, Some, refl, sym, ap, ◌∙◌, subst, arith, ◌⊎◌, inl, inr}
use Rattle.std.specs.Prelude.{if◌then◌else◌, ◌==◌, nat_le, Result, Ok, Err, IsOk, is_ok, vec_len, vec_capacity}
use Rattle.std.specs.List.{slice_get, slice_set, filter, insert}
use Rattle.std.specs.Ordering.{nat_cmp, ordering_then}
use Rattle.std.specs.declared.cmp.Ordering.{Ordering}
use Rattle.std.specs.declared.cmp.Ordering.TheVariants.{Less, Equal, Greater}
use Rattle.std.specs.Cmp.{IsTotalOrder, nat_cmp_is}
use Rattle.std.proofs.lemmas.Cmp.{nat_cmp_total, on_total, then_total}
use Rattle.std.proofs.lemmas.Bool.{eqb-true, ne_eqb}
use Rattle.std.proofs.lemmas.Bool.Decides.{nat_tests}
use Rattle.std.proofs.lemmas.List.{append-nil, length-append, take-append-drop, length-drop}
use Rattle.site_vector.specs.Vector.{entry}
use Rattle.site_vector.specs.Order.{tx_cmp_total, tx_cmp_exact}
use Rattle.crdt_core.specs.declared.record.Part.{Part}
use Rattle.crdt_core.specs.Orders.{is_less, stream_cmp}
use Rattle.effect_store.specs.Arranged.{added, arranged, Each, Rises, IsOrder}
use Rattle.effect_store.specs.declared.commits.Commits.{Commits}
use Rattle.effect_store.specs.Listed.{AreLists, ListRoom, SameLists}
use Rattle.effect_store.specs.Applied.{AreWide}
use Rattle.effect_store.specs.Commits.{sooner, is_of, commits, at_places, AreWithin, IsList}
use Rattle.effect_store.proofs.Arranging.{arranged-push, each-added_all, get_pushed, each_more, each_within, rises-added, added_first, get_each, get_push}
use Rattle.effect_store.proofs.Chaining.{bools}
use Rattle.effect_store.proofs.Linking.{is_there}
use Rattle.effect_store.proofs.Ordering.{order_of, apart_by, then_second}
use Rattle.effect_store.proofs.Folding.{filter-append}

module _ {E : Type 0} where
  stream_total : (site : ℕ) → IsTotalOrder {K = Part E} (stream_cmp site)
  stream_total site = then_total (on_total (λ (p : Part E). entry p.c site) nat_cmp_total) (on_total (λ (p : Part E). p.tx) tx_cmp_total)

  pub sooner_order : (site : ℕ) → IsOrder {X = Part E} (sooner site)
  sooner_order site = order_of (stream_cmp site) (stream_total site)

  pub sooner_apart : (site : ℕ) (p q : Part E) → p.tx ≢ q.tx → sooner site p q || sooner site q p ≡ true
  sooner_apart site p q n = apart_by (stream_cmp site) (stream_total site) p q (λ e. n (tx_cmp_exact p.tx q.tx (then_second _ _ e)))

not_greater : (o r : Ordering) → o ≡ Greater → is_less (ordering_then o r) ≡ true → ⊥
not_greater Less r e h = cc
not_greater Equal r e h = cc
not_greater Greater r e h = cc

not_above : (a b : ℕ) → (b < a → ⊥) → a ≤ b
not_above a b h = elim (bools (leb a b)) [
  | inl y ↦ grind (arith, nat_tests)
  | inr n ↦ absurd (h (grind (arith, nat_tests)))
]

-- what comes sooner has no later time
pub time_of_sooner : (a b : ℕ) (r : Ordering) → is_less (ordering_then (nat_cmp a b) r) ≡ true → a ≤ b
time_of_sooner a b r h = not_above a b (λ v. not_greater (nat_cmp a b) r (sym (nat_cmp_is a b Greater v)) h)

-- all up to one that x doesn't come before
pub front_not : {X : Type 0} (lt : X → X → Bool) → IsOrder lt → (x : X) (l : List X) (i : ℕ) (y : X) → Rises lt l → slice_get l i ≡ Some y → lt x y ≡ false → Each (λ q. not (lt x q)) (take (suc i) l)
front_not lt o x [] i y r e h = cc
front_not lt o x (z ∷ zs) zero y r e h = let same : z ≡ y = cc in let f : lt x z ≡ false = rw same h in (grind arith, tt)
front_not lt o x (z ∷ zs) (suc i) y r e h =
    let zy : lt z y ≡ true = get_each (lt z) zs i y r.0 e in
    let n : not (lt x z) ≡ true = elim (bools (lt x z)) [
      | inl t ↦ (let v : lt x y ≡ true = o.follows x z y t zy in let w : ⊥ = cc in absurd w)
      | inr f ↦ grind arith
    ] in
    (n, front_not lt o x zs i y r.1 e h)

pub drop_get : {X : Type 0} (l : List X) (i : ℕ) (y : X) → slice_get l i ≡ Some y → drop i l ≡ y ∷ drop (suc i) l
drop_get [] i y e = cc
drop_get (z ∷ zs) zero y e = let same : z ≡ y = cc in rw same refl
drop_get (z ∷ zs) (suc i) y e = drop_get zs i y e

drop_all : {X : Type 0} (n : ℕ) (l : List X) → n ≡ length l → drop n l ≡ []
drop_all n [] e = rw e refl
drop_all zero (z ∷ zs) e = absurd (omega arith)
drop_all (suc n) (z ∷ zs) e = drop_all n zs (omega arith)

pub each_after : {X : Type 0} (t : X → Bool) (l : List X) (i : ℕ) (y : X) → slice_get l i ≡ Some y → t y ≡ true → Each t (drop (suc i) l) → Each t (drop i l)
each_after t l i y e h k = rw (drop_get l i y e) (h, k)

-- all up to one with a time of at most a bound
pub up_to : {X : Type 0} (lt : X → X → Bool) (time : X → ℕ) → ((x y : X) → lt x y ≡ true → time x ≤ time y) → (bound : ℕ) (l : List X) (i : ℕ) (y : X) → Rises lt l → slice_get l i ≡ Some y → time y ≤ bound → Each (λ q. leb (time q) bound) (take (suc i) l)
up_to lt time m bound [] i y r e h = cc
up_to lt time m bound (z ∷ zs) zero y r e h = let same : z ≡ y = cc in let k : time z ≤ bound = rw same h in (grind (arith, nat_tests), tt)
up_to lt time m bound (z ∷ zs) (suc i) y r e h = let k : time z ≤ time y = m z y (get_each (lt z) zs i y r.0 e) in (grind (arith, nat_tests), up_to lt time m bound zs i y r.1 e h)

all_later : {X : Type 0} (lt : X → X → Bool) (time : X → ℕ) → ((x y : X) → lt x y ≡ true → time x ≤ time y) → (bound : ℕ) (z : X) (l : List X) → Each (lt z) l → bound < time z → Each (λ q. ltb bound (time q)) l
all_later lt time m bound z l e h = each_more (lt z) (λ q. ltb bound (time q)) (λ q f. (let k : time z ≤ time q = m z q f in grind (arith, nat_tests))) l e

-- all from one with a time above a bound
pub from_on : {X : Type 0} (lt : X → X → Bool) (time : X → ℕ) → ((x y : X) → lt x y ≡ true → time x ≤ time y) → (bound : ℕ) (l : List X) (i : ℕ) (y : X) → Rises lt l → slice_get l i ≡ Some y → bound < time y → Each (λ q. ltb bound (time q)) (drop i l)
from_on lt time m bound [] i y r e h = cc
from_on lt time m bound (z ∷ zs) zero y r e h = let same : z ≡ y = cc in let k : bound < time z = rw same h in (grind (arith, nat_tests), all_later lt time m bound z zs r.0 k)
from_on lt time m bound (z ∷ zs) (suc i) y r e h = from_on lt time m bound zs i y r.1 e h

pub same_end : {X : Type 0} (t : X → Bool) (l : List X) (n m : ℕ) → n ≡ m → Each t (drop m l) → Each t (drop n l)
same_end t l n m e h = rw e h

module _ {E : Type 0} where
  pub at_places-length : (parts : List (Part E)) (ks : List ℕ) → AreWithin parts ks → length (at_places parts ks) ≡ length ks
  at_places-length parts [] w = refl
  at_places-length parts (k ∷ ks) w =
      let h : k < length parts = grind (arith, nat_tests) in
      let p = is_there parts k h in
      rw p.1 (ap suc (at_places-length parts ks w.1))

  pub place_within : (parts : List (Part E)) (ks : List ℕ) (i k : ℕ) → AreWithin parts ks → slice_get ks i ≡ Some k → k < length parts
  place_within parts ks i k w e = let h : ltb k (length parts) ≡ true = get_each (λ j. ltb j (length parts)) ks i k w e in grind (arith, nat_tests)

  -- what stands at a place of the list
  pub at_get : (parts : List (Part E)) (ks : List ℕ) (i k : ℕ) (p : Part E) → AreWithin parts ks → slice_get ks i ≡ Some k → slice_get parts k ≡ Some p → slice_get (at_places parts ks) i ≡ Some p
  at_get parts [] i k p w e f = cc
  at_get parts (j ∷ ks) zero k p w e f = let same : j ≡ k = cc in rw (same, f) refl
  at_get parts (j ∷ ks) (suc i) k p w e f =
      let h : j < length parts = grind (arith, nat_tests) in
      let q = is_there parts j h in
      rw q.1 (at_get parts ks i k p w.1 e f)

  pub none_behind : (parts : List (Part E)) (ks : List ℕ) (t : Part E → Bool) → AreWithin parts ks → Each t (drop (length ks) (at_places parts ks))
  none_behind parts ks t w = rw (drop_all (length ks) (at_places parts ks) (sym (at_places-length parts ks w))) tt

  pub wide_at : (parts : List (Part E)) (site k : ℕ) (p : Part E) → Each (λ q. nat_le site (length q.c)) parts → slice_get parts k ≡ Some p → site ≤ length p.c
  wide_at parts site k p w e = let h : nat_le site (length p.c) ≡ true = get_each (λ q. nat_le site (length q.c)) parts k p w e in grind (arith, nat_tests)

  -- the front of the list, where the part at its end isn't later than a new one
  pub front_of : (parts : List (Part E)) (ks : List ℕ) (at site k : ℕ) (p q : Part E) → Rises (sooner site) (at_places parts ks) → AreWithin parts ks → slice_get ks (at - 1) ≡ Some k → slice_get parts k ≡ Some q → 1 ≤ at → sooner site p q ≡ false
      → Each (λ z. not (sooner site p z)) (take at (at_places parts ks))
  front_of parts ks at site k p q r w e f n h =
      let same : suc (at - 1) ≡ at = omega arith in
      let P : ℕ → Type 0 = λ m. Each (λ z. not (sooner site p z)) (take m (at_places parts ks)) in
      subst P same (front_not (sooner site) (sooner_order site) p (at_places parts ks) (at - 1) q r (at_get parts ks (at - 1) k q w e f) h)

  -- one more part of the list is later than a new one
  pub after_of : (parts : List (Part E)) (ks : List ℕ) (at site k : ℕ) (p q : Part E) → AreWithin parts ks → slice_get ks (at - 1) ≡ Some k → slice_get parts k ≡ Some q → 1 ≤ at → sooner site p q ≡ true
      → Each (sooner site p) (drop at (at_places parts ks)) → Each (sooner site p) (drop (at - 1) (at_places parts ks))
  after_of parts ks at site k p q w e f n h r =
      let same : at ≡ suc (at - 1) = omega arith in
      let P : ℕ → Type 0 = λ m. Each (sooner site p) (drop m (at_places parts ks)) in
      each_after (sooner site p) (at_places parts ks) (at - 1) q (at_get parts ks (at - 1) k q w e f) h (subst P same r)

  -- the middle of a search by halves
  pub low_goes : (parts : List (Part E)) (ks : List ℕ) (middle site bound k : ℕ) (q : Part E) → Rises (sooner site) (at_places parts ks) → AreWithin parts ks → slice_get ks middle ≡ Some k → slice_get parts k ≡ Some q → entry q.c site ≤ bound
      → Each (λ z. leb (entry z.c site) bound) (take (middle + 1) (at_places parts ks))
  low_goes parts ks middle site bound k q r w e f h =
      let same : suc middle ≡ middle + 1 = omega arith in
      let P : ℕ → Type 0 = λ m. Each (λ z. leb (entry z.c site) bound) (take m (at_places parts ks)) in
      subst P same (up_to (sooner site) (λ z. entry z.c site) (λ x y v. time_of_sooner (entry x.c site) (entry y.c site) _ v) bound (at_places parts ks) middle q r (at_get parts ks middle k q w e f) h)

  pub high_goes : (parts : List (Part E)) (ks : List ℕ) (middle site bound k : ℕ) (q : Part E) → Rises (sooner site) (at_places parts ks) → AreWithin parts ks → slice_get ks middle ≡ Some k → slice_get parts k ≡ Some q → bound < entry q.c site
      → Each (λ z. ltb bound (entry z.c site)) (drop middle (at_places parts ks))
  high_goes parts ks middle site bound k q r w e f h = from_on (sooner site) (λ z. entry z.c site) (λ x y v. time_of_sooner (entry x.c site) (entry y.c site) _ v) bound (at_places parts ks) middle q r (at_get parts ks middle k q w e f) h

-- one more element at its place in a list
insert_added : {X : Type 0} (lt : X → X → Bool) (x : X) (l : List X) (i : ℕ) → i ≤ length l → Each (λ q. not (lt x q)) (take i l) → Each (lt x) (drop i l) → insert l i x ≡ added lt x l
insert_added lt x l zero n a b = sym (added_first lt x l b)
insert_added lt x [] (suc i) n a b = absurd (omega arith)
insert_added lt x (y ∷ ys) (suc i) n a b = let f : lt x y ≡ false = grind arith in rw f (ap (λ l. y ∷ l) (insert_added lt x ys i (omega arith) a.1 b))

filter-push : {X : Type 0} (t : X → Bool) (xs : List X) (x : X) (b : Bool) → t x ≡ b → filter t (xs ++ x ∷ []) ≡ filter t xs ++ (if b then x ∷ [] else [])
filter-push t [] x b h = rw h refl
filter-push t (y ∷ ys) x b h = elim (bools (t y)) [
  | inl e ↦ rw e (ap (λ l. y ∷ l) (filter-push t ys x b h))
  | inr e ↦ rw e (filter-push t ys x b h)
]

each_insert : (t : ℕ → Bool) (ks : List ℕ) (i k : ℕ) → Each t ks → t k ≡ true → Each t (insert ks i k)
each_insert t ks zero k w h = (h, w)
each_insert t [] (suc i) k w h = (h, tt)
each_insert t (j ∷ ks) (suc i) k w h = (w.0, each_insert t ks i k w.1 h)

each_of_places : {X : Type 0} (t : X → Bool) (xs : List X) → ((k : ℕ) (p : X) → slice_get xs k ≡ Some p → t p ≡ true) → Each t xs
each_of_places t [] h = tt
each_of_places t (x ∷ xs) h = (h zero x refl, each_of_places t xs (λ k p e. h (suc k) p e))

module _ {E : Type 0} where
  at_grown : (parts : List (Part E)) (p : Part E) (ks : List ℕ) → AreWithin parts ks → at_places (parts ++ p ∷ []) ks ≡ at_places parts ks
  at_grown parts p [] w = refl
  at_grown parts p (k ∷ ks) w =
      let h : k < length parts = grind (arith, nat_tests) in
      let q = is_there parts k h in
      let old : slice_get (parts ++ p ∷ []) k ≡ Some q.0 = get_push parts p k q.0 q.1 in
      rw (old, q.1) (ap (λ l. q.0 ∷ l) (at_grown parts p ks w.1))

  at_insert : (parts : List (Part E)) (p : Part E) (ks : List ℕ) (i place : ℕ) → AreWithin parts ks → i ≤ length ks → slice_get parts place ≡ Some p → at_places parts (insert ks i place) ≡ insert (at_places parts ks) i p
  at_insert parts p ks zero place w n e = rw e refl
  at_insert parts p [] (suc i) place w n e = absurd (omega arith)
  at_insert parts p (k ∷ ks) (suc i) place w n e =
      let h : k < length parts = grind (arith, nat_tests) in
      let q = is_there parts k h in
      rw q.1 (ap (λ l. q.0 ∷ l) (at_insert parts p ks i place w.1 (omega arith) e))

  still_within : (parts : List (Part E)) (p : Part E) (ks : List ℕ) → AreWithin parts ks → AreWithin (parts ++ p ∷ []) ks
  still_within parts p ks w = each_more (λ k. ltb k (length parts)) (λ k. ltb k (length (parts ++ p ∷ []))) (λ k h. simp length-append (grind (arith, nat_tests))) ks w

  fresh_times : (site : ℕ) (parts : List (Part E)) (p : Part E) → ((k : ℕ) (q : Part E) → slice_get parts k ≡ Some q → q.tx ≢ p.tx) → Each (λ q. sooner site p q || sooner site q p) (commits site parts)
  fresh_times site parts p f =
      let t : Part E → Bool = λ q. sooner site p q || sooner site q p in
      each-added_all (sooner site) t [] (filter (is_of site) parts) tt (each_within (is_of site) t parts (each_of_places t parts (λ k q e. sooner_apart site p q (λ h. f k q e (sym h)))))

  -- the commits of a site, and one more
  pub commits_push : (site : ℕ) (parts : List (Part E)) (p : Part E) → is_of site p ≡ true → commits site (parts ++ p ∷ []) ≡ added (sooner site) p (commits site parts)
  commits_push site parts p h = ap (arranged (sooner site)) (filter-push (is_of site) parts p true h) ∙ arranged-push (sooner site) [] (filter (is_of site) parts) p

  pub commits_other : (site : ℕ) (parts : List (Part E)) (p : Part E) → is_of site p ≡ false → commits site (parts ++ p ∷ []) ≡ commits site parts
  commits_other site parts p h = ap (arranged (sooner site)) (filter-push (is_of site) parts p false h ∙ append-nil (filter (is_of site) parts))

  -- one more part of another site
  pub list_other : (site : ℕ) (parts : List (Part E)) (p : Part E) (ks : List ℕ) → is_of site p ≡ false → IsList site parts ks → IsList site (parts ++ p ∷ []) ks
  list_other site parts p ks h s = record {
    within = still_within parts p ks s.within;
    rising = rw (at_grown parts p ks s.within) s.rising;
    listed = at_grown parts p ks s.within ∙ (s.listed ∙ sym (commits_other site parts p h));
  }

  -- one more part of the site, listed at its place
  pub list_more : (site : ℕ) (parts : List (Part E)) (p : Part E) (ks ks' l : List ℕ) (i place : ℕ) → is_of site p ≡ true → ((k : ℕ) (q : Part E) → slice_get parts k ≡ Some q → q.tx ≢ p.tx) → IsList site parts ks
      → l ≡ ks → i ≤ length l → Each (λ q. not (sooner site p q)) (take i (at_places parts l)) → Each (sooner site p) (drop i (at_places parts l))
      → ks' ≡ insert ks i place → place ≡ length parts → IsList site (parts ++ p ∷ []) ks'
  list_more site parts p ks ks' l i place h f s same n a b e at =
      let n2 : i ≤ length ks = rw same at n in
      let a2 : Each (λ q. not (sooner site p q)) (take i (at_places parts ks)) = rw same at a in
      let b2 : Each (sooner site p) (drop i (at_places parts ks)) = rw same at b in
      let wide = at_places-length parts ks s.within in
      let there : slice_get (parts ++ p ∷ []) place ≡ Some p = rw at (get_pushed parts p) in
      let big : ltb place (length (parts ++ p ∷ [])) ≡ true = simp length-append (grind (arith, nat_tests)) in
      let put : at_places (parts ++ p ∷ []) (insert ks i place) ≡ added (sooner site) p (at_places parts ks) =
      at_insert (parts ++ p ∷ []) p ks i place (still_within parts p ks s.within) n2 there
      ∙ (ap (λ m. insert m i p) (at_grown parts p ks s.within) ∙ insert_added (sooner site) p (at_places parts ks) i (omega (arith, wide)) a2 b2) in
      let P : List (Part E) → Type 0 = λ m. Each (λ q. sooner site p q || sooner site q p) m in
      let new : Each (λ q. sooner site p q || sooner site q p) (at_places parts ks) = subst P (sym s.listed) (fresh_times site parts p f) in
      rw e (record {
        within = each_insert (λ k. ltb k (length (parts ++ p ∷ []))) ks i place (still_within parts p ks s.within) big;
        rising = rw put (rises-added (sooner site) (sooner_order site) p (at_places parts ks) new s.rising);
        listed = put ∙ (ap (added (sooner site) p) s.listed ∙ sym (commits_push site parts p h));
      })

pub done_ok : {A B C : Type 0} (r : Result A B) (x y z : C) → x ≡ (if is_ok r then y else z) → IsOk r → x ≡ y
done_ok (Ok a) x y z e h = e
done_ok (Err b) x y z e h = let v : ⊥ = cc in absurd v

pub get_of_set : {X : Type 0} (l : List X) (i k : ℕ) (v x : X) → slice_get (slice_set l i v) k ≡ Some x → ((k ≡ i) × (x ≡ v)) ⊎ ((k ≢ i) × (slice_get l k ≡ Some x))
get_of_set [] i k v x e = cc
get_of_set (y ∷ ys) zero zero v x e = inl (refl, cc)
get_of_set (y ∷ ys) zero (suc k) v x e = inr (λ h. absurd (omega arith), e)
get_of_set (y ∷ ys) (suc i) zero v x e = inr (λ h. absurd (omega arith), e)
get_of_set (y ∷ ys) (suc i) (suc k) v x e = elim (get_of_set ys i k v x e) [
  | inl h ↦ inl (ap suc h.0, h.1)
  | inr h ↦ inr (λ f. h.0 (omega arith), h.1)
]

module _ {E : Type 0} where
  pub wide_up_to : (sites site : ℕ) (parts : List (Part E)) → site ≤ sites → AreWide sites parts → Each (λ p. nat_le site (length p.c)) parts
  wide_up_to sites site parts h w = each_more (λ p. length p.c == sites) (λ p. nat_le site (length p.c)) (λ p e. (let f : length p.c ≡ sites = eqb-true (length p.c) sites e in grind (arith, nat_tests))) parts w

  other_site : (site k : ℕ) (p : Part E) → k ≢ site → p.tx.site ≡ site → is_of k p ≡ false
  other_site site k p n e = ne_eqb p.tx.site k (λ h. n (sym h ∙ e))

  -- all lists, where none is of the part's site
  pub lists_none : (sites : ℕ) (parts : List (Part E)) (p : Part E) (lists : List Commits) → (p.tx.site < 1) ⊎ (sites < p.tx.site) → AreLists sites parts lists → AreLists sites (parts ++ p ∷ []) lists
  lists_none sites parts p lists out a k l n e =
      let away : k + 1 ≢ p.tx.site = λ h. elim out [ inl u ↦ (let v : ⊥ = omega arith in v) | inr u ↦ (let v : ⊥ = omega arith in v) ] in
      list_other (k + 1) parts p l.places.items (other_site p.tx.site (k + 1) p away refl) (a k l n e)

  -- all lists, where that of the part's site has one more
  pub lists_set : (sites : ℕ) (parts : List (Part E)) (p : Part E) (lists : List Commits) (i site : ℕ) (v : Commits) → p.tx.site ≡ site → i + 1 ≡ site → IsList site (parts ++ p ∷ []) v.places.items → AreLists sites parts lists → AreLists sites (parts ++ p ∷ []) (slice_set lists i v)
  lists_set sites parts p lists i site v e at new a k l n g = elim (get_of_set lists i k v l g) [
    | inl h ↦ (let same : k + 1 ≡ site = ap (λ m. m + 1) h.0 ∙ at in rw (h.1, same) new)
    | inr h ↦ (let away : k + 1 ≢ site = λ f. h.0 (omega arith) in list_other (k + 1) parts p l.places.items (other_site site (k + 1) p away e) (a k l n h.1))
  ]

pub room_set : (sites m n : ℕ) (lists : List Commits) (i : ℕ) (v w : Commits) → slice_get lists i ≡ Some w → vec_len v.places ≡ vec_len w.places + 1 → vec_capacity v.places ≡ vec_capacity w.places → i < sites → m ≡ n + 1 → ListRoom sites m lists → ListRoom sites n (slice_set lists i v)
room_set sites m n lists i v w e len capacity small at r k l h g = elim (get_of_set lists i k v l g) [
  | inl f ↦ (let old = r i w small e in rw f.1 (omega (arith, old)))
  | inr f ↦ (let old = r k l h f.1 in omega (arith, old))
]

pub as_site : {E : Type 0} (sites : ℕ) (parts : List (Part E)) (lists : List Commits) (i site : ℕ) (v : Commits) → AreLists sites parts lists → slice_get lists i ≡ Some v → i < sites → i + 1 ≡ site → IsList site parts v.places.items
as_site sites parts lists i site v a e n at = let P : ℕ → Type 0 = λ m. IsList m parts v.places.items in subst P at (a i v n e)

pub same_set : (old l : List Commits) (i : ℕ) (v w : Commits) → SameLists old l → slice_get l i ≡ Some w → v.places.items ≡ w.places.items → SameLists old (slice_set l i v)
same_set old l i v w s e h k x g = elim (get_of_set l i k v x g) [
  | inl f ↦ (let r = s i w e in (r.0, (let P : ℕ → Type 0 = λ j. slice_get old j ≡ Some r.0 in subst P (sym f.0) r.1), ap (λ (z : Commits). z.places.items) f.1 ∙ (h ∙ r.2)))
  | inr f ↦ s k x f.1
]

pub same_start : (old : List Commits) → SameLists old old
same_start old k l e = (l, e, refl)

pub room_kept : (sites m : ℕ) (l : List Commits) (i : ℕ) (v w : Commits) → slice_get l i ≡ Some w → ((n : ℕ) → vec_len w.places + n ≤ vec_capacity w.places → vec_len v.places + n ≤ vec_capacity v.places) → ListRoom sites m l → ListRoom sites m (slice_set l i v)
room_kept sites m l i v w e h r k x n g = elim (get_of_set l i k v x g) [
  | inl f ↦ (let small : i < sites = rw (← f.0) n in rw f.1 (h m (r i w small e)))
  | inr f ↦ r k x n f.1
]

pub room_next : (n : ℕ) (l : List Commits) (i : ℕ) (v w : Commits) → slice_get l i ≡ Some w → vec_len v.places + n ≤ vec_capacity v.places → ListRoom i n l → ListRoom (i + 1) n (slice_set l i v)
room_next n l i v w e h r k x m g = elim (get_of_set l i k v x g) [
  | inl f ↦ rw f.1 h
  | inr f ↦ (let away = f.0 in let small : k < i = omega (arith, away) in r k x small f.1)
]

pub room_all : (i sites n : ℕ) (l : List Commits) → sites ≤ i → ListRoom i n l → ListRoom sites n l
room_all i sites n l h r k x m g = r k x (omega arith) g

-- ---- a stretch of a list

take_most : {X : Type 0} (n : ℕ) (l : List X) → length l ≤ n → take n l ≡ l
take_most zero [] h = refl
take_most (suc n) [] h = refl
take_most zero (x ∷ xs) h = absurd (omega arith)
take_most (suc n) (x ∷ xs) h = ap (λ l. x ∷ l) (take_most n xs (omega arith))

pub tail_is : {X : Type 0} (n : ℕ) (l : List X) → take (length l - n) (drop n l) ≡ drop n l
tail_is n l = take_most (length l - n) (drop n l) (omega (arith, length-drop n l))

each_drop : {X : Type 0} (t : X → Bool) (n : ℕ) (l : List X) → Each t l → Each t (drop n l)
each_drop t zero l e = e
each_drop t (suc n) [] e = tt
each_drop t (suc n) (x ∷ xs) e = each_drop t n xs e.1

each_take : {X : Type 0} (t : X → Bool) (n : ℕ) (l : List X) → Each t l → Each t (take n l)
each_take t zero l e = tt
each_take t (suc n) [] e = tt
each_take t (suc n) (x ∷ xs) e = (e.0, each_take t n xs e.1)

rises_drop : {X : Type 0} (lt : X → X → Bool) (n : ℕ) (l : List X) → Rises lt l → Rises lt (drop n l)
rises_drop lt zero l r = r
rises_drop lt (suc n) [] r = tt
rises_drop lt (suc n) (x ∷ xs) r = rises_drop lt n xs r.1

each_both : {X : Type 0} (t u v : X → Bool) → ((x : X) → t x ≡ true → u x ≡ true → v x ≡ true) → (l : List X) → Each t l → Each u l → Each v l
each_both t u v h [] a b = tt
each_both t u v h (x ∷ xs) a b = (h x a.0 b.0, each_both t u v h xs a.1 b.1)

filter_full : {X : Type 0} (t : X → Bool) (l : List X) → Each t l → filter t l ≡ l
filter_full t [] e = refl
filter_full t (x ∷ xs) e = rw e.0 (ap (λ l. x ∷ l) (filter_full t xs e.1))

filter_empty : {X : Type 0} (t : X → Bool) (l : List X) → Each (λ x. not (t x)) l → filter t l ≡ []
filter_empty t [] e = refl
filter_empty t (x ∷ xs) e = let f : t x ≡ false = grind arith in rw f (filter_empty t xs e.1)

-- between two bounds
middle : {X : Type 0} (time : X → ℕ) (lo hi : ℕ) (l m : List X) (s n : ℕ) → m ≡ drop s l → Each (λ x. leb (time x) lo) (take s l) → Each (λ x. ltb lo (time x)) (drop s l)
    → Each (λ x. leb (time x) hi) (take n m) → Each (λ x. ltb hi (time x)) (drop n m) → take n m ≡ filter (λ x. ltb lo (time x) && leb (time x) hi) l
middle {X} time lo hi l m s n e a b c d =
    let q : X → Bool = λ x. ltb lo (time x) && leb (time x) hi in
    let front : filter q (take s l) ≡ [] = filter_empty q (take s l) (each_more (λ x. leb (time x) lo) (λ x. not (q x)) (λ x h. grind (arith, nat_tests)) (take s l) a) in
    let P : List X → Type 0 = λ z. Each (λ x. ltb lo (time x)) z in
    let b2 : Each (λ x. ltb lo (time x)) m = subst P (sym e) b in
    let inside : filter q (take n m) ≡ take n m = filter_full q (take n m) (each_both (λ x. ltb lo (time x)) (λ x. leb (time x) hi) q (λ x h k. grind arith) (take n m) (each_take (λ x. ltb lo (time x)) n m b2) c) in
    let behind : filter q (drop n m) ≡ [] = filter_empty q (drop n m) (each_more (λ x. ltb hi (time x)) (λ x. not (q x)) (λ x h. grind (arith, nat_tests)) (drop n m) d) in
    let rest : filter q m ≡ take n m = sym (ap (filter q) (take-append-drop n m)) ∙ (filter-append q (take n m) (drop n m) ∙ (ap (λ z. filter q (take n m) ++ z) behind ∙ (append-nil (filter q (take n m)) ∙ inside))) in
    sym (sym (ap (filter q) (take-append-drop s l)) ∙ (filter-append q (take s l) (drop s l) ∙ (ap (λ z. z ++ filter q (drop s l)) front ∙ (ap (filter q) (sym e) ∙ rest))))

module _ {E : Type 0} where
  at_drop : (parts : List (Part E)) (ks : List ℕ) (n : ℕ) → AreWithin parts ks → at_places parts (drop n ks) ≡ drop n (at_places parts ks)
  at_drop parts ks zero w = refl
  at_drop parts [] (suc n) w = refl
  at_drop parts (k ∷ ks) (suc n) w =
      let h : k < length parts = grind (arith, nat_tests) in
      let p = is_there parts k h in
      rw p.1 (at_drop parts ks n w.1)

  at_take : (parts : List (Part E)) (ks : List ℕ) (n : ℕ) → AreWithin parts ks → at_places parts (take n ks) ≡ take n (at_places parts ks)
  at_take parts ks zero w = refl
  at_take parts [] (suc n) w = refl
  at_take parts (k ∷ ks) (suc n) w =
      let h : k < length parts = grind (arith, nat_tests) in
      let p = is_there parts k h in
      rw p.1 (ap (λ l. p.0 ∷ l) (at_take parts ks n w.1))

  pub rest_within : (parts : List (Part E)) (ks rest : List ℕ) (n : ℕ) → rest ≡ drop n ks → AreWithin parts ks → AreWithin parts rest
  rest_within parts ks rest n e w = rw e (each_drop (λ k. ltb k (length parts)) n ks w)

  pub rest_rising : (site : ℕ) (parts : List (Part E)) (ks rest : List ℕ) (n : ℕ) → rest ≡ drop n ks → AreWithin parts ks → Rises (sooner site) (at_places parts ks) → Rises (sooner site) (at_places parts rest)
  rest_rising site parts ks rest n e w r = rw (e, at_drop parts ks n w) (rises_drop (sooner site) n (at_places parts ks) r)

  pub front_within : (parts : List (Part E)) (ks : List ℕ) (n : ℕ) → AreWithin parts ks → AreWithin parts (take n ks)
  front_within parts ks n w = each_take (λ k. ltb k (length parts)) n ks w

  pub stretch_is : (site lo hi : ℕ) (parts : List (Part E)) (ks rest : List ℕ) (s n : ℕ) → rest ≡ drop s ks → AreWithin parts ks
      → Each (λ p. leb (entry p.c site) lo) (take s (at_places parts ks)) → Each (λ p. ltb lo (entry p.c site)) (drop s (at_places parts ks))
      → Each (λ p. leb (entry p.c site) hi) (take n (at_places parts rest)) → Each (λ p. ltb hi (entry p.c site)) (drop n (at_places parts rest))
      → at_places parts (take n rest) ≡ filter (λ p. ltb lo (entry p.c site) && leb (entry p.c site) hi) (at_places parts ks)
  stretch_is site lo hi parts ks rest s n e w a b c d =
      at_take parts rest n (rest_within parts ks rest s e w) ∙ middle (λ p. entry p.c site) lo hi (at_places parts ks) (at_places parts rest) s n (ap (at_places parts) e ∙ at_drop parts ks s w) a b c d
