-- The parts of a stretch of a site's time: the model's words are what the list of the site has.
use Rattle.std.proofs.Common.{◌≡◌, ◌≢◌, ℕ, ◌+◌, ◌≤◌, Bool, true, false, cond, ◌&&◌, ◌||◌, ltb, leb, List, [], ◌∷◌, length, Option, Some, None, refl, sym, ap, ◌∙◌, subst, max, inl, inr}
use Rattle.std.specs.Prelude.{nat_le}
use Rattle.effect_store.specs.Applied.{AreWide}
use Rattle.std.specs.List.{slice_get, filter}
use Rattle.std.specs.declared.cmp.Ordering.{Ordering}
use Rattle.site_vector.specs.declared.ids.TxId.{TxId}
use Rattle.site_vector.specs.Vector.{entry}
use Rattle.crdt_core.specs.declared.record.Part.{Part}
use Rattle.crdt_core.specs.Orders.{is_less, stream_cmp, insert_by, sorted_by}
use Rattle.crdt_core.specs.Parts.{parts_between, lists}
use Rattle.effect_store.specs.declared.commits.Commits.{Commits}
use Rattle.effect_store.specs.Arranged.{added, added_all, arranged, Each, Rises, IsOrder}
use Rattle.effect_store.specs.Spots.{earlier}
use Rattle.effect_store.specs.Stores.{IsStore}
use Rattle.effect_store.specs.Commits.{sooner, is_of, commits, at_places, AreWithin, IsList}
use Rattle.effect_store.specs.Listed.{AreLists, ListRoom, SameLists}
use Rattle.effect_store.proofs.Arranging.{each-added, each_within, rises-added, filter-added_in, filter-added_out}
use Rattle.effect_store.proofs.Chaining.{bools}
use Rattle.effect_store.proofs.Flattening.{Fresh}
use Rattle.effect_store.proofs.Ordering.{earlier_order}
use Rattle.effect_store.proofs.Spotting.{Crossed, Paired, paired_of, crossed_none, fresh_from, turned}
use Rattle.effect_store.proofs.Storing.{added-insert_by, by_max}
use Rattle.effect_store.proofs.Holding.{apart, other_tx, fresh_id}
use Rattle.effect_store.proofs.Committing.{sooner_order, sooner_apart, wide_up_to}

-- what a filter takes of a list in order is what it takes, in order
filter-added_all : {X : Type 0} (lt : X → X → Bool) → IsOrder lt → (t : X → Bool) (acc xs : List X) → Rises lt acc → Fresh lt acc xs → filter t (added_all lt acc xs) ≡ added_all lt (filter t acc) (filter t xs)
filter-added_all lt o t acc [] r f = refl
filter-added_all {X} lt o t acc (x ∷ xs) r f =
    let rest = filter-added_all lt o t (added lt x acc) xs (rises-added lt o x acc f.0 r) f.1 in
    elim (bools (t x)) [
      | inl y ↦ rw y (rest ∙ ap (λ l. added_all lt l (filter t xs)) (filter-added_in lt o t x y acc r))
      | inr n ↦ rw n (rest ∙ ap (λ l. added_all lt l (filter t xs)) (filter-added_out lt t x n acc))
    ]

filter-arranged : {X : Type 0} (lt : X → X → Bool) → IsOrder lt → (t : X → Bool) (xs : List X) → Paired lt xs → filter t (arranged lt xs) ≡ arranged lt (filter t xs)
filter-arranged lt o t xs p = filter-added_all lt o t [] xs tt (fresh_from lt [] xs (crossed_none lt xs) p)

paired_filter : {X : Type 0} (lt : X → X → Bool) (t : X → Bool) (xs : List X) → Paired lt xs → Paired lt (filter t xs)
paired_filter lt t [] p = tt
paired_filter lt t (x ∷ xs) p = elim (bools (t x)) [
  | inl y ↦ rw y (each_within t (λ z. lt x z || lt z x) xs p.0, paired_filter lt t xs p.1)
  | inr n ↦ rw n (paired_filter lt t xs p.1)
]

pub filter_twice : {X : Type 0} (p q : X → Bool) (xs : List X) → filter q (filter p xs) ≡ filter (λ x. p x && q x) xs
filter_twice p q [] = refl
filter_twice p q (x ∷ xs) = elim (bools (p x)) [
  | inr n ↦ rw n (filter_twice p q xs)
  | inl y ↦ elim (bools (q x)) [
    | inl z ↦ rw (y, z) (ap (λ l. x ∷ l) (filter_twice p q xs))
    | inr m ↦ rw (y, m) (filter_twice p q xs)
  ]
]

-- two elements go in in either order
swap_by : {X : Type 0} (lt : X → X → Bool) → IsOrder lt → (x y z : X) (zs : List X) (a b c d : Bool) → lt x z ≡ a → lt y z ≡ b → lt x y ≡ c → lt y x ≡ d → c || d ≡ true → added lt x (added lt y zs) ≡ added lt y (added lt x zs)
    → added lt x (added lt y (z ∷ zs)) ≡ added lt y (added lt x (z ∷ zs))
swap_by lt o x y z zs true true true true h k f g e i = let v : lt x x ≡ true = o.follows x y x f g in let w : lt x x ≡ false = o.strict x in cc
swap_by lt o x y z zs true true true false h k f g e i = rw (h, k, f, g) refl
swap_by lt o x y z zs true true false true h k f g e i = rw (h, k, f, g, h) refl
swap_by lt o x y z zs true true false false h k f g e i = cc
swap_by lt o x y z zs true false c true h k f g e i = let v : lt y z ≡ true = o.follows y x z g h in cc
swap_by lt o x y z zs true false c false h k f g e i = rw (h, k, h, g) refl
swap_by lt o x y z zs false true true d h k f g e i = let v : lt x z ≡ true = o.follows x y z f k in cc
swap_by lt o x y z zs false true false d h k f g e i = rw (h, k, f, h) refl
swap_by lt o x y z zs false false c d h k f g e i = rw (h, k, h) (ap (λ l. z ∷ l) i)

pair_by : {X : Type 0} (lt : X → X → Bool) → IsOrder lt → (x y : X) (c d : Bool) → lt x y ≡ c → lt y x ≡ d → c || d ≡ true → added lt x (y ∷ []) ≡ added lt y (x ∷ [])
pair_by lt o x y true true f g e = let v : lt x x ≡ true = o.follows x y x f g in let w : lt x x ≡ false = o.strict x in cc
pair_by lt o x y true false f g e = rw (f, g) refl
pair_by lt o x y false true f g e = rw (f, g) refl
pair_by lt o x y false false f g e = cc

swap : {X : Type 0} (lt : X → X → Bool) → IsOrder lt → (x y : X) (zs : List X) → lt x y || lt y x ≡ true → added lt x (added lt y zs) ≡ added lt y (added lt x zs)
swap lt o x y [] e = pair_by lt o x y (lt x y) (lt y x) refl refl e
swap lt o x y (z ∷ zs) e = swap_by lt o x y z zs (lt x z) (lt y z) (lt x y) (lt y x) refl refl refl refl e (swap lt o x y zs e)

module _ {X : Type 0} (lt : X → X → Bool) (cmp : X → X → Ordering) (o : IsOrder (λ a b. is_less (cmp a b))) where
  abbrev under : X → X → Bool
  under a b = is_less (cmp a b)

  front_by : (x y : X) (ys : List X) (b : Bool) → under x y || under y x ≡ true → lt x y ≡ b → sorted_by cmp (added lt x ys) ≡ added under x (sorted_by cmp ys)
      → sorted_by cmp (cond b (x ∷ (y ∷ ys)) (y ∷ added lt x ys)) ≡ added under x (sorted_by cmp (y ∷ ys))
  front_by x y ys true e h i = sym (added-insert_by cmp x (insert_by cmp y (sorted_by cmp ys)))
  front_by x y ys false e h i =
      sym (added-insert_by cmp y (sorted_by cmp (added lt x ys))) ∙ (ap (added under y) i ∙ (sym (swap under o x y (sorted_by cmp ys) e) ∙ ap (added under x) (added-insert_by cmp y (sorted_by cmp ys))))

  sorted-added : (x : X) (ys : List X) → Each (λ q. under x q || under q x) ys → sorted_by cmp (added lt x ys) ≡ added under x (sorted_by cmp ys)
  sorted-added x [] e = refl
  sorted-added x (y ∷ ys) e = front_by x y ys (lt x y) e.0 refl (sorted-added x ys e.1)

  crossed_by : (x : X) (acc xs : List X) → Crossed under acc xs → Each (λ y. under x y || under y x) xs → Crossed under (added lt x acc) xs
  crossed_by x acc [] c e = tt
  crossed_by x acc (y ∷ ys) c e = (each-added lt (λ q. under y q || under q y) x (turned (under x y) (under y x) e.0) acc c.0, crossed_by x acc ys c.1 e.1)

  sorted-added_all : (acc xs : List X) → Crossed under acc xs → Paired under xs → sorted_by cmp (added_all lt acc xs) ≡ added_all under (sorted_by cmp acc) xs
  sorted-added_all acc [] c p = refl
  sorted-added_all acc (x ∷ xs) c p = sorted-added_all (added lt x acc) xs (crossed_by x acc xs c.1 p.0) p.1 ∙ ap (λ l. added_all under l xs) (sorted-added x acc c.0)

  -- a list in one order, sorted by another
  sorted-arranged : (xs : List X) → Paired under xs → sorted_by cmp (arranged lt xs) ≡ arranged under xs
  sorted-arranged xs p = sorted-added_all [] xs (crossed_none under xs) p

module _ {E : Type 0} (sites : ℕ) (parts : List (Part E)) (ids : TxId → Option ℕ) (s : IsStore sites parts ids) where
  pub paired_sooner : (site : ℕ) → Paired (sooner site) parts
  paired_sooner site = paired_of (sooner site) parts (λ k j p q e f n. sooner_apart site p q (other_tx sites parts ids s k j p q e f n))

  pub between_is : (site lo hi : ℕ) (view : List (Part E)) → arranged earlier parts ≡ view → filter (λ p. ltb lo (entry p.c site) && leb (entry p.c site) hi) (commits site parts) ≡ sorted_by (stream_cmp site) (parts_between site lo hi view)
  between_is site lo hi view e =
      let q : Part E → Bool = λ p. ltb lo (entry p.c site) && leb (entry p.c site) hi in
      let t : Part E → Bool = λ p. is_of site p && q p in
      let left : filter q (commits site parts) ≡ arranged (sooner site) (filter t parts) =
      filter-arranged (sooner site) (sooner_order site) q (filter (is_of site) parts) (paired_filter (sooner site) (is_of site) parts (paired_sooner site))
      ∙ ap (arranged (sooner site)) (filter_twice (is_of site) q parts) in
      let right : sorted_by (stream_cmp site) (filter t (arranged earlier parts)) ≡ arranged (sooner site) (filter t parts) =
      ap (sorted_by (stream_cmp site)) (filter-arranged earlier earlier_order t parts (paired_of earlier parts (apart sites parts ids s)))
      ∙ sorted-arranged earlier (stream_cmp site) (sooner_order site) (filter t parts) (paired_filter (sooner site) t parts (paired_sooner site)) in
      rw (← e) (left ∙ sym right)

  pub stretch_between : (site lo hi : ℕ) (view l : List (Part E)) (ks m : List ℕ) → arranged earlier parts ≡ view → IsList site parts ks → l ≡ parts → m ≡ ks → filter (λ p. ltb lo (entry p.c site) && leb (entry p.c site) hi) (at_places l m) ≡ sorted_by (stream_cmp site) (parts_between site lo hi view)
  stretch_between site lo hi view l ks m e i f g = rw (f, g, i.listed) (between_is site lo hi view e)

  -- a new transaction is that of no part
  pub new_tx : (t : TxId) (view l : List (Part E)) → arranged earlier parts ≡ view → lists view t ≡ false → l ≡ parts → (k : ℕ) (q : Part E) → slice_get l k ≡ Some q → q.tx ≢ t
  new_tx t view l e h f k q g m =
      let a : ids q.tx ≡ Some k = s.held k q (rw (← f) g) in
      let b : ids t ≡ None = fresh_id sites parts ids s t view e h in
      let c : ids q.tx ≡ ids t = ap ids m in
      let v : ⊥ = cc in v

module _ {E : Type 0} where
  pub lists_in : (sites : ℕ) (parts l : List (Part E)) (lists : List Commits) → AreLists sites parts lists → l ≡ parts → AreLists sites l lists
  lists_in sites parts l lists a e = rw e a

  pub lists_same : (sites : ℕ) (parts parts' : List (Part E)) (lists lists' : List Commits) → AreLists sites parts lists → parts' ≡ parts → SameLists lists lists' → AreLists sites parts' lists'
  lists_same sites parts parts' lists lists' a e h k l n g =
      let r = h k l g in
      let P : List ℕ → Type 0 = λ ks. IsList (k + 1) parts ks in
      rw e (subst P (sym r.2) (a k r.0 n r.1))

pub room_is : (sites n m : ℕ) (lists : List Commits) → m ≡ n → ListRoom sites n lists → ListRoom sites m lists
room_is sites n m lists e r = rw e r

pub list_room_max : (sites a b r : ℕ) (lists : List Commits) → r ≡ max a b → ListRoom sites a lists → ListRoom sites b lists → ListRoom sites r lists
list_room_max sites a b r lists e h k = by_max (λ n. ListRoom sites n lists) a b r e h k

module _ {E : Type 0} where
  pub within_in : (site : ℕ) (parts l : List (Part E)) (ks m : List ℕ) → IsList site parts ks → l ≡ parts → m ≡ ks → AreWithin l m
  within_in site parts l ks m i e f = rw (e, f) i.within

  pub rising_in : (site : ℕ) (parts l : List (Part E)) (ks m : List ℕ) → IsList site parts ks → l ≡ parts → m ≡ ks → Rises (sooner site) (at_places l m)
  rising_in site parts l ks m i e f = rw (e, f) i.rising

  pub wide_in : (sites site : ℕ) (parts l : List (Part E)) → site ≤ sites → AreWide sites parts → l ≡ parts → Each (λ p. nat_le site (length p.c)) l
  wide_in sites site parts l h w e = rw e (wide_up_to sites site parts h w)
