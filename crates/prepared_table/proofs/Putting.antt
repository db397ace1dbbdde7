-- A list that ascends, with one more in its place or one taken out.
use Rattle.std.proofs.Common.{◌≡◌, ℕ, suc, zero, ◌<◌, ◌≤◌, Bool, true, false, ◌||◌, List, [], ◌∷◌, ◌++◌, length, take, drop, Some, cond, refl, sym, ap, ◌∙◌, subst, arith}
use Rattle.std.specs.Prelude.{insert, remove, map, slice_get, ⊤}
use Rattle.std.specs.Cmp.{IsTotalOrder}
use Rattle.std.specs.Ordering.{nat_cmp, ordering_then, ordering_reverse}
use Rattle.std.specs.declared.cmp.Ordering.{Ordering}
use Rattle.std.specs.declared.cmp.Ordering.TheVariants.{Less, Equal, Greater}
use Rattle.std.proofs.lemmas.List.{map-append, length-map}
use Rattle.site_vector.specs.Order.{tx_cmp, tx_cmp_exact, same_tx_refl}
use Rattle.site_vector.specs.Ids.{same_tx}
use Rattle.crdt_core.specs.Orders.{Precede, Ascends, is_less, insert_by}
use Rattle.prepared_table.specs.declared.entry.Entry.{Entry}
use Rattle.prepared_table.specs.Entries.{entry_cmp, has_entry, IsTakenOut}
use Rattle.prepared_table.specs.Digest.{digest_of}
use Rattle.prepared_table.specs.Table.{IsTable}
use Rattle.prepared_table.proofs.Places.{entry_total}

-- ---- what a function gives along a list

module _ {A B : Type 0} where
  map_take : (f : A → B) (n : ℕ) (xs : List A) → map f (take n xs) ≡ take n (map f xs)
  map_take f zero xs = refl
  map_take f (suc n) [] = refl
  map_take f (suc n) (x ∷ xs) = ap (λ ys. f x ∷ ys) (map_take f n xs)

  map_drop : (f : A → B) (n : ℕ) (xs : List A) → map f (drop n xs) ≡ drop n (map f xs)
  map_drop f zero xs = refl
  map_drop f (suc n) [] = refl
  map_drop f (suc n) (x ∷ xs) = map_drop f n xs

  pub map_insert : (f : A → B) (n : ℕ) (x : A) (xs : List A) → insert (map f xs) n (f x) ≡ map f (insert xs n x)
  map_insert f n x xs = sym (map-append f (take n xs) (x ∷ drop n xs) ∙ (ap (λ l. l ++ f x ∷ map f (drop n xs)) (map_take f n xs) ∙ ap (λ l. take n (map f xs) ++ f x ∷ l) (map_drop f n xs)))

  pub map_remove : (f : A → B) (n : ℕ) (xs : List A) → remove (map f xs) n ≡ map f (remove xs n)
  map_remove f n xs = sym (map-append f (take n xs) (drop (suc n) xs) ∙ (ap (λ l. l ++ map f (drop (suc n) xs)) (map_take f n xs) ∙ ap (λ l. take n (map f xs) ++ l) (map_drop f (suc n) xs)))

-- ---- one more

flip : (r s : Ordering) → s ≡ ordering_reverse r → is_less r ≡ false → (r ≡ Equal → ⊥) → s ≡ Less
flip Less s e n q = absurd cc
flip Equal s e n q = absurd (q refl)
flip Greater s e n q = e

less_is : (r : Ordering) → is_less r ≡ true → r ≡ Less
less_is Less h = refl
less_is Equal h = absurd cc
less_is Greater h = absurd cc

module _ {A : Type 0} where
  -- none of these ties with x
  abbrev pub Untied : (A → A → Ordering) → A → List A → Type 0
  Untied cmp x [] = ⊤
  Untied cmp x (y ∷ ys) = (cmp x y ≡ Equal → ⊥) × Untied cmp x ys

  precede_trans : (cmp : A → A → Ordering) → IsTotalOrder cmp → (x y : A) (ys : List A) → cmp x y ≡ Less → Precede cmp y ys → Precede cmp x ys
  precede_trans cmp t x y [] e h = tt
  precede_trans cmp t x y (z ∷ ys) e h = (t.trans x y z e h.0, precede_trans cmp t x y ys e h.1)

  precede_put : (cmp : A → A → Ordering) (y x : A) (ys : List A) → cmp y x ≡ Less → Precede cmp y ys → Precede cmp y (insert_by cmp x ys)
  precede_put cmp y x [] e h = (e, tt)
  precede_put cmp y x (z ∷ ys) e h = by (is_less (cmp x z)) (precede_put cmp y x ys e h.1)
    where
      by : (b : Bool) → Precede cmp y (insert_by cmp x ys) → Precede cmp y (cond b (x ∷ z ∷ ys) (z ∷ insert_by cmp x ys))
      by true later = (e, h)
      by false later = (h.0, later)

  ascends_put : (cmp : A → A → Ordering) → IsTotalOrder cmp → (x : A) (xs : List A) → Ascends cmp xs → Untied cmp x xs → Ascends cmp (insert_by cmp x xs)
  ascends_put cmp t x [] a u = (tt, tt)
  ascends_put cmp t x (y ∷ xs) a u = by (is_less (cmp x y)) refl (ascends_put cmp t x xs a.1 u.1)
    where
      by : (b : Bool) → is_less (cmp x y) ≡ b → Ascends cmp (insert_by cmp x xs) → Ascends cmp (cond b (x ∷ y ∷ xs) (y ∷ insert_by cmp x xs))
      by true e later = let less : cmp x y ≡ Less = less_is (cmp x y) e in ((less, precede_trans cmp t x y xs less a.0), a)
      by false e later = (precede_put cmp y x xs (flip (cmp x y) (cmp y x) (t.antisymm y x) e u.0) a.0, later)

  precede_drop : (cmp : A → A → Ordering) (x : A) (n : ℕ) (xs : List A) → Precede cmp x xs → Precede cmp x (remove xs n)
  precede_drop cmp x zero [] h = tt
  precede_drop cmp x zero (y ∷ xs) h = h.1
  precede_drop cmp x (suc n) [] h = tt
  precede_drop cmp x (suc n) (y ∷ xs) h = (h.0, precede_drop cmp x n xs h.1)

  pub ascends_remove : (cmp : A → A → Ordering) (n : ℕ) (xs : List A) → Ascends cmp xs → Ascends cmp (remove xs n)
  ascends_remove cmp zero [] h = tt
  ascends_remove cmp zero (y ∷ xs) h = h.1
  ascends_remove cmp (suc n) [] h = tt
  ascends_remove cmp (suc n) (y ∷ xs) h = (precede_drop cmp y n xs h.0, ascends_remove cmp n xs h.1)

  split_at : (xs : List A) (i : ℕ) (x : A) → slice_get xs i ≡ Some x → xs ≡ take i xs ++ x ∷ drop (suc i) xs
  split_at [] i x e = absurd cc
  split_at (y ∷ xs) zero x e = let same : y ≡ x = cc in ap (λ z. z ∷ xs) same
  split_at (y ∷ xs) (suc i) x e = ap (λ z. y ∷ z) (split_at xs i x e)

module _ {E : Type 0} where
  untied : (x : Entry E) (xs : List (Entry E)) → has_entry xs x.tx ≡ false → Untied entry_cmp x xs
  untied x [] h = tt
  untied x (y ∷ xs) h = by (same_tx y.tx x.tx) refl (untied x xs)
    where
      last : (r s : Ordering) → ordering_then r s ≡ Equal → s ≡ Equal
      last Less s e = absurd cc
      last Equal s e = e
      last Greater s e = absurd cc

      by : (b : Bool) → same_tx y.tx x.tx ≡ b → (has_entry xs x.tx ≡ false → Untied entry_cmp x xs) → Untied entry_cmp x (y ∷ xs)
      by true e later = let v : true ≡ false = sym (ap (λ b. b || has_entry xs x.tx) e) ∙ h in absurd cc
      by false e later = (
        λ q. let one : x.tx ≡ y.tx = tx_cmp_exact x.tx y.tx (last (nat_cmp x.time y.time) (tx_cmp x.tx y.tx) q) in
            let v : true ≡ false = sym (ap (λ t. same_tx y.tx t) one ∙ same_tx_refl y.tx) ∙ e in absurd cc,
        later (sym (ap (λ b. b || has_entry xs x.tx) e) ∙ h),
      )

  pub ascends_more : (x : Entry E) (xs : List (Entry E)) → Ascends entry_cmp xs → has_entry xs x.tx ≡ false → Ascends entry_cmp (insert_by entry_cmp x xs)
  ascends_more x xs a h = ascends_put entry_cmp entry_total x xs a (untied x xs h)

  -- ---- one less

  pub taken_out : (xs ys : List (Entry E)) (i : ℕ) (x : Entry E) → slice_get xs i ≡ Some x → ys ≡ remove xs i → IsTakenOut x xs ys
  taken_out xs ys i x e f = record { front = take i xs; back = drop (suc i) xs; before = split_at xs i x e; after = f }

-- ---- entries with their digests

module _ {E : Type 0} where
  length_told : (xs : List (Entry E)) (ds : List ℕ) → ds ≡ map digest_of xs → length ds ≡ length xs
  length_told xs ds e = ap length e ∙ length-map xs digest_of

  pub place_in : (xs : List (Entry E)) (ds : List ℕ) (at : ℕ) → IsTable xs ds → at ≤ length xs → at ≤ length ds
  place_in xs ds at h l = let same = length_told xs ds h.told in omega arith

  pub below_in : (xs : List (Entry E)) (ds : List ℕ) (at : ℕ) → IsTable xs ds → at < length xs → at < length ds
  below_in xs ds at h l = let same = length_told xs ds h.told in omega arith

  pub table_put : (xs seen ys : List (Entry E)) (ds es : List ℕ) (x : Entry E) (at d : ℕ) → IsTable xs ds → has_entry xs x.tx ≡ false → seen ≡ xs → insert seen at x ≡ insert_by entry_cmp x seen → d ≡ digest_of x → ys ≡ insert xs at x → es ≡ insert ds at d → IsTable ys es
  table_put xs seen ys ds es x at d h f v q e g k = record {
    ascends =
        let p : insert xs at x ≡ insert_by entry_cmp x xs = subst (λ (zs : List (Entry E)). insert zs at x ≡ insert_by entry_cmp x zs) v q in
        subst (λ (zs : List (Entry E)). Ascends entry_cmp zs) (sym (g ∙ p)) (ascends_more x xs h.ascends f);
    told = k ∙ (ap (λ l. insert l at d) h.told ∙ (ap (insert (map digest_of xs) at) e ∙ (map_insert digest_of at x xs ∙ ap (map digest_of) (sym g))));
  }

  pub table_take : (xs ys : List (Entry E)) (ds es : List ℕ) (at : ℕ) → IsTable xs ds → ys ≡ remove xs at → es ≡ remove ds at → IsTable ys es
  table_take xs ys ds es at h g k = record {
    ascends = subst (λ (zs : List (Entry E)). Ascends entry_cmp zs) (sym g) (ascends_remove entry_cmp at xs h.ascends);
    told = k ∙ (ap (λ l. remove l at) h.told ∙ (map_remove digest_of at xs ∙ ap (map digest_of) (sym g)));
  }
