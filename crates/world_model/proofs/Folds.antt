-- The fold order: parts in it are one list, and causes come before what they have caused.
use Rattle.std.proofs.Common.{◌≡◌, ⊎_elim, ℕ, zero, suc, ◌<◌, ◌≤◌, cond, leb, Bool, true, false, ◌&&◌, ◌||◌, List, [], ◌∷◌, ◌++◌, length, refl, sym, ap, ◌∙◌, subst, arith}
use Rattle.std.specs.Prelude.{filter, slice_index, slice_set}
use Rattle.std.specs.Cmp.{IsTotalOrder, nat_cmp_is}
use Rattle.std.specs.declared.cmp.Ordering.{Ordering}
use Rattle.std.specs.declared.cmp.Ordering.TheVariants.{Less, Equal}
use Rattle.std.specs.Ordering.{nat_cmp, ordering_then}
use Rattle.std.proofs.lemmas.Cmp.{nat_cmp_total, on_total, then_total, tied_itself}
use Rattle.std.proofs.lemmas.Bool.{cases_Bool, or_left, or_right, or_cases, and_right, and_parts, leb-true, false_from_ne_true}
use Rattle.site_vector.specs.declared.ids.TxId.{TxId}
use Rattle.site_vector.specs.Ids.{same_tx}
use Rattle.site_vector.specs.Order.{tx_cmp, tx_cmp_total, same_tx_is, same_tx_refl}
use Rattle.site_vector.specs.Vector.{le, sum}
use Rattle.site_vector.specs.VectorLaws.{sum_cons}
use Rattle.crdt_core.specs.declared.record.Upd.{Upd}
use Rattle.crdt_core.specs.declared.record.Part.{Part}
use Rattle.crdt_core.specs.Parts.{lists}
use Rattle.crdt_core.specs.Orders.{Precede, Ascends, fold_cmp}
use Rattle.crdt_core.specs.Parts.{AreParts}
use Rattle.world_model.proofs.Names.{off}

less_not_equal : Less ≡ Equal → ⊥
less_not_equal e = absurd (cc e)

pub sum_le : (u v : List ℕ) → le u v ≡ true → sum u ≤ sum v
sum_le [] v h = omega arith
sum_le (n ∷ u) [] h = off h
sum_le (n ∷ u) (m ∷ v) h =
    let a = and_parts (leb n m) (le u v) h in
    let b = leb-true n m a.0 in
    let c = sum_le u v a.1 in
    let e = sum_cons n u in
    let f = sum_cons m v in
    omega arith

pub sum_raised : (v : List ℕ) (i n : ℕ) → i < length v → slice_index v i < n → sum v < sum (slice_set v i n)
sum_raised [] i n b h = absurd (omega arith)
sum_raised (m ∷ v) zero n b h = let e = sum_cons m v in let f = sum_cons n v in omega arith
sum_raised (m ∷ v) (suc i) n b h = let c = sum_raised v i n (omega arith) h in let e = sum_cons m v in let f = sum_cons m (slice_set v i n) in omega arith

-- the order of transactions with these vectors
abbrev pub before : (TxId → List ℕ) → TxId → TxId → Ordering
before f t u = ordering_then (nat_cmp (sum (f t)) (sum (f u))) (tx_cmp t u)

pub before_total : (f : TxId → List ℕ) → IsTotalOrder (before f)
before_total f = then_total (on_total (λ (t : TxId). sum (f t)) nat_cmp_total) tx_cmp_total

pub before_self : (f : TxId → List ℕ) (t : TxId) → before f t t ≡ Less → ⊥
before_self f t h = less_not_equal (sym h ∙ tied_itself (before_total f) t)

pub before_back : (f : TxId → List ℕ) (t u : TxId) → before f t u ≡ Less → before f u t ≡ Less → ⊥
before_back f t u h k = before_self f t ((before_total f).trans t u t h k)

pub before_sum : (f : TxId → List ℕ) (t u : TxId) → sum (f t) < sum (f u) → before f t u ≡ Less
before_sum f t u h = ap (λ r. ordering_then r (tx_cmp t u)) (sym (nat_cmp_is (sum (f t)) (sum (f u)) Less h))

module _ {E : Type 0} (f : TxId → List ℕ) (g : TxId → List (Upd E)) where
  cmp_is : (x y : Part E) → x.c ≡ f x.tx → y.c ≡ f y.tx → fold_cmp x y ≡ before f x.tx y.tx
  cmp_is x y a b = λ i. ordering_then (nat_cmp (sum (a i)) (sum (b i))) (tx_cmp x.tx y.tx)

  -- who comes after a part
  pub precede_lists : (x : Part E) (ys : List (Part E)) (w : TxId) → x.c ≡ f x.tx → AreParts f g ys → Precede fold_cmp x ys → lists ys w ≡ true → before f x.tx w ≡ Less
  precede_lists x [] w a p h l = off l
  precede_lists x (y ∷ ys) w a p h l = ⊎_elim
      (λ (e : same_tx y.tx w ≡ true). subst (λ t. before f x.tx t ≡ Less) (same_tx_is y.tx w e) (sym (cmp_is x y a p.0.0) ∙ h.0))
      (λ (e : lists ys w ≡ true). precede_lists x ys w a p.1 h.1 e)
      (or_cases _ _ l)

  part_one : (x y : Part E) → x.tx ≡ y.tx → (x.c ≡ f x.tx) × (x.updates ≡ g x.tx) → (y.c ≡ f y.tx) × (y.updates ≡ g y.tx) → x ≡ y
  part_one x y e a b = λ i. record { tx = e i; c = (a.0 ∙ ap f e ∙ sym b.0) i; updates = (a.1 ∙ ap g e ∙ sym b.1) i }

  rest_lists : (x : Part E) (xs ys : List (Part E)) → AreParts f g (x ∷ xs) → Precede fold_cmp x xs → AreParts f g ys → Precede fold_cmp x ys → ((w : TxId) → (same_tx x.tx w || lists xs w) ≡ (same_tx x.tx w || lists ys w)) → (w : TxId) → lists xs w ≡ lists ys w
  rest_lists x xs ys p h q k s w = ⊎_elim
      (λ (e : same_tx x.tx w ≡ true).
      let none : (zs : List (Part E)) → AreParts f g zs → Precede fold_cmp x zs → lists zs w ≡ false = λ zs r o. false_from_ne_true _ (λ l. before_self f w (subst (λ t. before f t w ≡ Less) (same_tx_is x.tx w e) (precede_lists x zs w p.0.0 r o l))) in
      none xs p.1 h ∙ sym (none ys q k))
      (λ (e : same_tx x.tx w ≡ false). let r = s w in sym (ap (λ b. b || lists xs w) e) ∙ r ∙ ap (λ b. b || lists ys w) e)
      (cases_Bool (same_tx x.tx w))

  -- two lists of the same parts in fold order are one
  pub one_fold : (xs ys : List (Part E)) → AreParts f g xs → AreParts f g ys → Ascends fold_cmp xs → Ascends fold_cmp ys → ((w : TxId) → lists xs w ≡ lists ys w) → xs ≡ ys
  one_fold [] [] p q h k s = refl
  one_fold [] (y ∷ ys) p q h k s = off (s y.tx ∙ or_left _ _ (same_tx_refl y.tx))
  one_fold (x ∷ xs) [] p q h k s = off (sym (s x.tx) ∙ or_left _ _ (same_tx_refl x.tx))
  one_fold (x ∷ xs) (y ∷ ys) p q h k s =
      let same : x.tx ≡ y.tx = ⊎_elim
      (λ (e : same_tx y.tx x.tx ≡ true). sym (same_tx_is y.tx x.tx e))
      (λ (e : lists ys x.tx ≡ true). ⊎_elim
      (λ (d : same_tx x.tx y.tx ≡ true). same_tx_is x.tx y.tx d)
      (λ (d : lists xs y.tx ≡ true). absurd (before_back f x.tx y.tx (precede_lists x xs y.tx p.0.0 p.1 h.0 d) (precede_lists y ys x.tx q.0.0 q.1 k.0 e)))
      (or_cases _ _ (s y.tx ∙ or_left _ _ (same_tx_refl y.tx))))
      (or_cases _ _ (sym (s x.tx) ∙ or_left _ _ (same_tx_refl x.tx))) in
      let head : x ≡ y = part_one x y same p.0 q.0 in
      let k' : Precede fold_cmp x ys = subst (λ z. Precede fold_cmp z ys) (sym head) k.0 in
      let s' : (w : TxId) → (same_tx x.tx w || lists xs w) ≡ (same_tx x.tx w || lists ys w) = λ w. s w ∙ ap (λ z. same_tx z.tx w || lists ys w) (sym head) in
      let tail : xs ≡ ys = one_fold xs ys p.1 q.1 h.1 k.1 (rest_lists x xs ys p h.0 q.1 k' s') in
      λ i. head i ∷ tail i

  -- a part of a list in fold order
  pub filter_parts : (v : TxId → Bool) (xs : List (Part E)) → AreParts f g xs → AreParts f g (filter (λ x. v x.tx) xs)
  filter_parts v [] p = tt
  filter_parts v (x ∷ xs) p = let rest = filter_parts v xs p.1 in elim (v x.tx) as (λ b. AreParts f g (cond b (x ∷ filter (λ y. v y.tx) xs) (filter (λ y. v y.tx) xs))) [ true ↦ (p.0, rest) | false ↦ rest ]

module _ {E : Type 0} where
  filter_precede : (v : TxId → Bool) (x : Part E) (xs : List (Part E)) → Precede fold_cmp x xs → Precede fold_cmp x (filter (λ y. v y.tx) xs)
  filter_precede v x [] h = tt
  filter_precede v x (y ∷ ys) h = let rest = filter_precede v x ys h.1 in elim (v y.tx) as (λ b. Precede fold_cmp x (cond b (y ∷ filter (λ z. v z.tx) ys) (filter (λ z. v z.tx) ys))) [ true ↦ (h.0, rest) | false ↦ rest ]

  pub filter_ascends : (v : TxId → Bool) (xs : List (Part E)) → Ascends fold_cmp xs → Ascends fold_cmp (filter (λ x. v x.tx) xs)
  filter_ascends v [] h = tt
  filter_ascends v (x ∷ xs) h = let rest = filter_ascends v xs h.1 in elim (v x.tx) as (λ b. Ascends fold_cmp (cond b (x ∷ filter (λ y. v y.tx) xs) (filter (λ y. v y.tx) xs))) [ true ↦ (filter_precede v x xs h.0, rest) | false ↦ rest ]

  pub filter_lists : (v : TxId → Bool) (xs : List (Part E)) (w : TxId) → lists (filter (λ x. v x.tx) xs) w ≡ (lists xs w && v w)
  filter_lists v [] w = refl
  filter_lists v (x ∷ xs) w =
      let rest = filter_lists v xs w in ⊎_elim
      (λ (k : v x.tx ≡ true). ⊎_elim
      (λ (e : same_tx x.tx w ≡ true). let k' : v w ≡ true = subst (λ t. v t ≡ true) (same_tx_is x.tx w e) k in rw (k, e, k') refl)
      (λ (e : same_tx x.tx w ≡ false). rw (k, e) rest)
      (cases_Bool (same_tx x.tx w)))
      (λ (k : v x.tx ≡ false). ⊎_elim
      (λ (e : same_tx x.tx w ≡ true). let k' : v w ≡ false = subst (λ t. v t ≡ false) (same_tx_is x.tx w e) k in rw (k, e, k') (rest ∙ and_right (lists xs w) _ k'))
      (λ (e : same_tx x.tx w ≡ false). rw (k, e) rest)
      (cases_Bool (same_tx x.tx w)))
      (cases_Bool (v x.tx))

  pub lists_append : (xs ys : List (Part E)) (w : TxId) → lists (xs ++ ys) w ≡ (lists xs w || lists ys w)
  lists_append [] ys w = refl
  lists_append (x ∷ xs) ys w = ap (λ b. same_tx x.tx w || b) (lists_append xs ys w) ∙ assoc (same_tx x.tx w) (lists xs w) (lists ys w)
    where
      assoc : (a b c : Bool) → (a || (b || c)) ≡ ((a || b) || c)
      assoc true b c = refl
      assoc false b c = refl

  pub ascends_append : (xs ys : List (Part E)) → Ascends fold_cmp (xs ++ ys) → Ascends fold_cmp ys
  ascends_append [] ys h = h
  ascends_append (x ∷ xs) ys h = ascends_append xs ys h.1

  pub parts_front : (f : TxId → List ℕ) (g : TxId → List (Upd E)) (xs ys : List (Part E)) → AreParts f g (xs ++ ys) → AreParts f g xs
  parts_front f g [] ys p = tt
  parts_front f g (x ∷ xs) ys p = (p.0, parts_front f g xs ys p.1)

  pub parts_back : (f : TxId → List ℕ) (g : TxId → List (Upd E)) (xs ys : List (Part E)) → AreParts f g (xs ++ ys) → AreParts f g ys
  parts_back f g [] ys p = p
  parts_back f g (x ∷ xs) ys p = parts_back f g xs ys p.1

  precede_front : (x : Part E) (xs ys : List (Part E)) → Precede fold_cmp x (xs ++ ys) → Precede fold_cmp x xs
  precede_front x [] ys h = tt
  precede_front x (z ∷ xs) ys h = (h.0, precede_front x xs ys h.1)

  pub ascends_front : (xs ys : List (Part E)) → Ascends fold_cmp (xs ++ ys) → Ascends fold_cmp xs
  ascends_front [] ys h = tt
  ascends_front (x ∷ xs) ys h = (precede_front x xs ys h.0, ascends_front xs ys h.1)

  -- what stands before a part comes before it
  pub front_before : (f : TxId → List ℕ) (g : TxId → List (Upd E)) (xs : List (Part E)) (y : Part E) (ys : List (Part E)) (w : TxId) → AreParts f g (xs ++ y ∷ ys) → Ascends fold_cmp (xs ++ y ∷ ys) → lists xs w ≡ true → before f w y.tx ≡ Less
  front_before f g [] y ys w p h l = off l
  front_before f g (x ∷ xs) y ys w p h l = ⊎_elim
      (λ (e : same_tx x.tx w ≡ true). subst (λ t. before f t y.tx ≡ Less) (same_tx_is x.tx w e) (precede_lists f g x (xs ++ y ∷ ys) y.tx p.0.0 p.1 h.0 (lists_append xs (y ∷ ys) y.tx ∙ or_right _ _ (or_left _ _ (same_tx_refl y.tx)))))
      (λ (e : lists xs w ≡ true). front_before f g xs y ys w p.1 h.1 e)
      (or_cases _ _ l)

  -- and all that comes before it stands there
  pub before_front : (f : TxId → List ℕ) (g : TxId → List (Upd E)) (xs : List (Part E)) (y : Part E) (ys : List (Part E)) (w : TxId) → AreParts f g (xs ++ y ∷ ys) → Ascends fold_cmp (xs ++ y ∷ ys) → lists (xs ++ y ∷ ys) w ≡ true → before f w y.tx ≡ Less → lists xs w ≡ true
  before_front f g xs y ys w p h l b = ⊎_elim
      (λ (e : lists xs w ≡ true). e)
      (λ (e : (same_tx y.tx w || lists ys w) ≡ true). ⊎_elim
      (λ (d : same_tx y.tx w ≡ true). absurd (before_self f w (subst (λ t. before f w t ≡ Less) (same_tx_is y.tx w d) b)))
      (λ (d : lists ys w ≡ true). let q = parts_back f g xs (y ∷ ys) p in absurd (before_back f w y.tx b (precede_lists f g y ys w q.0.0 q.1 (ascends_append xs (y ∷ ys) h).0 d)))
      (or_cases _ _ e))
      (or_cases _ _ (sym (lists_append xs (y ∷ ys) w) ∙ l))
