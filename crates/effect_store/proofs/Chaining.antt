-- Chains: what one more element changes.
use Rattle.std.proofs.Common.{◌≡◌, ◌≢◌, ℕ, zero, suc, ◌<◌, ◌≤◌, Bool, true, false, not, ◌||◌, eqb, List, [], ◌∷◌, ◌++◌, length, get_or, Option, Some, None, refl, sym, ap, ◌∙◌, arith, ◌⊎◌, inl, inr}
use Rattle.std.specs.List.{filter, slice_get}
use Rattle.std.proofs.lemmas.Bool.{eqb-true, eq-eqb, eqb-false}
use Rattle.std.proofs.lemmas.Bool.Decides.{eqb_tells}
use Rattle.effect_store.specs.Arranged.{added, arranged, Each, Rises, IsOrder}
use Rattle.effect_store.specs.Chains.{none, Points, after, has_tag, IsChain}
use Rattle.effect_store.proofs.Arranging.{arranged-push, each-added_all, each_of_added_all, rises-added, each-filter, each_of_filter, rises-filter, added_first, added_later, filter-added_out, filter-added_in, get_each, each_get, get_push, get_pushed, get_push_cases, get_in}

-- a is the place of the last that x comes after, if any
pub record IsNear {X : Type 0} (tag : X → ℕ) (lt : X → X → Bool) (xs : List X) (x : X) (a : ℕ) : Type 0 where
  pub none_ahead : slice_get xs a ≡ None → (k : ℕ) (p : X) → slice_get xs k ≡ Some p → after tag lt p x ≡ false
  pub is_ahead : (q : X) → slice_get xs a ≡ Some q → after tag lt q x ≡ true
  pub nearest : (q : X) (k : ℕ) (p : X) → slice_get xs a ≡ Some q → slice_get xs k ≡ Some p → k ≢ a → after tag lt p x ≡ true → lt p q ≡ true

pub dec : (k a : ℕ) → (k ≡ a) ⊎ (k ≢ a)
dec k a = elim (eqb_tells k a) [ inl e ↦ inl e.1 | inr e ↦ inr e.1 ]

pub known : {X : Type 0} (o : Option X) → (o ≡ None) ⊎ ((x : X) × (o ≡ Some x))
known None = inl refl
known (Some x) = inr (x, refl)

pub bools : (b : Bool) → (b ≡ true) ⊎ (b ≡ false)
bools true = inl refl
bools false = inr refl

pub points_push : {X : Type 0} (xs : List X) (x : X) (k : ℕ) (l : List X) → Points xs k l → Points (xs ++ x ∷ []) k l
points_push xs x k [] h = h
points_push xs x k (p ∷ ps) h = get_push xs x k p h

pub points_later : {X : Type 0} (lt : X → X → Bool) → IsOrder lt → (xs : List X) (x : X) (k : ℕ) (l : List X) → Rises lt l → (Each (lt x) l → ⊥) → Points xs k l → Points xs k (added lt x l)
points_later lt o xs x k [] a n h = absurd (n tt)
points_later lt o xs x k (p ∷ ps) a n h = rw (added_later lt o x p ps a n) h

pub all_of : {X : Type 0} (lt : X → X → Bool) (t : X → Bool) (xs : List X) → ((k : ℕ) (p : X) → slice_get xs k ≡ Some p → t p ≡ true) → Each t (arranged lt xs)
all_of lt t xs h = each-added_all lt t [] xs tt (each_get t xs h)

pub at_of : {X : Type 0} (lt : X → X → Bool) (t : X → Bool) (xs : List X) (k : ℕ) (p : X) → Each t (arranged lt xs) → slice_get xs k ≡ Some p → t p ≡ true
at_of lt t xs k p e h = get_each t xs k p (each_of_added_all lt t [] xs e).1 h

-- not all of those that pass come after x
pub not_all : {X : Type 0} (lt : X → X → Bool) → IsOrder lt → (q : X → Bool) (xs : List X) (x : X) (a : ℕ) (y : X) → slice_get xs a ≡ Some y → q y ≡ true → lt y x ≡ true → Each (lt x) (filter q (arranged lt xs)) → ⊥
not_all lt o q xs x a y at passes ahead e =
    let t : not (q y) || lt x y ≡ true = at_of lt (λ z. not (q z) || lt x z) xs a y (each_of_filter q (lt x) (arranged lt xs) e) at in
    let u : lt x y ≡ true = grind arith in
    let v : lt x x ≡ true = o.follows x y x u ahead in
    let w : lt x x ≡ false = o.strict x in
    cc

-- the same tag
pub tags : (a b c : ℕ) → eqb a b ≡ true → eqb a c ≡ true → eqb b c ≡ true
tags a b c h k = eq-eqb b c (sym (eqb-true a b h) ∙ eqb-true a c k)

pub tags_back : (a b c : ℕ) → eqb a c ≡ true → eqb b c ≡ true → eqb a b ≡ true
tags_back a b c h k = eq-eqb a b (eqb-true a c h ∙ sym (eqb-true b c k))

-- after the element at a comes x, and nothing between
pub late_here : {X : Type 0} (tag : X → ℕ) (lt : X → X → Bool) → IsOrder lt → (xs : List X) (x p : X) (a : ℕ) → IsNear tag lt xs x a → slice_get xs a ≡ Some p → after tag lt p x ≡ true
    → (j : ℕ) (y : X) → slice_get xs j ≡ Some y → lt x y || lt y x ≡ true → not (after tag lt p y) || lt x y ≡ true
late_here tag lt o xs x p a n at ap j y e c =
    elim (bools (after tag lt p y)) [
      | inr f ↦ grind arith
      | inl t ↦ elim (bools (lt x y)) [
        | inl u ↦ grind arith
        | inr u ↦
            let v : lt y x ≡ true = grind arith in
            let tp : eqb (tag p) (tag y) ≡ true = grind arith in
            let tx : eqb (tag p) (tag x) ≡ true = grind arith in
            let py : lt p y ≡ true = grind arith in
            let ty : eqb (tag y) (tag x) ≡ true = tags (tag p) (tag y) (tag x) tp tx in
            let w : after tag lt y x ≡ true = grind arith in
            let s : lt p p ≡ false = o.strict p in
            elim (dec j a) [
              | inl m ↦ (let z : slice_get xs a ≡ Some y = rw (← m) e in let g : y ≡ p = cc in let r : lt p p ≡ true = rw g at py in cc)
              | inr m ↦ (let r : lt p p ≡ true = o.follows p y p py (n.nearest p j y at e m w) in cc)
            ]
      ]
    ]

linked_old : {X : Type 0} (tag : X → ℕ) (lt : X → X → Bool) → IsOrder lt → (xs : List X) (links : List ℕ) (heads : ℕ → ℕ) (x : X) (a : ℕ) (links' : List ℕ)
    → IsChain tag lt xs links heads → IsNear tag lt xs x a
    → ((k : ℕ) (p : X) → slice_get xs k ≡ Some p → lt x p || lt p x ≡ true)
    → ((k : ℕ) → k < length xs → k ≢ a → get_or links' k none ≡ get_or links k none)
    → (a < length xs → get_or links' a none ≡ length xs)
    → (k : ℕ) (p : X) → slice_get xs k ≡ Some p → Points (xs ++ x ∷ []) (get_or links' k none) (filter (after tag lt p) (added lt x (arranged lt xs)))
linked_old {X} tag lt o xs links heads x a links' s n apart others here k p e =
    let l : List X = arranged lt xs in
    let old : Points xs (get_or links k none) (filter (after tag lt p) l) = s.linked k p e in
    let small : k < length xs = get_in xs k p e in
    elim (bools (after tag lt p x)) [
      | inr f ↦
          (let away : k ≢ a = λ m. (let z : slice_get xs a ≡ Some p = rw (← m) e in let r : after tag lt p x ≡ true = n.is_ahead p z in let w : ⊥ = cc in w) in
          rw (filter-added_out lt (after tag lt p) x f l, others k small away) (points_push xs x (get_or links k none) (filter (after tag lt p) l) old))
      | inl t ↦ rw (filter-added_in lt o (after tag lt p) x t l s.ordered) (elim (dec k a) [
        | inl m ↦
            (let z : slice_get xs a ≡ Some p = rw (← m) e in
            let all : Each (lt x) (filter (after tag lt p) l) = each-filter (after tag lt p) (lt x) l (all_of lt (λ y. not (after tag lt p y) || lt x y) xs (λ j y g. late_here tag lt o xs x p a n z t j y g (apart j y g))) in
            let there : get_or links' k none ≡ length xs = rw m (here (rw (← m) small)) in
            rw (added_first lt x (filter (after tag lt p) l) all, there) (get_pushed xs x))
        | inr m ↦ elim (known (slice_get xs a)) [
          | inl z ↦ (let r : after tag lt p x ≡ false = n.none_ahead z k p e in let w : ⊥ = cc in absurd w)
          | inr y ↦
              (let q : X = y.0 in
              let qx : after tag lt q x ≡ true = n.is_ahead q y.1 in
              let lq : lt q x ≡ true = grind arith in
              let pq : lt p q ≡ true = n.nearest q k p y.1 e m t in
              let tq : eqb (tag p) (tag q) ≡ true = tags_back (tag p) (tag q) (tag x) (grind arith) (grind arith) in
              let qa : after tag lt p q ≡ true = grind arith in
              rw (others k small m) (points_push xs x (get_or links k none) (added lt x (filter (after tag lt p) l)) (points_later lt o xs x (get_or links k none) (filter (after tag lt p) l) (rises-filter lt (after tag lt p) l s.ordered) (not_all lt o (after tag lt p) xs x a q y.1 qa lq) old)))
        ]
      ])
    ]

pub past : {X : Type 0} (xs : List X) (a : ℕ) → slice_get xs a ≡ None → length xs ≤ a
past [] a h = omega arith
past (x ∷ xs) zero h = cc
past (x ∷ xs) (suc a) h = let r = past xs a h in omega arith

pub first_here : {X : Type 0} (tag : X → ℕ) (lt : X → X → Bool) (xs : List X) (i : ℕ) (x y : X) → i ≡ tag x → after tag lt y x ≡ false → lt x y || lt y x ≡ true → not (has_tag tag i y) || lt x y ≡ true
first_here tag lt xs i x y m f c =
    elim (bools (has_tag tag i y)) [
      | inr g ↦ grind arith
      | inl t ↦
          (let e : eqb (tag y) (tag x) ≡ true = eq-eqb (tag y) (tag x) (sym (eqb-true i (tag y) t) ∙ m) in
          grind arith)
    ]

headed_new : {X : Type 0} (tag : X → ℕ) (lt : X → X → Bool) → IsOrder lt → (xs : List X) (links : List ℕ) (heads heads' : ℕ → ℕ) (x : X) (a : ℕ)
    → IsChain tag lt xs links heads → IsNear tag lt xs x a
    → ((k : ℕ) (p : X) → slice_get xs k ≡ Some p → lt x p || lt p x ≡ true)
    → ((i : ℕ) → i ≢ tag x → heads' i ≡ heads i) → (a < length xs → heads' (tag x) ≡ heads (tag x)) → (length xs ≤ a → heads' (tag x) ≡ length xs)
    → (i : ℕ) → Points (xs ++ x ∷ []) (heads' i) (filter (has_tag tag i) (added lt x (arranged lt xs)))
headed_new {X} tag lt o xs links heads heads' x a s n apart others kept here i =
    let l : List X = arranged lt xs in
    let old : Points xs (heads i) (filter (has_tag tag i) l) = s.headed i in
    elim (bools (has_tag tag i x)) [
      | inr f ↦
          (let away : i ≢ tag x = eqb-false i (tag x) f in
          rw (filter-added_out lt (has_tag tag i) x f l, others i away) (points_push xs x (heads i) (filter (has_tag tag i) l) old))
      | inl t ↦
          (let m : i ≡ tag x = eqb-true i (tag x) t in
          rw (filter-added_in lt o (has_tag tag i) x t l s.ordered) (elim (known (slice_get xs a)) [
            | inl z ↦
                (let all : Each (lt x) (filter (has_tag tag i) l) = each-filter (has_tag tag i) (lt x) l (all_of lt (λ y. not (has_tag tag i y) || lt x y) xs (λ j y g. first_here tag lt xs i x y m (n.none_ahead z j y g) (apart j y g))) in
                let there : heads' i ≡ length xs = rw m (here (past xs a z)) in
                rw (added_first lt x (filter (has_tag tag i) l) all, there) (get_pushed xs x))
            | inr y ↦
                (let q : X = y.0 in
                let qx : after tag lt q x ≡ true = n.is_ahead q y.1 in
                let lq : lt q x ≡ true = grind arith in
                let tq : eqb (tag q) (tag x) ≡ true = grind arith in
                let qa : has_tag tag i q ≡ true = eq-eqb i (tag q) (m ∙ sym (eqb-true (tag q) (tag x) tq)) in
                let there : heads' i ≡ heads i = rw m (kept (get_in xs a q y.1)) in
                rw there (points_push xs x (heads i) (added lt x (filter (has_tag tag i) l)) (points_later lt o xs x (heads i) (filter (has_tag tag i) l) (rises-filter lt (has_tag tag i) l s.ordered) (not_all lt o (has_tag tag i) xs x a q y.1 qa lq) old)))
          ]))
    ]

-- what a side is after x was pushed, and the place before it or the head told of it
pub chain_grows : {X : Type 0} (tag : X → ℕ) (lt : X → X → Bool) → IsOrder lt → (xs : List X) (links links' : List ℕ) (heads heads' : ℕ → ℕ) (x : X) (a c : ℕ)
    → IsChain tag lt xs links heads → IsNear tag lt xs x a
    → ((k : ℕ) (p : X) → slice_get xs k ≡ Some p → lt x p || lt p x ≡ true)
    → Points xs c (filter (after tag lt x) (arranged lt xs))
    → get_or links' (length xs) none ≡ c
    → ((k : ℕ) → k < length xs → k ≢ a → get_or links' k none ≡ get_or links k none)
    → (a < length xs → get_or links' a none ≡ length xs)
    → ((i : ℕ) → i ≢ tag x → heads' i ≡ heads i) → (a < length xs → heads' (tag x) ≡ heads (tag x)) → (length xs ≤ a → heads' (tag x) ≡ length xs)
    → IsChain tag lt (xs ++ x ∷ []) links' heads'
chain_grows {X} tag lt o xs links links' heads heads' x a c s n apart succ last others here hothers hkept hhere =
    let grown : arranged lt (xs ++ x ∷ []) ≡ added lt x (arranged lt xs) = arranged-push lt [] xs x in
    record {
      ordered = rw grown (rises-added lt o x (arranged lt xs) (all_of lt (λ y. lt x y || lt y x) xs apart) s.ordered);
      linked = λ k p e. rw grown (elim (get_push_cases xs x k p e) [
        | inl g ↦ linked_old tag lt o xs links heads x a links' s n apart others here k p g
        | inr g ↦
            (let f : after tag lt x x ≡ false = (let z : lt x x ≡ false = o.strict x in grind arith) in
            let moved : Points (xs ++ x ∷ []) (get_or links' (length xs) none) (filter (after tag lt x) (added lt x (arranged lt xs))) = rw (filter-added_out lt (after tag lt x) x f (arranged lt xs), last) (points_push xs x c (filter (after tag lt x) (arranged lt xs)) succ) in
            rw (g.0, g.1) moved)
      ]);
      headed = λ i. rw grown (headed_new tag lt o xs links heads heads' x a s n apart hothers hkept hhere i);
    }
