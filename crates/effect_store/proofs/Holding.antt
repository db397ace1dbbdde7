-- What a store holds of a transaction, and that one more part keeps it.
use Rattle.std.proofs.Common.{◌≡◌, ◌≢◌, ℕ, Bool, true, false, cond, not, ◌||◌, List, [], ◌∷◌, ◌++◌, length, Option, Some, None, refl, sym, ap, ◌∙◌, arith, inl, inr}
use Rattle.std.specs.Prelude.{if◌then◌else◌, ◌==◌, is_some, Result, Ok, Err, OnOk, IsOk}
use Rattle.std.specs.List.{slice_get}
use Rattle.std.specs.Str.{bytes_eq}
use Rattle.std.proofs.lemmas.Slice.Eq.{bytes_eq-Decides}
use Rattle.std.proofs.lemmas.Bool.{eq-eqb}
use Rattle.site_vector.specs.declared.ids.TxId.{TxId}
use Rattle.site_vector.specs.Ids.{same_tx}
use Rattle.site_vector.specs.Order.{same_tx_is, same_tx_refl}
use Rattle.crdt_core.specs.declared.record.Part.{Part}
use Rattle.crdt_core.specs.Parts.{lists, vector_in}
use Rattle.effect_store.specs.Arranged.{arranged, Each}
use Rattle.effect_store.specs.Chains.{IsApart}
use Rattle.effect_store.specs.Spots.{earlier}
use Rattle.effect_store.specs.Stores.{IsStore}
use Rattle.effect_store.proofs.Arranging.{get_push, get_pushed, get_push_cases}
use Rattle.effect_store.proofs.Chaining.{known, bools, all_of, at_of}
use Rattle.effect_store.proofs.Ordering.{parts_apart}

itself : (v : List ℕ) → bytes_eq v v ≡ true
itself v = (bytes_eq-Decides v v).1 refl

wide_more : {X : Type 0} (t : X → Bool) (xs : List X) (x : X) → Each t xs → t x ≡ true → Each t (xs ++ x ∷ [])
wide_more t [] x e h = (h, tt)
wide_more t (y ∷ ys) x e h = (e.0, wide_more t ys x e.1 h)

cond_true : {A : Type 0} (b : Bool) (x y : A) → b ≡ true → cond b x y ≡ x
cond_true b x y h = rw h refl

cond_false : {A : Type 0} (b : Bool) (x y : A) → b ≡ false → cond b x y ≡ y
cond_false b x y h = rw h refl

same_place : (a b : Option ℕ) (k j : ℕ) → a ≡ Some k → b ≡ Some j → a ≡ b → k ≡ j
same_place a b k j e f g = cc

module _ {E : Type 0} where
  vector_by : (t : TxId) (c : List ℕ) (l : List (Part E)) → Each (λ q. not (same_tx q.tx t) || bytes_eq q.c c) l → lists l t ≡ true → vector_in l t ≡ c
  vector_by t c [] e h = cc
  vector_by t c (q ∷ qs) e h = elim (bools (same_tx q.tx t)) [
    | inl y ↦ (let same : bytes_eq q.c c ≡ true = grind arith in rw y ((bytes_eq-Decides q.c c).0 same))
    | inr n ↦ (let r : lists qs t ≡ true = grind arith in rw n (vector_by t c qs e.1 r))
  ]

  none_by : (t : TxId) (l : List (Part E)) → lists l t ≡ false → Each (λ q. not (same_tx q.tx t)) l
  none_by t [] h = tt
  none_by t (q ∷ qs) h = (grind arith, none_by t qs (grind arith))

  not_listed : (t : TxId) (l : List (Part E)) → Each (λ q. not (same_tx q.tx t)) l → lists l t ≡ false
  not_listed t [] e = refl
  not_listed t (q ∷ qs) e = let f : same_tx q.tx t ≡ false = grind arith in rw f (not_listed t qs e.1)

  same_at : (a : List (Part E)) (k j : ℕ) (p q : Part E) → k ≡ j → slice_get a k ≡ Some p → slice_get a j ≡ Some q → p ≡ q
  same_at a k j p q e f g = let h : slice_get a j ≡ Some p = rw (← e) f in cc

module _ {E : Type 0} (sites : ℕ) (parts : List (Part E)) (ids : TxId → Option ℕ) (s : IsStore sites parts ids) where
  -- of two places the parts are of two transactions
  pub other_tx : (k j : ℕ) (p q : Part E) → slice_get parts k ≡ Some p → slice_get parts j ≡ Some q → k ≢ j → p.tx ≢ q.tx
  other_tx k j p q e f n h = n (same_place (ids p.tx) (ids q.tx) k j (s.held k p e) (s.held j q f) (ap ids h))

  pub apart : IsApart earlier parts
  apart k j p q e f n = parts_apart p q (other_tx k j p q e f n)

  only : (t : TxId) (k : ℕ) (p : Part E) → ids t ≡ Some k → slice_get parts k ≡ Some p → (j : ℕ) (q : Part E) → slice_get parts j ≡ Some q → not (same_tx q.tx t) || bytes_eq q.c p.c ≡ true
  only t k p e f j q g = elim (bools (same_tx q.tx t)) [
    | inr n ↦ grind arith
    | inl y ↦
        (let m : q.tx ≡ t = same_tx_is q.tx t y in
        let at : j ≡ k = same_place (ids q.tx) (ids t) j k (s.held j q g) e (ap ids m) in
        let same : q ≡ p = same_at parts j k q p at g f in
        let v : bytes_eq q.c p.c ≡ true = (bytes_eq-Decides q.c p.c).1 (ap (λ (x : Part E). x.c) same) in
        grind arith)
  ]

  held_listed : (t : TxId) (k : ℕ) (p : Part E) → ids t ≡ Some k → slice_get parts k ≡ Some p → lists (arranged earlier parts) t ≡ true
  held_listed t k p e f = elim (bools (lists (arranged earlier parts) t)) [
    | inl y ↦ y
    | inr n ↦
        (let z = s.named t k e in
        let same : z.0 ≡ p = same_at parts k k z.0 p refl z.1 f in
        let m : p.tx ≡ t = sym (ap (λ (x : Part E). x.tx) same) ∙ z.2 in
        let v : not (same_tx p.tx t) ≡ true = at_of earlier (λ q. not (same_tx q.tx t)) parts k p (none_by t (arranged earlier parts) n) f in
        let w : same_tx p.tx t ≡ true = rw m (same_tx_refl t) in
        let x : ⊥ = grind arith in absurd x)
  ]

  pub has_some : (t : TxId) (k : ℕ) (p : Part E) (view : List (Part E)) → ids t ≡ Some k → slice_get parts k ≡ Some p → arranged earlier parts ≡ view → Some p.c ≡ (if lists view t then Some (vector_in view t) else None)
  has_some t k p view e f h =
      let l : lists view t ≡ true = rw (← h) (held_listed t k p e f) in
      let v : vector_in view t ≡ p.c = rw (← h) (vector_by t p.c (arranged earlier parts) (all_of earlier (λ q. not (same_tx q.tx t) || bytes_eq q.c p.c) parts (only t k p e f)) (held_listed t k p e f)) in
      rw (l, v) refl

  absent : (t : TxId) → ids t ≡ None → (j : ℕ) (q : Part E) → slice_get parts j ≡ Some q → not (same_tx q.tx t) ≡ true
  absent t e j q g = elim (bools (same_tx q.tx t)) [
    | inr n ↦ grind arith
    | inl y ↦ (let m : ids q.tx ≡ ids t = ap ids (same_tx_is q.tx t y) in let a : ids q.tx ≡ Some j = s.held j q g in let v : ⊥ = cc in absurd v)
  ]

  pub has_none : (t : TxId) (view : List (Part E)) → ids t ≡ None → arranged earlier parts ≡ view → None ≡ (if lists view t then Some (vector_in view t) else None)
  has_none t view e h =
      let l : lists view t ≡ false = rw (← h) (not_listed t (arranged earlier parts) (all_of earlier (λ q. not (same_tx q.tx t)) parts (absent t e))) in
      rw l refl

  -- a transaction that is new
  pub fresh_id : (t : TxId) (view : List (Part E)) → arranged earlier parts ≡ view → lists view t ≡ false → ids t ≡ None
  fresh_id t view h f = elim (known (ids t)) [
    | inl z ↦ z
    | inr k ↦
        (let r = s.named t k.0 k.1 in
        let y : lists (arranged earlier parts) t ≡ true = held_listed t k.0 r.0 k.1 r.1 in
        let n : lists (arranged earlier parts) t ≡ false = rw h f in
        let v : ⊥ = cc in absurd v)
  ]

  id_here : (p : Part E) (ids' : TxId → Option ℕ) (place : ℕ) → ((q : TxId) → ids' q ≡ cond (same_tx p.tx q) (Some place) (ids q)) → ids' p.tx ≡ Some place
  id_here p ids' place u = u p.tx ∙ cond_true (same_tx p.tx p.tx) (Some place) (ids p.tx) (same_tx_refl p.tx)

  id_others : (p : Part E) (ids' : TxId → Option ℕ) (place : ℕ) → ((q : TxId) → ids' q ≡ cond (same_tx p.tx q) (Some place) (ids q)) → (t : TxId) → t ≢ p.tx → ids' t ≡ ids t
  id_others p ids' place u t n = elim (bools (same_tx p.tx t)) [
    | inl y ↦ absurd (n (sym (same_tx_is p.tx t y)))
    | inr f ↦ u t ∙ cond_false (same_tx p.tx t) (Some place) (ids t) f
  ]

  -- one more part of a new transaction
  store_more : (p : Part E) (ids' : TxId → Option ℕ) → ids p.tx ≡ None → length p.c ≡ sites
      → ids' p.tx ≡ Some (length parts) → ((t : TxId) → t ≢ p.tx → ids' t ≡ ids t) → IsStore sites (parts ++ p ∷ []) ids'
  store_more p ids' fresh width here others =
      let away : (j : ℕ) (q : Part E) → slice_get parts j ≡ Some q → q.tx ≢ p.tx = λ j q g m. (let a : ids q.tx ≡ Some j = s.held j q g in let b : ids q.tx ≡ ids p.tx = ap ids m in let v : ⊥ = cc in v) in
      record {
        held = λ k q e. elim (get_push_cases parts p k q e) [
          | inl o ↦ others q.tx (away k q o) ∙ s.held k q o
          | inr o ↦ rw (o.1, o.0) here
        ];
        named = λ t k e. elim (bools (same_tx t p.tx)) [
          | inl y ↦ (let m : t ≡ p.tx = same_tx_is t p.tx y in let at : length parts ≡ k = same_place (ids' p.tx) (ids' t) (length parts) k here e (ap ids' (sym m)) in (p, rw (← at) (get_pushed parts p), sym m))
          | inr n ↦ (let o : ids t ≡ Some k = sym (others t (λ m. (let w : same_tx t p.tx ≡ true = rw m (same_tx_refl p.tx) in let v : ⊥ = cc in v))) ∙ e in let r = s.named t k o in (r.0, get_push parts p k r.0 r.1, r.2))
        ];
        wide = wide_more (λ q. length q.c == sites) parts p s.wide (eq-eqb (length p.c) sites width);
      }

  pub store_grown : (parts' view : List (Part E)) (p : Part E) (ids' : TxId → Option ℕ) (place : ℕ) → parts' ≡ parts ++ p ∷ [] → place ≡ length parts → arranged earlier parts ≡ view → lists view p.tx ≡ false → length p.c ≡ sites
      → ((q : TxId) → ids' q ≡ cond (same_tx p.tx q) (Some place) (ids q)) → IsStore sites parts' ids'
  store_grown parts' view p ids' place e at h f w u =
      rw e (store_more p ids' (fresh_id p.tx view h f) w (id_here p ids' place u ∙ ap (λ n. Some n) at) (id_others p ids' place u))

pub when_ok : {A B : Type 0} (r : Result A B) (P : Type 0) → IsOk r → OnOk r P → P
when_ok (Ok a) P h p = p
when_ok (Err b) P h p = let v : ⊥ = cc in absurd v

-- two tables that answer the same
pub store_same : {E : Type 0} (sites : ℕ) (parts parts' : List (Part E)) (ids ids' : TxId → Option ℕ) → parts' ≡ parts → ((t : TxId) → ids' t ≡ ids t) → IsStore sites parts ids → IsStore sites parts' ids'
store_same sites parts parts' ids ids' e h s = rw e (record {
  held = λ k p g. h p.tx ∙ s.held k p g;
  named = λ t k g. s.named t k (sym (h t) ∙ g);
  wide = s.wide;
})

pub found_is : {A : Type 0} (b : Bool) (x : A) (o : Option A) → o ≡ (if b then Some x else None) → is_some o ≡ b
found_is true x o e = ap is_some e
found_is false x o e = ap is_some e
