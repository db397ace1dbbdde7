-- Lists of transactions each once, and lists with the same members.
use Rattle.std.proofs.Common.{◌≡◌, ⊎_elim, ℕ, ◌+◌, max, min, cond, Bool, true, false, ◌&&◌, ◌||◌, List, [], ◌∷◌, ◌++◌, length, None, Some, refl, sym, ap, ◌∙◌, subst, arith}
use Rattle.std.specs.Prelude.{⊤, filter, map}
use Rattle.std.specs.List.{list_any, flat_map}
use Rattle.std.proofs.lemmas.List.{length-append}
use Rattle.std.proofs.lemmas.Bool.{cases_Bool, or_left, or_right, or_cases, or_parts, or_from, and_right, and_parts, cond-true, cond-false, false_from_ne_true}
use Rattle.site_vector.specs.declared.ids.TxId.{TxId}
use Rattle.site_vector.specs.Ids.{same_tx}
use Rattle.site_vector.specs.Order.{same_tx_is, same_tx_refl}
use Rattle.crdt_core.specs.declared.kind.Kind.{Kind}
use Rattle.crdt_core.specs.declared.kind.Kind.TheVariants.{CounterPn, SetGo, RegisterLww}
use Rattle.crdt_core.specs.declared.object.Field.{Field}
use Rattle.crdt_core.specs.declared.operation.Act.{Act}
use Rattle.crdt_core.specs.Fits.{leads_to, fits}
use Rattle.crdt_core.specs.Kinds.{same_kind, same_path, kind_at, reads_state}
use Rattle.crdt_core.specs.Seen.{Update, sees, is_assign}
use Rattle.crdt_core.specs.Stamps.{last_stamp, one_more, above_all, assigns_seen, stamp_due}
use Rattle.crdt_core.specs.Same.{Same}
use Rattle.crdt_core.proofs.Confluence.{filter_same}
use Rattle.world_model.proofs.Names.{clash, off}

above_middle : (now : ℕ) (front : List Update) (u : Update) (back : List Update) → above_all now (front ++ u ∷ back) ≡ max (one_more u.stamp) (above_all now (front ++ back))
above_middle now [] u back = refl
above_middle now (v ∷ front) u back = let h = above_middle now front u back in omega arith

above_same : (now : ℕ) (us vs : List Update) → Same us vs → above_all now us ≡ above_all now vs
above_same now [] vs s = ap (above_all now) (sym s)
above_same now (u ∷ us) vs s = ap (max (one_more u.stamp)) (above_same now us (s.0 ++ s.1) s.3) ∙ sym (above_middle now s.0 u s.1) ∙ ap (above_all now) (sym s.2)

-- a stamp depends on no order
pub stamp_same : (k : Kind) (us vs : List Update) (u : Update) → Same us vs → stamp_due k us u ≡ stamp_due k vs u
stamp_same k us vs u s = ap (λ n. cond (is_assign u.act && same_kind (kind_at k u.path) RegisterLww) (Some (min last_stamp n)) None) (above_same u.now (assigns_seen u us) (assigns_seen u vs) (filter_same (λ v. sees u v.dot && (is_assign v.act && same_path v.path u.path)) us vs s))

-- a kind that reads no state holds no register
no_register : (k : Kind) (p : List Field) (a : Act) → reads_state k ≡ false → leads_to k p a ≡ true → same_kind (kind_at k p) RegisterLww ≡ false
no_register CounterPn [] a r h = refl
no_register CounterPn (f ∷ p) a r h = off h
no_register SetGo [] a r h = refl
no_register SetGo (f ∷ p) a r h = off h
no_register k p a r h = off (sym r)

-- so its updates have no stamp
pub none_due : (k : Kind) (us : List Update) (u : Update) → reads_state k ≡ false → fits k u.path u.act ≡ true → stamp_due k us u ≡ None
none_due k us u r h = cond-false _ (Some (min last_stamp (above_all u.now (assigns_seen u us)))) None (and_right (is_assign u.act) _ (no_register k u.path u.act r (and_parts _ (leads_to k u.path u.act) h).1))

abbrev pub is_in : List TxId → TxId → Bool
is_in ts t = list_any (λ u. same_tx u t) ts

abbrev pub IsOnce : List TxId → Type 0
IsOnce [] = ⊤
IsOnce (t ∷ ts) = (is_in ts t ≡ false) × IsOnce ts

pub in_filter : (v : TxId → Bool) (ts : List TxId) (t : TxId) → is_in (filter v ts) t ≡ (is_in ts t && v t)
in_filter v [] t = refl
in_filter v (u ∷ ts) t =
    let rest = in_filter v ts t in ⊎_elim
    (λ (k : v u ≡ true). ⊎_elim
    (λ (e : same_tx u t ≡ true). let k' : v t ≡ true = subst (λ x. v x ≡ true) (same_tx_is u t e) k in rw (k, e, k') refl)
    (λ (e : same_tx u t ≡ false). rw (k, e) rest)
    (cases_Bool (same_tx u t)))
    (λ (k : v u ≡ false). ⊎_elim
    (λ (e : same_tx u t ≡ true). let k' : v t ≡ false = subst (λ x. v x ≡ false) (same_tx_is u t e) k in rw (k, e, k') (rest ∙ and_right (is_in ts t) _ k'))
    (λ (e : same_tx u t ≡ false). rw (k, e) rest)
    (cases_Bool (same_tx u t)))
    (cases_Bool (v u))

pub once_filter : (v : TxId → Bool) (ts : List TxId) → IsOnce ts → IsOnce (filter v ts)
once_filter v [] h = tt
once_filter v (t ∷ ts) h =
    let rest = once_filter v ts h.1 in
    let out : is_in (filter v ts) t ≡ false = in_filter v ts t ∙ ap (λ b. b && v t) h.0 in
    elim (v t) as (λ b. IsOnce (cond b (t ∷ filter v ts) (filter v ts))) [ true ↦ (out, rest) | false ↦ rest ]

-- a test that one more passes
abbrev pub with_one : (TxId → Bool) → TxId → TxId → Bool
with_one p x t = p t || same_tx x t

-- where the one stands among those that pass
pub record IsSplit (ts : List TxId) (p : TxId → Bool) (x : TxId) : Type 0 where
  pub front : List TxId
  pub back : List TxId
  pub before : filter p ts ≡ front ++ back
  pub after : filter (with_one p x) ts ≡ front ++ x ∷ back

apart_back : (t u : TxId) → same_tx t u ≡ false → same_tx u t ≡ false
apart_back t u h = false_from_ne_true _ (λ k. clash (subst (λ y. same_tx t y ≡ true) (sym (same_tx_is u t k)) (same_tx_refl t)) h)

not_there : (p : TxId → Bool) (x : TxId) (ts : List TxId) → is_in ts x ≡ false → filter (with_one p x) ts ≡ filter p ts
not_there p x [] h = refl
not_there p x (t ∷ ts) h =
    let hs = or_parts (same_tx t x) (is_in ts x) h in
    let e : with_one p x t ≡ p t = ap (λ b. p t || b) (apart_back t x hs.0) ∙ or_false (p t) in
    λ i. cond (e i) (t ∷ not_there p x ts hs.1 i) (not_there p x ts hs.1 i)
  where
    or_false : (b : Bool) → (b || false) ≡ b
    or_false true = refl
    or_false false = refl

pub inserted : (ts : List TxId) (p : TxId → Bool) (x : TxId) → IsOnce ts → is_in ts x ≡ true → p x ≡ false → IsSplit ts p x
inserted [] p x once here fresh = off here
inserted (t ∷ ts) p x once here fresh = ⊎_elim
    (λ (e : same_tx t x ≡ true).
    let same = same_tx_is t x e in
    let low : p t ≡ false = subst (λ y. p y ≡ false) (sym same) fresh in
    let high : with_one p x t ≡ true = or_right _ _ (subst (λ y. same_tx x y ≡ true) (sym same) (same_tx_refl x)) in record {
      front = [];
      back = filter p ts;
      before = cond-false _ (t ∷ filter p ts) (filter p ts) low;
      after = cond-true _ (t ∷ filter (with_one p x) ts) (filter (with_one p x) ts) high ∙ (λ i. same i ∷ not_there p x ts (subst (λ y. is_in ts y ≡ false) same once.0) i);
    })
    (λ (e : same_tx t x ≡ false).
    let there : is_in ts x ≡ true = ⊎_elim (λ (k : same_tx t x ≡ true). clash k e) (λ (k : is_in ts x ≡ true). k) (or_cases _ _ here) in
    let rest = inserted ts p x once.1 there fresh in ⊎_elim
    (λ (k : p t ≡ true). record {
      front = t ∷ rest.front;
      back = rest.back;
      before = cond-true _ (t ∷ filter p ts) (filter p ts) k ∙ ap (λ l. t ∷ l) rest.before;
      after = cond-true _ (t ∷ filter (with_one p x) ts) (filter (with_one p x) ts) (or_left _ _ k) ∙ ap (λ l. t ∷ l) rest.after;
    })
    (λ (k : p t ≡ false). record {
      front = rest.front;
      back = rest.back;
      before = cond-false _ (t ∷ filter p ts) (filter p ts) k ∙ rest.before;
      after = cond-false _ (t ∷ filter (with_one p x) ts) (filter (with_one p x) ts) (or_from _ _ k (apart_back t x e)) ∙ rest.after;
    })
    (cases_Bool (p t)))
    (cases_Bool (same_tx t x))

-- those that bring nothing may be left out
pub drop_empty : {A : Type 0} (f : TxId → List A) (p : TxId → Bool) (ts : List TxId) → ((t : TxId) → is_in ts t ≡ true → p t ≡ false → f t ≡ []) → flat_map f (filter p ts) ≡ flat_map f ts
drop_empty f p [] h = refl
drop_empty f p (t ∷ ts) h =
    let rest = drop_empty f p ts (λ u k. h u (or_right _ _ k)) in ⊎_elim
    (λ (k : p t ≡ true). ap (flat_map f) (cond-true _ (t ∷ filter p ts) (filter p ts) k) ∙ ap (λ l. f t ++ l) rest)
    (λ (k : p t ≡ false). ap (flat_map f) (cond-false _ (t ∷ filter p ts) (filter p ts) k) ∙ rest ∙ ap (λ l. l ++ flat_map f ts) (sym (h t (or_left _ _ (same_tx_refl t)) k)))
    (cases_Bool (p t))

pub none_pass : (ts : List TxId) → filter (λ t. false) ts ≡ []
none_pass [] = refl
none_pass (t ∷ ts) = none_pass ts

pub filter_none : {A : Type 0} (p : A → Bool) (xs : List A) → list_any p xs ≡ false → filter p xs ≡ []
filter_none p [] h = refl
filter_none p (x ∷ xs) h = let hs = or_parts (p x) (list_any p xs) h in cond-false _ (x ∷ filter p xs) (filter p xs) hs.0 ∙ filter_none p xs hs.1

-- each has this property
abbrev pub Each : {A : Type 0} → (A → Type 0) → List A → Type 0
Each Q [] = ⊤
Each Q (x ∷ xs) = Q x × Each Q xs

-- who passes the one test passes the other, too
pub filter_narrow : {A : Type 0} (f g : A → Bool) (xs : List A) → Each (λ x. g x ≡ true → f x ≡ true) xs → filter g xs ≡ filter g (filter f xs)
filter_narrow f g [] h = refl
filter_narrow f g (x ∷ xs) h =
    let rest = filter_narrow f g xs h.1 in ⊎_elim
    (λ (k : g x ≡ true). cond-true _ (x ∷ filter g xs) (filter g xs) k ∙ ap (λ l. x ∷ l) rest ∙ sym (cond-true _ (x ∷ filter g (filter f xs)) (filter g (filter f xs)) k) ∙ ap (filter g) (sym (cond-true _ (x ∷ filter f xs) (filter f xs) (h.0 k))))
    (λ (k : g x ≡ false). cond-false _ (x ∷ filter g xs) (filter g xs) k ∙ rest ∙ go (f x) k)
    (cases_Bool (g x))
  where
    go : (b : Bool) → g x ≡ false → filter g (filter f xs) ≡ filter g (cond b (x ∷ filter f xs) (filter f xs))
    go true k = sym (cond-false _ (x ∷ filter g (filter f xs)) (filter g (filter f xs)) k)
    go false k = refl

pub filter_map : {A B : Type 0} (h : A → B) (g : B → Bool) (xs : List A) → filter g (map h xs) ≡ map h (filter (λ x. g (h x)) xs)
filter_map h g [] = refl
filter_map h g (x ∷ xs) = go (g (h x)) (filter_map h g xs)
  where
    go : (b : Bool) → filter g (map h xs) ≡ map h (filter (λ y. g (h y)) xs) → cond b (h x ∷ filter g (map h xs)) (filter g (map h xs)) ≡ map h (cond b (x ∷ filter (λ y. g (h y)) xs) (filter (λ y. g (h y)) xs))
    go true e = ap (λ l. h x ∷ l) e
    go false e = e

pub map_map : {A B C : Type 0} (h : A → B) (g : B → C) (xs : List A) → map g (map h xs) ≡ map (λ x. g (h x)) xs
map_map h g [] = refl
map_map h g (x ∷ xs) = ap (λ l. g (h x) ∷ l) (map_map h g xs)

pub each_append : {A : Type 0} (Q : A → Type 0) (xs ys : List A) → Each Q xs → Each Q ys → Each Q (xs ++ ys)
each_append Q [] ys h k = k
each_append Q (x ∷ xs) ys h k = (h.0, each_append Q xs ys h.1 k)

-- the tests need to agree on the members alone
pub filter_in : (p q : TxId → Bool) (ts : List TxId) → ((t : TxId) → is_in ts t ≡ true → p t ≡ q t) → filter p ts ≡ filter q ts
filter_in p q [] h = refl
filter_in p q (t ∷ ts) h =
    let rest = filter_in p q ts (λ u k. h u (or_right _ _ k)) in
    let here = h t (or_left _ _ (same_tx_refl t)) in
    λ i. cond (here i) (t ∷ rest i) (rest i)

-- one more passes
pub one_longer : (ts : List TxId) (p : TxId → Bool) (x : TxId) → IsOnce ts → is_in ts x ≡ true → p x ≡ false → length (filter (with_one p x) ts) ≡ 1 + length (filter p ts)
one_longer ts p x once here fresh =
    let s = inserted ts p x once here fresh in
    let a = length-append s.front (x ∷ s.back) in
    let b = length-append s.front s.back in
    ap length s.after ∙ (let r : length (s.front ++ x ∷ s.back) ≡ 1 + length (s.front ++ s.back) = omega arith in r) ∙ ap (λ l. 1 + length l) (sym s.before)
