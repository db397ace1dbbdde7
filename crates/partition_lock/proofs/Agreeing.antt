-- The calls of one number stand in one order, whatever the order of all.
use Rattle.std.proofs.Common.{◌≡◌, ⊎_elim, inl, inr, ℕ, ◌<◌, ◌==◌, cond, Bool, true, false, List, [], ◌∷◌, length, refl, sym, ap, ◌∙◌, subst, arith}
use Rattle.std.proofs.lemmas.Bool.{eqb-true, eq-eqb}
use Rattle.std.specs.Prelude.{⊤}
use Rattle.site_vector.specs.declared.ids.PartId.{PartId}
use Rattle.site_vector.specs.Ids.{same_part}
use Rattle.site_vector.specs.Order.{same_part_refl}
use Rattle.crdt_core.specs.KindsOf.{Kinds}
use Rattle.world_model.specs.rules.Partition.{PartState}
use Rattle.world_model.specs.threads.Marks.{Mark, Stands, call_of, calls, made_at}
use Rattle.world_model.specs.threads.AreTraces.{AreTraces}
use Rattle.world_model.specs.threads.Orders.{IsOrder, IsOrderOf}
use Rattle.world_model.proofs.Standing.{Is, is_made, seen_here, stands_is}
use Rattle.txn_session.specs.Numbers.{made_by}

module _ {E : Type 0} where
  -- the steps that bear this number
  abbrev borne : ℕ → List (Mark E) → List (Mark E)
  borne n [] = []
  borne n (m ∷ ms) = cond (m.by == n) (m ∷ borne n ms) (borne n ms)

  calls_borne : (n : ℕ) (ms : List (Mark E)) → made_by n (calls ms) ≡ calls (borne n ms)
  calls_borne n [] = refl
  calls_borne n (m ∷ ms) = go (m.by == n) (calls_borne n ms)
    where
      go : (b : Bool) → made_by n (calls ms) ≡ calls (borne n ms) → cond b (call_of m ∷ made_by n (calls ms)) (made_by n (calls ms)) ≡ calls (cond b (m ∷ borne n ms) (borne n ms))
      go true h = ap (λ l. call_of m ∷ l) h
      go false h = h

  borne_is : (n : ℕ) (ms : List (Mark E)) (f : Mark E) → Is f (borne n ms) → Is f ms × (f.by ≡ n)
  borne_is n [] f h = absurd h
  borne_is n (m ∷ ms) f h = go (m.by == n) refl h (borne_is n ms f)
    where
      go : (b : Bool) → (m.by == n) ≡ b → Is f (cond b (m ∷ borne n ms) (borne n ms)) → (Is f (borne n ms) → Is f ms × (f.by ≡ n)) → Is f (m ∷ ms) × (f.by ≡ n)
      go true e k rest = ⊎_elim
          (λ (s : m ≡ f). (inl s, sym (ap (λ (x : Mark E). x.by) s) ∙ eqb-true m.by n e))
          (λ (s : Is f (borne n ms)). let i = rest s in (inr i.0, i.1))
          k
      go false e k rest = let i = rest k in (inr i.0, i.1)

  is_borne : (n : ℕ) (ms : List (Mark E)) (f : Mark E) → Is f ms → f.by ≡ n → Is f (borne n ms)
  is_borne n [] f h e = absurd h
  is_borne n (m ∷ ms) f h e = ⊎_elim
      (λ (s : m ≡ f). subst (λ b. Is f (cond b (m ∷ borne n ms) (borne n ms))) (sym (eq-eqb m.by n (ap (λ (x : Mark E). x.by) s ∙ e))) (inl s))
      (λ (s : Is f ms). go (m.by == n) (is_borne n ms f s e))
      h
    where
      go : (b : Bool) → Is f (borne n ms) → Is f (cond b (m ∷ borne n ms) (borne n ms))
      go true i = inr i
      go false i = i

  -- stamps that fall
  abbrev Falling : List (Mark E) → Type 0
  Falling [] = ⊤
  Falling (m ∷ ms) = ((f : Mark E) → Is f ms → f.stamp < m.stamp) × Falling ms

  below_itself : (x : Mark E) → x.stamp < x.stamp → ⊥
  below_itself x h = omega (arith, h)

  -- the greatest stamps of two lists of the same steps
  tops_same : (x y : Mark E) (xs ys : List (Mark E)) → Falling (x ∷ xs) → Falling (y ∷ ys) → Is x (y ∷ ys) → Is y (x ∷ xs) → x ≡ y
  tops_same x y xs ys a b (inl e) h = sym e
  tops_same x y xs ys a b (inr i) (inl e) = e
  tops_same x y xs ys a b (inr i) (inr j) = let k = b.0 x i in let l = a.0 y j in absurd (omega (arith, k, l))

  rest_is : (x y f : Mark E) (xs ys : List (Mark E)) → Falling (x ∷ xs) → x ≡ y → Is f xs → Is f (y ∷ ys) → Is f ys
  rest_is x y f xs ys a e i (inl k) = absurd (below_itself f (subst (λ (z : Mark E). f.stamp < z.stamp) (e ∙ k) (a.0 f i)))
  rest_is x y f xs ys a e i (inr k) = k

  -- two lists of the same steps whose stamps fall are one
  one_falling : (xs ys : List (Mark E)) → Falling xs → Falling ys → ((f : Mark E) → Is f xs → Is f ys) → ((f : Mark E) → Is f ys → Is f xs) → xs ≡ ys
  one_falling [] [] a b to from = refl
  one_falling [] (y ∷ ys) a b to from = absurd (from y (inl refl))
  one_falling (x ∷ xs) [] a b to from = absurd (to x (inl refl))
  one_falling (x ∷ xs) (y ∷ ys) a b to from =
      let e : x ≡ y = tops_same x y xs ys a b (to x (inl refl)) (from y (inl refl)) in
      let same : xs ≡ ys = one_falling xs ys a.1 b.1 (λ f i. rest_is x y f xs ys a e i (to f (inr i))) (λ f i. rest_is y x f ys xs b (sym e) i (from f (inr i))) in
      (λ i. e i ∷ same i)

  -- what is in an order stands in its trace, at a place that is in the order
  pub record StandsIn (traces : PartId → List (Mark E)) (ms : List (Mark E)) (f : Mark E) : Type 0 where
    pub place : ℕ
    pub stands : Stands (traces f.at) place f
    pub here : place < length (made_at f.at ms)

  stands_in : (traces : PartId → List (Mark E)) (ms : List (Mark E)) → IsOrder traces ms → (f : Mark E) → Is f ms → StandsIn traces ms f
  stands_in traces [] o f h = absurd h
  stands_in traces (m ∷ ms) o f (inl s) = subst (StandsIn traces (m ∷ ms)) s (record {
    place = length (made_at m.at ms);
    stands = o.0.stands;
    here = subst (λ b. length (made_at m.at ms) < length (cond b (m ∷ made_at m.at ms) (made_at m.at ms))) (sym (same_part_refl m.at)) (omega arith);
  })
  stands_in traces (m ∷ ms) o f (inr s) = let i = stands_in traces ms o.1 f s in record { place = i.place; stands = i.stands; here = go (same_part m.at f.at) i.here }
    where
      go : {k : ℕ} (b : Bool) → k < length (made_at f.at ms) → k < length (cond b (m ∷ made_at f.at ms) (made_at f.at ms))
      go true h = omega (arith, h)
      go false h = h

  module _ {S : Type 0} (kinds : Kinds S E) (sites parts : ℕ) (traces : PartId → List (Mark E)) (state : PartId → PartState E) (a : AreTraces kinds sites parts traces state) where
    -- of one number's steps a later one has the greater stamp
    rises_above : (m : Mark E) (ms : List (Mark E)) → IsOrder traces (m ∷ ms) → (f : Mark E) → Is f ms → f.by ≡ m.by → f.stamp < m.stamp
    rises_above m ms o f h e =
        let i = stands_in traces ms o.1 f h in
        let seen = seen_here traces ms o.1 f h m.at in
        ⊎_elim
        (λ (k : i.place < m.seen f.at). a.rises m.at _ m o.0.stands f.at i.place f i.stands k)
        (λ k. ⊎_elim
        (λ (k : length (made_at m.at ms) < f.seen m.at). absurd (omega (arith, k, seen)))
        (λ (k : (m.at ≡ f.at) × (length (made_at m.at ms) ≡ i.place)).
        let here = subst (λ q. i.place < length (made_at q ms)) (sym k.0) i.here in let there = k.1 in absurd (omega (arith, here, there)))
        k)
        (a.chain m.at _ m o.0.stands f.at i.place f i.stands e)

    borne_falls : (n : ℕ) (ms : List (Mark E)) → IsOrder traces ms → Falling (borne n ms)
    borne_falls n [] o = tt
    borne_falls n (m ∷ ms) o = go (m.by == n) refl (borne_falls n ms o.1)
      where
        go : (b : Bool) → (m.by == n) ≡ b → Falling (borne n ms) → Falling (cond b (m ∷ borne n ms) (borne n ms))
        go true e rest = ((λ f i. let g = borne_is n ms f i in rises_above m ms o f g.0 (g.1 ∙ sym (eqb-true m.by n e))), rest)
        go false e rest = rest

    -- each order has all steps
    moved : (one two : List (Mark E)) → IsOrderOf traces one → IsOrderOf traces two → (f : Mark E) → Is f one → Is f two
    moved one two o p f h = let i = stands_in traces one o.order f h in is_made f.at two f (subst (Is f) (sym (p.all f.at)) (stands_is (traces f.at) i.place f i.stands))

    pub law_agrees : (one two : List (Mark E)) → IsOrderOf traces one → IsOrderOf traces two → (n : ℕ) → made_by n (calls one) ≡ made_by n (calls two)
    law_agrees one two o p n =
        let to = λ (x y : List (Mark E)) (s : IsOrderOf traces x) (t : IsOrderOf traces y) (f : Mark E) (i : Is f (borne n x)). (let g = borne_is n x f i in is_borne n y f (moved x y s t f g.0) g.1) in
        calls_borne n one ∙ (ap calls (one_falling (borne n one) (borne n two) (borne_falls n one o.order) (borne_falls n two p.order) (to one two o p) (to two one p o)) ∙ sym (calls_borne n two))
