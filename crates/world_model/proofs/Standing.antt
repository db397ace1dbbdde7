-- In the merged run each step stands after all that its caller had seen.
use Rattle.std.proofs.Common.{◌≡◌, ◌⊎◌, ⊎_elim, inl, inr, ℕ, zero, suc, ◌+◌, ◌≤◌, ◌<◌, cond, leb, Bool, true, false, List, [], ◌∷◌, ◌++◌, length, refl, sym, ap, ◌∙◌, subst, arith, le_trans, le_refl, append-nil}
use Rattle.std.proofs.lemmas.Bool.{cases_Bool, cond-true, cond-false, cases_lt, leb-true, le-leb}
use Rattle.std.proofs.lemmas.List.{length-append}
use Rattle.site_vector.specs.declared.ids.PartId.{PartId}
use Rattle.site_vector.specs.Ids.{same_part}
use Rattle.site_vector.specs.Order.{same_part_refl}
use Rattle.world_model.specs.lines.Places.{IsPlace, partitions}
use Rattle.world_model.proofs.Names.{clash}
use Rattle.world_model.specs.threads.Marks.{Mark, Stands, first_of_trace, made_at}
use Rattle.world_model.specs.threads.Merging.{all_places, merged}
use Rattle.world_model.specs.threads.Orders.{IsOrder}
use Rattle.world_model.proofs.Sorting.{AreAtMost, Falls, IsIn, AreOnce, falls}

-- the places of a cluster, each once
in_front : (p : PartId) (ps qs : List PartId) → IsIn p ps → IsIn p (ps ++ qs)
in_front p [] qs h = absurd h
in_front p (x ∷ ps) qs h = ⊎_elim (λ (k : x ≡ p). inl k) (λ (k : IsIn p ps). inr (in_front p ps qs k)) h

in_back : (p : PartId) (ps qs : List PartId) → IsIn p qs → IsIn p (ps ++ qs)
in_back p [] qs h = h
in_back p (x ∷ ps) qs h = inr (in_back p ps qs h)

in_either : (p : PartId) (ps qs : List PartId) → IsIn p (ps ++ qs) → IsIn p ps ⊎ IsIn p qs
in_either p [] qs h = inr h
in_either p (x ∷ ps) qs h = ⊎_elim (λ (k : x ≡ p). inl (inl k)) (λ (k : IsIn p (ps ++ qs)). ⊎_elim (λ (y : IsIn p ps). inl (inr y)) (λ (y : IsIn p qs). inr y) (in_either p ps qs k)) h

in_parts : (site first n : ℕ) (p : PartId) → IsIn p (partitions site first n) → (p.site ≡ site) × (first ≤ p.part) × (p.part < first + n)
in_parts site first zero p h = absurd h
in_parts site first (suc n) p h = ⊎_elim
    (λ (k : (record { site = site; part = first }) ≡ p). (ap (λ x. x.site) (sym k), (let e : first ≡ p.part = ap (λ x. x.part) k in omega arith), (let e : first ≡ p.part = ap (λ x. x.part) k in omega arith)))
    (λ (k : IsIn p (partitions site (first + 1) n)). let i = in_parts site (first + 1) n p k in (i.0, (let a = i.1 in omega arith), (let b = i.2 in omega arith)))
    h

parts_have : (site first n : ℕ) (p : PartId) → p.site ≡ site → first ≤ p.part → p.part < first + n → IsIn p (partitions site first n)
parts_have site first zero p s a b = absurd (omega arith)
parts_have site first (suc n) p s a b = ⊎_elim
    (λ (k : first < p.part). inr (parts_have site (first + 1) n p s (omega arith) (omega arith)))
    (λ (k : p.part ≤ first). let e : first ≡ p.part = omega arith in inl (λ i. record { site = sym s i; part = e i }))
    (cases_lt first p.part)

parts_once : (site first n : ℕ) → AreOnce (partitions site first n)
parts_once site first zero = tt
parts_once site first (suc n) = (λ h. let a = (in_parts site (first + 1) n _ h).1 in absurd (omega arith), parts_once site (first + 1) n)

once_both : (ps qs : List PartId) → AreOnce ps → AreOnce qs → ((p : PartId) → IsIn p ps → IsIn p qs → ⊥) → AreOnce (ps ++ qs)
once_both [] qs a b n = b
once_both (p ∷ ps) qs a b n = (λ h. ⊎_elim (λ (k : IsIn p ps). a.0 k) (λ (k : IsIn p qs). n p (inl refl) k) (in_either p ps qs h), once_both ps qs a.1 b (λ x h k. n x (inr h) k))

in_places : (sites parts : ℕ) (p : PartId) → IsIn p (all_places sites parts) → (1 ≤ p.site) × (p.site ≤ sites)
in_places zero parts p h = absurd h
in_places (suc n) parts p h = ⊎_elim
    (λ (k : IsIn p (partitions (suc n) 1 parts)). let e = (in_parts (suc n) 1 parts p k).0 in (omega arith, omega arith))
    (λ (k : IsIn p (all_places n parts)). let i = in_places n parts p k in (i.0, (let a = i.1 in omega arith)))
    (in_either p (partitions (suc n) 1 parts) (all_places n parts) h)

pub places_once : (sites parts : ℕ) → AreOnce (all_places sites parts)
places_once zero parts = tt
places_once (suc n) parts = once_both (partitions (suc n) 1 parts) (all_places n parts) (parts_once (suc n) 1 parts) (places_once n parts) (λ p h k. let e = (in_parts (suc n) 1 parts p h).0 in let b = (in_places n parts p k).1 in absurd (omega arith))

pub places_have : (sites parts : ℕ) (p : PartId) → IsPlace sites parts p → IsIn p (all_places sites parts)
places_have zero parts p h = let a = h.least_site in let b = h.most_site in absurd (omega arith)
places_have (suc n) parts p h = ⊎_elim
    (λ (k : p.site < suc n). in_back p (partitions (suc n) 1 parts) (all_places n parts) (places_have n parts p (record { least_site = h.least_site; most_site = omega arith; least_part = h.least_part; most_part = h.most_part })))
    (λ (k : suc n ≤ p.site). let b = h.most_site in let c = h.most_part in in_front p (partitions (suc n) 1 parts) (all_places n parts) (parts_have (suc n) 1 parts p (omega arith) h.least_part (omega arith)))
    (cases_lt p.site (suc n))

module _ {E : Type 0} where
  -- m stands in the list
  abbrev pub Is : Mark E → List (Mark E) → Type 0
  Is m [] = ⊥
  Is m (x ∷ ms) = (x ≡ m) ⊎ Is m ms

  pub stands_more : (top low : List (Mark E)) (n : ℕ) (m : Mark E) → Stands low n m → Stands (top ++ low) n m
  stands_more [] low n m h = h
  stands_more (x ∷ top) low n m h = inr (stands_more top low n m h)

  -- the last of what is on top
  last_of : (top low : List (Mark E)) → length low < length (top ++ low) → (f : Mark E) × (Is f top × Stands (top ++ low) (length low) f)
  last_of [] low h = absurd (omega arith)
  last_of (x ∷ []) low h = (x, (inl refl, inl (refl, refl)))
  last_of (x ∷ y ∷ top) low h =
      let l : length ((y ∷ top) ++ low) ≡ length (y ∷ top) + length low = length-append (y ∷ top) low in
      let i = last_of (y ∷ top) low (omega arith) in
      (i.0, (inr i.1.0, inr i.1.1))

  pub stands_below : (ms : List (Mark E)) (n : ℕ) (m : Mark E) → Stands ms n m → n < length ms
  stands_below [] n m h = absurd h
  stands_below (x ∷ ms) n m h = ⊎_elim
      (λ (k : (x ≡ m) × (n ≡ length ms)). let e = k.1 in omega arith)
      (λ (k : Stands ms n m). let i = stands_below ms n m k in omega arith)
      h

  pub is_stands : (ms : List (Mark E)) (m : Mark E) → Is m ms → (n : ℕ) × Stands ms n m
  is_stands [] m h = absurd h
  is_stands (x ∷ ms) m h = ⊎_elim (λ (k : x ≡ m). (length ms, inl (k, refl))) (λ (k : Is m ms). let i = is_stands ms m k in (i.0, inr i.1)) h

  pub stands_is : (ms : List (Mark E)) (n : ℕ) (m : Mark E) → Stands ms n m → Is m ms
  stands_is [] n m h = absurd h
  stands_is (x ∷ ms) n m h = ⊎_elim (λ (k : (x ≡ m) × (n ≡ length ms)). inl k.0) (λ (k : Stands ms n m). inr (stands_is ms n m k)) h

  pub is_made : (p : PartId) (ms : List (Mark E)) (m : Mark E) → Is m (made_at p ms) → Is m ms
  is_made p [] m h = absurd h
  is_made p (x ∷ ms) m h = go (same_part x.at p) h (is_made p ms m)
    where
      go : (b : Bool) → Is m (cond b (x ∷ made_at p ms) (made_at p ms)) → (Is m (made_at p ms) → Is m ms) → Is m (x ∷ ms)
      go true k i = ⊎_elim (λ (y : x ≡ m). inl y) (λ (y : Is m (made_at p ms)). inr (i y)) k
      go false k i = inr (i k)

  pub record AreStamped (traces : PartId → List (Mark E)) : Type 0 where
    pub within : (p : PartId) (n : ℕ) (m : Mark E) → Stands (traces p) n m → (q : PartId) → m.seen q ≤ length (traces q)
    pub rises : (p : PartId) (n : ℕ) (m : Mark E) → Stands (traces p) n m → (q : PartId) (k : ℕ) (f : Mark E) → Stands (traces q) k f → k < m.seen q → f.stamp < m.stamp

  above_after : PartId → (PartId → List (Mark E)) → Mark E → PartId → List (Mark E)
  above_after p above m q = cond (same_part p q) (above q ++ m ∷ []) (above q)

  is_above : (b : Bool) (above : List (Mark E)) (m f : Mark E) → Is f (cond b (above ++ m ∷ []) above) → Is f above ⊎ (f ≡ m)
  is_above true [] m f h = ⊎_elim (λ (k : m ≡ f). inr (sym k)) (λ (k : ⊥). absurd k) h
  is_above true (x ∷ above) m f h = ⊎_elim (λ (k : x ≡ f). inl (inl k)) (λ (k : Is f (above ++ m ∷ [])). ⊎_elim (λ (y : Is f above). inl (inr y)) (λ (y : f ≡ m). inr y) (is_above true above m f k)) h
  is_above false above m f h = inl h

  regroup : (above low : List (Mark E)) (m : Mark E) → above ++ m ∷ low ≡ (above ++ m ∷ []) ++ low
  regroup [] low m = refl
  regroup (x ∷ above) low m = ap (λ l. x ∷ l) (regroup above low m)

  front_step : (b : Bool) (above low : List (Mark E)) (m : Mark E) → above ++ cond b (m ∷ low) low ≡ cond b (above ++ m ∷ []) above ++ low
  front_step true above low m = regroup above low m
  front_step false above low m = refl

  -- steps that fall by their stamps, on top of an order: each stands after all that it has seen
  orders : (traces : PartId → List (Mark E)) → AreStamped traces → (base : List (Mark E)) → IsOrder traces base → (ms : List (Mark E)) (above : PartId → List (Mark E)) → ((q : PartId) → traces q ≡ above q ++ made_at q (ms ++ base)) → ((q : PartId) (f : Mark E) → Is f (above q) → AreAtMost f.stamp ms) → Falls ms → IsOrder traces (ms ++ base)
  unfolding above_after
  orders traces a base order [] above fronts high fall = order
  orders traces a base order (m ∷ ms) above fronts high fall =
      let low = ms ++ base in
      let next = above_after m.at above m in
      let same : (q : PartId) → traces q ≡ next q ++ made_at q low = λ q. fronts q ∙ front_step (same_part m.at q) (above q) (made_at q low) m in
      let here : Stands (traces m.at) (length (made_at m.at low)) m = subst (λ l. Stands l (length (made_at m.at low)) m) (sym (fronts m.at)) (stands_more (above m.at) (made_at m.at (m ∷ low)) (length (made_at m.at low)) m (subst (λ l. Stands l (length (made_at m.at low)) m) (sym (cond-true (same_part m.at m.at) (m ∷ made_at m.at low) (made_at m.at low) (same_part_refl m.at))) (inl (refl, refl)))) in (
        record {
          stands = here;
          top = next;
          fronts = same;
          seen = λ q. ⊎_elim
              (λ (k : length (made_at q low) < m.seen q).
              let w = a.within m.at (length (made_at m.at low)) m here q in
              let l : length (made_at q low) < length (next q ++ made_at q low) = subst (λ x. length (made_at q low) < length x) (same q) (omega arith) in
              let f = last_of (next q) (made_at q low) l in
              let lower = a.rises m.at (length (made_at m.at low)) m here q (length (made_at q low)) f.0 (subst (λ x. Stands x (length (made_at q low)) f.0) (sym (same q)) f.1.1) k in
              ⊎_elim
              (λ (x : Is f.0 (above q)). let h = (high q f.0 x).0 in absurd (omega arith))
              (λ (x : f.0 ≡ m). let e : f.0.stamp ≡ m.stamp = ap (λ y. y.stamp) x in absurd (omega arith))
              (is_above (same_part m.at q) (above q) m f.0 f.1.0))
              (λ (k : m.seen q ≤ length (made_at q low)). k)
              (cases_lt (length (made_at q low)) (m.seen q));
        },
        orders traces a base order ms next same
            (λ q f i. ⊎_elim (λ (x : Is f (above q)). (high q f x).1) (λ (x : f ≡ m). subst (λ y. AreAtMost y.stamp ms) (sym x) fall.0) (is_above (same_part m.at q) (above q) m f i))
            fall.1,
      )

  pub made_both : (q : PartId) (ms base : List (Mark E)) → made_at q (ms ++ base) ≡ made_at q ms ++ made_at q base
  made_both q [] base = refl
  made_both q (m ∷ ms) base = go (same_part m.at q) (made_both q ms base)
    where
      go : (b : Bool) → made_at q (ms ++ base) ≡ made_at q ms ++ made_at q base → cond b (m ∷ made_at q (ms ++ base)) (made_at q (ms ++ base)) ≡ cond b (m ∷ made_at q ms) (made_at q ms) ++ made_at q base
      go true k = ap (λ l. m ∷ l) k
      go false k = k

  -- an order of a part of the traces goes on to one of all: the rest, by stamp, on top
  pub order_goes_on : (ps : List PartId) (traces rest : PartId → List (Mark E)) (base : List (Mark E)) → AreStamped traces → IsOrder traces base → ((q : PartId) → traces q ≡ rest q ++ made_at q base) → ((q : PartId) → made_at q (merged ps rest) ≡ rest q) → IsOrder traces (merged ps rest ++ base)
  order_goes_on ps traces rest base a order fronts same = orders traces a base order (merged ps rest) (λ q. []) (λ q. fronts q ∙ ap (λ l. l ++ made_at q base) (sym (same q)) ∙ sym (made_both q (merged ps rest) base)) (λ q f h. absurd h) (falls ps rest)

  pub merged_order : (ps : List PartId) (traces : PartId → List (Mark E)) → AreStamped traces → ((q : PartId) → made_at q (merged ps traces) ≡ traces q) → IsOrder traces (merged ps traces)
  merged_order ps traces a same = subst (IsOrder traces) (append-nil (merged ps traces)) (order_goes_on ps traces traces [] a tt (λ q. sym (append-nil (traces q))) same)

  -- what stands here has seen only what stands here
  pub seen_here : (traces : PartId → List (Mark E)) (ms : List (Mark E)) → IsOrder traces ms → (f : Mark E) → Is f ms → (q : PartId) → f.seen q ≤ length (made_at q ms)
  seen_here traces [] o f h q = absurd h
  seen_here traces (m ∷ ms) o f h q =
      let grows : length (made_at q ms) ≤ length (made_at q (m ∷ ms)) = more (same_part m.at q) in
      ⊎_elim
      (λ (k : m ≡ f). le_trans (subst (λ x. x.seen q ≤ length (made_at q ms)) k (o.0.seen q)) grows)
      (λ (k : Is f ms). le_trans (seen_here traces ms o.1 f k q) grows)
      h
    where
      more : (b : Bool) → length (made_at q ms) ≤ length (cond b (m ∷ made_at q ms) (made_at q ms))
      more true = omega arith
      more false = le_refl _

  -- the first of a trace
  pub first_parts : (n : ℕ) (ms : List (Mark E)) → n ≤ length ms → (top : List (Mark E)) × ((ms ≡ top ++ first_of_trace n ms) × (length (first_of_trace n ms) ≡ n))
  first_parts n [] h = ([], (refl, omega arith))
  first_parts n (m ∷ ms) h = go (leb (length (m ∷ ms)) n) refl (λ k. first_parts n ms k)
    where
      go : (b : Bool) → leb (length (m ∷ ms)) n ≡ b → (n ≤ length ms → (top : List (Mark E)) × ((ms ≡ top ++ first_of_trace n ms) × (length (first_of_trace n ms) ≡ n))) → (top : List (Mark E)) × (((m ∷ ms) ≡ top ++ cond b (m ∷ ms) (first_of_trace n ms)) × (length (cond b (m ∷ ms) (first_of_trace n ms)) ≡ n))
      go true e r = let l = leb-true _ _ e in ([], (refl, omega arith))
      go false e r = let i = r (⊎_elim (λ (k : n < length (m ∷ ms)). omega arith) (λ (k : length (m ∷ ms) ≤ n). clash (le-leb _ _ k) e) (cases_lt n (length (m ∷ ms)))) in (m ∷ i.0, (ap (λ l. m ∷ l) i.1.0, i.1.1))

  pub first_skips : (n : ℕ) (top low : List (Mark E)) → n ≤ length low → first_of_trace n (top ++ low) ≡ first_of_trace n low
  first_skips n [] low h = refl
  first_skips n (x ∷ top) low h = ⊎_elim
      (λ (k : leb (length (x ∷ (top ++ low))) n ≡ true). let l = leb-true _ _ k in let e = length-append top low in absurd (omega arith))
      (λ (k : leb (length (x ∷ (top ++ low))) n ≡ false). cond-false _ _ _ k ∙ first_skips n top low h)
      (cases_Bool (leb (length (x ∷ (top ++ low))) n))
