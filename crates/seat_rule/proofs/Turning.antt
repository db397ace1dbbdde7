-- Traces turned, so that the newest step comes first.
use Rattle.std.proofs.Common.{◌≡◌, ◌⊎◌, ⊎_elim, inl, inr, ℕ, zero, suc, ◌+◌, ◌<◌, leb, Bool, true, false, ◌&&◌, List, [], ◌∷◌, ◌++◌, length, refl, sym, ap, ◌∙◌, subst, arith}
use Rattle.std.proofs.lemmas.Bool.{cases_Bool, cond-true, cond-false, leb-true, le-leb}
use mathlib.Core.Option.{some, some-ne-none, some-injective}
use lib.ListN.{get_elem?}
use Rattle.site_vector.specs.declared.ids.PartId.{PartId}
use Rattle.world_model.specs.lines.Places.{IsPlace}
use Rattle.world_model.specs.rules.Event.{Event}
use Rattle.world_model.proofs.Names.{off}
use Rattle.world_model.specs.threads.Marks.{Mark, Stands}
use Rattle.seat_rule.specs.declared.view.Noted.{Noted}
use Rattle.seat_rule.specs.Lists.{has, cite, at, lens}
use Rattle.seat_rule.specs.Notes.{NoneBears}
use Rattle.seat_rule.proofs.Lists.{cite_lens}
use Rattle.seat_rule.specs.world.Traces.{word_of, is_place, mark_of, turned, traces_of}

and_true : (a b : Bool) → a ≡ true → b ≡ true → (a && b) ≡ true
and_true true b x y = y
and_true false b x y = off x

and_left : (a b : Bool) → (a && b) ≡ true → a ≡ true
and_left true b h = refl
and_left false b h = off h

and_right : (a b : Bool) → (a && b) ≡ true → b ≡ true
and_right true b h = h
and_right false b h = off h

pub place_true : (sites parts : ℕ) (p : PartId) → IsPlace sites parts p → is_place sites parts p ≡ true
place_true sites parts p h = and_true _ _ (le-leb _ _ h.least_site) (and_true _ _ (le-leb _ _ h.most_site) (and_true _ _ (le-leb _ _ h.least_part) (le-leb _ _ h.most_part)))

pub true_place : (sites parts : ℕ) (p : PartId) → is_place sites parts p ≡ true → IsPlace sites parts p
true_place sites parts p h =
    let a = and_left (leb 1 p.site) _ h in
    let b = and_right (leb 1 p.site) _ h in
    let c = and_right (leb p.site sites) _ b in
    record {
      least_site = leb-true _ _ a;
      most_site = leb-true _ _ (and_left (leb p.site sites) _ b);
      least_part = leb-true _ _ (and_left (leb 1 p.part) _ c);
      most_part = leb-true _ _ (and_right (leb 1 p.part) _ c);
    }

module _ {T E : Type 0} (event_of : T → Event E) (sites parts : ℕ) where
  pub turned_on : (p : PartId) (top : List (Mark E)) (xs ys : List (Noted T)) → turned event_of sites parts p top (xs ++ ys) ≡ turned event_of sites parts p (turned event_of sites parts p top xs) ys
  turned_on p top [] ys = refl
  turned_on p top (x ∷ xs) ys = turned_on p (mark_of event_of sites parts p x ∷ top) xs ys

  regroup : (xs : List (Mark E)) (m : Mark E) (top : List (Mark E)) → xs ++ m ∷ top ≡ (xs ++ m ∷ []) ++ top
  regroup [] m top = refl
  regroup (x ∷ xs) m top = ap (λ l. x ∷ l) (regroup xs m top)

  pub turned_top : (p : PartId) (top : List (Mark E)) (xs : List (Noted T)) → turned event_of sites parts p top xs ≡ turned event_of sites parts p [] xs ++ top
  turned_top p top [] = refl
  turned_top p top (x ∷ xs) =
      let m = mark_of event_of sites parts p x in
      turned_top p (m ∷ top) xs ∙ regroup (turned event_of sites parts p [] xs) m top ∙ ap (λ l. l ++ top) (sym (turned_top p (m ∷ []) xs))

  pub turned_more : (p : PartId) (xs ys : List (Noted T)) → turned event_of sites parts p [] (xs ++ ys) ≡ turned event_of sites parts p [] ys ++ turned event_of sites parts p [] xs
  turned_more p xs ys = turned_on p [] xs ys ∙ turned_top p (turned event_of sites parts p [] xs) ys

  pub turned_length : (p : PartId) (top : List (Mark E)) (xs : List (Noted T)) → length (turned event_of sites parts p top xs) ≡ length xs + length top
  turned_length p top [] = omega arith
  turned_length p top (x ∷ xs) = let i = turned_length p (mark_of event_of sites parts p x ∷ top) xs in omega arith

  -- a step of a turned trace
  pub record Found (p : PartId) (xs : List (Noted T)) (i : ℕ) (m : Mark E) : Type 0 where
    pub step : Noted T
    pub there : get_elem? xs i ≡ some step
    pub is : mark_of event_of sites parts p step ≡ m

  find : (p : PartId) (top : List (Mark E)) (xs : List (Noted T)) (n : ℕ) (m : Mark E) → Stands (turned event_of sites parts p top xs) n m → Stands top n m ⊎ ((i : ℕ) × ((n ≡ length top + i) × Found p xs i m))
  find p top [] n m s = inl s
  find p top (x ∷ xs) n m s = ⊎_elim
      (λ (k : ((mark_of event_of sites parts p x) ≡ m) × (n ≡ length top) ⊎ Stands top n m). ⊎_elim
      (λ (y : (mark_of event_of sites parts p x ≡ m) × (n ≡ length top)). inr (0, (let e = y.1 in omega arith, record { step = x; there = refl; is = y.0 })))
      (λ (y : Stands top n m). inl y)
      k)
      (λ (k : (i : ℕ) × ((n ≡ suc (length top) + i) × Found p xs i m)). inr (suc k.0, (let e = k.1.0 in omega arith, record { step = k.1.1.step; there = k.1.1.there; is = k.1.1.is })))
      (find p (mark_of event_of sites parts p x ∷ top) xs n m s)

  pub found : (p : PartId) (xs : List (Noted T)) (n : ℕ) (m : Mark E) → Stands (turned event_of sites parts p [] xs) n m → Found p xs n m
  found p xs n m s = ⊎_elim
      (λ (k : ⊥). absurd k)
      (λ (k : (i : ℕ) × ((n ≡ 0 + i) × Found p xs i m)). let e : k.0 ≡ n = (let e = k.1.0 in omega arith) in subst (λ i. Found p xs i m) e k.1.1)
      (find p [] xs n m s)

  pub trace_here : (logs : ℕ → List (Noted T)) (p : PartId) → is_place sites parts p ≡ true → traces_of event_of sites parts logs p ≡ turned event_of sites parts p [] (logs (word_of parts p))
  trace_here logs p h = cond-true (is_place sites parts p) _ _ h

  pub trace_none : (logs : ℕ → List (Noted T)) (p : PartId) → is_place sites parts p ≡ false → traces_of event_of sites parts logs p ≡ []
  trace_none logs p h = cond-false (is_place sites parts p) _ _ h

  -- a step of a trace: at a place, and of its list
  pub found_at : (logs : ℕ → List (Noted T)) (p : PartId) (n : ℕ) (m : Mark E) → Stands (traces_of event_of sites parts logs p) n m → (is_place sites parts p ≡ true) × Found p (logs (word_of parts p)) n m
  found_at logs p n m s = ⊎_elim
      (λ (h : is_place sites parts p ≡ true). (h, found p (logs (word_of parts p)) n m (subst (λ l. Stands l n m) (trace_here logs p h) s)))
      (λ (h : is_place sites parts p ≡ false). absurd (subst (λ l. Stands l n m) (trace_none logs p h) s))
      (cases_Bool (is_place sites parts p))

  pub length_at : (logs : ℕ → List (Noted T)) (p : PartId) → is_place sites parts p ≡ true → length (traces_of event_of sites parts logs p) ≡ length (logs (word_of parts p))
  length_at logs p h = ap length (trace_here logs p h) ∙ (let e = turned_length p [] (logs (word_of parts p)) in omega arith)

  -- who cites all that these lists have
  pub seen_all : (lists : List (List (Noted T))) (p : PartId) (e : Noted T) → e.cites ≡ lens lists → (q : PartId) → (mark_of event_of sites parts p e).seen q ≡ length (traces_of event_of sites parts (at lists) q)
  seen_all lists p e cites q = ⊎_elim
      (λ (h : is_place sites parts q ≡ true). cond-true (is_place sites parts q) _ _ h ∙ ap (λ c. cite c (word_of parts q)) cites ∙ cite_lens lists (word_of parts q) ∙ sym (length_at (at lists) q h))
      (λ (h : is_place sites parts q ≡ false). cond-false (is_place sites parts q) _ _ h ∙ ap length (sym (trace_none (at lists) q h)))
      (cases_Bool (is_place sites parts q))

module _ {T : Type 0} where
  -- what bears a number stands in front of what doesn't
  pub bears_in_front : (numbers : List ℕ) (xs rest : List (Noted T)) (k : ℕ) (e : Noted T) → get_elem? (xs ++ rest) k ≡ some e → NoneBears numbers rest → has numbers e.by ≡ true → k < length xs
  bears_in_front numbers [] [] k e g b h = absurd (some-ne-none e (sym g))
  bears_in_front numbers [] (r ∷ rest) zero e g b h = off (sym b.0 ∙ ap (λ (x : Noted T). has numbers x.by) (some-injective r e g) ∙ h)
  bears_in_front numbers [] (r ∷ rest) (suc k) e g b h = let i = bears_in_front numbers [] rest k e g b.1 h in absurd (omega arith)
  bears_in_front numbers (x ∷ xs) rest zero e g b h = omega arith
  bears_in_front numbers (x ∷ xs) rest (suc k) e g b h = let i = bears_in_front numbers xs rest k e g b h in omega arith
