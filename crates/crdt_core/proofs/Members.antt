-- Members of a list, and the newest of those that pass a test.
use Rattle.std.proofs.Common.{◌≡◌, Bool, true, false, ◌&&◌, ◌||◌, List, [], ◌∷◌, refl, sym, ap, ◌∙◌, subst, ◌⊎◌, inl, inr, ⊎_elim}
use Rattle.std.specs.List.{list_any, list_all}
use Rattle.std.proofs.lemmas.Bool.{true≢false, false≢true, or_cases, or_left, or_right, or_from, and_parts, and_from, and_left, cases_Bool, false_from_ne_true}
use Rattle.site_vector.specs.declared.ids.Dot.{Dot}
use Rattle.crdt_core.specs.Seen.{Update, sees}
use Rattle.crdt_core.specs.History.{IsHistory, IsClosed}

abbrev pub In : {A : Type 0} → A → List A → Type 0
In x [] = ⊥
In x (y ∷ ys) = (y ≡ x) ⊎ In x ys

module _ {A : Type 0} where
  pub any_of : (q : A → Bool) (xs : List A) (x : A) → In x xs → q x ≡ true → list_any q xs ≡ true
  any_of q [] x i h = absurd i
  any_of q (y ∷ ys) x i h = ⊎_elim (λ e. or_left (q y) (list_any q ys) (ap q e ∙ h)) (λ j. or_right (q y) (list_any q ys) (any_of q ys x j h)) i

  pub one_of : (q : A → Bool) (xs : List A) → list_any q xs ≡ true → (x : A) × In x xs × (q x ≡ true)
  one_of q [] h = absurd (false≢true h)
  one_of q (y ∷ ys) h = ⊎_elim (λ here. (y, inl refl, here)) (λ later. let w = one_of q ys later in (w.0, inr w.1, w.2)) (or_cases (q y) (list_any q ys) h)

  -- to show that none passes, refute each
  pub none_of : (q : A → Bool) (xs : List A) → ((x : A) → In x xs → q x ≡ true → ⊥) → list_any q xs ≡ false
  none_of q xs f = false_from_ne_true (list_any q xs) (λ t. let w = one_of q xs t in f w.0 w.1 w.2)

  pub clash : {P : Type 0} (q : A → Bool) (xs : List A) (x : A) → list_any q xs ≡ false → In x xs → q x ≡ true → P
  clash q xs x none i h = absurd (true≢false (sym (any_of q xs x i h) ∙ none))

  pub all_of : (q : A → Bool) (xs : List A) → ((x : A) → In x xs → q x ≡ true) → list_all q xs ≡ true
  all_of q [] f = refl
  all_of q (y ∷ ys) f = and_from (q y) (list_all q ys) (f y (inl refl)) (all_of q ys (λ x i. f x (inr i)))

  pub each_of : (q : A → Bool) (xs : List A) (x : A) → list_all q xs ≡ true → In x xs → q x ≡ true
  each_of q [] x h i = absurd i
  each_of q (y ∷ ys) x h i = let two = and_parts (q y) (list_all q ys) h in ⊎_elim (λ e. ap q (sym e) ∙ two.0) (λ j. each_of q ys x two.1 j) i

closed_at : (p : Dot → Bool) (us : List Update) (r : Update) → IsClosed p us → In r us → p r.dot ≡ true → (d : Dot) → sees r d ≡ true → p d ≡ true
closed_at p [] r c i = absurd i
closed_at p (u ∷ us) r c i = ⊎_elim (λ e. subst (λ (v : Update). p v.dot ≡ true → (d : Dot) → sees v d ≡ true → p d ≡ true) e c.0) (λ j. closed_at p us r c.1 j) i

-- who has seen an update of a history has seen what that one saw
pub passes_on : (us : List Update) → IsHistory us → (v r : Update) → In v us → In r us → sees v r.dot ≡ true → (d : Dot) → sees r d ≡ true → sees v d ≡ true
passes_on [] h v r i j see = absurd i
passes_on (u ∷ us) h v r i j see =
    ⊎_elim
    (λ vu. ⊎_elim
    (λ ru. absurd (true≢false (sym (ap (λ (w : Update). sees w r.dot) vu ∙ see) ∙ ap (λ (w : Update). sees u w.dot) (sym ru) ∙ h.0.apart)))
    (λ rs. subst (λ (w : Update). (d : Dot) → sees r d ≡ true → sees w d ≡ true) vu (closed_at (sees u) us r h.0.closed rs (ap (λ (w : Update). sees w r.dot) vu ∙ see)))
    j)
    (λ vs. ⊎_elim
    (λ ru. clash (λ w. sees w u.dot) us v h.0.unseen vs (ap (λ (w : Update). sees v w.dot) ru ∙ see))
    (λ rs. passes_on us h.1 v r vs rs see)
    j)
    i

and_no : (b : Bool) → (b && false) ≡ false
and_no true = refl
and_no false = refl

rest_of : (a b : Bool) → a ≡ false → (a || b) ≡ true → b ≡ true
rest_of a b h e = ap (λ x. x || b) (sym h) ∙ e

-- the newest update that passes: no other that passes has seen it
pub newest : (p : Update → Bool) (us : List Update) → IsHistory us → list_any p us ≡ true → (u : Update) × In u us × (p u ≡ true) × (list_any (λ v. p v && sees v u.dot) us ≡ false)
newest p [] h e = absurd (false≢true e)
newest p (u ∷ us) h e = ⊎_elim
    (λ here. (u, inl refl, here, or_from _ _ (ap (λ b. p u && b) h.0.apart ∙ and_no (p u)) (none_of (λ v. p v && sees v u.dot) us (λ v i t. clash (λ w. sees w u.dot) us v h.0.unseen i (and_parts (p v) (sees v u.dot) t).1))))
    (λ fails. let w = newest p us h.1 (rest_of (p u) (list_any p us) fails e) in (w.0, inr w.1, w.2, or_from _ _ (and_left (p u) (sees u w.0.dot) fails) w.3))
    (cases_Bool (p u))
