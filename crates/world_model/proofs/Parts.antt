-- Lists of parts that have the vectors and changes which their transactions have.
use Rattle.std.proofs.Common.{◌≡◌, ⊎_elim, ℕ, ltb, cond, true, false, ◌&&◌, List, [], ◌∷◌, refl, sym, ap, ◌∙◌, subst}
use Rattle.std.proofs.lemmas.Bool.{cases_Bool, or_left, or_right, or_cases, and_right, cond-true, cond-false}
use Rattle.site_vector.specs.declared.ids.TxId.{TxId}
use Rattle.site_vector.specs.Ids.{same_tx}
use Rattle.site_vector.specs.Order.{same_tx_is, same_tx_refl}
use Rattle.site_vector.specs.Vector.{entry}
use Rattle.crdt_core.specs.declared.record.Upd.{Upd}
use Rattle.crdt_core.specs.declared.record.Part.{Part}
use Rattle.crdt_core.specs.Parts.{lists, vector_in, changes_in}
use Rattle.crdt_core.specs.Parts.{AreParts, above}
use Rattle.world_model.proofs.Names.{clash, off}

module _ {E : Type 0} where
  pub parts_vector : (f : TxId → List ℕ) (g : TxId → List (Upd E)) (xs : List (Part E)) (t : TxId) → AreParts f g xs → lists xs t ≡ true → vector_in xs t ≡ f t
  parts_vector f g [] t a h = off h
  parts_vector f g (x ∷ xs) t a h = ⊎_elim
      (λ (e : same_tx x.tx t ≡ true). cond-true _ x.c (vector_in xs t) e ∙ a.0.0 ∙ ap f (same_tx_is x.tx t e))
      (λ (e : same_tx x.tx t ≡ false). cond-false _ x.c (vector_in xs t) e ∙ parts_vector f g xs t a.1 (⊎_elim (λ (k : same_tx x.tx t ≡ true). clash k e) (λ (k : lists xs t ≡ true). k) (or_cases _ _ h)))
      (cases_Bool (same_tx x.tx t))

  pub parts_changes : (f : TxId → List ℕ) (g : TxId → List (Upd E)) (xs : List (Part E)) (t : TxId) → AreParts f g xs → lists xs t ≡ true → changes_in xs t ≡ g t
  parts_changes f g [] t a h = off h
  parts_changes f g (x ∷ xs) t a h = ⊎_elim
      (λ (e : same_tx x.tx t ≡ true). cond-true _ x.updates (changes_in xs t) e ∙ a.0.1 ∙ ap g (same_tx_is x.tx t e))
      (λ (e : same_tx x.tx t ≡ false). cond-false _ x.updates (changes_in xs t) e ∙ parts_changes f g xs t a.1 (⊎_elim (λ (k : same_tx x.tx t ≡ true). clash k e) (λ (k : lists xs t ≡ true). k) (or_cases _ _ h)))
      (cases_Bool (same_tx x.tx t))

  pub parts_map : (f f' : TxId → List ℕ) (g g' : TxId → List (Upd E)) (xs : List (Part E)) → ((t : TxId) → lists xs t ≡ true → (f t ≡ f' t) × (g t ≡ g' t)) → AreParts f g xs → AreParts f' g' xs
  parts_map f f' g g' [] h a = tt
  parts_map f f' g g' (x ∷ xs) h a =
      let s = h x.tx (or_left _ _ (same_tx_refl x.tx)) in
      ((a.0.0 ∙ s.0, a.0.1 ∙ s.1), parts_map f f' g g' xs (λ t k. h t (or_right _ _ k)) a.1)

  pub lists_above : (f : TxId → List ℕ) (g : TxId → List (Upd E)) (i b : ℕ) (xs : List (Part E)) (t : TxId) → AreParts f g xs → lists (above i b xs) t ≡ (lists xs t && ltb b (entry (f t) i))
  lists_above f g i b [] t a = refl
  lists_above f g i b (x ∷ xs) t a =
      let rest = lists_above f g i b xs t a.1 in ⊎_elim
      (λ (e : same_tx x.tx t ≡ true). let c : x.c ≡ f t = subst (λ y. x.c ≡ f y) (same_tx_is x.tx t e) a.0.0 in ⊎_elim
      (λ (k : ltb b (entry x.c i) ≡ true). rw (k, e, sym (ap (λ v. ltb b (entry v i)) c) ∙ k) refl)
      (λ (k : ltb b (entry x.c i) ≡ false). let k' : ltb b (entry (f t) i) ≡ false = sym (ap (λ v. ltb b (entry v i)) c) ∙ k in rw (k, e, k') (rest ∙ and_right (lists xs t) _ k'))
      (cases_Bool (ltb b (entry x.c i))))
      (λ (e : same_tx x.tx t ≡ false). ⊎_elim
      (λ (k : ltb b (entry x.c i) ≡ true). rw (k, e) rest)
      (λ (k : ltb b (entry x.c i) ≡ false). rw (k, e) rest)
      (cases_Bool (ltb b (entry x.c i))))
      (cases_Bool (same_tx x.tx t))

  pub above_parts : (f : TxId → List ℕ) (g : TxId → List (Upd E)) (i b : ℕ) (xs : List (Part E)) → AreParts f g xs → AreParts f g (above i b xs)
  above_parts f g i b [] a = tt
  above_parts f g i b (x ∷ xs) a = elim (ltb b (entry x.c i)) as (λ c. AreParts f g (cond c (x ∷ above i b xs) (above i b xs))) [
    | true ↦ (a.0, above_parts f g i b xs a.1)
    | false ↦ above_parts f g i b xs a.1
  ]
