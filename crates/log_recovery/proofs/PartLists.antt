-- Lists of parts: more behind them, and what is told of them.
use Rattle.std.proofs.Common.{◌≡◌, ℕ, true, false, not, ◌||◌, List, [], ◌∷◌, ◌++◌, length, refl, sym, ap, ◌∙◌}
use Rattle.std.specs.Prelude.{if◌then◌else◌}
use Rattle.std.proofs.lemmas.Bool.{true≢false, or_left, or_right, or_from, and_parts, not-true, false_from_ne_true}
use Rattle.site_vector.specs.declared.ids.TxId.{TxId}
use Rattle.site_vector.specs.Ids.{same_tx}
use Rattle.site_vector.specs.Order.{same_tx_is, same_tx_refl}
use Rattle.crdt_core.specs.declared.record.Upd.{Upd}
use Rattle.crdt_core.specs.declared.record.Part.{Part}
use Rattle.crdt_core.specs.Fitting.{are_apart}
use Rattle.crdt_core.specs.Parts.{lists, vector_in, changes_in, AreParts}
use Rattle.log_recovery.specs.Lists.{AreApart, AreWideParts}
use Rattle.log_recovery.proofs.Choices.{or_join}

module _ {E : Type 0} where
  pub lists_append : (xs ys : List (Part E)) (u : TxId) → lists (xs ++ ys) u ≡ (lists xs u || lists ys u)
  lists_append [] ys u = refl
  lists_append (x ∷ xs) ys u = ap (λ b. same_tx x.tx u || b) (lists_append xs ys u) ∙ or_join (same_tx x.tx u) (lists xs u) (lists ys u)

  pub parts_append : (v : TxId → List ℕ) (c : TxId → List (Upd E)) (xs ys : List (Part E)) → AreParts v c xs → AreParts v c ys → AreParts v c (xs ++ ys)
  parts_append v c [] ys h k = k
  parts_append v c (x ∷ xs) ys h k = (h.0, parts_append v c xs ys h.1 k)

  pub apart_append : (xs ys : List (Part E)) → AreApart xs → AreApart ys → ((u : TxId) → lists xs u ≡ true → lists ys u ≡ false) → AreApart (xs ++ ys)
  apart_append [] ys h k n = k
  apart_append (x ∷ xs) ys h k n = (
    lists_append xs ys x.tx ∙ or_from (lists xs x.tx) (lists ys x.tx) h.0 (n x.tx (or_left _ _ (same_tx_refl x.tx))),
    apart_append xs ys h.1 k (λ u e. n u (or_right (same_tx x.tx u) (lists xs u) e)),
  )

  -- what is told of the members alone counts
  pub parts_alike : (v w : TxId → List ℕ) (c d : TxId → List (Upd E)) (xs : List (Part E)) → ((u : TxId) → lists xs u ≡ true → (v u ≡ w u) × (c u ≡ d u)) → AreParts v c xs → AreParts w d xs
  parts_alike v w c d [] f h = tt
  parts_alike v w c d (x ∷ xs) f h =
      let here = f x.tx (or_left _ _ (same_tx_refl x.tx)) in
      ((h.0.0 ∙ here.0, h.0.1 ∙ here.1), parts_alike v w c d xs (λ u k. f u (or_right (same_tx x.tx u) (lists xs u) k)) h.1)

  -- parts that are apart tell of themselves
  pub parts_own : (xs : List (Part E)) → AreApart xs → AreParts (vector_in xs) (changes_in xs) xs
  parts_own [] h = tt
  parts_own (x ∷ xs) h =
      let other : (u : TxId) → lists xs u ≡ true → same_tx x.tx u ≡ false =
      λ u k. false_from_ne_true _ (λ e. true≢false (sym k ∙ ap (λ t. lists xs t) (sym (same_tx_is x.tx u e)) ∙ h.0)) in (
        (ap (λ b. if b then x.c else vector_in xs x.tx) (sym (same_tx_refl x.tx)), ap (λ b. if b then x.updates else changes_in xs x.tx) (sym (same_tx_refl x.tx))),
        parts_alike (vector_in xs) (vector_in (x ∷ xs)) (changes_in xs) (changes_in (x ∷ xs)) xs
            (λ u k. (ap (λ b. if b then x.c else vector_in xs u) (sym (other u k)), ap (λ b. if b then x.updates else changes_in xs u) (sym (other u k))))
            (parts_own xs h.1),
      )

  pub are_apart_is : (xs : List (Part E)) → are_apart xs ≡ true → AreApart xs
  are_apart_is [] h = tt
  are_apart_is (x ∷ xs) h = let p = and_parts (not (lists xs x.tx)) (are_apart xs) h in (not-true (lists xs x.tx) p.0, are_apart_is xs p.1)

  -- a width that all commit vectors have that are told
  pub parts_wide : (sites : ℕ) (v : TxId → List ℕ) (c : TxId → List (Upd E)) (xs : List (Part E)) → AreParts v c xs → ((u : TxId) → lists xs u ≡ true → length (v u) ≡ sites) → AreWideParts sites xs
  parts_wide sites v c [] h w = tt
  parts_wide sites v c (x ∷ xs) h w = (ap length h.0.0 ∙ w x.tx (or_left _ _ (same_tx_refl x.tx)), parts_wide sites v c xs h.1 (λ u e. w u (or_right (same_tx x.tx u) (lists xs u) e)))
