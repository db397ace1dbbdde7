-- Lists of parts: one part more, those that pass a test, and those in order.
use Rattle.std.proofs.Common.{◌≡◌, ◌≢◌, ℕ, Bool, true, false, ◌&&◌, ◌||◌, List, [], ◌∷◌, refl, sym, ap, ◌∙◌}
use Rattle.std.specs.Prelude.{if◌then◌else◌, filter}
use Rattle.std.proofs.lemmas.Bool.{true≢false, or_left, or_right}
use Rattle.std.proofs.lemmas.Cmp.{nat_cmp_total, on_total, then_total}
use Rattle.std.specs.Cmp.{IsTotalOrder}
use Rattle.std.specs.Ordering.{nat_cmp}
use Rattle.std.specs.declared.cmp.Ordering.{Ordering}
use Rattle.std.specs.declared.cmp.Ordering.TheVariants.{Equal}
use Rattle.site_vector.specs.declared.ids.TxId.{TxId}
use Rattle.site_vector.specs.Ids.{same_tx}
use Rattle.site_vector.specs.Order.{same_tx_is, same_tx_refl, tx_cmp, tx_cmp_total, tx_cmp_exact}
use Rattle.site_vector.specs.Vector.{entry, sum}
use Rattle.crdt_core.specs.declared.record.Upd.{Upd}
use Rattle.crdt_core.specs.declared.record.Part.{Part}
use Rattle.crdt_core.specs.Orders.{Ascends, is_less, insert_by, sorted_by, fold_cmp, stream_cmp}
use Rattle.crdt_core.specs.Parts.{lists, AreParts}
use Rattle.partition_core.specs.Messages.{AreApart}
use Rattle.partition_core.proofs.Choices.{chosen, or_swap, first_false, second_false}
use Rattle.partition_core.proofs.Sorting.{TiesWithNone, then_equal, ascends_inserted}

-- where x is u, it is among them exactly if it passes
passes : (b p h t l : Bool) → l ≡ (h && t) → (b ≡ true → p ≡ t) → (if p then b || l else l) ≡ ((b || h) && t)
passes true true h t l e q = q refl
passes true false h t l e q = e ∙ ap (λ x. h && x) (sym (q refl)) ∙ none h ∙ q refl
  where
    none : (a : Bool) → (a && false) ≡ false
    none true = refl
    none false = refl
passes false true h t l e q = e
passes false false h t l e q = e

apart_first : (t u : TxId) (b : Bool) → (same_tx u t || b) ≡ false → tx_cmp t u ≢ Equal
apart_first t u b h e = true≢false (sym (same_tx_refl t) ∙ ap (λ v. same_tx v t) (tx_cmp_exact t u e) ∙ first_false (same_tx u t) b h)

module _ {E : Type 0} where
  pub fold_total : IsTotalOrder (fold_cmp {E = E})
  fold_total = then_total (on_total (λ (x : Part E). sum x.c) nat_cmp_total) (on_total (λ (x : Part E). x.tx) tx_cmp_total)

  pub stream_total : (site : ℕ) → IsTotalOrder (stream_cmp {E = E} site)
  stream_total site = then_total (on_total (λ (x : Part E). entry x.c site) nat_cmp_total) (on_total (λ (x : Part E). x.tx) tx_cmp_total)

  pub fold_apart : (y : Part E) (xs : List (Part E)) → lists xs y.tx ≡ false → TiesWithNone fold_cmp y xs
  fold_apart y [] h = tt
  fold_apart y (x ∷ xs) h = ((λ e. apart_first y.tx x.tx (lists xs y.tx) h (then_equal (nat_cmp (sum y.c) (sum x.c)) (tx_cmp y.tx x.tx) e)), fold_apart y xs (second_false (same_tx x.tx y.tx) (lists xs y.tx) h))

  stream_apart : (site : ℕ) (y : Part E) (xs : List (Part E)) → lists xs y.tx ≡ false → TiesWithNone (stream_cmp site) y xs
  stream_apart site y [] h = tt
  stream_apart site y (x ∷ xs) h = ((λ e. apart_first y.tx x.tx (lists xs y.tx) h (then_equal (nat_cmp (entry y.c site) (entry x.c site)) (tx_cmp y.tx x.tx) e)), stream_apart site y xs (second_false (same_tx x.tx y.tx) (lists xs y.tx) h))

  pub lists_inserted : (cmp : Part E → Part E → Ordering) (y : Part E) (xs : List (Part E)) (u : TxId) → lists (insert_by cmp y xs) u ≡ (same_tx y.tx u || lists xs u)
  lists_inserted cmp y [] u = refl
  lists_inserted cmp y (x ∷ xs) u =
      chosen (λ l. lists l u ≡ (same_tx y.tx u || lists (x ∷ xs) u)) (is_less (cmp y x)) (y ∷ x ∷ xs) (x ∷ insert_by cmp y xs)
      (λ k. refl)
      (λ k. ap (λ b. same_tx x.tx u || b) (lists_inserted cmp y xs u) ∙ or_swap (same_tx x.tx u) (same_tx y.tx u) (lists xs u))

  pub parts_inserted : (cmp : Part E → Part E → Ordering) (v : TxId → List ℕ) (c : TxId → List (Upd E)) (y : Part E) (xs : List (Part E)) → AreParts v c xs → (y.c ≡ v y.tx) × (y.updates ≡ c y.tx) → AreParts v c (insert_by cmp y xs)
  parts_inserted cmp v c y [] h e = (e, tt)
  parts_inserted cmp v c y (x ∷ xs) h e =
      chosen (AreParts v c) (is_less (cmp y x)) (y ∷ x ∷ xs) (x ∷ insert_by cmp y xs)
      (λ k. (e, h))
      (λ k. (h.0, parts_inserted cmp v c y xs h.1 e))

  -- what is told of the members alone counts
  pub parts_alike : (v w : TxId → List ℕ) (c d : TxId → List (Upd E)) (xs : List (Part E)) → ((u : TxId) → lists xs u ≡ true → (v u ≡ w u) × (c u ≡ d u)) → AreParts v c xs → AreParts w d xs
  parts_alike v w c d [] f h = tt
  parts_alike v w c d (x ∷ xs) f h =
      let here = f x.tx (or_left _ _ (same_tx_refl x.tx)) in
      ((h.0.0 ∙ here.0, h.0.1 ∙ here.1), parts_alike v w c d xs (λ u k. f u (or_right (same_tx x.tx u) (lists xs u) k)) h.1)

  lists_if : (b : Bool) (x : Part E) (xs : List (Part E)) (u : TxId) → lists (if b then x ∷ xs else xs) u ≡ (if b then same_tx x.tx u || lists xs u else lists xs u)
  lists_if true x xs u = refl
  lists_if false x xs u = refl

  -- the members of a filter, where the test is one of what is told of them
  pub lists_filter : (v : TxId → List ℕ) (c : TxId → List (Upd E)) (q : Part E → Bool) (r : TxId → Bool) (xs : List (Part E)) → AreParts v c xs → ((x : Part E) → x.c ≡ v x.tx → x.updates ≡ c x.tx → q x ≡ r x.tx) → (u : TxId) → lists (filter q xs) u ≡ (lists xs u && r u)
  lists_filter v c q r [] h f u = refl
  lists_filter v c q r (x ∷ xs) h f u =
      lists_if (q x) x (filter q xs) u
      ∙ passes (same_tx x.tx u) (q x) (lists xs u) (r u) (lists (filter q xs) u) (lists_filter v c q r xs h.1 f u) (λ b. f x h.0.0 h.0.1 ∙ ap r (same_tx_is x.tx u b))

  pub parts_filter : (v : TxId → List ℕ) (c : TxId → List (Upd E)) (q : Part E → Bool) (xs : List (Part E)) → AreParts v c xs → AreParts v c (filter q xs)
  parts_filter v c q [] h = tt
  parts_filter v c q (x ∷ xs) h = let rest = parts_filter v c q xs h.1 in chosen (AreParts v c) (q x) (x ∷ filter q xs) (filter q xs) (λ k. (h.0, rest)) (λ k. rest)

  pub lists_sorted : (cmp : Part E → Part E → Ordering) (xs : List (Part E)) (u : TxId) → lists (sorted_by cmp xs) u ≡ lists xs u
  lists_sorted cmp [] u = refl
  lists_sorted cmp (x ∷ xs) u = lists_inserted cmp x (sorted_by cmp xs) u ∙ ap (λ b. same_tx x.tx u || b) (lists_sorted cmp xs u)

  pub parts_sorted : (cmp : Part E → Part E → Ordering) (v : TxId → List ℕ) (c : TxId → List (Upd E)) (xs : List (Part E)) → AreParts v c xs → AreParts v c (sorted_by cmp xs)
  parts_sorted cmp v c [] h = tt
  parts_sorted cmp v c (x ∷ xs) h = parts_inserted cmp v c x (sorted_by cmp xs) (parts_sorted cmp v c xs h.1) h.0

  pub stream_ascends : (site : ℕ) (xs : List (Part E)) → AreApart xs → Ascends (stream_cmp site) (sorted_by (stream_cmp site) xs)
  stream_ascends site [] a = tt
  stream_ascends site (x ∷ xs) a = ascends_inserted (stream_cmp site) (stream_total site) x (sorted_by (stream_cmp site) xs) (stream_ascends site xs a.1) (stream_apart site x (sorted_by (stream_cmp site) xs) (lists_sorted (stream_cmp site) xs x.tx ∙ a.0))
