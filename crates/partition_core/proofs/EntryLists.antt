-- Lists of pending transactions: one more, and one less.
use Rattle.std.proofs.Common.{◌≡◌, ◌≢◌, ⊎_elim, ℕ, ◌<◌, ◌≤◌, true, false, ◌||◌, List, [], ◌∷◌, ◌++◌, refl, sym, ap, ◌∙◌, subst}
use Rattle.std.proofs.lemmas.Bool.{true≢false, cases_Bool, false_from_ne_true, or_left, or_right, cases_lt}
use Rattle.std.proofs.lemmas.Cmp.{nat_cmp_total, on_total, then_total}
use Rattle.std.specs.Cmp.{IsTotalOrder, nat_cmp_is}
use Rattle.std.specs.Ordering.{nat_cmp, ordering_then}
use Rattle.std.specs.declared.cmp.Ordering.{Ordering}
use Rattle.std.specs.declared.cmp.Ordering.TheVariants.{Less, Greater}
use Rattle.site_vector.specs.declared.ids.TxId.{TxId}
use Rattle.site_vector.specs.Ids.{same_tx}
use Rattle.site_vector.specs.Order.{same_tx_is, same_tx_refl, tx_cmp, tx_cmp_total, tx_cmp_exact}
use Rattle.crdt_core.specs.declared.record.Upd.{Upd}
use Rattle.crdt_core.specs.Orders.{Precede, Ascends, is_less, insert_by}
use Rattle.prepared_table.specs.declared.entry.Entry.{Entry}
use Rattle.prepared_table.specs.Entries.{has_entry, entry_cmp}
use Rattle.partition_core.specs.Stands.{AreEntries}
use Rattle.partition_core.proofs.Choices.{chosen, or_swap, or_falses, first_false, second_false, second_true}
use Rattle.partition_core.proofs.Sorting.{TiesWithNone, then_equal, not_itself, precede_back}

-- a later time comes after
pub later_after : (m n : ℕ) (r : Ordering) → n < m → ordering_then (nat_cmp m n) r ≢ Less
later_after m n r l e = let g : Greater ≡ nat_cmp m n = nat_cmp_is m n Greater l in let k : Greater ≡ Less = ap (λ q. ordering_then q r) g ∙ e in cc

module _ {E : Type 0} where
  pub entry_total : IsTotalOrder (entry_cmp {E = E})
  entry_total = then_total (on_total (λ (x : Entry E). x.time) nat_cmp_total) (on_total (λ (x : Entry E). x.tx) tx_cmp_total)

  pub entries_apart : (y : Entry E) (xs : List (Entry E)) → has_entry xs y.tx ≡ false → TiesWithNone entry_cmp y xs
  entries_apart y [] h = tt
  entries_apart y (x ∷ xs) h = ((λ e. true≢false (sym (same_tx_refl y.tx) ∙ ap (λ v. same_tx v y.tx) (tx_cmp_exact y.tx x.tx (then_equal (nat_cmp y.time x.time) (tx_cmp y.tx x.tx) e)) ∙ first_false (same_tx x.tx y.tx) (has_entry xs y.tx) h)), entries_apart y xs (second_false (same_tx x.tx y.tx) (has_entry xs y.tx) h))

  pub has_inserted : (y : Entry E) (xs : List (Entry E)) (u : TxId) → has_entry (insert_by entry_cmp y xs) u ≡ (same_tx y.tx u || has_entry xs u)
  has_inserted y [] u = refl
  has_inserted y (x ∷ xs) u =
      chosen (λ l. has_entry l u ≡ (same_tx y.tx u || has_entry (x ∷ xs) u)) (is_less (entry_cmp y x)) (y ∷ x ∷ xs) (x ∷ insert_by entry_cmp y xs)
      (λ k. refl)
      (λ k. ap (λ b. same_tx x.tx u || b) (has_inserted y xs u) ∙ or_swap (same_tx x.tx u) (same_tx y.tx u) (has_entry xs u))

  pub entries_inserted : (f : TxId → ℕ × ℕ × List ℕ × List (Upd E)) (y : Entry E) (xs : List (Entry E)) → AreEntries f xs → (y.time, y.lead, y.s, y.updates) ≡ f y.tx → AreEntries f (insert_by entry_cmp y xs)
  entries_inserted f y [] h e = (e, tt)
  entries_inserted f y (x ∷ xs) h e =
      chosen (AreEntries f) (is_less (entry_cmp y x)) (y ∷ x ∷ xs) (x ∷ insert_by entry_cmp y xs)
      (λ k. (e, h))
      (λ k. (h.0, entries_inserted f y xs h.1 e))

  -- what is told of the members alone counts
  pub entries_alike : (f g : TxId → ℕ × ℕ × List ℕ × List (Upd E)) (xs : List (Entry E)) → ((u : TxId) → has_entry xs u ≡ true → f u ≡ g u) → AreEntries f xs → AreEntries g xs
  entries_alike f g [] k h = tt
  entries_alike f g (x ∷ xs) k h = (h.0 ∙ k x.tx (or_left _ _ (same_tx_refl x.tx)), entries_alike f g xs (λ u e. k u (or_right (same_tx x.tx u) (has_entry xs u) e)) h.1)

  pub has_between : (xs : List (Entry E)) (y : Entry E) (ys : List (Entry E)) (u : TxId) → has_entry (xs ++ y ∷ ys) u ≡ (same_tx y.tx u || has_entry (xs ++ ys) u)
  has_between [] y ys u = refl
  has_between (x ∷ xs) y ys u = ap (λ b. same_tx x.tx u || b) (has_between xs y ys u) ∙ or_swap (same_tx x.tx u) (same_tx y.tx u) (has_entry (xs ++ ys) u)

  pub entries_without : (f : TxId → ℕ × ℕ × List ℕ × List (Upd E)) (xs : List (Entry E)) (y : Entry E) (ys : List (Entry E)) → AreEntries f (xs ++ y ∷ ys) → AreEntries f (xs ++ ys)
  entries_without f [] y ys h = h.1
  entries_without f (x ∷ xs) y ys h = (h.0, entries_without f xs y ys h.1)

  -- the entry in the middle
  pub entry_there : (f : TxId → ℕ × ℕ × List ℕ × List (Upd E)) (xs : List (Entry E)) (y : Entry E) (ys : List (Entry E)) → AreEntries f (xs ++ y ∷ ys) → (y.time, y.lead, y.s, y.updates) ≡ f y.tx
  entry_there f [] y ys h = h.0
  entry_there f (x ∷ xs) y ys h = entry_there f xs y ys h.1

  -- no two entries are of one transaction
  alone_after : (f : TxId → ℕ × ℕ × List ℕ × List (Upd E)) (x : Entry E) (ys : List (Entry E)) → (x.time, x.lead, x.s, x.updates) ≡ f x.tx → Precede entry_cmp x ys → AreEntries f ys → has_entry ys x.tx ≡ false
  alone_after f x [] e p h = refl
  alone_after f x (y ∷ ys) e p h = or_falses _ _
      (false_from_ne_true _ (λ s.
      let t = same_tx_is y.tx x.tx s in
      let n : y.time ≡ x.time = ap (λ z. z.0) (h.0 ∙ ap f t ∙ sym e) in
      not_itself entry_cmp entry_total x (sym (λ i. ordering_then (nat_cmp x.time (n i)) (tx_cmp x.tx (t i))) ∙ p.0)))
      (alone_after f x ys e p.1 h.1)

  pub alone : (f : TxId → ℕ × ℕ × List ℕ × List (Upd E)) (xs : List (Entry E)) (y : Entry E) (ys : List (Entry E)) → Ascends entry_cmp (xs ++ y ∷ ys) → AreEntries f (xs ++ y ∷ ys) → has_entry (xs ++ ys) y.tx ≡ false
  alone f [] y ys a h = alone_after f y ys h.0 a.0 h.1
  alone f (x ∷ xs) y ys a h = or_falses _ _
      (false_from_ne_true _ (λ s.
      let t = same_tx_is x.tx y.tx s in
      let n : x.time ≡ y.time = ap (λ z. z.0) (h.0 ∙ ap f t ∙ sym (entry_there f xs y ys h.1)) in
      not_itself entry_cmp entry_total x ((λ i. ordering_then (nat_cmp x.time (n i)) (tx_cmp x.tx (t i))) ∙ (precede_back entry_cmp x xs (y ∷ ys) a.0).0)))
      (alone f xs y ys a.1 h.1)

  -- who comes before another is no later
  no_later : (x y : Entry E) → entry_cmp x y ≡ Less → x.time ≤ y.time
  no_later x y e = ⊎_elim (λ (k : y.time < x.time). absurd (later_after x.time y.time (tx_cmp x.tx y.tx) k e)) (λ (k : x.time ≤ y.time). k) (cases_lt y.time x.time)

  pub least_of : (f : TxId → ℕ × ℕ × List ℕ × List (Upd E)) (x : Entry E) (ys : List (Entry E)) → Precede entry_cmp x ys → AreEntries f ys → (u : TxId) → has_entry ys u ≡ true → x.time ≤ (f u).0
  least_of f x [] p h u k = absurd (true≢false (sym k))
  least_of f x (y ∷ ys) p h u k = ⊎_elim
      (λ (s : same_tx y.tx u ≡ true). subst (λ n. x.time ≤ n) (ap (λ q. q.0) (h.0 ∙ ap f (same_tx_is y.tx u s))) (no_later x y p.0))
      (λ (s : same_tx y.tx u ≡ false). least_of f x ys p.1 h.1 u (second_true (same_tx y.tx u) (has_entry ys u) s k))
      (cases_Bool (same_tx y.tx u))
