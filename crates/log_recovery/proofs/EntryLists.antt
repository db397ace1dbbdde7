-- Lists of pending transactions: one more, and one less.
use Rattle.std.proofs.Common.{◌≡◌, ℕ, true, false, ◌||◌, List, [], ◌∷◌, ◌++◌, length, refl, sym, ap, ◌∙◌}
use Rattle.std.proofs.lemmas.Bool.{or_left, or_right, or_parts, or_from}
use Rattle.site_vector.specs.declared.ids.TxId.{TxId}
use Rattle.site_vector.specs.Ids.{same_tx}
use Rattle.site_vector.specs.Order.{same_tx_refl, same_tx_symm}
use Rattle.crdt_core.specs.declared.record.Upd.{Upd}
use Rattle.prepared_table.specs.declared.entry.Entry.{Entry}
use Rattle.prepared_table.specs.Entries.{has_entry}
use Rattle.log_recovery.specs.Lists.{AreEntries, AreSingle, AreWideEntries}
use Rattle.log_recovery.proofs.Choices.{or_swap}

module _ {E : Type 0} where
  pub has_push : (xs : List (Entry E)) (y : Entry E) (u : TxId) → has_entry (xs ++ y ∷ []) u ≡ (same_tx y.tx u || has_entry xs u)
  has_push [] y u = refl
  has_push (x ∷ xs) y u = ap (λ b. same_tx x.tx u || b) (has_push xs y u) ∙ or_swap (same_tx x.tx u) (same_tx y.tx u) (has_entry xs u)

  pub entries_push : (f : TxId → ℕ × ℕ × List ℕ × List (Upd E)) (xs : List (Entry E)) (y : Entry E) → AreEntries f xs → (y.time, y.lead, y.s, y.updates) ≡ f y.tx → AreEntries f (xs ++ y ∷ [])
  entries_push f [] y h e = (e, tt)
  entries_push f (x ∷ xs) y h e = (h.0, entries_push f xs y h.1 e)

  pub single_push : (xs : List (Entry E)) (y : Entry E) → AreSingle xs → has_entry xs y.tx ≡ false → AreSingle (xs ++ y ∷ [])
  single_push [] y h n = (refl, tt)
  single_push (x ∷ xs) y h n =
      let p = or_parts (same_tx x.tx y.tx) (has_entry xs y.tx) n in
      (has_push xs y x.tx ∙ or_from (same_tx y.tx x.tx) (has_entry xs x.tx) (same_tx_symm y.tx x.tx ∙ p.0) h.0, single_push xs y h.1 p.1)

  -- what is told of the members alone counts
  pub entries_alike : (f g : TxId → ℕ × ℕ × List ℕ × List (Upd E)) (xs : List (Entry E)) → ((u : TxId) → has_entry xs u ≡ true → f u ≡ g u) → AreEntries f xs → AreEntries g xs
  entries_alike f g [] k h = tt
  entries_alike f g (x ∷ xs) k h = (h.0 ∙ k x.tx (or_left _ _ (same_tx_refl x.tx)), entries_alike f g xs (λ u e. k u (or_right (same_tx x.tx u) (has_entry xs u) e)) h.1)

  pub has_between : (xs : List (Entry E)) (y : Entry E) (ys : List (Entry E)) (u : TxId) → has_entry (xs ++ y ∷ ys) u ≡ (same_tx y.tx u || has_entry (xs ++ ys) u)
  has_between [] y ys u = refl
  has_between (x ∷ xs) y ys u = ap (λ b. same_tx x.tx u || b) (has_between xs y ys u) ∙ or_swap (same_tx x.tx u) (same_tx y.tx u) (has_entry (xs ++ ys) u)

  pub entries_without : (f : TxId → ℕ × ℕ × List ℕ × List (Upd E)) (xs : List (Entry E)) (y : Entry E) (ys : List (Entry E)) → AreEntries f (xs ++ y ∷ ys) → AreEntries f (xs ++ ys)
  entries_without f [] y ys h = h.1
  entries_without f (x ∷ xs) y ys h = (h.0, entries_without f xs y ys h.1)

  -- the entry in the middle
  pub entry_there : (f : TxId → ℕ × ℕ × List ℕ × List (Upd E)) (xs : List (Entry E)) (y : Entry E) (ys : List (Entry E)) → AreEntries f (xs ++ y ∷ ys) → (y.time, y.lead, y.s, y.updates) ≡ f y.tx
  entry_there f [] y ys h = h.0
  entry_there f (x ∷ xs) y ys h = entry_there f xs y ys h.1

  pub alone : (xs : List (Entry E)) (y : Entry E) (ys : List (Entry E)) → AreSingle (xs ++ y ∷ ys) → has_entry (xs ++ ys) y.tx ≡ false
  alone [] y ys h = h.0
  alone (x ∷ xs) y ys h =
      let p = or_parts (same_tx y.tx x.tx) (has_entry (xs ++ ys) x.tx) (sym (has_between xs y ys x.tx) ∙ h.0) in
      or_from (same_tx x.tx y.tx) (has_entry (xs ++ ys) y.tx) (same_tx_symm x.tx y.tx ∙ p.0) (alone xs y ys h.1)

  pub single_without : (xs : List (Entry E)) (y : Entry E) (ys : List (Entry E)) → AreSingle (xs ++ y ∷ ys) → AreSingle (xs ++ ys)
  single_without [] y ys h = h.1
  single_without (x ∷ xs) y ys h = ((or_parts (same_tx y.tx x.tx) (has_entry (xs ++ ys) x.tx) (sym (has_between xs y ys x.tx) ∙ h.0)).1, single_without xs y ys h.1)

  -- a width that all snapshots have that are told
  pub entries_wide : (sites : ℕ) (f : TxId → ℕ × ℕ × List ℕ × List (Upd E)) (xs : List (Entry E)) → AreEntries f xs → ((u : TxId) → has_entry xs u ≡ true → length ((f u).2) ≡ sites) → AreWideEntries sites xs
  entries_wide sites f [] h w = tt
  entries_wide sites f (x ∷ xs) h w = (ap (λ q. length (q.2)) h.0 ∙ w x.tx (or_left _ _ (same_tx_refl x.tx)), entries_wide sites f xs h.1 (λ u e. w u (or_right (same_tx x.tx u) (has_entry xs u) e)))
