-- The first entry of a transaction.
use Rattle.std.proofs.Common.{◌≡◌, ℕ, suc, zero, ◌<◌, true, List, [], ◌∷◌, length, get_or, drop, cond, Some, sym, ap, ◌∙◌, arith}
use Rattle.std.specs.Prelude.{slice_get}
use Rattle.site_vector.specs.declared.ids.TxId.{TxId}
use Rattle.site_vector.specs.Ids.{same_tx}
use Rattle.prepared_table.specs.declared.entry.Entry.{Entry}
use Rattle.prepared_table.specs.Entries.{found}

module _ {E : Type 0} where
  found_drop : (t : TxId) (xs : List (Entry E)) (i : ℕ) (x : Entry E) → i < length xs → x ≡ get_or xs i x → same_tx x.tx t ≡ true → found t (drop i xs) ≡ slice_get xs i
  found_drop t [] i x l e s = absurd (omega arith)
  found_drop t (y ∷ xs) zero x l e s = ap (λ b. cond b (Some y) (found t xs)) (ap (λ (z : Entry E). same_tx z.tx t) (sym e) ∙ s)
  found_drop t (y ∷ xs) (suc i) x l e s = found_drop t xs i x (omega arith) e s

  pub found_at : (t : TxId) (xs : List (Entry E)) (i : ℕ) (x : Entry E) → found t xs ≡ found t (drop i xs) → i < length xs → x ≡ get_or xs i x → same_tx x.tx t ≡ true → (i < length xs) × (found t xs ≡ slice_get xs i)
  found_at t xs i x f l e s = (l, f ∙ found_drop t xs i x l e s)
