-- The first entry that a read waits for.
use Rattle.std.proofs.Common.{◌≡◌, ◌≢◌, ⊎_elim, ℕ, ◌<◌, ◌≤◌, leb, Bool, true, false, ◌&&◌, List, [], ◌∷◌, None, Some, sym, ap, ◌∙◌, subst, arith}
use Rattle.std.proofs.lemmas.Bool.{true≢false, cases_Bool, and_parts, or_left, or_right, leb-true, leb-false}
use Rattle.std.proofs.lemmas.Cmp.{nat_cmp_total, on_total, then_total}
use Rattle.std.specs.Cmp.{IsTotalOrder}
use Rattle.std.specs.declared.cmp.Ordering.TheVariants.{Less}
use Rattle.site_vector.specs.declared.ids.TxId.{TxId}
use Rattle.site_vector.specs.Ids.{same_tx}
use Rattle.site_vector.specs.Order.{same_tx_is, same_tx_refl, tx_cmp, tx_cmp_total}
use Rattle.crdt_core.specs.declared.object.ObjectId.{ObjectId}
use Rattle.crdt_core.specs.declared.record.Upd.{Upd}
use Rattle.crdt_core.specs.Orders.{Precede, Ascends, pending_cmp}
use Rattle.crdt_core.specs.Parts.{touches}
use Rattle.prepared_table.specs.declared.entry.Entry.{Entry}
use Rattle.prepared_table.specs.Entries.{has_entry, entry_cmp, first_on}
use Rattle.partition_core.specs.Stands.{AreEntries}
use Rattle.partition_core.proofs.Choices.{taken_first, taken_second, second_true, fails_second}
use Rattle.partition_core.proofs.Sorting.{not_itself, not_back}
use Rattle.partition_core.proofs.EntryLists.{entry_total, later_after}

pending_total : IsTotalOrder pending_cmp
pending_total = then_total (on_total (λ (x : TxId × ℕ). x.1) nat_cmp_total) (on_total (λ (x : TxId × ℕ). x.0) tx_cmp_total)

some_is : {A : Type 0} (x y : A) → Some x ≡ Some y → x ≡ y
some_is x y e = cc

module _ {E : Type 0} (f : TxId → ℕ × ℕ × List ℕ × List (Upd E)) (upto : ℕ) (o : ObjectId) where
  -- the first of those that a read waits for
  pub record IsFirst (xs : List (Entry E)) (z : TxId × ℕ) : Type 0 where
    pub there : has_entry xs z.0 ≡ true
    pub changes : touches (f z.0).3 o ≡ true
    pub time : z.1 ≡ (f z.0).0
    pub early : z.1 ≤ upto
    pub first : (w : TxId) → has_entry xs w ≡ true → touches (f w).3 o ≡ true → pending_cmp (w, (f w).0) z ≢ Less

  abbrev waits : Entry E → Bool
  waits x = touches x.updates o && leb x.time upto

  later_than : (x : Entry E) (xs : List (Entry E)) (w : TxId) → Precede entry_cmp x xs → AreEntries f xs → has_entry xs w ≡ true → pending_cmp (x.tx, x.time) (w, (f w).0) ≡ Less
  later_than x [] w p h k = absurd (true≢false (sym k))
  later_than x (y ∷ xs) w p h k = ⊎_elim
      (λ (s : same_tx y.tx w ≡ true). subst (λ v. pending_cmp (x.tx, x.time) (v, (f v).0) ≡ Less) (same_tx_is y.tx w s) (subst (λ n. pending_cmp (x.tx, x.time) (y.tx, n) ≡ Less) (ap (λ q. q.0) h.0) p.0))
      (λ (s : same_tx y.tx w ≡ false). later_than x xs w p.1 h.1 (second_true (same_tx y.tx w) (has_entry xs w) s k))
      (cases_Bool (same_tx y.tx w))

  here_first : (x : Entry E) (xs : List (Entry E)) → AreEntries f (x ∷ xs) → Ascends entry_cmp (x ∷ xs) → waits x ≡ true → IsFirst (x ∷ xs) (x.tx, x.time)
  here_first x xs h a k = record {
    there = or_left _ _ (same_tx_refl x.tx);
    changes = ap (λ q. touches q.3 o) (sym h.0) ∙ (and_parts (touches x.updates o) (leb x.time upto) k).0;
    time = ap (λ q. q.0) h.0;
    early = leb-true x.time upto (and_parts (touches x.updates o) (leb x.time upto) k).1;
    first = λ w there changes. ⊎_elim
        (λ (s : same_tx x.tx w ≡ true). subst (λ v. pending_cmp (v, (f v).0) (x.tx, x.time) ≢ Less) (same_tx_is x.tx w s) (λ l. not_itself entry_cmp entry_total x ((λ i. pending_cmp (x.tx, (h.0 i).0) (x.tx, x.time)) ∙ l)))
        (λ (s : same_tx x.tx w ≡ false). not_back pending_cmp pending_total (x.tx, x.time) (w, (f w).0) (later_than x xs w a.0 h.1 (second_true (same_tx x.tx w) (has_entry xs w) s there)))
        (cases_Bool (same_tx x.tx w));
  }

  too_late : (x : Entry E) (w : TxId) → (x.time, x.lead, x.s, x.updates) ≡ f x.tx → x.tx ≡ w → waits x ≡ false → touches (f w).3 o ≡ true → upto < x.time
  too_late x w h e k changes = leb-false x.time upto (fails_second (touches x.updates o) (leb x.time upto) k (ap (λ q. touches q.3 o) (h ∙ ap f e) ∙ changes))

  there_first : (x : Entry E) (xs : List (Entry E)) (z : TxId × ℕ) → AreEntries f (x ∷ xs) → waits x ≡ false → IsFirst xs z → IsFirst (x ∷ xs) z
  there_first x xs z h k r = record {
    there = or_right (same_tx x.tx z.0) (has_entry xs z.0) r.there;
    changes = r.changes;
    time = r.time;
    early = r.early;
    first = λ w there changes. ⊎_elim
        (λ (s : same_tx x.tx w ≡ true).
        let e = same_tx_is x.tx w s in
        let late : upto < x.time = too_late x w h.0 e k changes in
        subst (λ v. pending_cmp (v, (f v).0) z ≢ Less) e (subst (λ n. pending_cmp (x.tx, n) z ≢ Less) (ap (λ q. q.0) h.0) (later_after x.time z.1 (tx_cmp x.tx z.0) (let a = r.early in omega arith))))
        (λ (s : same_tx x.tx w ≡ false). r.first w (second_true (same_tx x.tx w) (has_entry xs w) s there) changes)
        (cases_Bool (same_tx x.tx w));
  }

  pub first_found : (xs : List (Entry E)) (z : TxId × ℕ) → AreEntries f xs → Ascends entry_cmp xs → first_on o upto xs ≡ Some z → IsFirst xs z
  first_found [] z h a e = cc
  first_found (x ∷ xs) z h a e = ⊎_elim
      (λ (k : waits x ≡ true). subst (λ y. IsFirst (x ∷ xs) y) (some_is _ _ (taken_first (waits x) (Some (x.tx, x.time)) (first_on o upto xs) (Some z) e k)) (here_first x xs h a k))
      (λ (k : waits x ≡ false). there_first x xs z h k (first_found xs z h.1 a.1 (taken_second (waits x) (Some (x.tx, x.time)) (first_on o upto xs) (Some z) e k)))
      (cases_Bool (waits x))

  none_is : (z : TxId × ℕ) → Some z ≡ None → ⊥
  none_is z e = cc

  pub none_found : (xs : List (Entry E)) → AreEntries f xs → first_on o upto xs ≡ None → (w : TxId) → has_entry xs w ≡ true → touches (f w).3 o ≡ true → upto < (f w).0
  none_found [] h e w k c = absurd (true≢false (sym k))
  none_found (x ∷ xs) h e w k c = ⊎_elim
      (λ (t : waits x ≡ true). absurd (none_is _ (taken_first (waits x) (Some (x.tx, x.time)) (first_on o upto xs) None e t)))
      (λ (t : waits x ≡ false). ⊎_elim
      (λ (s : same_tx x.tx w ≡ true).
      let same = same_tx_is x.tx w s in
      subst (λ n. upto < n) (ap (λ q. q.0) (h.0 ∙ ap f same)) (too_late x w h.0 same t c))
      (λ (s : same_tx x.tx w ≡ false). none_found xs h.1 (taken_second (waits x) (Some (x.tx, x.time)) (first_on o upto xs) None e t) w (second_true (same_tx x.tx w) (has_entry xs w) s k) c)
      (cases_Bool (same_tx x.tx w)))
      (cases_Bool (waits x))
