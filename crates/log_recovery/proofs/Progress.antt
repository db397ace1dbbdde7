-- A log that is read record by record, and what it comes to.
use Rattle.std.proofs.Common.{◌≡◌, ◌⊎◌, inl, inr, ⊎_elim, ℕ, ◌≤◌, ◌<◌, ◌+◌, ◌-◌, min, true, false, ◌||◌, List, [], ◌∷◌, ◌++◌, length, reverse, None, refl, sym, ap, ◌∙◌, subst, arith}
use Rattle.std.proofs.lemmas.Bool.{true≢false, cases_Bool, cases_lt, or_left, or_right}
use Rattle.std.proofs.lemmas.List.{reverse-append, append-nil, append_assoc}
use Rattle.site_vector.specs.declared.ids.PartId.{PartId}
use Rattle.site_vector.specs.declared.ids.TxId.{TxId}
use Rattle.site_vector.specs.Ids.{same_tx}
use Rattle.site_vector.specs.Order.{same_tx_is, same_tx_refl}
use Rattle.site_vector.specs.Vector.{replaced}
use Rattle.crdt_core.specs.declared.record.Upd.{Upd}
use Rattle.crdt_core.specs.declared.record.Record.{Record}
use Rattle.crdt_core.specs.Fitting.{unfit, unfit_under}
use Rattle.crdt_core.specs.Log.{ceiling, pending, prepare_time, held_at, held_changes, grown}
use Rattle.prepared_table.specs.declared.entry.Entry.{Entry}
use Rattle.prepared_table.specs.Entries.{has_entry}
use Rattle.log_recovery.specs.declared.ledger.Ledger.{Ledger}
use Rattle.log_recovery.specs.Lists.{told, AreEntries, least_below}
use Rattle.log_recovery.specs.Ledgers.{IsLedger, IsNext, Reads}
use Rattle.log_recovery.specs.Recovered.{IsPending, IsCommitted, IsOwnBound, AreKnown}
use Rattle.log_recovery.specs.FittingLaws.{pending_home, held_wide, front_fits}
use Rattle.log_recovery.proofs.Choices.{second_true}
use Rattle.log_recovery.proofs.EntryLists.{entries_wide}
use Rattle.log_recovery.proofs.PartLists.{parts_wide}
use Rattle.log_recovery.proofs.Records.{can_read}
use Rattle.log_recovery.proofs.Replacing.{entry_replaced, entry_other, width_replaced}

module _ {E : Type 0} where
  pub grown_is : (log rs : List (Record E)) → grown log rs ≡ reverse rs ++ log
  grown_is log [] = refl
  grown_is log (r ∷ rs) = grown_is (r ∷ log) rs ∙ sym (ap (λ l. l ++ log) (reverse-append (r ∷ []) rs) ∙ append_assoc (reverse rs) (r ∷ []) log)

  pub whole_is : (rs : List (Record E)) → grown [] rs ≡ reverse rs
  whole_is rs = grown_is [] rs ∙ append-nil (reverse rs)

  -- of the whole log a front is read, and the rest is to come
  pub record IsProgress (sites : ℕ) (whole rest : List (Record E)) (l : Ledger E) : Type 0 where
    pub log : List (Record E)
    pub read : IsLedger log l
    pub left : grown log rest ≡ whole
    pub width : length l.bounds ≡ sites

  pub progress_start : (sites : ℕ) (rs : List (Record E)) (l : Ledger E) → IsLedger [] l → length l.bounds ≡ sites → IsProgress sites (reverse rs) rs l
  progress_start sites rs l h w = record { log = []; read = h; left = whole_is rs; width = w }

  fits_next : (sites parts : ℕ) (id : PartId) (top : ℕ) (whole log rest : List (Record E)) (r : Record E) → unfit_under sites parts id top whole ≡ None → grown log (r ∷ rest) ≡ whole → unfit_under sites parts id top (r ∷ log) ≡ None
  fits_next sites parts id top whole log rest r f e = front_fits sites parts id top (r ∷ log) rest (subst (λ l. unfit_under sites parts id top l ≡ None) (sym e) f)

  pub progress_next : (sites parts : ℕ) (id : PartId) (top : ℕ) (whole all rest : List (Record E)) (r : Record E) (l : Ledger E) → unfit_under sites parts id top whole ≡ None → all ≡ r ∷ rest → IsProgress sites whole all l → IsNext l r
  progress_next sites parts id top whole all rest r l f e p = can_read sites parts id top p.log l r p.read p.width (fits_next sites parts id top whole p.log rest r f (ap (λ x. grown p.log x) (sym e) ∙ p.left))

  pub progress_more : (sites parts : ℕ) (id : PartId) (top : ℕ) (whole all rest : List (Record E)) (r : Record E) (old new : Ledger E) → unfit_under sites parts id top whole ≡ None → all ≡ r ∷ rest → IsProgress sites whole all old → Reads old r new → length new.bounds ≡ length old.bounds
      → IsProgress sites whole rest new
  progress_more sites parts id top whole all rest r old new f e p reads w =
      let left : grown p.log (r ∷ rest) ≡ whole = ap (λ x. grown p.log x) (sym e) ∙ p.left in
      record { log = r ∷ p.log; read = reads sites parts id top p.log p.read (fits_next sites parts id top whole p.log rest r f left); left = left; width = w ∙ p.width }

  pub progress_end : (sites : ℕ) (whole all : List (Record E)) (l : Ledger E) → all ≡ [] → IsProgress sites whole all l → IsLedger whole l
  progress_end sites whole all l e p = subst (λ log. IsLedger log l) (ap (λ x. grown p.log x) (sym e) ∙ p.left) p.read

  -- the least time and what is one below the prepare times
  pub least_most : (n : ℕ) (xs : List (Entry E)) → least_below n xs ≤ n
  least_most n [] = omega arith
  least_most n (x ∷ xs) = let a = least_most (min n (x.time - 1)) xs in omega (arith, a)

  least_under : (f : TxId → ℕ × ℕ × List ℕ × List (Upd E)) (n : ℕ) (xs : List (Entry E)) → AreEntries f xs → (u : TxId) → 1 ≤ (f u).0 → has_entry xs u ≡ true → least_below n xs < (f u).0
  least_under f n [] h u low k = absurd (true≢false (sym k))
  least_under f n (x ∷ xs) h u low k = ⊎_elim
      (λ (e : same_tx x.tx u ≡ true).
      let time : x.time ≡ (f u).0 = ap (λ q. q.0) h.0 ∙ ap (λ t. (f t).0) (same_tx_is x.tx u e) in
      let a = least_most (min n (x.time - 1)) xs in
      omega (arith, time, a, low))
      (λ (e : same_tx x.tx u ≡ false). least_under f (min n (x.time - 1)) xs h.1 u low (second_true (same_tx x.tx u) (has_entry xs u) e k))
      (cases_Bool (same_tx x.tx u))

  least_reached : (f : TxId → ℕ × ℕ × List ℕ × List (Upd E)) (n : ℕ) (xs : List (Entry E)) → AreEntries f xs → ((u : TxId) → has_entry xs u ≡ true → 1 ≤ (f u).0) → (least_below n xs ≡ n) ⊎ ((u : TxId) × (has_entry xs u ≡ true) × ((f u).0 ≡ least_below n xs + 1))
  least_reached f n [] h low = inl refl
  least_reached f n (x ∷ xs) h low =
      let here : same_tx x.tx x.tx || has_entry xs x.tx ≡ true = or_left _ _ (same_tx_refl x.tx) in
      let time : x.time ≡ (f x.tx).0 = ap (λ q. q.0) h.0 in
      let first = low x.tx here in ⊎_elim
      (λ (e : least_below (min n (x.time - 1)) xs ≡ min n (x.time - 1)). ⊎_elim
      (λ (l : n < x.time). inl (let m : min n (x.time - 1) ≡ n = omega (arith, l) in e ∙ m))
      (λ (l : x.time ≤ n). inr (x.tx, here, (let m : (f x.tx).0 ≡ min n (x.time - 1) + 1 = omega (arith, l, time, first) in m ∙ ap (λ k. k + 1) (sym e))))
      (cases_lt n x.time))
      (λ (e : (u : TxId) × (has_entry xs u ≡ true) × ((f u).0 ≡ least_below (min n (x.time - 1)) xs + 1)). inr (e.0, or_right (same_tx x.tx e.0) (has_entry xs e.0) e.1, e.2))
      (least_reached f (min n (x.time - 1)) xs h.1 (λ u k. low u (or_right (same_tx x.tx u) (has_entry xs u) k)))

  module _ (sites parts : ℕ) (id : PartId) (log : List (Record E)) (f : unfit sites parts id log ≡ None) (l : Ledger E) (h : IsLedger log l) where
    pub pending_is : IsPending sites log l.waiting
    pending_is = record {
      members = h.waiting.members;
      exact = h.waiting.exact;
      single = h.waiting.single;
      wide = entries_wide sites (told log) l.waiting h.waiting.exact (λ u k. (pending_home sites parts id (ceiling log) log f u (sym (h.waiting.members u) ∙ k)).wide);
    }

    pub committed_is : IsCommitted sites log l.committed
    committed_is = record {
      members = h.committed.members;
      exact = h.committed.exact;
      apart = h.committed.apart;
      wide = parts_wide sites (held_at log) (held_changes log) l.committed h.committed.exact (λ u k. held_wide sites parts id (ceiling log) log f u (sym (h.committed.members u) ∙ k));
    }

    timed : (u : TxId) → pending log u ≡ true → 1 ≤ prepare_time log u
    timed u k = (pending_home sites parts id (ceiling log) log f u k).timed

    own_is : IsOwnBound (ceiling log) log (least_below l.ceiling l.waiting)
    own_is = subst (λ n. IsOwnBound n log (least_below l.ceiling l.waiting)) h.ceiling (record {
      most = least_most l.ceiling l.waiting;
      below = λ u k. least_under (told log) l.ceiling l.waiting h.waiting.exact u (timed u k) (h.waiting.members u ∙ k);
      reached = ⊎_elim
          (λ (e : least_below l.ceiling l.waiting ≡ l.ceiling). inl e)
          (λ (e : (u : TxId) × (has_entry l.waiting u ≡ true) × (prepare_time log u ≡ least_below l.ceiling l.waiting + 1)). inr (e.0, sym (h.waiting.members e.0) ∙ e.1, e.2))
          (least_reached (told log) l.ceiling l.waiting h.waiting.exact (λ u k. timed u (sym (h.waiting.members u) ∙ k)));
    })

    pub known_is : length l.bounds ≡ sites → 1 ≤ id.site → id.site ≤ sites → AreKnown sites id.site log (replaced l.bounds id.site (least_below l.ceiling l.waiting))
    known_is w low high =
        let own = least_below l.ceiling l.waiting in record {
          width = width_replaced l.bounds id.site own ∙ w;
          others = λ j least most apart. entry_other l.bounds id.site own j low least apart ∙ h.bounds j least (omega (arith, most, w));
          own = subst (λ n. IsOwnBound (ceiling log) log n) (sym (entry_replaced l.bounds id.site own low (omega (arith, high, w)))) own_is;
        }
