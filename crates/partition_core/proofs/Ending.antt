-- The records that end a transaction: its entry goes, and with a commit its part comes.
use Rattle.std.proofs.Common.{◌≡◌, ⊎_elim, ℕ, Bool, true, false, not, ◌&&◌, ◌||◌, List, ◌∷◌, ◌++◌, refl, sym, ap, ◌∙◌, subst}
use Rattle.std.specs.Prelude.{if◌then◌else◌}
use Rattle.std.proofs.lemmas.Bool.{true≢false, cases_Bool, false_from_ne_true, or_left}
use Rattle.site_vector.specs.declared.ids.TxId.{TxId}
use Rattle.site_vector.specs.Ids.{same_tx}
use Rattle.site_vector.specs.Order.{same_tx_is, same_tx_refl}
use Rattle.crdt_core.specs.declared.record.Part.{Part}
use Rattle.crdt_core.specs.declared.record.Record.{Record}
use Rattle.crdt_core.specs.declared.record.Record.TheVariants.{Decide, Finish, Abort}
use Rattle.crdt_core.specs.Log.{prepared, prepared_changes, committed, committed_at, aborted, pending, taken, taken_at, taken_changes, held_at, held_changes}
use Rattle.crdt_core.specs.Orders.{insert_by, fold_cmp}
use Rattle.crdt_core.specs.Parts.{lists}
use Rattle.prepared_table.specs.declared.entry.Entry.{Entry}
use Rattle.prepared_table.specs.Entries.{has_entry, entry_cmp}
use Rattle.partition_core.specs.Stands.{told, Tells}
use Rattle.partition_core.proofs.Choices.{or_join, or_falses, and_none, second_true, not_committed}
use Rattle.partition_core.proofs.Sorting.{ascends_without, ascends_inserted}
use Rattle.partition_core.proofs.PartLists.{fold_total, fold_apart, lists_inserted, parts_inserted, parts_alike}
use Rattle.partition_core.proofs.EntryLists.{has_between, entries_without, entry_there, alone}

-- what ends waits no more, and all others as before
leaves : (b h p c a : Bool) → (b || h) ≡ (p && not (c || a)) → (b ≡ true → h ≡ false) → h ≡ (p && not ((b || c) || a))
leaves true h p c a e f = f refl ∙ sym (and_none p)
leaves false h p c a e f = e

stops : (b h p c a : Bool) → (b || h) ≡ (p && not (c || a)) → (b ≡ true → h ≡ false) → h ≡ (p && not (c || (b || a)))
stops true h p true a e f = f refl ∙ sym (and_none p)
stops true h p false a e f = f refl ∙ sym (and_none p)
stops false h p c a e f = e

waited : (b p c a : Bool) → (p && not ((b || c) || a)) ≡ true → (p && not (c || a)) ≡ true
waited true p c a h = absurd (true≢false (sym h ∙ and_none p))
waited false p c a h = h

waited_too : (b p c a : Bool) → (p && not (c || (b || a))) ≡ true → (p && not (c || a)) ≡ true
waited_too true p true a h = absurd (true≢false (sym h ∙ and_none p))
waited_too true p false a h = absurd (true≢false (sym h ∙ and_none p))
waited_too false p c a h = h

module _ {E : Type 0} (log : List (Record E)) (site m : ℕ) (xs : List (Entry E)) (y : Entry E) (ys : List (Entry E)) (ps : List (Part E)) (h : Tells log site m (xs ++ y ∷ ys) ps) where
  there : (u : TxId) → (same_tx y.tx u || has_entry (xs ++ ys) u) ≡ pending log u
  there u = sym (has_between xs y ys u) ∙ h.table.members u

  pub waits : pending log y.tx ≡ true
  waits = sym (there y.tx) ∙ or_left _ _ (same_tx_refl y.tx)

  gone_at : (u : TxId) → same_tx y.tx u ≡ true → has_entry (xs ++ ys) u ≡ false
  gone_at u s = subst (λ v. has_entry (xs ++ ys) v ≡ false) (same_tx_is y.tx u s) (alone (told log) xs y ys h.table.order h.table.exact)

  pub abort_tells : Tells (Abort y.tx ∷ log) site m (xs ++ ys) ps
  abort_tells = record {
    table = record {
      order = ascends_without entry_cmp xs y ys h.table.order;
      members = λ u. stops (same_tx y.tx u) (has_entry (xs ++ ys) u) (prepared log u) (committed log u) (aborted log u) (there u) (gone_at u);
      exact = entries_without (told log) xs y ys h.table.exact;
    };
    store = record { order = h.store.order; members = h.store.members; exact = h.store.exact };
    passed = λ u w. h.passed u (waited_too (same_tx y.tx u) (prepared log u) (committed log u) (aborted log u) w);
    timed = λ u w. h.timed u (waited_too (same_tx y.tx u) (prepared log u) (committed log u) (aborted log u) w);
    waiting = λ u w. h.waiting u (waited_too (same_tx y.tx u) (prepared log u) (committed log u) (aborted log u) w);
    ended = h.ended;
    brought = h.brought;
  }

  unheld : lists ps y.tx ≡ false
  unheld = h.store.members y.tx ∙ or_falses _ _ (not_committed (prepared log y.tx) (committed log y.tx) (aborted log y.tx) waits) (false_from_ne_true _ (λ k. h.brought y.tx k (h.waiting y.tx waits)))

  apart : (u : TxId) → lists ps u ≡ true → same_tx y.tx u ≡ false
  apart u k = false_from_ne_true _ (λ s. true≢false (sym k ∙ subst (λ v. lists ps v ≡ false) (same_tx_is y.tx u s) unheld))

  module _ (c : List ℕ) where
    abbrev part : Part E
    part = record { tx = y.tx; c = c; updates = y.updates }

    abbrev decided : List (Record E)
    decided = Decide y.tx c ∷ log

    pub decide_tells : Tells decided site m (xs ++ ys) (insert_by fold_cmp part ps)
    decide_tells = record {
      table = record {
        order = ascends_without entry_cmp xs y ys h.table.order;
        members = λ u. leaves (same_tx y.tx u) (has_entry (xs ++ ys) u) (prepared log u) (committed log u) (aborted log u) (there u) (gone_at u);
        exact = entries_without (told log) xs y ys h.table.exact;
      };
      store = record {
        order = ascends_inserted fold_cmp fold_total part ps h.store.order (fold_apart part ps unheld);
        members = λ u. lists_inserted fold_cmp part ps u ∙ ap (λ b. same_tx y.tx u || b) (h.store.members u) ∙ or_join (same_tx y.tx u) (committed log u) (taken log u);
        exact = parts_inserted fold_cmp (held_at decided) (held_changes decided) part ps
            (parts_alike (held_at log) (held_at decided) (held_changes log) (held_changes decided) ps
            (λ u k. (
              ap (λ b. if b || committed log u then (if b then c else committed_at log u) else taken_at log u) (sym (apart u k)),
              ap (λ b. if b || committed log u then prepared_changes log u else taken_changes log u) (sym (apart u k)),
            ))
            h.store.exact) (
              ap (λ b. if b || committed log y.tx then (if b then c else committed_at log y.tx) else taken_at log y.tx) (sym (same_tx_refl y.tx)),
              ap (λ z. z.3) (entry_there (told log) xs y ys h.table.exact) ∙ ap (λ b. if b || committed log y.tx then prepared_changes log y.tx else taken_changes log y.tx) (sym (same_tx_refl y.tx)),
            );
      };
      passed = λ u w. h.passed u (waited (same_tx y.tx u) (prepared log u) (committed log u) (aborted log u) w);
      timed = λ u w. h.timed u (waited (same_tx y.tx u) (prepared log u) (committed log u) (aborted log u) w);
      waiting = λ u w. h.waiting u (waited (same_tx y.tx u) (prepared log u) (committed log u) (aborted log u) w);
      ended = λ u k. ⊎_elim
          (λ (s : same_tx y.tx u ≡ true). ap (λ (v : TxId). v.site) (sym (same_tx_is y.tx u s)) ∙ h.waiting y.tx waits)
          (λ (s : same_tx y.tx u ≡ false). h.ended u (second_true (same_tx y.tx u) (committed log u) s k))
          (cases_Bool (same_tx y.tx u));
      brought = h.brought;
    }

    -- the commit at another participant: the log tells of it the same
    pub finish_tells : Tells (Finish y.tx c ∷ log) site m (xs ++ ys) (insert_by fold_cmp part ps)
    finish_tells = let d = decide_tells in record {
      table = record { order = d.table.order; members = d.table.members; exact = d.table.exact };
      store = record { order = d.store.order; members = d.store.members; exact = d.store.exact };
      passed = d.passed;
      timed = d.timed;
      waiting = d.waiting;
      ended = d.ended;
      brought = d.brought;
    }
