-- The record of a vote: one entry more.
use Rattle.std.proofs.Common.{◌≡◌, ⊎_elim, ℕ, ◌<◌, ◌≤◌, Bool, true, false, not, ◌&&◌, ◌||◌, List, ◌∷◌, refl, sym, ap, ◌∙◌, subst, arith}
use Rattle.std.specs.Prelude.{if◌then◌else◌}
use Rattle.std.proofs.lemmas.Bool.{true≢false, cases_Bool, false_from_ne_true}
use Rattle.site_vector.specs.declared.ids.TxId.{TxId}
use Rattle.site_vector.specs.Ids.{same_tx}
use Rattle.site_vector.specs.Order.{same_tx_is, same_tx_refl}
use Rattle.crdt_core.specs.declared.record.Upd.{Upd}
use Rattle.crdt_core.specs.declared.record.Part.{Part}
use Rattle.crdt_core.specs.declared.record.Record.{Record}
use Rattle.crdt_core.specs.declared.record.Record.TheVariants.{Prepare}
use Rattle.crdt_core.specs.Log.{prepared, prepare_time, prepared_lead, prepared_snapshot, prepared_changes, committed, aborted, pending, taken_changes, held_at, held_changes}
use Rattle.crdt_core.specs.Orders.{insert_by}
use Rattle.prepared_table.specs.declared.entry.Entry.{Entry}
use Rattle.prepared_table.specs.Entries.{entry_cmp}
use Rattle.partition_core.specs.Stands.{told, IsTable, IsStore, Tells, IsNew}
use Rattle.partition_core.proofs.Sorting.{ascends_inserted}
use Rattle.partition_core.proofs.PartLists.{parts_alike}
use Rattle.partition_core.proofs.EntryLists.{entry_total, entries_apart, has_inserted, entries_inserted, entries_alike}

-- one that nothing ended waits, and all others as before
joins : (b p c a : Bool) → (b ≡ true → c ≡ false) → (b ≡ true → a ≡ false) → (b || (p && not (c || a))) ≡ ((b || p) && not (c || a))
joins true p c a h k = sym (λ i. not (h refl i || k refl i))
joins false p c a h k = refl

same_branch : {A : Type 0} (b c : Bool) (w x z : A) → (c ≡ true → b ≡ false) → (if c then x else z) ≡ (if c then (if b then w else x) else z)
same_branch b true w x z h = sym (ap (λ d. if d then w else x) (h refl))
same_branch b false w x z h = refl

module _ {E : Type 0} (log : List (Record E)) (y : Entry E) (new : IsNew log y.tx) where
  abbrev voted : List (Record E)
  voted = Prepare y.tx y.lead y.time y.s y.updates ∷ log

  -- what doesn't hold of the new one, where u is it
  not_of_new : (P : TxId → Bool) → P y.tx ≡ false → (u : TxId) → same_tx y.tx u ≡ true → P u ≡ false
  not_of_new P e u k = subst (λ v. P v ≡ false) (same_tx_is y.tx u k) e

  apart_from_new : (P : TxId → Bool) → P y.tx ≡ false → (u : TxId) → P u ≡ true → same_tx y.tx u ≡ false
  apart_from_new P e u k = false_from_ne_true _ (λ s. true≢false (sym k ∙ not_of_new P e u s))

  pub was_not_waiting : pending log y.tx ≡ false
  was_not_waiting = ap (λ b. b && not (committed log y.tx || aborted log y.tx)) new.prepared

  now_pending : (u : TxId) → (same_tx y.tx u || pending log u) ≡ pending voted u
  now_pending u = joins (same_tx y.tx u) (prepared log u) (committed log u) (aborted log u) (not_of_new (committed log) new.committed u) (not_of_new (aborted log) new.aborted u)

  abbrev told_if : Bool → TxId → ℕ × ℕ × List ℕ × List (Upd E)
  told_if b u = ((if b then y.time else prepare_time log u), (if b then y.lead else prepared_lead log u), (if b then y.s else prepared_snapshot log u), (if b then y.updates else prepared_changes log u))

  still_told : (u : TxId) → pending log u ≡ true → told log u ≡ told voted u
  still_told u k = ap (λ b. told_if b u) (sym (apart_from_new (pending log) was_not_waiting u k))

  prepare_table : (xs : List (Entry E)) → IsTable log xs → IsTable voted (insert_by entry_cmp y xs)
  prepare_table xs h = record {
    order = ascends_inserted entry_cmp entry_total y xs h.order (entries_apart y xs (h.members y.tx ∙ was_not_waiting));
    members = λ u. has_inserted y xs u ∙ ap (λ b. same_tx y.tx u || b) (h.members u) ∙ now_pending u;
    exact = entries_inserted (told voted) y xs (entries_alike (told log) (told voted) xs (λ u k. still_told u (sym (h.members u) ∙ k)) h.exact) (ap (λ b. told_if b y.tx) (sym (same_tx_refl y.tx)));
  }

  prepare_store : (ys : List (Part E)) → IsStore log ys → IsStore voted ys
  prepare_store ys h = record {
    order = h.order;
    members = h.members;
    exact = parts_alike (held_at log) (held_at voted) (held_changes log) (held_changes voted) ys
        (λ u k. (refl, same_branch (same_tx y.tx u) (committed log u) y.updates (prepared_changes log u) (taken_changes log u) (apart_from_new (committed log) new.committed u)))
        h.exact;
  }

  pub prepare_tells : (site m : ℕ) (xs : List (Entry E)) (ys : List (Part E)) → m < y.time → y.tx.site ≡ site → Tells log site m xs ys → Tells voted site y.time (insert_by entry_cmp y xs) ys
  prepare_tells site m xs ys late here h = record {
    table = prepare_table xs h.table;
    store = prepare_store ys h.store;
    passed = λ u. elim (same_tx y.tx u) as (λ b. ((b || prepared log u) && not (committed log u || aborted log u)) ≡ true → (if b then y.time else prepare_time log u) ≤ y.time) [ true ↦ λ k. let a : y.time ≤ y.time = omega arith in a | false ↦ λ k. let a = h.passed u k in omega arith ];
    timed = λ u. elim (same_tx y.tx u) as (λ b. ((b || prepared log u) && not (committed log u || aborted log u)) ≡ true → 1 ≤ (if b then y.time else prepare_time log u)) [ true ↦ λ k. let a : 1 ≤ y.time = omega arith in a | false ↦ λ k. h.timed u k ];
    waiting = λ u k. ⊎_elim
        (λ (s : same_tx y.tx u ≡ true). ap (λ (v : TxId). v.site) (sym (same_tx_is y.tx u s)) ∙ here)
        (λ (s : same_tx y.tx u ≡ false). h.waiting u (ap (λ b. (b || prepared log u) && not (committed log u || aborted log u)) (sym s) ∙ k))
        (cases_Bool (same_tx y.tx u));
    ended = h.ended;
    brought = h.brought;
  }
