-- A ledger after one record more.
use Rattle.std.proofs.Common.{◌≡◌, ⊎_elim, ℕ, ◌≤◌, max, Bool, true, false, not, ◌&&◌, ◌||◌, List, [], ◌∷◌, ◌++◌, length, None, refl, sym, ap, ◌∙◌, subst, arith}
use Rattle.std.specs.Prelude.{◌==◌, if◌then◌else◌}
use Rattle.std.proofs.lemmas.Bool.{true≢false, cases_Bool, or_left, or_from, false_from_ne_true, eqb-true, eqb-false}
use Rattle.site_vector.specs.declared.ids.PartId.{PartId}
use Rattle.site_vector.specs.declared.ids.TxId.{TxId}
use Rattle.site_vector.specs.Ids.{same_tx}
use Rattle.site_vector.specs.Order.{same_tx_is, same_tx_refl}
use Rattle.site_vector.specs.Vector.{entry}
use Rattle.crdt_core.specs.declared.record.Upd.{Upd}
use Rattle.crdt_core.specs.declared.record.Part.{Part}
use Rattle.crdt_core.specs.declared.record.Message.{Message}
use Rattle.crdt_core.specs.declared.record.Record.{Record}
use Rattle.crdt_core.specs.declared.record.Record.TheVariants.{Prepare, Decide, Abort, Batch}
use Rattle.crdt_core.specs.Fitting.{unfit_under}
use Rattle.crdt_core.specs.Log.{prepared, prepare_time, prepared_lead, prepared_snapshot, prepared_changes, committed, committed_at, aborted, pending, taken, taken_at, taken_changes, logged_bound, holds, held_at, held_changes}
use Rattle.crdt_core.specs.Parts.{lists, vector_in, changes_in}
use Rattle.prepared_table.specs.declared.entry.Entry.{Entry}
use Rattle.prepared_table.specs.Entries.{has_entry}
use Rattle.log_recovery.specs.Lists.{told}
use Rattle.log_recovery.specs.Ledgers.{ArePending, AreHeld, AreBounds, raised}
use Rattle.log_recovery.specs.FittingLaws.{IsUnknown, unknown, part_new, prepares, brings, last_fits, pending_untaken}
use Rattle.log_recovery.proofs.Choices.{or_turn, not_committed, begins, leaves, stops, ends}
use Rattle.log_recovery.proofs.Replacing.{entry_replaced, entry_other, width_replaced}
use Rattle.log_recovery.proofs.EntryLists.{has_push, entries_push, single_push, entries_alike, has_between, entries_without, entry_there, alone, single_without}
use Rattle.log_recovery.proofs.PartLists.{lists_append, parts_append, apart_append, parts_alike, parts_own, are_apart_is}

module _ {E : Type 0} (sites parts : ℕ) (id : PartId) (top : ℕ) (log : List (Record E)) where
  -- who isn't named is neither waiting nor held
  apart_from : (P : TxId → Bool) (t u : TxId) → P t ≡ false → P u ≡ true → same_tx t u ≡ false
  apart_from P t u n h = false_from_ne_true _ (λ e. true≢false (sym h ∙ ap P (sym (same_tx_is t u e)) ∙ n))

  unheld : (t : TxId) → IsUnknown log t → holds log t ≡ false
  unheld t k = or_from (committed log t) (taken log t) k.committed k.taken

  unwaiting : (t : TxId) → IsUnknown log t → pending log t ≡ false
  unwaiting t k = ap (λ b. b && not (committed log t || aborted log t)) k.prepared

  pub prepare_waits : (y : Entry E) (xs : List (Entry E)) → unfit_under sites parts id top (Prepare y.tx y.lead y.time y.s y.updates ∷ log) ≡ None → ArePending log xs → ArePending (Prepare y.tx y.lead y.time y.s y.updates ∷ log) (xs ++ y ∷ [])
  prepare_waits y xs f w =
      let k = unknown log y.tx (prepares sites parts id top log y.tx y.lead y.time y.s y.updates (last_fits sites parts id top (Prepare y.tx y.lead y.time y.s y.updates) log f)).new in
      let other : (u : TxId) → has_entry xs u ≡ true → same_tx y.tx u ≡ false = λ u h. apart_from (pending log) y.tx u (unwaiting y.tx k) (sym (w.members u) ∙ h) in record {
        members = λ u. has_push xs y u ∙ ap (λ b. same_tx y.tx u || b) (w.members u) ∙ sym (begins (same_tx y.tx u) (prepared log u) (committed log u) (aborted log u) (λ e. ap (committed log) (sym (same_tx_is y.tx u e)) ∙ k.committed) (λ e. ap (aborted log) (sym (same_tx_is y.tx u e)) ∙ k.aborted));
        exact = entries_push (told (Prepare y.tx y.lead y.time y.s y.updates ∷ log)) xs y
            (entries_alike (told log) (told (Prepare y.tx y.lead y.time y.s y.updates ∷ log)) xs
            (λ u h. ap (λ b. (if b then y.time else prepare_time log u, if b then y.lead else prepared_lead log u, if b then y.s else prepared_snapshot log u, if b then y.updates else prepared_changes log u)) (sym (other u h)))
            w.exact)
            (ap (λ b. (if b then y.time else prepare_time log y.tx, if b then y.lead else prepared_lead log y.tx, if b then y.s else prepared_snapshot log y.tx, if b then y.updates else prepared_changes log y.tx)) (sym (same_tx_refl y.tx)));
        single = single_push xs y w.single (w.members y.tx ∙ unwaiting y.tx k);
      }

  pub prepare_holds : (t : TxId) (l n : ℕ) (s : List ℕ) (w : List (Upd E)) (ps : List (Part E)) → unfit_under sites parts id top (Prepare t l n s w ∷ log) ≡ None → AreHeld log ps → AreHeld (Prepare t l n s w ∷ log) ps
  prepare_holds t l n s w ps f h =
      let k = unknown log t (prepares sites parts id top log t l n s w (last_fits sites parts id top (Prepare t l n s w) log f)).new in record {
        members = h.members;
        exact = parts_alike (held_at log) (held_at (Prepare t l n s w ∷ log)) (held_changes log) (held_changes (Prepare t l n s w ∷ log)) ps
            (λ u e. (refl, ap (λ b. if committed log u then (if b then w else prepared_changes log u) else taken_changes log u) (sym (apart_from (holds log) t u (unheld t k) (sym (h.members u) ∙ e)))))
            h.exact;
        apart = h.apart;
      }

  module _ (xs : List (Entry E)) (y : Entry E) (ys : List (Entry E)) (w : ArePending log (xs ++ y ∷ ys)) where
    there : (u : TxId) → (same_tx y.tx u || has_entry (xs ++ ys) u) ≡ pending log u
    there u = sym (has_between xs y ys u) ∙ w.members u

    waits : pending log y.tx ≡ true
    waits = sym (there y.tx) ∙ or_left _ _ (same_tx_refl y.tx)

    gone_at : (u : TxId) → same_tx y.tx u ≡ true → has_entry (xs ++ ys) u ≡ false
    gone_at u s = subst (λ v. has_entry (xs ++ ys) v ≡ false) (same_tx_is y.tx u s) (alone xs y ys w.single)

    pub abort_waits : ArePending (Abort y.tx ∷ log) (xs ++ ys)
    abort_waits = record {
      members = λ u. stops (same_tx y.tx u) (has_entry (xs ++ ys) u) (prepared log u) (committed log u) (aborted log u) (there u) (gone_at u);
      exact = entries_without (told log) xs y ys w.exact;
      single = single_without xs y ys w.single;
    }

    pub decide_waits : (c : List ℕ) → ArePending (Decide y.tx c ∷ log) (xs ++ ys)
    decide_waits c = record {
      members = λ u. leaves (same_tx y.tx u) (has_entry (xs ++ ys) u) (prepared log u) (committed log u) (aborted log u) (there u) (gone_at u);
      exact = entries_without (told log) xs y ys w.exact;
      single = single_without xs y ys w.single;
    }

    pub decide_holds : (c : List ℕ) (ps : List (Part E)) → unfit_under sites parts id top log ≡ None → AreHeld log ps → AreHeld (Decide y.tx c ∷ log) (ps ++ record { tx = y.tx; c = c; updates = y.updates } ∷ [])
    decide_holds c ps f h =
        let new : List (Record E) = Decide y.tx c ∷ log in
        let part : Part E = record { tx = y.tx; c = c; updates = y.updates } in
        let out : holds log y.tx ≡ false = or_from (committed log y.tx) (taken log y.tx) (not_committed (prepared log y.tx) (committed log y.tx) (aborted log y.tx) waits) (pending_untaken sites parts id top log f y.tx waits) in
        let other : (u : TxId) → lists ps u ≡ true → same_tx y.tx u ≡ false = λ u e. apart_from (holds log) y.tx u out (sym (h.members u) ∙ e) in record {
          members = λ u. lists_append ps (part ∷ []) u ∙ ap (λ b. b || (same_tx y.tx u || false)) (h.members u) ∙ ends (same_tx y.tx u) (committed log u) (taken log u);
          exact = parts_append (held_at new) (held_changes new) ps (part ∷ [])
              (parts_alike (held_at log) (held_at new) (held_changes log) (held_changes new) ps
              (λ u e. (
                ap (λ b. if b || committed log u then (if b then c else committed_at log u) else taken_at log u) (sym (other u e)),
                ap (λ b. if b || committed log u then prepared_changes log u else taken_changes log u) (sym (other u e)),
              ))
              h.exact) (
                (
                  ap (λ b. if b || committed log y.tx then (if b then c else committed_at log y.tx) else taken_at log y.tx) (sym (same_tx_refl y.tx)),
                  ap (λ z. z.3) (entry_there (told log) xs y ys w.exact) ∙ ap (λ b. if b || committed log y.tx then prepared_changes log y.tx else taken_changes log y.tx) (sym (same_tx_refl y.tx)),
                ),
                tt,
              );
          apart = apart_append ps (part ∷ []) h.apart (refl, tt) (λ u e. ap (λ b. b || false) (other u e));
        }

  pub batch_holds : (m : Message E) (ps : List (Part E)) → unfit_under sites parts id top (Batch m ∷ log) ≡ None → AreHeld log ps → AreHeld (Batch m ∷ log) (ps ++ m.parts)
  batch_holds m ps f h =
      let new : List (Record E) = Batch m ∷ log in
      let b = brings sites parts id top log m (last_fits sites parts id top (Batch m) log f) in
      let fresh : (u : TxId) → lists m.parts u ≡ true → IsUnknown log u = λ u e. unknown log u (part_new log m.parts u b.new e) in
      let other : (u : TxId) → lists ps u ≡ true → lists m.parts u ≡ false = λ u e. false_from_ne_true _ (λ k. true≢false (sym e ∙ h.members u ∙ unheld u (fresh u k))) in record {
        members = λ u. lists_append ps m.parts u ∙ ap (λ x. x || lists m.parts u) (h.members u) ∙ or_turn (committed log u) (taken log u) (lists m.parts u);
        exact = parts_append (held_at new) (held_changes new) ps m.parts
            (parts_alike (held_at log) (held_at new) (held_changes log) (held_changes new) ps
            (λ u e. (
              ap (λ x. if committed log u then committed_at log u else (if x then vector_in m.parts u else taken_at log u)) (sym (other u e)),
              ap (λ x. if committed log u then prepared_changes log u else (if x then changes_in m.parts u else taken_changes log u)) (sym (other u e)),
            ))
            h.exact)
            (parts_alike (vector_in m.parts) (held_at new) (changes_in m.parts) (held_changes new) m.parts
            (λ u e. (
              ap (λ x. if x then vector_in m.parts u else taken_at log u) (sym e) ∙ ap (λ x. if x then committed_at log u else (if lists m.parts u then vector_in m.parts u else taken_at log u)) (sym (fresh u e).committed),
              ap (λ x. if x then changes_in m.parts u else taken_changes log u) (sym e) ∙ ap (λ x. if x then prepared_changes log u else (if lists m.parts u then changes_in m.parts u else taken_changes log u)) (sym (fresh u e).committed),
            ))
            (parts_own m.parts (are_apart_is m.parts b.apart)));
        apart = apart_append ps m.parts h.apart (are_apart_is m.parts b.apart) other;
      }

  pub batch_bounds : (m : Message E) (bounds : List ℕ) → 1 ≤ m.from → m.from ≤ length bounds → AreBounds log bounds → AreBounds (Batch m ∷ log) (raised bounds m.from m.hi)
  batch_bounds m bounds low high b j least most =
      let wide : length (raised bounds m.from m.hi) ≡ length bounds = width_replaced bounds m.from (max m.hi (entry bounds m.from)) in ⊎_elim
      (λ (e : (m.from == j) ≡ true).
      let is : m.from ≡ j = eqb-true m.from j e in
      ap (λ i. entry (raised bounds m.from m.hi) i) (sym is) ∙ entry_replaced bounds m.from (max m.hi (entry bounds m.from)) low high
      ∙ ap (λ n. max m.hi n) (b m.from low high ∙ ap (logged_bound log) is) ∙ ap (λ x. if x then max m.hi (logged_bound log j) else logged_bound log j) (sym e))
      (λ (e : (m.from == j) ≡ false).
      entry_other bounds m.from (max m.hi (entry bounds m.from)) j low least (λ k. eqb-false m.from j e (sym k)) ∙ b j least (omega (arith, most, wide))
      ∙ ap (λ x. if x then max m.hi (logged_bound log j) else logged_bound log j) (sym e))
      (cases_Bool (m.from == j))
