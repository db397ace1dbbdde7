-- The record of a message: its parts come, and what waits is as before.
use Rattle.std.proofs.Common.{◌≡◌, ◌≢◌, ⊎_elim, ℕ, Bool, true, false, ◌||◌, List, [], ◌∷◌, refl, sym, ap, ◌∙◌, subst}
use Rattle.std.specs.Prelude.{if◌then◌else◌}
use Rattle.std.proofs.lemmas.Bool.{true≢false, cases_Bool, false_from_ne_true, or_left, or_right}
use Rattle.site_vector.specs.declared.ids.TxId.{TxId}
use Rattle.site_vector.specs.Ids.{same_tx}
use Rattle.site_vector.specs.Order.{same_tx_is, same_tx_refl}
use Rattle.crdt_core.specs.declared.record.Upd.{Upd}
use Rattle.crdt_core.specs.declared.record.Part.{Part}
use Rattle.crdt_core.specs.declared.record.Message.{Message}
use Rattle.crdt_core.specs.declared.record.Record.{Record}
use Rattle.crdt_core.specs.declared.record.Record.TheVariants.{Batch}
use Rattle.crdt_core.specs.Log.{committed, committed_at, prepared_changes, taken, taken_at, taken_changes, holds, held_at, held_changes}
use Rattle.crdt_core.specs.Orders.{Ascends, insert_by, fold_cmp}
use Rattle.crdt_core.specs.Parts.{lists, vector_in, changes_in, AreParts}
use Rattle.prepared_table.specs.declared.entry.Entry.{Entry}
use Rattle.partition_core.specs.Messages.{AreApart, inserted}
use Rattle.partition_core.specs.Stands.{Tells}
use Rattle.partition_core.proofs.Choices.{or_swap, or_join, first_false, second_true}
use Rattle.partition_core.proofs.Sorting.{ascends_inserted}
use Rattle.partition_core.proofs.PartLists.{fold_total, fold_apart, lists_inserted, parts_inserted, parts_alike}

under : {A : Type 0} (a b : Bool) (p q r : A) → (a ≡ true → b ≡ false) → (if a then p else (if b then q else r)) ≡ (if b then q else (if a then p else r))
under true true p q r f = absurd (true≢false (f refl))
under true false p q r f = refl
under false true p q r f = refl
under false false p q r f = refl

nested : {A : Type 0} (a b : Bool) (p q r : A) → (if a then p else (if b then q else r)) ≡ (if a || b then (if a then p else q) else r)
nested true b p q r = refl
nested false b p q r = refl

module _ {E : Type 0} where
  -- these functions tell of the parts
  record AreOf (holding : TxId → Bool) (vector : TxId → List ℕ) (changes : TxId → List (Upd E)) (parts : List (Part E)) : Type 0 where
    order : Ascends fold_cmp parts
    members : (u : TxId) → lists parts u ≡ holding u
    exact : AreParts vector changes parts

  pub lists_all : (xs held : List (Part E)) (u : TxId) → lists (inserted xs held) u ≡ (lists xs u || lists held u)
  lists_all [] held u = refl
  lists_all (x ∷ xs) held u = lists_inserted fold_cmp x (inserted xs held) u ∙ ap (λ b. same_tx x.tx u || b) (lists_all xs held u) ∙ or_join (same_tx x.tx u) (lists xs u) (lists held u)

  one_more : (h : TxId → Bool) (v : TxId → List ℕ) (c : TxId → List (Upd E)) (x : Part E) (old : List (Part E)) → h x.tx ≡ false → AreOf h v c old
      → AreOf (λ u. same_tx x.tx u || h u) (λ u. if same_tx x.tx u then x.c else v u) (λ u. if same_tx x.tx u then x.updates else c u) (insert_by fold_cmp x old)
  one_more h v c x old new all =
      let out : lists old x.tx ≡ false = all.members x.tx ∙ new in
      let apart : (u : TxId) → lists old u ≡ true → same_tx x.tx u ≡ false = λ u k. false_from_ne_true _ (λ e. true≢false (sym k ∙ subst (λ w. lists old w ≡ false) (same_tx_is x.tx u e) out)) in record {
        order = ascends_inserted fold_cmp fold_total x old all.order (fold_apart x old out);
        members = λ u. lists_inserted fold_cmp x old u ∙ ap (λ b. same_tx x.tx u || b) (all.members u);
        exact = parts_inserted fold_cmp (λ u. if same_tx x.tx u then x.c else v u) (λ u. if same_tx x.tx u then x.updates else c u) x old
            (parts_alike v (λ u. if same_tx x.tx u then x.c else v u) c (λ u. if same_tx x.tx u then x.updates else c u) old
            (λ u k. (ap (λ b. if b then x.c else v u) (sym (apart u k)), ap (λ b. if b then x.updates else c u) (sym (apart u k))))
            all.exact)
            (ap (λ b. if b then x.c else v x.tx) (sym (same_tx_refl x.tx)), ap (λ b. if b then x.updates else c x.tx) (sym (same_tx_refl x.tx)));
      }

  several_more : (h : TxId → Bool) (v : TxId → List ℕ) (c : TxId → List (Upd E)) (xs old : List (Part E)) → AreApart xs → ((u : TxId) → lists xs u ≡ true → h u ≡ false) → AreOf h v c old
      → AreOf (λ u. lists xs u || h u) (λ u. if lists xs u then vector_in xs u else v u) (λ u. if lists xs u then changes_in xs u else c u) (inserted xs old)
  several_more h v c [] old a f all = all
  several_more h v c (x ∷ xs) old a f all =
      let rest = several_more h v c xs old a.1 (λ u k. f u (or_right (same_tx x.tx u) (lists xs u) k)) all in
      let free : (lists xs x.tx || h x.tx) ≡ false = ap (λ b. b || h x.tx) a.0 ∙ f x.tx (or_left _ _ (same_tx_refl x.tx)) in
      let one = one_more (λ u. lists xs u || h u) (λ u. if lists xs u then vector_in xs u else v u) (λ u. if lists xs u then changes_in xs u else c u) x (inserted xs old) free rest in record {
        order = one.order;
        members = λ u. one.members u ∙ or_join (same_tx x.tx u) (lists xs u) (h u);
        exact = parts_alike (λ u. if same_tx x.tx u then x.c else (if lists xs u then vector_in xs u else v u)) (λ u. if lists (x ∷ xs) u then vector_in (x ∷ xs) u else v u) (λ u. if same_tx x.tx u then x.updates else (if lists xs u then changes_in xs u else c u)) (λ u. if lists (x ∷ xs) u then changes_in (x ∷ xs) u else c u) (inserted (x ∷ xs) old)
            (λ u k. (nested (same_tx x.tx u) (lists xs u) x.c (vector_in xs u) (v u), nested (same_tx x.tx u) (lists xs u) x.updates (changes_in xs u) (c u)))
            one.exact;
      }

  pub batch_tells : (log : List (Record E)) (site n : ℕ) (es : List (Entry E)) (old : List (Part E)) (m : Message E) → AreApart m.parts → ((u : TxId) → lists m.parts u ≡ true → holds log u ≡ false) → ((u : TxId) → lists m.parts u ≡ true → u.site ≢ site) → Tells log site n es old → Tells (Batch m ∷ log) site n es (inserted m.parts old)
  batch_tells log site n es old m apart new away t =
      let before : AreOf (holds log) (held_at log) (held_changes log) old = record { order = t.store.order; members = t.store.members; exact = t.store.exact } in
      let all = several_more (holds log) (held_at log) (held_changes log) m.parts old apart new before in
      let out : (u : TxId) → lists m.parts u ≡ true → committed log u ≡ false = λ u k. first_false (committed log u) (taken log u) (new u k) in record {
        table = record { order = t.table.order; members = t.table.members; exact = t.table.exact };
        store = record {
          order = all.order;
          members = λ u. all.members u ∙ or_swap (lists m.parts u) (committed log u) (taken log u);
          exact = parts_alike (λ u. if lists m.parts u then vector_in m.parts u else held_at log u) (held_at (Batch m ∷ log)) (λ u. if lists m.parts u then changes_in m.parts u else held_changes log u) (held_changes (Batch m ∷ log)) (inserted m.parts old)
              (λ u k. (under (lists m.parts u) (committed log u) (vector_in m.parts u) (committed_at log u) (taken_at log u) (out u), under (lists m.parts u) (committed log u) (changes_in m.parts u) (prepared_changes log u) (taken_changes log u) (out u)))
              all.exact;
        };
        passed = t.passed;
        timed = t.timed;
        waiting = t.waiting;
        ended = t.ended;
        brought = λ u k. ⊎_elim (λ (e : lists m.parts u ≡ true). away u e) (λ (e : lists m.parts u ≡ false). t.brought u (second_true (lists m.parts u) (taken log u) e k)) (cases_Bool (lists m.parts u));
      }
