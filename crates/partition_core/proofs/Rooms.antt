-- The room for what is pending, as entries come and go.
use Rattle.std.proofs.Common.{◌≡◌, ⊎_elim, ℕ, ◌+◌, ◌≤◌, true, false, ◌||◌, List, [], ◌∷◌, ◌++◌, length, None, Some, refl, sym, ap, ◌∙◌, subst, arith}
use Rattle.std.proofs.lemmas.Bool.{true≢false, cases_Bool, false_from_ne_true, or_left, or_right}
use Rattle.site_vector.specs.declared.ids.TxId.{TxId}
use Rattle.site_vector.specs.Ids.{same_tx}
use Rattle.site_vector.specs.Order.{same_tx_is, same_tx_refl, same_tx_symm}
use Rattle.crdt_core.specs.Orders.{is_less, insert_by, fold_cmp}
use Rattle.crdt_core.specs.Parts.{lists}
use Rattle.prepared_table.specs.declared.entry.Entry.{Entry}
use Rattle.prepared_table.specs.Entries.{has_entry, entry_cmp, found, IsTakenOut}
use Rattle.effect_store.specs.Stored.{Stored}
use Rattle.partition_core.specs.Sound.{updates_pending, AreSingle, HasRoom}
use Rattle.partition_core.proofs.Choices.{chosen, or_falses, first_false, second_false, taken_first, taken_second}
use Rattle.partition_core.proofs.PartLists.{lists_inserted}
use Rattle.partition_core.proofs.EntryLists.{has_inserted, has_between}

some_is : {A : Type 0} (x y : A) → Some x ≡ Some y → x ≡ y
some_is x y e = cc

none_is : {A : Type 0} (x : A) → Some x ≡ None → ⊥
none_is x e = cc

module _ {E : Type 0} where
  pub found_is : (t : TxId) (xs : List (Entry E)) (x : Entry E) → found t xs ≡ Some x → (has_entry xs t ≡ true) × (x.tx ≡ t)
  found_is t [] x e = absurd (none_is x (sym e))
  found_is t (y ∷ xs) x e = ⊎_elim
      (λ (k : same_tx y.tx t ≡ true).
      let is : y ≡ x = some_is y x (taken_first (same_tx y.tx t) (Some y) (found t xs) (Some x) e k) in
      (or_left (same_tx y.tx t) (has_entry xs t) k, ap (λ (z : Entry E). z.tx) (sym is) ∙ same_tx_is y.tx t k))
      (λ (k : same_tx y.tx t ≡ false).
      let rest = found_is t xs x (taken_second (same_tx y.tx t) (Some y) (found t xs) (Some x) e k) in
      (or_right (same_tx y.tx t) (has_entry xs t) rest.0, rest.1))
      (cases_Bool (same_tx y.tx t))

  pub not_found_is : (t : TxId) (xs : List (Entry E)) → found t xs ≡ None → has_entry xs t ≡ false
  not_found_is t [] e = refl
  not_found_is t (y ∷ xs) e = ⊎_elim
      (λ (k : same_tx y.tx t ≡ true). absurd (none_is y (taken_first (same_tx y.tx t) (Some y) (found t xs) None e k)))
      (λ (k : same_tx y.tx t ≡ false). or_falses _ _ k (not_found_is t xs (taken_second (same_tx y.tx t) (Some y) (found t xs) None e k)))
      (cases_Bool (same_tx y.tx t))

  updates_between : (xs : List (Entry E)) (y : Entry E) (ys : List (Entry E)) → updates_pending (xs ++ y ∷ ys) ≡ length y.updates + updates_pending (xs ++ ys)
  updates_between [] y ys = refl
  updates_between (x ∷ xs) y ys = let rest = updates_between xs y ys in omega arith

  length_between : (xs : List (Entry E)) (y : Entry E) (ys : List (Entry E)) → length (xs ++ y ∷ ys) ≡ length (xs ++ ys) + 1
  length_between [] y ys = omega arith
  length_between (x ∷ xs) y ys = let rest = length_between xs y ys in omega arith

  pub updates_inserted : (y : Entry E) (xs : List (Entry E)) → updates_pending (insert_by entry_cmp y xs) ≡ length y.updates + updates_pending xs
  updates_inserted y [] = refl
  updates_inserted y (x ∷ xs) =
      chosen (λ l. updates_pending l ≡ length y.updates + updates_pending (x ∷ xs)) (is_less (entry_cmp y x)) (y ∷ x ∷ xs) (x ∷ insert_by entry_cmp y xs)
      (λ k. refl)
      (λ k. let rest = updates_inserted y xs in omega arith)

  pub length_inserted : (y : Entry E) (xs : List (Entry E)) → length (insert_by entry_cmp y xs) ≡ length xs + 1
  length_inserted y [] = omega arith
  length_inserted y (x ∷ xs) =
      chosen (λ l. length l ≡ length (x ∷ xs) + 1) (is_less (entry_cmp y x)) (y ∷ x ∷ xs) (x ∷ insert_by entry_cmp y xs)
      (λ k. omega arith)
      (λ k. let rest = length_inserted y xs in omega arith)

  pub single_inserted : (y : Entry E) (xs : List (Entry E)) → AreSingle xs → has_entry xs y.tx ≡ false → AreSingle (insert_by entry_cmp y xs)
  single_inserted y [] a h = (refl, tt)
  single_inserted y (x ∷ xs) a h =
      chosen AreSingle (is_less (entry_cmp y x)) (y ∷ x ∷ xs) (x ∷ insert_by entry_cmp y xs)
      (λ k. (h, a))
      (λ k. (has_inserted y xs x.tx ∙ or_falses _ _ (same_tx_symm y.tx x.tx ∙ first_false (same_tx x.tx y.tx) (has_entry xs y.tx) h) a.0, single_inserted y xs a.1 (second_false (same_tx x.tx y.tx) (has_entry xs y.tx) h)))

  single_without : (xs : List (Entry E)) (y : Entry E) (ys : List (Entry E)) → AreSingle (xs ++ y ∷ ys) → AreSingle (xs ++ ys) × (has_entry (xs ++ ys) y.tx ≡ false)
  single_without [] y ys a = (a.1, a.0)
  single_without (x ∷ xs) y ys a =
      let rest = single_without xs y ys a.1 in
      let out : (same_tx y.tx x.tx || has_entry (xs ++ ys) x.tx) ≡ false = sym (has_between xs y ys x.tx) ∙ a.0 in
      ((second_false (same_tx y.tx x.tx) (has_entry (xs ++ ys) x.tx) out, rest.0), or_falses _ _ (same_tx_symm x.tx y.tx ∙ first_false (same_tx y.tx x.tx) (has_entry (xs ++ ys) x.tx) out) rest.1)

  module _ (x : Entry E) (old new : List (Entry E)) (out : IsTakenOut x old new) where
    pub had_updates : updates_pending old ≡ length x.updates + updates_pending new
    had_updates = ap updates_pending out.before ∙ updates_between out.front x out.back ∙ ap (λ l. length x.updates + updates_pending l) (sym out.after)

    had_length : length old ≡ length new + 1
    had_length = ap length out.before ∙ length_between out.front x out.back ∙ ap (λ l. length l + 1) (sym out.after)

    had_entry : (u : TxId) → has_entry old u ≡ (same_tx x.tx u || has_entry new u)
    had_entry u = ap (λ l. has_entry l u) out.before ∙ has_between out.front x out.back u ∙ ap (λ l. same_tx x.tx u || has_entry l u) (sym out.after)

    pub still_has : (u : TxId) → has_entry new u ≡ true → has_entry old u ≡ true
    still_has u k = had_entry u ∙ or_right (same_tx x.tx u) (has_entry new u) k

    pub was_there : has_entry old x.tx ≡ true
    was_there = had_entry x.tx ∙ or_left (same_tx x.tx x.tx) (has_entry new x.tx) (same_tx_refl x.tx)

    single_left : AreSingle old → AreSingle new × (has_entry new x.tx ≡ false)
    single_left a = let two = single_without out.front x out.back (subst AreSingle out.before a) in (subst AreSingle (sym out.after) two.0, ap (λ l. has_entry l x.tx) out.after ∙ two.1)

    pub aborted_room : (promised left : ℕ) (store : Stored E) → HasRoom old promised store → left + length x.updates ≡ promised → HasRoom new left store
    aborted_room promised left store h e = record {
      single = (single_left h.single).0;
      apart = λ u k. h.apart u (still_has u k);
      counted = let a = h.counted in let b = had_updates in omega arith;
      room = let a = h.room in let b = had_length in omega arith;
      update_room = let a = h.update_room in omega arith;
    }

    pub some_room : (promised : ℕ) (store : Stored E) → HasRoom old promised store → (1 ≤ store.room) × (length x.updates ≤ store.update_room) × (lists store.parts x.tx ≡ false)
    some_room promised store h = ((let a = h.room in let b = had_length in omega arith), (let a = h.counted in let b = had_updates in let d = h.update_room in omega arith), h.apart x.tx was_there)

    pub committed_room : (promised left : ℕ) (store after : Stored E) (c : List ℕ) → HasRoom old promised store → left + length x.updates ≡ promised → after.parts ≡ insert_by fold_cmp (record { tx = x.tx; c = c; updates = x.updates }) store.parts → after.room + 1 ≡ store.room → after.update_room + length x.updates ≡ store.update_room → HasRoom new left after
    committed_room promised left store after c h e put room update_room =
        let less = aborted_room promised left store h e in record {
          single = less.single;
          apart = λ u k. ap (λ l. lists l u) put ∙ lists_inserted fold_cmp (record { tx = x.tx; c = c; updates = x.updates }) store.parts u
              ∙ or_falses _ _ (false_from_ne_true (same_tx x.tx u) (λ s. true≢false (sym k ∙ subst (λ w. has_entry new w ≡ false) (same_tx_is x.tx u s) (single_left h.single).1))) (less.apart u k);
          counted = less.counted;
          room = let a = h.room in let b = had_length in omega arith;
          update_room = let a = h.update_room in omega arith;
        }

    pub committed_room_of : (t : TxId) (promised left : ℕ) (store after : Stored E) (c : List ℕ) → x.tx ≡ t → HasRoom old promised store → left + length x.updates ≡ promised → after.parts ≡ insert_by fold_cmp (record { tx = t; c = c; updates = x.updates }) store.parts → after.room + 1 ≡ store.room → after.update_room + length x.updates ≡ store.update_room → HasRoom new left after
    committed_room_of t promised left store after c is h e put room update_room = committed_room promised left store after c h e (put ∙ ap (λ (u : TxId). insert_by fold_cmp (record { tx = u; c = c; updates = x.updates }) store.parts) (sym is)) room update_room

  -- one more is pending
  pub prepared_room : (y : Entry E) (old new : List (Entry E)) (promised all : ℕ) (store : Stored E) → HasRoom old promised store → has_entry old y.tx ≡ false → lists store.parts y.tx ≡ false → new ≡ insert_by entry_cmp y old → all ≡ promised + length y.updates → length old + 1 ≤ store.room → all ≤ store.update_room → HasRoom new all store
  prepared_room y old new promised all store h out unheld put sum room update_room = record {
    single = subst AreSingle (sym put) (single_inserted y old h.single out);
    apart = λ u k. ⊎_elim
        (λ (s : same_tx y.tx u ≡ true). subst (λ w. lists store.parts w ≡ false) (same_tx_is y.tx u s) unheld)
        (λ (s : same_tx y.tx u ≡ false). h.apart u (sym (ap (λ b. b || has_entry old u) s) ∙ sym (has_inserted y old u) ∙ ap (λ l. has_entry l u) (sym put) ∙ k))
        (cases_Bool (same_tx y.tx u));
    counted = let a = h.counted in let b = updates_inserted y old in sum ∙ (let d : promised + length y.updates ≡ updates_pending (insert_by entry_cmp y old) = omega arith in d) ∙ ap updates_pending (sym put);
    room = let a = length_inserted y old in let b = ap length put in omega arith;
    update_room = update_room;
  }

  -- who is pending then is new or was before
  pub prepared_home : (site : ℕ) (y : Entry E) (old new : List (Entry E)) → ((u : TxId) → has_entry old u ≡ true → u.site ≡ site) → y.tx.site ≡ site → new ≡ insert_by entry_cmp y old → (u : TxId) → has_entry new u ≡ true → u.site ≡ site
  prepared_home site y old new h here put u k = ⊎_elim
      (λ (s : same_tx y.tx u ≡ true). ap (λ (v : TxId). v.site) (sym (same_tx_is y.tx u s)) ∙ here)
      (λ (s : same_tx y.tx u ≡ false). h u (sym (ap (λ b. b || has_entry old u) s) ∙ sym (has_inserted y old u) ∙ ap (λ l. has_entry l u) (sym put) ∙ k))
      (cases_Bool (same_tx y.tx u))
