-- Parts put in their places, the first first: they are taken from the end of a list that was reversed.
use Rattle.std.proofs.Common.{◌≡◌, ℕ, ◌+◌, ◌≤◌, ltb, false, ◌||◌, List, [], ◌∷◌, ◌++◌, length, reverse, refl, sym, ap, ◌∙◌, subst, arith, length-append}
use Rattle.std.proofs.lemmas.Grind.{reverse_onto}
use Rattle.std.proofs.lemmas.List.{length-reverse}
use Rattle.std.proofs.lemmas.Bool.{true≢false, false_from_ne_true, or_left, or_right}
use Rattle.site_vector.specs.declared.ids.TxId.{TxId}
use Rattle.site_vector.specs.Ids.{same_tx}
use Rattle.site_vector.specs.Order.{same_tx_is, same_tx_refl, same_tx_symm}
use Rattle.site_vector.specs.Vector.{entry}
use Rattle.crdt_core.specs.declared.record.Part.{Part}
use Rattle.crdt_core.specs.Orders.{insert_by, fold_cmp}
use Rattle.crdt_core.specs.Parts.{lists, above}
use Rattle.effect_store.specs.Stored.{Stored}
use Rattle.partition_core.specs.Messages.{AreApart, AreWideParts, CanPut, inserted, updates_in}
use Rattle.partition_core.proofs.Choices.{chosen, or_swap, or_falses, first_false, second_false}
use Rattle.partition_core.proofs.PartLists.{fold_total, fold_apart, lists_inserted}
use Rattle.partition_core.proofs.Sorting.{TiesWithNone}
use Rattle.partition_core.proofs.Swapping.{swapped}

module _ {E : Type 0} where
  lists_last : (xs : List (Part E)) (x : Part E) (u : TxId) → lists (xs ++ x ∷ []) u ≡ (same_tx x.tx u || lists xs u)
  lists_last [] x u = refl
  lists_last (y ∷ xs) x u = ap (λ b. same_tx y.tx u || b) (lists_last xs x u) ∙ or_swap (same_tx y.tx u) (same_tx x.tx u) (lists xs u)

  inserted_last : (xs : List (Part E)) (x : Part E) (held : List (Part E)) → inserted (xs ++ x ∷ []) held ≡ inserted xs (insert_by fold_cmp x held)
  inserted_last [] x held = refl
  inserted_last (y ∷ xs) x held = ap (λ l. insert_by fold_cmp y l) (inserted_last xs x held)

  updates_last : (xs : List (Part E)) (x : Part E) → updates_in (xs ++ x ∷ []) ≡ updates_in xs + length x.updates
  updates_last [] x = omega arith
  updates_last (y ∷ xs) x = let rest = updates_last xs x in omega arith

  wide_front : (n : ℕ) (xs : List (Part E)) (x : Part E) → AreWideParts n (xs ++ x ∷ []) → AreWideParts n xs × (length x.c ≡ n)
  wide_front n [] x w = (tt, w.0)
  wide_front n (y ∷ xs) x w = let rest = wide_front n xs x w.1 in ((w.0, rest.0), rest.1)

  apart_front : (xs : List (Part E)) (x : Part E) → AreApart (xs ++ x ∷ []) → AreApart xs × (lists xs x.tx ≡ false)
  apart_front [] x a = (tt, refl)
  apart_front (y ∷ xs) x a =
      let rest = apart_front xs x a.1 in
      let out : (same_tx x.tx y.tx || lists xs y.tx) ≡ false = sym (lists_last xs x y.tx) ∙ a.0 in
      ((second_false (same_tx x.tx y.tx) (lists xs y.tx) out, rest.0), or_falses _ _ (same_tx_symm y.tx x.tx ∙ first_false (same_tx x.tx y.tx) (lists xs y.tx) out) rest.1)

  -- what goes in first may as well go in last
  inserted_first : (x : Part E) (xs held : List (Part E)) → TiesWithNone fold_cmp x xs → inserted xs (insert_by fold_cmp x held) ≡ insert_by fold_cmp x (inserted xs held)
  inserted_first x [] held n = refl
  inserted_first x (y ∷ ys) held n = ap (λ l. insert_by fold_cmp y l) (inserted_first x ys held n.1) ∙ sym (swapped fold_cmp fold_total x y (inserted ys held) n.0)

  inserted_reverse : (xs held : List (Part E)) → AreApart xs → inserted (reverse xs) held ≡ inserted xs held
  inserted_reverse [] held a = refl
  inserted_reverse (x ∷ xs) held a = ap (λ l. inserted l held) (reverse_onto xs x []) ∙ (inserted_last (reverse xs) x held ∙ (inserted_reverse xs (insert_by fold_cmp x held) a.1 ∙ inserted_first x xs held (fold_apart x xs a.0)))

  lists_reverse : (xs : List (Part E)) (u : TxId) → lists (reverse xs) u ≡ lists xs u
  lists_reverse [] u = refl
  lists_reverse (x ∷ xs) u = ap (λ l. lists l u) (reverse_onto xs x []) ∙ (lists_last (reverse xs) x u ∙ ap (λ b. same_tx x.tx u || b) (lists_reverse xs u))

  updates_reverse : (xs : List (Part E)) → updates_in (reverse xs) ≡ updates_in xs
  updates_reverse [] = refl
  updates_reverse (x ∷ xs) = let rest = updates_reverse xs in let last = ap updates_in (reverse_onto xs x []) ∙ updates_last (reverse xs) x in omega (arith, rest, last)

  wide_last : (n : ℕ) (xs : List (Part E)) (x : Part E) → AreWideParts n xs → length x.c ≡ n → AreWideParts n (xs ++ x ∷ [])
  wide_last n [] x w e = (e, tt)
  wide_last n (y ∷ xs) x w e = (w.0, wide_last n xs x w.1 e)

  wide_reverse : (n : ℕ) (xs : List (Part E)) → AreWideParts n xs → AreWideParts n (reverse xs)
  wide_reverse n [] w = tt
  wide_reverse n (x ∷ xs) w = subst (AreWideParts n) (sym (reverse_onto xs x [])) (wide_last n (reverse xs) x (wide_reverse n xs w.1) w.0)

  apart_last : (xs : List (Part E)) (x : Part E) → AreApart xs → lists xs x.tx ≡ false → AreApart (xs ++ x ∷ [])
  apart_last [] x a h = (refl, tt)
  apart_last (y ∷ ys) x a h = (
    lists_last ys x y.tx ∙ or_falses _ _ (same_tx_symm x.tx y.tx ∙ first_false (same_tx y.tx x.tx) (lists ys x.tx) h) a.0,
    apart_last ys x a.1 (second_false (same_tx y.tx x.tx) (lists ys x.tx) h),
  )

  apart_reverse : (xs : List (Part E)) → AreApart xs → AreApart (reverse xs)
  apart_reverse [] a = tt
  apart_reverse (x ∷ xs) a = subst AreApart (sym (reverse_onto xs x [])) (apart_last (reverse xs) x (apart_reverse xs a.1) (lists_reverse xs x.tx ∙ a.0))

  -- what is left of these parts can be put, and then the store holds what it would with all
  pub record IsPutting (all : List (Part E)) (old : Stored E) (left : List (Part E)) (now : Stored E) : Type 0 where
    pub can : CanPut left now
    pub sites : now.sites ≡ old.sites
    pub parts : inserted left now.parts ≡ inserted all old.parts
    pub room : now.room + length all ≡ old.room + length left
    pub update_room : now.update_room + updates_in all ≡ old.update_room + updates_in left

  pub putting_starts : (all : List (Part E)) (old : Stored E) (left : List (Part E)) → left ≡ reverse all → CanPut all old → IsPutting all old left old
  putting_starts all old left e h =
      let n = length-reverse all in let m = updates_reverse all in let b = ap length e in let d = ap updates_in e in record {
        can = subst (λ l. CanPut l old) (sym e) (record {
          room = let a = h.room in omega (arith, n, a);
          update_room = let a = h.update_room in omega (arith, m, a);
          apart = apart_reverse all h.apart;
          fresh = λ u k. h.fresh u (sym (lists_reverse all u) ∙ k);
          wide = wide_reverse old.sites all h.wide;
        });
        sites = refl;
        parts = ap (λ l. inserted l old.parts) e ∙ inserted_reverse all old.parts h.apart;
        room = omega (arith, n, b);
        update_room = omega (arith, m, d);
      }

  pub putting_ends : (all : List (Part E)) (old now : Stored E) (left : List (Part E)) → left ≡ [] → IsPutting all old left now → (now.parts ≡ inserted all old.parts) × (now.room + length all ≡ old.room) × (now.update_room + updates_in all ≡ old.update_room)
  putting_ends all old now left e h = (
    ap (λ l. inserted l now.parts) (sym e) ∙ h.parts,
    h.room ∙ ap (λ l. old.room + length l) e ∙ (let a : old.room + 0 ≡ old.room = omega arith in a),
    h.update_room ∙ ap (λ l. old.update_room + updates_in l) e ∙ (let a : old.update_room + 0 ≡ old.update_room = omega arith in a),
  )

  module _ (xs : List (Part E)) (x : Part E) (now : Stored E) (can : CanPut (xs ++ x ∷ []) now) where
    pub last_fits : (1 ≤ now.room) × (length x.updates ≤ now.update_room) × (lists now.parts x.tx ≡ false) × (length x.c ≡ now.sites)
    last_fits = (
      let a = can.room in let b = length-append xs (x ∷ []) in omega arith,
      let a = can.update_room in let b = updates_last xs x in omega arith,
      can.fresh x.tx (lists_last xs x x.tx ∙ or_left (same_tx x.tx x.tx) (lists xs x.tx) (same_tx_refl x.tx)),
      (wide_front now.sites xs x can.wide).1,
    )

    pub rest_fits : (after : Stored E) → after.sites ≡ now.sites → after.parts ≡ insert_by fold_cmp x now.parts → after.room + 1 ≡ now.room → after.update_room + length x.updates ≡ now.update_room → CanPut xs after
    rest_fits after same put room update_room =
        let front = apart_front xs x can.apart in record {
          room = let a = can.room in let b = length-append xs (x ∷ []) in omega arith;
          update_room = let a = can.update_room in let b = updates_last xs x in omega arith;
          apart = front.0;
          fresh = λ u k. ap (λ l. lists l u) put ∙ lists_inserted fold_cmp x now.parts u
              ∙ or_falses _ _ (false_from_ne_true (same_tx x.tx u) (λ s. true≢false (sym k ∙ subst (λ w. lists xs w ≡ false) (same_tx_is x.tx u s) front.1))) (can.fresh u (lists_last xs x u ∙ or_right (same_tx x.tx u) (lists xs u) k));
          wide = subst (λ n. AreWideParts n xs) (sym same) (wide_front now.sites xs x can.wide).0;
        }

  pub putting_more : (all : List (Part E)) (old : Stored E) (xs : List (Part E)) (x : Part E) (left : List (Part E)) (now after : Stored E) → left ≡ xs ++ x ∷ [] → IsPutting all old left now → after.sites ≡ now.sites → after.parts ≡ insert_by fold_cmp x now.parts → after.room + 1 ≡ now.room → after.update_room + length x.updates ≡ now.update_room → IsPutting all old xs after
  putting_more all old xs x left now after e h same put room update_room =
      let can : CanPut (xs ++ x ∷ []) now = subst (λ l. CanPut l now) e h.can in
      let a = length-append xs (x ∷ []) in
      let b = updates_last xs x in
      let d = h.room ∙ ap (λ l. old.room + length l) e in
      let f = h.update_room ∙ ap (λ l. old.update_room + updates_in l) e in record {
        can = rest_fits xs x now can after same put room update_room;
        sites = same ∙ h.sites;
        parts = ap (λ l. inserted xs l) put ∙ sym (inserted_last xs x now.parts) ∙ ap (λ l. inserted l now.parts) (sym e) ∙ h.parts;
        room = omega arith;
        update_room = omega arith;
      }

  pub wide_above : (n site b : ℕ) (xs : List (Part E)) → AreWideParts n xs → AreWideParts n (above site b xs)
  wide_above n site b [] w = tt
  wide_above n site b (x ∷ xs) w = let rest = wide_above n site b xs w.1 in chosen (AreWideParts n) (ltb b (entry x.c site)) (x ∷ above site b xs) (above site b xs) (λ e. (w.0, rest)) (λ e. rest)
