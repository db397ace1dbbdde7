-- What a message brings above a bound has a spelling where the message has one.
use Rattle.std.proofs.Common.{◌≡◌, ℕ, ltb, Bool, true, List, [], ◌∷◌, Option, None, Some, refl, ap, ◌∙◌}
use Rattle.std.specs.Ordering.{is_lt}
use Rattle.std.specs.declared.cmp.Ordering.{Ordering}
use Rattle.std.specs.declared.cmp.Ordering.TheVariants.{Less, Equal, Greater}
use Rattle.std.specs.Cmp.{IsTotalOrder}
use Rattle.std.specs.List.{list_all}
use Rattle.field_codec.specs.FormLaws.{both_true, and_true}
use Rattle.std.proofs.lemmas.Cmp.{nat_cmp_total, on_total, then_total}
use Rattle.field_codec.specs.Spelling.{may_follow, are_in_order, is_below}
use Rattle.site_vector.specs.Order.{tx_cmp_total}
use Rattle.site_vector.specs.Vector.{entry}
use Rattle.crdt_core.specs.declared.kind.Kind.{Kind}
use Rattle.crdt_core.specs.declared.record.Part.{Part}
use Rattle.crdt_core.specs.declared.record.Message.{Message}
use Rattle.crdt_core.specs.Parts.{above}
use Rattle.log_records.specs.Messages.{can_put_message}
use Rattle.log_records.specs.Parts.{time_at, part_cmp, can_put_part, can_put_parts}
use Rattle.partition_core.proofs.Choices.{chosen}

is_lt-Less : (r : Ordering) → is_lt r ≡ true → r ≡ Less
is_lt-Less Less h = refl
is_lt-Less Equal h = cc
is_lt-Less Greater h = cc

module _ {E : Type 0} (site : ℕ) where
  part_total : IsTotalOrder (part_cmp {E = E} site)
  part_total = then_total (on_total (λ (x : Part E). time_at site x.c) nat_cmp_total) (on_total (λ (x : Part E). x.tx) tx_cmp_total)

  below : (x y z : Part E) → is_below (part_cmp site) x y ≡ true → is_below (part_cmp site) y z ≡ true → is_below (part_cmp site) x z ≡ true
  below x y z h k = ap is_lt (part_total.trans x y z (is_lt-Less (part_cmp site x y) h) (is_lt-Less (part_cmp site y z) k))

  -- what may follow one part may follow one before it
  earlier : (before : Option (Part E)) (x : Part E) (ys : List (Part E)) → may_follow (is_below (part_cmp site)) before x ≡ true → are_in_order (is_below (part_cmp site)) (Some x) ys ≡ true → are_in_order (is_below (part_cmp site)) before ys ≡ true
  earlier before x [] h k = refl
  earlier None x (y ∷ ys) h k = and_true true (are_in_order (is_below (part_cmp site)) (Some y) ys) refl ((both_true (is_below (part_cmp site) x y) (are_in_order (is_below (part_cmp site)) (Some y) ys) k).1)
  earlier (Some w) x (y ∷ ys) h k =
      and_true (is_below (part_cmp site) w y) (are_in_order (is_below (part_cmp site)) (Some y) ys)
      (below w x y h ((both_true (is_below (part_cmp site) x y) (are_in_order (is_below (part_cmp site)) (Some y) ys) k).0))
      ((both_true (is_below (part_cmp site) x y) (are_in_order (is_below (part_cmp site)) (Some y) ys) k).1)

  ordered_above : (b : ℕ) (before : Option (Part E)) (xs : List (Part E)) → are_in_order (is_below (part_cmp site)) before xs ≡ true → are_in_order (is_below (part_cmp site)) before (above site b xs) ≡ true
  ordered_above b before [] h = refl
  ordered_above b before (x ∷ xs) h =
      let first = (both_true (may_follow (is_below (part_cmp site)) before x) (are_in_order (is_below (part_cmp site)) (Some x) xs) h).0 in
      let rest = ordered_above b (Some x) xs ((both_true (may_follow (is_below (part_cmp site)) before x) (are_in_order (is_below (part_cmp site)) (Some x) xs) h).1) in
      chosen (λ l. are_in_order (is_below (part_cmp site)) before l ≡ true) (ltb b (entry x.c site)) (x ∷ above site b xs) (above site b xs)
      (λ _. and_true (may_follow (is_below (part_cmp site)) before x) (are_in_order (is_below (part_cmp site)) (Some x) (above site b xs)) first rest)
      (λ _. earlier before x (above site b xs) first rest)

  all_above : (test : Part E → Bool) (b : ℕ) (xs : List (Part E)) → list_all test xs ≡ true → list_all test (above site b xs) ≡ true
  all_above test b [] h = refl
  all_above test b (x ∷ xs) h =
      let first = (both_true (test x) (list_all test xs) h).0 in
      let rest = all_above test b xs ((both_true (test x) (list_all test xs) h).1) in
      chosen (λ l. list_all test l ≡ true) (ltb b (entry x.c site)) (x ∷ above site b xs) (above site b xs) (λ _. and_true (test x) (list_all test (above site b xs)) first rest) (λ _. rest)

  parts_above : (has : Kind → Bool) (is_of : Kind → E → Bool) (can_put : E → Bool) (b : ℕ) (xs : List (Part E)) → can_put_parts has is_of can_put site xs ≡ true → can_put_parts has is_of can_put site (above site b xs) ≡ true
  parts_above has is_of can_put b xs h =
      and_true (are_in_order (is_below (part_cmp site)) None (above site b xs)) (list_all (can_put_part has is_of can_put) (above site b xs))
      (ordered_above b None xs ((both_true (are_in_order (is_below (part_cmp site)) None xs) (list_all (can_put_part has is_of can_put) xs) h).0))
      (all_above (can_put_part has is_of can_put) b xs ((both_true (are_in_order (is_below (part_cmp site)) None xs) (list_all (can_put_part has is_of can_put) xs) h).1))

module _ {E : Type 0} (has : Kind → Bool) (is_of : Kind → E → Bool) (can_put : E → Bool) where
  -- by the message that is cut off
  pub cut_fits : (m news : Message E) (b : ℕ) → news ≡ record { from = m.from; to = m.to; part = m.part; lo = b; hi = m.hi; parts = above m.from b m.parts } → can_put_message has is_of can_put m ≡ true → can_put_message has is_of can_put news ≡ true
  cut_fits m news b e h = ap (λ n. can_put_message has is_of can_put n) e ∙ parts_above m.from has is_of can_put b m.parts h
