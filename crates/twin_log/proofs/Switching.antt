-- A switch makes five or six calls of its disk. After each, whether it answers or fails: what a crash may leave at each moment, and what stands in the end.
use Rattle.std.proofs.Common.{◌≡◌, ◌≢◌, ◌⊎◌, inl, inr, ⊎_elim, ℕ, ◌+◌, ◌-◌, ◌^◌, ◌<◌, ◌≤◌, max, min, Bool, true, false, cond, not, List, [], ◌∷◌, ◌++◌, length, get_or, take, drop, IsTrue, refl, sym, ap, ◌∙◌, subst, arith, length-append, length-take}
use Rattle.std.specs.Prelude.{◌==◌}
use Rattle.std.specs.Int.{w64, to_be_bytes, from_be_bytes}
use Rattle.std.proofs.lemmas.List.{get_or-take, get_or-drop}
use Rattle.std.proofs.lemmas.Bool.{cases_lt}
use Rattle.std.proofs.lemmas.Bool.Decides.{nat_tests}
use Rattle.std.proofs.lemmas.Nat.{from_be_bytes-to_be_bytes_8}
use Rattle.disk_core.specs.Images.{Content, Image, is_written, after_write, after_sync, after_cut}
use Rattle.disk_core.specs.States.{Story, DiskState, moved, TearsAtMost}
use Rattle.disk_core.specs.Moments.{AtEachMoment}
use Rattle.disk_core.proofs.Inside.{before_write, amid_write, only_synced}
use Rattle.disk_core.proofs.Torn.{overwritten-before, overwritten-behind, length-overwritten, same_outside}
use Rattle.disk_core.proofs.Moments.{at_first, rested, moved_on, torn_on}
use Rattle.gate_log.specs.Log.{records}
use Rattle.gate_log.specs.Rest.{synced_write}
use Rattle.gate_log.proofs.Writes.{only_range}
use Rattle.gate_log.proofs.Kept.{same_take}
use Rattle.twin_log.specs.Twin.{header, slot_if, other_if, turned_if, switch_of, is_second, start_at, start_of, area, IsTwinLog, IsEither}
use Rattle.twin_log.specs.Rests.{AtRest, Stands, IsArea, IsNext, goes_first}
use Rattle.twin_log.specs.declared.spot.Spot.{Spot}
use Rattle.twin_log.proofs.Lists.{same_slice, written_there}
use Rattle.twin_log.proofs.Holds.{whole_area, log_by_parts, log_of_area, stands_of_area, rests_from, start_within}

-- a place outside of two ranges
two_ranges : (a n b m i : ℕ) (ranges : List (ℕ × ℕ)) → ranges ≡ [] → (i < a) ⊎ (a + n ≤ i) → (i < b) ⊎ (b + m ≤ i) → is_written ((a, n) ∷ (b, m) ∷ ranges) i ≡ false
two_ranges a n b m i ranges none one two =
    ap (λ (rs : List (ℕ × ℕ)). is_written ((a, n) ∷ (b, m) ∷ rs) i) none
    ∙ ⊎_elim
    (λ below. ⊎_elim (λ under. grind (arith, nat_tests)) (λ over. grind (arith, nat_tests)) two)
    (λ above. ⊎_elim (λ under. grind (arith, nat_tests)) (λ over. grind (arith, nat_tests)) two)
    one

-- the two starts stand apart
slots : (b : Bool) → ((slot_if b ≡ 17) × (other_if b ≡ 9)) ⊎ ((slot_if b ≡ 9) × (other_if b ≡ 17))
slots true = inl (refl, refl)
slots false = inr (refl, refl)

turned_slot : (b : Bool) → slot_if (turned_if b == 1) ≡ other_if b
turned_slot true = refl
turned_slot false = refl

turned_side : (b : Bool) → cond b false true ≡ (turned_if b == 1)
turned_side true = refl
turned_side false = refl

same_or_other : (a b : Bool) → (a ≡ b) ⊎ (slot_if a ≡ other_if b)
same_or_other true true = inl refl
same_or_other true false = inr refl
same_or_other false true = inr refl
same_or_other false false = inl refl

-- apart from the switch byte
beside_eight : (i : ℕ) → i ≢ 8 → (i < 8) ⊎ (8 + 1 ≤ i)
beside_eight i not = elim (cases_lt i 8) [
  | inl below ↦ inl below
  | inr from ↦ inr (omega (arith, from, not))
]

-- where the new area stands: before the one in use, or behind its closed gate
abbrev pub IsTarget : Spot → ℕ → ℕ → Type 0
IsTarget spot size target = ((target ≡ 25) × (25 + size ≤ spot.start)) ⊎ (target ≡ spot.end + 1)

by_place : (spot : Spot) (size : ℕ) (first : Bool) → goes_first spot size ≡ first → 25 ≤ spot.start → IsTarget spot size (cond first 25 (spot.end + 1))
by_place spot size true is past = let less : size ≤ spot.start - 25 = grind (arith, nat_tests) in inl (refl, omega (arith, less, past))
by_place spot size false is past = inr refl

pub is_target : (spot next : Spot) (size : ℕ) → IsNext spot size next → 25 ≤ spot.start → IsTarget spot size next.start
is_target spot next size to past = subst (IsTarget spot size) (sym to.start) (by_place spot size (goes_first spot size) refl past)

-- A switch: from where the log stands, with the list before, to the next spot, and what its calls write.
pub record Switch : Type 0 where
  pub disk : DiskState
  pub spot : Spot
  pub next : Spot
  pub before : List (List ℕ)
  pub rest : AtRest disk spot before
  pub bytes : List ℕ
  pub after : List (List ℕ)
  pub new : IsArea bytes next.format after
  pub to : IsNext spot (length bytes) next
  pub small : next.start < 2 ^ 64
  -- the place of the other start, the bytes of the new one, and the new switch byte
  pub other : ℕ
  pub other_is : other ≡ other_if spot.second
  pub told : List ℕ
  pub told_is : told ≡ to_be_bytes w64 next.start
  pub turned : ℕ
  pub turned_is : turned ≡ turned_if spot.second

module _ (it : Switch) where
  abbrev P : List ℕ → Type 0
  P = IsEither it.spot.format it.before it.next.format it.after

  abbrev target : ℕ
  target = it.next.start

  abbrev new : List ℕ
  new = it.bytes

  abbrev s0 : Story
  s0 = it.disk.story

  abbrev c0 : Content
  c0 = s0.now

  abbrev b0 : List ℕ
  b0 = c0.bytes

  abbrev log : IsTwinLog b0 it.spot.format it.before
  log = it.rest.stands.log

  abbrev start : ℕ
  start = it.spot.start

  abbrev end : ℕ
  end = it.spot.end

  abbrev c1 : Content
  c1 = after_write target new c0

  abbrev c2 : Content
  c2 = after_write it.other it.told c1

  abbrev c3 : Content
  c3 = after_sync c2

  abbrev c4 : Content
  c4 = after_write 8 (it.turned ∷ []) c3

  abbrev c5 : Content
  c5 = after_sync c4

  abbrev c6 : Content
  c6 = after_cut (it.next.end + 1) c5

  eight : length it.told ≡ 8
  eight = ap length it.told_is

  long : end + 1 + length log.rest ≡ length b0
  long = omega (arith, start_within b0 it.spot.format it.before log, it.rest.stands.place, it.rest.stands.begins)

  starts : 25 ≤ start
  starts = omega (arith, it.rest.stands.begins, log.past)

  reach : start ≤ end
  reach = omega (arith, it.rest.stands.place)

  place : IsTarget it.spot (length new) target
  place = is_target it.spot it.next (length new) it.to starts

  pub target_within : target ≤ length b0
  target_within = ⊎_elim (λ front. omega (arith, front.0, front.1, starts, long, reach)) (λ back. omega (arith, back, long)) place

  target_past : 25 ≤ target
  target_past = ⊎_elim (λ front. omega (arith, front.0)) (λ back. omega (arith, back, starts, reach)) place

  other_place : (it.other ≡ 9) ⊎ (it.other ≡ 17)
  other_place = ⊎_elim (λ x. inl (it.other_is ∙ x.1)) (λ x. inr (it.other_is ∙ x.1)) (slots it.spot.second)

  other_low : 9 ≤ it.other
  other_low = ⊎_elim (λ x. omega (arith, x)) (λ x. omega (arith, x)) other_place

  other_high : it.other + 8 ≤ 25
  other_high = ⊎_elim (λ x. omega (arith, x)) (λ x. omega (arith, x)) other_place

  long_1 : length c1.bytes ≡ max (length b0) (target + length new)
  long_1 = length-overwritten target new b0 target_within

  pub other_within : it.other ≤ length c1.bytes
  other_within = omega (arith, long_1, other_high, starts, long, reach)

  long_2 : length c2.bytes ≡ length c1.bytes
  long_2 = let l = length-overwritten it.other it.told c1.bytes other_within in omega (arith, l, eight, long_1, other_high, starts, long, reach)

  -- what the first two writes leave alone
  untouched : (i : ℕ) → (i < it.other) ⊎ (it.other + 8 ≤ i) → (i < target) ⊎ (target + length new ≤ i) → get_or c2.bytes i 0 ≡ get_or b0 i 0
  untouched i beside apart = same_outside it.other i it.told c1.bytes other_within (subst (λ (n : ℕ). (i < it.other) ⊎ (it.other + n ≤ i)) (sym eight) beside) ∙ same_outside target i new b0 target_within apart

  -- the old area stands apart from the new one
  area_apart : (i : ℕ) → start ≤ i → i < end + 1 → (i < target) ⊎ (target + length new ≤ i)
  area_apart i from until = ⊎_elim (λ front. inr (omega (arith, front.0, front.1, from))) (λ back. inl (omega (arith, back, until))) place

  head_apart : (i : ℕ) → i < 25 → (i < target) ⊎ (target + length new ≤ i)
  head_apart i low = inl (omega (arith, low, target_past))

  abbrev size : ℕ
  size = length (whole_area log)

  size_is : start + size ≡ end + 1
  size_is = omega (arith, it.rest.stands.place, length-append (area it.spot.format log.image ++ records log.tail) (log.gate ∷ []))

  -- bytes that are the old ones where it counts, and in which the old start is in use
  old_in : (image : List ℕ) → end + 1 ≤ length image → ((i : ℕ) → i ≤ end → i ≢ 8 → (i < it.other) ⊎ (it.other + 8 ≤ i) → (i < target) ⊎ (target + length new ≤ i) → get_or image i 0 ≡ get_or b0 i 0)
      → is_second image ≡ it.spot.second → IsTwinLog image it.spot.format it.before
  old_in image in_image same side =
      let used = slot_if it.spot.second in
      let low : (9 ≤ used) × (used + 8 ≤ 25) × ((used + 8 ≤ it.other) ⊎ (it.other + 8 ≤ used)) =
      ⊎_elim (λ x. (omega (arith, x.0), omega (arith, x.0), inr (omega (arith, x.0, x.1, it.other_is)))) (λ x. (omega (arith, x.0), omega (arith, x.0), inl (omega (arith, x.0, x.1, it.other_is)))) (slots it.spot.second) in
      let end_high : 25 ≤ end = omega (arith, starts, reach) in
      let head : take 8 image ≡ take 8 b0 =
      same_take 8 image b0 (omega (arith, in_image, end_high)) (omega (arith, long, end_high)) (λ i below. same i (omega (arith, below, end_high)) (λ is. omega (arith, is, below)) (inl (omega (arith, below, other_low))) (head_apart i (omega (arith, below)))) in
      let slice : take 8 (drop used image) ≡ take 8 (drop used b0) =
      same_slice used 8 image b0 (omega (arith, low.1, in_image, end_high)) (omega (arith, low.1, long, end_high)) (λ i from until.
      same i (omega (arith, until, low.1, end_high)) (λ is. omega (arith, is, from, low.0)) (⊎_elim (λ x. inl (omega (arith, x, until))) (λ x. inr (omega (arith, x, from))) low.2) (head_apart i (omega (arith, until, low.1)))) in
      let begins : start_of image ≡ start_of b0 = ap (λ (b : Bool). start_at (slot_if b) image) side ∙ ap (from_be_bytes w64) slice ∙ ap (λ (b : Bool). start_at (slot_if b) b0) it.rest.stands.turn in
      let area_same : take size (drop start image) ≡ take size (drop start b0) =
      same_slice start size image b0 (omega (arith, size_is, in_image)) (omega (arith, size_is, long)) (λ i from until.
      let until_end : i < end + 1 = omega (arith, until, size_is) in
      same i (omega (arith, until_end)) (λ is. omega (arith, is, from, starts)) (inr (omega (arith, from, starts, other_high))) (area_apart i from until_end)) in
      log_by_parts b0 image it.spot.format it.before log head begins size refl (subst (λ (s : ℕ). take size (drop s image) ≡ take size (drop s b0)) it.rest.stands.begins area_same)

  -- bytes that are those of the first two writes, but for the switch byte, by which the new start is in use
  module _ (image : List ℕ) (in_image : target + length new ≤ length image) (same : (i : ℕ) → i < target + length new → i ≢ 8 → get_or image i 0 ≡ get_or c2.bytes i 0) (side : slot_if (is_second image) ≡ it.other) where
    long_c2 : target + length new ≤ length c2.bytes
    long_c2 = omega (arith, long_1, long_2)

    new_head : take 8 image ≡ header
    new_head =
        let end_high : 25 ≤ end = omega (arith, starts, reach) in
        same_take 8 image b0 (omega (arith, in_image, target_past)) (omega (arith, long, end_high)) (λ i below.
        same i (omega (arith, below, target_past)) (λ is. omega (arith, is, below)) ∙ untouched i (inl (omega (arith, below, other_low))) (head_apart i (omega (arith, below))))
        ∙ log.headed

    new_start : start_of image ≡ target
    new_start =
        let slice : take 8 (drop it.other image) ≡ take 8 (drop it.other c2.bytes) =
        same_slice it.other 8 image c2.bytes (omega (arith, in_image, target_past, other_high)) (omega (arith, long_c2, target_past, other_high)) (λ i from until. same i (omega (arith, until, target_past, other_high)) (λ is. omega (arith, is, from, other_low))) in
        let there : take 8 (drop it.other c2.bytes) ≡ it.told = subst (λ (n : ℕ). take n (drop it.other c2.bytes) ≡ it.told) eight (written_there it.other it.told c1.bytes other_within) in
        ap (λ (s : ℕ). start_at s image) side ∙ ap (from_be_bytes w64) (slice ∙ there ∙ it.told_is) ∙ from_be_bytes-to_be_bytes_8 target it.small

    new_past : 25 ≤ start_of image
    new_past = omega (arith, new_start, target_past)

    new_area : take (length new) (drop (start_of image) image) ≡ new
    new_area =
        let area_is : take (length new) (drop target image) ≡ take (length new) (drop target c1.bytes) =
        same_slice target (length new) image c1.bytes in_image (omega (arith, long_1)) (λ i from until.
        same i until (λ is. omega (arith, is, from, target_past)) ∙ same_outside it.other i it.told c1.bytes other_within (inr (omega (arith, eight, from, target_past, other_high)))) in
        subst (λ (s : ℕ). take (length new) (drop s image) ≡ new) (sym new_start) (area_is ∙ written_there target new b0 target_within)

    new_in : IsTwinLog image it.next.format it.after
    new_in = log_of_area image new it.next.format it.after it.new new_head new_past new_area

    new_stands : it.next.second ≡ is_second image → Stands image it.next it.after
    new_stands turn = stands_of_area image new it.next it.after it.new new_head new_past (sym new_start) new_area turn it.to.gate

  -- before the new start is durable
  in_2 : (image : List ℕ) → Image c2 image → P image
  in_2 image left =
      let in_image : end + 1 ≤ length image = omega (arith, it.rest.durable, left.no_shorter) in
      let same : (i : ℕ) → i ≤ end → (i < it.other) ⊎ (it.other + 8 ≤ i) → (i < target) ⊎ (target + length new ≤ i) → get_or image i 0 ≡ get_or b0 i 0 =
      λ i inside beside apart.
      left.stays i (omega (arith, inside, it.rest.durable)) (two_ranges it.other (length it.told) target (length new) i c0.written it.rest.unwritten (subst (λ (n : ℕ). (i < it.other) ⊎ (it.other + n ≤ i)) (sym eight) beside) apart) ∙ untouched i beside apart in
      let turn : switch_of image ≡ switch_of b0 = same 8 (omega (arith, starts, reach)) (inl (omega (arith, other_low))) (head_apart 8 (omega arith)) in
      inl (old_in image in_image (λ i inside _ beside apart. same i inside beside apart) (ap (λ (n : ℕ). n == 1) turn ∙ sym it.rest.stands.turn))

  in_1 : (image : List ℕ) → Image c1 image → P image
  in_1 image left = in_2 image (before_write it.other it.told c1 image other_within left)

  in_0 : (image : List ℕ) → Image c0 image → P image
  in_0 image left = in_1 image (before_write target new c0 image target_within left)

  long_4 : length c4.bytes ≡ length c2.bytes
  long_4 = let l = length-overwritten 8 (it.turned ∷ []) c2.bytes (omega (arith, long_2, other_within, other_low)) in omega (arith, l, long_2, long_1, starts, long, reach)

  eight_within : 8 ≤ length c3.bytes
  eight_within = omega (arith, long_2, other_within, other_low)

  same_4 : (i : ℕ) → i ≢ 8 → get_or c4.bytes i 0 ≡ get_or c2.bytes i 0
  same_4 i not = ⊎_elim
      (λ below. overwritten-before 8 i (it.turned ∷ []) c2.bytes eight_within below)
      (λ above. overwritten-behind 8 i (it.turned ∷ []) c2.bytes eight_within above)
      (beside_eight i not)

  -- at the switch byte anything may stand
  in_4 : (image : List ℕ) → Image c4 image → P image
  in_4 image left =
      let in_image : length c2.bytes ≤ length image = left.no_shorter in
      let all : (i : ℕ) → i < length c2.bytes → i ≢ 8 → get_or image i 0 ≡ get_or c2.bytes i 0 =
      λ i inside not. left.stays i inside (only_range 8 1 i [] refl (beside_eight i not)) ∙ same_4 i not in
      ⊎_elim
      (λ same. inl (old_in image (omega (arith, in_image, long_2, long_1, long)) (λ i inside not beside apart. all i (omega (arith, inside, long_2, long_1, long)) not ∙ untouched i beside apart) same))
      (λ differs. inr (new_in image (omega (arith, in_image, long_2, long_1)) (λ i inside not. all i (omega (arith, inside, long_2, long_1)) not) (differs ∙ sym it.other_is)))
      (same_or_other (is_second image) it.spot.second)

  in_3 : (image : List ℕ) → Image c3 image → P image
  in_3 image left = in_4 image (before_write 8 (it.turned ∷ []) c3 image eight_within left)

  turned_there : switch_of c4.bytes ≡ turned_if it.spot.second
  turned_there =
      let there = written_there 8 (it.turned ∷ []) c2.bytes eight_within in
      sym (get_or-drop 8 c4.bytes 0 0) ∙ sym (get_or-take 1 (drop 8 c4.bytes) 0 0 (omega arith)) ∙ ap (λ (l : List ℕ). get_or l 0 0) there ∙ it.turned_is

  side_4 : slot_if (is_second c4.bytes) ≡ it.other
  side_4 = ap (λ (n : ℕ). slot_if (n == 1)) turned_there ∙ turned_slot it.spot.second ∙ sym it.other_is

  turn_4 : it.next.second ≡ is_second c4.bytes
  turn_4 = it.to.second ∙ turned_side it.spot.second ∙ ap (λ (n : ℕ). n == 1) (sym turned_there)

  -- the new log, also where it was cut
  log_5 : IsTwinLog c4.bytes it.next.format it.after
  log_5 = new_in c4.bytes (omega (arith, long_4, long_2, long_1)) (λ i inside not. same_4 i not) side_4

  log_6 : (image : List ℕ) (n : ℕ) → target + length new ≤ n → n ≤ length image → n ≤ length c4.bytes → take n image ≡ take n c4.bytes → IsTwinLog image it.next.format it.after
  log_6 image n far in_image in_c4 same =
      let each : (i : ℕ) → i < n → get_or image i 0 ≡ get_or c4.bytes i 0 = λ i below. sym (get_or-take n image i 0 below) ∙ ap (λ (l : List ℕ). get_or l i 0) same ∙ get_or-take n c4.bytes i 0 below in
      new_in image (omega (arith, far, in_image)) (λ i inside not. each i (omega (arith, inside, far)) ∙ same_4 i not) (ap (λ (n : ℕ). slot_if (n == 1)) (each 8 (omega (arith, far, target_past))) ∙ side_4)

  abbrev pub S1 : Story
  S1 = moved c1 s0

  abbrev pub S3 : Story
  S3 = synced_write it.other it.told S1

  abbrev pub S5 : Story
  S5 = synced_write 8 (it.turned ∷ []) S3

  abbrev pub S6 : Story
  S6 = moved c6 S5

  pub failed_1 : (s : Story) → TearsAtMost target (length new) s0 s → AtEachMoment s0 s P
  failed_1 s torn = torn_on s0 s0 s target (length new) P (at_first s0 P in_0) torn (λ m less t image left. in_1 image (amid_write target m new c0 s.now image target_within less it.rest.whole t left))

  at_1 : AtEachMoment s0 S1 P
  at_1 = moved_on s0 s0 S1 c1 P (at_first s0 P in_0) refl in_1

  at_2 : AtEachMoment s0 (moved c2 S1) P
  at_2 = moved_on s0 S1 (moved c2 S1) c2 P at_1 refl in_2

  at_3 : AtEachMoment s0 S3 P
  at_3 = moved_on s0 (moved c2 S1) S3 c3 P at_2 refl in_3

  at_4 : AtEachMoment s0 (moved c4 S3) P
  at_4 = moved_on s0 S3 (moved c4 S3) c4 P at_3 refl in_4

  at_5 : AtEachMoment s0 S5 P
  at_5 = moved_on s0 (moved c4 S3) S5 c5 P at_4 refl (λ image left. inr (subst (λ (l : List ℕ). IsTwinLog l it.next.format it.after) (sym (only_synced c4 image left)) log_5))

  -- the cut, to the end of the new area
  cut_is : it.next.end + 1 ≡ target + length new
  cut_is = it.to.gate

  in_c4 : it.next.end + 1 ≤ length c4.bytes
  in_c4 = omega (arith, cut_is, long_4, long_2, long_1)

  at_6 : AtEachMoment s0 S6 P
  at_6 = moved_on s0 S5 S6 c6 P at_5 refl (λ image left.
      let n = it.next.end + 1 in
      let in_image : n ≤ length image = omega (arith, left.no_shorter, in_c4) in
      inr (log_6 image n (omega (arith, cut_is)) in_image in_c4 (same_take n image c4.bytes in_image in_c4 (λ i below. left.stays i (omega (arith, below, in_c4)) refl ∙ get_or-take n c4.bytes i 0 below))))

  rests_5 : (now : DiskState) → now.story ≡ S5 → IsTrue now.tells → AtRest now it.next it.after
  rests_5 now is told =
      let bytes : now.story.now.bytes ≡ c4.bytes = ap (λ (s : Story). s.now.bytes) is in
      let least : now.story.now.least ≡ length c4.bytes = ap (λ (s : Story). s.now.least) is in
      let same : length now.story.now.bytes ≡ length c4.bytes = ap length bytes in
      let stands = new_stands c4.bytes (omega (arith, long_4, long_2, long_1)) (λ i inside not. same_4 i not) side_4 turn_4 in
      rests_from now c4.bytes it.next it.after bytes stands told (ap (λ (s : Story). s.now.written) is) (omega (arith, least, in_c4)) (omega (arith, least, same))

  rests_6 : (now : DiskState) → now.story ≡ S6 → IsTrue now.tells → AtRest now it.next it.after
  rests_6 now is told =
      let n = it.next.end + 1 in
      let cut = take n c4.bytes in
      let long_cut : length cut ≡ n = simp length-take (omega (arith, in_c4)) in
      let bytes : now.story.now.bytes ≡ cut = ap (λ (s : Story). s.now.bytes) is in
      let least : now.story.now.least ≡ min (length c4.bytes) n = ap (λ (s : Story). s.now.least) is in
      let same : length now.story.now.bytes ≡ length cut = ap length bytes in
      let switch : switch_of cut ≡ switch_of c4.bytes = get_or-take n c4.bytes 8 0 (omega (arith, cut_is, target_past)) in
      let stands = new_stands cut (omega (arith, long_cut, cut_is)) (λ i inside not. get_or-take n c4.bytes i 0 (omega (arith, inside, cut_is)) ∙ same_4 i not) (ap (λ (k : ℕ). slot_if (k == 1)) switch ∙ side_4) (turn_4 ∙ ap (λ (k : ℕ). k == 1) (sym switch)) in
      rests_from now cut it.next it.after bytes stands told (ap (λ (s : Story). s.now.written) is) (omega (arith, least, in_c4)) (omega (arith, least, same, long_cut, in_c4))

  -- behind the first write
  module _ (s1 : Story) (first : s1 ≡ S1) where
    pub start_place : it.other ≤ length s1.now.bytes
    start_place = subst (λ (s : Story). it.other ≤ length s.now.bytes) (sym first) other_within

    pub start_stopped : (s : Story) → TearsAtMost it.other (length it.told) s1 s ⊎ (s ≡ moved (after_write it.other it.told s1.now) s1) → AtEachMoment s0 s P
    start_stopped s stopped = ⊎_elim
        (λ torn. torn_on s0 S1 s it.other (length it.told) P at_1 torn (λ m less t image left. in_2 image (amid_write it.other m it.told c1 s.now image other_within less (omega (arith, long_1, it.rest.whole)) t left)))
        (λ wrote. moved_on s0 S1 s c2 P at_1 wrote in_2)
        (subst (λ (m : Story). TearsAtMost it.other (length it.told) m s ⊎ (s ≡ moved (after_write it.other it.told m.now) m)) first stopped)

    -- behind the new start's sync
    module _ (s3 : Story) (third : s3 ≡ synced_write it.other it.told s1) where
      s3_is : s3 ≡ S3
      s3_is = third ∙ ap (synced_write it.other it.told) first

      pub switch_place : 8 ≤ length s3.now.bytes
      switch_place = subst (λ (s : Story). 8 ≤ length s.now.bytes) (sym s3_is) eight_within

      pub turn_stopped : (s : Story) → TearsAtMost 8 1 s3 s ⊎ (s ≡ moved (after_write 8 (it.turned ∷ []) s3.now) s3) → AtEachMoment s0 s P
      turn_stopped s stopped = ⊎_elim
          (λ torn. torn_on s0 S3 s 8 1 P at_3 torn (λ m less t image left. in_4 image (amid_write 8 m (it.turned ∷ []) c3 s.now image eight_within less (omega arith) t left)))
          (λ wrote. moved_on s0 S3 s c4 P at_3 wrote in_4)
          (subst (λ (m : Story). TearsAtMost 8 1 m s ⊎ (s ≡ moved (after_write 8 (it.turned ∷ []) m.now) m)) s3_is stopped)

      -- behind the switch byte's sync
      module _ (s5 : Story) (fifth : s5 ≡ synced_write 8 (it.turned ∷ []) s3) where
        s5_is : s5 ≡ S5
        s5_is = fifth ∙ ap (synced_write 8 (it.turned ∷ [])) s3_is

        pub turned_moment : AtEachMoment s0 s5 P
        turned_moment = rested s0 S5 s5 P at_5 s5_is

        pub turned_rests : (now : DiskState) → now.story ≡ s5 → IsTrue now.tells → AtRest now it.next it.after
        turned_rests now is told = rests_5 now (is ∙ s5_is) told

        pub cut_place : it.next.end + 1 ≤ length s5.now.bytes
        cut_place = subst (λ (s : Story). it.next.end + 1 ≤ length s.now.bytes) (sym s5_is) in_c4

        pub cut_failed : (s : Story) → s ≡ s5 → AtEachMoment s0 s P
        cut_failed s same = rested s0 s5 s P turned_moment same

        module _ (s6 : Story) (sixth : s6 ≡ moved (after_cut (it.next.end + 1) s5.now) s5) where
          s6_is : s6 ≡ S6
          s6_is = sixth ∙ ap (λ (s : Story). moved (after_cut (it.next.end + 1) s.now) s) s5_is

          pub cut_moment : AtEachMoment s0 s6 P
          cut_moment = rested s0 S6 s6 P at_6 s6_is

          pub cut_rests : (now : DiskState) → now.story ≡ s6 → IsTrue now.tells → AtRest now it.next it.after
          cut_rests now is told = rests_6 now (is ∙ s6_is) told
