-- What the two loops over an area found: its gates, or where it is cut off.
use Rattle.std.proofs.Common.{◌≡◌, ℕ, suc, ◌+◌, ◌-◌, ◌^◌, ◌<◌, ◌≤◌, min, Bool, true, false, List, ◌∷◌, ◌++◌, length, get_or, take, drop, refl, sym, ap, ◌∙◌, arith, append_assoc, length-append, length-take, length-drop, take-append-drop}
use Rattle.std.specs.Prelude.{nat_le}
use Rattle.std.specs.Str.{bytes_eq}
use Rattle.std.specs.Int.{w32, to_be_bytes}
use Rattle.std.proofs.lemmas.List.{drop_more, drop-append-le, drop-take, drop-drop, take_rest}
use Rattle.std.proofs.lemmas.Bool.{and_parts}
use Rattle.std.proofs.lemmas.Slice.Eq.{bytes_eq-Decides}
use Rattle.std.proofs.Math.Seq.{take-add}
use Rattle.std.proofs.lemmas.Nat.{be_bytes_4}
use Rattle.gate_log.specs.Log.{records, IsTail, tail_end}
use Rattle.gate_log.specs.Damage.{told_length, is_whole, IsCutBehind}
use Rattle.twin_log.specs.Twin.{header, is_second, start_of, is_format, items, area}
use Rattle.twin_log.specs.Damage.{has_head, IsCutInImage, IsCutInTail}
use Rattle.twin_log.specs.Found.{HasItems, IsFound}
use Rattle.twin_log.proofs.Items.{four_bytes}

-- a header that is there
pub head_is : (bytes : List ℕ) → has_head bytes ≡ true → take 8 bytes ≡ header
head_is bytes headed = (bytes_eq-Decides (take 8 bytes) header).0 (and_parts (nat_le 25 (length bytes)) (bytes_eq (take 8 bytes) header) headed).1

-- The area in use begins with a format byte and a count, and then so many payloads of its image stand whole.
pub record BeginsWell (bytes : List ℕ) (start count images at : ℕ) : Type 0 where
  pub start_is : start ≡ start_of bytes
  pub within : start + 6 ≤ length bytes
  pub are_bytes : (i : ℕ) → get_or bytes i 0 < 256
  pub count_is : count ≡ told_length (drop (start + 1) bytes)
  pub small : count < 2 ^ 32
  pub read : HasItems bytes (start + 5) images at

-- by what was read of the slice behind the format byte
pub well_begun : (bytes : List ℕ) (start count images at : ℕ) → start ≡ start_of bytes → start + 6 ≤ length bytes → ((i : ℕ) → get_or bytes i 0 < 256) → count ≡ told_length (take (length bytes - (start + 1)) (drop (start + 1) bytes)) → count < 2 ^ 32 → HasItems bytes (start + 5) images at
    → BeginsWell bytes start count images at
well_begun bytes start count images at start_is within are_bytes told small read = record {
  start_is = start_is;
  within = within;
  are_bytes = are_bytes;
  count_is = told ∙ ap told_length (take_rest bytes (start + 1));
  small = small;
  read = read;
}

module _ (bytes : List ℕ) (start count images at : ℕ) (well : BeginsWell bytes start count images at) where
  abbrev format : ℕ
  format = get_or bytes start 0

  -- the format byte and the count
  abbrev first : List ℕ
  first = format ∷ to_be_bytes w32 count

  count_bytes : take 4 (drop (start + 1) bytes) ≡ to_be_bytes w32 count
  count_bytes =
      let four : length (take 4 (drop (start + 1) bytes)) ≡ 4 = simp (length-take, length-drop) (omega (arith, well.within)) in
      sym (be_bytes_4 (take 4 (drop (start + 1) bytes)) count four (four_bytes bytes (start + 1) well.are_bytes) well.count_is)

  -- up to the payload that wasn't read
  in_front : drop start (take at bytes) ≡ first ++ items well.read.image
  in_front =
      let k = at - (start + 5) in
      let rest = drop (start + 1) bytes in
      let sum : at ≡ start + suc (4 + k) = omega (arith, well.read.reach) in
      let other : at ≡ (start + 5) + k = omega (arith, well.read.reach) in
      let place : (start + 1) + 4 ≡ start + 5 = omega arith in
      let image : take k (drop 4 rest) ≡ items well.read.image =
      ap (take k) (drop-drop 4 (start + 1) bytes ∙ ap (λ (n : ℕ). drop n bytes) place) ∙ sym (drop-take (start + 5) k bytes) ∙ ap (λ (n : ℕ). drop (start + 5) (take n bytes)) (sym other) ∙ well.read.is in
      ap (λ (n : ℕ). drop start (take n bytes)) sum ∙ drop-take start (suc (4 + k)) bytes
      ∙ ap (take (suc (4 + k))) (drop_more bytes start 0 (omega (arith, well.within)))
      ∙ ap (λ (l : List ℕ). format ∷ l) (take-add 4 k rest)
      ∙ ap (λ (l : List ℕ). format ∷ (l ++ take k (drop 4 rest))) count_bytes
      ∙ ap (λ (l : List ℕ). first ++ l) image

  long_front : length (take at bytes) ≡ at
  long_front = simp length-take (omega (arith, well.read.within))

  items_long : at ≡ start + 5 + length (items well.read.image)
  items_long = omega (arith, ap length well.read.is, length-drop (start + 5) (take at bytes), long_front, well.read.reach)

  -- with what stands behind it
  in_use : (rest : List ℕ) → bytes ≡ take at bytes ++ rest → drop (start_of bytes) bytes ≡ first ++ items well.read.image ++ rest
  in_use rest is =
      ap (λ (n : ℕ). drop n bytes) (sym well.start_is) ∙ ap (drop start) is ∙ drop-append-le start (take at bytes) rest (omega (arith, long_front, well.read.reach)) ∙ ap (λ (l : List ℕ). l ++ rest) in_front

  pub cut_in_image : images < count → is_whole (drop at bytes) ≡ false → IsCutInImage bytes at
  cut_in_image fewer half = record {
    format = format;
    count = count;
    image = well.read.image;
    rest = drop at bytes;
    is = in_use (drop at bytes) (sym (take-append-drop at bytes));
    small = well.small;
    fewer = omega (arith, fewer, well.read.number);
    sized = well.read.sized;
    half = half;
    place = omega (arith, items_long, well.start_is);
  }

  module _ (all : images ≡ count) where
    number : count ≡ length well.read.image
    number = omega (arith, all, well.read.number)

    few : length well.read.image < 2 ^ 32
    few = omega (arith, number, well.small)

    -- an area, with what stands behind it
    area_in_use : (more : List (List ℕ)) (rest : List ℕ) → bytes ≡ take at bytes ++ records more ++ rest → drop (start_of bytes) bytes ≡ area format well.read.image ++ records more ++ rest
    area_in_use more rest is =
        in_use (records more ++ rest) (is ∙ append_assoc (take at bytes) (records more) rest)
        ∙ ap (λ (n : ℕ). (format ∷ to_be_bytes w32 n) ++ items well.read.image ++ (records more ++ rest)) number
        ∙ sym (append_assoc (area format well.read.image) (records more) rest)

    area_long : at ≡ start + length (area format well.read.image)
    area_long = omega (arith, items_long, length-append (format ∷ to_be_bytes w32 (length well.read.image)) (items well.read.image))

    pub cut_in_tail : (gate : ℕ) → IsCutBehind (take at bytes) bytes gate → IsCutInTail bytes (min (gate + 1) (length bytes))
    cut_in_tail gate cut =
        let long : length bytes ≡ gate + length cut.rest = omega (arith, ap length cut.is, length-append (take at bytes ++ records cut.payloads) cut.rest, cut.place) in
        let one : length (take 1 cut.rest) ≡ min 1 (length cut.rest) = length-take 1 cut.rest in
        let gate_is : gate ≡ at + length (records cut.payloads) = omega (arith, cut.place, length-append (take at bytes) (records cut.payloads), long_front) in
        record {
          format = format;
          image = well.read.image;
          tail = cut.payloads;
          rest = cut.rest;
          is = area_in_use cut.payloads cut.rest cut.is;
          few = few;
          image_sized = well.read.sized;
          tail_sized = cut.sized;
          cut_off = cut.cut_off;
          place = omega (arith, long, one, gate_is, area_long, well.start_is, length-append (area format well.read.image) (records cut.payloads));
        }

    pub all_found : (second : Bool) (end number : ℕ) (more : List (List ℕ)) → has_head bytes ≡ true → second ≡ is_second bytes → 25 ≤ start → is_format format ≡ true → IsTail (take at bytes) bytes more → end ≡ tail_end (take at bytes) more → number ≡ length more
        → IsFound bytes (record { spot = record { second = second; start = start; end = end; format = format }; images = images; image = start + 5; records = number; tail = at }) well.read.image more
    all_found second end number more headed turn past known tail place numbered =
        let there : end ≡ start + length (area format well.read.image ++ records more) = omega (arith, place, length-append (take at bytes) (records more), long_front, area_long, length-append (area format well.read.image) (records more)) in
        record {
          parts = record {
            stands = record {
              log = record {
                image = well.read.image;
                tail = more;
                gate = tail.gate;
                rest = tail.rest;
                headed = head_is bytes headed;
                past = omega (arith, past, well.start_is);
                is = area_in_use more (tail.gate ∷ tail.rest) tail.is;
                known = known;
                shut = tail.shut;
                few = few;
                image_sized = well.read.sized;
                tail_sized = tail.sized;
                listed = refl;
              };
              turn = turn;
              begins = well.start_is;
              place = there;
            };
            image_is = refl;
            tail_is = refl;
          };
          images = omega (arith, all, number);
          records = numbered;
          image_at = refl;
          tail_at = items_long;
        }
