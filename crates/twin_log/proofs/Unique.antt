-- Bytes are a log of one list at most, or damaged at one place at most, and never both.
use Rattle.std.proofs.Common.{◌≡◌, ◌⊎◌, ⊎_elim, inl, inr, ℕ, ◌+◌, ◌^◌, ◌<◌, ◌≤◌, Bool, true, false, List, [], ◌∷◌, ◌++◌, length, get_or, take, drop, refl, sym, ap, ◌∙◌, arith, append_assoc, length-append}
use Rattle.std.specs.Prelude.{◌&&◌, nat_le, slice_index}
use Rattle.std.specs.Str.{bytes_eq}
use Rattle.std.specs.Int.{w32, to_be_bytes, from_be_bytes}
use Rattle.std.proofs.lemmas.List.{get_or-drop}
use Rattle.std.proofs.lemmas.Bool.{false≢true, cases_lt}
use Rattle.std.proofs.lemmas.Bool.Decides.{nat_tests}
use Rattle.std.proofs.lemmas.Slice.Eq.{bytes_eq-Decides}
use Rattle.std.proofs.lemmas.Nat.{from_be_bytes-to_be_bytes_4}
use Rattle.gate_log.specs.Log.{body, records, AreSized}
use Rattle.gate_log.specs.Damage.{is_whole}
use Rattle.gate_log.proofs.Grammar.{is_there}
use Rattle.gate_log.proofs.Unique.{begins, same_record, same_records, shut_gate, cut_off, not_cut}
use Rattle.twin_log.specs.Twin.{header, start_of, is_format, items, area, IsTwinLog}
use Rattle.twin_log.specs.Damage.{has_head, has_start, has_format, If, IsCutInImage, IsCutInTail, IsDamagedAt}
use Rattle.twin_log.proofs.Lists.{append_none}
use Rattle.twin_log.proofs.Holds.{start_within}

-- The longer of two lists of payloads at the front of the same bytes goes on where the shorter ends.
pub record GoesOnWith (xs ys : List (List ℕ)) (s t : List ℕ) : Type 0 where
  pub more : List (List ℕ)
  pub is : ys ≡ xs ++ more
  pub behind : s ≡ items more ++ t
  pub sized : AreSized more

longer : (xs ys : List (List ℕ)) (s t : List ℕ) → length xs ≤ length ys → AreSized xs → AreSized ys → items xs ++ s ≡ items ys ++ t → GoesOnWith xs ys s t
longer [] ys s t less xs_sized ys_sized is = record { more = ys; is = refl; behind = is; sized = ys_sized }
longer (x ∷ xs) [] s t less xs_sized ys_sized is = absurd (omega (arith, less))
longer (x ∷ xs) (y ∷ ys) s t less xs_sized ys_sized is =
    let whole : body x ++ (items xs ++ s) ≡ body y ++ (items ys ++ t) = sym (append_assoc (body x) (items xs) s) ∙ is ∙ append_assoc (body y) (items ys) t in
    let one = same_record x y (items xs ++ s) (items ys ++ t) xs_sized.0 ys_sized.0 whole in
    let rest = longer xs ys s t (omega (arith, less)) xs_sized.1 ys_sized.1 one.1 in
    record { more = rest.more; is = λ i. sym one.0 i ∷ rest.is i; behind = rest.behind; sized = rest.sized }

-- as many: the same
same_items : (xs ys : List (List ℕ)) (s t : List ℕ) → length xs ≡ length ys → AreSized xs → AreSized ys → items xs ++ s ≡ items ys ++ t → (xs ≡ ys) × (s ≡ t)
same_items xs ys s t long xs_sized ys_sized is =
    let on = longer xs ys s t (omega (arith, long)) xs_sized ys_sized is in
    let none : length on.more ≡ 0 = omega (arith, ap length on.is, length-append xs on.more, long) in
    nothing on.more none on.is on.behind
  where
    nothing : (more : List (List ℕ)) → length more ≡ 0 → ys ≡ xs ++ more → s ≡ items more ++ t → (xs ≡ ys) × (s ≡ t)
    nothing [] none is behind = (sym (is ∙ append_none xs), behind)
    nothing (z ∷ zs) none is behind = absurd (omega (arith, none))

-- fewer, with no whole payload behind them: that cannot be
not_fewer : (xs ys : List (List ℕ)) (s t : List ℕ) → length xs < length ys → is_whole s ≡ false → AreSized xs → AreSized ys → items xs ++ s ≡ items ys ++ t → ⊥
not_fewer xs ys s t less half xs_sized ys_sized is =
    let on = longer xs ys s t (omega (arith, less)) xs_sized ys_sized is in
    let some : 1 ≤ length on.more = omega (arith, ap length on.is, length-append xs on.more, less) in
    there on.more some on.sized on.behind
  where
    there : (more : List (List ℕ)) → 1 ≤ length more → AreSized more → s ≡ items more ++ t → ⊥
    there [] some sized behind = absurd (omega (arith, some))
    there (z ∷ zs) some sized behind = false≢true (sym half ∙ ap is_whole (behind ∙ append_assoc (body z) (items zs) t) ∙ is_there z (items zs ++ t) sized.0)

-- the format and the count in front of the same bytes are the same
same_first : (f g m n : ℕ) (s t : List ℕ) → m < 2 ^ 32 → n < 2 ^ 32 → (f ∷ to_be_bytes w32 m) ++ s ≡ (g ∷ to_be_bytes w32 n) ++ t → (f ≡ g) × (m ≡ n) × (s ≡ t)
same_first f g m n s t small small_too is =
    let count : to_be_bytes w32 m ≡ to_be_bytes w32 n = ap (λ (l : List ℕ). take 4 (drop 1 l)) is in
    (ap (λ (l : List ℕ). get_or l 0 0) is, sym (from_be_bytes-to_be_bytes_4 m small) ∙ ap (from_be_bytes w32) count ∙ from_be_bytes-to_be_bytes_4 n small_too, ap (drop 5) is)

-- what stands behind an area's count
pub opened_area : (format : ℕ) (xs more : List (List ℕ)) (s : List ℕ) → area format xs ++ records more ++ s ≡ (format ∷ to_be_bytes w32 (length xs)) ++ (items xs ++ (records more ++ s))
opened_area format xs more s = append_assoc (area format xs) (records more) s ∙ append_assoc (format ∷ to_be_bytes w32 (length xs)) (items xs) (records more ++ s)

opened_cut : (format count : ℕ) (xs : List (List ℕ)) (s : List ℕ) → (format ∷ to_be_bytes w32 count) ++ items xs ++ s ≡ (format ∷ to_be_bytes w32 count) ++ (items xs ++ s)
opened_cut format count xs s = append_assoc (format ∷ to_be_bytes w32 count) (items xs) s

-- two areas, each with its tail, that end where no whole record begins
same_areas : (f g : ℕ) (xs ys more others : List (List ℕ)) (s t : List ℕ) → length xs < 2 ^ 32 → length ys < 2 ^ 32 → AreSized xs → AreSized ys → AreSized more → AreSized others → begins s ≡ false → begins t ≡ false
    → area f xs ++ records more ++ s ≡ area g ys ++ records others ++ t → (f ≡ g) × (xs ≡ ys) × (more ≡ others) × (s ≡ t)
same_areas f g xs ys more others s t few few_too xs_sized ys_sized more_sized others_sized s_ends t_ends is =
    let first = same_first f g (length xs) (length ys) (items xs ++ (records more ++ s)) (items ys ++ (records others ++ t)) few few_too (sym (opened_area f xs more s) ∙ is ∙ opened_area g ys others t) in
    let images = same_items xs ys (records more ++ s) (records others ++ t) first.1 xs_sized ys_sized first.2 in
    let tails = same_records more others s t more_sized others_sized s_ends t_ends images.1 in
    (first.0, images.0, tails.0, tails.1)

pub one_list : (bytes : List ℕ) (f g : ℕ) (xs ys : List (List ℕ)) → IsTwinLog bytes f xs → IsTwinLog bytes g ys → (f ≡ g) × (xs ≡ ys)
one_list bytes f g xs ys x y =
    let same = same_areas f g x.image y.image x.tail y.tail (x.gate ∷ x.rest) (y.gate ∷ y.rest) x.few y.few x.image_sized y.image_sized x.tail_sized y.tail_sized (shut_gate x.gate x.rest x.shut) (shut_gate y.gate y.rest y.shut) (sym x.is ∙ y.is) in
    (same.0, x.listed ∙ (λ i. same.1 i ++ same.2 i) ∙ sym y.listed)

-- an image that is cut off is no image
image_cut : (bytes : List ℕ) (at format : ℕ) (image more : List (List ℕ)) (s : List ℕ) → IsCutInImage bytes at → length image < 2 ^ 32 → AreSized image → drop (start_of bytes) bytes ≡ area format image ++ records more ++ s → ⊥
image_cut bytes at format image more s cut few sized is =
    let first = same_first cut.format format cut.count (length image) (items cut.image ++ cut.rest) (items image ++ (records more ++ s)) cut.small few (sym (opened_cut cut.format cut.count cut.image cut.rest) ∙ sym cut.is ∙ is ∙ opened_area format image more s) in
    not_fewer cut.image image cut.rest (records more ++ s) (omega (arith, cut.fewer, first.1)) cut.half cut.sized sized first.2

-- with the head, the start and the format byte of a log
log_head : (bytes : List ℕ) (format : ℕ) (payloads : List (List ℕ)) → IsTwinLog bytes format payloads → has_head bytes ≡ true
log_head bytes format payloads log =
    let within = start_within bytes format payloads log in
    let long : 25 ≤ length bytes = omega (arith, within, log.past) in
    let one : nat_le 25 (length bytes) ≡ true = grind (arith, nat_tests) in
    ap (λ (b : Bool). b && bytes_eq (take 8 bytes) header) one ∙ (bytes_eq-Decides (take 8 bytes) header).1 log.headed

log_start : (bytes : List ℕ) (format : ℕ) (payloads : List (List ℕ)) → IsTwinLog bytes format payloads → has_start bytes ≡ true
log_start bytes format payloads log =
    let within = start_within bytes format payloads log in
    let five : 5 ≤ length (area format log.image ++ records log.tail) = omega (arith, length-append (area format log.image) (records log.tail), length-append (format ∷ to_be_bytes w32 (length log.image)) (items log.image)) in
    let long : start_of bytes + 6 ≤ length bytes = omega (arith, within, five) in
    let past = log.past in
    grind (arith, nat_tests)

log_format : (bytes : List ℕ) (format : ℕ) (payloads : List (List ℕ)) → IsTwinLog bytes format payloads → has_format bytes ≡ true
log_format bytes format payloads log =
    let start : start_of bytes ≡ start_of bytes + 0 = omega arith in
    let first : slice_index bytes (start_of bytes) ≡ format = ap (λ (n : ℕ). get_or bytes n 0) start ∙ sym (get_or-drop (start_of bytes) bytes 0 0) ∙ ap (λ (l : List ℕ). get_or l 0 0) log.is in
    ap is_format first ∙ log.known

if_true : (b : Bool) (P Q : Type 0) → b ≡ true → If b P Q → P
if_true true P Q is p = p
if_true false P Q is p = absurd (false≢true is)

cut_of : (bytes : List ℕ) (format : ℕ) (payloads : List (List ℕ)) (at : ℕ) → IsTwinLog bytes format payloads → IsDamagedAt bytes at → IsCutInImage bytes at ⊎ IsCutInTail bytes at
cut_of bytes format payloads at log damaged =
    if_true (has_format bytes) _ _ (log_format bytes format payloads log) (if_true (has_start bytes) _ _ (log_start bytes format payloads log) (if_true (has_head bytes) _ _ (log_head bytes format payloads log) damaged))

pub not_both : (bytes : List ℕ) (format : ℕ) (payloads : List (List ℕ)) (at : ℕ) → IsTwinLog bytes format payloads → IsDamagedAt bytes at → ⊥
not_both bytes format payloads at log damaged = ⊎_elim
    (λ cut. image_cut bytes at format log.image log.tail (log.gate ∷ log.rest) cut log.few log.image_sized log.is)
    (λ cut.
    let same = same_areas format cut.format log.image cut.image log.tail cut.tail (log.gate ∷ log.rest) cut.rest log.few cut.few log.image_sized cut.image_sized log.tail_sized cut.tail_sized (shut_gate log.gate log.rest log.shut) (cut_off cut.rest cut.cut_off) (sym log.is ∙ cut.is) in
    not_cut log.gate log.rest cut.rest log.shut same.3 cut.cut_off)
    (cut_of bytes format payloads at log damaged)

-- two lists of an image that both end where no whole payload is
images_alike : (xs ys : List (List ℕ)) (s t : List ℕ) → is_whole s ≡ false → is_whole t ≡ false → AreSized xs → AreSized ys → items xs ++ s ≡ items ys ++ t → xs ≡ ys
images_alike xs ys s t s_half t_half xs_sized ys_sized is = elim (cases_lt (length xs) (length ys)) [
  | inl less ↦ absurd (not_fewer xs ys s t less s_half xs_sized ys_sized is)
  | inr most ↦ elim (cases_lt (length ys) (length xs)) [
    | inl less ↦ absurd (not_fewer ys xs t s less t_half ys_sized xs_sized (sym is))
    | inr least ↦ let long : length xs ≡ length ys = omega (arith, most, least) in (same_items xs ys s t long xs_sized ys_sized is).0
  ]
]

one_cut : (bytes : List ℕ) (p q : ℕ) → IsCutInImage bytes p ⊎ IsCutInTail bytes p → IsCutInImage bytes q ⊎ IsCutInTail bytes q → p ≡ q
one_cut bytes p q x y = ⊎_elim
    (λ a. ⊎_elim (λ b. in_images a b) (λ b. absurd (image_cut bytes p b.format b.image b.tail b.rest a b.few b.image_sized b.is)) y)
    (λ a. ⊎_elim (λ b. absurd (image_cut bytes q a.format a.image a.tail a.rest b a.few a.image_sized a.is)) (λ b. in_tails a b) y)
    x
  where
    in_images : IsCutInImage bytes p → IsCutInImage bytes q → p ≡ q
    in_images a b =
        let first = same_first a.format b.format a.count b.count (items a.image ++ a.rest) (items b.image ++ b.rest) a.small b.small (sym (opened_cut a.format a.count a.image a.rest) ∙ sym a.is ∙ b.is ∙ opened_cut b.format b.count b.image b.rest) in
        let same = images_alike a.image b.image a.rest b.rest a.half b.half a.sized b.sized first.2 in
        a.place ∙ ap (λ (l : List (List ℕ)). start_of bytes + 5 + length (items l)) same ∙ sym b.place

    in_tails : IsCutInTail bytes p → IsCutInTail bytes q → p ≡ q
    in_tails a b =
        let same = same_areas a.format b.format a.image b.image a.tail b.tail a.rest b.rest a.few b.few a.image_sized b.image_sized a.tail_sized b.tail_sized (cut_off a.rest a.cut_off) (cut_off b.rest b.cut_off) (sym a.is ∙ b.is) in
        a.place ∙ (λ i. start_of bytes + length (area (same.0 i) (same.1 i) ++ records (same.2 i)) + length (take 1 (same.3 i))) ∙ sym b.place

by_if : (b : Bool) (P Q R S : Type 0) (A : Type 0) → (P → Q → A) → (R → S → A) → If b P R → If b Q S → A
by_if true P Q R S A one other x y = one x y
by_if false P Q R S A one other x y = other x y

pub one_place : (bytes : List ℕ) (p q : ℕ) → IsDamagedAt bytes p → IsDamagedAt bytes q → p ≡ q
one_place bytes p q x y = by_if (has_head bytes) _ _ _ _ (p ≡ q)
    (λ x y. by_if (has_start bytes) _ _ _ _ (p ≡ q)
    (λ x y. by_if (has_format bytes) _ _ _ _ (p ≡ q) (λ x y. one_cut bytes p q x y) (λ x y. x ∙ sym y) x y)
    (λ x y. x ∙ sym y) x y)
    (λ x y. x ∙ sym y) x y
