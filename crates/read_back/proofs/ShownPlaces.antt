-- Places, transactions, messages and reports as they are printed are one word, and are read as the same ones.
use Rattle.std.proofs.Common.{◌≡◌, ℕ, suc, ◌+◌, ◌-◌, ◌^◌, ◌<◌, ◌≤◌, true, not, ◌&&◌, ◌==◌, nat_lt, cond, List, [], ◌∷◌, ◌++◌, length, take, drop, decimal, Some, None, option_map, option_and_then, refl, sym, ap, ap₂, ◌∙◌, arith, append_assoc, length-append, lt-ltb, eq-eqb}
use Rattle.std.proofs.Math.Seq.{take-append_seam, drop-append-add}
use Rattle.std.proofs.lemmas.Bool.{and_parts}
use Rattle.std.proofs.lemmas.Bool.Decides.{nat_tests}
use Rattle.std.proofs.lemmas.List.Folds.{list_all-append}
use Rattle.std.specs.Char.{is_ascii_digit}
use Rattle.std.specs.List.{list_all, position_or_len}
use Rattle.site_vector.specs.declared.ids.PartId.{PartId}
use Rattle.site_vector.specs.declared.ids.TxId.{TxId}
use Rattle.site_vector.specs.Printed.{part_text, tx_text}
use Rattle.script_text.specs.Grammar.{message, report}
use Rattle.script_text.specs.Numbers.{ranged}
use Rattle.script_text.specs.Places.{cut_at, place, began_at, number, time, site, part, tx}
use Rattle.script_text.specs.Split.{is_some_bytes}
use Rattle.reply_text.specs.Places.{message_text, report_text}
use Rattle.read_back.proofs.Cutting.{IsUncut, plain_uncut, uncut_both, one_word}
use Rattle.read_back.proofs.Numerals.{all_digits, decimal_uncut, numeral-decimal, ranged-decimal, reads_back_numeral, reads_back_ranged}
use Rattle.read_back.specs.ReadBack.{ReadsBack, MayName}

-- the first such byte stands behind those that are other bytes
first_at : (b : ℕ) (w v : List ℕ) → list_all (λ c. not (c == b)) w ≡ true → position_or_len (λ c. c == b) (w ++ b ∷ v) ≡ length w
first_at b [] v h = ap (λ t. cond (not t) (1 + position_or_len (λ c. c == b) v) 0) (eq-eqb b b refl)
first_at b (c ∷ w) v h =
    let p = and_parts (not (c == b)) (list_all (λ c. not (c == b)) w) h in
    let next : 1 + length w ≡ suc (length w) = omega arith in
    (λ i. cond (p.0 i) (1 + first_at b w v p.1 i) 0) ∙ next

cut : (b : ℕ) (w v : List ℕ) → list_all (λ c. not (c == b)) w ≡ true → cut_at b (w ++ b ∷ v) ≡ Some (w, v)
cut b w v h =
    let whole : List ℕ = w ++ b ∷ v in
    let at = first_at b w v h in
    let short : length w < length whole = omega (arith, length-append w (b ∷ v)) in
    ap (λ k. option_map (λ i. (take i whole, drop (i + 1) whole)) (cond (nat_lt k (length whole)) (Some k) None)) at
    ∙ ap (λ t. option_map (λ i. (take i whole, drop (i + 1) whole)) (cond t (Some (length w)) None)) (lt-ltb (length w) (length whole) short)
    ∙ ap₂ (λ x y. Some (x, y)) (take-append_seam w (b ∷ v)) (drop-append-add w (b ∷ v) 1)

-- no digit is a full stop or a number sign
digit_is_other : (b c : ℕ) → b < 48 → is_ascii_digit c ≡ true → not (c == b) ≡ true
digit_is_other b c small h = grind (arith, nat_tests)

digits_are_others : (b : ℕ) (w : List ℕ) → b < 48 → list_all is_ascii_digit w ≡ true → list_all (λ c. not (c == b)) w ≡ true
digits_are_others b [] small h = refl
digits_are_others b (c ∷ w) small h =
    let p = and_parts (is_ascii_digit c) (list_all is_ascii_digit w) h in
    λ i. digit_is_other b c small p.0 i && digits_are_others b w small p.1 i

others : (b n : ℕ) → b < 48 → list_all (λ c. not (c == b)) (decimal n) ≡ true
others b n small = digits_are_others b (decimal n) small (all_digits n)

-- ---- what they are read as

part-part_text : (p : PartId) → MayName p.site p.part → part (part_text p) ≡ Some p
part-part_text p h =
    ap (option_and_then (λ c. option_and_then (λ s. option_map (λ q. place s q) (ranged 1 16 c.1)) (ranged 1 8 c.0))) (cut 46 (decimal p.site) (decimal p.part) (others 46 p.site (omega arith)))
    ∙ ap (option_and_then (λ s. option_map (λ q. place s q) (ranged 1 16 (decimal p.part)))) (ranged-decimal 1 8 p.site h.some_site h.last_site (omega (arith, h.last_site)))
    ∙ ap (option_map (λ q. place p.site q)) (ranged-decimal 1 16 p.part h.some_part h.last_part (omega (arith, h.last_part)))

tx-tx_text : (t : TxId) → MayName t.site t.part → t.time ≤ 2 ^ 62 → tx (tx_text t) ≡ Some t
tx-tx_text t h small =
    let p : PartId = place t.site t.part in
    let no_sign : list_all (λ c. not (c == 35)) (part_text p) ≡ true =
    list_all-append (λ c. not (c == 35)) (decimal t.site) (46 ∷ decimal t.part) ∙ (λ i. others 35 t.site (omega arith) i && others 35 t.part (omega arith) i) in
    ap tx (sym (append_assoc (decimal t.site) (46 ∷ decimal t.part) (35 ∷ decimal t.time)))
    ∙ ap (option_and_then (λ c. option_and_then (λ q. option_map (λ n. began_at q n) (time c.1)) (part c.0))) (cut 35 (part_text p) (decimal t.time) no_sign)
    ∙ ap (option_and_then (λ q. option_map (λ n. began_at q n) (time (decimal t.time)))) (part-part_text p h)
    ∙ ap (option_map (λ n. began_at p n)) (numeral-decimal (2 ^ 62) t.time small (omega (arith, small)))

-- ---- one word

some_bytes : (w : List ℕ) (c : ℕ) (v : List ℕ) → is_some_bytes (w ++ c ∷ v) ≡ true
some_bytes [] c v = refl
some_bytes (d ∷ w) c v = refl

-- a mark between two
marked : (v w : List ℕ) (c : ℕ) → IsUncut v → IsUncut (c ∷ []) → IsUncut w → IsUncut (v ++ c ∷ w)
marked v w c before mark behind = uncut_both v (c ∷ w) before (uncut_both (c ∷ []) w mark behind)

pub part_uncut : (p : PartId) → IsUncut (part_text p)
part_uncut p = marked (decimal p.site) (decimal p.part) 46 (decimal_uncut p.site) (plain_uncut (46 ∷ []) refl) (decimal_uncut p.part)

pub part_some : (p : PartId) → is_some_bytes (part_text p) ≡ true
part_some p = some_bytes (decimal p.site) 46 (decimal p.part)

pub tx_uncut : (t : TxId) → IsUncut (tx_text t)
tx_uncut t =
    marked (decimal t.site) (decimal t.part ++ 35 ∷ decimal t.time) 46 (decimal_uncut t.site) (plain_uncut (46 ∷ []) refl)
    (marked (decimal t.part) (decimal t.time) 35 (decimal_uncut t.part) (plain_uncut (35 ∷ []) refl) (decimal_uncut t.time))

pub tx_some : (t : TxId) → is_some_bytes (tx_text t) ≡ true
tx_some t = some_bytes (decimal t.site) 46 (decimal t.part ++ 35 ∷ decimal t.time)

pub message_uncut : (n : ℕ) → IsUncut (message_text n)
message_uncut n = uncut_both (109 ∷ []) (decimal n) (plain_uncut (109 ∷ []) refl) (decimal_uncut n)

pub report_uncut : (n : ℕ) → IsUncut (report_text n)
report_uncut n = uncut_both (103 ∷ []) (decimal n) (plain_uncut (103 ∷ []) refl) (decimal_uncut n)

-- ---- both

pub reads_back_number : (n : ℕ) → n < 2 ^ 48 → ReadsBack number (decimal n) n
reads_back_number n h = reads_back_numeral (2 ^ 48 - 1) n (omega (arith, h)) (omega (arith, h))

pub reads_back_time : (n : ℕ) → n ≤ 2 ^ 62 → ReadsBack time (decimal n) n
reads_back_time n h = reads_back_numeral (2 ^ 62) n h (omega (arith, h))

pub reads_back_site : (n : ℕ) → 1 ≤ n → n ≤ 8 → ReadsBack site (decimal n) n
reads_back_site n low high = reads_back_ranged 1 8 n low high (omega (arith, high))

pub reads_back_part : (p : PartId) → MayName p.site p.part → ReadsBack part (part_text p) p
reads_back_part p h = record { one_word = one_word (part_text p) (part_uncut p) (part_some p); same = part-part_text p h }

pub reads_back_tx : (t : TxId) → MayName t.site t.part → t.time ≤ 2 ^ 62 → ReadsBack tx (tx_text t) t
reads_back_tx t h small = record { one_word = one_word (tx_text t) (tx_uncut t) (tx_some t); same = tx-tx_text t h small }

pub reads_back_message : (n : ℕ) → n < 2 ^ 48 → ReadsBack message (message_text n) n
reads_back_message n h = record { one_word = one_word (message_text n) (message_uncut n) refl; same = (reads_back_number n h).same }

pub reads_back_report : (n : ℕ) → n < 2 ^ 48 → ReadsBack report (report_text n) n
reads_back_report n h = record { one_word = one_word (report_text n) (report_uncut n) refl; same = (reads_back_number n h).same }
