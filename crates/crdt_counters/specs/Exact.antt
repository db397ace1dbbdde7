-- The sums of counters never wrap: too few updates exist for it.
use Rattle.std.proofs.Common.{◌≡◌, ◌+◌, ◌*◌, ◌^◌, ◌≤◌, ◌<◌, Bool, true, false, cond, List, [], ◌∷◌, length, refl, ap, arith}
use Rattle.std.specs.Prelude.{filter, ℤ, ◌+ℤ◌, unsigned_abs}
use Rattle.std.specs.List.{list_all}
use Rattle.std.specs.Int.{w128}
use Rattle.std.proofs.lemmas.Int.{ints, int_wrap_fits, fits_signed_from_abs}
use Rattle.field_codec.specs.FormLaws.{both_true, and_true}
use Rattle.crdt_core.specs.declared.kind.Kind.{Kind}
use Rattle.crdt_core.specs.declared.value.Value.TheVariants.{Int}
use Rattle.crdt_core.specs.Seen.{Update, is_live}
use Rattle.crdt_meanings.specs.CounterMeaning.{amount, total, counter_meaning}
use Rattle.crdt_counters.specs.EffectForm.{is_amount_number}

-- each amount is from -2^31 to 2^31
abbrev pub are_amounts : List Update → Bool
are_amounts us = list_all (λ u. is_amount_number (amount u.act)) us

small : (z : ℤ) → is_amount_number z ≡ true → unsigned_abs z ≤ 2147483648
small z h = grind (arith, ints)

sum_abs : (a b : ℤ) → unsigned_abs (a +ℤ b) ≤ unsigned_abs a + unsigned_abs b
sum_abs a b = grind (arith, ints)

bounded : (us : List Update) → are_amounts us ≡ true → unsigned_abs (total us) ≤ 2147483648 * length us
bounded [] h = omega arith
bounded (u ∷ us) h =
    let p = both_true (is_amount_number (amount u.act)) (are_amounts us) h in
    let rest = bounded us p.1 in
    let one = small (amount u.act) p.0 in
    let both = sum_abs (total us) (amount u.act) in
    omega (arith, rest, one, both)

part_amounts : (p : Update → Bool) (us : List Update) → are_amounts us ≡ true → are_amounts (filter p us) ≡ true
part_amounts p [] h = refl
part_amounts p (u ∷ us) h =
    let b = both_true (is_amount_number (amount u.act)) (are_amounts us) h in
    let rest = part_amounts p us b.1 in
    elim (p u) as (λ q. are_amounts (cond q (u ∷ filter p us) (filter p us)) ≡ true) [ true ↦ and_true (is_amount_number (amount u.act)) (are_amounts (filter p us)) b.0 rest | false ↦ rest ]

part_length : (p : Update → Bool) (us : List Update) → length (filter p us) ≤ length us
part_length p [] = omega arith
part_length p (u ∷ us) = let rest = part_length p us in elim (p u) as (λ q. length (cond q (u ∷ filter p us) (filter p us)) ≤ length (u ∷ us)) [ true ↦ omega (arith, rest) | false ↦ omega (arith, rest) ]

pub exact_sums : (k : Kind) (us : List Update) → length us ≤ 2 ^ 90 → are_amounts us ≡ true → counter_meaning k us ≡ Int (total (filter (is_live us) us))
exact_sums k us few h =
    let live = filter (is_live us) us in
    let most = bounded live (part_amounts (is_live us) us h) in
    let count = part_length (is_live us) us in
    let below : unsigned_abs (total live) < 170141183460469231731687303715884105728 = omega (arith, most, count, few) in
    ap Int (int_wrap_fits w128 (total live) (fits_signed_from_abs w128 (total live) below))
