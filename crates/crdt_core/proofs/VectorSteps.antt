-- Reading the entries of a vector one after the other, as a loop does.
use Rattle.std.specs.Prelude.{◌^◌, nat_le, slice_index}
use Rattle.std.specs.List.{list_all}
use Rattle.std.proofs.Common.{◌≡◌, ℕ, suc, ◌+◌, ◌-◌, ◌<◌, ◌≤◌, Bool, true, List, [], ◌∷◌, ◌++◌, length, take, Option, None, Some, Ok, Err, refl, sym, ap, ◌∙◌, take_all, arith}
use Rattle.std.proofs.lemmas.List.{take_more_set}
use Rattle.field_codec.specs.declared.error.TakeError.{TakeError}
use Rattle.field_codec.specs.Spelling.{is_number, may_follow, last_of}
use Rattle.field_codec.specs.FormLaws.{and_true, le_holds, lt_holds}
use Rattle.field_codec.specs.Reading.{Read, number_at, members_at}
use Rattle.field_codec.proofs.Loops.{after, goes_on, is_done}
use Rattle.site_vector.specs.Vector.{replaced}
use Rattle.crdt_core.specs.Spelled.{is_between, is_vector}

abbrev pub any : ℕ → ℕ → Bool
any n m = true

abbrev pub SoFar : List ℕ → ℕ → ℕ → List ℕ → ℕ → Read (List ℕ) → Type 0
SoFar v width i bytes at total = after (take i v) (members_at any (number_at 8) (last_of (take i v)) (width - i) bytes at) ≡ total

follows_any : (before : Option ℕ) (n : ℕ) → true ≡ may_follow any before n
follows_any None n = refl
follows_any (Some m) n = refl

pub entry_read : (v w : List ℕ) (width i : ℕ) (bytes : List ℕ) (at n end : ℕ) (total : Read (List ℕ)) → length v ≡ width → i < width → w ≡ replaced v (i + 1) n → number_at 8 bytes at ≡ Ok (n, end)
    → SoFar v width i bytes at total → SoFar w width (i + 1) bytes end total
entry_read v w width i bytes at n end total len lt e h so_far =
    let place : i + 1 - 1 ≡ i = omega arith in
    let front : take (i + 1) w ≡ take i v ++ n ∷ [] = ap (take (i + 1)) (rw place at e) ∙ take_more_set v i n (omega (arith, len)) in
    rw front (goes_on any (number_at 8) (take i v) width i bytes at n end total lt h (follows_any (last_of (take i v)) n) so_far)

pub entry_failed : (v : List ℕ) (width i : ℕ) (bytes : List ℕ) (at : ℕ) (e : TakeError) (total : Read (List ℕ)) → i < width → number_at 8 bytes at ≡ Err e → SoFar v width i bytes at total → total ≡ Err e
unfolding members_at
entry_failed v width i bytes at e total lt h so_far =
    let left : width - i ≡ suc (width - (i + 1)) = omega arith in
    let one : after (take i v) (members_at any (number_at 8) (last_of (take i v)) (width - i) bytes at) ≡ Err e = rw (left, h) refl in
    sym so_far ∙ one

pub entries_done : (v : List ℕ) (width i : ℕ) (bytes : List ℕ) (at : ℕ) (total : Read (List ℕ)) → length v ≡ width → width ≤ i → SoFar v width i bytes at total → total ≡ Ok (v, at)
entries_done v width i bytes at total len le so_far =
    is_done any (number_at 8) (take i v) width i bytes at total le so_far ∙ ap (λ (l : List ℕ). Ok (l, at)) (take_all i v (omega (arith, len)))

words_fit : (v : List ℕ) → ((i : ℕ) → slice_index v i < 2 ^ 64) → list_all (is_number 8) v ≡ true
words_fit [] h = refl
words_fit (n ∷ v) h = and_true (is_number 8 n) (list_all (is_number 8) v) (lt_holds n (256 ^ 8) (omega (arith, h 0))) (words_fit v (λ i. h (suc i)))

-- a vector of the program has a spelling
pub vector_spelled : (v : List ℕ) → 1 ≤ length v → length v ≤ 8 → ((i : ℕ) → slice_index v i < 2 ^ 64) → is_vector v ≡ true
vector_spelled v least most h =
    let width = and_true (nat_le 1 (length v)) (nat_le (length v) 8) (le_holds 1 (length v) least) (le_holds (length v) 8 most) in
    and_true (is_between 1 8 (length v)) (list_all (is_number 8) v) width (words_fit v h)
