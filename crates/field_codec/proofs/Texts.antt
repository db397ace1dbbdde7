-- The bytes of a text, read at a place.
use Rattle.std.proofs.Common.{◌≡◌, ℕ, ◌+◌, ◌-◌, ◌≤◌, Bool, true, false, List, length, take, drop, Ok, Err, refl, sym, ap, subst, arith}
use Rattle.std.specs.Prelude.{nat_le}
use Rattle.std.specs.List.{slice_range}
use Rattle.std.specs.Str.{IsUtf8, is_utf8}
use Rattle.std.proofs.lemmas.Str.{IsUtf8-from_is_utf8, is_utf8-from_IsUtf8}
use Rattle.std.proofs.lemmas.Bool.Decides.{nat_tests}
use Rattle.field_codec.specs.declared.error.TakeError.TheVariants.{Bad}
use Rattle.field_codec.specs.Spelling.{is_text}
use Rattle.field_codec.specs.FormLaws.{and_true}
use Rattle.field_codec.specs.Reading.{bytes_at}

holds : (n m : ℕ) → n ≤ m → nat_le n m ≡ true
holds n m h = grind (arith, nat_tests)

range_is : (bytes : List ℕ) (at n : ℕ) → slice_range bytes at (at + n) ≡ take n (drop at bytes)
range_is bytes at n = let e : at + n - at ≡ n = omega arith in ap (λ k. take k (drop at bytes)) e

pub bytes_ok : (n : ℕ) (bytes : List ℕ) (at : ℕ) (t : List ℕ) → at + n ≤ length bytes → t ≡ slice_range bytes at (at + n) → IsUtf8 (slice_range bytes at (at + n)) → bytes_at n bytes at ≡ Ok (t, at + n)
unfolding bytes_at
bytes_ok n bytes at t le e u =
    let good : is_utf8 (take n (drop at bytes)) ≡ true = is_utf8-from_IsUtf8 _ (subst IsUtf8 (range_is bytes at n) u) in
    rw (holds (at + n) (length bytes) le, good, e, range_is bytes at n) refl

pub bytes_bad : (n : ℕ) (bytes : List ℕ) (at : ℕ) → at + n ≤ length bytes → (IsUtf8 (slice_range bytes at (at + n)) → ⊥) → bytes_at n bytes at ≡ Err (Bad at)
unfolding bytes_at
bytes_bad n bytes at le u =
    let wrong = not_true (is_utf8 (take n (drop at bytes))) (λ e. u (subst IsUtf8 (sym (range_is bytes at n)) (IsUtf8-from_is_utf8 _ e))) in
    rw (holds (at + n) (length bytes) le, wrong) refl
  where
    not_true : (b : Bool) → (b ≡ true → ⊥) → b ≡ false
    not_true true h = absurd (h refl)
    not_true false h = refl

-- a text of the program has a spelling
pub text_spelled : (t s : List ℕ) → s ≡ t → IsUtf8 s → length t ≤ 256 → is_text t ≡ true
text_spelled t s e u le = and_true _ _ (holds (length t) 256 le) (is_utf8-from_IsUtf8 t (subst IsUtf8 e u))
