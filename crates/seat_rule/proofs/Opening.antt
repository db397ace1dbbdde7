-- The rule holds of a table of empty traces.
use Rattle.std.proofs.Common.{◌≡◌, ℕ, zero, suc, ◌+◌, List, [], ◌∷◌, length, get_or, replicate, refl, sym, ap, subst, arith}
use mathlib.Core.Option.{some, some-ne-none, some-injective}
use lib.ListN.{get_elem?}
use Rattle.seat_rule.specs.declared.view.Noted.{Noted}
use Rattle.seat_rule.specs.declared.view.View.{View}
use Rattle.seat_rule.specs.Lists.{down_from}
use Rattle.seat_rule.specs.Views.{past, opened}
use Rattle.seat_rule.specs.Kept.{Fits, Kept}
use Rattle.seat_rule.proofs.Fronts.{put_same}
use Rattle.seat_rule.proofs.Seating.{off}

module _ {T : Type 0} (law : (ℕ → List (Noted T)) → Type 0) (n : ℕ) where
  zeros : (m p : ℕ) → get_or {A = ℕ} (replicate m 0) p 0 ≡ 0
  zeros zero p = refl
  zeros (suc m) zero = refl
  zeros (suc m) (suc p) = zeros m p

  zero_count : (m : ℕ) → length {A = ℕ} (replicate m 0) ≡ m
  zero_count zero = refl
  zero_count (suc m) = ap suc (zero_count m)

  pub begins : law (λ p. []) → Kept law n (record { words = replicate (n + 1) 0; homes = []; views = opened n ∷ [] })
  begins none = record {
    logs = λ p. [];
    lawful = none;
    count = 0;
    writer = λ p. 0;
    holder = λ p. 0;
    words = λ p l. zeros (n + 1) p;
    last = zeros (n + 1) n;
    size = zero_count (n + 1);
    bears = λ p. tt;
    each = one;
  }
    where
      one : (by : ℕ) (v : View T) → get_elem? (opened n ∷ []) by ≡ some v → Fits n (λ p. []) 0 (λ p. 0) (λ p. 0) by v
      one zero v e = subst (Fits n (λ p. []) 0 (λ p. 0) (λ p. 0) 0) (some-injective _ _ e) (record {
        front = λ p. ([], refl, tt);
        whole = λ p h. (refl, refl);
        draws = λ h. refl;
        most = omega arith;
        holds = λ k h. off h;
        is_put = put_same (past [] [] (down_from n)) 0 (λ p i x h. absurd (some-ne-none x (sym h))) (λ p i x h. absurd (some-ne-none x (sym h)));
      })
      one (suc by) v e = absurd (some-ne-none v (sym e))
