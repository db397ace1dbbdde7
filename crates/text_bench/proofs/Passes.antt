-- One pass more.
use Rattle.std.proofs.Common.{◌≡◌, ℕ, suc, ◌+◌, ◌*◌, ◌-◌, ◌^◌, min, sym, ap, ◌∙◌, arith}
use Rattle.std.proofs.Math.Nat.{suc-mul}
use Rattle.text_bench.specs.Printed.{times_over}

capped : (top m n before : ℕ) → before ≡ min m top → min (before + n) top ≡ min (m + n) top
capped top m n before is = omega arith

pub pass_more : (k n before : ℕ) → before ≡ times_over k n → min (before + n) (2 ^ 64 - 1) ≡ times_over (k + 1) n
pass_more k n before is =
    let on : k + 1 ≡ suc k = omega arith in
    let grown : (k + 1) * n ≡ k * n + n = ap (λ m. m * n) on ∙ suc-mul k n in
    capped (2 ^ 64 - 1) (k * n) n before is ∙ ap (λ m. min m (2 ^ 64 - 1)) (sym grown)
