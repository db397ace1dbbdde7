-- How many calls of the disk were made.
use Rattle.std.proofs.Common.{◌≡◌, ℕ, ◌+◌, ◌-◌, ◌≤◌, Option, Some, None, refl, ap, ◌∙◌, arith}
use Rattle.disk_core.specs.States.{fewer}
use Rattle.gate_log.specs.Rest.{Lowers}

fewer_again : (i j : ℕ) (o : Option ℕ) → fewer j (fewer i o) ≡ fewer (i + j) o
fewer_again i j None = refl
fewer_again i j (Some n) = let same : n - i - j ≡ n - (i + j) = omega arith in ap (λ (m : ℕ). Some m) same

-- some calls, and then some more
pub more_calls : (a b c : Option ℕ) (m n k : ℕ) → Lowers m a b → Lowers n b c → m + n ≤ k → Lowers k a c
more_calls a b c m n k one two most = record { count = one.count + two.count; less = omega (arith, one.less, two.less, most); left = two.left ∙ ap (fewer two.count) one.left ∙ fewer_again one.count two.count a }

pub one_call : (a b : Option ℕ) (k : ℕ) → b ≡ fewer 1 a → 1 ≤ k → Lowers k a b
one_call a b k is most = record { count = 1; less = most; left = is }
