-- Which of a storm's objects are one.
use Rattle.std.proofs.Common.{◌≡◌, ◌⊎◌, ⊎_elim, ℕ, ◌+◌, ◌<◌, false, refl, sym, subst, eqb, arith}
use Rattle.std.proofs.lemmas.Bool.Decides.{nat_tests}
use Rattle.std.specs.Fmt.{digits}
use Rattle.crdt_core.specs.Objects.{same_object}
use Rattle.client_pool.specs.Load.{counter, clients}

last_or_below : (k m : ℕ) → m < k + 1 → (m ≡ k) ⊎ (m < k)
last_or_below k m h = grind (arith, nat_tests)

-- what holds of the eight counters
each_of_eight : (P : ℕ → Type 0) → P 0 → P 1 → P 2 → P 3 → P 4 → P 5 → P 6 → P 7 → (m : ℕ) → m < 8 → P m
each_of_eight P a b c d e f g h m low =
    let at : (k : ℕ) → P k → (m < k → P m) → m < k + 1 → P m = λ k p below w. ⊎_elim (λ q. subst P (sym q) p) below (last_or_below k m w) in
    let none : m < 0 → P m = λ w. absurd (omega (arith, w)) in
    at 7 h (at 6 g (at 5 f (at 4 e (at 3 d (at 2 c (at 1 b (at 0 a none))))))) low

-- two counters are one object exactly where they have one number
pub same_counter : (m c : ℕ) → m < 8 → c < 8 → same_object (counter m) (counter c) ≡ eqb m c
unfolding digits
same_counter m c low top =
    let Q : ℕ → ℕ → Type 0 = λ m c. same_object (counter m) (counter c) ≡ eqb m c in
    let row : (m : ℕ) → Q m 0 → Q m 1 → Q m 2 → Q m 3 → Q m 4 → Q m 5 → Q m 6 → Q m 7 → Q m c = λ m a b d e f g h i. each_of_eight (Q m) a b d e f g h i c top in
    each_of_eight (λ m. Q m c)
    (row 0 refl refl refl refl refl refl refl refl)
    (row 1 refl refl refl refl refl refl refl refl)
    (row 2 refl refl refl refl refl refl refl refl)
    (row 3 refl refl refl refl refl refl refl refl)
    (row 4 refl refl refl refl refl refl refl refl)
    (row 5 refl refl refl refl refl refl refl refl)
    (row 6 refl refl refl refl refl refl refl refl)
    (row 7 refl refl refl refl refl refl refl refl)
    m low

-- no counter is the object of the names
pub counter_apart : (m : ℕ) → same_object (counter m) clients ≡ false
counter_apart m = refl

pub names_apart : (c : ℕ) → same_object clients (counter c) ≡ false
names_apart c = refl
