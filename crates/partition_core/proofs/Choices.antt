-- Cases of tests.
use Rattle.std.proofs.Common.{◌≡◌, Bool, true, false, not, ◌&&◌, ◌||◌, refl, sym, ap, ◌∙◌}
use Rattle.std.specs.Prelude.{if◌then◌else◌}
use Rattle.std.proofs.lemmas.Bool.{true≢false}

-- what holds of either choice, where it is made
pub chosen : {A : Type 0} (P : A → Type 0) (b : Bool) (u v : A) → (b ≡ true → P u) → (b ≡ false → P v) → P (if b then u else v)
chosen P true u v f g = f refl
chosen P false u v f g = g refl

pub taken_first : {A : Type 0} (b : Bool) (u v w : A) → (if b then u else v) ≡ w → b ≡ true → u ≡ w
taken_first true u v w h e = h
taken_first false u v w h e = absurd (true≢false (sym e))

pub taken_second : {A : Type 0} (b : Bool) (u v w : A) → (if b then u else v) ≡ w → b ≡ false → v ≡ w
taken_second true u v w h e = absurd (true≢false e)
taken_second false u v w h e = h

pub or_swap : (a b c : Bool) → (a || (b || c)) ≡ (b || (a || c))
or_swap true true c = refl
or_swap true false c = refl
or_swap false b c = refl

pub or_join : (a b c : Bool) → (a || (b || c)) ≡ ((a || b) || c)
or_join true b c = refl
or_join false b c = refl

pub or_none : (b : Bool) → (b || false) ≡ b
or_none true = refl
or_none false = refl

pub or_falses : (a b : Bool) → a ≡ false → b ≡ false → (a || b) ≡ false
or_falses a b e f = ap (λ x. x || b) e ∙ f

pub first_false : (a b : Bool) → (a || b) ≡ false → a ≡ false
first_false true b k = k
first_false false b k = refl

pub second_false : (a b : Bool) → (a || b) ≡ false → b ≡ false
second_false true b k = absurd (true≢false k)
second_false false b k = k

pub second_true : (a b : Bool) → a ≡ false → (a || b) ≡ true → b ≡ true
second_true true b e h = absurd (true≢false e)
second_true false b e h = h

pub and_none : (b : Bool) → (b && false) ≡ false
and_none true = refl
and_none false = refl

pub fails_second : (a b : Bool) → (a && b) ≡ false → a ≡ true → b ≡ false
fails_second true b h e = h
fails_second false b h e = absurd (true≢false (sym e))

-- prepared, and neither committed nor aborted
pub not_committed : (p c a : Bool) → (p && not (c || a)) ≡ true → c ≡ false
not_committed p false a h = refl
not_committed p true a h = absurd (true≢false (sym h ∙ and_none p))
