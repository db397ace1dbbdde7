-- Cases of tests and of answers.
use Rattle.std.proofs.Common.{◌≡◌, Bool, true, false, not, ◌&&◌, ◌||◌, Result, Ok, Err, IsOk, OnOk, IfOk, refl, sym, ap, ◌∙◌}
use Rattle.std.proofs.lemmas.Bool.{true≢false}

pub when_ok : {A B : Type 0} (r : Result A B) (P : Type 0) → IsOk r → OnOk r P → P
when_ok (Ok a) P h p = p
when_ok (Err b) P h p = let v : ⊥ = cc in absurd v

pub on_ok : {A B : Type 0} (r : Result A B) (P Q : Type 0) → (P → Q) → OnOk r P → OnOk r Q
on_ok (Ok a) P Q f p = f p
on_ok (Err b) P Q f p = tt

pub if_ok : {A B : Type 0} (r : Result A B) (P Q : A → Type 0) → ((a : A) → P a → Q a) → IfOk r P → IfOk r Q
if_ok (Ok a) P Q f p = f a p
if_ok (Err b) P Q f p = tt

pub or_swap : (a b c : Bool) → (a || (b || c)) ≡ (b || (a || c))
or_swap true true c = refl
or_swap true false c = refl
or_swap false b c = refl

pub or_join : (a b c : Bool) → (a || (b || c)) ≡ ((a || b) || c)
or_join true b c = refl
or_join false b c = refl

pub or_turn : (a b c : Bool) → ((a || b) || c) ≡ (a || (c || b))
or_turn true b c = refl
or_turn false true true = refl
or_turn false true false = refl
or_turn false false true = refl
or_turn false false false = refl

pub second_true : (a b : Bool) → a ≡ false → (a || b) ≡ true → b ≡ true
second_true true b e h = absurd (true≢false e)
second_true false b e h = h

pub and_none : (b : Bool) → (b && false) ≡ false
and_none true = refl
and_none false = refl

-- prepared, and neither committed nor aborted
pub not_committed : (p c a : Bool) → (p && not (c || a)) ≡ true → c ≡ false
not_committed p false a h = refl
not_committed p true a h = absurd (true≢false (sym h ∙ and_none p))

-- what begins waits from then on, and all others as before
pub begins : (b p c a : Bool) → (b ≡ true → c ≡ false) → (b ≡ true → a ≡ false) → ((b || p) && not (c || a)) ≡ (b || (p && not (c || a)))
begins true p c a f g = ap (λ x. not (x || a)) (f refl) ∙ ap not (g refl)
begins false p c a f g = refl

-- what ends waits no more, and all others as before
pub leaves : (b h p c a : Bool) → (b || h) ≡ (p && not (c || a)) → (b ≡ true → h ≡ false) → h ≡ (p && not ((b || c) || a))
leaves true h p c a e f = f refl ∙ sym (and_none p)
leaves false h p c a e f = e

pub stops : (b h p c a : Bool) → (b || h) ≡ (p && not (c || a)) → (b ≡ true → h ≡ false) → h ≡ (p && not (c || (b || a)))
stops true h p true a e f = f refl ∙ sym (and_none p)
stops true h p false a e f = f refl ∙ sym (and_none p)
stops false h p c a e f = e

-- what is committed is held
pub ends : (b c t : Bool) → ((c || t) || (b || false)) ≡ ((b || c) || t)
ends true true t = refl
ends true false true = refl
ends true false false = refl
ends false true t = refl
ends false false true = refl
ends false false false = refl
