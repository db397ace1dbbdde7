-- Tests and steps of a reading, and places in bytes.
use Rattle.std.specs.Prelude.{◌≡◌, ℕ, zero, suc, ◌+◌, ◌-◌, ◌<◌, ◌≤◌, ◌⊎◌, Bool, true, false, ◌&&◌, cond, nat_lt, nat_le, List, [], ◌∷◌, ◌++◌, length, take, drop, Result, Ok, Err, refl}
use Rattle.std.proofs.Common.{sym, ap, ◌∙◌, inl, inr, append_assoc, length-append, arith}
use Rattle.std.proofs.Math.Seq.{take-append-add}
use Rattle.std.proofs.lemmas.Bool.Decides.{nat_tests}
use Rattle.std.proofs.lemmas.List.{drop_at, drop-take, drop-append-le, drop-drop, get_or-drop}
use Rattle.field_codec.specs.declared.error.TakeError.{TakeError}
use Rattle.field_codec.specs.declared.error.TakeError.TheVariants.{Short, Bad, NoMemory}
use Rattle.field_codec.specs.Spelling.{Spans}
use Rattle.field_codec.specs.Reading.{◌>>=◌}
use Rattle.field_codec.specs.Lawful.{IsBytes}

-- ---- tests and steps

pub both_true : (a b : Bool) → (a && b) ≡ true → (a ≡ true) × (b ≡ true)
both_true true b h = (refl, h)
both_true false b h = absurd cc

pub and_true : (a b : Bool) → a ≡ true → b ≡ true → (a && b) ≡ true
and_true a b p q = ap (λ x. x && b) p ∙ q

pub le_holds : (n m : ℕ) → n ≤ m → nat_le n m ≡ true
le_holds n m h = grind (arith, nat_tests)

pub le_from : (n m : ℕ) → nat_le n m ≡ true → n ≤ m
le_from n m h = grind (arith, nat_tests)

pub lt_holds : (n m : ℕ) → n < m → nat_lt n m ≡ true
lt_holds n m h = grind (arith, nat_tests)

pub lt_from : (n m : ℕ) → nat_lt n m ≡ true → n < m
lt_from n m h = grind (arith, nat_tests)

-- one number is at most another, or above it
pub by_length : {P : Type 0} (n m : ℕ) → (n ≤ m → P) → (m < n → P) → P
by_length {P} n m most above = by (nat_le n m) refl
  where
    by : (b : Bool) → nat_le n m ≡ b → P
    by true is = most (le_from n m is)
    by false is = above (grind (arith, nat_tests))

abbrev pub done : {A : Type 0} → A → Result A TakeError
done x = Ok x

pub ok_is : {A : Type 0} (x y : A) → done x ≡ done y → x ≡ y
ok_is x y e = cc

-- the value of a step that did not fail
pub bind_ok : {A B : Type 0} (r : Result A TakeError) (f : A → Result B TakeError) (y : B) → (r >>= f) ≡ Ok y → (x : A) × (r ≡ Ok x) × (f x ≡ Ok y)
bind_ok (Ok x) f y e = (x, refl, e)
bind_ok (Err d) f y e = absurd cc

-- a test that did not fail
pub guard_ok : {A : Type 0} (b : Bool) (r : Result A TakeError) (d : TakeError) (y : A) → cond b r (Err d) ≡ Ok y → (b ≡ true) × (r ≡ Ok y)
guard_ok true r d y e = (refl, e)
guard_ok false r d y e = absurd cc

abbrev pub failed : {A : Type 0} → TakeError → Result A TakeError
failed e = Err e

pub err_is : {A : Type 0} (d e : TakeError) → failed {A = A} d ≡ failed e → d ≡ e
err_is d e h = cc

-- a step that failed, or one that did not before one that did
pub bind_err : {A B : Type 0} (r : Result A TakeError) (f : A → Result B TakeError) (e : TakeError) → (r >>= f) ≡ Err e → (r ≡ Err e) ⊎ ((x : A) × (r ≡ Ok x) × (f x ≡ Err e))
bind_err (Ok x) f e h = inr (x, refl, h)
bind_err {A} {B} (Err d) f e h = inl (ap Err (err_is {A = B} d e h))

pub not_both : {A : Type 0} (r : Result A TakeError) (x : A) (e : TakeError) → r ≡ Ok x → r ≡ Err e → ⊥
not_both r x e p q = cc

pub short_is : {A : Type 0} (p q : ℕ) → failed {A = A} (Short p) ≡ failed (Short q) → p ≡ q
short_is p q h = cc

pub bad_is : {A : Type 0} (p q : ℕ) → failed {A = A} (Bad p) ≡ failed (Bad q) → p ≡ q
bad_is p q h = cc

pub short_not_bad : {A : Type 0} (p q : ℕ) → failed {A = A} (Short p) ≡ failed (Bad q) → ⊥
short_not_bad p q h = cc

pub short_not_memory : {A : Type 0} (p : ℕ) → failed {A = A} (Short p) ≡ failed NoMemory → ⊥
short_not_memory p h = cc

-- a test that failed
pub guard_bad : {A : Type 0} (b : Bool) (x : A) (at p : ℕ) → cond b (done x) (Err (Bad at)) ≡ Err (Bad p) → (b ≡ false) × (at ≡ p)
guard_bad true x at p e = absurd cc
guard_bad {A} false x at p e = (refl, bad_is {A = A} at p e)

-- ---- places

pub IsBytes-drop : (n : ℕ) (bytes : List ℕ) → IsBytes bytes → IsBytes (drop n bytes)
IsBytes-drop n bytes h i = rw get_or-drop (h (n + i))

pub IsBytes-take : (n : ℕ) (bytes : List ℕ) → IsBytes bytes → IsBytes (take n bytes)
IsBytes-take zero bytes h i = omega arith
IsBytes-take (suc n) [] h i = omega arith
IsBytes-take (suc n) (b ∷ bytes) h zero = h 0
IsBytes-take (suc n) (b ∷ bytes) h (suc i) = IsBytes-take n bytes (λ k. h (suc k)) i

-- nothing stands from a place up to itself
pub spans_none : (bytes : List ℕ) (at : ℕ) → at ≤ length bytes → Spans bytes at [] at
spans_none bytes at le = record { lies = refl; long = omega arith; within = le }

-- what stands up to a place, and from it on
pub spans_join : (bytes xs ys : List ℕ) (at mid end : ℕ) → Spans bytes at xs mid → Spans bytes mid ys end → Spans bytes at (xs ++ ys) end
spans_join bytes xs ys at mid end p q = record {
  lies = p.lies ∙ ap (λ l. xs ++ l) q.lies ∙ sym (append_assoc xs ys (drop end bytes));
  long = omega (arith, p.long, q.long, length-append xs ys);
  within = q.within;
}

pub spans_first : (bytes xs ys : List ℕ) (at end : ℕ) → Spans bytes at (xs ++ ys) end → Spans bytes at xs (at + length xs)
spans_first bytes xs ys at end p =
    let whole : drop at bytes ≡ xs ++ (ys ++ drop end bytes) = p.lies ∙ append_assoc xs ys (drop end bytes) in
    record {
      lies = whole ∙ ap (λ l. xs ++ l) (sym (sym (drop-drop (length xs) at bytes) ∙ ap (drop (length xs)) whole ∙ drop_at xs (ys ++ drop end bytes) (length xs) refl));
      long = refl;
      within = omega (arith, p.long, p.within, length-append xs ys);
    }

pub spans_second : (bytes xs ys : List ℕ) (at end : ℕ) → Spans bytes at (xs ++ ys) end → Spans bytes (at + length xs) ys end
spans_second bytes xs ys at end p =
    let whole : drop at bytes ≡ xs ++ (ys ++ drop end bytes) = p.lies ∙ append_assoc xs ys (drop end bytes) in
    record {
      lies = sym (drop-drop (length xs) at bytes) ∙ ap (drop (length xs)) whole ∙ drop_at xs (ys ++ drop end bytes) (length xs) refl;
      long = omega (arith, p.long, length-append xs ys);
      within = p.within;
    }

pub IsBytes-append : (bytes more : List ℕ) → IsBytes bytes → IsBytes more → IsBytes (bytes ++ more)
IsBytes-append [] more h m i = m i
IsBytes-append (b ∷ bytes) more h m zero = h 0
IsBytes-append (b ∷ bytes) more h m (suc i) = IsBytes-append bytes more (λ k. h (suc k)) m i

-- what follows changes nothing
pub spans_longer : (bytes more s : List ℕ) (at end : ℕ) → at ≤ length bytes → Spans bytes at s end → Spans (bytes ++ more) at s end
spans_longer bytes more s at end le p = record {
  lies = drop-append-le at bytes more le ∙ ap (λ l. l ++ more) p.lies ∙ append_assoc s (drop end bytes) more ∙ ap (λ l. s ++ l) (sym (drop-append-le end bytes more p.within));
  long = p.long;
  within = omega (arith, p.within, length-append bytes more);
}

length-cut : (q : ℕ) (bytes : List ℕ) (n : ℕ) → n ≤ q → n ≤ length bytes → n ≤ length (take q bytes)
length-cut zero bytes n le most = omega (arith, le)
length-cut (suc q) [] n le most = most
length-cut (suc q) (b ∷ bytes) zero le most = omega arith
length-cut (suc q) (b ∷ bytes) (suc n) le most = let rest = length-cut q bytes n (omega (arith, le)) (omega (arith, most)) in omega (arith, rest)

-- nor does an end behind it
pub spans_shorter : (bytes s : List ℕ) (at end q : ℕ) → end ≤ q → Spans bytes at s end → Spans (take q bytes) at s end
spans_shorter bytes s at end q le p =
    let k = q - end in
    let whole : q ≡ at + (length s + k) = omega (arith, p.long, le) in
    let behind : q ≡ end + k = omega (arith, le) in
    record {
      lies = ap (λ n. drop at (take n bytes)) whole ∙ drop-take at (length s + k) bytes ∙ ap (take (length s + k)) p.lies ∙ take-append-add s (drop end bytes) k
          ∙ ap (λ l. s ++ l) (sym (drop-take end k bytes) ∙ ap (λ n. drop end (take n bytes)) (sym behind));
      long = p.long;
      within = length-cut q bytes end le p.within;
    }
