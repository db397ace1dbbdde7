-- What refusals mean where readings are put together: tests, values made of others, and one reading after another.
use Rattle.std.specs.Prelude.{◌≡◌, ◌≢◌, ℕ, ◌<◌, ◌≤◌, Bool, true, false, cond, nat_le, List, [], ◌∷◌, ◌++◌, length, take, Ok, Err, refl}
use Rattle.std.proofs.Common.{sym, ap, subst, ◌∙◌, ⊎_elim, length-append, arith}
use Rattle.std.proofs.lemmas.Bool.Decides.{nat_tests}
use Rattle.std.proofs.lemmas.List.{take_at, length-take-le}
use Rattle.field_codec.specs.declared.error.TakeError.{TakeError}
use Rattle.field_codec.specs.declared.error.TakeError.TheVariants.{Short, Bad, NoMemory}
use Rattle.field_codec.specs.Spelling.{Spans}
use Rattle.field_codec.specs.Reading.{Read, ◌>>=◌, checked_at, mapped_at}
use Rattle.field_codec.specs.Lawful.{IsBytes, IsRefused, TellsWhy, IsForm}
use Rattle.field_codec.specs.Steps.{le_from, bind_ok, guard_ok, bind_err, not_both, ok_is, guard_bad, short_is, short_not_bad, IsBytes-append, spans_none, spans_longer, spans_shorter}

-- ---- what is read

-- a value that is read stands behind the place, and is read whatever follows it and wherever behind it the bytes end
pub record IsSteady {V : Type 0} (reading : List ℕ → ℕ → Read V) : Type 0 where
  pub after : (bytes : List ℕ) (at : ℕ) (x : V × ℕ) → IsBytes bytes → at ≤ length bytes → reading bytes at ≡ Ok x → at < x.1
  pub within : (bytes : List ℕ) (at : ℕ) (x : V × ℕ) → IsBytes bytes → at ≤ length bytes → reading bytes at ≡ Ok x → x.1 ≤ length bytes
  pub longer : (bytes more : List ℕ) (at : ℕ) (x : V × ℕ) → IsBytes bytes → at ≤ length bytes → reading bytes at ≡ Ok x → reading (bytes ++ more) at ≡ Ok x
  pub shorter : (bytes : List ℕ) (at q : ℕ) (x : V × ℕ) → IsBytes bytes → at ≤ length bytes → x.1 ≤ q → reading bytes at ≡ Ok x → reading (take q bytes) at ≡ Ok x

module _ {V : Type 0} {fits keeps is_spelled : V → Bool} {spelling : V → List ℕ} {reading : List ℕ → ℕ → Read V} (form : IsForm fits keeps is_spelled spelling reading) where
  -- no spelling is empty
  pub some_spelled : (v : V) (s : List ℕ) → is_spelled v ≡ true → spelling v ≡ s → 0 < length s
  some_spelled v [] good e = absurd (not_both (reading [] 0) (v, 0) (Short 0) (form.again [] 0 v 0 good (subst (λ s. Spans [] 0 s 0) (sym e) (spans_none [] 0 (omega arith)))) (form.ends [] 0 (omega arith)))
  some_spelled v (b ∷ s) good e = omega arith

  pub steady_form : IsSteady reading
  steady_form = record {
    after = λ bytes at x ok le h. let f = form.found bytes at x.0 x.1 ok le h in let some = some_spelled x.0 (spelling x.0) f.0 refl in omega (arith, some, f.1.long);
    within = λ bytes at x ok le h. (form.found bytes at x.0 x.1 ok le h).1.within;
    longer = λ bytes more at x ok le h. let f = form.found bytes at x.0 x.1 ok le h in form.again (bytes ++ more) at x.0 x.1 f.0 (spans_longer bytes more (spelling x.0) at x.1 le f.1);
    shorter = λ bytes at q x ok le below h. let f = form.found bytes at x.0 x.1 ok le h in form.again (take q bytes) at x.0 x.1 f.0 (spans_shorter bytes (spelling x.0) at x.1 q below f.1);
  }

-- whatever is read, enough bytes more leave it cut off at no place that there was
pub enough_from : {V : Type 0} {reading : List ℕ → ℕ → Read V} → IsSteady reading → TellsWhy reading → (bytes : List ℕ) (at p : ℕ) → IsBytes bytes → at ≤ length bytes → p ≤ length bytes
    → (k : ℕ) × ((more : List ℕ) → IsBytes more → k ≤ length more → reading (bytes ++ more) at ≢ Err (Short p))
enough_from {V} {reading} steady tells bytes at p ok le within = by (reading bytes at) refl
  where
    -- what is cut off at p with more bytes was so without
    before : (more : List ℕ) → IsBytes more → reading (bytes ++ more) at ≡ Err (Short p) → reading bytes at ≡ Err (Short p)
    before more fits is =
        let s = tells.short (bytes ++ more) at p (IsBytes-append bytes more ok fits) (omega (arith, le, length-append bytes more)) is in
        sym (ap (λ l. reading l at) (take_at bytes more (length bytes) refl)) ∙ s.cut (length bytes) within

    by : (r : Read V) → reading bytes at ≡ r → (k : ℕ) × ((more : List ℕ) → IsBytes more → k ≤ length more → reading (bytes ++ more) at ≢ Err (Short p))
    by (Ok x) e = (0, λ more fits most is. not_both (reading bytes at) x (Short p) e (before more fits is))
    by (Err (Short q)) e =
        let s = tells.short bytes at q ok le e in
        (s.enough.0, λ more fits most is. let same = short_is {A = V × ℕ} p q (sym (before more fits is) ∙ e) in s.enough.1 more fits most (subst (λ n. reading (bytes ++ more) at ≡ Err (Short n)) same is))
    by (Err (Bad q)) e = (0, λ more fits most is. short_not_bad {A = V × ℕ} p q (sym (before more fits is) ∙ e))
    by (Err NoMemory) e = absurd (tells.memory bytes at ok le e)

-- ---- values made of others

abbrev make : {V W : Type 0} → (V → W) → V × ℕ → Read W
make made v = Ok (made v.0, v.1)

module _ {V W : Type 0} (made : V → W) (reading : List ℕ → ℕ → Read V) where
  pub mapped_steady : IsSteady reading → IsSteady (mapped_at made reading)
  mapped_steady s = record {
    after = λ bytes at x ok le h. let a = bind_ok (reading bytes at) (make made) x h in subst (λ (y : W × ℕ). at < y.1) (ok_is (made a.0.0, a.0.1) x a.2) (s.after bytes at a.0 ok le a.1);
    within = λ bytes at x ok le h. let a = bind_ok (reading bytes at) (make made) x h in subst (λ (y : W × ℕ). y.1 ≤ length bytes) (ok_is (made a.0.0, a.0.1) x a.2) (s.within bytes at a.0 ok le a.1);
    longer = λ bytes more at x ok le h. let a = bind_ok (reading bytes at) (make made) x h in ap (λ r. r >>= make made) (s.longer bytes more at a.0 ok le a.1) ∙ a.2;
    shorter = λ bytes at q x ok le below h.
        let a = bind_ok (reading bytes at) (make made) x h in
        let end : a.0.1 ≡ x.1 = ap (λ (y : W × ℕ). y.1) (ok_is (made a.0.0, a.0.1) x a.2) in
        ap (λ r. r >>= make made) (s.shorter bytes at q a.0 ok le (omega (arith, end, below)) a.1) ∙ a.2;
  }

  -- what is made fails where what it is made of does
  made_err : (bytes : List ℕ) (at : ℕ) (e : TakeError) → mapped_at made reading bytes at ≡ Err e → reading bytes at ≡ Err e
  made_err bytes at e h = ⊎_elim (λ is. is) (λ a. absurd (not_both (make made a.0) (made a.0.0, a.0.1) e refl a.2)) (bind_err (reading bytes at) (make made) e h)

  pub mapped_tells : TellsWhy reading → TellsWhy (mapped_at made reading)
  mapped_tells t = record {
    short = λ bytes at p ok le h.
        let s = t.short bytes at p ok le (made_err bytes at (Short p) h) in
        record {
          behind = s.behind;
          within = s.within;
          cut = λ q below. ap (λ r. r >>= make made) (s.cut q below);
          enough = (s.enough.0, λ more fits most is. s.enough.1 more fits most (made_err (bytes ++ more) at (Short p) is));
        };
    bad = λ bytes at p ok le h.
        let s = t.bad bytes at p ok le (made_err bytes at (Bad p) h) in
        record { behind = s.behind; within = s.within; cut = ap (λ r. r >>= make made) s.cut; stays = λ more. ap (λ r. r >>= make made) (s.stays more) };
    memory = λ bytes at ok le h. t.memory bytes at ok le (made_err bytes at NoMemory h);
  }

-- ---- tests

abbrev tested : {V : Type 0} → (V → Bool) → ℕ → V × ℕ → Read V
tested test at v = cond (test v.0) (Ok v) (Err (Bad at))

never_short : {V : Type 0} (b : Bool) (x : V × ℕ) (at p : ℕ) → cond b (Ok x) (Err (Bad at)) ≡ Err (Short p) → ⊥
never_short true x at p h = cc
never_short false x at p h = cc

never_memory : {V : Type 0} (b : Bool) (x : V × ℕ) (at : ℕ) → cond b (Ok x) (Err (Bad at)) ≡ Err NoMemory → ⊥
never_memory true x at h = cc
never_memory false x at h = cc

pub tested_short : {V : Type 0} (test : V → Bool) (reading : List ℕ → ℕ → Read V) (bytes : List ℕ) (at p : ℕ) → checked_at test reading bytes at ≡ Err (Short p) → reading bytes at ≡ Err (Short p)
tested_short test reading bytes at p h = ⊎_elim (λ is. is) (λ a. absurd (never_short (test a.0.0) a.0 at p a.2)) (bind_err (reading bytes at) (tested test at) (Short p) h)

pub checked_steady : {V : Type 0} (test : V → Bool) (reading : List ℕ → ℕ → Read V) → IsSteady reading → IsSteady (checked_at test reading)
checked_steady {V} test reading s = record {
  after = λ bytes at x ok le h. s.after bytes at x ok le (was bytes at x h).1;
  within = λ bytes at x ok le h. s.within bytes at x ok le (was bytes at x h).1;
  longer = λ bytes more at x ok le h. let w = was bytes at x h in ap (λ r. r >>= tested test at) (s.longer bytes more at x ok le w.1) ∙ ap (λ b. cond b (Ok x) (Err (Bad at))) w.0;
  shorter = λ bytes at q x ok le below h. let w = was bytes at x h in ap (λ r. r >>= tested test at) (s.shorter bytes at q x ok le below w.1) ∙ ap (λ b. cond b (Ok x) (Err (Bad at))) w.0;
}
  where
    was : (bytes : List ℕ) (at : ℕ) (x : V × ℕ) → checked_at test reading bytes at ≡ Ok x → (test x.0 ≡ true) × (reading bytes at ≡ Ok x)
    was bytes at x h =
        let a = bind_ok (reading bytes at) (tested test at) x h in
        let g = guard_ok (test a.0.0) (Ok a.0) (Bad at) x a.2 in
        subst (λ (y : V × ℕ). (test y.0 ≡ true) × (reading bytes at ≡ Ok y)) (ok_is a.0 x g.1) (g.0, a.1)

-- the bytes up to a place end there
abbrev pub IsCutAtEnd : {V : Type 0} → (List ℕ → ℕ → Read V) → Type 0
IsCutAtEnd reading = (bytes : List ℕ) (at : ℕ) → length bytes ≤ at → reading bytes at ≡ Err (Short at)

pub ends_at : {V : Type 0} (reading : List ℕ → ℕ → Read V) (ends : IsCutAtEnd reading) (bytes : List ℕ) (at : ℕ) → at ≤ length bytes → reading (take at bytes) at ≡ Err (Short at)
ends_at reading ends bytes at le = ends (take at bytes) at (omega (arith, length-take-le at bytes le))

module _ {V : Type 0} (test : V → Bool) (reading : List ℕ → ℕ → Read V) (steady : IsSteady reading) (ends : IsCutAtEnd reading) where
  refused_here : (bytes : List ℕ) (at : ℕ) (x : V × ℕ) → IsBytes bytes → at ≤ length bytes → reading bytes at ≡ Ok x → test x.0 ≡ false → IsRefused (checked_at test reading) bytes at at
  refused_here bytes at x ok le h out =
      let after = steady.after bytes at x ok le h in
      let most = steady.within bytes at x ok le h in
      record {
        behind = omega arith;
        within = omega (arith, after, most);
        cut = ap (λ r. r >>= tested test at) (ends_at reading ends bytes at le);
        stays = λ more. ap (λ r. r >>= tested test at) (steady.longer bytes more at x ok le h) ∙ ap (λ b. cond b (Ok x) (Err (Bad at))) out;
      }

  pub checked_tells : TellsWhy reading → TellsWhy (checked_at test reading)
  checked_tells tells = record {
    short = λ bytes at p ok le h.
        let s = tells.short bytes at p ok le (tested_short test reading bytes at p h) in
        record {
          behind = s.behind;
          within = s.within;
          cut = λ q below. ap (λ r. r >>= tested test at) (s.cut q below);
          enough = (s.enough.0, λ more fits most is. s.enough.1 more fits most (tested_short test reading (bytes ++ more) at p is));
        };
    bad = λ bytes at p ok le h.
        ⊎_elim
        (λ is. let s = tells.bad bytes at p ok le is in record { behind = s.behind; within = s.within; cut = ap (λ r. r >>= tested test at) s.cut; stays = λ more. ap (λ r. r >>= tested test at) (s.stays more) })
        (λ a. let g = guard_bad (test a.0.0) a.0 at p a.2 in subst (λ n. IsRefused (checked_at test reading) bytes at n) g.1 (refused_here bytes at a.0 ok le a.1 g.0))
        (bind_err (reading bytes at) (tested test at) (Bad p) h);
    memory = λ bytes at ok le h. ⊎_elim (λ is. tells.memory bytes at ok le is) (λ a. never_memory (test a.0.0) a.0 at a.2) (bind_err (reading bytes at) (tested test at) NoMemory h);
  }

-- ---- one reading after another

abbrev pub following_at : {V W : Type 0} → (List ℕ → ℕ → Read V) → (V → List ℕ → ℕ → Read W) → List ℕ → ℕ → Read W
following_at first second bytes at = first bytes at >>= λ v. second v.0 bytes v.1

abbrev goes_on : {V W : Type 0} → (V → List ℕ → ℕ → Read W) → List ℕ → V × ℕ → Read W
goes_on second bytes v = second v.0 bytes v.1

-- what was cut off and is read now ends behind the bytes that there were
ends_behind : {V : Type 0} (first : List ℕ → ℕ → Read V) → IsSteady first → (bytes more : List ℕ) (at : ℕ) (e : TakeError) (x : V × ℕ) → IsBytes (bytes ++ more) → at ≤ length (bytes ++ more) → first bytes at ≡ Err e → first (bytes ++ more) at ≡ Ok x → length bytes < x.1
ends_behind first steady bytes more at e x ok le short h = by (nat_le x.1 (length bytes)) refl
  where
    by : (b : Bool) → nat_le x.1 (length bytes) ≡ b → length bytes < x.1
    by true is = absurd (not_both (first bytes at) x e (sym (ap (λ l. first l at) (take_at bytes more (length bytes) refl)) ∙ steady.shorter (bytes ++ more) at (length bytes) x ok le (le_from x.1 (length bytes) is) h) short)
    by false is = grind (arith, nat_tests)

module _ {V W : Type 0} (first : List ℕ → ℕ → Read V) (second : V → List ℕ → ℕ → Read W) (steady : IsSteady first) (tells : TellsWhy first)
    (next : (bytes : List ℕ) (at : ℕ) (x : V × ℕ) → IsBytes bytes → at ≤ length bytes → first bytes at ≡ Ok x → TellsWhy (second x.0)) where
  pub following_tells : TellsWhy (following_at first second)
  following_tells = record {
    short = λ bytes at p ok le h.
        ⊎_elim
        (λ is.
        let s = tells.short bytes at p ok le is in
        record {
          behind = s.behind;
          within = s.within;
          cut = λ q below. ap (λ r. r >>= goes_on second (take q bytes)) (s.cut q below);
          enough = (
            s.enough.0,
            λ more fits most again.
                let all = IsBytes-append bytes more ok fits in
                let long : at ≤ length (bytes ++ more) = omega (arith, le, length-append bytes more) in
                ⊎_elim (s.enough.1 more fits most) (λ a.
                let far = ends_behind first steady bytes more at (Short p) a.0 all long is a.1 in
                let there = (next (bytes ++ more) at a.0 all long a.1).short (bytes ++ more) a.0.1 p all (steady.within (bytes ++ more) at a.0 all long a.1) a.2 in
                absurd (omega (arith, far, there.behind, s.within))) (bind_err (first (bytes ++ more) at) (goes_on second (bytes ++ more)) (Short p) again),
          );
        })
        (λ a.
        let after = steady.after bytes at a.0 ok le a.1 in
        let s = (next bytes at a.0 ok le a.1).short bytes a.0.1 p ok (steady.within bytes at a.0 ok le a.1) a.2 in
        record {
          behind = omega (arith, after, s.behind);
          within = s.within;
          cut = λ q below. ap (λ r. r >>= goes_on second (take q bytes)) (steady.shorter bytes at q a.0 ok le (omega (arith, below, s.behind)) a.1) ∙ s.cut q below;
          enough = (s.enough.0, λ more fits most again. s.enough.1 more fits most (sym (ap (λ r. r >>= goes_on second (bytes ++ more)) (steady.longer bytes more at a.0 ok le a.1)) ∙ again));
        })
        (bind_err (first bytes at) (goes_on second bytes) (Short p) h);
    bad = λ bytes at p ok le h.
        ⊎_elim
        (λ is.
        let s = tells.bad bytes at p ok le is in
        record { behind = s.behind; within = s.within; cut = ap (λ r. r >>= goes_on second (take p bytes)) s.cut; stays = λ more. ap (λ r. r >>= goes_on second (bytes ++ more)) (s.stays more) })
        (λ a.
        let after = steady.after bytes at a.0 ok le a.1 in
        let s = (next bytes at a.0 ok le a.1).bad bytes a.0.1 p ok (steady.within bytes at a.0 ok le a.1) a.2 in
        record {
          behind = omega (arith, after, s.behind);
          within = s.within;
          cut = ap (λ r. r >>= goes_on second (take p bytes)) (steady.shorter bytes at p a.0 ok le s.behind a.1) ∙ s.cut;
          stays = λ more. ap (λ r. r >>= goes_on second (bytes ++ more)) (steady.longer bytes more at a.0 ok le a.1) ∙ s.stays more;
        })
        (bind_err (first bytes at) (goes_on second bytes) (Bad p) h);
    memory = λ bytes at ok le h.
        ⊎_elim (tells.memory bytes at ok le) (λ a. (next bytes at a.0 ok le a.1).memory bytes a.0.1 ok (steady.within bytes at a.0 ok le a.1) a.2) (bind_err (first bytes at) (goes_on second bytes) NoMemory h);
  }
