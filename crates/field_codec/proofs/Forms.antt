-- What follows from the law of a form.
use Rattle.std.proofs.Common.{◌≡◌, ℕ, zero, suc, ◌+◌, ◌≤◌, Bool, List, [], ◌∷◌, ◌++◌, length, take, Result, Ok, Err, OnErr, refl, sym, ap, ◌∙◌, length-append, take_all, arith}
use Rattle.std.proofs.lemmas.List.{take_at, drop_at}
use Rattle.field_codec.specs.declared.error.TakeError.{TakeError}
use Rattle.field_codec.specs.Spelling.{Spans, Keeps}
use Rattle.field_codec.specs.Reading.{Read}
use Rattle.field_codec.specs.Lawful.{IsForm, IsPrefixFree}

-- a spelling with anything after it stands at its front
pub spans_front : (s x : List ℕ) → Spans (s ++ x) 0 s (length s)
spans_front s x = record {
  lies = ap (λ l. s ++ l) (sym (drop_at s x (length s) refl));
  long = omega arith;
  within = omega (arith, length-append s x);
}

abbrev done : {A : Type 0} → A → Result A TakeError
done x = Ok x

pub ok_is : {A : Type 0} (x y : A) → done x ≡ done y → x ≡ y
ok_is x y e = cc

pub prefix_free : {V : Type 0} {keeps : V → Bool} (fits is_spelled : V → Bool) (spelling : V → List ℕ) (reading : List ℕ → ℕ → Read V) → IsForm fits keeps is_spelled spelling reading → IsPrefixFree is_spelled spelling
prefix_free {V} fits is_spelled spelling reading form v w x y hv hw e =
    let one = form.again (spelling v ++ x) 0 v (length (spelling v)) hv (spans_front (spelling v) x) in
    let two = form.again (spelling w ++ y) 0 w (length (spelling w)) hw (spans_front (spelling w) y) in
    ap (λ (p : V × ℕ). p.0) (ok_is (v, length (spelling v)) (w, length (spelling w)) (sym one ∙ ap (λ l. reading l 0) e ∙ two))

-- what stood at the front before more was written stands there still
pub keeps_more : (old mid xs new : List ℕ) → mid ≡ old ++ xs → Keeps mid new → Keeps old new
keeps_more old mid xs new e k =
    let longer : length mid ≡ length old + length xs = ap length e ∙ length-append old xs in
    record {
      front = sym (take_least (length old) (length mid) new (omega arith)) ∙ ap (take (length old)) (k.front ∙ e) ∙ take_at old xs (length old) refl;
    }
  where
    take_least : (i j : ℕ) (l : List ℕ) → i ≤ j → take i (take j l) ≡ take i l
    take_least zero j l le = refl
    take_least (suc i) zero l le = absurd (omega arith)
    take_least (suc i) (suc j) [] le = refl
    take_least (suc i) (suc j) (x ∷ l) le = ap (λ m. x ∷ m) (take_least i j l (omega arith))

pub keeps_all : (old : List ℕ) → Keeps old old
keeps_all old = record { front = take_all (length old) old (omega arith) }

pub keeps_append : (old xs new : List ℕ) → new ≡ old ++ xs → Keeps old new
keeps_append old xs new e = keeps_more old new xs new e (keeps_all new)

-- what the exit of a `?` returns is an error
pub on_err : {T E P : Type 0} (r : Result T E) → P → OnErr r P
on_err (Ok x) p = tt
on_err (Err e) p = p
