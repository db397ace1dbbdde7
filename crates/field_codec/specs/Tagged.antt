-- Values of several shapes, each behind a tag of one byte.
use Rattle.std.specs.Prelude.{◌≡◌, ℕ, ◌+◌, ◌^◌, ◌<◌, Bool, true, ◌&&◌, ◌||◌, cond, eqb, List, ◌++◌, length, Ok, Err, refl}
use Rattle.std.proofs.Common.{sym, ap, subst, ◌∙◌, length-append, arith}
use Rattle.std.proofs.lemmas.Bool.{eqb-true, eq-eqb, or_left, or_right}
use Rattle.field_codec.specs.declared.error.TakeError.TheVariants.{Bad}
use Rattle.field_codec.specs.Spelling.{number, is_number, Spans}
use Rattle.field_codec.specs.Reading.{Read, ◌>>=◌, number_at, checked_at, mapped_at}
use Rattle.field_codec.specs.Lawful.{IsForm}
use Rattle.field_codec.specs.Refusals.{steady_form, mapped_steady, mapped_tells, checked_tells, following_tells}
use Rattle.field_codec.specs.FormLaws.{both_true, and_true, ok_is, bind_ok, guard_ok, spans_join, spans_first, spans_second, number_form, width1, checked_form}

-- a tag that is known, and then what stands behind it
abbrev pub tagged_at : {W : Type 0} → (ℕ → Bool) → (ℕ → List ℕ → ℕ → Read W) → List ℕ → ℕ → Read W
tagged_at known reading bytes at = do
  tag ← checked_at known (number_at 1) bytes at
  reading tag.0 bytes tag.1

-- the values of one shape, by the form of what they are made of
pub shape_form : {V W : Type 0} {keeps : V → Bool} {made_keeps : W → Bool} (is : W → Bool) (made : V → W) (fits is_spelled : V → Bool) (spelling : V → List ℕ) (reading : List ℕ → ℕ → Read V) (made_fits made_is_spelled : W → Bool) (made_spelling : W → List ℕ)
    → ((v : V) → (is (made v) && made_fits (made v)) ≡ fits v) → ((v : V) → made_keeps (made v) ≡ keeps v) → ((v : V) → (is (made v) && made_is_spelled (made v)) ≡ is_spelled v) → ((v : V) → made_spelling (made v) ≡ spelling v)
    → ((w : W) → (is w && (made_fits w || made_is_spelled w)) ≡ true → (v : V) × (made v ≡ w)) → IsForm fits keeps is_spelled spelling reading
    → IsForm (λ w. is w && made_fits w) made_keeps (λ w. is w && made_is_spelled w) made_spelling (mapped_at made reading)
shape_form {V} {W} {made_keeps = made_keeps} is made fits is_spelled spelling reading made_fits made_is_spelled made_spelling same_fits same_keeps same_spelled same_spelling shape form =
    let shaped : (w : W) → (is w && made_is_spelled w) ≡ true → (v : V) × (made v ≡ w) = λ w good.
    let p = both_true (is w) (made_is_spelled w) good in shape w (and_true (is w) (made_fits w || made_is_spelled w) p.0 (or_right (made_fits w) (made_is_spelled w) p.1)) in record {
      found = λ bytes at w end ok within h.
          let a = bind_ok (reading bytes at) (λ v. Ok (made v.0, v.1)) (w, end) h in
          let f = form.found bytes at a.0.0 a.0.1 ok within a.1 in
          subst (λ (y : W × ℕ). ((is y.0 && made_is_spelled y.0) ≡ true) × Spans bytes at (made_spelling y.0) y.1) (ok_is (made a.0.0, a.0.1) (w, end) a.2)
          (same_spelled a.0.0 ∙ f.0, subst (λ s. Spans bytes at s a.0.1) (sym (same_spelling a.0.0)) f.1);
      again = λ bytes at w end good spans.
          let s = shaped w good in
          let spelled = sym (same_spelled s.0) ∙ ap (λ x. is x && made_is_spelled x) s.1 ∙ good in
          let here = subst (λ l. Spans bytes at l end) (sym (ap made_spelling s.1) ∙ same_spelling s.0) spans in
          ap (λ r. r >>= λ v. Ok (made v.0, v.1)) (form.again bytes at s.0 end spelled here) ∙ ap (λ x. Ok (x, end)) s.1;
      fit = λ w good.
          let s = shaped w good in
          ap (λ x. is x && made_fits x) (sym s.1) ∙ same_fits s.0 ∙ form.fit s.0 (sym (same_spelled s.0) ∙ ap (λ x. is x && made_is_spelled x) s.1 ∙ good);
      all = λ w can kept short.
          let p = both_true (is w) (made_fits w) can in
          let s = shape w (and_true (is w) (made_fits w || made_is_spelled w) p.0 (or_left (made_fits w) (made_is_spelled w) p.1)) in
          let small = subst (λ l. length l < 2 ^ 32) (ap made_spelling (sym s.1) ∙ same_spelling s.0) short in
          ap (λ x. is x && made_is_spelled x) (sym s.1) ∙ same_spelled s.0 ∙ form.all s.0 (sym (same_fits s.0) ∙ ap (λ x. is x && made_fits x) s.1 ∙ can) (sym (same_keeps s.0) ∙ ap made_keeps s.1 ∙ kept) small;
      ends = λ bytes at far. ap (λ r. r >>= λ v. Ok (made v.0, v.1)) (form.ends bytes at far);
      tells = mapped_tells made reading form.tells;
    }

-- values within a test, made of others: parts tells of what
pub within_form : {V W : Type 0} {keeps : V → Bool} (made : V → W) (parts : W → V) (test : W → Bool) (fits is_spelled : V → Bool) (spelling : V → List ℕ) (reading : List ℕ → ℕ → Read V)
    → ((w : W) → test w ≡ true → made (parts w) ≡ w) → ((w : W) → test w ≡ true → is_spelled (parts w) ≡ true) → ((v : V) → is_spelled v ≡ true → parts (made v) ≡ v) → IsForm fits keeps is_spelled spelling reading
    → IsForm test (λ _. true) test (λ w. spelling (parts w)) (checked_at test (mapped_at made reading))
within_form {V} {W} made parts test fits is_spelled spelling reading back spelled forth form = record {
  found = λ bytes at w end ok within h.
      let a = bind_ok (mapped_at made reading bytes at) (λ x. cond (test x.0) (Ok x) (Err (Bad at))) (w, end) h in
      let g = guard_ok (test a.0.0) (Ok a.0) (Bad at) (w, end) a.2 in
      let b = bind_ok (reading bytes at) (λ v. Ok (made v.0, v.1)) a.0 a.1 in
      let f = form.found bytes at b.0.0 b.0.1 ok within b.1 in
      let e = ok_is (made b.0.0, b.0.1) a.0 b.2 in
      let here = subst (λ v. Spans bytes at (spelling v) b.0.1) (sym (forth b.0.0 f.0)) f.1 in
      subst (λ (y : W × ℕ). (test y.0 ≡ true) × Spans bytes at (spelling (parts y.0)) y.1) (ok_is a.0 (w, end) g.1)
      (g.0, subst (λ (y : W × ℕ). Spans bytes at (spelling (parts y.0)) y.1) e here);
  again = λ bytes at w end good spans.
      ap (λ r. (r >>= λ v. Ok (made v.0, v.1)) >>= λ x. cond (test x.0) (Ok x) (Err (Bad at))) (form.again bytes at (parts w) end (spelled w good) spans)
      ∙ ap (λ x. cond (test x) (Ok (x, end)) (Err (Bad at))) (back w good)
      ∙ ap (λ b. cond b (Ok (w, end)) (Err (Bad at))) good;
  fit = λ w good. good;
  all = λ w can kept short. can;
  ends = λ bytes at far. ap (λ r. (r >>= λ v. Ok (made v.0, v.1)) >>= λ x. cond (test x.0) (Ok x) (Err (Bad at))) (form.ends bytes at far);
  tells = checked_tells test (mapped_at made reading) (mapped_steady made reading (steady_form form)) (λ bytes at far. ap (λ r. r >>= λ v. Ok (made v.0, v.1)) (form.ends bytes at far)) (mapped_tells made reading form.tells);
}

-- the tag is that of the value's shape
pub tagged_form : {W : Type 0} {keeps : W → Bool} (known : ℕ → Bool) (tag : W → ℕ) (fits is_spelled : W → Bool) (spelling : W → List ℕ) (reading : ℕ → List ℕ → ℕ → Read W)
    → ((w : W) → known (tag w) ≡ true) → ((n : ℕ) → known n ≡ true → is_number 1 n ≡ true)
    → ((n : ℕ) → known n ≡ true → IsForm (λ w. eqb (tag w) n && fits w) keeps (λ w. eqb (tag w) n && is_spelled w) spelling (reading n))
    → IsForm fits keeps is_spelled (λ w. number 1 (tag w) ++ spelling w) (tagged_at known reading)
tagged_form {W} known tag fits is_spelled spelling reading all small form =
    let tags = checked_form known (is_number 1) (is_number 1) (number 1) (number_at 1) (number_form 1 width1) in
    record {
      found = λ bytes at w end ok within h.
          let a = bind_ok (checked_at known (number_at 1) bytes at) (λ t. reading t.0 bytes t.1) (w, end) h in
          let t = tags.found bytes at a.0.0 a.0.1 ok within a.1 in
          let r = (form a.0.0 (both_true (known a.0.0) (is_number 1 a.0.0) t.0).0).found bytes a.0.1 w end ok t.1.within a.2 in
          let p = both_true (eqb (tag w) a.0.0) (is_spelled w) r.0 in
          (p.1, spans_join bytes (number 1 (tag w)) (spelling w) at a.0.1 end (subst (λ n. Spans bytes at (number 1 n) a.0.1) (sym (eqb-true (tag w) a.0.0 p.0)) t.1) r.1);
      again = λ bytes at w end good spans.
          let mid = at + length (number 1 (tag w)) in
          let first = tags.again bytes at (tag w) mid (and_true (known (tag w)) (is_number 1 (tag w)) (all w) (small (tag w) (all w))) (spans_first bytes (number 1 (tag w)) (spelling w) at end spans) in
          let second = (form (tag w) (all w)).again bytes mid w end (and_true (eqb (tag w) (tag w)) (is_spelled w) (eq-eqb (tag w) (tag w) refl) good) (spans_second bytes (number 1 (tag w)) (spelling w) at end spans) in
          ap (λ r. r >>= λ t. reading t.0 bytes t.1) first ∙ second;
      fit = λ w good. (both_true (eqb (tag w) (tag w)) (fits w) ((form (tag w) (all w)).fit w (and_true (eqb (tag w) (tag w)) (is_spelled w) (eq-eqb (tag w) (tag w) refl) good))).1;
      all = λ w can kept short.
          let form_w = form (tag w) (all w) in
          (both_true (eqb (tag w) (tag w)) (is_spelled w) (form_w.all w (and_true (eqb (tag w) (tag w)) (fits w) (eq-eqb (tag w) (tag w) refl) can) kept (omega (arith, short, length-append (number 1 (tag w)) (spelling w))))).1;
      ends = λ bytes at far. ap (λ r. r >>= λ t. reading t.0 bytes t.1) (tags.ends bytes at far);
      tells = following_tells (checked_at known (number_at 1)) reading (steady_form tags) tags.tells
          (λ bytes at x ok le h. (form x.0 (both_true (known x.0) (is_number 1 x.0) (tags.found bytes at x.0 x.1 ok le h).0).0).tells);
    }
