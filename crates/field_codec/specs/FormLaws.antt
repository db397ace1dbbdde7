-- Numbers, texts and lists are forms; and what serves to show it of a form of several fields.
use Rattle.std.specs.Prelude.{◌≡◌, ℕ, zero, suc, ◌+◌, ◌*◌, ◌%◌, ◌^◌, ◌<◌, ◌≤◌, Bool, true, false, ◌&&◌, cond, eqb, nat_le, List, [], ◌∷◌, ◌++◌, length, take, drop, Option, Some, None, Ok, Err, refl}
use Rattle.std.proofs.Common.{sym, ap, subst, ◌∙◌, length-append, arith}
use Rattle.std.specs.List.{flat_map, list_all, AllByRecursion}
use Rattle.std.specs.List.Sorted.{IsStrictlySortedBy}
use Rattle.std.specs.declared.cmp.Ordering.{Ordering}
use Rattle.std.specs.declared.cmp.Ordering.TheVariants.{Less, Equal, Greater}
use Rattle.std.specs.Ordering.{is_lt}
use Rattle.std.specs.Cmp.{IsTotalOrder}
use Rattle.std.proofs.lemmas.Bool.{eqb-true, eq-eqb, true≢false}
use Rattle.std.specs.Str.{is_utf8}
use Rattle.std.proofs.lemmas.Str.{is_utf8-from_IsUtf8, IsUtf8-nil}
use Rattle.std.proofs.lemmas.Bool.Decides.{nat_tests}
use Rattle.std.proofs.lemmas.List.{take_at, take-append-drop, length-take-le, length-drop, drop-drop, drop-append-le, take-append-le}
use Rattle.std.proofs.lemmas.List.Concat.{flat_map-cons}
use Rattle.std.proofs.lemmas.Nat.{be_bytes_2, be_bytes_4, be_bytes_8}
use Rattle.byteorder.specs.Endian.{big_number, big_bytes}
use Rattle.byteorder.specs.Numbers.{length-bytes_high_first, big_number-reads_back, big_from-lt, big_from-take}
use Rattle.field_codec.specs.declared.error.TakeError.TheVariants.{Short, Bad, NoMemory}
use Rattle.field_codec.specs.Spelling.{number, is_number, text, is_text, list, may_follow, are_in_order, are_members, is_list, is_below, Spans}
use Rattle.field_codec.specs.Reading.{Read, ◌>>=◌, number_at, bytes_at, text_at, members_at, list_at, checked_at, then_at, mapped_at}
use Rattle.field_codec.specs.Lawful.{IsBytes, IsCut, IsRefused, TellsWhy, IsForm}
use Rattle.field_codec.specs.Refusals.{some_spelled, IsSteady, steady_form, mapped_tells, checked_steady, checked_tells, following_at, following_tells}
use Rattle.field_codec.specs.Steps.{done, by_length, guard_bad, short_is, not_both, short_not_bad, short_not_memory}
pub use Rattle.field_codec.specs.Steps.{both_true, and_true, le_holds, le_from, lt_holds, lt_from, ok_is, bind_ok, guard_ok, IsBytes-drop, IsBytes-take, spans_none, spans_join, spans_first, spans_second}

-- ---- numbers

-- the bytes of a number of this many bytes give it back, and the number its bytes
pub record IsWidth (n : ℕ) : Type 0 where
  pub some : 0 < n
  pub back : (bytes : List ℕ) → length bytes ≡ n → IsBytes bytes → big_bytes n (big_number n bytes) ≡ bytes

pub width1 : IsWidth 1
width1 = record { some = omega arith; back = at }
  where
    at : (bytes : List ℕ) → length bytes ≡ 1 → IsBytes bytes → big_bytes 1 (big_number 1 bytes) ≡ bytes
    at [] len fits = absurd (omega (arith, len))
    at (b ∷ []) len fits = let small = fits 0 in let same : (b * 1 + 0) % 256 ≡ b = omega arith in λ i. same i ∷ []
    at (b ∷ c ∷ bytes) len fits = absurd (omega (arith, len))

pub width2 : IsWidth 2
width2 = record { some = omega arith; back = λ bytes len fits. be_bytes_2 bytes (big_number 2 bytes) len fits (omega arith) }

pub width4 : IsWidth 4
width4 = record { some = omega arith; back = λ bytes len fits. be_bytes_4 bytes (big_number 4 bytes) len fits (omega arith) }

pub width8 : IsWidth 8
width8 = record { some = omega arith; back = λ bytes len fits. be_bytes_8 bytes (big_number 8 bytes) len fits (omega arith) }

le_fails : (n m : ℕ) → m < n → nat_le n m ≡ false
le_fails n m h = grind (arith, nat_tests)

below_cut : (q : ℕ) (bytes : List ℕ) (n : ℕ) → length bytes < n → length (take q bytes) < n
below_cut zero bytes n lt = omega (arith, lt)
below_cut (suc q) [] n lt = lt
below_cut (suc q) (b ∷ bytes) zero lt = absurd (omega (arith, lt))
below_cut (suc q) (b ∷ bytes) (suc n) lt = let rest = below_cut q bytes n (omega (arith, lt)) in omega (arith, rest)

never_bad : {A : Type 0} (b : Bool) (x : A) (at p : ℕ) → cond b (done x) (Err (Short at)) ≡ Err (Bad p) → ⊥
never_bad true x at p h = cc
never_bad false x at p h = cc

never_wants : {A : Type 0} (b : Bool) (x : A) (at : ℕ) → cond b (done x) (Err (Short at)) ≡ Err NoMemory → ⊥
never_wants true x at h = cc
never_wants false x at h = cc

module _ (n : ℕ) (width : IsWidth n) where
  taken : (bytes : List ℕ) (at : ℕ) → IsBytes bytes → at + n ≤ length bytes → Spans bytes at (number n (big_number n (drop at bytes))) (at + n)
  taken bytes at fits le =
      let front : length (take n (drop at bytes)) ≡ n = length-take-le n (drop at bytes) (omega (arith, length-drop at bytes)) in
      let same : big_bytes n (big_number n (drop at bytes)) ≡ take n (drop at bytes) =
      ap (big_bytes n) (sym (big_from-take 0 n n (drop at bytes) (omega arith))) ∙ width.back (take n (drop at bytes)) front (IsBytes-take n (drop at bytes) (IsBytes-drop at bytes fits)) in
      record {
        lies = sym (take-append-drop n (drop at bytes)) ∙ ap (λ l. l ++ drop n (drop at bytes)) (sym same) ∙ ap (λ l. big_bytes n (big_number n (drop at bytes)) ++ l) (drop-drop n at bytes);
        long = omega (arith, length-bytes_high_first n (big_number n (drop at bytes)));
        within = le;
      }

  cut_number : (bytes : List ℕ) (at : ℕ) → length bytes < at + n → number_at n bytes at ≡ Err (Short at)
  cut_number bytes at lt = ap (λ b. cond b (Ok (big_number n (drop at bytes), at + n)) (Err (Short at))) (le_fails (at + n) (length bytes) lt)

  pub number_short : (bytes : List ℕ) (at p : ℕ) → number_at n bytes at ≡ Err (Short p) → (at ≡ p) × (length bytes < at + n)
  number_short bytes at p h = short_guard (nat_le (at + n) (length bytes)) (big_number n (drop at bytes), at + n) at p h refl
    where
      short_guard : (b : Bool) (x : ℕ × ℕ) (at p : ℕ) → cond b (Ok x) (Err (Short at)) ≡ Err (Short p) → nat_le (at + n) (length bytes) ≡ b → (at ≡ p) × (length bytes < at + n)
      short_guard true x at p h e = absurd (cc)
      short_guard false x at p h e = (short_is {A = ℕ × ℕ} at p h, grind (arith, nat_tests))

  number_tells : TellsWhy (number_at n)
  number_tells = record {
    short = λ bytes at p ok le h.
        let g = number_short bytes at p h in
        subst (λ k. IsCut (number_at n) bytes at k) g.0 (record {
          behind = omega arith;
          within = le;
          cut = λ q below. cut_number (take q bytes) at (below_cut q bytes (at + n) g.1);
          enough = (n, λ more fits most is. let long = (number_short (bytes ++ more) at at is).1 in omega (arith, long, most, le, length-append bytes more));
        });
    bad = λ bytes at p ok le h. absurd (never_bad (nat_le (at + n) (length bytes)) (big_number n (drop at bytes), at + n) at p h);
    memory = λ bytes at ok le h. never_wants (nat_le (at + n) (length bytes)) (big_number n (drop at bytes), at + n) at h;
  }

  pub number_form : IsForm (is_number n) (λ _. true) (is_number n) (number n) (number_at n)
  number_form = record {
    found = λ bytes at v end fits within h.
        let g = guard_ok (nat_le (at + n) (length bytes)) (Ok (big_number n (drop at bytes), at + n)) (Short at) (v, end) h in
        let le = le_from (at + n) (length bytes) g.0 in
        let below = lt_holds (big_number n (drop at bytes)) (256 ^ n) (big_from-lt 0 n (drop at bytes) (IsBytes-drop at bytes fits)) in
        subst (λ (x : ℕ × ℕ). (is_number n x.0 ≡ true) × Spans bytes at (number n x.0) x.1) (ok_is (big_number n (drop at bytes), at + n) (v, end) g.1) (below, taken bytes at fits le);
    again = λ bytes at v end good spans.
        let to : end ≡ at + n = omega (arith, spans.long, length-bytes_high_first n v) in
        let le = le_holds (at + n) (length bytes) (omega (arith, to, spans.within)) in
        let same : big_number n (drop at bytes) ≡ v = ap (big_number n) spans.lies ∙ big_number-reads_back n v (drop end bytes) (lt_from v (256 ^ n) good) in
        rw (le, same, sym to) refl;
    fit = λ v good. good;
    all = λ v can kept short. can;
    ends = λ bytes at far. cut_number bytes at (omega (arith, far, width.some));
    tells = number_tells;
  }

pub length-number : (n x : ℕ) → length (number n x) ≡ n
length-number n x = length-bytes_high_first n x

-- ---- texts

bytes_found : (n : ℕ) (bytes : List ℕ) (at : ℕ) (t : List ℕ) (end : ℕ) → at ≤ length bytes → bytes_at n bytes at ≡ Ok (t, end) → (length t ≡ n) × (is_utf8 t ≡ true) × Spans bytes at t end
unfolding bytes_at
bytes_found n bytes at t end within h =
    let s = take n (drop at bytes) in
    let g = guard_ok (nat_le (at + n) (length bytes)) (cond (is_utf8 s) (Ok (s, at + n)) (Err (Bad at))) (Short at) (t, end) h in
    let u = guard_ok (is_utf8 s) (Ok (s, at + n)) (Bad at) (t, end) g.1 in
    let le = le_from (at + n) (length bytes) g.0 in
    let front : length s ≡ n = length-take-le n (drop at bytes) (omega (arith, length-drop at bytes)) in
    let spans : Spans bytes at s (at + n) = record {
      lies = sym (take-append-drop n (drop at bytes)) ∙ ap (λ l. s ++ l) (drop-drop n at bytes);
      long = omega (arith, front);
      within = le;
    } in
    subst (λ (x : List ℕ × ℕ). (length x.0 ≡ n) × (is_utf8 x.0 ≡ true) × Spans bytes at x.0 x.1) (ok_is (s, at + n) (t, end) u.1) (front, u.0, spans)

bytes_again : (bytes : List ℕ) (at : ℕ) (t : List ℕ) (end : ℕ) → is_utf8 t ≡ true → Spans bytes at t end → bytes_at (length t) bytes at ≡ Ok (t, end)
unfolding bytes_at
bytes_again bytes at t end good spans =
    let le = le_holds (at + length t) (length bytes) (omega (arith, spans.long, spans.within)) in
    let same : take (length t) (drop at bytes) ≡ t = ap (take (length t)) spans.lies ∙ take_at t (drop end bytes) (length t) refl in
    rw (le, same, good, sym spans.long) refl

cut_bytes : (n : ℕ) (bytes : List ℕ) (at : ℕ) → length bytes < at + n → bytes_at n bytes at ≡ Err (Short at)
unfolding bytes_at
cut_bytes n bytes at lt = ap (λ b. cond b (cond (is_utf8 (take n (drop at bytes))) (Ok (take n (drop at bytes), at + n)) (Err (Bad at))) (Err (Short at))) (le_fails (at + n) (length bytes) lt)

-- what n bytes answer if they are whole
abbrev whole_bytes : ℕ → List ℕ → ℕ → Read (List ℕ)
whole_bytes n bytes at = cond (is_utf8 (take n (drop at bytes))) (Ok (take n (drop at bytes), at + n)) (Err (Bad at))

bytes_whole : (n : ℕ) (bytes : List ℕ) (at : ℕ) → at + n ≤ length bytes → bytes_at n bytes at ≡ whole_bytes n bytes at
unfolding bytes_at
bytes_whole n bytes at le = ap (λ b. cond b (whole_bytes n bytes at) (Err (Short at))) (le_holds (at + n) (length bytes) le)

whole_not_short : {A : Type 0} (b : Bool) (x : A) (at p : ℕ) → cond b (done x) (Err (Bad at)) ≡ Err (Short p) → ⊥
whole_not_short true x at p h = cc
whole_not_short false x at p h = cc

whole_not_memory : {A : Type 0} (b : Bool) (x : A) (at : ℕ) → cond b (done x) (Err (Bad at)) ≡ Err NoMemory → ⊥
whole_not_memory true x at h = cc
whole_not_memory false x at h = cc

bytes_short : (n : ℕ) (bytes : List ℕ) (at p : ℕ) → bytes_at n bytes at ≡ Err (Short p) → (at ≡ p) × (length bytes < at + n)
bytes_short n bytes at p h = by_length (at + n) (length bytes)
    (λ le. absurd (whole_not_short (is_utf8 (take n (drop at bytes))) (take n (drop at bytes), at + n) at p (sym (bytes_whole n bytes at le) ∙ h)))
    (λ lt. (short_is {A = List ℕ × ℕ} at p (sym (cut_bytes n bytes at lt) ∙ h), lt))

bytes_bad : (n : ℕ) (bytes : List ℕ) (at p : ℕ) → bytes_at n bytes at ≡ Err (Bad p) → (at ≡ p) × (is_utf8 (take n (drop at bytes)) ≡ false) × (at + n ≤ length bytes)
bytes_bad n bytes at p h = by_length (at + n) (length bytes)
    (λ le. let g = guard_bad (is_utf8 (take n (drop at bytes))) (take n (drop at bytes), at + n) at p (sym (bytes_whole n bytes at le) ∙ h) in (g.1, g.0, le))
    (λ lt. absurd (short_not_bad {A = List ℕ × ℕ} at p (sym (cut_bytes n bytes at lt) ∙ h)))

-- no bytes are UTF-8
empty_is : is_utf8 [] ≡ true
empty_is = is_utf8-from_IsUtf8 [] IsUtf8-nil

some_refused : (n : ℕ) (bytes : List ℕ) → is_utf8 (take n bytes) ≡ false → 0 < n
some_refused zero bytes h = absurd (true≢false (sym empty_is ∙ h))
some_refused (suc n) bytes h = omega arith

same_bytes : (n : ℕ) (bytes more : List ℕ) (at : ℕ) → at + n ≤ length bytes → take n (drop at (bytes ++ more)) ≡ take n (drop at bytes)
same_bytes n bytes more at le = ap (take n) (drop-append-le at bytes more (omega (arith, le))) ∙ take-append-le n (drop at bytes) more (omega (arith, le, length-drop at bytes))

bytes_tells : (n : ℕ) → TellsWhy (bytes_at n)
bytes_tells n = record {
  short = λ bytes at p ok le h.
      let g = bytes_short n bytes at p h in
      subst (λ k. IsCut (bytes_at n) bytes at k) g.0 (record {
        behind = omega arith;
        within = le;
        cut = λ q below. cut_bytes n (take q bytes) at (below_cut q bytes (at + n) g.1);
        enough = (n, λ more fits most is. let long = (bytes_short n (bytes ++ more) at at is).1 in omega (arith, long, most, le, length-append bytes more));
      });
  bad = λ bytes at p ok le h.
      let g = bytes_bad n bytes at p h in
      let some = some_refused n (drop at bytes) g.1 in
      subst (λ k. IsRefused (bytes_at n) bytes at k) g.0 (record {
        behind = omega arith;
        within = omega (arith, g.2, some);
        cut = cut_bytes n (take at bytes) at (omega (arith, some, length-take-le at bytes le));
        stays = λ more.
            let more_whole : at + n ≤ length (bytes ++ more) = omega (arith, g.2, length-append bytes more) in
            bytes_whole n (bytes ++ more) at more_whole
            ∙ ap (λ b. cond b (Ok (take n (drop at (bytes ++ more)), at + n)) (Err (Bad at))) (ap is_utf8 (same_bytes n bytes more at g.2) ∙ g.1);
      });
  memory = λ bytes at ok le h. by_length (at + n) (length bytes)
      (λ long. whole_not_memory (is_utf8 (take n (drop at bytes))) (take n (drop at bytes), at + n) at (sym (bytes_whole n bytes at long) ∙ h))
      (λ lt. short_not_memory {A = List ℕ × ℕ} at (sym (cut_bytes n bytes at lt) ∙ h));
}

-- a length that is small enough, and the bytes
abbrev is_small : ℕ → Bool
is_small n = nat_le n 256

abbrev length_at : List ℕ → ℕ → Read ℕ
length_at = checked_at is_small (number_at 2)

length_tells : TellsWhy length_at
length_tells = let form = number_form 2 width2 in checked_tells is_small (number_at 2) (steady_form form) form.ends form.tells

length_steady : IsSteady length_at
length_steady = checked_steady is_small (number_at 2) (steady_form (number_form 2 width2))

text_is : (bytes : List ℕ) (at : ℕ) → following_at length_at bytes_at bytes at ≡ text_at bytes at
unfolding text_at
text_is bytes at = by (number_at 2 bytes at)
  where
    test : (b : Bool) (n : ℕ × ℕ) → (cond b (done n) (Err (Bad at)) >>= λ x. bytes_at x.0 bytes x.1) ≡ cond b (bytes_at n.0 bytes n.1) (Err (Bad at))
    test true n = refl
    test false n = refl

    by : (r : Read ℕ) → ((r >>= λ n. cond (is_small n.0) (Ok n) (Err (Bad at))) >>= λ x. bytes_at x.0 bytes x.1) ≡ (r >>= λ n. cond (is_small n.0) (bytes_at n.0 bytes n.1) (Err (Bad at)))
    by (Ok n) = test (is_small n.0) n
    by (Err e) = refl

text_tells : TellsWhy text_at
text_tells = subst TellsWhy (λ i bytes at. text_is bytes at i) (following_tells length_at bytes_at length_steady length_tells (λ bytes at x ok le h. bytes_tells x.0))

pub text_form : IsForm is_text (λ _. true) is_text text text_at
unfolding text_at
text_form = record {
  found = λ bytes at t end fits within h.
      let a = bind_ok (number_at 2 bytes at) (λ n. cond (nat_le n.0 256) (bytes_at n.0 bytes n.1) (Err (Bad at))) (t, end) h in
      let n = (number_form 2 width2).found bytes at a.0.0 a.0.1 fits within a.1 in
      let g = guard_ok (nat_le a.0.0 256) (bytes_at a.0.0 bytes a.0.1) (Bad at) (t, end) a.2 in
      let b = bytes_found a.0.0 bytes a.0.1 t end n.1.within g.1 in (
        and_true (nat_le (length t) 256) (is_utf8 t) (ap (λ k. nat_le k 256) b.0 ∙ g.0) b.1,
        spans_join bytes (number 2 (length t)) t at a.0.1 end (subst (λ k. Spans bytes at (number 2 k) a.0.1) (sym b.0) n.1) b.2,
      );
  again = λ bytes at t end good spans.
      let p = both_true (nat_le (length t) 256) (is_utf8 t) good in
      let most = le_from (length t) 256 p.0 in
      let len = number 2 (length t) in
      let first = (number_form 2 width2).again bytes at (length t) (at + length len) (lt_holds (length t) (256 ^ 2) (omega (arith, most))) (spans_first bytes len t at end spans) in
      let second = bytes_again bytes (at + length len) t end p.1 (spans_second bytes len t at end spans) in
      ap (λ r. r >>= λ n. cond (nat_le n.0 256) (bytes_at n.0 bytes n.1) (Err (Bad at))) first
      ∙ ap (λ b. cond b (bytes_at (length t) bytes (at + length len)) (Err (Bad at))) p.0
      ∙ second;
  fit = λ t good. good;
  all = λ t can kept short. can;
  ends = λ bytes at far. ap (λ r. r >>= λ n. cond (nat_le n.0 256) (bytes_at n.0 bytes n.1) (Err (Bad at))) ((number_form 2 width2).ends bytes at far);
  tells = text_tells;
}

-- every text of the program has a spelling, so that to put one asks for nothing
pub any_text_form : IsForm (λ t. true) is_text is_text text text_at
any_text_form = record { found = text_form.found; again = text_form.again; fit = λ t good. refl; all = λ t can kept short. kept; ends = text_form.ends; tells = text_form.tells }

-- ---- lists

module _ {V : Type 0} {keeps : V → Bool} (follows : V → V → Bool) (fits is_spelled : V → Bool) (spelling : V → List ℕ) (reading : List ℕ → ℕ → Read V) (member : IsForm fits keeps is_spelled spelling reading) where
  record Listed (before : Option V) (n : ℕ) (bytes : List ℕ) (at : ℕ) (vs : List V) (end : ℕ) : Type 0 where
    ordered : are_in_order follows before vs ≡ true
    spelled : list_all is_spelled vs ≡ true
    count : length vs ≡ n
    spans : Spans bytes at (flat_map spelling vs) end

  members_found : (n : ℕ) (before : Option V) (bytes : List ℕ) (at : ℕ) (vs : List V) (end : ℕ) → IsBytes bytes → at ≤ length bytes → members_at follows reading before n bytes at ≡ Ok (vs, end) → Listed before n bytes at vs end
  unfolding members_at
  members_found zero before bytes at vs end fits within h =
      subst (λ (x : List V × ℕ). Listed before 0 bytes at x.0 x.1) (ok_is ([], at) (vs, end) h) (record { ordered = refl; spelled = refl; count = refl; spans = spans_none bytes at within })
  members_found (suc n) before bytes at vs end fits within h =
      let rest : V × ℕ → Read (List V) = λ first. cond (may_follow follows before first.0) (members_at follows reading (Some first.0) n bytes first.1) (Err (Bad at)) in
      let a = bind_ok (reading bytes at) (λ first. rest first >>= λ others. Ok (first.0 ∷ others.0, others.1)) (vs, end) h in
      let b = bind_ok (rest a.0) (λ others. Ok (a.0.0 ∷ others.0, others.1)) (vs, end) a.2 in
      let g = guard_ok (may_follow follows before a.0.0) (members_at follows reading (Some a.0.0) n bytes a.0.1) (Bad at) b.0 b.1 in
      let first = member.found bytes at a.0.0 a.0.1 fits within a.1 in
      let others = members_found n (Some a.0.0) bytes a.0.1 b.0.0 b.0.1 fits first.1.within g.1 in
      subst (λ (x : List V × ℕ). Listed before (suc n) bytes at x.0 x.1) (ok_is (a.0.0 ∷ b.0.0, b.0.1) (vs, end) b.2) (record {
        ordered = and_true (may_follow follows before a.0.0) (are_in_order follows (Some a.0.0) b.0.0) g.0 others.ordered;
        spelled = and_true (is_spelled a.0.0) (list_all is_spelled b.0.0) first.0 others.spelled;
        count = ap suc others.count;
        spans = subst (λ l. Spans bytes at l b.0.1) (sym (flat_map-cons spelling a.0.0 b.0.0)) (spans_join bytes (spelling a.0.0) (flat_map spelling b.0.0) at a.0.1 b.0.1 first.1 others.spans);
      })

  members_again : (vs : List V) (before : Option V) (bytes : List ℕ) (at : ℕ) (end : ℕ) → are_in_order follows before vs ≡ true → list_all is_spelled vs ≡ true → Spans bytes at (flat_map spelling vs) end → members_at follows reading before (length vs) bytes at ≡ Ok (vs, end)
  unfolding members_at
  members_again [] before bytes at end ordered spelled spans = let e : at ≡ end = omega (arith, spans.long) in ap (λ k. Ok ([], k)) e
  members_again (v ∷ vs) before bytes at end ordered spelled spans =
      let o = both_true (may_follow follows before v) (are_in_order follows (Some v) vs) ordered in
      let s = both_true (is_spelled v) (list_all is_spelled vs) spelled in
      let parts : Spans bytes at (spelling v ++ flat_map spelling vs) end = subst (λ l. Spans bytes at l end) (flat_map-cons spelling v vs) spans in
      let mid = at + length (spelling v) in
      let first = member.again bytes at v mid s.0 (spans_first bytes (spelling v) (flat_map spelling vs) at end parts) in
      let others = members_again vs (Some v) bytes mid end o.1 s.1 (spans_second bytes (spelling v) (flat_map spelling vs) at end parts) in
      rw (first, o.0, others) refl

  abbrev next_at : Option V → List ℕ → ℕ → Read V
  next_at before = checked_at (may_follow follows before) reading

  abbrev others_at : ℕ → V → List ℕ → ℕ → Read (List V)
  others_at n v = mapped_at (λ vs. v ∷ vs) (members_at follows reading (Some v) n)

  -- a member that may follow, and then the others
  members_are : (n : ℕ) (before : Option V) (bytes : List ℕ) (at : ℕ) → following_at (next_at before) (others_at n) bytes at ≡ members_at follows reading before (suc n) bytes at
  unfolding members_at
  members_are n before bytes at = by (reading bytes at)
    where
      rest : V × ℕ → Read (List V)
      rest v = members_at follows reading (Some v.0) n bytes v.1

      onto : V → List V × ℕ → Read (List V)
      onto v others = Ok (v ∷ others.0, others.1)

      may : V × ℕ → Bool
      may v = may_follow follows before v.0

      checked : V × ℕ → Read V
      checked v = cond (may v) (Ok v) (Err (Bad at))

      whole : V × ℕ → Read (List V)
      whole v = rest v >>= onto v.0

      at_once : V × ℕ → Read (List V)
      at_once v = cond (may v) (rest v) (Err (Bad at)) >>= onto v.0

      test : (b : Bool) (v : V × ℕ) → (cond b (done v) (Err (Bad at)) >>= whole) ≡ (cond b (rest v) (Err (Bad at)) >>= onto v.0)
      test true v = refl
      test false v = refl

      by : (r : Read V) → ((r >>= checked) >>= whole) ≡ (r >>= at_once)
      by (Ok v) = test (may v) v
      by (Err e) = refl

  none_tells : (before : Option V) → TellsWhy (members_at follows reading before 0)
  unfolding members_at
  none_tells before = record {
    short = λ bytes at p ok le h. absurd (not_both (members_at follows reading before 0 bytes at) ([], at) (Short p) refl h);
    bad = λ bytes at p ok le h. absurd (not_both (members_at follows reading before 0 bytes at) ([], at) (Bad p) refl h);
    memory = λ bytes at ok le h. not_both (members_at follows reading before 0 bytes at) ([], at) NoMemory refl h;
  }

  members_tells : (n : ℕ) (before : Option V) → TellsWhy (members_at follows reading before n)
  members_tells zero before = none_tells before
  members_tells (suc n) before =
      let steady = steady_form member in
      let test = may_follow follows before in
      subst TellsWhy (λ i bytes at. members_are n before bytes at i)
      (following_tells (next_at before) (others_at n) (checked_steady test reading steady) (checked_tells test reading steady member.ends member.tells)
      (λ bytes at x ok le h. mapped_tells (λ vs. x.0 ∷ vs) (members_at follows reading (Some x.0) n) (members_tells n (Some x.0))))

  all_fit : (vs : List V) → list_all is_spelled vs ≡ true → list_all fits vs ≡ true
  all_fit [] h = refl
  all_fit (v ∷ vs) h = let p = both_true (is_spelled v) (list_all is_spelled vs) h in and_true (fits v) (list_all fits vs) (member.fit v p.0) (all_fit vs p.1)

  -- each member has a byte, so a list is counted
  as_many : (vs : List V) → list_all is_spelled vs ≡ true → length vs ≤ length (flat_map spelling vs)
  as_many [] are = omega arith
  as_many (v ∷ vs) are =
      let a = both_true (is_spelled v) (list_all is_spelled vs) are in
      omega (arith, some_spelled member v (spelling v) a.0 refl, as_many vs a.1, length-append (spelling v) (flat_map spelling vs))

  each_spelled : (vs : List V) → list_all fits vs ≡ true → list_all keeps vs ≡ true → length (flat_map spelling vs) < 2 ^ 32 → list_all is_spelled vs ≡ true
  each_spelled [] can kept short = refl
  each_spelled (v ∷ vs) can kept short =
      let c = both_true (fits v) (list_all fits vs) can in
      let k = both_true (keeps v) (list_all keeps vs) kept in
      let long = length-append (spelling v) (flat_map spelling vs) in
      and_true (is_spelled v) (list_all is_spelled vs) (member.all v c.0 k.0 (omega (arith, short, long))) (each_spelled vs c.1 k.1 (omega (arith, short, long)))

  are_spelled : (vs : List V) → are_members follows fits vs ≡ true → list_all keeps vs ≡ true → length (flat_map spelling vs) < 2 ^ 32 → are_members follows is_spelled vs ≡ true
  are_spelled vs can kept short =
      let c = both_true (are_in_order follows None vs) (list_all fits vs) can in
      and_true (are_in_order follows None vs) (list_all is_spelled vs) c.0 (each_spelled vs c.1 kept short)

  pub list_form : IsForm (are_members follows fits) (list_all keeps) (is_list follows is_spelled) (list spelling) (list_at follows reading)
  unfolding list_at
  list_form = record {
    found = λ bytes at vs end fits within h.
        let a = bind_ok (number_at 4 bytes at) (λ n. members_at follows reading None n.0 bytes n.1) (vs, end) h in
        let n = (number_form 4 width4).found bytes at a.0.0 a.0.1 fits within a.1 in
        let m = members_found a.0.0 None bytes a.0.1 vs end fits n.1.within a.2 in
        let ordered = and_true (are_in_order follows None vs) (list_all is_spelled vs) m.ordered m.spelled in (
          and_true (is_number 4 (length vs)) (are_members follows is_spelled vs) (ap (is_number 4) m.count ∙ n.0) ordered,
          spans_join bytes (number 4 (length vs)) (flat_map spelling vs) at a.0.1 end (subst (λ k. Spans bytes at (number 4 k) a.0.1) (sym m.count) n.1) m.spans,
        );
    again = λ bytes at vs end good spans.
        let p = both_true (is_number 4 (length vs)) (are_members follows is_spelled vs) good in
        let q = both_true (are_in_order follows None vs) (list_all is_spelled vs) p.1 in
        let count = number 4 (length vs) in
        let first = (number_form 4 width4).again bytes at (length vs) (at + length count) p.0 (spans_first bytes count (flat_map spelling vs) at end spans) in
        let second = members_again vs None bytes (at + length count) end q.0 q.1 (spans_second bytes count (flat_map spelling vs) at end spans) in
        ap (λ r. r >>= λ n. members_at follows reading None n.0 bytes n.1) first ∙ second;
    fit = λ vs good.
        let p = both_true (is_number 4 (length vs)) (are_members follows is_spelled vs) good in
        let q = both_true (are_in_order follows None vs) (list_all is_spelled vs) p.1 in
        and_true (are_in_order follows None vs) (list_all fits vs) q.0 (all_fit vs q.1);
    all = λ vs can kept short.
        let long = length-append (number 4 (length vs)) (flat_map spelling vs) in
        let are = are_spelled vs can kept (omega (arith, short, long)) in
        let many = as_many vs (both_true (are_in_order follows None vs) (list_all is_spelled vs) are).1 in
        and_true (is_number 4 (length vs)) (are_members follows is_spelled vs) (lt_holds (length vs) (256 ^ 4) (omega (arith, short, many, long))) are;
    ends = λ bytes at far. ap (λ r. r >>= λ n. members_at follows reading None n.0 bytes n.1) ((number_form 4 width4).ends bytes at far);
    tells = let count = number_form 4 width4 in following_tells (number_at 4) (λ n. members_at follows reading None n) (steady_form count) count.tells (λ bytes at x ok le h. members_tells x.0 None);
  }

  no_members_ends : (n : ℕ) → 0 < n → (bytes : List ℕ) (at : ℕ) → length bytes ≤ at → members_at follows reading None n bytes at ≡ Err (Short at)
  unfolding members_at
  no_members_ends zero some bytes at far = absurd (omega (arith, some))
  no_members_ends (suc n) some bytes at far = ap (λ r. r >>= λ first. members_at follows reading (Some first.0) n bytes first.1 >>= λ others. Ok (first.0 ∷ others.0, others.1)) (member.ends bytes at far)

  -- n members, which no count stands before
  pub members_form : (n : ℕ) → 0 < n → IsForm (λ vs. eqb (length vs) n && are_members follows fits vs) (list_all keeps) (λ vs. eqb (length vs) n && are_members follows is_spelled vs) (flat_map spelling) (members_at follows reading None n)
  members_form n some = record {
    found = λ bytes at vs end fits within h.
        let m = members_found n None bytes at vs end fits within h in
        (and_true (eqb (length vs) n) (are_members follows is_spelled vs) (eq-eqb (length vs) n m.count) (and_true (are_in_order follows None vs) (list_all is_spelled vs) m.ordered m.spelled), m.spans);
    again = λ bytes at vs end good spans.
        let p = both_true (eqb (length vs) n) (are_members follows is_spelled vs) good in
        let q = both_true (are_in_order follows None vs) (list_all is_spelled vs) p.1 in
        subst (λ k. members_at follows reading None k bytes at ≡ Ok (vs, end)) (eqb-true (length vs) n p.0) (members_again vs None bytes at end q.0 q.1 spans);
    fit = λ vs good.
        let p = both_true (eqb (length vs) n) (are_members follows is_spelled vs) good in
        let q = both_true (are_in_order follows None vs) (list_all is_spelled vs) p.1 in
        and_true (eqb (length vs) n) (are_members follows fits vs) p.0 (and_true (are_in_order follows None vs) (list_all fits vs) q.0 (all_fit vs q.1));
    all = λ vs can kept short.
        let c = both_true (eqb (length vs) n) (are_members follows fits vs) can in
        and_true (eqb (length vs) n) (are_members follows is_spelled vs) c.0 (are_spelled vs c.1 kept short);
    ends = no_members_ends n some;
    tells = members_tells n None;
  }

-- ---- a test, two in turn, and values made of others

pub checked_form : {V : Type 0} {keeps : V → Bool} (test fits is_spelled : V → Bool) (spelling : V → List ℕ) (reading : List ℕ → ℕ → Read V) → IsForm fits keeps is_spelled spelling reading
    → IsForm (λ v. test v && fits v) keeps (λ v. test v && is_spelled v) spelling (checked_at test reading)
checked_form {V} test fits is_spelled spelling reading form = record {
  found = λ bytes at v end ok within h.
      let a = bind_ok (reading bytes at) (λ x. cond (test x.0) (Ok x) (Err (Bad at))) (v, end) h in
      let g = guard_ok (test a.0.0) (Ok a.0) (Bad at) (v, end) a.2 in
      let f = form.found bytes at a.0.0 a.0.1 ok within a.1 in
      subst (λ (x : V × ℕ). ((test x.0 && is_spelled x.0) ≡ true) × Spans bytes at (spelling x.0) x.1) (ok_is a.0 (v, end) g.1) (and_true (test a.0.0) (is_spelled a.0.0) g.0 f.0, f.1);
  again = λ bytes at v end good spans.
      let p = both_true (test v) (is_spelled v) good in
      ap (λ r. r >>= λ x. cond (test x.0) (Ok x) (Err (Bad at))) (form.again bytes at v end p.1 spans) ∙ ap (λ b. cond b (Ok (v, end)) (Err (Bad at))) p.0;
  fit = λ v good. let p = both_true (test v) (is_spelled v) good in and_true (test v) (fits v) p.0 (form.fit v p.1);
  all = λ v can kept short. let p = both_true (test v) (fits v) can in and_true (test v) (is_spelled v) p.0 (form.all v p.1 kept short);
  ends = λ bytes at far. ap (λ r. r >>= λ x. cond (test x.0) (Ok x) (Err (Bad at))) (form.ends bytes at far);
  tells = checked_tells test reading (steady_form form) form.ends form.tells;
}

pub then_form : {V W : Type 0} {keeps1 : V → Bool} {keeps2 : V → W → Bool} (fits1 spelled1 : V → Bool) (spelling1 : V → List ℕ) (reading1 : List ℕ → ℕ → Read V) (fits2 spelled2 : V → W → Bool) (spelling2 : V → W → List ℕ) (reading2 : V → List ℕ → ℕ → Read W)
    → IsForm fits1 keeps1 spelled1 spelling1 reading1 → ((v : V) → spelled1 v ≡ true → IsForm (fits2 v) (keeps2 v) (spelled2 v) (spelling2 v) (reading2 v))
    → IsForm (λ x. fits1 x.0 && fits2 x.0 x.1) (λ x. keeps1 x.0 && keeps2 x.0 x.1) (λ x. spelled1 x.0 && spelled2 x.0 x.1) (λ x. spelling1 x.0 ++ spelling2 x.0 x.1) (then_at reading1 reading2)
then_form {V} {W} {keeps1 = keeps1} {keeps2 = keeps2} fits1 spelled1 spelling1 reading1 fits2 spelled2 spelling2 reading2 form1 form2 = record {
  found = λ bytes at x end ok within h.
      let a = bind_ok (reading1 bytes at) (λ v. reading2 v.0 bytes v.1 >>= λ w. Ok ((v.0, w.0), w.1)) (x, end) h in
      let b = bind_ok (reading2 a.0.0 bytes a.0.1) (λ w. Ok ((a.0.0, w.0), w.1)) (x, end) a.2 in
      let f = form1.found bytes at a.0.0 a.0.1 ok within a.1 in
      let g = (form2 a.0.0 f.0).found bytes a.0.1 b.0.0 b.0.1 ok f.1.within b.1 in
      subst (λ (y : (V × W) × ℕ). ((spelled1 y.0.0 && spelled2 y.0.0 y.0.1) ≡ true) × Spans bytes at (spelling1 y.0.0 ++ spelling2 y.0.0 y.0.1) y.1)
      (ok_is ((a.0.0, b.0.0), b.0.1) (x, end) b.2)
      (and_true (spelled1 a.0.0) (spelled2 a.0.0 b.0.0) f.0 g.0, spans_join bytes (spelling1 a.0.0) (spelling2 a.0.0 b.0.0) at a.0.1 b.0.1 f.1 g.1);
  again = λ bytes at x end good spans.
      let p = both_true (spelled1 x.0) (spelled2 x.0 x.1) good in
      let mid = at + length (spelling1 x.0) in
      let first = form1.again bytes at x.0 mid p.0 (spans_first bytes (spelling1 x.0) (spelling2 x.0 x.1) at end spans) in
      let second = (form2 x.0 p.0).again bytes mid x.1 end p.1 (spans_second bytes (spelling1 x.0) (spelling2 x.0 x.1) at end spans) in
      ap (λ r. r >>= λ v. reading2 v.0 bytes v.1 >>= λ w. Ok ((v.0, w.0), w.1)) first ∙ ap (λ r. r >>= λ w. Ok ((x.0, w.0), w.1)) second;
  fit = λ x good. let p = both_true (spelled1 x.0) (spelled2 x.0 x.1) good in and_true (fits1 x.0) (fits2 x.0 x.1) (form1.fit x.0 p.0) ((form2 x.0 p.0).fit x.1 p.1);
  all = λ x can kept short.
      let c = both_true (fits1 x.0) (fits2 x.0 x.1) can in
      let k = both_true (keeps1 x.0) (keeps2 x.0 x.1) kept in
      let long = length-append (spelling1 x.0) (spelling2 x.0 x.1) in
      let first = form1.all x.0 c.0 k.0 (omega (arith, short, long)) in
      and_true (spelled1 x.0) (spelled2 x.0 x.1) first ((form2 x.0 first).all x.1 c.1 k.1 (omega (arith, short, long)));
  ends = λ bytes at far. ap (λ r. r >>= λ v. reading2 v.0 bytes v.1 >>= λ w. Ok ((v.0, w.0), w.1)) (form1.ends bytes at far);
  tells = following_tells reading1 (λ v. mapped_at (λ w. (v, w)) (reading2 v)) (steady_form form1) form1.tells
      (λ bytes at x ok le h. mapped_tells (λ w. (x.0, w)) (reading2 x.0) (form2 x.0 (form1.found bytes at x.0 x.1 ok le h).0).tells);
}

-- parts: what a value is made of
pub mapped_form : {V W : Type 0} {keeps : V → Bool} (made : V → W) (parts : W → V) (fits is_spelled : V → Bool) (spelling : V → List ℕ) (reading : List ℕ → ℕ → Read V)
    → ((w : W) → made (parts w) ≡ w) → ((v : V) → is_spelled v ≡ true → parts (made v) ≡ v) → IsForm fits keeps is_spelled spelling reading
    → IsForm (λ w. fits (parts w)) (λ w. keeps (parts w)) (λ w. is_spelled (parts w)) (λ w. spelling (parts w)) (mapped_at made reading)
mapped_form {V} {W} made parts fits is_spelled spelling reading back forth form = record {
  found = λ bytes at w end ok within h.
      let a = bind_ok (reading bytes at) (λ v. Ok (made v.0, v.1)) (w, end) h in
      let f = form.found bytes at a.0.0 a.0.1 ok within a.1 in
      let e = sym (forth a.0.0 f.0) in
      subst (λ (y : W × ℕ). (is_spelled (parts y.0) ≡ true) × Spans bytes at (spelling (parts y.0)) y.1) (ok_is (made a.0.0, a.0.1) (w, end) a.2)
      (ap is_spelled (sym e) ∙ f.0, subst (λ v. Spans bytes at (spelling v) a.0.1) e f.1);
  again = λ bytes at w end good spans.
      ap (λ r. r >>= λ v. Ok (made v.0, v.1)) (form.again bytes at (parts w) end good spans) ∙ ap (λ x. Ok (x, end)) (back w);
  fit = λ w good. form.fit (parts w) good;
  all = λ w. form.all (parts w);
  ends = λ bytes at far. ap (λ r. r >>= λ v. Ok (made v.0, v.1)) (form.ends bytes at far);
  tells = mapped_tells made reading form.tells;
}

-- ---- ascending lists

module _ {V : Type 0} {order : V → V → Ordering} (o : IsTotalOrder order) where
  below_is : (v w : V) → is_below order v w ≡ true → order v w ≡ Less
  below_is v w h = at (order v w) h
    where
      at : (r : Ordering) → is_lt r ≡ true → r ≡ Less
      at Less h = refl
      at Equal h = absurd cc
      at Greater h = absurd cc

  all_above : (v w : V) (vs : List V) → order v w ≡ Less → AllByRecursion (λ u. order w u ≡ Less) vs → AllByRecursion (λ u. order v u ≡ Less) vs
  all_above v w [] h a = tt
  all_above v w (u ∷ vs) h a = (o.trans v w u h a.0, all_above v w vs h a.1)

  rising : (v : V) (vs : List V) → are_in_order (is_below order) (Some v) vs ≡ true → AllByRecursion (λ u. order v u ≡ Less) vs × IsStrictlySortedBy order vs
  unfolding IsStrictlySortedBy
  rising v [] h = (tt, tt)
  rising v (w ∷ vs) h =
      let p = both_true (is_below order v w) (are_in_order (is_below order) (Some w) vs) h in
      let first = below_is v w p.0 in
      let rest = rising w vs p.1 in
      ((first, all_above v w vs first rest.0), rest)

  pub sorted_from_order : (vs : List V) → are_in_order (is_below order) None vs ≡ true → IsStrictlySortedBy order vs
  unfolding IsStrictlySortedBy
  sorted_from_order [] h = tt
  sorted_from_order (v ∷ vs) h = rising v vs h

  after_first : (v : V) (vs : List V) → IsStrictlySortedBy order (v ∷ vs) → are_in_order (is_below order) (Some v) vs ≡ true
  unfolding IsStrictlySortedBy
  after_first v [] s = refl
  after_first v (w ∷ vs) s = and_true (is_below order v w) (are_in_order (is_below order) (Some w) vs) (ap is_lt s.0.0) (after_first w vs s.1)

  pub order_from_sorted : (vs : List V) → IsStrictlySortedBy order vs → are_in_order (is_below order) None vs ≡ true
  order_from_sorted [] s = refl
  order_from_sorted (v ∷ vs) s = after_first v vs s
