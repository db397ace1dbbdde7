-- Transactions, updates, vectors and objects are forms.
use Rattle.std.specs.Prelude.{◌≡◌, ℕ, zero, suc, ◌^◌, ◌<◌, ◌≤◌, Bool, true, false, ◌&&◌, nat_le, List, [], ◌∷◌, ◌++◌, length, Option, None, Some, Ok, Err, refl}
use Rattle.std.proofs.Common.{sym, ap, ◌∙◌, eqb, length-append, arith}
use Rattle.std.specs.Prelude.{◌⊎◌}
use Rattle.std.proofs.Common.{inl, inr}
use Rattle.std.proofs.lemmas.Bool.Decides.{nat_tests}
use Rattle.field_codec.specs.declared.error.TakeError.{TakeError}
use Rattle.field_codec.specs.declared.error.TakeError.TheVariants.{Bad}
use Rattle.std.specs.List.{flat_map, list_all}
use Rattle.std.proofs.lemmas.Bool.{eqb-true, eq-eqb}
use Rattle.field_codec.specs.Spelling.{number, is_number, text, is_text, are_in_order, are_members, is_below}
use Rattle.field_codec.specs.Reading.{Read, number_at, text_at, members_at, checked_at, then_at, mapped_at}
use Rattle.field_codec.specs.Lawful.{IsForm}
use Rattle.field_codec.specs.FormLaws.{number_form, IsWidth, width1, width2, width8, text_form, list_form, members_form, checked_form, then_form, mapped_form, both_true, and_true, le_from, le_holds, lt_holds}
use Rattle.site_vector.specs.declared.ids.Dot.{Dot}
use Rattle.site_vector.specs.Order.{dot_cmp}
use Rattle.crdt_core.specs.declared.kind.Kind.{Kind}
use Rattle.crdt_core.specs.declared.kind.Kind.TheVariants.{CounterPn, CounterFat, SetGo, SetAw, SetRw, FlagEw, FlagDw, RegisterLww, RegisterMv, MapGo, MapRr}
use Rattle.crdt_core.specs.Kinds.{kind_code}
use Rattle.crdt_core.specs.KindCodes.{coded_kind, coded_back}
use Rattle.crdt_core.specs.Spelled.{is_between, between_at, is_tx, tx, tx_of, tx_at, is_dot, dot, dot_of, dot_at, are_dots, ascend, is_dots, dots, dots_at, vector, is_vector, vector_at, kind, kind_at, is_object, object, object_of, object_at}

-- a number within bounds that its bytes can spell
pub between_form : (width least most : ℕ) → IsWidth width → most < 256 ^ width → IsForm (is_between least most) (λ _. true) (is_between least most) (number width) (between_at width least most)
between_form width least most w small =
    let test = is_between least most in
    let law = checked_form test (is_number width) (is_number width) (number width) (number_at width) (number_form width w) in
    let fits : (n : ℕ) → test n ≡ true → (test n && is_number width n) ≡ true = λ n h.
    let p = both_true (nat_le least n) (nat_le n most) h in
    let up = le_from n most p.1 in
    and_true (test n) (is_number width n) h (lt_holds n (256 ^ width) (omega arith)) in
    record {
      found = λ bytes at n end ok within h. let f = law.found bytes at n end ok within h in ((both_true (test n) (is_number width n) f.0).0, f.1);
      again = λ bytes at n end good spans. law.again bytes at n end (fits n good) spans;
      fit = λ n good. good;
      all = λ n can kept short. can;
      ends = law.ends;
      tells = law.tells;
    }

pub tx_form : IsForm is_tx (λ _. true) is_tx tx tx_at
unfolding tx_at
tx_form =
    let time = between_form 8 0 (2 ^ 62) width8 (omega arith) in
    let rest = then_form (is_between 1 16) (is_between 1 16) (number 1) (between_at 1 1 16) (λ _. is_between 0 (2 ^ 62)) (λ _. is_between 0 (2 ^ 62)) (λ _. number 8) (λ _. between_at 8 0 (2 ^ 62)) (between_form 1 1 16 width1 (omega arith)) (λ _ _. time) in
    let whole = then_form (is_between 1 8) (is_between 1 8) (number 1) (between_at 1 1 8) _ _ _ _ (between_form 1 1 8 width1 (omega arith)) (λ _ _. rest) in
    mapped_form tx_of (λ t. (t.site, (t.part, t.time))) _ _ _ _ (λ _. refl) (λ _ _. refl) whole

pub dot_form : IsForm is_dot (λ _. true) is_dot dot dot_at
unfolding dot_at
dot_form =
    let whole = then_form is_tx is_tx tx tx_at (λ _. is_between 1 256) (λ _. is_between 1 256) (λ _. number 2) (λ _. between_at 2 1 256) tx_form (λ _ _. between_form 2 1 256 width2 (omega arith)) in
    mapped_form dot_of (λ d. (d.tx, d.index)) _ _ _ _ (λ _. refl) (λ _ _. refl) whole

-- whether a list of updates can be put, and ascends
abbrev pub are_ascending : List Dot → Bool
are_ascending ds = are_members (is_below dot_cmp) is_dot ds

pub dots_form : IsForm are_ascending (λ ds. list_all (λ _. true) ds) is_dots dots dots_at
dots_form = list_form (is_below dot_cmp) is_dot is_dot dot dot_at dot_form

all_true : {V : Type 0} (vs : List V) → list_all (λ _. true) vs ≡ true
all_true [] = refl
all_true (v ∷ vs) = all_true vs

-- the same for what puts a set, which ascends: only the bounds of its members are asked for
pub dots_held_form : IsForm are_dots ascend is_dots dots dots_at
dots_held_form = record {
  found = dots_form.found;
  again = dots_form.again;
  fit = λ ds good. (both_true (ascend ds) (are_dots ds) (dots_form.fit ds good)).1;
  all = λ ds can kept. dots_form.all ds (and_true (ascend ds) (are_dots ds) kept can) (all_true ds);
  ends = dots_form.ends;
  tells = dots_form.tells;
}

-- the same test told otherwise, of what can all be put
retold : {V : Type 0} {keeps : V → Bool} (fits is_spelled told : V → Bool) (spelling : V → List ℕ) (reading : List ℕ → ℕ → Read V) → ((v : V) → is_spelled v ≡ told v) → IsForm fits keeps is_spelled spelling reading → IsForm told (λ _. true) told spelling reading
retold fits is_spelled told spelling reading same law = record {
  found = λ bytes at v end ok within h. let f = law.found bytes at v end ok within h in (sym (same v) ∙ f.0, f.1);
  again = λ bytes at v end good spans. law.again bytes at v end (same v ∙ good) spans;
  fit = λ v good. good;
  all = λ v can kept short. can;
  ends = law.ends;
  tells = law.tells;
}

-- ---- vectors

in_any_order : {V : Type 0} (before : Option V) (vs : List V) → are_in_order (λ _ _. true) before vs ≡ true
in_any_order before [] = refl
in_any_order None (v ∷ vs) = in_any_order (Some v) vs
in_any_order (Some w) (v ∷ vs) = in_any_order (Some v) vs

pub vector_form : IsForm is_vector (λ _. true) is_vector vector vector_at
unfolding vector_at
vector_form =
    let any = λ (n m : ℕ). true in
    let entries = λ (n : ℕ). members_form any (is_number 8) (is_number 8) (number 8) (number_at 8) (number_form 8 width8) n in
    let some : (n : ℕ) → is_between 1 8 n ≡ true → 0 < n = λ n h. let p = le_from 1 n (both_true (nat_le 1 n) (nat_le n 8) h).0 in omega (arith, p) in
    let whole = then_form (is_between 1 8) (is_between 1 8) (number 1) (between_at 1 1 8) (λ n vs. eqb (length vs) n && are_members any (is_number 8) vs) (λ n vs. eqb (length vs) n && are_members any (is_number 8) vs) (λ _. flat_map (number 8)) (λ n. members_at any (number_at 8) None n) (between_form 1 1 8 width1 (omega arith)) (λ n h. entries n (some n h)) in
    let forth : (x : ℕ × List ℕ) → (is_between 1 8 x.0 && (eqb (length x.1) x.0 && are_members any (is_number 8) x.1)) ≡ true → (length x.1, x.1) ≡ x = λ x h.
    let p = both_true (is_between 1 8 x.0) (eqb (length x.1) x.0 && are_members any (is_number 8) x.1) h in
    let q = both_true (eqb (length x.1) x.0) (are_members any (is_number 8) x.1) p.1 in
    ap (λ n. (n, x.1)) (eqb-true (length x.1) x.0 q.0) in
    let told : (v : List ℕ) → (is_between 1 8 (length v) && (eqb (length v) (length v) && are_members any (is_number 8) v)) ≡ is_vector v = λ v.
    ap (λ b. is_between 1 8 (length v) && (b && are_members any (is_number 8) v)) (eq-eqb (length v) (length v) refl) ∙ ap (λ b. is_between 1 8 (length v) && (b && list_all (is_number 8) v)) (in_any_order None v) in
    retold _ _ is_vector vector _ told (mapped_form (λ (x : ℕ × List ℕ). x.1) (λ v. (length v, v)) _ _ _ _ (λ _. refl) forth whole)

-- ---- kinds and objects

is_code : (k : Kind) → is_between 1 11 (kind_code k) ≡ true
is_code CounterPn = refl
is_code CounterFat = refl
is_code SetGo = refl
is_code SetAw = refl
is_code SetRw = refl
is_code FlagEw = refl
is_code FlagDw = refl
is_code RegisterLww = refl
is_code RegisterMv = refl
is_code MapGo = refl
is_code MapRr = refl

-- the code of the kind that has this code
pub code_back : (n : ℕ) → 1 ≤ n → n ≤ 11 → kind_code (coded_kind n) ≡ n
code_back zero low high = absurd (omega arith)
code_back (suc zero) low high = refl
code_back (suc (suc zero)) low high = refl
code_back (suc (suc (suc zero))) low high = refl
code_back (suc (suc (suc (suc zero)))) low high = refl
code_back (suc (suc (suc (suc (suc zero))))) low high = refl
code_back (suc (suc (suc (suc (suc (suc zero)))))) low high = refl
code_back (suc (suc (suc (suc (suc (suc (suc zero))))))) low high = refl
code_back (suc (suc (suc (suc (suc (suc (suc (suc zero)))))))) low high = refl
code_back (suc (suc (suc (suc (suc (suc (suc (suc (suc zero))))))))) low high = refl
code_back (suc (suc (suc (suc (suc (suc (suc (suc (suc (suc zero)))))))))) low high = refl
code_back (suc (suc (suc (suc (suc (suc (suc (suc (suc (suc (suc zero))))))))))) low high = refl
code_back (suc (suc (suc (suc (suc (suc (suc (suc (suc (suc (suc (suc n)))))))))))) low high = absurd (omega arith)

-- the one kind that has this code
pub code_is : (k : Kind) (n : ℕ) → kind_code k ≡ n → k ≡ coded_kind n
code_is k n e = sym (coded_back k) ∙ ap coded_kind e

pub kind_form : IsForm (λ _. true) (λ _. true) (λ _. true) kind kind_at
unfolding kind_at
kind_form =
    let forth : (n : ℕ) → is_between 1 11 n ≡ true → kind_code (coded_kind n) ≡ n = λ n h.
    let p = both_true (nat_le 1 n) (nat_le n 11) h in
    code_back n (le_from 1 n p.0) (le_from n 11 p.1) in
    retold _ _ (λ _. true) kind _ is_code (mapped_form coded_kind kind_code _ _ _ _ coded_back forth (between_form 1 1 11 width1 (omega arith)))

and_this : (b : Bool) → (b && true) ≡ b
and_this true = refl
and_this false = refl

pub object_form : (has : Kind → Bool) → IsForm (is_object has) (λ _. true) (is_object has) object (object_at has)
unfolding object_at
object_form has =
    let coded = retold _ _ has kind _ (λ k. and_this (has k)) (checked_form has (λ _. true) (λ _. true) kind kind_at kind_form) in
    let rest = then_form is_text is_text text text_at (λ _. has) (λ _. has) (λ _. kind) (λ _. checked_at has kind_at) text_form (λ _ _. coded) in
    let whole = then_form is_text is_text text text_at (λ _ x. is_text x.0 && has x.1) (λ _ x. is_text x.0 && has x.1) (λ _ x. text x.0 ++ kind x.1) (λ _. then_at text_at (λ _. checked_at has kind_at)) text_form (λ _ _. rest) in
    mapped_form object_of (λ o. (o.bucket, (o.key, o.kind))) _ _ _ _ (λ _. refl) (λ _ _. refl) whole

-- what the code at a place says of the kind that is read there
pub kind_read : (bytes : List ℕ) (at n end : ℕ) (k : Kind) → number_at 1 bytes at ≡ Ok (n, end) → kind_code k ≡ n → kind_at bytes at ≡ Ok (k, end)
unfolding kind_at
kind_read bytes at n end k h e =
    let inside : is_between 1 11 n ≡ true = ap (is_between 1 11) (sym e) ∙ is_code k in
    rw (h, inside, sym (code_is k n e)) refl

and_false : (b : Bool) → (b && false) ≡ false
and_false true = refl
and_false false = refl

pub kind_refused : (bytes : List ℕ) (at n end : ℕ) → number_at 1 bytes at ≡ Ok (n, end) → (n ≡ 0) ⊎ (11 < n) → kind_at bytes at ≡ Err (Bad at)
unfolding kind_at
kind_refused bytes at n end h out = rw (h, outside n out) refl
  where
    outside : (n : ℕ) → (n ≡ 0) ⊎ (11 < n) → is_between 1 11 n ≡ false
    outside n (inl e) = ap (is_between 1 11) e
    outside n (inr lt) = let above : nat_le n 11 ≡ false = grind (arith, nat_tests) in ap (λ b. nat_le 1 n && b) above ∙ and_false (nat_le 1 n)

pub kind_fails : (bytes : List ℕ) (at : ℕ) (e : TakeError) → number_at 1 bytes at ≡ Err e → kind_at bytes at ≡ Err e
unfolding kind_at
kind_fails bytes at e h = rw h refl

-- ---- a mark of one byte, and what stands behind it whatever the mark is

abbrev pub marked_at : {V W : Type 0} → ℕ → (ℕ × V → W) → (List ℕ → ℕ → Read V) → List ℕ → ℕ → Read W
marked_at most made reading = mapped_at made (then_at (between_at 1 0 most) (λ _. reading))

abbrev pair : {V : Type 0} → ℕ → V → ℕ × V
pair n v = (n, v)

pub marked_form : {V W : Type 0} {keeps : V → Bool} (most : ℕ) → most < 256 → (made : ℕ × V → W) (mark : W → ℕ) (parts : W → V) (fits is_spelled : V → Bool) (spelling : V → List ℕ) (reading : List ℕ → ℕ → Read V)
    → ((w : W) → made (mark w, parts w) ≡ w) → ((n : ℕ) (v : V) → n ≤ most → (mark (made (n, v)) ≡ n) × (parts (made (n, v)) ≡ v)) → ((w : W) → mark w ≤ most) → IsForm fits keeps is_spelled spelling reading
    → IsForm (λ w. fits (parts w)) (λ w. keeps (parts w)) (λ w. is_spelled (parts w)) (λ w. number 1 (mark w) ++ spelling (parts w)) (marked_at most made reading)
marked_form {V} {W} most small made mark parts fits is_spelled spelling reading back forth within form =
    let marks = is_between 0 most in
    let whole = then_form marks marks (number 1) (between_at 1 0 most) (λ _. fits) (λ _. is_spelled) (λ _. spelling) (λ _. reading) (between_form 1 0 most width1 (omega (arith, small))) (λ _ _. form) in
    let same : (v : ℕ × V) → (marks v.0 && is_spelled v.1) ≡ true → pair (mark (made v)) (parts (made v)) ≡ v = λ v h.
    let f = forth v.0 v.1 (le_from v.0 most (both_true (nat_le 0 v.0) (nat_le v.0 most) (both_true (marks v.0) (is_spelled v.1) h).0).1) in
    λ i. (f.0 i, f.1 i) in
    let law = mapped_form made (λ w. (mark w, parts w)) _ _ _ _ back same whole in
    let known : (w : W) → marks (mark w) ≡ true = λ w. and_true (nat_le 0 (mark w)) (nat_le (mark w) most) (le_holds 0 (mark w) (omega arith)) (le_holds (mark w) most (within w)) in
    record {
      found = λ bytes at w end ok here h. let f = law.found bytes at w end ok here h in ((both_true (marks (mark w)) (is_spelled (parts w)) f.0).1, f.1);
      again = λ bytes at w end good spans. law.again bytes at w end (and_true (marks (mark w)) (is_spelled (parts w)) (known w) good) spans;
      fit = λ w good. form.fit (parts w) good;
      all = λ w can kept short. form.all (parts w) can kept (omega (arith, short, length-append (number 1 (mark w)) (spelling (parts w))));
      ends = law.ends;
      tells = law.tells;
    }
