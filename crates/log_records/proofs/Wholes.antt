-- What a form says of bytes that are to be one value and nothing behind it.
use Rattle.std.proofs.Common.{◌≡◌, ℕ, ◌≤◌, ◌<◌, Bool, true, false, cond, List, ◌++◌, length, take, drop, Result, Ok, Err, refl, sym, ap, subst, ◌∙◌, inl, inr, arith}
use Rattle.std.specs.Prelude.{eqb}
use Rattle.std.proofs.lemmas.Bool.{eqb-true, eq-eqb, false≢true}
use Rattle.std.proofs.lemmas.List.{append-nil, drop_all, take_at}
use Rattle.field_codec.specs.declared.error.TakeError.TheVariants.{Short, Bad, NoMemory}
use Rattle.field_codec.specs.Spelling.{Spans}
use Rattle.field_codec.specs.Reading.{Read}
use Rattle.field_codec.specs.Lawful.{IsBytes, IsRefused, IsForm}
use Rattle.log_records.specs.declared.error.RecordError.{RecordError}
use Rattle.log_records.specs.declared.error.RecordError.TheVariants as why
use Rattle.log_records.specs.Whole.{whole, whole_at, IsDamaged, ReadsWhole}

abbrev is : {V : Type 0} → V → Result V RecordError
is v = Ok v

abbrev damaged_at : {V : Type 0} → ℕ → Result V RecordError
damaged_at p = Err (why.Damaged p)

is_one : {V : Type 0} (v w : V) → is v ≡ is w → v ≡ w
is_one v w h = cc

same_place : {V : Type 0} (p q : ℕ) → damaged_at {V = V} p ≡ damaged_at q → p ≡ q
same_place p q h = cc

-- what a test of the end lets through, and what it refuses
ended : {V : Type 0} (b : Bool) (v w : V) (p : ℕ) → cond b (is v) (damaged_at p) ≡ Ok w → (b ≡ true) × (v ≡ w)
ended true v w p h = (refl, is_one v w h)
ended false v w p h = absurd cc

not_ended : {V : Type 0} (b : Bool) (v : V) (p q : ℕ) → cond b (is v) (damaged_at p) ≡ Err (why.Damaged q) → (b ≡ false) × (p ≡ q)
not_ended true v p q h = absurd cc
not_ended {V} false v p q h = (refl, same_place {V = V} p q h)

never_wants : {V : Type 0} (b : Bool) (v : V) (p : ℕ) → cond b (is v) (damaged_at p) ≡ Err why.NoMemory → ⊥
never_wants true v p h = cc
never_wants false v p h = cc

differ : (n m : ℕ) → eqb n m ≡ false → n ≡ m → ⊥
differ n m h e = false≢true (sym h ∙ eq-eqb n m e)

module _ {V : Type 0} {fits keeps is_spelled : V → Bool} {spelling : V → List ℕ} {reading : List ℕ → ℕ → Read V} (form : IsForm fits keeps is_spelled spelling reading) where
  pub spelled_whole : (bytes : List ℕ) (v : V) → is_spelled v ≡ true → bytes ≡ spelling v → whole_at reading bytes ≡ Ok v
  spelled_whole bytes v good e =
      let spans : Spans bytes 0 (spelling v) (length bytes) = record {
        lies = e ∙ sym (append-nil (spelling v)) ∙ ap (λ l. spelling v ++ l) (sym (drop_all (length bytes) bytes (omega arith)));
        long = let same = ap length e in omega (arith, same);
        within = omega arith;
      } in
      ap (whole (length bytes)) (form.again bytes 0 v (length bytes) good spans) ∙ ap (λ b. cond b (is v) (damaged_at (length bytes))) (eq-eqb (length bytes) (length bytes) refl)

  read_whole : (bytes : List ℕ) (v : V) → IsBytes bytes → (r : Read V) → reading bytes 0 ≡ r → whole (length bytes) r ≡ Ok v → (is_spelled v ≡ true) × (bytes ≡ spelling v)
  read_whole bytes v ok (Ok x) at h =
      let e = ended (eqb x.1 (length bytes)) x.0 v x.1 h in
      let f = form.found bytes 0 x.0 x.1 ok (omega arith) at in
      let none = drop_all x.1 bytes (let same = eqb-true x.1 (length bytes) e.0 in omega (arith, same)) in
      subst (λ w. (is_spelled w ≡ true) × (bytes ≡ spelling w)) e.1 (f.0, f.1.lies ∙ ap (λ l. spelling x.0 ++ l) none ∙ append-nil (spelling x.0))
  read_whole bytes v ok (Err (Short q)) at h = absurd cc
  read_whole bytes v ok (Err (Bad q)) at h = absurd cc
  read_whole bytes v ok (Err NoMemory) at h = absurd cc

  read_damaged : (bytes : List ℕ) (p : ℕ) → IsBytes bytes → (r : Read V) → reading bytes 0 ≡ r → whole (length bytes) r ≡ Err (why.Damaged p) → IsDamaged is_spelled spelling reading bytes p
  read_damaged bytes p ok (Ok x) at h =
      let e = not_ended (eqb x.1 (length bytes)) x.0 x.1 p h in
      let f = form.found bytes 0 x.0 x.1 ok (omega arith) at in
      let long = f.1.long in
      let apart = differ x.1 (length bytes) e.0 in
      inr (inl (record {
        value = x.0;
        spelled = f.0;
        front = ap (λ n. take n bytes) (sym e.1) ∙ ap (take x.1) f.1.lies ∙ take_at (spelling x.0) (drop x.1 bytes) x.1 (omega (arith, long));
        behind = subst (λ n. n < length bytes) e.1 (below x.1 (length bytes) f.1.within apart);
      }))
    where
      below : (n m : ℕ) → n ≤ m → (n ≡ m → ⊥) → n < m
      below n m le apart = grind (arith)
  read_damaged bytes p ok (Err (Short q)) at h = inr (inr (record { first = sym (same_place {V = V} 0 p h); q = q; cut = form.tells.short bytes 0 q ok (omega arith) at }))
  read_damaged bytes p ok (Err (Bad q)) at h = inl (subst (λ n. IsRefused reading bytes 0 n) (same_place {V = V} q p h) (form.tells.bad bytes 0 q ok (omega arith) at))
  read_damaged bytes p ok (Err NoMemory) at h = absurd cc

  read_memory : (bytes : List ℕ) → IsBytes bytes → (r : Read V) → reading bytes 0 ≡ r → whole (length bytes) r ≡ Err why.NoMemory → ⊥
  read_memory bytes ok (Ok x) at h = never_wants (eqb x.1 (length bytes)) x.0 x.1 h
  read_memory bytes ok (Err (Short q)) at h = cc
  read_memory bytes ok (Err (Bad q)) at h = cc
  read_memory bytes ok (Err NoMemory) at h = form.tells.memory bytes 0 ok (omega arith) at

  pub reads_whole : ReadsWhole is_spelled spelling reading
  reads_whole = record {
    exact = λ bytes v ok. (read_whole bytes v ok (reading bytes 0) refl, λ h. spelled_whole bytes v h.0 h.1);
    damaged = λ bytes p ok. read_damaged bytes p ok (reading bytes 0) refl;
    memory = λ bytes ok. read_memory bytes ok (reading bytes 0) refl;
  }

-- what is read can be put
pub read_fits : {V : Type 0} {fits keeps is_spelled : V → Bool} {spelling : V → List ℕ} {reading : List ℕ → ℕ → Read V} → IsForm fits keeps is_spelled spelling reading
    → (bytes : List ℕ) (at : ℕ) (v : V) (end : ℕ) → IsBytes bytes → at ≤ length bytes → reading bytes at ≡ Ok (v, end) → fits v ≡ true
read_fits form bytes at v end ok le h = form.fit v (form.found bytes at v end ok le h).0

pub read_spelled : {V : Type 0} {fits keeps is_spelled : V → Bool} {spelling : V → List ℕ} {reading : List ℕ → ℕ → Read V} → IsForm fits keeps is_spelled spelling reading
    → (bytes : List ℕ) (at : ℕ) (v : V) (end : ℕ) → IsBytes bytes → at ≤ length bytes → reading bytes at ≡ Ok (v, end) → is_spelled v ≡ true
read_spelled form bytes at v end ok le h = (form.found bytes at v end ok le h).0

-- what is read up to the end is the spelling
pub read_all : {V : Type 0} {fits keeps is_spelled : V → Bool} {spelling : V → List ℕ} {reading : List ℕ → ℕ → Read V} → IsForm fits keeps is_spelled spelling reading
    → (bytes : List ℕ) (v : V) (end : ℕ) → IsBytes bytes → reading bytes 0 ≡ Ok (v, end) → end ≡ length bytes → bytes ≡ spelling v
read_all {spelling = spelling} form bytes v end ok h e =
    let none = drop_all end bytes (omega (arith, e)) in
    (form.found bytes 0 v end ok (omega arith) h).1.lies ∙ ap (λ l. spelling v ++ l) none ∙ append-nil (spelling v)

-- a field that is refused stands in the bytes
pub refused_within : {V : Type 0} {fits keeps is_spelled : V → Bool} {spelling : V → List ℕ} {reading : List ℕ → ℕ → Read V} → IsForm fits keeps is_spelled spelling reading
    → (bytes : List ℕ) (p q : ℕ) → IsBytes bytes → reading bytes 0 ≡ Err (Bad p) → why.Damaged p ≡ why.Damaged q → q ≤ length bytes
refused_within form bytes p q ok h e = let below = (form.tells.bad bytes 0 p ok (omega arith) h).within in let same : p ≡ q = cc in omega (arith, below, same)
