-- The records of a log that stay are found from its oldest on, once its leases are counted.
use Rattle.std.proofs.Common.{◌≡◌, ℕ, ◌+◌, ◌<◌, ◌≤◌, ltb, cond, Bool, true, false, not, ◌&&◌, ◌||◌, List, [], ◌∷◌, ◌++◌, reverse, length, take, get_or, Option, Some, None, refl, sym, ap, ◌∙◌, arith}
use Rattle.std.specs.Prelude.{if◌then◌else◌}
use Rattle.std.proofs.lemmas.Bool.{lt-ltb}
use Rattle.std.proofs.lemmas.List.{reverse-append, take_more}
use Rattle.site_vector.specs.declared.ids.TxId.{TxId}
use Rattle.site_vector.specs.Ids.{same_tx}
use Rattle.site_vector.specs.Order.{same_tx_is}
use Rattle.crdt_core.specs.declared.record.Record.{Record}
use Rattle.crdt_core.specs.declared.record.Record.TheVariants.{Lease, Prepare, Decide, Finish, Abort, Batch}
use Rattle.crdt_core.specs.Log.{prepared, aborted, grown}
use Rattle.log_recovery.specs.Condensed.{aborted_by, prepared_by, kept, is_lease, leases_in, stays}
use Rattle.log_recovery.proofs.Progress.{whole_is}

same : (b : Bool) (n m : ℕ) → (if b then 1 + n else n) ≡ (if b then 1 + m else m) → n ≡ m
same true n m h = omega (arith, h)
same false n m h = h

module _ {E : Type 0} (d : TxId → Bool) where
  abbrev put_if : Bool → Record E → List (Record E) → List (Record E)
  put_if b r log = if b then r ∷ log else log

  one_more : (left : ℕ) (r : Record E) (log : List (Record E)) → kept (ltb 0 left) d (r ∷ log) ≡ put_if (stays (ltb 0 left) d r) r (kept (ltb 0 (if is_lease r then 1 + left else left)) d log)
  one_more left (Lease n) log = by (ltb 0 left) ∙ ap (λ x. put_if (not (ltb 0 left)) (Lease n) (kept x d log)) (sym (lt-ltb 0 (1 + left) (omega arith)))
    where
      by : (b : Bool) → (if b then kept true d log else Lease n ∷ kept true d log) ≡ put_if (not b) (Lease n) (kept true d log)
      by true = refl
      by false = refl
  one_more left (Prepare t l n s w) log = by (d t)
    where
      by : (b : Bool) → (if b then kept (ltb 0 left) d log else Prepare t l n s w ∷ kept (ltb 0 left) d log) ≡ put_if (not b) (Prepare t l n s w) (kept (ltb 0 left) d log)
      by true = refl
      by false = refl
  one_more left (Decide t c) log = refl
  one_more left (Finish t c) log = refl
  one_more left (Abort t) log = by (d t)
    where
      by : (b : Bool) → (if b then kept (ltb 0 left) d log else Abort t ∷ kept (ltb 0 left) d log) ≡ put_if (not b) (Abort t) (kept (ltb 0 left) d log)
      by true = refl
      by false = refl
  one_more left (Batch m) log = refl

  -- of the whole log a front was gone through, in the rest so many leases are left, and these stay of the front
  pub record IsKeeping (whole rest : List (Record E)) (left : ℕ) (all : List (Record E)) : Type 0 where
    pub log : List (Record E)
    pub is : grown log rest ≡ whole
    pub count : left ≡ leases_in rest
    pub so : reverse all ≡ kept (ltb 0 left) d log

  -- a lease that comes next is one of those that are left
  pub some_left : (whole all rest : List (Record E)) (r : Record E) (left : ℕ) (out : List (Record E)) → all ≡ r ∷ rest → IsKeeping whole all left out → is_lease r ≡ true → 1 ≤ left
  some_left whole all rest r left out e p h = let a : left ≡ 1 + leases_in rest = p.count ∙ ap leases_in e ∙ ap (λ b. if b then 1 + leases_in rest else leases_in rest) h in omega (arith, a)

  pub keeping_starts : (rs : List (Record E)) (left : ℕ) → left ≡ leases_in rs → IsKeeping (reverse rs) rs left []
  keeping_starts rs left h = record { log = []; is = whole_is rs; count = h; so = refl }

  module _ (whole all rest : List (Record E)) (r : Record E) (old left : ℕ) (out : List (Record E)) (e : all ≡ r ∷ rest) (p : IsKeeping whole all old out) (counted : old ≡ if is_lease r then 1 + left else left) where
    step : reverse out ≡ kept (ltb 0 (if is_lease r then 1 + left else left)) d p.log
    step = p.so ∙ ap (λ n. kept (ltb 0 n) d p.log) counted

    rest_count : left ≡ leases_in rest
    rest_count = same (is_lease r) left (leases_in rest) (sym counted ∙ p.count ∙ ap leases_in e)

    pub keeping_put : stays (ltb 0 left) d r ≡ true → IsKeeping whole rest left (out ++ r ∷ [])
    keeping_put s = record {
      log = r ∷ p.log;
      is = ap (λ x. grown p.log x) (sym e) ∙ p.is;
      count = rest_count;
      so = reverse-append out (r ∷ []) ∙ ap (λ l. r ∷ l) step ∙ sym (one_more left r p.log ∙ ap (λ b. put_if b r (kept (ltb 0 (if is_lease r then 1 + left else left)) d p.log)) s);
    }

    pub keeping_left : stays (ltb 0 left) d r ≡ false → IsKeeping whole rest left out
    keeping_left s = record {
      log = r ∷ p.log;
      is = ap (λ x. grown p.log x) (sym e) ∙ p.is;
      count = rest_count;
      so = step ∙ sym (one_more left r p.log ∙ ap (λ b. put_if b r (kept (ltb 0 (if is_lease r then 1 + left else left)) d p.log)) s);
    }

  pub keeping_ends : (whole rest : List (Record E)) (left : ℕ) (all : List (Record E)) → rest ≡ [] → IsKeeping whole rest left all → reverse all ≡ kept false d whole
  keeping_ends whole rest left all e p =
      let none : left ≡ 0 = p.count ∙ ap leases_in e in
      p.so ∙ ap (λ n. kept (ltb 0 n) d p.log) none ∙ ap (λ l. kept false d l) (ap (λ x. grown p.log x) (sym e) ∙ p.is)

-- the records up to the next one, newest first
pub read_more : {A : Type 0} (xs : List A) (i : ℕ) (x : A) → i < length xs → x ≡ get_or xs i x → reverse (take (i + 1) xs) ≡ x ∷ reverse (take i xs)
read_more xs i x low e = ap reverse (take_more xs i x low) ∙ reverse-append (take i xs) (get_or xs i x ∷ []) ∙ ap (λ y. y ∷ reverse (take i xs)) (sym e)

abbrev is_one : Option TxId → TxId → Bool
is_one None u = false
is_one (Some t) u = same_tx t u

module _ {E : Type 0} where
  aborted_first : (r : Record E) (log : List (Record E)) (u : TxId) → aborted (r ∷ log) u ≡ (is_one (aborted_by r) u || aborted log u)
  aborted_first (Lease n) log u = refl
  aborted_first (Prepare t l n s w) log u = refl
  aborted_first (Decide t c) log u = refl
  aborted_first (Finish t c) log u = refl
  aborted_first (Abort t) log u = refl
  aborted_first (Batch m) log u = refl

  prepared_first : (r : Record E) (log : List (Record E)) (u : TxId) → prepared (r ∷ log) u ≡ (is_one (prepared_by r) u || prepared log u)
  prepared_first (Lease n) log u = refl
  prepared_first (Prepare t l n s w) log u = refl
  prepared_first (Decide t c) log u = refl
  prepared_first (Finish t c) log u = refl
  prepared_first (Abort t) log u = refl
  prepared_first (Batch m) log u = refl

  -- a set of what the records so far abort, with the next one
  pub aborts_none : (f g : TxId → Bool) (r : Record E) (log : List (Record E)) → None ≡ aborted_by r → ((u : TxId) → f u ≡ aborted log u) → ((u : TxId) → g u ≡ f u) → (u : TxId) → g u ≡ aborted (r ∷ log) u
  aborts_none f g r log e h put u = put u ∙ h u ∙ sym (aborted_first r log u ∙ ap (λ o. is_one o u || aborted log u) (sym e))

  pub aborts_one : (f g : TxId → Bool) (t : TxId) (r : Record E) (log : List (Record E)) → Some t ≡ aborted_by r → ((u : TxId) → f u ≡ aborted log u) → ((u : TxId) → g u ≡ cond (same_tx t u) true (f u)) → (u : TxId) → g u ≡ aborted (r ∷ log) u
  aborts_one f g t r log e h put u = put u ∙ ap (λ b. cond (same_tx t u) true b) (h u) ∙ joined (same_tx t u) (aborted log u) ∙ sym (aborted_first r log u ∙ ap (λ o. is_one o u || aborted log u) (sym e))
    where
      joined : (a b : Bool) → cond a true b ≡ (a || b)
      joined true b = refl
      joined false b = refl

  -- and one of those among these that they prepare
  pub drops_none : (f g e : TxId → Bool) (r : Record E) (log : List (Record E)) → None ≡ prepared_by r → ((u : TxId) → f u ≡ (prepared log u && e u)) → ((u : TxId) → g u ≡ f u) → (u : TxId) → g u ≡ (prepared (r ∷ log) u && e u)
  drops_none f g e r log i h put u = put u ∙ h u ∙ sym (ap (λ b. b && e u) (prepared_first r log u ∙ ap (λ o. is_one o u || prepared log u) (sym i)))

  pub drops_other : (f g e : TxId → Bool) (t : TxId) (r : Record E) (log : List (Record E)) → Some t ≡ prepared_by r → e t ≡ false → ((u : TxId) → f u ≡ (prepared log u && e u)) → ((u : TxId) → g u ≡ f u) → (u : TxId) → g u ≡ (prepared (r ∷ log) u && e u)
  drops_other f g e t r log i n h put u = put u ∙ h u ∙ sym (ap (λ b. b && e u) (prepared_first r log u ∙ ap (λ o. is_one o u || prepared log u) (sym i)) ∙ skipped (same_tx t u) (prepared log u) (e u) (λ k. ap e (sym (same_tx_is t u k)) ∙ n))
    where
      skipped : (a b c : Bool) → (a ≡ true → c ≡ false) → ((a || b) && c) ≡ (b && c)
      skipped true true c k = refl
      skipped true false c k = k refl
      skipped false b c k = refl

  pub drops_one : (f g e : TxId → Bool) (t : TxId) (r : Record E) (log : List (Record E)) → Some t ≡ prepared_by r → e t ≡ true → ((u : TxId) → f u ≡ (prepared log u && e u)) → ((u : TxId) → g u ≡ cond (same_tx t u) true (f u)) → (u : TxId) → g u ≡ (prepared (r ∷ log) u && e u)
  drops_one f g e t r log i y h put u = put u ∙ ap (λ b. cond (same_tx t u) true b) (h u) ∙ joined (same_tx t u) (prepared log u) (e u) (λ k. ap e (sym (same_tx_is t u k)) ∙ y) ∙ sym (ap (λ b. b && e u) (prepared_first r log u ∙ ap (λ o. is_one o u || prepared log u) (sym i)))
    where
      joined : (a b c : Bool) → (a ≡ true → c ≡ true) → cond a true (b && c) ≡ ((a || b) && c)
      joined true b c k = sym (k refl)
      joined false b c k = refl
