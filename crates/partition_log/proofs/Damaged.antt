-- Bytes are one log of records or damaged at one place.
use Rattle.std.proofs.Common.{◌≡◌, ℕ, ◌+◌, true, List, [], ◌∷◌, ◌++◌, Result, Ok, Err, refl, sym, ap, ◌∙◌, subst, ⊎_elim}
use Rattle.std.specs.Prelude.{map}
use Rattle.std.proofs.lemmas.List.{append_cancel_right}
use Rattle.field_codec.specs.FormLaws.{both_true}
use Rattle.gate_log.specs.Payloads.{placed}
use Rattle.gate_log.proofs.Unique.{one_list, one_place, not_both}
use Rattle.crdt_core.specs.declared.record.Record.{Record}
use Rattle.log_records.specs.declared.error.RecordError.{RecordError}
use Rattle.log_records.specs.declared.error.RecordError.TheVariants as why
use Rattle.log_records.specs.Whole.{whole_at}
use Rattle.partition_log.specs.Codec.{Codec}
use Rattle.partition_log.specs.Logs.{payloads_of, are_spelled, HoldsLog}
use Rattle.partition_log.specs.Damage.{IsRecord, AreRecords, IsRefusedAt, IsDamaged}
use Rattle.partition_log.proofs.Reading.{Item, unplaced}
use Rattle.partition_log.proofs.Listing.{EachRecord, each_of_log}

abbrev is_read : {V : Type 0} → V → Result V RecordError
is_read v = Ok v

abbrev is_damaged : {V : Type 0} → ℕ → Result V RecordError
is_damaged n = Err (why.Damaged n)

never_both : {V P : Type 0} (r : Result V RecordError) (v : V) (n : ℕ) → r ≡ is_read v → r ≡ is_damaged n → P
never_both r v n p q = absurd cc

one_read : {V : Type 0} (r : Result V RecordError) (v w : V) → r ≡ is_read v → r ≡ is_read w → v ≡ w
one_read r v w p q = cc

one_damaged : {V : Type 0} (r : Result V RecordError) (n m : ℕ) → r ≡ is_damaged n → r ≡ is_damaged m → n ≡ m
one_damaged r n m p q = cc

-- ---- lists that end alike

final : {X : Type 0} → X → List X → X
final d [] = d
final d (x ∷ xs) = final x xs

final_is : {X : Type 0} (d : X) (xs : List X) (x : X) → final d (xs ++ x ∷ []) ≡ x
unfolding final
final_is d [] x = refl
final_is d (y ∷ xs) x = final_is y xs x

never_empty : {X P : Type 0} (xs : List X) (x : X) → [] ≡ xs ++ x ∷ [] → P
never_empty [] x h = absurd cc
never_empty (y ∷ xs) x h = absurd cc

same_first : {X : Type 0} (x y : X) (xs ys : List X) → x ∷ xs ≡ y ∷ ys → (x ≡ y) × (xs ≡ ys)
same_first x y xs ys h = (cc, cc)

module _ {E : Type 0} (codec : Codec E) (reads : (bytes : List ℕ) (r : Record E) → codec.spelled r ≡ true → bytes ≡ codec.bytes r → whole_at codec.reading bytes ≡ Ok r) where
  pub each_read : (items : List Item) (log : List (Record E)) → AreRecords codec items log → EachRecord codec (map (λ item. item.1) items)
  each_read items log read = subst (EachRecord codec) (sym read.payloads) (each_of_log codec log read.spelled)

  -- a payload that is a record isn't damaged
  pub sound : {P : Type 0} (payload : List ℕ) (n : ℕ) → IsRecord codec payload → whole_at codec.reading payload ≡ Err (why.Damaged n) → P
  sound payload n s damaged = never_both (whole_at codec.reading payload) s.0 n (reads payload s.0 s.1 s.2) damaged

  -- none of these payloads is damaged
  among : {P : Type 0} (front back : List Item) (x : Item) (n : ℕ) → EachRecord codec (map (λ item. item.1) (front ++ x ∷ back)) → whole_at codec.reading x.1 ≡ Err (why.Damaged n) → P
  among [] back x n each damaged = sound x.1 n each.0 damaged
  among (y ∷ front) back x n each damaged = among front back x n each.1 damaged

  -- the first that is damaged is one
  first_one : (front1 back1 front2 back2 : List Item) (x y : Item) (n m : ℕ) → front1 ++ x ∷ back1 ≡ front2 ++ y ∷ back2
      → EachRecord codec (map (λ item. item.1) front1) → EachRecord codec (map (λ item. item.1) front2)
      → whole_at codec.reading x.1 ≡ Err (why.Damaged n) → whole_at codec.reading y.1 ≡ Err (why.Damaged m) → x.0 + n ≡ y.0 + m
  first_one [] back1 [] back2 x y n m e p q damaged other =
      let same = (same_first x y back1 back2 e).0 in
      let number = one_damaged (whole_at codec.reading y.1) n m (ap (λ (i : Item). whole_at codec.reading i.1) (sym same) ∙ damaged) other in
      ap (λ (i : Item). i.0 + n) same ∙ ap (λ k. y.0 + k) number
  first_one [] back1 (z ∷ front2) back2 x y n m e p q damaged other =
      let same = (same_first x z back1 (front2 ++ y ∷ back2) e).0 in
      sound z.1 n q.0 (ap (λ (i : Item). whole_at codec.reading i.1) (sym same) ∙ damaged)
  first_one (z ∷ front1) back1 [] back2 x y n m e p q damaged other =
      let same = (same_first z y (front1 ++ x ∷ back1) back2 e).0 in
      sound z.1 m p.0 (ap (λ (i : Item). whole_at codec.reading i.1) same ∙ other)
  first_one (z ∷ front1) back1 (w ∷ front2) back2 x y n m e p q damaged other =
      first_one front1 back1 front2 back2 x y n m (same_first z w (front1 ++ x ∷ back1) (front2 ++ y ∷ back2) e).1 p.1 q.1 damaged other

  pub one_refused : (items : List Item) (at other : ℕ) → IsRefusedAt codec items at → IsRefusedAt codec items other → at ≡ other
  one_refused items at other p q =
      p.here ∙ first_one p.front p.back q.front q.back (p.place, p.payload) (q.place, q.payload) p.within q.within (sym p.is ∙ q.is) (each_read p.front p.log p.before) (each_read q.front q.log q.before) p.damaged q.damaged ∙ sym q.here

  pub same_log : (log other : List (Record E)) → are_spelled codec log ≡ true → are_spelled codec other ≡ true → payloads_of codec log ≡ payloads_of codec other → log ≡ other
  same_log [] [] h k e = refl
  same_log [] (s ∷ other) h k e = never_empty (payloads_of codec other) (codec.bytes s) e
  same_log (r ∷ log) [] h k e = never_empty (payloads_of codec log) (codec.bytes r) (sym e)
  same_log (r ∷ log) (s ∷ other) h k e =
      let p = both_true (codec.spelled r) (are_spelled codec log) h in
      let q = both_true (codec.spelled s) (are_spelled codec other) k in
      let last : codec.bytes r ≡ codec.bytes s = sym (final_is [] (payloads_of codec log) (codec.bytes r)) ∙ ap (final []) e ∙ final_is [] (payloads_of codec other) (codec.bytes s) in
      let same = one_read (whole_at codec.reading (codec.bytes r)) r s (reads (codec.bytes r) r p.0 refl) (reads (codec.bytes r) s q.0 last) in
      let rest = append_cancel_right (payloads_of codec log) (payloads_of codec other) (codec.bytes s ∷ []) (ap (λ b. payloads_of codec log ++ b ∷ []) (sym last) ∙ e) in
      ap (λ x. x ∷ log) same ∙ ap (λ l. s ∷ l) (same_log log other p.1 q.1 rest)

  -- items are the payloads of one log at most
  pub same_read : (items : List Item) (log other : List (Record E)) → AreRecords codec items log → AreRecords codec items other → log ≡ other
  same_read items log other p q = same_log log other p.spelled q.spelled (sym p.payloads ∙ q.payloads)

  -- and where they are those of a log, none is refused
  pub never_refused : (items : List Item) (log : List (Record E)) (at : ℕ) → AreRecords codec items log → IsRefusedAt codec items at → ⊥
  never_refused items log at read r = among r.front r.back (r.place, r.payload) r.within (subst (λ l. EachRecord codec (map (λ item. item.1) l)) r.is (each_read items log read)) r.damaged

  pub one_log_of : (bytes : List ℕ) (log other : List (Record E)) → HoldsLog codec bytes log → HoldsLog codec bytes other → log ≡ other
  one_log_of bytes log other p q = same_log log other p.spelled q.spelled (one_list bytes (payloads_of codec log) (payloads_of codec other) p.is_log q.is_log)

  pub never_both_of : (bytes : List ℕ) (log : List (Record E)) (at : ℕ) → HoldsLog codec bytes log → IsDamaged codec bytes at → ⊥
  never_both_of bytes log at holds damaged = ⊎_elim
      (λ gate. not_both bytes (payloads_of codec log) at holds.is_log gate)
      (λ refused.
      let r = refused.2 in
      let same : map (λ item. item.1) (placed 8 refused.0) ≡ payloads_of codec log = unplaced 8 refused.0 ∙ one_list bytes refused.0 (payloads_of codec log) refused.1 holds.is_log in
      let each = subst (EachRecord codec) (sym same ∙ ap (map (λ item. item.1)) r.is) (each_of_log codec log holds.spelled) in
      among r.front r.back (r.place, r.payload) r.within each r.damaged)
      damaged

  pub one_place_of : (bytes : List ℕ) (at other : ℕ) → IsDamaged codec bytes at → IsDamaged codec bytes other → at ≡ other
  one_place_of bytes at other p q = ⊎_elim
      (λ a. ⊎_elim (λ b. one_place bytes at other a b) (λ b. absurd (not_both bytes b.0 at b.1 a)) q)
      (λ a. ⊎_elim (λ b. absurd (not_both bytes a.0 other a.1 b)) (λ b.
      one_refused (placed 8 b.0) at other (subst (λ payloads. IsRefusedAt codec (placed 8 payloads) at) (one_list bytes a.0 b.0 a.1 b.1) a.2) b.2) q)
      p
