-- The bytes of records: a code, and what stands behind it.
use Rattle.std.specs.Prelude.{◌≡◌, ℕ, zero, suc, ◌^◌, ◌==◌, Bool, true, ◌&&◌, ◌||◌, eqb, nat_le, List, ◌++◌, if◌then◌else◌, refl}
use Rattle.std.proofs.Common.{arith}
use Rattle.std.specs.List.{list_all}
use Rattle.std.proofs.lemmas.Bool.{false≢true}
use Rattle.field_codec.specs.Spelling.{number, is_number}
use Rattle.field_codec.specs.Reading.{Read, number_at, then_at, mapped_at}
use Rattle.field_codec.specs.Lawful.{IsForm}
use Rattle.field_codec.specs.FormLaws.{width1, width8, then_form, lt_holds, le_from, both_true, and_true}
use Rattle.field_codec.specs.Tagged.{tagged_at, tagged_form, shape_form}
use Rattle.site_vector.specs.declared.ids.TxId.{TxId}
use Rattle.crdt_core.specs.declared.kind.Kind.{Kind}
use Rattle.crdt_core.specs.declared.record.Upd.{Upd}
use Rattle.crdt_core.specs.declared.record.Message.{Message}
use Rattle.crdt_core.specs.declared.record.Record.{Record}
use Rattle.crdt_core.specs.declared.record.Record.TheVariants.{Lease, Prepare, Decide, Finish, Abort, Batch}
use Rattle.crdt_core.specs.Spelled.{is_between, is_tx, tx, tx_at, vector, is_vector, vector_at}
use Rattle.crdt_core.specs.SpelledLaws.{tx_form}
use Rattle.crdt_core.specs.EffectForm.{SpellsEffects}
use Rattle.log_records.specs.Fields.{any_number_form, any_vector_form}
use Rattle.log_records.specs.Updates.{can_put_updates, are_updates_spelled, keeps_update, updates, updates_at, updates_form}
use Rattle.log_records.specs.Messages.{can_put_batch, is_batch_spelled, keeps_message, message, batch_at, batch_form}

-- a transaction and its commit vector
abbrev pub ended_at : List ℕ → ℕ → Read (TxId × List ℕ)
ended_at = then_at tx_at (λ _. vector_at)

ended_form : IsForm (λ x. is_tx x.0) (λ x. is_vector x.1) (λ x. is_tx x.0 && is_vector x.1) (λ x. tx x.0 ++ vector x.1) ended_at
ended_form = let law = then_form is_tx is_tx tx tx_at _ _ _ _ tx_form (λ _ _. any_vector_form) in record {
  found = law.found;
  again = law.again;
  fit = λ x good. (both_true (is_tx x.0) (is_vector x.1) good).0;
  all = λ x can kept short. and_true (is_tx x.0) (is_vector x.1) can kept;
  ends = law.ends;
  tells = law.tells;
}

-- what is prepared: the transaction, the lead, the time, the snapshot, the updates
abbrev Prepared : Type 0 → Type 0
Prepared E = TxId × (ℕ × (ℕ × (List ℕ × List (Upd E))))

module _ {E : Type 0} where
  abbrev pub prepare_of : Prepared E → Record E
  prepare_of p = Prepare p.0 p.1.0 p.1.1.0 p.1.1.1.0 p.1.1.1.1

  abbrev pub decide_of : TxId × List ℕ → Record E
  decide_of p = Decide p.0 p.1

  abbrev pub finish_of : TxId × List ℕ → Record E
  finish_of p = Finish p.0 p.1

  abbrev pub code : Record E → ℕ
  code (Lease n) = 1
  code (Prepare t l n s w) = 2
  code (Decide t c) = 3
  code (Finish t c) = 4
  code (Abort t) = 5
  code (Batch m) = 6

  abbrev pub can_put_record : (Kind → Bool) → (Kind → E → Bool) → (E → Bool) → Record E → Bool
  can_put_record has is_of can_put (Lease n) = true
  can_put_record has is_of can_put (Prepare t l n s w) = is_tx t && can_put_updates has is_of can_put w
  can_put_record has is_of can_put (Decide t c) = is_tx t
  can_put_record has is_of can_put (Finish t c) = is_tx t
  can_put_record has is_of can_put (Abort t) = is_tx t
  can_put_record has is_of can_put (Batch m) = can_put_batch has is_of can_put m

  abbrev pub is_record_spelled : (Kind → Bool) → (Kind → E → Bool) → (E → Bool) → Record E → Bool
  is_record_spelled has is_of is_spelled (Lease n) = is_number 8 n
  is_record_spelled has is_of is_spelled (Prepare t l n s w) = is_tx t && (is_number 1 l && (is_number 8 n && (is_vector s && are_updates_spelled has is_of is_spelled w)))
  is_record_spelled has is_of is_spelled (Decide t c) = is_tx t && is_vector c
  is_record_spelled has is_of is_spelled (Finish t c) = is_tx t && is_vector c
  is_record_spelled has is_of is_spelled (Abort t) = is_tx t
  is_record_spelled has is_of is_spelled (Batch m) = is_batch_spelled has is_of is_spelled m

  -- what the types keep of numbers and vectors, and of each update
  abbrev pub keeps_record : (E → Bool) → Record E → Bool
  keeps_record keeps (Lease n) = is_number 8 n
  keeps_record keeps (Prepare t l n s w) = is_number 1 l && (is_number 8 n && (is_vector s && list_all (keeps_update keeps) w))
  keeps_record keeps (Decide t c) = is_vector c
  keeps_record keeps (Finish t c) = is_vector c
  keeps_record keeps (Abort t) = true
  keeps_record keeps (Batch m) = keeps_message keeps m

  abbrev pub behind_code : (E → List ℕ) → Record E → List ℕ
  behind_code spelling (Lease n) = number 8 n
  behind_code spelling (Prepare t l n s w) = tx t ++ (number 1 l ++ (number 8 n ++ (vector s ++ updates spelling w)))
  behind_code spelling (Decide t c) = tx t ++ vector c
  behind_code spelling (Finish t c) = tx t ++ vector c
  behind_code spelling (Abort t) = tx t
  behind_code spelling (Batch m) = message spelling m

  abbrev pub record_bytes : (E → List ℕ) → Record E → List ℕ
  record_bytes spelling r = number 1 (code r) ++ behind_code spelling r

  abbrev pub prepared_at : (Kind → Bool) → (Kind → List ℕ → ℕ → Read E) → List ℕ → ℕ → Read (Prepared E)
  prepared_at has reading = then_at tx_at (λ _. then_at (number_at 1) (λ _. then_at (number_at 8) (λ _. then_at vector_at (λ _. updates_at has reading))))

  unfoldable pub behind_code_at : (Kind → Bool) → (Kind → List ℕ → ℕ → Read E) → ℕ → List ℕ → ℕ → Read (Record E)
  behind_code_at has reading n =
      if n == 1 then mapped_at Lease (number_at 8) else if n == 2 then mapped_at prepare_of (prepared_at has reading) else if n == 3 then mapped_at decide_of ended_at else
      if n == 4 then mapped_at finish_of ended_at else if n == 5 then mapped_at Abort tx_at else mapped_at Batch (batch_at has reading)

  unfoldable pub record_at : (Kind → Bool) → (Kind → List ℕ → ℕ → Read E) → List ℕ → ℕ → Read (Record E)
  record_at has reading = tagged_at (is_between 1 6) (behind_code_at has reading)

  known : (r : Record E) → is_between 1 6 (code r) ≡ true
  known (Lease n) = refl
  known (Prepare t l n s w) = refl
  known (Decide t c) = refl
  known (Finish t c) = refl
  known (Abort t) = refl
  known (Batch m) = refl

small : (n : ℕ) → is_between 1 6 n ≡ true → is_number 1 n ≡ true
small n h = let le = le_from n 6 (both_true (nat_le 1 n) _ h).1 in lt_holds n (256 ^ 1) (omega (arith, le))

module _ {E : Type 0} {has : Kind → Bool} {is_of : Kind → E → Bool} {can_put keeps is_spelled : E → Bool} {spelling : E → List ℕ} {reading : Kind → List ℕ → ℕ → Read E}
    (spells : SpellsEffects has is_of can_put keeps is_spelled spelling reading) where
  abbrev is_record : Record E → Bool
  is_record = is_record_spelled has is_of is_spelled

  lease_shape : (r : Record E) → (eqb (code r) 1 && (can_put_record has is_of can_put r || is_record r)) ≡ true → (n : ℕ) × (Lease n ≡ r)
  lease_shape (Lease n) h = (n, refl)
  lease_shape (Prepare t l n s w) h = absurd (false≢true h)
  lease_shape (Decide t c) h = absurd (false≢true h)
  lease_shape (Finish t c) h = absurd (false≢true h)
  lease_shape (Abort t) h = absurd (false≢true h)
  lease_shape (Batch m) h = absurd (false≢true h)

  prepare_shape : (r : Record E) → (eqb (code r) 2 && (can_put_record has is_of can_put r || is_record r)) ≡ true → (p : Prepared E) × (prepare_of p ≡ r)
  prepare_shape (Lease n) h = absurd (false≢true h)
  prepare_shape (Prepare t l n s w) h = ((t, (l, (n, (s, w)))), refl)
  prepare_shape (Decide t c) h = absurd (false≢true h)
  prepare_shape (Finish t c) h = absurd (false≢true h)
  prepare_shape (Abort t) h = absurd (false≢true h)
  prepare_shape (Batch m) h = absurd (false≢true h)

  decide_shape : (r : Record E) → (eqb (code r) 3 && (can_put_record has is_of can_put r || is_record r)) ≡ true → (p : TxId × List ℕ) × (decide_of p ≡ r)
  decide_shape (Lease n) h = absurd (false≢true h)
  decide_shape (Prepare t l n s w) h = absurd (false≢true h)
  decide_shape (Decide t c) h = ((t, c), refl)
  decide_shape (Finish t c) h = absurd (false≢true h)
  decide_shape (Abort t) h = absurd (false≢true h)
  decide_shape (Batch m) h = absurd (false≢true h)

  finish_shape : (r : Record E) → (eqb (code r) 4 && (can_put_record has is_of can_put r || is_record r)) ≡ true → (p : TxId × List ℕ) × (finish_of p ≡ r)
  finish_shape (Lease n) h = absurd (false≢true h)
  finish_shape (Prepare t l n s w) h = absurd (false≢true h)
  finish_shape (Decide t c) h = absurd (false≢true h)
  finish_shape (Finish t c) h = ((t, c), refl)
  finish_shape (Abort t) h = absurd (false≢true h)
  finish_shape (Batch m) h = absurd (false≢true h)

  abort_shape : (r : Record E) → (eqb (code r) 5 && (can_put_record has is_of can_put r || is_record r)) ≡ true → (t : TxId) × (Abort t ≡ r)
  abort_shape (Lease n) h = absurd (false≢true h)
  abort_shape (Prepare t l n s w) h = absurd (false≢true h)
  abort_shape (Decide t c) h = absurd (false≢true h)
  abort_shape (Finish t c) h = absurd (false≢true h)
  abort_shape (Abort t) h = (t, refl)
  abort_shape (Batch m) h = absurd (false≢true h)

  batch_shape : (r : Record E) → (eqb (code r) 6 && (can_put_record has is_of can_put r || is_record r)) ≡ true → (m : Message E) × (Batch m ≡ r)
  batch_shape (Lease n) h = absurd (false≢true h)
  batch_shape (Prepare t l n s w) h = absurd (false≢true h)
  batch_shape (Decide t c) h = absurd (false≢true h)
  batch_shape (Finish t c) h = absurd (false≢true h)
  batch_shape (Abort t) h = absurd (false≢true h)
  batch_shape (Batch m) h = (m, refl)

  prepared_form : IsForm (λ p. is_tx p.0 && can_put_updates has is_of can_put p.1.1.1.1) (λ p. is_number 1 p.1.0 && (is_number 8 p.1.1.0 && (is_vector p.1.1.1.0 && list_all (keeps_update keeps) p.1.1.1.1)))
      (λ p. is_tx p.0 && (is_number 1 p.1.0 && (is_number 8 p.1.1.0 && (is_vector p.1.1.1.0 && are_updates_spelled has is_of is_spelled p.1.1.1.1))))
      (λ p. tx p.0 ++ (number 1 p.1.0 ++ (number 8 p.1.1.0 ++ (vector p.1.1.1.0 ++ updates spelling p.1.1.1.1)))) (prepared_at has reading)
  prepared_form =
      let seen = then_form (λ v. true) is_vector vector vector_at _ _ _ _ any_vector_form (λ _ _. updates_form spells) in
      let timed = then_form (λ n. true) (is_number 8) (number 8) (number_at 8) _ _ _ _ (any_number_form 8 width8) (λ _ _. seen) in
      let led = then_form (λ n. true) (is_number 1) (number 1) (number_at 1) _ _ _ _ (any_number_form 1 width1) (λ _ _. timed) in
      then_form is_tx is_tx tx tx_at _ _ _ _ tx_form (λ _ _. led)

  rest_form : (n : ℕ) → is_between 1 6 n ≡ true → IsForm (λ r. eqb (code r) n && can_put_record has is_of can_put r) (keeps_record keeps) (λ r. eqb (code r) n && is_record r) (behind_code spelling) (behind_code_at has reading n)
  unfolding behind_code_at
  rest_form zero h = absurd (false≢true h)
  rest_form (suc zero) h = shape_form (λ r. eqb (code r) 1) Lease _ _ (number 8) (number_at 8) (can_put_record has is_of can_put) is_record _ (λ n. refl) (λ n. refl) (λ n. refl) (λ n. refl) lease_shape (any_number_form 8 width8)
  rest_form (suc (suc zero)) h = shape_form (λ r. eqb (code r) 2) prepare_of _ _ _ (prepared_at has reading) (can_put_record has is_of can_put) is_record _ (λ p. refl) (λ p. refl) (λ p. refl) (λ p. refl) prepare_shape prepared_form
  rest_form (suc (suc (suc zero))) h = shape_form (λ r. eqb (code r) 3) decide_of _ _ _ ended_at (can_put_record has is_of can_put) is_record _ (λ p. refl) (λ p. refl) (λ p. refl) (λ p. refl) decide_shape ended_form
  rest_form (suc (suc (suc (suc zero)))) h = shape_form (λ r. eqb (code r) 4) finish_of _ _ _ ended_at (can_put_record has is_of can_put) is_record _ (λ p. refl) (λ p. refl) (λ p. refl) (λ p. refl) finish_shape ended_form
  rest_form (suc (suc (suc (suc (suc zero))))) h = shape_form (λ r. eqb (code r) 5) Abort _ _ tx tx_at (can_put_record has is_of can_put) is_record _ (λ t. refl) (λ t. refl) (λ t. refl) (λ t. refl) abort_shape tx_form
  rest_form (suc (suc (suc (suc (suc (suc zero)))))) h = shape_form (λ r. eqb (code r) 6) Batch _ _ (message spelling) (batch_at has reading) (can_put_record has is_of can_put) is_record _ (λ m. refl) (λ m. refl) (λ m. refl) (λ m. refl) batch_shape (batch_form spells)
  rest_form (suc (suc (suc (suc (suc (suc (suc n))))))) h = let le = le_from (suc (suc (suc (suc (suc (suc (suc n))))))) 6 (both_true (nat_le 1 (suc (suc (suc (suc (suc (suc (suc n)))))))) _ h).1 in absurd (omega arith)

  pub record_form : IsForm (can_put_record has is_of can_put) (keeps_record keeps) is_record (record_bytes spelling) (record_at has reading)
  unfolding record_at
  record_form = tagged_form (is_between 1 6) code _ _ (behind_code spelling) (behind_code_at has reading) known small rest_form
