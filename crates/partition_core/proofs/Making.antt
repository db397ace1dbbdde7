-- A partition that is made.
use Rattle.std.proofs.Common.{◌≡◌, ⊎_elim, ℕ, zero, suc, ◌-◌, ◌<◌, ◌≤◌, List, [], ◌∷◌, length, arith, refl, sym, ap, ◌∙◌, subst}
use Rattle.std.specs.Prelude.{eqb, replicate, slice_index}
use Rattle.std.proofs.lemmas.Bool.{true≢false, eqb-true, eq-eqb, cases_Bool}
use Rattle.site_vector.specs.declared.ids.PartId.{PartId}
use Rattle.site_vector.specs.Vector.{entry}
use Rattle.disk_core.specs.States.{DiskState}
use Rattle.log_recovery.specs.Recovered.{AreKnown}
use Rattle.partition_log.specs.Codec.{Codec}
use Rattle.world_model.specs.rules.Partition.{new_part}
use Rattle.partition_core.specs.Durable.{Durable, StandsOn}
use Rattle.partition_core.specs.Recovered.{resumed}
use Rattle.partition_core.specs.Tables.{Tables}
use Rattle.partition_core.specs.Stands.{Stands}

module _ {E : Type 0} where
  -- the tables of a partition that holds nothing
  abbrev pub empty_tables : PartId → ℕ → ℕ → Tables E
  empty_tables id sites parts = record { id = id; sites = sites; parts = parts; clock = 0; ceiling = 0; pending = []; held = []; bounds = replicate sites 0; heard = replicate parts (replicate sites 0); sent = replicate sites 0 }

  pub empty_stands : (id : PartId) (sites parts : ℕ) → Stands (empty_tables id sites parts) (new_part sites parts)
  empty_stands id sites parts = record {
    up = refl;
    whole = refl;
    clock = refl;
    ceiling = refl;
    tells = record {
      table = record { order = tt; members = λ u. refl; exact = tt };
      store = record { order = tt; members = λ u. refl; exact = tt };
      passed = λ u k. absurd (true≢false (sym k));
      timed = λ u k. absurd (true≢false (sym k));
      waiting = λ u k. absurd (true≢false (sym k));
      ended = λ u k. absurd (true≢false (sym k));
      brought = λ u k. absurd (true≢false (sym k));
    };
    bounds = refl;
    heard = refl;
    sent = refl;
  }

  -- and so do tables that are equal to these
  pub made_stands : (t : Tables E) (id : PartId) (sites parts : ℕ) → t ≡ empty_tables id sites parts → Stands t (new_part sites parts)
  made_stands t id sites parts e = subst (λ u. Stands u (new_part sites parts)) (sym e) (empty_stands id sites parts)

-- a list whose members are all 0
zeros : (n : ℕ) (b : List ℕ) → length b ≡ n → ((i : ℕ) → i < n → slice_index b i ≡ 0) → b ≡ replicate n 0
zeros zero [] e f = refl
zeros zero (x ∷ b) e f = absurd (omega (arith, e))
zeros (suc n) [] e f = absurd (omega (arith, e))
zeros (suc n) (x ∷ b) e f = ap (λ y. y ∷ b) (f 0 (omega arith)) ∙ ap (λ l. 0 ∷ l) (zeros n b (omega (arith, e)) (λ i l. f (suc i) (omega (arith, l))))

before : (i : ℕ) → suc i - 1 ≡ i
before i = omega arith

module _ {E : Type 0} where
  known_at : (sites site : ℕ) (b : List ℕ) → AreKnown {E = E} sites site [] b → (j : ℕ) → 1 ≤ j → j ≤ sites → entry b j ≡ 0
  known_at sites site b h j least most = ⊎_elim
      (λ t. subst (λ k. entry b k ≡ 0) (sym (eqb-true j site t)) (omega (arith, h.own.most)))
      (λ f. h.others j least most (λ k. true≢false (sym (eq-eqb j site k) ∙ f)))
      (cases_Bool (eqb j site))

  -- of a log without a record nothing is known of any site
  known_none : (sites site : ℕ) (b : List ℕ) → AreKnown {E = E} sites site [] b → b ≡ replicate sites 0
  known_none sites site b h = zeros sites b h.width (λ i l. subst (λ k. slice_index b k ≡ 0) (before i) (known_at sites site b h (suc i) (omega arith) (omega (arith, l))))

  -- what comes up with no record is new
  pub new_stands : {D : Type 0} (codec : Codec E) (state : D → DiskState) (t : Durable E D) (sites parts site : ℕ) (b : List ℕ) → AreKnown {E = E} sites site [] b → StandsOn codec state t (resumed sites parts b []) → StandsOn codec state t (new_part sites parts)
  new_stands codec state t sites parts site b h s = subst (λ l. StandsOn codec state t (resumed sites parts l [])) (known_none sites site b h) s
