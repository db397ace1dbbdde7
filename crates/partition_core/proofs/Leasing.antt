-- What a lease changes: the ceiling alone.
use Rattle.std.proofs.Common.{◌≡◌, ℕ, ◌+◌, ◌≤◌, leb, max, true, false, List, [], ◌∷◌, refl, sym, ap, ◌∙◌, subst, arith}
use Rattle.std.specs.Prelude.{if◌then◌else◌, min, Result}
use Rattle.crdt_core.specs.declared.record.Part.{Part}
use Rattle.crdt_core.specs.declared.record.Record.{Record}
use Rattle.crdt_core.specs.declared.record.Record.TheVariants.{Lease}
use Rattle.crdt_core.specs.KindsOf.{Kinds}
use Rattle.crdt_core.specs.Log.{end_of_time, ceiling, lease_for, grown}
use Rattle.prepared_table.specs.declared.entry.Entry.{Entry}
use Rattle.world_model.specs.rules.Event.{Event, Ask, Refusal, Refused, Ticked}
use Rattle.world_model.specs.rules.Partition.{PartState, IsRefused, done}
use Rattle.partition_core.specs.Tables.{Tables}
use Rattle.partition_core.specs.Stands.{Tells, Stands}
use Rattle.partition_core.specs.Steps.{Anything, Steps}
use Rattle.partition_core.specs.declared.answers.Refusal as answers
use Rattle.partition_core.specs.Answers.{Answered}
use Rattle.partition_core.specs.Leases.{leased, at_time, showing}

module _ {E : Type 0} where
  -- what holds with any lease and with none
  pub by_lease : (P : List (Record E) → Type 0) (log : List (Record E)) (n : ℕ) → ((c : ℕ) → P (Lease c ∷ log)) → P log → P (grown log (lease_for log n))
  by_lease P log n f h = elim (leb n (ceiling log)) as (λ b. P (grown log (if b then [] else Lease (min (n + 1000) end_of_time) ∷ []))) [ true ↦ h | false ↦ f (min (n + 1000) end_of_time) ]

  pub lease_tells : (log : List (Record E)) (n site m : ℕ) (xs : List (Entry E)) (ys : List (Part E)) → Tells log site m xs ys → Tells (grown log (lease_for log n)) site m xs ys
  lease_tells log n site m xs ys h = by_lease (λ l. Tells l site m xs ys) log n (λ c. record {
    table = record { order = h.table.order; members = h.table.members; exact = h.table.exact };
    store = record { order = h.store.order; members = h.store.members; exact = h.store.exact };
    passed = h.passed;
    timed = h.timed;
    waiting = h.waiting;
    ended = h.ended;
    brought = h.brought;
  }) h

  pub later_tells : (log : List (Record E)) (site m n : ℕ) (xs : List (Entry E)) (ys : List (Part E)) → m ≤ n → Tells log site m xs ys → Tells log site n xs ys
  later_tells log site m n xs ys l h = record { table = h.table; store = h.store; passed = λ u w. let x = h.passed u w in omega arith; timed = h.timed; waiting = h.waiting; ended = h.ended; brought = h.brought }

  pub lease_ceiling : (log : List (Record E)) (n : ℕ) → ceiling (grown log (lease_for log n)) ≡ leased (ceiling log) n
  lease_ceiling log n = elim (leb n (ceiling log)) as (λ b. ceiling (grown log (if b then [] else Lease (min (n + 1000) end_of_time) ∷ [])) ≡ (if b then ceiling log else min (n + 1000) end_of_time)) [ true ↦ refl | false ↦ refl ]

  -- they stand for the state with a lease for the later clock
  pub later_stands : (t : Tables E) (p : PartState E) (e : Event E) (n c : ℕ) → Stands t p → done p e ≡ record { up = true; now = n; log = grown p.log (lease_for p.log n); torn = []; bounds = p.bounds; heard = p.heard; sent = p.sent } → t.clock ≤ n → c ≡ leased t.ceiling n → Stands (at_time t n c) (done p e)
  later_stands t p e n c h d late k = subst (λ q. Stands (at_time t n c) q) (sym d) (record {
    up = refl;
    whole = refl;
    clock = refl;
    ceiling = lease_ceiling p.log n ∙ ap (λ m. leased m n) h.ceiling ∙ sym k;
    tells = lease_tells p.log n t.id.site n t.pending t.held (later_tells p.log t.id.site t.clock n t.pending t.held late h.tells);
    bounds = h.bounds;
    heard = h.heard;
    sent = h.sent;
  })

module _ {S E : Type 0} (kinds : Kinds S E) where
  -- what was opened is what it was before
  pub opened : (G : PartState E → Type 0) (A : Event E → Type 0) (v t new : Tables E) → v ≡ t → Steps kinds v G A new → Steps kinds t G A new
  opened G A v t new e h = subst (λ x. Steps kinds x G A new) e h

  pub opened_to : (G : PartState E → Type 0) (A : Event E → Type 0) (n : ℕ) (v t : Tables E) → v ≡ t → Steps kinds v G A (showing v n) → Steps kinds t G A (showing t n)
  opened_to G A n v t e h = subst (λ x. Steps kinds x G A (showing x n)) e h

  pub unchanged : (G : PartState E → Type 0) (A : Event E → Type 0) (v t : Tables E) → v ≡ t → Steps kinds v G A v → Steps kinds t G A t
  unchanged G A v t e h = subst (λ x. Steps kinds x G A x) e h

  -- a refusal leaves all as it was
  pub refuses : (G : PartState E → Type 0) (t : Tables E) (asked : Ask E) (why : Refusal) → ((p : PartState E) → Stands t p → IsRefused kinds t.sites t.parts t.id p asked why) → Steps kinds t G (λ e. e ≡ Refused asked why) t
  refuses G t asked why f = record {
    same = record { id = refl; sites = refl; parts = refl };
    step = λ p h g. record { event = Refused asked why; after = p; shows = refl; step = (f p h, refl); stands = h };
  }

  pub ticks : (t : Tables E) (r n c : ℕ) → r ≤ end_of_time → n ≡ max r t.clock → c ≡ leased t.ceiling n → Steps kinds t Anything (λ e. e ≡ Ticked r n) (at_time t n c)
  ticks t r n c low is k = record {
    same = record { id = refl; sites = refl; parts = refl };
    step = λ p h g. record {
      event = Ticked r n;
      after = done p (Ticked r n);
      shows = refl;
      step = (h.up, (is ∙ ap (λ m. max r m) (sym h.clock), low), refl);
      stands = later_stands t p (Ticked r n) n c h refl (omega arith) k;
    };
  }

  pub opened_answer : {A : Type 0} (G : PartState E → Type 0) (asked : Ask E) (Shows : A → Event E → Type 0) (r : Result A answers.Refusal) (v t new : Tables E) → v ≡ t → Answered kinds v G asked Shows r new → Answered kinds t G asked Shows r new
  opened_answer G asked Shows r v t new e h = subst (λ x. Answered kinds x G asked Shows r new) e h
