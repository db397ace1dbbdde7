-- The own bound: the first entry tells it.
use Rattle.std.proofs.Common.{◌≡◌, ⊎_elim, inl, inr, ℕ, ◌+◌, ◌-◌, ◌≤◌, true, false, List, [], ◌∷◌, length, None, Some, refl, sym, ap, ◌∙◌, subst, arith}
use Rattle.std.specs.Prelude.{◌==◌, if◌then◌else◌, slice_set}
use Rattle.std.proofs.lemmas.Bool.{true≢false, cases_Bool, or_left}
use Rattle.site_vector.specs.Ids.{same_tx}
use Rattle.site_vector.specs.Order.{same_tx_is, same_tx_refl}
use Rattle.site_vector.specs.Vector.{entry, join, replaced}
use Rattle.site_vector.specs.Known.{vector_of, lowest}
use Rattle.crdt_core.specs.declared.record.Part.{Part}
use Rattle.crdt_core.specs.declared.record.Record.{Record}
use Rattle.crdt_core.specs.KindsOf.{Kinds}
use Rattle.crdt_core.specs.Log.{pending, prepare_time}
use Rattle.prepared_table.specs.declared.entry.Entry.{Entry}
use Rattle.prepared_table.specs.Entries.{has_entry, first_time}
use Rattle.stable_gossip.specs.Gossip as gossip
use Rattle.world_model.specs.rules.Event.{Reported, Heard}
use Rattle.world_model.specs.rules.Partition.{PartState, IsOwnBound, done}
use Rattle.world_model.specs.lines.Places.{IsOther}
use Rattle.partition_core.specs.Tables.{Tables}
use Rattle.partition_core.specs.Bounds.{own_bound, AreStable}
use Rattle.partition_core.specs.Stands.{told, Tells, Stands}
use Rattle.partition_core.specs.Steps.{Anything, Steps}
use Rattle.partition_core.proofs.Choices.{second_true}
use Rattle.partition_core.proofs.EntryLists.{least_of}
use Rattle.partition_core.proofs.Vectors.{entry_replaced, entry_other, width_replaced}

some_is : (m n : ℕ) → Some m ≡ Some n → m ≡ n
some_is m n e = cc

-- what was heard, of as many sites and partitions
pub stable_as : (sites parts part : ℕ) (own : List ℕ) (heard : List (List ℕ)) (v : List ℕ) (n m : ℕ) → n ≡ sites → m ≡ parts → ((j : ℕ) → 1 ≤ j → j ≤ n → entry v j ≡ lowest (gossip.told part own heard j) m) → AreStable sites parts part own heard v
stable_as sites parts part own heard v n m e f least j low high = least j low (omega (arith, e)) ∙ ap (λ k. lowest (gossip.told part own heard j) k) f

module _ {E : Type 0} where
  bound_is : (log : List (Record E)) (site clock : ℕ) (xs : List (Entry E)) (ps : List (Part E)) → Tells log site clock xs ps → IsOwnBound clock log (own_bound clock xs)
  bound_is log site clock [] ps t = record { most = omega arith; below = λ u k. absurd (true≢false (sym k ∙ sym (t.table.members u))); reached = inl refl }
  bound_is log site clock (x ∷ xs) ps t =
      let here : pending log x.tx ≡ true = sym (t.table.members x.tx) ∙ or_left _ _ (same_tx_refl x.tx) in
      let time : x.time ≡ prepare_time log x.tx = ap (λ q. q.0) t.table.exact.0 in
      let low : 1 ≤ x.time = subst (λ n. 1 ≤ n) (sym time) (t.timed x.tx here) in
      let late : x.time ≤ clock = subst (λ n. n ≤ clock) (sym time) (t.passed x.tx here) in record {
        most = omega arith;
        below = λ u k.
            let least : x.time ≤ prepare_time log u = ⊎_elim
            (λ (s : same_tx x.tx u ≡ true). subst (λ n. x.time ≤ n) (time ∙ ap (prepare_time log) (same_tx_is x.tx u s)) (let a : x.time ≤ x.time = omega arith in a))
            (λ (s : same_tx x.tx u ≡ false). least_of (told log) x xs t.table.order.0 t.table.exact.1 u (second_true (same_tx x.tx u) (has_entry xs u) s (t.table.members u ∙ k)))
            (cases_Bool (same_tx x.tx u)) in
            omega arith;
        reached = inr (x.tx, here, sym time ∙ (let a : x.time ≡ x.time - 1 + 1 = omega arith in a));
      }

  pub bounds_own : (t : Tables E) (p : PartState E) (b : ℕ) → Stands t p → b ≡ own_bound t.clock t.pending → IsOwnBound p.now p.log b
  bounds_own t p b h is = subst (λ k. IsOwnBound p.now p.log k) (sym is) (subst (λ k. IsOwnBound k p.log (own_bound t.clock t.pending)) (sym h.clock) (bound_is p.log t.id.site t.clock t.pending t.held h.tells))

  pub bound_by_first : (clock n : ℕ) (xs : List (Entry E)) → Some n ≡ first_time xs → own_bound clock xs ≡ n - 1
  bound_by_first clock n [] e = absurd (let f : Some n ≡ None = e in cc)
  bound_by_first clock n (x ∷ xs) e = ap (λ m. m - 1) (sym (some_is n x.time e))

  pub bound_by_clock : (clock : ℕ) (xs : List (Entry E)) → None ≡ first_time xs → own_bound clock xs ≡ clock
  bound_by_clock clock [] e = refl
  bound_by_clock clock (x ∷ xs) e = absurd (let f : None ≡ Some x.time = e in cc)

module _ {S E : Type 0} (kinds : Kinds S E) (t : Tables E) (own : ℕ) (b : List ℕ) (own_is : own ≡ own_bound t.clock t.pending) (b_is : b ≡ replaced t.bounds t.id.site own) (low : 1 ≤ t.id.site) (high : t.id.site ≤ t.sites) (width : length t.bounds ≡ t.sites) where
  abbrev site : ℕ
  site = t.id.site

  here : entry b site ≡ own
  here = ap (λ v. entry v site) b_is ∙ entry_replaced t.bounds site own low (omega (arith, width))

  there : (p : PartState E) → Stands t p → (j : ℕ) → IsOther t.sites site j → entry b j ≡ entry p.bounds j
  there p h j o = ap (λ v. entry v j) b_is ∙ entry_other t.bounds site own j low o.least o.apart ∙ ap (λ v. entry v j) (sym h.bounds)

  pub reports : Steps kinds t Anything (λ e. e ≡ Reported b) t
  reports = record {
    same = record { id = refl; sites = refl; parts = refl };
    step = λ p h g. record {
      event = Reported b;
      after = done p (Reported b);
      shows = refl;
      step = (
        h.up,
        record {
          width = ap length b_is ∙ width_replaced t.bounds site own ∙ width;
          own = bounds_own t p (entry b site) h (here ∙ own_is);
          others = there p h;
        },
        refl,
      );
      stands = record { up = refl; whole = refl; clock = h.clock; ceiling = h.ceiling; tells = h.tells; bounds = h.bounds; heard = h.heard; sent = h.sent };
    };
  }

  abbrev pub with_heard : List (List ℕ) → Tables E
  with_heard heard = record { id = t.id; sites = t.sites; parts = t.parts; clock = t.clock; ceiling = t.ceiling; pending = t.pending; held = t.held; bounds = t.bounds; heard = heard; sent = t.sent }

  -- a report of this partition, taken into what was heard
  pub hears : (number q : ℕ) (report stable : List ℕ) (heard : List (List ℕ)) → heard ≡ slice_set t.heard (q - 1) (join (vector_of t.heard q) report) → length stable ≡ t.sites → AreStable t.sites t.parts t.id.part b heard stable
      → Steps kinds t Anything (λ e. e ≡ Heard number q report stable) (with_heard heard)
  hears number q report stable heard is wide least = record {
    same = record { id = refl; sites = refl; parts = refl };
    step = λ p h g.
        let now_heard : heard ≡ slice_set p.heard (q - 1) (join (vector_of p.heard q) report) = is ∙ ap (λ hs. slice_set hs (q - 1) (join (vector_of hs q) report)) (sym h.heard) in record {
          event = Heard number q report stable;
          after = done p (Heard number q report stable);
          shows = refl;
          step = (
            h.up,
            record {
              width = wide;
              others = λ j o. least j o.least o.most ∙ (λ i. lowest (λ r. if t.id.part == r then there p h j o i else entry (vector_of (now_heard i) r) j) t.parts);
              own = (own, bounds_own t p own h own_is, least site low high ∙ (λ i. lowest (λ r. if t.id.part == r then here i else entry (vector_of (now_heard i) r) site) t.parts));
            },
            refl,
          );
          stands = record { up = refl; whole = refl; clock = h.clock; ceiling = h.ceiling; tells = h.tells; bounds = h.bounds; heard = sym now_heard; sent = h.sent };
        };
  }
