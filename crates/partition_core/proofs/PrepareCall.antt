-- The call that prepares.
use Rattle.std.proofs.Common.{◌≡◌, ℕ, ◌+◌, ◌<◌, ◌≤◌, true, List, [], refl, sym, ap, ◌∙◌, subst, arith}
use Rattle.site_vector.specs.declared.ids.TxId.{TxId}
use Rattle.site_vector.specs.Vector.{entry}
use Rattle.crdt_core.specs.declared.record.Upd.{Upd}
use Rattle.crdt_core.specs.declared.record.Record.{Record}
use Rattle.crdt_core.specs.declared.record.Record.TheVariants.{Prepare}
use Rattle.crdt_core.specs.KindsOf.{Kinds}
use Rattle.crdt_core.specs.Log.{end_of_time, lease_for, grown}
use Rattle.crdt_core.specs.Orders.{insert_by}
use Rattle.prepared_table.specs.declared.entry.Entry.{Entry}
use Rattle.prepared_table.specs.Entries.{entry_cmp}
use Rattle.prepared_table.specs.Leases.{Lent}
use Rattle.crdt_core.specs.declared.record.Part.{Part}
use Rattle.world_model.specs.rules.Event.{Ballot, led_by, Event, AskPrepare, Prepared, Refused, ClockBehind, ClockAtEnd}
use Rattle.world_model.specs.rules.Partition.{done}
use Rattle.world_model.proofs.Moves.{grown_last}
use Rattle.partition_core.specs.Tables.{Tables}
use Rattle.partition_core.specs.Leases.{leased}
use Rattle.partition_core.specs.Stands.{Stands, IsNew}
use Rattle.partition_core.specs.Steps.{NamesNowhere, Steps}
use Rattle.partition_core.proofs.Leasing.{by_lease, lease_tells, lease_ceiling, refuses}
use Rattle.partition_core.proofs.Preparing.{prepare_tells}

module _ {S E : Type 0} (kinds : Kinds S E) (t : Tables E) where
  pub prepare_early : (tx : TxId) (s : List ℕ) (l : Ballot) (w : List (Upd E)) → t.clock < entry s t.id.site → Steps kinds t (NamesNowhere tx) (λ e. e ≡ Refused (AskPrepare tx s l w) (ClockBehind t.clock)) t
  prepare_early tx s l w k = refuses kinds (NamesNowhere tx) t (AskPrepare tx s l w) (ClockBehind t.clock) (λ p h. (h.up, (sym h.clock, k)))

  pub prepare_late : (tx : TxId) (s : List ℕ) (l : Ballot) (w : List (Upd E)) → entry s t.id.site ≤ t.clock → t.clock ≡ end_of_time → Steps kinds t (NamesNowhere tx) (λ e. e ≡ Refused (AskPrepare tx s l w) ClockAtEnd) t
  prepare_late tx s l w k e = refuses kinds (NamesNowhere tx) t (AskPrepare tx s l w) ClockAtEnd (λ p h. (h.up, (subst (λ n. entry s t.id.site ≤ n) (sym h.clock) k, h.clock ∙ e)))

  -- these entries at a later time
  abbrev pub with_pending : List (Entry E) → ℕ → ℕ → Tables E
  with_pending xs n c = record { id = t.id; sites = t.sites; parts = t.parts; clock = n; ceiling = c; pending = xs; held = t.held; bounds = t.bounds; heard = t.heard; sent = t.sent }

  prepares_entry : (y : Entry E) (c : ℕ) → y.tx.site ≡ t.id.site → entry y.s t.id.site ≤ t.clock → t.clock < end_of_time → y.time ≡ t.clock + 1 → c ≡ leased t.ceiling y.time → Steps kinds t (NamesNowhere y.tx) (λ e. e ≡ Prepared y.tx y.s (led_by y.lead) y.updates y.time) (with_pending (insert_by entry_cmp y t.pending) y.time c)
  prepares_entry y c home reached early is k =
      let event : Event E = Prepared y.tx y.s (led_by y.lead) y.updates y.time in
      let vote : Record E = Prepare y.tx y.lead y.time y.s y.updates in
      let now = with_pending (insert_by entry_cmp y t.pending) y.time c in record {
        same = record { id = refl; sites = refl; parts = refl };
        step = λ p h new.
            let still_new : IsNew (grown p.log (lease_for p.log y.time)) y.tx = by_lease (λ l. IsNew l y.tx) p.log y.time (λ m. record { prepared = new.prepared; committed = new.committed; aborted = new.aborted; taken = new.taken }) new in record {
              event = event;
              after = done p event;
              shows = refl;
              step = (h.up, (subst (λ n. entry y.s t.id.site ≤ n) (sym h.clock) reached, is ∙ ap (λ n. n + 1) (sym h.clock), subst (λ n. n < end_of_time) (sym h.clock) early), refl);
              stands = subst (λ (l : List (Record E)). Stands now (record { up = true; now = y.time; log = l; torn = []; bounds = p.bounds; heard = p.heard; sent = p.sent })) (sym (grown_last p.log (lease_for p.log y.time) vote)) (record {
                up = refl;
                whole = refl;
                clock = refl;
                ceiling = lease_ceiling p.log y.time ∙ ap (λ m. leased m y.time) h.ceiling ∙ sym k;
                tells = prepare_tells (grown p.log (lease_for p.log y.time)) y still_new t.id.site t.clock t.pending t.held (omega arith) home (lease_tells p.log y.time t.id.site t.clock t.pending t.held h.tells);
                bounds = h.bounds;
                heard = h.heard;
                sent = h.sent;
              });
            };
      }

  -- with what the code computed
  pub prepares : (tx : TxId) (s : List ℕ) (l : ℕ) (w v : List (Upd E)) (n c : ℕ) (xs : List (Entry E)) → v ≡ w → tx.site ≡ t.id.site → entry s t.id.site ≤ t.clock → t.clock < end_of_time → n ≡ t.clock + 1 → c ≡ leased t.ceiling n → xs ≡ insert_by entry_cmp (record { tx = tx; lead = l; time = n; s = s; updates = v }) t.pending
      → Steps kinds t (NamesNowhere tx) (λ e. e ≡ Prepared tx s (led_by l) w n) (with_pending xs n c)
  prepares tx s l w v n c xs e home reached early is k put =
      let y : List (Upd E) → Entry E = λ us. record { tx = tx; lead = l; time = n; s = s; updates = us } in
      subst (λ ys. Steps kinds t (NamesNowhere tx) (λ e. e ≡ Prepared tx s (led_by l) w n) (with_pending ys n c)) (sym put)
      (subst (λ u. Steps kinds t (NamesNowhere tx) (λ e. e ≡ Prepared tx s (led_by l) u n) (with_pending (insert_by entry_cmp (y v) t.pending) n c)) e
      (prepares_entry (y v) c home reached early is k))

  -- with the clock that the code has then
  pub prepares_by : (tx : TxId) (s : List ℕ) (l : ℕ) (w v : List (Upd E)) (n : ℕ) (k : Lent) (xs : List (Entry E)) (ps : List (Part E)) → v ≡ w → tx.site ≡ t.id.site → entry s t.id.site ≤ t.clock → t.clock < end_of_time → n ≡ t.clock + 1 → k ≡ record { clock = n; ceiling = leased t.ceiling n } → xs ≡ insert_by entry_cmp (record { tx = tx; lead = l; time = n; s = s; updates = v }) t.pending → ps ≡ t.held
      → Steps kinds t (NamesNowhere tx) (λ e. e ≡ Prepared tx s (led_by l) w n) (record { id = t.id; sites = t.sites; parts = t.parts; clock = k.clock; ceiling = k.ceiling; pending = xs; held = ps; bounds = t.bounds; heard = t.heard; sent = t.sent })
  prepares_by tx s l w v n k xs ps e home reached early is shown put same =
      subst (λ (x : Lent). Steps kinds t (NamesNowhere tx) (λ e. e ≡ Prepared tx s (led_by l) w n) (record { id = t.id; sites = t.sites; parts = t.parts; clock = x.clock; ceiling = x.ceiling; pending = xs; held = ps; bounds = t.bounds; heard = t.heard; sent = t.sent })) (sym shown)
      (subst (λ hs. Steps kinds t (NamesNowhere tx) (λ e. e ≡ Prepared tx s (led_by l) w n) (record { id = t.id; sites = t.sites; parts = t.parts; clock = n; ceiling = leased t.ceiling n; pending = xs; held = hs; bounds = t.bounds; heard = t.heard; sent = t.sent })) (sym same)
      (prepares tx s l w v n (leased t.ceiling n) xs e home reached early is refl put))
