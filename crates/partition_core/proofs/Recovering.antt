-- The tables of a partition that comes up are those that its log tells of.
use Rattle.std.proofs.Common.{◌≡◌, ℕ, ◌+◌, ◌≤◌, Bool, true, false, ◌||◌, List, [], ◌∷◌, length, None, refl, sym, ap, ◌∙◌, subst, arith}
use Rattle.std.specs.Prelude.{replicate}
use Rattle.std.proofs.lemmas.Bool.{true≢false, false_from_ne_true, or_left, or_right, leb-true}
use Rattle.site_vector.specs.declared.ids.PartId.{PartId}
use Rattle.site_vector.specs.declared.ids.TxId.{TxId}
use Rattle.site_vector.specs.Ids.{same_tx}
use Rattle.site_vector.specs.Order.{same_tx_is, same_tx_refl}
use Rattle.crdt_core.specs.declared.record.Upd.{Upd}
use Rattle.crdt_core.specs.declared.record.Part.{Part}
use Rattle.crdt_core.specs.declared.record.Record.{Record}
use Rattle.crdt_core.specs.declared.record.Record.TheVariants.{Lease, Prepare, Decide, Finish, Abort, Batch}
use Rattle.crdt_core.specs.Fitting.{unfit, unfit_under}
use Rattle.crdt_core.specs.Log.{end_of_time, ceiling, held_at, held_changes}
use Rattle.crdt_core.specs.Orders.{Ascends, insert_by, fold_cmp}
use Rattle.crdt_core.specs.Parts.{lists, AreParts}
use Rattle.prepared_table.specs.declared.entry.Entry.{Entry}
use Rattle.prepared_table.specs.Entries.{has_entry, entry_cmp}
use Rattle.effect_store.specs.Stored.{Stored}
use Rattle.log_recovery.specs.declared.recovery.Rebuilt.{Rebuilt}
use Rattle.log_recovery.specs.Lists as recovery
use Rattle.log_recovery.specs.FittingLaws.{rest_fits, last_fits, pending_home, committed_home, taken_away, pending_unheld, pending_under}
use Rattle.log_recovery.specs.Rising.{Rises}
use Rattle.partition_core.specs.Messages.{AreApart, AreWideParts, CanPut, inserted, updates_in}
use Rattle.log_recovery.specs.Told.{IsToldBy}
use Rattle.partition_core.specs.Recovered.{IsTableOf, resumed}
use Rattle.partition_core.specs.Sound.{AreSingle, HasRoom, updates_pending}
use Rattle.partition_core.specs.Stands.{AreEntries, Tells, Stands}
use Rattle.partition_core.specs.Tables.{Tables}
use Rattle.partition_core.proofs.Choices.{or_falses}
use Rattle.partition_core.proofs.EntryLists.{has_inserted, entries_inserted}
use Rattle.partition_core.proofs.PartLists.{fold_total, fold_apart, parts_inserted}
use Rattle.partition_core.proofs.Rooms.{single_inserted, updates_inserted}
use Rattle.partition_core.proofs.Sorting.{ascends_inserted}
use Rattle.partition_core.proofs.Taking.{lists_all}

-- a swap of three
swapped_or : (a b c d : Bool) → d ≡ ((a || b) || c) → d ≡ (b || (a || c))
swapped_or true true c d h = h
swapped_or true false c d h = h
swapped_or false true c d h = h
swapped_or false false c d h = h

or_none : (b : Bool) → b ≡ (b || false)
or_none true = refl
or_none false = refl

module _ {E : Type 0} where
  -- these are left of the entries, and the others stand in the table
  pub record IsFilling (entries left table : List (Entry E)) (promised room : ℕ) : Type 0 where
    pub members : (u : TxId) → has_entry entries u ≡ (has_entry left u || has_entry table u)
    pub exact : (tells : TxId → ℕ × ℕ × List ℕ × List (Upd E)) → recovery.AreEntries tells entries → recovery.AreEntries tells left × AreEntries tells table
    pub apart : (u : TxId) → has_entry left u ≡ true → has_entry table u ≡ false
    pub single_left : recovery.AreSingle left
    pub single : AreSingle table
    pub order : Ascends entry_cmp table
    pub counted : promised ≡ updates_pending table
    pub enough : length left ≤ room

  pub filling_starts : (entries left table : List (Entry E)) (room : ℕ) → left ≡ entries → table ≡ [] → recovery.AreSingle entries → length entries ≤ room → IsFilling entries left table 0 room
  filling_starts entries left table room e f single fits = subst (λ l. IsFilling entries l table 0 room) (sym e) (subst (λ t. IsFilling entries entries t 0 room) (sym f) (record {
    members = λ u. or_none (has_entry entries u);
    exact = λ tells h. (h, tt);
    apart = λ u k. refl;
    single_left = single;
    single = tt;
    order = tt;
    counted = refl;
    enough = fits;
  }))

  pub filling_more : (entries left : List (Entry E)) (x : Entry E) (rest table after : List (Entry E)) (promised all room now : ℕ) → left ≡ x ∷ rest → IsFilling entries left table promised room
      → after ≡ insert_by entry_cmp x table → Ascends entry_cmp after → all ≡ promised + length x.updates → now + 1 ≡ room → IsFilling entries rest after all now
  filling_more entries left x rest table after promised all room now e f put order sum less =
      let h : IsFilling entries (x ∷ rest) table promised room = subst (λ l. IsFilling entries l table promised room) e f in
      let out : has_entry table x.tx ≡ false = h.apart x.tx (or_left (same_tx x.tx x.tx) (has_entry rest x.tx) (same_tx_refl x.tx)) in
      let has : (u : TxId) → has_entry after u ≡ (same_tx x.tx u || has_entry table u) = λ u. ap (λ l. has_entry l u) put ∙ has_inserted x table u in record {
        members = λ u. swapped_or (same_tx x.tx u) (has_entry rest u) (has_entry table u) (has_entry entries u) (h.members u) ∙ ap (λ b. has_entry rest u || b) (sym (has u));
        exact = λ tells k. let both = h.exact tells k in (both.0.1, subst (λ l. AreEntries tells l) (sym put) (entries_inserted tells x table both.1 both.0.0));
        apart = λ u k. has u ∙ or_falses _ _ (false_from_ne_true (same_tx x.tx u) (λ s. true≢false (sym k ∙ ap (λ v. has_entry rest v) (sym (same_tx_is x.tx u s)) ∙ h.single_left.0))) (h.apart u (or_right (same_tx x.tx u) (has_entry rest u) k));
        single_left = h.single_left.1;
        single = subst AreSingle (sym put) (single_inserted x table h.single out);
        order = order;
        counted = let a = h.counted in let b = updates_inserted x table in sum ∙ (let d : promised + length x.updates ≡ updates_pending (insert_by entry_cmp x table) = omega arith in d) ∙ ap updates_pending (sym put);
        enough = let a = h.enough in omega (arith, a, less);
      }

  -- the first of those that are left may be added
  pub filling_fits : (entries left : List (Entry E)) (x : Entry E) (rest table : List (Entry E)) (promised room : ℕ) → left ≡ x ∷ rest → IsFilling entries left table promised room → (1 ≤ room) × (has_entry table x.tx ≡ false)
  filling_fits entries left x rest table promised room e f =
      let h : IsFilling entries (x ∷ rest) table promised room = subst (λ l. IsFilling entries l table promised room) e f in
      let a = h.enough in
      (omega (arith, a), h.apart x.tx (or_left (same_tx x.tx x.tx) (has_entry rest x.tx) (same_tx_refl x.tx)))

  pub none_left : (xs : List (Entry E)) → length xs ≡ 0 → xs ≡ []
  none_left [] h = refl
  none_left (x ∷ xs) h = absurd (omega (arith, h))

  pub filling_ends : (entries left table : List (Entry E)) (promised room : ℕ) → left ≡ [] → IsFilling entries left table promised room → IsTableOf entries table promised
  filling_ends entries left table promised room e f =
      let h : IsFilling entries [] table promised room = subst (λ l. IsFilling entries l table promised room) e f in record {
        members = λ u. sym (h.members u);
        exact = λ tells k. (h.exact tells k).1;
        single = h.single;
        order = h.order;
        counted = h.counted;
      }

  -- ---- what is held

  same_apart : (xs : List (Part E)) → recovery.AreApart xs → AreApart xs
  same_apart [] h = tt
  same_apart (x ∷ xs) h = (h.0, same_apart xs h.1)

  same_wide : (sites : ℕ) (xs : List (Part E)) → recovery.AreWideParts sites xs → AreWideParts sites xs
  same_wide sites [] h = tt
  same_wide sites (x ∷ xs) h = (h.0, same_wide sites xs h.1)

  lists_put : (xs : List (Part E)) (u : TxId) → lists (inserted xs []) u ≡ lists xs u
  lists_put xs u = lists_all xs [] u ∙ sym (or_none (lists xs u))

  put_order : (xs : List (Part E)) → AreApart xs → Ascends fold_cmp (inserted xs [])
  put_order [] a = tt
  put_order (x ∷ xs) a = ascends_inserted fold_cmp fold_total x (inserted xs []) (put_order xs a.1) (fold_apart x (inserted xs []) (lists_put xs x.tx ∙ a.0))

  put_exact : (v : TxId → List ℕ) (c : TxId → List (Upd E)) (xs : List (Part E)) → AreParts v c xs → AreParts v c (inserted xs [])
  put_exact v c [] h = tt
  put_exact v c (x ∷ xs) h = parts_inserted fold_cmp v c x (inserted xs []) (put_exact v c xs h.1) h.0

  -- no ceiling of a log that fits passes the end of time
  low_ceiling : (sites parts : ℕ) (id : PartId) (top : ℕ) (log : List (Record E)) → unfit_under sites parts id top log ≡ None → ceiling log ≤ end_of_time
  low_ceiling sites parts id top [] f = omega arith
  low_ceiling sites parts id top (Lease n ∷ log) f = leb-true n end_of_time (last_fits sites parts id top (Lease n) log f)
  low_ceiling sites parts id top (Prepare t l n s w ∷ log) f = low_ceiling sites parts id top log (rest_fits sites parts id top (Prepare t l n s w) log f)
  low_ceiling sites parts id top (Decide t c ∷ log) f = low_ceiling sites parts id top log (rest_fits sites parts id top (Decide t c) log f)
  low_ceiling sites parts id top (Finish t c ∷ log) f = low_ceiling sites parts id top log (rest_fits sites parts id top (Finish t c) log f)
  low_ceiling sites parts id top (Abort t ∷ log) f = low_ceiling sites parts id top log (rest_fits sites parts id top (Abort t) log f)
  low_ceiling sites parts id top (Batch m ∷ log) f = low_ceiling sites parts id top log (rest_fits sites parts id top (Batch m) log f)

  pub ceiling_ends : (sites parts : ℕ) (id : PartId) (log : List (Record E)) → unfit sites parts id log ≡ None → ceiling log ≤ end_of_time
  ceiling_ends sites parts id log f = low_ceiling sites parts id (ceiling log) log f

  module _ (sites parts : ℕ) (id : PartId) (log : List (Record E)) (told : Rebuilt E) (h : IsToldBy sites parts id log told) (table : List (Entry E)) (promised : ℕ) (filled : IsTableOf told.pending table promised) where
    -- what is pending began at the site
    pub recovered_home : (u : TxId) → has_entry table u ≡ true → u.site ≡ id.site
    recovered_home u k = (pending_home sites parts id (ceiling log) log h.fits u (sym (filled.members u ∙ h.pending.members u) ∙ k)).home

    -- the store can take what is committed
    pub recovered_fits : (committed : List (Part E)) (store : Stored E) (count : ℕ) → committed ≡ told.committed → store.parts ≡ [] → store.sites ≡ sites → count + length committed ≤ store.room → promised + updates_in committed ≤ store.update_room → CanPut committed store
    recovered_fits committed store count e none width room update_room = subst (λ l. CanPut l store) (sym e) (record {
      room = let a = ap length e in omega (arith, a, room);
      update_room = let a = ap updates_in e in omega (arith, a, update_room);
      apart = same_apart told.committed h.committed.apart;
      fresh = λ u k. ap (λ l. lists l u) none;
      wide = subst (λ n. AreWideParts n told.committed) (sym width) (same_wide sites told.committed h.committed.wide);
    })

    -- and has room for what is pending
    pub recovered_room : (committed : List (Part E)) (old store : Stored E) (count : ℕ) → committed ≡ told.committed → count ≡ length table → store.parts ≡ inserted committed old.parts → old.parts ≡ [] → store.room + length committed ≡ old.room → store.update_room + updates_in committed ≡ old.update_room
        → count + length committed ≤ old.room → promised + updates_in committed ≤ old.update_room → HasRoom table promised store
    recovered_room committed old store count e counted put none room update_room enough enough_updates = record {
      single = filled.single;
      apart = λ u k. ap (λ l. lists l u) put ∙ ap (λ l. lists (inserted committed l) u) none ∙ lists_put committed u ∙ ap (λ l. lists l u) e ∙ h.committed.members u ∙ pending_unheld sites parts id (ceiling log) log h.fits u (sym (filled.members u ∙ h.pending.members u) ∙ k);
      counted = filled.counted;
      room = omega (arith, counted, room, enough);
      update_room = omega (arith, update_room, enough_updates);
    }

    recovered_tells : (held : List (Part E)) → held ≡ inserted told.committed [] → Rises log → Tells log id.site (ceiling log) table held
    recovered_tells held put rises = subst (λ l. Tells log id.site (ceiling log) table l) (sym put) (record {
      table = record { order = filled.order; members = λ u. filled.members u ∙ h.pending.members u; exact = filled.exact (recovery.told log) h.pending.exact };
      store = record { order = put_order told.committed (same_apart told.committed h.committed.apart); members = λ u. lists_put told.committed u ∙ h.committed.members u; exact = put_exact (held_at log) (held_changes log) told.committed h.committed.exact };
      passed = pending_under sites parts id (ceiling log) log h.fits;
      timed = λ u k. (pending_home sites parts id (ceiling log) log h.fits u k).timed;
      waiting = λ u k. (pending_home sites parts id (ceiling log) log h.fits u k).home;
      ended = λ u k. (committed_home sites parts id (ceiling log) log h.fits u k).home;
      brought = λ u k. (taken_away sites parts id (ceiling log) log h.fits u k).away;
    })

    pub recovered_stands : (t : Tables E) → t.id ≡ id → t.clock ≡ told.ceiling → t.ceiling ≡ told.ceiling → t.pending ≡ table → t.held ≡ inserted told.committed [] → t.bounds ≡ told.bounds → t.heard ≡ replicate parts (replicate sites 0) → t.sent ≡ replicate sites 0 → Rises log → Stands t (resumed sites parts told.bounds log)
    recovered_stands t is clock lent waits held bounds heard sent rises =
        let clock_is : t.clock ≡ ceiling log = clock ∙ h.ceiling in record {
          up = refl;
          whole = refl;
          clock = sym clock_is;
          ceiling = sym (lent ∙ h.ceiling);
          tells = subst (λ i. Tells log i.site t.clock t.pending t.held) (sym is) (subst (λ n. Tells log id.site n t.pending t.held) (sym clock_is) (subst (λ l. Tells log id.site (ceiling log) l t.held) (sym waits) (recovered_tells t.held held rises)));
          bounds = sym bounds;
          heard = sym heard;
          sent = sym sent;
        }
