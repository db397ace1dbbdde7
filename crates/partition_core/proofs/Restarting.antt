-- A restart is a restart of the rules.
use Rattle.std.proofs.Common.{◌≡◌, ◌≢◌, ⊎_elim, ℕ, true, false, ◌||◌, List, [], ◌∷◌, map, Some, Result, Err, refl, sym, ap, ◌∙◌, subst}
use Rattle.std.specs.Prelude.{IsTrue}
use Rattle.std.proofs.lemmas.Bool.{cases_Bool}
use Rattle.disk_core.specs.States.{DiskState, GoesOn, Fails}
use Rattle.disk_core.specs.Moments.{AtEachMoment}
use Rattle.gate_log.specs.Rest.{Lowers}
use Rattle.gate_log.specs.declared.log.GateLog.{GateLog}
use Rattle.gate_log.specs.Logs.{disk_of, is_closed}
use Rattle.partition_log.specs.Codec.{Codec}
use Rattle.partition_log.specs.Logs.{HasRecords, HoldsFront, LeavesFront}
use Rattle.site_vector.specs.declared.ids.PartId.{PartId}
use Rattle.site_vector.specs.declared.ids.TxId.{TxId}
use Rattle.site_vector.specs.Ids.{same_tx}
use Rattle.crdt_core.specs.declared.record.Record.{Record}
use Rattle.crdt_core.specs.KindsOf.{Kinds}
use Rattle.crdt_core.specs.Log.{MayFind, grown}
use Rattle.crdt_core.specs.Orders.{Ascends, Precede, pending_cmp}
use Rattle.prepared_table.specs.declared.entry.Entry.{Entry}
use Rattle.prepared_table.specs.Entries.{has_entry, entry_cmp}
use Rattle.log_recovery.specs.declared.recovery.Rebuilt.{Rebuilt}
use Rattle.log_recovery.specs.Rising.{Rises}
use Rattle.log_recovery.specs.Told.{IsToldBy}
use Rattle.log_recovery.specs.RisingLaws.{found_rises}
use Rattle.world_model.specs.rules.Event.{RestartCut, attempt}
use Rattle.world_model.specs.rules.Event as event
use Rattle.world_model.specs.rules.Partition.{PartState, AreTimed, down, records}
use Rattle.world_model.specs.lines.Listed.{names_pending}
use Rattle.partition_core.specs.Durable.{Durable, StandsOn, disk_in, is_down}
use Rattle.partition_core.specs.Moments.{SteppedOn, underway}
use Rattle.partition_core.specs.Recovered.{resumed}
use Rattle.partition_core.specs.Restarts.{StaysDown, ComesUp, RestartsOn}
use Rattle.partition_core.specs.declared.restart.Restarted.{Restarted}
use Rattle.partition_core.specs.declared.restart.RestartError.{RestartError}
use Rattle.partition_core.specs.declared.restart.RestartError.TheVariants as restart
use Rattle.partition_core.specs.Stands.{AreEntries, Stands, told}
use Rattle.partition_core.specs.Tables.{Tables, IsSame}
use Rattle.partition_core.specs.Unfit.{IsUnfitAt}
use Rattle.partition_core.proofs.Durably.{stands_up, stands_down, up_stands, down_stands, underway_up, underway_down, images, at_last}
use Rattle.partition_core.proofs.Logged.{on_disk}

abbrev failing : {A X : Type 0} → X → Result A X
failing e = Err e

-- what is told of a place is told of the same place
pub same_place : {E : Type 0} (P : ℕ → ℕ → PartId → Type 0) (i : PartId) (n m : ℕ) (t : Tables E) → (i ≡ t.id) × (n ≡ t.sites) × (m ≡ t.parts) → P n m i → P t.sites t.parts t.id
same_place P i n m t e h = subst (λ j. P t.sites t.parts j) e.0 (subst (λ k. P t.sites k i) e.2 (subst (λ k. P k m i) e.1 h))

pub same_tables : {E : Type 0} (old new : Tables E) → new.id ≡ old.id → new.sites ≡ old.sites → new.parts ≡ old.parts → IsSame old new
same_tables old new a b c = record { id = a; sites = b; parts = c }

module _ {E : Type 0} where
  abbrev listed_of : List (Entry E) → List (TxId × ℕ)
  listed_of xs = map (λ x. (x.tx, x.time)) xs

  pub listed_same : (listed : List (TxId × ℕ)) (xs ys : List (Entry E)) → listed ≡ listed_of xs → xs ≡ ys → listed ≡ listed_of ys
  listed_same listed xs ys e f = e ∙ ap listed_of f

  names_all : (xs : List (Entry E)) (t : TxId) → names_pending (listed_of xs) t ≡ has_entry xs t
  names_all [] t = refl
  names_all (x ∷ xs) t = ap (λ b. same_tx x.tx t || b) (names_all xs t)

  timed_all : (log : List (Record E)) (xs : List (Entry E)) → AreEntries (told log) xs → AreTimed log (listed_of xs)
  timed_all log [] h = tt
  timed_all log (x ∷ xs) h = (ap (λ y. y.0) h.0, timed_all log xs h.1)

  precedes_all : (x : Entry E) (xs : List (Entry E)) → Precede entry_cmp x xs → Precede pending_cmp (x.tx, x.time) (listed_of xs)
  precedes_all x [] h = tt
  precedes_all x (y ∷ ys) h = (h.0, precedes_all x ys h.1)

  ordered_all : (xs : List (Entry E)) → Ascends entry_cmp xs → Ascends pending_cmp (listed_of xs)
  ordered_all [] h = tt
  ordered_all (x ∷ xs) h = (precedes_all x xs h.0, ordered_all xs h.1)

module _ {S E D : Type 0} (kinds : Kinds S E) (codec : Codec E) (state : D → DiskState) (old : Durable E D) where
  -- what every crash leaves of a partition, whether it is up or down
  pub record Leaves (p : PartState E) : Type 0 where
    pub front : LeavesFront codec p.log p.torn (disk_in state old)
    pub rises : Rises (grown p.log p.torn)

  pub leaves : (p : PartState E) → StandsOn codec state old p → Leaves p
  leaves p h = ⊎_elim
      (λ (d : is_down old ≡ true). let s = stands_down codec state old p d h in record { front = record { tells = s.tells; each = s.images }; rises = s.rises })
      (λ (u : is_down old ≡ false). let s = stands_up codec state old p u h in record {
        front = record { tells = s.log.is_open.at_rest.tells; each = images kinds codec state old (λ p. Unit {0}) u p p.torn s.log };
        rises = subst (λ l. Rises (grown p.log l)) (sym s.tables.whole) s.rises;
      })
      (cases_Bool (is_down old))

  -- nothing of a restart is written
  none_underway : (p : PartState E) (e : event.Event E) → records p (attempt e) ≡ [] → (p.up ≡ true → p.torn ≡ []) → underway p e ≡ p.torn
  none_underway p e none whole = ⊎_elim (λ (u : p.up ≡ true). underway_up p e u ∙ none ∙ sym (whole u)) (λ (d : p.up ≡ false). underway_down p e d) (cases_Bool p.up)

  up_whole : (p : PartState E) → StandsOn codec state old p → p.up ≡ true → p.torn ≡ []
  up_whole p h u = ⊎_elim
      (λ (d : is_down old ≡ true). absurd (let a = (stands_down codec state old p d h).down in let e : true ≡ false = sym u ∙ a in cc))
      (λ (k : is_down old ≡ false). (stands_up codec state old p k h).tables.whole)
      (cases_Bool (is_down old))

  module _ (new : Durable E D) (moments : (l torn : List (Record E)) → LeavesFront codec l torn (disk_in state old) → AtEachMoment (disk_in state old).story (disk_in state new).story (HoldsFront codec l torn)) (tells : (disk_in state new).tells ≡ (disk_in state old).tells) where
    still_moments : (p : PartState E) → StandsOn codec state old p → (e : event.Event E) → records p (attempt e) ≡ [] → AtEachMoment (disk_in state old).story (disk_in state new).story (HoldsFront codec p.log (underway p e))
    still_moments p h e none = subst (λ l. AtEachMoment (disk_in state old).story (disk_in state new).story (HoldsFront codec p.log l)) (sym (none_underway p e none (up_whole p h))) (moments p.log p.torn (leaves p h).front)

    -- it stays down
    pub cut_step : is_down new ≡ true → (p : PartState E) → StandsOn codec state old p → SteppedOn kinds codec state old new p (λ e. e ≡ RestartCut)
    cut_step d p h =
        let s = leaves p h in record {
          event = RestartCut;
          after = down p p.torn;
          shows = refl;
          step = refl;
          stands = down_stands codec state new (down p p.torn) d (record { down = refl; tells = subst IsTrue (sym tells) s.front.tells; images = at_last (disk_in state old).story (disk_in state new).story (HoldsFront codec p.log p.torn) (moments p.log p.torn s.front); rises = s.rises });
          moments = still_moments p h RestartCut refl;
        }

    -- it comes up with what it found
    module _ (up : is_down new ≡ false) (read : List (Record E)) (finds : (l torn : List (Record E)) → LeavesFront codec l torn (disk_in state old) → MayFind l torn read × HasRecords codec state new.gates read)
        (rebuilt : Rebuilt E) (tells_it : IsToldBy old.tables.sites old.tables.parts old.tables.id read rebuilt) (stands : Rises read → Stands new.tables (resumed old.tables.sites old.tables.parts rebuilt.bounds read)) (listed : List (TxId × ℕ)) (lists_it : listed ≡ map (λ x. (x.tx, x.time)) new.tables.pending) where
      pub up_step : (p : PartState E) → StandsOn codec state old p → SteppedOn kinds codec state old new p (λ e. e ≡ event.Restarted rebuilt.ceiling rebuilt.bounds rebuilt.last_decided listed)
      up_step p h =
          let s = leaves p h in
          let f = finds p.log p.torn s.front in
          let rises : Rises read = found_rises p.log p.torn read s.rises f.0 in
          let stood = stands rises in
          let q : PartState E = resumed old.tables.sites old.tables.parts rebuilt.bounds read in
          let own = tells_it.bounds.own in record {
            event = event.Restarted rebuilt.ceiling rebuilt.bounds rebuilt.last_decided listed;
            after = q;
            shows = refl;
            step = record {
              found = f.0;
              fits = tells_it.fits;
              up = refl;
              whole = refl;
              clock = refl;
              width = tells_it.bounds.width;
              bounds = λ j o. tells_it.bounds.others j o.least o.most o.apart;
              heard = refl;
              sent = refl;
              shown = tells_it.ceiling;
              shown_bounds = record { width = tells_it.bounds.width; own = record { most = own.most; below = own.below; reached = own.reached }; others = λ j o. refl };
              last = tells_it.last;
              members = λ t. ap (λ l. names_pending l t) lists_it ∙ names_all new.tables.pending t ∙ stood.tells.table.members t;
              timed = subst (λ l. AreTimed read l) (sym lists_it) (timed_all read new.tables.pending stood.tells.table.exact);
              order = subst (λ l. Ascends pending_cmp l) (sym lists_it) (ordered_all new.tables.pending stood.tells.table.order);
            };
            stands = up_stands codec state new q up (record { tables = stood; log = f.1; rises = rises });
            moments = still_moments p h (event.Restarted rebuilt.ceiling rebuilt.bounds rebuilt.last_decided listed) refl;
          }

  -- ---- its answers

  module _ (g : GateLog D) (goes_on : GoesOn (disk_in state old) (state (disk_of g))) (left : Lowers 3 (disk_in state old).left (state (disk_of g)).left)
      (moments : (l torn : List (Record E)) → LeavesFront codec l torn (disk_in state old) → AtEachMoment (disk_in state old).story (state (disk_of g)).story (HoldsFront codec l torn)) where
    pub stays : (t : Tables E) → IsSame old.tables t → StaysDown kinds codec state old (on_disk t g true)
    stays t same = record {
      reads = record { same = same; goes_on = goes_on; left = left };
      down = refl;
      step = cut_step (on_disk t g true) moments goes_on.tells refl;
    }

    -- what a restart may find is a log whose first record that doesn't fit lies there
    abbrev pub FoundUnfit : ℕ → Type 0
    FoundUnfit at = (l torn : List (Record E)) → LeavesFront codec l torn (disk_in state old) → (found : List (Record E)) × MayFind l torn found × IsUnfitAt codec old.tables.sites old.tables.parts old.tables.id found at

    pub unread : {A : Type 0} (t : Tables E) → IsSame old.tables t → (e : RestartError) → (failing {A = A} e ≡ Err restart.Disk → Fails (disk_in state old) (state (disk_of g))) → ((at : ℕ) → failing {A = A} e ≡ Err (restart.Damaged at) → FoundUnfit at)
        → RestartsOn kinds codec state old (on_disk t g true) (Err e)
    unread t same restart.Disk failed damaged = (failed refl, stays t same)
    unread t same (restart.Damaged at) failed damaged = (stays t same, λ p h. let f = damaged at refl p.log p.torn (leaves p h).front in record { log = f.0; found = f.1; unfit = f.2 })
    unread t same restart.NoMemory failed damaged = stays t same

    module _ (read : List (Record E)) (finds : (l torn : List (Record E)) → LeavesFront codec l torn (disk_in state old) → MayFind l torn read × HasRecords codec state g read) where
      pub comes_up : is_closed g ≡ false → (state (disk_of g)).left ≢ Some 0 → (t : Tables E) → IsSame old.tables t → (rebuilt : Rebuilt E) → IsToldBy old.tables.sites old.tables.parts old.tables.id read rebuilt → (Rises read → Stands t (resumed old.tables.sites old.tables.parts rebuilt.bounds read))
          → (listed : List (TxId × ℕ)) → listed ≡ map (λ x. (x.tx, x.time)) t.pending
          → ComesUp kinds codec state old (on_disk t g false) (record { now = rebuilt.ceiling; bounds = rebuilt.bounds; decided = rebuilt.last_decided; pending = listed })
      comes_up still_open unfired t same rebuilt tells_it stands listed lists_it = record {
        reads = record { same = same; goes_on = goes_on; left = left };
        up = still_open;
        unfired = unfired;
        step = up_step (on_disk t g false) moments goes_on.tells still_open read finds rebuilt tells_it stands listed lists_it;
      }

module _ {S E D : Type 0} (kinds : Kinds S E) (codec : Codec E) (state : D → DiskState) where
  pub opened_restart : (v t new : Durable E D) (r : Result Restarted RestartError) → v ≡ t → RestartsOn kinds codec state v new r → RestartsOn kinds codec state t new r
  opened_restart v t new r e h = subst (λ x. RestartsOn kinds codec state x new r) e h

  pub opened_up : (v t new : Durable E D) (r : Restarted) → v ≡ t → ComesUp kinds codec state v new r → ComesUp kinds codec state t new r
  opened_up v t new r e h = subst (λ x. ComesUp kinds codec state x new r) e h
