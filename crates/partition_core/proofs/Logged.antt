-- What the calls of a partition on its disk write, and what they would have written.
use Rattle.std.proofs.Common.{◌≡◌, ⊎_elim, ℕ, ◌+◌, ◌<◌, ◌≤◌, max, Bool, true, false, ◌||◌, List, [], ◌∷◌, ◌++◌, Option, Result, Ok, Err, refl, sym, ap, ◌∙◌, subst, arith}
use Rattle.std.specs.Prelude.{if◌then◌else◌}
use Rattle.std.proofs.lemmas.Bool.{true≢false, cases_Bool}
use Rattle.disk_core.specs.States.{DiskState}
use Rattle.disk_core.specs.Moments.{EachImage}
use Rattle.disk_core.proofs.Moments.{at_first}
use Rattle.gate_log.specs.Logs.{IsReady}
use Rattle.gate_log.specs.declared.log.GateLog.{GateLog}
use Rattle.gate_log.specs.declared.error.AppendError.{AppendError}
use Rattle.partition_log.specs.Codec.{Codec}
use Rattle.partition_log.specs.Appends.{Appends}
use Rattle.partition_log.specs.Logs.{HoldsFront}
use Rattle.partition_log.specs.Gates.{leases}
use Rattle.site_vector.specs.declared.ids.TxId.{TxId}
use Rattle.site_vector.specs.Vector.{entry}
use Rattle.crdt_core.specs.declared.object.ObjectId.{ObjectId}
use Rattle.crdt_core.specs.declared.operation.Op.{Op}
use Rattle.crdt_core.specs.declared.value.Value.{Value}
use Rattle.crdt_core.specs.declared.record.Part.{Part}
use Rattle.crdt_core.specs.declared.record.Upd.{Upd}
use Rattle.crdt_core.specs.declared.record.Message.{Message}
use Rattle.crdt_core.specs.declared.record.Record.{Record}
use Rattle.crdt_core.specs.declared.record.Record.TheVariants.{Prepare, Decide, Finish, Abort}
use Rattle.crdt_core.specs.KindsOf.{Kinds}
use Rattle.crdt_core.specs.Log.{end_of_time, lease_for, grown, pending, committed, committed_at}
use Rattle.crdt_core.specs.Parts.{above}
use Rattle.log_recovery.specs.Rising.{Rises}
use Rattle.log_recovery.specs.RisingLaws.{lease_rises}
use Rattle.world_model.proofs.Moves.{grown_last}
use Rattle.prepared_table.specs.Entries.{has_entry}
use Rattle.world_model.specs.lines.Lines.{Wish}
use Rattle.world_model.specs.rules.Event.{led_by, Ask, AskTick, AskBegin, AskPrepare, AskDecide, AskFinish, AskAbort, AskTake, Event, Refused, HasNoRoom, Ticked, Began, Prepared, Decided, Finished, Aborted, Took, Sent, Reported, Heard, Updated, Crashed, attempt}
use Rattle.world_model.specs.rules.Event as event
use Rattle.world_model.specs.rules.Partition.{PartState, PartStep, MayDo, IsDue, IsBegin, IsRefused, records, down, batch_of, fate_of, ToldDown, ToldPending, ToldCommitted, ToldAborted}
use Rattle.world_model.proofs.Enough.{begin_enough}
use Rattle.partition_core.specs.declared.durable.DurableError.{DurableError}
use Rattle.partition_core.specs.declared.answers.Refusal.{Refusal}
use Rattle.partition_core.specs.declared.answers.Refusal.TheVariants as answer
use Rattle.partition_core.specs.declared.answers.CallError.{CallError}
use Rattle.partition_core.specs.declared.answers.CallError.TheVariants as tables
use Rattle.partition_core.specs.Answers.{cause, Called}
use Rattle.partition_core.specs.Durable.{Durable, StandsUp, StandsDown, StandsOn, disk_in, is_down}
use Rattle.partition_core.specs.Leases.{wanted, leased, lease_at, showing}
use Rattle.partition_core.specs.Moments.{SteppedOn, StepsOn, CallsOn, Crashes, underway}
use Rattle.partition_core.specs.Stands.{Stands}
use Rattle.partition_core.specs.Steps.{Steps, Anything, NamesNowhere}
use Rattle.partition_core.specs.Stopped.{stopped, uncalled}
use Rattle.partition_core.specs.Tables.{Tables}
use Rattle.partition_core.proofs.Durably.{IsWritten, with_log, alive, done_call, stopped_call, stands_up, stands_down, underway_down, images, still}
use Rattle.partition_core.proofs.Writing.{nothing_appended, leases_wanted}
use Rattle.partition_core.proofs.Leasing.{ticks, refuses}

module _ {S E D : Type 0} (kinds : Kinds S E) (codec : Codec E) (state : D → DiskState) where
  -- what was opened is what it was before
  pub opened_on : {A : Type 0} (G : PartState E → Type 0) (asked : Ask E) (Shows : A → Event E → Type 0) (r : Result A DurableError) (v t new : Durable E D) → v ≡ t → CallsOn kinds codec state v new G asked Shows r → CallsOn kinds codec state t new G asked Shows r
  opened_on G asked Shows r v t new e h = subst (λ x. CallsOn kinds codec state x new G asked Shows r) e h

  pub opened_steps : (G : PartState E → Type 0) (Shows : Event E → Type 0) (v t new : Durable E D) → v ≡ t → StepsOn kinds codec state v new G Shows → StepsOn kinds codec state t new G Shows
  opened_steps G Shows v t new e h = subst (λ x. StepsOn kinds codec state x new G Shows) e h

  pub opened_onto : {A : Type 0} (G : PartState E → Type 0) (asked : Ask E) (Shows : A → Event E → Type 0) (r : Result A DurableError) (v t new now : Durable E D) → v ≡ t → now ≡ new → CallsOn kinds codec state v new G asked Shows r → CallsOn kinds codec state t now G asked Shows r
  opened_onto G asked Shows r v t new now e f h = subst (λ x. CallsOn kinds codec state x now G asked Shows r) e (subst (λ x. CallsOn kinds codec state v x G asked Shows r) (sym f) h)

  pub opened_rest : (G : PartState E → Type 0) (Shows : Event E → Type 0) (v t : Durable E D) → v ≡ t → StepsOn kinds codec state v v G Shows → StepsOn kinds codec state t t G Shows
  opened_rest G Shows v t e h = subst (λ x. StepsOn kinds codec state x x G Shows) e h

-- a partition on its disk, of its tables and its log
abbrev pub on_disk : {E D : Type 0} → Tables E → GateLog D → Bool → Durable E D
on_disk t g b = record { tables = t; gates = g; crashed = b }

module _ {S E D : Type 0} (kinds : Kinds S E) (codec : Codec E) (state : D → DiskState) (old : Durable E D) where
  abbrev sites : ℕ
  sites = old.tables.sites

  abbrev parts : ℕ
  parts = old.tables.parts

  module _ (ready : IsReady state old.gates) (up : is_down old ≡ false) where
    abbrev with_tables : Tables E → Durable E D
    with_tables t = record { tables = t; gates = old.gates; crashed = old.crashed }

    -- the tables did what adds no record
    pub unlogged : (Given : PartState E → Type 0) (Shows : Event E → Type 0) (t : Tables E) → Steps kinds old.tables Given Shows t
        → ((p : PartState E) → Stands old.tables p → (e : Event E) (q : PartState E) → Shows e → PartStep kinds sites parts old.tables.id p e q → IsWritten p e q [])
        → StepsOn kinds codec state old (with_tables t) Given Shows
    unlogged Given Shows t s quiet = done_call kinds codec state old Given up {R = Unit {0}} tt (with_tables t) [] (nothing_appended {T = Unit {0}} codec state old.gates ready (alive kinds codec state old Given up).1 tt) refl Shows s quiet

    pub refused_on : (Given : PartState E → Type 0) (asked : Ask E) (why : Refusal) (t : Tables E) → Steps kinds old.tables Given (λ e. e ≡ Refused asked (cause why)) t → StepsOn kinds codec state old (with_tables t) Given (λ e. e ≡ Refused asked (cause why))
    refused_on Given asked why t s = unlogged Given (λ e. e ≡ Refused asked (cause why)) t s (λ p h e q shows step.
        let st : PartStep kinds sites parts old.tables.id p (Refused asked (cause why)) q = subst (λ (x : Event E). PartStep kinds sites parts old.tables.id p x q) shows step in
        subst (λ x. IsWritten p x q []) (sym shows) (record { whole = refl; adds = refl; log = ap (λ (r : PartState E). r.log) st.1; rises = λ h. h }))

  -- ---- a tick

  module _ (up : is_down old ≡ false) (r n : ℕ) (low : r ≤ end_of_time) (is : n ≡ max r old.tables.clock) (top : n ≤ end_of_time) (w : Option ℕ) (want : w ≡ wanted old.tables.ceiling n) where
    tick_shows : ℕ → Event E → Type 0
    tick_shows n e = e ≡ Ticked r n

    tick_adds : (p : PartState E) → Stands old.tables p → lease_for p.log n ≡ leases w
    tick_adds p h = ap (λ c. lease_at c n) h.ceiling ∙ sym (ap (λ x. leases x) want ∙ leases_wanted old.tables.ceiling n)

    tick_rises : (p : PartState E) → Stands old.tables p → Rises p.log → Rises (grown p.log (leases w))
    tick_rises p h r = subst (λ l. Rises (grown p.log l)) (tick_adds p h) (lease_rises p.log n top r)

    pub tick_done : {R : Type 0} (x : R) (g : GateLog D) (t : Tables E) → Appends {T = R} codec state (Ok x) old.gates g (leases w) → t ≡ showing old.tables n → StepsOn kinds codec state old (record { tables = t; gates = g; crashed = old.crashed }) Anything (λ e. e ≡ Ticked r n)
    tick_done x g t a shown = done_call kinds codec state old Anything up x (record { tables = t; gates = g; crashed = old.crashed }) (leases w) a refl (λ e. e ≡ Ticked r n)
        (subst (λ q. Steps kinds old.tables Anything (λ e. e ≡ Ticked r n) q) (sym shown) (ticks kinds old.tables r n (leased old.tables.ceiling n) low is refl))
        (λ p h e q shows step.
        let st : PartStep kinds sites parts old.tables.id p (Ticked r n) q = subst (λ (y : Event E). PartStep kinds sites parts old.tables.id p y q) shows step in
        subst (λ y. IsWritten p y q (leases w)) (sym shows) (record { whole = refl; adds = tick_adds p h; log = ap (λ (s : PartState E). s.log) st.2 ∙ ap (λ l. grown p.log l) (tick_adds p h); rises = tick_rises p h }))

    pub tick_stopped : {R : Type 0} (e : AppendError) (g : GateLog D) → Appends {T = R} codec state (Err e) old.gates g (leases w) → CallsOn kinds codec state old (with_log old g) Anything (AskTick r) (λ m e. e ≡ Ticked r m) (Err (stopped e))
    tick_stopped {R} e g a = stopped_call kinds codec state old Anything up {R = R} (AskTick r) (λ m e. e ≡ Ticked r m) (leases w)
        (λ p h _. record { what = Ticked r n; shows = (n, refl); may = (is ∙ ap (λ m. max r m) (sym h.clock), low); adds = tick_adds p h; rises = tick_rises p h })
        (λ p k h _. low)
        e g a

  -- ---- a begin

  module _ (up : is_down old ≡ false) (who : List ℕ) (wish : Wish) (tx : TxId) (s : List ℕ) (steps : Steps kinds old.tables Anything (λ e. e ≡ Began who wish tx s) (showing old.tables tx.time)) (w : Option ℕ) (want : w ≡ wanted old.tables.ceiling tx.time) where
    begin_adds : (p : PartState E) → Stands old.tables p → lease_for p.log tx.time ≡ leases w
    begin_adds p h = ap (λ c. lease_at c tx.time) h.ceiling ∙ sym (ap (λ x. leases x) want ∙ leases_wanted old.tables.ceiling tx.time)

    begun_so : (p : PartState E) → Stands old.tables p → IsBegin sites parts old.tables.id p wish tx s
    begun_so p h =
        let one = steps.step p h tt in
        let st : PartStep kinds sites parts old.tables.id p (Began who wish tx s) one.after = subst (λ (y : Event E). PartStep kinds sites parts old.tables.id p y one.after) one.shows one.step in
        st.1

    begin_rises : (p : PartState E) → Stands old.tables p → Rises p.log → Rises (grown p.log (leases w))
    begin_rises p h r =
        let b = begun_so p h in
        let next : tx.time ≡ p.now + 1 = ap (λ (t : TxId). t.time) b.named in
        let early = b.early in
        subst (λ l. Rises (grown p.log l)) (begin_adds p h) (lease_rises p.log tx.time (omega (arith, next, early)) r)

    pub begin_done : {R : Type 0} (x : R) (g : GateLog D) (t : Tables E) → Appends {T = R} codec state (Ok x) old.gates g (leases w) → t ≡ showing old.tables tx.time → StepsOn kinds codec state old (on_disk t g old.crashed) Anything (λ e. e ≡ Began who wish tx s)
    begin_done x g t a shown = done_call kinds codec state old Anything up x (on_disk t g old.crashed) (leases w) a refl (λ e. e ≡ Began who wish tx s)
        (subst (λ q. Steps kinds old.tables Anything (λ e. e ≡ Began who wish tx s) q) (sym shown) steps)
        (λ p h e q shows step.
        let st : PartStep kinds sites parts old.tables.id p (Began who wish tx s) q = subst (λ (y : Event E). PartStep kinds sites parts old.tables.id p y q) shows step in
        subst (λ y. IsWritten p y q (leases w)) (sym shows) (record { whole = refl; adds = begin_adds p h; log = ap (λ (s : PartState E). s.log) st.2 ∙ ap (λ l. grown p.log l) (begin_adds p h); rises = begin_rises p h }))

    pub begin_stopped : {R : Type 0} (e : AppendError) (g : GateLog D) → Appends {T = R} codec state (Err e) old.gates g (leases w) → CallsOn kinds codec state old (with_log old g) Anything (AskBegin who wish) (λ (x : TxId × List ℕ) e. e ≡ Began who wish x.0 x.1) (Err (stopped e))
    begin_stopped {R} e g a = stopped_call kinds codec state old Anything up {R = R} (AskBegin who wish) (λ (x : TxId × List ℕ) e. e ≡ Began who wish x.0 x.1) (leases w)
        (λ p h _. record { what = Began who wish tx s; shows = ((tx, s), refl); may = begun_so p h; adds = begin_adds p h; rises = begin_rises p h })
        (λ p k h _. let b = begun_so p h in (begin_enough sites parts old.tables.id p wish tx s b, b.early))
        e g a

  -- ---- a vote

  module _ (up : is_down old ≡ false) (tx : TxId) (s : List ℕ) (l : ℕ) (us : List (Upd E)) (n : ℕ) where
    abbrev vote_records : List (Record E)
    vote_records = lease_at old.tables.ceiling n ++ Prepare tx l n s us ∷ []

    vote_adds : (p : PartState E) → Stands old.tables p → lease_for p.log n ++ Prepare tx l n s us ∷ [] ≡ vote_records
    vote_adds p h = ap (λ c. lease_at c n ++ Prepare tx l n s us ∷ []) h.ceiling

    vote_rises : (p : PartState E) → Stands old.tables p → n ≤ end_of_time → Rises p.log → Rises (grown p.log vote_records)
    vote_rises p h top r =
        let voted : Rises (Prepare tx l n s us ∷ grown p.log (lease_for p.log n)) = lease_rises p.log n top r in
        subst (λ k. Rises (grown p.log k)) (vote_adds p h) (subst (λ k. Rises k) (sym (grown_last p.log (lease_for p.log n) (Prepare tx l n s us))) voted)

    pub vote_done : {R : Type 0} (x : R) (g : GateLog D) (t : Tables E) → Appends {T = R} codec state (Ok x) old.gates g vote_records → Steps kinds old.tables (NamesNowhere tx) (λ e. e ≡ Prepared tx s (led_by l) us n) t → StepsOn kinds codec state old (on_disk t g old.crashed) (NamesNowhere tx) (λ e. e ≡ Prepared tx s (led_by l) us n)
    vote_done x g t a steps = done_call kinds codec state old (NamesNowhere tx) up x (on_disk t g old.crashed) vote_records a refl (λ e. e ≡ Prepared tx s (led_by l) us n) steps
        (λ p h e q shows step.
        let st : PartStep kinds sites parts old.tables.id p (Prepared tx s (led_by l) us n) q = subst (λ (y : Event E). PartStep kinds sites parts old.tables.id p y q) shows step in
        subst (λ y. IsWritten p y q vote_records) (sym shows) (record { whole = refl; adds = vote_adds p h; log = ap (λ (s : PartState E). s.log) st.2 ∙ ap (λ l. grown p.log l) (vote_adds p h); rises = vote_rises p h (let next = st.1.1 in let early = st.1.2 in omega (arith, next, early)) }))

    pub vote_stopped : {R : Type 0} → entry s old.tables.id.site ≤ old.tables.clock → n ≡ old.tables.clock + 1 → old.tables.clock < end_of_time → (e : AppendError) (g : GateLog D) → Appends {T = R} codec state (Err e) old.gates g vote_records → CallsOn kinds codec state old (with_log old g) (NamesNowhere tx) (AskPrepare tx s (led_by l) us) (λ m e. e ≡ Prepared tx s (led_by l) us m) (Err (stopped e))
    vote_stopped {R} reached is early e g a = stopped_call kinds codec state old (NamesNowhere tx) up {R = R} (AskPrepare tx s (led_by l) us) (λ m e. e ≡ Prepared tx s (led_by l) us m) vote_records
        (λ p h _. record { what = Prepared tx s (led_by l) us n; shows = (n, refl); may = (subst (λ k. entry s old.tables.id.site ≤ k) (sym h.clock) reached, is ∙ ap (λ k. k + 1) (sym h.clock), subst (λ k. k < end_of_time) (sym h.clock) early); adds = vote_adds p h; rises = vote_rises p h (omega (arith, is, early)) })
        (λ p k h _. (subst (λ k. entry s old.tables.id.site ≤ k) (sym h.clock) reached, subst (λ k. k < end_of_time) (sym h.clock) early))
        e g a

  -- ---- a message

  module _ (up : is_down old ≡ false) (number : ℕ) (m : Message E) where
    abbrev brought : List (Record E)
    brought = batch_of m (entry old.tables.bounds m.from) (above m.from (entry old.tables.bounds m.from) m.parts)

    take_adds : (p : PartState E) → Stands old.tables p → batch_of m (entry p.bounds m.from) (above m.from (entry p.bounds m.from) m.parts) ≡ brought
    take_adds p h = ap (λ b. batch_of m (entry b m.from) (above m.from (entry b m.from) m.parts)) h.bounds

    batch_rises : (log : List (Record E)) (b : ℕ) (ps : List (Part E)) → Rises log → Rises (grown log (batch_of m b ps))
    batch_rises log b [] r = r
    batch_rises log b (x ∷ xs) r = r

    pub take_done : {R : Type 0} (x : R) (g : GateLog D) (t : Tables E) → Appends {T = R} codec state (Ok x) old.gates g brought → Steps kinds old.tables Anything (λ e. e ≡ Took number m) t → StepsOn kinds codec state old (on_disk t g old.crashed) Anything (λ e. e ≡ Took number m)
    take_done x g t a steps = done_call kinds codec state old Anything up x (on_disk t g old.crashed) brought a refl (λ e. e ≡ Took number m) steps
        (λ p h e q shows step.
        let st : PartStep kinds sites parts old.tables.id p (Took number m) q = subst (λ (y : Event E). PartStep kinds sites parts old.tables.id p y q) shows step in
        subst (λ y. IsWritten p y q brought) (sym shows) (record { whole = refl; adds = take_adds p h; log = ap (λ (s : PartState E). s.log) st.2 ∙ ap (λ l. grown p.log l) (take_adds p h); rises = batch_rises p.log (entry old.tables.bounds m.from) (above m.from (entry old.tables.bounds m.from) m.parts) }))

    pub take_stopped : {A R : Type 0} → A → m.lo ≤ entry old.tables.bounds m.from → entry old.tables.bounds m.from < m.hi → (e : AppendError) (g : GateLog D) → Appends {T = R} codec state (Err e) old.gates g brought → CallsOn kinds codec state old (with_log old g) Anything (AskTake number m) (λ (x : A) e. e ≡ Took number m) (Err (stopped e))
    take_stopped {A} {R} x low high e g a =
        let fits : (p : PartState E) → Stands old.tables p → (m.lo ≤ entry p.bounds m.from) × (entry p.bounds m.from < m.hi) = λ p h. subst (λ b. (m.lo ≤ entry b m.from) × (entry b m.from < m.hi)) (sym h.bounds) (low, high) in
        stopped_call kinds codec state old Anything up {R = R} (AskTake number m) (λ (x : A) e. e ≡ Took number m) brought
        (λ p h _. record { what = Took number m; shows = (x, refl); may = fits p h; adds = take_adds p h; rises = batch_rises p.log (entry old.tables.bounds m.from) (above m.from (entry old.tables.bounds m.from) m.parts) })
        (λ p k h _. fits p h)
        e g a

  -- ---- how a transaction ends

  waits : (tx : TxId) (b : Bool) → has_entry old.tables.pending tx ≡ b → (p : PartState E) → Stands old.tables p → pending p.log tx ≡ b
  waits tx b k p h = sym (h.tells.table.members tx) ∙ k

  -- the event of an end that writes a record, where its transaction is pending
  module _ (up : is_down old ≡ false) (asked : Ask E) (tx : TxId) (ended : Event E) (r : Record E) where
    pub record EndsBy : Type 0 where
      pub whole : attempt ended ≡ ended
      pub adds : (p : PartState E) → pending p.log tx ≡ true → records p ended ≡ r ∷ []
      pub may : (p : PartState E) → pending p.log tx ≡ true → MayDo kinds sites parts old.tables.id p ended
      pub room : (p : PartState E) (n : ℕ) → pending p.log tx ≡ true → IsDue kinds sites parts old.tables.id p asked (HasNoRoom n)
      pub log : (p q : PartState E) → PartStep kinds sites parts old.tables.id p ended q → q.log ≡ grown p.log (records p ended)
      pub rises : (log : List (Record E)) → Rises log → Rises (r ∷ log)

    module _ (by : EndsBy) (here : has_entry old.tables.pending tx ≡ true) where
      pub end_done : {R : Type 0} (x : R) (g : GateLog D) (t : Tables E) → Appends {T = R} codec state (Ok x) old.gates g (r ∷ []) → Steps kinds old.tables Anything (λ e. e ≡ ended) t → StepsOn kinds codec state old (on_disk t g old.crashed) Anything (λ e. e ≡ ended)
      end_done x g t a steps = done_call kinds codec state old Anything up x (on_disk t g old.crashed) (r ∷ []) a refl (λ e. e ≡ ended) steps
          (λ p h e q shows step.
          let adds = by.adds p (waits tx true here p h) in
          subst (λ y. IsWritten p y q (r ∷ [])) (sym shows) (record { whole = by.whole; adds = adds; log = by.log p q (subst (λ (y : Event E). PartStep kinds sites parts old.tables.id p y q) shows step) ∙ ap (λ l. grown p.log l) adds; rises = by.rises p.log }))

      pub end_stopped : {A R : Type 0} → A → (e : AppendError) (g : GateLog D) → Appends {T = R} codec state (Err e) old.gates g (r ∷ []) → CallsOn kinds codec state old (with_log old g) Anything asked (λ (x : A) e. e ≡ ended) (Err (stopped e))
      end_stopped {A} {R} x e g a = stopped_call kinds codec state old Anything up {R = R} asked (λ (x : A) e. e ≡ ended) (r ∷ [])
          (λ p h _. let w = waits tx true here p h in record { what = ended; shows = (x, refl); may = by.may p w; adds = by.adds p w; rises = by.rises p.log })
          (λ p n h _. by.room p n (waits tx true here p h))
          e g a

      -- what is pending isn't gone
      pub end_never : {R : Type 0} (x : R) (g : GateLog D) (t : Tables E) (why : Refusal) → Appends {T = R} codec state (Ok x) old.gates g (r ∷ []) → Steps kinds old.tables Anything (λ e. e ≡ Refused asked (cause why)) t
          → ((p : PartState E) → pending p.log tx ≡ true → IsRefused kinds sites parts old.tables.id p asked (cause why) → ⊥) → StepsOn kinds codec state old (on_disk t g old.crashed) Anything (λ e. e ≡ Refused asked (cause why))
      end_never x g t why a s refutes = record {
        same = s.same;
        goes_on = a.goes_on;
        step = λ p h given.
            let u = stands_up codec state old p up h in
            let one = s.step p u.tables given in
            let st : PartStep kinds sites parts old.tables.id p (Refused asked (cause why)) one.after = subst (λ (y : Event E). PartStep kinds sites parts old.tables.id p y one.after) one.shows one.step in
            absurd (refutes p (waits tx true here p u.tables) st.0);
      }

  module _ (up : is_down old ≡ false) (tx : TxId) where
    pub decide_by : (c : List ℕ) → EndsBy up (AskDecide tx c) tx (Decided tx c) (Decide tx c)
    decide_by c = record { whole = refl; adds = λ p w. ap (λ b. if b then Decide tx c ∷ [] else []) w; may = λ p w. ap (λ b. b || committed p.log tx) w; room = λ p n w. w; log = λ p q st. ap (λ (s : PartState E). s.log) st.2; rises = λ l h. h }

    pub finish_by : (c : List ℕ) → EndsBy up (AskFinish tx c) tx (Finished tx c) (Finish tx c)
    finish_by c = record { whole = refl; adds = λ p w. ap (λ b. if b then Finish tx c ∷ [] else []) w; may = λ p w. ap (λ b. b || committed p.log tx) w; room = λ p n w. w; log = λ p q st. ap (λ (s : PartState E). s.log) st.2; rises = λ l h. h }

    pub abort_by : (own : Bool) → EndsBy up (AskAbort tx) tx (Aborted tx own) (Abort tx)
    abort_by own = record { whole = refl; adds = λ p w. refl; may = λ p w. w; room = λ p n w. w; log = λ p q st. ap (λ (s : PartState E). s.log) st.2; rises = λ l h. h }

  still_here : (p : PartState E) (tx : TxId) → pending p.log tx ≡ true → (pending p.log tx || committed p.log tx) ≡ false → ⊥
  still_here p tx w h = true≢false (sym (ap (λ b. b || committed p.log tx) w) ∙ h)

  pub decide_refutes : (tx : TxId) (c : List ℕ) (why : Refusal) (p : PartState E) → pending p.log tx ≡ true → IsRefused kinds sites parts old.tables.id p (AskDecide tx c) (cause why) → ⊥
  decide_refutes tx c (answer.ClockBehind n) p w h = h.1
  decide_refutes tx c (answer.TxPending u n) p w h = h.1
  decide_refutes tx c (answer.StableBehind j n) p w h = h.1
  decide_refutes tx c answer.ClockAtEnd p w h = h.1
  decide_refutes tx c answer.BadOp p w h = h.1
  decide_refutes tx c answer.Gone p w h = still_here p tx w h.1
  decide_refutes tx c (answer.Gap n) p w h = h.1
  decide_refutes tx c (answer.Repeat n) p w h = h.1

  pub finish_refutes : (tx : TxId) (c : List ℕ) (why : Refusal) (p : PartState E) → pending p.log tx ≡ true → IsRefused kinds sites parts old.tables.id p (AskFinish tx c) (cause why) → ⊥
  finish_refutes tx c (answer.ClockBehind n) p w h = h.1
  finish_refutes tx c (answer.TxPending u n) p w h = h.1
  finish_refutes tx c (answer.StableBehind j n) p w h = h.1
  finish_refutes tx c answer.ClockAtEnd p w h = h.1
  finish_refutes tx c answer.BadOp p w h = h.1
  finish_refutes tx c answer.Gone p w h = still_here p tx w h.1
  finish_refutes tx c (answer.Gap n) p w h = h.1
  finish_refutes tx c (answer.Repeat n) p w h = h.1

  pub abort_refutes : (tx : TxId) (why : Refusal) (p : PartState E) → pending p.log tx ≡ true → IsRefused kinds sites parts old.tables.id p (AskAbort tx) (cause why) → ⊥
  abort_refutes tx (answer.ClockBehind n) p w h = h.1
  abort_refutes tx (answer.TxPending u n) p w h = h.1
  abort_refutes tx (answer.StableBehind j n) p w h = h.1
  abort_refutes tx answer.ClockAtEnd p w h = h.1
  abort_refutes tx answer.BadOp p w h = h.1
  abort_refutes tx answer.Gone p w h = true≢false (sym w ∙ h.1)
  abort_refutes tx (answer.Gap n) p w h = h.1
  abort_refutes tx (answer.Repeat n) p w h = h.1

  -- ---- what writes nothing

  module _ (ready : IsReady state old.gates) (up : is_down old ≡ false) where
    -- an event that writes nothing
    quiet : (p : PartState E) (e0 e : Event E) (q : PartState E) → attempt e0 ≡ e0 → records p e0 ≡ [] → e ≡ e0 → q.log ≡ p.log → IsWritten p e q []
    quiet p e0 e q whole none shows same_log = subst (λ y. IsWritten p y q []) (sym shows) (record { whole = whole; adds = none; log = same_log; rises = λ h. h })

    pub decided_already : (tx : TxId) (c : List ℕ) (t : Tables E) → has_entry old.tables.pending tx ≡ false → Steps kinds old.tables Anything (λ e. e ≡ Decided tx c) t → StepsOn kinds codec state old (on_disk t old.gates old.crashed) Anything (λ e. e ≡ Decided tx c)
    decided_already tx c t out s = unlogged ready up Anything (λ e. e ≡ Decided tx c) t s (λ p h e q shows step.
        let none : records p (Decided tx c) ≡ [] = ap (λ b. if b then Decide tx c ∷ [] else []) (waits tx false out p h) in
        let st : PartStep kinds sites parts old.tables.id p (Decided tx c) q = subst (λ (y : Event E). PartStep kinds sites parts old.tables.id p y q) shows step in
        quiet p (Decided tx c) e q refl none shows (ap (λ (s : PartState E). s.log) st.2 ∙ ap (λ l. grown p.log l) none))

    pub finished_already : (tx : TxId) (c : List ℕ) (t : Tables E) → has_entry old.tables.pending tx ≡ false → Steps kinds old.tables Anything (λ e. e ≡ Finished tx c) t → StepsOn kinds codec state old (on_disk t old.gates old.crashed) Anything (λ e. e ≡ Finished tx c)
    finished_already tx c t out s = unlogged ready up Anything (λ e. e ≡ Finished tx c) t s (λ p h e q shows step.
        let none : records p (Finished tx c) ≡ [] = ap (λ b. if b then Finish tx c ∷ [] else []) (waits tx false out p h) in
        let st : PartStep kinds sites parts old.tables.id p (Finished tx c) q = subst (λ (y : Event E). PartStep kinds sites parts old.tables.id p y q) shows step in
        quiet p (Finished tx c) e q refl none shows (ap (λ (s : PartState E). s.log) st.2 ∙ ap (λ l. grown p.log l) none))

    pub not_here : (tx : TxId) → has_entry old.tables.pending tx ≡ false → StepsOn kinds codec state old (on_disk old.tables old.gates old.crashed) Anything (λ e. e ≡ Refused (AskAbort tx) event.IsGone)
    not_here tx out = refused_on ready up Anything (AskAbort tx) answer.Gone old.tables (refuses kinds Anything old.tables (AskAbort tx) event.IsGone (λ p h. (h.up, waits tx false out p h)))

    pub heard_on : (number part : ℕ) (b stable : List ℕ) (t : Tables E) → Steps kinds old.tables Anything (λ e. e ≡ Heard number part b stable) t → StepsOn kinds codec state old (on_disk t old.gates old.crashed) Anything (λ e. e ≡ Heard number part b stable)
    heard_on number part b stable t s = unlogged ready up Anything (λ e. e ≡ Heard number part b stable) t s (λ p h e q shows step.
        let st : PartStep kinds sites parts old.tables.id p (Heard number part b stable) q = subst (λ (y : Event E). PartStep kinds sites parts old.tables.id p y q) shows step in
        quiet p (Heard number part b stable) e q refl refl shows (ap (λ (s : PartState E). s.log) st.2))

    pub reported_on : (b : List ℕ) → Steps kinds old.tables Anything (λ e. e ≡ Reported b) old.tables → StepsOn kinds codec state old (on_disk old.tables old.gates old.crashed) Anything (λ e. e ≡ Reported b)
    reported_on b s = unlogged ready up Anything (λ e. e ≡ Reported b) old.tables s (λ p h e q shows step.
        let st : PartStep kinds sites parts old.tables.id p (Reported b) q = subst (λ (y : Event E). PartStep kinds sites parts old.tables.id p y q) shows step in
        quiet p (Reported b) e q refl refl shows (ap (λ (s : PartState E). s.log) st.2))

    pub sent_on : (to : ℕ) (from : Option ℕ) (m : Message E) (t : Tables E) → m.to ≡ to → Steps kinds old.tables Anything (λ e. e ≡ Sent from m) t → StepsOn kinds codec state old (on_disk t old.gates old.crashed) Anything (λ e. (m.to ≡ to) × (e ≡ Sent from m))
    sent_on to from m t is s = unlogged ready up Anything (λ e. (m.to ≡ to) × (e ≡ Sent from m)) t (record { same = s.same; step = λ p h g. let one = s.step p h g in record { event = one.event; after = one.after; shows = (is, one.shows); step = one.step; stands = one.stands } }) (λ p h e q shows step.
        let st : PartStep kinds sites parts old.tables.id p (Sent from m) q = subst (λ (y : Event E). PartStep kinds sites parts old.tables.id p y q) shows.1 step in
        quiet p (Sent from m) e q refl refl shows.1 (ap (λ (s : PartState E). s.log) st.2))

    module _ (tx : TxId) (s : List ℕ) (o : ObjectId) (own : List (Upd E)) where
      pub read_on : (v : Value) (t : Tables E) → Steps kinds old.tables Anything (λ e. (read : List (Part E)) × (e ≡ event.Read tx s o own read v)) t → StepsOn kinds codec state old (on_disk t old.gates old.crashed) Anything (λ e. (read : List (Part E)) × (e ≡ event.Read tx s o own read v))
      read_on v t steps = unlogged ready up Anything (λ e. (read : List (Part E)) × (e ≡ event.Read tx s o own read v)) t steps (λ p h e q shows step.
          let st : PartStep kinds sites parts old.tables.id p (event.Read tx s o own shows.0 v) q = subst (λ (y : Event E). PartStep kinds sites parts old.tables.id p y q) shows.1 step in
          quiet p (event.Read tx s o own shows.0 v) e q refl refl shows.1 (ap (λ (r : PartState E). r.log) st.2))

      pub updated_on : (op : Op) (u : Upd E) (stamp : Option ℕ) (t : Tables E) → Steps kinds old.tables Anything (λ e. (read : List (Part E)) × (e ≡ Updated tx s o own op read u stamp)) t → StepsOn kinds codec state old (on_disk t old.gates old.crashed) Anything (λ e. (read : List (Part E)) × (e ≡ Updated tx s o own op read u stamp))
      updated_on op u stamp t steps = unlogged ready up Anything (λ e. (read : List (Part E)) × (e ≡ Updated tx s o own op read u stamp)) t steps (λ p h e q shows step.
          let st : PartStep kinds sites parts old.tables.id p (Updated tx s o own op shows.0 u stamp) q = subst (λ (y : Event E). PartStep kinds sites parts old.tables.id p y q) shows.1 step in
          quiet p (Updated tx s o own op shows.0 u stamp) e q refl refl shows.1 (ap (λ (r : PartState E). r.log) st.2))

    -- what the tables don't answer
    pub uncalled_on : {A : Type 0} (asked : Ask E) (Shows : A → Event E → Type 0) (e : CallError) (t : Tables E) → Called kinds old.tables Anything asked Shows (Err e) t → CallsOn kinds codec state old (on_disk t old.gates old.crashed) Anything asked Shows (Err (uncalled e))
    uncalled_on asked Shows tables.NoMemory t h = ap (λ (x : Tables E). on_disk x old.gates old.crashed) h
    uncalled_on asked Shows (tables.Refused why) t h = refused_on ready up Anything asked why t h

  -- ---- a crash

  abbrev pub crashed : Durable E D
  crashed = on_disk old.tables old.gates true

  pub crashes : Crashes kinds codec state old crashed
  crashes = record {
    same = record { id = refl; sites = refl; parts = refl };
    disk = refl;
    step = λ p h. ⊎_elim (λ (d : is_down old ≡ true). crashed_down p (stands_down codec state old p d h)) (λ (u : is_down old ≡ false). crashed_up u p (stands_up codec state old p u h)) (cases_Bool (is_down old));
  }
    where
      crashed_down : (p : PartState E) → StandsDown codec state old p → SteppedOn kinds codec state old crashed p (λ e. e ≡ Crashed)
      crashed_down p s = record {
        event = Crashed;
        after = down p p.torn;
        shows = refl;
        step = refl;
        stands = record { down = refl; tells = s.tells; images = s.images; rises = s.rises };
        moments = at_first (disk_in state old).story (HoldsFront codec p.log (underway p Crashed)) (subst (λ l. EachImage (HoldsFront codec p.log l) (disk_in state old).story.now) (sym (underway_down p Crashed s.down)) s.images);
      }

      crashed_up : is_down old ≡ false → (p : PartState E) → StandsUp codec state old p → SteppedOn kinds codec state old crashed p (λ e. e ≡ Crashed)
      crashed_up u p s = record {
        event = Crashed;
        after = down p p.torn;
        shows = refl;
        step = refl;
        stands = record { down = refl; tells = s.log.is_open.at_rest.tells; images = subst (λ l. EachImage (HoldsFront codec p.log l) (disk_in state old).story.now) (sym s.tables.whole) (images kinds codec state old Anything u p [] s.log); rises = subst (λ l. Rises (grown p.log l)) (sym s.tables.whole) s.rises };
        moments = still kinds codec state old Anything u p Crashed s refl;
      }

module _ {E D : Type 0} (codec : Codec E) (state : D → DiskState) (t : Durable E D) (tx : TxId) where
  pub tells_down : is_down t ≡ true → (p : PartState E) → StandsOn codec state t p → ToldDown ≡ fate_of p tx
  tells_down d p h = sym (ap (λ b. if b then (if pending p.log tx then ToldPending else (if committed p.log tx then ToldCommitted (committed_at p.log tx) else ToldAborted)) else ToldDown) (stands_down codec state t p d h).down)
