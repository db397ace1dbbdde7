-- What is made durable before it is counted: nothing, a lease, or what a message brings.
use Rattle.std.proofs.Common.{◌≡◌, ℕ, ◌+◌, ◌-◌, leb, true, false, List, [], ◌∷◌, ◌++◌, length, Option, None, Some, Ok, Err, refl, sym, ap, ◌∙◌, arith}
use Rattle.std.specs.Prelude.{◌==◌, if◌then◌else◌, min}
use Rattle.std.proofs.lemmas.Bool.{true≢false, ne_eqb}
use Rattle.disk_core.specs.States.{DiskState, fewer, Spared}
use Rattle.disk_core.specs.Moments.{EachImage}
use Rattle.disk_core.proofs.Moments.{at_first}
use Rattle.gate_log.specs.Logs.{disk_of, is_closed, IsReady}
use Rattle.gate_log.specs.declared.log.GateLog.{GateLog}
use Rattle.gate_log.specs.declared.error.AppendError.{AppendError}
use Rattle.gate_log.specs.declared.error.AppendError.TheVariants.{Failed, Full, Closed}
use Rattle.gate_log.proofs.Steps.{is_log}
use Rattle.partition_log.specs.Codec.{Codec}
use Rattle.partition_log.specs.Logs.{payloads_of, HoldsLog, HoldsFront, HasRecords}
use Rattle.partition_log.specs.Appends.{Appends}
use Rattle.partition_log.specs.Gates.{leases}
use Rattle.partition_log.proofs.Unchanged.{found_itself}
use Rattle.crdt_core.specs.declared.record.Part.{Part}
use Rattle.crdt_core.specs.declared.record.Message.{Message}
use Rattle.crdt_core.specs.declared.record.Record.{Record}
use Rattle.crdt_core.specs.declared.record.Record.TheVariants.{Lease, Prepare, Decide, Finish, Abort, Batch}
use Rattle.crdt_core.specs.declared.record.Upd.{Upd}
use Rattle.site_vector.specs.declared.ids.TxId.{TxId}
use Rattle.prepared_table.specs.declared.entry.Entry.{Entry}
use Rattle.crdt_core.specs.Parts.{above}
use Rattle.crdt_core.specs.Log.{end_of_time}
use Rattle.world_model.specs.rules.Partition.{batch_of}
use Rattle.partition_core.specs.Leases.{wanted, lease_at}

none_due : (left : Option ℕ) → Spared 0 left
none_due None = tt
none_due (Some n) = omega arith

same_left : (left : Option ℕ) → left ≡ fewer 0 left
same_left None = refl
same_left (Some n) = let e : n ≡ n - 0 = omega arith in ap Some e

module _ {E D T : Type 0} (codec : Codec E) (state : D → DiskState) (log : GateLog D) (ready : IsReady state log) (still_open : is_closed log ≡ false) (x : T) where
  holds_itself : (l : List (Record E)) → HasRecords codec state log l → EachImage (λ image. HoldsLog codec image l) (state (disk_of log)).story.now
  holds_itself l has image left = record { is_log = is_log (state (disk_of log)).story.now (payloads_of codec l) image has.is_open.at_rest.settled has.is_open.at_rest.log left; spelled = has.spelled }

  no_error : (e : AppendError) → (Ok x) ≡ Err e → ⊥
  no_error e h = cc

  -- no record is appended
  pub nothing_appended : Appends {T = T} codec state (Ok x) log log []
  nothing_appended = record {
    appended = λ l h. h;
    durable = holds_itself;
    any_moment = λ l h. at_first (state (disk_of log)).story (HoldsFront codec l []) (λ image left. (l, found_itself l [], holds_itself l h image left));
    was_closed = λ h. absurd (no_error Closed h);
    closed = λ h _. absurd (true≢false (sym h ∙ still_open));
    is_full = λ room h. absurd (no_error (Full room) h);
    full = λ _ past _. let fits = ready.fits in absurd (omega (arith, fits, past));
    failed = λ h. absurd (no_error Failed h);
    refused = tt;
    gate = omega arith;
    stays_open = still_open;
    read = refl;
    ready = ready;
    goes_on = record { tells = refl; room = refl; sound = refl; later = omega arith; starved = λ h. h };
    left = record { count = 0; less = omega arith; left = same_left (state (disk_of log)).left };
    left_ok = same_left (state (disk_of log)).left;
    spared = none_due (state (disk_of log)).left;
  }

module _ {E : Type 0} where
  -- the lease that is wanted is the one that a clock takes
  pub leases_wanted : (c n : ℕ) → leases {E = E} (wanted c n) ≡ lease_at c n
  leases_wanted c n = elim (leb n c) as (λ b. leases {E = E} (if b then None else Some (min (n + 1000) end_of_time)) ≡ (if b then [] else Lease (min (n + 1000) end_of_time) ∷ [])) [ true ↦ refl | false ↦ refl ]

  none_brought : (m : Message E) (b : ℕ) (ps : List (Part E)) → (length ps == 0) ≡ true → batch_of m b ps ≡ []
  none_brought m b [] h = refl
  none_brought m b (x ∷ xs) h = absurd (true≢false (sym h ∙ ne_eqb (length (x ∷ xs)) 0 (λ e. omega (arith, e))))

  some_brought : (m : Message E) (ps : List (Part E)) → m.parts ≡ ps → (length ps == 0) ≡ false → batch_of m m.lo ps ≡ Batch m ∷ []
  some_brought m [] e h = absurd (true≢false h)
  some_brought m (x ∷ xs) e h = ap (λ ps. Batch (record { from = m.from; to = m.to; part = m.part; lo = m.lo; hi = m.hi; parts = ps }) ∷ []) (sym e)

  pub nothing_brought : (m : Message E) (l : List (Part E)) → l ≡ m.parts → (length l == 0) ≡ true → batch_of m m.lo m.parts ≡ []
  nothing_brought m l e h = none_brought m m.lo m.parts (ap (λ ps. length ps == 0) (sym e) ∙ h)

  pub something_brought : (m : Message E) (l : List (Part E)) → l ≡ m.parts → (length l == 0) ≡ false → batch_of m m.lo m.parts ≡ Batch m ∷ []
  something_brought m l e h = some_brought m m.parts refl (ap (λ ps. length ps == 0) (sym e) ∙ h)

  -- the records of a vote
  pub vote_records : (p : Option ℕ) (c d n : ℕ) (t : TxId) (l : ℕ) (s : List ℕ) (v w : List (Upd E)) → p ≡ wanted c n → c ≡ d → v ≡ w → leases p ++ Prepare t l n s v ∷ [] ≡ lease_at d n ++ Prepare t l n s w ∷ []
  vote_records p c d n t l s v w a b e =
      ap (λ q. leases q ++ Prepare t l n s v ∷ []) a ∙ ap (λ q. q ++ Prepare t l n s v ∷ []) (leases_wanted c n)
      ∙ ap (λ k. lease_at k n ++ Prepare t l n s v ∷ []) b ∙ ap (λ us. lease_at d n ++ Prepare t l n s us ∷ []) e

  abbrev entry_in : Record E → Entry E → Entry E
  entry_in (Lease n) x = x
  entry_in (Prepare t l n s w) x = record { tx = t; lead = l; time = n; s = s; updates = w }
  entry_in (Decide t c) x = x
  entry_in (Finish t c) x = x
  entry_in (Abort t) x = x
  entry_in (Batch m) x = x

  abbrev pub vote_of : TxId → ℕ → ℕ → List ℕ → List (Upd E) → Entry E
  vote_of t l n s w = record { tx = t; lead = l; time = n; s = s; updates = w }

  pub same_entry : (x y : Entry E) → Prepare x.tx x.lead x.time x.s x.updates ≡ Prepare y.tx y.lead y.time y.s y.updates → y ≡ x
  same_entry x y h = ap (λ r. entry_in r x) (sym h)

  same_batch : (m : Message E) (b : ℕ) (qs ps : List (Part E)) → batch_of (record { from = m.from; to = m.to; part = m.part; lo = b; hi = m.hi; parts = qs }) b ps ≡ batch_of m b ps
  same_batch m b qs [] = refl
  same_batch m b qs (x ∷ xs) = refl

  -- the record of what a message brings, by the message that is cut off
  pub cut_batch : (m news : Message E) (b d : ℕ) → news ≡ record { from = m.from; to = m.to; part = m.part; lo = b; hi = m.hi; parts = above m.from b m.parts } → b ≡ d → batch_of news news.lo news.parts ≡ batch_of m d (above m.from d m.parts)
  cut_batch m news b d e f = ap (λ (n : Message E). batch_of n n.lo n.parts) e ∙ same_batch m b (above m.from b m.parts) (above m.from b m.parts) ∙ ap (λ k. batch_of m k (above m.from k m.parts)) f
