-- What a step makes of what a restart may find: each image after it tells what an image before it and at most one record more tell.
use Rattle.std.proofs.Common.{◌≡◌, ◌≢◌, ◌⊎◌, ⊎_elim, inl, inr, ℕ, ◌+◌, ◌<◌, ◌≤◌, min, leb, cond, Bool, true, false, ◌||◌, List, [], ◌∷◌, ◌++◌, Option, Some, refl, sym, ap, ◌∙◌, subst, arith, append-nil}
use Rattle.std.specs.Prelude.{⊤}
use Rattle.std.proofs.lemmas.Bool.{cases_Bool, or_left, or_cases, cond-true}
use Rattle.site_vector.specs.declared.ids.PartId.{PartId}
use Rattle.site_vector.specs.declared.ids.TxId.{TxId}
use Rattle.site_vector.specs.Ids.{same_tx}
use Rattle.site_vector.specs.Order.{same_tx_is, same_tx_refl}
use Rattle.site_vector.specs.Vector.{entry}
use Rattle.crdt_core.specs.declared.record.Upd.{Upd}
use Rattle.crdt_core.specs.declared.record.Part.{Part}
use Rattle.crdt_core.specs.declared.record.Message.{Message}
use Rattle.crdt_core.specs.declared.record.Record.{Record}
use Rattle.crdt_core.specs.declared.record.Record.TheVariants.{Lease, Prepare, Decide, Finish, Abort, Batch}
use Rattle.crdt_core.specs.Log.{end_of_time, prepared, prepare_time, prepared_changes, decided, committed, committed_at, aborted, pending, last_decided, taken, taken_at, taken_changes, logged_bound, ceiling, grown, MayFind}
use Rattle.world_model.specs.rules.Event.{led_by, Ask, Refusal, Refused, Event, Ticked, Began, Updated, Read, Prepared, Decided, Finished, Aborted, Sent, Took, Reported, Heard, Crashed, RestartCut, Restarted, Opened, Cut, Entry, attempt, is_prepare, is_decide, is_abort, shows_decided, time_shown}
use Rattle.world_model.specs.lines.Listed.{is_named}
use Rattle.crdt_core.specs.KindsOf.{Kinds}
use Rattle.world_model.specs.rules.Partition.{PartState, Finds, batch_of, records, MayDo, done, down, cut, PartStep}
use Rattle.crdt_core.specs.Log.{lease_for}
use Rattle.crdt_core.specs.Parts.{above}
use Rattle.world_model.specs.rules.Plan.{Plan, IsAllowed, MayPrepare, MayDecide, MayFinish, MayAbort, MayTake}
use Rattle.world_model.proofs.Names.{clash, off, part_cases}

-- an image of the log itself
log_image : {E : Type 0} (log rs : List (Record E)) → MayFind log rs log
log_image log [] = refl
log_image log (r ∷ rs) = inl refl

pub image_log : {E : Type 0} (p : PartState E) → Finds p p.log
image_log p = log_image p.log p.torn

pub named_by : (o : Option TxId) (t : TxId) → o ≡ Some t → is_named o t ≡ true
named_by o t e = ap (λ x. is_named x t) e ∙ same_tx_refl t

module _ {E : Type 0} where
  -- leases aside, both tell the same
  pub record SameTold (a b : List (Record E)) : Type 0 where
    pub prepared : (t : TxId) → prepared a t ≡ prepared b t
    pub time : (t : TxId) → prepare_time a t ≡ prepare_time b t
    pub changes : (t : TxId) → prepared_changes a t ≡ prepared_changes b t
    pub decided : (t : TxId) → decided a t ≡ decided b t
    pub committed : (t : TxId) → committed a t ≡ committed b t
    pub committed_at : (t : TxId) → committed_at a t ≡ committed_at b t
    pub aborted : (t : TxId) → aborted a t ≡ aborted b t
    pub last : last_decided a ≡ last_decided b
    pub taken : (t : TxId) → taken a t ≡ taken b t
    pub taken_at : (t : TxId) → taken_at a t ≡ taken_at b t
    pub taken_changes : (t : TxId) → taken_changes a t ≡ taken_changes b t
    pub bound : (j : ℕ) → logged_bound a j ≡ logged_bound b j

  told_same : (a : List (Record E)) → SameTold a a
  told_same a = record { prepared = λ t. refl; time = λ t. refl; changes = λ t. refl; decided = λ t. refl; committed = λ t. refl; committed_at = λ t. refl; aborted = λ t. refl; last = refl; taken = λ t. refl; taken_at = λ t. refl; taken_changes = λ t. refl; bound = λ j. refl }

  told_log : (a : List (Record E)) → SameTold a (Lease 0 ∷ a)
  told_log a = record { prepared = λ t. refl; time = λ t. refl; changes = λ t. refl; decided = λ t. refl; committed = λ t. refl; committed_at = λ t. refl; aborted = λ t. refl; last = refl; taken = λ t. refl; taken_at = λ t. refl; taken_changes = λ t. refl; bound = λ j. refl }

  told_leased : (a : List (Record E)) (k : ℕ) → SameTold (Lease k ∷ a) (Lease 0 ∷ a)
  told_leased a k = record { prepared = λ t. refl; time = λ t. refl; changes = λ t. refl; decided = λ t. refl; committed = λ t. refl; committed_at = λ t. refl; aborted = λ t. refl; last = refl; taken = λ t. refl; taken_at = λ t. refl; taken_changes = λ t. refl; bound = λ j. refl }

  told_prepared : (a : List (Record E)) (k : ℕ) (u : TxId) (l n : ℕ) (s : List ℕ) (w : List (Upd E)) → SameTold (Prepare u l n s w ∷ Lease k ∷ a) (Prepare u l n s w ∷ a)
  told_prepared a k u l n s w = record { prepared = λ t. refl; time = λ t. refl; changes = λ t. refl; decided = λ t. refl; committed = λ t. refl; committed_at = λ t. refl; aborted = λ t. refl; last = refl; taken = λ t. refl; taken_at = λ t. refl; taken_changes = λ t. refl; bound = λ j. refl }

  told_as : (a b c : List (Record E)) → a ≡ b → SameTold b c → SameTold a c
  told_as a b c e s = subst (λ x. SameTold x c) (sym e) s

  -- where a record of a message comes from
  pub record IsCut (plan : Plan E) (run : List (Entry E)) (p : PartState E) (at : PartId) (m : Message E) : Type 0 where
    pub up : p.up ≡ true
    pub number : ℕ
    pub whole : Message E
    pub taken : MayTake plan run at number whole
    pub low : whole.lo ≤ entry p.bounds whole.from
    pub from : m.from ≡ whole.from
    pub hi : m.hi ≡ whole.hi
    pub parts : m.parts ≡ above whole.from (entry p.bounds whole.from) whole.parts

  -- why a record came; a Lease stands for none
  abbrev pub Because : Plan E → List (Entry E) → (PartId → PartState E) → Bool → PartId → Event E → PartId → List (Record E) → Record E → Type 0
  Because plan run before up at event q old (Lease n) = ⊤
  Because plan run before up at event q old (Prepare t l n s w) = (q ≡ at) × (attempt event ≡ Prepared t s (led_by l) w n) × (n ≡ (before at).now + 1) × MayPrepare plan run at t s (led_by l) w
  Because plan run before up at event q old (Decide t c) = (q ≡ at) × (attempt event ≡ Decided t c) × (pending old t ≡ true) × MayDecide plan run at t c × ((shows_decided event t ≡ true) ⊎ (up ≡ false))
  Because plan run before up at event q old (Finish t c) = (q ≡ at) × (pending old t ≡ true) × MayFinish plan run at t c
  Because plan run before up at event q old (Abort t) = (q ≡ at) × (pending old t ≡ true) × ((own : Bool) × (attempt event ≡ Aborted t own) × MayAbort plan run before at t own)
  Because plan run before up at event q old (Batch m) = (q ≡ at) × IsCut plan run (before at) at m

  pub record Changed (plan : Plan E) (run : List (Entry E)) (before : PartId → PartState E) (up : Bool) (at : PartId) (event : Event E) (q : PartId) (new : List (Record E)) : Type 0 where
    pub old : List (Record E)
    pub was : Finds (before q) old
    pub more : Record E
    pub told : SameTold new (more ∷ old)
    pub because : Because plan run before up at event q old more
    -- what a partition that was down had last decided
    pub downs : (t : TxId) → (before q).up ≡ false → last_decided old ≡ Some t → (shows_decided event t ≡ true) ⊎ ((up ≡ false) × (last_decided new ≡ Some t))

  pub last_is_decided : (log : List (Record E)) (t : TxId) → is_named (last_decided log) t ≡ true → decided log t ≡ true
  last_is_decided [] t h = h
  last_is_decided (Lease n ∷ log) t h = last_is_decided log t h
  last_is_decided (Prepare u l n s w ∷ log) t h = last_is_decided log t h
  last_is_decided (Decide u c ∷ log) t h = or_left (same_tx u t) (decided log t) h
  last_is_decided (Finish u c ∷ log) t h = last_is_decided log t h
  last_is_decided (Abort u ∷ log) t h = last_is_decided log t h
  last_is_decided (Batch m ∷ log) t h = last_is_decided log t h

  pub grown_image : (log rs : List (Record E)) → MayFind log rs (grown log rs)
  grown_image log [] = refl
  grown_image log (r ∷ rs) = inr (grown_image (r ∷ log) rs)

  pub grown_last : (log rs : List (Record E)) (r : Record E) → grown log (rs ++ r ∷ []) ≡ r ∷ grown log rs
  grown_last log [] r = refl
  grown_last log (x ∷ rs) r = grown_last (x ∷ log) rs r

  -- a step as the parts of the invariant see it, whatever its event
  pub record Move (plan : Plan E) (run : List (Entry E)) (before after : PartId → PartState E) (at : PartId) (event : Event E) : Type 0 where
    pub allowed : IsAllowed plan run before at (attempt event)
    pub changed : (q : PartId) (new : List (Record E)) → Finds (after q) new → Changed plan run before (after q).up at event q new
    -- what an event shows stands in each image
    pub votes : (t : TxId) → is_prepare event t ≡ true → (new : List (Record E)) → Finds (after at) new → (prepared new t ≡ true) × (prepare_time new t ≡ time_shown event)
    pub decides : (t : TxId) → shows_decided event t ≡ true → (new : List (Record E)) → Finds (after at) new → (decided new t ≡ true) ⊎ ((at ≡ plan.lead t) × (committed new t ≡ true))
    pub aborts : (t : TxId) → is_abort event t ≡ true → (new : List (Record E)) → Finds (after at) new → aborted new t ≡ true
    pub late : (t : TxId) → is_prepare event t ≡ true → entry (plan.snapshot t) at.site < time_shown event

  module _ (plan : Plan E) (run : List (Entry E)) (before : PartId → PartState E) where
    -- nothing more at a partition that was up
    nothing_more : (up : Bool) (at : PartId) (event : Event E) (new : List (Record E)) → (before at).up ≡ true → SameTold new (Lease 0 ∷ (before at).log) → Changed plan run before up at event at new
    nothing_more up at event new h s = record { old = (before at).log; was = image_log (before at); more = Lease 0; told = s; because = tt; downs = λ t k _. clash h k }

    one_more : (up : Bool) (at : PartId) (event : Event E) (new : List (Record E)) (r : Record E) → (before at).up ≡ true → SameTold new (r ∷ (before at).log) → Because plan run before up at event at (before at).log r → Changed plan run before up at event at new
    one_more up at event new r h s b = record { old = (before at).log; was = image_log (before at); more = r; told = s; because = b; downs = λ t k _. clash h k }

    -- a lease, or none, and then these records
    with_lease : (up : Bool) (at : PartId) (n : ℕ) (event : Event E) (new rs : List (Record E)) → (before at).up ≡ true → (MayFind (before at).log rs new → Changed plan run before up at event at new) → ((k : ℕ) → MayFind (Lease k ∷ (before at).log) rs new → Changed plan run before up at event at new) → MayFind (before at).log (lease_for (before at).log n ++ rs) new → Changed plan run before up at event at new
    with_lease up at n event new rs h plain leased = elim (leb n (ceiling (before at).log)) as (λ b. MayFind (before at).log (cond b [] (Lease (min (n + 1000) end_of_time) ∷ []) ++ rs) new → Changed plan run before up at event at new) [
      | true ↦ plain
      | false ↦ λ i. ⊎_elim (λ (e : new ≡ (before at).log). nothing_more up at event new h (told_as new _ _ e (told_log (before at).log))) (leased (min (n + 1000) end_of_time)) i
    ]

    no_lease : (up : Bool) (at : PartId) (event : Event E) (new : List (Record E)) → (before at).up ≡ true → new ≡ (before at).log → Changed plan run before up at event at new
    no_lease up at event new h e = nothing_more up at event new h (told_as new _ _ e (told_log (before at).log))

    only_lease : (up : Bool) (at : PartId) (event : Event E) (new : List (Record E)) (k : ℕ) → (before at).up ≡ true → new ≡ Lease k ∷ (before at).log → Changed plan run before up at event at new
    only_lease up at event new k h e = nothing_more up at event new h (told_as new _ _ e (told_leased (before at).log k))

    -- the log, or with this record
    one_record : (up : Bool) (at : PartId) (event : Event E) (new : List (Record E)) (r : Record E) → (before at).up ≡ true → Because plan run before up at event at (before at).log r → (new ≡ (before at).log) ⊎ (new ≡ r ∷ (before at).log) → Changed plan run before up at event at new
    one_record up at event new r h b i = ⊎_elim (λ e. no_lease up at event new h e) (λ e. one_more up at event new r h (told_as new _ _ e (told_same (r ∷ (before at).log))) b) i

    -- a record where a transaction is pending
    if_pending : (up : Bool) (at : PartId) (event : Event E) (new : List (Record E)) (t : TxId) (r : Record E) → (before at).up ≡ true → (pending (before at).log t ≡ true → Because plan run before up at event at (before at).log r) → MayFind (before at).log (cond (pending (before at).log t) (r ∷ []) []) new → Changed plan run before up at event at new
    if_pending up at event new t r h b i = ⊎_elim
        (λ (k : pending (before at).log t ≡ true). one_record up at event new r h (b k) (subst (λ x. MayFind (before at).log (cond x (r ∷ []) []) new) k i))
        (λ (k : pending (before at).log t ≡ false). no_lease up at event new h (subst (λ x. MayFind (before at).log (cond x (r ∷ []) []) new) k i))
        (cases_Bool (pending (before at).log t))

    -- what a message brings
    batched : (up : Bool) (at : PartId) (event : Event E) (new : List (Record E)) (number : ℕ) (m : Message E) → (before at).up ≡ true → MayTake plan run at number m → m.lo ≤ entry (before at).bounds m.from → (xs : List (Part E)) → above m.from (entry (before at).bounds m.from) m.parts ≡ xs → MayFind (before at).log (batch_of m (entry (before at).bounds m.from) xs) new → Changed plan run before up at event at new
    batched up at event new number m h al low [] e i = no_lease up at event new h i
    batched up at event new number m h al low (x ∷ xs) e i = one_record up at event new (Batch (record { from = m.from; to = m.to; part = m.part; lo = entry (before at).bounds m.from; hi = m.hi; parts = x ∷ xs })) h (refl, record { up = h; number = number; whole = m; taken = al; low = low; from = refl; hi = refl; parts = sym e }) i

    same_part_image : (up : Bool) (at : PartId) (event : Event E) (q : PartId) (new : List (Record E)) → up ≡ (before q).up → Finds (before q) new → Changed plan run before up at event q new
    same_part_image up at event q new e i = record { old = new; was = i; more = Lease 0; told = told_log new; because = tt; downs = λ t k l. inr (e ∙ k, l) }

    module _ {S : Type 0} (kinds : Kinds S E) where
      -- what the records of an event may leave
      recorded : (up : Bool) (at : PartId) (event a : Event E) (new : List (Record E)) → (before at).up ≡ true → attempt event ≡ a → MayDo kinds plan.sites plan.parts at (before at) a → IsAllowed plan run before at a → ((t : TxId) → is_decide a t ≡ true → (shows_decided event t ≡ true) ⊎ (up ≡ false)) → MayFind (before at).log (records (before at) a) new → Changed plan run before up at event at new
      recorded up at event (Ticked r n) new h s m al d i = with_lease up at n event new [] h (λ e. no_lease up at event new h e) (λ k e. only_lease up at event new k h e) (subst (λ rs. MayFind (before at).log rs new) (sym (append-nil (lease_for (before at).log n))) i)
      recorded up at event (Began who dep t v) new h s m al d i = with_lease up at t.time event new [] h (λ e. no_lease up at event new h e) (λ k e. only_lease up at event new k h e) (subst (λ rs. MayFind (before at).log rs new) (sym (append-nil (lease_for (before at).log t.time))) i)
      recorded up at event (Updated t v o own op read u stamp) new h s m al d i = no_lease up at event new h i
      recorded up at event (Read t v o own read value) new h s m al d i = no_lease up at event new h i
      recorded up at event (Prepared t v l w n) new h s m al d i = with_lease up at n event new (Prepare t l.lead n v w ∷ []) h (one_record up at event new (Prepare t l.lead n v w) h (refl, s, m.1, al))
          (λ k. ⊎_elim (λ e. only_lease up at event new k h e) (λ e. one_more up at event new (Prepare t l.lead n v w) h (told_as new _ _ e (told_prepared (before at).log k t l.lead n v w)) (refl, s, m.1, al))) i
      recorded up at event (Decided t c) new h s m al d i = if_pending up at event new t (Decide t c) h (λ k. (refl, s, k, al, d t (same_tx_refl t))) i
      recorded up at event (Finished t c) new h s m al d i = if_pending up at event new t (Finish t c) h (λ k. (refl, k, al)) i
      recorded up at event (Aborted t own) new h s m al d i = one_record up at event new (Abort t) h (refl, m, (own, s, al)) i
      recorded up at event (Sent asked x) new h s m al d i = no_lease up at event new h i
      recorded up at event (Took number x) new h s m al d i = batched up at event new number x h al m.0 (above x.from (entry (before at).bounds x.from) x.parts) refl i
      recorded up at event (Reported b) new h s m al d i = no_lease up at event new h i
      recorded up at event (Heard number q b stable) new h s m al d i = no_lease up at event new h i
      recorded up at event Crashed new h s m al d i = absurd m
      recorded up at event RestartCut new h s m al d i = absurd m
      recorded up at event (Restarted n b named listed) new h s m al d i = absurd m
      recorded up at event (Refused asked why) new h s m al d i = absurd m
      recorded up at event (Opened who) new h s m al d i = absurd m
      recorded up at event (Cut a) new h s m al d i = absurd m

  module _ {S : Type 0} (kinds : Kinds S E) (plan : Plan E) (run : List (Entry E)) (before after : PartId → PartState E) (at : PartId) where
    abbrev Here : Event E → Type 0
    Here event = (new : List (Record E)) → Finds (after at) new → Changed plan run before (after at).up at event at new

    abbrev Step : Event E → Type 0
    Step event = PartStep kinds plan.sites plan.parts at (before at) event (after at)

    -- where the event was done the one image is the log, where it was cut off any
    here_done : (event : Event E) → attempt event ≡ event → ((t : TxId) → is_decide event t ≡ true → shows_decided event t ≡ true) → (before at).up ≡ true → MayDo kinds plan.sites plan.parts at (before at) event → IsAllowed plan run before at event → after at ≡ done (before at) event → Here event
    here_done event s d h m al e new i =
        let i' : Finds (done (before at) event) new = subst (λ p. Finds p new) e i in
        recorded plan run before kinds (after at).up at event event new h s m al (λ t k. inl (d t k)) (subst (λ x. MayFind (before at).log (records (before at) event) x) (sym i') (grown_image (before at).log (records (before at) event)))

    here_cut : (what : Event E) → (before at).up ≡ true → MayDo kinds plan.sites plan.parts at (before at) what → IsAllowed plan run before at what → after at ≡ cut (before at) what → Here (Cut what)
    here_cut what h m al e new i = recorded plan run before kinds (after at).up at (Cut what) what new h refl m al (λ t k. inr (ap (λ p. p.up) e)) (subst (λ p. Finds p new) e i)

    here_down : (event : Event E) → after at ≡ down (before at) (before at).torn → Here event
    here_down event s new i = record {
      old = new;
      was = subst (λ p. Finds p new) s i;
      more = Lease 0;
      told = told_log new;
      because = tt;
      downs = λ t k l. inr (ap (λ p. p.up) s, l);
    }

    here_restarted : (n : ℕ) (b : List ℕ) (named : Option TxId) (listed : List (TxId × ℕ)) → Step (Restarted n b named listed) → Here (Restarted n b named listed)
    here_restarted n b named listed s new i =
        let e : new ≡ (after at).log = subst (λ rs. MayFind (after at).log rs new) s.whole i in record {
          old = (after at).log;
          was = s.found;
          more = Lease 0;
          told = told_as new _ _ e (told_log (after at).log);
          because = tt;
          downs = λ t k l. inl (ap (λ o. is_named o t) s.last ∙ named_by (last_decided (after at).log) t l);
        }

    here_refused : (asked : Ask E) (why : Refusal) → Step (Refused asked why) → Here (Refused asked why)
    here_refused asked why s new i = same_part_image plan run before (after at).up at (Refused asked why) at new (ap (λ p. p.up) s.1) (subst (λ p. Finds p new) s.1 i)

    here : (event : Event E) → IsAllowed plan run before at (attempt event) → Step event → Here event
    here (Ticked r n) al s = here_done (Ticked r n) refl (λ t k. off k) s.0 s.1 al s.2
    here (Began who dep t v) al s = here_done (Began who dep t v) refl (λ t k. off k) s.0 s.1 al s.2
    here (Updated t v o own op read u stamp) al s = here_done (Updated t v o own op read u stamp) refl (λ t k. off k) s.0 s.1 al s.2
    here (Read t v o own read value) al s = here_done (Read t v o own read value) refl (λ t k. off k) s.0 s.1 al s.2
    here (Prepared t v l w n) al s = here_done (Prepared t v l w n) refl (λ t k. off k) s.0 s.1 al s.2
    here (Decided t c) al s = here_done (Decided t c) refl (λ t k. k) s.0 s.1 al s.2
    here (Finished t c) al s = here_done (Finished t c) refl (λ t k. off k) s.0 s.1 al s.2
    here (Aborted t own) al s = here_done (Aborted t own) refl (λ t k. off k) s.0 s.1 al s.2
    here (Sent asked m) al s = here_done (Sent asked m) refl (λ t k. off k) s.0 s.1 al s.2
    here (Took number m) al s = here_done (Took number m) refl (λ t k. off k) s.0 s.1 al s.2
    here (Reported b) al s = here_done (Reported b) refl (λ t k. off k) s.0 s.1 al s.2
    here (Heard number q b stable) al s = here_done (Heard number q b stable) refl (λ t k. off k) s.0 s.1 al s.2
    here (Cut what) al s = here_cut what s.0 s.1 al s.2
    here Crashed al s = here_down Crashed s
    here RestartCut al s = here_down RestartCut s
    here (Restarted n b named listed) al s = here_restarted n b named listed s
    here (Refused asked why) al s = here_refused asked why s
    here (Opened who) al s = λ new i. same_part_image plan run before (after at).up at (Opened who) at new (ap (λ p. p.up) s) (subst (λ p. Finds p new) s i)

    everywhere : (event : Event E) → IsAllowed plan run before at (attempt event) → Step event → ((q : PartId) → q ≢ at → after q ≡ before q) → (q : PartId) (new : List (Record E)) → Finds (after q) new → Changed plan run before (after q).up at event q new
    everywhere event al s others q new i = ⊎_elim
        (λ (e : q ≡ at). subst (λ (x : PartId). (new : List (Record E)) → Finds (after x) new → Changed plan run before (after x).up at event x new) (sym e) (here event al s) new i)
        (λ (ne : q ≡ at → ⊥). same_part_image plan run before (after q).up at event q new (ap (λ p. p.up) (others q ne)) (subst (λ p. Finds p new) (others q ne) i))
        (part_cases q at)

    the_log : (event : Event E) (new : List (Record E)) → after at ≡ done (before at) event → Finds (after at) new → new ≡ grown (before at).log (records (before at) event)
    the_log event new e i = subst (λ p. Finds p new) e i

    votes_of : (event : Event E) → Step event → (t : TxId) → is_prepare event t ≡ true → (new : List (Record E)) → Finds (after at) new → (prepared new t ≡ true) × (prepare_time new t ≡ time_shown event)
    votes_of (Prepared u v l w n) s t h new i =
        let log = (before at).log in
        let e : new ≡ Prepare u l.lead n v w ∷ grown log (lease_for log n) = the_log (Prepared u v l w n) new s.2 i ∙ grown_last log (lease_for log n) (Prepare u l.lead n v w) in
        (ap (λ x. prepared x t) e ∙ or_left (same_tx u t) _ h, ap (λ x. prepare_time x t) e ∙ cond-true (same_tx u t) n _ h)
    votes_of event s t h new i = off h

    -- a decide that was answered stands in the log
    decide_lasts : (log : List (Record E)) (u : TxId) (c : List ℕ) → (pending log u || committed log u) ≡ true → committed (grown log (cond (pending log u) (Decide u c ∷ []) [])) u ≡ true
    decide_lasts log u c h = ⊎_elim
        (λ (k : pending log u ≡ true). subst (λ x. committed (grown log (cond x (Decide u c ∷ []) [])) u ≡ true) (sym k) (or_left _ _ (same_tx_refl u)))
        (λ (k : pending log u ≡ false). subst (λ x. committed (grown log (cond x (Decide u c ∷ []) [])) u ≡ true) (sym k) (⊎_elim (λ (x : pending log u ≡ true). clash x k) (λ (x : committed log u ≡ true). x) (or_cases _ _ h)))
        (cases_Bool (pending log u))

    decides_of : (event : Event E) → IsAllowed plan run before at (attempt event) → Step event → (t : TxId) → shows_decided event t ≡ true → (new : List (Record E)) → Finds (after at) new → (decided new t ≡ true) ⊎ ((at ≡ plan.lead t) × (committed new t ≡ true))
    decides_of (Decided u c) al s t h new i =
        let e = same_tx_is u t h in
        inr (al.lead ∙ ap plan.lead e, ap (λ x. committed x t) (the_log (Decided u c) new s.2 i) ∙ subst (λ x. committed (grown (before at).log (records (before at) (Decided u c))) x ≡ true) e (decide_lasts (before at).log u c s.1))
    decides_of (Restarted n b named listed) al s t h new i =
        let e : new ≡ (after at).log = subst (λ rs. MayFind (after at).log rs new) s.whole i in
        inl (last_is_decided new t (ap (λ o. is_named o t) (ap last_decided e ∙ sym s.last) ∙ h))
    decides_of event al s t h new i = off h

    aborts_of : (event : Event E) → Step event → (t : TxId) → is_abort event t ≡ true → (new : List (Record E)) → Finds (after at) new → aborted new t ≡ true
    aborts_of (Aborted u own) s t h new i = ap (λ x. aborted x t) (the_log (Aborted u own) new s.2 i) ∙ or_left (same_tx u t) _ h
    aborts_of event s t h new i = off h

    late_of : (event : Event E) → IsAllowed plan run before at (attempt event) → Step event → (t : TxId) → is_prepare event t ≡ true → entry (plan.snapshot t) at.site < time_shown event
    late_of (Prepared u v l w n) al s t h = let e : entry v at.site ≡ entry (plan.snapshot u) at.site = ap (λ x. entry x at.site) al.snapshot in subst (λ x. entry (plan.snapshot x) at.site < n) (same_tx_is u t h) (omega (arith, s.1.0, s.1.1))
    late_of event al s t h = off h

    -- each step is such a move
    pub moved : (event : Event E) → IsAllowed plan run before at (attempt event) → Step event → ((q : PartId) → q ≢ at → after q ≡ before q) → Move plan run before after at event
    moved event al s others = record {
      allowed = al;
      changed = everywhere event al s others;
      votes = votes_of event s;
      decides = decides_of event al s;
      aborts = aborts_of event s;
      late = late_of event al s;
    }
