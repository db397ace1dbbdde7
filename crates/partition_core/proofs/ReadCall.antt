-- The calls that read and update.
use Rattle.std.proofs.Common.{◌≡◌, ℕ, ◌<◌, ◌≤◌, Bool, true, false, not, ◌&&◌, List, [], ◌∷◌, length, Option, None, Some, refl, sym, ap, ◌∙◌, subst, arith}
use Rattle.std.proofs.lemmas.Bool.{true≢false}
use Rattle.site_vector.specs.declared.ids.TxId.{TxId}
use Rattle.site_vector.specs.Vector.{entry}
use Rattle.crdt_core.specs.declared.object.ObjectId.{ObjectId}
use Rattle.crdt_core.specs.declared.operation.Op.{Op}
use Rattle.crdt_core.specs.declared.value.Value.{Value}
use Rattle.crdt_core.specs.declared.record.Upd.{Upd}
use Rattle.crdt_core.specs.declared.record.Part.{Part}
use Rattle.crdt_core.specs.Kinds.{reads_state}
use Rattle.crdt_core.specs.Fits.{fits}
use Rattle.crdt_core.specs.History.{folded}
use Rattle.crdt_core.specs.KindsOf.{Kinds}
use Rattle.crdt_core.specs.Folds.{effects_of, state_read}
use Rattle.crdt_core.specs.Parts.{seen_parts}
use Rattle.prepared_table.specs.Entries.{first_on}
use Rattle.world_model.specs.rules.Event.{Event, Read, Updated, AskRead, AskUpdate, Refused, ClockBehind, TxPending, IsBadOp}
use Rattle.world_model.specs.rules.Partition.{PartState, IsReady, IsTxPending, done}
use Rattle.partition_core.specs.declared.answers.Refusal.{Refusal}
use Rattle.partition_core.specs.declared.answers.Refusal.TheVariants as answer
use Rattle.partition_core.specs.Answers.{cause}
use Rattle.partition_core.specs.Waits.{IsWait, MayRead}
use Rattle.partition_core.specs.Tables.{Tables}
use Rattle.partition_core.specs.Reads.{applied}
use Rattle.partition_core.specs.Stands.{told, Stands}
use Rattle.partition_core.specs.Steps.{Anything, Steps}
use Rattle.partition_core.proofs.Leasing.{refuses}
use Rattle.partition_core.proofs.Waiting.{IsFirst, first_found, none_found}
use Rattle.partition_core.proofs.Folding.{seen_fold, applied_folds}

no_members : {A : Type 0} (xs : List A) → length xs ≡ 0 → xs ≡ []
no_members [] e = refl
no_members (x ∷ xs) e = absurd (omega arith)

module _ {E : Type 0} (t : Tables E) (s : List ℕ) (o : ObjectId) (p : PartState E) (h : Stands t p) where
  is_waiting : (u : TxId) (n : ℕ) → entry s t.id.site ≤ t.clock → first_on o (entry s t.id.site) t.pending ≡ Some (u, n) → IsTxPending t.id p s o u n
  is_waiting u n k e =
      let table = h.tells.table in
      let r : IsFirst (told p.log) (entry s t.id.site) o t.pending (u, n) = first_found (told p.log) (entry s t.id.site) o t.pending (u, n) table.exact table.order e in record {
        clock = subst (λ m. entry s t.id.site ≤ m) (sym h.clock) k;
        waiting = sym (table.members u) ∙ r.there;
        changes = r.changes;
        time = r.time;
        early = r.early;
        first = λ w a b. r.first w (table.members w ∙ a) b;
      }

  is_ready : entry s t.id.site ≤ t.clock → first_on o (entry s t.id.site) t.pending ≡ None → IsReady t.id p s o
  is_ready k e = record {
    clock = subst (λ m. entry s t.id.site ≤ m) (sym h.clock) k;
    free = λ u a b. none_found (told p.log) (entry s t.id.site) o t.pending h.tells.table.exact e u (h.tells.table.members u ∙ a) b;
  }

  stays : (e : Event E) → done p e ≡ record { up = true; now = p.now; log = p.log; torn = []; bounds = p.bounds; heard = p.heard; sent = p.sent } → Stands t (done p e)
  stays e d = subst (λ q. Stands t q) (sym d) (record { up = refl; whole = refl; clock = h.clock; ceiling = h.ceiling; tells = h.tells; bounds = h.bounds; heard = h.heard; sent = h.sent })

module _ {S E : Type 0} (kinds : Kinds S E) (t : Tables E) (tx : TxId) (s : List ℕ) (o : ObjectId) (own : List (Upd E)) where
  -- what the code finds that a read has to wait for
  abbrev pub Waiting : Refusal → Type 0
  Waiting why = IsWait t.clock t.pending t.id.site s o why

  abbrev pub Ready : Type 0
  Ready = MayRead t.clock t.pending t.id.site s o

  -- the state that the store finds
  abbrev pub found_state : S
  found_state = folded (kinds.initial o.kind) kinds.applied (effects_of o [] (seen_parts o s t.held))

  abbrev upto : ℕ
  upto = entry s t.id.site

  -- what is read, and the state that its own updates make of it
  abbrev seen : List (Part E)
  seen = seen_parts o s t.held

  abbrev pub with_held : List (Part E) → Tables E
  with_held held = record { id = t.id; sites = t.sites; parts = t.parts; clock = t.clock; ceiling = t.ceiling; pending = t.pending; held = held; bounds = t.bounds; heard = t.heard; sent = t.sent }

  abbrev pub with_own : S → S
  with_own state = applied kinds.applied o tx state own

  state_is : with_own (folded (kinds.initial o.kind) kinds.applied (effects_of o [] seen)) ≡ state_read kinds o tx own seen
  state_is = applied_folds (kinds.initial o.kind) kinds.applied o tx (effects_of o [] seen) own

  pub read_early : t.clock < upto → Steps kinds t Anything (λ e. e ≡ Refused (AskRead tx s o own) (ClockBehind t.clock)) t
  read_early k = refuses kinds Anything t (AskRead tx s o own) (ClockBehind t.clock) (λ p h. (h.up, (sym h.clock, k)))

  pub read_waits : (u : TxId) (n : ℕ) → upto ≤ t.clock → first_on o upto t.pending ≡ Some (u, n) → Steps kinds t Anything (λ e. e ≡ Refused (AskRead tx s o own) (TxPending u n)) t
  read_waits u n k e = refuses kinds Anything t (AskRead tx s o own) (TxPending u n) (λ p h. (h.up, is_waiting t s o p h u n k e))

  pub reads : (state : S) (v : Value) → upto ≤ t.clock → first_on o upto t.pending ≡ None → kinds.has o.kind ≡ true → state ≡ folded (kinds.initial o.kind) kinds.applied (effects_of o [] seen) → v ≡ kinds.value_of (with_own state)
      → Steps kinds t Anything (λ e. (read : List (Part E)) × (e ≡ Read tx s o own read v)) t
  reads state v k e has is shows = record {
    same = record { id = refl; sites = refl; parts = refl };
    step = λ p h g. record {
      event = Read tx s o own seen v;
      after = done p (Read tx s o own seen v);
      shows = (seen, refl);
      step = (h.up, (is_ready t s o p h k e, seen_fold p.log o s t.held h.tells.store, has, shows ∙ ap kinds.value_of (ap with_own is ∙ state_is)), refl);
      stands = stays t s o p h (Read tx s o own seen v) refl;
    };
  }

  pub read_waits_by : (why : Refusal) → Waiting why → Steps kinds t Anything (λ e. e ≡ Refused (AskRead tx s o own) (cause why)) t
  read_waits_by (answer.ClockBehind n) w = subst (λ m. Steps kinds t Anything (λ e. e ≡ Refused (AskRead tx s o own) (ClockBehind m)) t) (sym w.0) (read_early (subst (λ m. m < upto) w.0 w.1))
  read_waits_by (answer.TxPending u n) w = read_waits u n w.0 w.1
  read_waits_by (answer.StableBehind j n) w = absurd w
  read_waits_by answer.ClockAtEnd w = absurd w
  read_waits_by answer.BadOp w = absurd w
  read_waits_by answer.Gone w = absurd w
  read_waits_by (answer.Gap n) w = absurd w
  read_waits_by (answer.Repeat n) w = absurd w

  -- with the store that the code has then
  pub reads_by : (held : List (Part E)) (state : S) (v : Value) → held ≡ t.held → Ready → kinds.has o.kind ≡ true → state ≡ with_own found_state → v ≡ kinds.value_of state → Steps kinds t Anything (λ e. (read : List (Part E)) × (e ≡ Read tx s o own read v)) (with_held held)
  reads_by held state v same r has is shows = subst (λ l. Steps kinds t Anything (λ e. (read : List (Part E)) × (e ≡ Read tx s o own read v)) (with_held l)) (sym same) (reads found_state v r.reached r.free has refl (shows ∙ ap kinds.value_of is))

  pub reads_plain : (held : List (Part E)) (v : Value) → length own ≡ 0 → held ≡ t.held → Ready → kinds.has o.kind ≡ true → v ≡ kinds.value_of found_state → Steps kinds t Anything (λ e. (read : List (Part E)) × (e ≡ Read tx s o own read v)) (with_held held)
  reads_plain held v none same r has shows = reads_by held found_state v same r has (ap (λ us. applied kinds.applied o tx found_state us) (sym (no_members own none))) shows

  module _ (op : Op) where
    abbrev is_operation : Bool
    is_operation = fits o.kind op.path op.act && not (kinds.too_deep o.kind op.path)

    pub update_bad : is_operation ≡ false → Steps kinds t Anything (λ e. e ≡ Refused (AskUpdate tx s o own op) IsBadOp) t
    update_bad k = refuses kinds Anything t (AskUpdate tx s o own op) IsBadOp (λ p h. (h.up, k))

    pub update_early : is_operation ≡ true → reads_state o.kind ≡ true → t.clock < upto → Steps kinds t Anything (λ e. e ≡ Refused (AskUpdate tx s o own op) (ClockBehind t.clock)) t
    update_early fit needs k = refuses kinds Anything t (AskUpdate tx s o own op) (ClockBehind t.clock) (λ p h. (h.up, (needs, sym h.clock, k, fit)))

    pub update_waits : (u : TxId) (n : ℕ) → is_operation ≡ true → reads_state o.kind ≡ true → upto ≤ t.clock → first_on o upto t.pending ≡ Some (u, n) → Steps kinds t Anything (λ e. e ≡ Refused (AskUpdate tx s o own op) (TxPending u n)) t
    update_waits u n fit needs k e = refuses kinds Anything t (AskUpdate tx s o own op) (TxPending u n) (λ p h. (h.up, (needs, is_waiting t s o p h u n k e, fit)))

    abbrev change : ℕ → E → Upd E
    change index effect = record { object = o; index = index; effect = effect }

    -- the answer of an update
    abbrev pub ShowsUpdate : ℕ → E → Option ℕ → Event E → Type 0
    ShowsUpdate index effect stamp e = (read : List (Part E)) × (e ≡ Updated tx s o own op read (change index effect) stamp)

    pub update_waits_by : (why : Refusal) → is_operation ≡ true → reads_state o.kind ≡ true → Waiting why → Steps kinds t Anything (λ e. e ≡ Refused (AskUpdate tx s o own op) (cause why)) t
    update_waits_by (answer.ClockBehind n) fit needs w = subst (λ m. Steps kinds t Anything (λ e. e ≡ Refused (AskUpdate tx s o own op) (ClockBehind m)) t) (sym w.0) (update_early fit needs (subst (λ m. m < upto) w.0 w.1))
    update_waits_by (answer.TxPending u n) fit needs w = update_waits u n fit needs w.0 w.1
    update_waits_by (answer.StableBehind j n) fit needs w = absurd w
    update_waits_by answer.ClockAtEnd fit needs w = absurd w
    update_waits_by answer.BadOp fit needs w = absurd w
    update_waits_by answer.Gone fit needs w = absurd w
    update_waits_by (answer.Gap n) fit needs w = absurd w
    update_waits_by (answer.Repeat n) fit needs w = absurd w

    pub updates : (index : ℕ) (state : S) (effect : E) (stamp : Option ℕ) → is_operation ≡ true → upto ≤ t.clock → first_on o upto t.pending ≡ None → kinds.has o.kind ≡ true → state ≡ folded (kinds.initial o.kind) kinds.applied (effects_of o [] seen) → effect ≡ kinds.generated o.kind (with_own state) op.path op.act t.clock → stamp ≡ kinds.stamp_of effect
        → Steps kinds t Anything (ShowsUpdate index effect stamp) t
    updates index state effect stamp fit k e has is made stamped = record {
      same = record { id = refl; sites = refl; parts = refl };
      step = λ p h g.
          let event : Event E = Updated tx s o own op seen (change index effect) stamp in record {
            event = event;
            after = done p event;
            shows = (seen, refl);
            step = (
              h.up,
              record {
                ready = λ needs. is_ready t s o p h k e;
                fold = λ needs. seen_fold p.log o s t.held h.tells.store;
                known = has;
                fits = fit;
                object = refl;
                effect = made ∙ (λ i. kinds.generated o.kind ((ap with_own is ∙ state_is) i) op.path op.act (sym h.clock i));
                stamped = stamped;
              },
              refl,
            );
            stands = stays t s o p h event refl;
          };
    }

    -- one that reads no state
    pub updates_blind : (index : ℕ) (state : S) (effect : E) (stamp : Option ℕ) → is_operation ≡ true → reads_state o.kind ≡ false → kinds.has o.kind ≡ true → effect ≡ kinds.generated o.kind state op.path op.act t.clock → stamp ≡ kinds.stamp_of effect
        → Steps kinds t Anything (ShowsUpdate index effect stamp) t
    updates_blind index state effect stamp fit blind has made stamped = record {
      same = record { id = refl; sites = refl; parts = refl };
      step = λ p h g.
          let event : Event E = Updated tx s o own op [] (change index effect) stamp in record {
            event = event;
            after = done p event;
            shows = ([], refl);
            step = (
              h.up,
              record {
                ready = λ needs. absurd (true≢false (sym needs ∙ blind));
                fold = λ needs. absurd (true≢false (sym needs ∙ blind));
                known = has;
                fits = fit;
                object = refl;
                effect = made ∙ ap (λ n. kinds.generated o.kind state op.path op.act n) (sym h.clock) ∙ kinds.laws.unread o.kind state (state_read kinds o tx own []) op.path op.act p.now has blind;
                stamped = stamped;
              },
              refl,
            );
            stands = stays t s o p h event refl;
          };
    }

    -- with what the code has then
    pub updates_by : (index n : ℕ) (held : List (Part E)) (state : S) (effect : E) (stamp : Option ℕ) → held ≡ t.held → is_operation ≡ true → Ready → kinds.has o.kind ≡ true → state ≡ with_own found_state → n ≡ t.clock → effect ≡ kinds.generated o.kind state op.path op.act n → stamp ≡ kinds.stamp_of effect → Steps kinds t Anything (ShowsUpdate index effect stamp) (with_held held)
    updates_by index n held state effect stamp same fit r has is clock made stamped = subst (λ l. Steps kinds t Anything (ShowsUpdate index effect stamp) (with_held l)) (sym same) (updates index found_state effect stamp fit r.reached r.free has refl (made ∙ (λ i. kinds.generated o.kind (is i) op.path op.act (clock i))) stamped)

    pub updates_blind_by : (index n : ℕ) (state : S) (effect : E) (stamp : Option ℕ) → is_operation ≡ true → reads_state o.kind ≡ false → kinds.has o.kind ≡ true → n ≡ t.clock → effect ≡ kinds.generated o.kind state op.path op.act n → stamp ≡ kinds.stamp_of effect → Steps kinds t Anything (ShowsUpdate index effect stamp) t
    updates_blind_by index n state effect stamp fit blind has clock made stamped = updates_blind index state effect stamp fit blind has (made ∙ ap (λ m. kinds.generated o.kind state op.path op.act m) clock) stamped
