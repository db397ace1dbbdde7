-- The calls that decide, finish, abort and tell a fate.
use Rattle.std.proofs.Common.{◌≡◌, ⊎_elim, ℕ, Bool, true, false, ◌||◌, List, [], ◌∷◌, ◌++◌, None, Some, refl, sym, ap, ◌∙◌, subst}
use Rattle.std.specs.Prelude.{if◌then◌else◌, Result, Ok, Err}
use Rattle.std.proofs.lemmas.Bool.{true≢false, cases_Bool, false_from_ne_true}
use Rattle.site_vector.specs.declared.ids.TxId.{TxId}
use Rattle.site_vector.specs.Ids.{same_tx}
use Rattle.site_vector.specs.Order.{same_tx_is}
use Rattle.crdt_core.specs.declared.record.Upd.{Upd}
use Rattle.crdt_core.specs.declared.record.Part.{Part}
use Rattle.crdt_core.specs.declared.record.Record.{Record}
use Rattle.crdt_core.specs.declared.record.Record.TheVariants.{Decide, Finish, Abort}
use Rattle.crdt_core.specs.KindsOf.{Kinds}
use Rattle.crdt_core.specs.Log.{ceiling, committed, committed_at, taken_at, pending, grown}
use Rattle.crdt_core.specs.Orders.{insert_by, fold_cmp}
use Rattle.crdt_core.specs.Parts.{lists, vector_in, AreParts}
use Rattle.prepared_table.specs.declared.entry.Entry.{Entry}
use Rattle.prepared_table.specs.Entries.{has_entry, found, IsTakenOut}
use Rattle.world_model.specs.rules.Event.{Event, AskDecide, AskFinish, AskAbort, Decided, Finished, Aborted, Refused, IsGone}
use Rattle.world_model.specs.rules.Partition.{PartState, Fate, ToldPending, ToldCommitted, ToldAborted, ToldDown, fate_of, done}
use Rattle.partition_core.specs.Tables.{Tables, knows}
use Rattle.partition_core.specs.Stands.{Tells, Stands}
use Rattle.partition_core.specs.Steps.{Anything, Steps}
use Rattle.partition_core.specs.declared.answers.Refusal.{Refusal}
use Rattle.partition_core.specs.Answers.{cause, Answered}
use Rattle.partition_core.specs.Committed.{IsCommitted, IsNotPending, Commits}
use Rattle.partition_core.proofs.Choices.{or_none, second_true, taken_first, taken_second}
use Rattle.partition_core.proofs.Rooms.{found_is, not_found_is, still_has}
use Rattle.partition_core.proofs.Leasing.{refuses}
use Rattle.partition_core.proofs.Ending.{waits, abort_tells, decide_tells, finish_tells}

some_is : {A : Type 0} (x y : A) → Some x ≡ Some y → x ≡ y
some_is x y e = cc

none_is : {A : Type 0} (x : A) → Some x ≡ None → ⊥
none_is x e = cc

-- the vector of a part that is there
vector_there : {E : Type 0} (v : TxId → List ℕ) (c : TxId → List (Upd E)) (xs : List (Part E)) (u : TxId) → AreParts v c xs → lists xs u ≡ true → vector_in xs u ≡ v u
vector_there v c [] u h k = absurd (true≢false (sym k))
vector_there v c (x ∷ xs) u h k = ⊎_elim
    (λ (e : same_tx x.tx u ≡ true). ap (λ b. if b then x.c else vector_in xs u) e ∙ h.0.0 ∙ ap v (same_tx_is x.tx u e))
    (λ (e : same_tx x.tx u ≡ false). ap (λ b. if b then x.c else vector_in xs u) e ∙ vector_there v c xs u h.1 (second_true (same_tx x.tx u) (lists xs u) e k))
    (cases_Bool (same_tx x.tx u))

module _ {E : Type 0} (t : Tables E) (tx : TxId) (home : tx.site ≡ t.id.site) (p : PartState E) (h : Stands t p) where
  -- a transaction of this site that is held here was committed here
  pub held_here : lists t.held tx ≡ committed p.log tx
  held_here = h.tells.store.members tx ∙ ap (λ b. committed p.log tx || b) (false_from_ne_true _ (λ k. h.tells.brought tx k home)) ∙ or_none (committed p.log tx)

  ends_here : has_entry t.pending tx ≡ false → (pending p.log tx || committed p.log tx) ≡ lists t.held tx
  ends_here out = ap (λ b. b || committed p.log tx) (sym (h.tells.table.members tx) ∙ out) ∙ sym held_here

  -- what it tells of the transaction
  pub tells_pending : has_entry t.pending tx ≡ true → ToldPending ≡ fate_of p tx
  tells_pending k = sym (λ i. if h.up i then (if (sym (h.tells.table.members tx) ∙ k) i then ToldPending else (if committed p.log tx then ToldCommitted (committed_at p.log tx) else ToldAborted)) else ToldDown)

  abbrev fate_by : Bool → Bool → List ℕ → Fate
  fate_by b d c = if b then ToldPending else (if d then ToldCommitted c else ToldAborted)

  fate_is : fate_of p tx ≡ fate_by (has_entry t.pending tx) (lists t.held tx) (committed_at p.log tx)
  fate_is = λ i. if h.up i then (if sym (h.tells.table.members tx) i then ToldPending else (if sym held_here i then ToldCommitted (committed_at p.log tx) else ToldAborted)) else ToldDown

  pub tells_committed : (c : List ℕ) → has_entry t.pending tx ≡ false → lists t.held tx ≡ true → c ≡ vector_in t.held tx → ToldCommitted c ≡ fate_of p tx
  tells_committed c out k is =
      let at : vector_in t.held tx ≡ committed_at p.log tx = vector_there _ _ t.held tx h.tells.store.exact k ∙ ap (λ b. if b then committed_at p.log tx else taken_at p.log tx) (sym held_here ∙ k) in
      ap ToldCommitted (is ∙ at) ∙ sym (fate_is ∙ (λ i. fate_by (out i) (k i) (committed_at p.log tx)))

  pub tells_aborted : has_entry t.pending tx ≡ false → lists t.held tx ≡ false → ToldAborted ≡ fate_of p tx
  tells_aborted out k = sym (fate_is ∙ (λ i. fate_by (out i) (k i) (committed_at p.log tx)))

module _ {S E : Type 0} (kinds : Kinds S E) (t : Tables E) where
  abbrev pub with_lists : List (Entry E) → List (Part E) → Tables E
  with_lists xs ps = record { id = t.id; sites = t.sites; parts = t.parts; clock = t.clock; ceiling = t.ceiling; pending = xs; held = ps; bounds = t.bounds; heard = t.heard; sent = t.sent }

  -- an event that changes the log and the two lists alone
  listed : (xs : List (Entry E)) (ps : List (Part E)) (p : PartState E) (log : List (Record E)) → Stands t p → ceiling log ≡ ceiling p.log → Tells log t.id.site t.clock xs ps
      → Stands (with_lists xs ps) (record { up = true; now = p.now; log = log; torn = []; bounds = p.bounds; heard = p.heard; sent = p.sent })
  listed xs ps p log h e tells = record { up = refl; whole = refl; clock = h.clock; ceiling = e ∙ h.ceiling; tells = tells; bounds = h.bounds; heard = h.heard; sent = h.sent }

  -- where there is no entry it was committed before, or is gone
  pub decided_before : (tx : TxId) (c : List ℕ) → tx.site ≡ t.id.site → has_entry t.pending tx ≡ false → lists t.held tx ≡ true → Steps kinds t Anything (λ e. e ≡ Decided tx c) t
  decided_before tx c home out k = record {
    same = record { id = refl; sites = refl; parts = refl };
    step = λ p h g. record {
      event = Decided tx c;
      after = done p (Decided tx c);
      shows = refl;
      step = (h.up, ends_here t tx home p h out ∙ k, refl);
      stands = subst (λ b. Stands t (record { up = true; now = p.now; log = grown p.log (if b then Decide tx c ∷ [] else []); torn = []; bounds = p.bounds; heard = p.heard; sent = p.sent })) (sym (sym (h.tells.table.members tx) ∙ out)) (listed t.pending t.held p p.log h refl h.tells);
    };
  }

  pub finished_before : (tx : TxId) (c : List ℕ) → tx.site ≡ t.id.site → has_entry t.pending tx ≡ false → lists t.held tx ≡ true → Steps kinds t Anything (λ e. e ≡ Finished tx c) t
  finished_before tx c home out k = record {
    same = record { id = refl; sites = refl; parts = refl };
    step = λ p h g. record {
      event = Finished tx c;
      after = done p (Finished tx c);
      shows = refl;
      step = (h.up, ends_here t tx home p h out ∙ k, refl);
      stands = subst (λ b. Stands t (record { up = true; now = p.now; log = grown p.log (if b then Finish tx c ∷ [] else []); torn = []; bounds = p.bounds; heard = p.heard; sent = p.sent })) (sym (sym (h.tells.table.members tx) ∙ out)) (listed t.pending t.held p p.log h refl h.tells);
    };
  }

  pub decide_gone : (tx : TxId) (c : List ℕ) → tx.site ≡ t.id.site → has_entry t.pending tx ≡ false → lists t.held tx ≡ false → Steps kinds t Anything (λ e. e ≡ Refused (AskDecide tx c) IsGone) t
  decide_gone tx c home out k = refuses kinds Anything t (AskDecide tx c) IsGone (λ p h. (h.up, ends_here t tx home p h out ∙ k))

  pub finish_gone : (tx : TxId) (c : List ℕ) → tx.site ≡ t.id.site → has_entry t.pending tx ≡ false → lists t.held tx ≡ false → Steps kinds t Anything (λ e. e ≡ Refused (AskFinish tx c) IsGone) t
  finish_gone tx c home out k = refuses kinds Anything t (AskFinish tx c) IsGone (λ p h. (h.up, ends_here t tx home p h out ∙ k))

  pub abort_gone : (tx : TxId) → has_entry t.pending tx ≡ false → Steps kinds t Anything (λ e. e ≡ Refused (AskAbort tx) IsGone) t
  abort_gone tx out = refuses kinds Anything t (AskAbort tx) IsGone (λ p h. (h.up, sym (h.tells.table.members tx) ∙ out))

  module _ (xs : List (Entry E)) (y : Entry E) (ys : List (Entry E)) (split : t.pending ≡ xs ++ y ∷ ys) where
    tells_split : (p : PartState E) → Stands t p → Tells p.log t.id.site t.clock (xs ++ y ∷ ys) t.held
    tells_split p h = subst (λ l. Tells p.log t.id.site t.clock l t.held) split h.tells

    abbrev committed_part : List ℕ → Part E
    committed_part c = record { tx = y.tx; c = c; updates = y.updates }

    decides_entry : (c : List ℕ) → Steps kinds t Anything (λ e. e ≡ Decided y.tx c) (with_lists (xs ++ ys) (insert_by fold_cmp (committed_part c) t.held))
    decides_entry c =
        let ps = insert_by fold_cmp (committed_part c) t.held in record {
          same = record { id = refl; sites = refl; parts = refl };
          step = λ p h g.
              let tells = tells_split p h in
              let wait = waits p.log t.id.site t.clock xs y ys t.held tells in record {
                event = Decided y.tx c;
                after = done p (Decided y.tx c);
                shows = refl;
                step = (h.up, ap (λ b. b || committed p.log y.tx) wait, refl);
                stands = subst (λ b. Stands (with_lists (xs ++ ys) ps) (record { up = true; now = p.now; log = grown p.log (if b then Decide y.tx c ∷ [] else []); torn = []; bounds = p.bounds; heard = p.heard; sent = p.sent })) (sym wait)
                    (listed (xs ++ ys) ps p (Decide y.tx c ∷ p.log) h refl (decide_tells p.log t.id.site t.clock xs y ys t.held tells c));
              };
        }

    finishes_entry : (c : List ℕ) → Steps kinds t Anything (λ e. e ≡ Finished y.tx c) (with_lists (xs ++ ys) (insert_by fold_cmp (committed_part c) t.held))
    finishes_entry c =
        let ps = insert_by fold_cmp (committed_part c) t.held in record {
          same = record { id = refl; sites = refl; parts = refl };
          step = λ p h g.
              let tells = tells_split p h in
              let wait = waits p.log t.id.site t.clock xs y ys t.held tells in record {
                event = Finished y.tx c;
                after = done p (Finished y.tx c);
                shows = refl;
                step = (h.up, ap (λ b. b || committed p.log y.tx) wait, refl);
                stands = subst (λ b. Stands (with_lists (xs ++ ys) ps) (record { up = true; now = p.now; log = grown p.log (if b then Finish y.tx c ∷ [] else []); torn = []; bounds = p.bounds; heard = p.heard; sent = p.sent })) (sym wait)
                    (listed (xs ++ ys) ps p (Finish y.tx c ∷ p.log) h refl (finish_tells p.log t.id.site t.clock xs y ys t.held tells c));
              };
        }

    aborts_entry : (own : Bool) → Steps kinds t Anything (λ e. e ≡ Aborted y.tx own) (with_lists (xs ++ ys) t.held)
    aborts_entry own = record {
      same = record { id = refl; sites = refl; parts = refl };
      step = λ p h g.
          let tells = tells_split p h in record {
            event = Aborted y.tx own;
            after = done p (Aborted y.tx own);
            shows = refl;
            step = (h.up, waits p.log t.id.site t.clock xs y ys t.held tells, refl);
            stands = listed (xs ++ ys) t.held p (Abort y.tx ∷ p.log) h refl (abort_tells p.log t.id.site t.clock xs y ys t.held tells);
          };
    }

  aborts_split : (y : Entry E) (own : Bool) (xs : List (Entry E)) → IsTakenOut y t.pending xs → Steps kinds t Anything (λ e. e ≡ Aborted y.tx own) (with_lists xs t.held)
  aborts_split y own xs h = subst (λ l. Steps kinds t Anything (λ e. e ≡ Aborted y.tx own) (with_lists l t.held)) (sym h.after) (aborts_entry h.front y h.back h.before own)

  pub aborts : (y : Entry E) (tx : TxId) (own : Bool) (xs : List (Entry E)) → y.tx ≡ tx → IsTakenOut y t.pending xs → Steps kinds t Anything (λ e. e ≡ Aborted tx own) (with_lists xs t.held)
  aborts y tx own xs e h = subst (λ u. Steps kinds t Anything (λ e. e ≡ Aborted u own) (with_lists xs t.held)) e (aborts_split y own xs h)

  module _ (tx : TxId) (c : List ℕ) (xs : List (Entry E)) (ps : List (Part E)) (m : IsCommitted tx c t.pending t.held xs ps) where
    -- whatever the record is that ends it
    ends : (F : TxId → Event E) → Steps kinds t Anything (λ e. e ≡ F m.entry.tx) (with_lists (m.taken.front ++ m.taken.back) (insert_by fold_cmp (record { tx = m.entry.tx; c = c; updates = m.entry.updates }) t.held)) → Steps kinds t Anything (λ e. e ≡ F tx) (with_lists xs ps)
    ends F h =
        let left = m.taken.front ++ m.taken.back in
        let one : Steps kinds t Anything (λ e. e ≡ F tx) (with_lists left (insert_by fold_cmp (record { tx = tx; c = c; updates = m.entry.updates }) t.held)) = subst (λ u. Steps kinds t Anything (λ e. e ≡ F u) (with_lists left (insert_by fold_cmp (record { tx = u; c = c; updates = m.entry.updates }) t.held))) m.tx h in
        subst (λ l. Steps kinds t Anything (λ e. e ≡ F tx) (with_lists l ps)) (sym m.taken.after) (subst (λ l. Steps kinds t Anything (λ e. e ≡ F tx) (with_lists left l)) (sym m.put) one)

    decides_now : Steps kinds t Anything (λ e. e ≡ Decided tx c) (with_lists xs ps)
    decides_now = ends (λ u. Decided u c) (decides_entry m.taken.front m.entry m.taken.back m.taken.before c)

    finishes_now : Steps kinds t Anything (λ e. e ≡ Finished tx c) (with_lists xs ps)
    finishes_now = ends (λ u. Finished u c) (finishes_entry m.taken.front m.entry m.taken.back m.taken.before c)

  -- where nothing changed
  as_before : (A : Event E → Type 0) (xs : List (Entry E)) (ps : List (Part E)) → xs ≡ t.pending → ps ≡ t.held → Steps kinds t Anything A t → Steps kinds t Anything A (with_lists xs ps)
  as_before A xs ps e f h = subst (λ l. Steps kinds t Anything A (with_lists l ps)) (sym e) (subst (λ l. Steps kinds t Anything A (with_lists t.pending l)) (sym f) h)

  pub decides_by : {A : Type 0} (tx : TxId) (c : List ℕ) (r : Result A Refusal) (xs : List (Entry E)) (ps : List (Part E)) → tx.site ≡ t.id.site → Commits tx c t.pending t.held r xs ps → Answered kinds t Anything (AskDecide tx c) (λ n e. e ≡ Decided tx c) r (with_lists xs ps)
  decides_by tx c (Ok x) xs ps home h = ⊎_elim
      (λ (m : IsCommitted tx c t.pending t.held xs ps). decides_now tx c xs ps m)
      (λ (m : IsNotPending tx c t.pending t.held xs ps × (lists t.held tx ≡ true)). as_before (λ e. e ≡ Decided tx c) xs ps m.0.same_pending m.0.same_held (decided_before tx c home m.0.out m.1))
      h
  decides_by tx c (Err why) xs ps home h = as_before (λ e. e ≡ Refused (AskDecide tx c) (cause why)) xs ps h.1.same_pending h.1.same_held (subst (λ w. Steps kinds t Anything (λ e. e ≡ Refused (AskDecide tx c) (cause w)) t) (sym h.0) (decide_gone tx c home h.1.out h.2))

  pub finishes_by : {A : Type 0} (tx : TxId) (c : List ℕ) (r : Result A Refusal) (xs : List (Entry E)) (ps : List (Part E)) → tx.site ≡ t.id.site → Commits tx c t.pending t.held r xs ps → Answered kinds t Anything (AskFinish tx c) (λ n e. e ≡ Finished tx c) r (with_lists xs ps)
  finishes_by tx c (Ok x) xs ps home h = ⊎_elim
      (λ (m : IsCommitted tx c t.pending t.held xs ps). finishes_now tx c xs ps m)
      (λ (m : IsNotPending tx c t.pending t.held xs ps × (lists t.held tx ≡ true)). as_before (λ e. e ≡ Finished tx c) xs ps m.0.same_pending m.0.same_held (finished_before tx c home m.0.out m.1))
      h
  finishes_by tx c (Err why) xs ps home h = as_before (λ e. e ≡ Refused (AskFinish tx c) (cause why)) xs ps h.1.same_pending h.1.same_held (subst (λ w. Steps kinds t Anything (λ e. e ≡ Refused (AskFinish tx c) (cause w)) t) (sym h.0) (finish_gone tx c home h.1.out h.2))

module _ {E : Type 0} where
  -- who is pending after a commit was before
  pub commits_home : {A : Type 0} (site : ℕ) (tx : TxId) (c : List ℕ) (old new : List (Entry E)) (held ps : List (Part E)) (r : Result A Refusal) → Commits tx c old held r new ps → ((u : TxId) → has_entry old u ≡ true → u.site ≡ site) → (u : TxId) → has_entry new u ≡ true → u.site ≡ site
  commits_home site tx c old new held ps (Ok x) m h u k = ⊎_elim
      (λ (n : IsCommitted tx c old held new ps). h u (still_has n.entry old new n.taken u k))
      (λ (n : IsNotPending tx c old held new ps × (lists held tx ≡ true)). h u (ap (λ l. has_entry l u) (sym n.0.same_pending) ∙ k))
      m
  commits_home site tx c old new held ps (Err why) m h u k = h u (ap (λ l. has_entry l u) (sym m.1.same_pending) ∙ k)

  looked_up : (held : List (Part E)) (tx : TxId) (c : List ℕ) → Some c ≡ (if lists held tx then Some (vector_in held tx) else None) → (lists held tx ≡ true) × (c ≡ vector_in held tx)
  looked_up held tx c e = ⊎_elim
      (λ (k : lists held tx ≡ true). (k, some_is c (vector_in held tx) (e ∙ sym (taken_first (lists held tx) (Some (vector_in held tx)) None _ refl k))))
      (λ (k : lists held tx ≡ false). absurd (none_is c (e ∙ sym (taken_second (lists held tx) (Some (vector_in held tx)) None _ refl k))))
      (cases_Bool (lists held tx))

  not_looked_up : (held : List (Part E)) (tx : TxId) → None ≡ (if lists held tx then Some (vector_in held tx) else None) → lists held tx ≡ false
  not_looked_up held tx e = ⊎_elim
      (λ (k : lists held tx ≡ true). absurd (none_is (vector_in held tx) (taken_first (lists held tx) (Some (vector_in held tx)) None _ refl k ∙ sym e)))
      (λ (k : lists held tx ≡ false). k)
      (cases_Bool (lists held tx))

  module _ (v t : Tables E) (is : v ≡ t) (tx : TxId) (home : tx.site ≡ t.id.site) (p : PartState E) (h : Stands t p) where
    pub fate_pending : (x : Entry E) → Some x ≡ found tx v.pending → ToldPending ≡ fate_of p tx
    fate_pending x e = tells_pending t tx home p h (found_is tx t.pending x (ap (λ (w : Tables E). found tx w.pending) (sym is) ∙ sym e)).0

    out_of : None ≡ found tx v.pending → has_entry t.pending tx ≡ false
    out_of e = not_found_is tx t.pending (ap (λ (w : Tables E). found tx w.pending) (sym is) ∙ sym e)

    pub fate_committed : (c : List ℕ) → None ≡ found tx v.pending → Some c ≡ (if lists v.held tx then Some (vector_in v.held tx) else None) → ToldCommitted c ≡ fate_of p tx
    fate_committed c e f = let two = looked_up t.held tx c (f ∙ ap (λ (w : Tables E). if lists w.held tx then Some (vector_in w.held tx) else None) is) in tells_committed t tx home p h c (out_of e) two.0 two.1

    pub fate_aborted : None ≡ found tx v.pending → None ≡ (if lists v.held tx then Some (vector_in v.held tx) else None) → ToldAborted ≡ fate_of p tx
    fate_aborted e f = tells_aborted t tx home p h (out_of e) (not_looked_up t.held tx (f ∙ ap (λ (w : Tables E). if lists w.held tx then Some (vector_in w.held tx) else None) is))

  -- what it tells of whom it knows
  module _ (v t : Tables E) (is : v ≡ t) (tx : TxId) where
    pub knows_pending : (x : Entry E) → Some x ≡ found tx v.pending → true ≡ knows t tx
    knows_pending x e = sym (ap (λ b. b || lists v.held tx) (found_is tx v.pending x (sym e)).0) ∙ ap (λ w. knows w tx) is

    pub knows_held : (c : List ℕ) → None ≡ found tx v.pending → Some c ≡ (if lists v.held tx then Some (vector_in v.held tx) else None) → true ≡ knows t tx
    knows_held c e f = sym (ap (λ b. b || lists v.held tx) (not_found_is tx v.pending (sym e)) ∙ (looked_up v.held tx c f).0) ∙ ap (λ w. knows w tx) is

    pub knows_not : None ≡ found tx v.pending → None ≡ (if lists v.held tx then Some (vector_in v.held tx) else None) → false ≡ knows t tx
    knows_not e f = sym (ap (λ b. b || lists v.held tx) (not_found_is tx v.pending (sym e)) ∙ not_looked_up v.held tx f) ∙ ap (λ w. knows w tx) is
