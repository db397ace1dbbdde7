-- What the partitions of a cluster tell of transactions, by the lines of the run that left it.
use Rattle.std.proofs.Common.{◌≡◌, ◌⊎◌, ⊎_elim, ℕ, ◌<◌, Bool, true, false, List, [], ◌∷◌, map, refl, sym, ap, ◌∙◌, subst, arith}
use Rattle.std.specs.Prelude.{not, ◌||◌, ◌&&◌, ⊤}
use Rattle.std.proofs.lemmas.Bool.{cond-true, cond-false, false_from_ne_true, and_from, and_right}
use Rattle.std.proofs.lemmas.Simd.{map-map}
use Rattle.site_vector.specs.declared.ids.PartId.{PartId}
use Rattle.site_vector.specs.declared.ids.TxId.{TxId}
use Rattle.site_vector.specs.Ids.{same_part, same_tx}
use Rattle.site_vector.specs.Order.{same_part_is, same_part_refl, same_tx_is, same_tx_refl}
use Rattle.crdt_core.specs.Log as log
use Rattle.crdt_core.specs.Log.{prepared_lead, prepare_time, committed}
use Rattle.crdt_core.specs.Orders.{Precede, Ascends, pending_cmp}
use Rattle.prepared_table.specs.declared.entry.Entry.{Entry}
use Rattle.prepared_table.specs.Entries.{has_entry, entry_cmp}
use Rattle.world_model.specs.declared.step.Step.TheVariants as step
use Rattle.world_model.specs.commands.Cluster.{parts_of}
use Rattle.world_model.specs.rules.Fate.{IsFate}
use Rattle.world_model.specs.lines.Fate.{is_committed_at}
use Rattle.world_model.specs.lines.History.{in_history}
use Rattle.world_model.specs.lines.Lines.{Line}
use Rattle.world_model.specs.rules.Lines.{shown_lines}
use Rattle.world_model.specs.rules.Partition.{PartState, fate_of}
use Rattle.world_model.specs.lines.Listed.{names_pending, IsIdBefore, IsBefore, IsBeforeAll, AreInOrder, AreTimed}
use Rattle.world_model.specs.lines.Pending as lines
use Rattle.world_model.specs.lines.Pending.{pending, is_down}
use Rattle.world_model.specs.lines.Places.{IsPlace}
use Rattle.world_model.specs.commands.Run.{Run}
use Rattle.world_model.specs.commands.ScriptCalls.{calls_of}
use Rattle.world_model.specs.commands.Settling.{asks_abort, looked_up, settled, is_untold}
use Rattle.world_model.specs.rules.Told.{Told}
use Rattle.world_model.specs.lines.Updates.{lead}
use Rattle.world_model.specs.lines.Waiting.{waiting}
use Rattle.world_model.specs.rules.Waiting.{ArePending}
use Rattle.world_model.proofs.Law.{law_world}
use Rattle.world_model.proofs.Queue.{in_order}
use Rattle.world_model.proofs.Told as law
use Rattle.world_model.proofs.Waiting.{same_pending}
use Rattle.partition_core.specs.Stands.{told, AreEntries}
use Rattle.txn_session.specs.Calls.{entries}
use Rattle.site_partitions.specs.Reaches.{Types}
use Rattle.site_partitions.specs.declared.fates.Waiting.{Waiting}
use Rattle.site_partitions.specs.Fates.{waiting_of, AreWaiting}
use Rattle.cluster.specs.Fates.{lead_place}
use Rattle.cluster.specs.Live.{LiveState}
use Rattle.cluster.specs.Reached.{ReachedLive}
use Rattle.cluster.proofs.Worlds.{pending_home}

or_later : (b d : Bool) → d ≡ true → (b || d) ≡ true
or_later true d h = refl
or_later false d h = h

-- what an expire answers
module _ (parts : ℕ) (ls : List Line) (p : PartId) (t : TxId) where
  pub led_here : lead parts ls t ≡ p → same_part (lead parts ls t) p ≡ true
  led_here e = ap (λ q. same_part q p) e ∙ same_part_refl p

  pub led_elsewhere : (n : ℕ) → lead parts ls t ≡ lead_place p n → (n ≡ p.part → ⊥) → same_part (lead parts ls t) p ≡ false
  led_elsewhere n e h = ap (λ q. same_part q p) e ∙ false_from_ne_true (same_part (lead_place p n) p) (λ k. h (ap (λ (q : PartId). q.part) (same_part_is (lead_place p n) p k)))

  pub asks_here : pending ls p t ≡ true → same_part (lead parts ls t) p ≡ true → asks_abort parts ls p t ≡ true
  asks_here h k = and_from (pending ls p t) (same_part (lead parts ls t) p) h k

  pub asks_elsewhere : same_part (lead parts ls t) p ≡ false → asks_abort parts ls p t ≡ false
  asks_elsewhere k = and_right (pending ls p t) (same_part (lead parts ls t) p) k

  pub asks_ended : pending ls p t ≡ false → asks_abort parts ls p t ≡ false
  asks_ended h = ap (λ b. b && same_part (lead parts ls t) p) h

  -- what a settle answers
  pub settled_own : same_part (lead parts ls t) p ≡ true → step.Pending p t ≡ settled parts ls p t
  settled_own h = sym (cond-true (same_part (lead parts ls t) p || is_untold parts ls t) _ _ (ap (λ b. b || is_untold parts ls t) h))

  pub settled_untold : same_part (lead parts ls t) p ≡ false → is_untold parts ls t ≡ true → step.Pending p t ≡ settled parts ls p t
  settled_untold h k = sym (cond-true (same_part (lead parts ls t) p || is_untold parts ls t) _ _ (ap (λ b. b || is_untold parts ls t) h ∙ k))

  pub settled_finished : same_part (lead parts ls t) p ≡ false → is_untold parts ls t ≡ false → in_history ls t ≡ true → step.Finished p t ≡ settled parts ls p t
  settled_finished h k d = sym (cond-false (same_part (lead parts ls t) p || is_untold parts ls t) _ _ (ap (λ b. b || is_untold parts ls t) h ∙ k) ∙ cond-true (in_history ls t) _ _ d)

  pub settled_aborted : same_part (lead parts ls t) p ≡ false → is_untold parts ls t ≡ false → in_history ls t ≡ false → step.Aborted p t ≡ settled parts ls p t
  settled_aborted h k d = sym (cond-false (same_part (lead parts ls t) p || is_untold parts ls t) _ _ (ap (λ b. b || is_untold parts ls t) h ∙ k) ∙ cond-false (in_history ls t) _ _ d)

-- what is looked up
module _ (ls : List Line) (p : PartId) (t : TxId) where
  pub looked_pending : pending ls p t ≡ true → step.Pending p t ≡ looked_up ls p t
  looked_pending h = sym (cond-true (pending ls p t) _ _ h)

  pub looked_finished : pending ls p t ≡ false → is_committed_at ls ls p t ≡ true → step.Finished p t ≡ looked_up ls p t
  looked_finished h k = sym (cond-false (pending ls p t) _ _ h ∙ cond-true (is_committed_at ls ls p t) _ _ k)

  pub looked_gone : pending ls p t ≡ false → is_committed_at ls ls p t ≡ false → step.Gone p t ≡ looked_up ls p t
  looked_gone h k = sym (cond-false (pending ls p t) _ _ h ∙ cond-false (is_committed_at ls ls p t) _ _ k)

-- each transaction stands once
abbrev pub AreOther : TxId → List TxId → Type 0
AreOther t [] = ⊤
AreOther t (u ∷ us) = (same_tx t u ≡ false) × AreOther t us

abbrev pub AreOnce : List TxId → Type 0
AreOnce [] = ⊤
AreOnce (t ∷ ts) = AreOther t ts × AreOnce ts

no_id_before : (t : TxId) → IsIdBefore t t → ⊥
no_id_before t h = ⊎_elim (λ (a : t.site < t.site). omega arith) (λ (b : (t.site ≡ t.site) × ((t.part < t.part) ⊎ ((t.part ≡ t.part) × (t.time < t.time)))). ⊎_elim (λ (a : t.part < t.part). omega arith) (λ (d : (t.part ≡ t.part) × (t.time < t.time)). let e = d.1 in omega arith) b.1) h

-- nothing comes before itself
not_before : (x : TxId × ℕ) → IsBefore x x → ⊥
not_before x h = ⊎_elim (λ (a : x.1 < x.1). omega arith) (λ (b : (x.1 ≡ x.1) × IsIdBefore x.0 x.0). no_id_before x.0 b.1) h

module _ (ls : List Line) (p : PartId) where
  others_after : (x : TxId × ℕ) (xs : List (TxId × ℕ)) → x.1 ≡ lines.prepare_time ls p x.0 → AreTimed (lines.prepare_time ls p) xs → IsBeforeAll IsBefore x xs → AreOther x.0 (map (λ y. y.0) xs)
  others_after x [] e a h = tt
  others_after x (y ∷ ys) e a h = (
    false_from_ne_true (same_tx x.0 y.0) (λ k.
        let same : x.0 ≡ y.0 = same_tx_is x.0 y.0 k in
        let time : x.1 ≡ y.1 = e ∙ (ap (lines.prepare_time ls p) same ∙ sym a.0) in
        not_before x (subst (λ z. IsBefore x z) (λ i. (sym same i, sym time i)) h.0)),
    others_after x ys e a.1 h.1,
  )

  pub once : (xs : List (TxId × ℕ)) → AreTimed (lines.prepare_time ls p) xs → AreInOrder IsBefore xs → AreOnce (map (λ y. y.0) xs)
  once [] a h = tt
  once (x ∷ xs) a h = (others_after x xs a.0 a.1 h.0, once xs a.1 h.1)

-- these are pending at p, with these leads
abbrev pub AreLeft : ℕ → List Line → PartId → List Waiting → Type 0
AreLeft parts ls p [] = ⊤
AreLeft parts ls p (w ∷ ws) = (pending ls p w.tx ≡ true) × (lead parts ls w.tx ≡ lead_place p w.lead) × AreLeft parts ls p ws

-- all that is pending at p, in order, and with its leads
pub record AreListed (parts : ℕ) (ls : List Line) (p : PartId) (items : List Waiting) : Type 0 where
  pub waits : ArePending ls p (waiting ls p)
  pub firsts : map (λ x. x.0) (waiting ls p) ≡ map (λ w. w.tx) items
  pub left : AreLeft parts ls p items

module _ {E : Type 0} where
  abbrev timed : Entry E → TxId × ℕ
  timed x = (x.tx, x.time)

  named_is : (xs : List (Entry E)) (t : TxId) → names_pending (map timed xs) t ≡ has_entry xs t
  named_is [] t = refl
  named_is (x ∷ xs) t = ap (λ b. same_tx x.tx t || b) (named_is xs t)

  before_all : (x : Entry E) (xs : List (Entry E)) → Precede entry_cmp x xs → Precede pending_cmp (timed x) (map timed xs)
  before_all x [] h = tt
  before_all x (y ∷ ys) h = (h.0, before_all x ys h.1)

  ascend : (xs : List (Entry E)) → Ascends entry_cmp xs → Ascends pending_cmp (map timed xs)
  ascend [] h = tt
  ascend (x ∷ xs) h = (before_all x xs h.0, ascend xs h.1)

module _ {S E D : Type 0} (types : Types S E D) (c : LiveState E D) (run : Run) (r : ReachedLive types c run) where
  abbrev pub state : PartId → PartState E
  state = r.sees.reached.state

  of_law : (p : PartId) → Told c.sites.sites c.sites.parts (entries r.calls) r.sees.reached.state p
  of_law p = law.told types.kinds c.sites.sites c.sites.parts (entries r.calls) r.sees.reached.state r.sees.reached.is_run p

  pub lead_same : (t : TxId) → lead c.sites.parts (shown_lines (entries r.calls)) t ≡ lead (parts_of run) (calls_of run) t
  lead_same t = λ i. lead (r.parts i) (r.shown i) t

  -- what the lead tells is told by the lines
  pub word : (t : TxId) → IsFate (calls_of run) (lead (parts_of run) (calls_of run) t) t (fate_of (r.sees.reached.state (lead (parts_of run) (calls_of run) t)) t)
  word t = subst (λ n. IsFate (calls_of run) (lead n (calls_of run) t) t (fate_of (r.sees.reached.state (lead n (calls_of run) t)) t)) r.parts
      (subst (λ ls. IsFate ls (lead c.sites.parts ls t) t (fate_of (r.sees.reached.state (lead c.sites.parts ls t)) t)) r.shown
      ((law_world types.kinds c.sites.sites c.sites.parts (entries r.calls) r.sees.reached.state r.sees.reached.is_run).3 t))

  -- a partition that is down is so by the lines
  pub low_is : (p : PartId) → (r.sees.reached.state p).up ≡ false → is_down (calls_of run) p ≡ true
  low_is p h = ap (λ ls. is_down ls p) (sym r.shown) ∙ ((of_law p).down ∙ ap not h)

  module _ (p : PartId) (place : IsPlace c.sites.sites c.sites.parts p) (is_up : (r.sees.reached.state p).up ≡ true) where
    -- what is pending is of the partition's site
    pub site_is : (t : TxId) → log.pending (r.sees.reached.state p).log t ≡ true → t.site ≡ p.site
    site_is t h = sym (pending_home types.kinds c.sites.sites c.sites.parts (entries r.calls) r.sees.reached.state r.sees.reached.is_run p t h).site

    pub down_is : is_down (calls_of run) p ≡ false
    down_is = ap (λ ls. is_down ls p) (sym r.shown) ∙ ((of_law p).down ∙ ap not is_up)

    pub waiting_is : (t : TxId) → log.pending (r.sees.reached.state p).log t ≡ pending (calls_of run) p t
    waiting_is t = (of_law p).waiting t is_up ∙ ap (λ ls. pending ls p t) r.shown

    pub ended_is : (t : TxId) → t.site ≡ p.site → committed (r.sees.reached.state p).log t ≡ is_committed_at (calls_of run) (calls_of run) p t
    ended_is t e = (of_law p).ended t is_up e ∙ ap (λ ls. is_committed_at ls ls p t) r.shown

    pub time_is : (t : TxId) → log.pending (r.sees.reached.state p).log t ≡ true → prepare_time (r.sees.reached.state p).log t ≡ lines.prepare_time (calls_of run) p t
    time_is t h = (of_law p).times t is_up h ∙ ap (λ ls. lines.prepare_time ls p t) r.shown

    pub lead_is : (t : TxId) → log.pending (r.sees.reached.state p).log t ≡ true → lead (parts_of run) (calls_of run) t ≡ lead_place p (prepared_lead (r.sees.reached.state p).log t)
    lead_is t h = sym (lead_same t) ∙ (of_law p).leads t h

    pub lead_there : (t : TxId) → log.pending (r.sees.reached.state p).log t ≡ true → IsPlace c.sites.sites c.sites.parts (lead (parts_of run) (calls_of run) t)
    lead_there t h = subst (IsPlace c.sites.sites c.sites.parts) (lead_same t) ((of_law p).place t h)

    times_are : (xs : List (Entry E)) → AreEntries (told (r.sees.reached.state p).log) xs → ((t : TxId) → has_entry xs t ≡ true → log.pending (r.sees.reached.state p).log t ≡ true) → AreTimed (lines.prepare_time (calls_of run) p) (map timed xs)
    times_are [] a m = tt
    times_are (x ∷ xs) a m = (ap (λ y. y.0) a.0 ∙ time_is x.tx (m x.tx (ap (λ b. b || has_entry xs x.tx) (same_tx_refl x.tx))), times_are xs a.1 (λ t h. m t (or_later (same_tx x.tx t) (has_entry xs t) h)))

    left_are : (xs : List (Entry E)) → AreEntries (told (r.sees.reached.state p).log) xs → ((t : TxId) → has_entry xs t ≡ true → log.pending (r.sees.reached.state p).log t ≡ true) → AreLeft (parts_of run) (calls_of run) p (map waiting_of xs)
    left_are [] a m = tt
    left_are (x ∷ xs) a m =
        let waits = m x.tx (ap (λ b. b || has_entry xs x.tx) (same_tx_refl x.tx)) in (
          sym (waiting_is x.tx) ∙ waits,
          lead_is x.tx waits ∙ ap (lead_place p) (sym (ap (λ y. y.1) a.0)),
          left_are xs a.1 (λ t h. m t (or_later (same_tx x.tx t) (has_entry xs t) h)),
        )

    waits_are : ArePending (calls_of run) p (waiting (calls_of run) p)
    waits_are = subst (λ ls. ArePending ls p (waiting ls p)) r.shown (of_law p).listed

    pub listed_are : (items : List Waiting) → AreWaiting (r.sees.reached.state p).log items → AreListed (parts_of run) (calls_of run) p items
    listed_are items w =
        let here = λ (t : TxId) (h : has_entry w.entries t ≡ true). sym (w.table.members t) ∙ h in
        let told : ArePending (calls_of run) p (map timed w.entries) = record {
          members = λ t. named_is w.entries t ∙ (w.table.members t ∙ waiting_is t);
          times = times_are w.entries w.table.exact here;
          order = in_order (map timed w.entries) (ascend w.entries w.table.order);
        } in record {
          waits = waits_are;
          firsts = ap (map (λ (x : TxId × ℕ). x.0)) (same_pending (calls_of run) p (waiting (calls_of run) p) (map timed w.entries) waits_are told) ∙ map-map (λ (x : TxId × ℕ). x.0) timed w.entries ∙ (sym (map-map (λ (x : Waiting). x.tx) waiting_of w.entries) ∙ ap (map (λ (x : Waiting). x.tx)) (sym w.are));
          left = subst (AreLeft (parts_of run) (calls_of run) p) (sym w.are) (left_are w.entries w.table.exact here);
        }
