-- Values are the meaning of what is read, and stamps are due by it: by the law of a kind, over the fold order.
use Rattle.std.proofs.Common.{◌≡◌, ⊎_elim, inl, ℕ, true, false, not, ◌&&◌, List, [], ◌∷◌, ◌++◌, refl, sym, ap, ◌∙◌, subst, append-nil, append_assoc}
use Rattle.std.specs.Prelude.{map}
use Rattle.std.specs.declared.cmp.Ordering.TheVariants.{Less}
use Rattle.std.proofs.lemmas.Bool.{or_left, or_right, and_from, and_parts, false_from_ne_true}
use Rattle.site_vector.specs.declared.ids.PartId.{PartId}
use Rattle.site_vector.specs.declared.ids.TxId.{TxId}
use Rattle.site_vector.specs.Ids.{same_tx}
use Rattle.site_vector.specs.Order.{same_tx_is, same_tx_refl}
use Rattle.site_vector.specs.Vector.{le}
use Rattle.crdt_core.specs.declared.object.ObjectId.{ObjectId}
use Rattle.crdt_core.specs.declared.record.Upd.{Upd}
use Rattle.crdt_core.specs.declared.record.Part.{Part}
use Rattle.crdt_core.specs.Kinds.{reads_state}
use Rattle.crdt_core.specs.Fits.{fits}
use Rattle.crdt_core.specs.Seen.{Update}
use Rattle.crdt_core.specs.History.{folded}
use Rattle.crdt_core.specs.Stamps.{stamp_due}
use Rattle.crdt_core.specs.Parts.{touches, lists}
use Rattle.world_model.specs.rules.Event.{Entry, is_decided}
use Rattle.crdt_core.specs.KindsOf.{Kinds}
use Rattle.crdt_core.specs.Folds.{state_read}
use Rattle.world_model.specs.rules.Plan.{Plan, is_some_update, takes_part, changes_at, commit_vector}
use Rattle.world_model.specs.lines.Places.{twin}
use Rattle.world_model.specs.events.Reads.{sees_tx, IsRightFold, Asked, asked_at, update_of, updates_from, updates_of}
use Rattle.world_model.proofs.Names.{clash, off}
use Rattle.world_model.proofs.Orders.{none_due}
use Rattle.world_model.proofs.Folds.{before, before_self, before_back, lists_append, front_before, before_front, parts_front, parts_back, ascends_front}
use Rattle.world_model.proofs.Histories.{Facts, IsMade, AreMade, has_index, each_map, Ready, IsOld, Told, of_snoc, no_self, seen_before, told_asks, told_more, effect_is}

module _ {E : Type 0} where
  -- what a partition and its twins call made is the same
  made_here : {S : Type 0} (kinds : Kinds S E) (plan : Plan E) (run : List (Entry E)) (p : PartId) (j : ℕ) (t : TxId) (asks : List (Asked E)) (earlier : List (Upd E)) → AreMade kinds plan run (twin j p) t earlier asks → AreMade kinds plan run p t earlier asks
  made_here kinds plan run p j t [] earlier m = tt
  made_here kinds plan run p j t (a ∷ asks) earlier m = (
    record {
      known = m.0.known;
      fits = m.0.fits;
      stamped = m.0.stamped;
      read = m.0.read;
      fold = λ h. let f = m.0.fold h in record { order = f.order; members = f.members; exact = f.exact };
      effect = m.0.effect;
      above = m.0.above;
    },
    made_here kinds plan run p j t asks (earlier ++ a.change ∷ []) m.1,
  )

  module _ {S : Type 0} (kinds : Kinds S E) (plan : Plan E) (run : List (Entry E)) (facts : Facts plan run) (p : PartId) (o : ObjectId) where
    none_told : (t : TxId) → Told kinds plan run facts p o [] t [] []
    none_told t = record { history = tt; stored = refl; fit = refl; stamps = tt; old = tt }

    told_again : (done : List (Part E)) (t u : TxId) (h : List Update) → Told kinds plan run facts p o done t [] h → Told kinds plan run facts p o done u [] h
    told_again done t u h x = record {
      history = x.history;
      stored = x.stored;
      fit = x.fit;
      stamps = x.stamps;
      old = each_map (IsOld kinds plan run facts p o done t []) (IsOld kinds plan run facts p o done u []) (λ v y. record { saw = y.saw; place = ⊎_elim (λ (k : lists done v.dot.tx ≡ true). inl k) (λ (k : (v.dot.tx ≡ t) × (has_index {E = E} [] v.dot.index ≡ true)). off k.1) y.place }) h x.old;
    }

    -- the whole part was told
    told_part : (done : List (Part E)) (x : Part E) (u : TxId) (h : List Update) → Told kinds plan run facts p o done x.tx x.updates h → Told kinds plan run facts p o (done ++ x ∷ []) u [] h
    told_part done x u h y = record {
      history = y.history;
      stored = y.stored ∙ sym (of_snoc o [] done x);
      fit = y.fit;
      stamps = y.stamps;
      old = each_map (IsOld kinds plan run facts p o done x.tx x.updates) (IsOld kinds plan run facts p o (done ++ x ∷ []) u []) (λ v z. record {
        saw = z.saw;
        place = inl (lists_append done (x ∷ []) v.dot.tx ∙ ⊎_elim
            (λ (k : lists done v.dot.tx ≡ true). or_left _ _ k)
            (λ (k : (v.dot.tx ≡ x.tx) × (has_index x.updates v.dot.index ≡ true)). or_right _ _ (or_left _ _ (subst (λ w. same_tx x.tx w ≡ true) (sym k.0) (same_tx_refl x.tx))))
            z.place);
      }) h y.old;
    }

    -- what comes before a part in the fold is all that it has seen
    ready_part : (s : List ℕ) (done : List (Part E)) (x : Part E) (rest : List (Part E)) → IsRightFold plan run p s o (done ++ x ∷ rest) → Ready kinds plan run facts p o done x.tx
    ready_part s done x rest r =
        let f = commit_vector plan run in
        let g = changes_at plan p in
        let whole : (w : TxId) → lists done w ≡ true → lists (done ++ x ∷ rest) w ≡ true = λ w h. lists_append done (x ∷ rest) w ∙ or_left _ _ h in
        let parts : (w : TxId) → lists (done ++ x ∷ rest) w ≡ true → (is_decided run w && (touches (changes_at plan p w) o && le (commit_vector plan run w) s)) ≡ true = λ w h. sym (r.members w) ∙ h in
        let here : lists (done ++ x ∷ rest) x.tx ≡ true = lists_append done (x ∷ rest) x.tx ∙ or_right _ _ (or_left _ _ (same_tx_refl x.tx)) in
        let mine = and_parts _ _ (parts x.tx here) in
        let seen : sees_tx plan run s x.tx ≡ true = and_from _ _ mine.0 (and_parts _ _ mine.1).1 in record {
          order = ascends_front done (x ∷ rest) r.order;
          exact = parts_front f g done (x ∷ rest) r.exact;
          cover = λ w h k.
              let deep = facts.closed s x.tx w seen h in
              let d = and_parts (is_decided run w) _ deep in
              before_front f g done x rest w r.exact r.order (r.members w ∙ and_from _ _ d.0 (and_from _ _ k d.1)) (seen_before kinds plan run facts w x.tx h mine.0);
          sound = λ w h. let a = and_parts _ _ (parts w (whole w h)) in (a.0, (and_parts _ _ a.1).0);
          apart = λ w h. false_from_ne_true _ (λ e. before_self f x.tx (subst (λ y. before f y x.tx ≡ Less) (same_tx_is w x.tx e) (front_before f g done x rest w r.exact r.order h)));
          later = λ w h. false_from_ne_true _ (λ e. before_back f x.tx w (seen_before kinds plan run facts x.tx w e (and_parts _ _ (parts w (whole w h))).0) (front_before f g done x rest w r.exact r.order h));
        }

    -- what a transaction's snapshot shows is all that it has seen
    ready_own : (t : TxId) (read : List (Part E)) → IsRightFold plan run p (plan.snapshot t) o read → Ready kinds plan run facts p o read t
    ready_own t read r =
        let parts : (w : TxId) → lists read w ≡ true → (is_decided run w && (touches (changes_at plan p w) o && le (commit_vector plan run w) (plan.snapshot t))) ≡ true = λ w h. sym (r.members w) ∙ h in
        let seen : (w : TxId) → lists read w ≡ true → sees_tx plan run (plan.snapshot t) w ≡ true = λ w h. let a = and_parts (is_decided run w) (touches (changes_at plan p w) o && le (commit_vector plan run w) (plan.snapshot t)) (parts w h) in and_from _ _ a.0 (and_parts (touches (changes_at plan p w) o) _ a.1).1 in record {
          order = r.order;
          exact = r.exact;
          cover = λ w h k. let d = and_parts (is_decided run w) _ h in r.members w ∙ and_from _ _ d.0 (and_from _ _ k d.1);
          sound = λ w h. let a = and_parts _ _ (parts w h) in (a.0, (and_parts _ _ a.1).0);
          apart = λ w h. false_from_ne_true _ (λ e. clash (subst (λ y. sees_tx plan run (plan.snapshot t) y ≡ true) (same_tx_is w t e) (seen w h)) (no_self kinds plan run facts t));
          later = λ w h. false_from_ne_true _ (λ e. clash (facts.closed (plan.snapshot t) w t (seen w h) e) (no_self kinds plan run facts t));
        }

    -- the parts of a fold, one after another
    told_parts : ((t : TxId) (q : PartId) → AreMade kinds plan run q t [] (asked_at run t q)) → ((t : TxId) (q : PartId) → takes_part plan t q ≡ true → map (λ a. a.change) (asked_at run t q) ≡ plan.updates t q) → (touching : (us : List (Upd E)) → touches us o ≡ true → is_some_update us ≡ true) → (s : List ℕ) (t : TxId) (rest done : List (Part E)) (h : List Update) → IsRightFold plan run p s o (done ++ rest) → Told kinds plan run facts p o done t [] h → Told kinds plan run facts p o (done ++ rest) t [] (updates_of plan run p o h rest)
    told_parts made whole touching s t [] done h r x = subst (λ l. Told kinds plan run facts p o l t [] h) (sym (append-nil done)) x
    told_parts made whole touching s t (y ∷ rest) done h r x =
        let q = twin y.tx.site p in
        let here : lists (done ++ y ∷ rest) y.tx ≡ true = lists_append done (y ∷ rest) y.tx ∙ or_right _ _ (or_left _ _ (same_tx_refl y.tx)) in
        let mine = and_parts _ _ (sym (r.members y.tx) ∙ here) in
        let part = touching (changes_at plan p y.tx) (and_parts _ _ mine.1).0 in
        let all : map (λ a. a.change) (asked_at run y.tx q) ≡ y.updates = whole y.tx q part ∙ sym (parts_back (commit_vector plan run) (changes_at plan p) done (y ∷ rest) r.exact).0.1 in
        let told = told_asks kinds plan run facts p o done y.tx (ready_part s done y rest r) (asked_at run y.tx q) [] h (made_here kinds plan run p y.tx.site y.tx (asked_at run y.tx q) [] (made y.tx q)) (told_again done t y.tx h x) in
        let one = told_part done y t (updates_from plan run o y.tx h (asked_at run y.tx q)) (subst (λ l. Told kinds plan run facts p o done y.tx l (updates_from plan run o y.tx h (asked_at run y.tx q))) all told) in
        let e = append_assoc done (y ∷ []) rest in
        subst (λ l. Told kinds plan run facts p o l t [] (updates_of plan run p o h (y ∷ rest))) e
        (told_parts made whole touching s t rest (done ++ y ∷ []) (updates_from plan run o y.tx h (asked_at run y.tx q)) (subst (IsRightFold plan run p s o) (sym e) r) one)

    -- all that t reads
    pub told_read : ((t : TxId) (q : PartId) → AreMade kinds plan run q t [] (asked_at run t q)) → ((t : TxId) (q : PartId) → takes_part plan t q ≡ true → map (λ a. a.change) (asked_at run t q) ≡ plan.updates t q) → ((us : List (Upd E)) → touches us o ≡ true → is_some_update us ≡ true) → (t : TxId) (read : List (Part E)) → IsRightFold plan run p (plan.snapshot t) o read → (own : List (Asked E)) → AreMade kinds plan run p t [] own → Told kinds plan run facts p o read t (map (λ a. a.change) own) (updates_from plan run o t (updates_of plan run p o [] read) own)
    told_read made whole touching t read r own m = told_asks kinds plan run facts p o read t (ready_own t read r) own [] (updates_of plan run p o [] read) m (told_parts made whole touching (plan.snapshot t) t read [] [] r (none_told t))

    pub value_is : (t : TxId) (read : List (Part E)) (own : List (Upd E)) (us : List Update) → kinds.has o.kind ≡ true → Told kinds plan run facts p o read t own us → kinds.value_of (state_read kinds o t own read) ≡ kinds.meaning o.kind us
    value_is t read own us known x = ap (λ l. kinds.value_of (folded (kinds.initial o.kind) kinds.applied l)) (sym x.stored) ∙ kinds.laws.means o.kind us known x.history x.fit x.stamps

    -- what reads no state has no stamp
    pub stamp_unread : (t : TxId) (earlier : List (Upd E)) (us : List Update) (a : Asked E) → reads_state o.kind ≡ false → kinds.has o.kind ≡ true → IsMade kinds plan run p t earlier a → a.change.object ≡ o → a.stamp ≡ stamp_due o.kind us (update_of plan run t a)
    stamp_unread t earlier us a unread known m e =
        let u : Update = record { dot = record { tx = t; index = a.change.index }; path = a.op.path; act = a.op.act; stamp = a.stamp; now = a.now; saw = λ d. false } in
        let fit : (fits o.kind a.op.path a.op.act && not (kinds.too_deep o.kind a.op.path)) ≡ true = subst (λ y. (fits y.kind a.op.path a.op.act && not (kinds.too_deep y.kind a.op.path)) ≡ true) e m.fits in
        let one : fits o.kind a.op.path a.op.act ≡ true = (and_parts (fits o.kind a.op.path a.op.act) _ fit).0 in
        let made : a.change.effect ≡ kinds.generated o.kind (state_read kinds o t earlier m.read) a.op.path a.op.act a.now = subst (λ y. a.change.effect ≡ kinds.generated y.kind (state_read kinds y t earlier m.read) a.op.path a.op.act a.now) e m.effect in
        let alone : kinds.stamp_of (kinds.generated o.kind (kinds.initial o.kind) a.op.path a.op.act a.now) ≡ stamp_due o.kind [] u = kinds.laws.stamps o.kind u [] known (record { new = refl; unseen = refl; apart = refl; closed = tt }, tt) (and_from _ _ fit refl) tt in
        m.stamped ∙ ap kinds.stamp_of (made ∙ kinds.laws.unread o.kind (state_read kinds o t earlier m.read) (kinds.initial o.kind) a.op.path a.op.act a.now known unread)
        ∙ alone ∙ none_due o.kind [] u unread one ∙ sym (none_due o.kind us (update_of plan run t a) unread one)

    pub stamp_is : (t : TxId) (read : List (Part E)) (earlier : List (Upd E)) (us : List Update) (a : Asked E) → IsRightFold plan run p (plan.snapshot t) o read → kinds.has o.kind ≡ true → IsMade kinds plan run p t earlier a → a.change.object ≡ o → Told kinds plan run facts p o read t earlier us → a.stamp ≡ stamp_due o.kind us (update_of plan run t a)
    stamp_is t read earlier us a r known m e x =
        let more = told_more kinds plan run facts p o read t earlier (ready_own t read r) a m.above m e us x in
        m.stamped ∙ ap kinds.stamp_of (sym (effect_is kinds plan run facts p o read t earlier (ready_own t read r) a m.above m e us x))
        ∙ kinds.laws.stamps o.kind (update_of plan run t a) us known more.history more.fit x.stamps
