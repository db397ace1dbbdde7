-- The part causal stores: an effect names only updates that its transaction has seen.
use Rattle.std.proofs.Common.{◌≡◌, ◌⊎◌, ⊎_elim, inl, inr, ℕ, cond, Bool, true, false, ◌&&◌, ◌||◌, List, [], ◌∷◌, ◌++◌, refl, sym, ap, ◌∙◌, subst}
use Rattle.std.specs.Prelude.{map}
use Rattle.std.specs.List.{list_any}
use Rattle.std.proofs.lemmas.Bool.{cases_Bool, or_left, or_right, or_cases, and_from, and_parts}
use Rattle.site_vector.specs.declared.ids.PartId.{PartId}
use Rattle.site_vector.specs.declared.ids.TxId.{TxId}
use Rattle.site_vector.specs.declared.ids.Dot.{Dot}
use Rattle.site_vector.specs.Ids.{same_tx, same_dot}
use Rattle.site_vector.specs.Order.{same_tx_is, same_tx_refl}
use Rattle.site_vector.specs.Vector.{le}
use Rattle.crdt_core.specs.declared.object.ObjectId.{ObjectId}
use Rattle.crdt_core.specs.declared.record.Upd.{Upd}
use Rattle.crdt_core.specs.declared.record.Part.{Part}
use Rattle.crdt_core.specs.Kinds.{reads_state}
use Rattle.crdt_core.specs.Objects.{same_object}
use Rattle.crdt_core.specs.History.{folded}
use Rattle.crdt_core.specs.Parts.{touches, lists}
use Rattle.world_model.specs.rules.Event.{Entry, is_decided}
use Rattle.crdt_core.specs.KindsOf.{Kinds}
use Rattle.crdt_core.specs.Folds.{effects_from, effects_of, state_read}
use Rattle.world_model.specs.rules.Plan.{Plan, changes_at, commit_vector, takes_part, is_some_update}
use Rattle.world_model.specs.events.Reads.{sees_tx, IsRightFold, Asked, asked_at, update_of, AreCausal}
use Rattle.world_model.proofs.Names.{clash, off}
use Rattle.world_model.proofs.Histories.{IsMade, AreMade}

module _ {E : Type 0} where
  -- what is in a fold is of one of its transactions
  any_from : (q : Dot → Bool) (o : ObjectId) (t : TxId) (ups : List (Upd E)) (older : List (Dot × E)) → list_any (λ e. q e.0) (effects_from o t older ups) ≡ true → (list_any (λ e. q e.0) older ≡ true) ⊎ ((n : ℕ) × (q (record { tx = t; index = n }) ≡ true))
  any_from q o t [] older h = inl h
  any_from q o t (u ∷ ups) older h = ⊎_elim
      (λ (k : list_any (λ e. q e.0) (cond (same_object u.object o) ((record { tx = t; index = u.index }, u.effect) ∷ older) older) ≡ true). one (same_object u.object o) k)
      (λ (k : (n : ℕ) × (q (record { tx = t; index = n }) ≡ true)). inr k)
      (any_from q o t ups (cond (same_object u.object o) ((record { tx = t; index = u.index }, u.effect) ∷ older) older) h)
    where
      one : (b : Bool) → list_any (λ e. q e.0) (cond b ((record { tx = t; index = u.index }, u.effect) ∷ older) older) ≡ true → (list_any (λ e. q e.0) older ≡ true) ⊎ ((n : ℕ) × (q (record { tx = t; index = n }) ≡ true))
      one true k = ⊎_elim (λ (x : q (record { tx = t; index = u.index }) ≡ true). inr (u.index, x)) (λ (x : list_any (λ e. q e.0) older ≡ true). inl x) (or_cases _ _ k)
      one false k = inl k

  any_of : (q : Dot → Bool) (o : ObjectId) (xs : List (Part E)) (older : List (Dot × E)) → list_any (λ e. q e.0) (effects_of o older xs) ≡ true → (list_any (λ e. q e.0) older ≡ true) ⊎ ((w : TxId) × (n : ℕ) × (lists xs w ≡ true) × (q (record { tx = w; index = n }) ≡ true))
  any_of q o [] older h = inl h
  any_of q o (x ∷ xs) older h = ⊎_elim
      (λ (k : list_any (λ e. q e.0) (effects_from o x.tx older x.updates) ≡ true). ⊎_elim
      (λ (y : list_any (λ e. q e.0) older ≡ true). inl y)
      (λ (y : (n : ℕ) × (q (record { tx = x.tx; index = n }) ≡ true)). inr (x.tx, y.0, or_left _ _ (same_tx_refl x.tx), y.1))
      (any_from q o x.tx x.updates older k))
      (λ (k : (w : TxId) × (n : ℕ) × (lists xs w ≡ true) × (q (record { tx = w; index = n }) ≡ true)). inr (k.0, k.1, or_right _ _ k.2, k.3))
      (any_of q o xs (effects_from o x.tx older x.updates) h)

  module _ {S : Type 0} (kinds : Kinds S E) (plan : Plan E) (run : List (Entry E)) where
    -- a state holds only dots that were folded
    held_dots : (o : ObjectId) → kinds.has o.kind ≡ true → (es : List (Dot × E)) (d : Dot) → kinds.holds (folded (kinds.initial o.kind) kinds.applied es) d ≡ true → list_any (λ e. same_dot e.0 d) es ≡ true
    held_dots o known [] d h = clash h ((kinds.laws.steps o.kind known).none_held d)
    held_dots o known (e ∷ es) d h = ⊎_elim
        (λ (k : kinds.holds (folded (kinds.initial o.kind) kinds.applied es) d ≡ true). or_right _ _ (held_dots o known es d k))
        (λ (k : same_dot e.0 d ≡ true). or_left _ _ k)
        (or_cases _ _ ((kinds.laws.steps o.kind known).held (folded (kinds.initial o.kind) kinds.applied es) e.0 e.1 d h))

    Named : TxId → Dot → Type 0
    Named t d = (sees_tx plan run (plan.snapshot t) d.tx || same_tx d.tx t) ≡ true

    read_dots : (p : PartId) (t : TxId) (o : ObjectId) (earlier : List (Upd E)) (read : List (Part E)) (d : Dot) → IsRightFold plan run p (plan.snapshot t) o read → list_any (λ e. same_dot e.0 d) (effects_from o t (effects_of o [] read) earlier) ≡ true → Named t d
    unfolding Named
    read_dots p t o earlier read d r h = ⊎_elim
        (λ (k : list_any (λ e. same_dot e.0 d) (effects_of o [] read) ≡ true). ⊎_elim
        (λ (y : false ≡ true). off y)
        (λ (y : (w : TxId) × (n : ℕ) × (lists read w ≡ true) × (same_dot (record { tx = w; index = n }) d ≡ true)).
        let a = and_parts (is_decided run y.0) (touches (changes_at plan p y.0) o && le (commit_vector plan run y.0) (plan.snapshot t)) (sym (r.members y.0) ∙ y.2) in
        let s : sees_tx plan run (plan.snapshot t) y.0 ≡ true = and_from _ _ a.0 (and_parts (touches (changes_at plan p y.0) o) _ a.1).1 in
        or_left _ _ (subst (λ w. sees_tx plan run (plan.snapshot t) w ≡ true) (same_tx_is y.0 d.tx (and_parts _ _ y.3).0) s))
        (any_of (λ x. same_dot x d) o read [] k))
        (λ (k : (n : ℕ) × (same_dot (record { tx = t; index = n }) d ≡ true)). or_right _ _ (subst (λ w. same_tx d.tx w ≡ true) (sym (same_tx_is t d.tx (and_parts _ _ k.1).0)) (same_tx_refl d.tx)))
        (any_from (λ x. same_dot x d) o t earlier (effects_of o [] read) h)

    named_dots : (p : PartId) (t : TxId) (earlier : List (Upd E)) (a : Asked E) → IsMade kinds plan run p t earlier a → (d : Dot) → kinds.names a.change.effect d ≡ true → Named t d
    named_dots p t earlier a m d h =
        let o = a.change.object in
        let steps = kinds.laws.steps o.kind m.known in
        let u = update_of plan run t a in ⊎_elim
        (λ (k : reads_state o.kind ≡ true). read_dots p t o earlier m.read d (m.fold k) (held_dots o m.known (effects_from o t (effects_of o [] m.read) earlier) d (steps.named (state_read kinds o t earlier m.read) u d (ap (λ e. kinds.names e d) (sym m.effect) ∙ h))))
        (λ (k : reads_state o.kind ≡ false).
        let same : a.change.effect ≡ kinds.generated o.kind (kinds.initial o.kind) a.op.path a.op.act a.now = m.effect ∙ kinds.laws.unread o.kind (state_read kinds o t earlier m.read) (kinds.initial o.kind) a.op.path a.op.act a.now m.known k in
        clash (steps.named (kinds.initial o.kind) u d (ap (λ e. kinds.names e d) (sym same) ∙ h)) (steps.none_held d))
        (cases_Bool (reads_state o.kind))

    causal_asks : (p : PartId) (t : TxId) (asks : List (Asked E)) (earlier : List (Upd E)) → AreMade kinds plan run p t earlier asks → AreCausal kinds plan run t (map (λ a. a.change) asks)
    unfolding Named
    causal_asks p t [] earlier m = tt
    causal_asks p t (a ∷ asks) earlier m = (named_dots p t earlier a m.0, causal_asks p t asks (earlier ++ a.change ∷ []) m.1)

    pub causal_stores : ((t : TxId) (q : PartId) → AreMade kinds plan run q t [] (asked_at run t q)) → ((t : TxId) (q : PartId) → takes_part plan t q ≡ true → map (λ a. a.change) (asked_at run t q) ≡ plan.updates t q) → (t : TxId) (q : PartId) → AreCausal kinds plan run t (plan.updates t q)
    causal_stores made all t q = go (plan.updates t q) refl
      where
        go : (us : List (Upd E)) → plan.updates t q ≡ us → AreCausal kinds plan run t us
        go [] e = tt
        go (u ∷ us) e = subst (AreCausal kinds plan run t) (all t q (ap is_some_update e) ∙ e) (causal_asks q t (asked_at run t q) [] (made t q))
