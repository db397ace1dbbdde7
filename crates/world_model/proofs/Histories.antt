-- The updates that a read folds are a history of their kind, and the effects that are stored are its effects.
use Rattle.std.proofs.Common.{◌≡◌, ◌⊎◌, ⊎_elim, inl, inr, ℕ, ◌-◌, ◌<◌, ◌≤◌, cond, ltb, Bool, true, false, ◌&&◌, ◌||◌, not, List, [], ◌∷◌, ◌++◌, length, refl, sym, ap, ◌∙◌, subst, arith, append-nil, append_assoc}
use Rattle.std.specs.Prelude.{⊤, ◌==◌, filter, map}
use Rattle.std.specs.declared.cmp.Ordering.TheVariants.{Less}
use Rattle.std.specs.List.{list_any}
use Rattle.std.proofs.lemmas.List.Folds.{list_any-append}
use Rattle.std.proofs.lemmas.Bool.{cases_Bool, or_left, or_right, or_cases, or_from, and_left, and_right, and_from, and_parts, cond-true, cond-false, ltb-true, lt-ltb, le-ltb, eq-eqb, ne_eqb, false_from_ne_true}
use Rattle.site_vector.specs.declared.ids.PartId.{PartId}
use Rattle.site_vector.specs.declared.ids.TxId.{TxId}
use Rattle.site_vector.specs.declared.ids.Dot.{Dot}
use Rattle.site_vector.specs.Ids.{same_tx, same_dot}
use Rattle.site_vector.specs.Order.{same_tx_is, same_tx_refl, same_tx_symm}
use Rattle.site_vector.specs.Vector.{le, entry}
use Rattle.crdt_core.specs.declared.object.ObjectId.{ObjectId}
use Rattle.crdt_core.specs.declared.record.Upd.{Upd}
use Rattle.crdt_core.specs.declared.record.Part.{Part}
use Rattle.crdt_core.specs.Kinds.{reads_state}
use Rattle.crdt_core.specs.Fits.{fits}
use Rattle.crdt_core.specs.Objects.{same_object, same_object-true, same_object-refl}
use Rattle.crdt_core.specs.Seen.{Update, sees}
use Rattle.crdt_core.specs.History.{IsClosed, IsNext, IsHistory, IsStamped, folded, seen_by, effects, effect_after}
use Rattle.crdt_core.specs.Law.{made_by, all_fit}
use Rattle.crdt_core.specs.Parts.{touches, lists}
use Rattle.world_model.specs.rules.Event.{Entry, is_decided, time_of}
use Rattle.crdt_core.specs.KindsOf.{Kinds}
use Rattle.crdt_core.specs.Orders.{Ascends, fold_cmp}
use Rattle.crdt_core.specs.Parts.{AreParts}
use Rattle.crdt_core.specs.Folds.{effects_from, effects_of, state_read}
use Rattle.world_model.specs.rules.Plan.{Plan, changes_at, commit_vector}
use Rattle.world_model.specs.lines.Reads.{has_seen}
use Rattle.world_model.specs.events.Reads.{sees_tx, IsRightFold, Asked, update_of, updates_from}
use Rattle.world_model.proofs.Names.{clash, le_at, entry_same}
use Rattle.world_model.proofs.Folds.{sum_le, sum_raised, before, before_sum, one_fold, filter_parts, filter_ascends, filter_lists}

abbrev pub EachUpdate : (Update → Type 0) → List Update → Type 0
EachUpdate P [] = ⊤
EachUpdate P (v ∷ vs) = P v × EachUpdate P vs

pub each_map : (P Q : Update → Type 0) → ((v : Update) → P v → Q v) → (vs : List Update) → EachUpdate P vs → EachUpdate Q vs
each_map P Q h [] e = tt
each_map P Q h (v ∷ vs) e = (h v e.0, each_map P Q h vs e.1)

none_of : (P : Update → Type 0) (q : Update → Bool) → ((v : Update) → P v → q v ≡ false) → (vs : List Update) → EachUpdate P vs → list_any q vs ≡ false
none_of P q h [] e = refl
none_of P q h (v ∷ vs) e = or_from _ _ (h v e.0) (none_of P q h vs e.1)

closed_by : (P : Update → Type 0) (p : Dot → Bool) → ((v : Update) → P v → p v.dot ≡ true → (d : Dot) → sees v d ≡ true → p d ≡ true) → (vs : List Update) → EachUpdate P vs → IsClosed p vs
closed_by P p h [] e = tt
closed_by P p h (v ∷ vs) e = (h v e.0, closed_by P p h vs e.1)

same_when : (l d t v : Bool) → (d ≡ true → v ≡ true → l ≡ t) → (l && (d && v)) ≡ (d && (t && v))
same_when l true t true h = ap (λ x. x && true) (h refl refl)
same_when l true true false h = and_right l false refl
same_when l true false false h = and_right l false refl
same_when l false t v h = and_right l false refl

module _ {E : Type 0} where
  abbrev pub has_index : List (Upd E) → ℕ → Bool
  has_index us n = list_any (λ u. u.index == n) us

  from_seen : (q : Dot → Bool) (o : ObjectId) (t : TxId) (ups : List (Upd E)) (older : List (Dot × E)) → ((n : ℕ) → has_index ups n ≡ true → q (record { tx = t; index = n }) ≡ true) → filter (λ e. q e.0) (effects_from o t older ups) ≡ effects_from o t (filter (λ e. q e.0) older) ups
  from_seen q o t [] older h = refl
  from_seen q o t (u ∷ ups) older h =
      from_seen q o t ups (cond (same_object u.object o) ((record { tx = t; index = u.index }, u.effect) ∷ older) older) (λ n k. h n (or_right _ _ k))
      ∙ ap (λ l. effects_from o t l ups) (one (same_object u.object o))
    where
      one : (b : Bool) → filter (λ e. q e.0) (cond b ((record { tx = t; index = u.index }, u.effect) ∷ older) older) ≡ cond b ((record { tx = t; index = u.index }, u.effect) ∷ filter (λ e. q e.0) older) (filter (λ e. q e.0) older)
      one true = cond-true (q (record { tx = t; index = u.index })) _ _ (h u.index (or_left _ _ (eq-eqb u.index u.index refl)))
      one false = refl

  from_unseen : (q : Dot → Bool) (o : ObjectId) (t : TxId) (ups : List (Upd E)) (older : List (Dot × E)) → ((n : ℕ) → q (record { tx = t; index = n }) ≡ false) → filter (λ e. q e.0) (effects_from o t older ups) ≡ filter (λ e. q e.0) older
  from_unseen q o t [] older h = refl
  from_unseen q o t (u ∷ ups) older h =
      from_unseen q o t ups (cond (same_object u.object o) ((record { tx = t; index = u.index }, u.effect) ∷ older) older) h
      ∙ one (same_object u.object o)
    where
      one : (b : Bool) → filter (λ e. q e.0) (cond b ((record { tx = t; index = u.index }, u.effect) ∷ older) older) ≡ filter (λ e. q e.0) older
      one true = cond-false (q (record { tx = t; index = u.index })) _ _ (h u.index)
      one false = refl

  of_seen : (q : Dot → Bool) (v : TxId → Bool) (o : ObjectId) (xs : List (Part E)) (older : List (Dot × E)) → ((w : TxId) (n : ℕ) → lists xs w ≡ true → q (record { tx = w; index = n }) ≡ v w) → filter (λ e. q e.0) (effects_of o older xs) ≡ effects_of o (filter (λ e. q e.0) older) (filter (λ x. v x.tx) xs)
  of_seen q v o [] older h = refl
  of_seen q v o (x ∷ xs) older h =
      let mine : (n : ℕ) → q (record { tx = x.tx; index = n }) ≡ v x.tx = λ n. h x.tx n (or_left _ _ (same_tx_refl x.tx)) in
      of_seen q v o xs (effects_from o x.tx older x.updates) (λ w n k. h w n (or_right _ _ k)) ∙ ⊎_elim
      (λ (k : v x.tx ≡ true). ap (λ l. effects_of o l (filter (λ y. v y.tx) xs)) (from_seen q o x.tx x.updates older (λ n i. mine n ∙ k)) ∙ ap (effects_of o (filter (λ e. q e.0) older)) (sym (cond-true (v x.tx) (x ∷ filter (λ y. v y.tx) xs) (filter (λ y. v y.tx) xs) k)))
      (λ (k : v x.tx ≡ false). ap (λ l. effects_of o l (filter (λ y. v y.tx) xs)) (from_unseen q o x.tx x.updates older (λ n. mine n ∙ k)) ∙ ap (effects_of o (filter (λ e. q e.0) older)) (sym (cond-false (v x.tx) (x ∷ filter (λ y. v y.tx) xs) (filter (λ y. v y.tx) xs) k)))
      (cases_Bool (v x.tx))

  from_snoc : (o : ObjectId) (t : TxId) (older : List (Dot × E)) (ups : List (Upd E)) (u : Upd E) → effects_from o t older (ups ++ u ∷ []) ≡ cond (same_object u.object o) ((record { tx = t; index = u.index }, u.effect) ∷ effects_from o t older ups) (effects_from o t older ups)
  from_snoc o t older [] u = refl
  from_snoc o t older (x ∷ ups) u = from_snoc o t (cond (same_object x.object o) ((record { tx = t; index = x.index }, x.effect) ∷ older) older) ups u

  pub of_snoc : (o : ObjectId) (older : List (Dot × E)) (xs : List (Part E)) (x : Part E) → effects_of o older (xs ++ x ∷ []) ≡ effects_from o x.tx (effects_of o older xs) x.updates
  of_snoc o older [] x = refl
  of_snoc o older (y ∷ xs) x = of_snoc o (effects_from o y.tx older y.updates) xs x

  -- what is known of the decided transactions of the whole run
  pub record Facts (plan : Plan E) (run : List (Entry E)) : Type 0 where
    pub strict : (t : TxId) → is_decided run t ≡ true → entry (plan.snapshot t) t.site < time_of run t
    pub least : (t : TxId) → is_decided run t ≡ true → 1 ≤ t.site
    pub entered : (t : TxId) → is_decided run t ≡ true → t.site ≤ length (plan.snapshot t)
    pub closed : (s : List ℕ) (t u : TxId) → sees_tx plan run s t ≡ true → sees_tx plan run (plan.snapshot t) u ≡ true → sees_tx plan run s u ≡ true

  -- an update was generated on what it has seen
  pub record IsMade {S : Type 0} (kinds : Kinds S E) (plan : Plan E) (run : List (Entry E)) (p : PartId) (t : TxId) (earlier : List (Upd E)) (a : Asked E) : Type 0 where
    pub known : kinds.has a.change.object.kind ≡ true
    pub fits : (fits a.change.object.kind a.op.path a.op.act && not (kinds.too_deep a.change.object.kind a.op.path)) ≡ true
    pub stamped : a.stamp ≡ kinds.stamp_of a.change.effect
    pub read : List (Part E)
    pub fold : reads_state a.change.object.kind ≡ true → IsRightFold plan run p (plan.snapshot t) a.change.object read
    pub effect : a.change.effect ≡ kinds.generated a.change.object.kind (state_read kinds a.change.object t earlier read) a.op.path a.op.act a.now
    pub above : (n : ℕ) → has_index earlier n ≡ true → n < a.change.index

  abbrev pub AreMade : {S : Type 0} → Kinds S E → Plan E → List (Entry E) → PartId → TxId → List (Upd E) → List (Asked E) → Type 0
  AreMade kinds plan run p t earlier [] = ⊤
  AreMade kinds plan run p t earlier (a ∷ rest) = IsMade kinds plan run p t earlier a × AreMade kinds plan run p t (earlier ++ a.change ∷ []) rest

  module _ {S : Type 0} (kinds : Kinds S E) (plan : Plan E) (run : List (Entry E)) (facts : Facts plan run) where
    pub no_self : (t : TxId) → sees_tx plan run (plan.snapshot t) t ≡ false
    no_self t = false_from_ne_true _ (λ h.
        let a = and_parts (is_decided run t) _ h in
        let b = le_at (commit_vector plan run t) (plan.snapshot t) (t.site - 1) a.1 in
        let c : entry (commit_vector plan run t) t.site ≡ time_of run t = entry_same (plan.snapshot t) t.site (time_of run t) (facts.least t a.0) (facts.entered t a.0) in
        let d = facts.strict t a.0 in
        let e : time_of run t ≤ entry (plan.snapshot t) t.site = subst (λ x. x ≤ entry (plan.snapshot t) t.site) c b in
        absurd (omega arith))

    -- causes come first
    pub seen_before : (w t : TxId) → sees_tx plan run (plan.snapshot t) w ≡ true → is_decided run t ≡ true → before (commit_vector plan run) w t ≡ Less
    seen_before w t h d =
        let a = sum_le (commit_vector plan run w) (plan.snapshot t) (and_parts (is_decided run w) _ h).1 in
        let l = facts.least t d in
        let e = facts.entered t d in
        let b = sum_raised (plan.snapshot t) (t.site - 1) (time_of run t) (omega arith) (facts.strict t d) in
        before_sum (commit_vector plan run) w t (omega arith)

    module _ (p : PartId) (o : ObjectId) where
      abbrev make : S → Update → E
      make = made_by kinds.generated o.kind

      -- what was folded before the updates of t
      pub record Ready (done : List (Part E)) (t : TxId) : Type 0 where
        pub order : Ascends fold_cmp done
        pub exact : AreParts (commit_vector plan run) (changes_at plan p) done
        pub cover : (w : TxId) → sees_tx plan run (plan.snapshot t) w ≡ true → touches (changes_at plan p w) o ≡ true → lists done w ≡ true
        pub sound : (w : TxId) → lists done w ≡ true → (is_decided run w ≡ true) × (touches (changes_at plan p w) o ≡ true)
        pub apart : (w : TxId) → lists done w ≡ true → same_tx w t ≡ false
        pub later : (w : TxId) → lists done w ≡ true → sees_tx plan run (plan.snapshot w) t ≡ false

      pub record IsOld (done : List (Part E)) (t : TxId) (earlier : List (Upd E)) (v : Update) : Type 0 where
        pub saw : (d : Dot) → v.saw d ≡ has_seen (sees_tx plan run (plan.snapshot v.dot.tx)) v.dot.tx v.dot.index d
        pub place : (lists done v.dot.tx ≡ true) ⊎ ((v.dot.tx ≡ t) × (has_index earlier v.dot.index ≡ true))

      -- the updates so far, and the effects that are stored
      pub record Told (done : List (Part E)) (t : TxId) (earlier : List (Upd E)) (h : List Update) : Type 0 where
        pub history : IsHistory h
        pub stored : effects (kinds.initial o.kind) kinds.applied make h ≡ effects_from o t (effects_of o [] done) earlier
        pub fit : all_fit kinds.too_deep o.kind h ≡ true
        pub stamps : IsStamped (kinds.initial o.kind) kinds.applied make kinds.stamp_of h
        pub old : EachUpdate (IsOld done t earlier) h

      module _ (done : List (Part E)) (t : TxId) (earlier : List (Upd E)) (r : Ready done t) (a : Asked E) (above : (n : ℕ) → has_index earlier n ≡ true → n < a.change.index) where
        abbrev u : Update
        u = update_of plan run t a

        old_new : (v : Update) → IsOld done t earlier v → same_dot v.dot u.dot ≡ false
        old_new v x = ⊎_elim
            (λ (k : lists done v.dot.tx ≡ true). and_left _ _ (r.apart v.dot.tx k))
            (λ (k : (v.dot.tx ≡ t) × (has_index earlier v.dot.index ≡ true)). let l = above v.dot.index k.1 in and_right (same_tx v.dot.tx t) _ (ne_eqb v.dot.index a.change.index (λ e. absurd (omega arith))))
            x.place

        old_unseen : (v : Update) → IsOld done t earlier v → sees v u.dot ≡ false
        old_unseen v x = x.saw u.dot ∙ ⊎_elim
            (λ (k : lists done v.dot.tx ≡ true). or_from _ _ (r.later v.dot.tx k) (and_left _ _ (same_tx_symm t v.dot.tx ∙ r.apart v.dot.tx k)))
            (λ (k : (v.dot.tx ≡ t) × (has_index earlier v.dot.index ≡ true)). let l = above v.dot.index k.1 in
            or_from _ _ (subst (λ y. sees_tx plan run (plan.snapshot y) t ≡ false) (sym k.0) (no_self t)) (and_right (same_tx t v.dot.tx) _ (le-ltb a.change.index v.dot.index (omega arith))))
            x.place

        own_apart : sees u u.dot ≡ false
        own_apart = or_from _ _ (no_self t) (and_right (same_tx t t) _ (le-ltb a.change.index a.change.index (omega arith)))

        old_closed : (v : Update) → IsOld done t earlier v → sees u v.dot ≡ true → (d : Dot) → sees v d ≡ true → sees u d ≡ true
        old_closed v x s d k = ⊎_elim
            (λ (q : lists done v.dot.tx ≡ true).
            let saw_v : sees_tx plan run (plan.snapshot t) v.dot.tx ≡ true = ⊎_elim
            (λ (y : sees_tx plan run (plan.snapshot t) v.dot.tx ≡ true). y)
            (λ (y : (same_tx v.dot.tx t && ltb v.dot.index a.change.index) ≡ true). clash (and_parts _ _ y).0 (r.apart v.dot.tx q))
            (or_cases _ _ s) in
            or_left _ _ (⊎_elim
            (λ (y : sees_tx plan run (plan.snapshot v.dot.tx) d.tx ≡ true). facts.closed (plan.snapshot t) v.dot.tx d.tx saw_v y)
            (λ (y : (same_tx d.tx v.dot.tx && ltb d.index v.dot.index) ≡ true). subst (λ z. sees_tx plan run (plan.snapshot t) z ≡ true) (sym (same_tx_is d.tx v.dot.tx (and_parts _ _ y).0)) saw_v)
            (or_cases _ _ (sym (x.saw d) ∙ k))))
            (λ (q : (v.dot.tx ≡ t) × (has_index earlier v.dot.index ≡ true)).
            let l = above v.dot.index q.1 in ⊎_elim
            (λ (y : sees_tx plan run (plan.snapshot v.dot.tx) d.tx ≡ true). or_left _ _ (subst (λ z. sees_tx plan run (plan.snapshot z) d.tx ≡ true) q.0 y))
            (λ (y : (same_tx d.tx v.dot.tx && ltb d.index v.dot.index) ≡ true).
            let ps = and_parts _ _ y in
            let m = ltb-true d.index v.dot.index ps.1 in
            or_right _ _ (and_from _ _ (subst (λ z. same_tx d.tx z ≡ true) q.0 ps.0) (lt-ltb d.index a.change.index (omega arith))))
            (or_cases _ _ (sym (x.saw d) ∙ k)))
            x.place

        next_is : (h : List Update) → EachUpdate (IsOld done t earlier) h → IsNext h u
        next_is h x = record {
          new = none_of (IsOld done t earlier) (λ v. same_dot v.dot u.dot) old_new h x;
          unseen = none_of (IsOld done t earlier) (λ v. sees v u.dot) old_unseen h x;
          apart = own_apart;
          closed = closed_by (IsOld done t earlier) (sees u) old_closed h x;
        }

        -- of what was folded, it has seen its snapshot and the earlier ones of its own
        seen_effects : filter (λ e. sees u e.0) (effects_from o t (effects_of o [] done) earlier) ≡ effects_from o t (effects_of o [] (filter (λ x. sees_tx plan run (plan.snapshot t) x.tx) done)) earlier
        seen_effects =
            from_seen (sees u) o t earlier (effects_of o [] done) (λ n k. or_right (sees_tx plan run (plan.snapshot t) t) _ (and_from _ _ (same_tx_refl t) (lt-ltb n a.change.index (above n k))))
            ∙ ap (λ l. effects_from o t l earlier) (of_seen (sees u) (λ w. sees_tx plan run (plan.snapshot t) w) o done [] (λ w n k. seen_part w n (r.apart w k)))
          where
            seen_part : (w : TxId) (n : ℕ) → same_tx w t ≡ false → sees u (record { tx = w; index = n }) ≡ sees_tx plan run (plan.snapshot t) w
            seen_part w n k = last (sees_tx plan run (plan.snapshot t) w) (same_tx w t) (ltb n a.change.index) k
              where
                last : (x y z : Bool) → y ≡ false → (x || (y && z)) ≡ x
                last true y z e = refl
                last false y z e = and_left y z e

        -- and that is what it read
        read_is : (read : List (Part E)) → IsRightFold plan run p (plan.snapshot t) o read → filter (λ x. sees_tx plan run (plan.snapshot t) x.tx) done ≡ read
        read_is read f = one_fold (commit_vector plan run) (changes_at plan p) (filter (λ x. sees_tx plan run (plan.snapshot t) x.tx) done) read
            (filter_parts (commit_vector plan run) (changes_at plan p) (λ w. sees_tx plan run (plan.snapshot t) w) done r.exact) f.exact
            (filter_ascends (λ w. sees_tx plan run (plan.snapshot t) w) done r.order) f.order
            (λ w. filter_lists (λ y. sees_tx plan run (plan.snapshot t) y) done w ∙ same_when (lists done w) (is_decided run w) (touches (changes_at plan p w) o) (le (commit_vector plan run w) (plan.snapshot t)) (λ d l. both w (and_from _ _ d l)) ∙ sym (f.members w))
          where
            both : (w : TxId) → sees_tx plan run (plan.snapshot t) w ≡ true → lists done w ≡ touches (changes_at plan p w) o
            both w s = ⊎_elim
                (λ (k : lists done w ≡ true). k ∙ sym (r.sound w k).1)
                (λ (k : lists done w ≡ false). k ∙ sym (false_from_ne_true _ (λ y. clash (r.cover w s y) k)))
                (cases_Bool (lists done w))

        -- so its effect is the one that is stored
        pub effect_is : IsMade kinds plan run p t earlier a → a.change.object ≡ o → (h : List Update) → Told done t earlier h → effect_after (kinds.initial o.kind) kinds.applied make h u ≡ a.change.effect
        effect_is m e h x =
            let known = subst (λ y. kinds.has y.kind ≡ true) e m.known in
            let stored : a.change.effect ≡ kinds.generated o.kind (state_read kinds o t earlier m.read) a.op.path a.op.act a.now = subst (λ y. a.change.effect ≡ kinds.generated y.kind (state_read kinds y t earlier m.read) a.op.path a.op.act a.now) e m.effect in
            let found : seen_by u (effects (kinds.initial o.kind) kinds.applied make h) ≡ effects_from o t (effects_of o [] (filter (λ y. sees_tx plan run (plan.snapshot t) y.tx) done)) earlier = ap (filter (λ y. sees u y.0)) x.stored ∙ seen_effects in ⊎_elim
            (λ (k : reads_state o.kind ≡ true).
            let f : IsRightFold plan run p (plan.snapshot t) o m.read = subst (λ y. reads_state y.kind ≡ true → IsRightFold plan run p (plan.snapshot t) y m.read) e m.fold k in
            ap (λ l. make (folded (kinds.initial o.kind) kinds.applied l) u) (found ∙ ap (λ l. effects_from o t (effects_of o [] l) earlier) (read_is m.read f)) ∙ sym stored)
            (λ (k : reads_state o.kind ≡ false). kinds.laws.unread o.kind (folded (kinds.initial o.kind) kinds.applied (seen_by u (effects (kinds.initial o.kind) kinds.applied make h))) (state_read kinds o t earlier m.read) a.op.path a.op.act a.now known k ∙ sym stored)
            (cases_Bool (reads_state o.kind))

        pub told_more : IsMade kinds plan run p t earlier a → a.change.object ≡ o → (h : List Update) → Told done t earlier h → Told done t (earlier ++ a.change ∷ []) (u ∷ h)
        told_more m e h x =
            let f = effect_is m e h x in record {
              history = (next_is h x.old, x.history);
              stored = (λ i. (u.dot, f i) ∷ x.stored i) ∙ sym (from_snoc o t (effects_of o [] done) earlier a.change ∙ cond-true _ _ _ (subst (λ y. same_object a.change.object y ≡ true) e (same_object-refl a.change.object)));
              fit = and_from _ _ (subst (λ y. (fits y.kind a.op.path a.op.act && not (kinds.too_deep y.kind a.op.path)) ≡ true) e m.fits) x.fit;
              stamps = (m.stamped ∙ ap kinds.stamp_of (sym f), x.stamps);
              old = (
                record { saw = λ d. refl; place = inr (refl, list_any-append _ earlier (a.change ∷ []) ∙ or_right _ _ (or_left _ _ (eq-eqb a.change.index a.change.index refl))) },
                each_map (IsOld done t earlier) (IsOld done t (earlier ++ a.change ∷ [])) (λ v y. record { saw = y.saw; place = ⊎_elim (λ (k : lists done v.dot.tx ≡ true). inl k) (λ (k : (v.dot.tx ≡ t) × (has_index earlier v.dot.index ≡ true)). inr (k.0, list_any-append _ earlier (a.change ∷ []) ∙ or_left _ _ k.1)) y.place }) h x.old,
              );
            }

        -- an update of another object is passed over
        told_other : same_object a.change.object o ≡ false → (h : List Update) → Told done t earlier h → Told done t (earlier ++ a.change ∷ []) h
        told_other k h x = record {
          history = x.history;
          stored = x.stored ∙ sym (from_snoc o t (effects_of o [] done) earlier a.change ∙ cond-false _ _ _ k);
          fit = x.fit;
          stamps = x.stamps;
          old = each_map (IsOld done t earlier) (IsOld done t (earlier ++ a.change ∷ [])) (λ v y. record { saw = y.saw; place = ⊎_elim (λ (j : lists done v.dot.tx ≡ true). inl j) (λ (j : (v.dot.tx ≡ t) × (has_index earlier v.dot.index ≡ true)). inr (j.0, list_any-append _ earlier (a.change ∷ []) ∙ or_left _ _ j.1)) y.place }) h x.old;
        }

      -- all updates of one transaction
      pub told_asks : (done : List (Part E)) (t : TxId) → Ready done t → (asks : List (Asked E)) (earlier : List (Upd E)) (h : List Update) → AreMade kinds plan run p t earlier asks → Told done t earlier h → Told done t (earlier ++ map (λ a. a.change) asks) (updates_from plan run o t h asks)
      told_asks done t r [] earlier h m x = subst (λ l. Told done t l h) (sym (append-nil earlier)) x
      told_asks done t r (a ∷ asks) earlier h m x =
          let one : Told done t (earlier ++ a.change ∷ []) (cond (same_object a.change.object o) (update_of plan run t a ∷ h) h) = ⊎_elim
          (λ (k : same_object a.change.object o ≡ true). subst (Told done t (earlier ++ a.change ∷ [])) (sym (cond-true _ (update_of plan run t a ∷ h) h k)) (told_more done t earlier r a m.0.above m.0 (same_object-true a.change.object o k) h x))
          (λ (k : same_object a.change.object o ≡ false). subst (Told done t (earlier ++ a.change ∷ [])) (sym (cond-false _ (update_of plan run t a ∷ h) h k)) (told_other done t earlier r a m.0.above k h x))
          (cases_Bool (same_object a.change.object o)) in
          subst (λ l. Told done t l (updates_from plan run o t h (a ∷ asks))) (append_assoc earlier (a.change ∷ []) (map (λ y. y.change) asks))
          (told_asks done t r asks (earlier ++ a.change ∷ []) (cond (same_object a.change.object o) (update_of plan run t a ∷ h) h) m.1 one)
