-- What lines say that a transaction reads is what events say, in another order.
use Rattle.std.proofs.Common.{◌≡◌, ⊎_elim, ℕ, ◌+◌, cond, Bool, true, false, ◌&&◌, ◌||◌, List, [], ◌∷◌, ◌++◌, length, refl, sym, ap, ◌∙◌, subst, append_assoc}
use Rattle.std.specs.Prelude.{⊤, filter, map, nat_lt, None, Some}
use Rattle.std.specs.List.{flat_map}
use Rattle.std.specs.declared.cmp.Ordering.TheVariants.{Less}
use Rattle.std.proofs.lemmas.Bool.{cases_Bool, or_left, or_right, or_from, and_from, and_parts, cond-true, cond-false, false_from_ne_true, eq-eqb}
use Rattle.std.proofs.lemmas.Grind.{flat_map-append}
use Rattle.std.proofs.lemmas.List.Folds.{list_any-append}
use Rattle.site_vector.specs.declared.ids.PartId.{PartId}
use Rattle.site_vector.specs.declared.ids.TxId.{TxId}
use Rattle.site_vector.specs.Ids.{same_part, same_tx}
use Rattle.site_vector.specs.Order.{same_tx_is, same_tx_refl}
use Rattle.crdt_core.specs.declared.object.ObjectId.{ObjectId}
use Rattle.crdt_core.specs.declared.record.Upd.{Upd}
use Rattle.crdt_core.specs.declared.record.Part.{Part}
use Rattle.crdt_core.specs.Objects.{same_object, same_object-true}
use Rattle.crdt_core.specs.Placing.{place_of}
use Rattle.crdt_core.specs.Seen.{Update}
use Rattle.crdt_core.specs.Same.{Same}
use Rattle.crdt_core.specs.Parts.{touches, lists}
use Rattle.world_model.specs.rules.Event.{IsDown, Event, Updated, Decided, Refused, Cut, Entry, is_decided}
use Rattle.crdt_core.specs.Orders.{Ascends, fold_cmp}
use Rattle.crdt_core.specs.Parts.{AreParts}
use Rattle.world_model.specs.rules.Plan.{Plan, changes_at, commit_vector, updates_at}
use Rattle.world_model.specs.lines.Places.{twin}
use Rattle.world_model.specs.events.Handed.{HandedAt, AreHanded, AreNew}
use Rattle.world_model.specs.rules.World.{plan_of}
use Rattle.world_model.specs.events.Reads.{sees_tx, IsRightFold, Asked, asked_at}
use Rattle.world_model.specs.events.Reads as events
use Rattle.world_model.specs.lines.Lines.{Line}
use Rattle.world_model.specs.rules.Lines.{call_of, step_shown, shown_lines}
use Rattle.world_model.specs.declared.step.Step.{Step}
use Rattle.world_model.specs.declared.step.Step.TheVariants as step
use Rattle.world_model.specs.lines.Clock.{now}
use Rattle.world_model.specs.lines.History as past
use Rattle.world_model.specs.lines.Updates.{Change, change_of, changes}
use Rattle.world_model.specs.lines.Reads as reads
use Rattle.world_model.proofs.Names.{clash}
use Rattle.world_model.proofs.Folds.{before, before_self, precede_lists}
use Rattle.world_model.proofs.Stories.{asked_changes}
use Rattle.world_model.proofs.LineViews.{snapshot_is, visible_is}
use Rattle.world_model.proofs.LineChanges.{to_change, changes_there, touched}
use Rattle.world_model.proofs.Orders.{Each, each_append, filter_narrow, filter_map, map_map, filter_none, is_in, IsOnce, with_one, inserted, drop_empty, none_pass}

or_none : (b : Bool) → (b || false) ≡ b
or_none true = refl
or_none false = refl

or_assoc : (a b c : Bool) → ((a || b) || c) ≡ (a || (b || c))
or_assoc true b c = refl
or_assoc false b c = refl

-- the history lists each once, and what is decided
new_has : (ls : List Line) (u t : TxId) (rest : Bool) → rest ≡ past.in_history ls t → (is_in (past.new_in ls u) t || rest) ≡ (same_tx u t || past.in_history ls t)
new_has ls u t rest r = go (past.in_history ls u) (same_tx u t) refl refl
  where
    go : (b c : Bool) → past.in_history ls u ≡ b → same_tx u t ≡ c → (is_in (cond b [] (u ∷ [])) t || rest) ≡ (c || past.in_history ls t)
    go true true h k = r ∙ subst (λ x. past.in_history ls x ≡ true) (same_tx_is u t k) h
    go true false h k = r
    go false c h k = (λ i. (or_none (same_tx u t) i || rest)) ∙ (λ i. (k i || r i))

newly_has : (ls : List Line) (s : Step) (t : TxId) (rest : Bool) → rest ≡ past.in_history ls t → (is_in (past.newly_decided ls s) t || rest) ≡ (past.decides s t || past.in_history ls t)
newly_has ls (step.Decided p u c) t rest r = new_has ls u t rest r
newly_has ls (step.Restarted p n bounds (Some u) listed) t rest r = new_has ls u t rest r
newly_has ls (step.Restarted p n bounds None listed) t rest r = r
newly_has ls s t rest r = r

pub history_has : (ls : List Line) (t : TxId) → is_in (past.history ls) t ≡ past.in_history ls t
history_has [] t = refl
history_has (l ∷ ls) t = list_any-append (λ u. same_tx u t) (past.newly_decided ls l.step) (past.history ls) ∙ newly_has ls l.step t (is_in (past.history ls) t) (history_has ls t)

new_once : (ls : List Line) (u : TxId) → IsOnce (past.history ls) → IsOnce (past.new_in ls u ++ past.history ls)
new_once ls u h = go (past.in_history ls u) refl
  where
    go : (b : Bool) → past.in_history ls u ≡ b → IsOnce (cond b [] (u ∷ []) ++ past.history ls)
    go true k = h
    go false k = (history_has ls u ∙ k, h)

newly_once : (ls : List Line) (s : Step) → IsOnce (past.history ls) → IsOnce (past.newly_decided ls s ++ past.history ls)
newly_once ls (step.Decided p u c) h = new_once ls u h
newly_once ls (step.Restarted p n bounds (Some u) listed) h = new_once ls u h
newly_once ls (step.Restarted p n bounds None listed) h = h
newly_once ls s h = h

pub history_once : (ls : List Line) → IsOnce (past.history ls)
history_once [] = tt
history_once (l ∷ ls) = newly_once ls l.step (history_once ls)

-- places of the changes of t
abbrev ChangeIsAt : ℕ → TxId → Change → Type 0
ChangeIsAt parts t c = (c.at.site ≡ t.site) × (place_of c.object.bucket c.object.key parts ≡ c.at.part)

-- an object's updates are those at its place
at_place : (parts : ℕ) (t : TxId) (o : ObjectId) (q : PartId) → q.site ≡ t.site → place_of o.bucket o.key parts ≡ q.part → (cs : List Change) → Each (ChangeIsAt parts t) cs → Each (λ c. same_object c.object o ≡ true → same_part c.at q ≡ true) cs
at_place parts t o q s n [] h = tt
at_place parts t o q s n (c ∷ cs) h = (
  (λ k. let e = same_object-true c.object o k in and_from _ _ (eq-eqb c.at.site q.site (h.0.0 ∙ sym s)) (eq-eqb c.at.part q.part (sym h.0.1 ∙ ap (λ x. place_of x.bucket x.key parts) e ∙ n))),
  at_place parts t o q s n cs h.1,
)

module _ {E : Type 0} where
  change_placed : (plan : Plan E) (run : List (Entry E)) (p : PartId) (event : Event E) (t : TxId) (time index : ℕ) → HandedAt plan run p event → Each (ChangeIsAt plan.parts t) (change_of p time index (call_of event) (step_shown run p event) t)
  change_placed plan run p (Updated u s o own op read x stamp) t time index h =
      let c : Change = record { at = p; now = time; object = o; op = op; stamp = stamp; index = index } in ⊎_elim
      (λ (k : same_tx u t ≡ true). subst (Each (ChangeIsAt plan.parts t)) (sym (cond-true _ (c ∷ []) [] k)) ((h.0.site ∙ ap (λ y. y.site) (same_tx_is u t k), h.0.part), tt))
      (λ (k : same_tx u t ≡ false). subst (Each (ChangeIsAt plan.parts t)) (sym (cond-false _ (c ∷ []) [] k)) tt)
      (cases_Bool (same_tx u t))
  change_placed plan run p (Refused asked IsDown) t time index h = tt
  change_placed plan run p (Refused asked why) t time index h = tt
  change_placed plan run p (Cut (Decided u c)) t time index h = tt
  change_placed plan run p (Cut a) t time index h = tt
  change_placed plan run p event t time index h = tt

  changes_placed : (plan : Plan E) (run : List (Entry E)) → AreHanded plan run → (t : TxId) → Each (ChangeIsAt plan.parts t) (changes (shown_lines run) t)
  changes_placed plan [] h t = tt
  changes_placed plan (e ∷ run) h t = each_append (ChangeIsAt plan.parts t) (changes (shown_lines run) t) (change_of e.at (now (shown_lines run) e.at) (length (changes (shown_lines run) t) + 1) (call_of e.event) (step_shown run e.at e.event) t) (changes_placed plan run h.1 t) (change_placed plan run e.at e.event t (now (shown_lines run) e.at) (length (changes (shown_lines run) t) + 1) h.0)

  object_changes : (plan : Plan E) (run : List (Entry E)) → AreHanded plan run → AreNew run → (t : TxId) (o : ObjectId) (q : PartId) → q.site ≡ t.site → place_of o.bucket o.key plan.parts ≡ q.part → filter (λ c. same_object c.object o) (changes (shown_lines run) t) ≡ map (to_change q) (filter (λ a. same_object a.change.object o) (asked_at run t q))
  object_changes plan run h n t o q s k =
      filter_narrow (λ c. same_part c.at q) (λ c. same_object c.object o) (changes (shown_lines run) t) (at_place plan.parts t o q s k (changes (shown_lines run) t) (changes_placed plan run h t))
      ∙ ap (filter (λ c. same_object c.object o)) (changes_there plan run h n t q)
      ∙ filter_map (to_change q) (λ c. same_object c.object o) (asked_at run t q)

  module _ (sites parts : ℕ) (whole : List (Entry E)) where
    abbrev pub plan : Plan E
    plan = plan_of sites parts whole

    abbrev pub ls : List Line
    ls = shown_lines whole

    precedes_is : (t u : TxId) → past.precedes ls t u ≡ sees_tx plan whole (plan.snapshot u) t
    precedes_is t u = ap (λ v. past.visible ls v t) (snapshot_is whole u) ∙ visible_is whole (plan.snapshot u) t

    -- an update is to the kinds what it was
    pub update_is : (t : TxId) (q : PartId) (a : Asked E) → reads.update_of ls t (to_change q a) ≡ events.update_of plan whole t a
    update_is t q a = λ i. record {
      dot = record { tx = t; index = a.change.index };
      path = a.op.path;
      act = a.op.act;
      stamp = a.stamp;
      now = a.now;
      saw = λ d. (precedes_is d.tx t i || (same_tx d.tx t && nat_lt d.index a.change.index));
    }

    -- the updates of o by t, as it was asked for them at q
    abbrev pub updates_at_place : ObjectId → TxId → List (Asked E) → List Update
    updates_at_place o t asks = map (λ a. events.update_of plan whole t a) (filter (λ a. same_object a.change.object o) asks)

    pub updates_is : (some : List (Entry E)) → AreHanded plan some → AreNew some → (t : TxId) (o : ObjectId) (q : PartId) → q.site ≡ t.site → place_of o.bucket o.key parts ≡ q.part → reads.updates_in ls o t (changes (shown_lines some) t) ≡ updates_at_place o t (asked_at some t q)
    updates_is some h n t o q s k =
        ap (map (λ c. reads.update_of ls t c)) (object_changes plan some h n t o q s k)
        ∙ map_map (to_change q) (λ c. reads.update_of ls t c) (filter (λ a. same_object a.change.object o) (asked_at some t q))
        ∙ (λ i. map (λ a. update_is t q a i) (filter (λ a. same_object a.change.object o) (asked_at some t q)))

    -- what is asked for may be put anywhere
    pub grows : (o : ObjectId) (t : TxId) (asks : List (Asked E)) (older front back : List Update) → Same older (front ++ back) → Same (events.updates_from plan whole o t older asks) (front ++ (updates_at_place o t asks ++ back))
    grows o t [] older front back s = s
    grows o t (a ∷ asks) older front back s =
        let u = events.update_of plan whole t a in ⊎_elim
        (λ (k : same_object a.change.object o ≡ true).
        let more : Same (u ∷ older) ((front ++ u ∷ []) ++ back) = subst (λ l. Same (u ∷ older) l) (sym (append_assoc front (u ∷ []) back)) (front, back, refl, s) in
        let rest = grows o t asks (u ∷ older) (front ++ u ∷ []) back more in
        subst (λ l. Same (events.updates_from plan whole o t l asks) (front ++ (updates_at_place o t (a ∷ asks) ++ back))) (sym (cond-true _ (u ∷ older) older k))
        (subst (λ l. Same (events.updates_from plan whole o t (u ∷ older) asks) (front ++ (map (λ x. events.update_of plan whole t x) l ++ back))) (sym (cond-true _ (a ∷ filter (λ x. same_object x.change.object o) asks) (filter (λ x. same_object x.change.object o) asks) k))
        (subst (λ l. Same (events.updates_from plan whole o t (u ∷ older) asks) l) (append_assoc front (u ∷ []) (updates_at_place o t asks ++ back)) rest)))
        (λ (k : same_object a.change.object o ≡ false).
        let rest = grows o t asks older front back s in
        subst (λ l. Same (events.updates_from plan whole o t l asks) (front ++ (updates_at_place o t (a ∷ asks) ++ back))) (sym (cond-false _ (u ∷ older) older k))
        (subst (λ l. Same (events.updates_from plan whole o t older asks) (front ++ (map (λ x. events.update_of plan whole t x) l ++ back))) (sym (cond-false _ (a ∷ filter (λ x. same_object x.change.object o) asks) (filter (λ x. same_object x.change.object o) asks) k)) rest))
        (cases_Bool (same_object a.change.object o))

    module _ (p : PartId) (o : ObjectId) (hs : List TxId) (once : IsOnce hs) where
      abbrev pub by_tx : TxId → List Update
      by_tx t = updates_at_place o t (asked_at whole t (twin t.site p))

      -- parts that weren't put yet, one after another
      abbrev AreNext : (TxId → Bool) → List (Part E) → Type 0
      AreNext done [] = ⊤
      AreNext done (x ∷ xs) = (is_in hs x.tx ≡ true) × (done x.tx ≡ false) × AreNext (with_one done x.tx) xs

      parts_put : (read : List (Part E)) (done : TxId → Bool) (older : List Update) → AreNext done read → Same older (flat_map by_tx (filter done hs)) → Same (events.updates_of plan whole p o older read) (flat_map by_tx (filter (λ t. done t || lists read t) hs))
      parts_put [] done older n s = subst (λ l. Same older (flat_map by_tx l)) (λ i. filter (λ t. sym (or_none (done t)) i) hs) s
      parts_put (x ∷ xs) done older n s =
          let split = inserted hs done x.tx once n.0 n.1 in
          let apart : Same older (flat_map by_tx split.front ++ flat_map by_tx split.back) = subst (Same older) (ap (flat_map by_tx) split.before ∙ flat_map-append by_tx split.front split.back) s in
          let put = grows o x.tx (asked_at whole x.tx (twin x.tx.site p)) older (flat_map by_tx split.front) (flat_map by_tx split.back) apart in
          let joined : Same (events.updates_from plan whole o x.tx older (asked_at whole x.tx (twin x.tx.site p))) (flat_map by_tx (filter (with_one done x.tx) hs)) = subst (Same (events.updates_from plan whole o x.tx older (asked_at whole x.tx (twin x.tx.site p)))) (sym (ap (flat_map by_tx) split.after ∙ flat_map-append by_tx split.front (x.tx ∷ split.back))) put in
          let rest = parts_put xs (with_one done x.tx) (events.updates_from plan whole o x.tx older (asked_at whole x.tx (twin x.tx.site p))) n.2 joined in
          subst (λ l. Same (events.updates_of plan whole p o older (x ∷ xs)) (flat_map by_tx l)) (λ i. filter (λ t. or_assoc (done t) (same_tx x.tx t) (lists xs t) i) hs) rest

      -- the parts of a fold are such
      next_parts : (f : TxId → List ℕ) (g : TxId → List (Upd E)) (read : List (Part E)) (done : TxId → Bool) → AreParts f g read → Ascends fold_cmp read → ((t : TxId) → lists read t ≡ true → is_in hs t ≡ true) → ((t : TxId) → lists read t ≡ true → done t ≡ false) → AreNext done read
      next_parts f g [] done a b c d = tt
      next_parts f g (x ∷ xs) done a b c d =
          let mine : lists (x ∷ xs) x.tx ≡ true = or_left _ _ (same_tx_refl x.tx) in (
            c x.tx mine,
            d x.tx mine,
            next_parts f g xs (with_one done x.tx) a.1 b.1 (λ t h. c t (or_right _ _ h)) (λ t h. or_from _ _ (d t (or_right _ _ h)) (false_from_ne_true _ (λ e. before_self f t (subst (λ y. before f y t ≡ Less) (same_tx_is x.tx t e) (precede_lists f g x xs t a.0.0 a.1 b.0 h))))),
          )

      -- all that was read, as the list of transactions has it
      pub all_put : (s : List ℕ) (read : List (Part E)) → IsRightFold plan whole p s o read → ((t : TxId) → is_in hs t ≡ sees_tx plan whole s t) → ((t : TxId) (q : PartId) → plan.updates t q ≡ updates_at whole t q) → Same (events.updates_of plan whole p o [] read) (flat_map by_tx hs)
      all_put s read r all planned =
          let member : (t : TxId) → lists read t ≡ true → is_in hs t ≡ true = λ t h. let a = and_parts (is_decided whole t) _ (sym (r.members t) ∙ h) in all t ∙ and_from _ _ a.0 (and_parts _ _ a.1).1 in
          let next = next_parts (commit_vector plan whole) (changes_at plan p) read (λ t. false) r.exact r.order member (λ t h. refl) in
          let put = parts_put read (λ t. false) [] next (ap (flat_map by_tx) (none_pass hs)) in
          let empty : (t : TxId) → is_in hs t ≡ true → lists read t ≡ false → by_tx t ≡ [] = λ t h k.
          let v = and_parts (is_decided whole t) _ (sym (all t) ∙ h) in
          let none : touches (changes_at plan p t) o ≡ false = false_from_ne_true _ (λ y. clash (r.members t ∙ and_from _ _ v.0 (and_from _ _ y v.1)) k) in
          ap (map (λ a. events.update_of plan whole t a)) (filter_none (λ a. same_object a.change.object o) (asked_at whole t (twin t.site p)) (touched o (asked_at whole t (twin t.site p)) ∙ ap (λ us. touches us o) (asked_changes whole t (twin t.site p) ∙ sym (planned t (twin t.site p))) ∙ none)) in
          subst (Same (events.updates_of plan whole p o [] read)) (drop_empty by_tx (λ t. lists read t) hs empty) put
