-- Steps are made where they must be, and with what was shown.
use Rattle.std.proofs.Common.{◌≡◌, ⊎_elim, ℕ, ◌≤◌, cond, Bool, true, false, ◌||◌, List, [], ◌∷◌, ◌++◌, length, refl, sym, ap, ◌∙◌, subst}
use Rattle.std.proofs.lemmas.Slice.Eq.{bytes_eq-Decides}
use Rattle.std.proofs.lemmas.Bool.{cases_Bool, or_left, or_right, or_cases, and_from, cond-true, cond-false, eq-eqb, le-leb}
use Rattle.site_vector.specs.declared.ids.PartId.{PartId}
use Rattle.site_vector.specs.declared.ids.TxId.{TxId}
use Rattle.site_vector.specs.Ids.{same_part, same_tx}
use Rattle.site_vector.specs.Order.{same_part_is, same_tx_is, same_tx_refl}
use Rattle.crdt_core.specs.declared.record.Upd.{Upd}
use Rattle.world_model.specs.rules.Event.{AskRead, AskUpdate, AskPrepare, AskDecide, AskTake, Event, Began, Updated, Read, Prepared, Took, Heard, Refused, Cut, Entry, attempt, WasShown, EventsAre}
use Rattle.crdt_core.specs.KindsOf.{Kinds}
use Rattle.world_model.specs.lines.Lines.{Wish}
use Rattle.world_model.specs.rules.Partition.{PartState, PartStep}
use Rattle.world_model.specs.rules.Plan.{Plan, is_some_update, change_by, updates_at, IsAllowed}
use Rattle.world_model.specs.lines.Places.{home, IsPlace}
use Rattle.world_model.proofs.Runs.{IsPlanned, IsRun}
use Rattle.world_model.specs.events.Dependency.{begins_for, is_of}
use Rattle.world_model.specs.events.Handed.{HandedAt, AreHanded, AreNew}
use Rattle.world_model.specs.rules.World.{is_begin, begin_vector, begun, snapshot_of, is_own, changes_of, plan_of, IsWorldRun}
use Rattle.world_model.proofs.Names.{off}
use Rattle.world_model.proofs.Intervals.{shown_has}
use Rattle.world_model.proofs.Upheld.{law_plan}

some_more : {E : Type 0} (xs ys : List (Upd E)) → is_some_update (xs ++ ys) ≡ (is_some_update xs || is_some_update ys)
some_more [] ys = refl
some_more (x ∷ xs) ys = refl

module _ {E : Type 0} where
  -- a session that was shown to begin t
  shown_of : (run : List (Entry E)) (p : PartId) (who : List ℕ) (dep : Wish) (t : TxId) (s : List ℕ) → WasShown run p (Began who dep t s) → is_of run who t ≡ true
  shown_of [] p who dep t s w = absurd w
  shown_of (e ∷ run) p who dep t s w = ⊎_elim
      (λ (x : (e.at ≡ p) × (e.event ≡ Began who dep t s)). or_left _ _ (ap (λ a. begins_for a who t) x.1 ∙ and_from _ _ ((bytes_eq-Decides who who).1 refl) (same_tx_refl t)))
      (λ (x : WasShown run p (Began who dep t s)). or_right _ _ (shown_of run p who dep t s x))
      w

  handed_event : {S : Type 0} (kinds : Kinds S E) (plan : Plan E) (run : List (Entry E)) (before : PartId → PartState E) (at : PartId) (q : PartState E) (event : Event E) → EventsAre (IsPlanned plan) run → IsAllowed plan run before at (attempt event) → PartStep kinds plan.sites plan.parts at (before at) event q → HandedAt plan run at event
  handed_event kinds plan run before at q (Began who dep t s) pl al st = ap home st.1.named
  handed_event kinds plan run before at q (Read t s o own read value) pl al st = record { site = al.site; part = al.place; who = al.who; begun = shown_of run (home t) al.who al.dependency t s al.begun }
  handed_event kinds plan run before at q (Updated t s o own op read u stamp) pl al st = (record { site = al.site; part = al.place; who = al.who; begun = shown_of run (home t) al.who al.dependency t s al.begun }, st.1.object)
  handed_event kinds plan run before at q (Took number m) pl al st = al
  handed_event kinds plan run before at q (Refused (AskTake number m) why) pl al st = al
  handed_event kinds plan run before at q (Refused (AskPrepare t s l w) why) pl al st = al.1
  handed_event kinds plan run before at q (Prepared t s l w n) pl al st = al.takes
  handed_event kinds plan run before at q (Cut (Read t s o own read value)) pl al st = (shown_has (IsPlanned plan) run (home t) (Began al.who al.dependency t s) pl al.begun, record { site = al.site; part = al.place; who = al.who; begun = shown_of run (home t) al.who al.dependency t s al.begun })
  handed_event kinds plan run before at q (Cut (Updated t s o own op read u stamp)) pl al st = (shown_has (IsPlanned plan) run (home t) (Began al.who al.dependency t s) pl al.begun, record { site = al.site; part = al.place; who = al.who; begun = shown_of run (home t) al.who al.dependency t s al.begun })
  handed_event kinds plan run before at q (Cut (Prepared t s l w n)) pl al st = (al.snapshot, al.takes)
  handed_event kinds plan run before at q (Cut (Took number m)) pl al st = al
  handed_event kinds plan run before at q (Refused (AskRead t s o own) why) pl al st = (shown_has (IsPlanned plan) run (home t) (Began al.0.who al.0.dependency t s) pl al.0.begun, record { site = al.0.site; part = al.1; who = al.0.who; begun = shown_of run (home t) al.0.who al.0.dependency t s al.0.begun })
  handed_event kinds plan run before at q (Refused (AskUpdate t s o own op) why) pl al st = (shown_has (IsPlanned plan) run (home t) (Began al.0.who al.0.dependency t s) pl al.0.begun, record { site = al.0.site; part = al.1; who = al.0.who; begun = shown_of run (home t) al.0.who al.0.dependency t s al.0.begun })
  handed_event kinds plan run before at q (Refused (AskDecide t c) why) pl al st = al
  handed_event kinds plan run before at q (Heard number k b stable) pl al st = al
  handed_event kinds plan run before at q event pl al st = tt

  pub place_events : {S : Type 0} (kinds : Kinds S E) (plan : Plan E) (run : List (Entry E)) (parts : PartId → PartState E) → IsRun kinds plan run parts → EventsAre (λ p event. IsPlace plan.sites plan.parts p) run
  place_events kinds plan [] parts r = tt
  place_events kinds plan (e ∷ run) parts r = (r.2.place, place_events kinds plan run r.0 r.1)

  pub handed_events : {S : Type 0} (kinds : Kinds S E) (plan : Plan E) (run : List (Entry E)) (parts : PartId → PartState E) → IsRun kinds plan run parts → AreHanded plan run
  handed_events kinds plan [] parts r = tt
  handed_events kinds plan (e ∷ run) parts r = (handed_event kinds plan run r.0 e.at (parts e.at) e.event (law_plan kinds plan run r.0 r.1).planned r.2.allowed r.2.step, handed_events kinds plan run r.0 r.1)

  shown_begun : (run : List (Entry E)) (p : PartId) (who : List ℕ) (dep : Wish) (t : TxId) (s : List ℕ) → WasShown run p (Began who dep t s) → begun run t ≡ true
  shown_begun [] p who dep t s w = absurd w
  shown_begun (e ∷ run) p who dep t s w = ⊎_elim
      (λ (x : (e.at ≡ p) × (e.event ≡ Began who dep t s)). or_left _ _ (ap (λ a. is_begin a t) x.1 ∙ same_tx_refl t))
      (λ (x : WasShown run p (Began who dep t s)). or_right _ _ (shown_begun run p who dep t s x))
      w

  -- who updates is of the partition's site, and has begun
  pub record IsHome (sites : ℕ) (run : List (Entry E)) (t : TxId) (p : PartId) : Type 0 where
    pub site : p.site ≡ t.site
    pub least : 1 ≤ t.site
    pub most : t.site ≤ sites
    pub begun : begun run t ≡ true

  update_home : (sites parts : ℕ) (plan : Plan E) (run : List (Entry E)) (before : PartId → PartState E) (at : PartId) (event : Event E) (t : TxId) → IsPlace sites parts at → IsAllowed plan run before at (attempt event) → is_some_update (change_by event t) ≡ true → IsHome sites run t at
  update_home sites parts plan run before at (Updated u s o own op read x stamp) t pl al h = ⊎_elim
      (λ (k : same_tx u t ≡ true). subst (λ y. IsHome sites run y at) (same_tx_is u t k) (record { site = al.site; least = subst (λ n. 1 ≤ n) al.site pl.least_site; most = subst (λ n. n ≤ sites) al.site pl.most_site; begun = shown_begun run (home u) al.who al.dependency u s al.begun }))
      (λ (k : same_tx u t ≡ false). off (sym (ap is_some_update (cond-false _ (x ∷ []) [] k)) ∙ h))
      (cases_Bool (same_tx u t))
  update_home sites parts plan run before at event t pl al h = off h

  home_more : (sites : ℕ) (run : List (Entry E)) (e : Entry E) (t : TxId) (p : PartId) → IsHome sites run t p → IsHome sites (e ∷ run) t p
  home_more sites run e t p h = record { site = h.site; least = h.least; most = h.most; begun = or_right _ _ h.begun }

  pub homes : {S : Type 0} (kinds : Kinds S E) (sites parts : ℕ) (run : List (Entry E)) (state : PartId → PartState E) → IsWorldRun kinds sites parts run state → (t : TxId) (p : PartId) → is_some_update (updates_at run t p) ≡ true → IsHome sites run t p
  homes kinds sites parts [] state r t p h = off h
  homes kinds sites parts (e ∷ run) state r t p h = home_more sites run e t p (⊎_elim
      (λ (k : is_some_update (updates_at run t p) ≡ true). homes kinds sites parts run r.0 r.1 t p k)
      (λ (k : is_some_update (cond (same_part e.at p) (change_by e.event t) []) ≡ true). ⊎_elim
      (λ (x : same_part e.at p ≡ true). subst (λ y. IsHome sites run t y) (same_part_is e.at p x) (update_home sites parts (plan_of sites parts (e ∷ run)) run r.0 e.at e.event t (record { least_site = r.2.place.least_site; most_site = r.2.place.most_site; least_part = r.2.place.least_part; most_part = r.2.place.most_part }) r.2.allowed (sym (ap is_some_update (cond-true _ (change_by e.event t) [] x)) ∙ k)))
      (λ (x : same_part e.at p ≡ false). off (sym (ap is_some_update (cond-false _ (change_by e.event t) [] x)) ∙ k))
      (cases_Bool (same_part e.at p)))
      (or_cases _ _ (sym (some_more (updates_at run t p) (cond (same_part e.at p) (change_by e.event t) [])) ∙ h)))

  begin_width : {S : Type 0} (kinds : Kinds S E) (sites parts : ℕ) (at : PartId) (p q : PartState E) (event : Event E) (t : TxId) → PartStep kinds sites parts at p event q → is_begin event t ≡ true → length (begin_vector event) ≡ sites
  begin_width kinds sites parts at p q (Began who dep u s) t st h = st.1.width
  begin_width kinds sites parts at p q event t st h = off h

  pub snapshot_width : {S : Type 0} (kinds : Kinds S E) (sites parts : ℕ) (run : List (Entry E)) (state : PartId → PartState E) → IsWorldRun kinds sites parts run state → (t : TxId) → begun run t ≡ true → length (snapshot_of run t) ≡ sites
  snapshot_width kinds sites parts [] state r t h = off h
  snapshot_width kinds sites parts (e ∷ run) state r t h = ⊎_elim
      (λ (k : is_begin e.event t ≡ true). ap length (cond-true _ (begin_vector e.event) (snapshot_of run t) k) ∙ begin_width kinds sites parts e.at (r.0 e.at) (state e.at) e.event t r.2.step k)
      (λ (k : is_begin e.event t ≡ false). ap length (cond-false _ (begin_vector e.event) (snapshot_of run t) k) ∙ snapshot_width kinds sites parts run r.0 r.1 t (⊎_elim (λ (x : is_begin e.event t ≡ true). off (sym k ∙ x)) (λ (x : begun run t ≡ true). x) (or_cases _ _ h)))
      (cases_Bool (is_begin e.event t))

  -- whatever was updated stands in the plan
  pub planned_updates : {S : Type 0} (kinds : Kinds S E) (sites parts : ℕ) (run : List (Entry E)) (state : PartId → PartState E) → IsWorldRun kinds sites parts run state → (t : TxId) (p : PartId) → changes_of sites run t p ≡ updates_at run t p
  planned_updates kinds sites parts run state r t p = ⊎_elim
      (λ (k : is_some_update (updates_at run t p) ≡ true).
      let h = homes kinds sites parts run state r t p k in
      let w = snapshot_width kinds sites parts run state r t h.begun in
      cond-true (is_own sites run t p) (updates_at run t p) [] (and_from _ _ (eq-eqb p.site t.site h.site) (and_from _ _ (le-leb 1 t.site h.least) (and_from _ _ (le-leb t.site sites h.most) (le-leb t.site (length (snapshot_of run t)) (subst (λ n. t.site ≤ n) (sym w) h.most))))))
      (λ (k : is_some_update (updates_at run t p) ≡ false). none (updates_at run t p) (is_own sites run t p) k)
      (cases_Bool (is_some_update (updates_at run t p)))
    where
      none : (us : List (Upd E)) (b : Bool) → is_some_update us ≡ false → cond b us [] ≡ us
      none [] true k = refl
      none [] false k = refl
      none (u ∷ us) b k = off (sym k)

  pub numbered_events : {S : Type 0} (kinds : Kinds S E) (sites parts : ℕ) (run : List (Entry E)) (state : PartId → PartState E) → IsWorldRun kinds sites parts run state → AreNew run
  numbered_events kinds sites parts [] state r = tt
  numbered_events kinds sites parts (e ∷ run) state r = (r.3, numbered_events kinds sites parts run r.0 r.1)
