-- An update of a transaction stands among its updates.
use Rattle.std.proofs.Common.{◌≡◌, ⊎_elim, inr, ℕ, ◌+◌, ◌≤◌, cond, Bool, true, false, List, [], ◌∷◌, ◌++◌, length, refl, sym, ap, ◌∙◌, subst, arith}
use Rattle.std.specs.Prelude.{◌||◌, ◌&&◌, ◌==◌, Option, Some, None}
use Rattle.std.proofs.lemmas.Bool.{cases_Bool, cond-true, cond-false, eq-eqb}
use Rattle.std.proofs.lemmas.List.{length-append}
use Rattle.std.proofs.lemmas.List.Elements.{filter-append}
use Rattle.site_vector.specs.declared.ids.PartId.{PartId}
use Rattle.site_vector.specs.Ids.{same_part}
use Rattle.site_vector.specs.Vector.{entry}
use Rattle.site_vector.specs.Order.{same_tx_refl}
use Rattle.crdt_core.specs.declared.kind.Kind.{Kind}
use Rattle.crdt_core.specs.declared.object.Field.{Field}
use Rattle.crdt_core.specs.declared.object.ObjectId.{ObjectId}
use Rattle.crdt_core.specs.declared.operation.Op.{Op}
use Rattle.crdt_core.specs.declared.record.Upd.{Upd}
use Rattle.crdt_core.specs.declared.record.Part.{Part}
use Rattle.crdt_core.specs.KindsOf.{Kinds}
use Rattle.crdt_core.specs.Objects.{same_object, same_object-true}
use Rattle.crdt_core.specs.Placing.{place_of}
use Rattle.world_model.specs.declared.step.Step.{Step}
use Rattle.world_model.specs.declared.step.Step.TheVariants as step
use Rattle.world_model.specs.rules.Event.{Ask, AskRead, AskUpdate, Updated}
use Rattle.world_model.specs.lines.Places.{IsPlace}
use Rattle.world_model.specs.rules.Plan.{updates_at, update_count}
use Rattle.world_model.specs.rules.Lines.{session_of, step_shown}
use Rattle.txn_session.specs.Calls.{Call, entries, called, IsLegal, IsAllowed, MayCall, GoesOn, Changes, Stays}
use Rattle.txn_session.specs.Session.{Txn, Open, SessionState, doing_so, own_updates, updates_of, is_placed_at, place_in}
use Rattle.clocksi_commit.specs.Commit.{Committing}
use Rattle.txn_session.specs.declared.session.Stage.{Stage}
use Rattle.txn_session.specs.declared.session.Stage.TheVariants as stage
use Rattle.txn_session.specs.Fields.{doing_in}
use Rattle.txn_session.specs.Opens.{with_update, updated, IsUpdated, update_refusal}
use Rattle.txn_session.specs.Holds.{HoldsTxn, IsUntried, HoldsDoing, Holds, HoldsNumber, Mays, MakesUpdate, MakesRead, changed_at}
use Rattle.txn_session.proofs.Frames.{known_next}
use Rattle.txn_session.proofs.Events.{is_done_step, update_made, update_quiet, none_undone, read_quiet}
use Rattle.txn_session.specs.SessionWaits.{ReadsLater, ReadWaits, UpdatesLater, UpdateWaits}
use Rattle.txn_session.specs.Waits.{is_late, Later}
use Rattle.txn_session.proofs.Acting.{goes_apart, goes_holds, quiet_makes}
use Rattle.txn_session.proofs.Outwaiting.{goes_later, changes_later, waits_later}

-- an object stands at one of the partitions
pub place_within : (bucket key : List ℕ) (parts : ℕ) → 1 ≤ parts → (1 ≤ place_of bucket key parts) × (place_of bucket key parts ≤ parts)
place_within bucket key parts h = (omega arith, omega arith)

and_off : (b c : Bool) → ((b && false) || c) ≡ c
and_off true c = refl
and_off false c = refl

module _ {E : Type 0} where
  -- the updates of an object are at its partition
  pub own_at : (parts : ℕ) (us : List (Upd E)) (o : ObjectId) → own_updates us o ≡ own_updates (updates_of parts us (place_of o.bucket o.key parts)) o
  own_at parts [] o = refl
  own_at parts (u ∷ us) o =
      let p = place_of o.bucket o.key parts in
      let rest = own_at parts us o in
      ⊎_elim
      (λ (k : same_object u.object o ≡ true).
      let here : is_placed_at parts p u ≡ true = eq-eqb _ _ (ap (λ x. place_of x.bucket x.key parts) (same_object-true u.object o k)) in
      cond-true _ (u ∷ own_updates us o) (own_updates us o) k ∙ (ap (λ l. u ∷ l) rest ∙ (sym (cond-true _ (u ∷ own_updates (updates_of parts us p) o) (own_updates (updates_of parts us p) o) k) ∙ ap (λ l. own_updates l o) (sym (cond-true _ (u ∷ updates_of parts us p) (updates_of parts us p) here)))))
      (λ (k : same_object u.object o ≡ false). cond-false _ (u ∷ own_updates us o) (own_updates us o) k ∙ (rest ∙ passed (is_placed_at parts p u) u (updates_of parts us p) o k))
      (cases_Bool (same_object u.object o))
    where
      passed : (b : Bool) (u : Upd E) (l : List (Upd E)) (o : ObjectId) → same_object u.object o ≡ false → own_updates l o ≡ own_updates (cond b (u ∷ l) l) o
      passed true u l o k = sym (cond-false _ (u ∷ own_updates l o) (own_updates l o) k)
      passed false u l o k = refl

  -- one update more
  pub changed_more : (site parts : ℕ) (us : List (Upd E)) (x : Upd E) (p : PartId) → changed_at site parts (us ++ x ∷ []) p ≡ changed_at site parts us p ++ cond (site == p.site && is_placed_at parts p.part x) (x ∷ []) []
  changed_more site parts us x p = by_site (site == p.site)
    where
      by_site : (b : Bool) → cond b (updates_of parts (us ++ x ∷ []) p.part) [] ≡ cond b (updates_of parts us p.part) [] ++ cond (b && is_placed_at parts p.part x) (x ∷ []) []
      by_site true = filter-append (is_placed_at parts p.part) us (x ∷ [])
      by_site false = refl

  here_is : (site parts : ℕ) (us : List (Upd E)) (q : ℕ) → changed_at site parts us (record { site = site; part = q }) ≡ updates_of parts us q
  here_is site parts us q = cond-true _ (updates_of parts us q) [] (eq-eqb site site refl)

  module _ (s : SessionState E) (txn : Txn E) (run : List (Call E)) (h : HoldsTxn s.sites s.parts s.name s.site txn run) where
    pub at_place : (o : ObjectId) → 1 ≤ s.parts → IsPlace s.sites s.parts (place_in s (place_of o.bucket o.key s.parts))
    at_place o k =
        let w = place_within o.bucket o.key s.parts k in
        record { least_site = subst (λ n. 1 ≤ n) h.site_is h.place.least_site; most_site = subst (λ n. n ≤ s.sites) h.site_is h.place.most_site; least_part = w.0; most_part = w.1 }

    earlier_is : (o : ObjectId) → own_updates txn.updates o ≡ own_updates (updates_at (entries run) txn.tx (place_in s (place_of o.bucket o.key s.parts))) o
    earlier_is o = let q = place_of o.bucket o.key s.parts in own_at s.parts txn.updates o ∙ ap (λ l. own_updates l o) (sym (h.updates (place_in s q) ∙ here_is s.site s.parts txn.updates q))

    pub read_allowed : (o : ObjectId) → IsAllowed s.sites s.parts run (Some txn.by) (place_in s (place_of o.bucket o.key s.parts)) (AskRead txn.tx txn.s o (own_updates txn.updates o))
    read_allowed o = record {
      may = record { site = sym h.site_is; who = s.name; dependency = h.handed; begun = h.shown; place = refl; earlier = earlier_is o };
      mine = h.caller;
    }

    pub update_allowed : (o : ObjectId) (op : Op) → IsUntried txn.tx run → IsAllowed s.sites s.parts run (Some txn.by) (place_in s (place_of o.bucket o.key s.parts)) (AskUpdate txn.tx txn.s o (own_updates txn.updates o) op)
    update_allowed o op u = record {
      may = (record { site = sym h.site_is; who = s.name; dependency = h.handed; begun = h.shown; place = refl; earlier = earlier_is o }, u.tries);
      mine = h.caller;
    }

  -- the new update is the next one of the object
  change_is : (o : ObjectId) (n : ℕ) (effect : E) (x : Upd E) → x.object ≡ o → x.index ≡ n + 1 → x.effect ≡ effect → x ≡ record { object = o; index = n + 1; effect = effect }
  change_is o n effect x a b c = (λ i. record { object = a i; index = b i; effect = c i })

  module _ {S : Type 0} (kinds : Kinds S E) (s : SessionState E) (txn : Txn E) (run : List (Call E)) (h : HoldsTxn s.sites s.parts s.name s.site txn run) (u : IsUntried txn.tx run) where
    -- after an update
    pub updated_holds : (by : ℕ) (o : ObjectId) (own : List (Upd E)) (op : Op) (read : List (Part E)) (x : Upd E) (stamp : Option ℕ) (effect : E) → x.effect ≡ effect → IsLegal kinds s.sites s.parts (called by (place_in s (place_of o.bucket o.key s.parts)) (Updated txn.tx txn.s o own op read x stamp) ∷ run) →
        HoldsDoing s.sites s.parts s.name s.site (called by (place_in s (place_of o.bucket o.key s.parts)) (Updated txn.tx txn.s o own op read x stamp) ∷ run) (Open (with_update txn o effect))
    updated_holds by o own op read x stamp effect e l =
        let at = place_in s (place_of o.bucket o.key s.parts) in
        let object : x.object ≡ o = l.is_run.2.step.1.object in
        let index : x.index ≡ length txn.updates + 1 = l.is_run.3.number ∙ ap (λ n. n + 1) h.count in
        let is = change_is o (length txn.updates) effect x object index e in
        let new : Upd E = record { object = o; index = length txn.updates + 1; effect = effect } in
        let me = same_tx_refl txn.tx in (
          record {
            site_is = h.site_is;
            place = h.place;
            width = h.width;
            handed = h.handed;
            shown = inr h.shown;
            begun = h.begun;
            snapshot = h.snapshot;
            session = h.session;
            caller = h.caller;
            updates = λ p.
                ap (λ b. updates_at (entries run) txn.tx p ++ cond (same_part at p) (cond b (x ∷ []) []) []) me
                ∙ ((λ i. h.updates p i ++ cond (same_part at p) (is i ∷ []) []) ∙ sym (changed_more s.site s.parts txn.updates new p));
            count = ap (λ b. update_count (entries run) txn.tx + length (cond b (x ∷ []) [])) me ∙ (one_more (update_count (entries run) txn.tx) (length txn.updates) h.count x ∙ sym (length-append txn.updates (new ∷ [])));
          },
          record { tries = λ p. and_off (same_part at p) _ ∙ u.tries p; votes = λ p. and_off (same_part at p) _ ∙ u.votes p; undecided = u.undecided; ungiven = u.ungiven; time = u.time },
        )
      where
        one_more : (a b : ℕ) → a ≡ b → (y : Upd E) → a + length (y ∷ []) ≡ b + length (y ∷ [])
        one_more a b k y = ap (λ n. n + length (y ∷ [])) k

pub not_updated : {E : Type 0} (s : SessionState E) (o : ObjectId) (answer : Step) → is_done_step answer ≡ false → IsUpdated s o answer s
not_updated s o (step.Updated name object stamp) h = absurd cc
not_updated s o other h = refl

-- which stage a session is in
pub open_in : {E : Type 0} (too_deep : Kind → List Field → Bool) (o : ObjectId) (op : Op) (k : Stage) (txn : Txn E) (lead : ℕ) (commit : Committing) → None ≡ update_refusal too_deep (doing_in k txn lead commit) o op → k ≡ stage.Open
open_in too_deep o op stage.Idle txn lead commit h = absurd cc
open_in too_deep o op stage.Open txn lead commit h = refl
open_in too_deep o op stage.Ending txn lead commit h = absurd cc

module _ {S E T P : Type 0} (kinds : Kinds S E) (sees : T → P → List (Call E) → Type 0) (numbers : P → ℕ → Bool) (sites_of parts_of : T → ℕ) (before store : T) (given pass : P) (s : SessionState E) (txn : Txn E) (is_open : s.doing ≡ Open txn) (es : sites_of before ≡ s.sites) (ep : parts_of before ≡ s.parts) (some : 1 ≤ s.parts) where
  txn_of : (run : List (Call E)) → Holds s run → HoldsTxn s.sites s.parts s.name s.site txn run × IsUntried txn.tx run
  txn_of run h = subst (HoldsDoing s.sites s.parts s.name s.site run) is_open h.doing

  allowed_by : (run : List (Call E)) (number : Option ℕ) (at : PartId) (ask : Ask E) → IsAllowed s.sites s.parts run number at ask → IsAllowed (sites_of before) (parts_of before) run number at ask
  allowed_by run number at ask a = subst (λ n. IsAllowed n (parts_of before) run number at ask) (sym es) (subst (λ n. IsAllowed s.sites n run number at ask) (sym ep) a)

  held_number : HoldsNumber (numbers given) s.doing → numbers given txn.by ≡ true
  held_number h = subst (HoldsNumber (numbers given)) is_open h

  placed : (run : List (Call E)) → Holds s run → (o : ObjectId) → IsPlace (sites_of before) (parts_of before) (place_in s (place_of o.bucket o.key s.parts))
  placed run h o = subst (λ n. IsPlace n (parts_of before) (place_in s (place_of o.bucket o.key s.parts))) (sym es) (subst (λ n. IsPlace s.sites n (place_in s (place_of o.bucket o.key s.parts))) (sym ep) (at_place s txn run (txn_of run h).0 o some))

  module _ (o : ObjectId) (own : List (Upd E)) (site part : ℕ) (eo : own ≡ own_updates txn.updates o) (et : site ≡ s.site) (eq : part ≡ place_of o.bucket o.key s.parts) where
    here : PartId
    here = place_in s (place_of o.bucket o.key s.parts)

    asked_at : ◌≡◌ {A = PartId × List (Upd E)} (record { site = site; part = part }, own) (here, own_updates txn.updates o)
    unfolding here
    asked_at = (λ i. (record { site = et i; part = eq i }, eo i))

    pub read_may : Mays sees numbers before given s → MayCall sees numbers (sites_of before) (parts_of before) before given (Some txn.by) (record { site = site; part = part }) (AskRead txn.tx txn.s o own)
    unfolding here
    read_may m =
        let t = txn_of m.run m.holds in
        let good : MayCall sees numbers (sites_of before) (parts_of before) before given (Some txn.by) here (AskRead txn.tx txn.s o (own_updates txn.updates o)) = record {
          place = placed m.run m.holds o;
          held = held_number m.held;
          run = m.run;
          seen = m.seen;
          allowed = allowed_by m.run (Some txn.by) here (AskRead txn.tx txn.s o (own_updates txn.updates o)) (read_allowed s txn m.run t.0 o);
        } in
        subst (λ (w : PartId × List (Upd E)). MayCall sees numbers (sites_of before) (parts_of before) before given (Some txn.by) w.0 (AskRead txn.tx txn.s o w.1)) (sym asked_at) good

    pub read_makes : (who : List ℕ) → who ≡ s.name → ((r : List (Call E)) → sees store pass r → IsLegal kinds s.sites s.parts r) → HoldsNumber (numbers pass) s.doing → (answer : Step) →
        ((run : List (Call E)) → sees before given run → IsAllowed (sites_of before) (parts_of before) run (Some txn.by) (record { site = site; part = part }) (AskRead txn.tx txn.s o own) → who ≡ session_of (entries run) txn.tx → GoesOn sees numbers store pass run (Some txn.by) (record { site = site; part = part }) (AskRead txn.tx txn.s o own) answer) →
        (run : List (Call E)) → sees before given run → Holds s run → MakesRead sees numbers store pass run s s o answer s.doing
    unfolding here
    read_makes who ew legal held answer f run seen h =
        let t = txn_of run h in
        let g = subst
        (λ (w : PartId × List (Upd E)). (r : List (Call E)) → sees before given r → IsAllowed (sites_of before) (parts_of before) r (Some txn.by) w.0 (AskRead txn.tx txn.s o w.1) → who ≡ session_of (entries r) txn.tx → GoesOn sees numbers store pass r (Some txn.by) w.0 (AskRead txn.tx txn.s o w.1) answer)
        asked_at
        f in
        let goes = g run seen (allowed_by run (Some txn.by) here (AskRead txn.tx txn.s o (own_updates txn.updates o)) (read_allowed s txn run t.0 o)) (ew ∙ sym t.0.session) in
        let q = read_quiet (entries (goes.more ++ run)) here goes.event txn.tx txn.s o (own_updates txn.updates o) goes.asked in
        subst (MakesRead sees numbers store pass run s s o answer) (sym is_open) (quiet_makes kinds sees numbers store pass s legal held run h (Some txn.by) here (AskRead txn.tx txn.s o (own_updates txn.updates o)) answer goes q)

    -- the same of a read that waits
    pub read_later : (reads : ℕ → Type 0) (who : List ℕ) → who ≡ s.name → ((r : List (Call E)) → sees store pass r → IsLegal kinds s.sites s.parts r) → HoldsNumber (numbers pass) s.doing → (answer : Step) →
        ((run : List (Call E)) → sees before given run → IsAllowed (sites_of before) (parts_of before) run (Some txn.by) (record { site = site; part = part }) (AskRead txn.tx txn.s o own) → who ≡ session_of (entries run) txn.tx → Later (numbers pass) reads (entry txn.s site) txn.by (record { site = site; part = part }) (AskRead txn.tx txn.s o own) (is_late answer) (λ rest. GoesOn sees numbers store pass rest (Some txn.by) (record { site = site; part = part }) (AskRead txn.tx txn.s o own) answer) run) →
        (run : List (Call E)) → sees before given run → Holds s run → ReadsLater sees numbers reads store pass run s s o answer s.doing
    unfolding here
    read_later reads who ew legal held answer f run seen h =
        let t = txn_of run h in
        let g = subst
        (λ (w : PartId × List (Upd E)). (r : List (Call E)) → sees before given r → IsAllowed (sites_of before) (parts_of before) r (Some txn.by) w.0 (AskRead txn.tx txn.s o w.1) → who ≡ session_of (entries r) txn.tx → Later (numbers pass) reads (entry txn.s w.0.site) txn.by w.0 (AskRead txn.tx txn.s o w.1) (is_late answer) (λ rest. GoesOn sees numbers store pass rest (Some txn.by) w.0 (AskRead txn.tx txn.s o w.1) answer) r)
        asked_at
        f in
        let x = g run seen (allowed_by run (Some txn.by) here (AskRead txn.tx txn.s o (own_updates txn.updates o)) (read_allowed s txn run t.0 o)) (ew ∙ sym t.0.session) in
        subst (ReadsLater sees numbers reads store pass run s s o answer) (sym is_open)
        (goes_later kinds sees numbers store pass s legal held run h reads (entry txn.s s.site) txn.by here (AskRead txn.tx txn.s o (own_updates txn.updates o)) (is_late answer) (Some txn.by) answer (λ rest. MakesRead sees numbers store pass rest s s o answer s.doing)
        (λ rest hr goes.
        let q = read_quiet (entries (goes.more ++ rest)) here goes.event txn.tx txn.s o (own_updates txn.updates o) goes.asked in
        subst (MakesRead sees numbers store pass rest s s o answer) (sym is_open) (quiet_makes kinds sees numbers store pass s legal held rest hr (Some txn.by) here (AskRead txn.tx txn.s o (own_updates txn.updates o)) answer goes q))
        x)

    pub read_waits : (reads : ℕ → Type 0) (who : List ℕ) → who ≡ s.name → ((r : List (Call E)) → sees store pass r → IsLegal kinds s.sites s.parts r) → HoldsNumber (numbers pass) s.doing →
        ((run : List (Call E)) → sees before given run → IsAllowed (sites_of before) (parts_of before) run (Some txn.by) (record { site = site; part = part }) (AskRead txn.tx txn.s o own) → who ≡ session_of (entries run) txn.tx → Later (numbers pass) reads (entry txn.s site) txn.by (record { site = site; part = part }) (AskRead txn.tx txn.s o own) false (λ rest. Stays sees numbers store pass rest) run) →
        (run : List (Call E)) → sees before given run → Holds s run → ReadWaits sees numbers reads store pass run s s o s.doing
    unfolding here
    read_waits reads who ew legal held f run seen h =
        let t = txn_of run h in
        let g = subst
        (λ (w : PartId × List (Upd E)). (r : List (Call E)) → sees before given r → IsAllowed (sites_of before) (parts_of before) r (Some txn.by) w.0 (AskRead txn.tx txn.s o w.1) → who ≡ session_of (entries r) txn.tx → Later (numbers pass) reads (entry txn.s w.0.site) txn.by w.0 (AskRead txn.tx txn.s o w.1) false (λ rest. Stays sees numbers store pass rest) r)
        asked_at
        f in
        let x = g run seen (allowed_by run (Some txn.by) here (AskRead txn.tx txn.s o (own_updates txn.updates o)) (read_allowed s txn run t.0 o)) (ew ∙ sym t.0.session) in
        subst (ReadWaits sees numbers reads store pass run s s o) (sym is_open) (waits_later kinds sees numbers store pass s legal held run h reads (entry txn.s s.site) txn.by here (AskRead txn.tx txn.s o (own_updates txn.updates o)) x)

    -- and what it may be asked
    pub read_wait_may : (who : List ℕ) → who ≡ s.name → Mays sees numbers before given s → (m : MayCall sees numbers (sites_of before) (parts_of before) before given (Some txn.by) (record { site = site; part = part }) (AskRead txn.tx txn.s o own)) × (who ≡ session_of (entries m.run) txn.tx)
    unfolding here
    read_wait_may who ew m =
        let t = txn_of m.run m.holds in
        let good : MayCall sees numbers (sites_of before) (parts_of before) before given (Some txn.by) here (AskRead txn.tx txn.s o (own_updates txn.updates o)) = record {
          place = placed m.run m.holds o;
          held = held_number m.held;
          run = m.run;
          seen = m.seen;
          allowed = allowed_by m.run (Some txn.by) here (AskRead txn.tx txn.s o (own_updates txn.updates o)) (read_allowed s txn m.run t.0 o);
        } in
        subst (λ (w : PartId × List (Upd E)). (k : MayCall sees numbers (sites_of before) (parts_of before) before given (Some txn.by) w.0 (AskRead txn.tx txn.s o w.1)) × (who ≡ session_of (entries k.run) txn.tx)) (sym asked_at) (good, ew ∙ sym t.0.session)

    -- what the store tells of the call in a run that allows it
    pub read_tells : (tells : T → T → PartId → Step → Type 0) (who : List ℕ) → who ≡ s.name → (answer : Step) →
        ((run : List (Call E)) → sees before given run → IsAllowed (sites_of before) (parts_of before) run (Some txn.by) (record { site = site; part = part }) (AskRead txn.tx txn.s o own) → who ≡ session_of (entries run) txn.tx → tells before store (record { site = site; part = part }) answer) →
        Mays sees numbers before given s → tells before store (place_in s (place_of o.bucket o.key s.parts)) answer
    unfolding here
    read_tells tells who ew answer f m =
        let t = txn_of m.run m.holds in
        let g = subst
        (λ (w : PartId × List (Upd E)). (r : List (Call E)) → sees before given r → IsAllowed (sites_of before) (parts_of before) r (Some txn.by) w.0 (AskRead txn.tx txn.s o w.1) → who ≡ session_of (entries r) txn.tx → tells before store w.0 answer)
        asked_at
        f in
        g m.run m.seen (allowed_by m.run (Some txn.by) here (AskRead txn.tx txn.s o (own_updates txn.updates o)) (read_allowed s txn m.run t.0 o)) (ew ∙ sym t.0.session)

    module _ (op : Op) where
      pub update_tells : (tells : T → T → PartId → Step → Type 0) (who : List ℕ) (index : ℕ) → who ≡ s.name → index ≡ length txn.updates + 1 → (answer : Step) →
          ((run : List (Call E)) → sees before given run → IsAllowed (sites_of before) (parts_of before) run (Some txn.by) (record { site = site; part = part }) (AskUpdate txn.tx txn.s o own op) → who ≡ session_of (entries run) txn.tx → index ≡ update_count (entries run) txn.tx + 1 → tells before store (record { site = site; part = part }) answer) →
          Mays sees numbers before given s → tells before store (place_in s (place_of o.bucket o.key s.parts)) answer
      unfolding here
      update_tells tells who index ew ei answer f m =
          let t = txn_of m.run m.holds in
          let g = subst
          (λ (w : PartId × List (Upd E)). (r : List (Call E)) → sees before given r → IsAllowed (sites_of before) (parts_of before) r (Some txn.by) w.0 (AskUpdate txn.tx txn.s o w.1 op) → who ≡ session_of (entries r) txn.tx → index ≡ update_count (entries r) txn.tx + 1 → tells before store w.0 answer)
          asked_at
          f in
          g m.run m.seen (allowed_by m.run (Some txn.by) here (AskUpdate txn.tx txn.s o (own_updates txn.updates o) op) (update_allowed s txn m.run t.0 o op t.1)) (ew ∙ sym t.0.session) (ei ∙ ap (λ n. n + 1) (sym t.0.count))

      pub update_may : Mays sees numbers before given s → MayCall sees numbers (sites_of before) (parts_of before) before given (Some txn.by) (record { site = site; part = part }) (AskUpdate txn.tx txn.s o own op)
      unfolding here
      update_may m =
          let t = txn_of m.run m.holds in
          let good : MayCall sees numbers (sites_of before) (parts_of before) before given (Some txn.by) here (AskUpdate txn.tx txn.s o (own_updates txn.updates o) op) = record {
            place = placed m.run m.holds o;
            held = held_number m.held;
            run = m.run;
            seen = m.seen;
            allowed = allowed_by m.run (Some txn.by) here (AskUpdate txn.tx txn.s o (own_updates txn.updates o) op) (update_allowed s txn m.run t.0 o op t.1);
          } in
          subst (λ (w : PartId × List (Upd E)). MayCall sees numbers (sites_of before) (parts_of before) before given (Some txn.by) w.0 (AskUpdate txn.tx txn.s o w.1 op)) (sym asked_at) good

      pub update_wait_may : (who : List ℕ) (index : ℕ) → who ≡ s.name → index ≡ length txn.updates + 1 → Mays sees numbers before given s → (m : MayCall sees numbers (sites_of before) (parts_of before) before given (Some txn.by) (record { site = site; part = part }) (AskUpdate txn.tx txn.s o own op)) × (who ≡ session_of (entries m.run) txn.tx) × (index ≡ update_count (entries m.run) txn.tx + 1)
      unfolding here
      update_wait_may who index ew ei m =
          let t = txn_of m.run m.holds in
          let good : MayCall sees numbers (sites_of before) (parts_of before) before given (Some txn.by) here (AskUpdate txn.tx txn.s o (own_updates txn.updates o) op) = record {
            place = placed m.run m.holds o;
            held = held_number m.held;
            run = m.run;
            seen = m.seen;
            allowed = allowed_by m.run (Some txn.by) here (AskUpdate txn.tx txn.s o (own_updates txn.updates o) op) (update_allowed s txn m.run t.0 o op t.1);
          } in
          subst (λ (w : PartId × List (Upd E)). (k : MayCall sees numbers (sites_of before) (parts_of before) before given (Some txn.by) w.0 (AskUpdate txn.tx txn.s o w.1 op)) × (who ≡ session_of (entries k.run) txn.tx) × (index ≡ update_count (entries k.run) txn.tx + 1)) (sym asked_at) (good, ew ∙ sym t.0.session, ei ∙ ap (λ n. n + 1) (sym t.0.count))

      module _ (legal : (r : List (Call E)) → sees store pass r → IsLegal kinds s.sites s.parts r) (held : HoldsNumber (numbers pass) s.doing) (answer : Step) (made : Option E) (run : List (Call E)) (h : Holds s run) (c : Changes sees numbers store pass run txn.by here (AskUpdate txn.tx txn.s o (own_updates txn.updates o) op) answer made) where
        quiet_at : made ≡ None → MakesUpdate sees numbers store pass run s s o op answer s.doing
        unfolding here
        quiet_at e =
            let q = update_quiet (entries (c.goes.more ++ run)) here c.goes.event txn.tx txn.s o (own_updates txn.updates o) op c.goes.asked (sym e ∙ c.effect) in
            subst (MakesUpdate sees numbers store pass run s s o op answer) (sym is_open) (quiet_makes kinds sees numbers store pass s legal held run h (Some txn.by) here (AskUpdate txn.tx txn.s o (own_updates txn.updates o) op) answer c.goes q)

        same_at : made ≡ None → IsUpdated s o answer s
        same_at e = not_updated s o answer (ap is_done_step c.goes.shows ∙ none_undone (entries (c.goes.more ++ run)) here c.goes.event txn.tx txn.s o (own_updates txn.updates o) op c.goes.asked (sym e ∙ c.effect))

        module _ (effect : E) (is : made ≡ Some effect) where
          made_same_at : IsUpdated s o answer (doing_so s (updated s.doing o effect))
          made_same_at =
              let e = update_made (entries (c.goes.more ++ run)) here c.goes.event txn.tx txn.s o (own_updates txn.updates o) op effect c.goes.asked (sym is ∙ c.effect) in
              subst (λ a. IsUpdated s o a (doing_so s (updated s.doing o effect))) (sym (c.goes.shows ∙ ap (step_shown (entries (c.goes.more ++ run)) here) e.3)) (effect, refl)

          made_at : MakesUpdate sees numbers store pass run s (doing_so s (updated s.doing o effect)) o op answer s.doing
          unfolding here
          made_at =
              let base = c.goes.more ++ run in
              let e = update_made (entries base) here c.goes.event txn.tx txn.s o (own_updates txn.updates o) op effect c.goes.asked (sym is ∙ c.effect) in
              let a = goes_apart kinds sees numbers store pass s legal held run h (Some txn.by) here (AskUpdate txn.tx txn.s o (own_updates txn.updates o) op) answer c.goes in
              let k = goes_holds kinds sees numbers store pass s legal held run h (Some txn.by) here (AskUpdate txn.tx txn.s o (own_updates txn.updates o) op) answer c.goes in
              let t = txn_of base k in
              let l = subst (λ x. IsLegal kinds s.sites s.parts (called c.goes.by here x ∷ base)) e.3 (legal _ c.goes.seen) in
              let d = updated_holds kinds s txn base t.0 t.1 c.goes.by o (own_updates txn.updates o) op e.0 e.1 e.2 effect e.4 l in
              let doing : s.doing ≡ Open txn = is_open in
              subst (λ x. MakesUpdate sees numbers store pass run s (doing_so s (updated s.doing o effect)) o op answer x) (sym doing) (record {
                goes = c.goes;
                apart = a;
                holds = record {
                  known = known_next s.sites (called c.goes.by here c.goes.event) base s.dependency k.known;
                  width = h.width;
                  doing = subst (λ x. HoldsDoing s.sites s.parts s.name s.site (called c.goes.by here c.goes.event ∷ base) (updated x o effect)) (sym doing) (subst (λ x. HoldsDoing s.sites s.parts s.name s.site (called c.goes.by here x ∷ base) (Open (with_update txn o effect))) (sym e.3) d);
                };
                held = subst (λ x. HoldsNumber (numbers pass) (updated x o effect)) (sym doing) (subst (HoldsNumber (numbers pass)) doing held);
              })

      module _ (who : List ℕ) (index : ℕ) (ew : who ≡ s.name) (ei : index ≡ length txn.updates + 1) (legal : (r : List (Call E)) → sees store pass r → IsLegal kinds s.sites s.parts r) (held : HoldsNumber (numbers pass) s.doing) where
        module _ (answer : Step) (made : Option E)
            (f : (run : List (Call E)) → sees before given run → IsAllowed (sites_of before) (parts_of before) run (Some txn.by) (record { site = site; part = part }) (AskUpdate txn.tx txn.s o own op) → who ≡ session_of (entries run) txn.tx → index ≡ update_count (entries run) txn.tx + 1 → Changes sees numbers store pass run txn.by (record { site = site; part = part }) (AskUpdate txn.tx txn.s o own op) answer made) where
          changes : (run : List (Call E)) → sees before given run → Holds s run → Changes sees numbers store pass run txn.by here (AskUpdate txn.tx txn.s o (own_updates txn.updates o) op) answer made
          unfolding here
          changes run seen h =
              let t = txn_of run h in
              let g = subst
              (λ (w : PartId × List (Upd E)). (r : List (Call E)) → sees before given r → IsAllowed (sites_of before) (parts_of before) r (Some txn.by) w.0 (AskUpdate txn.tx txn.s o w.1 op) → who ≡ session_of (entries r) txn.tx → index ≡ update_count (entries r) txn.tx + 1 → Changes sees numbers store pass r txn.by w.0 (AskUpdate txn.tx txn.s o w.1 op) answer made)
              asked_at
              f in
              g run seen (allowed_by run (Some txn.by) here (AskUpdate txn.tx txn.s o (own_updates txn.updates o) op) (update_allowed s txn run t.0 o op t.1)) (ew ∙ sym t.0.session) (ei ∙ ap (λ n. n + 1) (sym t.0.count))

          -- no effect was made
          pub unmade_quiet : made ≡ None → (run : List (Call E)) → sees before given run → Holds s run → MakesUpdate sees numbers store pass run s s o op answer s.doing
          unmade_quiet e run seen h = quiet_at legal held answer made run h (changes run seen h) e

          pub unmade_same : made ≡ None → Mays sees numbers before given s → IsUpdated s o answer s
          unmade_same e m = same_at legal held answer made m.run m.holds (changes m.run m.seen m.holds) e

          module _ (effect : E) (is : made ≡ Some effect) where
            pub made_same : Mays sees numbers before given s → IsUpdated s o answer (doing_so s (updated s.doing o effect))
            made_same m = made_same_at legal held answer made m.run m.holds (changes m.run m.seen m.holds) effect is

            pub made_makes : (run : List (Call E)) → sees before given run → Holds s run → MakesUpdate sees numbers store pass run s (doing_so s (updated s.doing o effect)) o op answer s.doing
            made_makes run seen h = made_at legal held answer made run h (changes run seen h) effect is

        -- the same of one that waits
        module _ (reads : ℕ → Type 0) (answer : Step) (made : Option E)
            (f : (run : List (Call E)) → sees before given run → IsAllowed (sites_of before) (parts_of before) run (Some txn.by) (record { site = site; part = part }) (AskUpdate txn.tx txn.s o own op) → who ≡ session_of (entries run) txn.tx → index ≡ update_count (entries run) txn.tx + 1 → Later (numbers pass) reads (entry txn.s site) txn.by (record { site = site; part = part }) (AskUpdate txn.tx txn.s o own op) (is_late answer) (λ rest. Changes sees numbers store pass rest txn.by (record { site = site; part = part }) (AskUpdate txn.tx txn.s o own op) answer made) run) where
          changed : (run : List (Call E)) → sees before given run → Holds s run → Later (numbers pass) reads (entry txn.s s.site) txn.by here (AskUpdate txn.tx txn.s o (own_updates txn.updates o) op) (is_late answer) (λ rest. Changes sees numbers store pass rest txn.by here (AskUpdate txn.tx txn.s o (own_updates txn.updates o) op) answer made) run
          unfolding here
          changed run seen h =
              let t = txn_of run h in
              let g = subst
              (λ (w : PartId × List (Upd E)). (r : List (Call E)) → sees before given r → IsAllowed (sites_of before) (parts_of before) r (Some txn.by) w.0 (AskUpdate txn.tx txn.s o w.1 op) → who ≡ session_of (entries r) txn.tx → index ≡ update_count (entries r) txn.tx + 1 → Later (numbers pass) reads (entry txn.s w.0.site) txn.by w.0 (AskUpdate txn.tx txn.s o w.1 op) (is_late answer) (λ rest. Changes sees numbers store pass rest txn.by w.0 (AskUpdate txn.tx txn.s o w.1 op) answer made) r)
              asked_at
              f in
              g run seen (allowed_by run (Some txn.by) here (AskUpdate txn.tx txn.s o (own_updates txn.updates o) op) (update_allowed s txn run t.0 o op t.1)) (ew ∙ sym t.0.session) (ei ∙ ap (λ n. n + 1) (sym t.0.count))

          -- what it comes to in each run
          comes : (Goes : List (Call E) → Type 0) → ((rest : List (Call E)) → Holds s rest → Changes sees numbers store pass rest txn.by here (AskUpdate txn.tx txn.s o (own_updates txn.updates o) op) answer made → Goes rest) → (run : List (Call E)) → sees before given run → Holds s run → Later (numbers pass) reads (entry txn.s s.site) txn.by here (AskUpdate txn.tx txn.s o (own_updates txn.updates o) op) (is_late answer) Goes run
          unfolding here
          comes Goes k run seen h = changes_later kinds sees numbers store pass s legal held run h reads (entry txn.s s.site) txn.by here (AskUpdate txn.tx txn.s o (own_updates txn.updates o) op) (is_late answer) txn.by answer made Goes k (changed run seen h)

          pub unmade_later : made ≡ None → (run : List (Call E)) → sees before given run → Holds s run → UpdatesLater sees numbers reads store pass run s s o op answer s.doing
          unfolding here
          unmade_later e run seen h = subst (UpdatesLater sees numbers reads store pass run s s o op answer) (sym is_open) (comes (λ rest. MakesUpdate sees numbers store pass rest s s o op answer s.doing) (λ rest hr c. quiet_at legal held answer made rest hr c e) run seen h)

          pub unmade_later_same : made ≡ None → Mays sees numbers before given s → IsUpdated s o answer s
          unmade_later_same e m = (comes (λ rest. IsUpdated s o answer s) (λ rest hr c. same_at legal held answer made rest hr c e) m.run m.seen m.holds).goes

          module _ (effect : E) (is : made ≡ Some effect) where
            pub made_later_same : Mays sees numbers before given s → IsUpdated s o answer (doing_so s (updated s.doing o effect))
            made_later_same m = (comes (λ rest. IsUpdated s o answer (doing_so s (updated s.doing o effect))) (λ rest hr c. made_same_at legal held answer made rest hr c effect is) m.run m.seen m.holds).goes

            pub made_later : (run : List (Call E)) → sees before given run → Holds s run → UpdatesLater sees numbers reads store pass run s (doing_so s (updated s.doing o effect)) o op answer s.doing
            unfolding here
            made_later run seen h = subst (UpdatesLater sees numbers reads store pass run s (doing_so s (updated s.doing o effect)) o op answer) (sym is_open) (comes (λ rest. MakesUpdate sees numbers store pass rest s (doing_so s (updated s.doing o effect)) o op answer s.doing) (λ rest hr c. made_at legal held answer made rest hr c effect is) run seen h)

        pub update_waits : (reads : ℕ → Type 0) →
            ((run : List (Call E)) → sees before given run → IsAllowed (sites_of before) (parts_of before) run (Some txn.by) (record { site = site; part = part }) (AskUpdate txn.tx txn.s o own op) → who ≡ session_of (entries run) txn.tx → index ≡ update_count (entries run) txn.tx + 1 → Later (numbers pass) reads (entry txn.s site) txn.by (record { site = site; part = part }) (AskUpdate txn.tx txn.s o own op) false (λ rest. Stays sees numbers store pass rest) run) →
            (run : List (Call E)) → sees before given run → Holds s run → UpdateWaits sees numbers reads store pass run s s o op s.doing
        unfolding here
        update_waits reads f run seen h =
            let t = txn_of run h in
            let g = subst
            (λ (w : PartId × List (Upd E)). (r : List (Call E)) → sees before given r → IsAllowed (sites_of before) (parts_of before) r (Some txn.by) w.0 (AskUpdate txn.tx txn.s o w.1 op) → who ≡ session_of (entries r) txn.tx → index ≡ update_count (entries r) txn.tx + 1 → Later (numbers pass) reads (entry txn.s w.0.site) txn.by w.0 (AskUpdate txn.tx txn.s o w.1 op) false (λ rest. Stays sees numbers store pass rest) r)
            asked_at
            f in
            let x = g run seen (allowed_by run (Some txn.by) here (AskUpdate txn.tx txn.s o (own_updates txn.updates o) op) (update_allowed s txn run t.0 o op t.1)) (ew ∙ sym t.0.session) (ei ∙ ap (λ n. n + 1) (sym t.0.count)) in
            subst (UpdateWaits sees numbers reads store pass run s s o op) (sym is_open) (waits_later kinds sees numbers store pass s legal held run h reads (entry txn.s s.site) txn.by here (AskUpdate txn.tx txn.s o (own_updates txn.updates o) op) x)

module _ {E : Type 0} where
  pub is_opened : (too_deep : Kind → List Field → Bool) (o : ObjectId) (op : Op) (u s : SessionState E) → u ≡ s → (k : Stage) (txn : Txn E) (lead : ℕ) (commit : Committing) → u.doing ≡ doing_in k txn lead commit → None ≡ update_refusal too_deep s.doing o op → k ≡ stage.Open
  is_opened too_deep o op u s v k txn lead commit d h = open_in too_deep o op k txn lead commit (h ∙ ap (λ x. update_refusal too_deep x o op) (sym (ap (λ (w : SessionState E). w.doing) v) ∙ d))

  pub doing_open : (u s : SessionState E) → u ≡ s → (k : Stage) (txn : Txn E) (lead : ℕ) (commit : Committing) → u.doing ≡ doing_in k txn lead commit → k ≡ stage.Open → s.doing ≡ Open txn
  doing_open u s v k txn lead commit d e = sym (ap (λ (w : SessionState E). w.doing) v) ∙ (d ∙ ap (λ x. doing_in x txn lead commit) e)

  pub pushed_is : (u s : SessionState E) → u ≡ s → (txn : Txn E) → s.doing ≡ Open txn → (o : ObjectId) (effect : E) (k : Stage) (us : List (Upd E)) (lead : ℕ) (commit : Committing) → k ≡ stage.Open → us ≡ txn.updates ++ (record { object = o; index = length txn.updates + 1; effect = effect }) ∷ [] → doing_so u (doing_in k (record { tx = txn.tx; s = txn.s; by = txn.by; updates = us }) lead commit) ≡ doing_so s (updated s.doing o effect)
  pushed_is u s v txn od o effect k us lead commit e l =
      let d : doing_in k (record { tx = txn.tx; s = txn.s; by = txn.by; updates = us }) lead commit ≡ Open (with_update txn o effect) = (λ i. doing_in (e i) (record { tx = txn.tx; s = txn.s; by = txn.by; updates = l i }) lead commit) in
      let w = d ∙ sym (ap (λ x. updated x o effect) od) in
      (λ i. doing_so (v i) (w i))

  pub stage_is : (u s : SessionState E) → u ≡ s → (txn : Txn E) (k : Stage) (us : List (Upd E)) (lead : ℕ) (commit : Committing) → u.doing ≡ doing_in k txn lead commit → us ≡ txn.updates → doing_so u (doing_in k (record { tx = txn.tx; s = txn.s; by = txn.by; updates = us }) lead commit) ≡ s
  stage_is u s v txn k us lead commit d l = (λ i. doing_so u (doing_in k (record { tx = txn.tx; s = txn.s; by = txn.by; updates = l i }) lead commit)) ∙ (ap (λ x. doing_so u x) (sym d) ∙ v)
