-- Transactions that began with a stable snapshot wait at no partition.
use Rattle.std.proofs.Common.{◌≡◌, ⊎_elim, inl, inr, ℕ, ◌≤◌, true, false, List, [], ◌∷◌, sym, ap, ◌∙◌, subst, arith, le_trans}
use Rattle.std.proofs.lemmas.Bool.{cases_Bool, cond-true, cond-false, false_from_ne_true}
use Rattle.site_vector.specs.declared.ids.PartId.{PartId}
use Rattle.site_vector.specs.declared.ids.TxId.{TxId}
use Rattle.site_vector.specs.Ids.{same_tx}
use Rattle.site_vector.specs.Order.{same_tx_is}
use Rattle.site_vector.specs.Vector.{entry}
use Rattle.crdt_core.specs.declared.object.ObjectId.{ObjectId}
use Rattle.crdt_core.specs.KindsOf.{Kinds}
use Rattle.world_model.specs.lines.Lines.{Wish}
use Rattle.world_model.specs.lines.Places.{IsPlace, home}
use Rattle.world_model.specs.rules.Event.{AskRead, AskUpdate, AskPrepare, ClockBehind, TxPending, Event, Began, Refused, Entry, WasShown, attempt}
use Rattle.world_model.specs.rules.Partition.{PartState, IsReady, PartStep}
use Rattle.world_model.specs.rules.Plan.{Plan, IsAllowed, IsSession}
use Rattle.world_model.specs.events.Waits.{stable_by, began_stable, WaitsFresh, WaitFresh}
use Rattle.world_model.proofs.Runs.{IsPlanned, IsRun}
use Rattle.world_model.proofs.Intervals.{shown_has}
use Rattle.world_model.proofs.Completeness.{stable_told, stable_ready}
use Rattle.world_model.proofs.Upheld.{Upheld, law_plan}

module _ {E : Type 0} where
  -- it began so
  record StableBegin (run : List (Entry E)) (t : TxId) : Type 0 where
    pub who : List ℕ
    pub wish : Wish
    pub s : List ℕ
    pub was : WasShown run (home t) (Began who wish t s)
    pub stable : wish.stable ≡ true

  more_begun : (e : Entry E) (run : List (Entry E)) (t : TxId) → StableBegin run t → StableBegin (e ∷ run) t
  more_begun e run t b = record { who = b.who; wish = b.wish; s = b.s; was = inr b.was; stable = b.stable }

  begun_here : {S : Type 0} (kinds : Kinds S E) (sites parts : ℕ) (at : PartId) (p q : PartState E) (run : List (Entry E)) (t : TxId) (event : Event E) → PartStep kinds sites parts at p event q → (began_stable run t ≡ true → StableBegin run t) → stable_by t (began_stable run t) event ≡ true → StableBegin ((record { at = at; event = event }) ∷ run) t
  begun_here kinds sites parts at p q run t (Began who wish u s) st ih h = ⊎_elim
      (λ (x : same_tx u t ≡ true).
      let same : u ≡ t = same_tx_is u t x in record {
        who = who;
        wish = wish;
        s = s;
        was = inl (sym (subst (λ y. home y ≡ at) same (ap home st.1.named)), ap (λ y. Began who wish y s) same);
        stable = sym (cond-true (same_tx u t) wish.stable (began_stable run t) x) ∙ h;
      })
      (λ (x : same_tx u t ≡ false). more_begun (record { at = at; event = Began who wish u s }) run t (ih (sym (cond-false (same_tx u t) wish.stable (began_stable run t) x) ∙ h)))
      (cases_Bool (same_tx u t))
  begun_here kinds sites parts at p q run t event st ih h = more_begun (record { at = at; event = event }) run t (ih h)

  stable_begin : {S : Type 0} (kinds : Kinds S E) (plan : Plan E) (run : List (Entry E)) (parts : PartId → PartState E) → IsRun kinds plan run parts → (t : TxId) → began_stable run t ≡ true → StableBegin run t
  stable_begin kinds plan [] parts r t h = absurd (cc h)
  stable_begin kinds plan (e ∷ run) parts r t h = begun_here kinds plan.sites plan.parts e.at (r.0 e.at) (parts e.at) run t e.event r.2.step (λ k. stable_begin kinds plan run r.0 r.1 t k) h

  module _ {S : Type 0} (kinds : Kinds S E) (plan : Plan E) (run : List (Entry E)) (parts : PartId → PartState E) (r : IsRun kinds plan run parts) (k : Upheld kinds plan run parts) (p : PartId) (place : IsPlace plan.sites plan.parts p) where
    session : (t : TxId) (s : List ℕ) (al : IsSession run p t s) (b : StableBegin run t) → b.s ≡ s
    session t s al b = shown_has (IsPlanned plan) run (home t) (Began b.who b.wish t b.s) k.planned b.was ∙ sym (shown_has (IsPlanned plan) run (home t) (Began al.who al.dependency t s) k.planned al.begun)

    abbrev asked_so : (t : TxId) (s : List ℕ) (al : IsSession run p t s) (b : StableBegin run t) → IsSession run p t b.s
    asked_so t s al b = record { site = al.site; who = b.who; dependency = b.wish; begun = b.was }

    -- the clock has come to its snapshot
    reached : (t : TxId) (s : List ℕ) (al : IsSession run p t s) → began_stable run t ≡ true → entry s p.site ≤ (parts p).now
    reached t s al h =
        let b = stable_begin kinds plan run parts r t h in
        subst (λ v. entry v p.site ≤ (parts p).now) (session t s al b) (le_trans (stable_told plan run parts k.bounds p place t b.s (asked_so t s al b) b.stable) (k.intervals.seen p))

    -- so it is ready at each partition of its site, under the snapshot that is asked with
    ready : (t : TxId) (s : List ℕ) (al : IsSession run p t s) → began_stable run t ≡ true → (o : ObjectId) → IsReady p (parts p) s o
    ready t s al h o =
        let b = stable_begin kinds plan run parts r t h in
        subst (λ v. IsReady p (parts p) v o) (session t s al b) (stable_ready plan run parts k.intervals k.bounds p place t b.s (asked_so t s al b) b.stable o)

    waits_event : (q : PartState E) (event : Event E) → IsAllowed plan run parts p (attempt event) → PartStep kinds plan.sites plan.parts p (parts p) event q → WaitsFresh run event
    waits_event q (Refused (AskRead t s o own) (ClockBehind n)) al st = false_from_ne_true _ (λ h. let c = (ready t s al.0 h o).clock in let n = st.0.1.1 in let e = st.0.1.0 in absurd (omega arith))
    waits_event q (Refused (AskRead t s o own) (TxPending u n)) al st = false_from_ne_true _ (λ h. let c = (ready t s al.0 h o).free u st.0.1.waiting st.0.1.changes in let e = st.0.1.time in let m = st.0.1.early in absurd (omega arith))
    waits_event q (Refused (AskUpdate t s o own op) (ClockBehind n)) al st = false_from_ne_true _ (λ h. let c = (ready t s al.0 h o).clock in let n = st.0.1.2 in let e = st.0.1.1 in absurd (omega arith))
    waits_event q (Refused (AskUpdate t s o own op) (TxPending u n)) al st = false_from_ne_true _ (λ h. let x = st.0.1.1 in let c = (ready t s al.0 h o).free u x.waiting x.changes in let e = x.time in let m = x.early in absurd (omega arith))
    waits_event q (Refused (AskPrepare t s l w) (ClockBehind n)) al st = false_from_ne_true _ (λ h. let c = reached t s al.0 h in let n = st.0.1.1 in let e = st.0.1.0 in absurd (omega arith))
    waits_event q event al st = tt

  pub wait_fresh : {S : Type 0} (kinds : Kinds S E) (plan : Plan E) (run : List (Entry E)) (parts : PartId → PartState E) → IsRun kinds plan run parts → WaitFresh run
  wait_fresh kinds plan [] parts r = tt
  wait_fresh kinds plan (e ∷ run) parts r = (waits_event kinds plan run r.0 r.1 (law_plan kinds plan run r.0 r.1) e.at r.2.place (parts e.at) e.event r.2.allowed r.2.step, wait_fresh kinds plan run r.0 r.1)
