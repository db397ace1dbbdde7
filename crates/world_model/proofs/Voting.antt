-- Votes and decisions are as the rules have them, and a commit vector stays.
use Rattle.std.proofs.Common.{◌≡◌, ⊎_elim, true, List, [], ◌∷◌, ◌∙◌}
use Rattle.std.proofs.lemmas.Bool.{or_left, or_right, or_cases, false_from_ne_true}
use Rattle.site_vector.specs.declared.ids.PartId.{PartId}
use Rattle.site_vector.specs.declared.ids.TxId.{TxId}
use Rattle.site_vector.specs.Order.{same_tx_refl}
use Rattle.crdt_core.specs.Log.{prepared, committed, pending}
use Rattle.world_model.specs.rules.Event.{Event, Prepared, Decided, Finished, Cut, Entry, attempt, EventsAre, is_decided}
use Rattle.crdt_core.specs.KindsOf.{Kinds}
use Rattle.world_model.specs.rules.Partition.{PartState, PartStep}
use Rattle.world_model.specs.rules.Plan.{Plan, commit_vector, IsAllowed}
use Rattle.world_model.proofs.Runs.{IsRun}
use Rattle.world_model.specs.events.Commit.{VotesAt, KeepVotes, ShowsVector, IsAgreed}
use Rattle.world_model.proofs.Names.{clash}
use Rattle.world_model.proofs.Moves.{moved, image_log}
use Rattle.world_model.proofs.Fate.{Fate, fate_step, voted_tried, pending_parts}
use Rattle.world_model.proofs.Leases.{rises, one_image}
use Rattle.world_model.proofs.Later.{full_now}
use Rattle.world_model.proofs.Intervals.{same_commit, events_map}
use Rattle.world_model.proofs.Upheld.{Upheld, law_plan}

module _ {E : Type 0} where
  vote_event : {S : Type 0} (kinds : Kinds S E) (plan : Plan E) (run : List (Entry E)) (before : PartId → PartState E) (at : PartId) (q : PartState E) (event : Event E) → Fate plan run before → IsAllowed plan run before at (attempt event) → PartStep kinds plan.sites plan.parts at (before at) event q → VotesAt plan run at event
  vote_event kinds plan run before at q (Prepared t s l w n) f al st = record { takes = al.takes; fresh = false_from_ne_true _ (λ v. clash (voted_tried run t at v) al.fresh); after_lead = al.after_lead }
  vote_event kinds plan run before at q (Decided t c) f al st = record { lead = al.lead; here = al.here; once = al.once; all = al.all }
  vote_event kinds plan run before at q (Cut (Decided t c)) f al st = record { lead = al.lead; here = al.here; once = al.once; all = al.all }
  vote_event kinds plan run before at q (Cut a) f al st = tt
  vote_event kinds plan run before at q (Finished t c) f al st =
      let log = (before at).log in
      let i = image_log (before at) in
      let here : prepared log t ≡ true = ⊎_elim (λ (k : pending log t ≡ true). (pending_parts log t k).prepared) (λ (k : committed log t ≡ true). f.first at log t i k) (or_cases _ _ st.1) in
      (f.part at t (f.was_tried at log t i here), al.decided)
  vote_event kinds plan run before at q event f al st = tt

  pub vote_events : {S : Type 0} (kinds : Kinds S E) (plan : Plan E) (run : List (Entry E)) (parts : PartId → PartState E) → IsRun kinds plan run parts → KeepVotes plan run
  vote_events kinds plan [] parts r = tt
  vote_events kinds plan (e ∷ run) parts r = (vote_event kinds plan run r.0 e.at (parts e.at) e.event (law_plan kinds plan run r.0 r.1).fate r.2.allowed r.2.step, vote_events kinds plan run r.0 r.1)

  vector_now : (plan : Plan E) (run : List (Entry E)) (before : PartId → PartState E) (at : PartId) (event : Event E) → IsAllowed plan run before at (attempt event) → ShowsVector plan ((record { at = at; event = event }) ∷ run) at event
  vector_now plan run before at (Decided t c) al = (or_left _ _ (same_tx_refl t), al.vector)
  vector_now plan run before at event al = tt

  module _ {S : Type 0} (kinds : Kinds S E) (plan : Plan E) where
    pub vectors : (run : List (Entry E)) (parts : PartId → PartState E) → IsRun kinds plan run parts → EventsAre (ShowsVector plan run) run
    vectors [] parts r = tt
    vectors (e ∷ run) parts r =
        let before = r.0 in
        let w = r.2 in
        let k = law_plan kinds plan run before r.1 in
        let mv = moved kinds plan run before parts e.at e.event w.allowed w.step w.others in
        let f' = fate_step plan run before parts e.at e.event mv k.fate (λ p m u i. one_image kinds plan.sites plan.parts run before parts e.at e.event w.step w.others k.leases p m u i) in
        let rise = rises kinds plan.sites plan.parts run before parts e.at e.event w.step w.others k.leases in
        let same : (t : TxId) → is_decided run t ≡ true → commit_vector plan run t ≡ commit_vector plan (e ∷ run) t = λ t h. same_commit kinds plan run before parts e.at e.event w.step mv k.fate f' rise k.intervals t h in
        (vector_now plan run before e.at e.event w.allowed, events_map (ShowsVector plan run) (ShowsVector plan (e ∷ run)) (kept_vector run e same) run (vectors run before r.1))
      where
        kept_vector : (run : List (Entry E)) (e : Entry E) → ((t : TxId) → is_decided run t ≡ true → commit_vector plan run t ≡ commit_vector plan (e ∷ run) t) → (p : PartId) (a : Event E) → ShowsVector plan run p a → ShowsVector plan (e ∷ run) p a
        kept_vector run e same p (Decided t c) x = (or_right _ _ x.0, x.1 ∙ same t x.0)
        kept_vector run e same p a x = tt

  pub agreed : {S : Type 0} (kinds : Kinds S E) (plan : Plan E) (run : List (Entry E)) (parts : PartId → PartState E) → Upheld kinds plan run parts → (t : TxId) → is_decided run t ≡ true → IsAgreed plan run t
  agreed kinds plan run parts k t h =
      let all = full_now plan run parts k.fate t h in
      record { lead = k.fate.part (plan.lead t) t (voted_tried run t (plan.lead t) all.lead); all = all.all }
