-- What a partition's next call may rest on, in any run of the world.
use Rattle.std.proofs.Common.{◌≡◌, ⊎_elim, ℕ, true, false, ◌||◌, List, [], ◌∷◌, Option, sym, ap, ◌∙◌, subst, arith}
use Rattle.std.proofs.lemmas.Bool.{or_left, or_right, or_cases, and_parts, false_from_ne_true}
use Rattle.site_vector.specs.declared.ids.PartId.{PartId}
use Rattle.site_vector.specs.declared.ids.TxId.{TxId}
use Rattle.site_vector.specs.Ids.{same_tx}
use Rattle.site_vector.specs.Order.{same_tx_is}
use Rattle.crdt_core.specs.declared.record.Message.{Message}
use Rattle.crdt_core.specs.declared.record.Record.{Record}
use Rattle.crdt_core.specs.KindsOf.{Kinds}
use Rattle.world_model.specs.lines.Lines.{Wish}
use Rattle.crdt_core.specs.Parts.{lists}
use Rattle.crdt_core.specs.Log.{prepared, pending, committed}
use Rattle.world_model.specs.rules.Event.{AskRead, AskUpdate, AskPrepare, Event, Began, Updated, Read, Prepared, Decided, Finished, Aborted, Sent, Took, Restarted, Refused, Cut, Entry, attempt, voted, is_decided, WasShown, sent_count}
use Rattle.world_model.specs.lines.Listed.{is_named, names_pending}
use Rattle.world_model.specs.rules.Partition.{PartState, Finds, IsMessage, PartStep}
use Rattle.world_model.specs.rules.Plan.{Plan, takes_part, IsAllowed, MayTake}
use Rattle.world_model.specs.lines.Places.{home, twin}
use Rattle.world_model.specs.rules.World.{begun, lead_of, plan_of, IsWorldRun}
use Rattle.world_model.specs.rules.Premises.{names, is_told_of, Premises}
use Rattle.world_model.proofs.Names.{clash, off}
use Rattle.world_model.proofs.Moves.{image_log, last_is_decided}
use Rattle.world_model.proofs.Fate.{pending_parts, voted_tried, decided_committed}
use Rattle.world_model.proofs.Later.{full_now}
use Rattle.world_model.proofs.Intervals.{numbered_shown}
use Rattle.world_model.proofs.Upheld.{Upheld, law_plan}
use Rattle.world_model.proofs.Fitted.{good_run, named_good, unheld}
use Rattle.world_model.proofs.Whole.{suffix_all, all_fresh, world_leases, fits, part_begun, tried_begun, begun_time, shown_begun}
use Rattle.world_model.proofs.Law.{upheld_here, plan_fits}

module _ {E : Type 0} where
  shown_told : (run : List (Entry E)) (p : PartId) (event : Event E) (t : TxId) → WasShown run p event → names event t ≡ true → is_told_of run t ≡ true
  shown_told [] p event t w h = absurd w
  shown_told (e ∷ run) p event t w h = ⊎_elim
      (λ (x : (e.at ≡ p) × (e.event ≡ event)). or_left _ _ (ap (λ a. names a t) x.1 ∙ h))
      (λ (x : WasShown run p event). or_right _ _ (shown_told run p event t x h))
      w

  module _ {S : Type 0} (kinds : Kinds S E) (sites parts : ℕ) (run : List (Entry E)) (before : PartId → PartState E) (r : IsWorldRun kinds sites parts run before) (k : Upheld kinds (plan_of sites parts run) run before) (told : (t : TxId) → is_told_of run t ≡ true → begun run t ≡ true) where
    at_part : (at : PartId) (log : List (Record E)) (t : TxId) → Finds (before at) log → prepared log t ≡ true → begun run t ≡ true
    at_part at log t i h = tried_begun kinds sites parts run before t at r (k.fate.was_tried at log t i h)

    known_part : (at : PartId) (log : List (Record E)) (t : TxId) → Finds (before at) log → (pending log t || committed log t) ≡ true → begun run t ≡ true
    known_part at log t i h = at_part at log t i (⊎_elim (λ (x : pending log t ≡ true). (pending_parts log t x).prepared) (λ (x : committed log t ≡ true). k.fate.first at log t i x) (or_cases _ _ h))

    abbrev next : PartId → Event E → List (Entry E)
    next at event = (record { at = at; event = event }) ∷ run

    later : (at : PartId) (event : Event E) (u t : TxId) → same_tx u t ≡ true → begun run u ≡ true → begun (next at event) t ≡ true
    later at event u t h b = or_right _ _ (subst (λ y. begun run y ≡ true) (same_tx_is u t h) b)

    asked : (at : PartId) (event : Event E) (u t : TxId) (who : List ℕ) (dep : Wish) (s : List ℕ) → same_tx u t ≡ true → WasShown run (home u) (Began who dep u s) → begun (next at event) t ≡ true
    asked at event u t who dep s h w = later at event u t h (shown_begun run (home u) who dep u s w)

    voter : (at : PartId) (event : Event E) (u t : TxId) → same_tx u t ≡ true → takes_part (plan_of sites parts (next at event)) u at ≡ true → begun (next at event) t ≡ true
    voter at event u t h k = part_begun sites (next at event) t at (subst (λ y. takes_part (plan_of sites parts (next at event)) y at ≡ true) (same_tx_is u t h) k)

    decider : (at : PartId) (event : Event E) (u t : TxId) → same_tx u t ≡ true → voted run u at ≡ true → begun (next at event) t ≡ true
    decider at event u t h v = later at event u t h (tried_begun kinds sites parts run before u at r (voted_tried run u at v))

    finisher : (at : PartId) (event : Event E) (u t : TxId) → same_tx u t ≡ true → is_decided run u ≡ true → begun (next at event) t ≡ true
    finisher at event u t h d =
        let lead = lead_of sites parts run u in
        later at event u t h (tried_begun kinds sites parts run before u lead r (voted_tried run u lead (full_now (plan_of sites parts run) run before k.fate u d).lead))

    aborter : (at : PartId) (event : Event E) (u t : TxId) → same_tx u t ≡ true → pending (before at).log u ≡ true → begun (next at event) t ≡ true
    aborter at event u t h p = later at event u t h (known_part at (before at).log u (image_log (before at)) (or_left _ _ p))

    sender : (at : PartId) (event : Event E) (asked : Option ℕ) (m : Message E) (t : TxId) → IsMessage sites at (before at) asked m → lists m.parts t ≡ true → begun (next at event) t ≡ true
    sender at event asked m t x h = or_right _ _ (known_part at (before at).log t (image_log (before at)) (or_right _ _ (and_parts (committed (before at).log t) _ (sym (x.members t) ∙ h)).0))

    taker : (at : PartId) (event : Event E) (plan : Plan E) (number : ℕ) (m : Message E) (t : TxId) → MayTake plan run at number m → lists m.parts t ≡ true → begun (next at event) t ≡ true
    taker at event plan number m t al h = or_right _ _ (told t (shown_told run (twin m.from at) (Sent al.asked m) t (numbered_shown sent_count run number (twin m.from at) (Sent al.asked m) al.shown) h))

    event_begun : (at : PartId) (event : Event E) (after : PartState E) (t : TxId) → IsAllowed (plan_of sites parts (next at event)) run before at (attempt event) → PartStep kinds sites parts at (before at) event after → names event t ≡ true → begun (next at event) t ≡ true
    event_begun at (Began who dep u s) after t al st h = or_left _ _ h
    event_begun at (Updated u s o own op read x stamp) after t al st h = asked at (Updated u s o own op read x stamp) u t al.who al.dependency s h al.begun
    event_begun at (Read u s o own read value) after t al st h = asked at (Read u s o own read value) u t al.who al.dependency s h al.begun
    event_begun at (Prepared u s l w n) after t al st h = voter at (Prepared u s l w n) u t h al.takes
    event_begun at (Decided u c) after t al st h = decider at (Decided u c) u t h al.here
    event_begun at (Finished u c) after t al st h = finisher at (Finished u c) u t h al.decided
    event_begun at (Aborted u own) after t al st h = aborter at (Aborted u own) u t h st.1
    event_begun at (Sent from x) after t al st h = sender at (Sent from x) from x t st.1 h
    event_begun at (Took number x) after t al st h = taker at (Took number x) (plan_of sites parts (next at (Took number x))) number x t al h
    event_begun at (Restarted n b named listed) after t al st h = or_right false (begun run t) (⊎_elim
        (λ (x : is_named named t ≡ true). at_part at after.log t st.found (k.fate.first at after.log t st.found (decided_committed after.log t (last_is_decided after.log t (subst (λ o. is_named o t ≡ true) st.last x)))))
        (λ (x : names_pending listed t ≡ true). known_part at after.log t st.found (or_left _ _ (sym (st.members t) ∙ x)))
        (or_cases _ _ h))
    event_begun at (Refused (AskRead u s o own) why) after t al st h = asked at (Refused (AskRead u s o own) why) u t al.0.who al.0.dependency s h al.0.begun
    event_begun at (Refused (AskUpdate u s o own op) why) after t al st h = asked at (Refused (AskUpdate u s o own op) why) u t al.0.who al.0.dependency s h al.0.begun
    event_begun at (Refused (AskPrepare u s l w) why) after t al st h = asked at (Refused (AskPrepare u s l w) why) u t al.0.who al.0.dependency s h al.0.begun
    event_begun at (Cut (Updated u s o own op read x stamp)) after t al st h = asked at (Cut (Updated u s o own op read x stamp)) u t al.who al.dependency s h al.begun
    event_begun at (Cut (Read u s o own read value)) after t al st h = asked at (Cut (Read u s o own read value)) u t al.who al.dependency s h al.begun
    event_begun at (Cut (Prepared u s l w n)) after t al st h = voter at (Cut (Prepared u s l w n)) u t h al.takes
    event_begun at (Cut (Decided u c)) after t al st h = decider at (Cut (Decided u c)) u t h al.here
    event_begun at (Cut (Finished u c)) after t al st h = finisher at (Cut (Finished u c)) u t h al.decided
    event_begun at (Cut (Aborted u own)) after t al st h = aborter at (Cut (Aborted u own)) u t h st.1
    event_begun at (Cut (Sent from x)) after t al st h = sender at (Cut (Sent from x)) from x t st.1 h
    event_begun at (Cut (Took number x)) after t al st h = taker at (Cut (Took number x)) (plan_of sites parts (next at (Cut (Took number x)))) number x t al h
    event_begun at event after t al st h = off h

  told_begun : {S : Type 0} (kinds : Kinds S E) (sites parts : ℕ) (run : List (Entry E)) (state : PartId → PartState E) → IsWorldRun kinds sites parts run state → (t : TxId) → is_told_of run t ≡ true → begun run t ≡ true
  told_begun kinds sites parts [] state r t h = off h
  told_begun kinds sites parts (e ∷ run) state r t h =
      let ih = told_begun kinds sites parts run r.0 r.1 in ⊎_elim
      (λ (x : names e.event t ≡ true). event_begun kinds sites parts run r.0 r.1 (upheld_here kinds sites parts run r.0 r.1) ih e.at e.event (state e.at) t r.2.allowed r.2.step x)
      (λ (x : is_told_of run t ≡ true). or_right _ _ (ih t x))
      (or_cases _ _ h)

  pub premises : {S : Type 0} (kinds : Kinds S E) (sites parts : ℕ) (run : List (Entry E)) (state : PartId → PartState E) → IsWorldRun kinds sites parts run state → Premises sites parts run state
  premises kinds sites parts run state r =
      let plan = plan_of sites parts run in
      let pf = plan_fits kinds sites parts run state r in
      let under = fits kinds sites parts run state r run (all_fresh kinds sites parts run state r) (suffix_all run) in
      let k = law_plan kinds plan run state under in
      let g = good_run kinds plan pf run state under in record {
        undrawn = λ t h. false_from_ne_true _ (λ x.
            let b = begun_time kinds sites parts run state r t (told_begun kinds sites parts run state r t x) in
            let l = ((world_leases kinds sites parts run state r).clock (home t)).now in
            absurd (omega arith));
        unasked = λ p t e n. false_from_ne_true _ (λ x. clash (k.fate.was_tried p (state p).log t (image_log (state p)) (named_good plan p (state p).log t (g.logs p (state p).log (image_log (state p))) x e)) n);
        unheld = λ p number m t place al up h. unheld kinds plan pf run state state p k g (record { least_site = place.least_site; most_site = place.most_site; least_part = place.least_part; most_part = place.most_part }) number m al up t h;
      }
