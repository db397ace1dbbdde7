-- A call that was cut off, or that found no room, had no other cause to be refused.
use Rattle.std.proofs.Common.{◌<◌, ◌≤◌, List, [], ◌∷◌, sym, ◌∙◌, subst, le_trans}
use Rattle.std.proofs.lemmas.Bool.{or_left}
use Rattle.site_vector.specs.declared.ids.PartId.{PartId}
use Rattle.site_vector.specs.Vector.{entry}
use Rattle.crdt_core.specs.KindsOf.{Kinds}
use Rattle.crdt_core.specs.Log.{end_of_time}
use Rattle.world_model.specs.rules.Event.{AskTick, AskBegin, AskRead, AskUpdate, AskPrepare, AskDecide, AskFinish, AskAbort, AskTake, IsDown, HasNoRoom, Event, Began, Updated, Read, Prepared, Decided, Finished, Aborted, Took, Refused, Cut, Entry, EventsAre, attempt}
use Rattle.world_model.specs.rules.Partition.{PartState, PartStep}
use Rattle.world_model.specs.rules.Plan.{Plan, IsAllowed}
use Rattle.world_model.specs.lines.Places.{home}
use Rattle.world_model.proofs.Runs.{IsPlanned, IsRun}
use Rattle.world_model.specs.events.Causes.{IsClearAt, AreClear}
use Rattle.world_model.proofs.Intervals.{shown_has}
use Rattle.world_model.proofs.Fate.{Fate}
use Rattle.world_model.proofs.Leases.{Leases}
use Rattle.world_model.proofs.Later.{once_pending}
use Rattle.world_model.proofs.Upheld.{law_plan}
use Rattle.world_model.proofs.Shows.{Shown, known_is, ready_is, shown_run}
use Rattle.world_model.proofs.Enough.{begin_enough}
use Rattle.world_model.proofs.Hears.{Hears, enough_shown, hears_run}

module _ {E : Type 0} {S : Type 0} (kinds : Kinds S E) (plan : Plan E) (run : List (Entry E)) (before after : PartId → PartState E) (at : PartId) (f : Fate plan run before) (w : Shown plan run before) (h : Hears plan run before) (l : Leases run before) (planned : EventsAre (IsPlanned plan) run) (some : 1 ≤ plan.parts) where
  pub clear_event : (event : Event E) → IsAllowed plan run before at (attempt event) → PartStep kinds plan.sites plan.parts at (before at) event (after at) → IsClearAt plan run at event
  clear_event (Cut (Began who dep t s)) al st = (
    subst (λ n. n < end_of_time) (l.clock at).now st.1.early,
    enough_shown kinds plan run before after at h some f l w st.0 dep (begin_enough plan.sites plan.parts at (before at) dep t s st.1),
  )
  clear_event (Cut (Read t s o own read value)) al st = ready_is kinds plan run before after at f w st.0 l s o st.1.0
  clear_event (Cut (Updated t s o own op read u stamp)) al st = λ k. ready_is kinds plan run before after at f w st.0 l s o (st.1.ready k)
  clear_event (Cut (Prepared t s y us n)) al st = let e = (l.clock at).now in (al.snapshot, subst (λ k. entry s at.site ≤ k) e st.1.0, subst (λ k. k < end_of_time) e st.1.2)
  clear_event (Cut (Decided t c)) al st = sym (w.waiting at t st.0) ∙ (once_pending plan run before f at 0 st.0 t al.once st.1).0
  clear_event (Cut (Finished t c)) al st = sym (known_is plan run before f w at st.0 t) ∙ st.1
  clear_event (Cut (Aborted t own)) al st = sym (w.waiting at t st.0) ∙ st.1
  clear_event (Cut (Took number m)) al st = let e = w.bounds at m.from st.0 al.from in (subst (λ n. m.lo ≤ n) e st.1.0, subst (λ n. n < m.hi) e st.1.1)
  clear_event (Refused (AskBegin who dep) (HasNoRoom n)) al st = (
    subst (λ k. k < end_of_time) (l.clock at).now st.0.1.1,
    enough_shown kinds plan run before after at h some f l w st.0.0 dep st.0.1.0,
  )
  clear_event (Refused (AskRead t s o own) (HasNoRoom n)) al st = absurd st.0.1
  clear_event (Refused (AskUpdate t s o own op) (HasNoRoom n)) al st = absurd st.0.1
  clear_event (Refused (AskPrepare t s y us) (HasNoRoom n)) al st =
      let e = (l.clock at).now in (
        shown_has (IsPlanned plan) run (home t) (Began al.0.who al.0.dependency t s) planned al.0.begun,
        subst (λ k. entry s at.site ≤ k) e st.0.1.0,
        subst (λ k. k < end_of_time) e st.0.1.1,
      )
  clear_event (Refused (AskDecide t c) (HasNoRoom n)) al st = sym (w.waiting at t st.0.0) ∙ st.0.1
  clear_event (Refused (AskFinish t c) (HasNoRoom n)) al st = or_left _ _ (sym (w.waiting at t st.0.0) ∙ st.0.1)
  clear_event (Refused (AskAbort t) (HasNoRoom n)) al st = sym (w.waiting at t st.0.0) ∙ st.0.1
  clear_event (Refused (AskTake number m) (HasNoRoom n)) al st = let e = w.bounds at m.from st.0.0 al.from in (subst (λ x. m.lo ≤ x) e st.0.1.0, subst (λ x. x < m.hi) e st.0.1.1)
  clear_event (Refused (AskTick r) (HasNoRoom n)) al st = tt
  clear_event (Refused asked IsDown) al st = tt
  clear_event (Refused asked why) al st = tt
  clear_event event al st = tt

pub clear_events : {E : Type 0} {S : Type 0} (kinds : Kinds S E) (plan : Plan E) (run : List (Entry E)) (parts : PartId → PartState E) → IsRun kinds plan run parts → AreClear plan run
clear_events kinds plan [] parts r = tt
clear_events kinds plan (e ∷ run) parts r =
    let k = law_plan kinds plan run r.0 r.1 in (
      clear_event kinds plan run r.0 parts e.at k.fate (shown_run kinds plan run r.0 r.1) (hears_run kinds plan run r.0 r.1) k.leases k.planned (le_trans r.2.place.least_part r.2.place.most_part) e.event r.2.allowed r.2.step,
      clear_events kinds plan run r.0 r.1,
    )
