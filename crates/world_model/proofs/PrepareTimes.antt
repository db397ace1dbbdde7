-- No prepare time is above what a partition's clock shows: so each prepare comes later than all that waits.
use Rattle.std.proofs.Common.{◌≡◌, ℕ, ◌+◌, ◌<◌, ◌≤◌, true, false, List, [], ◌∷◌, sym, ◌∙◌, arith}
use Rattle.std.proofs.lemmas.Bool.{false_from_ne_true}
use Rattle.site_vector.specs.declared.ids.PartId.{PartId}
use Rattle.site_vector.specs.declared.ids.TxId.{TxId}
use Rattle.site_vector.specs.Ids.{same_tx}
use Rattle.crdt_core.specs.declared.record.Record.{Record}
use Rattle.crdt_core.specs.KindsOf.{Kinds}
use Rattle.crdt_core.specs.Log.{pending, prepare_time}
use Rattle.world_model.specs.rules.Event.{Ask, Refusal, IsDown, Event, Prepared, Decided, Restarted, Refused, Cut, Entry, attempt, tried}
use Rattle.world_model.specs.lines.Lines.{EachLine}
use Rattle.world_model.specs.rules.Lines.{refusal_shown, fault_shown, step_shown, shown_lines}
use Rattle.world_model.specs.rules.Partition.{PartState, Finds, batch_of, records, now_after, done, cut, down, MayDo, PartStep, IsRestart}
use Rattle.world_model.specs.lines.Listed.{names_pending, listed_time, AreTimed}
use Rattle.world_model.specs.rules.Partition as partition
use Rattle.world_model.specs.lines.Pending as lines
use Rattle.world_model.specs.rules.Plan.{IsAllowed}
use Rattle.world_model.specs.lines.Waiting.{waiting}
use Rattle.world_model.specs.rules.Waiting.{ArePending}
use Rattle.world_model.specs.rules.World.{plan_of, IsWorldRun}
use Rattle.world_model.proofs.Names.{clash}
use Rattle.world_model.proofs.Queue.{in_order}
use Rattle.world_model.proofs.Moves.{image_log}
use Rattle.world_model.proofs.Fate.{pending_parts}
use Rattle.world_model.proofs.Upheld.{Upheld}
use Rattle.world_model.proofs.Shows.{Shown, shown_run, listed_is}
use Rattle.world_model.proofs.LineViews.{pending_is, prepare_time_is}
use Rattle.world_model.proofs.Whole.{suffix_all, all_fresh, fits}
use Rattle.world_model.proofs.Law.{upheld_here}
use Rattle.world_model.proofs.Timely.{timely}
use Rattle.world_model.proofs.Listed.{names_first, names_later}
use Rattle.world_model.proofs.Waiting.{IsQueued, all_pending}

less_next : (a b now n : ℕ) → a ≡ b → b ≤ now → n ≡ now + 1 → a < n
less_next a b now n e h k = omega arith

module _ {E : Type 0} where
  module _ {S : Type 0} (kinds : Kinds S E) (sites parts : ℕ) where
    refused_queued : (run : List (Entry E)) (at : PartId) (asked : Ask E) (why : Refusal) → IsQueued (shown_lines run) at (refusal_shown run at asked why)
    refused_queued run at asked IsDown = tt
    refused_queued run at asked other = tt

    fault_queued : (run : List (Entry E)) (at : PartId) (a : Event E) → IsQueued (shown_lines run) at (fault_shown at a)
    fault_queued run at (Decided t c) = tt
    fault_queued run at other = tt

    own_times : (log : List (Record E)) (all xs : List (TxId × ℕ)) → partition.AreTimed log all → partition.AreTimed log xs → ((t : TxId) → names_pending xs t ≡ true → names_pending all t ≡ true) → AreTimed (listed_time all) xs
    own_times log all [] a h k = tt
    own_times log all (x ∷ xs) a h k = (h.0 ∙ sym (listed_is log all x.0 a (k x.0 (names_first x xs))), own_times log all xs a h.1 (λ t n. k t (names_later (same_tx x.0 t) (names_pending xs t) n)))

    module _ (run : List (Entry E)) (before : PartId → PartState E) (r : IsWorldRun kinds sites parts run before) (at : PartId) (q : PartState E) where
      abbrev log : List (Record E)
      log = (before at).log

      upheld : Upheld kinds (plan_of sites parts run) run before
      upheld = upheld_here kinds sites parts run before r

      shows : Shown (plan_of sites parts run) run before
      shows = shown_run kinds (plan_of sites parts run) run before (fits kinds sites parts run before r run (all_fresh kinds sites parts run before r) (suffix_all run))

      prepared_queued : (u : TxId) (n : ℕ) → tried run u at ≡ false → (before at).up ≡ true → n ≡ (before at).now + 1 → (lines.pending (shown_lines run) at u ≡ false) × ((t : TxId) → lines.pending (shown_lines run) at t ≡ true → lines.prepare_time (shown_lines run) at t < n)
      prepared_queued u n fresh up drawn = (
        waits u ∙ false_from_ne_true (pending log u) (λ k. clash (upheld.fate.was_tried at log u (image_log (before at)) (pending_parts log u k).prepared) fresh),
        λ t h. less_next (lines.prepare_time (shown_lines run) at t) (prepare_time log t) (before at).now n (prepare_time_is run at t ∙ sym (shows.time at t up (sym (waits t) ∙ h))) ((timely kinds sites parts run before r at).now t up) drawn,
      )
        where
          waits : (t : TxId) → lines.pending (shown_lines run) at t ≡ pending log t
          waits t = pending_is run at t ∙ sym (shows.waiting at t up)

      queued : (event : Event E) → IsAllowed (plan_of sites parts ((record { at = at; event = event }) ∷ run)) run before at (attempt event) → PartStep kinds sites parts at (before at) event q → IsQueued (shown_lines run) at (step_shown run at event)
      queued (Prepared u s l w n) al st = prepared_queued u n al.fresh st.0 st.1.1
      queued (Restarted n b named listed) al st = (own_times q.log listed listed st.timed st.timed (λ t k. k), in_order listed st.order)
      queued (Refused asked why) al st = refused_queued run at asked why
      queued (Cut a) al st = fault_queued run at a
      queued other al st = tt

    all_queued : (run : List (Entry E)) (state : PartId → PartState E) → IsWorldRun kinds sites parts run state → EachLine (λ before p call s. IsQueued before p s) (shown_lines run)
    all_queued [] state r = tt
    all_queued (e ∷ run) state r = (queued run r.0 r.1 e.at (state e.at) e.event r.2.allowed r.2.step, all_queued run r.0 r.1)

    pub listed : (run : List (Entry E)) (state : PartId → PartState E) → IsWorldRun kinds sites parts run state → (p : PartId) → ArePending (shown_lines run) p (waiting (shown_lines run) p)
    listed run state r p = all_pending (shown_lines run) (all_queued run state r) p
