-- After a decide that was cut off, whatever a restart of the lead finds tells one of two.
use Rattle.std.proofs.Common.{◌≡◌, ◌≢◌, ⊎_elim, ℕ, cond, true, false, not, ◌&&◌, List, [], ◌∷◌, sym, ap, ◌∙◌, subst}
use Rattle.std.proofs.lemmas.Bool.{or_cases, cond-true, cond-false, false_from_ne_true}
use Rattle.site_vector.specs.declared.ids.PartId.{PartId}
use Rattle.site_vector.specs.declared.ids.TxId.{TxId}
use Rattle.site_vector.specs.Ids.{same_part, same_tx}
use Rattle.site_vector.specs.Order.{same_part_refl, same_tx_is}
use Rattle.crdt_core.specs.declared.record.Record.{Record}
use Rattle.crdt_core.specs.declared.record.Record.TheVariants.{Decide}
use Rattle.crdt_core.specs.Log.{prepared, committed, aborted, pending, last_decided, MayFind}
use Rattle.world_model.specs.rules.Event.{Event, Decided, Crashed, RestartCut, Restarted, Refused, Opened, Cut, Entry, attempt, decide_tried}
use Rattle.world_model.specs.lines.Listed.{is_named}
use Rattle.crdt_core.specs.KindsOf.{Kinds}
use Rattle.world_model.specs.rules.Partition.{PartState, Finds, PartStep}
use Rattle.world_model.specs.rules.Plan.{Plan, IsAllowed}
use Rattle.world_model.proofs.Runs.{IsRun}
use Rattle.world_model.specs.events.Pending.{doubt_after, in_doubt}
use Rattle.world_model.specs.events.Restarts.{SettlesAt, SettleDoubts}
use Rattle.world_model.proofs.Names.{clash, off, part_cases, part_other}
use Rattle.world_model.proofs.Moves.{last_is_decided}
use Rattle.world_model.proofs.Fate.{Fate, decided_committed}
use Rattle.world_model.proofs.Later.{once_pending}
use Rattle.world_model.proofs.Upheld.{law_plan}
use Rattle.world_model.proofs.Shows.{less_pending}

module _ {E : Type 0} where
  -- pending, or the last that was decided, and not both
  abbrev IsEither : List (Record E) → TxId → Type 0
  IsEither log t = pending log t ≡ not (is_named (last_decided log) t)

  record Doubts (run : List (Entry E)) (parts : PartId → PartState E) : Type 0 where
    pub down : (p : PartId) (t : TxId) → in_doubt run p t ≡ true → (parts p).up ≡ false
    pub either : (p : PartId) (t : TxId) (m : List (Record E)) → Finds (parts p) m → in_doubt run p t ≡ true → IsEither m t

  record Doubtful (p : PartState E) (t : TxId) : Type 0 where
    pub down : p.up ≡ false
    pub either : (m : List (Record E)) → Finds p m → IsEither m t

  either_before : (log : List (Record E)) (t : TxId) → pending log t ≡ true → committed log t ≡ false → IsEither log t
  either_before log t p c = p ∙ ap not (sym (false_from_ne_true _ (λ n. clash (decided_committed log t (last_is_decided log t n)) c)))

  either_after : (log : List (Record E)) (u t : TxId) (c : List ℕ) → same_tx u t ≡ true → IsEither (Decide u c ∷ log) t
  either_after log u t c e = less_pending (same_tx u t) (prepared log t) (committed log t) (aborted log t) ∙ ap (λ b. not b && pending log t) e ∙ ap not (sym e)

  module _ {S : Type 0} (kinds : Kinds S E) (plan : Plan E) (run : List (Entry E)) (before after : PartId → PartState E) (at : PartId) (f : Fate plan run before) (d : Doubts run before) where
    -- what is asked to be decided for the first time isn't committed
    cut_here : (u : TxId) (c : List ℕ) → decide_tried run u ≡ false → PartStep kinds plan.sites plan.parts at (before at) (Cut (Decided u c)) (after at) → (t : TxId) → same_tx u t ≡ true → Doubtful (after at) t
    cut_here u c once st t h =
        let log = (before at).log in
        let same = same_tx_is u t h in
        let first = once_pending plan run before f at 0 st.0 u once st.1 in
        let waits : pending log t ≡ true = subst (λ x. pending log x ≡ true) same first.0 in
        let apart : committed log t ≡ false = subst (λ x. committed log x ≡ false) same first.1 in record {
          down = ap (λ p. p.up) st.2;
          either = λ m i. ⊎_elim
              (λ (k : m ≡ log). subst (λ x. IsEither x t) (sym k) (either_before log t waits apart))
              (λ (k : m ≡ Decide u c ∷ log). subst (λ x. IsEither x t) (sym k) (either_after log u t c h))
              (subst (λ b. MayFind log (cond b (Decide u c ∷ []) []) m) first.0 (subst (λ p. Finds p m) st.2 i));
        }

    stays_here : (t : TxId) → in_doubt run at t ≡ true → after at ≡ before at → Doubtful (after at) t
    stays_here t h e = record { down = ap (λ p. p.up) e ∙ d.down at t h; either = λ m i. d.either at t m (subst (λ p. Finds p m) e i) h }

    here : (event : Event E) → IsAllowed plan run before at (attempt event) → PartStep kinds plan.sites plan.parts at (before at) event (after at) → (t : TxId) → doubt_after t (in_doubt run at t) event ≡ true → Doubtful (after at) t
    here (Cut (Decided u c)) al st t h = ⊎_elim (λ (k : same_tx u t ≡ true). cut_here u c al.once st t k) (λ (k : in_doubt run at t ≡ true). clash st.0 (d.down at t k)) (or_cases _ _ h)
    here (Cut a) al st t h = clash st.0 (d.down at t h)
    here Crashed al st t h = record { down = ap (λ p. p.up) st; either = λ m i. d.either at t m (subst (λ p. Finds p m) st i) h }
    here RestartCut al st t h = record { down = ap (λ p. p.up) st; either = λ m i. d.either at t m (subst (λ p. Finds p m) st i) h }
    here (Restarted n b named listed) al st t h = off h
    here (Refused asked why) al st t h = stays_here t h st.1
    here (Opened who) al st t h = stays_here t h st
    here event al st t h = clash st.0 (d.down at t h)

    doubts_step : (event : Event E) → IsAllowed plan run before at (attempt event) → PartStep kinds plan.sites plan.parts at (before at) event (after at) → ((q : PartId) → q ≢ at → after q ≡ before q) → Doubts ((record { at = at; event = event }) ∷ run) after
    doubts_step event al st others =
        let at_p : (p : PartId) (t : TxId) → in_doubt ((record { at = at; event = event }) ∷ run) p t ≡ true → Doubtful (after p) t = λ p t h. ⊎_elim
        (λ (e : at ≡ p). subst (λ y. doubt_after t (in_doubt run y t) event ≡ true → Doubtful (after y) t) e (here event al st t) (sym (cond-true _ _ _ (subst (λ y. same_part at y ≡ true) e (same_part_refl at))) ∙ h))
        (λ (ne : at ≡ p → ⊥).
        let old = others p (λ e. ne (sym e)) in
        let k : in_doubt run p t ≡ true = sym (cond-false _ _ _ (part_other at p ne)) ∙ h in
        record { down = ap (λ y. y.up) old ∙ d.down p t k; either = λ m i. d.either p t m (subst (λ y. Finds y m) old i) k })
        (part_cases at p) in record { down = λ p t h. (at_p p t h).down; either = λ p t m i h. (at_p p t h).either m i }

    settles_event : (event : Event E) (q : PartState E) → PartStep kinds plan.sites plan.parts at (before at) event q → SettlesAt run at event
    settles_event (Restarted n b named listed) q st = λ t h. st.members t ∙ d.either at t q.log st.found h ∙ ap (λ o. not (is_named o t)) (sym st.last)
    settles_event event q st = tt

  doubts_run : {S : Type 0} (kinds : Kinds S E) (plan : Plan E) (run : List (Entry E)) (parts : PartId → PartState E) → IsRun kinds plan run parts → Doubts run parts
  doubts_run kinds plan [] parts r = record { down = λ p t h. off h; either = λ p t m i h. off h }
  doubts_run kinds plan (e ∷ run) parts r = doubts_step kinds plan run r.0 parts e.at (law_plan kinds plan run r.0 r.1).fate (doubts_run kinds plan run r.0 r.1) e.event r.2.allowed r.2.step r.2.others

  pub settle_doubts : {S : Type 0} (kinds : Kinds S E) (plan : Plan E) (run : List (Entry E)) (parts : PartId → PartState E) → IsRun kinds plan run parts → SettleDoubts run
  settle_doubts kinds plan [] parts r = tt
  settle_doubts kinds plan (e ∷ run) parts r = (
    settles_event kinds plan run r.0 parts e.at (law_plan kinds plan run r.0 r.1).fate (doubts_run kinds plan run r.0 r.1) e.event (parts e.at) r.2.step,
    settle_doubts kinds plan run r.0 r.1,
  )
