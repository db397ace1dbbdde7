-- A partition that is up has kept where its last messages ended.
use Rattle.std.proofs.Common.{◌≡◌, ◌≢◌, ⊎_elim, ℕ, ◌-◌, ◌≤◌, true, false, List, [], ◌∷◌, length, refl, sym, ap, ◌∙◌, subst, arith, Option, None, Some}
use Rattle.std.specs.Prelude.{◌==◌}
use Rattle.std.proofs.lemmas.Bool.{cases_Bool, cond-true, cond-false, eqb-true, eq-eqb}
use Rattle.std.proofs.lemmas.List.{length-replicate}
use Rattle.site_vector.specs.declared.ids.PartId.{PartId}
use Rattle.site_vector.specs.Ids.{same_part}
use Rattle.site_vector.specs.Order.{same_part_refl}
use Rattle.site_vector.specs.Vector.{entry, replaced}
use Rattle.site_vector.specs.VectorLaws.{length_replaced}
use Rattle.crdt_core.specs.declared.record.Message.{Message}
use Rattle.world_model.specs.rules.Event.{Event, Sent, Crashed, RestartCut, Restarted, Refused, Opened, Cut, Entry}
use Rattle.crdt_core.specs.KindsOf.{Kinds}
use Rattle.world_model.specs.rules.Partition.{PartState, PartStep}
use Rattle.world_model.specs.lines.Places.{IsOther}
use Rattle.world_model.specs.rules.Plan.{Plan}
use Rattle.world_model.proofs.Runs.{IsRun}
use Rattle.world_model.specs.lines.Streams.{low_of}
use Rattle.world_model.specs.events.Streams.{sent_after, last_sent, SendsAt, Send}
use Rattle.world_model.proofs.Queue.{sent_in_order}
use Rattle.world_model.proofs.Names.{clash, part_cases, part_other, entry_same, entry_cases}
use Rattle.world_model.proofs.Completeness.{zeros_at}

module _ {E : Type 0} where
  record Sends (plan : Plan E) (run : List (Entry E)) (parts : PartId → PartState E) : Type 0 where
    pub width : (p : PartId) → (parts p).up ≡ true → length (parts p).sent ≡ plan.sites
    pub last : (p : PartId) (j : ℕ) → (parts p).up ≡ true → IsOther plan.sites p.site j → entry (parts p).sent j ≡ last_sent run p j

  record SentHere (plan : Plan E) (run : List (Entry E)) (at : PartId) (event : Event E) (p : PartState E) : Type 0 where
    pub width : p.up ≡ true → length p.sent ≡ plan.sites
    pub last : (j : ℕ) → p.up ≡ true → IsOther plan.sites at.site j → entry p.sent j ≡ sent_after j (last_sent run at j) event

  module _ {S : Type 0} (kinds : Kinds S E) (plan : Plan E) (run : List (Entry E)) (before after : PartId → PartState E) (at : PartId) (h : Sends plan run before) where
    plain : (event : Event E) → (before at).up ≡ true → ((j : ℕ) → sent_after j (last_sent run at j) event ≡ last_sent run at j) → (after at).sent ≡ (before at).sent → SentHere plan run at event (after at)
    plain event up eq e = record {
      width = λ u. ap length e ∙ h.width at up;
      last = λ j u o. ap (λ v. entry v j) e ∙ h.last at j up o ∙ sym (eq j);
    }

    gone_down : (event : Event E) → (after at).up ≡ false → SentHere plan run at event (after at)
    gone_down event d = record { width = λ u. clash u d; last = λ j u o. clash u d }

    sent_here : (asked : Option ℕ) (m : Message E) → PartStep kinds plan.sites plan.parts at (before at) (Sent asked m) (after at) → SentHere plan run at (Sent asked m) (after at)
    sent_here asked m st =
        let old = (before at).sent in
        let long = h.width at st.0 in
        let to = st.1.to in record {
          width = λ u. ap (λ p. length p.sent) st.2 ∙ length_replaced old m.to m.hi ∙ long;
          last = λ j u o. ap (λ p. entry p.sent j) st.2 ∙ ⊎_elim
              (λ (e : (m.to == j) ≡ true). subst (λ i. entry (replaced old m.to m.hi) i ≡ m.hi) (eqb-true m.to j e) (entry_same old m.to m.hi to.least (subst (λ n. m.to ≤ n) (sym long) to.most)) ∙ sym (cond-true _ m.hi (last_sent run at j) e))
              (λ (e : (m.to == j) ≡ false). ⊎_elim
              (λ (y : entry (replaced old m.to m.hi) j ≡ entry old j). y)
              (λ (y : (j - 1 ≡ m.to - 1) × (entry (replaced old m.to m.hi) j ≡ m.hi)). let a = y.0 in let c = o.least in let d = to.least in let same : m.to ≡ j = omega arith in clash (eq-eqb m.to j same) e)
              (entry_cases old m.to m.hi j) ∙ h.last at j st.0 o ∙ sym (cond-false _ m.hi (last_sent run at j) e))
              (cases_Bool (m.to == j));
        }

    here : (event : Event E) → PartStep kinds plan.sites plan.parts at (before at) event (after at) → SentHere plan run at event (after at)
    here (Sent asked m) st = sent_here asked m st
    here (Cut a) st = gone_down (Cut a) (ap (λ p. p.up) st.2)
    here Crashed st = gone_down Crashed (ap (λ p. p.up) st)
    here RestartCut st = gone_down RestartCut (ap (λ p. p.up) st)
    here (Restarted n b named listed) st = record { width = λ u. ap length st.sent ∙ length-replicate plan.sites 0; last = λ j u o. ap (λ v. entry v j) st.sent ∙ zeros_at plan.sites (j - 1) }
    here (Refused asked why) st = record { width = λ u. ap (λ p. length p.sent) st.1 ∙ h.width at (sym (ap (λ p. p.up) st.1) ∙ u); last = λ j u o. ap (λ p. entry p.sent j) st.1 ∙ h.last at j (sym (ap (λ p. p.up) st.1) ∙ u) o }
    here (Opened who) st = record { width = λ u. ap (λ p. length p.sent) st ∙ h.width at (sym (ap (λ p. p.up) st) ∙ u); last = λ j u o. ap (λ p. entry p.sent j) st ∙ h.last at j (sym (ap (λ p. p.up) st) ∙ u) o }
    here event st = plain event st.0 (λ j. refl) (ap (λ p. p.sent) st.2)

    sends_step : (event : Event E) → PartStep kinds plan.sites plan.parts at (before at) event (after at) → ((q : PartId) → q ≢ at → after q ≡ before q) → Sends plan ((record { at = at; event = event }) ∷ run) after
    sends_step event st others =
        let x = here event st in
        let old = λ (p : PartId) (ne : at ≡ p → ⊥). others p (λ e. ne (sym e)) in record {
          width = λ p u. ⊎_elim
              (λ (e : at ≡ p). subst (λ y. (after y).up ≡ true → length (after y).sent ≡ plan.sites) e x.width u)
              (λ (ne : at ≡ p → ⊥). ap (λ y. length y.sent) (old p ne) ∙ h.width p (ap (λ y. y.up) (sym (old p ne)) ∙ u))
              (part_cases at p);
          last = λ p j u o. ⊎_elim
              (λ (e : at ≡ p). subst (λ y. (after y).up ≡ true → IsOther plan.sites y.site j → entry (after y).sent j ≡ sent_after j (last_sent run y j) event) e (x.last j) u o ∙ sym (cond-true _ _ _ (subst (λ y. same_part at y ≡ true) e (same_part_refl at))))
              (λ (ne : at ≡ p → ⊥). ap (λ y. entry y.sent j) (old p ne) ∙ h.last p j (ap (λ y. y.up) (sym (old p ne)) ∙ u) o ∙ sym (cond-false _ _ _ (part_other at p ne)))
              (part_cases at p);
        }

    low_is : (asked : Option ℕ) (n last known : ℕ) → n ≡ (elim asked [ None ↦ last | Some k ↦ k ]) → last ≡ known → n ≡ low_of asked known
    low_is None n last known e k = e ∙ k
    low_is (Some a) n last known e k = e

    sends_event : (event : Event E) (q : PartState E) → PartStep kinds plan.sites plan.parts at (before at) event q → SendsAt plan run at event
    sends_event (Sent asked m) q st = record { from = st.1.from; part = st.1.part; to = st.1.to; lo = low_is asked m.lo (entry (before at).sent m.to) (last_sent run at m.to) st.1.lo (h.last at m.to st.0 st.1.to); order = sent_in_order at.site m.parts st.1.order }
    sends_event event q st = tt

  sends_run : {S : Type 0} (kinds : Kinds S E) (plan : Plan E) (run : List (Entry E)) (parts : PartId → PartState E) → IsRun kinds plan run parts → Sends plan run parts
  sends_run kinds plan [] parts r = record { width = λ p u. ap (λ x. length x.sent) (r p) ∙ length-replicate plan.sites 0; last = λ p j u o. ap (λ x. entry x.sent j) (r p) ∙ zeros_at plan.sites (j - 1) }
  sends_run kinds plan (e ∷ run) parts r = sends_step kinds plan run r.0 parts e.at (sends_run kinds plan run r.0 r.1) e.event r.2.step r.2.others

  pub send_events : {S : Type 0} (kinds : Kinds S E) (plan : Plan E) (run : List (Entry E)) (parts : PartId → PartState E) → IsRun kinds plan run parts → Send plan run
  send_events kinds plan [] parts r = tt
  send_events kinds plan (e ∷ run) parts r = (
    sends_event kinds plan run r.0 parts e.at (sends_run kinds plan run r.0 r.1) e.event (parts e.at) r.2.step,
    send_events kinds plan run r.0 r.1,
  )
