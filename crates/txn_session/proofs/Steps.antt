-- The steps of a commit ask what the world allows, and leave what the session holds.
use Rattle.std.proofs.Common.{◌≡◌, ◌≢◌, ⊎_elim, inl, inr, ℕ, ◌≤◌, max, Bool, true, false, List, [], ◌∷◌, ◌++◌, refl, sym, ap, ◌∙◌, subst, arith}
use Rattle.std.specs.Prelude.{◌||◌, ◌&&◌, ◌==◌, Some, None}
use Rattle.std.proofs.lemmas.Bool.{cond-true, eq-eqb, or_left, or_right, and_from, true≢false}
use Rattle.std.proofs.lemmas.List.{append-nil, append_assoc}
use Rattle.std.proofs.Math.Bool.{or-false}
use Rattle.site_vector.specs.declared.ids.PartId.{PartId}
use Rattle.site_vector.specs.declared.ids.TxId.{TxId}
use Rattle.site_vector.specs.Ids.{same_part, same_tx}
use Rattle.site_vector.specs.Order.{same_tx_refl}
use Rattle.site_vector.specs.Vector.{replaced}
use Rattle.crdt_core.specs.declared.record.Upd.{Upd}
use Rattle.world_model.specs.rules.Event.{Ballot, led_by, Ask, AskPrepare, AskDecide, AskFinish, AskAbort, IsDown, IsGone, Event, Began, Updated, Prepared, Decided, Finished, Aborted, Refused, Cut, attempt, tried, voted, decide_tried, time_of}
use Rattle.world_model.specs.lines.Places.{IsPlace}
use Rattle.world_model.specs.rules.Plan.{commit_vector}
use Rattle.world_model.specs.rules.World.{is_begin, lead_of, plan_of}
use Rattle.world_model.specs.rules.Lines.{step_shown}
use Rattle.world_model.specs.rules.Asking.{asked_by}
use Rattle.world_model.specs.commands.CommitSteps.{Preparing, Finishing, after}
use Rattle.txn_session.specs.Calls.{Call, entries, called, is_update, IsAllowed}
use Rattle.txn_session.specs.Session.{Txn, updates_of, participants, first_or_zero}
use Rattle.txn_session.specs.Holds.{HoldsTxn, IsAsking, IsFinishing, IsAborting, HoldsGoing, has, has_place}
use Rattle.txn_session.proofs.Frames.{near, quiet, txn_same, going_same}
use Rattle.txn_session.proofs.Participants.{has_append, has_first, has_there, apart_of, Ascend, ascend_participants, participant_within, at_site, lead_is, takes_at, changes_at_is, takes_place}

and_true : (a b : Bool) → a ≡ true → b ≡ true → (a && b) ≡ true
and_true a b x y = and_from a b x y

and_none : (a b : Bool) → b ≡ false → (a && b) ≡ false
and_none true b h = h
and_none false b h = refl

module _ {E : Type 0} (sites parts : ℕ) (name : List ℕ) (site : ℕ) (txn : Txn E) (run : List (Call E)) (t : HoldsTxn sites parts name site txn run) where
  some_parts : 1 ≤ parts
  some_parts = let a = t.place.least_part in let b = t.place.most_part in omega arith

  -- a participant is a place of the cluster
  pub participant_place : (p : ℕ) → has (participants parts txn.updates) p ≡ true → IsPlace sites parts (at_site site p)
  participant_place p h =
      let w = participant_within parts txn.updates p h in
      record { least_site = subst (λ n. 1 ≤ n) t.site_is t.place.least_site; most_site = subst (λ n. n ≤ sites) t.site_is t.place.most_site; least_part = w.0; most_part = w.1 }

  module _ (done : List ℕ) (p : ℕ) (left : List ℕ) (n : ℕ) (h : IsAsking site (participants parts txn.updates) txn.tx run done (p ∷ left) n) where
    pub asked_among : has (participants parts txn.updates) p ≡ true
    asked_among = subst (λ l. has l p ≡ true) h.parts (has_there done p left)

    not_done : has done p ≡ false
    not_done = apart_of done p left (subst Ascend (sym h.parts) (ascend_participants parts txn.updates))

    lead_voted : (d : List ℕ) → d ++ p ∷ left ≡ participants parts txn.updates → ((q : PartId) → voted (entries run) txn.tx q ≡ has_place site d q) → at_site site p ≢ lead_of sites parts (entries run) txn.tx → voted (entries run) txn.tx (lead_of sites parts (entries run) txn.tx) ≡ true
    lead_voted [] e v ne = absurd (ne (sym (lead_is sites parts name site txn run t p left e)))
    lead_voted (x ∷ d) e v ne =
        let l = lead_is sites parts name site txn run t x (d ++ p ∷ left) e in
        ap (voted (entries run) txn.tx) l ∙ (v (at_site site x) ∙ and_true _ _ (eq-eqb site site refl) (has_first x d))

    lead_number : (d : List ℕ) → d ++ p ∷ left ≡ participants parts txn.updates → first_or_zero (participants parts txn.updates) ≡ (lead_of sites parts (entries run) txn.tx).part
    lead_number [] e = ap first_or_zero (sym e) ∙ sym (ap (λ q. q.part) (lead_is sites parts name site txn run t p left e))
    lead_number (x ∷ d) e = ap first_or_zero (sym e) ∙ sym (ap (λ q. q.part) (lead_is sites parts name site txn run t x (d ++ p ∷ left) e))

    pub prepare_allowed : (lead : ℕ) → lead ≡ first_or_zero (participants parts txn.updates) → IsAllowed sites parts run (Some txn.by) (at_site site p) (AskPrepare txn.tx txn.s (led_by lead) (updates_of parts txn.updates p))
    prepare_allowed lead first = record {
      may = (
        record { site = sym t.site_is; who = name; dependency = t.handed; begun = t.shown },
        record {
          fresh = h.tries (at_site site p) ∙ and_none (site == site) (has done p) not_done;
          after_lead = lead_voted done h.parts h.votes;
          takes = takes_at sites parts name site txn run t p asked_among;
          snapshot = sym t.snapshot;
          lead = first ∙ lead_number done h.parts;
          changes = changes_at_is sites parts name site txn run t p;
        },
      );
      mine = t.caller;
    }

  vector_is : (n : ℕ) → time_of (entries run) txn.tx ≡ n → replaced txn.s site n ≡ commit_vector (plan_of sites parts (entries run)) (entries run) txn.tx
  vector_is n e = (λ i. replaced (sym t.snapshot i) (sym t.site_is i) (sym e i))

  module _ (d : ℕ) (ds : List ℕ) (n : ℕ) (h : IsAsking site (participants parts txn.updates) txn.tx run (d ∷ ds) [] n) where
    all_are : d ∷ ds ≡ participants parts txn.updates
    all_are = sym (append-nil (d ∷ ds)) ∙ h.parts

    pub decide_among : has (participants parts txn.updates) d ≡ true
    decide_among = subst (λ l. has l d ≡ true) all_are (has_first d ds)

    pub decide_allowed : (c : List ℕ) → c ≡ replaced txn.s site n → IsAllowed sites parts run (Some txn.by) (at_site site d) (AskDecide txn.tx c)
    decide_allowed c v = record {
      may = record {
        lead = sym (lead_is sites parts name site txn run t d ds all_are);
        here = h.votes (at_site site d) ∙ and_true _ _ (eq-eqb site site refl) (has_first d ds);
        all = λ q k. h.votes q ∙ (ap (λ l. has_place site l q) all_are ∙ takes_place sites parts name site txn run t some_parts q k);
        ungiven = h.ungiven;
        once = h.undecided;
        vector = v ∙ vector_is n h.time;
      };
      mine = t.caller;
    }

  pub finish_allowed : (p n : ℕ) (left c : List ℕ) → IsFinishing (participants parts txn.updates) txn.tx run (p ∷ left) n → c ≡ replaced txn.s site n → IsAllowed sites parts run None (at_site site p) (AskFinish txn.tx c)
  finish_allowed p n left c h v = record {
    may = (takes_at sites parts name site txn run t p (h.among p (has_first p left)), record { decided = h.decided; vector = v ∙ vector_is n h.time });
    mine = tt;
  }

  pub abort_allowed : (p : ℕ) (left : List ℕ) → IsAborting (participants parts txn.updates) txn.tx run (p ∷ left) → IsAllowed sites parts run (Some txn.by) (at_site site p) (AskAbort txn.tx)
  abort_allowed p left h = record { may = ⊎_elim (λ (e : p ∷ left ≡ []). absurd cc) (λ (e : decide_tried (entries run) txn.tx ≡ false). e) h.undecided; mine = (t.caller, t.begun) }

-- what asks of the end of a transaction show
abbrev pub is_ending_ask : {E : Type 0} → Ask E → Bool
is_ending_ask (AskPrepare t s l w) = true
is_ending_ask (AskDecide t c) = true
is_ending_ask (AskFinish t c) = true
is_ending_ask (AskAbort t) = true
is_ending_ask other = false

module _ {E : Type 0} where
  begins_none : (e : Event E) (t : TxId) → is_ending_ask (asked_by (attempt e)) ≡ true → (is_begin e t ≡ false) × (is_update e t ≡ false)
  begins_none (Began who dep u s) t h = absurd (true≢false (sym h))
  begins_none (Updated u s o own op read x stamp) t h = absurd (true≢false (sym h))
  begins_none e t h = (refl, refl)

  -- the transaction began and updated as before
  pub end_txn : (sites parts : ℕ) (name : List ℕ) (site : ℕ) (txn : Txn E) (c : Call E) (run : List (Call E)) → is_ending_ask (asked_by (attempt c.entry.event)) ≡ true → HoldsTxn sites parts name site txn run → HoldsTxn sites parts name site txn (c ∷ run)
  end_txn sites parts name site txn c run e h = let b = begins_none c.entry.event txn.tx e in txn_same sites parts name site (c ∷ run) run txn (near c run txn.tx b.0 b.1) h

  module _ (site : ℕ) (ps : List ℕ) (t : TxId) (run : List (Call E)) where
    -- given up before a decision was asked for
    pub gives_up : (done left : List ℕ) (n : ℕ) → IsAsking site ps t run done left n → IsAborting ps t run done
    gives_up done left n h = record { undecided = inr h.undecided; among = λ p k. subst (λ l. has l p ≡ true) h.parts (has_append done left p ∙ or_left _ _ k) }

    moves : (c : Call E) (done : List ℕ) → decide_tried (entries (c ∷ run)) t ≡ decide_tried (entries run) t → IsAborting ps t run done → IsAborting ps t (c ∷ run) done
    moves c done e h = record { undecided = ⊎_elim (λ (k : done ≡ []). inl k) (λ (k : decide_tried (entries run) t ≡ false). inr (e ∙ k)) h.undecided; among = h.among }

    one_more : (b : Bool) (done : List ℕ) (p : ℕ) (q : PartId) (x : Bool) → b ≡ true → x ≡ has_place site done q → ((same_part (at_site site p) q && b) || x) ≡ has_place site (done ++ p ∷ []) q
    one_more b done p q x e k = (λ i. (same_part (at_site site p) q && e i) || k i) ∙ (swap (site == q.site) (p == q.part) (has done q.part) ∙ ap (λ y. (site == q.site) && y) (sym (has_append done (p ∷ []) q.part)))
      where
        swap : (a b c : Bool) → (((a && b) && true) || (a && c)) ≡ (a && (c || (b || false)))
        swap false b c = refl
        swap true true true = refl
        swap true true false = refl
        swap true false c = sym (or-false c)

    module _ (by : ℕ) (p : ℕ) where
      pub prepare_step : (e : Event E) (s : List ℕ) (l : Ballot) (w : List (Upd E)) (done left : List ℕ) (n : ℕ) → asked_by (attempt e) ≡ AskPrepare t s l w → IsAsking site ps t run done (p ∷ left) n → HoldsGoing site ps t (called by (at_site site p) e ∷ run) (after (Preparing done (p ∷ left) n) (step_shown (entries run) (at_site site p) e)).0
      prepare_step (Prepared u v k x m) s l w done left n a h =
          let is : u ≡ t = cc in
          let me : same_tx u t ≡ true = ap (λ y. same_tx y t) is ∙ same_tx_refl t in
          record {
            parts = append_assoc done (p ∷ []) left ∙ h.parts;
            tries = λ q. one_more (same_tx u t) done p q (tried (entries run) t q) me (h.tries q);
            votes = λ q. one_more (same_tx u t) done p q (voted (entries run) t q) me (h.votes q);
            undecided = h.undecided;
            ungiven = h.ungiven;
            time = cond-true _ (max m (time_of (entries run) t)) (time_of (entries run) t) me ∙ ap (max m) h.time;
          }
      prepare_step (Cut (Prepared u v k x m)) s l w done left n a h = moves (called by (at_site site p) (Cut (Prepared u v k x m))) done refl (gives_up done (p ∷ left) n h)
      prepare_step (Cut (Refused asked why)) s l w done left n a h = moves (called by (at_site site p) (Cut (Refused asked why))) done refl (gives_up done (p ∷ left) n h)
      prepare_step (Cut other) s l w done left n a h = absurd cc
      prepare_step (Refused asked IsDown) s l w done left n a h = moves (called by (at_site site p) (Refused asked IsDown)) done refl (gives_up done (p ∷ left) n h)
      prepare_step (Refused asked why) s l w done left n a h = going_same 0 0 [] site (called by (at_site site p) (Refused asked why) ∷ run) run ps t (quiet (called by (at_site site p) (Refused asked why)) run t refl) (Preparing done (p ∷ left) n) h
      prepare_step other s l w done left n a h = absurd cc

      pub decide_step : (e : Event E) (c : List ℕ) (ds : List ℕ) (n : ℕ) → asked_by (attempt e) ≡ AskDecide t c → IsAsking site ps t run (p ∷ ds) [] n → HoldsGoing site ps t (called by (at_site site p) e ∷ run) (after (Preparing (p ∷ ds) [] n) (step_shown (entries run) (at_site site p) e)).0
      decide_step (Decided u v) c ds n a h =
          let is : u ≡ t = cc in
          let me : same_tx u t ≡ true = ap (λ y. same_tx y t) is ∙ same_tx_refl t in
          record { decided = or_left _ _ me; time = h.time; among = λ q k. subst (λ l. has l q ≡ true) h.parts (has_append (p ∷ ds) [] q ∙ or_left _ _ (or_right _ _ k)) }
      decide_step (Cut (Decided u v)) c ds n a h = record { undecided = inl refl; among = λ q k. absurd (true≢false (sym k)) }
      decide_step (Cut (Refused asked why)) c ds n a h = going_same 0 0 [] site (called by (at_site site p) (Cut (Refused asked why)) ∷ run) run ps t (quiet (called by (at_site site p) (Cut (Refused asked why))) run t refl) (Preparing (p ∷ ds) [] n) h
      decide_step (Cut other) c ds n a h = absurd cc
      decide_step (Refused asked IsGone) c ds n a h =
          let g = gives_up (p ∷ ds) [] n h in
          moves (called by (at_site site p) (Refused asked IsGone)) ds refl (record { undecided = inr h.undecided; among = λ q k. g.among q (or_right _ _ k) })
      decide_step (Refused asked why) c ds n a h = going_same 0 0 [] site (called by (at_site site p) (Refused asked why) ∷ run) run ps t (quiet (called by (at_site site p) (Refused asked why)) run t refl) (Preparing (p ∷ ds) [] n) h
      decide_step other c ds n a h = absurd cc

      fewer : (q : ℕ) (left : List ℕ) (n : ℕ) → IsFinishing ps t run (q ∷ left) n → IsFinishing ps t run left n
      fewer q left n h = record { decided = h.decided; time = h.time; among = λ r k. h.among r (or_right _ _ k) }

      pub finish_step : (e : Event E) (c left : List ℕ) (n : ℕ) → asked_by (attempt e) ≡ AskFinish t c → IsFinishing ps t run (p ∷ left) n → HoldsGoing site ps t (called by (at_site site p) e ∷ run) (after (Finishing (p ∷ left) n) (step_shown (entries run) (at_site site p) e)).0
      finish_step (Finished u v) c left n a h = going_same 0 0 [] site (called by (at_site site p) (Finished u v) ∷ run) run ps t (quiet (called by (at_site site p) (Finished u v)) run t refl) (Finishing left n) (fewer p left n h)
      finish_step (Cut (Finished u v)) c left n a h = going_same 0 0 [] site (called by (at_site site p) (Cut (Finished u v)) ∷ run) run ps t (quiet (called by (at_site site p) (Cut (Finished u v))) run t refl) (Finishing (p ∷ left) n) h
      finish_step (Cut (Refused asked why)) c left n a h = going_same 0 0 [] site (called by (at_site site p) (Cut (Refused asked why)) ∷ run) run ps t (quiet (called by (at_site site p) (Cut (Refused asked why))) run t refl) (Finishing (p ∷ left) n) h
      finish_step (Cut other) c left n a h = absurd cc
      finish_step (Refused asked IsGone) c left n a h = going_same 0 0 [] site (called by (at_site site p) (Refused asked IsGone) ∷ run) run ps t (quiet (called by (at_site site p) (Refused asked IsGone)) run t refl) (Finishing left n) (fewer p left n h)
      finish_step (Refused asked why) c left n a h = going_same 0 0 [] site (called by (at_site site p) (Refused asked why) ∷ run) run ps t (quiet (called by (at_site site p) (Refused asked why)) run t refl) (Finishing (p ∷ left) n) h
      finish_step other c left n a h = absurd cc

      pub abort_step : (e : Event E) (left : List ℕ) → asked_by (attempt e) ≡ AskAbort t → IsAborting ps t run (p ∷ left) → IsAborting ps t (called by (at_site site p) e ∷ run) left
      abort_step e left a h = moves (called by (at_site site p) e) left (none e a) (record { undecided = ⊎_elim (λ (k : p ∷ left ≡ []). absurd cc) (λ (k : decide_tried (entries run) t ≡ false). inr k) h.undecided; among = λ q k. h.among q (or_right _ _ k) })
        where
          none : (x : Event E) → asked_by (attempt x) ≡ AskAbort t → decide_tried (entries (called by (at_site site p) x ∷ run)) t ≡ decide_tried (entries run) t
          none (Aborted u own) y = refl
          none (Refused asked why) y = refl
          none (Cut (Aborted u own)) y = refl
          none (Cut (Refused asked why)) y = refl
          none (Cut other) y = absurd cc
          none other y = absurd cc
