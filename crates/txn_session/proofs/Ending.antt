-- A step of the end of a session's transaction is asked as it may be, and the session holds after it.
use Rattle.std.proofs.Common.{◌≡◌, inl, ℕ, Bool, true, false, List, [], ◌∷◌, ◌++◌, length, refl, sym, ap, ◌∙◌, subst}
use Rattle.std.specs.Prelude.{not, ◌&&◌, ◌==◌, ◌-◌, Option, Some, None, IfSome}
use Rattle.std.proofs.lemmas.Bool.{true≢false}
use Rattle.std.proofs.lemmas.List.{length-set}
use Rattle.site_vector.specs.declared.ids.PartId.{PartId}
use Rattle.site_vector.specs.declared.ids.TxId.{TxId}
use Rattle.site_vector.specs.Vector.{entry, join, replaced}
use Rattle.crdt_core.specs.declared.record.Upd.{Upd}
use Rattle.crdt_core.specs.KindsOf.{Kinds}
use Rattle.world_model.specs.declared.commit.What.{What}
use Rattle.world_model.specs.declared.commit.What.TheVariants as what
use Rattle.world_model.specs.declared.commit.Next.TheVariants as next
use Rattle.world_model.specs.declared.step.Step.{Step}
use Rattle.world_model.specs.declared.step.Step.TheVariants as step
use Rattle.world_model.specs.rules.Event.{Ballot, led_by, Ask, AskPrepare, AskDecide, AskFinish, AskAbort, Event, Decided, Refused, Cut, attempt}
use Rattle.world_model.specs.rules.Dependency.{IsKnownJoin}
use Rattle.world_model.specs.lines.Places.{IsPlace}
use Rattle.world_model.specs.rules.Lines.{step_shown}
use Rattle.world_model.specs.rules.Asking.{asked_by}
use Rattle.world_model.specs.commands.CommitSteps.{Going, Preparing, Finishing, Aborting, starting, given_up, next_step, after}
use Rattle.clocksi_commit.specs.Commit.{Committing, is_finishing}
use Rattle.clocksi_commit.specs.Law.{is_nothing}
use Rattle.txn_session.specs.declared.session.Stage.{Stage}
use Rattle.txn_session.specs.declared.session.Stage.TheVariants as stage
use Rattle.txn_session.specs.Calls.{Call, entries, called, IsLegal, IsAllowed, MayCall, GoesOn, Stays}
use Rattle.txn_session.specs.Session.{Txn, Doing, Idle, Open, Ending, SessionState, is_idle, can_abort, updates_of, participants, first_or_zero, committed_so, ending, giving_up, answered, doing_so, depends}
use Rattle.txn_session.specs.Fields.{doing_in}
use Rattle.txn_session.specs.Opens.{told_of, dependency_told, stepped_by, stepped, next_said, begun_end, given_up_end}
use Rattle.txn_session.specs.Holds.{HoldsTxn, HoldsEnd, HoldsGoing, HoldsDoing, Holds, HoldsNumber, AreApart, Mays, Makes, MakesStep, Waits, next_of}
use Rattle.txn_session.specs.SessionWaits.{StepsLater, StepWaits}
use Rattle.txn_session.specs.Waits.{is_late, Later}
use Rattle.txn_session.proofs.Outwaiting.{goes_later, waits_later}
use Rattle.txn_session.proofs.Frames.{known_next, were_more}
use Rattle.txn_session.proofs.Opening.{length-join}
use Rattle.txn_session.proofs.Events.{is_done_step, refused_undone, cut_undone}
use Rattle.txn_session.proofs.Acting.{goes_apart, goes_holds}
use Rattle.txn_session.proofs.Participants.{has_first, at_site}
use Rattle.txn_session.proofs.Steps.{is_ending_ask, gives_up, end_txn, participant_place, asked_among, prepare_allowed, decide_among, decide_allowed, finish_allowed, abort_allowed, prepare_step, decide_step, finish_step, abort_step}

module _ {E : Type 0} (sites parts : ℕ) (name : List ℕ) (site : ℕ) (txn : Txn E) (run : List (Call E)) (t : HoldsTxn sites parts name site txn run) where
  abbrev ps : List ℕ
  ps = participants parts txn.updates

  -- what is next may be asked, at a participant
  pub may_prepare : (cs : ℕ) (cv : List ℕ) (lead : ℕ) → lead ≡ first_or_zero ps → (g : Going) (p : ℕ) → next_step cs cv g ≡ what.Prepare p → HoldsGoing site ps txn.tx run g → IsPlace sites parts (at_site site p) × IsAllowed sites parts run (Some txn.by) (at_site site p) (AskPrepare txn.tx txn.s (led_by lead) (updates_of parts txn.updates p))
  may_prepare cs cv lead first (Preparing done (q ∷ left) n) p e h =
      let is : q ≡ p = cc in
      subst (λ k. IsPlace sites parts (at_site site k) × IsAllowed sites parts run (Some txn.by) (at_site site k) (AskPrepare txn.tx txn.s (led_by lead) (updates_of parts txn.updates k))) is
      (participant_place sites parts name site txn run t q (asked_among sites parts name site txn run t done q left n h), prepare_allowed sites parts name site txn run t done q left n h lead first)
  may_prepare cs cv lead first (Preparing [] [] n) p e h = absurd cc
  may_prepare cs cv lead first (Preparing (d ∷ ds) [] n) p e h = absurd cc
  may_prepare cs cv lead first (Finishing (q ∷ left) n) p e h = absurd cc
  may_prepare cs cv lead first (Finishing [] n) p e h = absurd cc
  may_prepare cs cv lead first (Aborting (q ∷ left)) p e h = absurd cc
  may_prepare cs cv lead first (Aborting []) p e h = absurd cc

  pub may_decide : (cs : ℕ) (cv : List ℕ) → cs ≡ site → cv ≡ txn.s → (g : Going) (p : ℕ) (c : List ℕ) → next_step cs cv g ≡ what.Decide p c → HoldsGoing site ps txn.tx run g → IsPlace sites parts (at_site site p) × IsAllowed sites parts run (Some txn.by) (at_site site p) (AskDecide txn.tx c)
  may_decide cs cv es ev (Preparing (d ∷ ds) [] n) p c e h =
      let is : d ≡ p = cc in
      let vector : replaced cv cs n ≡ c = cc in
      let same : c ≡ replaced txn.s site n = sym vector ∙ (λ i. replaced (ev i) (es i) n) in
      subst (λ k. IsPlace sites parts (at_site site k) × IsAllowed sites parts run (Some txn.by) (at_site site k) (AskDecide txn.tx c)) is
      (participant_place sites parts name site txn run t d (decide_among sites parts name site txn run t d ds n h), decide_allowed sites parts name site txn run t d ds n h c same)
  may_decide cs cv es ev (Preparing done (q ∷ left) n) p c e h = absurd cc
  may_decide cs cv es ev (Preparing [] [] n) p c e h = absurd cc
  may_decide cs cv es ev (Finishing (q ∷ left) n) p c e h = absurd cc
  may_decide cs cv es ev (Finishing [] n) p c e h = absurd cc
  may_decide cs cv es ev (Aborting (q ∷ left)) p c e h = absurd cc
  may_decide cs cv es ev (Aborting []) p c e h = absurd cc

  pub may_finish : (cs : ℕ) (cv : List ℕ) → cs ≡ site → cv ≡ txn.s → (g : Going) (p : ℕ) (c : List ℕ) → next_step cs cv g ≡ what.Finish p c → HoldsGoing site ps txn.tx run g → IsPlace sites parts (at_site site p) × IsAllowed sites parts run None (at_site site p) (AskFinish txn.tx c)
  may_finish cs cv es ev (Finishing (q ∷ left) n) p c e h =
      let is : q ≡ p = cc in
      let vector : replaced cv cs n ≡ c = cc in
      let same : c ≡ replaced txn.s site n = sym vector ∙ (λ i. replaced (ev i) (es i) n) in
      subst (λ k. IsPlace sites parts (at_site site k) × IsAllowed sites parts run None (at_site site k) (AskFinish txn.tx c)) is
      (participant_place sites parts name site txn run t q (h.among q (has_first q left)), finish_allowed sites parts name site txn run t q n left c h same)
  may_finish cs cv es ev (Preparing done (q ∷ left) n) p c e h = absurd cc
  may_finish cs cv es ev (Preparing [] [] n) p c e h = absurd cc
  may_finish cs cv es ev (Preparing (d ∷ ds) [] n) p c e h = absurd cc
  may_finish cs cv es ev (Finishing [] n) p c e h = absurd cc
  may_finish cs cv es ev (Aborting (q ∷ left)) p c e h = absurd cc
  may_finish cs cv es ev (Aborting []) p c e h = absurd cc

  pub may_abort : (cs : ℕ) (cv : List ℕ) (g : Going) (p : ℕ) → next_step cs cv g ≡ what.Abort p → HoldsGoing site ps txn.tx run g → IsPlace sites parts (at_site site p) × IsAllowed sites parts run (Some txn.by) (at_site site p) (AskAbort txn.tx)
  may_abort cs cv (Aborting (q ∷ left)) p e h =
      let is : q ≡ p = cc in
      subst (λ k. IsPlace sites parts (at_site site k) × IsAllowed sites parts run (Some txn.by) (at_site site k) (AskAbort txn.tx)) is
      (participant_place sites parts name site txn run t q (h.among q (has_first q left)), abort_allowed sites parts name site txn run t q left h)
  may_abort cs cv (Preparing done (q ∷ left) n) p e h = absurd cc
  may_abort cs cv (Preparing [] [] n) p e h = absurd cc
  may_abort cs cv (Preparing (d ∷ ds) [] n) p e h = absurd cc
  may_abort cs cv (Finishing (q ∷ left) n) p e h = absurd cc
  may_abort cs cv (Finishing [] n) p e h = absurd cc
  may_abort cs cv (Aborting []) p e h = absurd cc

module _ {E : Type 0} (site : ℕ) (ps : List ℕ) (t : TxId) (run : List (Call E)) (by : ℕ) (cs : ℕ) (cv : List ℕ) where
  -- and whatever answers it, the commit stands as it holds
  pub after_prepare : (g : Going) (p : ℕ) → next_step cs cv g ≡ what.Prepare p → HoldsGoing site ps t run g → (e : Event E) (s : List ℕ) (l : Ballot) (w : List (Upd E)) → asked_by (attempt e) ≡ AskPrepare t s l w → HoldsGoing site ps t (called by (at_site site p) e ∷ run) (after g (step_shown (entries run) (at_site site p) e)).0
  after_prepare (Preparing done (q ∷ left) n) p e h x s l w a =
      let is : q ≡ p = cc in
      subst (λ k. HoldsGoing site ps t (called by (at_site site k) x ∷ run) (after (Preparing done (q ∷ left) n) (step_shown (entries run) (at_site site k) x)).0) is (prepare_step site ps t run by q x s l w done left n a h)
  after_prepare (Preparing [] [] n) p e h x s l w a = absurd cc
  after_prepare (Preparing (d ∷ ds) [] n) p e h x s l w a = absurd cc
  after_prepare (Finishing (q ∷ left) n) p e h x s l w a = absurd cc
  after_prepare (Finishing [] n) p e h x s l w a = absurd cc
  after_prepare (Aborting (q ∷ left)) p e h x s l w a = absurd cc
  after_prepare (Aborting []) p e h x s l w a = absurd cc

  pub after_decide : (g : Going) (p : ℕ) (c : List ℕ) → next_step cs cv g ≡ what.Decide p c → HoldsGoing site ps t run g → (e : Event E) → asked_by (attempt e) ≡ AskDecide t c → HoldsGoing site ps t (called by (at_site site p) e ∷ run) (after g (step_shown (entries run) (at_site site p) e)).0
  after_decide (Preparing (d ∷ ds) [] n) p c e h x a =
      let is : d ≡ p = cc in
      subst (λ k. HoldsGoing site ps t (called by (at_site site k) x ∷ run) (after (Preparing (d ∷ ds) [] n) (step_shown (entries run) (at_site site k) x)).0) is (decide_step site ps t run by d x c ds n a h)
  after_decide (Preparing done (q ∷ left) n) p c e h x a = absurd cc
  after_decide (Preparing [] [] n) p c e h x a = absurd cc
  after_decide (Finishing (q ∷ left) n) p c e h x a = absurd cc
  after_decide (Finishing [] n) p c e h x a = absurd cc
  after_decide (Aborting (q ∷ left)) p c e h x a = absurd cc
  after_decide (Aborting []) p c e h x a = absurd cc

  pub after_finish : (g : Going) (p : ℕ) (c : List ℕ) → next_step cs cv g ≡ what.Finish p c → HoldsGoing site ps t run g → (e : Event E) → asked_by (attempt e) ≡ AskFinish t c → HoldsGoing site ps t (called by (at_site site p) e ∷ run) (after g (step_shown (entries run) (at_site site p) e)).0
  after_finish (Finishing (q ∷ left) n) p c e h x a =
      let is : q ≡ p = cc in
      subst (λ k. HoldsGoing site ps t (called by (at_site site k) x ∷ run) (after (Finishing (q ∷ left) n) (step_shown (entries run) (at_site site k) x)).0) is (finish_step site ps t run by q x c left n a h)
  after_finish (Preparing done (q ∷ left) n) p c e h x a = absurd cc
  after_finish (Preparing [] [] n) p c e h x a = absurd cc
  after_finish (Preparing (d ∷ ds) [] n) p c e h x a = absurd cc
  after_finish (Finishing [] n) p c e h x a = absurd cc
  after_finish (Aborting (q ∷ left)) p c e h x a = absurd cc
  after_finish (Aborting []) p c e h x a = absurd cc

  pub after_abort : (g : Going) (p : ℕ) → next_step cs cv g ≡ what.Abort p → HoldsGoing site ps t run g → (e : Event E) → asked_by (attempt e) ≡ AskAbort t → HoldsGoing site ps t (called by (at_site site p) e ∷ run) (after g (step_shown (entries run) (at_site site p) e)).0
  after_abort (Aborting (q ∷ left)) p e h x a =
      let is : q ≡ p = cc in
      subst (λ k. HoldsGoing site ps t (called by (at_site site k) x ∷ run) (Aborting left)) is (abort_step site ps t run by q x left a h)
  after_abort (Preparing done (q ∷ left) n) p e h x a = absurd cc
  after_abort (Preparing [] [] n) p e h x a = absurd cc
  after_abort (Preparing (d ∷ ds) [] n) p e h x a = absurd cc
  after_abort (Finishing (q ∷ left) n) p e h x a = absurd cc
  after_abort (Finishing [] n) p e h x a = absurd cc
  after_abort (Aborting []) p e h x a = absurd cc

-- at the end of a transaction
pub ending_in : {E : Type 0} (k : Stage) (txn : Txn E) (lead : ℕ) (commit : Committing) (w : What) → next_of (doing_in k txn lead commit) ≡ w → is_nothing w ≡ false → k ≡ stage.Ending
ending_in stage.Idle txn lead commit w e n = absurd (true≢false (ap is_nothing e ∙ n))
ending_in stage.Open txn lead commit w e n = absurd (true≢false (ap is_nothing e ∙ n))
ending_in stage.Ending txn lead commit w e n = refl

module _ {E : Type 0} where
  pub is_ending : (u s : SessionState E) → u ≡ s → (k : Stage) (txn : Txn E) (lead : ℕ) (commit : Committing) → u.doing ≡ doing_in k txn lead commit → (w : What) → next_of s.doing ≡ w → is_nothing w ≡ false → k ≡ stage.Ending
  is_ending u s v k txn lead commit d w e n = ending_in k txn lead commit w (ap next_of (sym d ∙ ap (λ (x : SessionState E). x.doing) v) ∙ e) n

  pub doing_end : (u s : SessionState E) → u ≡ s → (k : Stage) (txn : Txn E) (lead : ℕ) (commit : Committing) → u.doing ≡ doing_in k txn lead commit → k ≡ stage.Ending → s.doing ≡ Ending txn lead commit
  doing_end u s v k txn lead commit d e = sym (ap (λ (w : SessionState E). w.doing) v) ∙ (d ∙ ap (λ x. doing_in x txn lead commit) e)

  stepped_one : (s : SessionState E) (answer : Step) (w : What) → is_nothing w ≡ false → stepped_by s answer w ≡ depends (doing_so s (answered s.doing answer)) (dependency_told s.dependency w answer)
  stepped_one s answer (what.Prepare p) n = refl
  stepped_one s answer (what.Decide p c) n = refl
  stepped_one s answer (what.Finish p c) n = refl
  stepped_one s answer (what.Abort p) n = refl
  stepped_one s answer what.Done n = absurd (true≢false n)

  -- the fields after an answer
  pub stepped_is : (u s : SessionState E) → u ≡ s → (k : Stage) (txn : Txn E) (lead : ℕ) (commit now : Committing) → s.doing ≡ Ending txn lead commit → k ≡ stage.Ending → (answer : Step) → now ≡ committed_so commit (after commit.going answer).0 → (w : What) → next_of s.doing ≡ w → is_nothing w ≡ false → (dep : List ℕ) → dep ≡ dependency_told u.dependency w answer → depends (doing_so u (doing_in k txn lead now)) dep ≡ stepped s answer
  stepped_is u s v k txn lead commit now is e answer c w next n dep d =
      let doing : doing_in k txn lead now ≡ answered s.doing answer = (λ i. doing_in (e i) txn lead (c i)) ∙ sym (ap (λ x. answered x answer) is) in
      let told : dep ≡ dependency_told s.dependency w answer = d ∙ ap (λ (x : SessionState E). dependency_told x.dependency w answer) v in
      (λ i. depends (doing_so (v i) (doing i)) (told i)) ∙ (sym (stepped_one s answer w n) ∙ ap (stepped_by s answer) (sym next))

  pub said_is : (s : SessionState E) (txn : Txn E) (lead : ℕ) (commit : Committing) → s.doing ≡ Ending txn lead commit → (answer : Step) → (after commit.going answer).1 ≡ next_said s.doing answer
  said_is s txn lead commit is answer = ap (λ d. next_said d answer) (sym is)

told_none : (dep c : List ℕ) (s : Step) → is_done_step s ≡ false → told_of dep c s ≡ dep
told_none dep c (step.Decided q t d) h = absurd (true≢false h)
told_none dep c other h = refl

pub told_width : (dep c : List ℕ) (s : Step) → length dep ≡ length c → length (told_of dep c s) ≡ length dep
told_width dep c (step.Decided q t d) h = length-join dep c h
told_width dep c other h = refl

-- what a session depends on after a decide
told_event : {E : Type 0} (sites by : ℕ) (at : PartId) (e : Event E) (run : List (Call E)) (dep : List ℕ) (t : TxId) (c : List ℕ) → asked_by (attempt e) ≡ AskDecide t c → IsKnownJoin sites (entries run) dep → length dep ≡ sites → length dep ≡ length c → IsKnownJoin sites (entries (called by at e ∷ run)) (told_of dep c (step_shown (entries run) at e)) × (length (told_of dep c (step_shown (entries run) at e)) ≡ sites)
told_event sites by at (Decided u v) run dep t c a h w l =
    let is : v ≡ c = cc in
    (record { vectors = c ∷ h.vectors; known = (inl is, were_more (called by at (Decided u v)).entry (entries run) h.vectors h.known); is = ap (λ x. join x c) h.is }, length-join dep c l ∙ w)
told_event sites by at (Refused asked why) run dep t c a h w l =
    let n = told_none dep c (step_shown (entries run) at (Refused asked why)) (refused_undone (entries run) at asked why) in
    subst (λ x. IsKnownJoin sites (entries (called by at (Refused asked why) ∷ run)) x × (length x ≡ sites)) (sym n) (known_next sites (called by at (Refused asked why)) run dep h, w)
told_event sites by at (Cut what) run dep t c a h w l =
    let n = told_none dep c (step_shown (entries run) at (Cut what)) (cut_undone at what) in
    subst (λ x. IsKnownJoin sites (entries (called by at (Cut what) ∷ run)) x × (length x ≡ sites)) (sym n) (known_next sites (called by at (Cut what)) run dep h, w)
told_event sites by at other run dep t c a h w l = absurd cc

decide_width : (cs : ℕ) (cv : List ℕ) (g : Going) (p : ℕ) (c : List ℕ) → next_step cs cv g ≡ what.Decide p c → length c ≡ length cv
decide_width cs cv (Preparing (d ∷ ds) [] n) p c e = let vector : replaced cv cs n ≡ c = cc in sym (ap length vector) ∙ length-set cv (cs - 1) n
decide_width cs cv (Preparing done (q ∷ left) n) p c e = absurd cc
decide_width cs cv (Preparing [] [] n) p c e = absurd cc
decide_width cs cv (Finishing (q ∷ left) n) p c e = absurd cc
decide_width cs cv (Finishing [] n) p c e = absurd cc
decide_width cs cv (Aborting (q ∷ left)) p c e = absurd cc
decide_width cs cv (Aborting []) p c e = absurd cc

module _ {S E T P : Type 0} (kinds : Kinds S E) (sees : T → P → List (Call E) → Type 0) (numbers : P → ℕ → Bool) (store : T) (pass : P) (s : SessionState E) (txn : Txn E) (lead : ℕ) (commit : Committing) (is : s.doing ≡ Ending txn lead commit) where
  end_of : (run : List (Call E)) → Holds s run → HoldsTxn s.sites s.parts s.name s.site txn run × HoldsEnd s.site s.parts txn lead commit run
  end_of run h = subst (HoldsDoing s.sites s.parts s.name s.site run) is h.doing

  next_is : (w : What) → next_of s.doing ≡ w → next_step commit.site commit.s commit.going ≡ w
  next_is w e = sym (ap next_of is) ∙ e

  module _ (legal : (r : List (Call E)) → sees store pass r → IsLegal kinds s.sites s.parts r) (held : HoldsNumber (numbers pass) s.doing) (run : List (Call E)) (h : Holds s run) (number : Option ℕ) (at : PartId) (ask : Ask E) (answer : Step) (goes : GoesOn sees numbers store pass run number at ask answer) (ends : is_ending_ask ask ≡ true) where
    abbrev base : List (Call E)
    base = goes.more ++ run

    base_end : HoldsTxn s.sites s.parts s.name s.site txn base × HoldsEnd s.site s.parts txn lead commit base
    base_end = end_of base (goes_holds kinds sees numbers store pass s legal held run h number at ask answer goes)

    ends_makes : (dep : List ℕ) → IsKnownJoin s.sites (entries (called goes.by at goes.event ∷ base)) dep → length dep ≡ s.sites → HoldsGoing s.site (participants s.parts txn.updates) txn.tx (called goes.by at goes.event ∷ base) (after commit.going answer).0 → Makes sees numbers store pass run s (depends (doing_so s (answered s.doing answer)) dep) number at ask answer
    ends_makes dep known width going =
        let c = called goes.by at goes.event in
        let k = base_end in
        let t = end_txn s.sites s.parts s.name s.site txn c base (ap is_ending_ask goes.asked ∙ ends) k.0 in
        let e : HoldsEnd s.site s.parts txn lead (committed_so commit (after commit.going answer).0) (c ∷ base) = record { first = k.1.first; at_site = k.1.at_site; snapshot = k.1.snapshot; going = going } in
        record {
          goes = goes;
          apart = goes_apart kinds sees numbers store pass s legal held run h number at ask answer goes;
          holds = record { known = known; width = width; doing = subst (λ d. HoldsDoing s.sites s.parts s.name s.site (c ∷ base) (answered d answer)) (sym is) (t, e) };
          held = subst (λ d. HoldsNumber (numbers pass) (answered d answer)) (sym is) (subst (HoldsNumber (numbers pass)) is held);
        }

    base_known : IsKnownJoin s.sites (entries (called goes.by at goes.event ∷ base)) s.dependency
    base_known = known_next s.sites (called goes.by at goes.event) base s.dependency (goes_holds kinds sees numbers store pass s legal held run h number at ask answer goes).known

    told_known : (c : List ℕ) → length s.dependency ≡ length c → ask ≡ AskDecide txn.tx c → (dep : List ℕ) → dep ≡ told_of s.dependency c answer → IsKnownJoin s.sites (entries (called goes.by at goes.event ∷ base)) dep × (length dep ≡ s.sites)
    told_known c w a dep d =
        let k = goes_holds kinds sees numbers store pass s legal held run h number at ask answer goes in
        subst (λ x. IsKnownJoin s.sites (entries (called goes.by at goes.event ∷ base)) x × (length x ≡ s.sites)) (sym (d ∙ ap (told_of s.dependency c) goes.shows)) (told_event s.sites goes.by at goes.event base s.dependency txn.tx c (goes.asked ∙ a) k.known k.width w)

    abbrev told : What → List ℕ
    told w = dependency_told s.dependency w answer

    -- the session that holds is the one after the answer
    one_step : (w : What) → next_of s.doing ≡ w → is_nothing w ≡ false → depends (doing_so s (answered s.doing answer)) (told w) ≡ stepped s answer
    one_step w e n = sym (stepped_one s answer w n) ∙ ap (stepped_by s answer) (sym e)

    shown_going : HoldsGoing s.site (participants s.parts txn.updates) txn.tx (called goes.by at goes.event ∷ base) (after commit.going (step_shown (entries base) at goes.event)).0 → HoldsGoing s.site (participants s.parts txn.updates) txn.tx (called goes.by at goes.event ∷ base) (after commit.going answer).0
    shown_going g = subst (λ a. HoldsGoing s.site (participants s.parts txn.updates) txn.tx (called goes.by at goes.event ∷ base) (after commit.going a).0) (sym goes.shows) g

    -- the step is the one that was next
    pub makes_step : (w : What) → next_of s.doing ≡ w → MakesStep sees numbers store pass run s (stepped s answer) answer (Ending txn lead commit) w → MakesStep sees numbers store pass run s (stepped s answer) answer s.doing (next_of s.doing)
    makes_step w e m = subst (λ d. MakesStep sees numbers store pass run s (stepped s answer) answer d (next_of s.doing)) (sym is) (subst (λ x. MakesStep sees numbers store pass run s (stepped s answer) answer (Ending txn lead commit) x) (sym e) m)

module _ {S E T P : Type 0} (kinds : Kinds S E) (sees : T → P → List (Call E) → Type 0) (numbers : P → ℕ → Bool) (store : T) (pass : P) (s : SessionState E) (txn : Txn E) (lead : ℕ) (commit : Committing) (is : s.doing ≡ Ending txn lead commit) (legal : (r : List (Call E)) → sees store pass r → IsLegal kinds s.sites s.parts r) (held : HoldsNumber (numbers pass) s.doing) (run : List (Call E)) (h : Holds s run) (answer : Step) (p : ℕ) where
  pub prepare_makes : next_of s.doing ≡ what.Prepare p → GoesOn sees numbers store pass run (Some txn.by) (at_site s.site p) (AskPrepare txn.tx txn.s (led_by lead) (updates_of s.parts txn.updates p)) answer → MakesStep sees numbers store pass run s (stepped s answer) answer s.doing (next_of s.doing)
  prepare_makes e goes =
      let number : Option ℕ = Some txn.by in
      let ask : Ask E = AskPrepare txn.tx txn.s (led_by lead) (updates_of s.parts txn.updates p) in
      let b = base_end kinds sees numbers store pass s txn lead commit is legal held run h number (at_site s.site p) ask answer goes refl in
      let g = after_prepare s.site (participants s.parts txn.updates) txn.tx (goes.more ++ run) goes.by commit.site commit.s commit.going p (next_is kinds sees numbers store pass s txn lead commit is (what.Prepare p) e) b.1.going goes.event txn.s (led_by lead) (updates_of s.parts txn.updates p) goes.asked in
      let m = ends_makes kinds sees numbers store pass s txn lead commit is legal held run h number (at_site s.site p) ask answer goes refl s.dependency (base_known kinds sees numbers store pass s txn lead commit is legal held run h number (at_site s.site p) ask answer goes refl) h.width (shown_going kinds sees numbers store pass s txn lead commit is legal held run h number (at_site s.site p) ask answer goes refl g) in
      makes_step kinds sees numbers store pass s txn lead commit is legal held run h number (at_site s.site p) ask answer goes refl (what.Prepare p) e (subst (λ x. Makes sees numbers store pass run s x number (at_site s.site p) ask answer) (one_step kinds sees numbers store pass s txn lead commit is legal held run h number (at_site s.site p) ask answer goes refl (what.Prepare p) e refl) m)

module _ {S E T P : Type 0} (kinds : Kinds S E) (sees : T → P → List (Call E) → Type 0) (numbers : P → ℕ → Bool) (store : T) (pass : P) (s : SessionState E) (txn : Txn E) (lead : ℕ) (commit : Committing) (is : s.doing ≡ Ending txn lead commit) (legal : (r : List (Call E)) → sees store pass r → IsLegal kinds s.sites s.parts r) (held : HoldsNumber (numbers pass) s.doing) (run : List (Call E)) (h : Holds s run) (answer : Step) (p : ℕ) where
  -- and once it waited
  pub prepare_later : (reads : ℕ → Type 0) → next_of s.doing ≡ what.Prepare p → Later (numbers pass) reads (entry txn.s s.site) txn.by (at_site s.site p) (AskPrepare txn.tx txn.s (led_by lead) (updates_of s.parts txn.updates p)) (is_late answer) (λ rest. GoesOn sees numbers store pass rest (Some txn.by) (at_site s.site p) (AskPrepare txn.tx txn.s (led_by lead) (updates_of s.parts txn.updates p)) answer) run
      → StepsLater sees numbers reads store pass run s (stepped s answer) answer s.doing (next_of s.doing)
  prepare_later reads e x =
      let ask : Ask E = AskPrepare txn.tx txn.s (led_by lead) (updates_of s.parts txn.updates p) in
      let both : ◌≡◌ {A = Doing E × What} (s.doing, next_of s.doing) (Ending txn lead commit, what.Prepare p) = (λ i. (is i, e i)) in
      subst (λ (w : Doing E × What). StepsLater sees numbers reads store pass run s (stepped s answer) answer w.0 w.1) (sym both)
      (goes_later kinds sees numbers store pass s legal held run h reads (entry txn.s s.site) txn.by (at_site s.site p) ask (is_late answer) (Some txn.by) answer (λ rest. MakesStep sees numbers store pass rest s (stepped s answer) answer (Ending txn lead commit) (what.Prepare p))
      (λ rest hr goes. subst (λ (w : Doing E × What). MakesStep sees numbers store pass rest s (stepped s answer) answer w.0 w.1) both (prepare_makes kinds sees numbers store pass s txn lead commit is legal held rest hr answer p e goes))
      x)

  pub prepare_waits : (reads : ℕ → Type 0) → next_of s.doing ≡ what.Prepare p → Later (numbers pass) reads (entry txn.s s.site) txn.by (at_site s.site p) (AskPrepare txn.tx txn.s (led_by lead) (updates_of s.parts txn.updates p)) false (λ rest. Stays sees numbers store pass rest) run → StepWaits sees numbers reads store pass run s s s.doing (next_of s.doing)
  prepare_waits reads e x =
      let both : ◌≡◌ {A = Doing E × What} (s.doing, next_of s.doing) (Ending txn lead commit, what.Prepare p) = (λ i. (is i, e i)) in
      subst (λ (w : Doing E × What). StepWaits sees numbers reads store pass run s s w.0 w.1) (sym both) (waits_later kinds sees numbers store pass s legal held run h reads (entry txn.s s.site) txn.by (at_site s.site p) (AskPrepare txn.tx txn.s (led_by lead) (updates_of s.parts txn.updates p)) x)

module _ {S E T P : Type 0} (kinds : Kinds S E) (sees : T → P → List (Call E) → Type 0) (numbers : P → ℕ → Bool) (store : T) (pass : P) (s : SessionState E) (txn : Txn E) (lead : ℕ) (commit : Committing) (is : s.doing ≡ Ending txn lead commit) (legal : (r : List (Call E)) → sees store pass r → IsLegal kinds s.sites s.parts r) (held : HoldsNumber (numbers pass) s.doing) (run : List (Call E)) (h : Holds s run) (answer : Step) (p : ℕ) where
  pub finish_makes : (c : List ℕ) → next_of s.doing ≡ what.Finish p c → GoesOn sees numbers store pass run None (at_site s.site p) (AskFinish txn.tx c) answer → MakesStep sees numbers store pass run s (stepped s answer) answer s.doing (next_of s.doing)
  finish_makes c e goes =
      let number : Option ℕ = None in
      let ask : Ask E = AskFinish txn.tx c in
      let b = base_end kinds sees numbers store pass s txn lead commit is legal held run h number (at_site s.site p) ask answer goes refl in
      let g = after_finish s.site (participants s.parts txn.updates) txn.tx (goes.more ++ run) goes.by commit.site commit.s commit.going p c (next_is kinds sees numbers store pass s txn lead commit is (what.Finish p c) e) b.1.going goes.event goes.asked in
      let m = ends_makes kinds sees numbers store pass s txn lead commit is legal held run h number (at_site s.site p) ask answer goes refl s.dependency (base_known kinds sees numbers store pass s txn lead commit is legal held run h number (at_site s.site p) ask answer goes refl) h.width (shown_going kinds sees numbers store pass s txn lead commit is legal held run h number (at_site s.site p) ask answer goes refl g) in
      makes_step kinds sees numbers store pass s txn lead commit is legal held run h number (at_site s.site p) ask answer goes refl (what.Finish p c) e (subst (λ x. Makes sees numbers store pass run s x number (at_site s.site p) ask answer) (one_step kinds sees numbers store pass s txn lead commit is legal held run h number (at_site s.site p) ask answer goes refl (what.Finish p c) e refl) m)

  pub abort_makes : next_of s.doing ≡ what.Abort p → GoesOn sees numbers store pass run (Some txn.by) (at_site s.site p) (AskAbort txn.tx) answer → MakesStep sees numbers store pass run s (stepped s answer) answer s.doing (next_of s.doing)
  abort_makes e goes =
      let number : Option ℕ = Some txn.by in
      let ask : Ask E = AskAbort txn.tx in
      let b = base_end kinds sees numbers store pass s txn lead commit is legal held run h number (at_site s.site p) ask answer goes refl in
      let g = after_abort s.site (participants s.parts txn.updates) txn.tx (goes.more ++ run) goes.by commit.site commit.s commit.going p (next_is kinds sees numbers store pass s txn lead commit is (what.Abort p) e) b.1.going goes.event goes.asked in
      let m = ends_makes kinds sees numbers store pass s txn lead commit is legal held run h number (at_site s.site p) ask answer goes refl s.dependency (base_known kinds sees numbers store pass s txn lead commit is legal held run h number (at_site s.site p) ask answer goes refl) h.width (shown_going kinds sees numbers store pass s txn lead commit is legal held run h number (at_site s.site p) ask answer goes refl g) in
      makes_step kinds sees numbers store pass s txn lead commit is legal held run h number (at_site s.site p) ask answer goes refl (what.Abort p) e (subst (λ x. Makes sees numbers store pass run s x number (at_site s.site p) ask answer) (one_step kinds sees numbers store pass s txn lead commit is legal held run h number (at_site s.site p) ask answer goes refl (what.Abort p) e refl) m)

  pub decide_makes : (c : List ℕ) → length s.dependency ≡ length c → next_of s.doing ≡ what.Decide p c → GoesOn sees numbers store pass run (Some txn.by) (at_site s.site p) (AskDecide txn.tx c) answer → MakesStep sees numbers store pass run s (stepped s answer) answer s.doing (next_of s.doing)
  decide_makes c w e goes =
      let number : Option ℕ = Some txn.by in
      let ask : Ask E = AskDecide txn.tx c in
      let b = base_end kinds sees numbers store pass s txn lead commit is legal held run h number (at_site s.site p) ask answer goes refl in
      let g = after_decide s.site (participants s.parts txn.updates) txn.tx (goes.more ++ run) goes.by commit.site commit.s commit.going p c (next_is kinds sees numbers store pass s txn lead commit is (what.Decide p c) e) b.1.going goes.event goes.asked in
      let k = told_known kinds sees numbers store pass s txn lead commit is legal held run h number (at_site s.site p) ask answer goes refl c w refl (told_of s.dependency c answer) refl in
      let m = ends_makes kinds sees numbers store pass s txn lead commit is legal held run h number (at_site s.site p) ask answer goes refl (told_of s.dependency c answer) k.0 k.1 (shown_going kinds sees numbers store pass s txn lead commit is legal held run h number (at_site s.site p) ask answer goes refl g) in
      makes_step kinds sees numbers store pass s txn lead commit is legal held run h number (at_site s.site p) ask answer goes refl (what.Decide p c) e (subst (λ x. Makes sees numbers store pass run s x number (at_site s.site p) ask answer) (one_step kinds sees numbers store pass s txn lead commit is legal held run h number (at_site s.site p) ask answer goes refl (what.Decide p c) e refl) m)

module _ {E T P : Type 0} (sees : T → P → List (Call E) → Type 0) (numbers : P → ℕ → Bool) (sites_of parts_of : T → ℕ) (before store : T) (given pass : P) (s : SessionState E) (es : sites_of before ≡ s.sites) (ep : parts_of before ≡ s.parts) (number : Option ℕ) (site part : ℕ) (et : site ≡ s.site) (ask now : Ask E) (ea : ask ≡ now) where
  asked_here : ◌≡◌ {A = PartId × Ask E} (record { site = site; part = part }, ask) (at_site s.site part, now)
  asked_here = (λ i. (record { site = et i; part = part }, ea i))

  -- a call as the session's fields hand it is the one that is next
  pub goes_here : (answer : Step) → ((run : List (Call E)) → sees before given run → IsAllowed (sites_of before) (parts_of before) run number (record { site = site; part = part }) ask → GoesOn sees numbers store pass run number (record { site = site; part = part }) ask answer) → (run : List (Call E)) → sees before given run → IsAllowed s.sites s.parts run number (at_site s.site part) now → GoesOn sees numbers store pass run number (at_site s.site part) now answer
  goes_here answer f run seen a =
      let g = subst (λ (w : PartId × Ask E). (r : List (Call E)) → sees before given r → IsAllowed (sites_of before) (parts_of before) r number w.0 w.1 → GoesOn sees numbers store pass r number w.0 w.1 answer) asked_here f in
      g run seen (subst (λ n. IsAllowed n (parts_of before) run number (at_site s.site part) now) (sym es) (subst (λ n. IsAllowed s.sites n run number (at_site s.site part) now) (sym ep) a))

  pub may_here : (held : IfSome number (λ by. numbers given by ≡ true)) (run : List (Call E)) → sees before given run → IsPlace s.sites s.parts (at_site s.site part) → IsAllowed s.sites s.parts run number (at_site s.site part) now → MayCall sees numbers (sites_of before) (parts_of before) before given number (record { site = site; part = part }) ask
  may_here held run seen place a =
      let good : MayCall sees numbers (sites_of before) (parts_of before) before given number (at_site s.site part) now = record {
        place = subst (λ n. IsPlace n (parts_of before) (at_site s.site part)) (sym es) (subst (λ n. IsPlace s.sites n (at_site s.site part)) (sym ep) place);
        held = held;
        run = run;
        seen = seen;
        allowed = subst (λ n. IsAllowed n (parts_of before) run number (at_site s.site part) now) (sym es) (subst (λ n. IsAllowed s.sites n run number (at_site s.site part) now) (sym ep) a);
      } in
      subst (λ (w : PartId × Ask E). MayCall sees numbers (sites_of before) (parts_of before) before given number w.0 w.1) (sym asked_here) good

-- the same of one that waits
module _ {E T P : Type 0} (sees : T → P → List (Call E) → Type 0) (numbers : P → ℕ → Bool) (sites_of parts_of : T → ℕ) (before : T) (given pass : P) (s : SessionState E) (es : sites_of before ≡ s.sites) (ep : parts_of before ≡ s.parts) (by site part : ℕ) (et : site ≡ s.site) (ask now : Ask E) (ea : ask ≡ now) (reads : ℕ → Type 0) (v : List ℕ) where
  pub later_here : (late : Bool) (Goes : PartId → Ask E → List (Call E) → Type 0) → ((run : List (Call E)) → sees before given run → IsAllowed (sites_of before) (parts_of before) run (Some by) (record { site = site; part = part }) ask → Later (numbers pass) reads (entry v site) by (record { site = site; part = part }) ask late (Goes (record { site = site; part = part }) ask) run) → (run : List (Call E)) → sees before given run → IsAllowed s.sites s.parts run (Some by) (at_site s.site part) now → Later (numbers pass) reads (entry v s.site) by (at_site s.site part) now late (Goes (at_site s.site part) now) run
  later_here late Goes f run seen a =
      let path : ◌≡◌ {A = PartId × Ask E} (record { site = site; part = part }, ask) (at_site s.site part, now) = (λ i. (record { site = et i; part = part }, ea i)) in
      let g = subst (λ (w : PartId × Ask E). (r : List (Call E)) → sees before given r → IsAllowed (sites_of before) (parts_of before) r (Some by) w.0 w.1 → Later (numbers pass) reads (entry v w.0.site) by w.0 w.1 late (Goes w.0 w.1) r) path f in
      g run seen (subst (λ n. IsAllowed n (parts_of before) run (Some by) (at_site s.site part) now) (sym es) (subst (λ n. IsAllowed s.sites n run (Some by) (at_site s.site part) now) (sym ep) a))

module _ {E : Type 0} (s : SessionState E) (txn : Txn E) (lead : ℕ) (commit : Committing) (is : s.doing ≡ Ending txn lead commit) (run : List (Call E)) (h : Holds s run) (p : ℕ) where
  ended_by : HoldsTxn s.sites s.parts s.name s.site txn run × HoldsEnd s.site s.parts txn lead commit run
  ended_by = subst (HoldsDoing s.sites s.parts s.name s.site run) is h.doing

  step_is : (w : What) → next_of s.doing ≡ w → next_step commit.site commit.s commit.going ≡ w
  step_is w e = sym (ap next_of is) ∙ e

  pub prepare_may : next_of s.doing ≡ what.Prepare p → IsPlace s.sites s.parts (at_site s.site p) × IsAllowed s.sites s.parts run (Some txn.by) (at_site s.site p) (AskPrepare txn.tx txn.s (led_by lead) (updates_of s.parts txn.updates p))
  prepare_may e = may_prepare s.sites s.parts s.name s.site txn run ended_by.0 commit.site commit.s lead ended_by.1.first commit.going p (step_is (what.Prepare p) e) ended_by.1.going

  pub decide_may : (c : List ℕ) → next_of s.doing ≡ what.Decide p c → IsPlace s.sites s.parts (at_site s.site p) × IsAllowed s.sites s.parts run (Some txn.by) (at_site s.site p) (AskDecide txn.tx c)
  decide_may c e = may_decide s.sites s.parts s.name s.site txn run ended_by.0 commit.site commit.s ended_by.1.at_site ended_by.1.snapshot commit.going p c (step_is (what.Decide p c) e) ended_by.1.going

  pub finish_may : (c : List ℕ) → next_of s.doing ≡ what.Finish p c → IsPlace s.sites s.parts (at_site s.site p) × IsAllowed s.sites s.parts run None (at_site s.site p) (AskFinish txn.tx c)
  finish_may c e = may_finish s.sites s.parts s.name s.site txn run ended_by.0 commit.site commit.s ended_by.1.at_site ended_by.1.snapshot commit.going p c (step_is (what.Finish p c) e) ended_by.1.going

  pub abort_may : next_of s.doing ≡ what.Abort p → IsPlace s.sites s.parts (at_site s.site p) × IsAllowed s.sites s.parts run (Some txn.by) (at_site s.site p) (AskAbort txn.tx)
  abort_may e = may_abort s.sites s.parts s.name s.site txn run ended_by.0 commit.site commit.s commit.going p (step_is (what.Abort p) e) ended_by.1.going

  -- the commit vector has an entry for each site
  pub vector_width : (c : List ℕ) → next_of s.doing ≡ what.Decide p c → length s.dependency ≡ length c
  vector_width c e = h.width ∙ sym (decide_width commit.site commit.s commit.going p c (step_is (what.Decide p c) e) ∙ (ap length ended_by.1.snapshot ∙ ended_by.0.width))

-- a transaction whose number the pass holds
pub number_held : {E : Type 0} (numbers : ℕ → Bool) (d : Doing E) (txn : Txn E) (lead : ℕ) (commit : Committing) → d ≡ Ending txn lead commit → HoldsNumber numbers d → numbers txn.by ≡ true
number_held numbers d txn lead commit e h = subst (HoldsNumber numbers) e h

-- nothing is left
pub done_said : {E : Type 0} (d : Doing E) (answer : Step) → next_of d ≡ what.Done → next_said d answer ≡ next.Go
done_said Idle answer e = refl
done_said (Open txn) answer e = refl
done_said (Ending txn lead commit) answer e = done_going commit.site commit.s commit.going answer e
  where
    done_going : (cs : ℕ) (cv : List ℕ) (g : Going) (a : Step) → next_step cs cv g ≡ what.Done → (after g a).1 ≡ next.Go
    done_going cs cv (Preparing done (q ∷ left) n) a h = absurd cc
    done_going cs cv (Preparing [] [] n) a h = refl
    done_going cs cv (Preparing (x ∷ xs) [] n) a h = absurd cc
    done_going cs cv (Finishing (q ∷ left) n) a h = absurd cc
    done_going cs cv (Finishing [] n) a h = refl
    done_going cs cv (Aborting (q ∷ left)) a h = absurd cc
    done_going cs cv (Aborting []) a h = refl

module _ {E T P : Type 0} (sees : T → P → List (Call E) → Type 0) (numbers : P → ℕ → Bool) (store : T) (pass : P) (run : List (Call E)) (s : SessionState E) where
  apart_none : (d : Doing E) → AreApart d []
  apart_none Idle = tt
  apart_none (Open txn) = tt
  apart_none (Ending txn lead commit) = tt

  pub idle_after : (new : SessionState E) → new ≡ doing_so s Idle → sees store pass run → Holds s run → Waits sees numbers store pass run s new
  idle_after new e seen h = subst (λ x. Waits sees numbers store pass run s x) (sym e) (record {
    more = [];
    others = tt;
    apart = apart_none s.doing;
    seen = seen;
    holds = record { known = h.known; width = h.width; doing = tt };
    held = tt;
  })

  done_makes : (new : SessionState E) (answer : Step) (d : Doing E) → Waits sees numbers store pass run s new → MakesStep sees numbers store pass run s new answer d what.Done
  done_makes new answer Idle w = w
  done_makes new answer (Open txn) w = w
  done_makes new answer (Ending txn lead commit) w = w

  pub makes_none : (new : SessionState E) (answer : Step) → next_of s.doing ≡ what.Done → new ≡ doing_so s Idle → sees store pass run → Holds s run → MakesStep sees numbers store pass run s new answer s.doing (next_of s.doing)
  makes_none new answer e n seen h = subst (λ w. MakesStep sees numbers store pass run s new answer s.doing w) (sym e) (done_makes new answer s.doing (idle_after new n seen h))

-- its commit begins: nothing was asked of its participants
module _ {E : Type 0} where
  pub begun_holds : (s : SessionState E) (run : List (Call E)) → Holds s run → Holds (begun_end s) run
  begun_holds s run h = record { known = h.known; width = h.width; doing = by_doing s.doing h.doing }
    where
      none_off : (b : Bool) → (b && false) ≡ false
      none_off true = refl
      none_off false = refl

      by_doing : (d : Doing E) → HoldsDoing s.sites s.parts s.name s.site run d → HoldsDoing s.sites s.parts s.name s.site run (ending s.site s.parts d)
      by_doing Idle k = tt
      by_doing (Open txn) k = (
        k.0,
        record {
          first = refl;
          at_site = refl;
          snapshot = refl;
          going = record { parts = refl; tries = λ p. k.1.tries p ∙ sym (none_off (s.site == p.site)); votes = λ p. k.1.votes p ∙ sym (none_off (s.site == p.site)); undecided = k.1.undecided; ungiven = k.1.ungiven; time = k.1.time };
        },
      )
      by_doing (Ending txn lead commit) k = k

  pub begun_held : (numbers : ℕ → Bool) (site parts : ℕ) (d : Doing E) → HoldsNumber numbers d → HoldsNumber numbers (ending site parts d)
  begun_held numbers site parts Idle h = tt
  begun_held numbers site parts (Open txn) h = h
  begun_held numbers site parts (Ending txn lead commit) h = h

  going_given_up : (site : ℕ) (among : List ℕ) (t : TxId) (run : List (Call E)) (g : Going) → HoldsGoing site among t run g → HoldsGoing site among t run (given_up g)
  going_given_up site among t run (Preparing done left n) h = gives_up site among t run done left n h
  going_given_up site among t run (Finishing left n) h = h
  going_given_up site among t run (Aborting left) h = h

  pub given_up_holds : (s : SessionState E) (run : List (Call E)) → Holds s run → Holds (given_up_end s) run
  given_up_holds s run h = record { known = h.known; width = h.width; doing = by_doing s.doing h.doing }
    where
      by_doing : (d : Doing E) → HoldsDoing s.sites s.parts s.name s.site run d → HoldsDoing s.sites s.parts s.name s.site run (giving_up d)
      by_doing Idle k = tt
      by_doing (Open txn) k = tt
      by_doing (Ending txn lead commit) k = (k.0, record { first = k.1.first; at_site = k.1.at_site; snapshot = k.1.snapshot; going = going_given_up s.site (participants s.parts txn.updates) txn.tx run commit.going k.1.going })

  pub given_up_held : (numbers : ℕ → Bool) (d : Doing E) → HoldsNumber numbers d → HoldsNumber numbers (giving_up d)
  given_up_held numbers Idle h = tt
  given_up_held numbers (Open txn) h = tt
  given_up_held numbers (Ending txn lead commit) h = h

  pub begun_mays : {T P : Type 0} (sees : T → P → List (Call E) → Type 0) (numbers : P → ℕ → Bool) (store : T) (pass : P) (s new : SessionState E) → new ≡ begun_end s → Mays sees numbers store pass s → Mays sees numbers store pass new
  begun_mays sees numbers store pass s new e m = subst (Mays sees numbers store pass) (sym e) (record { held = begun_held (numbers pass) s.site s.parts s.doing m.held; run = m.run; seen = m.seen; holds = begun_holds s m.run m.holds })

  pub given_up_mays : {T P : Type 0} (sees : T → P → List (Call E) → Type 0) (numbers : P → ℕ → Bool) (store : T) (pass : P) (s new : SessionState E) → new ≡ given_up_end s → Mays sees numbers store pass s → Mays sees numbers store pass new
  given_up_mays sees numbers store pass s new e m = subst (Mays sees numbers store pass) (sym e) (record { held = given_up_held (numbers pass) s.doing m.held; run = m.run; seen = m.seen; holds = given_up_holds s m.run m.holds })

  -- the fields of a commit that begins
  pub begun_is : (u s : SessionState E) → u ≡ s → (k : Stage) (txn : Txn E) (old lead : ℕ) (was commit : Committing) → u.doing ≡ doing_in k txn old was → k ≡ stage.Open → lead ≡ first_or_zero (participants u.parts txn.updates) → commit ≡ record { site = u.site; s = txn.s; going = starting (participants u.parts txn.updates) } → doing_so u (Ending txn lead commit) ≡ begun_end s
  begun_is u s v k txn old lead was commit d e l c =
      let now : u.doing ≡ Open txn = d ∙ ap (λ x. doing_in x txn old was) e in
      (λ i. doing_so u (Ending txn (l i) (c i))) ∙ (ap (λ x. doing_so u (ending u.site u.parts x)) (sym now) ∙ ap begun_end v)

  pub begun_same : (u s : SessionState E) → u ≡ s → (k : Stage) (txn : Txn E) (lead : ℕ) (commit : Committing) → u.doing ≡ doing_in k txn lead commit → (k ≡ stage.Open → ⊥) → s ≡ begun_end s
  begun_same u s v k txn lead commit d n =
      let now : doing_in k txn lead commit ≡ s.doing = sym d ∙ ap (λ (x : SessionState E). x.doing) v in
      ap (λ x. doing_so s x) (sym now ∙ (kept k n ∙ ap (ending s.site s.parts) now))
    where
      kept : (j : Stage) → (j ≡ stage.Open → ⊥) → doing_in j txn lead commit ≡ ending s.site s.parts (doing_in j txn lead commit)
      kept stage.Idle x = refl
      kept stage.Open x = absurd (x refl)
      kept stage.Ending x = refl

  pub given_same : (d : Doing E) → can_abort d ≡ false → d ≡ giving_up d
  given_same Idle e = refl
  given_same (Open txn) e = absurd (true≢false e)
  given_same (Ending txn lead commit) e = ap (λ g. Ending txn lead (committed_so commit g)) (same commit.going e)
    where
      same : (g : Going) → not (is_finishing g) ≡ false → g ≡ given_up g
      same (Preparing done left n) x = absurd (true≢false x)
      same (Finishing left n) x = refl
      same (Aborting left) x = refl

  pub not_idle : (u s : SessionState E) → u ≡ s → (k : Stage) (txn : Txn E) (lead : ℕ) (commit : Committing) → u.doing ≡ doing_in k txn lead commit → (k ≡ stage.Idle → ⊥) → is_idle s.doing ≡ true → ⊥
  not_idle u s v k txn lead commit d n h = by_stage k n (ap is_idle (sym d ∙ ap (λ (x : SessionState E). x.doing) v) ∙ h)
    where
      by_stage : (j : Stage) → (j ≡ stage.Idle → ⊥) → is_idle (doing_in j txn lead commit) ≡ true → ⊥
      by_stage stage.Idle x y = x refl
      by_stage stage.Open x y = true≢false (sym y)
      by_stage stage.Ending x y = true≢false (sym y)

  -- nothing happened
  pub waits_none : {T P : Type 0} (sees : T → P → List (Call E) → Type 0) (numbers : P → ℕ → Bool) (store : T) (pass : P) (run : List (Call E)) (s old new : SessionState E) → s ≡ old → s ≡ new → sees store pass run → Holds s run → HoldsNumber (numbers pass) s.doing → Waits sees numbers store pass run old new
  waits_none sees numbers store pass run s old new a b seen h k = subst (λ x. Waits sees numbers store pass run x new) a (subst (λ x. Waits sees numbers store pass run s x) b (record { more = []; others = tt; apart = no_calls s.doing; seen = seen; holds = h; held = k }))
    where
      no_calls : (d : Doing E) → AreApart d []
      no_calls Idle = tt
      no_calls (Open txn) = tt
      no_calls (Ending txn lead commit) = tt
