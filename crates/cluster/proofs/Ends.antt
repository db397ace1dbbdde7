-- One step of the end of a session's transaction, as the lines of a script tell it.
use Rattle.std.proofs.Common.{◌≡◌, ⊎_elim, ℕ, zero, suc, ◌+◌, cond, Bool, true, false, List, [], ◌∷◌, map, refl, sym, ap, ◌∙◌, subst, Option}
use Rattle.std.specs.Prelude.{◌||◌, ◌↔◌, not, filter, ◌==◌, Result, Ok, Err, IfOk}
use Rattle.std.specs.List.{list_any}
use Rattle.std.proofs.lemmas.Bool.{cond-true, and_from, or_left, or_right}
use Rattle.site_vector.specs.declared.ids.PartId.{PartId}
use Rattle.site_vector.specs.declared.ids.TxId.{TxId}
use Rattle.site_vector.specs.Vector.{join}
use Rattle.site_vector.specs.Order.{same_tx_refl}
use Rattle.crdt_core.specs.declared.record.Upd.{Upd}
use Rattle.crdt_core.specs.Placing.{place_of}
use Rattle.world_model.specs.declared.command.Command.{Command}
use Rattle.world_model.specs.declared.commit.What.{What}
use Rattle.world_model.specs.declared.commit.What.TheVariants as what
use Rattle.world_model.specs.declared.step.Step.{Step}
use Rattle.world_model.specs.rules.Asking.{asked_by}
use Rattle.world_model.specs.commands.CommitSteps.{Going, Preparing, Finishing, Aborting, given_up, next_step, is_done, after}
use Rattle.world_model.specs.lines.Dependency.{IsOwnPast}
use Rattle.world_model.specs.rules.Event.{led_by, Ask, AskPrepare, AskDecide, AskFinish, AskAbort, AskReport, IsDown, Event, Began, Updated, Decided, Opened, Refused, Cut, Entry, attempt, WasShown}
use Rattle.world_model.specs.lines.Lines.{Line, Wish}
use Rattle.world_model.specs.rules.Lines.{call_asked, step_shown, session_of}
use Rattle.world_model.specs.events.Dependency.{begins_for, is_of}
use Rattle.world_model.proofs.Dependency.{dependency_after}
use Rattle.world_model.specs.commands.Phases as phases
use Rattle.world_model.specs.commands.Phases.{Phase, phase_after, by_command, holders}
use Rattle.world_model.specs.rules.Plan.{is_some_update}
use Rattle.world_model.specs.commands.ScriptCalls.{for_step}
use Rattle.world_model.proofs.Names.{off}
use Rattle.txn_session.specs.Session.{Txn, Doing, Idle, Open, Ending, SessionState, can_abort, giving_up, phase_of, is_placed_at, updates_of, numbers_from, participants}
use Rattle.txn_session.specs.Opens.{told_of, dependency_told, EndsAs, begun_end, given_up_end, next_said, stepped}
use Rattle.world_model.specs.declared.commit.Next.{Next}
use Rattle.world_model.specs.declared.commit.Next.TheVariants as next
use Rattle.clocksi_commit.specs.Commit.{is_finishing}
use Rattle.txn_session.specs.declared.phase.Phase.{Phase as Stage}
use Rattle.txn_session.specs.declared.error.SessionError.{SessionError}
use Rattle.txn_session.specs.declared.error.SessionError.TheVariants.{NoTxn}
use Rattle.txn_session.specs.Calls.{Call}
use Rattle.txn_session.specs.Holds.{Holds, MakesStep, TellsStep, next_of}
use Rattle.site_partitions.specs.Reaches.{Types}
use Rattle.cluster.specs.declared.commits.Way.{Way}
use Rattle.cluster.specs.declared.commits.Way.TheVariants as way
use Rattle.cluster.specs.Ends.{TakesStep, goes_on}
use Rattle.site_partitions.specs.Held.{Held}
use Rattle.cluster.specs.Fuel.{TellsCall}
use Rattle.cluster.specs.Sees.{Sees}
use Rattle.cluster.proofs.Applying.{ok_is}
use Rattle.cluster.proofs.Unchanging.{is_end_ask}
use Rattle.cluster.proofs.Sessions.{own_name}
use Rattle.cluster.proofs.Turned.{IsOwnAsk}

numbers_same : (first n : ℕ) → phases.numbers_from first n ≡ numbers_from first n
numbers_same first zero = refl
numbers_same first (suc n) = ap (λ ns. first ∷ ns) (numbers_same (first + 1) n)

-- it asks a partition
abbrev pub is_step : What → Bool
is_step what.Done = false
is_step other = true

-- the number of that partition
abbrev pub part_for : What → ℕ
part_for (what.Prepare p) = p
part_for (what.Decide p c) = p
part_for (what.Finish p c) = p
part_for (what.Abort p) = p
part_for what.Done = 0

pub step_left : (site : ℕ) (s : List ℕ) (g : Going) → is_step (next_step site s g) ≡ not (is_done g)
step_left site s (Preparing [] (p ∷ left) n) = refl
step_left site s (Preparing (v ∷ voted) (p ∷ left) n) = refl
step_left site s (Preparing [] [] n) = refl
step_left site s (Preparing (lead ∷ others) [] n) = refl
step_left site s (Finishing (p ∷ left) n) = refl
step_left site s (Finishing [] n) = refl
step_left site s (Aborting (p ∷ left)) = refl
step_left site s (Aborting []) = refl

go_on : (g : Going) (answer : Step) → not (is_finishing g) ≡ true → (after (given_up g) answer).1 ≡ next.Go
go_on (Preparing [] left n) answer h = refl
go_on (Preparing (v ∷ voted) left n) answer h = refl
go_on (Finishing left n) answer h = off h
go_on (Aborting []) answer h = refl
go_on (Aborting (p ∷ left)) answer h = refl

can_of : {X : Type 0} (b : Bool) (r : Result X SessionError) (x : X) → (r ≡ Err NoTxn) ↔ (b ≡ false) → r ≡ Ok x → b ≡ true
can_of true r x k e = refl
can_of false r x k e = let f : r ≡ Err NoTxn = k.1 refl in absurd cc

module _ {E : Type 0} where
  any_here : (parts n : ℕ) (updates : List (Upd E)) → list_any (λ o. place_of o.bucket o.key parts == n) (map (λ u. u.object) updates) ≡ is_some_update (updates_of parts updates n)
  any_here parts n [] = refl
  any_here parts n (u ∷ us) = elim (is_placed_at parts n u) as (λ b. (b || list_any (λ o. place_of o.bucket o.key parts == n) (map (λ x. x.object) us)) ≡ is_some_update (cond b (u ∷ updates_of parts us n) (updates_of parts us n))) [ true ↦ refl | false ↦ any_here parts n us ]

  -- the participants of a transaction, by its updates and by the objects that its lines tell
  pub holders_are : (parts : ℕ) (updates : List (Upd E)) → holders parts (map (λ u. u.object) updates) ≡ participants parts updates
  holders_are parts updates = λ i. filter (λ n. any_here parts n updates i) (numbers_same 1 parts i)

  -- a step of an end, but for a decision
  abbrev pub is_quiet_ask : Ask E → Bool
  is_quiet_ask (AskPrepare t s l w) = true
  is_quiet_ask (AskFinish t c) = true
  is_quiet_ask (AskAbort t) = true
  is_quiet_ask other = false

  module _ (events : List (Entry E)) (at : PartId) where
    pub end_phase : (e : Event E) → is_end_ask (asked_by (attempt e)) ≡ true → (parts : ℕ) (who : List ℕ) (old : Phase) (asked : Option Command) → phase_after parts who old asked (step_shown events at e) ≡ by_command parts who old asked (step_shown events at e)
    end_phase (Began name dep t s) h parts who old asked = off h
    end_phase (Updated t s o own op read u stamp) h parts who old asked = off h
    end_phase (Opened name) h parts who old asked = off h
    end_phase (Refused a IsDown) h parts who old asked = refl
    end_phase (Refused a why) h parts who old asked = refl
    end_phase (Cut (Decided t v)) h parts who old asked = refl
    end_phase (Cut e) h parts who old asked = refl
    end_phase other h parts who old asked = refl

    quiet_depends : (e : Event E) → is_quiet_ask (asked_by (attempt e)) ≡ true → (n : ℕ) (who old : List ℕ) → dependency_after n events who old e ≡ old
    quiet_depends (Began name dep t s) h n who old = off h
    quiet_depends (Decided t v) h n who old = off h
    quiet_depends (Opened name) h n who old = off h
    quiet_depends other h n who old = refl

    decide_depends : (t : TxId) (v : List ℕ) (e : Event E) → asked_by (attempt e) ≡ AskDecide t v → (n : ℕ) (who old : List ℕ) → is_of events who t ≡ true → dependency_after n events who old e ≡ told_of old v (step_shown events at e)
    decide_depends t v (Decided u w) a n who old h = let eu : u ≡ t = cc in let ew : w ≡ v = cc in cond-true (is_of events who u) (join old w) old (ap (is_of events who) eu ∙ h) ∙ ap (join old) ew
    decide_depends t v (Refused q IsDown) a n who old h = refl
    decide_depends t v (Refused q why) a n who old h = refl
    decide_depends t v (Cut (Decided u w)) a n who old h = refl
    decide_depends t v (Cut (Refused q why)) a n who old h = refl
    decide_depends t v (Cut e) a n who old h = absurd cc
    decide_depends t v other a n who old h = absurd cc

  -- the session that began it
  pub shown_of : (events : List (Entry E)) (at : PartId) (name : List ℕ) (handed : Wish) (t : TxId) (s : List ℕ) → WasShown events at (Began name handed t s) → is_of events name t ≡ true
  shown_of [] at name handed t s h = absurd h
  shown_of (e ∷ events) at name handed t s h = ⊎_elim
      (λ (k : (e.at ≡ at) × (e.event ≡ Began name handed t s)). or_left (begins_for e.event name t) (is_of events name t) (ap (λ x. begins_for x name t) k.1 ∙ and_from _ _ (own_name name) (same_tx_refl t)))
      (λ (k : WasShown events at (Began name handed t s)). or_right (begins_for e.event name t) (is_of events name t) (shown_of events at name handed t s k))
      h

  -- the call of a step
  abbrev pub ask_for : ℕ → Txn E → ℕ → What → Ask E
  ask_for parts txn lead (what.Prepare p) = AskPrepare txn.tx txn.s (led_by lead) (updates_of parts txn.updates p)
  ask_for parts txn lead (what.Decide p c) = AskDecide txn.tx c
  ask_for parts txn lead (what.Finish p c) = AskFinish txn.tx c
  ask_for parts txn lead (what.Abort p) = AskAbort txn.tx
  ask_for parts txn lead what.Done = AskReport

  module _ (parts : ℕ) (txn : Txn E) (lead : ℕ) where
    pub end_ask : (w : What) → is_step w ≡ true → is_end_ask (ask_for parts txn lead w) ≡ true
    end_ask (what.Prepare p) h = refl
    end_ask (what.Decide p c) h = refl
    end_ask (what.Finish p c) h = refl
    end_ask (what.Abort p) h = refl
    end_ask what.Done h = off h

    pub placed_for : (w : What) (site : ℕ) → is_step w ≡ true → txn.tx.site ≡ site → for_step txn.tx w ≡ record { at = record { site = site; part = part_for w }; call = call_asked (ask_for parts txn lead w) }
    placed_for (what.Prepare p) site h e = λ i. record { at = record { site = e i; part = p }; call = call_asked (ask_for parts txn lead (what.Prepare p)) }
    placed_for (what.Decide p c) site h e = λ i. record { at = record { site = e i; part = p }; call = call_asked (ask_for parts txn lead (what.Decide p c)) }
    placed_for (what.Finish p c) site h e = λ i. record { at = record { site = e i; part = p }; call = call_asked (ask_for parts txn lead (what.Finish p c)) }
    placed_for (what.Abort p) site h e = λ i. record { at = record { site = e i; part = p }; call = call_asked (ask_for parts txn lead (what.Abort p)) }
    placed_for what.Done site h e = off h

    pub own_for : (events : List (Entry E)) (name : List ℕ) (w : What) → is_step w ≡ true → session_of events txn.tx ≡ name → IsOwnAsk events name (ask_for parts txn lead w)
    own_for events name (what.Prepare p) h e = e
    own_for events name (what.Decide p c) h e = e
    own_for events name (what.Finish p c) h e = tt
    own_for events name (what.Abort p) h e = e
    own_for events name what.Done h e = off h

    pub past_for : (n : ℕ) (ls : List Line) (w : What) → IsOwnPast n ls (call_asked (ask_for parts txn lead w))
    past_for n ls (what.Prepare p) = tt
    past_for n ls (what.Decide p c) = tt
    past_for n ls (what.Finish p c) = tt
    past_for n ls (what.Abort p) = tt
    past_for n ls what.Done = tt

    pub depends_for : (events : List (Entry E)) (at : PartId) (w : What) → is_step w ≡ true → (e : Event E) → asked_by (attempt e) ≡ ask_for parts txn lead w → (n : ℕ) (who old : List ℕ) → is_of events who txn.tx ≡ true → dependency_told old w (step_shown events at e) ≡ dependency_after n events who old e
    depends_for events at (what.Prepare p) h e a n who old o = sym (quiet_depends events at e (ap is_quiet_ask a) n who old)
    depends_for events at (what.Decide p v) h e a n who old o = sym (decide_depends events at txn.tx v e a n who old o)
    depends_for events at (what.Finish p v) h e a n who old o = sym (quiet_depends events at e (ap is_quiet_ask a) n who old)
    depends_for events at (what.Abort p) h e a n who old o = sym (quiet_depends events at e (ap is_quiet_ask a) n who old)
    depends_for events at what.Done h e a n who old o = off h

  -- who gives up never stays
  gives_go : (d : Doing E) (answer : Step) → can_abort d ≡ true → next_said (giving_up d) answer ≡ next.Go
  gives_go Idle answer h = off h
  gives_go (Open txn) answer h = refl
  gives_go (Ending txn lead commit) answer h = go_on commit.going answer h

  module _ {S D : Type 0} (types : Types S E D) (held later : Held E D) (old new : SessionState E) (w : Way) (goes : Bool) (answer : Step) where
    abbrev MadeFrom : SessionState E → Step → Type 0
    MadeFrom start s = (calls : List (Call E)) → Sees types held calls → Holds old calls → MakesStep (λ h (p : Unit {0}) l. Sees types h l) (λ (p : Unit {0}) n. true) later tt calls start new s start.doing (next_of start.doing)

    abbrev TellsFrom : SessionState E → Step → Type 0
    TellsFrom start s = TellsStep (TellsCall types) held later start s (next_of start.doing)

    abbrev StepsOn : Type 0
    StepsOn = (calls : List (Call E)) → Sees types held calls → Holds old calls → TakesStep types held later w answer goes old new calls

    pub commits_on : w ≡ way.Commits → (n : Next) (r : Result (Step × Next) SessionError) → r ≡ Ok (answer, n) → IfOk r (λ x. new ≡ stepped (begun_end old) x.0) → IfOk r (λ x. x.1 ≡ next_said (begun_end old).doing x.0) → IfOk r (λ x. EndsAs old.name (next_of (begun_end old).doing) x.0) → IfOk r (λ x. TellsFrom (begun_end old) x.0) → IfOk r (λ x. MadeFrom (begun_end old) x.0) → (p : Stage) → goes ≡ goes_on p n → p ≡ phase_of new.doing → StepsOn
    commits_on e n r ok is said ended tells made p g stands calls seen holds = subst (λ x. TakesStep types held later x answer goes old new calls) (sym e) (g ∙ (λ i. goes_on (stands i) (ok_is _ r (answer, n) ok said i)), record { is = ok_is _ r (answer, n) ok is; ended = ok_is _ r (answer, n) ok ended; tells = ok_is _ r (answer, n) ok tells; made = ok_is _ r (answer, n) ok made calls seen holds })

    pub gives_on : w ≡ way.GivesUp → (r : Result Step SessionError) → r ≡ Ok answer → (r ≡ Err NoTxn) ↔ (can_abort old.doing ≡ false) → IfOk r (λ x. new ≡ stepped (given_up_end old) x) → IfOk r (λ x. EndsAs old.name (next_of (given_up_end old).doing) x) → IfOk r (λ x. TellsFrom (given_up_end old) x) → IfOk r (λ x. MadeFrom (given_up_end old) x) → (p : Stage) → goes ≡ goes_on p next.Go → p ≡ phase_of new.doing → StepsOn
    gives_on e r ok can is ended tells made p g stands calls seen holds = subst (λ x. TakesStep types held later x answer goes old new calls) (sym e) (g ∙ (λ i. goes_on (stands i) (sym (gives_go old.doing answer (can_of (can_abort old.doing) r answer can ok)) i)), record { is = ok_is _ r answer ok is; ended = ok_is _ r answer ok ended; tells = ok_is _ r answer ok tells; made = ok_is _ r answer ok made calls seen holds })
