-- The steps of the end of a session's transaction, one after another, answer their command.
use Rattle.std.proofs.Common.{◌≡◌, ℕ, ◌<◌, Bool, true, false, List, [], ◌∷◌, ◌++◌, refl, sym, ap, ◌∙◌, subst, Option, None, Some}
use Rattle.std.specs.Prelude.{not, if◌then◌else◌}
use Rattle.std.specs.Str.{bytes_eq}
use Rattle.std.proofs.lemmas.Bool.{true≢false, cond-true}
use Rattle.std.proofs.lemmas.List.{append_assoc}
use Rattle.world_model.specs.declared.command.Command.{Command}
use Rattle.world_model.specs.declared.command.Command.TheVariants as command
use Rattle.world_model.specs.declared.commit.What.TheVariants as what
use Rattle.world_model.specs.declared.step.Step.{Step}
use Rattle.world_model.specs.declared.step.Step.TheVariants as step
use Rattle.world_model.specs.commands.Answers.{answered}
use Rattle.world_model.specs.commands.Cluster.{parts_of}
use Rattle.world_model.specs.commands.CommitSteps.{Going, Preparing, Finishing, Aborting}
use Rattle.world_model.specs.commands.Phases as phases
use Rattle.world_model.specs.commands.Phases.{Phase, phase, committing, aborting}
use Rattle.world_model.specs.commands.Run.{Run}
use Rattle.world_model.specs.commands.ScriptAnswers.{AnswersBy, IsAnswer, fewer}
use Rattle.world_model.specs.commands.ScriptCalls.{calls_of}
use Rattle.world_model.specs.lines.Updates.{lead}
use Rattle.site_vector.specs.declared.ids.TxId.{TxId}
use Rattle.cluster.specs.Faults.{ShowFaults}
use Rattle.cluster.proofs.Faulted.{show_first, show_more, shows_last, shows_as}
use Rattle.world_model.proofs.Names.{off}
use Rattle.txn_session.specs.Holds.{next_of}
use Rattle.txn_session.specs.declared.phase.Phase.{Phase as Stage}
use Rattle.txn_session.specs.Session as session
use Rattle.txn_session.specs.Session.{Doing, Idle, Open, Ending, SessionState}
use Rattle.site_partitions.specs.Reaches.{Types}
use Rattle.cluster.specs.declared.commits.Way.{Way}
use Rattle.cluster.specs.declared.commits.Way.TheVariants as way
use Rattle.cluster.specs.Acts.{Acts}
use Rattle.cluster.specs.Built.{is_built}
use Rattle.cluster.specs.Ends.{MayFollow, MayMake, Leads, TakesStep, can_end, can_go, command_of, is_undecided_phase, on_way, stops}
use Rattle.site_partitions.specs.Held.{Held}
use Rattle.cluster.specs.Live.{LiveState, session_in, phase_in, phase_about, is_idle_phase}
use Rattle.cluster.specs.Reached.{phase_as, ReachedLive, GoesTo, AppliesLive, IsReachedLive}
use Rattle.cluster.proofs.Beginning.{idle_phase}
use Rattle.cluster.proofs.Standing.{goes_none, goes_both}
use Rattle.cluster.proofs.Meets.{all_met, first_at, none_due, refused, has, absent, lacks_session, by_name, has_session, idle_is, undecided_is}
use Rattle.cluster.proofs.Sessions.{own_name, same_name}
use Rattle.cluster.proofs.Stepping.{Follows, GoesSo, one_step, steps_left}

pub answered_more : (number : ℕ) (asked : Option Command) (lines : List Step) (s : Step) (run : Run) → answered number asked (lines ++ s ∷ []) run ≡ (record { number = number; command = asked; step = s }) ∷ answered number asked lines run
answered_more number asked [] s run = refl
answered_more number asked (x ∷ lines) s run = answered_more number asked lines s ((record { number = number; command = asked; step = x }) ∷ run)

module _ {E : Type 0} where
  -- the session is there and may go on; with no more steps to make, none is left
  pub record MayGoOn (w : Way) (name : List ℕ) (left : Option ℕ) (sessions : List (List ℕ × SessionState E)) : Type 0 where
    pub found : SessionState E
    pub is : session_in sessions name ≡ Some found
    pub can : can_go w found.doing ≡ true
    pub count : left ≡ Some 0 → next_of (on_way w found).doing ≡ what.Done

  no_count : (w : Way) (s : SessionState E) (steps : Option ℕ) → MayMake w steps → steps ≡ Some 0 → next_of (on_way w s).doing ≡ what.Done
  no_count way.Commits s steps m e = absurd (m e)
  no_count way.GivesUp s steps m e = absurd cc

  may_start : (w : Way) (name : List ℕ) (steps : Option ℕ) (sessions : List (List ℕ × SessionState E)) → MayMake w steps → (o : Option (SessionState E)) → session_in sessions name ≡ o → can_end w o ≡ true → MayGoOn w name steps sessions
  may_start w name steps sessions m None e h = off h
  may_start w name steps sessions m (Some s) e h = record { found = s; is = e; can = h; count = no_count w s steps m }

module _ {S E D : Type 0} (types : Types S E D) (old : LiveState E D) (w : Way) (name : List ℕ) (steps : Option ℕ) where
  -- the steps so far led from the old cluster to this one, and it may go on
  pub record IsOnWay (now : LiveState E D) (left : Option ℕ) (lines : List Step) : Type 0 where
    pub may : MayGoOn w name left now.sessions
    pub reached : IsReachedLive types now
    pub leads : Leads types old now w name steps left lines

  pub at_start : MayMake w steps → can_end w (session_in old.sessions name) ≡ true → IsReachedLive types old → IsOnWay old steps []
  at_start m h r = record { may = may_start w name steps old.sessions m (session_in old.sessions name) refl h; reached = r; leads = λ number run x. record { goes = goes_none types old run x; tells = tt; leads = λ t. refl; follow = λ rest y. y } }

  answers_so : MayMake w steps → can_end w (session_in old.sessions name) ≡ true → (run : Run) → ReachedLive types old run → (lines : List Step) → MayFollow w name run steps lines → IsAnswer is_built run (command_of w name steps) lines
  answers_so m h run r lines f = by_session (session_in old.sessions name) refl h
    where
      of_way : (x : Way) (s : SessionState E) → session_in old.sessions name ≡ Some s → can_go x s.doing ≡ true → MayMake x steps → MayFollow x name run steps lines → IsAnswer is_built run (command_of x name steps) lines
      of_way way.Commits s is can may g = subst (AnswersBy run (command.Commit name steps) lines) (sym (none_due (all_met run (command.Commit name steps)) (refl, (has types old run r name, (has_session types old run r name s is, (idle_is types old run r name s is ∙ not_so (session.is_idle s.doing) can, tt)))))) g
        where
          not_so : (b : Bool) → not b ≡ true → b ≡ false
          not_so true k = off k
          not_so false k = refl
      of_way way.GivesUp s is can may g = subst (AnswersBy run (command.Abort name) lines) (sym (none_due (all_met run (command.Abort name)) (refl, (has types old run r name, (has_session types old run r name s is, (ap not (undecided_is types old run r name s is ∙ can), tt)))))) (subst (λ k. MayFollow way.GivesUp name run k lines) may g)

      by_session : (o : Option (SessionState E)) → session_in old.sessions name ≡ o → can_end w o ≡ true → IsAnswer is_built run (command_of w name steps) lines
      by_session None e k = off k
      by_session (Some s) e k = of_way w s e k m f

  module _ (now : LiveState E D) (left : Option ℕ) (lines : List Step) (on : IsOnWay now left lines) where
    pub may_end : can_end w (session_in now.sessions name) ≡ true
    may_end = ap (can_end w) on.may.is ∙ on.may.can

    module _ (later : Held E D) (sessions : List (List ℕ × SessionState E)) (answer : Step) (goes : Bool) (a : Acts types now.sites now.sessions name later sessions (TakesStep types now.sites later w answer goes)) where
      abbrev new : LiveState E D
      new = record { sites = later; sessions = sessions }

      found_is : on.may.found ≡ a.before
      found_is = let e : Some on.may.found ≡ Some a.before = sym on.may.is ∙ a.is in cc

      new_is : session_in sessions name ≡ Some a.after
      new_is = a.put.find name ∙ cond-true (bytes_eq name name) (Some a.after) (session_in now.sessions name) (own_name name)

      can_before : can_go w a.before.doing ≡ true
      can_before = subst (λ s. can_go w s.doing ≡ true) found_is on.may.can

      count_before : left ≡ Some 0 → next_of (on_way w a.before).doing ≡ what.Done
      count_before = subst (λ s. left ≡ Some 0 → next_of (on_way w s).doing ≡ what.Done) found_is on.may.count

      goes_so : (number : ℕ) (run : Run) (r : ReachedLive types now run) → GoesSo types now run r number name a.before a.is w steps later sessions a.after answer goes a.same a.put (a.does r.calls r.sees (by_name types now run r name a.before a.is).holds)
      goes_so number run r = one_step types now run r number name a.before a.is w steps later sessions a.after answer goes a.same a.put (a.does r.calls r.sees (by_name types now run r name a.before a.is).holds) can_before

      -- whatever follows the next line follows the old cluster's run with all of them
      follows_so : (number : ℕ) (run : Run) (r : ReachedLive types old run) (rest : List Step) → Follows goes w name ((record { number = number; command = Some (command_of w name steps); step = answer }) ∷ answered number (Some (command_of w name steps)) lines run) left rest → MayFollow w name run steps (lines ++ answer ∷ rest)
      follows_so number run r rest f = let led = on.leads number run r in led.follow (answer ∷ rest) ((goes_so number (answered number (Some (command_of w name steps)) lines run) led.goes.reached).follow left rest count_before f)

      abbrev lines_so : List Step
      lines_so = lines ++ answer ∷ []

      abbrev after_so : ℕ → Run → Run
      after_so number run = answered number (Some (command_of w name steps)) lines_so run

      -- each line tells of the disks before and after the command
      tells_so : (number : ℕ) (run : Run) (r : ReachedLive types old run) → ShowFaults types.state run old.sites later lines_so
      tells_so number run r =
          let led = on.leads number run r in
          let next = goes_so number (answered number (Some (command_of w name steps)) lines run) led.goes.reached in
          show_more types.state run old.sites later lines answer (show_first types.state run old.sites now.sites later lines a.same led.tells)
          (shows_last types.state run old.sites now.sites later answer led.goes.same (shows_as types.state (answered number (Some (command_of w name steps)) lines run) run now.sites later answer led.leads next.tells))

      leads_so : (number : ℕ) (run : Run) (r : ReachedLive types old run) (t : TxId) → lead (parts_of (after_so number run)) (calls_of (after_so number run)) t ≡ lead (parts_of run) (calls_of run) t
      leads_so number run r t =
          let led = on.leads number run r in
          let next = goes_so number (answered number (Some (command_of w name steps)) lines run) led.goes.reached in
          ap (λ l. lead (parts_of l) (calls_of l) t) (answered_more number (Some (command_of w name steps)) lines answer run) ∙ (next.leads t ∙ led.leads t)

      reached_so : (number : ℕ) (run : Run) (r : ReachedLive types old run) → GoesTo types old run r new (answered number (Some (command_of w name steps)) (lines ++ answer ∷ []) run)
      reached_so number run r =
          let led = on.leads number run r in
          let middle : Run = answered number (Some (command_of w name steps)) lines run in
          subst (λ l. GoesTo types old run r new l) (sym (answered_more number (Some (command_of w name steps)) lines answer run)) (goes_both types old run r now middle led.goes new _ (goes_so number middle led.goes.reached).reached)

      applies_so : MayMake w steps → can_end w (session_in old.sessions name) ≡ true → ((number : ℕ) (run : Run) (r : ReachedLive types old run) → Follows goes w name ((record { number = number; command = Some (command_of w name steps); step = answer }) ∷ answered number (Some (command_of w name steps)) lines run) left []) → AppliesLive types old (command_of w name steps) (lines ++ answer ∷ []) new
      applies_so m h f number run r = (answers_so m h run r (lines ++ answer ∷ []) (follows_so number run r [] (f number run r)), reached_so number run r, tells_so number run r)

      -- it ended
      pub at_end : goes ≡ false → MayMake w steps → can_end w (session_in old.sessions name) ≡ true → AppliesLive types old (command_of w name steps) (lines ++ answer ∷ []) new
      at_end g m h = applies_so m h (λ number run r. subst (λ b. Follows b w name ((record { number = number; command = Some (command_of w name steps); step = answer }) ∷ answered number (Some (command_of w name steps)) lines run) left []) (sym g) refl)

      -- all steps were made
      pub at_stop : goes ≡ true → stops (fewer left) (session_in sessions name) ≡ true → MayMake w steps → can_end w (session_in old.sessions name) ≡ true → AppliesLive types old (command_of w name steps) (lines ++ answer ∷ []) new
      at_stop g k m h = applies_so m h (λ number run r. let led = on.leads number run r in
          subst (λ b. Follows b w name ((record { number = number; command = Some (command_of w name steps); step = answer }) ∷ answered number (Some (command_of w name steps)) lines run) left []) (sym g)
          ((goes_so number (answered number (Some (command_of w name steps)) lines run) led.goes.reached).stop (fewer left) g (ap (stops (fewer left)) (sym new_is) ∙ k)))

      in_some : GoesSo types now on.reached.run on.reached.reached 0 name a.before a.is w steps later sessions a.after answer goes a.same a.put (a.does on.reached.reached.calls on.reached.reached.sees (by_name types now on.reached.run on.reached.reached name a.before a.is).holds)
      in_some = goes_so 0 on.reached.run on.reached.reached

      -- it goes on
      pub at_next : goes ≡ true → stops (fewer left) (session_in sessions name) ≡ false → IsOnWay new (fewer left) (lines ++ answer ∷ [])
      at_next g k = record {
        may = record { found = a.after; is = new_is; can = in_some.can g; count = in_some.more (fewer left) g (ap (stops (fewer left)) (sym new_is) ∙ k) };
        reached = record { run = _; reached = in_some.reached.reached };
        leads = λ number run r. record {
          goes = reached_so number run r;
          tells = tells_so number run r;
          leads = λ t. leads_so number run r t;
          follow = λ rest f. subst (λ l. MayFollow w name run steps l) (sym (append_assoc lines (answer ∷ []) rest))
              (follows_so number run r rest (subst (λ b. Follows b w name ((record { number = number; command = Some (command_of w name steps); step = answer }) ∷ answered number (Some (command_of w name steps)) lines run) left rest) (sym g)
              (subst (λ l. MayFollow w name l (fewer left) rest) (answered_more number (Some (command_of w name steps)) lines answer run) f)));
        };
      }

      -- with fewer steps left
      pub at_fewer : goes ≡ true → steps_left w (session_in sessions name) < steps_left w (session_in now.sessions name)
      at_fewer g = subst (λ o. steps_left w o < steps_left w (session_in now.sessions name)) (sym new_is) (subst (λ o. steps_left w (Some a.after) < steps_left w o) (sym a.is) (in_some.less g))

module _ {E : Type 0} where
  -- a session that is there stands so
  pub record IsAbout (o : Option (SessionState E)) (p : Stage) : Type 0 where
    pub found : SessionState E
    pub is : o ≡ Some found
    pub so : session.phase_of found.doing ≡ p

  pub about : (o : Option (SessionState E)) (p : Stage) → phase_about o ≡ Some p → IsAbout o p
  about None p h = absurd cc
  about (Some s) p h = record { found = s; is = refl; so = cc }

  undecided_phase : (d : Doing E) → is_undecided_phase (session.phase_of d) ≡ session.can_abort d
  undecided_phase Idle = refl
  undecided_phase (Open txn) = refl
  undecided_phase (Ending txn lead commit) = by_going commit.going
    where
      by_going : (g : Going) → is_undecided_phase (session.phase_in g) ≡ session.can_abort (Ending txn lead (session.committed_so commit g))
      by_going (Preparing voted left n) = refl
      by_going (Finishing left n) = refl
      by_going (Aborting left) = refl

  pub can_commit : (o : Option (SessionState E)) (p : Stage) → phase_about o ≡ Some p → is_idle_phase p ≡ false → can_end way.Commits o ≡ true
  can_commit o p h k = let x = about o p h in ap (can_end way.Commits) x.is ∙ ap not (sym (idle_phase x.found.doing) ∙ (ap is_idle_phase x.so ∙ k))

  pub can_abort : (o : Option (SessionState E)) (p : Stage) → phase_about o ≡ Some p → is_undecided_phase p ≡ true → can_end way.GivesUp o ≡ true
  can_abort o p h k = let x = about o p h in ap (can_end way.GivesUp) x.is ∙ (sym (undecided_phase x.found.doing) ∙ (ap is_undecided_phase x.so ∙ k))

still_as : (name who : List ℕ) (p : List ℕ → Phase) (f : Phase → Phase) → f (p name) ≡ p name → (if bytes_eq name who then f (p who) else p who) ≡ p who
still_as name who p f k = by_test (bytes_eq name who) refl
  where
    by_test : (b : Bool) → bytes_eq name who ≡ b → (if b then f (p who) else p who) ≡ p who
    by_test true h = subst (λ n. f (p n) ≡ p n) (same_name name who h) k
    by_test false h = refl

module _ {S E D : Type 0} (types : Types S E D) (c : LiveState E D) (name : List ℕ) (lines : List Step) where
  pub commit_absent : (steps : Option ℕ) → lines ≡ step.NoSession ∷ [] → session_in c.sessions name ≡ None → AppliesLive types c (command.Commit name steps) lines c
  commit_absent steps is none = refused types c (command.Commit name steps) step.NoSession lines is refl
      (λ run r. first_at (all_met run (command.Commit name steps)) 2 (refl, (has types c run r name, lacks_session types c run r name none)))
      (λ run r who. still_as name who (phase run) (λ p. committing (parts_of run) p step.NoSession) (subst (λ p. committing (parts_of run) p step.NoSession ≡ p) (sym (absent types c run r name none)) refl))

  pub abort_absent : lines ≡ step.NoSession ∷ [] → session_in c.sessions name ≡ None → AppliesLive types c (command.Abort name) lines c
  abort_absent is none = refused types c (command.Abort name) step.NoSession lines is refl
      (λ run r. first_at (all_met run (command.Abort name)) 2 (refl, (has types c run r name, lacks_session types c run r name none)))
      (λ run r who. still_as name who (phase run) (λ p. aborting p step.NoSession) (subst (λ p. aborting p step.NoSession ≡ p) (sym (absent types c run r name none)) refl))

  still_idle : (parts : ℕ) (d : Doing E) → session.is_idle d ≡ true → committing parts (phase_as d) step.NoTxn ≡ phase_as d
  still_idle parts Idle h = refl
  still_idle parts (Open txn) h = off h
  still_idle parts (Ending txn lead commit) h = off h

  still_decided : (d : Doing E) → session.can_abort d ≡ false → aborting (phase_as d) step.NoTxn ≡ phase_as d
  still_decided Idle h = refl
  still_decided (Open txn) h = absurd (true≢false h)
  still_decided (Ending txn lead commit) h = by_going commit.going h
    where
      by_going : (g : Going) → session.can_abort (Ending txn lead (session.committed_so commit g)) ≡ false → aborting (phases.Ending txn.tx txn.s g) step.NoTxn ≡ phases.Ending txn.tx txn.s g
      by_going (Preparing voted left n) k = absurd (true≢false k)
      by_going (Finishing left n) k = refl
      by_going (Aborting left) k = absurd (true≢false k)

  pub commit_idle : (steps : Option ℕ) (p : Stage) → lines ≡ step.NoTxn ∷ [] → phase_in c.sessions name ≡ Some p → is_idle_phase p ≡ true → AppliesLive types c (command.Commit name steps) lines c
  commit_idle steps p is h k = let x = about (session_in c.sessions name) p h in
      let idle : session.is_idle x.found.doing ≡ true = sym (idle_phase x.found.doing) ∙ (ap is_idle_phase x.so ∙ k) in
      refused types c (command.Commit name steps) step.NoTxn lines is refl
      (λ run r. first_at (all_met run (command.Commit name steps)) 3 (refl, (has types c run r name, (has_session types c run r name x.found x.is, idle_is types c run r name x.found x.is ∙ idle))))
      (λ run r who. still_as name who (phase run) (λ p. committing (parts_of run) p step.NoTxn) (subst (λ p. committing (parts_of run) p step.NoTxn ≡ p) (sym (by_name types c run r name x.found x.is).phase) (still_idle (parts_of run) x.found.doing idle)))

  pub abort_decided : (p : Stage) → lines ≡ step.NoTxn ∷ [] → phase_in c.sessions name ≡ Some p → is_undecided_phase p ≡ false → AppliesLive types c (command.Abort name) lines c
  abort_decided p is h k = let x = about (session_in c.sessions name) p h in
      let decided : session.can_abort x.found.doing ≡ false = sym (undecided_phase x.found.doing) ∙ (ap is_undecided_phase x.so ∙ k) in
      refused types c (command.Abort name) step.NoTxn lines is refl
      (λ run r. first_at (all_met run (command.Abort name)) 3 (refl, (has types c run r name, (has_session types c run r name x.found x.is, ap not (undecided_is types c run r name x.found x.is ∙ decided)))))
      (λ run r who. still_as name who (phase run) (λ p. aborting p step.NoTxn) (subst (λ p. aborting p step.NoTxn ≡ p) (sym (by_name types c run r name x.found x.is).phase) (still_decided x.found.doing decided)))
