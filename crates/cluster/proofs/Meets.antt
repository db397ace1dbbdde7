-- What a command meets before any partition is asked, by how its session stands.
use Rattle.std.proofs.Common.{◌≡◌, ℕ, zero, suc, Bool, true, false, List, [], ◌∷◌, refl, sym, ap, ◌∙◌, subst, Option, None, Some}
use Rattle.std.specs.Prelude.{not, ⊤}
use Rattle.std.proofs.lemmas.Bool.{cond-false, cond-true}
use Rattle.world_model.specs.declared.command.Command.{Command}
use Rattle.world_model.specs.declared.step.Step.{Step}
use Rattle.world_model.specs.declared.step.Step.TheVariants as step
use Rattle.world_model.specs.commands.Answers.{answered}
use Rattle.world_model.specs.commands.Cluster.{has_cluster, parts_of}
use Rattle.world_model.specs.commands.CommitSteps.{Going, Preparing, Finishing, Aborting}
use Rattle.world_model.specs.commands.Meeting.{meets, met}
use Rattle.world_model.specs.commands.Phases as phases
use Rattle.world_model.specs.commands.Phases.{Absent, phase, by_command, is_undecided}
use Rattle.world_model.specs.commands.Refusals.{first_due}
use Rattle.world_model.specs.commands.Run.{Run}
use Rattle.world_model.specs.commands.ScriptAnswers.{AnswersBy}
use Rattle.clocksi_commit.specs.Commit.{is_finishing}
use Rattle.txn_session.specs.Session as session
use Rattle.txn_session.specs.Session.{Doing, Idle, Open, Ending, SessionState}
use Rattle.site_partitions.specs.Reaches.{Types}
use Rattle.cluster.specs.Built.{is_built}
use Rattle.cluster.specs.Live.{LiveState, session_in}
use Rattle.cluster.specs.Reached.{phase_as, StandsBy, StandsAs, ReachedLive, GoesTo, AppliesLive}
use Rattle.cluster.proofs.Mere.{is_mere, mere_faults}
use Rattle.cluster.proofs.Standing.{live_still}

-- all that a command may meet
abbrev pub all_met : Run → Command → List (Bool × Step)
all_met run c = (not (is_built c), step.Unbuilt) ∷ meets run c

-- so many aren't due, and the next one is
abbrev pub FirstAt : List (Bool × Step) → ℕ → Type 0
FirstAt [] k = ⊥
FirstAt (x ∷ rest) zero = x.0 ≡ true
FirstAt (x ∷ rest) (suc k) = (x.0 ≡ false) × FirstAt rest k

abbrev pub step_at : List (Bool × Step) → ℕ → Option Step
step_at [] k = None
step_at (x ∷ rest) zero = Some x.1
step_at (x ∷ rest) (suc k) = step_at rest k

pub first_at : (rs : List (Bool × Step)) (k : ℕ) → FirstAt rs k → first_due rs ≡ step_at rs k
first_at [] k h = absurd h
first_at (x ∷ rest) zero h = cond-true x.0 (Some x.1) (first_due rest) h
first_at (x ∷ rest) (suc k) h = cond-false x.0 (Some x.1) (first_due rest) h.0 ∙ first_at rest k h.1

-- none is due
abbrev pub NoneDue : List (Bool × Step) → Type 0
NoneDue [] = ⊤
NoneDue (x ∷ rest) = (x.0 ≡ false) × NoneDue rest

pub none_due : (rs : List (Bool × Step)) → NoneDue rs → first_due rs ≡ None
none_due [] h = refl
none_due (x ∷ rest) h = cond-false x.0 (Some x.1) (first_due rest) h.0 ∙ none_due rest h.1

module _ {E : Type 0} where
  pub there_as : (d : Doing E) → phases.is_there (phase_as d) ≡ true
  there_as Idle = refl
  there_as (Open txn) = refl
  there_as (Ending txn lead commit) = refl

  pub open_as : (d : Doing E) → phases.is_open (phase_as d) ≡ session.is_open d
  open_as Idle = refl
  open_as (Open txn) = refl
  open_as (Ending txn lead commit) = refl

  pub idle_as : (d : Doing E) → phases.is_idle (phase_as d) ≡ session.is_idle d
  idle_as Idle = refl
  idle_as (Open txn) = refl
  idle_as (Ending txn lead commit) = refl

  pub undecided_as : (d : Doing E) → is_undecided (phase_as d) ≡ session.can_abort d
  undecided_as Idle = refl
  undecided_as (Open txn) = refl
  undecided_as (Ending txn lead commit) = by_going commit.going
    where
      by_going : (g : Going) → is_undecided (phases.Ending txn.tx txn.s g) ≡ not (is_finishing g)
      by_going (Preparing voted left n) = refl
      by_going (Finishing left n) = refl
      by_going (Aborting left) = refl

module _ {S E D : Type 0} (types : Types S E D) where
  -- the command meets this refusal, whatever run left the cluster so
  abbrev pub Meets : LiveState E D → Command → Option Step → Type 0
  Meets c cmd o = (run : Run) → ReachedLive types c run → met is_built run cmd ≡ o

  -- and its line gives no session another phase
  abbrev pub StaysIdle : LiveState E D → Command → Step → Type 0
  StaysIdle c cmd s = (run : Run) → ReachedLive types c run → (who : List ℕ) → by_command (parts_of run) who (phase run who) (Some cmd) s ≡ phase run who

  pub refused : (c : LiveState E D) (cmd : Command) (s : Step) (steps : List Step) → steps ≡ s ∷ [] → is_mere s ≡ true → Meets c cmd (Some s) → StaysIdle c cmd s → AppliesLive types c cmd steps c
  refused c cmd s steps is h m idle number run r = (
    subst (λ o. AnswersBy run cmd steps o) (sym (m run r)) is,
    subst (λ l. GoesTo types c run r c (answered number (Some cmd) l run)) (sym is) (live_still types c number (Some cmd) s run h (idle run r) r),
    mere_faults types.state run c.sites c.sites s steps is h,
  )

  module _ (c : LiveState E D) (run : Run) (r : ReachedLive types c run) (name : List ℕ) where
    pub has : not (has_cluster run) ≡ false
    has = ap not r.has

    -- no session has this name
    pub absent : session_in c.sessions name ≡ None → phase run name ≡ Absent
    absent is = (subst (λ o. StandsAs run r.calls name o) is (r.each name)).0

    pub lacks_session : session_in c.sessions name ≡ None → not (phases.is_there (phase run name)) ≡ true
    lacks_session is = ap (λ p. not (phases.is_there p)) (absent is)

    module _ (s : SessionState E) (is : session_in c.sessions name ≡ Some s) where
      pub by_name : StandsBy run r.calls name s
      by_name = subst (λ o. StandsAs run r.calls name o) is (r.each name)

      pub has_session : not (phases.is_there (phase run name)) ≡ false
      has_session = ap (λ p. not (phases.is_there p)) by_name.phase ∙ ap not (there_as s.doing)

      pub open_is : phases.is_open (phase run name) ≡ session.is_open s.doing
      open_is = ap phases.is_open by_name.phase ∙ open_as s.doing

      pub idle_is : phases.is_idle (phase run name) ≡ session.is_idle s.doing
      idle_is = ap phases.is_idle by_name.phase ∙ idle_as s.doing

      pub undecided_is : is_undecided (phase run name) ≡ session.can_abort s.doing
      undecided_is = ap is_undecided by_name.phase ∙ undecided_as s.doing
