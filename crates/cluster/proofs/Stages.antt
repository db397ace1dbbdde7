-- How far the end of a transaction has come, as its lines tell and as its session holds.
use Rattle.std.proofs.Common.{◌≡◌, ℕ, suc, ◌+◌, ◌<◌, true, false, List, [], ◌∷◌, length, map, refl, sym, ap, ◌∙◌, subst, Option, Some, arith}
use Rattle.std.specs.Prelude.{not, if◌then◌else◌}
use Rattle.std.specs.Str.{bytes_eq}
use Rattle.std.proofs.lemmas.Bool.{true≢false, cond-true, cond-false}
use Rattle.std.proofs.lemmas.List.{length-append}
use Rattle.world_model.specs.declared.commit.Next.TheVariants as next
use Rattle.world_model.specs.declared.step.Step.{Step}
use Rattle.world_model.specs.declared.step.Step.TheVariants as step
use Rattle.world_model.specs.commands.Cluster.{parts_of}
use Rattle.world_model.specs.commands.CommitSteps.{Going, Preparing, Finishing, Aborting, starting, given_up, next_step, is_done, after, after_vote, after_decision, after_finish}
use Rattle.world_model.specs.lines.Lines.{Line}
use Rattle.world_model.specs.commands.Phases as phases
use Rattle.world_model.specs.commands.Phases.{Phase, phase, by_command, going_of, holders}
use Rattle.world_model.specs.commands.Run.{Run}
use Rattle.world_model.specs.commands.ScriptAnswers as script
use Rattle.world_model.specs.commands.ScriptAnswers.{StepsOf}
use Rattle.world_model.specs.commands.ScriptCalls.{for_step, for_commit, asked_of}
use Rattle.world_model.proofs.Names.{off}
use Rattle.clocksi_commit.specs.Commit.{Committing, is_finishing}
use Rattle.txn_session.specs.Session.{Txn, Ending, committed_so}
use Rattle.cluster.specs.declared.commits.Way.{Way}
use Rattle.cluster.specs.declared.commits.Way.TheVariants as way
use Rattle.cluster.proofs.Turning.{has_other_lines}
use Rattle.cluster.specs.Ends.{command_of, turned_to, can_go}
use Rattle.cluster.proofs.Sessions.{own_name}

-- how many steps there may be at most
abbrev pub size : Going → ℕ
size (Preparing voted left n) = suc (length voted + (length left + length left))
size (Finishing left n) = length left
size (Aborting left) = length left

shrinks_vote : (voted : List ℕ) (p : ℕ) (left : List ℕ) (n : ℕ) (s : Step) → (after_vote voted p left n s).1 ≡ next.Go → size (after_vote voted p left n s).0 < size (Preparing voted (p ∷ left) n)
shrinks_vote voted p left n (step.Prepared q t m) h = let e = length-append voted (p ∷ []) in omega (arith, e)
shrinks_vote voted p left n (step.Down q) h = omega arith
shrinks_vote voted p left n (step.Disk q) h = omega arith
shrinks_vote voted p left n other h = absurd cc

shrinks_decision : (lead : ℕ) (others : List ℕ) (n : ℕ) (s : Step) → (after_decision lead others n s).1 ≡ next.Go → size (after_decision lead others n s).0 < size (Preparing (lead ∷ others) [] n)
shrinks_decision lead others n (step.Decided q t c) h = omega arith
shrinks_decision lead others n (step.Gone q t) h = omega arith
shrinks_decision lead others n (step.Unsure t) h = omega arith
shrinks_decision lead others n other h = absurd cc

shrinks_finish : (p : ℕ) (left : List ℕ) (n : ℕ) (s : Step) → (after_finish p left n s).1 ≡ next.Go → size (after_finish p left n s).0 < size (Finishing (p ∷ left) n)
shrinks_finish p left n (step.Finished q t) h = omega arith
shrinks_finish p left n (step.Gone q t) h = omega arith
shrinks_finish p left n other h = absurd cc

-- a step that lets the command go on leaves fewer
pub shrinks : (g : Going) (s : Step) → is_done g ≡ false → (after g s).1 ≡ next.Go → size (after g s).0 < size g
shrinks (Preparing voted (p ∷ left) n) s d h = shrinks_vote voted p left n s h
shrinks (Preparing [] [] n) s d h = absurd (true≢false d)
shrinks (Preparing (lead ∷ others) [] n) s d h = shrinks_decision lead others n s h
shrinks (Finishing (p ∷ left) n) s d h = shrinks_finish p left n s h
shrinks (Finishing [] n) s d h = absurd (true≢false d)
shrinks (Aborting (p ∷ left)) s d h = omega arith
shrinks (Aborting []) s d h = absurd (true≢false d)

pub asked_end : (w : Way) (ls : List Line) (run : Run) (name : List ℕ) (steps : Option ℕ) → asked_of ls run (command_of w name steps) ≡ for_commit (parts_of run) (phase run name) (turned_to w)
asked_end way.Commits ls run name steps = refl
asked_end way.GivesUp ls run name steps = refl

pub of_way : (w : Way) (name : List ℕ) (steps : Option ℕ) → has_other_lines (command_of w name steps) ≡ false
of_way way.Commits name steps = refl
of_way way.GivesUp name steps = refl

pub idle_end : (w : Way) (parts : ℕ) (name who : List ℕ) (steps : Option ℕ) (old : Phase) → bytes_eq name who ≡ false → (line : Step) → by_command parts who old (Some (command_of w name steps)) line ≡ old
idle_end way.Commits parts name who steps old q line = cond-false (bytes_eq name who) _ old q
idle_end way.GivesUp parts name who steps old q line = cond-false (bytes_eq name who) _ old q

module _ {E : Type 0} where
  -- how far the end of a session's transaction has come, as lines tell and as a command takes it up
  pub record IsStage (parts : ℕ) (w : Way) (name : List ℕ) (steps : Option ℕ) (p : Phase) (txn : Txn E) (g : Going) : Type 0 where
    pub lines : (left : Option ℕ) (rest : List Step) → script.Steps name g left rest → StepsOf name (going_of parts p) (turned_to w) left rest
    pub by : (answer : Step) → by_command parts name p (Some (command_of w name steps)) answer ≡ phases.Ending txn.tx txn.s (after g answer).0
    pub placed : for_commit parts p (turned_to w) ≡ for_step txn.tx (next_step txn.tx.site txn.s g)
    -- and the next command finds it so
    pub again : (answer : Step) → turned_to w (after g answer).0 ≡ (after g answer).0
    pub can : (answer : Step) (lead : ℕ) (commit : Committing) → can_go w (Ending txn lead (committed_so commit (after g answer).0)) ≡ true

  module _ (parts : ℕ) (name : List ℕ) (steps : Option ℕ) (txn : Txn E) where
    named : (p q : Phase) → (if bytes_eq name name then p else q) ≡ p
    named p q = cond-true (bytes_eq name name) p q (own_name name)

    pub stage_opened : (g : Going) → starting (holders parts (map (λ u. u.object) txn.updates)) ≡ g → IsStage parts way.Commits name steps (phases.Open txn.tx txn.s (map (λ u. u.object) txn.updates)) txn g
    stage_opened g e = record {
      lines = λ left rest h. subst (λ x. script.Steps name x left rest) (sym e) h;
      by = λ answer. named _ _ ∙ ap (λ x. phases.Ending txn.tx txn.s (after x answer).0) e;
      placed = ap (λ x. for_step txn.tx (next_step txn.tx.site txn.s x)) e;
      again = λ answer. refl;
      can = λ answer lead commit. refl;
    }

    pub stage_committing : (g : Going) → IsStage parts way.Commits name steps (phases.Ending txn.tx txn.s g) txn g
    stage_committing g = record { lines = λ left rest h. h; by = λ answer. named _ _; placed = refl; again = λ answer. refl; can = λ answer lead commit. refl }

    pub stage_giving : (g : Going) → not (is_finishing g) ≡ true → IsStage parts way.GivesUp name steps (phases.Ending txn.tx txn.s g) txn (given_up g)
    stage_giving (Preparing [] left n) h = record { lines = λ l rest k. k; by = λ answer. named _ _; placed = refl; again = λ answer. refl; can = λ answer lead commit. refl }
    stage_giving (Preparing (v ∷ voted) left n) h = record { lines = λ l rest k. k; by = λ answer. named _ _; placed = refl; again = λ answer. refl; can = λ answer lead commit. refl }
    stage_giving (Finishing left n) h = off h
    stage_giving (Aborting []) h = record { lines = λ l rest k. k; by = λ answer. named _ _; placed = refl; again = λ answer. refl; can = λ answer lead commit. refl }
    stage_giving (Aborting (p ∷ left)) h = record { lines = λ l rest k. k; by = λ answer. named _ _; placed = refl; again = λ answer. refl; can = λ answer lead commit. refl }

    -- an open transaction that is given up has nothing to do
    pub over_opened : (left : Option ℕ) → StepsOf name (going_of parts (phases.Open txn.tx txn.s (map (λ u. u.object) txn.updates))) given_up left (step.Ended name ∷ [])
    over_opened left = (refl, refl)
