-- Of two runs that answer a script the one is the other: the induction over its lines.
use Rattle.std.proofs.Common.{◌≡◌, ⊎_elim, ℕ, ◌+◌, cond, Bool, true, false, not, ◌&&◌, List, [], ◌∷◌, length, Option, None, Some, refl, sym, ap, ◌∙◌, subst, ◌||◌}
use Rattle.std.specs.Prelude.{⊤}
use Rattle.std.specs.List.{list_all}
use Rattle.std.proofs.lemmas.Bool.{cases_Bool, cond-true, cond-false, cond_both, and_parts, or_parts, and_right}
use Rattle.site_vector.specs.declared.ids.PartId.{PartId}
use Rattle.site_vector.specs.declared.ids.TxId.{TxId}
use Rattle.crdt_core.specs.declared.kind.Kind.{Kind}
use Rattle.crdt_core.specs.declared.object.Field.{Field}
use Rattle.crdt_core.specs.declared.value.Value.{Value}
use Rattle.crdt_core.specs.Seen.{Update}
use Rattle.world_model.proofs.Names.{clash, off}
use Rattle.world_model.specs.declared.command.Command.{Command}
use Rattle.world_model.specs.declared.command.Command.TheVariants as command
use Rattle.world_model.specs.declared.commit.Next.{Next}
use Rattle.world_model.specs.declared.commit.Next.TheVariants as next
use Rattle.world_model.specs.declared.step.Step.{Step}
use Rattle.world_model.specs.declared.step.Step.TheVariants as step
use Rattle.world_model.specs.commands.Answers.{answered, Asked, nothing, unreadable, asks}
use Rattle.world_model.specs.commands.Cluster.{has_cluster, is_cluster, sites_of, sites_after, parts_of, parts_after}
use Rattle.world_model.specs.commands.CommitSteps.{Going, given_up, is_done, after}
use Rattle.world_model.specs.commands.Meeting.{met, meets}
use Rattle.world_model.specs.commands.Phases.{going_of, phase}
use Rattle.world_model.specs.commands.Refusals.{first_due}
use Rattle.world_model.specs.commands.Run.{Run}
use Rattle.world_model.specs.commands.ScriptAnswers.{Either, Then, IsOneAnswer, fewer, Steps, StepsOf, IsMade, Replies, AnswersBy, IsAnswer, GoesOn, Answers}
use Rattle.world_model.specs.commands.ScriptCalls.{is_answer, is_unasked, is_called, calls_of}
use Rattle.world_model.specs.commands.Settling.{asks_abort, looked_up, settled, stays, is_unwritten, SettlesAll}
use Rattle.world_model.specs.lines.Fate.{is_committed_at}
use Rattle.world_model.specs.lines.History.{in_history}
use Rattle.world_model.specs.lines.Lines.{Line}
use Rattle.world_model.specs.lines.Pending.{is_down, pending}
use Rattle.world_model.specs.lines.Places.{IsPlace}
use Rattle.world_model.specs.lines.Waiting.{waiting}
use Rattle.one_run.specs.Tells.{Tells}
use Rattle.one_run.specs.OneRun.{IsCalm, is_calm, is_restart_of, is_free, IsTold, LawOneTold, LawOneLawful, LawOneRun}
use Rattle.one_run.proofs.Called.{told_front, shows_front}
use Rattle.one_run.proofs.NextLine.{tells}
use Rattle.one_run.proofs.OneRun.{either_true, either_false, one_command}

-- no cluster is made by these lines
abbrev MakeNone : List Step → Type 0
MakeNone [] = ⊤
MakeNone (s ∷ steps) = (is_cluster s ≡ false) × MakeNone steps

make_none : (s : Step) (steps : List Step) → is_cluster s ≡ false → steps ≡ s ∷ [] → MakeNone steps
make_none s steps h e = subst MakeNone (sym e) (h, tt)

answer_makes_none : (s : Step) → is_answer s ≡ true → is_cluster s ≡ false
answer_makes_none (step.MadeCluster n m) h = off h
answer_makes_none s h = refl

unwritten_makes_none : (s : Step) → is_unwritten s ≡ true → is_cluster s ≡ false
unwritten_makes_none (step.MadeCluster n m) h = off h
unwritten_makes_none s h = refl

-- what a command meets is no answer of a partition, and makes no cluster
abbrev is_refusal : Bool × Step → Bool
is_refusal r = not (is_answer r.1) && not (is_cluster r.1)

refusals : (run : Run) (c : Command) → list_all is_refusal (meets run c) ≡ true
refusals run (command.Cluster n m) = refl
refusals run (command.Clock p n) = refl
refusals run (command.Session name site) = refl
refusals run (command.Move name site) = refl
refusals run (command.Lose name) = refl
refusals run (command.Begin name part mode) = refl
refusals run (command.Read name o) = refl
refusals run (command.Update name o op) = refl
refusals run (command.Commit name n) = refl
refusals run (command.Abort name) = refl
refusals run (command.Send p site from) = refl
refusals run (command.Deliver n) = refl
refusals run (command.DropMessage n) = refl
refusals run (command.DropReport n) = refl
refusals run (command.Report p) = refl
refusals run (command.Hear n p) = refl
refusals run (command.Expire p t) = refl
refusals run (command.Settle p) = refl
refusals run (command.Crash p) = refl
refusals run (command.Fuse p n m) = refl
refusals run (command.Restart p) = refl

abbrev IsOk : Option Step → Type 0
IsOk None = ⊤
IsOk (Some x) = is_refusal (true, x) ≡ true

due_is : (rs : List (Bool × Step)) (s : Step) → list_all is_refusal rs ≡ true → first_due rs ≡ Some s → is_refusal (true, s) ≡ true
due_is [] s h e = absurd (cc e)
due_is (r ∷ rs) s h e =
    let x = and_parts (is_refusal r) (list_all is_refusal rs) h in ⊎_elim
    (λ (k : r.0 ≡ true). let same : Some r.1 ≡ Some s = sym (cond-true r.0 (Some r.1) (first_due rs) k) ∙ e in subst (λ (o : Option Step). IsOk o) same x.0)
    (λ (k : r.0 ≡ false). due_is rs s x.1 (sym (cond-false r.0 (Some r.1) (first_due rs) k) ∙ e))
    (cases_Bool r.0)

met_is : (is_built : Command → Bool) (run : Run) (c : Command) (s : Step) → met is_built run c ≡ Some s → (is_answer s ≡ false) × (is_cluster s ≡ false)
met_is is_built run c s e =
    let x = and_parts (not (is_answer s)) (not (is_cluster s)) (due_is ((not (is_built c), step.Unbuilt) ∷ meets run c) s (refusals run c) e) in (flip (is_answer s) x.0, flip (is_cluster s) x.1)
  where
    flip : (b : Bool) → not b ≡ true → b ≡ false
    flip true h = off h
    flip false h = refl

second_due : (a b : Bool) (s t : Step) (rs : List (Bool × Step)) → first_due ((a, s) ∷ (b, t) ∷ rs) ≡ None → b ≡ false
second_due true b s t rs e = absurd (cc e)
second_due false true s t rs e = absurd (cc e)
second_due false false s t rs e = refl

not_false : (b : Bool) → not b ≡ false → b ≡ true
not_false true h = refl
not_false false h = off (sym h)

abbrev later : List (Bool × Step) → List (Bool × Step)
later [] = []
later (r ∷ rs) = rs

-- a command that meets nothing stands behind a cluster, but for one that makes it
abbrev NeedsCluster : Run → Command → Type 0
NeedsCluster run (command.Cluster n m) = has_cluster run ≡ false
NeedsCluster run c = has_cluster run ≡ true

unmet : (is_built : Command → Bool) (run : Run) (c : Command) → met is_built run c ≡ None → NeedsCluster run c
unmet is_built run (command.Cluster n m) e = second_due (not (is_built (command.Cluster n m))) (has_cluster run) _ _ [] e
unmet is_built run c e = not_false (has_cluster run) (second_due (not (is_built c)) (not (has_cluster run)) step.Unbuilt step.NoCluster (later (meets run c)) e)

-- no reply but that to the command that makes a cluster makes one
settled_makes_none : (parts : ℕ) (ls : List Line) (p : PartId) (t : TxId) → is_cluster (settled parts ls p t) ≡ false
settled_makes_none parts ls p t = cond_both (stays parts ls p t) (step.Pending p t) (cond (in_history ls t) (step.Finished p t) (step.Aborted p t)) (λ s. is_cluster s ≡ false) (λ e. refl) (λ e. cond_both (in_history ls t) (step.Finished p t) (step.Aborted p t) (λ s. is_cluster s ≡ false) (λ x. refl) (λ x. refl))

looked_makes_none : (ls : List Line) (p : PartId) (t : TxId) → is_cluster (looked_up ls p t) ≡ false
looked_makes_none ls p t = cond_both (pending ls p t) (step.Pending p t) (cond (is_committed_at ls ls p t) (step.Finished p t) (step.Gone p t)) (λ s. is_cluster s ≡ false) (λ e. refl) (λ e. cond_both (is_committed_at ls ls p t) (step.Finished p t) (step.Gone p t) (λ s. is_cluster s ≡ false) (λ x. refl) (λ x. refl))

one_makes_none : (run : Run) (c : Command) (steps : List Step) → IsOneAnswer run c steps → MakeNone steps
one_makes_none run c steps h = make_none h.0 steps (answer_makes_none h.0 (and_parts (is_answer h.0) _ h.2).0) h.1

settle_makes_none : (parts : ℕ) (ls : List Line) (p : PartId) (waits : List (TxId × ℕ)) (steps : List Step) → SettlesAll parts ls p waits steps → MakeNone steps
settle_makes_none parts ls p waits [] h = absurd h
settle_makes_none parts ls p [] (s ∷ steps) h = (subst (λ x. is_cluster x ≡ false) (sym h.0) refl, subst MakeNone (sym h.1) tt)
settle_makes_none parts ls p (x ∷ waits) (s ∷ steps) h = ⊎_elim
    (λ (a : (s ≡ settled parts ls p x.0) × SettlesAll parts ls p waits steps). (subst (λ y. is_cluster y ≡ false) (sym a.0) (settled_makes_none parts ls p x.0), settle_makes_none parts ls p waits steps a.1))
    (λ (a : (stays parts ls p x.0 ≡ false) × (is_unwritten s ≡ true) × (steps ≡ [])). (unwritten_makes_none s a.1, subst MakeNone (sym a.2) tt))
    h

then_makes_none : (n : Next) (steps : List Step) (A : Type 0) → (A → MakeNone steps) → Then n (steps ≡ []) A → MakeNone steps
then_makes_none next.Stay steps A f h = subst MakeNone (sym h) tt
then_makes_none next.Go steps A f h = f h

steps_make_none : (name : List ℕ) (g : Going) (k : Option ℕ) (steps : List Step) → Steps name g k steps → MakeNone steps
steps_make_none name g k [] h = tt
steps_make_none name g k (s ∷ steps) h = ⊎_elim
    (λ (t : is_done g ≡ true). let x = either_true (is_done g) _ _ t h in (subst (λ y. is_cluster y ≡ false) (sym x.0) refl, subst MakeNone (sym x.1) tt))
    (λ (t : is_done g ≡ false). let x = either_false (is_done g) _ _ t h in (answer_makes_none s x.1, then_makes_none (after g s).1 steps (Steps name (after g s).0 (fewer k) steps) (λ y. steps_make_none name (after g s).0 (fewer k) steps y) x.2))
    (cases_Bool (is_done g))

steps_of_make_none : (name : List ℕ) (g : Option Going) (f : Going → Going) (k : Option ℕ) (steps : List Step) → StepsOf name g f k steps → MakeNone steps
steps_of_make_none name None f k steps h = absurd h
steps_of_make_none name (Some g) f k steps h = steps_make_none name (f g) k steps h

down_makes_none : (run : Run) (p : PartId) (A : Type 0) (steps : List Step) → (A → MakeNone steps) → Either (is_down (calls_of run) p) (steps ≡ step.Down p ∷ []) A → MakeNone steps
down_makes_none run p A steps f h = ⊎_elim
    (λ (x : is_down (calls_of run) p ≡ true). make_none (step.Down p) steps refl (either_true (is_down (calls_of run) p) _ _ x h))
    (λ (x : is_down (calls_of run) p ≡ false). f (either_false (is_down (calls_of run) p) _ _ x h))
    (cases_Bool (is_down (calls_of run) p))

expire_makes_none : (run : Run) (p : PartId) (t : TxId) (steps : List Step) → Either (asks_abort (parts_of run) (calls_of run) p t) (IsOneAnswer run (command.Expire p t) steps) (steps ≡ looked_up (calls_of run) p t ∷ []) → MakeNone steps
expire_makes_none run p t steps h = let test = asks_abort (parts_of run) (calls_of run) p t in ⊎_elim
    (λ (x : test ≡ true). one_makes_none run (command.Expire p t) steps (either_true test _ _ x h))
    (λ (x : test ≡ false). make_none (looked_up (calls_of run) p t) steps (looked_makes_none (calls_of run) p t) (either_false test _ _ x h))
    (cases_Bool test)

replies_make_none : (run : Run) (c : Command) (steps : List Step) → has_cluster run ≡ true → NeedsCluster run c → Replies run c steps → MakeNone steps
replies_make_none run (command.Cluster n m) steps t e h = clash t e
replies_make_none run (command.Session name site) steps t e h = make_none _ steps refl h
replies_make_none run (command.Move name site) steps t e h = make_none _ steps refl h
replies_make_none run (command.Lose name) steps t e h = make_none _ steps refl h
replies_make_none run (command.DropMessage n) steps t e h = make_none _ steps refl h
replies_make_none run (command.DropReport n) steps t e h = make_none _ steps refl h
replies_make_none run (command.Crash p) steps t e h = make_none _ steps refl h
replies_make_none run (command.Fuse p n m) steps t e h = make_none _ steps refl h
replies_make_none run (command.Commit name k) steps t e h = steps_of_make_none name (going_of (parts_of run) (phase run name)) (λ g. g) k steps h
replies_make_none run (command.Abort name) steps t e h = steps_of_make_none name (going_of (parts_of run) (phase run name)) given_up None steps h
replies_make_none run (command.Expire p u) steps t e h = down_makes_none run p _ steps (expire_makes_none run p u steps) h
replies_make_none run (command.Settle p) steps t e h = down_makes_none run p _ steps (settle_makes_none (parts_of run) (calls_of run) p (waiting (calls_of run) p) steps) h
replies_make_none run c steps t e h = one_makes_none run c steps h

by_makes_none : (is_built : Command → Bool) (run : Run) (c : Command) (steps : List Step) (m : Option Step) → met is_built run c ≡ m → has_cluster run ≡ true → AnswersBy run c steps m → MakeNone steps
by_makes_none is_built run c steps (Some s) e t h = make_none s steps (met_is is_built run c s e).1 h
by_makes_none is_built run c steps None e t h = replies_make_none run c steps t (unmet is_built run c e) h

-- what makes no cluster leaves its numbers
sites_kept : (old : ℕ) (s : Step) → is_cluster s ≡ false → sites_after old s ≡ old
sites_kept old (step.MadeCluster n m) h = off (sym h)
sites_kept old s h = refl

parts_kept : (old : ℕ) (s : Step) → is_cluster s ≡ false → parts_after old s ≡ old
parts_kept old (step.MadeCluster n m) h = off (sym h)
parts_kept old s h = refl

sites_stay : (number : ℕ) (c : Option Command) (steps : List Step) (run : Run) → MakeNone steps → sites_of (answered number c steps run) ≡ sites_of run
sites_stay number c [] run h = refl
sites_stay number c (s ∷ steps) run h = sites_stay number c steps ((record { number = number; command = c; step = s }) ∷ run) h.1 ∙ sites_kept (sites_of run) s h.0

parts_stay : (number : ℕ) (c : Option Command) (steps : List Step) (run : Run) → MakeNone steps → parts_of (answered number c steps run) ≡ parts_of run
parts_stay number c [] run h = refl
parts_stay number c (s ∷ steps) run h = parts_stay number c steps ((record { number = number; command = c; step = s }) ∷ run) h.1 ∙ parts_kept (parts_of run) s h.0

-- before a cluster is made no partition is asked
none_asked : (number : ℕ) (c : Command) (run : Run) (s : Step) (steps : List Step) → is_called (Some c) s ≡ false → steps ≡ s ∷ [] → calls_of (answered number (Some c) steps run) ≡ calls_of run
none_asked number c run s steps h e = ap (λ x. calls_of (answered number (Some c) x run)) e ∙ cond-false (is_called (Some c) s) _ (calls_of run) h

not_called : (c : Command) (s : Step) → is_answer s ≡ false → is_called (Some c) s ≡ false
not_called c s h = ap (λ b. b && not (is_unasked_by c s)) h
  where
    is_unasked_by : Command → Step → Bool
    is_unasked_by c s = is_unasked (Some c) s

quiet_made : (number : ℕ) (n m : ℕ) (run : Run) (steps : List Step) → IsMade n m steps → calls_of (answered number (Some (command.Cluster n m)) steps run) ≡ calls_of run
quiet_made number n m run steps h = ⊎_elim
    (λ (x : steps ≡ step.MadeCluster n m ∷ []). none_asked number (command.Cluster n m) run _ steps refl x)
    (λ (x : (at : PartId) × IsPlace n m at × (steps ≡ step.Disk at ∷ [])). none_asked number (command.Cluster n m) run _ steps refl x.2)
    h

quiet_replies : (number : ℕ) (run : Run) (c : Command) (steps : List Step) → has_cluster run ≡ false → NeedsCluster run c → Replies run c steps → calls_of (answered number (Some c) steps run) ≡ calls_of run
quiet_replies number run (command.Cluster n m) steps f e h = quiet_made number n m run steps h
quiet_replies number run c steps f e h = clash e f

quiet_by : (is_built : Command → Bool) (number : ℕ) (run : Run) (c : Command) (steps : List Step) (m : Option Step) → met is_built run c ≡ m → has_cluster run ≡ false → AnswersBy run c steps m → calls_of (answered number (Some c) steps run) ≡ calls_of run
quiet_by is_built number run c steps (Some s) e f h = none_asked number c run s steps (not_called c s (met_is is_built run c s e).0) h
quiet_by is_built number run c steps None e f h = quiet_replies number run c steps f (unmet is_built run c e) h

cluster_front : (number : ℕ) (c : Option Command) (steps : List Step) (run : Run) → has_cluster (answered number c steps run) ≡ false → has_cluster run ≡ false
cluster_front number c [] run h = h
cluster_front number c (s ∷ steps) run h = (or_parts (is_cluster s) (has_cluster run) (cluster_front number c steps ((record { number = number; command = c; step = s }) ∷ run) h)).1

lonely_on : (is_built : Command → Bool) (number : ℕ) (a : Asked) (before run : Run) → (has_cluster before ≡ false → calls_of before ≡ []) → GoesOn is_built number before a run → has_cluster run ≡ false → calls_of run ≡ []
lonely_on is_built number nothing before run l g f = ap calls_of g ∙ l (subst (λ r. has_cluster r ≡ false) g f)
lonely_on is_built number unreadable before run l g f = ap calls_of g ∙ l (subst (λ r. has_cluster r ≡ false) g f)
lonely_on is_built number (asks c) before run l g f =
    let e = cluster_front number (Some c) g.0 before (subst (λ r. has_cluster r ≡ false) g.2 f) in
    ap calls_of g.2 ∙ (quiet_by is_built number before c g.0 (met is_built before c) refl e g.1 ∙ l e)

lonely : (is_built : Command → Bool) (script : List Asked) (run : Run) → Answers is_built script run → has_cluster run ≡ false → calls_of run ≡ []
lonely is_built [] run h f = ap calls_of h
lonely is_built (a ∷ script) run h f = lonely_on is_built (length script + 1) a h.0 run (lonely is_built script h.0 h.1) h.2 f

module _ (too_deep : Kind → List Field → Bool) (meaning : Kind → List Update → Value) (is_built : Command → Bool) (told : Run → Option Step) where
  shows_none : (sites parts : ℕ) → Tells too_deep meaning sites parts []
  shows_none sites parts = tt

  abbrev Itself : Run → Type 0
  Itself run = Tells too_deep meaning (sites_of run) (parts_of run) (calls_of run)

  -- what the run shows, by the numbers of the cluster before its last command
  shows_at : (number : ℕ) (before : Run) (c : Command) (steps : List Step) → (has_cluster before ≡ false → calls_of before ≡ []) → IsAnswer is_built before c steps → Itself (answered number (Some c) steps before) → Tells too_deep meaning (sites_of before) (parts_of before) (calls_of (answered number (Some c) steps before))
  shows_at number before c steps l h x = ⊎_elim
      (λ (e : has_cluster before ≡ true).
      let none = by_makes_none is_built before c steps (met is_built before c) refl e h in
      subst (λ (n : ℕ × ℕ). Tells too_deep meaning n.0 n.1 (calls_of (answered number (Some c) steps before))) (λ i. (sites_stay number (Some c) steps before none i, parts_stay number (Some c) steps before none i)) x)
      (λ (e : has_cluster before ≡ false). subst (Tells too_deep meaning (sites_of before) (parts_of before)) (sym (quiet_by is_built number before c steps (met is_built before c) refl e h ∙ l e)) (shows_none (sites_of before) (parts_of before)))
      (cases_Bool (has_cluster before))

  shows_earlier : (number : ℕ) (a : Asked) (before run : Run) → (has_cluster before ≡ false → calls_of before ≡ []) → GoesOn is_built number before a run → Itself run → Itself before
  shows_earlier number nothing before run l g x = subst Itself g x
  shows_earlier number unreadable before run l g x = subst Itself g x
  shows_earlier number (asks c) before run l g x = shows_front too_deep meaning (sites_of before) (parts_of before) number (Some c) g.0 before (shows_at number before c g.0 l g.1 (subst Itself g.2 x))

  told_earlier : (number : ℕ) (a : Asked) (before run : Run) → GoesOn is_built number before a run → IsTold told run → IsTold told before
  told_earlier number nothing before run g x = subst (IsTold told) g x
  told_earlier number unreadable before run g x = (subst (IsTold told) g x).1
  told_earlier number (asks c) before run g x = told_front told number (Some c) g.0 before (subst (IsTold told) g.2 x)

  one_line : (number : ℕ) (a : Asked) (before one two : Run) → (has_cluster before ≡ false → calls_of before ≡ []) → GoesOn is_built number before a one → GoesOn is_built number before a two → Itself one → Itself two → IsTold told one → IsTold told two → one ≡ two
  one_line number nothing before one two l g h x y c d = g ∙ sym h
  one_line number unreadable before one two l g h x y c d = g ∙ sym h
  one_line number (asks q) before one two l g h x y c d =
      let same : g.0 ≡ h.0 = one_command too_deep meaning (sites_of before) (parts_of before) told number is_built before q g.0 h.0 g.1 h.1
      (shows_at number before q g.0 l g.1 (subst Itself g.2 x)) (shows_at number before q h.0 l h.1 (subst Itself h.2 y))
      (subst (IsTold told) g.2 c) (subst (IsTold told) h.2 d) in
      g.2 ∙ (ap (λ steps. answered number (Some q) steps before) same ∙ sym h.2)

  pub one_script : (script : List Asked) (one two : Run) → Answers is_built script one → Answers is_built script two → Itself one → Itself two → IsTold told one → IsTold told two → one ≡ two
  one_script [] one two h k x y c d = h ∙ sym k
  one_script (a ∷ script) one two h k x y c d =
      let number = length script + 1 in
      let l = lonely is_built script h.0 h.1 in let m = lonely is_built script k.0 k.1 in
      let same : h.0 ≡ k.0 = one_script script h.0 k.0 h.1 k.1 (shows_earlier number a h.0 one l h.2 x) (shows_earlier number a k.0 two m k.2 y) (told_earlier number a h.0 one h.2 c) (told_earlier number a k.0 two k.2 d) in
      one_line number a h.0 one two l h.2 (subst (λ b. GoesOn is_built number b a two) (sym same) k.2) x y c d

pub law_one_told : LawOneTold
law_one_told too_deep meaning is_built script told one two h k x y c d = one_script too_deep meaning is_built told script one two h k x y c d

-- where no line tells of a disk
calm_is : (run : Run) → IsCalm run → is_calm run ≡ true
calm_is [] h = refl
calm_is (l ∷ run) h = ap (λ b. not b && is_calm run) h.0 ∙ calm_is run h.1

pub calm_tells : (run : Run) → IsCalm run → IsTold (λ r. None) run
calm_tells [] h = tt
calm_tells (l ∷ run) h =
    let free : is_free run l.command l.step ≡ false = ap (λ b. b || (is_restart_of l.command && not (is_calm run))) h.0 ∙ (ap (λ b. is_restart_of l.command && not b) (calm_is run h.1) ∙ and_right (is_restart_of l.command) false refl) in
    (sym (cond-false (is_free run l.command l.step) (Some l.step) None free), calm_tells run h.1)

pub law_one_lawful : LawOneLawful
law_one_lawful too_deep meaning is_built script one two h k x y c d = one_script too_deep meaning is_built (λ r. None) script one two h k x y (calm_tells one c) (calm_tells two d)

pub law_one_run : (S E : Type 0) → LawOneRun S E
law_one_run S E kinds is_built script one two h k x y c d = law_one_lawful kinds.too_deep kinds.meaning is_built script one two h k (tells kinds (sites_of one) (parts_of one) (calls_of one) x) (tells kinds (sites_of two) (parts_of two) (calls_of two) y) c d
