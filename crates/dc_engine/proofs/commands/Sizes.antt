-- Where a cluster stands, no answer to a command makes one: a run's cluster keeps its size.
use Rattle.std.proofs.Common.{◌≡◌, ◌≢◌, ⊎_elim, ℕ, Bool, true, false, List, [], ◌∷◌, refl, sym, ap, ◌∙◌, subst, Option, None, Some}
use Rattle.std.specs.Prelude.{if◌then◌else◌, ⊤, not}
use Rattle.std.proofs.lemmas.Bool.{and_parts, true≢false}
use Rattle.site_vector.specs.declared.ids.PartId.{PartId}
use Rattle.site_vector.specs.declared.ids.TxId.{TxId}
use Rattle.world_model.proofs.Names.{off}
use Rattle.world_model.specs.declared.command.Command.{Command}
use Rattle.world_model.specs.declared.command.Command.TheVariants as command
use Rattle.world_model.specs.declared.commit.Next.{Next}
use Rattle.world_model.specs.declared.commit.Next.TheVariants as next
use Rattle.world_model.specs.declared.step.Step.{Step}
use Rattle.world_model.specs.declared.step.Step.TheVariants as step
use Rattle.world_model.specs.commands.Answers.{answered}
use Rattle.world_model.specs.commands.Cluster.{is_cluster, has_cluster, sites_of, parts_of, sites_after, parts_after}
use Rattle.world_model.specs.commands.CommitSteps.{Going, is_done, after}
use Rattle.world_model.specs.lines.Fate.{is_committed_at}
use Rattle.world_model.specs.lines.History.{in_history}
use Rattle.world_model.specs.lines.Lines.{Line}
use Rattle.world_model.specs.commands.Meeting.{meets, met}
use Rattle.world_model.specs.lines.Pending.{pending, is_down}
use Rattle.world_model.specs.commands.Phases.{going_of, phase}
use Rattle.world_model.specs.commands.Refusals.{first_due}
use Rattle.world_model.specs.commands.Run.{Run}
use Rattle.world_model.specs.commands.ScriptAnswers.{AnswersBy, IsAnswer, Replies, IsOneAnswer, Either, Then, Steps, StepsOf, fewer}
use Rattle.world_model.specs.commands.ScriptCalls.{is_answer, calls_of}
use Rattle.world_model.specs.commands.Settling.{SettlesAll, settled, stays, looked_up, is_unwritten, asks_abort}
use Rattle.world_model.specs.lines.Waiting.{waiting}
use Rattle.cluster.specs.Built.{is_built, is_making}

-- no line makes a cluster
abbrev pub MakeNone : List Step → Type 0
MakeNone [] = ⊤
MakeNone (s ∷ steps) = (is_cluster s ≡ false) × MakeNone steps

-- so its size stays
same_after : (s : Step) → is_cluster s ≡ false → (n m : ℕ) → (sites_after n s ≡ n) × (parts_after m s ≡ m)
same_after (step.MadeCluster sites parts) h n m = off (sym h)
same_after other h n m = (refl, refl)

pub same_size : (number : ℕ) (asked : Option Command) (steps : List Step) (run : Run) → MakeNone steps → (sites_of (answered number asked steps run) ≡ sites_of run) × (parts_of (answered number asked steps run) ≡ parts_of run)
same_size number asked [] run h = (refl, refl)
same_size number asked (s ∷ steps) run h =
    let more = same_size number asked steps ((record { number = number; command = asked; step = s }) ∷ run) h.1 in
    let one = same_after s h.0 (sites_of run) (parts_of run) in (more.0 ∙ one.0, more.1 ∙ one.1)

-- a line of a partition makes none
answer_makes : (s : Step) → is_answer s ≡ true → is_cluster s ≡ false
answer_makes (step.MadeCluster sites parts) h = off h
answer_makes other h = refl

one_makes : (s : Step) (steps : List Step) → steps ≡ s ∷ [] → is_cluster s ≡ false → MakeNone steps
one_makes s steps e h = subst MakeNone (sym e) (h, tt)

called_makes : (run : Run) (c : Command) (steps : List Step) → IsOneAnswer run c steps → MakeNone steps
called_makes run c steps a = one_makes a.0 steps a.1 (answer_makes a.0 (and_parts (is_answer a.0) _ a.2).0)

either_makes : (b : Bool) (A B C : Type 0) → (A → C) → (B → C) → Either b A B → C
either_makes true A B C f g h = f h
either_makes false A B C f g h = g h

end_makes : (rest : List Step) → rest ≡ [] → MakeNone rest
end_makes rest e = subst MakeNone (sym e) tt

then_makes : (n : Next) (A : Type 0) (rest : List Step) → (A → MakeNone rest) → Then n (rest ≡ []) A → MakeNone rest
then_makes next.Stay A rest f x = end_makes rest x
then_makes next.Go A rest f x = f x

steps_make : (name : List ℕ) (g : Going) (k : Option ℕ) (steps : List Step) → Steps name g k steps → MakeNone steps
steps_make name g k [] h = tt
steps_make name g k (s ∷ rest) h = either_makes (is_done g) _ _ (MakeNone (s ∷ rest))
    (λ x. (ap is_cluster x.0, end_makes rest x.1))
    (λ x. (answer_makes s x.1, then_makes (after g s).1 (Steps name (after g s).0 (fewer k) rest) rest (steps_make name (after g s).0 (fewer k) rest) x.2))
    h

ends_make : (name : List ℕ) (o : Option Going) (f : Going → Going) (k : Option ℕ) (steps : List Step) → StepsOf name o f k steps → MakeNone steps
ends_make name None f k steps h = absurd h
ends_make name (Some g) f k steps h = steps_make name (f g) k steps h

looked_makes : (ls : List Line) (p : PartId) (t : TxId) → is_cluster (looked_up ls p t) ≡ false
looked_makes ls p t = elim (pending ls p t) as (λ b. is_cluster (if b then step.Pending p t else (if is_committed_at ls ls p t then step.Finished p t else step.Gone p t)) ≡ false) [
  | true ↦ refl
  | false ↦ elim (is_committed_at ls ls p t) as (λ b. is_cluster (if b then step.Finished p t else step.Gone p t) ≡ false) [ true ↦ refl | false ↦ refl ]
]

settled_makes : (parts : ℕ) (ls : List Line) (p : PartId) (t : TxId) → is_cluster (settled parts ls p t) ≡ false
settled_makes parts ls p t = elim (stays parts ls p t) as (λ b. is_cluster (if b then step.Pending p t else (if in_history ls t then step.Finished p t else step.Aborted p t)) ≡ false) [
  | true ↦ refl
  | false ↦ elim (in_history ls t) as (λ b. is_cluster (if b then step.Finished p t else step.Aborted p t) ≡ false) [ true ↦ refl | false ↦ refl ]
]

unwritten_makes : (s : Step) → is_unwritten s ≡ true → is_cluster s ≡ false
unwritten_makes (step.MadeCluster sites parts) h = off h
unwritten_makes other h = refl

settles_make : (parts : ℕ) (ls : List Line) (p : PartId) (waits : List (TxId × ℕ)) (steps : List Step) → SettlesAll parts ls p waits steps → MakeNone steps
settles_make parts ls p waits [] h = absurd h
settles_make parts ls p [] (s ∷ rest) h = (ap is_cluster h.0, end_makes rest h.1)
settles_make parts ls p (x ∷ waits) (s ∷ rest) h = ⊎_elim
    (λ (y : (s ≡ settled parts ls p x.0) × SettlesAll parts ls p waits rest). (ap is_cluster y.0 ∙ settled_makes parts ls p x.0, settles_make parts ls p waits rest y.1))
    (λ (y : (stays parts ls p x.0 ≡ false) × (is_unwritten s ≡ true) × (rest ≡ [])). (unwritten_makes s y.1, end_makes rest y.2))
    h

replies_make : (run : Run) (c : Command) (steps : List Step) → is_making c ≡ false → Replies run c steps → MakeNone steps
replies_make run (command.Cluster sites parts) steps m h = off (sym m)
replies_make run (command.Session name site) steps m h = one_makes _ steps h refl
replies_make run (command.Move name site) steps m h = one_makes _ steps h refl
replies_make run (command.Lose name) steps m h = one_makes _ steps h refl
replies_make run (command.DropMessage number) steps m h = one_makes _ steps h refl
replies_make run (command.DropReport number) steps m h = one_makes _ steps h refl
replies_make run (command.Commit name k) steps m h = ends_make name (going_of (parts_of run) (phase run name)) (λ g. g) k steps h
replies_make run (command.Abort name) steps m h = ends_make name (going_of (parts_of run) (phase run name)) _ None steps h
replies_make run (command.Expire p t) steps m h = either_makes (is_down (calls_of run) p) _ _ (MakeNone steps) (λ x. one_makes _ steps x refl)
    (either_makes (asks_abort (parts_of run) (calls_of run) p t) _ _ (MakeNone steps) (called_makes run (command.Expire p t) steps) (λ x. one_makes _ steps x (looked_makes (calls_of run) p t))) h
replies_make run (command.Settle p) steps m h = either_makes (is_down (calls_of run) p) _ _ (MakeNone steps) (λ x. one_makes _ steps x refl) (settles_make (parts_of run) (calls_of run) p (waiting (calls_of run) p) steps) h
replies_make run (command.Crash p) steps m h = one_makes _ steps h refl
replies_make run (command.Fuse p k n) steps m h = one_makes _ steps h refl
replies_make run c steps m h = called_makes run c steps h

-- no refusal makes one
abbrev RefuseOnly : List (Bool × Step) → Type 0
RefuseOnly [] = ⊤
RefuseOnly (x ∷ rest) = (is_cluster x.1 ≡ false) × RefuseOnly rest

abbrev OnDue : Option Step → Type 0
OnDue None = ⊤
OnDue (Some s) = is_cluster s ≡ false

due_makes : (rs : List (Bool × Step)) → RefuseOnly rs → OnDue (first_due rs)
due_makes [] h = tt
due_makes (x ∷ rest) h = elim x.0 as (λ b. OnDue (if b then Some x.1 else first_due rest)) [ true ↦ h.0 | false ↦ due_makes rest h.1 ]

refuse_only : (run : Run) (c : Command) → RefuseOnly (meets run c)
refuse_only run (command.Cluster sites parts) = (refl, tt)
refuse_only run (command.Clock p n) = (refl, (refl, tt))
refuse_only run (command.Session name site) = (refl, (refl, (refl, (refl, tt))))
refuse_only run (command.Move name site) = (refl, (refl, (refl, (refl, tt))))
refuse_only run (command.Lose name) = (refl, (refl, tt))
refuse_only run (command.Begin name part mode) = (refl, (refl, (refl, (refl, (refl, tt)))))
refuse_only run (command.Read name o) = (refl, (refl, (refl, tt)))
refuse_only run (command.Update name o op) = (refl, (refl, (refl, (refl, (refl, tt)))))
refuse_only run (command.Commit name steps) = (refl, (refl, (refl, tt)))
refuse_only run (command.Abort name) = (refl, (refl, (refl, tt)))
refuse_only run (command.Send p site from) = (refl, (refl, (refl, tt)))
refuse_only run (command.Deliver number) = (refl, (refl, tt))
refuse_only run (command.DropMessage number) = (refl, (refl, tt))
refuse_only run (command.DropReport number) = (refl, (refl, tt))
refuse_only run (command.Report p) = (refl, (refl, (refl, tt)))
refuse_only run (command.Hear number p) = (refl, (refl, (refl, (refl, tt))))
refuse_only run (command.Expire p t) = (refl, (refl, tt))
refuse_only run (command.Settle p) = (refl, (refl, tt))
refuse_only run (command.Crash p) = (refl, (refl, tt))
refuse_only run (command.Fuse p k n) = (refl, (refl, tt))
refuse_only run (command.Restart p) = (refl, (refl, tt))

by_met : (run : Run) (c : Command) (steps : List Step) (o : Option Step) → OnDue o → (o ≡ None → Replies run c steps → MakeNone steps) → AnswersBy run c steps o → MakeNone steps
by_met run c steps None d f h = f refl h
by_met run c steps (Some s) d f h = one_makes s steps h d

-- a second cluster is refused
not_again : (run : Run) (c : Command) → is_making c ≡ true → has_cluster run ≡ true → met is_built run c ≢ None
not_again run (command.Cluster sites parts) m h e = absurd (elim (has_cluster run) as (λ b. b ≡ true → first_due ((b, step.HasCluster) ∷ []) ≡ None → ⊥) [ true ↦ λ x y. some_none y | false ↦ λ x y. true≢false (sym x) ] h e)
  where
    some_none : Some step.HasCluster ≡ None → ⊥
    some_none y = true≢false (ap is_there y)
      where
        is_there : Option Step → Bool
        is_there None = false
        is_there (Some s) = true
not_again run other m h e = off m

pub answer_makes_none : (run : Run) (c : Command) (steps : List Step) → (is_making c ≡ true → has_cluster run ≡ true) → IsAnswer is_built run c steps → MakeNone steps
answer_makes_none run c steps once a = by_met run c steps (met is_built run c) (due_makes ((not (is_built c), step.Unbuilt) ∷ meets run c) (refl, refuse_only run c))
    (λ none. elim (is_making c) as (λ b. is_making c ≡ b → Replies run c steps → MakeNone steps) [
      | true ↦ λ m h. absurd (not_again run c m (once m) none)
      | false ↦ λ m h. replies_make run c steps m h
    ] refl) a
