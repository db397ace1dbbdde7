-- The replies are a function of the script.
use Rattle.std.proofs.Common.{◌≡◌, ⊎_elim, ℕ, Bool, true, false, ◌&&◌, List, [], ◌∷◌, Option, None, Some, refl, sym, ap, ◌∙◌, subst, not, cond}
use Rattle.std.specs.Prelude.{⊤}
use Rattle.std.proofs.lemmas.Bool.{cases_Bool, or_parts, cond_both}
use Rattle.site_vector.specs.declared.ids.PartId.{PartId}
use Rattle.site_vector.specs.declared.ids.TxId.{TxId}
use Rattle.crdt_core.specs.declared.kind.Kind.{Kind}
use Rattle.crdt_core.specs.declared.object.Field.{Field}
use Rattle.crdt_core.specs.declared.value.Value.{Value}
use Rattle.crdt_core.specs.Seen.{Update}
use Rattle.world_model.proofs.Names.{clash, off}
use Rattle.world_model.specs.declared.command.Command.{Command}
use Rattle.world_model.specs.declared.command.Command.TheVariants as command
use Rattle.world_model.specs.declared.commit.Next.{Next}
use Rattle.world_model.specs.declared.commit.Next.TheVariants as next
use Rattle.world_model.specs.declared.step.Step.{Step}
use Rattle.world_model.specs.declared.step.Step.TheVariants as step
use Rattle.world_model.specs.commands.Answers.{answered}
use Rattle.world_model.specs.commands.Cluster.{parts_of}
use Rattle.world_model.specs.commands.CommitSteps.{Going, given_up, is_done, after}
use Rattle.world_model.specs.commands.Meeting.{met}
use Rattle.world_model.specs.commands.Phases.{going_of, phase}
use Rattle.world_model.specs.commands.Run.{Run}
use Rattle.world_model.specs.commands.ScriptAnswers.{Either, Then, Bears, IsOneAnswer, fewer, Steps, StepsOf, IsExpired, IsMade, Replies, AnswersBy, IsAnswer}
use Rattle.world_model.specs.commands.ScriptCalls.{is_answer, is_called, calls_of}
use Rattle.world_model.specs.commands.Settling.{asks_abort, settled, stays, is_unwritten, SettlesAll}
use Rattle.world_model.specs.lines.Lines.{Line}
use Rattle.world_model.specs.lines.Pending.{is_down}
use Rattle.world_model.specs.lines.Places.{IsPlace}
use Rattle.world_model.specs.lines.Waiting.{waiting}
use Rattle.one_run.specs.Unfailing.{is_of_disk}
use Rattle.one_run.specs.Tells.{Tells}
use Rattle.one_run.specs.OneRun.{is_calm, is_restart_of, is_free, told_at, IsTold}
use Rattle.world_model.specs.lines.History.{in_history}
use Rattle.one_run.proofs.Called.{told_front, told_cases, shows_front, IsCalled, one_tick, one_begin, one_restart, one_expire, one_read, one_update, one_send, one_report, one_take, one_hear, one_commit, one_abort}

pub either_true : (b : Bool) (A B : Type 0) → b ≡ true → Either b A B → A
either_true true A B e h = h
either_true false A B e h = off e

pub either_false : (b : Bool) (A B : Type 0) → b ≡ false → Either b A B → B
either_false true A B e h = off (sym e)
either_false false A B e h = h

then_one : (n : Next) (steps rest : List Step) (A B : Type 0) → (A → B → steps ≡ rest) → Then n (steps ≡ []) A → Then n (rest ≡ []) B → steps ≡ rest
then_one next.Stay steps rest A B f h w = h ∙ sym w
then_one next.Go steps rest A B f h w = f h w

-- an end that isn't written tells of the disk
unwritten : (s : Step) → is_unwritten s ≡ true → is_of_disk s ≡ true
unwritten (step.Disk p) h = refl
unwritten (step.Full n) h = refl
unwritten s h = off h

settled_whole : (parts : ℕ) (ls : List Line) (p : PartId) (t : TxId) → is_of_disk (settled parts ls p t) ≡ false
settled_whole parts ls p t = cond_both (stays parts ls p t) (step.Pending p t) (cond (in_history ls t) (step.Finished p t) (step.Aborted p t)) (λ s. is_of_disk s ≡ false) (λ e. refl) (λ e. cond_both (in_history ls t) (step.Finished p t) (step.Aborted p t) (λ s. is_of_disk s ≡ false) (λ x. refl) (λ x. refl))

module _ (told : Run → Option Step) (number : ℕ) where
  abbrev after_line : Command → Step → Run → Run
  after_line c s run = (record { number = number; command = Some c; step = s }) ∷ run

  -- what the disks tell in these lines of a command
  abbrev AreTold : Command → Run → List Step → Type 0
  AreTold c run [] = ⊤
  AreTold c run (s ∷ steps) = (told run ≡ told_at run (Some c) s) × AreTold c (after_line c s run) steps

  told_steps : (c : Command) (steps : List Step) (run : Run) → IsTold told (answered number (Some c) steps run) → AreTold c run steps
  told_steps c [] run h = tt
  told_steps c (s ∷ steps) run h = ((told_front told number (Some c) steps (after_line c s run) h).0, told_steps c steps (after_line c s run) h)

  -- of two lines of which one tells of a disk and the other doesn't
  unlike : {A : Type 0} (c : Command) (run : Run) (s r : Step) → is_of_disk s ≡ true → is_of_disk r ≡ false → told run ≡ told_at run (Some c) s → told run ≡ told_at run (Some c) r → A
  unlike c run s r a b h k = ⊎_elim
      (λ (e : s ≡ r). clash (subst (λ x. is_of_disk x ≡ true) e a) b)
      (λ (x : (is_free run (Some c) s ≡ false) × (is_free run (Some c) r ≡ false)). clash a (or_parts (is_of_disk s) (is_restart_of (Some c) && not (is_calm run)) x.0).0)
      (told_cases told run (Some c) s r h k)

  -- of two lines that both do
  alike : (c : Command) (run : Run) (s r : Step) → is_of_disk s ≡ true → told run ≡ told_at run (Some c) s → told run ≡ told_at run (Some c) r → s ≡ r
  alike c run s r a h k = ⊎_elim
      (λ (e : s ≡ r). e)
      (λ (x : (is_free run (Some c) s ≡ false) × (is_free run (Some c) r ≡ false)). clash a (or_parts (is_of_disk s) (is_restart_of (Some c) && not (is_calm run)) x.0).0)
      (told_cases told run (Some c) s r h k)

  one_settle : (parts : ℕ) (ls : List Line) (p : PartId) (run : Run) (waits : List (TxId × ℕ)) (steps more : List Step) → AreTold (command.Settle p) run steps → AreTold (command.Settle p) run more → SettlesAll parts ls p waits steps → SettlesAll parts ls p waits more → steps ≡ more
  one_settle parts ls p run waits [] more c d h k = absurd h
  one_settle parts ls p run waits (s ∷ steps) [] c d h k = absurd k
  one_settle parts ls p run [] (s ∷ steps) (r ∷ more) c d h k = λ i. (h.0 ∙ sym k.0) i ∷ (h.1 ∙ sym k.1) i
  one_settle parts ls p run (x ∷ waits) (s ∷ steps) (r ∷ more) c d h k = ⊎_elim
      (λ (a : (s ≡ settled parts ls p x.0) × SettlesAll parts ls p waits steps). ⊎_elim
      (λ (b : (r ≡ settled parts ls p x.0) × SettlesAll parts ls p waits more). let same : s ≡ r = a.0 ∙ sym b.0 in let rest = one_settle parts ls p (after_line (command.Settle p) s run) waits steps more c.1 (subst (λ z. AreTold (command.Settle p) (after_line (command.Settle p) z run) more) (sym same) d.1) a.1 b.1 in λ i. same i ∷ rest i)
      (λ (b : (stays parts ls p x.0 ≡ false) × (is_unwritten r ≡ true) × (more ≡ [])). unlike (command.Settle p) run r s (unwritten r b.1) (subst (λ z. is_of_disk z ≡ false) (sym a.0) (settled_whole parts ls p x.0)) d.0 c.0)
      k)
      (λ (a : (stays parts ls p x.0 ≡ false) × (is_unwritten s ≡ true) × (steps ≡ [])). ⊎_elim
      (λ (b : (r ≡ settled parts ls p x.0) × SettlesAll parts ls p waits more). unlike (command.Settle p) run s r (unwritten s a.1) (subst (λ z. is_of_disk z ≡ false) (sym b.0) (settled_whole parts ls p x.0)) c.0 d.0)
      (λ (b : (stays parts ls p x.0 ≡ false) × (is_unwritten r ≡ true) × (more ≡ [])). let same = alike (command.Settle p) run s r (unwritten s a.1) c.0 d.0 in λ i. same i ∷ (a.2 ∙ sym b.2) i)
      k)
      h

module _ (too_deep : Kind → List Field → Bool) (meaning : Kind → List Update → Value) (sites parts : ℕ) (told : Run → Option Step) (number : ℕ) where
  abbrev Shown : Command → List Step → Run → Type 0
  Shown c steps run = Tells too_deep meaning sites parts (calls_of (answered number (Some c) steps run))

  abbrev Told : Command → Run → List Step → Type 0
  Told c run steps = AreTold told number c run steps

  abbrev more : Command → Step → Run → Run
  more c s run = (record { number = number; command = Some c; step = s }) ∷ run

  -- the lines of a command are one list, where it has one answer to each call
  one_answer : (c : Command) (run : Run) → ((s r : Step) → IsCalled too_deep meaning sites parts told run number c s → IsCalled too_deep meaning sites parts told run number c r → s ≡ r) → (steps rest : List Step) → IsOneAnswer run c steps → IsOneAnswer run c rest → Shown c steps run → Shown c rest run → Told c run steps → Told c run rest → steps ≡ rest
  one_answer c run one steps rest h k a b d e =
      let s = h.0 in let r = k.0 in
      let same : s ≡ r = one s r
      (record { called = h.2; goes = subst (λ x. Shown c x run) h.1 a; told_so = (subst (Told c run) h.1 d).0; bears = h.3 })
      (record { called = k.2; goes = subst (λ x. Shown c x run) k.1 b; told_so = (subst (Told c run) k.1 e).0; bears = k.3 }) in
      h.1 ∙ ((λ i. same i ∷ []) ∙ sym k.1)

  -- the same of the steps of a commit
  module _ (name : List ℕ) (c : Command) (called : (s : Step) → is_answer s ≡ true → is_called (Some c) s ≡ true) (bears : (run : Run) (s : Step) → Bears run c s) (one : (run : Run) (s r : Step) → IsCalled too_deep meaning sites parts told run number c s → IsCalled too_deep meaning sites parts told run number c r → s ≡ r) where
    one_steps : (run : Run) → (g : Going) (k : Option ℕ) (steps rest : List Step) → Steps name g k steps → Steps name g k rest → Shown c steps run → Shown c rest run → Told c run steps → Told c run rest → steps ≡ rest
    one_steps run g k [] [] h w a b d e = refl
    one_steps run g k [] (r ∷ rest) h w a b d e = absurd ((either_false (is_done g) _ _ h.0 w).0 h.1)
    one_steps run g k (s ∷ steps) [] h w a b d e = absurd ((either_false (is_done g) _ _ w.0 h).0 w.1)
    one_steps run g k (s ∷ steps) (r ∷ rest) h w a b d e = ⊎_elim
        (λ (t : is_done g ≡ true). let x = either_true (is_done g) _ _ t h in let y = either_true (is_done g) _ _ t w in λ i. (x.0 ∙ sym y.0) i ∷ (x.1 ∙ sym y.1) i)
        (λ (t : is_done g ≡ false).
        let x = either_false (is_done g) _ _ t h in let y = either_false (is_done g) _ _ t w in
        let same : s ≡ r = one run s r
        (record { called = called s x.1; goes = shows_front too_deep meaning sites parts number (Some c) steps (more c s run) a; told_so = d.0; bears = bears run s })
        (record { called = called r y.1; goes = shows_front too_deep meaning sites parts number (Some c) rest (more c r run) b; told_so = e.0; bears = bears run r }) in
        let tails : steps ≡ rest = then_one (after g s).1 steps rest (Steps name (after g s).0 (fewer k) steps) (Steps name (after g s).0 (fewer k) rest)
        (λ p q. one_steps (more c s run) (after g s).0 (fewer k) steps rest p q a (subst (λ z. Shown c rest (more c z run)) (sym same) b) d.1 (subst (λ z. Told c (more c z run) rest) (sym same) e.1))
        x.2 (subst (λ z. Then (after g z).1 (rest ≡ []) (Steps name (after g z).0 (fewer k) rest)) (sym same) y.2) in
        λ i. same i ∷ tails i)
        (cases_Bool (is_done g))

    one_steps_of : (run : Run) → (g : Option Going) (f : Going → Going) (k : Option ℕ) (steps rest : List Step) → StepsOf name g f k steps → StepsOf name g f k rest → Shown c steps run → Shown c rest run → Told c run steps → Told c run rest → steps ≡ rest
    one_steps_of run None f k steps rest h w a b d e = absurd h
    one_steps_of run (Some g) f k steps rest h w a b d e = one_steps run (f g) k steps rest h w a b d e

  is_called_commit : (name : List ℕ) (n : Option ℕ) (s : Step) → is_answer s ≡ true → is_called (Some (command.Commit name n)) s ≡ true
  is_called_commit name n s e = ap (λ b. b && true) e

  is_called_abort : (name : List ℕ) (s : Step) → is_answer s ≡ true → is_called (Some (command.Abort name)) s ≡ true
  is_called_abort name s e = ap (λ b. b && true) e

  one_made : (run : Run) (n m : ℕ) (steps rest : List Step) → IsMade n m steps → IsMade n m rest → Told (command.Cluster n m) run steps → Told (command.Cluster n m) run rest → steps ≡ rest
  one_made run n m steps rest h k d e =
      let c = command.Cluster n m in ⊎_elim
      (λ (x : steps ≡ step.MadeCluster n m ∷ []). ⊎_elim
      (λ (y : rest ≡ step.MadeCluster n m ∷ []). x ∙ sym y)
      (λ (y : (at : PartId) × IsPlace n m at × (rest ≡ step.Disk at ∷ [])). unlike told number c run (step.Disk y.0) (step.MadeCluster n m) refl refl (subst (Told c run) y.2 e).0 (subst (Told c run) x d).0)
      k)
      (λ (x : (at : PartId) × IsPlace n m at × (steps ≡ step.Disk at ∷ [])). ⊎_elim
      (λ (y : rest ≡ step.MadeCluster n m ∷ []). unlike told number c run (step.Disk x.0) (step.MadeCluster n m) refl refl (subst (Told c run) x.2 d).0 (subst (Told c run) y e).0)
      (λ (y : (at : PartId) × IsPlace n m at × (rest ≡ step.Disk at ∷ [])). let same = alike told number c run (step.Disk x.0) (step.Disk y.0) refl (subst (Told c run) x.2 d).0 (subst (Told c run) y.2 e).0 in x.2 ∙ ((λ i. same i ∷ []) ∙ sym y.2))
      k)
      h

  one_expired : (run : Run) (p : PartId) (t : TxId) (steps rest : List Step) → IsExpired run p t steps → IsExpired run p t rest → Shown (command.Expire p t) steps run → Shown (command.Expire p t) rest run → Told (command.Expire p t) run steps → Told (command.Expire p t) run rest → steps ≡ rest
  one_expired run p t steps rest h k a b d e = ⊎_elim
      (λ (x : is_down (calls_of run) p ≡ true). either_true (is_down (calls_of run) p) _ _ x h ∙ sym (either_true (is_down (calls_of run) p) _ _ x k))
      (λ (x : is_down (calls_of run) p ≡ false).
      let y = either_false (is_down (calls_of run) p) _ _ x h in let z = either_false (is_down (calls_of run) p) _ _ x k in
      let test = asks_abort (parts_of run) (calls_of run) p t in ⊎_elim
      (λ (u : test ≡ true). one_answer (command.Expire p t) run (one_expire too_deep meaning sites parts told run number p t) steps rest (either_true test _ _ u y) (either_true test _ _ u z) a b d e)
      (λ (u : test ≡ false). either_false test _ _ u y ∙ sym (either_false test _ _ u z))
      (cases_Bool test))
      (cases_Bool (is_down (calls_of run) p))

  one_reply : (run : Run) (c : Command) (steps rest : List Step) → Replies run c steps → Replies run c rest → Shown c steps run → Shown c rest run → Told c run steps → Told c run rest → steps ≡ rest
  one_reply run (command.Cluster n m) steps rest h k a b d e = one_made run n m steps rest h k d e
  one_reply run (command.Session name site) steps rest h k a b d e = h ∙ sym k
  one_reply run (command.Move name site) steps rest h k a b d e = h ∙ sym k
  one_reply run (command.Lose name) steps rest h k a b d e = h ∙ sym k
  one_reply run (command.DropMessage n) steps rest h k a b d e = h ∙ sym k
  one_reply run (command.DropReport n) steps rest h k a b d e = h ∙ sym k
  one_reply run (command.Crash p) steps rest h k a b d e = h ∙ sym k
  one_reply run (command.Fuse p n m) steps rest h k a b d e = h ∙ sym k
  one_reply run (command.Commit name n) steps rest h k a b d e = one_steps_of name (command.Commit name n) (is_called_commit name n) (λ run s. tt) (λ run. one_commit too_deep meaning sites parts told run number name n) run (going_of (parts_of run) (phase run name)) (λ g. g) n steps rest h k a b d e
  one_reply run (command.Abort name) steps rest h k a b d e = one_steps_of name (command.Abort name) (is_called_abort name) (λ run s. tt) (λ run. one_abort too_deep meaning sites parts told run number name) run (going_of (parts_of run) (phase run name)) given_up None steps rest h k a b d e
  one_reply run (command.Expire p t) steps rest h k a b d e = one_expired run p t steps rest h k a b d e
  one_reply run (command.Settle p) steps rest h k a b d e = ⊎_elim
      (λ (x : is_down (calls_of run) p ≡ true). either_true (is_down (calls_of run) p) _ _ x h ∙ sym (either_true (is_down (calls_of run) p) _ _ x k))
      (λ (x : is_down (calls_of run) p ≡ false). one_settle told number (parts_of run) (calls_of run) p run (waiting (calls_of run) p) steps rest d e (either_false (is_down (calls_of run) p) _ _ x h) (either_false (is_down (calls_of run) p) _ _ x k))
      (cases_Bool (is_down (calls_of run) p))
  one_reply run (command.Clock p n) steps rest h k a b d e = one_answer _ run (one_tick too_deep meaning sites parts told run number p n) steps rest h k a b d e
  one_reply run (command.Begin name part mode) steps rest h k a b d e = one_answer _ run (one_begin too_deep meaning sites parts told run number name part mode) steps rest h k a b d e
  one_reply run (command.Read name o) steps rest h k a b d e = one_answer _ run (one_read too_deep meaning sites parts told run number name o) steps rest h k a b d e
  one_reply run (command.Update name o op) steps rest h k a b d e = one_answer _ run (one_update too_deep meaning sites parts told run number name o op) steps rest h k a b d e
  one_reply run (command.Send p site from) steps rest h k a b d e = one_answer _ run (one_send too_deep meaning sites parts told run number p site from) steps rest h k a b d e
  one_reply run (command.Deliver n) steps rest h k a b d e = one_answer _ run (one_take too_deep meaning sites parts told run number n) steps rest h k a b d e
  one_reply run (command.Report p) steps rest h k a b d e = one_answer _ run (one_report too_deep meaning sites parts told run number p) steps rest h k a b d e
  one_reply run (command.Hear n p) steps rest h k a b d e = one_answer _ run (one_hear too_deep meaning sites parts told run number n p) steps rest h k a b d e
  one_reply run (command.Restart p) steps rest h k a b d e = one_answer _ run (one_restart too_deep meaning sites parts told run number p) steps rest h k a b d e

  by_meeting : (run : Run) (c : Command) (m : Option Step) (steps rest : List Step) → AnswersBy run c steps m → AnswersBy run c rest m → Shown c steps run → Shown c rest run → Told c run steps → Told c run rest → steps ≡ rest
  by_meeting run c (Some s) steps rest h k a b d e = h ∙ sym k
  by_meeting run c None steps rest h k a b d e = one_reply run c steps rest h k a b d e

  -- after the same run one command has one answer
  pub one_command : (is_built : Command → Bool) (run : Run) (c : Command) (steps rest : List Step) → IsAnswer is_built run c steps → IsAnswer is_built run c rest → Shown c steps run → Shown c rest run → IsTold told (answered number (Some c) steps run) → IsTold told (answered number (Some c) rest run) → steps ≡ rest
  one_command is_built run c steps rest h k a b d e = by_meeting run c (met is_built run c) steps rest h k a b (told_steps told number c steps run d) (told_steps told number c rest run e)
