-- After the same run one command has one answer of a partition.
use Rattle.std.proofs.Common.{◌≡◌, ⊎_elim, ℕ, ◌+◌, Bool, true, false, List, [], ◌∷◌, Option, None, Some, refl, sym, ap, ◌∙◌, subst, inl, inr, ◌⊎◌, not, ◌&&◌}
use Rattle.std.proofs.lemmas.Bool.{cases_Bool, cond-true, cond-false, cond_both, and_parts, or_parts}
use Rattle.site_vector.specs.declared.ids.PartId.{PartId}
use Rattle.site_vector.specs.declared.ids.TxId.{TxId}
use Rattle.crdt_core.specs.declared.kind.Kind.{Kind}
use Rattle.crdt_core.specs.declared.object.Field.{Field}
use Rattle.crdt_core.specs.declared.value.Value.{Value}
use Rattle.crdt_core.specs.Seen.{Update}
use Rattle.crdt_core.specs.declared.object.ObjectId.{ObjectId}
use Rattle.crdt_core.specs.declared.operation.Op.{Op}
use Rattle.world_model.proofs.Names.{clash, off}
use Rattle.world_model.specs.declared.command.Mode.{Mode}
use Rattle.world_model.specs.declared.command.Command.{Command}
use Rattle.world_model.specs.declared.command.Command.TheVariants as command
use Rattle.world_model.specs.declared.commit.What.{What}
use Rattle.world_model.specs.declared.commit.What.TheVariants as what
use Rattle.world_model.specs.declared.step.Step.{Step}
use Rattle.world_model.specs.declared.step.Step.TheVariants as step
use Rattle.world_model.specs.commands.Answers.{answered}
use Rattle.world_model.specs.commands.CommitSteps.{Going, given_up, next_step, starting}
use Rattle.world_model.specs.commands.Cluster.{parts_of}
use Rattle.world_model.specs.commands.Messages.{Letter, Notice, message_of, report_of, messages, reports}
use Rattle.world_model.specs.commands.Phases.{Phase, Open, Ending, phase, holders}
use Rattle.world_model.specs.commands.Run.{Run}
use Rattle.world_model.specs.commands.Run as script
use Rattle.world_model.specs.commands.ScriptAnswers.{Bears}
use Rattle.world_model.specs.commands.ScriptCalls.{Placed, is_called, asked_by, asked_of, at_object, for_step, for_commit, for_message, for_report, own_of, own_report, numbered, calls_of}
use Rattle.world_model.specs.lines.Answers.{IsAnswer}
use Rattle.world_model.specs.lines.Lines as world
use Rattle.world_model.specs.lines.Lines.{Call, Tick, Begin, ReadOf, UpdateOf, PrepareOf, DecideOf, FinishOf, AbortOf, SendTo, TakeOf, HearOf, Line}
use Rattle.one_run.specs.Unfailing.{is_of_disk, IsMarked, AreUnfailing}
use Rattle.one_run.specs.Tells.{Tells}
use Rattle.one_run.specs.OneRun.{is_calm, is_restart_of, is_free, told_at, IsTold}
use Rattle.one_run.proofs.OneLine.{on}
use Rattle.one_run.proofs.NextLine.{is_restart, next_line}
use Rattle.world_model.specs.commands.Settling.{stays, ends_as_lead, first_end, settling}
use Rattle.world_model.specs.lines.History.{in_history}
use Rattle.world_model.specs.lines.Waiting.{waiting}

numbered_calm : (run : Run) (s : Step) → is_of_disk s ≡ false → is_of_disk (numbered run s) ≡ false
numbered_calm run (step.Sent n p to lo hi count) d = d
numbered_calm run s d = d

flip : (b : Bool) → not b ≡ true → b ≡ false
flip true h = off h
flip false h = refl

unflip : (b : Bool) → not b ≡ false → b ≡ true
unflip true h = refl
unflip false h = off (sym h)

pub calm_calls : (run : Run) → is_calm run ≡ true → AreUnfailing (calls_of run)
calm_calls [] h = tt
calm_calls (l ∷ run) h =
    let x = and_parts (not (is_of_disk l.step)) (is_calm run) h in
    cond_both (is_called l.command l.step) (on 0 0 (calls_of run) (asked_by (calls_of run) run l.command l.step).at (asked_by (calls_of run) run l.command l.step).call (numbered run l.step)) (calls_of run) AreUnfailing (λ e. (numbered_calm run l.step (flip (is_of_disk l.step) x.0), calm_calls run x.1)) (λ e. calm_calls run x.1)

pub told_front : (told : Run → Option Step) (number : ℕ) (c : Option Command) (steps : List Step) (run : Run) → IsTold told (answered number c steps run) → IsTold told run
told_front told number c [] run h = h
told_front told number c (s ∷ steps) run h = (told_front told number c steps ((record { number = number; command = c; step = s }) ∷ run) h).1

abbrev Of : Option Step → Step → Type 0
Of None r = ⊥
Of (Some s) r = s ≡ r

-- two lines that are told at once are one, or neither hangs on a disk
pub told_cases : (told : Run → Option Step) (run : Run) (c : Option Command) (s r : Step) → told run ≡ told_at run c s → told run ≡ told_at run c r → (s ≡ r) ⊎ ((is_free run c s ≡ false) × (is_free run c r ≡ false))
told_cases told run c s r h k = ⊎_elim
    (λ (e : is_free run c s ≡ true). ⊎_elim
    (λ (f : is_free run c r ≡ true). let same : Some s ≡ Some r = sym (cond-true (is_free run c s) (Some s) None e) ∙ (sym h ∙ (k ∙ cond-true (is_free run c r) (Some r) None f)) in inl (sym (subst (λ (o : Option Step). Of o s) same refl)))
    (λ (f : is_free run c r ≡ false). let same : Some s ≡ None = sym (cond-true (is_free run c s) (Some s) None e) ∙ (sym h ∙ (k ∙ cond-false (is_free run c r) (Some r) None f)) in absurd (cc same))
    (cases_Bool (is_free run c r)))
    (λ (e : is_free run c s ≡ false). ⊎_elim
    (λ (f : is_free run c r ≡ true). let same : Some r ≡ None = sym (cond-true (is_free run c r) (Some r) None f) ∙ (sym k ∙ (h ∙ cond-false (is_free run c s) (Some s) None e)) in absurd (cc same))
    (λ (f : is_free run c r ≡ false). inr (e, f))
    (cases_Bool (is_free run c r)))
    (cases_Bool (is_free run c s))

-- calls whose answers bear no number of a message or a report
abbrev pub is_numbering : Call → Bool
is_numbering (SendTo site asked) = true
is_numbering (TakeOf w site lo hi) = true
is_numbering world.Report = true
is_numbering (HearOf w part bounds) = true
is_numbering other = false

plain : (ls : List Line) (run : Run) (p : PartId) (call : Call) (s : Step) → is_numbering call ≡ false → IsAnswer ls p call (numbered run s) → numbered run s ≡ s
plain ls run p (SendTo site asked) s e a = clash refl e
plain ls run p (TakeOf w site lo hi) s e a = clash refl e
plain ls run p world.Report s e a = clash refl e
plain ls run p (HearOf w part bounds) s e a = clash refl e
plain ls run p call (step.Sent n q to lo hi count) e a = absurd a
plain ls run p call (step.Took n hi) e a = absurd a
plain ls run p call (step.Dup n x) e a = absurd a
plain ls run p call (step.Gap n x) e a = absurd a
plain ls run p call (step.Reported n q b) e a = absurd a
plain ls run p call (step.Heard n q b) e a = absurd a
plain ls run p call s e a = refl

-- the line with this number
abbrev restore : ℕ → Step → Step
restore k (step.Sent n q to lo hi count) = step.Sent k q to lo hi count
restore k (step.Took n hi) = step.Took k hi
restore k (step.Dup n x) = step.Dup k x
restore k (step.Gap n x) = step.Gap k x
restore k (step.Reported n q b) = step.Reported k q b
restore k (step.Heard n q b) = step.Heard k q b
restore k other = other

module _ (too_deep : Kind → List Field → Bool) (meaning : Kind → List Update → Value) (sites parts : ℕ) where
  pub shows_one : (l : script.Line) (run : Run) → Tells too_deep meaning sites parts (calls_of (l ∷ run)) → Tells too_deep meaning sites parts (calls_of run)
  shows_one l run h =
      let asked = asked_by (calls_of run) run l.command l.step in
      let more = on 0 0 (calls_of run) asked.at asked.call (numbered run l.step) in ⊎_elim
      (λ (e : is_called l.command l.step ≡ true). (subst (Tells too_deep meaning sites parts) (cond-true (is_called l.command l.step) more (calls_of run) e) h).1)
      (λ (e : is_called l.command l.step ≡ false). subst (Tells too_deep meaning sites parts) (cond-false (is_called l.command l.step) more (calls_of run) e) h)
      (cases_Bool (is_called l.command l.step))

  pub shows_front : (number : ℕ) (c : Option Command) (steps : List Step) (run : Run) → Tells too_deep meaning sites parts (calls_of (answered number c steps run)) → Tells too_deep meaning sites parts (calls_of run)
  shows_front number c [] run h = h
  shows_front number c (s ∷ steps) run h = shows_one (record { number = number; command = c; step = s }) run (shows_front number c steps _ h)

  module _ (told : Run → Option Step) (run : Run) (number : ℕ) where
    abbrev ls : List Line
    ls = calls_of run

    -- the run goes on with this line
    abbrev pub Goes : Command → Step → Type 0
    Goes c s = Tells too_deep meaning sites parts (calls_of ((record { number = number; command = Some c; step = s }) ∷ run))

    called_shows : (c : Command) (s : Step) (asked : Placed) → asked_by ls run (Some c) s ≡ asked → is_called (Some c) s ≡ true → Goes c s → Tells too_deep meaning sites parts (on sites parts ls asked.at asked.call (numbered run s))
    called_shows c s asked e k h = subst (λ (x : Placed). Tells too_deep meaning sites parts (on sites parts ls x.at x.call (numbered run s))) e (subst (Tells too_deep meaning sites parts) (cond-true (is_called (Some c) s) (on sites parts ls (asked_by ls run (Some c) s).at (asked_by ls run (Some c) s).call (numbered run s)) ls k) h)

    -- what both answers to this call owe
    pub record Fits (c : Command) (asked : Placed) (n : ℕ) (who : List ℕ) (s : Step) : Type 0 where
      pub asks : asked_by ls run (Some c) s ≡ asked
      pub called : is_called (Some c) s ≡ true
      pub goes : Goes c s
      pub told_so : told run ≡ told_at run (Some c) s
      pub marked : IsMarked asked.call n who (numbered run s)

    answer_of : (c : Command) (asked : Placed) (n : ℕ) (who : List ℕ) (s : Step) → Fits c asked n who s → IsAnswer ls asked.at asked.call (numbered run s)
    answer_of c asked n who s h = (called_shows c s asked h.asks h.called h.goes).0.answers.0

    quiet_at : (o : ObjectId) (ph : Phase) (f : TxId → Call) → ((t : TxId) → is_restart (f t) ≡ false) → is_restart (at_object (parts_of run) o ph f).call ≡ false
    quiet_at o (Open t s objects) f h = h t
    quiet_at o ph f h = refl

    quiet_step : (t : TxId) (w : What) → is_restart (for_step t w).call ≡ false
    quiet_step t (what.Prepare p) = refl
    quiet_step t (what.Decide p c) = refl
    quiet_step t (what.Finish p c) = refl
    quiet_step t (what.Abort p) = refl
    quiet_step t what.Done = refl

    quiet_commit : (ph : Phase) (f : Going → Going) → is_restart (for_commit (parts_of run) ph f).call ≡ false
    quiet_commit (Open t s objects) f = quiet_step t (next_step t.site s (f (starting (holders (parts_of run) objects))))
    quiet_commit (Ending t s g) f = quiet_step t (next_step t.site s (f g))
    quiet_commit ph f = refl

    quiet_message : (m : Option Letter) → is_restart (for_message m).call ≡ false
    quiet_message None = refl
    quiet_message (Some m) = refl

    quiet_report : (p : PartId) (m : Option Notice) → is_restart (for_report p m).call ≡ false
    quiet_report p None = refl
    quiet_report p (Some m) = refl

    quiet_end : (t : TxId) → is_restart (ends_as_lead ls t) ≡ false
    quiet_end t = cond_both (in_history ls t) (FinishOf t) (AbortOf t) (λ c. is_restart c ≡ false) (λ e. refl) (λ e. refl)

    quiet_first : (p : PartId) (waits : List (TxId × ℕ)) → is_restart (first_end (parts_of run) ls p waits) ≡ false
    quiet_first p [] = refl
    quiet_first p (x ∷ waits) = cond_both (stays (parts_of run) ls p x.0) (first_end (parts_of run) ls p waits) (ends_as_lead ls x.0) (λ c. is_restart c ≡ false) (λ e. quiet_first p waits) (λ e. quiet_end x.0)

    quiet_settle : (p : PartId) (s : Step) → is_restart (settling (parts_of run) ls p s) ≡ false
    quiet_settle p (step.Finished q t) = refl
    quiet_settle p (step.Aborted q t) = refl
    quiet_settle p (step.Down q) = refl
    quiet_settle p s = quiet_first p (waiting ls p)

    -- only the command to restart asks for a restart
    quiet : (c : Command) (s : Step) → is_restart (asked_by ls run (Some c) s).call ≡ true → is_restart_of (Some c) ≡ true
    quiet (command.Restart p) s h = refl
    quiet (command.Read name o) s h = clash h (quiet_at o (phase run name) (λ t. ReadOf t o) (λ t. refl))
    quiet (command.Update name o op) s h = clash h (quiet_at o (phase run name) (λ t. UpdateOf t o op) (λ t. refl))
    quiet (command.Commit name n) s h = clash h (quiet_commit (phase run name) (λ g. g))
    quiet (command.Abort name) s h = clash h (quiet_commit (phase run name) given_up)
    quiet (command.Deliver n) s h = clash h (quiet_message (message_of run n))
    quiet (command.Hear n p) s h = clash h (quiet_report p (report_of run n))
    quiet (command.Settle p) s h = clash h (quiet_settle p s)
    quiet c s h = off h

    one_number : (c : Command) (asked : Placed) (n : ℕ) (who : List ℕ) (s r : Step) → Fits c asked n who s → Fits c asked n who r → numbered run s ≡ numbered run r
    one_number c asked n who s r h k = ⊎_elim
        (λ (e : s ≡ r). ap (numbered run) e)
        (λ (x : (is_free run (Some c) s ≡ false) × (is_free run (Some c) r ≡ false)).
        let a = or_parts (is_of_disk s) (is_restart_of (Some c) && not (is_calm run)) x.0 in
        let b = or_parts (is_of_disk r) (is_restart_of (Some c) && not (is_calm run)) x.1 in
        next_line too_deep meaning sites parts ls asked.at n who asked.call (numbered run s) (numbered run r)
        (λ e. let f : is_restart_of (Some c) ≡ true = quiet c s (subst (λ (y : Placed). is_restart y.call ≡ true) (sym h.asks) e) in calm_calls run (unflip (is_calm run) (subst (λ y. (y && not (is_calm run)) ≡ false) f a.1)))
        (called_shows c s asked h.asks h.called h.goes) (called_shows c r asked k.asks k.called k.goes) (numbered_calm run s a.0) (numbered_calm run r b.0) h.marked k.marked)
        (told_cases told run (Some c) s r h.told_so k.told_so)

    pub one_plain : (c : Command) (asked : Placed) (n : ℕ) (who : List ℕ) (s r : Step) → is_numbering asked.call ≡ false → Fits c asked n who s → Fits c asked n who r → s ≡ r
    one_plain c asked n who s r e h k = sym (plain ls run asked.at asked.call s e (answer_of c asked n who s h)) ∙ (one_number c asked n who s r h k ∙ plain ls run asked.at asked.call r e (answer_of c asked n who r k))

    pub one_restored : (c : Command) (asked : Placed) (n : ℕ) (who : List ℕ) (number : ℕ) (s r : Step) → ((x : Step) → IsAnswer ls asked.at asked.call (numbered run x) → Bears run c x → x ≡ restore number (numbered run x)) → Bears run c s → Bears run c r → Fits c asked n who s → Fits c asked n who r → s ≡ r
    one_restored c asked n who number s r back b d h k = back s (answer_of c asked n who s h) b ∙ (ap (restore number) (one_number c asked n who s r h k) ∙ sym (back r (answer_of c asked n who r k) d))

    -- one answer of a partition
    pub record IsCalled (c : Command) (s : Step) : Type 0 where
      pub called : is_called (Some c) s ≡ true
      pub goes : Goes c s
      pub told_so : told run ≡ told_at run (Some c) s
      pub bears : Bears run c s

    fits : (c : Command) (asked : Placed) (n : ℕ) (who : List ℕ) (s : Step) → IsCalled c s → asked_by ls run (Some c) s ≡ asked → IsMarked asked.call n who (numbered run s) → Fits c asked n who s
    fits c asked n who s h e m = record { asks = e; called = h.called; goes = h.goes; told_so = h.told_so; marked = m }

    plain_at : (o : ObjectId) (ph : Phase) (f : TxId → Call) → ((t : TxId) → is_numbering (f t) ≡ false) → is_numbering (at_object (parts_of run) o ph f).call ≡ false
    plain_at o (Open t s objects) f h = h t
    plain_at o ph f h = refl

    plain_step : (t : TxId) (w : What) → is_numbering (for_step t w).call ≡ false
    plain_step t (what.Prepare p) = refl
    plain_step t (what.Decide p c) = refl
    plain_step t (what.Finish p c) = refl
    plain_step t (what.Abort p) = refl
    plain_step t what.Done = refl

    plain_commit : (ph : Phase) (f : Going → Going) → is_numbering (for_commit (parts_of run) ph f).call ≡ false
    plain_commit (Open t s objects) f = plain_step t (next_step t.site s (f (starting (holders (parts_of run) objects))))
    plain_commit (Ending t s g) f = plain_step t (next_step t.site s (f g))
    plain_commit ph f = refl

    mark_step : (t : TxId) (w : What) (n : ℕ) (who : List ℕ) (s : Step) → IsMarked (for_step t w).call n who s
    mark_step t (what.Prepare p) n who s = tt
    mark_step t (what.Decide p c) n who s = tt
    mark_step t (what.Finish p c) n who s = tt
    mark_step t (what.Abort p) n who s = tt
    mark_step t what.Done n who s = tt

    mark_commit : (ph : Phase) (f : Going → Going) (n : ℕ) (who : List ℕ) (s : Step) → IsMarked (for_commit (parts_of run) ph f).call n who s
    mark_commit (Open t s objects) f n who x = mark_step t (next_step t.site s (f (starting (holders (parts_of run) objects)))) n who x
    mark_commit (Ending t s g) f n who x = mark_step t (next_step t.site s (f g)) n who x
    mark_commit ph f n who x = tt

    -- a read and an update bear the name of their command
    mark_read : (name : List ℕ) (o : ObjectId) (ph : Phase) (s : Step) → Bears run (command.Read name o) s → IsMarked (at_object (parts_of run) o ph (λ t. ReadOf t o)).call 0 name (numbered run s)
    mark_read name o (Open t v objects) (step.Value who object value) b = b.0
    mark_read name o (Open t v objects) s b = tt
    mark_read name o ph s b = tt

    mark_update : (name : List ℕ) (o : ObjectId) (op : Op) (ph : Phase) (s : Step) → Bears run (command.Update name o op) s → IsMarked (at_object (parts_of run) o ph (λ t. UpdateOf t o op)).call 0 name (numbered run s)
    mark_update name o op (Open t v objects) (step.Updated who object stamp) b = b.0
    mark_update name o op (Open t v objects) s b = tt
    mark_update name o op ph s b = tt

    -- a message and a report that is handed bear the number of their command
    mark_take : (k : ℕ) (m : Option Letter) → message_of run k ≡ m → (s : Step) → Bears run (command.Deliver k) s → IsMarked (for_message m).call (own_of m) [] (numbered run s)
    mark_take k None e s b = tt
    mark_take k (Some m) e (step.Took n hi) b = ap (λ z. own_of (message_of run z)) b ∙ ap own_of e
    mark_take k (Some m) e (step.Dup n x) b = ap (λ z. own_of (message_of run z)) b ∙ ap own_of e
    mark_take k (Some m) e (step.Gap n x) b = ap (λ z. own_of (message_of run z)) b ∙ ap own_of e
    mark_take k (Some m) e s b = tt

    mark_hear : (k : ℕ) (p : PartId) (m : Option Notice) → report_of run k ≡ m → (s : Step) → Bears run (command.Hear k p) s → IsMarked (for_report p m).call (own_report m) [] (numbered run s)
    mark_hear k p None e s b = tt
    mark_hear k p (Some m) e (step.Heard n q x) b = ap (λ z. own_report (report_of run z)) b ∙ ap own_report e
    mark_hear k p (Some m) e s b = tt

    back_take : (k : ℕ) (m : Option Letter) (s : Step) → IsAnswer ls (for_message m).at (for_message m).call (numbered run s) → Bears run (command.Deliver k) s → s ≡ restore k (numbered run s)
    back_take k m (step.Took n hi) a b = ap (λ z. step.Took z hi) b
    back_take k m (step.Dup n x) a b = ap (λ z. step.Dup z x) b
    back_take k m (step.Gap n x) a b = ap (λ z. step.Gap z x) b
    back_take k None (step.Sent n q to lo hi count) a b = absurd a
    back_take k (Some m) (step.Sent n q to lo hi count) a b = absurd a
    back_take k None (step.Reported n q x) a b = absurd a
    back_take k (Some m) (step.Reported n q x) a b = absurd a
    back_take k None (step.Heard n q x) a b = absurd a
    back_take k (Some m) (step.Heard n q x) a b = absurd a
    back_take k m s a b = refl

    back_hear : (k : ℕ) (p : PartId) (m : Option Notice) (s : Step) → IsAnswer ls (for_report p m).at (for_report p m).call (numbered run s) → Bears run (command.Hear k p) s → s ≡ restore k (numbered run s)
    back_hear k p m (step.Heard n q x) a b = ap (λ z. step.Heard z q x) b
    back_hear k p None (step.Sent n q to lo hi count) a b = absurd a
    back_hear k p (Some m) (step.Sent n q to lo hi count) a b = absurd a
    back_hear k p None (step.Reported n q x) a b = absurd a
    back_hear k p (Some m) (step.Reported n q x) a b = absurd a
    back_hear k p None (step.Took n x) a b = absurd a
    back_hear k p (Some m) (step.Took n x) a b = absurd a
    back_hear k p None (step.Dup n x) a b = absurd a
    back_hear k p (Some m) (step.Dup n x) a b = absurd a
    back_hear k p None (step.Gap n x) a b = absurd a
    back_hear k p (Some m) (step.Gap n x) a b = absurd a
    back_hear k p m s a b = refl

    back_send : (at p : PartId) (site : ℕ) (from : Option ℕ) (s : Step) → IsAnswer ls at (SendTo site from) (numbered run s) → Bears run (command.Send p site from) s → s ≡ restore ((messages run).made + 1) (numbered run s)
    back_send at p site from (step.Sent n q to lo hi count) a b = ap (λ z. step.Sent z q to lo hi count) b
    back_send at p site from (step.Took n x) a b = absurd a
    back_send at p site from (step.Dup n x) a b = absurd a
    back_send at p site from (step.Gap n x) a b = absurd a
    back_send at p site from (step.Reported n q x) a b = absurd a
    back_send at p site from (step.Heard n q x) a b = absurd a
    back_send at p site from s a b = refl

    back_report : (at p : PartId) (s : Step) → IsAnswer ls at world.Report (numbered run s) → Bears run (command.Report p) s → s ≡ restore ((reports run).made + 1) (numbered run s)
    back_report at p (step.Reported n q x) a b = ap (λ z. step.Reported z q x) b
    back_report at p (step.Sent n q to lo hi count) a b = absurd a
    back_report at p (step.Took n x) a b = absurd a
    back_report at p (step.Dup n x) a b = absurd a
    back_report at p (step.Gap n x) a b = absurd a
    back_report at p (step.Heard n q x) a b = absurd a
    back_report at p s a b = refl

    -- what a command asks of one partition, with the number and the name that its answer bears
    pub one_tick : (p : PartId) (n : ℕ) (s r : Step) → IsCalled (command.Clock p n) s → IsCalled (command.Clock p n) r → s ≡ r
    one_tick p n s r h k = let c = command.Clock p n in let asked = asked_of ls run c in one_plain c asked 0 [] s r refl (fits c asked 0 [] s h refl tt) (fits c asked 0 [] r k refl tt)

    pub one_begin : (name : List ℕ) (part : Option PartId) (mode : Mode) (s r : Step) → IsCalled (command.Begin name part mode) s → IsCalled (command.Begin name part mode) r → s ≡ r
    one_begin name part mode s r h k = let c = command.Begin name part mode in let asked = asked_of ls run c in one_plain c asked 0 [] s r refl (fits c asked 0 [] s h refl tt) (fits c asked 0 [] r k refl tt)

    pub one_restart : (p : PartId) (s r : Step) → IsCalled (command.Restart p) s → IsCalled (command.Restart p) r → s ≡ r
    one_restart p s r h k = let c = command.Restart p in let asked = asked_of ls run c in one_plain c asked 0 [] s r refl (fits c asked 0 [] s h refl tt) (fits c asked 0 [] r k refl tt)

    pub one_expire : (p : PartId) (t : TxId) (s r : Step) → IsCalled (command.Expire p t) s → IsCalled (command.Expire p t) r → s ≡ r
    one_expire p t s r h k = let c = command.Expire p t in let asked = asked_of ls run c in one_plain c asked 0 [] s r refl (fits c asked 0 [] s h refl tt) (fits c asked 0 [] r k refl tt)

    pub one_read : (name : List ℕ) (o : ObjectId) (s r : Step) → IsCalled (command.Read name o) s → IsCalled (command.Read name o) r → s ≡ r
    one_read name o s r h k = let c = command.Read name o in let asked = asked_of ls run c in one_plain c asked 0 name s r (plain_at o (phase run name) (λ t. ReadOf t o) (λ t. refl)) (fits c asked 0 name s h refl (mark_read name o (phase run name) s h.bears)) (fits c asked 0 name r k refl (mark_read name o (phase run name) r k.bears))

    pub one_update : (name : List ℕ) (o : ObjectId) (op : Op) (s r : Step) → IsCalled (command.Update name o op) s → IsCalled (command.Update name o op) r → s ≡ r
    one_update name o op s r h k = let c = command.Update name o op in let asked = asked_of ls run c in one_plain c asked 0 name s r (plain_at o (phase run name) (λ t. UpdateOf t o op) (λ t. refl)) (fits c asked 0 name s h refl (mark_update name o op (phase run name) s h.bears)) (fits c asked 0 name r k refl (mark_update name o op (phase run name) r k.bears))

    pub one_send : (p : PartId) (site : ℕ) (from : Option ℕ) (s r : Step) → IsCalled (command.Send p site from) s → IsCalled (command.Send p site from) r → s ≡ r
    one_send p site from s r h k = let c = command.Send p site from in let asked = asked_of ls run c in one_restored c asked 0 [] ((messages run).made + 1) s r (back_send asked.at p site from) h.bears k.bears (fits c asked 0 [] s h refl tt) (fits c asked 0 [] r k refl tt)

    pub one_report : (p : PartId) (s r : Step) → IsCalled (command.Report p) s → IsCalled (command.Report p) r → s ≡ r
    one_report p s r h k = let c = command.Report p in let asked = asked_of ls run c in one_restored c asked 0 [] ((reports run).made + 1) s r (back_report asked.at p) h.bears k.bears (fits c asked 0 [] s h refl tt) (fits c asked 0 [] r k refl tt)

    pub one_take : (n : ℕ) (s r : Step) → IsCalled (command.Deliver n) s → IsCalled (command.Deliver n) r → s ≡ r
    one_take n s r h k = let c = command.Deliver n in let m = message_of run n in let asked = asked_of ls run c in one_restored c asked (own_of m) [] n s r (back_take n m) h.bears k.bears (fits c asked (own_of m) [] s h refl (mark_take n m refl s h.bears)) (fits c asked (own_of m) [] r k refl (mark_take n m refl r k.bears))

    pub one_hear : (n : ℕ) (p : PartId) (s r : Step) → IsCalled (command.Hear n p) s → IsCalled (command.Hear n p) r → s ≡ r
    one_hear n p s r h k = let c = command.Hear n p in let m = report_of run n in let asked = asked_of ls run c in one_restored c asked (own_report m) [] n s r (back_hear n p m) h.bears k.bears (fits c asked (own_report m) [] s h refl (mark_hear n p m refl s h.bears)) (fits c asked (own_report m) [] r k refl (mark_hear n p m refl r k.bears))

    -- the steps of a commit, and of its giving up
    pub one_commit : (name : List ℕ) (n : Option ℕ) (s r : Step) → IsCalled (command.Commit name n) s → IsCalled (command.Commit name n) r → s ≡ r
    one_commit name n s r h k = let c = command.Commit name n in let asked = asked_of ls run c in one_plain c asked 0 [] s r (plain_commit (phase run name) (λ g. g)) (fits c asked 0 [] s h refl (mark_commit (phase run name) (λ g. g) 0 [] (numbered run s))) (fits c asked 0 [] r k refl (mark_commit (phase run name) (λ g. g) 0 [] (numbered run r)))

    pub one_abort : (name : List ℕ) (s r : Step) → IsCalled (command.Abort name) s → IsCalled (command.Abort name) r → s ≡ r
    one_abort name s r h k = let c = command.Abort name in let asked = asked_of ls run c in one_plain c asked 0 [] s r (plain_commit (phase run name) given_up) (fits c asked 0 [] s h refl (mark_commit (phase run name) given_up 0 [] (numbered run s))) (fits c asked 0 [] r k refl (mark_commit (phase run name) given_up 0 [] (numbered run r)))
