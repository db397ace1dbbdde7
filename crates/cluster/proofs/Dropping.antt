-- Messages and reports that are kept, and then dropped.
use Rattle.std.proofs.Common.{◌≡◌, ℕ, ◌+◌, Bool, true, false, List, [], ◌∷◌, length, refl, sym, ap, ◌∙◌, subst, Option, None, Some, arith}
use Rattle.std.specs.Prelude.{not, nat_eq, if◌then◌else◌, is_some, is_none}
use Rattle.std.proofs.lemmas.Bool.{cond-false, cond-true}
use Rattle.crdt_core.specs.declared.record.Message.{Message}
use Rattle.world_model.specs.declared.command.Command.{Command}
use Rattle.world_model.specs.declared.command.Command.TheVariants as command
use Rattle.world_model.specs.declared.step.Step.{Step}
use Rattle.world_model.specs.declared.step.Step.TheVariants as step
use Rattle.world_model.specs.commands.Answers.{answered}
use Rattle.world_model.specs.commands.Cluster.{parts_of}
use Rattle.world_model.specs.rules.Event as event
use Rattle.world_model.specs.commands.Meeting.{met}
use Rattle.world_model.specs.commands.Messages.{message_of, report_of}
use Rattle.world_model.specs.commands.Phases.{phase, by_command}
use Rattle.world_model.specs.commands.Run.{Run}
use Rattle.world_model.specs.commands.ScriptAnswers.{AnswersBy, IsAnswer}
use Rattle.txn_session.specs.Calls.{entries}
use Rattle.site_partitions.specs.Reaches.{Types}
use Rattle.cluster.specs.declared.post.Note.{Note}
use Rattle.cluster.specs.Built.{is_built}
use Rattle.cluster.specs.Post.{WholeState, MailAs, NoteAs, item_at}
use Rattle.cluster.specs.Reached.{Applies, ReachedWhole}
use Rattle.cluster.proofs.Keeping.{post_on, letter_at, note_at}
use Rattle.cluster.proofs.Meets.{all_met, first_at, none_due}
use Rattle.cluster.specs.Faults.{ShowFaults}
use Rattle.cluster.specs.Same.{SameCluster, same_refl}
use Rattle.cluster.proofs.Mere.{is_mere, mere_faults, IsMere}
use Rattle.cluster.proofs.Standing.{live_still, mere_still}

module _ {E : Type 0} (sites parts : ℕ) (run : Run) where
  -- whether the run keeps a message or a report
  pub lacks_letter : (events : List (event.Entry E)) (k : ℕ) (o : Option (Message E)) → MailAs sites parts run events k o → is_none (message_of run k) ≡ not (is_some o)
  lacks_letter events k None m = ap is_none m
  lacks_letter events k (Some y) m = ap is_none m.letter

  pub lacks_note : (events : List (event.Entry E)) (k : ℕ) (o : Option Note) → NoteAs sites parts run events k o → is_none (report_of run k) ≡ not (is_some o)
  lacks_note events k None n = ap is_none n
  lacks_note events k (Some y) n = ap is_none n.notice

none_either : {A : Type 0} (b : Bool) (o : Option A) → o ≡ None → (if b then None else o) ≡ None
none_either true o h = refl
none_either false o h = h

dropped_letter : (number : ℕ) → IsMere (step.DroppedMessage number)
dropped_letter number = record { answer = refl; cluster = refl; sites = λ n. refl; parts = λ n. refl; site = λ who old. refl; count = λ n. refl; phase = λ parts who old asked. refl; lets = refl; untaken = refl }

dropped_note : (number : ℕ) → IsMere (step.DroppedReport number)
dropped_note number = record { answer = refl; cluster = refl; sites = λ n. refl; parts = λ n. refl; site = λ who old. refl; count = λ n. refl; phase = λ parts who old asked. refl; lets = refl; untaken = refl }

module _ {S E D : Type 0} (types : Types S E D) (w : WholeState E D) where
  -- a command that meets a refusal, whatever run left the cluster so
  pub turned_down : (cmd : Command) (s : Step) (steps : List Step) → steps ≡ s ∷ [] → is_mere s ≡ true → ((run : Run) → ReachedWhole types w run → met is_built run cmd ≡ Some s) → ((run : Run) (who : List ℕ) → by_command (parts_of run) who (phase run who) (Some cmd) s ≡ phase run who) → Applies types (Some w) cmd steps (Some w)
  turned_down cmd s steps is h m idle number run r =
      let next : Run = (record { number = number; command = Some cmd; step = s }) ∷ run in
      let x = live_still types w.live number (Some cmd) s run h (idle run) r.live in (
        subst (λ o. AnswersBy run cmd steps o) (sym (m run r)) is,
        subst (λ l. ReachedWhole types w (answered number (Some cmd) l run)) (sym is) (record {
          live = x.reached;
          post = post_on w.live.sites.sites w.live.sites.parts run next r.live.calls x.reached.calls w.post x.keeps x.grows r.post;
        }),
        (same_refl types.state w.live.sites, mere_faults types.state run w.live.sites w.live.sites s steps is h),
      )

  module _ (number : ℕ) where
    pub lacks_mail : (run : Run) → ReachedWhole types w run → (b : Bool) → is_some (item_at w.post.letters number) ≡ b → is_none (message_of run number) ≡ not b
    lacks_mail run r b h = lacks_letter w.live.sites.sites w.live.sites.parts run (entries r.live.calls) number (item_at w.post.letters number) (r.post.mail number) ∙ ap not h

    pub lacks_notice : (run : Run) → ReachedWhole types w run → (b : Bool) → is_some (item_at w.post.notes number) ≡ b → is_none (report_of run number) ≡ not b
    lacks_notice run r b h = lacks_note w.live.sites.sites w.live.sites.parts run (entries r.live.calls) number (item_at w.post.notes number) (r.post.notes number) ∙ ap not h

    pub message_absent : (steps : List Step) → steps ≡ step.NoMessage ∷ [] → is_some (item_at w.post.letters number) ≡ false → Applies types (Some w) (command.DropMessage number) steps (Some w)
    message_absent steps is none = turned_down (command.DropMessage number) step.NoMessage steps is refl
        (λ run r. first_at (all_met run (command.DropMessage number)) 2 (refl, (ap not r.live.has, lacks_mail run r false none)))
        (λ run who. refl)

    pub report_absent : (steps : List Step) → steps ≡ step.NoMessage ∷ [] → is_some (item_at w.post.notes number) ≡ false → Applies types (Some w) (command.DropReport number) steps (Some w)
    report_absent steps is none = turned_down (command.DropReport number) step.NoMessage steps is refl
        (λ run r. first_at (all_met run (command.DropReport number)) 2 (refl, (ap not r.live.has, lacks_notice run r false none)))
        (λ run who. refl)

    pub message_dropped : (letters : List (ℕ × Message E)) (steps : List Step) → steps ≡ step.DroppedMessage number ∷ [] → is_some (item_at w.post.letters number) ≡ true → ((k : ℕ) → item_at letters k ≡ (if nat_eq number k then None else item_at w.post.letters k)) → length letters + 1 ≡ length w.post.letters
        → Applies types (Some w) (command.DropMessage number) steps (Some (record { live = w.live; post = record { letters = letters; next_letter = w.post.next_letter; notes = w.post.notes; next_note = w.post.next_note } }))
    message_dropped letters steps is there find count line run r =
        subst (λ l. IsAnswer is_built run (command.DropMessage number) l × ReachedWhole types (record { live = w.live; post = record { letters = letters; next_letter = w.post.next_letter; notes = w.post.notes; next_note = w.post.next_note } }) (answered line (Some (command.DropMessage number)) l run) × (SameCluster types.state w.live.sites w.live.sites × ShowFaults types.state run w.live.sites w.live.sites l)) (sym is) (
          subst (AnswersBy run (command.DropMessage number) (step.DroppedMessage number ∷ [])) (sym (none_due (all_met run (command.DropMessage number)) (refl, (ap not r.live.has, (lacks_mail run r true there, tt))))) refl,
          record {
            live = mere_still types w.live line (Some (command.DropMessage number)) (step.DroppedMessage number) run (dropped_letter number) (λ who. refl) r.live;
            post = record {
              mail = mail;
              made = r.post.made;
              present = (let n = r.post.present in omega (arith, n, count));
              sent = r.post.sent;
              notes = λ k. note_at w.live.sites.sites w.live.sites.parts run next (entries r.live.calls) (entries r.live.calls) k (item_at w.post.notes k) refl (λ own q e h. h) (r.post.notes k);
              reported = r.post.reported;
              noted = r.post.noted;
              told = r.post.told;
              above = λ k h. find k ∙ none_either (nat_eq number k) (item_at w.post.letters k) (r.post.above k h);
              beyond = r.post.beyond;
            };
          },
          (same_refl types.state w.live.sites, (tt, tt)),
        )
      where
        next : Run
        next = (record { number = line; command = Some (command.DropMessage number); step = step.DroppedMessage number }) ∷ run

        mail : (k : ℕ) → MailAs w.live.sites.sites w.live.sites.parts next (entries r.live.calls) k (item_at letters k)
        mail k = subst (λ o. MailAs w.live.sites.sites w.live.sites.parts next (entries r.live.calls) k o) (sym (find k)) (by_bool (nat_eq number k) refl)
          where
            by_bool : (b : Bool) → nat_eq number k ≡ b → MailAs w.live.sites.sites w.live.sites.parts next (entries r.live.calls) k (if b then None else item_at w.post.letters k)
            by_bool true h = cond-true (nat_eq number k) None (message_of run k) h
            by_bool false h = letter_at w.live.sites.sites w.live.sites.parts run next (entries r.live.calls) (entries r.live.calls) k (item_at w.post.letters k) (cond-false (nat_eq number k) None (message_of run k) h) (λ own q e x. x) (r.post.mail k)

    pub report_dropped : (notes : List (ℕ × Note)) (steps : List Step) → steps ≡ step.DroppedReport number ∷ [] → is_some (item_at w.post.notes number) ≡ true → ((k : ℕ) → item_at notes k ≡ (if nat_eq number k then None else item_at w.post.notes k)) → length notes + 1 ≡ length w.post.notes
        → Applies types (Some w) (command.DropReport number) steps (Some (record { live = w.live; post = record { letters = w.post.letters; next_letter = w.post.next_letter; notes = notes; next_note = w.post.next_note } }))
    report_dropped notes steps is there find count line run r =
        subst (λ l. IsAnswer is_built run (command.DropReport number) l × ReachedWhole types (record { live = w.live; post = record { letters = w.post.letters; next_letter = w.post.next_letter; notes = notes; next_note = w.post.next_note } }) (answered line (Some (command.DropReport number)) l run) × (SameCluster types.state w.live.sites w.live.sites × ShowFaults types.state run w.live.sites w.live.sites l)) (sym is) (
          subst (AnswersBy run (command.DropReport number) (step.DroppedReport number ∷ [])) (sym (none_due (all_met run (command.DropReport number)) (refl, (ap not r.live.has, (lacks_notice run r true there, tt))))) refl,
          record {
            live = mere_still types w.live line (Some (command.DropReport number)) (step.DroppedReport number) run (dropped_note number) (λ who. refl) r.live;
            post = record {
              mail = λ k. letter_at w.live.sites.sites w.live.sites.parts run next (entries r.live.calls) (entries r.live.calls) k (item_at w.post.letters k) refl (λ own q e h. h) (r.post.mail k);
              made = r.post.made;
              present = r.post.present;
              sent = r.post.sent;
              notes = told;
              reported = r.post.reported;
              noted = (let n = r.post.noted in omega (arith, n, count));
              told = r.post.told;
              above = r.post.above;
              beyond = λ k h. find k ∙ none_either (nat_eq number k) (item_at w.post.notes k) (r.post.beyond k h);
            };
          },
          (same_refl types.state w.live.sites, (tt, tt)),
        )
      where
        next : Run
        next = (record { number = line; command = Some (command.DropReport number); step = step.DroppedReport number }) ∷ run

        told : (k : ℕ) → NoteAs w.live.sites.sites w.live.sites.parts next (entries r.live.calls) k (item_at notes k)
        told k = subst (λ o. NoteAs w.live.sites.sites w.live.sites.parts next (entries r.live.calls) k o) (sym (find k)) (by_bool (nat_eq number k) refl)
          where
            by_bool : (b : Bool) → nat_eq number k ≡ b → NoteAs w.live.sites.sites w.live.sites.parts next (entries r.live.calls) k (if b then None else item_at w.post.notes k)
            by_bool true h = cond-true (nat_eq number k) None (report_of run k) h
            by_bool false h = note_at w.live.sites.sites w.live.sites.parts run next (entries r.live.calls) (entries r.live.calls) k (item_at w.post.notes k) (cond-false (nat_eq number k) None (report_of run k) h) (λ own q e x. x) (r.post.notes k)
