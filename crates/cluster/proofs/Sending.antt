-- A message or a report that is made, and kept under the next number.
use Rattle.std.proofs.Common.{◌≡◌, ◌≤◌, inl, inr, ℕ, ◌+◌, Bool, true, false, List, [], ◌∷◌, length, refl, sym, ap, ◌∙◌, subst, Option, Some, arith}
use Rattle.std.specs.Prelude.{not, nat_eq, ◌&&◌, ◌||◌, ◌==◌, if◌then◌else◌, Ok, Err}
use Rattle.std.proofs.lemmas.Bool.{or_parts, cond-false, cond-true, eqb-true}
use Rattle.site_vector.specs.declared.ids.PartId.{PartId}
use Rattle.site_vector.specs.Ids.{same_part}
use Rattle.crdt_core.specs.declared.record.Message.{Message}
use Rattle.world_model.specs.declared.command.Command.TheVariants as command
use Rattle.world_model.specs.declared.step.Step.{Step}
use Rattle.world_model.specs.declared.step.Step.TheVariants as step
use Rattle.world_model.specs.commands.Answers.{answered}
use Rattle.world_model.specs.commands.Cluster.{has_site, has_part}
use Rattle.world_model.specs.rules.Event as event
use Rattle.world_model.specs.rules.Event.{AskMessage, AskReport, Entry, Sent, Reported, Cut}
use Rattle.world_model.specs.lines.Lines.{SendTo}
use Rattle.world_model.specs.rules.Lines.{call_of, call_asked, fault_shown}
use Rattle.world_model.specs.commands.Messages.{message_of, report_of}
use Rattle.world_model.specs.lines.Places.{IsOther, IsPlace}
use Rattle.world_model.specs.rules.Partition.{IsMessage}
use Rattle.world_model.specs.commands.Run.{Run}
use Rattle.world_model.specs.commands.ScriptAnswers.{AnswersBy, IsAnswer}
use Rattle.partition_core.specs.declared.durable.DurableError.{DurableError}
use Rattle.partition_core.specs.declared.durable.DurableError.TheVariants as call
use Rattle.txn_session.specs.Calls.{entries}
use Rattle.cluster.specs.declared.post.Note.{Note}
use Rattle.site_partitions.specs.Answers.{Any, Asks, GoesOn, Calls}
use Rattle.cluster.specs.Built.{is_built}
use Rattle.cluster.specs.Faults.{ShowFaults}
use Rattle.cluster.specs.Sees.{FailedAs}
use Rattle.site_partitions.specs.Held.{Held, holds_part}
use Rattle.cluster.specs.Same.{SameCluster, same_refl}
use Rattle.cluster.specs.Post.{WholeState, HasPost, IsLetter, MailAs, IsNote, NoteAs, item_at, lacks_way}
use Rattle.cluster.specs.Reached.{IsReached, Applies, ReachedWhole}
use Rattle.site_partitions.specs.Reaches.{MayAsk, Types, Reaches}
use Rattle.cluster.proofs.Clocks.{site_in, part_in}
use Rattle.cluster.proofs.Delivering.{place_of_part, free_message, free_report, never_refused, is_failing, struck}
use Rattle.cluster.proofs.Dropping.{turned_down}
use Rattle.partition_core.specs.Moments.{Spends}
use Rattle.cluster.proofs.Failing.{spends_of}
use Rattle.cluster.proofs.Faulted.{same_of}
use Rattle.cluster.proofs.Keeping.{letter_at, note_at, none_and}
use Rattle.cluster.proofs.Meets.{all_met, first_at, none_due}
use Rattle.cluster.proofs.Posting.{IsPosted, posted}
use Rattle.world_model.specs.rules.Asking.{asked_by}
use Rattle.cluster.proofs.Rooms.{rooms_more}
use Rattle.cluster.proofs.Turning.{IsSilentFor}

sent_posted : (p at : PartId) (site to number lo hi count : ℕ) (from : Option ℕ) → IsPosted (command.Send p site from) (step.Sent number at to lo hi count)
sent_posted p at site to number lo hi count from = record { alone = refl; answer = refl; cluster = refl; sites = λ n. refl; parts = λ n. refl; site = λ who old. refl; count = λ n. refl; phase = λ parts who old. refl }

reported_posted : (p at : PartId) (number : ℕ) (b : List ℕ) → IsPosted (command.Report p) (step.Reported number at b)
reported_posted p at number b = record { alone = refl; answer = refl; cluster = refl; sites = λ n. refl; parts = λ n. refl; site = λ who old. refl; count = λ n. refl; phase = λ parts who old. refl }

and_true : (b : Bool) → (b && true) ≡ b
and_true true = refl
and_true false = refl

not_next : (n k : ℕ) → n + 1 ≤ k → nat_eq n k ≡ false
not_next n k h = by_bool (nat_eq n k) refl
  where
    by_bool : (b : Bool) → nat_eq n k ≡ b → b ≡ false
    by_bool true e = absurd (let x = eqb-true n k e in omega (arith, x, h))
    by_bool false e = refl

module _ {S E D : Type 0} (types : Types S E D) (w : WholeState E D) where
  module _ (at : PartId) (site : ℕ) (from : Option ℕ) where
    way_in : (run : Run) → ReachedWhole types w run → (not (has_part run at) || (not (has_site run site) || site == at.site)) ≡ lacks_way w.live.sites at site
    way_in run r = λ i. not (sym (part_in types w.live run r.live at) i) || (not (sym (site_in types w.live run r.live site) i) || site == at.site)

    pub send_nowhere : (steps : List Step) → steps ≡ step.NoPart ∷ [] → lacks_way w.live.sites at site ≡ true → Applies types (Some w) (command.Send at site from) steps (Some w)
    send_nowhere steps is lacks = turned_down types w (command.Send at site from) step.NoPart steps is refl
        (λ run r. first_at (all_met run (command.Send at site from)) 2 (refl, (ap not r.live.has, way_in run r ∙ lacks)))
        (λ run who. refl)

    pub send_full : (steps : List Step) → steps ≡ step.LimitMessages ∷ [] → lacks_way w.live.sites at site ≡ false → (length w.post.letters == 4096) ≡ true → Applies types (Some w) (command.Send at site from) steps (Some w)
    send_full steps is way full = turned_down types w (command.Send at site from) step.LimitMessages steps is refl
        (λ run r. first_at (all_met run (command.Send at site from)) 3 (refl, (ap not r.live.has, (way_in run r ∙ way, ap (λ n. n == 4096) (sym r.post.present) ∙ full))))
        (λ run who. refl)

    module _ (held : Held E D) (m : Message E) (letters : List (ℕ × Message E)) (g : GoesOn types w.live.sites held (Asks types w.live.sites Any at (AskMessage site from)) at (AskMessage site from) (λ e. (m.to ≡ site) × (e ≡ Sent from m)))
        (find : (k : ℕ) → item_at letters k ≡ (if nat_eq w.post.next_letter k then Some m else item_at w.post.letters k)) (count : length letters ≡ length w.post.letters + 1) where
      abbrev pub after_send : WholeState E D
      after_send = record { live = record { sites = held; sessions = w.live.sessions }; post = record { letters = letters; next_letter = w.post.next_letter + 1; notes = w.post.notes; next_note = w.post.next_note } }

      module _ (line : ℕ) (run : Run) (r : ReachedWhole types w run) where
        abbrev next : Run
        next = (record { number = line; command = Some (command.Send at site from); step = step.Sent w.post.next_letter at site m.lo m.hi (length m.parts) }) ∷ run

        abbrev later : List (Entry E)
        later = (record { at = at; event = Sent from m }) ∷ entries r.live.calls

        reached : Reaches types held later
        reached = let x = (g.goes (entries r.live.calls) r.live.sees.reached (tt, tt)).0 in subst (λ e. Reaches types held ((record { at = at; event = e }) ∷ entries r.live.calls)) x.shows.1 x.reached

        to : m.to ≡ site
        to = (g.goes (entries r.live.calls) r.live.sees.reached (tt, tt)).0.shows.0

        abbrev made : IsMessage held.sites at (reached.is_run.0 at) from m
        made = reached.is_run.2.step.1

        from_is : at ≡ record { site = m.from; part = m.part }
        from_is = λ i. record { site = sym made.from i; part = sym made.part i }

        home : IsPlace w.live.sites.sites w.live.sites.parts at
        home = subst (λ n. IsPlace n w.live.sites.parts at) g.moves.same_sites (subst (λ n. IsPlace held.sites n at) g.moves.same_parts reached.is_run.2.place)

        way : IsOther w.live.sites.sites at.site m.to
        way = subst (λ n. IsOther n at.site m.to) g.moves.same_sites made.to

        fresh : nat_eq w.post.next_letter w.post.next_letter ≡ true → IsLetter w.live.sites.sites w.live.sites.parts next later w.post.next_letter m
        fresh same = record {
          own = event.sent_count (entries r.live.calls) at + 1;
          letter = cond-true (nat_eq w.post.next_letter w.post.next_letter) _ (message_of run w.post.next_letter) same ∙ (λ i. Some (record { from = from_is i; own = r.post.sent at i + 1; to = sym to i; lo = m.lo; hi = m.hi }));
          asked = from;
          shown = inl (from_is, refl, ap (λ q. event.sent_count (entries r.live.calls) q + 1) from_is);
          place = record { least_site = way.least; most_site = way.most; least_part = subst (λ q. 1 ≤ q.part) from_is home.least_part; most_part = subst (λ q. q.part ≤ w.live.sites.parts) from_is home.most_part };
          other = record { least = subst (λ q. 1 ≤ q.site) from_is home.least_site; most = subst (λ q. q.site ≤ w.live.sites.sites) from_is home.most_site; apart = λ e. way.apart (sym e ∙ sym (ap (λ q. q.site) from_is)) };
        }

        mail : (k : ℕ) → MailAs w.live.sites.sites w.live.sites.parts next later k (item_at letters k)
        mail k = subst (λ o. MailAs w.live.sites.sites w.live.sites.parts next later k o) (sym (find k)) (by_bool (nat_eq w.post.next_letter k) refl)
          where
            by_bool : (b : Bool) → nat_eq w.post.next_letter k ≡ b → MailAs w.live.sites.sites w.live.sites.parts next later k (if b then Some m else item_at w.post.letters k)
            by_bool true h = subst (λ n. IsLetter w.live.sites.sites w.live.sites.parts next later n m) (eqb-true w.post.next_letter k h) (fresh (subst (λ n. nat_eq w.post.next_letter n ≡ true) (sym (eqb-true w.post.next_letter k h)) h))
            by_bool false h = letter_at w.live.sites.sites w.live.sites.parts run next (entries r.live.calls) later k (item_at w.post.letters k) (cond-false (nat_eq w.post.next_letter k) _ (message_of run k) h) (λ own q e x. inr x) (r.post.mail k)

        post : HasPost w.live.sites.sites w.live.sites.parts next later after_send.post
        post = record {
          mail = mail;
          made = ap (λ n. n + 1) r.post.made;
          present = count ∙ ap (λ n. n + 1) r.post.present;
          sent = λ q. (λ i. if sym (and_true (same_part at q)) i then r.post.sent q i + 1 else r.post.sent q i);
          notes = λ k. note_at w.live.sites.sites w.live.sites.parts run next (entries r.live.calls) later k (item_at w.post.notes k) refl (λ own q e x. inr x) (r.post.notes k);
          reported = r.post.reported;
          noted = r.post.noted;
          told = λ q. r.post.told q ∙ sym (cond-false (same_part at q && false) _ (event.report_count (entries r.live.calls) q) (none_and (same_part at q) false refl));
          above = λ k h. find k ∙ (cond-false (nat_eq w.post.next_letter k) (Some m) (item_at w.post.letters k) (not_next w.post.next_letter k h) ∙ r.post.above k (omega (arith, h)));
          beyond = r.post.beyond;
        }

        whole : ReachedWhole types after_send next
        whole =
            let size : SameCluster types.state w.live.sites held = same_of types.state w.live.sites held at g.moves in
            let s : Step = step.Sent w.post.next_letter at site m.lo m.hi (length m.parts) in
            let x = posted types w.live run r.live line (command.Send at site from) at (Sent from m) held size (record { reached = reached; one_caller = (refl, r.live.sees.one_caller); rooms = rooms_more types w.live.sites held size (entries r.live.calls) at (Sent from m) refl r.live.sees.rooms }) s
            (sent_posted at at site site w.post.next_letter m.lo m.hi (length m.parts) from) (λ i. step.Sent (r.post.sent at i + 1) at (sym to i) m.lo m.hi (length m.parts)) (λ i. record { at = at; call = SendTo (sym to i) from }) (λ who. tt) tt
            g.moves (let y = g.goes (entries r.live.calls) r.live.sees.reached (tt, tt) in subst (λ e. Spends types.kinds types.codec types.state g.moves.before g.moves.after (r.live.sees.reached.state at) e) y.0.shows.1 y.1) refl tt in
            record {
              live = x.reached;
              post = subst (λ cs. HasPost held.sites held.parts next (entries cs) after_send.post) (sym x.calls_are) (subst (λ n. HasPost n held.parts next later after_send.post) (sym g.moves.same_sites) (subst (λ n. HasPost w.live.sites.sites n next later after_send.post) (sym g.moves.same_parts) post));
            }

      pub sent : (steps : List Step) → steps ≡ step.Sent w.post.next_letter at site m.lo m.hi (length m.parts) ∷ [] → lacks_way w.live.sites at site ≡ false → (length w.post.letters == 4096) ≡ false → Applies types (Some w) (command.Send at site from) steps (Some after_send)
      sent steps is way room line run r =
          let s : Step = step.Sent w.post.next_letter at site m.lo m.hi (length m.parts) in
          subst (λ steps. IsAnswer is_built run (command.Send at site from) steps × ReachedWhole types after_send (answered line (Some (command.Send at site from)) steps run) × (SameCluster types.state w.live.sites held × ShowFaults types.state run w.live.sites held steps)) (sym is) (
            subst (AnswersBy run (command.Send at site from) (s ∷ [])) (sym (none_due (all_met run (command.Send at site from)) (refl, (ap not r.live.has, (way_in run r ∙ way, (ap (λ n. n == 4096) (sym r.post.present) ∙ room, tt)))))) (s, refl, refl, r.post.made),
            whole line run r,
            (same_of types.state w.live.sites held at g.moves, (tt, tt)),
          )

    -- a message that isn't made
    pub send_fails : (held : Held E D) (error : DurableError) (s : Step) (steps : List Step) → steps ≡ s ∷ [] → is_failing s ≡ true → lacks_way w.live.sites at site ≡ false → (length w.post.letters == 4096) ≡ false → FailedAs {X = Unit {0}} at (record { site = 0; part = 0; time = 0 }) 0 (step.Disk at) error (Ok s) → Calls types w.live.sites held Any at (AskMessage site from) (λ (m : Message E) e. (m.to ≡ site) × (e ≡ Sent from m)) (Err error)
        → Applies types (Some w) (command.Send at site from) steps (Some (record { live = record { sites = held; sessions = w.live.sessions }; post = w.post }))
    send_fails held error s steps is failing way room f g line run r =
        struck types w held (command.Send at site from) refl at (AskMessage site from) (λ (m : Message E) e. (m.to ≡ site) × (e ≡ Sent from m)) error s steps is failing f g line run r tt
        (none_due (all_met run (command.Send at site from)) (refl, (ap not r.live.has, (way_in run r ∙ way, (ap (λ n. n == 4096) (sym r.post.present) ∙ room, tt)))))
        refl tt (λ m what k. subst (λ e. call_of (Cut e) ≡ call_asked {E = E} (AskMessage site from)) (sym k.1) (ap (λ n. SendTo n from) k.0)) (λ m what k. subst (λ e. (who : List ℕ) → IsSilentFor (entries r.live.calls) who (Cut e)) (sym k.1) (λ who. tt)) (λ m what k. subst (λ e. (step.Disk at ≡ fault_shown at e) × (asked_by e ≡ AskMessage site from)) (sym k.1) (refl, ap (λ n. AskMessage n from) k.0))

    pub may_send : lacks_way w.live.sites at site ≡ false → IsReached types (Some w) → MayAsk types w.live.sites at (AskMessage site from)
    may_send there r = record {
      place = place_of_part w.live.sites at (there_in (holds_part w.live.sites at) (or_parts (not (holds_part w.live.sites at)) _ there).0);
      run = entries r.reached.live.calls;
      reached = r.reached.live.sees.reached;
      allowed = tt;
    }
      where
        there_in : (b : Bool) → not b ≡ false → b ≡ true
        there_in true h = refl
        there_in false h = sym h

    pub send_refused : (held : Held E D) (error : DurableError) (s : Step) (steps : List Step) → steps ≡ s ∷ [] → lacks_way w.live.sites at site ≡ false → (length w.post.letters == 4096) ≡ false → FailedAs {X = Unit {0}} at (record { site = 0; part = 0; time = 0 }) 0 (step.Disk at) error (Ok s) → Calls types w.live.sites held Any at (AskMessage site from) (λ (m : Message E) e. (m.to ≡ site) × (e ≡ Sent from m)) (Err error)
        → Applies types (Some w) (command.Send at site from) steps (Some (record { live = record { sites = held; sessions = w.live.sessions }; post = w.post }))
    send_refused held call.NoMemory s steps is has room f g = absurd f
    send_refused held call.Down s steps is has room f g = send_fails held call.Down s steps is (ap is_failing f) has room f g
    send_refused held call.Disk s steps is has room f g = send_fails held call.Disk s steps is (ap is_failing f) has room f g
    send_refused held (call.Full n) s steps is has room f g = send_fails held (call.Full n) s steps is (ap is_failing f) has room f g
    send_refused held (call.Refused why) s steps is has room f g = λ line run r. absurd (never_refused types w.live.sites held at (AskMessage site from) why (free_message types.kinds site from) g (entries r.live.calls) r.live.sees.reached tt)

  module _ (at : PartId) where
    part_there : (run : Run) → ReachedWhole types w run → has_part run at ≡ holds_part w.live.sites at
    part_there run r = sym (part_in types w.live run r.live at)

    pub report_nowhere : (steps : List Step) → steps ≡ step.NoPart ∷ [] → holds_part w.live.sites at ≡ false → Applies types (Some w) (command.Report at) steps (Some w)
    report_nowhere steps is lacks = turned_down types w (command.Report at) step.NoPart steps is refl
        (λ run r. first_at (all_met run (command.Report at)) 2 (refl, (ap not r.live.has, ap not (part_there run r ∙ lacks))))
        (λ run who. refl)

    pub report_full : (steps : List Step) → steps ≡ step.LimitReports ∷ [] → holds_part w.live.sites at ≡ true → (length w.post.notes == 4096) ≡ true → Applies types (Some w) (command.Report at) steps (Some w)
    report_full steps is there full = turned_down types w (command.Report at) step.LimitReports steps is refl
        (λ run r. first_at (all_met run (command.Report at)) 3 (refl, (ap not r.live.has, (ap not (part_there run r ∙ there), ap (λ n. n == 4096) (sym r.post.noted) ∙ full))))
        (λ run who. refl)

    module _ (b : List ℕ) (notes : List (ℕ × Note)) (g : GoesOn types w.live.sites w.live.sites (Asks types w.live.sites Any at AskReport) at AskReport (λ e. e ≡ Reported b))
        (find : (k : ℕ) → item_at notes k ≡ (if nat_eq w.post.next_note k then Some (record { from = at; bounds = b }) else item_at w.post.notes k)) (count : length notes ≡ length w.post.notes + 1) where
      abbrev pub after_report : WholeState E D
      after_report = record { live = w.live; post = record { letters = w.post.letters; next_letter = w.post.next_letter; notes = notes; next_note = w.post.next_note + 1 } }

      module _ (line : ℕ) (run : Run) (r : ReachedWhole types w run) where
        abbrev next_told : Run
        next_told = (record { number = line; command = Some (command.Report at); step = step.Reported w.post.next_note at b }) ∷ run

        abbrev later_told : List (Entry E)
        later_told = (record { at = at; event = Reported b }) ∷ entries r.live.calls

        reached_told : Reaches types w.live.sites later_told
        reached_told = let x = (g.goes (entries r.live.calls) r.live.sees.reached (tt, tt)).0 in subst (λ e. Reaches types w.live.sites ((record { at = at; event = e }) ∷ entries r.live.calls)) x.shows x.reached

        note_made : nat_eq w.post.next_note w.post.next_note ≡ true → IsNote w.live.sites.sites w.live.sites.parts next_told later_told w.post.next_note (record { from = at; bounds = b })
        note_made same = record {
          own = event.report_count (entries r.live.calls) at + 1;
          notice = cond-true (nat_eq w.post.next_note w.post.next_note) _ (report_of run w.post.next_note) same ∙ (λ i. Some (record { from = at; own = r.post.told at i + 1; bounds = b }));
          shown = inl (refl, refl, refl);
          place = reached_told.is_run.2.place;
        }

        told : (k : ℕ) → NoteAs w.live.sites.sites w.live.sites.parts next_told later_told k (item_at notes k)
        told k = subst (λ o. NoteAs w.live.sites.sites w.live.sites.parts next_told later_told k o) (sym (find k)) (by_bool (nat_eq w.post.next_note k) refl)
          where
            by_bool : (c : Bool) → nat_eq w.post.next_note k ≡ c → NoteAs w.live.sites.sites w.live.sites.parts next_told later_told k (if c then Some (record { from = at; bounds = b }) else item_at w.post.notes k)
            by_bool true h = subst (λ n. IsNote w.live.sites.sites w.live.sites.parts next_told later_told n (record { from = at; bounds = b })) (eqb-true w.post.next_note k h) (note_made (subst (λ n. nat_eq w.post.next_note n ≡ true) (sym (eqb-true w.post.next_note k h)) h))
            by_bool false h = note_at w.live.sites.sites w.live.sites.parts run next_told (entries r.live.calls) later_told k (item_at w.post.notes k) (cond-false (nat_eq w.post.next_note k) _ (report_of run k) h) (λ own q e x. inr x) (r.post.notes k)

        post_told : HasPost w.live.sites.sites w.live.sites.parts next_told later_told after_report.post
        post_told = record {
          mail = λ k. letter_at w.live.sites.sites w.live.sites.parts run next_told (entries r.live.calls) later_told k (item_at w.post.letters k) refl (λ own q e x. inr x) (r.post.mail k);
          made = r.post.made;
          present = r.post.present;
          sent = λ q. r.post.sent q ∙ sym (cond-false (same_part at q && false) _ (event.sent_count (entries r.live.calls) q) (none_and (same_part at q) false refl));
          notes = told;
          reported = ap (λ n. n + 1) r.post.reported;
          noted = count ∙ ap (λ n. n + 1) r.post.noted;
          told = λ q. (λ i. if sym (and_true (same_part at q)) i then r.post.told q i + 1 else r.post.told q i);
          above = r.post.above;
          beyond = λ k h. find k ∙ (cond-false (nat_eq w.post.next_note k) (Some (record { from = at; bounds = b })) (item_at w.post.notes k) (not_next w.post.next_note k h) ∙ r.post.beyond k (omega (arith, h)));
        }

        whole_told : ReachedWhole types after_report next_told
        whole_told =
            let s : Step = step.Reported w.post.next_note at b in
            let x = posted types w.live run r.live line (command.Report at) at (Reported b) w.live.sites (same_refl types.state w.live.sites) (record { reached = reached_told; one_caller = (refl, r.live.sees.one_caller); rooms = rooms_more types w.live.sites w.live.sites (same_refl types.state w.live.sites) (entries r.live.calls) at (Reported b) refl r.live.sees.rooms }) s
            (reported_posted at at w.post.next_note b) (λ i. step.Reported (r.post.told at i + 1) at b) refl (λ who. tt) tt
            g.moves (spends_of types w.live.sites w.live.sites (Asks types w.live.sites Any at AskReport) at AskReport (Reported b) g (entries r.live.calls) r.live.sees.reached (tt, tt)) refl tt in
            record { live = x.reached; post = subst (λ cs. HasPost w.live.sites.sites w.live.sites.parts next_told (entries cs) after_report.post) (sym x.calls_are) post_told }

      pub reported : (steps : List Step) → steps ≡ step.Reported w.post.next_note at b ∷ [] → holds_part w.live.sites at ≡ true → (length w.post.notes == 4096) ≡ false → Applies types (Some w) (command.Report at) steps (Some after_report)
      reported steps is there room line run r =
          let s : Step = step.Reported w.post.next_note at b in
          subst (λ steps. IsAnswer is_built run (command.Report at) steps × ReachedWhole types after_report (answered line (Some (command.Report at)) steps run) × (SameCluster types.state w.live.sites w.live.sites × ShowFaults types.state run w.live.sites w.live.sites steps)) (sym is) (
            subst (AnswersBy run (command.Report at) (s ∷ [])) (sym (none_due (all_met run (command.Report at)) (refl, (ap not r.live.has, (ap not (part_there run r ∙ there), (ap (λ n. n == 4096) (sym r.post.noted) ∙ room, tt)))))) (s, refl, refl, r.post.reported),
            whole_told line run r,
            (same_refl types.state w.live.sites, (tt, tt)),
          )

    -- a report that isn't made
    pub report_fails : (error : DurableError) (s : Step) (steps : List Step) → steps ≡ s ∷ [] → is_failing s ≡ true → holds_part w.live.sites at ≡ true → (length w.post.notes == 4096) ≡ false → FailedAs {X = Unit {0}} at (record { site = 0; part = 0; time = 0 }) 0 (step.Disk at) error (Ok s) → Calls types w.live.sites w.live.sites Any at AskReport (λ (b : List ℕ) e. e ≡ Reported b) (Err error)
        → Applies types (Some w) (command.Report at) steps (Some w)
    report_fails error s steps is failing there room f g line run r =
        struck types w w.live.sites (command.Report at) refl at AskReport (λ (b : List ℕ) e. e ≡ Reported b) error s steps is failing f g line run r tt
        (none_due (all_met run (command.Report at)) (refl, (ap not r.live.has, (ap not (part_there run r ∙ there), (ap (λ n. n == 4096) (sym r.post.noted) ∙ room, tt)))))
        refl tt (λ b what k. subst (λ e. call_of (Cut e) ≡ call_asked {E = E} AskReport) (sym k) refl) (λ b what k. subst (λ e. (who : List ℕ) → IsSilentFor (entries r.live.calls) who (Cut e)) (sym k) (λ who. tt)) (λ b what k. subst (λ e. (step.Disk at ≡ fault_shown at e) × (asked_by e ≡ AskReport)) (sym k) (refl, refl))

    pub report_refused : (error : DurableError) (s : Step) (steps : List Step) → steps ≡ s ∷ [] → holds_part w.live.sites at ≡ true → (length w.post.notes == 4096) ≡ false → FailedAs {X = Unit {0}} at (record { site = 0; part = 0; time = 0 }) 0 (step.Disk at) error (Ok s) → Calls types w.live.sites w.live.sites Any at AskReport (λ (b : List ℕ) e. e ≡ Reported b) (Err error)
        → Applies types (Some w) (command.Report at) steps (Some w)
    report_refused call.NoMemory s steps is there room f g = absurd f
    report_refused call.Down s steps is there room f g = report_fails call.Down s steps is (ap is_failing f) there room f g
    report_refused call.Disk s steps is there room f g = report_fails call.Disk s steps is (ap is_failing f) there room f g
    report_refused (call.Full n) s steps is there room f g = report_fails (call.Full n) s steps is (ap is_failing f) there room f g
    report_refused (call.Refused why) s steps is there room f g = λ line run r. absurd (never_refused types w.live.sites w.live.sites at AskReport why (free_report types.kinds) g (entries r.live.calls) r.live.sees.reached tt)
