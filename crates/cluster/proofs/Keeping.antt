-- What is kept of messages and reports stays, where calls and lines tell of none.
use Rattle.std.proofs.Common.{◌≡◌, inr, ℕ, ◌+◌, Bool, true, false, List, ◌∷◌, refl, sym, ap, ◌∙◌, Option, None, Some}
use Rattle.std.specs.Prelude.{◌&&◌}
use Rattle.std.proofs.lemmas.Bool.{cond-false}
use Rattle.site_vector.specs.declared.ids.PartId.{PartId}
use Rattle.site_vector.specs.Ids.{same_part}
use Rattle.world_model.specs.declared.command.Command.{Command}
use Rattle.world_model.specs.declared.step.Step.{Step}
use Rattle.world_model.specs.declared.step.Step.TheVariants as step
use Rattle.world_model.specs.rules.Event as event
use Rattle.world_model.specs.rules.Event.{Entry, Event, IsDown, Decided, Sent, Reported, Refused, Cut, is_sent, is_report, WasNumbered}
use Rattle.world_model.specs.rules.Lines.{step_shown}
use Rattle.world_model.specs.commands.Messages.{message_of, report_of}
use Rattle.world_model.specs.commands.Run.{Run}
use Rattle.world_model.proofs.Names.{off}
use Rattle.txn_session.specs.Calls.{Call, entries}
use Rattle.crdt_core.specs.declared.record.Message.{Message}
use Rattle.cluster.specs.declared.post.Note.{Note}
use Rattle.cluster.specs.Post.{PostState, MailAs, NoteAs, item_at, HasPost, Grows, KeepsPost}

-- a line that tells of a message or a report that is made or dropped
abbrev pub is_postal : Step → Bool
is_postal (step.Sent number q to lo hi count) = true
is_postal (step.Reported number q bounds) = true
is_postal (step.DroppedMessage number) = true
is_postal (step.DroppedReport number) = true
is_postal other = false

pub keeps_line : (number : ℕ) (asked : Option Command) (s : Step) (run : Run) → is_postal s ≡ false → KeepsPost run ((record { number = number; command = asked; step = s }) ∷ run)
keeps_line number asked (step.Sent n q to lo hi count) run h = off (sym h)
keeps_line number asked (step.Reported n q bounds) run h = off (sym h)
keeps_line number asked (step.DroppedMessage n) run h = off (sym h)
keeps_line number asked (step.DroppedReport n) run h = off (sym h)
keeps_line number asked other run h = record { message = λ k. refl; report = λ k. refl; messages = refl; reports = refl; sent = λ q. refl; told = λ q. refl }

pub keeps_none : (run : Run) → KeepsPost run run
keeps_none run = record { message = λ k. refl; report = λ k. refl; messages = refl; reports = refl; sent = λ q. refl; told = λ q. refl }

pub keeps_both : (a b c : Run) → KeepsPost a b → KeepsPost b c → KeepsPost a c
keeps_both a b c x y = record { message = λ k. y.message k ∙ x.message k; report = λ k. y.report k ∙ x.report k; messages = y.messages ∙ x.messages; reports = y.reports ∙ x.reports; sent = λ q. y.sent q ∙ x.sent q; told = λ q. y.told q ∙ x.told q }

pub none_and : (a b : Bool) → b ≡ false → (a && b) ≡ false
none_and true b h = h
none_and false b h = refl

module _ {E : Type 0} where
  pub call_plain : (run : List (Entry E)) (at : PartId) (e : Event E) → is_sent e ≡ false → is_report e ≡ false → is_postal (step_shown run at e) ≡ false
  call_plain run at (Sent asked m) h k = off (sym h)
  call_plain run at (Reported b) h k = off (sym k)
  call_plain run at (Cut (Decided t v)) h k = refl
  call_plain run at (Cut what) h k = refl
  call_plain run at (Refused a IsDown) h k = refl
  call_plain run at (Refused a why) h k = refl
  call_plain run at other h k = refl

  pub grows_none : (calls : List (Call E)) → Grows calls calls
  grows_none calls = record { sent = λ q. refl; told = λ q. refl; mail = λ own q e h. h; note = λ own q e h. h }

  pub grows_both : (a b c : List (Call E)) → Grows a b → Grows b c → Grows a c
  grows_both a b c x y = record { sent = λ q. y.sent q ∙ x.sent q; told = λ q. y.told q ∙ x.told q; mail = λ own q e h. y.mail own q e (x.mail own q e h); note = λ own q e h. y.note own q e (x.note own q e h) }

  pub grows_one : (c : Call E) (calls : List (Call E)) → is_sent c.entry.event ≡ false → is_report c.entry.event ≡ false → Grows calls (c ∷ calls)
  grows_one c calls h k = record {
    sent = λ q. cond-false (same_part c.entry.at q && is_sent c.entry.event) (event.sent_count (entries calls) q + 1) (event.sent_count (entries calls) q) (none_and (same_part c.entry.at q) (is_sent c.entry.event) h);
    told = λ q. cond-false (same_part c.entry.at q && is_report c.entry.event) (event.report_count (entries calls) q + 1) (event.report_count (entries calls) q) (none_and (same_part c.entry.at q) (is_report c.entry.event) k);
    mail = λ own q e x. inr x;
    note = λ own q e x. inr x;
  }

  -- a message that the run still tells so
  pub letter_at : (sites parts : ℕ) (run next : Run) (calls later : List (Entry E)) (k : ℕ) (o : Option (Message E)) → message_of next k ≡ message_of run k → ((own : ℕ) (q : PartId) (e : Event E) → WasNumbered event.sent_count calls own q e → WasNumbered event.sent_count later own q e) → MailAs sites parts run calls k o → MailAs sites parts next later k o
  letter_at sites parts run next calls later k None x g m = x ∙ m
  letter_at sites parts run next calls later k (Some y) x g m = record { own = m.own; letter = x ∙ m.letter; asked = m.asked; shown = g m.own (record { site = y.from; part = y.part }) _ m.shown; place = m.place; other = m.other }

  pub note_at : (sites parts : ℕ) (run next : Run) (calls later : List (Entry E)) (k : ℕ) (o : Option Note) → report_of next k ≡ report_of run k → ((own : ℕ) (q : PartId) (e : Event E) → WasNumbered event.report_count calls own q e → WasNumbered event.report_count later own q e) → NoteAs sites parts run calls k o → NoteAs sites parts next later k o
  note_at sites parts run next calls later k None x g n = x ∙ n
  note_at sites parts run next calls later k (Some y) x g n = record { own = n.own; notice = x ∙ n.notice; shown = g n.own y.from _ n.shown; place = n.place }

  -- what is kept stays so
  pub post_on : (sites parts : ℕ) (run next : Run) (calls later : List (Call E)) (p : PostState E) → KeepsPost run next → Grows calls later → HasPost sites parts run (entries calls) p → HasPost sites parts next (entries later) p
  post_on sites parts run next calls later p x g h = record {
    mail = λ k. letter_at sites parts run next (entries calls) (entries later) k (item_at p.letters k) (x.message k) g.mail (h.mail k);
    made = h.made ∙ ap (λ c. c.made + 1) (sym x.messages);
    present = h.present ∙ ap (λ c. c.present) (sym x.messages);
    sent = λ q. x.sent q ∙ (h.sent q ∙ sym (g.sent q));
    notes = λ k. note_at sites parts run next (entries calls) (entries later) k (item_at p.notes k) (x.report k) g.note (h.notes k);
    reported = h.reported ∙ ap (λ c. c.made + 1) (sym x.reports);
    noted = h.noted ∙ ap (λ c. c.present) (sym x.reports);
    told = λ q. x.told q ∙ (h.told q ∙ sym (g.told q));
    above = h.above;
    beyond = h.beyond;
  }
