-- The messages and reports that a script's run kept, and what calls and lines leave of them.
use Rattle.std.specs.Prelude.{◌≡◌, ◌≤◌, ℕ, ◌+◌, nat_eq, not, ◌||◌, ◌==◌, Bool, List, [], length, Option, None, Some}
use Rattle.std.specs.Map.{lookup}
use Rattle.site_vector.specs.declared.ids.PartId.{PartId}
use Rattle.crdt_core.specs.declared.record.Message.{Message}
use Rattle.world_model.specs.rules.Event as event
use Rattle.world_model.specs.rules.Event.{Entry, Event, Sent, Reported, WasNumbered}
use Rattle.world_model.specs.commands.Messages as script
use Rattle.world_model.specs.commands.Messages.{message_of, report_of, messages, reports}
use Rattle.world_model.specs.lines.Places.{IsOther, IsPlace}
use Rattle.world_model.specs.commands.Run.{Run}
use Rattle.txn_session.specs.Calls.{Call, entries}
use Rattle.cluster.specs.declared.post.Note.{Note}
use Rattle.site_partitions.specs.Held.{Held, holds_site, holds_part}
use Rattle.cluster.specs.Live.{LiveState}

-- messages and reports by their numbers, and the next number of each
pub record PostState (E : Type 0) : Type 0 where
  pub letters : List (ℕ × Message E)
  pub next_letter : ℕ
  pub notes : List (ℕ × Note)
  pub next_note : ℕ

-- what is kept under a number
abbrev pub item_at : {A : Type 0} → List (ℕ × A) → ℕ → Option A
item_at present k = lookup (nat_eq k) present

-- nothing is kept, and numbers begin at 1
abbrev pub new_post : {E : Type 0} → PostState E
new_post = record { letters = []; next_letter = 1; notes = []; next_note = 1 }

-- a cluster with its sessions, and what it keeps
pub record WholeState (E D : Type 0) : Type 0 where
  pub live : LiveState E D
  pub post : PostState E

-- no such way from a partition to a site
abbrev pub lacks_way : {E D : Type 0} → Held E D → PartId → ℕ → Bool
lacks_way c p site = not (holds_part c p) || (not (holds_site c site) || site == p.site)

module _ {E : Type 0} where
  -- the message was sent as the run tells, to a place of the cluster at another site
  pub record IsLetter (sites parts : ℕ) (run : Run) (events : List (Entry E)) (k : ℕ) (m : Message E) : Type 0 where
    pub own : ℕ
    pub letter : message_of run k ≡ Some (record { from = record { site = m.from; part = m.part }; own = own; to = m.to; lo = m.lo; hi = m.hi })
    pub asked : Option ℕ
    pub shown : WasNumbered event.sent_count events own (record { site = m.from; part = m.part }) (Sent asked m)
    pub place : IsPlace sites parts (record { site = m.to; part = m.part })
    pub other : IsOther sites m.to m.from

  abbrev pub MailAs : ℕ → ℕ → Run → List (Entry E) → ℕ → Option (Message E) → Type 0
  MailAs sites parts run events k None = message_of run k ≡ None
  MailAs sites parts run events k (Some m) = IsLetter sites parts run events k m

  -- the report was made as the run tells, at a place of the cluster
  pub record IsNote (sites parts : ℕ) (run : Run) (events : List (Entry E)) (k : ℕ) (n : Note) : Type 0 where
    pub own : ℕ
    pub notice : report_of run k ≡ Some (record { from = n.from; own = own; bounds = n.bounds })
    pub shown : WasNumbered event.report_count events own n.from (Reported n.bounds)
    pub place : IsPlace sites parts n.from

  abbrev pub NoteAs : ℕ → ℕ → Run → List (Entry E) → ℕ → Option Note → Type 0
  NoteAs sites parts run events k None = report_of run k ≡ None
  NoteAs sites parts run events k (Some n) = IsNote sites parts run events k n

  -- what is kept is what the run kept, and partitions counted as the run does
  pub record HasPost (sites parts : ℕ) (run : Run) (events : List (Entry E)) (p : PostState E) : Type 0 where
    pub mail : (k : ℕ) → MailAs sites parts run events k (item_at p.letters k)
    pub made : p.next_letter ≡ (messages run).made + 1
    pub present : length p.letters ≡ (messages run).present
    pub sent : (q : PartId) → script.sent_count run q ≡ event.sent_count events q
    pub notes : (k : ℕ) → NoteAs sites parts run events k (item_at p.notes k)
    pub reported : p.next_note ≡ (reports run).made + 1
    pub noted : length p.notes ≡ (reports run).present
    pub told : (q : PartId) → script.report_count run q ≡ event.report_count events q
    -- and no number was given yet that is to come
    pub above : (k : ℕ) → p.next_letter ≤ k → item_at p.letters k ≡ None
    pub beyond : (k : ℕ) → p.next_note ≤ k → item_at p.notes k ≡ None

  -- later calls sent no message and made no report
  pub record Grows (old new : List (Call E)) : Type 0 where
    pub sent : (q : PartId) → event.sent_count (entries new) q ≡ event.sent_count (entries old) q
    pub told : (q : PartId) → event.report_count (entries new) q ≡ event.report_count (entries old) q
    pub mail : (own : ℕ) (q : PartId) (e : Event E) → WasNumbered event.sent_count (entries old) own q e → WasNumbered event.sent_count (entries new) own q e
    pub note : (own : ℕ) (q : PartId) (e : Event E) → WasNumbered event.report_count (entries old) own q e → WasNumbered event.report_count (entries new) own q e

-- later lines tell of none
pub record KeepsPost (old new : Run) : Type 0 where
  pub message : (k : ℕ) → message_of new k ≡ message_of old k
  pub report : (k : ℕ) → report_of new k ≡ report_of old k
  pub messages : script.messages new ≡ script.messages old
  pub reports : script.reports new ≡ script.reports old
  pub sent : (q : PartId) → script.sent_count new q ≡ script.sent_count old q
  pub told : (q : PartId) → script.report_count new q ≡ script.report_count old q
