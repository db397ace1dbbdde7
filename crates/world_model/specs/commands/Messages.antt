-- The messages and reports that a script has made, by the numbers that it gives them, and which of them are kept.
use Rattle.std.specs.Prelude.{ℕ, ◌+◌, ◌-◌, ◌==◌, if◌then◌else◌, List, [], ◌∷◌, Option, None, Some}
use Rattle.site_vector.specs.declared.ids.PartId.{PartId}
use Rattle.site_vector.specs.Ids.{same_part}
use Rattle.world_model.specs.declared.step.Step.{Step}
use Rattle.world_model.specs.declared.step.Step.TheVariants as step
use Rattle.world_model.specs.commands.Run.{Run}

-- a message: its sender, its number among the sender's, the site that it is for, and its stretch
pub record Letter : Type 0 where
  pub from : PartId
  pub own : ℕ
  pub to : ℕ
  pub lo : ℕ
  pub hi : ℕ

-- a report: who made it, its number among its own, and the bounds
pub record Notice : Type 0 where
  pub from : PartId
  pub own : ℕ
  pub bounds : List ℕ

abbrev pub sent_by : PartId → ℕ → Step → ℕ
sent_by p old (step.Sent number q to lo hi count) = if same_part q p then old + 1 else old
sent_by p old other = old

-- how many messages p has sent
abbrev pub sent_count : Run → PartId → ℕ
sent_count [] p = 0
sent_count (e ∷ run) p = sent_by p (sent_count run p) e.step

abbrev pub reported_by : PartId → ℕ → Step → ℕ
reported_by p old (step.Reported number q bounds) = if same_part q p then old + 1 else old
reported_by p old other = old

abbrev pub report_count : Run → PartId → ℕ
report_count [] p = 0
report_count (e ∷ run) p = reported_by p (report_count run p) e.step

abbrev pub message_after : Run → ℕ → Option Letter → Step → Option Letter
message_after run k old (step.Sent number q to lo hi count) = if number == k then Some (record { from = q; own = sent_count run q + 1; to = to; lo = lo; hi = hi }) else old
message_after run k old (step.DroppedMessage number) = if number == k then None else old
message_after run k old other = old

-- the message with this number, where it is kept
abbrev pub message_of : Run → ℕ → Option Letter
message_of [] k = None
message_of (e ∷ run) k = message_after run k (message_of run k) e.step

abbrev pub report_after : Run → ℕ → Option Notice → Step → Option Notice
report_after run k old (step.Reported number q bounds) = if number == k then Some (record { from = q; own = report_count run q + 1; bounds = bounds }) else old
report_after run k old (step.DroppedReport number) = if number == k then None else old
report_after run k old other = old

-- the report with this number, where it is kept
abbrev pub report_of : Run → ℕ → Option Notice
report_of [] k = None
report_of (e ∷ run) k = report_after run k (report_of run k) e.step

-- how many messages were made, which are numbered from 1, and how many are kept
pub record Counts : Type 0 where
  pub made : ℕ
  pub present : ℕ

abbrev pub messages_after : Counts → Step → Counts
messages_after old (step.Sent number q to lo hi count) = record { made = old.made + 1; present = old.present + 1 }
messages_after old (step.DroppedMessage number) = record { made = old.made; present = old.present - 1 }
messages_after old other = old

abbrev pub messages : Run → Counts
messages [] = record { made = 0; present = 0 }
messages (e ∷ run) = messages_after (messages run) e.step

abbrev pub reports_after : Counts → Step → Counts
reports_after old (step.Reported number q bounds) = record { made = old.made + 1; present = old.present + 1 }
reports_after old (step.DroppedReport number) = record { made = old.made; present = old.present - 1 }
reports_after old other = old

abbrev pub reports : Run → Counts
reports [] = record { made = 0; present = 0 }
reports (e ∷ run) = reports_after (reports run) e.step
