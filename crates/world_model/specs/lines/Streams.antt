-- Messages between sites, over the lines of a run.
use Rattle.std.specs.Prelude.{◌≡◌, ◌⊎◌, ℕ, ◌+◌, Bool, true, false, ◌<◌, ◌≤◌, leb, ltb, ◌&&◌, ◌==◌, if◌then◌else◌, List, [], ◌∷◌, length, filter, Option, ⊤, None, Some}
use Rattle.site_vector.specs.declared.ids.PartId.{PartId}
use Rattle.site_vector.specs.Ids.{same_part}
use Rattle.world_model.specs.declared.step.Step.{Step}
use Rattle.world_model.specs.declared.step.Step.TheVariants as step
use Rattle.world_model.specs.lines.Places.{IsOther, twin}
use Rattle.world_model.specs.lines.Lines.{Call, SendTo, TakeOf, HearOf, Line}
use Rattle.world_model.specs.lines.History.{history, commit_time}
use Rattle.world_model.specs.lines.Updates.{takes_part}
use Rattle.world_model.specs.lines.Bounds.{bound, IsOwnBound}

-- the lower end, where a caller says so or not
abbrev pub low_of : Option ℕ → ℕ → ℕ
low_of None last = last
low_of (Some n) last = n

-- how many decided transactions of the whole run updated something at p and have a commit time in this stretch
abbrev pub stream_count : List Line → PartId → ℕ → ℕ → ℕ
stream_count whole p lo hi = length (filter (λ t. takes_part whole t p && (ltb lo (commit_time whole t) && leb (commit_time whole t) hi)) (history whole))

-- the end of the last message from p to site j since its last restart
abbrev pub sent_after : ℕ → ℕ → Step → ℕ
sent_after j old (step.Sent number p to lo hi count) = if to == j then hi else old
sent_after j old (step.Restarted p n bounds named listed) = 0
sent_after j old other = old

abbrev pub last_sent : List Line → PartId → ℕ → ℕ
last_sent [] p j = 0
last_sent (l ∷ ls) p j = if same_part l.at p then sent_after j (last_sent ls p j) l.step else last_sent ls p j

abbrev pub is_sent : Step → Bool
is_sent (step.Sent number p to lo hi count) = true
is_sent other = false

-- how many messages of p the lines show, and how many reports: each row is numbered from 1
abbrev pub sent_count : List Line → PartId → ℕ
sent_count [] p = 0
sent_count (l ∷ ls) p = if same_part l.at p && is_sent l.step then sent_count ls p + 1 else sent_count ls p

abbrev pub is_report : Step → Bool
is_report (step.Reported number p bounds) = true
is_report other = false

abbrev pub report_count : List Line → PartId → ℕ
report_count [] p = 0
report_count (l ∷ ls) p = if same_part l.at p && is_report l.step then report_count ls p + 1 else report_count ls p

-- a line at q shows a message of this number to this site, of this stretch
abbrev pub WasSent : List Line → PartId → ℕ → ℕ → ℕ → ℕ → Type 0
WasSent [] q number to lo hi = ⊥
WasSent (l ∷ ls) q number to lo hi = ((l.at ≡ q) × (count : ℕ) × (l.step ≡ step.Sent number q to lo hi count)) ⊎ WasSent ls q number to lo hi

-- a line at q shows a report of this number, of these bounds
abbrev pub WasReported : List Line → PartId → ℕ → List ℕ → Type 0
WasReported [] q number bounds = ⊥
WasReported (l ∷ ls) q number bounds = ((l.at ≡ q) × (l.step ≡ step.Reported number q bounds)) ⊎ WasReported ls q number bounds

-- a message that was handed was sent to here
pub record IsHanded (sites : ℕ) (before : List Line) (p : PartId) (number site lo hi : ℕ) : Type 0 where
  pub from : IsOther sites p.site site
  pub sent : WasSent before (twin site p) number p.site lo hi

-- from where it was asked, or where the last one to the site ended; up to the own bound; all that lies between
pub record IsNext (sites : ℕ) (whole before : List Line) (p : PartId) (asked : Option ℕ) (number site lo hi count : ℕ) : Type 0 where
  pub row : number ≡ sent_count before p + 1
  pub to : IsOther sites p.site site
  pub low : lo ≡ low_of asked (last_sent before p site)
  pub high : IsOwnBound before p hi
  pub parts : count ≡ stream_count whole p lo hi

abbrev pub IsStream : ℕ → List Line → List Line → PartId → Call → Step → Type 0
IsStream sites whole before p call (step.Crashed q) = ⊤
IsStream sites whole before p (SendTo site asked) (step.Sent number q to lo hi count) = IsNext sites whole before p asked number to lo hi count
IsStream sites whole before p (TakeOf number site lo hi) (step.Took shown end) = (end ≡ hi) × (lo ≤ bound before p site) × (bound before p site < hi) × IsHanded sites before p number site lo hi × (shown ≡ number)
IsStream sites whole before p (TakeOf number site lo hi) (step.Gap shown n) = (n ≡ bound before p site) × (n < lo) × IsHanded sites before p number site lo hi × (shown ≡ number)
IsStream sites whole before p (TakeOf number site lo hi) (step.Dup shown n) = (n ≡ bound before p site) × (lo ≤ n) × (hi ≤ n) × IsHanded sites before p number site lo hi × (shown ≡ number)
-- whatever answers it, a take is of a message that was sent to here
IsStream sites whole before p (TakeOf number site lo hi) other = IsHanded sites before p number site lo hi
IsStream sites whole before p (HearOf number part bounds) (step.Heard shown q stable) = WasReported before (record { site = p.site; part = part }) number bounds × (shown ≡ number)
IsStream sites whole before p call (step.Reported number q bounds) = number ≡ report_count before p + 1
IsStream sites whole before p call other = ⊤
