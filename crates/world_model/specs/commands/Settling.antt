-- How partitions end transactions that no session brings to an end: a lead by its own word, another partition by its lead's.
use Rattle.std.specs.Prelude.{◌≡◌, ◌⊎◌, ℕ, Bool, true, false, ◌&&◌, ◌||◌, if◌then◌else◌, List, [], ◌∷◌}
use Rattle.site_vector.specs.declared.ids.PartId.{PartId}
use Rattle.site_vector.specs.declared.ids.TxId.{TxId}
use Rattle.site_vector.specs.Ids.{same_part}
use Rattle.world_model.specs.declared.step.Step.{Step}
use Rattle.world_model.specs.declared.step.Step.TheVariants as step
use Rattle.world_model.specs.lines.Lines.{Call, FinishOf, AbortOf, Report, Line}
use Rattle.world_model.specs.lines.History.{in_history}
use Rattle.world_model.specs.lines.Updates.{lead}
use Rattle.world_model.specs.lines.Pending.{pending, is_down}
use Rattle.world_model.specs.lines.Waiting.{waiting}
use Rattle.world_model.specs.lines.Fate.{is_committed_at}

-- an expire of t asks p for an abort: t is pending at p, which is its lead
abbrev pub asks_abort : ℕ → List Line → PartId → TxId → Bool
asks_abort parts ls p t = pending ls p t && same_part (lead parts ls t) p

-- what it tells of t where it asks for none
abbrev pub looked_up : List Line → PartId → TxId → Step
looked_up ls p t = if pending ls p t then step.Pending p t else (if is_committed_at ls ls p t then step.Finished p t else step.Gone p t)

-- the lead can't tell the end of t: it is down, or has t pending itself
abbrev pub is_untold : ℕ → List Line → TxId → Bool
is_untold parts ls t = is_down ls (lead parts ls t) || pending ls (lead parts ls t) t

-- a settle at p leaves t as it is: p is its lead, or its lead can't tell its end
abbrev pub stays : ℕ → List Line → PartId → TxId → Bool
stays parts ls p t = same_part (lead parts ls t) p || is_untold parts ls t

-- what a settle answers for t, which is pending at p: another partition than the lead does as the lead did
abbrev pub settled : ℕ → List Line → PartId → TxId → Step
settled parts ls p t = if stays parts ls p t then step.Pending p t else (if in_history ls t then step.Finished p t else step.Aborted p t)

-- p did not write an end: its disk failed, or has no room
abbrev pub is_unwritten : Step → Bool
is_unwritten (step.Disk p) = true
is_unwritten (step.Full room) = true
is_unwritten other = false

-- the lines of a settle at p after these lines, where these transactions wait there: one for each in their order, and the last;
-- an end that p can't write is the last line
abbrev pub SettlesAll : ℕ → List Line → PartId → List (TxId × ℕ) → List Step → Type 0
SettlesAll parts ls p waits [] = ⊥
SettlesAll parts ls p [] (s ∷ rest) = (s ≡ step.Settled p) × (rest ≡ [])
SettlesAll parts ls p (x ∷ waits) (s ∷ rest) =
    ((s ≡ settled parts ls p x.0) × SettlesAll parts ls p waits rest)
    ⊎ ((stays parts ls p x.0 ≡ false) × (is_unwritten s ≡ true) × (rest ≡ []))

-- p ends t as its lead did
abbrev pub ends_as_lead : List Line → TxId → Call
ends_as_lead ls t = if in_history ls t then FinishOf t else AbortOf t

-- the end of the first of these that doesn't stay; none asks for a report, which is refused only where p is down
abbrev pub first_end : ℕ → List Line → PartId → List (TxId × ℕ) → Call
first_end parts ls p [] = Report
first_end parts ls p (x ∷ waits) = if stays parts ls p x.0 then first_end parts ls p waits else ends_as_lead ls x.0

-- what a settle asked of p for a line: what the line shows, or the end that p didn't write
abbrev pub settling : ℕ → List Line → PartId → Step → Call
settling parts ls p (step.Finished q t) = FinishOf t
settling parts ls p (step.Aborted q t) = AbortOf t
settling parts ls p (step.Down q) = Report
settling parts ls p other = first_end parts ls p (waiting ls p)
