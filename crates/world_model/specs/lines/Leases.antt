-- Up to where each partition's clock is leased, over the lines of a run: a restart begins there.
use Rattle.std.specs.Prelude.{◌≡◌, ◌⊎◌, ℕ, ◌+◌, ◌^◌, min, leb, if◌then◌else◌, List, [], ◌∷◌, ⊤}
use Rattle.site_vector.specs.declared.ids.PartId.{PartId}
use Rattle.site_vector.specs.Ids.{same_part}
use Rattle.world_model.specs.declared.step.Step.{Step}
use Rattle.world_model.specs.declared.step.Step.TheVariants as step
use Rattle.world_model.specs.lines.Clock.{missed}
use Rattle.world_model.specs.lines.Lines.{Call, Line}

-- a time above the last lease takes a new one, of 1,000 ticks more, up to the end of time
abbrev pub lease_to : ℕ → ℕ → ℕ
lease_to old n = if leb n old then old else min (n + 1000) (2 ^ 62)

abbrev pub kept_after : ℕ → Step → ℕ
kept_after old (step.Ticked p n) = lease_to old n
kept_after old (step.Began name t s) = lease_to old t.time
kept_after old (step.Prepared p t n) = lease_to old n
kept_after old (step.Restarted p n bounds named listed) = n
kept_after old other = old

-- the last lease of a partition
abbrev pub kept : List Line → PartId → ℕ
kept [] p = 0
kept (l ∷ ls) p = if same_part l.at p then kept_after (kept ls p) l.step else kept ls p

-- a restart shows the time of the last lease, or of the one that a call took which a fault of the disk ended
abbrev pub ShowsKept : List Line → PartId → Call → Step → Type 0
ShowsKept ls p call (step.Restarted q n bounds named listed) = (n ≡ kept ls p) ⊎ (n ≡ lease_to (kept ls p) (missed ls p))
ShowsKept ls p call other = ⊤
