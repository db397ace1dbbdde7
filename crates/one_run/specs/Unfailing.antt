-- Lines that tell of no fault and no want of room of a disk.
use Rattle.std.specs.Prelude.{◌≡◌, ℕ, Bool, true, false, List, [], ◌∷◌, ⊤}
use Rattle.world_model.specs.declared.step.Step.{Step}
use Rattle.world_model.specs.declared.step.Step.TheVariants as step
use Rattle.world_model.specs.lines.Lines.{Call, ReadOf, UpdateOf, TakeOf, HearOf, Open, Line}

-- the line tells that a disk failed, or had no room
abbrev pub is_of_disk : Step → Bool
is_of_disk (step.Disk p) = true
is_of_disk (step.Unsure t) = true
is_of_disk (step.Full room) = true
is_of_disk other = false

-- the line bears this number of a message or report that its call was handed, or the name of this session
abbrev pub IsMarked : Call → ℕ → List ℕ → Step → Type 0
IsMarked (TakeOf k site lo hi) number who (step.Took n end) = n ≡ number
IsMarked (TakeOf k site lo hi) number who (step.Dup n have) = n ≡ number
IsMarked (TakeOf k site lo hi) number who (step.Gap n have) = n ≡ number
IsMarked (HearOf k part bounds) number who (step.Heard n q stable) = n ≡ number
IsMarked (ReadOf t o) number who (step.Value name object value) = name ≡ who
IsMarked (UpdateOf t o op) number who (step.Updated name object stamp) = name ≡ who
IsMarked Open number who (step.MadeSession name site) = name ≡ who
IsMarked call number who other = ⊤

-- no line of these does
abbrev pub AreUnfailing : List Line → Type 0
AreUnfailing [] = ⊤
AreUnfailing (l ∷ ls) = (is_of_disk l.step ≡ false) × AreUnfailing ls
