-- What is pending at a partition, and what is committed there, over the lines of a run.
use Rattle.std.specs.Prelude.{ℕ, Bool, true, false, not, ◌&&◌, ◌||◌, if◌then◌else◌, List, [], ◌∷◌}
use Rattle.site_vector.specs.declared.ids.PartId.{PartId}
use Rattle.site_vector.specs.declared.ids.TxId.{TxId}
use Rattle.site_vector.specs.Ids.{same_part, same_tx}
use Rattle.world_model.specs.declared.step.Step.{Step}
use Rattle.world_model.specs.declared.step.Step.TheVariants as step
use Rattle.world_model.specs.lines.Listed.{names_pending, listed_time}
use Rattle.world_model.specs.lines.Lines.{Line}

-- a prepare adds t, a decide, finish or abort removes it, a restart tells anew
abbrev pub pending_after : TxId → Bool → Step → Bool
pending_after t old (step.Prepared p u n) = same_tx u t || old
pending_after t old (step.Decided p u c) = not (same_tx u t) && old
pending_after t old (step.Finished p u) = not (same_tx u t) && old
pending_after t old (step.Aborted p u) = not (same_tx u t) && old
pending_after t old (step.Restarted p n bounds named listed) = names_pending listed t
pending_after t old other = old

abbrev pub pending : List Line → PartId → TxId → Bool
pending [] p t = false
pending (l ∷ ls) p t = if same_part l.at p then pending_after t (pending ls p t) l.step else pending ls p t

abbrev pub prepare_time_after : TxId → ℕ → Step → ℕ
prepare_time_after t old (step.Prepared p u n) = if same_tx u t then n else old
prepare_time_after t old (step.Restarted p n bounds named listed) = listed_time listed t
prepare_time_after t old other = old

-- the time that it is pending with
abbrev pub prepare_time : List Line → PartId → TxId → ℕ
prepare_time [] p t = 0
prepare_time (l ∷ ls) p t = if same_part l.at p then prepare_time_after t (prepare_time ls p t) l.step else prepare_time ls p t

-- p is in doubt of t: t's decide was cut off there, and p has not restarted since
abbrev pub doubt_after : TxId → Bool → Step → Bool
doubt_after t old (step.Unsure u) = same_tx u t || old
doubt_after t old (step.Restarted p n bounds named listed) = false
doubt_after t old other = old

abbrev pub in_doubt : List Line → PartId → TxId → Bool
in_doubt [] p t = false
in_doubt (l ∷ ls) p t = if same_part l.at p then doubt_after t (in_doubt ls p t) l.step else in_doubt ls p t

-- p crashed or met a fault of its disk, and has no later restart
abbrev pub down_after : Bool → Step → Bool
down_after old (step.Crashed p) = true
down_after old (step.Disk p) = true
down_after old (step.Unsure t) = true
down_after old (step.Restarted p n bounds named listed) = false
down_after old other = old

abbrev pub is_down : List Line → PartId → Bool
is_down [] p = false
is_down (l ∷ ls) p = if same_part l.at p then down_after (is_down ls p) l.step else is_down ls p
