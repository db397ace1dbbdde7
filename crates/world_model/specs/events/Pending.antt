-- What is pending at a partition, and whether it is down, by what a run shows.
use Rattle.std.specs.Prelude.{ℕ, Bool, true, false, not, ◌&&◌, ◌||◌, if◌then◌else◌, List, [], ◌∷◌}
use Rattle.site_vector.specs.declared.ids.PartId.{PartId}
use Rattle.site_vector.specs.declared.ids.TxId.{TxId}
use Rattle.site_vector.specs.Ids.{same_part, same_tx}
use Rattle.world_model.specs.rules.Event.{Event, Prepared, Decided, Finished, Aborted, Restarted, Entry, Crashed, RestartCut, Cut}
use Rattle.world_model.specs.lines.Listed.{names_pending, listed_time}

module _ {E : Type 0} where
  abbrev pub down_after : Bool → Event E → Bool
  down_after old (Cut what) = true
  down_after old Crashed = true
  down_after old RestartCut = true
  down_after old (Restarted n b named listed) = false
  down_after old other = old

  -- it crashed, and has not restarted since
  abbrev pub is_down : List (Entry E) → PartId → Bool
  is_down [] p = false
  is_down (e ∷ run) p = if same_part e.at p then down_after (is_down run p) e.event else is_down run p

  abbrev pub doubt_after : TxId → Bool → Event E → Bool
  doubt_after t old (Cut (Decided u c)) = same_tx u t || old
  doubt_after t old (Restarted n b named listed) = false
  doubt_after t old other = old

  -- the decide of t at p was cut off, and p has not restarted since
  abbrev pub in_doubt : List (Entry E) → PartId → TxId → Bool
  in_doubt [] p t = false
  in_doubt (e ∷ run) p t = if same_part e.at p then doubt_after t (in_doubt run p t) e.event else in_doubt run p t

  -- a prepare adds t, a decide, finish or abort removes it, a restart tells anew
  abbrev pub pending_after : TxId → Bool → Event E → Bool
  pending_after t old (Prepared u s l w n) = same_tx u t || old
  pending_after t old (Decided u c) = not (same_tx u t) && old
  pending_after t old (Finished u c) = not (same_tx u t) && old
  pending_after t old (Aborted u own) = not (same_tx u t) && old
  pending_after t old (Restarted n b named listed) = names_pending listed t
  pending_after t old other = old

  abbrev pub pending_shown : List (Entry E) → PartId → TxId → Bool
  pending_shown [] p t = false
  pending_shown (e ∷ run) p t = if same_part e.at p then pending_after t (pending_shown run p t) e.event else pending_shown run p t

  abbrev pub time_after : TxId → ℕ → Event E → ℕ
  time_after t old (Prepared u s l w n) = if same_tx u t then n else old
  time_after t old (Restarted n b named listed) = listed_time listed t
  time_after t old other = old

  abbrev pub pending_time : List (Entry E) → PartId → TxId → ℕ
  pending_time [] p t = 0
  pending_time (e ∷ run) p t = if same_part e.at p then time_after t (pending_time run p t) e.event else pending_time run p t
