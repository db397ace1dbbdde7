-- What a restart lists: what was before it, where one call that a fault of the disk ended may have been done.
use Rattle.std.specs.Prelude.{◌≡◌, ◌⊎◌, ℕ, ◌+◌, max, leb, ltb, Bool, true, false, not, ◌&&◌, ◌==◌, if◌then◌else◌, List, [], ◌∷◌, length, Option, None, Some}
use Rattle.std.specs.List.{list_any}
use Rattle.site_vector.specs.declared.ids.PartId.{PartId}
use Rattle.site_vector.specs.declared.ids.TxId.{TxId}
use Rattle.site_vector.specs.Ids.{same_part}
use Rattle.site_vector.specs.Vector.{entry}
use Rattle.world_model.specs.declared.step.Step.{Step}
use Rattle.world_model.specs.declared.step.Step.TheVariants as step
use Rattle.world_model.specs.lines.Listed.{is_named, names_pending, IsBefore, AreInOrder, IsOwnBoundOf, AreTimed, AreAtMost}
use Rattle.world_model.specs.lines.Places.{IsOther, twin}
use Rattle.world_model.specs.lines.Lines.{Call, TakeOf, PrepareOf, DecideOf, FinishOf, AbortOf, Restart, Line}
use Rattle.world_model.specs.lines.Clock.{now}
use Rattle.world_model.specs.lines.History.{in_history, history, commit_time}
use Rattle.world_model.specs.lines.Bounds.{bound}
use Rattle.world_model.specs.lines.Updates.{takes_part, lead}
use Rattle.world_model.specs.lines.Pending.{pending, prepare_time, in_doubt}

-- a message of the twin at this site brings a part of the whole run above the bound
abbrev pub brings : List Line → PartId → ℕ → ℕ → ℕ → Bool
brings whole p site have hi = list_any (λ t. takes_part whole t (twin site p) && (ltb have (commit_time whole t) && leb (commit_time whole t) hi)) (history whole)

abbrev pub brought_after : List Line → List Line → PartId → ℕ → ℕ → Call → Step → ℕ
brought_after whole ls p j old call (step.Restarted q n bounds named listed) = entry bounds j
brought_after whole ls p j old (TakeOf number site lo hi) (step.Took shown end) = if site == j && (leb lo (bound ls p site) && brings whole p site (bound ls p site) hi) then max hi old else old
brought_after whole ls p j old call other = old

-- the greatest end of a message from site j that left no gap and brought a part, or what a later restart showed
abbrev pub brought : List Line → List Line → PartId → ℕ → ℕ
brought whole [] p j = 0
brought whole (l ∷ ls) p j = if same_part l.at p then brought_after whole ls p j (brought whole ls p j) l.call l.step else brought whole ls p j

abbrev pub decided_after : Option TxId → Step → Option TxId
decided_after old (step.Decided q t c) = Some t
decided_after old (step.Restarted q n bounds named listed) = named
decided_after old other = old

-- the last decide of p that was done, or what a later restart named
abbrev pub last_decided : List Line → PartId → Option TxId
last_decided [] p = None
last_decided (l ∷ ls) p = if same_part l.at p then decided_after (last_decided ls p) l.step else last_decided ls p

-- a restart that a fault ended changed nothing
abbrev pub fault_after : ℕ → Option (Call × ℕ) → Call → Step → Option (Call × ℕ)
fault_after time old call (step.Restarted p n bounds named listed) = None
fault_after time old Restart (step.Disk p) = old
fault_after time old call (step.Disk p) = Some (call, time + 1)
fault_after time old call (step.Unsure t) = Some (call, time + 1)
fault_after time old call other = old

-- the call at p that a fault of the disk ended, since the last restart, and the time that it would have drawn
abbrev pub faulted : List Line → PartId → Option (Call × ℕ)
faulted [] p = None
faulted (l ∷ ls) p = if same_part l.at p then fault_after (now ls p) (faulted ls p) l.call l.step else faulted ls p

-- all that was pending is listed, with its time, and the bounds are those of messages that brought something
pub record IsAsBefore (sites : ℕ) (whole before : List Line) (p : PartId) (shown : List ℕ) (named : Option TxId) (listed : List (TxId × ℕ)) : Type 0 where
  pub members : (t : TxId) → names_pending listed t ≡ pending before p t
  pub times : AreTimed (prepare_time before p) listed
  pub bounds : (j : ℕ) → IsOther sites p.site j → entry shown j ≡ brought whole before p j
  pub last : named ≡ last_decided before p

-- the lines with one more
abbrev pub with_line : PartId → Call → Step → List Line → List Line
with_line p call shown ls = (record { at = p; call = call; step = shown }) ∷ ls

-- the lines with a call at p as if it had been done, a prepare with this time; no other call changes what a restart lists, nor does
-- a decision's vector
abbrev pub with_done : Call → ℕ → PartId → List Line → List Line
with_done (PrepareOf t) drawn p ls = with_line p (PrepareOf t) (step.Prepared p t drawn) ls
with_done (DecideOf t) drawn p ls = with_line p (DecideOf t) (step.Decided p t []) ls
with_done (FinishOf t) drawn p ls = with_line p (FinishOf t) (step.Finished p t) ls
with_done (AbortOf t) drawn p ls = with_line p (AbortOf t) (step.Aborted p t) ls
with_done (TakeOf number site lo hi) drawn p ls = with_line p (TakeOf number site lo hi) (step.Took number hi) ls
with_done other drawn p ls = ls

-- a restart lists what was before, or what was once the call was done that a fault ended, by prepare time and id; it lists at its
-- lead nothing that was decided; what was in doubt it lists or names, and not both; and its own bound is by that list
pub record IsResumed (sites parts : ℕ) (whole before : List Line) (p : PartId) (time : ℕ) (bounds : List ℕ) (named : Option TxId) (listed : List (TxId × ℕ)) : Type 0 where
  pub list : IsAsBefore sites whole before p bounds named listed ⊎ ((call : Call) × (drawn : ℕ) × (faulted before p ≡ Some (call, drawn)) × IsAsBefore sites whole (with_done call drawn p before) p bounds named listed)
  pub order : AreInOrder IsBefore listed
  -- no vote is above its partition's clock
  pub early : AreAtMost time listed
  pub width : length bounds ≡ sites
  pub own : IsOwnBoundOf time listed (entry bounds p.site)
  pub decided : (t : TxId) → in_history before t ≡ true → lead parts whole t ≡ p → names_pending listed t ≡ false
  pub settled : (t : TxId) → in_doubt before p t ≡ true → names_pending listed t ≡ not (is_named named t)
