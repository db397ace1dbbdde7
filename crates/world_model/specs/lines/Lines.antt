-- Lines: what a partition was asked, and the step that its answer shows.
use Rattle.std.specs.Prelude.{ℕ, Bool, true, false, List, [], ◌∷◌, Option, ⊤}
use Rattle.site_vector.specs.declared.ids.PartId.{PartId}
use Rattle.site_vector.specs.declared.ids.TxId.{TxId}
use Rattle.crdt_core.specs.declared.object.ObjectId.{ObjectId}
use Rattle.crdt_core.specs.declared.operation.Op.{Op}
use Rattle.world_model.specs.declared.command.Mode.{Mode}
use Rattle.world_model.specs.declared.command.Mode.TheVariants.{Fresh, Stable}
use Rattle.world_model.specs.declared.step.Step.{Step}

-- what a begin is handed: what its session depends on, and whether it is to read what is stable alone, and so never to wait
pub record Wish : Type 0 where
  pub past : List ℕ
  pub stable : Bool

abbrev pub is_stable : Mode → Bool
is_stable Fresh = false
is_stable Stable = true

-- what a begin in this mode is handed of a session that depends on so much
abbrev pub wish_of : List ℕ → Mode → Wish
wish_of past mode = record { past = past; stable = is_stable mode }

-- what a partition was asked: a run of the world holds no commands
pub data Call : Type 0 where
  Tick : (clock_time : ℕ) → Call
  -- by a session, with what it was handed to depend on
  Begin : (who : List ℕ) (wish : Wish) → Call
  ReadOf : (tx : TxId) (object : ObjectId) → Call
  UpdateOf : (tx : TxId) (object : ObjectId) (op : Op) → Call
  PrepareOf : (tx : TxId) → Call
  DecideOf : (tx : TxId) → Call
  FinishOf : (tx : TxId) → Call
  AbortOf : (tx : TxId) → Call
  SendTo : (site : ℕ) (asked : Option ℕ) → Call
  -- the message with this number among those of the twin at this site, of this stretch
  TakeOf : (number site lo hi : ℕ) → Call
  Report : Call
  -- the report with this number among those of the partition `part`
  HearOf : (number part : ℕ) (bounds : List ℕ) → Call
  Crash : Call
  Restart : Call
  -- a session is made
  Open : Call

pub record Line : Type 0 where
  pub at : PartId
  pub call : Call
  pub step : Step

-- each line has this property, of the lines before it
abbrev pub EachLine : (List Line → PartId → Call → Step → Type 0) → List Line → Type 0
EachLine P [] = ⊤
EachLine P (l ∷ ls) = P ls l.at l.call l.step × EachLine P ls
