-- Who waits at a partition: no transaction that began with a stable snapshot.
use Rattle.std.specs.Prelude.{◌≡◌, Bool, false, if◌then◌else◌, List, [], ◌∷◌, ⊤}
use Rattle.site_vector.specs.declared.ids.PartId.{PartId}
use Rattle.site_vector.specs.declared.ids.TxId.{TxId}
use Rattle.site_vector.specs.Ids.{same_tx}
use Rattle.world_model.specs.declared.step.Step.{Step}
use Rattle.world_model.specs.declared.step.Step.TheVariants as step
use Rattle.world_model.specs.lines.Lines.{Call, Begin, ReadOf, UpdateOf, PrepareOf, Line}

abbrev pub stable_in : Bool → Call → Bool
stable_in old (Begin who wish) = wish.stable
stable_in old other = old

abbrev pub stable_after : TxId → Bool → Step → Call → Bool
stable_after t old (step.Began name u s) call = if same_tx u t then stable_in old call else old
stable_after t old other call = old

-- t began with a stable snapshot
abbrev pub began_stable : List Line → TxId → Bool
began_stable [] t = false
began_stable (l ∷ ls) t = stable_after t (began_stable ls t) l.step l.call

abbrev pub IsFreshCall : List Line → Call → Type 0
IsFreshCall before (ReadOf t o) = began_stable before t ≡ false
IsFreshCall before (UpdateOf t o op) = began_stable before t ≡ false
IsFreshCall before (PrepareOf t) = began_stable before t ≡ false
IsFreshCall before other = ⊤

-- a wait for the clock, or for what is pending
abbrev pub WaitsFresh : List Line → PartId → Call → Step → Type 0
WaitsFresh before p call (step.WaitClock q n) = IsFreshCall before call
WaitsFresh before p call (step.WaitTxn q u n) = IsFreshCall before call
WaitsFresh before p call other = ⊤
