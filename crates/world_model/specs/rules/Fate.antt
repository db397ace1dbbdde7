-- What leads tell of their transactions is what the lines of a run tell.
use Rattle.std.specs.Prelude.{◌≡◌, ℕ, true, false, List}
use Rattle.site_vector.specs.declared.ids.PartId.{PartId}
use Rattle.site_vector.specs.declared.ids.TxId.{TxId}
use Rattle.world_model.specs.rules.Partition.{PartState, Fate, ToldPending, ToldCommitted, ToldAborted, ToldDown, fate_of}
use Rattle.world_model.specs.lines.Lines.{Line}
use Rattle.world_model.specs.lines.History.{in_history, commit_vector}
use Rattle.world_model.specs.lines.Updates.{lead}
use Rattle.world_model.specs.lines.Pending.{pending, is_down}

-- what p tells of t, which it leads: decided with its commit vector, or pending there, or neither
abbrev pub IsFate : List Line → PartId → TxId → Fate → Type 0
IsFate ls p t (ToldCommitted c) = (in_history ls t ≡ true) × (c ≡ commit_vector ls t)
IsFate ls p t ToldPending = (in_history ls t ≡ false) × (pending ls p t ≡ true)
IsFate ls p t ToldAborted = (in_history ls t ≡ false) × (pending ls p t ≡ false)
IsFate ls p t ToldDown = is_down ls p ≡ true

-- where these lines are shown, what each lead tells is the fate of its transaction
abbrev pub TellFates : {E : Type 0} → ℕ → List Line → (PartId → PartState E) → Type 0
TellFates parts ls state = (t : TxId) → IsFate ls (lead parts ls t) t (fate_of (state (lead parts ls t)) t)
