-- Which steps are a transaction's own, and bear its caller's number.
use Rattle.std.specs.Prelude.{false, ℕ, ⊤, ◌≡◌}
use Rattle.site_vector.specs.declared.ids.TxId.{TxId}
use Rattle.world_model.specs.rules.Event.{Aborted, Ask, AskAbort, AskDecide, AskPrepare, AskRead, AskUpdate, Event}
use Rattle.world_model.specs.rules.Asking.{asked_by}

module _ {E : Type 0} where
  -- a transaction's calls bear the number of its caller
  abbrev pub IsCallers : (TxId → ℕ) → ℕ → Ask E → Type 0
  IsCallers caller by (AskRead t s o own) = by ≡ caller t
  IsCallers caller by (AskUpdate t s o own op) = by ≡ caller t
  IsCallers caller by (AskPrepare t s l w) = by ≡ caller t
  IsCallers caller by (AskDecide t c) = by ≡ caller t
  IsCallers caller by (AskAbort t) = by ≡ caller t
  IsCallers caller by other = ⊤

  abbrev pub IsCallersStep : (TxId → ℕ) → ℕ → Event E → Type 0
  IsCallersStep caller by (Aborted t false) = ⊤
  IsCallersStep caller by event = IsCallers caller by (asked_by event)
