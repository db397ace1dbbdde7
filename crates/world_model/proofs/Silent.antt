-- Runs that are larger at each partition by what tells nothing of a transaction.
use Rattle.std.specs.Prelude.{List, [], false, ⊤, ◌++◌, ◌∷◌, ◌≡◌}
use Rattle.site_vector.specs.declared.ids.PartId.{PartId}
use Rattle.site_vector.specs.declared.ids.TxId.{TxId}
use Rattle.world_model.specs.rules.Event.{Aborted, Ask, AskAbort, AskDecide, AskFinish, AskPrepare, AskRead, AskUpdate, Decided, Entry, Event, WasShown}
use Rattle.world_model.specs.rules.Traces.{trace_of}
use Rattle.world_model.specs.rules.Asking.{asked_by}
use Rattle.world_model.specs.threads.Calls.{touches}

module _ {E : Type 0} where
  abbrev pub AreSilent : List (Event E) → TxId → Type 0
  AreSilent [] t = ⊤
  AreSilent (e ∷ trace) t = (touches e t ≡ false) × AreSilent trace t

  -- at each partition all that stands in the small run stands in the large one, in the same order and below the rest
  pub record Grown (large small : List (Entry E)) : Type 0 where
    pub more : PartId → List (Event E)
    pub is : (p : PartId) → trace_of p large ≡ more p ++ trace_of p small

  -- what is more tells nothing of the transaction that is asked for
  abbrev pub IsSilent : (PartId → List (Event E)) → Ask E → Type 0
  IsSilent more (AskRead t s o own) = (p : PartId) → AreSilent (more p) t
  IsSilent more (AskUpdate t s o own op) = (p : PartId) → AreSilent (more p) t
  IsSilent more (AskPrepare t s l w) = (p : PartId) → AreSilent (more p) t
  IsSilent more (AskDecide t c) = (p : PartId) → AreSilent (more p) t
  IsSilent more (AskAbort t) = (p : PartId) → AreSilent (more p) t
  IsSilent more other = ⊤

  -- a finish rests on a decision that was shown
  abbrev pub IsCitedEnd : List (Entry E) → Ask E → Type 0
  IsCitedEnd small (AskFinish t c) = (p : PartId) × WasShown small p (Decided t c)
  IsCitedEnd small other = ⊤

  abbrev pub IsSilentFor : (PartId → List (Event E)) → Event E → Type 0
  IsSilentFor more (Aborted t false) = ⊤
  IsSilentFor more event = IsSilent more (asked_by event)
