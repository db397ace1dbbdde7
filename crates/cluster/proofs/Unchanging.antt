-- A line that updates nothing leaves each transaction's lead as it was.
use Rattle.std.proofs.Common.{◌≡◌, ℕ, Bool, true, false, List, [], ◌∷◌, ◌++◌, refl, ap, ◌∙◌}
use Rattle.std.specs.Prelude.{filter}
use Rattle.std.specs.List.{list_any}
use Rattle.std.proofs.lemmas.List.{append-nil}
use Rattle.site_vector.specs.declared.ids.PartId.{PartId}
use Rattle.site_vector.specs.declared.ids.TxId.{TxId}
use Rattle.site_vector.specs.Ids.{same_part}
use Rattle.world_model.specs.declared.step.Step.{Step}
use Rattle.world_model.specs.rules.Asking.{asked_by}
use Rattle.world_model.specs.lines.Places.{partitions, first_of, home}
use Rattle.world_model.specs.rules.Event.{Ask, AskPrepare, AskDecide, AskFinish, AskAbort, IsDown, Event, Updated, Decided, Refused, Cut, Entry, attempt}
use Rattle.world_model.specs.lines.Lines.{Call, Line}
use Rattle.world_model.specs.rules.Lines.{step_shown}
use Rattle.world_model.specs.lines.Updates.{Change, changes, change_of, lead}
use Rattle.world_model.proofs.Names.{off}

module _ (parts : ℕ) (ls : List Line) (p : PartId) (call : Call) (s : Step) (unchanged : (time index : ℕ) (u : TxId) → change_of p time index call s u ≡ []) where
  abbrev after : List Line
  after = (record { at = p; call = call; step = s }) ∷ ls

  changes_are : (u : TxId) → changes after u ≡ changes ls u
  changes_are u = ap (λ x. changes ls u ++ x) (unchanged _ _ u) ∙ append-nil (changes ls u)

  pub lead_stays : (u : TxId) → lead parts after u ≡ lead parts ls u
  lead_stays u = λ i. first_of (home u) (filter (λ q. list_any (λ (c : Change). same_part c.at q) (changes_are u i)) (partitions u.site 1 parts))

-- a step of the end of a transaction is asked
abbrev pub is_end_ask : {E : Type 0} → Ask E → Bool
is_end_ask (AskPrepare t s l w) = true
is_end_ask (AskDecide t c) = true
is_end_ask (AskFinish t c) = true
is_end_ask (AskAbort t) = true
is_end_ask other = false

-- the line of a step of an end updates nothing
pub end_changes : {E : Type 0} (events : List (Entry E)) (at : PartId) (e : Event E) → is_end_ask (asked_by (attempt e)) ≡ true → (p : PartId) (time index : ℕ) (call : Call) (u : TxId) → change_of p time index call (step_shown events at e) u ≡ []
end_changes events at (Updated t s o own op read x stamp) h p time index call u = off h
end_changes events at (Refused a IsDown) h p time index call u = refl
end_changes events at (Refused a why) h p time index call u = refl
end_changes events at (Cut (Decided t v)) h p time index call u = refl
end_changes events at (Cut what) h p time index call u = refl
end_changes events at other h p time index call u = refl
