-- Two orders of the same traces show the same calls of one caller.
use Rattle.std.specs.Prelude.{◌≡◌, ℕ, List}
use Rattle.site_vector.specs.declared.ids.PartId.{PartId}
use Rattle.crdt_core.specs.KindsOf.{Kinds}
use Rattle.world_model.specs.rules.Partition.{PartState}
use Rattle.world_model.specs.threads.Marks.{Mark, calls}
use Rattle.world_model.specs.threads.AreTraces.{AreTraces}
use Rattle.world_model.specs.threads.Orders.{IsOrderOf}
use Rattle.world_model.specs.threads.Calls.{Call}
use Rattle.txn_session.specs.Numbers.{made_by}
use Rattle.seat_rule.specs.declared.view.Past.{Past}
use Rattle.partition_lock.specs.declared.told.Told.{Told}
use Rattle.partition_lock.specs.Passes.{Sees}

-- in two orders of the same traces, each with every step after all that its caller had seen, a number's calls are the same, in one order
abbrev pub LawAgrees : (S E : Type 0) → Type 0
LawAgrees S E = (kinds : Kinds S E) (sites parts : ℕ) (traces : PartId → List (Mark E)) (state : PartId → PartState E) → AreTraces kinds sites parts traces state
    → (one two : List (Mark E)) → IsOrderOf traces one → IsOrderOf traces two → (n : ℕ) → made_by n (calls one) ≡ made_by n (calls two)

-- all runs that a pass has seen show the same calls of one number
abbrev pub LawAgreed : (S E : Type 0) → Type 0
LawAgreed S E = (kinds : Kinds S E) (sites parts : ℕ) (p : Past (Told E)) (run other : List (Call E)) → Sees kinds sites parts p run → Sees kinds sites parts p other → (n : ℕ) → made_by n run ≡ made_by n other
