-- Traces of partitions whose callers are threads.
use Rattle.std.specs.Prelude.{List, false, length, true, ℕ, ◌<◌, ◌≡◌, ◌≤◌, ◌⊎◌}
use Rattle.site_vector.specs.declared.ids.PartId.{PartId}
use Rattle.site_vector.specs.declared.ids.TxId.{TxId}
use Rattle.crdt_core.specs.KindsOf.{Kinds}
use Rattle.world_model.specs.lines.Places.{IsPlace}
use Rattle.world_model.specs.rules.Partition.{PartState}
use Rattle.world_model.specs.rules.Traces.{IsTrace}
use Rattle.world_model.specs.threads.Calls.{touches}
use Rattle.world_model.specs.threads.Marks.{Mark, Stands, events, is_restarted}
use Rattle.world_model.specs.threads.Allowed.{WasAllowed}

module _ {E : Type 0} where
  pub record AreTraces {S : Type 0} (kinds : Kinds S E) (sites parts : ℕ) (traces : PartId → List (Mark E)) (state : PartId → PartState E) : Type 0 where
    -- each partition made its trace
    pub steps : (p : PartId) → IsTrace kinds sites parts p (events (traces p)) (state p)
    pub place : (p : PartId) (n : ℕ) (m : Mark E) → Stands (traces p) n m → IsPlace sites parts p × (m.at ≡ p)
    -- no partition restarts
    pub unbroken : (p : PartId) (n : ℕ) (m : Mark E) → Stands (traces p) n m → is_restarted m.event ≡ false
    -- what was seen stands in the traces, with lower stamps; of its own partition that is all before it
    pub own : (p : PartId) (n : ℕ) (m : Mark E) → Stands (traces p) n m → m.seen p ≡ n
    pub within : (p : PartId) (n : ℕ) (m : Mark E) → Stands (traces p) n m → (q : PartId) → m.seen q ≤ length (traces q)
    pub rises : (p : PartId) (n : ℕ) (m : Mark E) → Stands (traces p) n m → (q : PartId) (k : ℕ) (f : Mark E) → Stands (traces q) k f → k < m.seen q → f.stamp < m.stamp
    -- of two steps with one number one had seen the other
    pub chain : (p : PartId) (n : ℕ) (m : Mark E) → Stands (traces p) n m → (q : PartId) (k : ℕ) (f : Mark E) → Stands (traces q) k f → f.by ≡ m.by → (k < m.seen q) ⊎ ((n < f.seen p) ⊎ ((p ≡ q) × (n ≡ k)))
    -- the number of each transaction's caller, which its begin bears
    pub caller : TxId → ℕ
    pub owned : (p : PartId) (n : ℕ) (m : Mark E) → Stands (traces p) n m → (t : TxId) → touches m.event t ≡ true → m.by ≡ caller t
    pub allowed : (p : PartId) (n : ℕ) (m : Mark E) → Stands (traces p) n m → WasAllowed kinds sites parts traces caller m
