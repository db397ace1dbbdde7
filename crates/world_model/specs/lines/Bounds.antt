-- The bounds of a partition, over the lines of a run.
use Rattle.std.specs.Prelude.{◌≡◌, ℕ, ◌⊎◌, ◌<◌, ◌≤◌, max, ◌==◌, Bool, true, false, if◌then◌else◌, List, [], ◌∷◌}
use Rattle.site_vector.specs.declared.ids.PartId.{PartId}
use Rattle.site_vector.specs.Ids.{same_part}
use Rattle.site_vector.specs.Vector.{entry}
use Rattle.world_model.specs.declared.step.Step.{Step}
use Rattle.world_model.specs.declared.step.Step.TheVariants as step
use Rattle.world_model.specs.lines.Places.{IsOther}
use Rattle.world_model.specs.lines.Lines.{Call, TakeOf, HearOf, Line}
use Rattle.world_model.specs.lines.Clock.{now}
use Rattle.world_model.specs.lines.Listed.{IsBoundBy}
use Rattle.world_model.specs.lines.Pending.{pending, prepare_time}

-- the least of what is known of the partitions 1 to n: at most each, and that of one of them
pub record IsLeast (n : ℕ) (known : ℕ → ℕ) (m : ℕ) : Type 0 where
  pub below : (q : ℕ) → 1 ≤ q → q ≤ n → m ≤ known q
  pub reached : (q : ℕ) × (1 ≤ q) × (q ≤ n) × (m ≡ known q)

-- some partition of so many is not known to have come with site j as far as this vector
abbrev pub LagsBehind : ℕ → (ℕ → ℕ → ℕ) → List ℕ → ℕ → Type 0
LagsBehind parts known v j = (q : ℕ) × (1 ≤ q) × (q ≤ parts) × (known j q < entry v j)

-- j is the least site of which less is stable than this vector has, and so much is: another site than d, or where d counts too (`counts`)
-- d itself, of which `Own` is stable
pub record IsLeastBehind (sites parts d : ℕ) (known : ℕ → ℕ → ℕ) (counts : Bool) (Own : ℕ → Type 0) (v : List ℕ) (j n : ℕ) : Type 0 where
  pub have : (IsOther sites d j × IsLeast parts (known j) n) ⊎ ((counts ≡ true) × (j ≡ d) × Own n)
  pub behind : n < entry v j
  pub least : (i : ℕ) → IsOther sites d i → LagsBehind parts known v i → j ≤ i
  pub own : d < j → counts ≡ true → (m : ℕ) × Own m × (entry v d ≤ m)

-- every partition is known to have come as far as this vector with each site, d itself among them where it counts
pub record AreEnough (sites parts d : ℕ) (known : ℕ → ℕ → ℕ) (counts : Bool) (Own : ℕ → Type 0) (v : List ℕ) : Type 0 where
  pub others : (j q : ℕ) → IsOther sites d j → 1 ≤ q → q ≤ parts → entry v j ≤ known j q
  pub own : counts ≡ true → (m : ℕ) × Own m × (entry v d ≤ m)

-- the site of a message that a call was handed
abbrev pub is_from : Call → ℕ → Bool
is_from (TakeOf number site lo hi) j = site == j
is_from other j = false

-- the end of the last message taken from site j, or what a later restart showed
abbrev pub bound_after : ℕ → ℕ → Call → Step → ℕ
bound_after j old call (step.Took number hi) = if is_from call j then hi else old
bound_after j old call (step.Restarted p n bounds named listed) = entry bounds j
bound_after j old call other = old

abbrev pub bound : List Line → PartId → ℕ → ℕ
bound [] p j = 0
bound (l ∷ ls) p j = if same_part l.at p then bound_after j (bound ls p j) l.call l.step else bound ls p j

-- the own bound
abbrev pub IsOwnBound : List Line → PartId → ℕ → Type 0
IsOwnBound ls p b = IsBoundBy (now ls p) (pending ls p) (prepare_time ls p) b

-- the entry for site j in a report of partition q that a call was handed
abbrev pub told_by : Call → ℕ → ℕ → ℕ
told_by (HearOf number part bounds) q j = if part == q then entry bounds j else 0
told_by other q j = 0

abbrev pub heard_after : ℕ → ℕ → ℕ → Call → Step → ℕ
heard_after q j old call (step.Heard number p stable) = max old (told_by call q j)
heard_after q j old call (step.Restarted p n bounds named listed) = 0
heard_after q j old call other = old

-- the greatest entry for site j in the reports of partition q that p heard since its last restart
abbrev pub heard : List Line → PartId → ℕ → ℕ → ℕ
heard [] p q j = 0
heard (l ∷ ls) p q j = if same_part l.at p then heard_after q j (heard ls p q j) l.call l.step else heard ls p q j

-- what p knows of how far partition q of its site has come with site j
abbrev pub known : List Line → PartId → ℕ → ℕ → ℕ
known ls p j q = if p.part == q then bound ls p j else heard ls p q j

-- the stable entry of p for site j: the least that it knows, over the partitions of its site
abbrev pub IsStableEntry : ℕ → List Line → PartId → ℕ → ℕ → Type 0
IsStableEntry parts ls p j n = IsLeast parts (known ls p j) n

-- what is stable of the own site
abbrev pub IsOwnStable : ℕ → List Line → PartId → ℕ → Type 0
IsOwnStable parts ls p n = (b : ℕ) × IsOwnBound ls p b × IsLeast parts (λ q. if p.part == q then b else heard ls p q p.site) n
