-- What one hook of a chain writes.
use Rattle.std.specs.Prelude.{◌≡◌, ◌≢◌, ℕ, ◌+◌, ◌<◌, ◌≤◌, List, length, Option, Some}
use Rattle.std.proofs.Common.{get_or}
use Rattle.effect_store.specs.Chains.{none}

-- the new place names `then`, and what stands at `at`, or else the head of the tag, names the new place
pub record Hooked (old new : List ℕ) (heads heads' : ℕ → Option ℕ) (at tag place then : ℕ) : Type 0 where
  pub last : get_or new place none ≡ then
  pub others : (k : ℕ) → k < place → k ≢ at → get_or new k none ≡ get_or old k none
  pub here : at < place → get_or new at none ≡ place
  pub heads_others : (i : ℕ) → i ≢ tag → heads' i ≡ heads i
  pub heads_same : at < place → heads' tag ≡ heads tag
  pub heads_here : place ≤ at → heads' tag ≡ Some place
  pub len : length new ≡ length old + 1
