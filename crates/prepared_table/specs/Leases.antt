-- A clock and the greatest time that it may show before the next lease.
use Rattle.std.specs.Prelude.{ℕ, ◌≤◌}
use Rattle.crdt_core.specs.Log.{end_of_time}

pub record Lent : Type 0 where
  pub clock : ℕ
  pub ceiling : ℕ

pub record IsLent (clock ceiling : ℕ) : Type 0 where
  pub under : clock ≤ ceiling
  pub most : ceiling ≤ end_of_time
