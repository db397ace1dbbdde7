-- What a store holds, as its contracts see it.
use Rattle.std.specs.Prelude.{ℕ, List}
use Rattle.crdt_core.specs.declared.record.Part.{Part}

-- parts in fold order, and how many more parts and updates it takes without memory
pub record Stored (E : Type 0) : Type 0 where
  pub sites : ℕ
  pub parts : List (Part E)
  pub room : ℕ
  pub update_room : ℕ
