-- What a call of a partition on its disk never answers.
use Rattle.std.specs.Prelude.{◌≢◌, ℕ, Result, Err}
use Rattle.partition_core.specs.declared.durable.DurableError.{DurableError}
use Rattle.partition_core.specs.declared.durable.DurableError.TheVariants as call

module _ {A : Type 0} (result : Result A DurableError) where
  -- it takes no memory
  abbrev pub TakesNoMemory : Type 0
  TakesNoMemory = result ≢ Err call.NoMemory

  -- it makes no call of the disk
  pub record TouchesNoDisk : Type 0 where
    pub unfailed : result ≢ Err call.Disk
    pub unfilled : (room : ℕ) → result ≢ Err (call.Full room)
