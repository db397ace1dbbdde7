-- What passes have seen and hold, whatever store they call.
use Rattle.std.specs.Prelude.{ℕ, Bool, List}
use Rattle.crdt_core.specs.KindsOf.{Kinds}
use Rattle.world_model.specs.threads.Calls.{Call}
use Rattle.seat_rule.specs.declared.view.Past.{Past}
use Rattle.seat_rule.specs.Lists.{has}
use Rattle.partition_lock.specs.declared.told.Told.{Told}
use Rattle.partition_lock.specs.Passes.{Sees}

module _ {E : Type 0} where
  abbrev pub seen_by : {S X : Type 0} (kinds : Kinds S E) (sites parts : ℕ) → X → Past (Told E) → List (Call E) → Type 0
  seen_by kinds sites parts s p run = Sees kinds sites parts p run

  abbrev pub holds : Past (Told E) → ℕ → Bool
  holds p n = has p.numbers n
