use Rattle.std.proofs.Common.{true}
use Rattle.recovery_table.proofs.Keeping.{same_place, calls_same}
use Rattle.recovery_table.proofs.place.Place.abort.Goals as goal

pub invariant_of-self : goal.invariant_of-self
invariant_of-self c = same_place _ _ _ c.self.invariant (calls_same _ _ _ _ _ _ _ _ c.abort.result (c.abort.ensures.answers true))

pub invariant_of-self-2 : goal.invariant_of-self-2
invariant_of-self-2 c = same_place _ _ _ c.self.invariant (calls_same _ _ _ _ _ _ _ _ c.abort.result (c.abort.ensures.answers true))
