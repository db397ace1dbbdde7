use Rattle.std.proofs.Common.{[]}
use Rattle.recovery_table.proofs.Keeping.{same_place, calls_same}
use Rattle.recovery_table.proofs.place.Place.begin.Goals as goal

pub invariant_of-self : goal.invariant_of-self
invariant_of-self c = same_place _ _ _ c.self.invariant (calls_same _ _ _ _ _ _ _ _ c.begin.result (c.begin.ensures.answers []))

pub invariant_of-self-2 : goal.invariant_of-self-2
invariant_of-self-2 c = same_place _ _ _ c.self.invariant (calls_same _ _ _ _ _ _ _ _ c.begin.result (c.begin.ensures.answers []))
