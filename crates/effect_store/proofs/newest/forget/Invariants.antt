use Rattle.std.specs.Prelude.{nat_eq}
use Rattle.std.specs.HashMap.{get}
use Rattle.effect_store.proofs.Keeping.{IsForgetting}
use Rattle.effect_store.proofs.newest.forget.Given as goal

abbrev pub invariant-loop-at : goal.invariant-loop-at
invariant-loop-at g l = IsForgetting l.parts l.part (get nat_eq l.fn.newest) (get nat_eq l.newest) l.count l.at × IsForgetting l.parts l.part (get nat_eq l.fn.older) (get nat_eq l.older) l.count l.at
