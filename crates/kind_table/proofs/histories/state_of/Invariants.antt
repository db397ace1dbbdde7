use Rattle.crdt_core.specs.EffectForm.{HoldsSpelled}
use Rattle.kind_table.proofs.histories.state_of.Given as goal

abbrev pub invariant-loop-byte : goal.invariant-loop-byte
invariant-loop-byte g l = HoldsSpelled g.C.Crdt.holds l.state
