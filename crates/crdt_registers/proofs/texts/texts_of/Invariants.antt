use Rattle.std.proofs.Common.{◌≡◌, ◌++◌}
use Rattle.std.specs.Prelude.{map}
use Rattle.crdt_meanings.specs.RegisterMv.{texts_kept}
use Rattle.crdt_registers.proofs.texts.texts_of.Given as goal

abbrev pub invariant-loop-dot : goal.invariant-loop-dot
invariant-loop-dot l = l.texts.items ++ map (λ e. e.1) l._dot-iterator ≡ texts_kept l.kept
