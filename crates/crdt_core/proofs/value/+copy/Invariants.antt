use Rattle.std.proofs.Common.{◌≡◌, map}
use Rattle.crdt_core.proofs.value.+copy.Given as goal

abbrev pub invariant-copy_members-loop-field : goal.invariant-copy_members-loop-field
invariant-copy_members-loop-field l = l.all ≡ map (λ m. m.now) l.yielded
