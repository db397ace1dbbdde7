use Rattle.std.proofs.Common.{rules}
use Rattle.crdt_sets.proofs.effect.effect_of.Goals as goal

pub returns-in_ok-named_at-in-Reset : goal.returns-in_ok-named_at-in-Reset
returns-in_ok-named_at-in-Reset c = search rules
