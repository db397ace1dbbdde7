use Rattle.std.proofs.Common.{rules}
use Rattle.crdt_maps.proofs.steps.apply_effect.Goals as goal

pub returns-in-Resets : goal.returns-in-Resets
returns-in-Resets g c = search rules
