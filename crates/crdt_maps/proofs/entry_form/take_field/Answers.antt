use Rattle.std.proofs.Common.{rules}
use Rattle.crdt_maps.specs.EffectForm.{field_at}
use Rattle.crdt_maps.proofs.entry_form.take_field.Goals as goal

pub returns-clause-answer : goal.returns-clause-answer
unfolding field_at
returns-clause-answer g c = search rules
