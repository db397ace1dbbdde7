use Rattle.std.proofs.Common.{ap, ◌∙◌}
use Rattle.std.specs.Prelude.{is_some}
use Rattle.repl_stream.proofs.Outboxes.{seen_at, messages_less, found_less, sound_less}
use Rattle.repl_stream.proofs.outbox.Outbox.drop_one.Goals as goal

pub invariant_of-self : goal.invariant_of-self
invariant_of-self g c = sound_less c.self.inside.messages.entries c.remove-dropped.new.self.entries c.self.inside.next c.args.k c.self.invariant c.remove-dropped.ensures.entries

pub returns-clause-was : goal.returns-clause-was
returns-clause-was g c = c.is_some.ensures ∙ ap is_some (c.remove-dropped.ensures.value ∙ seen_at c.args.self.now c.self.inside.messages.entries c.self.inside.next c.args.k c.self.view_is)

pub returns-clause-rest : goal.returns-clause-rest
returns-clause-rest g c = messages_less c.args.self.now c.self.inside.messages.entries c.remove-dropped.new.self.entries c.self.inside.next c.args.k c.self.view_is c.remove-dropped.ensures.entries

pub returns-clause-found : goal.returns-clause-found
returns-clause-found g c = found_less c.args.self.now c.self.inside.messages.entries c.remove-dropped.new.self.entries c.self.inside.next c.args.k c.self.view_is c.self.invariant c.remove-dropped.ensures.entries

pub returns-clause-sound : goal.returns-clause-sound
returns-clause-sound g c = sound_less c.self.inside.messages.entries c.remove-dropped.new.self.entries c.self.inside.next c.args.k c.self.invariant c.remove-dropped.ensures.entries
