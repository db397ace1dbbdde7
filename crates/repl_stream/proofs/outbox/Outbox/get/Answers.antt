use Rattle.std.proofs.Common.{◌∙◌}
use Rattle.repl_stream.proofs.Outboxes.{seen_at}
use Rattle.repl_stream.proofs.outbox.Outbox.get.Goals as goal

pub returns-clause-value : goal.returns-clause-value
returns-clause-value g c = c.get.ensures.value ∙ seen_at c.args.self.now c.self.inside.messages.entries c.self.inside.next c.args.k c.self.view_is
