use Rattle.std.proofs.Common.{arith}
use Rattle.repl_stream.proofs.Outboxes.{messages_more, found_more, sound_more}
use Rattle.repl_stream.proofs.outbox.Outbox.keep.Goals as goal

pub invariant_of-self-2 : goal.invariant_of-self-2
invariant_of-self-2 g c = sound_more c.self.inside.messages.entries c.insert.new.self.entries c.self.inside.next c.args.m c.self.invariant (omega (arith, c.len.ensures.len, c.if-len-ge-MOST_MESSAGES.false)) c.in-Ok.ensures.entries

pub returns-clause-added : goal.returns-clause-added
returns-clause-added g c = (messages_more c.args.self.now c.self.inside.messages.entries c.insert.new.self.entries c.self.inside.next c.args.m c.self.view_is c.self.invariant c.in-Ok.ensures.entries).1

pub returns-clause-found : goal.returns-clause-found
returns-clause-found g c = found_more c.args.self.now c.self.inside.messages.entries c.insert.new.self.entries c.self.inside.next c.args.m c.self.view_is c.self.invariant c.in-Ok.ensures.entries

pub returns-clause-sound : goal.returns-clause-sound
returns-clause-sound g c = sound_more c.self.inside.messages.entries c.insert.new.self.entries c.self.inside.next c.args.m c.self.invariant (omega (arith, c.len.ensures.len, c.if-len-ge-MOST_MESSAGES.false)) c.in-Ok.ensures.entries
