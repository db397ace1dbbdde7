use Rattle.std.proofs.Common.{sym, subst, Ok, ◌∙◌}
use Rattle.partition_log.specs.Appends.{Appends}
use Rattle.partition_log.specs.Codec.{codec_of}
use Rattle.partition_log.specs.Gates.{gates_of}
use Rattle.partition_core.proofs.Writing.{nothing_appended, nothing_brought, something_brought}
use Rattle.partition_core.proofs.logging.keep_batch.Goals as goal

pub returns-then-is_empty : goal.returns-then-is_empty
returns-then-is_empty g c = subst (λ l. Appends (codec_of g.C.Crdt.spells) g.D.Disk.state (Ok tt) (gates_of c.args.log.now) (gates_of c.args.log.now) l) (sym (nothing_brought c.args.news.now c.as_slice.result.now c.as_slice.ensures (sym c.is_empty.ensures ∙ c.if-is_empty.true))) (nothing_appended (codec_of g.C.Crdt.spells) g.D.Disk.state (gates_of c.args.log.now) c.requires.ready c.requires.open tt)

pub returns : goal.returns
returns g c = subst (λ l. Appends (codec_of g.C.Crdt.spells) g.D.Disk.state c.batch.result (gates_of c.args.log.now) (gates_of c.batch.new.self) l) (sym (something_brought c.args.news.now c.as_slice.result.now c.as_slice.ensures (sym c.is_empty.ensures ∙ c.if-is_empty.false))) c.batch.ensures
