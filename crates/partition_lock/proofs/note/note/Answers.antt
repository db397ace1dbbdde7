use Rattle.std.proofs.Common.{◌<◌, sym, subst}
use Rattle.crdt_core.specs.KindsOf.{kinds_of}
use Rattle.site_partitions.specs.Reaches.{types_of, PutsEvent}
use Rattle.seat_rule.specs.declared.rule.Size.{Size}
use Rattle.seat_rule.specs.Laws.{MayNote}
use Rattle.seat_rule.specs.Sizes.{places}
use Rattle.seat_rule.specs.world.Traces.{IsLawful}
use Rattle.partition_lock.specs.Events.{event_of}
use Rattle.partition_lock.proofs.note.note.Goals as goal

pub append-requires-clause-word : goal.append-requires-clause-word
append-requires-clause-word g c = subst (λ (k : Size). c.args.word < places k) (sym c.requires.here.2) c.requires.word

pub append-requires-clause-may : goal.append-requires-clause-may
append-requires-clause-may g c = subst (λ (k : Size). MayNote (IsLawful event_of k.sites k.parts (kinds_of g.C.Crdt.laws) (PutsEvent (types_of g.C.Crdt.laws g.C.Crdt.spells g.D.Disk.state))) g.N.Notes.like c.args.seat.now.me.0.past c.args.word) (sym c.requires.here.2) c.requires.may
