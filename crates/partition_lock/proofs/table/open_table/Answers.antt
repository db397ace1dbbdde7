use Rattle.crdt_core.specs.KindsOf.{kinds_of}
use Rattle.site_partitions.specs.Reaches.{types_of, PutsEvent}
use Rattle.seat_rule.proofs.Parting.{none_lawful}
use Rattle.partition_lock.specs.Events.{event_of}
use Rattle.partition_lock.proofs.table.open_table.Goals as goal

pub open-requires-clause-none : goal.open-requires-clause-none
open-requires-clause-none g c = none_lawful event_of c.from.result c.from-2.result (kinds_of g.C.Crdt.laws) (PutsEvent (types_of g.C.Crdt.laws g.C.Crdt.spells g.D.Disk.state))
