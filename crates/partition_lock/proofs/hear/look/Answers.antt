use Rattle.std.proofs.Common.{subst}
use Rattle.crdt_core.specs.KindsOf.{kinds_of}
use Rattle.site_partitions.specs.Reaches.{types_of, PutsEvent}
use Rattle.seat_rule.specs.declared.rule.Size.{Size}
use Rattle.seat_rule.specs.Laws.{Heard}
use Rattle.seat_rule.specs.world.Traces.{IsLawful}
use Rattle.seat_rule.proofs.Parting.{parts_lawful}
use Rattle.partition_lock.specs.Events.{event_of}
use Rattle.partition_lock.proofs.hear.look.Goals as goal

pub look-requires-clause-parts : goal.look-requires-clause-parts
look-requires-clause-parts g c =
    let key = c.args.traces.now.key in
    parts_lawful event_of key.sites key.parts (kinds_of g.C.Crdt.laws) (PutsEvent (types_of g.C.Crdt.laws g.C.Crdt.spells g.D.Disk.state))

pub returns-clause-heard : goal.returns-clause-heard
returns-clause-heard g c = subst (λ (k : Size). Heard (IsLawful event_of k.sites k.parts (kinds_of g.C.Crdt.laws) (PutsEvent (types_of g.C.Crdt.laws g.C.Crdt.spells g.D.Disk.state))) c.args.seat.now.me.0) c.requires.here.2 c.look.ensures.heard
