use Rattle.std.proofs.Common.{sym, subst, Ok}
use Rattle.partition_log.specs.Appends.{Appends}
use Rattle.partition_log.specs.Codec.{codec_of}
use Rattle.partition_log.specs.Gates.{gates_of, leases}
use Rattle.partition_core.proofs.Writing.{nothing_appended}
use Rattle.partition_core.proofs.logging.keep_lease.Goals as goal

pub returns-in-Some-clause-appends : goal.returns-in-Some-clause-appends
returns-in-Some-clause-appends g c = subst (λ w. Appends (codec_of g.C.Crdt.spells) g.D.Disk.state c.lease.result (gates_of c.args.log.now) (gates_of c.lease.new.self) (leases w)) (sym c.in-Some.is) c.lease.ensures.appends

pub returns-in-None-clause-appends : goal.returns-in-None-clause-appends
returns-in-None-clause-appends g c = subst (λ w. Appends (codec_of g.C.Crdt.spells) g.D.Disk.state (Ok tt) (gates_of c.args.log.now) (gates_of c.args.log.now) (leases w)) (sym c.in-None.is) (nothing_appended (codec_of g.C.Crdt.spells) g.D.Disk.state (gates_of c.args.log.now) c.requires.ready c.requires.open tt)
