use Rattle.std.proofs.Common.{inl}
use Rattle.std.proofs.lemmas.Result.{on_ok_weaker}
use Rattle.log_records.specs.Records.{record_form}
use Rattle.log_records.proofs.Wholes.{spelled_whole}
use Rattle.gate_log.specs.Logs.{disk_of}
use Rattle.partition_log.specs.Codec.{codec_of}
use Rattle.partition_log.specs.Gates.{gates_of}
use Rattle.partition_log.proofs.Reopening.{either_way, front_at_each_moment, front_found, front_whole}
use Rattle.partition_log.proofs.log.PartLog.reopen.Goals as goal

pub returns-clause-opened : goal.returns-clause-opened
returns-clause-opened g c = on_ok_weaker c.reopen.result (λ o. record { payloads = o.0; read = o.1; holds = o.3 }) c.reopen.ensures.opened

pub returns-clause-finds : goal.returns-clause-finds
returns-clause-finds g c = λ log torn leaves.
    let disk = disk_of (gates_of c.args.self.now) in
    on_ok_weaker c.reopen.result (front_found (codec_of g.C.Crdt.spells) log torn (g.D.Disk.state disk) (g.met.D.Disk.reads_an_image disk) leaves g.D.Disk.state c.reopen.new.self) (returns-clause-opened g c)

pub returns-clause-whole : goal.returns-clause-whole
returns-clause-whole g c = λ log torn leaves at e.
    let disk = disk_of (gates_of c.args.self.now) in
    front_whole (codec_of g.C.Crdt.spells) log torn (g.D.Disk.state disk) (g.met.D.Disk.reads_an_image disk) leaves (spelled_whole (record_form g.C.Crdt.spells)) at
    (inl (c.reopen.ensures.damaged at e leaves.tells))

pub returns-clause-any_moment : goal.returns-clause-any_moment
returns-clause-any_moment g c = λ log torn leaves.
    let disk = disk_of (gates_of c.args.self.now) in
    front_at_each_moment (codec_of g.C.Crdt.spells) log torn (g.D.Disk.state disk) (g.met.D.Disk.reads_an_image disk) leaves (g.D.Disk.state (disk_of c.reopen.new.self)) (either_way c.reopen.result c.reopen.ensures.synced c.reopen.ensures.synced_err)
