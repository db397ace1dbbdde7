use Rattle.std.proofs.Common.{◌∙◌, true, false, List, Err}
use Rattle.std.proofs.lemmas.Result.{err_from_is_err_and}
use Rattle.crdt_core.specs.KindsOf.{kinds_of}
use Rattle.partition_log.specs.Codec.{codec_of}
use Rattle.partition_log.specs.Gates.{gates_of}
use Rattle.log_recovery.specs.Told.{IsToldBy}
use Rattle.partition_core.specs.Recovered.{resumed}
use Rattle.partition_core.specs.Unfit.{IsUnfitAt}
use Rattle.crdt_core.specs.Log.{MayFind}
use Rattle.partition_core.specs.Stands.{Stands}
use Rattle.partition_core.specs.declared.restart.RestartError.TheVariants.{NoMemory}
use Rattle.partition_core.proofs.Logged.{on_disk}
use Rattle.partition_core.proofs.Restarting.{stays, unread, comes_up, opened_restart, opened_up, same_place, same_tables, listed_same}
use Rattle.partition_core.proofs.durable.DurablePartition.restart.Goals as goal

pub returns-in_err-told : goal.returns-in_err-told
returns-in_err-told g c =
    let p = err_from_is_err_and c.from_residual.result c.from_residual.ensures.1 in
    let v = on_disk c.self.inside.tables (gates_of c.self.inside.log) c.self.inside.crashed in
    let new = on_disk c.make.result (gates_of c.read_again.new.log) true in
    let kinds = kinds_of g.C.Crdt.laws in
    let codec = codec_of g.C.Crdt.spells in
    let at = c.place-sites.ensures.is in
    let made = c.make.ensures.place in
    let same = same_tables c.self.inside.tables c.make.result (made.0 ∙ at.0) (made.1 ∙ at.1) (made.2 ∙ at.2) in
    let e = c.in_err-told.ensures in
    rw (p.1, p.2) (opened_restart kinds codec g.D.Disk.state v c.args.self.now new (Err c.in_err-told.field-0.0) c.self.view_is (unread kinds codec g.D.Disk.state v (gates_of c.read_again.new.log) e.goes_on e.left e.moments c.make.result same c.in_err-told.field-0.0 e.failed
    (λ place k l torn leaves. same_place (λ a b i. (found : List _) × MayFind l torn found × IsUnfitAt codec a b i found place) c.place-sites.result.0 c.place-sites.result.1 c.place-sites.result.2 c.self.inside.tables at (e.damaged place k l torn leaves))))

pub returns-in_err-tables : goal.returns-in_err-tables
returns-in_err-tables g c =
    let p = err_from_is_err_and c.from_residual-in_err-tables.result c.from_residual-in_err-tables.ensures.1 in
    let v = on_disk c.self.inside.tables (gates_of c.self.inside.log) c.self.inside.crashed in
    let new = on_disk c.make.result (gates_of c.read_again.new.log) true in
    let kinds = kinds_of g.C.Crdt.laws in
    let codec = codec_of g.C.Crdt.spells in
    let at = c.place-sites.ensures.is in
    let made = c.make.ensures.place in
    let same = same_tables c.self.inside.tables c.make.result (made.0 ∙ at.0) (made.1 ∙ at.1) (made.2 ∙ at.2) in
    let r = c.in_ok-told.ensures in
    rw (p.1, p.2) (opened_restart kinds codec g.D.Disk.state v c.args.self.now new (Err NoMemory) c.self.view_is (stays kinds codec g.D.Disk.state v (gates_of c.read_again.new.log) r.goes_on r.left r.moments c.make.result same))

pub returns-in_err-pending : goal.returns-in_err-pending
returns-in_err-pending g c =
    let p = err_from_is_err_and c.from_residual-in_err-pending.result c.from_residual-in_err-pending.ensures.1 in
    let v = on_disk c.self.inside.tables (gates_of c.self.inside.log) c.self.inside.crashed in
    let new = on_disk c.make.result (gates_of c.read_again.new.log) true in
    let kinds = kinds_of g.C.Crdt.laws in
    let codec = codec_of g.C.Crdt.spells in
    let at = c.place-sites.ensures.is in
    let made = c.make.ensures.place in
    let same = same_tables c.self.inside.tables c.make.result (made.0 ∙ at.0) (made.1 ∙ at.1) (made.2 ∙ at.2) in
    let r = c.in_ok-told.ensures in
    rw (p.1, p.2) (opened_restart kinds codec g.D.Disk.state v c.args.self.now new (Err NoMemory) c.self.view_is (stays kinds codec g.D.Disk.state v (gates_of c.read_again.new.log) r.goes_on r.left r.moments c.make.result same))

pub returns : goal.returns
returns g c =
    let v = on_disk c.self.inside.tables (gates_of c.self.inside.log) c.self.inside.crashed in
    let new = on_disk c.in_ok-tables.tables (gates_of c.read_again.new.log) false in
    let kinds = kinds_of g.C.Crdt.laws in
    let codec = codec_of g.C.Crdt.spells in
    let r = c.in_ok-told.ensures in
    let records = r.found.0 in
    let at = c.place-sites.ensures.is in
    let here = same_place (λ a b i. IsToldBy a b i records c.in_ok-told.told) c.place-sites.result.0 c.place-sites.result.1 c.place-sites.result.2 c.self.inside.tables at r.found.1 in
    let place = c.in_ok-tables.ensures.place in
    let same = same_tables c.self.inside.tables c.in_ok-tables.tables (place.0 ∙ at.0) (place.1 ∙ at.1) (place.2 ∙ at.2) in
    opened_up kinds codec g.D.Disk.state v c.args.self.now new _ c.self.view_is (comes_up kinds codec g.D.Disk.state v (gates_of c.read_again.new.log) r.goes_on r.left r.moments records r.found.2 r.open r.unfired c.in_ok-tables.tables same c.in_ok-told.told here (λ rises. same_place (λ a b i. Stands c.in_ok-tables.tables (resumed a b c.in_ok-told.told.bounds records)) c.place-sites.result.0 c.place-sites.result.1 c.place-sites.result.2 c.self.inside.tables at (c.in_ok-tables.ensures.stands records r.found.1 rises)) c.in_ok-pending.pending (listed_same c.in_ok-pending.pending c.pending.result.now c.in_ok-tables.tables.pending c.in_ok-pending.ensures c.pending.ensures))
