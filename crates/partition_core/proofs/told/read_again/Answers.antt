use Rattle.std.proofs.Common.{◌≡◌, ⊎_elim, Err, ap, sym, subst}
use Rattle.std.proofs.lemmas.Result.{err_from_is_err_and}
use Rattle.disk_core.specs.Moments.{AtEachMoment}
use Rattle.gate_log.specs.Logs.{disk_of, read_at_opening}
use Rattle.log_records.specs.Records.{record_form}
use Rattle.log_records.proofs.Wholes.{spelled_whole}
use Rattle.crdt_core.specs.Log.{MayFind}
use Rattle.partition_log.specs.Codec.{codec_of}
use Rattle.partition_log.specs.Gates.{gates_of}
use Rattle.partition_log.specs.Logs.{HasRecords, HoldsFront}
use Rattle.partition_log.proofs.Damaged.{same_read, never_refused}
use Rattle.partition_core.specs.Restarts.{unopened}
use Rattle.partition_core.specs.declared.restart.RestartError.TheVariants.{Damaged}
use Rattle.partition_core.proofs.Rereading.{map_ok, opens_damaged}
use Rattle.partition_core.proofs.told.read_again.Goals as goal

pub returns-in_err-reopen-clause-damaged : goal.returns-in_err-reopen-clause-damaged
returns-in_err-reopen-clause-damaged g c = λ at e l torn leaves.
    let p = err_from_is_err_and c.from_residual.result c.from_residual.ensures.1 in
    let told : unopened c.in_err-reopen.field-0.0 ≡ Damaged at = let a = p.1 in let b = p.2 in cc in
    absurd (c.in_err-reopen.ensures.whole l torn leaves at (ap Err (opens_damaged c.in_err-reopen.field-0.0 at told)))

pub returns-clause-found : goal.returns-clause-found
returns-clause-found g c = map_ok c.told_by-told.result
    (λ told h. (
      h.0,
      h.2,
      λ l torn leaves.
          let codec = codec_of g.C.Crdt.spells in
          let f = c.in_ok-reopen.ensures.finds l torn leaves in
          let same = same_read codec (spelled_whole (record_form g.C.Crdt.spells)) (read_at_opening (gates_of c.reopen.new.self)) f.0 h.0 f.2 h.1 in
          (subst (λ x. MayFind l torn x) same f.1, c.forget_read.ensures.has h.0 (subst (λ x. HasRecords codec g.D.Disk.state (gates_of c.reopen.new.self) x) same f.3)),
    ))
    c.told_by-told.ensures.told

pub returns-clause-damaged : goal.returns-clause-damaged
returns-clause-damaged g c = λ at e l torn leaves.
    let codec = codec_of g.C.Crdt.spells in
    let reads = spelled_whole (record_form g.C.Crdt.spells) in
    let items = read_at_opening (gates_of c.reopen.new.self) in
    let f = c.in_ok-reopen.ensures.finds l torn leaves in
    ⊎_elim
    (λ refused. absurd (never_refused codec reads items f.0 at f.2 refused))
    (λ unfit. (unfit.0, subst (λ x. MayFind l torn x) (same_read codec reads items f.0 unfit.0 f.2 unfit.1) f.1, unfit.2))
    (c.told_by-told.ensures.damaged at e)

pub returns-clause-moments : goal.returns-clause-moments
returns-clause-moments g c = λ l torn leaves.
    subst (λ d. AtEachMoment (g.D.Disk.state (disk_of (gates_of c.args.log.now))).story (g.D.Disk.state d).story (HoldsFront (codec_of g.C.Crdt.spells) l torn)) (sym c.forget_read.ensures.same.0) (c.in_ok-reopen.ensures.any_moment l torn leaves)
