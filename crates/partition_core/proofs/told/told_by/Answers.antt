use Rattle.std.proofs.Common.{◌≡◌, List, inl, inr, ⊎_elim, Err, sym, ap, ◌∙◌, subst}
use Rattle.std.proofs.lemmas.Result.{err_from_is_err_and}
use Rattle.gate_log.specs.Logs.{read_at_opening}
use Rattle.partition_log.specs.Codec.{codec_of}
use Rattle.partition_log.specs.Gates.{gates_of}
use Rattle.partition_log.proofs.Reading.{first_within, refused}
use Rattle.partition_log.specs.Damage.{AreRecords}
use Rattle.log_recovery.specs.Told.{HasRead}
use Rattle.partition_core.specs.Restarts.{unopened}
use Rattle.partition_core.specs.Unfit.{IsUnfitAt}
use Rattle.partition_core.specs.declared.restart.RestartError.TheVariants.{Damaged}
use Rattle.partition_core.proofs.Rereading.{opens_damaged}
use Rattle.partition_core.proofs.Telling.{IsUnderway, underway_starts, underway_more, underway_stops, underway_ends}
use Rattle.partition_core.proofs.told.told_by.Goals as goal

pub loop-place-init : goal.loop-place-init
loop-place-init g c =
    let codec = codec_of g.C.Crdt.spells in
    let items = read_at_opening (gates_of c.args.log.now) in
    subst (λ l. IsUnderway codec c.args.sites c.args.parts c.args.id c.last_ceiling-top.result items l c.new-recovery.result) (sym (c.into_iter-place-iterator.ensures.into_iter_gives ∙ c.payloads-place-items.ensures.read))
    (underway_starts codec c.args.sites c.args.parts c.args.id c.last_ceiling-top.result items c.new-recovery.result c.payloads-place-items.ensures.within c.new-recovery.ensures)

pub record_at-requires : goal.record_at-requires
record_at-requires g c = first_within (codec_of g.C.Crdt.spells) (read_at_opening (gates_of c.args.log.now)) c.loop-place.place-iterator (c.in-Some.place, c.in-Some.payload.now) c.next.new.self c.in-Some.ensures.steps c.loop-place.invariant.so

pub read-requires : goal.read-requires
read-requires g c = let h = c.loop-place.invariant in (c.args.sites, c.args.parts, c.args.id, c.last_ceiling-top.result, h.so.log, h.has)

pub returns-in_err-record-clause-damaged : goal.returns-in_err-record-clause-damaged
returns-in_err-record-clause-damaged g c = λ at e.
    let p = err_from_is_err_and c.from_residual.result c.from_residual.ensures.1 in
    let told : unopened c.in_err-record.field-0.0 ≡ Damaged at = let a = p.1 in let b = p.2 in cc in
    let d = c.in_err-record.ensures.damaged at (ap Err (opens_damaged c.in_err-record.field-0.0 at told)) in
    inl (refused (codec_of g.C.Crdt.spells) (read_at_opening (gates_of c.args.log.now)) c.loop-place.place-iterator (c.in-Some.place, c.in-Some.payload.now) c.next.new.self at d.0 c.in-Some.ensures.steps d.1 d.2 c.loop-place.invariant.so)

pub returns-then-not-branch-clause-damaged : goal.returns-then-not-branch-clause-damaged
returns-then-not-branch-clause-damaged g c = λ at e.
    let codec = codec_of g.C.Crdt.spells in
    let items = read_at_opening (gates_of c.args.log.now) in
    let told : c.damage_of.result ≡ Damaged at = cc in
    let h = c.loop-place.invariant in
    ⊎_elim
    (λ no_record. inl no_record)
    (λ k. inr (subst (λ n. (l : List _) × AreRecords codec items l × IsUnfitAt codec c.args.sites c.args.parts c.args.id l n) (sym k.0)
    (underway_stops codec c.args.sites c.args.parts c.args.id c.last_ceiling-top.result items c.loop-place.place-iterator (c.in-Some.place, c.in-Some.payload.now) c.next.new.self c.in_ok-record.record c.loop-place.recovery c.in-Some.ensures.steps c.in_ok-record.ensures.spelled c.in_ok-record.ensures.bytes h
    c.read.new.self c.in_ok-read.field-0 c.if-not-branch.true (c.in_ok-read.ensures c.args.sites c.args.parts c.args.id c.last_ceiling-top.result h.so.log h.has) c.last_ceiling-top.ensures k.1.0 k.1.1 c.requires.placed.0 c.requires.placed.1)))
    (c.damage_of.ensures.damaged at told)

pub loop-place-preserved : goal.loop-place-preserved
loop-place-preserved g c =
    let h = c.loop-place.invariant in
    underway_more (codec_of g.C.Crdt.spells) c.args.sites c.args.parts c.args.id c.last_ceiling-top.result (read_at_opening (gates_of c.args.log.now)) c.loop-place.place-iterator (c.in-Some.place, c.in-Some.payload.now) c.next.new.self c.in_ok-record.record c.loop-place.recovery c.in-Some.ensures.steps c.in_ok-record.ensures.spelled c.in_ok-record.ensures.bytes h
    c.read.new.self c.in_ok-read.field-0 c.if-not-branch.false (c.in_ok-read.ensures c.args.sites c.args.parts c.args.id c.last_ceiling-top.result h.so.log h.has)

pub finish-requires : goal.finish-requires
finish-requires g c = let h = c.loop-place.invariant in (c.args.sites, c.args.parts, c.args.id, c.last_ceiling-top.result, h.so.log, h.has)

pub returns-clause-told : goal.returns-clause-told
returns-clause-told g c =
    let read = underway_ends (codec_of g.C.Crdt.spells) c.args.sites c.args.parts c.args.id c.last_ceiling-top.result (read_at_opening (gates_of c.args.log.now)) c.loop-place.place-iterator c.loop-place.recovery c.in-None.ensures.steps.0 c.loop-place.invariant in (
      read.0,
      read.1,
      c.in_ok-finish.ensures c.args.sites c.args.parts c.args.id read.0
          (subst (λ n. HasRead c.args.sites c.args.parts c.args.id n read.0 c.loop-place.recovery) (c.last_ceiling-top.ensures read.0 read.1) read.2),
    )
