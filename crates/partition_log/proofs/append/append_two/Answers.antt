use Rattle.std.proofs.Common.{◌∷◌, [], sym, ap, ◌∙◌, length, arith}
use Rattle.std.proofs.lemmas.Result.{err_from_is_err_and}
use Rattle.partition_log.specs.Codec.{codec_of}
use Rattle.partition_log.proofs.Unchanged.{refused_full}
use Rattle.partition_log.proofs.Two.{first_failed, both}
use Rattle.partition_log.proofs.append.append_two.Goals as goal

pub returns-then-not-has_room-clause-appends : goal.returns-then-not-has_room-clause-appends
returns-then-not-has_room-clause-appends g c = λ r s spelled is spelled2 is2.
    let one = ap length is in
    let two = ap length is2 in
    let past = c.if-not-has_room.ensures.past in
    let same = c.room.ensures in
    refused_full _ (codec_of g.C.Crdt.spells) g.D.Disk.state c.args.log.now c.requires.ready (r ∷ s ∷ []) c.room.result same (sym c.is_closed.ensures ∙ c.if-is_closed.false) (omega (arith, one, two, past, same))

pub returns-in_err-append_one-clause-appends : goal.returns-in_err-append_one-clause-appends
returns-in_err-append_one-clause-appends g c = λ r s spelled is spelled2 is2.
    let one = ap length is in
    let two = ap length is2 in
    let fits = c.if-not-has_room.ensures.fits in
    let p = err_from_is_err_and c.from_residual.result c.from_residual.ensures.1 in
    rw (p.1, p.2) (first_failed (codec_of g.C.Crdt.spells) g.D.Disk.state c.args.log.now c.append_one.new.log r s c.in_err-append_one.field-0.0 (sym c.is_closed.ensures ∙ c.if-is_closed.false) (omega (arith, one, two, fits)) (c.in_err-append_one.ensures.appends r spelled is))

pub returns-clause-appends : goal.returns-clause-appends
returns-clause-appends g c = λ r s spelled is spelled2 is2.
    let one = ap length is in
    let two = ap length is2 in
    let fits = c.if-not-has_room.ensures.fits in
    both (codec_of g.C.Crdt.spells) g.D.Disk.state c.args.log.now c.append_one.new.log r s c.append_one-2.new.log c.in_ok-append_one.field-0 (c.in_ok-append_one.ensures.appends r spelled is) (sym c.is_closed.ensures ∙ c.if-is_closed.false) (omega (arith, one, two, fits)) c.append_one-2.result c.append_one-2.ensures.fed (c.append_one-2.ensures.appends s spelled2 is2)
