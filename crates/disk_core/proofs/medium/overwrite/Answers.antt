use Rattle.std.proofs.Common.{◌+◌, length, ap, ◌∙◌}
use Rattle.disk_core.specs.Images.{overwritten}
use Rattle.disk_core.proofs.Overwrites.{three_pieces}
use Rattle.disk_core.proofs.medium.overwrite.Goals as goal

pub returns-clause-written : goal.returns-clause-written
returns-clause-written c =
    let at = c.args.at in
    let a = c.args.front.now in
    let b = c.args.middle.now in
    let padded = c.in_ok-pad.ensures.padded in
    c.put-3.ensures.bytes
    ∙ ap (overwritten (at + length a + length b) c.args.back.now) (c.put-2.ensures.bytes ∙ ap (overwritten (at + length a) b) (c.put.ensures.bytes ∙ ap (overwritten at a) padded))
    ∙ three_pieces at a b c.args.back.now c.args.bytes.now.items c.requires.place
