use Rattle.std.proofs.Common.{◌≡◌, length, get_or, ap, ◌∙◌, arith}
use Rattle.std.proofs.lemmas.List.Folds.{length-flat_map-take}
use Rattle.gate_log.specs.Log.{body}
use Rattle.gate_log.proofs.Grammar.{length-body}
use Rattle.twin_log.proofs.area.area_size.Goals as goal

pub returns-then-size-most : goal.returns-then-size-most
returns-then-size-most c =
    let payloads = c.args.payloads.now in
    let i = c.loop-payload.payload-index in
    let here = c.payload-item.result in
    let item : length c.as_slice.result.now ≡ length (get_or payloads i here) = ap length (c.as_slice.ensures ∙ c.payload-item.is) in
    omega (arith, c.if-size-most.true, c.loop-payload.invariant.sum, length-flat_map-take body payloads i here c.loop-payload-test.true, length-body (get_or payloads i here), item)
