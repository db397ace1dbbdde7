use Rattle.std.proofs.Common.{drop, arith}
use Rattle.std.proofs.lemmas.List.{length-drop}
use Rattle.gate_log.proofs.Walking.{walked_within}
use Rattle.twin_log.proofs.Walking.{items_within, both_within}
use Rattle.twin_log.proofs.payloads.Contents.payloads.Goals as goal

pub returns-clause-within : goal.returns-clause-within
returns-clause-within c =
    let read = c.args.self.now in
    let image = length-drop read.image read.bytes.items in
    let tail = length-drop read.tail read.bytes.items in
    both_within _ _
    (items_within read.images read.image (drop read.image read.bytes.items) (omega (arith, image, read.small, read.image_within)))
    (walked_within read.records read.tail (drop read.tail read.bytes.items) (omega (arith, tail, read.small, read.tail_within)))
