use Rattle.std.proofs.Common.{◌∙◌, arith}
use Rattle.log_recovery.proofs.Slots.{trimmed}
use Rattle.log_recovery.proofs.waiting.trim.Goals as goal

pub loop-slots-preserved : goal.loop-slots-preserved
loop-slots-preserved g c =
    let t = trimmed c.loop-slots.slots.items c.as_slice.result.now c.truncate.new.self.items c.len.result c.as_slice.ensures.value (c.ends_empty.ensures.some c.loop-slots-test.true) (c.ends_empty.ensures.empty c.loop-slots-test.true) (omega arith) c.truncate.ensures.items in
    record { still_there = t.0 ∙ c.loop-slots.invariant.still_there; placed = λ p a. t.1 p (c.loop-slots.invariant.placed p a) }
