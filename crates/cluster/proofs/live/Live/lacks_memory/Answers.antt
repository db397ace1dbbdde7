use Rattle.std.proofs.Common.{◌+◌, ◌∷◌, ◌∙◌, drop, ap, sym, arith}
use Rattle.std.proofs.lemmas.List.{drop_more, drop_all}
use Rattle.cluster.proofs.Feeding.{fed_next, fed_end}
use Rattle.cluster.proofs.live.Live.lacks_memory.Goals as goal

pub loop-step-init : goal.loop-step-init
loop-step-init g c = λ h. h

pub loop-step-preserved : goal.loop-step-preserved
loop-step-preserved g c =
    fed_next g.D.Disk.state c.args.self.now.sites c.args.steps.now c.loop-step.step-index c.step-item.result
    (drop_more c.args.steps.now c.loop-step.step-index c.step-item.result c.loop-step-test.true ∙ ap (λ s. s ∷ drop (c.loop-step.step-index + 1) c.args.steps.now) (sym c.step-item.is))
    (c.is_starving.ensures c.if-is_starving.false) c.loop-step.invariant

pub returns : goal.returns
returns g c h =
    let far = c.loop-step-test.false in
    fed_end g.D.Disk.state c.args.self.now.sites c.args.steps.now c.loop-step.step-index (drop_all c.loop-step.step-index c.args.steps.now (omega (arith, far))) c.loop-step.invariant
