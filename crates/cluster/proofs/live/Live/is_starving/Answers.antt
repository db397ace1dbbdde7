use Rattle.cluster.proofs.Feeding.{fed_other}
use Rattle.cluster.proofs.live.Live.is_starving.Goals as goal

pub returns-in_default : goal.returns-in_default
returns-in_default g c h = fed_other g.D.Disk.state c.args.self.now.sites c.args.step.now c.in_default.not-Disk c.in_default.not-Unsure
