use Rattle.std.proofs.Common.{◌≤◌, ◌∙◌, ap, subst}
use Rattle.cluster.specs.Live.{LiveState}
use Rattle.cluster.proofs.Feeding.{fed_more, fed_none, fed_site}
use Rattle.cluster.proofs.live.Live.is_site_starved.Goals as goal

pub loop-i-init : goal.loop-i-init
loop-i-init g c = fed_none g.D.Disk.state c.args.self.now.sites c.args.site

pub loop-i-preserved : goal.loop-i-preserved
loop-i-preserved g c = fed_more g.D.Disk.state c.args.self.now.sites c.args.site c.loop-i.i c.loop-i.invariant (c.is_starved.ensures c.if-is_starved.false)

pub returns : goal.returns
returns g c h = fed_site g.D.Disk.state c.args.self.now.sites c.args.site c.loop-i.i (subst (λ n. n ≤ c.loop-i.i) (c.parts-i-end.ensures.is ∙ ap (λ (x : LiveState g.row.C-Effect.Denot _). x.sites.parts) ((λ i. record { sites = (c.self-inside.view_is i).sites; sessions = (c.self-inside.view_is i).sessions.entries }) ∙ c.self.view_is)) c.loop-i-test.false) c.loop-i.invariant
