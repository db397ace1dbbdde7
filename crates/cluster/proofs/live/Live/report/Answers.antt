use Rattle.std.proofs.Common.{◌≡◌, ◌∙◌, sym, subst}
use Rattle.site_partitions.specs.Answers.{Any, Calls}
use Rattle.site_partitions.specs.Reaches.{types_of}
use Rattle.world_model.specs.rules.Event.{AskReport, Reported}
use Rattle.world_model.specs.lines.Places.{IsPlace}
use Rattle.cluster.specs.Live.{LiveState}
use Rattle.cluster.proofs.live.Live.report.Goals as goal

pub report_at-requires : goal.report_at-requires
report_at-requires g c = subst (λ (x : LiveState g.row.C-Effect.Denot _). IsPlace x.sites.sites x.sites.parts c.args.at) (sym ((λ i. record { sites = (c.self-inside.view_is i).sites; sessions = (c.self-inside.view_is i).sessions.entries }) ∙ c.self.view_is)) c.requires

pub returns : goal.returns
returns g c =
    subst (λ (x : LiveState g.row.C-Effect.Denot _). Calls (types_of g.C.Crdt.laws g.C.Crdt.spells g.D.Disk.state) x.sites x.sites Any c.args.at AskReport (λ b e. e ≡ Reported b) c.report_at.result) ((λ i. record { sites = (c.self-inside.view_is i).sites; sessions = (c.self-inside.view_is i).sessions.entries }) ∙ c.self.view_is) c.report_at.ensures.answers
