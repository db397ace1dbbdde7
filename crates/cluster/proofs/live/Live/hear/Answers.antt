use Rattle.std.proofs.Common.{◌≡◌, ◌∙◌, ℕ, sym, subst}
use Rattle.site_partitions.specs.Answers.{Any, Calls}
use Rattle.site_partitions.specs.Reaches.{types_of, MayAsk}
use Rattle.world_model.specs.rules.Event.{AskHear, Heard}
use Rattle.cluster.specs.Live.{LiveState}
use Rattle.cluster.proofs.live.Live.hear.Goals as goal

pub hear_at-requires : goal.hear_at-requires
hear_at-requires g c = subst (λ (x : LiveState g.row.C-Effect.Denot _). (number : ℕ) × MayAsk (types_of g.C.Crdt.laws g.C.Crdt.spells g.D.Disk.state) x.sites c.args.at (AskHear number c.args.part c.args.bounds.now)) (sym ((λ i. record { sites = (c.self-inside.view_is i).sites; sessions = (c.self-inside.view_is i).sessions.entries }) ∙ c.self.view_is)) c.requires

pub returns-clause-heard : goal.returns-clause-heard
returns-clause-heard g c number =
    subst (λ (x : LiveState g.row.C-Effect.Denot _). Calls (types_of g.C.Crdt.laws g.C.Crdt.spells g.D.Disk.state) x.sites c.hear_at.new.self Any c.args.at (AskHear number c.args.part c.args.bounds.now) (λ stable e. e ≡ Heard number c.args.part c.args.bounds.now stable) c.hear_at.result) ((λ i. record { sites = (c.self-inside.view_is i).sites; sessions = (c.self-inside.view_is i).sessions.entries }) ∙ c.self.view_is) (c.hear_at.ensures.answers number)
