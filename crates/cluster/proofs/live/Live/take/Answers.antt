use Rattle.std.proofs.Common.{◌≡◌, ◌∙◌, ℕ, sym, subst}
use Rattle.site_partitions.specs.Answers.{Any, Calls}
use Rattle.site_partitions.specs.Reaches.{types_of, MayAsk}
use Rattle.world_model.specs.rules.Event.{AskTake, Took}
use Rattle.cluster.specs.Live.{LiveState}
use Rattle.cluster.proofs.live.Live.take.Goals as goal

pub take_at-requires : goal.take_at-requires
take_at-requires g c = subst (λ (x : LiveState g.row.C-Effect.Denot _). (number : ℕ) × MayAsk (types_of g.C.Crdt.laws g.C.Crdt.spells g.D.Disk.state) x.sites c.args.at (AskTake number c.args.message.now)) (sym ((λ i. record { sites = (c.self-inside.view_is i).sites; sessions = (c.self-inside.view_is i).sessions.entries }) ∙ c.self.view_is)) c.requires

pub returns-clause-took : goal.returns-clause-took
returns-clause-took g c number =
    subst (λ (x : LiveState g.row.C-Effect.Denot _). Calls (types_of g.C.Crdt.laws g.C.Crdt.spells g.D.Disk.state) x.sites c.take_at.new.self Any c.args.at (AskTake number c.args.message.now) (λ n e. e ≡ Took number c.args.message.now) c.take_at.result) ((λ i. record { sites = (c.self-inside.view_is i).sites; sessions = (c.self-inside.view_is i).sessions.entries }) ∙ c.self.view_is) (c.take_at.ensures number)
