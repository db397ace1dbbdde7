use Rattle.std.proofs.Common.{◌≡◌, ◌∙◌, sym, subst}
use Rattle.site_partitions.specs.Answers.{Any, Calls}
use Rattle.site_partitions.specs.Reaches.{types_of, MayAsk}
use Rattle.world_model.specs.rules.Event.{AskMessage, Sent}
use Rattle.world_model.specs.lines.Places.{IsOther}
use Rattle.cluster.specs.Live.{LiveState}
use Rattle.cluster.proofs.live.Live.release.Goals as goal

pub release_at-requires-clause-place : goal.release_at-requires-clause-place
release_at-requires-clause-place g c = subst (λ (x : LiveState g.row.C-Effect.Denot _). IsOther x.sites.sites c.args.at.site c.args.to) (sym ((λ i. record { sites = (c.self-inside.view_is i).sites; sessions = (c.self-inside.view_is i).sessions.entries }) ∙ c.self.view_is)) c.requires.place

pub release_at-requires-clause-may : goal.release_at-requires-clause-may
release_at-requires-clause-may g c = subst (λ (x : LiveState g.row.C-Effect.Denot _). MayAsk (types_of g.C.Crdt.laws g.C.Crdt.spells g.D.Disk.state) x.sites c.args.at (AskMessage c.args.to c.args.from)) (sym ((λ i. record { sites = (c.self-inside.view_is i).sites; sessions = (c.self-inside.view_is i).sessions.entries }) ∙ c.self.view_is)) c.requires.may

pub returns-clause-sent : goal.returns-clause-sent
returns-clause-sent g c =
    subst (λ (x : LiveState g.row.C-Effect.Denot _). Calls (types_of g.C.Crdt.laws g.C.Crdt.spells g.D.Disk.state) x.sites c.release_at.new.self Any c.args.at (AskMessage c.args.to c.args.from) (λ m e. (m.to ≡ c.args.to) × (e ≡ Sent c.args.from m)) c.release_at.result) ((λ i. record { sites = (c.self-inside.view_is i).sites; sessions = (c.self-inside.view_is i).sessions.entries }) ∙ c.self.view_is) c.release_at.ensures.answers
