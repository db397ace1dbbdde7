use Rattle.std.proofs.Common.{◌≡◌, false, sym, refl, subst}
use Rattle.world_model.specs.rules.Event.{AskAbort, Aborted}
use Rattle.partition_core.specs.Steps.{Anything}
use Rattle.site_partitions.specs.Answers.{AbortsByLead}
use Rattle.site_partitions.specs.Reaches.{types_of, PutsEvent}
use Rattle.site_partitions.proofs.Asking.{begun_is_tx}
use Rattle.site_partitions.proofs.Going.{IsDone, called}
use Rattle.site_partitions.proofs.sites.Sites.drop_at.Goals as goal

pub abort-requires : goal.abort-requires
abort-requires g c = begun_is_tx _ _ _ _ _ c.self.view_is c.self.invariant c.args.tx c.requires.began

pub returns-clause-answers : goal.returns-clause-answers
returns-clause-answers g c =
    called _ _ _ _ _ c.self.view_is c.self.invariant c.args.at c.requires.place _ c.index_of-i.ensures.index c.index_of-i.ensures.below _ _ c.index_mut.ensures.value (AbortsByLead (types_of g.C.Crdt.laws g.C.Crdt.spells g.D.Disk.state) c.args.self.now c.args.at c.args.tx) (AskAbort c.args.tx) Anything (λ run r m. tt)
    (λ why run r m. record { asked = refl; allowed = tt; fit = tt; new = tt; puts = tt })
    (λ n e. e ≡ Aborted c.args.tx false) (λ x run r m e k. subst (IsDone (types_of g.C.Crdt.laws g.C.Crdt.spells g.D.Disk.state) _ run r c.args.at (AskAbort c.args.tx)) (sym k) (record { asked = refl; plain = refl; allowed = m; cut = m; fit = tt; new = tt }))
    c.abort.result (λ x is run r m e k. subst (PutsEvent (types_of g.C.Crdt.laws g.C.Crdt.spells g.D.Disk.state)) (sym k) tt) (c.abort.ensures.answers false)
