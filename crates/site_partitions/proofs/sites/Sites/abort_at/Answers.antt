use Rattle.std.proofs.Common.{◌≡◌, sym, refl, subst}
use Rattle.world_model.specs.rules.Event.{AskAbort, Aborted}
use Rattle.partition_core.specs.Steps.{Anything}
use Rattle.site_partitions.specs.Answers.{Any}
use Rattle.site_partitions.specs.Reaches.{types_of, PutsEvent}
use Rattle.site_partitions.proofs.Going.{IsShown, asked}
use Rattle.site_partitions.proofs.Asking.{begun_is_tx}
use Rattle.std.specs.Prelude.{true}
use Rattle.site_partitions.proofs.sites.Sites.abort_at.Goals as goal

pub abort-requires : goal.abort-requires
abort-requires g c = begun_is_tx _ _ _ _ _ c.self.view_is c.self.invariant c.args.tx c.requires.began

pub returns-clause-answers : goal.returns-clause-answers
returns-clause-answers g c =
    asked _ _ _ _ _ c.self.view_is c.self.invariant c.args.at c.requires.may.place _ c.index_of-i.ensures.index c.index_of-i.ensures.below _ _ c.index_mut.ensures.value Any (AskAbort c.args.tx) Anything (λ n e. e ≡ Aborted c.args.tx true)
    (λ run r m. tt) (λ why. tt)
    (λ x run may given e s. subst (IsShown (types_of g.C.Crdt.laws g.C.Crdt.spells g.D.Disk.state) run (AskAbort c.args.tx)) (sym s) (record { asked = refl; plain = refl; own_word = refl; fit = tt; new = tt }))
    c.abort.result (λ x is e s. subst (PutsEvent (types_of g.C.Crdt.laws g.C.Crdt.spells g.D.Disk.state)) (sym s) tt) (c.abort.ensures.answers true)
