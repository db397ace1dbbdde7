use Rattle.std.proofs.Common.{◌≡◌, sym, refl, subst}
use Rattle.world_model.specs.rules.Event.{AskDecide, Decided}
use Rattle.partition_core.specs.Steps.{Anything}
use Rattle.site_partitions.specs.Answers.{Any}
use Rattle.site_partitions.specs.Reaches.{types_of, PutsEvent}
use Rattle.site_partitions.proofs.Going.{IsShown, asked}
use Rattle.site_partitions.proofs.Asking.{askable, decide_is_tx, decide_site, decide_width}
use Rattle.site_partitions.proofs.sites.Sites.decide_at.Goals as goal

pub decide-requires-clause-place : goal.decide-requires-clause-place
decide-requires-clause-place g c = decide_site _ _ _ _ _ c.args.tx c.args.c.now (askable _ _ _ _ _ c.self.view_is c.args.at _ c.index_of-i.ensures.index _ c.index_mut.ensures.value c.self.invariant _ c.requires)

pub decide-requires-clause-width : goal.decide-requires-clause-width
decide-requires-clause-width g c = decide_width _ _ _ _ _ c.args.tx c.args.c.now (askable _ _ _ _ _ c.self.view_is c.args.at _ c.index_of-i.ensures.index _ c.index_mut.ensures.value c.self.invariant _ c.requires)

pub decide-requires-clause-spelled : goal.decide-requires-clause-spelled
decide-requires-clause-spelled g c = decide_is_tx _ _ _ _ _ c.args.tx c.args.c.now (askable _ _ _ _ _ c.self.view_is c.args.at _ c.index_of-i.ensures.index _ c.index_mut.ensures.value c.self.invariant _ c.requires)

pub returns-clause-answers : goal.returns-clause-answers
returns-clause-answers g c =
    asked _ _ _ _ _ c.self.view_is c.self.invariant c.args.at c.requires.place _ c.index_of-i.ensures.index c.index_of-i.ensures.below _ _ c.index_mut.ensures.value Any (AskDecide c.args.tx c.args.c.now) Anything (λ n e. e ≡ Decided c.args.tx c.args.c.now)
    (λ run r m. tt) (λ why. tt)
    (λ x run may given e s. subst (IsShown (types_of g.C.Crdt.laws g.C.Crdt.spells g.D.Disk.state) run (AskDecide c.args.tx c.args.c.now)) (sym s) (record { asked = refl; plain = refl; own_word = refl; fit = tt; new = tt }))
    c.decide.result (λ x is e s. subst (PutsEvent (types_of g.C.Crdt.laws g.C.Crdt.spells g.D.Disk.state)) (sym s) tt) c.decide.ensures.answers
