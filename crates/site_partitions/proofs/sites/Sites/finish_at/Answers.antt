use Rattle.std.proofs.Common.{◌≡◌, sym, refl, subst}
use Rattle.world_model.specs.rules.Event.{AskFinish, Finished}
use Rattle.partition_core.specs.Steps.{Anything}
use Rattle.site_partitions.specs.Answers.{Any}
use Rattle.site_partitions.specs.Reaches.{types_of, PutsEvent}
use Rattle.site_partitions.proofs.Going.{IsShown, asked}
use Rattle.site_partitions.proofs.Asking.{askable, finish_is_tx, finish_site, finish_width}
use Rattle.site_partitions.proofs.sites.Sites.finish_at.Goals as goal

pub finish-requires-clause-place : goal.finish-requires-clause-place
finish-requires-clause-place g c = finish_site _ _ _ _ _ c.args.tx c.args.c.now (askable _ _ _ _ _ c.self.view_is c.args.at _ c.index_of-i.ensures.index _ c.index_mut.ensures.value c.self.invariant _ c.requires)

pub finish-requires-clause-width : goal.finish-requires-clause-width
finish-requires-clause-width g c = finish_width _ _ _ _ _ c.args.tx c.args.c.now (askable _ _ _ _ _ c.self.view_is c.args.at _ c.index_of-i.ensures.index _ c.index_mut.ensures.value c.self.invariant _ c.requires)

pub finish-requires-clause-spelled : goal.finish-requires-clause-spelled
finish-requires-clause-spelled g c = finish_is_tx _ _ _ _ _ c.args.tx c.args.c.now (askable _ _ _ _ _ c.self.view_is c.args.at _ c.index_of-i.ensures.index _ c.index_mut.ensures.value c.self.invariant _ c.requires)

pub returns-clause-answers : goal.returns-clause-answers
returns-clause-answers g c =
    asked _ _ _ _ _ c.self.view_is c.self.invariant c.args.at c.requires.place _ c.index_of-i.ensures.index c.index_of-i.ensures.below _ _ c.index_mut.ensures.value Any (AskFinish c.args.tx c.args.c.now) Anything (λ n e. e ≡ Finished c.args.tx c.args.c.now)
    (λ run r m. tt) (λ why. tt)
    (λ x run may given e s. subst (IsShown (types_of g.C.Crdt.laws g.C.Crdt.spells g.D.Disk.state) run (AskFinish c.args.tx c.args.c.now)) (sym s) (record { asked = refl; plain = refl; own_word = refl; fit = tt; new = tt }))
    c.finish.result (λ x is e s. subst (PutsEvent (types_of g.C.Crdt.laws g.C.Crdt.spells g.D.Disk.state)) (sym s) tt) c.finish.ensures.answers
