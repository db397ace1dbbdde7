use Rattle.std.proofs.Common.{◌≡◌, sym, refl, subst}
use Rattle.world_model.specs.rules.Event.{led_by, AskPrepare, Prepared}
use Rattle.partition_core.specs.Steps.{NamesNowhere}
use Rattle.site_partitions.specs.Answers.{Any}
use Rattle.site_partitions.specs.Reaches.{types_of, PutsEvent}
use Rattle.site_partitions.proofs.Going.{IsShown, asked}
use Rattle.site_partitions.proofs.Asking.{askable, never_named, prepare_put, prepare_site, prepare_unknown, prepare_width}
use Rattle.site_partitions.proofs.sites.Sites.prepare_at.Goals as goal

pub prepare-requires-clause-place : goal.prepare-requires-clause-place
prepare-requires-clause-place g c = prepare_site _ _ _ _ _ c.args.tx c.args.s.now (led_by c.args.lead) c.args.updates.now (askable _ _ _ _ _ c.self.view_is c.args.at _ c.index_of-i.ensures.index _ c.index_mut.ensures.value c.self.invariant _ c.requires)

pub prepare-requires-clause-width : goal.prepare-requires-clause-width
prepare-requires-clause-width g c = prepare_width _ _ _ _ _ c.args.tx c.args.s.now (led_by c.args.lead) c.args.updates.now (askable _ _ _ _ _ c.self.view_is c.args.at _ c.index_of-i.ensures.index _ c.index_mut.ensures.value c.self.invariant _ c.requires)

pub prepare-requires-clause-unknown : goal.prepare-requires-clause-unknown
prepare-requires-clause-unknown g c = prepare_unknown _ _ _ _ _ c.args.tx c.args.s.now (led_by c.args.lead) c.args.updates.now (askable _ _ _ _ _ c.self.view_is c.args.at _ c.index_of-i.ensures.index _ c.index_mut.ensures.value c.self.invariant _ c.requires)

pub prepare-requires-clause-spelled : goal.prepare-requires-clause-spelled
prepare-requires-clause-spelled g c = λ time. prepare_put _ _ _ _ _ c.args.tx c.args.s.now (led_by c.args.lead) c.args.updates.now time (askable _ _ _ _ _ c.self.view_is c.args.at _ c.index_of-i.ensures.index _ c.index_mut.ensures.value c.self.invariant _ c.requires)

pub returns : goal.returns
returns g c =
    asked _ _ _ _ _ c.self.view_is c.self.invariant c.args.at c.requires.place _ c.index_of-i.ensures.index c.index_of-i.ensures.below _ _ c.index_mut.ensures.value Any (AskPrepare c.args.tx c.args.s.now (led_by c.args.lead) c.args.updates.now) (NamesNowhere c.args.tx) (λ n e. e ≡ Prepared c.args.tx c.args.s.now (led_by c.args.lead) c.args.updates.now n)
    (λ run r m. never_named _ _ _ c.args.at run r.state r.is_run c.args.tx c.args.s.now (led_by c.args.lead) c.args.updates.now m) (λ why. tt)
    (λ x run may given e s. subst (IsShown (types_of g.C.Crdt.laws g.C.Crdt.spells g.D.Disk.state) run (AskPrepare c.args.tx c.args.s.now (led_by c.args.lead) c.args.updates.now)) (sym s) (record { asked = refl; plain = refl; own_word = refl; fit = tt; new = tt }))
    c.prepare.result (λ x is e s. subst (PutsEvent (types_of g.C.Crdt.laws g.C.Crdt.spells g.D.Disk.state)) (sym s) tt) c.prepare.ensures
