use Rattle.std.proofs.Common.{◌≡◌, List, sym, refl, subst}
use Rattle.world_model.specs.rules.Event.{AskUpdate, Updated}
use Rattle.partition_core.specs.Steps.{Anything}
use Rattle.site_partitions.specs.Reaches.{types_of, PutsEvent}
use Rattle.site_partitions.proofs.Going.{IsShown, asked}
use Rattle.site_partitions.proofs.Asking.{askable, update_width}
use Rattle.crdt_core.specs.declared.record.Part.{Part}
use Rattle.std.specs.Prelude.{◌+◌}
use Rattle.world_model.specs.rules.Plan.{update_count}
use Rattle.site_partitions.proofs.Making.{ready_put}
use Rattle.site_partitions.proofs.sites.Sites.update_at.Goals as goal

pub update_fitting-requires-clause-width : goal.update_fitting-requires-clause-width
update_fitting-requires-clause-width g c = update_width _ _ _ _ _ c.args.tx c.args.s.now c.args.object.now c.args.own.now c.args.op.now (askable _ _ _ _ _ c.self.view_is c.args.at _ c.index_of-i.ensures.index _ c.index_mut.ensures.value c.self.invariant _ c.requires.may)

pub returns-clause-answers : goal.returns-clause-answers
returns-clause-answers g c =
    asked _ _ _ _ _ c.self.view_is c.self.invariant c.args.at c.requires.may.place _ c.index_of-i.ensures.index c.index_of-i.ensures.below _ _ c.index_mut.ensures.value (λ run. c.args.index ≡ update_count run c.args.tx + 1) (AskUpdate c.args.tx c.args.s.now c.args.object.now c.args.own.now c.args.op.now) Anything (λ x e. (read : List (Part _)) × (e ≡ Updated c.args.tx c.args.s.now c.args.object.now c.args.own.now c.args.op.now read (record { object = c.args.object.now; index = c.args.index; effect = x.0 }) x.1))
    (λ run r m. tt) (λ why. c.requires.fits)
    (λ x run may given e s. subst (IsShown (types_of g.C.Crdt.laws g.C.Crdt.spells g.D.Disk.state) run (AskUpdate c.args.tx c.args.s.now c.args.object.now c.args.own.now c.args.op.now)) (sym s.1) (record { asked = refl; plain = refl; own_word = refl; fit = tt; new = record { early = may.1; number = given } }))
    c.update_fitting.result (λ x is e s. subst (PutsEvent (types_of g.C.Crdt.laws g.C.Crdt.spells g.D.Disk.state)) (sym s.1) (ready_put _ _ _ _ _ c.args.tx c.args.s.now c.args.object.now c.args.own.now c.args.op.now c.args.index (askable _ _ _ _ _ c.self.view_is c.args.at _ c.index_of-i.ensures.index _ c.index_mut.ensures.value c.self.invariant _ c.requires.may) c.requires.has c.requires.least c.requires.most _ _ c.update_fitting.result x is c.update_fitting.ensures.ready)) (c.update_fitting.ensures.answers c.args.index)
