use Rattle.std.proofs.Common.{◌≡◌, List, sym, refl, subst}
use Rattle.world_model.specs.rules.Event.{AskRead}
use Rattle.partition_core.specs.Steps.{Anything}
use Rattle.site_partitions.specs.Answers.{Any}
use Rattle.site_partitions.specs.Reaches.{types_of, PutsEvent}
use Rattle.site_partitions.proofs.Going.{IsShown, asked}
use Rattle.site_partitions.proofs.Asking.{askable, read_width}
use Rattle.world_model.specs.rules.Event as event
use Rattle.crdt_core.specs.declared.record.Part.{Part}
use Rattle.site_partitions.proofs.sites.Sites.read_at.Goals as goal

pub read-requires-clause-width : goal.read-requires-clause-width
read-requires-clause-width g c = read_width _ _ _ _ _ c.args.tx c.args.s.now c.args.object.now c.args.own.now (askable _ _ _ _ _ c.self.view_is c.args.at _ c.index_of-i.ensures.index _ c.index_mut.ensures.value c.self.invariant _ c.requires.may)

pub returns-clause-answers : goal.returns-clause-answers
returns-clause-answers g c =
    asked _ _ _ _ _ c.self.view_is c.self.invariant c.args.at c.requires.may.place _ c.index_of-i.ensures.index c.index_of-i.ensures.below _ _ c.index_mut.ensures.value Any (AskRead c.args.tx c.args.s.now c.args.object.now c.args.own.now) Anything (λ v e. (read : List (Part _)) × (e ≡ event.Read c.args.tx c.args.s.now c.args.object.now c.args.own.now read v))
    (λ run r m. tt) (λ why. tt)
    (λ x run may given e s. subst (IsShown (types_of g.C.Crdt.laws g.C.Crdt.spells g.D.Disk.state) run (AskRead c.args.tx c.args.s.now c.args.object.now c.args.own.now)) (sym s.1) (record { asked = refl; plain = refl; own_word = refl; fit = tt; new = tt }))
    c.read.result (λ x is e s. subst (PutsEvent (types_of g.C.Crdt.laws g.C.Crdt.spells g.D.Disk.state)) (sym s.1) tt) c.read.ensures.answers
