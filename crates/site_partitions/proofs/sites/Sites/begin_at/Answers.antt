use Rattle.std.proofs.Common.{◌≡◌, sym, refl, subst}
use Rattle.world_model.specs.lines.Lines.{wish_of}
use Rattle.world_model.specs.rules.Event.{AskBegin, Began}
use Rattle.partition_core.specs.Steps.{Anything}
use Rattle.site_partitions.specs.Answers.{Any}
use Rattle.site_partitions.specs.Reaches.{types_of, PutsEvent}
use Rattle.site_partitions.proofs.Going.{IsShown, asked}
use Rattle.site_partitions.proofs.Asking.{askable, begin_width}
use Rattle.site_partitions.proofs.sites.Sites.begin_at.Goals as goal

pub begin-requires : goal.begin-requires
begin-requires g c = begin_width _ _ _ _ _ c.requires.0 (wish_of c.args.dependency.now c.args.mode) (askable _ _ _ _ _ c.self.view_is c.args.at _ c.index_of-i.ensures.index _ c.index_mut.ensures.value c.self.invariant _ c.requires.1)

pub returns-clause-answers : goal.returns-clause-answers
returns-clause-answers g c =
    λ who. asked _ _ _ _ _ c.self.view_is c.self.invariant c.args.at c.requires.1.place _ c.index_of-i.ensures.index c.index_of-i.ensures.below _ _ c.index_mut.ensures.value Any (AskBegin who (wish_of c.args.dependency.now c.args.mode)) Anything (λ x e. e ≡ Began who (wish_of c.args.dependency.now c.args.mode) x.0 x.1)
    (λ run r m. tt) (λ why. tt)
    (λ x run may given e s. subst (IsShown (types_of g.C.Crdt.laws g.C.Crdt.spells g.D.Disk.state) run (AskBegin who (wish_of c.args.dependency.now c.args.mode))) (sym s) (record { asked = refl; plain = refl; own_word = refl; fit = tt; new = tt }))
    c.begin.result (λ x is e s. subst (PutsEvent (types_of g.C.Crdt.laws g.C.Crdt.spells g.D.Disk.state)) (sym s) tt) (c.begin.ensures.answers who)
