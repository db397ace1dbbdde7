use Rattle.std.proofs.Common.{◌≡◌, sym, refl, subst}
use Rattle.world_model.specs.rules.Event.{AskHear, Heard}
use Rattle.partition_core.specs.Steps.{Anything}
use Rattle.site_partitions.specs.Answers.{Any}
use Rattle.site_partitions.specs.Reaches.{types_of, PutsEvent}
use Rattle.site_partitions.proofs.Going.{IsShown, asked}
use Rattle.site_partitions.proofs.Asking.{askable, hear_most, hear_width}
use Rattle.site_partitions.proofs.sites.Sites.hear_at.Goals as goal

pub hear-requires-clause-least : goal.hear-requires-clause-least
hear-requires-clause-least g c = c.requires.1.allowed.least

pub hear-requires-clause-most : goal.hear-requires-clause-most
hear-requires-clause-most g c = hear_most _ _ _ _ _ c.requires.0 c.args.part c.args.bounds.now (askable _ _ _ _ _ c.self.view_is c.args.at _ c.index_of-i.ensures.index _ c.index_mut.ensures.value c.self.invariant _ c.requires.1)

pub hear-requires-clause-width : goal.hear-requires-clause-width
hear-requires-clause-width g c = hear_width _ _ _ _ _ c.requires.0 c.args.part c.args.bounds.now (askable _ _ _ _ _ c.self.view_is c.args.at _ c.index_of-i.ensures.index _ c.index_mut.ensures.value c.self.invariant _ c.requires.1)

pub returns-clause-answers : goal.returns-clause-answers
returns-clause-answers g c =
    λ number. asked _ _ _ _ _ c.self.view_is c.self.invariant c.args.at c.requires.1.place _ c.index_of-i.ensures.index c.index_of-i.ensures.below _ _ c.index_mut.ensures.value Any (AskHear number c.args.part c.args.bounds.now) Anything (λ b e. e ≡ Heard number c.args.part c.args.bounds.now b)
    (λ run r m. tt) (λ why. tt)
    (λ x run may given e s. subst (IsShown (types_of g.C.Crdt.laws g.C.Crdt.spells g.D.Disk.state) run (AskHear number c.args.part c.args.bounds.now)) (sym s) (record { asked = refl; plain = refl; own_word = refl; fit = tt; new = tt }))
    c.hear.result (λ x is e s. subst (PutsEvent (types_of g.C.Crdt.laws g.C.Crdt.spells g.D.Disk.state)) (sym s) tt) (c.hear.ensures.answers number)
