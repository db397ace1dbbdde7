use Rattle.std.proofs.Common.{◌≡◌, sym, refl, subst}
use Rattle.world_model.specs.rules.Event.{AskTake, Took}
use Rattle.partition_core.specs.Steps.{Anything}
use Rattle.site_partitions.specs.Answers.{Any}
use Rattle.site_partitions.specs.Reaches.{types_of, PutsEvent}
use Rattle.site_partitions.proofs.Going.{IsShown, asked}
use Rattle.site_partitions.proofs.Asking.{askable}
use Rattle.site_partitions.proofs.Messages.{take_most, take_wide, take_apart, take_away, take_unheld, take_put}
use Rattle.site_partitions.proofs.sites.Sites.take_at.Goals as goal

pub take-requires-clause-least : goal.take-requires-clause-least
take-requires-clause-least g c = c.requires.1.allowed.from.least

pub take-requires-clause-most : goal.take-requires-clause-most
take-requires-clause-most g c = take_most _ _ _ _ _ c.requires.0 c.args.message.now (askable _ _ _ _ _ c.self.view_is c.args.at _ c.index_of-i.ensures.index _ c.index_mut.ensures.value c.self.invariant _ c.requires.1)

pub take-requires-clause-wide : goal.take-requires-clause-wide
take-requires-clause-wide g c = take_wide _ _ _ _ _ c.requires.0 c.args.message.now (askable _ _ _ _ _ c.self.view_is c.args.at _ c.index_of-i.ensures.index _ c.index_mut.ensures.value c.self.invariant _ c.requires.1)

pub take-requires-clause-apart : goal.take-requires-clause-apart
take-requires-clause-apart g c = take_apart _ _ _ _ _ c.requires.0 c.args.message.now (askable _ _ _ _ _ c.self.view_is c.args.at _ c.index_of-i.ensures.index _ c.index_mut.ensures.value c.self.invariant _ c.requires.1)

pub take-requires-clause-away : goal.take-requires-clause-away
take-requires-clause-away g c = take_away _ _ _ _ _ c.requires.0 c.args.message.now (askable _ _ _ _ _ c.self.view_is c.args.at _ c.index_of-i.ensures.index _ c.index_mut.ensures.value c.self.invariant _ c.requires.1)

pub take-requires-clause-not_held : goal.take-requires-clause-not_held
take-requires-clause-not_held g c = take_unheld _ _ _ _ _ c.requires.0 c.args.message.now (askable _ _ _ _ _ c.self.view_is c.args.at _ c.index_of-i.ensures.index _ c.index_mut.ensures.value c.self.invariant _ c.requires.1)

pub take-requires-clause-spelled : goal.take-requires-clause-spelled
take-requires-clause-spelled g c = take_put _ _ _ _ _ c.requires.0 c.args.message.now (askable _ _ _ _ _ c.self.view_is c.args.at _ c.index_of-i.ensures.index _ c.index_mut.ensures.value c.self.invariant _ c.requires.1)

pub returns : goal.returns
returns g c =
    λ number. asked _ _ _ _ _ c.self.view_is c.self.invariant c.args.at c.requires.1.place _ c.index_of-i.ensures.index c.index_of-i.ensures.below _ _ c.index_mut.ensures.value Any (AskTake number c.args.message.now) Anything (λ n e. e ≡ Took number c.args.message.now)
    (λ run r m. tt) (λ why. tt)
    (λ x run may given e s. subst (IsShown (types_of g.C.Crdt.laws g.C.Crdt.spells g.D.Disk.state) run (AskTake number c.args.message.now)) (sym s) (record { asked = refl; plain = refl; own_word = refl; fit = tt; new = tt }))
    c.take.result (λ x is e s. subst (PutsEvent (types_of g.C.Crdt.laws g.C.Crdt.spells g.D.Disk.state)) (sym s) tt) (c.take.ensures number)
