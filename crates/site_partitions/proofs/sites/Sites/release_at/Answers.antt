use Rattle.std.proofs.Common.{◌≡◌, sym, refl, subst}
use Rattle.world_model.specs.rules.Event.{AskMessage, Sent}
use Rattle.partition_core.specs.Steps.{Anything}
use Rattle.site_partitions.specs.Answers.{Any}
use Rattle.site_partitions.specs.Reaches.{types_of, PutsEvent}
use Rattle.site_partitions.proofs.Going.{IsShown, asked}
use Rattle.site_partitions.proofs.Asking.{askable, release_site}
use Rattle.std.proofs.Common.{ap}
use Rattle.site_partitions.proofs.sites.Sites.release_at.Goals as goal

pub release-requires : goal.release-requires
release-requires g c = release_site _ _ _ _ _ c.args.to c.args.from (askable _ _ _ _ _ c.self.view_is c.args.at _ c.index_of-i.ensures.index _ c.index_mut.ensures.value c.self.invariant _ c.requires.may) c.requires.place

pub returns-clause-answers : goal.returns-clause-answers
returns-clause-answers g c =
    asked _ _ _ _ _ c.self.view_is c.self.invariant c.args.at c.requires.may.place _ c.index_of-i.ensures.index c.index_of-i.ensures.below _ _ c.index_mut.ensures.value Any (AskMessage c.args.to c.args.from) Anything (λ m e. (m.to ≡ c.args.to) × (e ≡ Sent c.args.from m))
    (λ run r m. tt) (λ why. tt)
    (λ x run may given e s. subst (IsShown (types_of g.C.Crdt.laws g.C.Crdt.spells g.D.Disk.state) run (AskMessage c.args.to c.args.from)) (sym s.1) (record { asked = ap (λ n. AskMessage n c.args.from) s.0; plain = refl; own_word = refl; fit = tt; new = tt }))
    c.release.result (λ x is e s. subst (PutsEvent (types_of g.C.Crdt.laws g.C.Crdt.spells g.D.Disk.state)) (sym s.1) tt) c.release.ensures.answers
